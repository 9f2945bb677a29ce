use Rattle.ips_after.proofs.Sorted.{sorted_once}
use Rattle.ips_change.proofs.wanted.Found.{led_to_file}
use Rattle.ips_change.proofs.wanted.laws.links_lead_to_files.Goals as goal

pub returns : goal.returns
returns c = λ entries path to order together is. led_to_file entries path to (sorted_once _ order) together is
