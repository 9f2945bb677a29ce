use Rattle.ips_index.proofs.Scans.{scan_new, scan_put, scan_dropped}
use Rattle.ips_index.proofs.laws.index_is_scan.Goals as goal

pub returns : goal.returns
returns c = record { new = scan_new; put = scan_put; dropped = scan_dropped }
