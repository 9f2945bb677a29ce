use Rattle.ips_index.proofs.IndexFiles.{text_file, rows_one}
use Rattle.ips_index.proofs.laws.indexes_read_back.Goals as goal

pub returns : goal.returns
returns c = record { file = text_file; one = rows_one }
