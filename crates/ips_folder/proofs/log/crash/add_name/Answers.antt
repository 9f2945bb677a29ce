use Rattle.std.proofs.Common.{◌≡◌, ℕ, List, Result, Ok, Err, OnOk}
use Rattle.ips_folder.proofs.Crashes.{path_of_name}
use Rattle.ips_folder.proofs.log.crash.add_name.Goals as goal

on_ok : {T E : Type 0} {P : Type 0} (r : Result T E) → P → OnOk r P
on_ok (Ok u) p = p
on_ok (Err e) p = tt

pub returns-in_ok-from_slice-in-Some-clause-path : goal.returns-in_ok-from_slice-in-Some-clause-path
returns-in_ok-from_slice-in-Some-clause-path c = on_ok c.add.result (λ q it. path_of_name _ c.in-Some.name.now.bytes q c.in-Some.ensures c.bytes.ensures.path it)
