-- With which number the program ends.
use Rattle.std.specs.Prelude.{◌≡◌, ℕ, Bool, List}
use Rattle.ips_outside.specs.Outside.{Outside}
use Rattle.ips_outside.specs.Running.{Running}
use Rattle.ips_outside.specs.Taking.{Taking}
use Rattle.ips_kinds.specs.Tallies.{Carrier}
use Rattle.ips_report.specs.Report.{report_text, status_number}
use Rattle.ips_report.specs.declared.outcome.Outcome.{Outcome}
use Rattle.ips_files.specs.Telling.{Tells}
use Rattle.ips_tell.specs.performing.Performed.{At}
use Rattle.ips_top.specs.Runs.{Runs}

-- The exit status is that of an outcome: it is what a run of the words at the moment tells, its report is written, and where that wasn't written whole the status is 1.
pub record EndsWith {F S P O : Type 0} (o : Outside F) (q : Outside S) (r : Running P) (t : Taking O) (words : List (List ℕ)) (moment : ℕ) (image image_now : F) (repository repository_now : S) (spawner spawner_now : P) (out out_now : O) (number : ℕ) : Type 0 where
  pub counted : List Carrier
  pub counted_now : List Carrier
  pub told : Outcome
  pub whole : Bool
  pub runs : Runs o q r words moment (record { folder = image; source = repository; spawner = spawner; counted = counted }) (record { folder = image_now; source = repository_now; spawner = spawner_now; counted = counted_now }) told
  pub tells : Tells t (report_text told) out out_now whole
  pub is : number ≡ status_number told whole
