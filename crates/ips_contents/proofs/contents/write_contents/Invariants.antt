use Rattle.std.proofs.Common.{◌≡◌, ℕ, ◌≤◌, ◌<◌, ◌^◌, IsTrue, List, Some, None, length, map, take, slice_get}
use Rattle.ips_text.specs.Ancestry.{covers}
use Rattle.ips_outside.specs.Image.{File, is_dir}
use Rattle.ips_outside.specs.Outside.{Reads}
use Rattle.ips_folder.specs.Calls.{ChangesOnly}
use Rattle.ips_steps.specs.Steps.{Put, stage_name, stage_path}
use Rattle.ips_steps.specs.View.{step_of}
use Rattle.ips_journal.specs.Reading.{puts_in}
use Rattle.ips_journal.specs.declared.staged.Staged.{Staged}
use Rattle.ips_contents.specs.Contents.{IsIntactContent, AreAlone, HoldsOnly}
use Rattle.ips_contents.proofs.AllWritten.{IsWritten}
use Rattle.ips_contents.proofs.contents.write_contents.Given as goal

abbrev pub invariant-loop-number : goal.invariant-loop-number
invariant-loop-number g l = record {
  kind : g.F.Source.outside.tells l.folder ≡ g.F.Source.outside.tells l.fn.folder;
  faults : g.F.Source.outside.faults l.folder ≡ g.F.Source.outside.faults l.fn.folder;
  changes : g.F.Source.outside.changes l.fn.folder ≤ g.F.Source.outside.changes l.folder;
  reads : Reads g.S.Source.outside l.fn.source l.source ⊥;
  stage : IsTrue (g.F.Source.outside.tells l.fn.folder) → IsTrue (is_dir ((g.F.Source.outside.state l.folder).held.look stage_name));
  stands : IsTrue (g.F.Source.outside.tells l.fn.folder) → (g.F.Source.outside.state l.folder).held.look stage_name ≡ (g.F.Source.outside.state l.fn.folder).held.look stage_name;
  empty : IsTrue (g.F.Source.outside.tells l.fn.folder) → (n : ℕ) → l.number ≤ n → n < 2 ^ 64 → (g.F.Source.outside.state l.folder).held.look (stage_path n) ≡ None;
  only : IsTrue (g.F.Source.outside.tells l.fn.folder) → HoldsOnly l.number (g.F.Source.outside.state l.folder).held;
  written : IsTrue (g.F.Source.outside.tells l.fn.folder) → (n : ℕ) (s : Staged) → n < l.number → slice_get l.staged n ≡ Some s
      → IsWritten (g.S.Source.outside.tells l.fn.source) (g.S.Source.outside.state l.fn.source).held l.publisher (g.F.Source.outside.state l.fn.folder).held (g.F.Source.outside.state l.folder).held n s;
  intact : IsTrue (g.S.Source.outside.tells l.fn.source) → (n : ℕ) (s : Staged) → n < l.number → slice_get l.staged n ≡ Some s → IsIntactContent (g.S.Source.outside.state l.fn.source).held l.publisher s;
  within : l.place ≤ length l.steps;
  counted : IsTrue (g.F.Source.outside.tells l.fn.folder) → puts_in (take l.place (map step_of l.steps)) ≡ l.number;
  modes : IsTrue (g.F.Source.outside.tells l.fn.folder) → (k n m : ℕ) (p : List ℕ) → n < l.number → slice_get (map step_of l.steps) k ≡ Some (Put n m p)
      → (bytes : List ℕ) × ((g.F.Source.outside.state l.folder).held.look (stage_path n) ≡ Some (File m bytes));
  alone : IsTrue (g.F.Source.outside.tells l.fn.folder) → AreAlone (g.F.Source.outside.state l.folder).held;
  moments : IsTrue (g.F.Source.outside.tells l.fn.folder) → ChangesOnly g.F.Source.outside (covers stage_name) (covers stage_name) l.fn.folder l.folder;
}
