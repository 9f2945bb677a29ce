use Rattle.std.proofs.Common.{◌≡◌, ℕ, List, Bool, true, false, cond, Result, Ok, Err, IsErr, refl, sym, ◌∙◌, ap}
use Rattle.ips_outside.specs.Image.{Image}
use Rattle.ips_files.specs.Files.{file_at}
use Rattle.ips_repo.specs.Mark.{is_mark_file, marking}
use Rattle.ips_repo.specs.Places.{mark_place}
use Rattle.ips_repo.specs.declared.fault.RepoFault.{RepoFault}
use Rattle.ips_repo.specs.declared.fault.RepoFault.TheVariants as fault
use Rattle.ips_outside.proofs.Reading.{answered, reads_as}
use Rattle.ips_repo.proofs.mark.check_mark.Goals as goal

-- what was found in the file at the place tells whether the folder is marked
marked_is : (held : Image) (path : List ℕ) (found answer : Bool) → path ≡ mark_place → found ≡ is_mark_file (file_at held path) → found ≡ answer → marking held ≡ cond answer (Ok tt) (Err fault.NoRepository)
marked_is held path found answer place seen is =
    ap (λ (b : Bool). let r : Result (Unit {0}) RepoFault = cond b (Ok tt) (Err fault.NoRepository) in r) (ap (λ (p : List ℕ). is_mark_file (file_at held p)) (sym place) ∙ sym seen ∙ is)

pub returns-in-Ok-true-clause-marked : goal.returns-in-Ok-true-clause-marked
returns-in-Ok-true-clause-marked g c = λ told. marked_is (g.S.Source.outside.state c.args.source.now).held c.in-Some.place.bytes c.in-Ok-true.field-0 true (rw c.in-Some.is at c.in_ok-place.ensures) (c.in-Ok-true.ensures.found told) c.in-Ok-true.field-0-test

pub returns-in-Ok-true-clause-reads : goal.returns-in-Ok-true-clause-reads
returns-in-Ok-true-clause-reads g c = reads_as g.S.Source.outside c.args.source.now c.has_mark.new.source (IsErr c.has_mark.result) _ c.has_mark.ensures.reads (λ err. absurd (answered c.has_mark.result _ c.in-Ok-true.is err)) (λ is. absurd (cc))

pub returns-in-Ok-false-clause-marked : goal.returns-in-Ok-false-clause-marked
returns-in-Ok-false-clause-marked g c = λ told. marked_is (g.S.Source.outside.state c.args.source.now).held c.in-Some.place.bytes c.in-Ok-false.field-0 false (rw c.in-Some.is at c.in_ok-place.ensures) (c.in-Ok-false.ensures.found told) c.in-Ok-false.field-0-test

pub returns-in-Ok-false-clause-reads : goal.returns-in-Ok-false-clause-reads
returns-in-Ok-false-clause-reads g c = reads_as g.S.Source.outside c.args.source.now c.has_mark.new.source (IsErr c.has_mark.result) _ c.has_mark.ensures.reads (λ err. absurd (answered c.has_mark.result _ c.in-Ok-false.is err)) (λ is. absurd (cc))

pub returns-clause-reads : goal.returns-clause-reads
returns-clause-reads g c = reads_as g.S.Source.outside c.args.source.now c.has_mark.new.source (IsErr c.has_mark.result) _ c.has_mark.ensures.reads (λ _. refl) (λ _. rw c.in-Err.is refl)
