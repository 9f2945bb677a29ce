use Rattle.std.proofs.Common.{◌≡◌, ℕ, List}
use Rattle.std.proofs.lemmas.Result.{IfOk-weaker}
use Rattle.ips_outside.specs.Image.{Image}
use Rattle.ips_due.specs.Due.{Due, IsOverOf, said}
use Rattle.ips_due.specs.declared.outstanding.answer.Outstanding.{Outstanding}
use Rattle.ips_due.specs.outstanding.Noted.{told}
use Rattle.ips_due.specs.outstanding.Outstanding.{AreOutstanding, over_of}
use Rattle.ips_due.specs.outstanding.Parts.{due_of}
use Rattle.ips_due.specs.outstanding.Verdicts.{meant, named_paths}
use Rattle.ips_change.specs.wanted.Named.{is_payload_of}
use Rattle.ips_due.proofs.outstanding.finding.outstanding.Goals as goal

pub returns-in-Ok-clause-found : goal.returns-in-Ok-clause-found
returns-in-Ok-clause-found g c = λ tells.
    let parts : Due = due_of g.R.Records.records c.args.due.now in
    let held = (g.S.Source.outside.state c.args.source.now).held in
    IfOk-weaker c.collected.result (λ (found : Outstanding). (bytes : List ℕ → List ℕ) (due : Due) (t : Image) → ((q : List ℕ) → meant bytes due (told c.fill.new.notes q) ≡ said bytes is_payload_of due t q) → AreOutstanding bytes due t found.named.items)
    (λ (found : Outstanding). (bytes : List ℕ → List ℕ) → AreOutstanding bytes parts held found.named.items) (λ found all bytes. all bytes parts held (c.in-Ok.ensures.found tells bytes)) c.collected.ensures.found

pub returns-in-Ok-clause-over : goal.returns-in-Ok-clause-over
returns-in-Ok-clause-over g c = λ tells.
    let parts : Due = due_of g.R.Records.records c.args.due.now in
    let held = (g.S.Source.outside.state c.args.source.now).held in
    IfOk-weaker c.collected.result (λ (found : Outstanding). (bytes : List ℕ → List ℕ) (due : Due) (t : Image) → ((q : List ℕ) → meant bytes due (told c.fill.new.notes q) ≡ said bytes is_payload_of due t q) → IsOverOf bytes is_payload_of due t (over_of bytes due t (named_paths found.named.items)))
    (λ (found : Outstanding). (bytes : List ℕ → List ℕ) → IsOverOf bytes is_payload_of parts held (over_of bytes parts held (named_paths found.named.items))) (λ found all bytes. all bytes parts held (c.in-Ok.ensures.found tells bytes)) c.collected.ensures.over
