use Rattle.std.proofs.Common.{◌∙◌, ℕ, List, Option, map, length, string_bytes, String, Global, subst, sym}
use Rattle.std.proofs.lemmas.List.{length-map}
use Rattle.std.proofs.lemmas.Result.{IfOk-weaker}
use Rattle.ips_fmri.specs.Version.{Parts}
use Rattle.ips_request.specs.Case.{ManifestReading}
use Rattle.ips_request.specs.Stems.{stems_of}
use Rattle.ips_request.specs.Subject.{case_of}
use Rattle.ips_problem.specs.declared.problem.Problem.{Problem}
use Rattle.ips_problem.specs.Gathered.{IsGathered, IsPosedBy}
use Rattle.ips_problem.specs.Held.{posed_of}
use Rattle.ips_problem.specs.Seen.{seen_row, seen_test}
use Rattle.ips_problem.proofs.Growth.{gone_all}
use Rattle.ips_problem.specs.Recordable.{IsOverSound, IsRecordable, IsSoundlyGathered}
use Rattle.ips_problem.proofs.Recording.{whole_recordable}
use Rattle.ips_problem.proofs.growing.whole.Goals as goal

pub returns-clause-posed : goal.returns-clause-posed
returns-clause-posed c =
    let s = c.args.subject.now in
    let gathered = c.args.gathered in
    let keys = gathered.stems.keys in
    let rows = map seen_row gathered.rows.items in
    let tests = map seen_test gathered.tests.items in
    let avoid = c.in_ok-avoid.avoid.items in
    let all = c.requires ∙ sym (length-map keys (λ (k : String Global). string_bytes k)) in
    IfOk-weaker c.new.result _ (λ (p : Problem). (file : List ℕ → Parts → Option (List ℕ)) (r : ManifestReading) → IsGathered (case_of s file r) gathered → IsPosedBy (case_of s file r) (posed_of p))
    (λ p e file r gone. subst (IsPosedBy (case_of s file r)) (sym e)
    (gone_all (case_of s file r) (stems_of keys) (length gathered.rows.items) rows tests gathered.total avoid all (c.in_ok-avoid.ensures file r) gone))
    c.new.ensures

pub returns-clause-recordable : goal.returns-clause-recordable
returns-clause-recordable c =
    let s = c.args.subject.now in
    let gathered = c.args.gathered in
    let all = c.requires ∙ sym (length-map gathered.stems.keys (λ (k : String Global). string_bytes k)) in
    IfOk-weaker c.new.result _ (λ (p : Problem). IsOverSound s → IsSoundlyGathered gathered → IsRecordable (posed_of p))
    (λ p e over sound. whole_recordable s gathered (posed_of p) c.in_ok-avoid.avoid.items over sound all c.in_ok-avoid.ensures e)
    c.new.ensures
