use Rattle.std.proofs.Common.{◌≡◌, ◌≢◌, ◌∙◌, length, sym, arith}
use Rattle.std.proofs.lemmas.Bool.Decides.{nat_tests}
use Rattle.ips_request.specs.Subject.{case_of}
use Rattle.ips_request.proofs.Subjects.{target_installed, target_named}
use Rattle.ips_request.proofs.asking.Subject.is_target.Goals as goal

pub returns-then-is_empty : goal.returns-then-is_empty
returns-then-is_empty c = λ file r.
    let s = c.args.self.now in
    let none : length s.named.items ≡ 0 = grind (arith, nat_tests) in
    c.is_installed.ensures file r ∙ sym (target_installed s.named.items (case_of s file r) c.args.stem.now none)

pub returns-else-is_empty : goal.returns-else-is_empty
returns-else-is_empty c = λ file r.
    let s = c.args.self.now in
    let some : length s.named.items ≢ 0 = grind (arith, nat_tests) in
    c.names.ensures ∙ sym (target_named s.named.items (case_of s file r) c.args.stem.now some)
