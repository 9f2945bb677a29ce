use Rattle.std.proofs.Common.{◌≡◌, true, false, not, ◌&&◌, ◌||◌, ◌∙◌, ap, sym}
use Rattle.ips_request.specs.Candidates.{greatest, is_version, may_come}
use Rattle.ips_request.specs.Stems.{stems_of, has}
use Rattle.ips_request.specs.Subject.{case_of}
use Rattle.ips_request.proofs.asking.Subject.looks_at.Goals as goal

pub returns-then-is_greatest : goal.returns-then-is_greatest
returns-then-is_greatest c = λ file r.
    let s = c.args.self.now in
    let stem = c.args.stem.now in
    let rest = not (has stem (stems_of s.rejected.keys)) && may_come (case_of s file r) stem c.args.version.now in
    c.if-is_greatest.true ∙ sym (ap (λ b. b || rest) (sym (c.is_greatest.ensures file r) ∙ c.if-is_greatest.true))

pub returns-then-not-rejects : goal.returns-then-not-rejects
returns-then-not-rejects c = λ file r.
    let s = c.args.self.now in
    let stem = c.args.stem.now in
    let other : is_version (greatest (case_of s file r) stem) c.args.version.now ≡ false = sym (c.is_greatest.ensures file r) ∙ c.if-is_greatest.false in
    let left : not (has stem (stems_of s.rejected.keys)) ≡ true = ap not (sym c.rejects.ensures ∙ c.if-not-rejects.true) in
    c.may_come.ensures file r ∙ sym (λ i. other i || (left i && may_come (case_of s file r) stem c.args.version.now))

pub returns-else-not-rejects : goal.returns-else-not-rejects
returns-else-not-rejects c = λ file r.
    let s = c.args.self.now in
    let stem = c.args.stem.now in
    let other : is_version (greatest (case_of s file r) stem) c.args.version.now ≡ false = sym (c.is_greatest.ensures file r) ∙ c.if-is_greatest.false in
    let gone : not (has stem (stems_of s.rejected.keys)) ≡ false = ap not (sym c.rejects.ensures ∙ c.if-not-rejects.false) in
    ap not c.if-not-rejects.false ∙ sym (λ i. other i || (gone i && may_come (case_of s file r) stem c.args.version.now))
