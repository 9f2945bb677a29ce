use Rattle.std.proofs.Common.{◌≡◌, true, false, None, refl, sym, ◌∙◌}
use Rattle.ips_after.specs.Findings as after
use Rattle.ips_after.specs.Request.{WantFile}
use Rattle.ips_verify.proofs.Looked as looked
use Rattle.ips_verify.proofs.damage.no_file.Goals as goal

pub returns-then-is_loose : goal.returns-then-is_loose
returns-then-is_loose c = λ e is payload mode otherwise.
    let loose : after.is_loose c.args.preserve ≡ true = sym c.is_loose.ensures ∙ c.if-is_loose.true in
    let none : after.mode_finding mode e ≡ None = rw (looked.no_file c.args.found e is c.requires) refl in
    rw (loose, none) refl

pub returns : goal.returns
returns c = λ e is payload mode otherwise.
    let strict : after.is_loose c.args.preserve ≡ false = sym c.is_loose.ensures ∙ c.if-is_loose.false in
    rw strict (c.not_there.ensures e is (WantFile payload mode c.args.preserve) (looked.no_file c.args.found e is c.requires) otherwise)
