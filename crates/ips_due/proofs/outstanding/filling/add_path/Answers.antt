use Rattle.std.proofs.Common.{sym, ◌∙◌, ◌∷◌, []}
use Rattle.ips_due.proofs.outstanding.Noting.{adds_as, adds_had, is_shown}
use Rattle.ips_due.specs.outstanding.Verdicts.{meant, role_said}
use Rattle.ips_due.proofs.outstanding.filling.add_path.Goals as goal

pub returns-then-has-clause-found : goal.returns-then-has-clause-found
returns-then-has-clause-found g c = λ told bytes due.
    adds_had bytes due c.args.notes.now c.args.path.now.bytes (λ q. role_said c.args.role ((g.S.Source.outside.state c.args.source.now).held.look c.args.path.now.bytes)) (is_shown bytes due c.args.notes.now c.args.path.now.bytes (sym c.has.ensures ∙ c.if-has.true))

pub returns-clause-found : goal.returns-clause-found
returns-clause-found g c = λ told bytes due.
    adds_as bytes due c.args.notes.now c.add.new.notes (c.args.path.now.bytes ∷ []) (λ q. meant bytes due c.in_ok-verdict.verdict) (λ q. role_said c.args.role ((g.S.Source.outside.state c.args.source.now).held.look c.args.path.now.bytes)) (c.in_ok-add.ensures.noted bytes due)
    (λ q. c.in_ok-verdict.ensures.found told bytes due)
