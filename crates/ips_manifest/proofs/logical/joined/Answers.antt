use Rattle.std.proofs.Common.{List, ℕ, subst, sym}
use Rattle.ips_manifest.proofs.Joins.{Joining, join_begin}
use Rattle.ips_manifest.proofs.logical.joined.Goals as goal

pub loop-line-init : goal.loop-line-init
loop-line-init c = subst (λ (l : List ℕ). Joining c.args.rest.number c.args.rest.bytes.now l c.args.rest.number c.args.rest.bytes.now) (sym c.new-text.ensures.bytes) (join_begin c.args.rest.number c.args.rest.bytes.now c.requires.some)
