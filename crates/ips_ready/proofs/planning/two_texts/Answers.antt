use Rattle.std.proofs.Common.{refl}
use Rattle.ips_ready.proofs.planning.two_texts.Goals as goal

pub returns : goal.returns
returns c = record {
  first = c.in_ok-manifest.manifest;
  second = c.args.texts.catalog;
  first_at = rw c.in_ok-staged.ensures.items refl;
  second_at = rw c.in_ok-staged.ensures.items refl;
  first_is = c.in_ok-manifest.ensures;
  second_is = refl;
  two = rw c.in_ok-staged.ensures.items refl;
}
