use lib.Chars.{codes}
use Rattle.std.proofs.Common.{refl}
use Rattle.ips_apart.proofs.Listed.{changes_apart, clashes_apart, findings_apart, refuted_apart}
use Rattle.ips_apart.proofs.Pieces.{lines_apart}
use Rattle.ips_apart.proofs.Words.{stems_apart}
use Rattle.ips_apart.proofs.law.reports_tell_their_lists.Goals as goal

pub returns : goal.returns
returns c = record {
  licenses = λ xs ys hx hy e. lines_apart (codes "license needed: ") xs ys refl hx hy e;
  stems = λ p q xs ys hx hy e. stems_apart p q xs ys hx hy e;
  clash = λ k f s l g u h h' e. clashes_apart k f s l g u h h' e;
  unsolved = λ xs ys es fs hx hy e. refuted_apart xs ys es fs hx hy e;
  damages = λ xs ys a b hx hy e. findings_apart xs ys a b hx hy e;
  changes = λ c d s u xs ys hc hd hs hu hx hy e. changes_apart c d s u xs ys hc hd hs hu hx hy e;
}
