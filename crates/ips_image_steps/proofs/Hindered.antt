-- What hinders a request, as it is asked for.
use Rattle.std.proofs.Common.{◌≡◌, ℕ, Bool, List, Option, Some, None, sym, subst}
use Rattle.std.specs.Borrow.{Bor}
use Rattle.std.specs.Option.{option_map}
use Rattle.ips_text.specs.Kept.{Kept}
use Rattle.ips_outside.specs.Image.{Image}
use Rattle.ips_after.specs.Request.{Request}
use Rattle.ips_after.specs.Salvage.{Aside}
use Rattle.ips_emptied.specs.Emptying.{marked_in}
use Rattle.ips_movable.specs.First.{IsFirstPath, loses_foreign}
use Rattle.ips_aside.specs.Long.{IsFirstAt}

-- the first path is told with its bytes
pub first_kept : (test : List ℕ → Bool) (o : Option (Bor Kept)) → IsFirstAt test (option_map (λ p. p.now.bytes) o) → IsFirstPath test (option_map (λ x. x.now) o)
first_kept test (Some p) h = h
first_kept test None h = h

-- the same directories are emptied by these marks
pub losing : (r : Request) (t : Image) (a : Aside) (paths : List (List ℕ)) (marks lent : List Bool) (first other : Option Kept) → lent ≡ marks → a.emptied ≡ marked_in paths marks → other ≡ first
    → IsFirstPath (loses_foreign r t (marked_in paths lent)) first → IsFirstPath (loses_foreign r t a.emptied) other
losing r t a paths marks lent first other same emptied is h =
    subst (λ (e : List ℕ → Bool). IsFirstPath (loses_foreign r t e) other) (sym emptied)
    (subst (λ (m : List Bool). IsFirstPath (loses_foreign r t (marked_in paths m)) other) same (subst (λ (o : Option Kept). IsFirstPath (loses_foreign r t (marked_in paths lent)) o) (sym is) h))
