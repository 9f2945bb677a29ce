-- Paths without the `/` before them.
use Rattle.std.proofs.Common.{◌≡◌, ◌≢◌, ℕ, Bool, true, false, eqb, List, [], ◌∷◌, refl, ap}
use Rattle.std.proofs.lemmas.Bool.{eqb-true}
use Rattle.ips_text.specs.Path.{begins_at_root}
use Rattle.ips_action.specs.Meaning.{without_slashes}

pub bare_already : (path : List ℕ) → begins_at_root path ≡ false → path ≡ without_slashes path
bare_already [] e = refl
bare_already (b ∷ bytes) e = rw e refl

pub no_slash_before : (path : List ℕ) → ((rest : List ℕ) → path ≢ 47 ∷ rest) → path ≡ without_slashes path
no_slash_before [] h = refl
no_slash_before (b ∷ bytes) h = go (eqb b 47) refl
  where
    go : (t : Bool) → eqb b 47 ≡ t → b ∷ bytes ≡ without_slashes (b ∷ bytes)
    go true e = absurd (h bytes (ap (λ (x : ℕ). x ∷ bytes) (eqb-true b 47 e)))
    go false e = rw e refl
