-- Lists that are alike, item by item.
use Rattle.std.specs.Prelude.{◌≡◌, List, [], ◌∷◌}
use Rattle.ips_fmri.specs.declared.fmri.Fmri.{Fmri}
use Rattle.ips_manifest.specs.declared.package.Package.{Package}
use Rattle.ips_mediate.specs.declared.set.SetMediator.{SetMediator}
use Rattle.ips_state.specs.declared.state.Origin.{Origin}
use Rattle.ips_state.specs.declared.state.State.{State}

-- the lists are as long as each other, and their items are alike one by one
abbrev pub AreAlike : {A : Type 0} → (A → A → Type 0) → List A → List A → Type 0
AreAlike R [] [] = Unit {0}
AreAlike R [] (y ∷ ys) = ⊥
AreAlike R (x ∷ xs) [] = ⊥
AreAlike R (x ∷ xs) (y ∷ ys) = R x y × AreAlike R xs ys

-- the packages have one stem and one version
abbrev pub IsSamePackage : Package → Package → Type 0
IsSamePackage p q = (p.stem ≡ q.stem) × (p.version ≡ q.version)

-- the format is the same, and the lists are alike item by item
pub record AreAlikeLists (old new : State) : Type 0 where
  pub format : old.format ≡ new.format
  pub origins : AreAlike (λ (a b : Origin). a ≡ b) old.origins.items new.origins.items
  pub installed : AreAlike IsSamePackage old.installed.items new.installed.items
  pub avoid : AreAlike (λ a b. a ≡ b) old.avoid.items new.avoid.items
  pub freeze : AreAlike (λ (a b : Fmri). a ≡ b) old.freeze.items new.freeze.items
  pub mediators : AreAlike (λ (a b : SetMediator). a ≡ b) old.mediators.items new.mediators.items
