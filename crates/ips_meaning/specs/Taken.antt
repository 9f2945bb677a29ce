-- Which actions of the packages an image takes.
use Rattle.std.specs.Prelude.{◌≡◌, ◌⊎◌, ℕ, List, [], ◌∷◌, map, filter, Option, Some, None, if◌then◌else◌, codes}
use Rattle.std.specs.List.{flat_map}
use Rattle.std.specs.Option.{option_eq}
use Rattle.ips_action.specs.Attrs.{is_same}
use Rattle.ips_action.specs.Action.{Fields}
use Rattle.ips_manifest.specs.declared.package.Package.{Package}
use Rattle.ips_filter.specs.Settings.{Set}
use Rattle.ips_filter.specs.Admitted.{Admits}
use Rattle.ips_mediate.specs.declared.set.SetMediator.{SetMediator}
use Rattle.ips_mediate.specs.Mediation.{link_value, mediation_of}
use Rattle.ips_mediate.specs.Best.{IsBest}
use Rattle.ips_conflict.specs.declared.placed.Placed.{Placed}

-- The actions of a package in their places.
abbrev pub placed_of : Package → List Placed
placed_of pkg = map (λ line. record { stem = pkg.stem; line = line.number; action = line.action }) pkg.manifest.lines.items

-- The actions of all packages, one package after the other.
abbrev pub all_placed : List Package → List Placed
all_placed packages = flat_map placed_of packages

-- Of a list, just those are left, in their order, of which the test holds.
abbrev pub Leaves : {A : Type 0} → (A → Type 0) → List A → List A → Type 0
Leaves P [] left = left ≡ []
Leaves P (x ∷ xs) left = (P x × ((rest : List _) × Leaves P xs rest × (left ≡ x ∷ rest))) ⊎ ((P x → ⊥) × Leaves P xs left)

-- These are the admitted actions: those whose tags are as the image has variants and facets set.
abbrev pub AreAdmitted : Set → List Package → List Placed → Type 0
AreAdmitted settings packages admitted = Leaves (λ p. Admits settings p.action.attrs) (all_placed packages) admitted

-- The links, symbolic and hard, of one mediator.
abbrev pub links_of : List Placed → List ℕ → List Fields
links_of admitted name = filter (λ a. option_eq is_same (link_value (codes "mediator") a) (Some name)) (map (λ p. p.action) admitted)

-- What an administrator set of a mediator, where something is.
abbrev pub set_for : List SetMediator → List ℕ → Option SetMediator
set_for [] name = None
set_for (set ∷ others) name = if is_same set.name name then Some set else set_for others name

-- The action is no mediated link, or its mediation is the best of its mediator's.
abbrev pub Stays : List SetMediator → List Placed → Placed → Type 0
Stays mediators admitted p = (name : List ℕ) → link_value (codes "mediator") p.action ≡ Some name → IsBest (links_of admitted name) (set_for mediators name) (mediation_of p.action)

-- What an image takes of its packages: the admitted actions, and of these the kept ones, without the links of other mediations than the best.
pub record Taken (settings : Set) (mediators : List SetMediator) (packages : List Package) : Type 0 where
  pub admitted : List Placed
  pub kept : List Placed
  pub are_admitted : AreAdmitted settings packages admitted
  pub are_kept : Leaves (Stays mediators admitted) admitted kept
