-- Which mediation of the links of one mediator is best (pkg(7), "Mediators"). The order of implementations is this project's own.
use Rattle.std.specs.Prelude.{◌≡◌, ℕ, ◌<◌, ◌≤◌, ◌⊎◌, List, Option, Some, None}
use Rattle.std.specs.List.{All, Any}
use Rattle.ips_fmri.specs.Version.{Parts}
use Rattle.ips_fmri.specs.Order.{IsLess}
use Rattle.ips_action.specs.Attrs.{IsBefore}
use Rattle.ips_action.specs.Action.{Fields}
use Rattle.ips_mediate.specs.declared.set.SetMediator.{SetMediator}
use Rattle.ips_mediate.specs.Mediation.{Mediation, mediation_of, rank_of}

-- The first version is less: none is less than any.
abbrev pub IsLessVersion : Option Parts → Option Parts → Type 0
IsLessVersion v None = ⊥
IsLessVersion None (Some w) = Unit {0}
IsLessVersion (Some v) (Some w) = IsLess v w

-- The first implementation comes before the second: none before any, and else by their bytes.
abbrev pub ComesBefore : Option (List ℕ) → Option (List ℕ) → Type 0
ComesBefore x None = ⊥
ComesBefore None (Some y) = Unit {0}
ComesBefore (Some x) (Some y) = IsBefore x y

-- Of two mediations of one priority the first is preferred: its version is greater, or it is the same and its implementation comes before.
abbrev pub IsPreferred : Mediation → Mediation → Type 0
IsPreferred m n = IsLessVersion n.version m.version ⊎ ((m.version ≡ n.version) × ComesBefore m.implementation n.implementation)

-- The priority of a mediation has this rank: it is the greatest of those of its links.
pub record HasRank (links : List Fields) (m : Mediation) (rank : ℕ) : Type 0 where
  pub some : Any (λ link. (mediation_of link ≡ m) × (rank_of link ≡ rank)) links
  pub greatest : All (λ link. mediation_of link ≡ m → rank_of link ≤ rank) links

-- The first mediation of the links is better than the second: by its priority, or, where they have the same, because it is preferred.
pub record IsBetter (links : List Fields) (m n : Mediation) : Type 0 where
  pub rank : ℕ
  pub other : ℕ
  pub mine : HasRank links m rank
  pub its : HasRank links n other
  pub better : (other < rank) ⊎ ((rank ≡ other) × IsPreferred m n)

-- What a mediation has is what is set; where nothing is set it may have anything.
abbrev pub IsAsSet : {A : Type 0} → Option A → Option A → Type 0
IsAsSet None has = Unit {0}
IsAsSet (Some set) has = has ≡ Some set

-- The mediation fits what is set of the mediator, if anything is.
abbrev pub Fits : Option SetMediator → Mediation → Type 0
Fits None m = Unit {0}
Fits (Some set) m = IsAsSet set.version m.version × IsAsSet set.implementation m.implementation

-- The mediation is the best of those that fit: it fits, and it is better than each other one of the links' that fits.
pub record IsBest (links : List Fields) (set : Option SetMediator) (m : Mediation) : Type 0 where
  pub fits : Fits set m
  pub best : All (λ link. Fits set (mediation_of link) → (mediation_of link ≡ m) ⊎ IsBetter links m (mediation_of link)) links
