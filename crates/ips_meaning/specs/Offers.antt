-- What is looked up of mediated links. Only the search for the kept actions uses it.
use Rattle.std.specs.Prelude.{◌≡◌, ℕ, Bool, List, [], Option, Some, None, IfSome, slice_get, if◌then◌else◌, codes}
use Rattle.std.specs.List.{All, Contains}
use Rattle.std.specs.Option.{option_eq, option_map_or}
use Rattle.std.specs.declared.vec.Vec.{Vec}
use Rattle.std.specs.BTreeMap.{BTreeMap, get_by_text}
use Rattle.std.specs.declared.alloc.Global.{Global}
use Rattle.std.specs.declared.string.String.{String}
use Rattle.ips_action.specs.Attrs.{is_same}
use Rattle.ips_action.specs.Action.{Fields}
use Rattle.ips_mediate.specs.declared.set.SetMediator.{SetMediator}
use Rattle.ips_mediate.specs.Mediation.{link_value, mediation_of}
use Rattle.ips_mediate.specs.Best.{Fits, IsBest}
use Rattle.ips_conflict.specs.declared.placed.Placed.{Placed}
use Rattle.ips_meaning.specs.Taken.{links_of, set_for}

-- Links by the names of their mediators.
abbrev pub Links : Type 0
Links = BTreeMap (String Global) (Vec Fields Global)

-- The links of a mediator.
abbrev pub links_at : Links → List ℕ → List Fields
links_at links name = option_map_or (λ g. g.items) (get_by_text links name) []

-- The action is a link of this mediator.
abbrev pub offers : Fields → List ℕ → Bool
offers a name = option_eq is_same (link_value (codes "mediator") a) (Some name)

-- At each name are the links of that mediator.
abbrev pub AreLinks : List Placed → Links → Type 0
AreLinks admitted links = (name : List ℕ) → links_at links name ≡ links_of admitted name

-- The link is of the best mediation of these links; there is none where no link fits what is set.
abbrev pub IsChoice : List Fields → Option SetMediator → Option Fields → Type 0
IsChoice links set None = All (λ link. Fits set (mediation_of link) → ⊥) links
IsChoice links set (Some link) = Contains links link × IsBest links set (mediation_of link)

-- Links that were chosen, by the names of their mediators.
abbrev pub Choices : Type 0
Choices = BTreeMap (String Global) (Option Fields)

-- Each is the right one.
abbrev pub AreChoices : List SetMediator → Links → Choices → Type 0
AreChoices mediators links choices = (name : List ℕ) → IfSome (get_by_text choices name) (λ choice. IsChoice (links_at links name) (set_for mediators name) choice)

-- The link is of the mediation of the chosen one.
abbrev pub GoesWith : Option Fields → Fields → Type 0
GoesWith None a = ⊥
GoesWith (Some link) a = mediation_of link ≡ mediation_of a

-- A link is of the best mediation of its mediator's links; any other action stays.
abbrev pub IsOfBest : List SetMediator → Links → Fields → Type 0
IsOfBest mediators links a = (name : List ℕ) → link_value (codes "mediator") a ≡ Some name → IsBest (links_at links name) (set_for mediators name) (mediation_of a)

-- A mediated link stands among the links of its mediator.
abbrev pub IsThere : Links → Fields → Type 0
IsThere links a = (name : List ℕ) → link_value (codes "mediator") a ≡ Some name → Contains (links_at links name) a

-- Places of what is set, by the names of mediators.
abbrev pub SetPlaces : Type 0
SetPlaces = BTreeMap (String Global) ℕ

-- The place is that at which the mediator is set; there is none where it isn't. What is set is looked for among those in front.
abbrev pub IsSetAt : List SetMediator → List SetMediator → List ℕ → Option ℕ → Type 0
IsSetAt mediators front name None = set_for front name ≡ None
IsSetAt mediators front name (Some i) = (set : SetMediator) × (slice_get mediators i ≡ Some set) × (set_for front name ≡ Some set)

-- At each name is the place at which that mediator is set.
abbrev pub AreSetPlaces : List SetMediator → List SetMediator → SetPlaces → Type 0
AreSetPlaces mediators front places = (name : List ℕ) → IsSetAt mediators front name (get_by_text places name)

-- The place at a name once one more is put there: the first stays.
abbrev pub first_place : Option ℕ → Bool → ℕ → Option ℕ
first_place (Some j) here i = Some j
first_place None here i = if here then Some i else None
