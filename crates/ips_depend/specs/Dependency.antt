-- Dependencies: what a package asks of the selection (pkg(7), "Depend Actions").
use Rattle.std.specs.Prelude.{ℕ, Bool, List, [], ◌∷◌, map, codes}
use Rattle.ips_fmri.specs.declared.fmri.Fmri.{Fmri}
use Rattle.ips_depend.specs.declared.dependency_type.DependencyType.{DependencyType}
use Rattle.ips_depend.specs.declared.dependency_type.DependencyType.TheVariants as of_type

-- A dependency of each type, with the FMRIs that it names. A conditional one names its predicate first. One of type origin may be about the
-- image that the system runs from, and not about this one.
pub data Dependency : Type 0 where
  Require : Fmri → Dependency
  Optional : Fmri → Dependency
  Incorporate : Fmri → Dependency
  Exclude : Fmri → Dependency
  Conditional : Fmri → Fmri → Dependency
  RequireAny : List Fmri → Dependency
  Group : Fmri → Dependency
  GroupAny : List Fmri → Dependency
  Parent : List Fmri → Dependency
  Origin : Bool → Fmri → Dependency

-- The type of a dependency.
abbrev pub type_of : Dependency → DependencyType
type_of (Require f) = of_type.Require
type_of (Optional f) = of_type.Optional
type_of (Incorporate f) = of_type.Incorporate
type_of (Exclude f) = of_type.Exclude
type_of (Conditional p f) = of_type.Conditional
type_of (RequireAny fs) = of_type.RequireAny
type_of (Group f) = of_type.Group
type_of (GroupAny fs) = of_type.GroupAny
type_of (Parent fs) = of_type.Parent
type_of (Origin rooted f) = of_type.Origin

-- The word of a type in a manifest.
abbrev pub type_name : DependencyType → List ℕ
type_name of_type.Require = codes "require"
type_name of_type.Optional = codes "optional"
type_name of_type.Incorporate = codes "incorporate"
type_name of_type.Exclude = codes "exclude"
type_name of_type.Conditional = codes "conditional"
type_name of_type.RequireAny = codes "require-any"
type_name of_type.Group = codes "group"
type_name of_type.GroupAny = codes "group-any"
type_name of_type.Parent = codes "parent"
type_name of_type.Origin = codes "origin"

-- The predicates of a dependency: one of a conditional dependency, and else none.
abbrev pub predicates : Dependency → List Fmri
predicates (Require f) = []
predicates (Optional f) = []
predicates (Incorporate f) = []
predicates (Exclude f) = []
predicates (Conditional p f) = p ∷ []
predicates (RequireAny fs) = []
predicates (Group f) = []
predicates (GroupAny fs) = []
predicates (Parent fs) = []
predicates (Origin rooted f) = []

-- What a dependency is about: one FMRI, or a list of them where the type takes a list.
abbrev pub objects : Dependency → List Fmri
objects (Require f) = f ∷ []
objects (Optional f) = f ∷ []
objects (Incorporate f) = f ∷ []
objects (Exclude f) = f ∷ []
objects (Conditional p f) = f ∷ []
objects (RequireAny fs) = fs
objects (Group f) = f ∷ []
objects (GroupAny fs) = fs
objects (Parent fs) = fs
objects (Origin rooted f) = f ∷ []

-- What a dependency mentions: its predicate first, then what it is about. One of type origin looks at the old selection alone, and mentions
-- nothing.
abbrev pub mentions : Dependency → List Fmri
mentions (Require f) = f ∷ []
mentions (Optional f) = f ∷ []
mentions (Incorporate f) = f ∷ []
mentions (Exclude f) = f ∷ []
mentions (Conditional p f) = p ∷ f ∷ []
mentions (RequireAny fs) = fs
mentions (Group f) = f ∷ []
mentions (GroupAny fs) = fs
mentions (Parent fs) = fs
mentions (Origin rooted f) = []

-- What a dependency wants: the FMRIs whose stems it draws in.
abbrev pub wanted : Dependency → List Fmri
wanted (Require f) = f ∷ []
wanted (Optional f) = []
wanted (Incorporate f) = []
wanted (Exclude f) = []
wanted (Conditional p f) = f ∷ []
wanted (RequireAny fs) = fs
wanted (Group f) = f ∷ []
wanted (GroupAny fs) = fs
wanted (Parent fs) = []
wanted (Origin rooted f) = []

-- What a dependency of type group or group-any names; a dependency of another type names nothing of this kind.
abbrev pub grouped : Dependency → List Fmri
grouped (Require f) = []
grouped (Optional f) = []
grouped (Incorporate f) = []
grouped (Exclude f) = []
grouped (Conditional p f) = []
grouped (RequireAny fs) = []
grouped (Group f) = f ∷ []
grouped (GroupAny fs) = fs
grouped (Parent fs) = []
grouped (Origin rooted f) = []

-- The stems of FMRIs, in their order.
abbrev pub stems : List Fmri → List (List ℕ)
stems fmris = map (λ (f : Fmri). f.stem) fmris
