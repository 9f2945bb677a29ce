-- How the program keeps a dependency, and which one it makes of a type and FMRIs.
use Rattle.std.specs.Prelude.{Bool, true, false, List, [], ◌∷◌, Option, Some, None, if◌then◌else◌}
use Rattle.std.specs.Option.{option_map}
use Rattle.ips_fmri.specs.declared.fmri.Fmri.{Fmri}
use Rattle.ips_depend.specs.declared.dependency_type.DependencyType.{DependencyType}
use Rattle.ips_depend.specs.declared.dependency_type.DependencyType.TheVariants as of_type
use Rattle.ips_depend.specs.declared.dependency.Kept.{Kept}
use Rattle.ips_depend.specs.declared.dependency.Kept.TheVariants as kept
use Rattle.ips_depend.specs.Dependency.{Dependency, Require, Optional, Incorporate, Exclude, Conditional, RequireAny, Group, GroupAny, Parent, Origin}

-- The conditional dependency of two FMRIs; no other number of them is ever kept.
abbrev pub conditional_of : List Fmri → Dependency
conditional_of [] = Parent []
conditional_of (f ∷ []) = Parent (f ∷ [])
conditional_of (p ∷ f ∷ []) = Conditional p f
conditional_of (f ∷ g ∷ h ∷ fs) = Parent (f ∷ g ∷ h ∷ fs)

-- The dependency that is kept.
abbrev pub dependency_of : Kept → Dependency
dependency_of (kept.Require f) = Require f
dependency_of (kept.Optional f) = Optional f
dependency_of (kept.Incorporate f) = Incorporate f
dependency_of (kept.Exclude f) = Exclude f
dependency_of (kept.Conditional fs) = conditional_of fs
dependency_of (kept.RequireAny fs) = RequireAny fs.items
dependency_of (kept.Group f) = Group f
dependency_of (kept.GroupAny fs) = GroupAny fs.items
dependency_of (kept.Parent fs) = Parent fs.items
dependency_of (kept.Origin rooted f) = Origin rooted f

-- The FMRI, where there is just one.
abbrev pub sole_of : List Fmri → Option Fmri
sole_of [] = None
sole_of (f ∷ []) = Some f
sole_of (f ∷ g ∷ fs) = None

-- The type is `conditional`.
abbrev pub is_conditional : DependencyType → Bool
is_conditional of_type.Require = false
is_conditional of_type.Optional = false
is_conditional of_type.Incorporate = false
is_conditional of_type.Exclude = false
is_conditional of_type.Conditional = true
is_conditional of_type.RequireAny = false
is_conditional of_type.Group = false
is_conditional of_type.GroupAny = false
is_conditional of_type.Parent = false
is_conditional of_type.Origin = false

-- The conditional dependency of a predicate and an FMRI, where both are there.
abbrev pub conditional_made : Option Fmri → Option Fmri → Option Dependency
conditional_made None f = None
conditional_made (Some p) None = None
conditional_made (Some p) (Some f) = Some (Conditional p f)

-- The dependency of this type without predicate that is about these FMRIs, where there is one; one of type origin is so marked.
abbrev pub plain_made : Bool → DependencyType → List Fmri → Option Dependency
plain_made rooted of_type.Require fs = option_map Require (sole_of fs)
plain_made rooted of_type.Optional fs = option_map Optional (sole_of fs)
plain_made rooted of_type.Incorporate fs = option_map Incorporate (sole_of fs)
plain_made rooted of_type.Exclude fs = option_map Exclude (sole_of fs)
plain_made rooted of_type.Conditional fs = None
plain_made rooted of_type.RequireAny fs = Some (RequireAny fs)
plain_made rooted of_type.Group fs = option_map Group (sole_of fs)
plain_made rooted of_type.GroupAny fs = Some (GroupAny fs)
plain_made rooted of_type.Parent fs = Some (Parent fs)
plain_made rooted of_type.Origin fs = option_map (Origin rooted) (sole_of fs)

-- The same, of any type but `conditional`: where there is a predicate, there is none.
abbrev pub unpredicated_made : Bool → DependencyType → List Fmri → List Fmri → Option Dependency
unpredicated_made rooted t [] fs = plain_made rooted t fs
unpredicated_made rooted t (p ∷ ps) fs = None

-- The dependency of this type with these predicates that is about these FMRIs, where there is one; one of type origin is so marked.
abbrev pub made_of : Bool → DependencyType → List Fmri → List Fmri → Option Dependency
made_of rooted t ps fs = if is_conditional t then conditional_made (sole_of ps) (sole_of fs) else unpredicated_made rooted t ps fs
