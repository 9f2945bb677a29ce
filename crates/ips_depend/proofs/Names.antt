-- No two types of dependency have one word.
use Rattle.std.proofs.Common.{◌≡◌, ◌∙◌, ℕ, List, [], ◌∷◌, cond, refl, sym, ap}
use Rattle.std.specs.Prelude.{codes, bytes_eq}
use Rattle.ips_depend.specs.declared.dependency_type.DependencyType.{DependencyType}
use Rattle.ips_depend.specs.declared.dependency_type.DependencyType.TheVariants.{Require, Optional, Incorporate, Exclude, Conditional, RequireAny, Group, GroupAny, Parent, Origin}
use Rattle.ips_depend.specs.Dependency.{type_name}

-- the type of a word
abbrev type_named : List ℕ → DependencyType
type_named word =
    cond (bytes_eq (codes "require") word) Require
    (cond (bytes_eq (codes "optional") word) Optional
    (cond (bytes_eq (codes "incorporate") word) Incorporate
    (cond (bytes_eq (codes "exclude") word) Exclude
    (cond (bytes_eq (codes "conditional") word) Conditional
    (cond (bytes_eq (codes "require-any") word) RequireAny
    (cond (bytes_eq (codes "group") word) Group
    (cond (bytes_eq (codes "group-any") word) GroupAny
    (cond (bytes_eq (codes "parent") word) Parent Origin))))))))

named_back : (t : DependencyType) → type_named (type_name t) ≡ t
named_back Require = refl
named_back Optional = refl
named_back Incorporate = refl
named_back Exclude = refl
named_back Conditional = refl
named_back RequireAny = refl
named_back Group = refl
named_back GroupAny = refl
named_back Parent = refl
named_back Origin = refl

one_name : (t u : DependencyType) → type_name t ≡ type_name u → t ≡ u
one_name t u e = sym (named_back t) ∙ ap type_named e ∙ named_back u

first_same : (w x : List ℕ) → w ∷ [] ≡ x ∷ [] → w ≡ x
first_same w x e = cc

-- the one word of two types
pub one_type : (t u : DependencyType) → type_name t ∷ [] ≡ type_name u ∷ [] → t ≡ u
one_type t u e = one_name t u (first_same _ _ e)
