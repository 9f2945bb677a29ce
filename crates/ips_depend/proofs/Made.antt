-- The dependency that a type and FMRIs make, and that no other one does.
use Rattle.std.proofs.Common.{◌≡◌, ◌∙◌, Bool, List, [], ◌∷◌, refl, sym, ap, subst}
use Rattle.std.specs.Prelude.{codes, Option, Some, None}
use Rattle.std.specs.Option.{option_map}
use Rattle.std.proofs.lemmas.Option.{none-some, same_Some}
use Rattle.ips_fmri.specs.declared.fmri.Fmri.{Fmri}
use Rattle.ips_action.specs.Attrs.{Attr, values_of}
use Rattle.ips_depend.specs.declared.dependency_type.DependencyType.{DependencyType}
use Rattle.ips_depend.specs.declared.dependency_type.DependencyType.TheVariants as of_type
use Rattle.ips_depend.specs.Dependency.{Dependency, Require, Optional, Incorporate, Exclude, Conditional, RequireAny, Group, GroupAny, Parent, Origin, type_of, type_name, predicates, objects}
use Rattle.ips_depend.specs.Kept.{sole_of, conditional_made, plain_made, unpredicated_made, made_of}
use Rattle.ips_depend.specs.Asking.{AreWritten, Asks, IsMarked, marks_root}
use Rattle.ips_depend.specs.Read.{IsTyped, IsAskedFor}
use Rattle.ips_depend.proofs.Names.{one_type}
use Rattle.ips_depend.proofs.Written.{written_once}

-- the dependency is of this type and so marked, and has these predicates and FMRIs
pub record Has (r : Bool) (t : DependencyType) (ps os : List Fmri) (d : Dependency) : Type 0 where
  pub of_type : type_of d ≡ t
  pub predicates : predicates d ≡ ps
  pub objects : objects d ≡ os
  pub marked : IsMarked r d

-- a dependency is made of its own parts
remade : (r : Bool) (d : Dependency) → IsMarked r d → made_of r (type_of d) (predicates d) (objects d) ≡ Some d
remade r (Require f) m = refl
remade r (Optional f) m = refl
remade r (Incorporate f) m = refl
remade r (Exclude f) m = refl
remade r (Conditional p f) m = refl
remade r (RequireAny fs) m = refl
remade r (Group f) m = refl
remade r (GroupAny fs) m = refl
remade r (Parent fs) m = refl
remade r (Origin rooted f) m = ap (λ (b : Bool). Some (Origin b f)) (sym m)

-- what has these parts is what they make
made_has : (r : Bool) (t : DependencyType) (ps os : List Fmri) (d : Dependency) → Has r t ps os d → made_of r t ps os ≡ Some d
made_has r t ps os d h =
    ap (λ (u : DependencyType). made_of r u ps os) (sym h.of_type) ∙ ap (λ (l : List Fmri). made_of r (type_of d) l os) (sym h.predicates) ∙ ap (λ (l : List Fmri). made_of r (type_of d) (predicates d) l) (sym h.objects) ∙ remade r d h.marked

at_made : {r : Bool} {t : DependencyType} {ps os : List Fmri} (e d : Dependency) → (let o : Option Dependency = Some e in o) ≡ Some d → Has r t ps os e → Has r t ps os d
at_made {r} {t} {ps} {os} e d s h = subst (Has r t ps os) (same_Some e d s) h

one_has : (r : Bool) (t : DependencyType) (make : Fmri → Dependency) → ((f : Fmri) → Has r t [] (f ∷ []) (make f)) → (os : List Fmri) (d : Dependency) → option_map make (sole_of os) ≡ Some d → Has r t [] os d
one_has r t make h [] d e = absurd (none-some d e)
one_has r t make h (f ∷ []) d e = at_made (make f) d e (h f)
one_has r t make h (f ∷ g ∷ os) d e = absurd (none-some d e)

plain_has : (r : Bool) (t : DependencyType) (os : List Fmri) (d : Dependency) → plain_made r t os ≡ Some d → Has r t [] os d
plain_has r of_type.Require os d e = one_has r of_type.Require Require (λ f. record { of_type = refl; predicates = refl; objects = refl; marked = tt }) os d e
plain_has r of_type.Optional os d e = one_has r of_type.Optional Optional (λ f. record { of_type = refl; predicates = refl; objects = refl; marked = tt }) os d e
plain_has r of_type.Incorporate os d e = one_has r of_type.Incorporate Incorporate (λ f. record { of_type = refl; predicates = refl; objects = refl; marked = tt }) os d e
plain_has r of_type.Exclude os d e = one_has r of_type.Exclude Exclude (λ f. record { of_type = refl; predicates = refl; objects = refl; marked = tt }) os d e
plain_has r of_type.Conditional os d e = absurd (none-some d e)
plain_has r of_type.RequireAny os d e = at_made (RequireAny os) d e (record { of_type = refl; predicates = refl; objects = refl; marked = tt })
plain_has r of_type.Group os d e = one_has r of_type.Group Group (λ f. record { of_type = refl; predicates = refl; objects = refl; marked = tt }) os d e
plain_has r of_type.GroupAny os d e = at_made (GroupAny os) d e (record { of_type = refl; predicates = refl; objects = refl; marked = tt })
plain_has r of_type.Parent os d e = at_made (Parent os) d e (record { of_type = refl; predicates = refl; objects = refl; marked = tt })
plain_has r of_type.Origin os d e = one_has r of_type.Origin (Origin r) (λ f. record { of_type = refl; predicates = refl; objects = refl; marked = refl }) os d e

unpredicated_has : (r : Bool) (t : DependencyType) (ps os : List Fmri) (d : Dependency) → unpredicated_made r t ps os ≡ Some d → Has r t ps os d
unpredicated_has r t [] os d e = plain_has r t os d e
unpredicated_has r t (p ∷ ps) os d e = absurd (none-some d e)

conditional_has : (r : Bool) (ps os : List Fmri) (d : Dependency) → conditional_made (sole_of ps) (sole_of os) ≡ Some d → Has r of_type.Conditional ps os d
conditional_has r [] os d e = absurd (none-some d e)
conditional_has r (p ∷ q ∷ ps) os d e = absurd (none-some d e)
conditional_has r (p ∷ []) [] d e = absurd (none-some d e)
conditional_has r (p ∷ []) (f ∷ g ∷ os) d e = absurd (none-some d e)
conditional_has r (p ∷ []) (f ∷ []) d e = at_made (Conditional p f) d e (record { of_type = refl; predicates = refl; objects = refl; marked = tt })

-- what the parts make has them
has_made : (r : Bool) (t : DependencyType) (ps os : List Fmri) (d : Dependency) → made_of r t ps os ≡ Some d → Has r t ps os d
has_made r of_type.Require ps os d e = unpredicated_has r of_type.Require ps os d e
has_made r of_type.Optional ps os d e = unpredicated_has r of_type.Optional ps os d e
has_made r of_type.Incorporate ps os d e = unpredicated_has r of_type.Incorporate ps os d e
has_made r of_type.Exclude ps os d e = unpredicated_has r of_type.Exclude ps os d e
has_made r of_type.Conditional ps os d e = conditional_has r ps os d e
has_made r of_type.RequireAny ps os d e = unpredicated_has r of_type.RequireAny ps os d e
has_made r of_type.Group ps os d e = unpredicated_has r of_type.Group ps os d e
has_made r of_type.GroupAny ps os d e = unpredicated_has r of_type.GroupAny ps os d e
has_made r of_type.Parent ps os d e = unpredicated_has r of_type.Parent ps os d e
has_made r of_type.Origin ps os d e = unpredicated_has r of_type.Origin ps os d e

-- the attributes ask for one dependency at most
pub asks_once : (attrs : List Attr) (d e : Dependency) → Asks attrs d → Asks attrs e → d ≡ e
asks_once attrs d e a b =
    let same : Has (marks_root (values_of (codes "root-image") attrs)) (type_of e) (predicates e) (objects e) d = record {
      of_type = one_type _ _ (sym a.of_type ∙ b.of_type);
      predicates = written_once _ _ _ a.predicates b.predicates;
      objects = written_once _ _ _ a.objects b.objects;
      marked = a.marked;
    } in
    same_Some d e (sym (made_has _ _ _ _ d same) ∙ remade _ e b.marked)

-- the values of the type are no word of one
pub asked_untyped : (attrs : List Attr) → IsTyped (values_of (codes "type") attrs) None → IsAskedFor attrs None
asked_untyped attrs h d a = h (type_of d) a.of_type

-- the values of the predicate aren't FMRIs
pub asked_unpredicated : (attrs : List Attr) → ((fs : List Fmri) → AreWritten (values_of (codes "predicate") attrs) fs → ⊥) → IsAskedFor attrs None
asked_unpredicated attrs h d a = h (predicates d) a.predicates

-- the values of `fmri` aren't FMRIs
pub asked_unread : (attrs : List Attr) → ((fs : List Fmri) → AreWritten (values_of (codes "fmri") attrs) fs → ⊥) → IsAskedFor attrs None
asked_unread attrs h d a = h (objects d) a.objects

-- what the type and the FMRIs make is what the attributes ask for
pub asked_made : (attrs : List Attr) (r : Bool) (t : DependencyType) (ps os : List Fmri) (o : Option Dependency) → marks_root (values_of (codes "root-image") attrs) ≡ r → values_of (codes "type") attrs ≡ type_name t ∷ [] → AreWritten (values_of (codes "predicate") attrs) ps → AreWritten (values_of (codes "fmri") attrs) os → o ≡ made_of r t ps os → IsAskedFor attrs o
asked_made attrs r t ps os None root typed before about made = λ d a.
    none-some d (made ∙ made_has r t ps os d (record {
      of_type = one_type _ _ (sym a.of_type ∙ typed);
      predicates = written_once _ _ _ a.predicates before;
      objects = written_once _ _ _ a.objects about;
      marked = subst (λ (b : Bool). IsMarked b d) root a.marked;
    }))
asked_made attrs r t ps os (Some d) root typed before about made =
    let h = has_made r t ps os d (sym made) in
    record {
      of_type = typed ∙ ap (λ (u : DependencyType). type_name u ∷ []) (sym h.of_type);
      predicates = subst (AreWritten (values_of (codes "predicate") attrs)) (sym h.predicates) before;
      objects = subst (AreWritten (values_of (codes "fmri") attrs)) (sym h.objects) about;
      marked = subst (λ (b : Bool). IsMarked b d) (sym root) h.marked;
    }
