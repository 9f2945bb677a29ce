-- What the rows of the table say of an action.
use Rattle.std.proofs.Common.{◌≡◌, ℕ, ◌<◌, ◌≤◌, false, List, [], ◌∷◌, length, Option, Some, None, refl, sym, ◌∙◌, ap, subst, arith}
use Rattle.std.specs.Prelude.{codes, slice_get, IfNone, IfSome}
use Rattle.std.specs.List.{AllByRecursion}
use Rattle.ips_action.specs.declared.kind.ActionKind.{ActionKind}
use Rattle.ips_action.specs.declared.kind.ActionKind.TheVariants.{Set, Depend, Dir, File, Link, Hardlink, User, Group, Driver, License, Legacy, Signature}
use Rattle.ips_action.specs.Attrs.{Attr}
use Rattle.ips_action.specs.declared.action.Preserve.{Preserve}
use Rattle.ips_action.specs.Table.{AttributeRow}
use Rattle.ips_action.specs.Check.{IsOneOf, preserve_words}
use Rattle.ips_action.specs.Attrs.{values_of}
use Rattle.ips_action.specs.Judging.{least, KeepsRow, rows_of, is_payload}
use Rattle.ips_action.specs.Action.{naming_key, preserve_values}

-- a row that is kept, of an attribute that has to stand
stands : (payload : Option (List ℕ)) (attrs : List Attr) (row : AttributeRow) → KeepsRow payload attrs row → is_payload row.check ≡ false → 0 < least row.times → (name : List ℕ) → Some row.name ≡ Some name → values_of name attrs ≡ [] → ⊥
stands payload attrs row h e some name is none =
    let same : row.name ≡ name = cc in
    let empty : values_of row.name attrs ≡ [] = ap (λ (k : List ℕ). values_of k attrs) same ∙ none in
    let enough : least row.times ≤ length (values_of row.name attrs) = rw e at h.enough in
    omega (arith, ap length empty)

-- the attribute that names an action stands
pub named : (kind : ActionKind) (payload : Option (List ℕ)) (attrs : List Attr) → AllByRecursion (KeepsRow payload attrs) (rows_of kind attrs) → (name : List ℕ) → naming_key kind ≡ Some name → values_of name attrs ≡ [] → ⊥
named Set payload attrs h = stands payload attrs _ h.0 refl (omega arith)
named Depend payload attrs h = stands payload attrs _ h.0 refl (omega arith)
named Dir payload attrs h = stands payload attrs _ h.0 refl (omega arith)
named File payload attrs h = stands payload attrs _ h.0 refl (omega arith)
named Link payload attrs h = stands payload attrs _ h.0 refl (omega arith)
named Hardlink payload attrs h = stands payload attrs _ h.0 refl (omega arith)
named User payload attrs h = stands payload attrs _ h.0 refl (omega arith)
named Group payload attrs h = stands payload attrs _ h.0 refl (omega arith)
named Driver payload attrs h = stands payload attrs _ h.0 refl (omega arith)
named License payload attrs h = stands payload attrs _ h.0 refl (omega arith)
named Legacy payload attrs h = stands payload attrs _ h.0 refl (omega arith)
named Signature payload attrs h = λ name e none. cc

-- the values of `preserve` of a file
pub preserve_single : (payload : Option (List ℕ)) (attrs : List Attr) → AllByRecursion (KeepsRow payload attrs) (rows_of File attrs) → length (values_of (codes "preserve") attrs) ≤ 1
preserve_single payload attrs h = h.1.1.1.1.1.0.single refl

pub preserve_each : (payload : Option (List ℕ)) (attrs : List Attr) → AllByRecursion (KeepsRow payload attrs) (rows_of File attrs) → AllByRecursion (IsOneOf preserve_words) (values_of (codes "preserve") attrs)
preserve_each payload attrs h = h.1.1.1.1.1.0.each

pub one_word : (values : List (List ℕ)) (word : List ℕ) → AllByRecursion (IsOneOf preserve_words) values → slice_get values 0 ≡ Some word → IsOneOf preserve_words word
one_word [] word h e = absurd cc
one_word (value ∷ values) word h e = let is : value ≡ word = cc in subst (IsOneOf preserve_words) is h.0

pub one_preserve : (values : List (List ℕ)) (word : List ℕ) (p : Preserve) → length values ≤ 1 → slice_get values 0 ≡ Some word → preserve_values p ≡ word ∷ [] → values ≡ preserve_values p
one_preserve [] word p h e is = absurd cc
one_preserve (value ∷ []) word p h e is = let same : value ≡ word = cc in ap (λ (l : List ℕ). l ∷ []) same ∙ sym is
one_preserve (value ∷ next ∷ values) word p h e is = absurd (omega arith)

-- the same, where the kind is known by an equation
abbrev pub AllKept : ActionKind → Option (List ℕ) → List Attr → Type 0
AllKept kind payload attrs = AllByRecursion (KeepsRow payload attrs) (rows_of kind attrs)

pub kept_as : (kind other : ActionKind) (payload : Option (List ℕ)) (attrs : List Attr) → kind ≡ other → AllKept kind payload attrs → AllKept other payload attrs
kept_as kind other payload attrs e h = let P : ActionKind → Type 0 = λ k. AllKept k payload attrs in subst P e h

pub none_refuted : {X P : Type 0} (o : Option X) (Q : Type 0) → IfNone o P → (P → ⊥) → IfNone o Q
none_refuted None Q h f = absurd (f h)
none_refuted (Some x) Q h f = tt

pub some_then : {X : Type 0} (o : Option X) (P Q : X → Type 0) → IfSome o P → ((x : X) → P x → Q x) → IfSome o Q
some_then None P Q h f = tt
some_then (Some x) P Q h f = f x h
