-- What the table of actions says of modes and of the targets of hardlinks.
use Rattle.std.proofs.Common.{◌≡◌, ℕ, ◌<◌, ◌≤◌, true, List, [], ◌∷◌, length, Option, refl, sym, subst, arith}
use Rattle.std.specs.Prelude.{codes, slice_get, unwrap_or}
use Rattle.std.specs.List.{AllByRecursion}
use Rattle.std.proofs.lemmas.Bool.{ltb-true}
use Rattle.ips_text.specs.Mode.{IsOctal}
use Rattle.ips_action.specs.declared.kind.ActionKind.{ActionKind}
use Rattle.ips_action.specs.declared.kind.ActionKind.TheVariants.{Set, Depend, Dir, File, Link, Hardlink, User, Group, Driver, License, Legacy, Signature}
use Rattle.ips_action.specs.Attrs.{Attr}
use Rattle.ips_action.specs.Attrs.{values_of}
use Rattle.ips_action.specs.Check.{LeadsInside}
use Rattle.ips_action.specs.Target.{LeadsTo}
use Rattle.ips_action.specs.Judging.{KeepsRow, rows_of, first_of, path_of}
use Rattle.ips_action.specs.Action.{Fields, IsAction, payload_word}
use Rattle.ips_conflict.specs.Key.{value_of}
use Rattle.ips_conflict.specs.Alike.{kind_place, has_mode}

abbrev Kept : ActionKind → Option (List ℕ) → List Attr → Type 0
Kept kind payload attrs = AllByRecursion (KeepsRow payload attrs) (rows_of kind attrs)

-- the first of values that stand
first_meets : (P : List ℕ → Type 0) (values : List (List ℕ)) → 1 ≤ length values → AllByRecursion P values → P (unwrap_or (slice_get values 0) [])
first_meets P [] some all = absurd (omega arith)
first_meets P (value ∷ values) some all = all.0

octal_by : (kind : ActionKind) (payload : Option (List ℕ)) (attrs : List Attr) → Kept kind payload attrs → kind_place kind < 2 → IsOctal (unwrap_or (slice_get (values_of (codes "mode") attrs) 0) [])
octal_by Set payload attrs h low = absurd (omega arith)
octal_by Depend payload attrs h low = absurd (omega arith)
octal_by Dir payload attrs h low = first_meets IsOctal (values_of (codes "mode") attrs) h.1.0.enough h.1.0.each
octal_by File payload attrs h low = first_meets IsOctal (values_of (codes "mode") attrs) h.1.0.enough h.1.0.each
octal_by Link payload attrs h low = absurd (omega arith)
octal_by Hardlink payload attrs h low = absurd (omega arith)
octal_by User payload attrs h low = absurd (omega arith)
octal_by Group payload attrs h low = absurd (omega arith)
octal_by Driver payload attrs h low = absurd (omega arith)
octal_by License payload attrs h low = absurd (omega arith)
octal_by Legacy payload attrs h low = absurd (omega arith)
octal_by Signature payload attrs h low = absurd (omega arith)

-- a directory or a file has a mode in octal digits
pub mode_octal : (a : Fields) → IsAction a → has_mode a ≡ true → IsOctal (value_of (codes "mode") a)
mode_octal a h is = octal_by a.kind (payload_word a.payload) a.attrs h.rows (ltb-true (kind_place a.kind) 2 is)

first_same : (values : List (List ℕ)) → first_of values ≡ unwrap_or (slice_get values 0) []
first_same [] = refl
first_same (value ∷ values) = refl

leads_by : (payload : Option (List ℕ)) (attrs : List Attr) → Kept Hardlink payload attrs → LeadsInside (path_of attrs) (unwrap_or (slice_get (values_of (codes "target") attrs) 0) [])
leads_by payload attrs h = first_meets (LeadsInside (path_of attrs)) (values_of (codes "target") attrs) h.1.0.enough h.1.0.each

-- a hardlink leads to a path inside the image
pub hardlink_leads : (a : Fields) → IsAction a → a.kind ≡ Hardlink → LeadsInside (value_of (codes "path") a) (value_of (codes "target") a)
hardlink_leads a h is =
    let K : ActionKind → Type 0 = λ k. Kept k (payload_word a.payload) a.attrs in
    subst (λ (p : List ℕ). LeadsInside p (value_of (codes "target") a)) (first_same (values_of (codes "path") a.attrs)) (leads_by (payload_word a.payload) a.attrs (subst K is h.rows))

-- it doesn't lead nowhere
pub none_leads : (p q t u : List ℕ) → p ≡ q → t ≡ u → ((x : List ℕ) → LeadsTo p t x → ⊥) → LeadsInside q u → ⊥
none_leads p q t u e f none w = none w.0 (subst (λ (k : List ℕ). LeadsTo p k w.0) (sym f) (subst (λ (k : List ℕ). LeadsTo k u w.0) (sym e) w.1))
