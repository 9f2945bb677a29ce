-- What the table of actions says of the version that a link offers.
use Rattle.std.proofs.Common.{◌≡◌, ℕ, List, [], ◌∷◌, Option, Some, subst}
use Rattle.std.specs.Prelude.{codes, slice_get}
use Rattle.std.specs.List.{AllByRecursion}
use Rattle.ips_action.specs.declared.kind.ActionKind.{ActionKind}
use Rattle.ips_action.specs.declared.kind.ActionKind.TheVariants.{Set, Depend, Dir, File, Link, Hardlink, User, Group, Driver, License, Legacy, Signature}
use Rattle.ips_action.specs.Attrs.{Attr}
use Rattle.ips_action.specs.Check.{IsNumerals}
use Rattle.ips_action.specs.Attrs.{values_of}
use Rattle.ips_action.specs.Judging.{KeepsRow, rows_of}
use Rattle.ips_action.specs.Action.{Fields, IsAction, payload_word}
use Rattle.ips_mediate.specs.Mediation.{of_link, link_value}

abbrev Kept : ActionKind → Option (List ℕ) → List Attr → Type 0
Kept kind payload attrs = AllByRecursion (KeepsRow payload attrs) (rows_of kind attrs)

first_meets : (P : List ℕ → Type 0) (values : List (List ℕ)) (value : List ℕ) → AllByRecursion P values → slice_get values 0 ≡ Some value → P value
first_meets P [] value all e = absurd cc
first_meets P (v ∷ values) value all e = let same : v ≡ value = cc in subst P same all.0

told : (kind : ActionKind) (payload : Option (List ℕ)) (attrs : List Attr) → Kept kind payload attrs → (value : List ℕ) → of_link kind (slice_get (values_of (codes "mediator-version") attrs) 0) ≡ Some value → IsNumerals value
told Set payload attrs h value e = absurd cc
told Depend payload attrs h value e = absurd cc
told Dir payload attrs h value e = absurd cc
told File payload attrs h value e = absurd cc
told Link payload attrs h value e = first_meets IsNumerals (values_of (codes "mediator-version") attrs) value h.1.1.1.0.each e
told Hardlink payload attrs h value e = first_meets IsNumerals (values_of (codes "mediator-version") attrs) value h.1.1.1.0.each e
told User payload attrs h value e = absurd cc
told Group payload attrs h value e = absurd cc
told Driver payload attrs h value e = absurd cc
told License payload attrs h value e = absurd cc
told Legacy payload attrs h value e = absurd cc
told Signature payload attrs h value e = absurd cc

-- the version of a link is numbers joined by dots
pub version_numerals : (a : Fields) → IsAction a → (value : List ℕ) → link_value (codes "mediator-version") a ≡ Some value → IsNumerals value
version_numerals a h value e = told a.kind (payload_word a.payload) a.attrs h.rows value e
