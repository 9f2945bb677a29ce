-- What is picked of a list that is gone through from the front, and what the table of actions says of names.
use Rattle.std.proofs.Common.{◌≡◌, ◌∙◌, ◌++◌, ◌∷◌, [], ℕ, zero, suc, ◌+◌, ◌<◌, ◌≤◌, Bool, true, false, cond, List, map, filter, take, length, get_or, refl, sym, ap, subst, arith, inl, inr}
use Rattle.std.specs.Prelude.{slice_get, unwrap_or, codes}
use Rattle.std.specs.List.{AllByRecursion}
use Rattle.std.proofs.lemmas.List.{append_assoc, map-append}
use Rattle.std.proofs.lemmas.List.Elements.{filter-append}
use Rattle.std.proofs.lemmas.List.Concat.{flat_map-cons}
use Rattle.ips_text.proofs.Lists.{all_append, map_item}
use Rattle.ips_filter.specs.Admitted.{Admits}
use Rattle.ips_filter.specs.Settings.{Set}
use Rattle.ips_manifest.specs.declared.line.Line.{Line}
use Rattle.ips_manifest.specs.declared.package.Package.{Package}
use Rattle.ips_meaning.specs.Taken.{AreAdmitted, Leaves, all_placed, placed_of}
use Rattle.ips_fmri.specs.Name.{IsStem}
use Rattle.ips_records.proofs.FileNames.{stem_name}
use Rattle.ips_action.specs.declared.kind.ActionKind.{ActionKind}
use Rattle.ips_action.specs.declared.kind.ActionKind.TheVariants as kind
use Rattle.ips_action.specs.Attrs.{values_of}
use Rattle.ips_action.specs.Action.{Fields, IsAction, payload_word}
use Rattle.ips_action.specs.Check.{IsFileName}
use Rattle.ips_action.specs.Judging.{KeepsRow, rows_of}
use Rattle.ips_conflict.specs.declared.placed.Placed.{Placed}
use Rattle.ips_conflict.specs.Key.{is_legacy, value_of}
use Rattle.ips_due.specs.Due.{Content}
use Rattle.ips_metafiles.specs.Records.{IsQuotedName}
use Rattle.ips_due.specs.declared.outstanding.due.DueRecord.{DueRecord}
use Rattle.ips_due.specs.outstanding.Parts.{due_record}
use Rattle.ips_delivered.specs.delivered.Delivering.{is_license}
use Rattle.ips_delivered.proofs.delivered.Names.{quoted_name}

-- ---- what is picked

module _ {X A : Type 0} (test : X → Bool) (f : X → A) where
  one_picked : (p : X) (t : Bool) → map f (cond t (p ∷ []) []) ≡ cond t (f p ∷ []) []
  one_picked p true = refl
  one_picked p false = refl

  pub picked_more : (xs : List X) (p : X) → map f (filter test (xs ++ p ∷ [])) ≡ map f (filter test xs) ++ cond (test p) (f p ∷ []) []
  picked_more xs p = ap (map f) (filter-append test xs (p ∷ [])) ∙ map-append f (filter test xs) (filter test (p ∷ [])) ∙ ap (λ (l : List A). map f (filter test xs) ++ l) (one_picked p (test p))

  pub picked_all : (Q : A → Type 0) (xs : List X) (p : X) → AllByRecursion Q (map f (filter test xs)) → (test p ≡ true → Q (f p)) → AllByRecursion Q (map f (filter test (xs ++ p ∷ [])))
  picked_all Q xs p so_far one = subst (AllByRecursion Q) (sym (picked_more xs p)) (all_append Q (map f (filter test xs)) (cond (test p) (f p ∷ []) []) so_far (go (test p) refl))
    where
      go : (t : Bool) → test p ≡ t → AllByRecursion Q (cond t (f p ∷ []) [])
      go true is = (one is, tt)
      go false is = tt

-- what all of a list are that are told, one is
pub told_at : {A B : Type 0} (f : A → B) (P : B → Type 0) (xs : List A) (i : ℕ) (x : A) → i < length xs → x ≡ get_or xs i x → AllByRecursion P (map f xs) → P (f x)
told_at f P [] i x lt is all = absurd (omega (arith, lt))
told_at f P (y ∷ xs) zero x lt is all = subst (λ (z : _). P (f z)) (sym is) all.0
told_at f P (y ∷ xs) (suc i) x lt is all = told_at f P xs i x (omega (arith, lt)) is all.1

-- the records of what is gone through, one more
pub records_more : {A B : Type 0} (f : A → B) (g : B → List ℕ × Content) (old now next : List DueRecord) (one : DueRecord) (xs : List A) (i : ℕ) (x : A) → i < length xs → x ≡ get_or xs i x
    → map due_record now ≡ map due_record old ++ map g (map f (take i xs)) → next ≡ now ++ one ∷ [] → due_record one ≡ g (f x) → map due_record next ≡ map due_record old ++ map g (map f (take (i + 1) xs))
records_more f g old now next one xs i x lt is so_far pushed shows =
    ap (map due_record) pushed
    ∙ map-append due_record now (one ∷ [])
    ∙ (λ j. so_far j ++ shows j ∷ [])
    ∙ append_assoc (map due_record old) (map g (map f (take i xs))) (g (f x) ∷ [])
    ∙ ap (λ (l : List (List ℕ × Content)). map due_record old ++ l) (sym (ap (map g) (map_item f xs i x lt is) ∙ map-append g (map f (take i xs)) (f x ∷ [])))

-- ---- kinds

pub license_kind : (k : ActionKind) → is_license k ≡ true → k ≡ kind.License
license_kind kind.Set is = cc
license_kind kind.Depend is = cc
license_kind kind.Dir is = cc
license_kind kind.File is = cc
license_kind kind.Link is = cc
license_kind kind.Hardlink is = cc
license_kind kind.User is = cc
license_kind kind.Group is = cc
license_kind kind.Driver is = cc
license_kind kind.License is = refl
license_kind kind.Legacy is = cc
license_kind kind.Signature is = cc

pub legacy_kind : (k : ActionKind) → is_legacy k ≡ true → k ≡ kind.Legacy
legacy_kind kind.Set is = cc
legacy_kind kind.Depend is = cc
legacy_kind kind.Dir is = cc
legacy_kind kind.File is = cc
legacy_kind kind.Link is = cc
legacy_kind kind.Hardlink is = cc
legacy_kind kind.User is = cc
legacy_kind kind.Group is = cc
legacy_kind kind.Driver is = cc
legacy_kind kind.License is = cc
legacy_kind kind.Legacy is = refl
legacy_kind kind.Signature is = cc

-- ---- names

first_named : (values : List (List ℕ)) → 1 ≤ length values → AllByRecursion IsFileName values → IsQuotedName (unwrap_or (slice_get values 0) [])
first_named [] some all = absurd (omega (arith, some))
first_named (v ∷ values) some all = quoted_name v all.0

pub license_named : (a : Fields) → IsAction a → a.kind ≡ kind.License → IsQuotedName (value_of (codes "license") a)
license_named a is at =
    let rows = subst (λ (k : ActionKind). AllByRecursion (KeepsRow (payload_word a.payload) a.attrs) (rows_of k a.attrs)) at is.rows in
    first_named (values_of (codes "license") a.attrs) rows.0.enough rows.0.each

pub legacy_named : (a : Fields) → IsAction a → a.kind ≡ kind.Legacy → IsQuotedName (value_of (codes "pkg") a)
legacy_named a is at =
    let rows = subst (λ (k : ActionKind). AllByRecursion (KeepsRow (payload_word a.payload) a.attrs) (rows_of k a.attrs)) at is.rows in
    first_named (values_of (codes "pkg") a.attrs) rows.0.enough rows.0.each

pub stem_quoted : (stem : List ℕ) → IsStem false stem → IsQuotedName stem
stem_quoted stem is = let name = stem_name stem is in record { some = name.some; short = is.short; no_dots = name.no_dots }

-- ---- stems

left_all : {A : Type 0} (P Q : A → Type 0) (xs left : List A) → Leaves P xs left → AllByRecursion Q xs → AllByRecursion Q left
left_all P Q [] left h all = subst (AllByRecursion Q) (sym h) tt
left_all P Q (x ∷ xs) left h all = elim h [ inl w ↦ subst (AllByRecursion Q) (sym w.1.2) (all.0, left_all P Q xs w.1.0 w.1.1 all.1) | inr w ↦ left_all P Q xs left w.1 all.1 ]

-- The stem of an action's package is one.
abbrev pub OfStem : Placed → Type 0
OfStem p = IsStem false p.stem

pub stem_at : (xs : List Placed) (i : ℕ) (p : Placed) → i < length xs → p ≡ get_or xs i p → AllByRecursion OfStem xs → IsStem false p.stem
stem_at [] i p lt is all = absurd (omega (arith, lt))
stem_at (y ∷ xs) zero p lt is all = subst OfStem (sym is) all.0
stem_at (y ∷ xs) (suc i) p lt is all = stem_at xs i p (omega (arith, lt)) is all.1

of_lines : (stem : List ℕ) (lines : List Line) → IsStem false stem → AllByRecursion OfStem (map (λ (line : Line). record { stem = stem; line = line.number; action = line.action }) lines)
of_lines stem [] is = tt
of_lines stem (line ∷ lines) is = (is, of_lines stem lines is)

of_packages : (packages : List Package) → AllByRecursion (λ p. IsStem false p.stem) packages → AllByRecursion OfStem (all_placed packages)
of_packages [] all = tt
of_packages (p ∷ packages) all = subst (AllByRecursion OfStem) (sym (flat_map-cons placed_of p packages)) (all_append OfStem (placed_of p) (all_placed packages) (of_lines p.stem p.manifest.lines.items all.0) (of_packages packages all.1))

pub stems_of : (settings : Set) (packages : List Package) (admitted : List Placed) → AreAdmitted settings packages admitted → AllByRecursion (λ p. IsStem false p.stem) packages → AllByRecursion OfStem admitted
stems_of settings packages admitted are stems = left_all (λ (p : Placed). Admits settings p.action.attrs) OfStem (all_placed packages) admitted are (of_packages packages stems)
