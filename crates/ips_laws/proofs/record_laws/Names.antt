-- What the packages of lawful states deliver under names has bytes as names.
use Rattle.std.proofs.Common.{◌≡◌, ℕ, ◌<◌, Bool, true, false, List, [], ◌∷◌, ◌++◌, map, filter, cond, IsUtf8, sym, ap, subst, inl, inr}
use Rattle.std.specs.Prelude.{codes, slice_get, unwrap_or}
use Rattle.std.specs.List.{AllByRecursion, flat_map}
use Rattle.std.proofs.lemmas.List.Concat.{flat_map-cons}
use Rattle.ips_text.specs.Quote.{AreBytes}
use Rattle.ips_text.proofs.Bytes.{text_bytes}
use Rattle.ips_text.proofs.Lists.{all_append}
use Rattle.ips_line.specs.declared.words.Pair.{Pair}
use Rattle.ips_line.specs.Canonical.{escaped_byte, is_escaped, needs_quotes, pair_text, payload_text, value_text}
use Rattle.ips_action.specs.Action.{Fields, line_text, pairs_of, pairs_of_one, payload_word}
use Rattle.ips_action.specs.Attrs.{is_same, values_of}
use Rattle.ips_action.specs.Kind.{kind_name}
use Rattle.ips_action.specs.Attrs.{Attr}
use Rattle.ips_manifest.specs.Manifest.{IsManifestOf, StandsOnLine}
use Rattle.ips_manifest.specs.declared.line.Line.{Line}
use Rattle.ips_manifest.specs.declared.package.Package.{Package}
use Rattle.ips_filter.specs.Settings.{Set}
use Rattle.ips_conflict.specs.Key.{is_legacy, value_of}
use Rattle.ips_conflict.specs.declared.placed.Placed.{Placed}
use Rattle.ips_meaning.specs.Taken.{AreAdmitted, Leaves, all_placed, placed_of}
use Rattle.ips_books.specs.Accounts.{Accounts}
use Rattle.ips_packages.proofs.Records.{stem_is_word}
use Rattle.ips_state.specs.Form.{IsPackage}
use Rattle.ips_state.specs.State.{installed}
use Rattle.ips_due.specs.Delivered.{AreNamedByBytes, Delivered, Legacy, License}
use Rattle.ips_delivered.specs.delivered.Delivering.{PackagesDeliver, is_license, legacies_of, legacy_of, license_of, licenses_of}
use Rattle.ips_delivered.specs.delivered.Named.{DeliverNamed}

-- the action of each line of a manifest that some text means stands on a line
abbrev pub LinesStand : Type 0
LinesStand = (bytes : List ℕ) (lines : List Line) → IsManifestOf bytes lines → AllByRecursion StandsOnLine lines

-- ---- parts of bytes

both_parts : {A : Type 0} (P : A → Type 0) (xs ys : List A) → AllByRecursion P (xs ++ ys) → AllByRecursion P xs × AllByRecursion P ys
both_parts P [] ys all = (tt, all)
both_parts P (x ∷ xs) ys all = let rest = both_parts P xs ys all.1 in ((all.0, rest.0), rest.1)

abbrev IsByte : ℕ → Type 0
IsByte b = b < 256

escaped_bytes : (value : List ℕ) → AreBytes (flat_map escaped_byte value) → AreBytes value
escaped_bytes [] all = tt
escaped_bytes (b ∷ value) all =
    let both : AreBytes (escaped_byte b ++ flat_map escaped_byte value) = subst AreBytes (flat_map-cons escaped_byte b value) all in
    (last (is_escaped b) (both_parts IsByte (escaped_byte b) (flat_map escaped_byte value) both).0, escaped_bytes value (both_parts IsByte (escaped_byte b) (flat_map escaped_byte value) both).1)
  where
    last : (e : Bool) → AreBytes (cond e (92 ∷ b ∷ []) (b ∷ [])) → b < 256
    last true all = all.1.0
    last false all = all.0

value_bytes : (value : List ℕ) → AreBytes (value_text value) → AreBytes value
value_bytes value all = go (needs_quotes value) all
  where
    go : (q : Bool) → AreBytes (cond q (34 ∷ flat_map escaped_byte value ++ 34 ∷ []) value) → AreBytes value
    go true all = escaped_bytes value (both_parts IsByte (flat_map escaped_byte value) (34 ∷ []) all.1).0
    go false all = all

abbrev HasBytes : Pair → Type 0
HasBytes p = AreBytes p.value

pairs_bytes : (pairs : List Pair) → AreBytes (flat_map pair_text pairs) → AllByRecursion HasBytes pairs
pairs_bytes [] all = tt
pairs_bytes (p ∷ pairs) all =
    let both : AreBytes (pair_text p ++ flat_map pair_text pairs) = subst AreBytes (flat_map-cons pair_text p pairs) all in
    let one = (both_parts IsByte (pair_text p) (flat_map pair_text pairs) both).0 in
    (value_bytes p.value ((both_parts IsByte p.key (61 ∷ value_text p.value) one.1).1).1, pairs_bytes pairs (both_parts IsByte (pair_text p) (flat_map pair_text pairs) both).1)

abbrev HasValues : Attr → Type 0
HasValues attr = AllByRecursion AreBytes attr.values

one_bytes : (key : List ℕ) (values : List (List ℕ)) → AllByRecursion HasBytes (map (λ value. record { key = key; value = value }) values) → AllByRecursion AreBytes values
one_bytes key [] all = tt
one_bytes key (v ∷ values) all = (all.0, one_bytes key values all.1)

attrs_bytes : (attrs : List Attr) → AllByRecursion HasBytes (pairs_of attrs) → AllByRecursion HasValues attrs
attrs_bytes [] all = tt
attrs_bytes (attr ∷ attrs) all =
    let both : AllByRecursion HasBytes (pairs_of_one attr ++ pairs_of attrs) = subst (AllByRecursion HasBytes) (flat_map-cons pairs_of_one attr attrs) all in
    (one_bytes attr.key attr.values (both_parts HasBytes (pairs_of_one attr) (pairs_of attrs) both).0, attrs_bytes attrs (both_parts HasBytes (pairs_of_one attr) (pairs_of attrs) both).1)

values_bytes : (key : List ℕ) (attrs : List Attr) → AllByRecursion HasValues attrs → AllByRecursion AreBytes (values_of key attrs)
values_bytes key [] all = tt
values_bytes key (attr ∷ attrs) all = go (is_same attr.key key) (values_bytes key attrs all.1)
  where
    go : (s : Bool) → AllByRecursion AreBytes (values_of key attrs) → AllByRecursion AreBytes (cond s attr.values (values_of key attrs))
    go true rest = all.0
    go false rest = rest

first_bytes : (values : List (List ℕ)) → AllByRecursion AreBytes values → AreBytes (unwrap_or (slice_get values 0) [])
first_bytes [] all = tt
first_bytes (v ∷ values) all = all.0

pub action_bytes : (key : List ℕ) (a : Fields) → IsUtf8 (line_text a) → AreBytes (value_of key a)
action_bytes key a utf8 =
    let pairs = flat_map pair_text (pairs_of a.attrs) in
    let payload = payload_text (payload_word a.payload) in
    let behind = (both_parts IsByte (kind_name a.kind ++ payload) pairs (text_bytes (line_text a) utf8)).1 in
    first_bytes (values_of key a.attrs) (values_bytes key a.attrs (attrs_bytes a.attrs (pairs_bytes (pairs_of a.attrs) behind)))

-- ---- packages

abbrev IsNamed : Placed → Type 0
IsNamed p = AreBytes p.stem × AreBytes (value_of (codes "pkg") p.action)

left_named : (P : Placed → Type 0) (xs left : List Placed) → Leaves P xs left → AllByRecursion IsNamed xs → AllByRecursion IsNamed left
left_named P [] left is all = subst (AllByRecursion IsNamed) (sym is) tt
left_named P (x ∷ xs) left (inl h) all = subst (AllByRecursion IsNamed) (sym h.1.2) (all.0, left_named P xs h.1.0 h.1.1 all.1)
left_named P (x ∷ xs) left (inr h) all = left_named P xs left h.1 all.1

-- what comes of those that pass a test has what comes of all
kept_all : {A B : Type 0} (P : A → Type 0) (Q : B → Type 0) (f : A → B) → ((x : A) → P x → Q (f x)) → (test : A → Bool) (xs : List A) → AllByRecursion P xs → AllByRecursion Q (map f (filter test xs))
kept_all P Q f to test [] all = tt
kept_all P Q f to test (x ∷ xs) all = go (test x) (kept_all P Q f to test xs all.1)
  where
    go : (c : Bool) → AllByRecursion Q (map f (filter test xs)) → AllByRecursion Q (map f (cond c (x ∷ filter test xs) (filter test xs)))
    go true rest = (to x all.0, rest)
    go false rest = rest

module _ (stand : LinesStand) where
  lines_named : (stem : List ℕ) → AreBytes stem → (lines : List Line) → AllByRecursion StandsOnLine lines → AllByRecursion IsNamed (map (λ (line : Line). record { stem = stem; line = line.number; action = line.action }) lines)
  lines_named stem bytes [] all = tt
  lines_named stem bytes (l ∷ lines) all = ((bytes, action_bytes (codes "pkg") l.action all.0.text), lines_named stem bytes lines all.1)

  all_named : (packages : List Package) → AllByRecursion IsPackage (map installed packages) → AllByRecursion IsNamed (all_placed packages)
  all_named [] each = tt
  all_named (p ∷ packages) each =
      let here = lines_named p.stem (text_bytes p.stem (stem_is_word p.stem each.0.stem).text) p.manifest.lines.items (stand each.0.manifest.0 p.manifest.lines.items each.0.manifest.1) in
      subst (AllByRecursion IsNamed) (sym (flat_map-cons placed_of p packages)) (all_append IsNamed (placed_of p) (all_placed packages) here (all_named packages each.1))

  module _ (settings : Set) (packages : List Package) (each : AllByRecursion IsPackage (map installed packages)) where
    admitted_named : (admitted : List Placed) → AreAdmitted settings packages admitted → AllByRecursion IsNamed admitted
    admitted_named admitted are = left_named _ (all_placed packages) admitted are (all_named packages each)

    of_admitted : (admitted : List Placed) (d : Delivered) → AreAdmitted settings packages admitted → d.licenses ≡ licenses_of admitted → d.legacy ≡ legacies_of admitted → AreNamedByBytes d
    of_admitted admitted d are licenses legacy =
        let all = admitted_named admitted are in
        record {
          stems = subst (AllByRecursion (λ (l : License). AreBytes l.stem)) (sym licenses) (kept_all IsNamed (λ (l : License). AreBytes l.stem) license_of (λ p named. named.0) (λ (p : Placed). is_license p.action.kind) admitted all);
          packages = subst (AllByRecursion (λ (g : Legacy). AreBytes g.pkg)) (sym legacy) (kept_all IsNamed (λ (g : Legacy). AreBytes g.pkg) legacy_of (λ p named. named.1) (λ (p : Placed). is_legacy p.action.kind) admitted all);
        }

    pub delivered_named : (d : Delivered) → DeliverNamed settings packages d.licenses d.legacy → AreNamedByBytes d
    delivered_named d h = of_admitted h.admitted d h.are_admitted h.licenses_are h.legacy_are

    pub packages_named : (books : Accounts) (d : Delivered) → PackagesDeliver books settings packages d → AreNamedByBytes d
    packages_named books d h = of_admitted h.admitted d h.are_admitted (ap (λ (x : Delivered). x.licenses) h.is) (ap (λ (x : Delivered). x.legacy) h.is)
