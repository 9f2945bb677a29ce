-- The line that tells the name of its package.
use Rattle.std.proofs.Common.{◌≡◌, ℕ, ◌+◌, ◌/◌, ◌%◌, ◌^◌, ◌<◌, Bool, true, false, cond, not, ◌||◌, List, [], ◌∷◌, ◌++◌, map, Option, Some, None, Result, Ok, Err, refl, sym, ap, subst, ◌∙◌, arith}
use Rattle.std.specs.Prelude.{IfOk, codes}
use Rattle.std.specs.List.{list_all, list_any, join_with_byte}
use Rattle.std.specs.Char.{digit_value}
use Rattle.std.specs.Fmt.{decimal}
use Rattle.std.specs.Str.Parse.{AllDigits}
use Rattle.std.specs.declared.alloc.AllocError.{AllocError}
use Rattle.std.proofs.lemmas.Bool.{and_parts, ne_eqb}
use Rattle.std.proofs.lemmas.Bool.Decides.{nat_tests}
use Rattle.std.proofs.lemmas.Fmt.{decimal_is_IsNumeral}
use Rattle.std.proofs.lemmas.List.Folds.{list_all-append}
use Rattle.std.proofs.lemmas.List.Splits.{join_with_byte-slice_split}
use Rattle.ips_text.specs.Reading.{OneOrMore}
use Rattle.ips_text.specs.Path.{parts}
use Rattle.ips_fmri.specs.Name.{may_go_on, IsComponent, IsPublisher, IsStem}
use Rattle.ips_fmri.specs.Version.{Parts, numerals, part_text, stamp_text, stamp_part_text, version_text, AreNumbers, IfNumbers, IsVersion}
use Rattle.ips_records.proofs.Joined.{is_place_byte}
use Rattle.ips_records.proofs.FileNames.{begin_goes_on}
use Rattle.ips_line.specs.declared.words.Pair.{Pair}
use Rattle.ips_line.proofs.OnLine.{CanStand, CanPair, Plain_byte, can_nil, can_ahead, can_words}
use Rattle.ips_action.specs.declared.kind.ActionKind.TheVariants.{Set}
use Rattle.ips_action.specs.Attrs.{Attr, is_same, AreAttrs, Gathers}
use Rattle.ips_action.specs.Action.{Fields, IsAction, line_text, payload_word, pairs_of}
use Rattle.ips_line.specs.Canonical.{payload_text}
use Rattle.ips_action.specs.Kind.{kind_name}
use Rattle.ips_action.proofs.KeyOrder.{same_true}
use Rattle.ips_action.proofs.One.{one_gathered}
use Rattle.ips_manifest.specs.declared.line.Line.{Line}
use Rattle.ips_manifest.specs.Manifest.{StandsOnLine, line_at}
use Rattle.ips_filling.specs.declared.filled.Filled.{Filled}
use Rattle.ips_sends.specs.Published.{fmri_text, tells_name, name_action, named_actions}
use Rattle.ips_sends.proofs.Apart.{no}
use Rattle.ips_prepare.specs.Prepared.{actions_of, actions_filled}

-- ---- the action

pub name_is_action : (fmri : List ℕ) → IsAction (name_action fmri)
name_is_action fmri = record {
  ordered = (omega arith, (refl, tt), (omega arith, tt, tt));
  keys = (refl, (refl, tt));
  named = tt;
  taken = tt;
  rows = (record { enough = omega arith; single = λ e. omega arith; each = (tt, tt) }, (record { enough = omega arith; single = λ e. no e; each = (tt, tt) }, tt));
}

-- an action of these attributes
abbrev pub set_of : List Attr → Fields
set_of attrs = record { kind = Set; payload = None; attrs = attrs }

-- ---- its attributes

abbrev pub name_pairs : List ℕ → List Pair
name_pairs fmri = record { key = codes "name"; value = codes "pkg.fmri" } ∷ record { key = codes "value"; value = fmri } ∷ []

gathered : (fmri : List ℕ) → Gathers (name_pairs fmri) (name_action fmri).attrs
gathered fmri key = go (is_same (codes "name") key) (is_same (codes "value") key) refl refl
  where
    go : (s t : Bool) → is_same (codes "name") key ≡ s → is_same (codes "value") key ≡ t
        → cond s (codes "pkg.fmri" ∷ []) (cond t (fmri ∷ []) [])
        ≡ map (λ (q : Pair). q.value) (cond s (record { key = codes "name"; value = codes "pkg.fmri" } ∷ cond t (record { key = codes "value"; value = fmri } ∷ []) []) (cond t (record { key = codes "value"; value = fmri } ∷ []) []))
    go true true e f =
        let both : false ≡ true = ap (is_same (codes "value")) (same_true (codes "name") key e) ∙ f in
        no both
    go true false e f = refl
    go false true e f = refl
    go false false e f = refl

pub attrs_are : (fmri : List ℕ) (pairs : List Pair) (attrs : List Attr) → pairs ≡ name_pairs fmri → AreAttrs attrs → Gathers pairs attrs → attrs ≡ (name_action fmri).attrs
attrs_are fmri pairs attrs is are gathers =
    one_gathered (name_pairs fmri) attrs (name_action fmri).attrs are (name_is_action fmri).ordered (subst (λ (l : List Pair). Gathers l attrs) is gathers) (gathered fmri)

pub attrs_answered : (fmri : List ℕ) (pairs : List Pair) (r : Result (List Attr) AllocError) → pairs ≡ name_pairs fmri → IfOk r AreAttrs → IfOk r (Gathers pairs) → IfOk r (λ attrs. attrs ≡ (name_action fmri).attrs)
attrs_answered fmri pairs (Ok attrs) is are gathers = attrs_are fmri pairs attrs is are gathers
attrs_answered fmri pairs (Err e) is are gathers = tt

-- ---- its bytes

go_place : (b : ℕ) → may_go_on false b ≡ true → is_place_byte b ≡ true
go_place b e = grind (arith, nat_tests)

run_place : (x : List ℕ) → list_all (may_go_on false) x ≡ true → list_all is_place_byte x ≡ true
run_place [] e = refl
run_place (b ∷ x) e = let h = and_parts (may_go_on false b) (list_all (may_go_on false) x) e in rw (go_place b h.0, run_place x h.1) refl

component_place : (x : List ℕ) → IsComponent false x → list_all is_place_byte x ≡ true
component_place [] h = absurd h
component_place (b ∷ x) h = rw (go_place b (begin_goes_on b h.0), run_place x h.1) refl

place_append : (xs ys : List ℕ) → list_all is_place_byte xs ≡ true → list_all is_place_byte ys ≡ true → list_all is_place_byte (xs ++ ys) ≡ true
place_append xs ys e f = list_all-append is_place_byte xs ys ∙ rw (e, f) refl

joined_place : (xs : List (List ℕ)) → OneOrMore (IsComponent false) xs → list_all is_place_byte (join_with_byte 47 xs) ≡ true
joined_place [] h = absurd h
joined_place (x ∷ []) h = component_place x h
joined_place (x ∷ y ∷ xs) h = place_append x (47 ∷ join_with_byte 47 (y ∷ xs)) (component_place x h.0) (joined_place (y ∷ xs) h.1)

stem_place : (stem : List ℕ) → IsStem false stem → list_all is_place_byte stem ≡ true
stem_place stem s = ap (list_all is_place_byte) (sym (join_with_byte-slice_split 47 stem)) ∙ joined_place (parts stem) s.form

digit_place : (c : ℕ) → digit_value c < 10 → is_place_byte c ≡ true
digit_place c lt = grind (arith, nat_tests)

digits_place : (ds : List ℕ) → AllDigits 10 ds → list_all is_place_byte ds ≡ true
digits_place [] h = refl
digits_place (c ∷ ds) h = rw (digit_place c h.0, digits_place ds h.1) refl

decimal_place : (n : ℕ) → n < 2 ^ 64 → list_all is_place_byte (decimal n) ≡ true
decimal_place n lt = digits_place (decimal n) (decimal_is_IsNumeral n lt).0.1

numerals_place : (ns : List ℕ) → AreNumbers ns → list_all is_place_byte (numerals ns) ≡ true
numerals_place [] h = absurd h
numerals_place (n ∷ []) h = decimal_place n h
numerals_place (n ∷ m ∷ ns) h = place_append (decimal n) (46 ∷ numerals (m ∷ ns)) (decimal_place n h.0) (numerals_place (m ∷ ns) h.1)

part_place : (mark : ℕ) (ns : List ℕ) → is_place_byte mark ≡ true → IfNumbers ns → list_all is_place_byte (part_text mark ns) ≡ true
part_place mark [] is h = refl
part_place mark (n ∷ ns) is h = rw (is, numerals_place (n ∷ ns) h) refl

between : (b : ℕ) → 47 < b → b < 58 → is_place_byte b ≡ true
between b low high = grind (arith, nat_tests)

two_place : (n : ℕ) → (is_place_byte (48 + n % 100 / 10) ≡ true) × (is_place_byte (48 + n % 100 % 10) ≡ true)
two_place n = (between (48 + n % 100 / 10) (omega arith) (omega arith), between (48 + n % 100 % 10) (omega arith) (omega arith))

stamp_place : (n : ℕ) → list_all is_place_byte (stamp_text n) ≡ true
stamp_place n =
    let a = two_place (n / 10 ^ 12) in
    let b = two_place (n / 10 ^ 10) in
    let c = two_place (n / 10 ^ 8) in
    let d = two_place (n / 10 ^ 6) in
    let e = two_place (n / 10 ^ 4) in
    let f = two_place (n / 10 ^ 2) in
    let g = two_place n in
    rw (a.0, a.1, b.0, b.1, c.0, c.1, d.0, d.1, e.0, e.1, f.0, f.1, g.0, g.1) refl

stamp_part_place : (stamp : Option ℕ) → list_all is_place_byte (stamp_part_text stamp) ≡ true
stamp_part_place None = refl
stamp_part_place (Some n) = stamp_place n

version_place : (v : Parts) → IsVersion v → list_all is_place_byte (version_text v) ≡ true
version_place v s =
    let release = numerals v.release in
    let build = part_text 44 v.build in
    let branch = part_text 45 v.branch in
    let stamp = stamp_part_text v.stamp in
    place_append (release ++ build ++ branch) stamp
    (place_append (release ++ build) branch (place_append release build (numerals_place v.release s.parts.release) (part_place 44 v.build refl s.parts.build)) (part_place 45 v.branch refl s.parts.branch)) (stamp_part_place v.stamp)

fmri_place : (publisher stem : List ℕ) (version : Parts) → IsPublisher publisher → IsStem false stem → IsVersion version → list_all is_place_byte (fmri_text publisher stem version) ≡ true
fmri_place publisher stem version p s v =
    place_append (codes "pkg://" ++ publisher ++ 47 ∷ stem) (64 ∷ version_text version)
    (place_append (codes "pkg://" ++ publisher) (47 ∷ stem) (place_append (codes "pkg://") publisher refl (component_place publisher p.form)) (stem_place stem s)) (version_place version v)

-- ---- on a line

low : (b : ℕ) → is_place_byte b ≡ true → b < 128
low b e = grind (arith, nat_tests)

high : (b : ℕ) → is_place_byte b ≡ true → 10 < b
high b e = grind (arith, nat_tests)

place_plain : (b : ℕ) → is_place_byte b ≡ true → Plain_byte b
place_plain b e =
    let above = high b e in
    record { ascii = low b e; other = ap not (ne_eqb b 10 (λ same. absurd (omega arith))) }

places_can : (bytes : List ℕ) → list_all is_place_byte bytes ≡ true → CanStand bytes
places_can [] h = can_nil
places_can (b ∷ bytes) h =
    let p = and_parts (is_place_byte b) (list_all is_place_byte bytes) h in
    can_ahead b bytes (place_plain b p.0) (places_can bytes p.1)

name_can : (fmri : List ℕ) → CanStand fmri → CanStand (line_text (name_action fmri))
name_can fmri can =
    let first : CanPair (record { key = codes "name"; value = codes "pkg.fmri" }) = record { key = places_can (codes "name") refl; value = places_can (codes "pkg.fmri") refl } in
    let second : CanPair (record { key = codes "value"; value = fmri }) = record { key = places_can (codes "value") refl; value = can } in
    can_words (kind_name Set) (payload_text (payload_word None)) (pairs_of (name_action fmri).attrs) (places_can (kind_name Set) refl) can_nil (first, (second, tt))

pub name_stands : (publisher stem : List ℕ) (version : Parts) → IsPublisher publisher → IsStem false stem → IsVersion version → (line : Line) → line.action ≡ name_action (fmri_text publisher stem version) → StandsOnLine line
name_stands publisher stem version p s v line is =
    let fmri = fmri_text publisher stem version in
    let can = name_can fmri (places_can fmri (fmri_place publisher stem version p s v)) in
    subst (λ (a : Fields). StandsOnLine (line_at line.number a)) (sym is) (record { action = name_is_action fmri; text = can.text; single = can.single })

-- ---- before the others

any_told : (filled : List Filled) → list_any tells_name (actions_filled filled) ≡ list_any (λ (f : Filled). tells_name f.line.action) filled
any_told [] = refl
any_told (f ∷ filled) = ap (λ (b : Bool). tells_name f.line.action || b) (any_told filled)

-- it is told already
pub named_already : (fmri : List ℕ) (lines : List Line) (filled : List Filled) → lines ≡ [] → list_any (λ (f : Filled). tells_name f.line.action) filled ≡ true → actions_of lines ++ actions_filled filled ≡ named_actions fmri (actions_filled filled)
named_already fmri lines filled none told =
    ap (λ (l : List Line). actions_of l ++ actions_filled filled) none
    ∙ sym (ap (λ (t : Bool). cond t (actions_filled filled) (name_action fmri ∷ actions_filled filled)) (any_told filled ∙ told))

-- it is told first
pub named_first : (fmri : List ℕ) (lines : List Line) (line : Line) (filled : List Filled) → lines ≡ line ∷ [] → line.action ≡ name_action fmri → list_any (λ (f : Filled). tells_name f.line.action) filled ≡ false
    → actions_of lines ++ actions_filled filled ≡ named_actions fmri (actions_filled filled)
named_first fmri lines line filled one is untold =
    ap (λ (l : List Line). actions_of l ++ actions_filled filled) one
    ∙ ap (λ (a : Fields). a ∷ actions_filled filled) is
    ∙ sym (ap (λ (t : Bool). cond t (actions_filled filled) (name_action fmri ∷ actions_filled filled)) (any_told filled ∙ untold))
