-- What is displaced at one wanted path after another.
use Rattle.std.proofs.Common.{◌≡◌, ℕ, zero, suc, ◌+◌, ◌<◌, Bool, true, not, ◌&&◌, ◌||◌, List, [], ◌∷◌, ◌++◌, length, get_or, map, take, Option, Some, None, is_some, refl, sym, ◌∙◌, ap, subst, arith, Contains}
use Rattle.std.specs.Prelude.{slice_get}
use Rattle.std.specs.List.{list_any}
use Rattle.std.specs.List.Sorted.{IsStrictlySortedBy}
use Rattle.std.specs.Ordering.{nat_cmp}
use Rattle.std.specs.Cmp.Lexicographic.{slice_cmp}
use Rattle.std.proofs.lemmas.Bool.{and_from, and_parts}
use Rattle.std.proofs.lemmas.List.Elements.{Contains-get_or}
use Rattle.std.proofs.lemmas.List.Folds.{list_any-append}
use Rattle.std.proofs.lemmas.Option.{get_or_from_slice_get, slice_get_within}
use Rattle.ips_text.specs.Ancestry.{covers}
use Rattle.ips_text.proofs.Lists.{map_item}
use Rattle.ips_text.proofs.Truths.{or_false}
use Rattle.ips_outside.specs.Image.{Image}
use Rattle.ips_after.specs.Change.{Change, reached}
use Rattle.ips_after.specs.Repaired.{IsRepair, Repair, displaces, displaces_as, is_displaced, relinked_as}
use Rattle.ips_after.specs.Request.{Wanted}
use Rattle.ips_after.proofs.Changed.{both_ways, reach_of, reached_from}
use Rattle.ips_after.proofs.Fits.{any_from, any_of}
use Rattle.ips_after.proofs.Sorted.{sorted_once}
use Rattle.ips_steps.specs.Private.{records_name}
use Rattle.ips_meaning.specs.declared.entry.Entry.{Entry}
use Rattle.ips_change.specs.wanted.Wanted.{want_of, wanted_of}
use Rattle.ips_change.proofs.wanted.Found.{found_at}
use Rattle.ips_found.specs.declared.found.Thing.{Thing}
use Rattle.ips_strays.specs.Strays.{Adds}
use Rattle.ips_strays.proofs.Gathered.{Test, adds_as, adds_then}
use Rattle.ips_mend.specs.displaced.Displacing.{displaces_by}

abbrev Entries : Type 0
Entries = List (List ℕ × Entry)

abbrev pub paths_of : Entries → List (List ℕ)
paths_of entries = map (λ (x : List ℕ × Entry). x.0) entries

-- ---- the change of a path

told_at : {X A : Type 0} (g : X → A) (what : List ℕ → A) (xs : List X) (entries : Entries) (i : ℕ) (x : X) (p : List ℕ) (e : Entry) → map g xs ≡ map what (paths_of entries) → i < length xs → x ≡ get_or xs i x
    → slice_get entries i ≡ Some (p, e) → g x ≡ what p
told_at g what [] entries i x p e are lt is there = absurd (omega arith)
told_at g what (y ∷ xs) [] i x p e are lt is there = cc
told_at g what (y ∷ xs) (z ∷ entries) zero x p e are lt is there =
    let own : g y ≡ what z.0 = cc in
    let first : z ≡ (p, e) = cc in
    ap g is ∙ own ∙ ap (λ (w : List ℕ × Entry). what w.0) first
told_at g what (y ∷ xs) (z ∷ entries) (suc i) x p e are lt is there =
    let rest : map g xs ≡ map what (paths_of entries) = cc in
    told_at g what xs entries i x p e rest (omega (arith, lt)) is there

wanted_here : (entries : Entries) (i : ℕ) (p : List ℕ) (e : Entry) → slice_get entries i ≡ Some (p, e) → IsStrictlySortedBy (slice_cmp nat_cmp) (paths_of entries) → (want_of entries).at p ≡ Some (wanted_of e)
wanted_here entries i p e there order =
    let one : List ℕ × Entry = (p, e) in
    let get : one ≡ get_or entries i one = sym (get_or_from_slice_get entries i one one there) in
    found_at entries p e (sorted_once _ order) (subst (Contains entries) (sym get) (Contains-get_or entries i one (slice_get_within entries i one there)))

-- the test of a path by its change
pub displaces_here : {X : Type 0} (f : Repair) (t : Image) (entries : Entries) (i : ℕ) (p : List ℕ) (e : Entry) (g : X → Change) (xs : List X) (x : X) → f.want ≡ want_of entries → IsStrictlySortedBy (slice_cmp nat_cmp) (paths_of entries)
    → map g xs ≡ map (λ p. relinked_as f t p (f.want.at p)) f.want.keys → i < length xs → x ≡ get_or xs i x → slice_get entries i ≡ Some (p, e) → displaces_by p (wanted_of e) (g x) (t.look p) ≡ displaces f t p
displaces_here f t entries i p e g xs x is order are lt at there =
    let w = wanted_of e in
    let wanted : f.want.at p ≡ Some w = ap (λ (v : _). v.at p) is ∙ wanted_here entries i p e there order in
    let keyed : map g xs ≡ map (λ p. relinked_as f t p (f.want.at p)) (paths_of entries) = are ∙ ap (λ (v : _). map (λ p. relinked_as f t p (f.want.at p)) v.keys) is in
    let change : g x ≡ relinked_as f t p (Some w) = told_at g (λ p. relinked_as f t p (f.want.at p)) xs entries i x p e keyed lt at there ∙ ap (relinked_as f t p) wanted in
    ap (λ (c : Change). displaces_by p w c (t.look p)) change ∙ ap (λ (o : Option Wanted). not (covers records_name p) && displaces_as f t p o) (sym wanted)

-- ---- one path more

pub adds_entry : (t : Image) (g : List ℕ → Test) (entries : Entries) (i : ℕ) (p : List ℕ) (e : Entry) (old mid new : List Thing) → slice_get entries i ≡ Some (p, e)
    → Adds t (λ q. list_any (λ x. g x q) (paths_of (take i entries))) old mid → Adds t (g p) mid new → Adds t (λ q. list_any (λ x. g x q) (paths_of (take (i + 1) entries))) old new
adds_entry t g entries i p e old mid new there before last =
    let one : List ℕ × Entry = (p, e) in
    let more : paths_of (take (i + 1) entries) ≡ paths_of (take i entries) ++ p ∷ [] = map_item (λ (x : List ℕ × Entry). x.0) entries i one (slice_get_within entries i one there) (sym (get_or_from_slice_get entries i one one there)) in
    adds_as t (λ q. list_any (λ x. g x q) (paths_of (take i entries)) || g p q) (λ q. list_any (λ x. g x q) (paths_of (take (i + 1) entries))) old new
    (adds_then t (λ q. list_any (λ x. g x q) (paths_of (take i entries))) (g p) old mid new before last)
    (λ q stands. sym (ap (list_any (λ x. g x q)) more ∙ list_any-append (λ x. g x q) (paths_of (take i entries)) (p ∷ [])
    ∙ ap (λ (b : Bool). list_any (λ x. g x q) (paths_of (take i entries)) || b) (sym (or_false (g p q)))))

-- ---- all of them

pub displaced_are : (f : Repair) (t : Image) (q : List ℕ) → IsRepair f → (is_some (t.look q) && list_any (λ p. displaces f t p && covers p q) f.want.keys) ≡ is_displaced f t q
displaced_are f t q good = ap (λ (b : Bool). is_some (t.look q) && b) (both_ways down up)
  where
    some_as : (p : List ℕ) (o : Option Wanted) → displaces_as f t p o ≡ true → is_some o ≡ true
    some_as p (Some w) h = refl
    some_as p None h = cc

    down : list_any (λ p. displaces f t p && covers p q) f.want.keys ≡ true → reached (λ p. displaces f t p) q ≡ true
    down any =
        let x = any_of (λ p. displaces f t p && covers p q) f.want.keys any in
        let parts = and_parts (displaces f t x.path) (covers x.path q) x.holds in
        reached_from (λ p. displaces f t p) x.path q parts.1 parts.0

    up : reached (λ p. displaces f t p) q ≡ true → list_any (λ p. displaces f t p && covers p q) f.want.keys ≡ true
    up far =
        let z = reach_of (λ p. displaces f t p) q far in
        let parts = and_parts (not (covers records_name z.at)) (displaces_as f t z.at (f.want.at z.at)) z.holds in
        any_from (λ p. displaces f t p && covers p q) f.want.keys z.at (sym (good.want_fits.keyed z.at) ∙ some_as z.at (f.want.at z.at) parts.1) (and_from _ _ z.holds z.over)
