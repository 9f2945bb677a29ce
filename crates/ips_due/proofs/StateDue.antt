-- What a change of a state makes due hangs together.
use Rattle.std.proofs.Common.{◌≡◌, ℕ, ◌/◌, ◌%◌, Bool, true, false, cond, not, ◌||◌, ◌==◌, List, [], ◌∷◌, ◌++◌, map, Option, Some, None, is_some, refl, sym, ◌∙◌, ap, subst, inl, inr, arith}
use Rattle.std.specs.Prelude.{codes}
use Rattle.std.specs.List.{AllByRecursion, list_any}
use Rattle.std.specs.Fmt.{digit_glyph}
use Rattle.std.proofs.lemmas.Bool.{and_parts, or_cases, or_from, or_parts, or_left, not-true, eqb-true, false_from_ne_true}
use Rattle.std.proofs.lemmas.Option.{same_Some}
use Rattle.std.proofs.lemmas.List.Folds.{list_any-append}
use Rattle.ips_text.specs.Ancestry.{same_path, covers, is_below, parent, behind}
use Rattle.ips_text.specs.Quote.{is_plain, quoted, quoted_byte}
use Rattle.ips_text.proofs.Ancestry.{same_path-true, at_parent_of, covers_trans}
use Rattle.ips_steps.specs.Steps.{stage_name}
use Rattle.ips_steps.specs.Private.{records_name, journal_name, gate_name, mark_front, is_private}
use Rattle.ips_steps.proofs.Lists.{clash}
use Rattle.ips_index.specs.Rows.{IndexedValue}
use Rattle.ips_state.specs.State.{Installed, Recorded}
use Rattle.ips_state.specs.Records.{avoid_path, common_records, freeze_path, gone_stems, history_path, image_path, index_path, index_records, installed_path, listed_records, manifest_path, manifests_path, mediators_path, package_path, package_records, packages_path, records_by, records_of, taken_away, taken_by}
use Rattle.ips_after.specs.Lists.{listed}
use Rattle.ips_after.proofs.Fits.{at_listed}
use Rattle.ips_due.specs.Due.{Content, IsDue, is_own, own_records, record_at}
use Rattle.ips_due.specs.State.{renewed_by, state_due}

-- ---- quoted names

glyph_apart : (n : ℕ) → (digit_glyph true n == 47) ≡ false
glyph_apart n = grind arith

byte_apart : (b : ℕ) (t : Bool) → is_plain b ≡ t → list_any (λ x. x == 47) (quoted_byte b) ≡ false
byte_apart b true e = rw e (or_from (b == 47) false (false_from_ne_true _ (λ is. let slash : is_plain 47 ≡ true = ap is_plain (sym (eqb-true b 47 is)) ∙ e in absurd (cc))) refl)
byte_apart b false e = rw e (
    let low = or_from (digit_glyph true (b % 16) == 47) false (glyph_apart (b % 16)) refl in
    or_from (37 == 47) _ refl (or_from (digit_glyph true (b / 16) == 47) _ (glyph_apart (b / 16)) low))

-- a quoted name has no `/`
pub no_slash : (bytes : List ℕ) → list_any (λ x. x == 47) (quoted bytes) ≡ false
unfolding quoted
no_slash [] = refl
no_slash (b ∷ bytes) = list_any-append (λ x. x == 47) (quoted_byte b) (quoted bytes) ∙ or_from _ _ (byte_apart b (is_plain b) refl) (no_slash bytes)

parent_none : (x : List ℕ) → list_any (λ b. b == 47) x ≡ false → parent x ≡ None
parent_none [] h = refl
parent_none (a ∷ x) h =
    let parts = or_parts (a == 47) (list_any (λ b. b == 47) x) h in
    ap (behind a) (parent_none x parts.1) ∙ ap (λ (b : Bool). cond b (Some []) None) parts.0

-- the folder of a name is its parent
pub parent_of : (d x : List ℕ) → list_any (λ b. b == 47) x ≡ false → parent (d ++ 47 ∷ x) ≡ Some d
parent_of [] x h = ap (behind 47) (parent_none x h)
parent_of (a ∷ d) x h = ap (behind a) (parent_of d x h)

-- ---- where records stand

-- the folder of the packages' records: of format 1 where the flag tells so, else of format 2
abbrev pub home : Bool → List ℕ
home true = manifests_path
home false = packages_path

-- A record's path is the image's own and not private; it isn't at or above that folder.
record IsOff (d x : List ℕ) : Type 0 where
  own : is_below records_name x ≡ true
  seen : is_private x ≡ false
  off : covers x d ≡ false

-- What is above the path is at or above that folder.
abbrev IsUnder : List ℕ → List ℕ → Type 0
IsUnder d x = (p : List ℕ) → is_below p x ≡ true → covers p d ≡ true

under_parent : (d x up : List ℕ) → parent x ≡ Some up → covers up d ≡ true → IsUnder d x
under_parent d x up is over p below =
    let parts = and_parts (covers p x) (not (same_path p x)) below in
    let at = at_parent_of p x parts.0 (not-true _ parts.1) in
    covers_trans p up d (subst (λ (y : List ℕ). covers p y ≡ true) (same_Some at.dir up (sym at.is ∙ is)) at.up) over

pub own_folder : (f : Bool) → covers (codes "var/pkg") (home f) ≡ true
own_folder true = refl
own_folder false = refl

child_off : (f : Bool) (z : List ℕ) → IsOff (home f) (home f ++ 47 ∷ z)
unfolding records_name stage_name journal_name gate_name mark_front
child_off true z = record { own = refl; seen = refl; off = refl }
child_off false z = record { own = refl; seen = refl; off = refl }

pub covers_itself : (f : Bool) → covers (home f) (home f) ≡ true
covers_itself true = refl
covers_itself false = refl

child_under : (f : Bool) (s : List ℕ) → IsUnder (home f) (home f ++ 47 ∷ quoted s)
child_under f s = under_parent (home f) (home f ++ 47 ∷ quoted s) (home f) (parent_of (home f) (quoted s) (no_slash s)) (covers_itself f)

image_off : (f : Bool) → IsOff (home f) image_path
unfolding records_name stage_name journal_name gate_name mark_front
image_off true = record { own = refl; seen = refl; off = refl }
image_off false = record { own = refl; seen = refl; off = refl }

avoid_off : (f : Bool) → IsOff (home f) avoid_path
unfolding records_name stage_name journal_name gate_name mark_front
avoid_off true = record { own = refl; seen = refl; off = refl }
avoid_off false = record { own = refl; seen = refl; off = refl }

freeze_off : (f : Bool) → IsOff (home f) freeze_path
unfolding records_name stage_name journal_name gate_name mark_front
freeze_off true = record { own = refl; seen = refl; off = refl }
freeze_off false = record { own = refl; seen = refl; off = refl }

mediators_off : (f : Bool) → IsOff (home f) mediators_path
unfolding records_name stage_name journal_name gate_name mark_front
mediators_off true = record { own = refl; seen = refl; off = refl }
mediators_off false = record { own = refl; seen = refl; off = refl }

history_off : (f : Bool) → IsOff (home f) history_path
unfolding records_name stage_name journal_name gate_name mark_front
history_off true = record { own = refl; seen = refl; off = refl }
history_off false = record { own = refl; seen = refl; off = refl }

index_off : (f : Bool) → IsOff (home f) index_path
unfolding records_name stage_name journal_name gate_name mark_front
index_off true = record { own = refl; seen = refl; off = refl }
index_off false = record { own = refl; seen = refl; off = refl }

installed_off : (f : Bool) → IsOff (home f) installed_path
unfolding records_name stage_name journal_name gate_name mark_front
installed_off true = record { own = refl; seen = refl; off = refl }
installed_off false = record { own = refl; seen = refl; off = refl }

manifests_off : IsOff packages_path manifests_path
unfolding records_name stage_name journal_name gate_name mark_front
manifests_off = record { own = refl; seen = refl; off = refl }

packages_own : is_below records_name packages_path ≡ true
unfolding records_name
packages_own = refl

pub packages_seen : is_private packages_path ≡ false
unfolding stage_name journal_name gate_name mark_front
packages_seen = refl

-- ---- lists of records

abbrev Files : Type 0
Files = List (List ℕ × List ℕ)

pub all_append : {V : Type 0} (Q : List ℕ → Type 0) (xs ys : List (List ℕ × V)) → AllByRecursion (λ e. Q e.0) xs → AllByRecursion (λ e. Q e.0) ys → AllByRecursion (λ (e : List ℕ × V). Q e.0) (xs ++ ys)
all_append Q [] ys a b = b
all_append Q (x ∷ xs) ys a b = (a.0, all_append Q xs ys a.1 b)

-- what holds of the paths of files holds of them as records
pub own_all : (Q : List ℕ → Type 0) (files : Files) → AllByRecursion (λ (e : List ℕ × List ℕ). Q e.0) files → AllByRecursion (λ (e : List ℕ × Content). Q e.0) (own_records files)
own_all Q [] all = tt
own_all Q (e ∷ files) all = (all.0, own_all Q files all.1)

pub at_record : (Q : List ℕ → Type 0) (files : List (List ℕ × Content)) (q : List ℕ) → AllByRecursion (λ (e : List ℕ × Content). Q e.0) files → is_some (record_at files q) ≡ true → Q q
at_record Q [] q all h = cc
at_record Q (e ∷ files) q all h = go (same_path e.0 q) refl (at_record Q files q all.1) h
  where
    go : (c : Bool) → same_path e.0 q ≡ c → (is_some (record_at files q) ≡ true → Q q) → is_some (cond c (Some e.1) (record_at files q)) ≡ true → Q q
    go true same rest h = subst Q (same_path-true e.0 q same) all.0
    go false same rest h = rest h

module _ (f : Bool) where
  -- a record is off the folder, and what is above it is at or above that
  abbrev AtHome : List ℕ → Type 0
  AtHome x = IsOff (home f) x × IsUnder (home f) x

  fixed : (x : List ℕ) → IsOff (home f) x → parent x ≡ Some (codes "var/pkg") → AtHome x
  fixed x off is = (off, under_parent (home f) x (codes "var/pkg") is (own_folder f))

  index_all : (o : Option (List IndexedValue)) → AllByRecursion (λ (e : List ℕ × List ℕ). AtHome e.0) (index_records o)
  index_all None = cc
  index_all (Some rows) = (fixed index_path (index_off f) refl, cc)

  common_all : (r : Recorded) → AllByRecursion (λ (e : List ℕ × List ℕ). AtHome e.0) (common_records r)
  common_all r = (fixed image_path (image_off f) refl, (fixed avoid_path (avoid_off f) refl, (fixed freeze_path (freeze_off f) refl, (fixed mediators_path (mediators_off f) refl, (fixed history_path (history_off f) refl, index_all r.index)))))

  each_all : (path : List ℕ → List ℕ) (text : Installed → List ℕ) → ((s : List ℕ) → AtHome (path s)) → (ps : List Installed) → AllByRecursion (λ (e : List ℕ × List ℕ). AtHome e.0) (map (λ p. (path p.stem, text p)) ps)
  each_all path text at [] = cc
  each_all path text at (p ∷ ps) = (at p.stem, each_all path text at ps)

listed_all : (ps : List Installed) → AllByRecursion (λ (e : List ℕ × List ℕ). AtHome true e.0) (listed_records ps)
listed_all ps = (fixed true installed_path (installed_off true) refl, each_all true manifest_path _ (λ s. (child_off true (quoted s), child_under true s)) ps)

packages_all : (ps : List Installed) → AllByRecursion (λ (e : List ℕ × List ℕ). AtHome false e.0) (package_records ps)
packages_all ps = each_all false package_path _ (λ s. (child_off false (quoted s), child_under false s)) ps

records_all : (f : Bool) (r : Recorded) → AllByRecursion (λ (e : List ℕ × List ℕ). AtHome f e.0) (common_records r ++ records_by f r.installed)
records_all true r = all_append (AtHome true) (common_records r) (listed_records r.installed) (common_all true r) (listed_all r.installed)
records_all false r = all_append (AtHome false) (common_records r) (package_records r.installed) (common_all false r) (packages_all r.installed)

gone_all : (f : Bool) (path : List ℕ → List ℕ) → ((s : List ℕ) → IsOff (home f) (path s)) → (stems : List (List ℕ)) → AllByRecursion (IsOff (home f)) (map path stems)
gone_all f path at [] = cc
gone_all f path at (s ∷ stems) = (at s, gone_all f path at stems)

taken_all : (was is : Bool) (old new : List Installed) → AllByRecursion (IsOff (home is)) (taken_by was is old new)
taken_all true true old new = gone_all true manifest_path (λ s. child_off true (quoted s)) (gone_stems old new)
taken_all true false old new = (installed_off false, (manifests_off, cc))
taken_all false true old new = cc
taken_all false false old new = gone_all false package_path (λ s. child_off false (quoted s)) (gone_stems old new)

pub renewed_is : (was is : Bool) (q : List ℕ) → listed (renewed_by was is) q ≡ true → (q ≡ packages_path) × (is ≡ false)
renewed_is true true q h = cc
renewed_is true false q h = elim (or_cases (same_path packages_path q) false h) [ inl same ↦ (sym (same_path-true packages_path q same), refl) | inr none ↦ cc ]
renewed_is false true q h = cc
renewed_is false false q h = cc

module _ (old new : Recorded) where
  abbrev was : Bool
  was = old.format == 1

  abbrev is : Bool
  is = new.format == 1

  record_home : (q : List ℕ) → is_some (record_at (own_records (records_of new)) q) ≡ true → AtHome is q
  record_home q h = at_record (AtHome is) (own_records (records_of new)) q (own_all (AtHome is) (records_of new) (records_all is new)) h

  gone_off : (q : List ℕ) → listed (taken_away old new) q ≡ true → IsOff (home is) q
  gone_off q h = at_listed (IsOff (home is)) (taken_away old new) q (taken_all was is old.installed new.installed) h

  own_as : (q : List ℕ) → is_below records_name q ≡ true → is_private q ≡ false → (is_own q ≡ true) × (is_private q ≡ false)
  own_as q own seen = (or_left _ _ own, seen)

  own_at : (q : List ℕ) → (is_some (record_at (own_records (records_of new)) q) || (listed (renewed_by was is) q || (false || listed (taken_away old new) q))) ≡ true → (is_own q ≡ true) × (is_private q ≡ false)
  own_at q h = elim (or_cases (is_some (record_at (own_records (records_of new)) q)) _ h) [
    | inl record_due ↦ let at = (record_home q record_due).0 in own_as q at.own at.seen
    | inr more ↦ elim (or_cases (listed (renewed_by was is) q) _ more) [
      | inl renewed ↦ let at = (renewed_is was is q renewed).0 in own_as q (ap (is_below records_name) at ∙ packages_own) (ap is_private at ∙ packages_seen)
      | inr gone ↦ let at = gone_off q gone in own_as q at.own at.seen
    ]
  ]

  -- what is above what is due is at or above the folder of the packages' records
  up_home : (p q : List ℕ) → is_below p q ≡ true → (false || (is_some (record_at (own_records (records_of new)) q) || (listed (renewed_by was is) q || false))) ≡ true → covers p (home is) ≡ true
  up_home p q up h = elim (or_cases (is_some (record_at (own_records (records_of new)) q)) _ h) [
    | inl record_due ↦ (record_home q record_due).1 p up
    | inr more ↦ elim (or_cases (listed (renewed_by was is) q) false more) [
      | inl renewed ↦
          let at = renewed_is was is q renewed in
          ap (λ (f : Bool). covers p (home f)) at.1 ∙ ap (covers p) (sym at.0) ∙ (and_parts (covers p q) _ up).0
      | inr none ↦ cc
    ]
  ]

  pub state_is_due : IsDue (state_due old new)
  state_is_due = record {
    accounts = λ q h. cc;
    own = own_at;
    flat = λ p q up h. false_from_ne_true _ (λ bad. elim (or_cases (is_some (record_at (own_records (records_of new)) p)) (listed (taken_away old new) p) bad) [
      | inl record_due ↦ clash (covers p (home is)) (up_home p q up h) (record_home p record_due).0.off
      | inr gone ↦ clash (covers p (home is)) (up_home p q up h) (gone_off p gone).off
    ]);
  }
