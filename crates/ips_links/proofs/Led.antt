-- Where hard links lead that are made, row by row.
use Rattle.std.proofs.Common.{◌≡◌, ℕ, ◌+◌, ◌<◌, Bool, true, false, ◌&&◌, ◌||◌, List, [], ◌∷◌, map, take, length, get_or, Option, Some, None, is_some, refl, sym, ◌∙◌, ap, inl, inr}
use Rattle.std.specs.List.{list_any}
use Rattle.std.proofs.lemmas.Bool.{and_parts, cases_Bool, false_from_ne_true}
use Rattle.std.proofs.lemmas.List.Folds.{list_any-append}
use Rattle.ips_text.specs.Ancestry.{same_path}
use Rattle.ips_text.proofs.Lists.{take_item}
use Rattle.ips_text.proofs.Truths.{or_false}
use Rattle.ips_outside.specs.Image.{Image}
use Rattle.ips_after.specs.After.{itself, leads_to}
use Rattle.ips_after.specs.Change.{makes}
use Rattle.ips_after.specs.Lists.{listed}
use Rattle.ips_after.specs.Request.{IsRequest, Request, WantDir, WantFile, WantHard, WantLink, Wanted}
use Rattle.ips_after.proofs.Fits.{any_from, any_of}
use Rattle.ips_steps.proofs.Lists.{clash, same_path-sym}
use Rattle.ips_change.specs.Told.{naming}
use Rattle.ips_change.specs.declared.survey.row.Row.{Row}
use Rattle.ips_change.specs.survey.Marks.{row_paths}
use Rattle.ips_change.proofs.survey.Marking.{map_same}
use Rattle.ips_change.specs.declared.survey.said.Said.{Said}
use Rattle.ips_change.specs.survey.Tables.{IsTable}
use Rattle.ips_change.proofs.survey.Filling.{rows_more}
use Rattle.ips_links.specs.Leading.{hard_to, is_led, is_that}

pub leads_that : (w : Option Wanted) (p : List ℕ) → leads_to p w ≡ is_that (hard_to w) p
leads_that (Some (WantDir m)) p = refl
leads_that (Some (WantFile payload m preserve)) p = refl
leads_that (Some (WantLink target)) p = refl
leads_that (Some (WantHard to)) p = refl
leads_that None p = refl

leads_wanted : (w : Option Wanted) (p : List ℕ) → leads_to p w ≡ true → is_some w ≡ true
leads_wanted (Some w) p h = refl
leads_wanted None p h = cc

-- ---- one row more

-- the hard link at this path is made and leads to the other
abbrev pub leads_at : Request → Image → List ℕ → List ℕ → Bool
leads_at r t h p = leads_to p (r.new.at h) && makes (itself (naming r) t h)

pub led_more : (r : Request) (t : Image) (rows : List Row) (i : ℕ) (row : Row) (paths : List (List ℕ)) → i < length rows → row ≡ get_or rows i row
    → map (λ p. is_led r t (row_paths (take i rows)) p || leads_at r t row.path.now.bytes p) paths ≡ map (is_led r t (row_paths (take (i + 1) rows))) paths
led_more r t rows i row paths lt is = map_same (λ p. is_led r t (row_paths (take i rows)) p || leads_at r t row.path.now.bytes p) (is_led r t (row_paths (take (i + 1) rows))) paths (λ p.
    sym (ap (λ (l : List Row). is_led r t (row_paths l) p) (take_item rows i row lt is)
    ∙ ap (λ (l : List (List ℕ)). is_led r t l p) (rows_more (take i rows) row)
    ∙ list_any-append (λ h. leads_at r t h p) (row_paths (take i rows)) (row.path.now.bytes ∷ [])
    ∙ ap (λ (b : Bool). is_led r t (row_paths (take i rows)) p || b) (sym (or_false (leads_at r t row.path.now.bytes p)))))

-- ---- all rows are as good as all wanted paths

pub same_any : (f : List ℕ → Bool) (xs ys : List (List ℕ)) → ((q : List ℕ) → f q ≡ true → listed xs q ≡ true → listed ys q ≡ true) → ((q : List ℕ) → f q ≡ true → listed ys q ≡ true → listed xs q ≡ true) → list_any f xs ≡ list_any f ys
same_any f xs ys to from = elim (cases_Bool (list_any f xs)) [
  | inl some ↦ let x = any_of f xs some in some ∙ sym (any_from f ys x.path (to x.path x.holds x.in_list) x.holds)
  | inr none ↦ none ∙ sym (false_from_ne_true _ (λ some.
      let y = any_of f ys some in
      let there = any_from f xs y.path (from y.path y.holds y.in_list) y.holds in
      let bad : true ≡ false = sym there ∙ none in absurd cc))
]

or_second : (a b c : Bool) → b ≡ true → (a || (b || c)) ≡ true
or_second true b c h = refl
or_second false true c h = refl
or_second false false c h = cc

-- a wanted path has a row
pub wanted_row : (r : Request) (rows : List Row) (said : List (Option Said)) (q : List ℕ) → IsTable r rows said → is_some (r.new.at q) ≡ true → listed (row_paths rows) q ≡ true
wanted_row r rows said q table is = table.covers q ∙ or_second (is_some (r.old.at q)) (is_some (r.new.at q)) (listed r.over.keys q) is

pub led_wanted : (r : Request) (t : Image) (rows : List Row) (said : List (Option Said)) (p : List ℕ) → IsRequest r → IsTable r rows said → is_led r t (row_paths rows) p ≡ is_led r t r.new.keys p
led_wanted r t rows said p good table = same_any (λ h. leads_at r t h p) (row_paths rows) r.new.keys
    (λ h leads there. sym (good.new_want.keyed h) ∙ wanted h leads)
    (λ h leads there. wanted_row r rows said h table (wanted h leads))
  where
    wanted : (h : List ℕ) → leads_at r t h p ≡ true → is_some (r.new.at h) ≡ true
    wanted h leads = leads_wanted (r.new.at h) p (and_parts (leads_to p (r.new.at h)) (makes (itself (naming r) t h)) leads).0

-- ---- marks where a hard link leads

swapped : (p q : List ℕ) → same_path p q ≡ same_path q p
swapped p q = elim (cases_Bool (same_path p q)) [
  | inl same ↦ same ∙ sym (same_path-sym p q same)
  | inr apart ↦ apart ∙ sym (false_from_ne_true _ (λ same. clash (same_path p q) (same_path-sym q p same) apart))
]

pub mark_led : (test f : List ℕ → Bool) (path to : List ℕ) (paths : List (List ℕ)) → path ≡ to → ((p : List ℕ) → same_path to p ≡ f p) → map (λ p. test p || same_path p path) paths ≡ map (λ p. test p || f p) paths
mark_led test f path to paths is leads = map_same (λ p. test p || same_path p path) (λ p. test p || f p) paths
    (λ p. ap (λ (b : Bool). test p || b) (ap (λ (x : List ℕ). same_path p x) is ∙ swapped p to ∙ leads p))
