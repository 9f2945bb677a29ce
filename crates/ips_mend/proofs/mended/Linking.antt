-- Files that hard links need, and the hard links of files that are laid.
use Rattle.std.proofs.Common.{◌≡◌, ℕ, ◌+◌, ◌<◌, Bool, true, false, not, ◌&&◌, ◌||◌, List, [], ◌∷◌, map, take, length, get_or, Option, Some, None, is_some, refl, sym, ◌∙◌, ap}
use Rattle.std.proofs.lemmas.Bool.{and_parts, or_from, false_from_ne_true}
use Rattle.std.proofs.lemmas.List.Folds.{list_any-append}
use Rattle.ips_text.proofs.Lists.{take_item}
use Rattle.ips_text.proofs.Truths.{or_false}
use Rattle.ips_text.proofs.Ancestry.{same_path-true}
use Rattle.ips_outside.specs.Image.{Image, is_file}
use Rattle.ips_after.specs.After.{leads_to}
use Rattle.ips_after.specs.Change.{Change, makes}
use Rattle.ips_after.specs.Findings.{Damage}
use Rattle.ips_after.specs.Lists.{listed}
use Rattle.ips_after.specs.Repaired.{IsRepair, Repair, found, is_lacking, is_relaid, mended, mended_as}
use Rattle.ips_after.specs.Request.{WantDir, WantFile, WantHard, WantLink, Wanted, is_file_wanted}
use Rattle.ips_after.proofs.Fits.{any_of}
use Rattle.ips_change.specs.declared.survey.row.Row.{Row}
use Rattle.ips_change.specs.survey.Marks.{row_paths}
use Rattle.ips_change.specs.survey.Rows.{row_pair}
use Rattle.ips_change.proofs.survey.Marking.{map_same}
use Rattle.ips_change.proofs.survey.Filling.{rows_more}
use Rattle.ips_after.proofs.Unseen.{and_second}
use Rattle.ips_mend.specs.mended.Mending.{lacks, links_among}

-- ---- one row more

pub links_more : (f : Repair) (t : Image) (rows : List Row) (i : ℕ) (row : Row) (own : Change) (paths : List (List ℕ)) → i < length rows → row ≡ get_or rows i row
    → (row_pair row).wanted ≡ f.want.at row.path.now.bytes → own ≡ mended f t row.path.now.bytes
    → map (λ p. links_among f t (row_paths (take i rows)) p || (leads_to p (row_pair row).wanted && makes own)) paths ≡ map (links_among f t (row_paths (take (i + 1) rows))) paths
links_more f t rows i row own paths lt is at by = map_same (λ p. links_among f t (row_paths (take i rows)) p || (leads_to p (row_pair row).wanted && makes own)) (links_among f t (row_paths (take (i + 1) rows))) paths (λ p.
    ap (λ (w : Option Wanted). links_among f t (row_paths (take i rows)) p || (leads_to p w && makes own)) at
    ∙ ap (λ (c : Change). links_among f t (row_paths (take i rows)) p || (leads_to p (f.want.at row.path.now.bytes) && makes c)) by
    ∙ sym (ap (λ (l : List Row). links_among f t (row_paths l) p) (take_item rows i row lt is)
    ∙ ap (λ (l : List (List ℕ)). links_among f t l p) (rows_more (take i rows) row)
    ∙ list_any-append (λ h. leads_to p (f.want.at h) && makes (mended f t h)) (row_paths (take i rows)) (row.path.now.bytes ∷ [])
    ∙ ap (λ (b : Bool). links_among f t (row_paths (take i rows)) p || b) (sym (or_false (leads_to p (f.want.at row.path.now.bytes) && makes (mended f t row.path.now.bytes))))))

-- ---- what lacks a file

pub lacks_here : (f : Repair) (t u : Image) (paths : List (List ℕ)) (p : List ℕ) (own : Change) (led marked : Bool) → u ≡ t → paths ≡ f.want.keys → marked ≡ (not (makes own) && (not (is_file (u.look p)) && led))
    → own ≡ mended f t p → led ≡ links_among f t paths p → marked ≡ lacks f t p
lacks_here f t u paths p own led marked same keys is by leads =
    is ∙ ap (λ (x : Image). not (makes own) && (not (is_file (x.look p)) && led)) same ∙ ap (λ (c : Change). not (makes c) && (not (is_file (t.look p)) && led)) by
    ∙ ap (λ (b : Bool). not (makes (mended f t p)) && (not (is_file (t.look p)) && b)) (leads ∙ ap (λ (l : List (List ℕ)). links_among f t l p) keys)

-- ---- where a file is laid

either : (l m : Bool) → ((not m && l) || m) ≡ (l || m)
either true true = refl
either true false = refl
either false true = refl
either false false = refl

pub relaid_here : (f : Repair) (t : Image) (p : List ℕ) (own : Change) (marked : Bool) → marked ≡ lacks f t p → own ≡ mended f t p → (marked || makes own) ≡ is_relaid f t p
relaid_here f t p own marked lacking by =
    ap (λ (b : Bool). b || makes own) lacking ∙ ap (λ (c : Change). lacks f t p || makes c) by ∙ either (is_lacking f t p) (makes (mended f t p))

-- nothing is laid where nothing is wanted
record IsUnwanted (bytes : List ℕ → List ℕ) (o : Option Wanted) (d : Option Damage) : Type 0 where
  file : is_file_wanted o ≡ false
  kept : makes (mended_as bytes o d) ≡ false

unwanted : (bytes : List ℕ → List ℕ) (o : Option Wanted) (d : Option Damage) → is_some o ≡ false → IsUnwanted bytes o d
unwanted bytes None d h = record { file = refl; kept = refl }
unwanted bytes (Some w) d h = cc

hard_at : (w : Option Wanted) (p : List ℕ) → leads_to p w ≡ true → w ≡ Some (WantHard p)
hard_at (Some (WantHard to)) p h = ap (λ (x : List ℕ). Some (WantHard x)) (same_path-true to p h)
hard_at (Some (WantDir m)) p h = cc
hard_at (Some (WantFile payload m preserve)) p h = cc
hard_at (Some (WantLink target)) p h = cc
hard_at None p h = cc

-- no file is laid at a path that isn't wanted
pub relaid_none : (f : Repair) (t : Image) (q : List ℕ) → IsRepair f → listed f.want.keys q ≡ false → is_relaid f t q ≡ false
relaid_none f t q good apart =
    let none = unwanted f.bytes (f.want.at q) (found f t q) (good.want_fits.keyed q ∙ apart) in
    or_from _ _ (and_second true (not (is_file (t.look q))) _ (false_from_ne_true _ (λ led.
    let x = any_of (λ h. leads_to q (f.want.at h) && makes (mended f t h)) f.want.keys led in
    let parts = and_parts (leads_to q (f.want.at x.path)) (makes (mended f t x.path)) x.holds in
    let file : is_file_wanted (f.want.at q) ≡ true = good.hards x.path q (hard_at (f.want.at x.path) q parts.0) in
    let bad : true ≡ false = sym file ∙ none.file in absurd cc))) none.kept
