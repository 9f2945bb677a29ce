-- Strays of one row after another, and whether a path has a row.
use Rattle.std.proofs.Common.{◌≡◌, ℕ, zero, suc, ◌+◌, ◌<◌, Bool, true, false, ◌||◌, List, [], ◌∷◌, Option, Some, None, get_or, length, take, is_some, refl, sym, ◌∙◌, ap}
use Rattle.std.specs.Prelude.{IfNone, IfSome, slice_get}
use Rattle.std.specs.List.{list_any}
use Rattle.ips_text.specs.Ancestry.{same_path}
use Rattle.ips_text.proofs.Ancestry.{same_path-self}
use Rattle.ips_text.proofs.Lists.{take_item}
use Rattle.ips_text.proofs.Truths.{or_false}
use Rattle.std.proofs.lemmas.List.Folds.{list_any-append}
use Rattle.ips_outside.specs.Image.{Image}
use Rattle.ips_after.specs.Lists.{listed}
use Rattle.ips_change.specs.declared.survey.row.Row.{Row}
use Rattle.ips_change.specs.survey.Marks.{row_paths}
use Rattle.ips_change.proofs.survey.Filling.{rows_more}
use Rattle.ips_found.specs.declared.found.Thing.{Thing}
use Rattle.ips_strays.specs.Strays.{Adds}
use Rattle.ips_strays.proofs.Gathered.{Test, adds_as, adds_then}

-- the path that stands at a place of a list is in it
placed : (paths : List (List ℕ)) (path : List ℕ) (i : ℕ) → slice_get paths i ≡ Some path → true ≡ listed paths path
placed [] path i is = cc
placed (p ∷ paths) path zero is = ap (λ (b : Bool). b || listed paths path) (sym (same_path-self path)) ∙ ap (λ (q : List ℕ). same_path q path || listed paths path) (sym (same_Some p path is))
  where
    same_Some : (a b : List ℕ) → Some a ≡ Some b → a ≡ b
    same_Some a b e = cc
placed (p ∷ paths) path (suc i) is = go (same_path p path) (placed paths path i is)
  where
    go : (b : Bool) → true ≡ listed paths path → true ≡ (b || listed paths path)
    go true h = refl
    go false h = h

pub found_listed : (paths : List (List ℕ)) (path : List ℕ) (o : Option ℕ) → IfSome o (λ i. slice_get paths i ≡ Some path) → IfNone o (listed paths path ≡ false) → is_some o ≡ listed paths path
found_listed paths path (Some i) is none = placed paths path i is
found_listed paths path None is none = sym none

-- what is added at one more row
pub adds_row : (t : Image) (f : List ℕ → Test) (rows : List Row) (i : ℕ) (row : Row) (old mid new : List Thing) → i < length rows → row ≡ get_or rows i row
    → Adds t (λ q. list_any (λ p. f p q) (row_paths (take i rows))) old mid → Adds t (f row.path.now.bytes) mid new → Adds t (λ q. list_any (λ p. f p q) (row_paths (take (i + 1) rows))) old new
adds_row t f rows i row old mid new lt is before one =
    adds_as t (λ q. list_any (λ p. f p q) (row_paths (take i rows)) || f row.path.now.bytes q) (λ q. list_any (λ p. f p q) (row_paths (take (i + 1) rows))) old new
    (adds_then t (λ q. list_any (λ p. f p q) (row_paths (take i rows))) (f row.path.now.bytes) old mid new before one)
    (λ q there. sym (ap (λ (l : List Row). list_any (λ p. f p q) (row_paths l)) (take_item rows i row lt is) ∙ ap (list_any (λ p. f p q)) (rows_more (take i rows) row)
    ∙ list_any-append (λ p. f p q) (row_paths (take i rows)) (row.path.now.bytes ∷ []) ∙ ap (λ (b : Bool). list_any (λ p. f p q) (row_paths (take i rows)) || b) (sym (or_false (f row.path.now.bytes q)))))
