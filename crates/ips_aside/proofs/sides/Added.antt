-- Files beside paths, one after another.
use Rattle.std.proofs.Common.{◌≡◌, ℕ, ◌+◌, ◌<◌, Bool, true, false, cond, List, [], ◌∷◌, ◌++◌, Option, Some, None, get_or, length, take, is_some, refl, sym, ◌∙◌, ap, subst}
use Rattle.std.specs.List.{AllByRecursion, filter}
use Rattle.std.specs.Option.{option_map}
use Rattle.std.proofs.lemmas.List.{append-nil, map-append}
use Rattle.std.proofs.lemmas.List.Elements.{filter-append}
use Rattle.ips_text.proofs.Lists.{take_item}
use Rattle.ips_outside.specs.Image.{Image}
use Rattle.ips_after.specs.Request.{Request}
use Rattle.ips_after.specs.Salvage.{side_at}
use Rattle.ips_change.specs.declared.survey.row.Row.{Row}
use Rattle.ips_change.specs.survey.Marks.{row_paths}
use Rattle.ips_change.proofs.survey.Filling.{rows_more}
use Rattle.ips_aside.specs.declared.sides.side.Side.{Side}
use Rattle.ips_aside.specs.sides.Sides.{AddsSides, AreSides, IsSide, has_side, side_paths}

one_passes : (test : List ℕ → Bool) (p : List ℕ) → test p ≡ true → filter test (p ∷ []) ≡ p ∷ []
one_passes test p e = ap (λ (b : Bool). cond b (p ∷ []) []) e

none_passes : (test : List ℕ → Bool) (p : List ℕ) → test p ≡ false → filter test (p ∷ []) ≡ []
none_passes test p e = ap (λ (b : Bool). cond b (p ∷ []) []) e

one_side : (r : Request) (t : Image) (sides : List Side) (s : Side) → AllByRecursion (IsSide r t) sides → IsSide r t s → AllByRecursion (IsSide r t) (sides ++ s ∷ [])
one_side r t [] s all one = (one, tt)
one_side r t (x ∷ sides) s all one = (all.0, one_side r t sides s all.1 one)

pub nothing_added : (r : Request) (t : Image) (old : List Side) → AddsSides r t [] old old
nothing_added r t old = record { paths_are = sym (append-nil (side_paths old)); each = λ all. all }

pub no_side_added : (r : Request) (t : Image) (p : List ℕ) (old : List Side) → None ≡ side_at r t p → AddsSides r t (p ∷ []) old old
no_side_added r t p old none = record {
  paths_are = sym (ap (λ (l : List (List ℕ)). side_paths old ++ l) (none_passes (has_side r t) p (sym (ap is_some none))) ∙ append-nil (side_paths old));
  each = λ all. all;
}

pub side_added : (r : Request) (t : Image) (old new : List Side) (s : Side) → new ≡ old ++ s ∷ [] → IsSide r t s → AddsSides r t (s.path.now.bytes ∷ []) old new
side_added r t old new s is side = record {
  paths_are = ap side_paths is ∙ map-append (λ (x : Side). x.path.now.bytes) old (s ∷ []) ∙ ap (λ (l : List (List ℕ)). side_paths old ++ l) (sym (one_passes (has_side r t) s.path.now.bytes (ap is_some side.is)));
  each = λ all. subst (AllByRecursion (IsSide r t)) (sym is) (one_side r t old s all side);
}

assoc : (a b c : List (List ℕ)) → (a ++ b) ++ c ≡ a ++ (b ++ c)
assoc [] b c = refl
assoc (x ∷ a) b c = ap (λ (l : List (List ℕ)). x ∷ l) (assoc a b c)

adds_then : (r : Request) (t : Image) (ps qs : List (List ℕ)) (old mid new : List Side) → AddsSides r t ps old mid → AddsSides r t qs mid new → AddsSides r t (ps ++ qs) old new
adds_then r t ps qs old mid new first last = record {
  paths_are = last.paths_are ∙ ap (λ (l : List (List ℕ)). l ++ filter (has_side r t) qs) first.paths_are ∙ assoc (side_paths old) (filter (has_side r t) ps) (filter (has_side r t) qs)
      ∙ ap (λ (l : List (List ℕ)). side_paths old ++ l) (sym (filter-append (has_side r t) ps qs));
  each = λ all. last.each (first.each all);
}

-- the files of one row more
pub one_more_row : (r : Request) (t : Image) (rows : List Row) (i : ℕ) (row : Row) (old mid new : List Side) → i < length rows → row ≡ get_or rows i row
    → AddsSides r t (row_paths (take i rows)) old mid → AddsSides r t (row.path.now.bytes ∷ []) mid new → AddsSides r t (row_paths (take (i + 1) rows)) old new
one_more_row r t rows i row old mid new lt is before one =
    subst (λ (l : List (List ℕ)). AddsSides r t l old new) (sym (ap row_paths (take_item rows i row lt is) ∙ rows_more (take i rows) row))
    (adds_then r t (row_paths (take i rows)) (row.path.now.bytes ∷ []) old mid new before one)

pub from_none : (r : Request) (t : Image) (paths : List (List ℕ)) (old new : List Side) → old ≡ [] → AddsSides r t paths old new → AreSides r t paths new
from_none r t paths old new none adds = record {
  paths_are = adds.paths_are ∙ ap (λ (l : List Side). side_paths l ++ filter (has_side r t) paths) none;
  each = adds.each (subst (AllByRecursion (IsSide r t)) (sym none) tt);
}

-- where there is no file, none is added
pub no_put : {X Y : Type 0} (f : X → Y) (o : Option X) → ((x : X) → o ≡ Some x → ⊥) → None ≡ option_map f o
no_put f (Some x) never = absurd (never x refl)
no_put f None never = refl
