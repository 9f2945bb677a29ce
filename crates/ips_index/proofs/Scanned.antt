-- The rows of a list of values, one value after another.
use Rattle.std.proofs.Common.{◌≡◌, ℕ, ◌+◌, Bool, true, false, cond, List, [], ◌∷◌, ◌++◌, take, refl, sym, ◌∙◌, ap, append_assoc, Some}
use Rattle.std.specs.Prelude.{slice_get}
use Rattle.std.specs.Option.{option_map_or}
use Rattle.std.specs.declared.vec.Vec.{Vec}
use Rattle.std.specs.declared.alloc.Global.{Global}
use Rattle.std.specs.BTreeMap.{get_by_text}
use Rattle.std.proofs.lemmas.Option.{slice_get_within, get_or_from_slice_get}
use Rattle.ips_text.proofs.Lists.{flat_item}
use Rattle.ips_action.specs.declared.kind.ActionKind.{ActionKind}
use Rattle.ips_action.specs.Attrs.{is_same}
use Rattle.ips_action.proofs.KeyOrder.{same_true}
use Rattle.ips_index.specs.Rows.{IndexedValue, rows_at, rows_in}
use Rattle.ips_index.specs.Entries.{Stems, listed_at}

pub values_more : (stem : List ℕ) (kind : ActionKind) (index : List ℕ) (first before after : List IndexedValue) (values : List (List ℕ)) (i : ℕ) (value : List ℕ) → slice_get values i ≡ Some value → before ≡ first ++ rows_in stem kind index (take i values)
    → after ≡ before ++ rows_at stem kind index value → after ≡ first ++ rows_in stem kind index (take (i + 1) values)
values_more stem kind index first before after values i value found so_far pushed =
    pushed ∙ ap (λ (l : List IndexedValue). l ++ rows_at stem kind index value) so_far ∙ append_assoc first (rows_in stem kind index (take i values)) (rows_at stem kind index value)
    ∙ ap (λ (l : List IndexedValue). first ++ l) (sym (flat_item (rows_at stem kind index) values i value (slice_get_within values i value found) (sym (get_or_from_slice_get values i value value found))))

-- a row that is listed behind those of its stem
pub listed_more : (old mid new : Stems) (stem : List ℕ) (row : IndexedValue) (before : List IndexedValue) (pushed : Vec IndexedValue Global) → before ≡ listed_at old stem → ((q : List ℕ) → is_same stem q ≡ false → listed_at mid q ≡ listed_at old q)
    → pushed.items ≡ before ++ row ∷ [] → ((q : List ℕ) → get_by_text new q ≡ cond (is_same stem q) (Some pushed) (get_by_text mid q)) → (q : List ℕ) → listed_at new q ≡ cond (is_same stem q) (listed_at old q ++ row ∷ []) (listed_at old q)
listed_more old mid new stem row before pushed taken others items inserted q = go (is_same stem q) refl (inserted q)
  where
    go : (t : Bool) → is_same stem q ≡ t → get_by_text new q ≡ cond t (Some pushed) (get_by_text mid q) → listed_at new q ≡ cond t (listed_at old q ++ row ∷ []) (listed_at old q)
    go true same e = ap (λ (o : _). option_map_or (λ rows. rows.items) o []) e ∙ items ∙ ap (λ (l : List IndexedValue). l ++ row ∷ []) (taken ∙ ap (listed_at old) (same_true stem q same))
    go false same e = ap (λ (o : _). option_map_or (λ rows. rows.items) o []) e ∙ others q same
