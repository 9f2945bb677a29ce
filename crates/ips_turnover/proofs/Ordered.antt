-- Fresh actions.
use Rattle.std.proofs.Common.{◌≡◌, ℕ, Bool, true, false, not, cond, ◌&&◌, List, [], ◌∷◌, filter, Vec, Global, refl, ap, ◌∙◌}
use Rattle.std.specs.List.{list_any}
use Rattle.std.specs.BTreeSet.{BTreeSet}
use Rattle.ips_action.specs.Attrs.{is_same}
use Rattle.ips_action.specs.Action.{Fields, line_text}
use Rattle.ips_turnover.specs.Turnover.{is_a, is_fresh}
use Rattle.ips_turnover.specs.Seen.{is_in, is_unlike}

pub fresh_are : (kind : List ℕ) (set : BTreeSet (Vec ℕ Global)) (olds new : List Fields) → ((line : List ℕ) → is_in set line ≡ list_any (λ o. is_same line (line_text o)) olds) → filter (is_unlike kind set) new ≡ filter (is_fresh olds) (filter (is_a kind) new)
fresh_are kind set olds [] has = refl
fresh_are kind set olds (a ∷ new) has = go (is_a kind a) (fresh_are kind set olds new has)
  where
    go : (t : Bool) → filter (is_unlike kind set) new ≡ filter (is_fresh olds) (filter (is_a kind) new)
        → cond (t && not (is_in set (line_text a))) (a ∷ filter (is_unlike kind set) new) (filter (is_unlike kind set) new) ≡ filter (is_fresh olds) (cond t (a ∷ filter (is_a kind) new) (filter (is_a kind) new))
    go true rest =
        ap (λ l. cond (not (is_in set (line_text a))) (a ∷ l) l) rest
        ∙ ap (λ (t : Bool). cond (not t) (a ∷ filter (is_fresh olds) (filter (is_a kind) new)) (filter (is_fresh olds) (filter (is_a kind) new))) (has (line_text a))
    go false rest = rest
