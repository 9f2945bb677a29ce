-- Which paths are private.
use Rattle.std.proofs.Common.{◌≡◌, ℕ, Bool, true, false, ◌&&◌, eqb, List, [], ◌∷◌, length, take, refl, sym, ap}
use Rattle.std.specs.Cmp.Lexicographic.{pointwise}
use Rattle.ips_text.specs.Ancestry.{covers}
use Rattle.ips_steps.specs.Steps.{stage_name}
use Rattle.ips_steps.specs.Private.{journal_name, gate_name, mark_front, begins, is_private}

pub at_stage : (q : List ℕ) → covers stage_name q ≡ true → true ≡ is_private q
at_stage q e = rw e refl

pub at_journal : (q : List ℕ) → covers stage_name q ≡ false → covers journal_name q ≡ true → true ≡ is_private q
at_journal q e f = rw (e, f) refl

pub at_gate : (q : List ℕ) → covers stage_name q ≡ false → covers journal_name q ≡ false → covers gate_name q ≡ true → true ≡ is_private q
at_gate q e f g = rw (e, f, g) refl

begins_is : (p q : List ℕ) → begins p q ≡ pointwise eqb p (take (length p) q)
begins_is [] q = refl
begins_is (a ∷ p) [] = refl
begins_is (a ∷ p) (b ∷ q) = ap (λ (t : Bool). eqb a b && t) (begins_is p q)

pub at_mark : (q : List ℕ) → covers stage_name q ≡ false → covers journal_name q ≡ false → covers gate_name q ≡ false → pointwise eqb mark_front (take (length mark_front) q) ≡ is_private q
at_mark q e f g = rw (e, f, g) (sym (begins_is mark_front q))
