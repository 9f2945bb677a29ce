-- The parts of a step, read from the fields of its line.
use Rattle.std.proofs.Common.{◌≡◌, ℕ, ◌^◌, ◌<◌, ◌≤◌, Bool, true, false, List, ◌∷◌, ◌++◌, length, Result, Ok, Err, OnOk, sym, ap, ◌∙◌, subst, arith}
use Rattle.std.specs.Prelude.{is_ok, IsOk}
use Rattle.std.specs.Fmt.{decimal}
use Rattle.std.proofs.lemmas.Bool.{true≢false}
use Rattle.ips_text.specs.Path.{IsPath}
use Rattle.ips_text.specs.Quote.{AreBytes, quoted, shown}
use Rattle.ips_steps.specs.Targets.{IsTarget}
use Rattle.ips_journal.specs.Text.{mode_text}
use Rattle.ips_journal.specs.Escape.{escaped}
use Rattle.ips_text.specs.Cut.{has_byte, IsCut}
use Rattle.ips_text.proofs.Bytes.{path_bytes}
use Rattle.ips_journal.proofs.Escapes.{escaped_apart, escaped_quoted, escaped_shown}
use Rattle.ips_journal.proofs.StepLines.{two_fields, mode_whole, path_whole, number_whole, target_short}
use Rattle.ips_outside.proofs.Rooms.{path_fits}

pub on_ok : {T E : Type 0} (r : Result T E) (b : Bool) (P : Type 0) → b ≡ is_ok r → b ≡ true → OnOk r P → P
on_ok (Ok x) b P e t h = h
on_ok (Err f) b P e t h = absurd cc

pub not_ok : {T E : Type 0} (r : Result T E) (b : Bool) → b ≡ is_ok r → b ≡ false → IsOk r → ⊥
not_ok r b e f ok = true≢false (sym ok ∙ sym e ∙ f)

module _ (bytes list : List ℕ) where
  pub path_told : (p : List ℕ) → bytes ≡ escaped true list → p ≡ list → bytes ≡ shown p
  path_told p e same = e ∙ ap (escaped true) (sym same) ∙ escaped_shown p

  pub one_path : (p : List ℕ) → AreBytes list → bytes ≡ escaped true list → IsPath p → bytes ≡ shown p → IsPath list
  one_path p are told h e = subst IsPath (escaped_apart true p list (path_bytes p h) are (escaped_shown p ∙ sym e ∙ told)) h

  pub target_told : (t : List ℕ) → bytes ≡ escaped false list → t ≡ list → bytes ≡ quoted t
  target_told t e same = e ∙ ap (escaped false) (sym same) ∙ escaped_quoted t

  pub one_target : (t : List ℕ) → AreBytes list → bytes ≡ escaped false list → IsTarget t → AreBytes t → bytes ≡ quoted t → IsTarget list
  one_target t are told h ht e = subst IsTarget (escaped_apart false t list ht are (escaped_quoted t ∙ sym e ∙ told)) h

-- where the bytes are no escaped form of what there is room for, they are no path's
pub no_path : (bytes : List ℕ) (room : ℕ) → 4095 ≤ room → ((list : List ℕ) → AreBytes list → length list ≤ room → bytes ≡ escaped true list → ⊥) → (p : List ℕ) → IsPath p → bytes ≡ shown p → ⊥
no_path bytes room le none p h e = none p (path_bytes p h) (omega (arith, path_fits p h)) (e ∙ sym (escaped_shown p))

pub no_target : (bytes : List ℕ) (room : ℕ) → 4095 ≤ room → ((list : List ℕ) → AreBytes list → length list ≤ room → bytes ≡ escaped false list → ⊥) → (t : List ℕ) → IsTarget t → AreBytes t → bytes ≡ quoted t → ⊥
no_target bytes room le none t h ht e = none t ht (omega (arith, target_short t h)) (e ∙ sym (escaped_quoted t))

-- ---- the fields of a cut

cut_fields : (fields first second x a : List ℕ) → IsCut 32 fields first second → has_byte 32 x ≡ false → fields ≡ x ++ 32 ∷ a → (first ≡ x) × (second ≡ a)
cut_fields fields first second x a cut hx e = two_fields first second x a cut.first_lacks hx (sym cut.parts ∙ e)

module _ (fields first second : List ℕ) (cut : IsCut 32 fields first second) where
  pub by_mode : (m : ℕ) (a : List ℕ) → fields ≡ mode_text m ++ 32 ∷ a → (first ≡ mode_text m) × (second ≡ a)
  by_mode m a e = cut_fields fields first second (mode_text m) a cut (mode_whole m) e

  pub by_number : (n : ℕ) (a : List ℕ) → n < 2 ^ 64 → fields ≡ decimal n ++ 32 ∷ a → (first ≡ decimal n) × (second ≡ a)
  by_number n a lt e = cut_fields fields first second (decimal n) a cut (number_whole n lt) e

  pub by_path : (p a : List ℕ) → IsPath p → fields ≡ shown p ++ 32 ∷ a → (first ≡ shown p) × (second ≡ a)
  by_path p a h e = cut_fields fields first second (shown p) a cut (path_whole p h) e
