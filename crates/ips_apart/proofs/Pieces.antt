-- What stands between fixed pieces of a text is told by the whole.
use Rattle.std.proofs.Common.{◌≡◌, ℕ, ◌<◌, ◌^◌, Bool, true, false, eqb, List, [], ◌∷◌, ◌++◌, refl, sym, ap, subst, ◌∙◌, arith}
use Rattle.std.specs.Char.{digit_value}
use Rattle.std.specs.Fmt.{decimal}
use Rattle.std.specs.Str.Parse.{AllDigits}
use Rattle.std.proofs.lemmas.Bool.{eqb-true}
use Rattle.std.proofs.lemmas.Fmt.{decimal_injective, decimal_is_IsNumeral}
use Rattle.std.proofs.lemmas.List.{append_assoc, append_cancel_left, append_cancel_right}
use Rattle.ips_text.specs.Cut.{has_byte}
use Rattle.ips_text.proofs.Cuts.{cut_once, lacks_append, not_cut}
use Rattle.ips_report.specs.Report.{behind_blanks, line, prefixed_lines}
use Rattle.ips_apart.specs.Kind.{AllLack}

-- ---- a text with fixed pieces around others

-- the pieces, each behind the next
nested : (front a mid b : List ℕ) → front ++ a ++ mid ++ b ≡ front ++ (a ++ (mid ++ b))
nested front a mid b = append_assoc (front ++ a) mid b ∙ append_assoc front a (mid ++ b)

pub one_piece : (front a b : List ℕ) → line (front ++ a) ≡ line (front ++ b) → a ≡ b
one_piece front a b e = append_cancel_left front a b (append_cancel_right (front ++ a) (front ++ b) (10 ∷ []) e)

-- two pieces, of which the first lacks the byte behind it
pub two_pieces : (x : ℕ) (front a mid b c d : List ℕ) → has_byte x a ≡ false → has_byte x c ≡ false → line (front ++ a ++ x ∷ mid ++ b) ≡ line (front ++ c ++ x ∷ mid ++ d) → (a ≡ c) × (b ≡ d)
two_pieces x front a mid b c d ha hc e =
    let inner = append_cancel_right (front ++ a ++ x ∷ mid ++ b) (front ++ c ++ x ∷ mid ++ d) (10 ∷ []) e in
    let right : a ++ (x ∷ (mid ++ b)) ≡ c ++ (x ∷ (mid ++ d)) = append_cancel_left front (a ++ (x ∷ (mid ++ b))) (c ++ (x ∷ (mid ++ d))) (sym (nested front a (x ∷ mid) b) ∙ inner ∙ nested front c (x ∷ mid) d) in
    let parts = cut_once x a (mid ++ b) c (mid ++ d) ha hc right in
    (parts.0, append_cancel_left mid b d parts.1)

-- bytes cut where a byte stands last
pub cut_last : (x : ℕ) (a b c d : List ℕ) → has_byte x b ≡ false → has_byte x d ≡ false → a ++ x ∷ b ≡ c ++ x ∷ d → (a ≡ c) × (b ≡ d)
cut_last x [] b [] d hb hd e = (refl, cc)
cut_last x [] b (k ∷ c) d hb hd e = absurd (not_cut x b c d hb cc)
cut_last x (k ∷ a) b [] d hb hd e = absurd (not_cut x d a b hd cc)
cut_last x (k ∷ a) b (j ∷ c) d hb hd e =
    let parts = cut_last x a b c d hb hd cc in
    let heads : k ≡ j = cc in
    (rw (heads, parts.0) refl, parts.1)

-- two pieces, of which the second lacks the byte before it
pub two_pieces_last : (x : ℕ) (front a mid b c d : List ℕ) → has_byte x b ≡ false → has_byte x d ≡ false → line (front ++ a ++ (mid ++ x ∷ []) ++ b) ≡ line (front ++ c ++ (mid ++ x ∷ []) ++ d) → (a ≡ c) × (b ≡ d)
two_pieces_last x front a mid b c d hb hd e =
    let inner = append_cancel_right (front ++ a ++ (mid ++ x ∷ []) ++ b) (front ++ c ++ (mid ++ x ∷ []) ++ d) (10 ∷ []) e in
    let right : a ++ (mid ++ x ∷ [] ++ b) ≡ c ++ (mid ++ x ∷ [] ++ d) = append_cancel_left front (a ++ (mid ++ x ∷ [] ++ b)) (c ++ (mid ++ x ∷ [] ++ d)) (sym (nested front a (mid ++ x ∷ []) b) ∙ inner ∙ nested front c (mid ++ x ∷ []) d) in
    let parts = cut_last x (a ++ mid) b (c ++ mid) d hb hd (gathered a b ∙ right ∙ sym (gathered c d)) in
    (append_cancel_right a c mid parts.0, parts.1)
  where
    gathered : (a b : List ℕ) → a ++ mid ++ x ∷ b ≡ a ++ (mid ++ x ∷ [] ++ b)
    gathered a b = append_assoc a mid (x ∷ b) ∙ ap (λ (l : List ℕ). a ++ l) (sym (append_assoc mid (x ∷ []) b))

-- ---- numbers

-- a byte that is no digit
pub is_no_digit : ℕ → Type 0
is_no_digit x = (d : ℕ) → digit_value d < 10 → eqb d x ≡ false

digits_lack : (x : ℕ) → is_no_digit x → (ds : List ℕ) → AllDigits 10 ds → has_byte x ds ≡ false
unfolding is_no_digit
digits_lack x h [] all = refl
digits_lack x h (d ∷ ds) all = rw (h d all.0, digits_lack x h ds all.1) refl

pub number_lacks : (x n : ℕ) → is_no_digit x → n < 2 ^ 64 → has_byte x (decimal n) ≡ false
number_lacks x n h fits = digits_lack x h (decimal n) (decimal_is_IsNumeral n fits).0.1

no_digit : (x d : ℕ) (t : Bool) → (digit_value x < 10 → ⊥) → eqb d x ≡ t → digit_value d < 10 → t ≡ false
no_digit x d true other e lt = let P : ℕ → Type 0 = λ k. digit_value k < 10 in absurd (other (subst P (eqb-true d x e) lt))
no_digit x d false other e lt = refl

pub colon : is_no_digit 58
unfolding is_no_digit
colon d lt = no_digit 58 d (eqb d 58) (λ h. omega (arith, h)) refl lt

pub comma : is_no_digit 44
unfolding is_no_digit
comma d lt = no_digit 44 d (eqb d 44) (λ h. omega (arith, h)) refl lt

pub blank : is_no_digit 32
unfolding is_no_digit
blank d lt = no_digit 32 d (eqb d 32) (λ h. omega (arith, h)) refl lt

pub newline : is_no_digit 10
unfolding is_no_digit
newline d lt = no_digit 10 d (eqb d 10) (λ h. omega (arith, h)) refl lt

-- a number with such a byte behind it
pub number_before : (x m n : ℕ) (a b : List ℕ) → is_no_digit x → m < 2 ^ 64 → n < 2 ^ 64 → decimal m ++ x ∷ a ≡ decimal n ++ x ∷ b → (m ≡ n) × (a ≡ b)
number_before x m n a b h hm hn e =
    let parts = cut_once x (decimal m) a (decimal n) b (number_lacks x m h hm) (number_lacks x n h hn) e in
    (decimal_injective m n hm hn parts.0, parts.1)

-- ---- words and lines

pub words_apart : (ws vs : List (List ℕ)) → AllLack 32 ws → AllLack 32 vs → behind_blanks ws ≡ behind_blanks vs → ws ≡ vs
words_apart [] [] hw hv e = refl
words_apart [] (v ∷ vs) hw hv e = cc
words_apart (w ∷ ws) [] hw hv e = cc
words_apart (w ∷ ws) (v ∷ vs) hw hv e =
    let parts = first_word ws vs cc in
    rw (parts.0, words_apart ws vs hw.1 hv.1 parts.1) refl
  where
    first_word : (ws vs : List (List ℕ)) → w ++ behind_blanks ws ≡ v ++ behind_blanks vs → (w ≡ v) × (behind_blanks ws ≡ behind_blanks vs)
    first_word [] [] e = (append_cancel_right w v [] e, refl)
    first_word [] (u ∷ us) e = absurd (not_cut 32 (w ++ []) v (u ++ behind_blanks us) (lacks_append 32 w [] hw.0 refl) e)
    first_word (u ∷ us) [] e = absurd (not_cut 32 (v ++ []) w (u ++ behind_blanks us) (lacks_append 32 v [] hv.0 refl) (sym e))
    first_word (u ∷ us) (t ∷ ts) e =
        let parts = cut_once 32 w (u ++ behind_blanks us) v (t ++ behind_blanks ts) hw.0 hv.0 e in
        (parts.0, ap (λ (l : List ℕ). 32 ∷ l) parts.1)

-- a line, and what stands behind it
pub line_before : (a b c d : List ℕ) → has_byte 10 a ≡ false → has_byte 10 c ≡ false → line a ++ b ≡ line c ++ d → (a ≡ c) × (b ≡ d)
line_before a b c d ha hc e = cut_once 10 a b c d ha hc (sym (append_assoc a (10 ∷ []) b) ∙ e ∙ append_assoc c (10 ∷ []) d)

-- a line isn't nothing
pub line_there : (a b : List ℕ) → line a ++ b ≡ [] → ⊥
line_there [] b e = cc
line_there (x ∷ a) b e = cc

pub lines_apart : (front : List ℕ) (xs ys : List (List ℕ)) → has_byte 10 front ≡ false → AllLack 10 xs → AllLack 10 ys → prefixed_lines front xs ≡ prefixed_lines front ys → xs ≡ ys
lines_apart front [] [] hf hx hy e = refl
lines_apart front [] (y ∷ ys) hf hx hy e = absurd (line_there (front ++ y) (prefixed_lines front ys) (sym e))
lines_apart front (x ∷ xs) [] hf hx hy e = absurd (line_there (front ++ x) (prefixed_lines front xs) e)
lines_apart front (x ∷ xs) (y ∷ ys) hf hx hy e =
    let parts = line_before (front ++ x) (prefixed_lines front xs) (front ++ y) (prefixed_lines front ys) (lacks_append 10 front x hf hx.0) (lacks_append 10 front y hf hy.0) e in
    rw (append_cancel_left front x y parts.0, lines_apart front xs ys hf hx.1 hy.1 parts.1) refl
