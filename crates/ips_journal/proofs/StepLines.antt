-- The lines of steps: which step a line tells.
use lib.Chars.{codes}
use Rattle.std.proofs.Common.{◌≡◌, ℕ, cond, eqb, inl, inr, ◌^◌, ◌<◌, ◌≤◌, false, List, [], ◌∷◌, ◌++◌, length, Option, Some, refl, sym, ap, ◌∙◌, arith, length-append}
use Rattle.std.specs.Fmt.{decimal}
use Rattle.std.proofs.lemmas.Fmt.{decimal_injective}
use Rattle.std.proofs.lemmas.Bool.{cases_lt}
use Rattle.ips_text.specs.Path.{IsPath}
use Rattle.ips_text.specs.Quote.{quoted, shown}
use Rattle.ips_steps.specs.Steps.{Step, Gone, Fresh, Mode, Put, Symlink, Hard}
use Rattle.ips_steps.specs.Targets.{IsTarget}
use Rattle.ips_steps.specs.declared.target.TargetFault.TheVariants as target
use Rattle.ips_steps.specs.Journal.{IsProper}
use Rattle.ips_steps.specs.View.{sort_of}
use Rattle.ips_steps.specs.declared.step.Sort.{Sort}
use Rattle.ips_steps.specs.declared.step.Sort.TheVariants as sort
use Rattle.ips_journal.specs.Text.{mode_text, word, fields_of, step_line, end_line}
use Rattle.ips_text.specs.Cut.{has_byte}
use Rattle.ips_journal.specs.Holding.{IsNumberSmall, step_by}
use Rattle.ips_journal.specs.declared.parts.Parts.{Parts}
use Rattle.ips_text.proofs.Cuts.{cut_once, clear_lacks, lacks_append, newline_in}
use Rattle.ips_text.proofs.Quotes.{quoted_most}
use Rattle.ips_journal.proofs.FieldForms.{mode_apart, mode_clear, number_clear, number_long, path_clear, path_apart, shown_long, target_clear}
use Rattle.ips_text.proofs.Quotes.{quoted_apart}
use Rattle.ips_outside.proofs.Rooms.{path_fits}

-- the letter that the lines of a sort begin with
abbrev letter : Sort → ℕ
letter sort.Gone = 103
letter sort.Fresh = 102
letter sort.Mode = 109
letter sort.Put = 112
letter sort.Link = 108
letter sort.Hard = 104

abbrev head_of : List ℕ → ℕ
head_of [] = 0
head_of (b ∷ bytes) = b

word_letter : (s : Sort) (x : List ℕ) → head_of (word s ++ x) ≡ letter s
word_letter sort.Gone x = refl
word_letter sort.Fresh x = refl
word_letter sort.Mode x = refl
word_letter sort.Put x = refl
word_letter sort.Link x = refl
word_letter sort.Hard x = refl

letter_end : (s : Sort) → letter s ≡ 101 → ⊥
letter_end sort.Gone e = omega arith
letter_end sort.Fresh e = omega arith
letter_end sort.Mode e = omega arith
letter_end sort.Put e = omega arith
letter_end sort.Link e = omega arith
letter_end sort.Hard e = omega arith

-- a word and what is behind it are told by the first
behind_same : (s : Sort) (x y : List ℕ) → word s ++ x ≡ word s ++ y → x ≡ y
behind_same sort.Gone x y e = cc
behind_same sort.Fresh x y e = cc
behind_same sort.Mode x y e = cc
behind_same sort.Put x y e = cc
behind_same sort.Link x y e = cc
behind_same sort.Hard x y e = cc

abbrev by_letter : ℕ → Option Sort
by_letter n = cond (eqb n 103) (Some sort.Gone) (cond (eqb n 102) (Some sort.Fresh) (cond (eqb n 109) (Some sort.Mode) (cond (eqb n 112) (Some sort.Put) (cond (eqb n 108) (Some sort.Link) (Some sort.Hard)))))

by_its_letter : (s : Sort) → by_letter (letter s) ≡ Some s
by_its_letter sort.Gone = refl
by_its_letter sort.Fresh = refl
by_its_letter sort.Mode = refl
by_its_letter sort.Put = refl
by_its_letter sort.Link = refl
by_its_letter sort.Hard = refl

-- two words at the front of one line are one
pub word_once : (s t : Sort) (x y : List ℕ) → word s ++ x ≡ word t ++ y → (s ≡ t) × (x ≡ y)
word_once s t x y e =
    let letters : letter s ≡ letter t = sym (word_letter s x) ∙ ap head_of e ∙ word_letter t y in
    let sorts : Some s ≡ Some t = sym (by_its_letter s) ∙ ap by_letter letters ∙ by_its_letter t in
    let one : s ≡ t = cc in
    let same : word s ++ x ≡ word s ++ y = e ∙ ap (λ (r : Sort). word r ++ y) (sym one) in
    (one, behind_same s x y same)

-- the line of a step isn't the last line
pub not_end : (s : Step) (n : ℕ) → step_line s ≡ end_line n → ⊥
not_end s n e = letter_end (sort_of s) (sym (word_letter (sort_of s) (fields_of s)) ∙ ap head_of e)

-- ---- fields

-- two fields with a blank between them are told by what they make
pub two_fields : (x a y b : List ℕ) → has_byte 32 x ≡ false → has_byte 32 y ≡ false → x ++ 32 ∷ a ≡ y ++ 32 ∷ b → (x ≡ y) × (a ≡ b)
two_fields x a y b hx hy e = cut_once 32 x a y b hx hy e

-- a field has no blank
pub mode_whole : (m : ℕ) → has_byte 32 (mode_text m) ≡ false
mode_whole m = clear_lacks 32 (mode_text m) (omega arith) (mode_clear m)

pub path_whole : (p : List ℕ) → IsPath p → has_byte 32 (shown p) ≡ false
path_whole p h = clear_lacks 32 (shown p) (omega arith) (path_clear p h)

pub number_whole : (n : ℕ) → n < 2 ^ 64 → has_byte 32 (decimal n) ≡ false
number_whole n lt = clear_lacks 32 (decimal n) (omega arith) (number_clear n lt)

moded_apart : (m k : ℕ) (p q : List ℕ) → m < 4096 → k < 4096 → IsPath p → IsPath q → mode_text m ++ 32 ∷ shown p ≡ mode_text k ++ 32 ∷ shown q → (m ≡ k) × (p ≡ q)
moded_apart m k p q lm lk hp hq e =
    let cut = two_fields (mode_text m) (shown p) (mode_text k) (shown q) (mode_whole m) (mode_whole k) e in
    (mode_apart m k lm lk cut.0, path_apart p q hp hq cut.1)

-- the fields of a sort tell the step
fields_apart : (s t : Step) → sort_of s ≡ sort_of t → IsProper s → IsProper t → IsNumberSmall s → IsNumberSmall t → fields_of s ≡ fields_of t → s ≡ t
fields_apart (Gone p) (Gone q) k hs ht ns nt e = let one = path_apart p q hs ht e in rw one refl
fields_apart (Fresh m p) (Fresh n q) k hs ht ns nt e = let both = moded_apart m n p q hs.1 ht.1 hs.0 ht.0 e in rw (both.0, both.1) refl
fields_apart (Mode m p) (Mode n q) k hs ht ns nt e = let both = moded_apart m n p q hs.1 ht.1 hs.0 ht.0 e in rw (both.0, both.1) refl
fields_apart (Put i m p) (Put j n q) k hs ht ns nt e =
    let cut = two_fields (decimal i) (mode_text m ++ 32 ∷ shown p) (decimal j) (mode_text n ++ 32 ∷ shown q) (number_whole i ns) (number_whole j nt) e in
    let number = decimal_injective i j ns nt cut.0 in
    let both = moded_apart m n p q hs.1 ht.1 hs.0 ht.0 cut.1 in
    rw (number, both.0, both.1) refl
fields_apart (Symlink p x) (Symlink q y) k hs ht ns nt e =
    let cut = two_fields (shown p) (quoted x) (shown q) (quoted y) (path_whole p hs.0) (path_whole q ht.0) e in
    let path = path_apart p q hs.0 ht.0 cut.0 in
    let says = quoted_apart x y hs.2 ht.2 cut.1 in
    rw (path, says) refl
fields_apart (Hard p x) (Hard q y) k hs ht ns nt e =
    let cut = two_fields (shown p) (shown x) (shown q) (shown y) (path_whole p hs.0) (path_whole q ht.0) e in
    let path = path_apart p q hs.0 ht.0 cut.0 in
    let to = path_apart x y hs.1 ht.1 cut.1 in
    rw (path, to) refl
fields_apart s t k hs ht ns nt e = cc

-- no two steps have one line
pub line_apart : (s t : Step) → IsProper s → IsProper t → IsNumberSmall s → IsNumberSmall t → step_line s ≡ step_line t → s ≡ t
line_apart s t hs ht ns nt e =
    let cut = word_once (sort_of s) (sort_of t) (fields_of s) (fields_of t) e in
    fields_apart s t cut.0 hs ht ns nt cut.1

-- ---- a line has no newline, and isn't long

word_line : (s : Sort) → has_byte 10 (word s) ≡ false
word_line sort.Gone = refl
word_line sort.Fresh = refl
word_line sort.Mode = refl
word_line sort.Put = refl
word_line sort.Link = refl
word_line sort.Hard = refl

mode_line : (m : ℕ) → has_byte 10 (mode_text m) ≡ false
mode_line m = clear_lacks 10 (mode_text m) (omega arith) (mode_clear m)

path_line : (p : List ℕ) → IsPath p → has_byte 10 (shown p) ≡ false
path_line p h = clear_lacks 10 (shown p) (omega arith) (path_clear p h)

fields_line : (s : Step) → IsProper s → IsNumberSmall s → has_byte 10 (fields_of s) ≡ false
fields_line (Gone p) h n = path_line p h
fields_line (Fresh m p) h n = newline_in (mode_text m) (shown p) (mode_line m) (path_line p h.0)
fields_line (Mode m p) h n = newline_in (mode_text m) (shown p) (mode_line m) (path_line p h.0)
fields_line (Put i m p) h n =
    newline_in (decimal i) (mode_text m ++ 32 ∷ shown p) (clear_lacks 10 (decimal i) (omega arith) (number_clear i n))
    (newline_in (mode_text m) (shown p) (mode_line m) (path_line p h.0))
fields_line (Symlink p x) h n = newline_in (shown p) (quoted x) (path_line p h.0) (clear_lacks 10 (quoted x) (omega arith) (target_clear x h.2))
fields_line (Hard p x) h n = newline_in (shown p) (shown x) (path_line p h.0) (path_line x h.1)

pub step_one_line : (s : Step) → IsProper s → IsNumberSmall s → has_byte 10 (step_line s) ≡ false
step_one_line s h n = lacks_append 10 (word (sort_of s)) (fields_of s) (word_line (sort_of s)) (fields_line s h n)

pub end_one_line : (n : ℕ) → n < 2 ^ 64 → has_byte 10 (end_line n) ≡ false
end_one_line n lt = clear_lacks 10 (decimal n) (omega arith) (number_clear n lt)

pub target_short : (t : List ℕ) → IsTarget t → length t ≤ 4095
target_short t h = elim (cases_lt 4095 (length t)) [ inl long ↦ absurd (h target.TooLong long) | inr few ↦ few ]

word_short : (s : Sort) → length (word s) ≤ 6
word_short sort.Gone = omega arith
word_short sort.Fresh = omega arith
word_short sort.Mode = omega arith
word_short sort.Put = omega arith
word_short sort.Link = omega arith
word_short sort.Hard = omega arith

fields_short : (s : Step) → IsProper s → IsNumberSmall s → length (fields_of s) ≤ 15355
fields_short (Gone p) h n = omega (arith, shown_long p, path_fits p h)
fields_short (Fresh m p) h n = omega (arith, shown_long p, path_fits p h.0)
fields_short (Mode m p) h n = omega (arith, shown_long p, path_fits p h.0)
fields_short (Put i m p) h n = omega (arith, shown_long p, path_fits p h.0, number_long i n, length-append (decimal i) (32 ∷ (mode_text m ++ 32 ∷ shown p)))
fields_short (Symlink p x) h n = omega (arith, shown_long p, path_fits p h.0, quoted_most x, target_short x h.1, length-append (shown p) (32 ∷ quoted x))
fields_short (Hard p x) h n = omega (arith, shown_long p, path_fits p h.0, shown_long x, path_fits x h.1, length-append (shown p) (32 ∷ shown x))

-- with its newline it fits the buffer
pub step_short : (s : Step) → IsProper s → IsNumberSmall s → length (step_line s) < 16384
step_short s h n = omega (arith, word_short (sort_of s), fields_short s h n, length-append (word (sort_of s)) (fields_of s))

pub end_short : (n : ℕ) → n < 2 ^ 64 → length (end_line n) < 16384
end_short n lt = omega (arith, number_long n lt, length-append (codes "end ") (decimal n))

-- ---- what a line tells

pub end_same : (digits rest line : List ℕ) → line ≡ codes "end " ++ digits → line ≡ codes "end " ++ rest → digits ≡ rest
end_same digits rest line e f = let same : codes "end " ++ digits ≡ codes "end " ++ rest = sym e ∙ f in cc

sort_by : (sort : Sort) (parts : Parts) → sort_of (step_by sort parts) ≡ sort
sort_by sort.Gone parts = refl
sort_by sort.Fresh parts = refl
sort_by sort.Mode parts = refl
sort_by sort.Put parts = refl
sort_by sort.Link parts = refl
sort_by sort.Hard parts = refl

pub line_by : (sort : Sort) (parts : Parts) (fields line : List ℕ) → line ≡ word sort ++ fields → fields ≡ fields_of (step_by sort parts) → line ≡ step_line (step_by sort parts)
line_by sort parts fields line e f = e ∙ ap (λ (l : List ℕ). word sort ++ l) f ∙ ap (λ (s : Sort). word s ++ fields_of (step_by sort parts)) (sym (sort_by sort parts))
