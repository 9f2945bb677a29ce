-- What lines ask for, one after the other.
use Rattle.std.proofs.Common.{◌≡◌, ◌∙◌, ℕ, ◌+◌, ◌<◌, List, [], ◌∷◌, ◌++◌, length, take, drop, get_or, refl, sym, ap, subst, inl, inr, append_assoc}
use Rattle.std.specs.Prelude.{Some, Err}
use Rattle.ips_text.specs.declared.refusal.Or.{Or}
use Rattle.ips_text.specs.declared.refusal.Or.TheVariants.{Bad, OutOfMemory}
use Rattle.ips_text.specs.Reading.{IfBad}
use Rattle.ips_depend.specs.declared.reading.BadDepend.{BadDepend}
use Rattle.std.proofs.lemmas.List.{take_more, append-nil, take-append-drop}
use Rattle.ips_manifest.specs.declared.line.Line.{Line}
use Rattle.ips_filter.specs.Settings.{Set}
use Rattle.ips_depend.specs.Dependency.{Dependency}
use Rattle.ips_depend.specs.Asking.{IsJudged, LineAsks, LinesAsk, IsBad, IsFirstBad}
use Rattle.ips_depend.specs.Read.{IsAskedFor, HasAdded}
use Rattle.ips_depend.proofs.Made.{asks_once}

-- ---- one line

pub line_unjudged : (s : Set) (line : Line) (old : List Dependency) → (IsJudged s line → ⊥) → HasAdded s line old old
line_unjudged s line old h = ([], inl (h, refl), sym (append-nil old))

pub line_asked : (s : Set) (line : Line) (old : List Dependency) (d : Dependency) → IsJudged s line → IsAskedFor line.action.attrs (Some d) → HasAdded s line old (old ++ d ∷ [])
line_asked s line old d judged asks = (d ∷ [], inr (judged, (d, asks, refl)), refl)

line_once : (s : Set) (line : Line) (ds es : List Dependency) → LineAsks s line ds → LineAsks s line es → ds ≡ es
line_once s line ds es a b =
    elim a [
      | inl h ↦ elim b [ inl k ↦ h.1 ∙ sym k.1 | inr k ↦ absurd (h.0 k.0) ]
      | inr h ↦ elim b [
        | inl k ↦ absurd (k.0 h.0)
        | inr k ↦ h.1.2 ∙ ap (λ (d : Dependency). d ∷ []) (asks_once _ _ _ h.1.1 k.1.1) ∙ sym k.1.2
      ]
    ]

-- ---- all lines

pub lines_once : (s : Set) (lines : List Line) (ds es : List Dependency) → LinesAsk s lines ds → LinesAsk s lines es → ds ≡ es
lines_once s [] ds es a b = a ∙ sym b
lines_once s (line ∷ lines) ds es (first, rest, one, others, all) (first', rest', one', others', all') =
    let f = line_once s line first first' one one' in
    let r = lines_once s lines rest rest' others others' in
    all ∙ ap (λ (l : List Dependency). l ++ rest) f ∙ ap (λ (l : List Dependency). first' ++ l) r ∙ sym all'

lines_more : (s : Set) (lines : List Line) (line : Line) (ds es : List Dependency) → LinesAsk s lines ds → LineAsks s line es → LinesAsk s (lines ++ line ∷ []) (ds ++ es)
lines_more s [] line ds es a b = (es, [], b, refl, ap (λ (l : List Dependency). l ++ es) a ∙ sym (append-nil es))
lines_more s (l ∷ lines) line ds es (first, rest, one, others, all) b =
    (first, rest ++ es, one, lines_more s lines line rest es others b, ap (λ (l : List Dependency). l ++ es) all ∙ append_assoc first rest es)

bad_behind : (s : Set) (front : List Line) (line : Line) (rest : List Line) (ds : List Dependency) → LinesAsk s front ds → IsBad s line → IsFirstBad s (front ++ line ∷ rest) line.number
bad_behind s [] line rest ds a bad = inl (bad, refl)
bad_behind s (l ∷ front) line rest ds (first, others, one, asks, all) bad = inr ((first, one), bad_behind s front line rest others asks bad)

one_more : (lines : List Line) (k : ℕ) (line : Line) → k < length lines → line ≡ get_or lines k line → take (k + 1) lines ≡ take k lines ++ line ∷ []
one_more lines k line l is = take_more lines k line l ∙ ap (λ (x : Line). take k lines ++ x ∷ []) (sym is)

cut_at : (lines : List Line) (k : ℕ) (line : Line) → k < length lines → line ≡ get_or lines k line → lines ≡ take k lines ++ line ∷ drop (k + 1) lines
cut_at lines k line l is =
    sym (take-append-drop (k + 1) lines) ∙ ap (λ (front : List Line). front ++ drop (k + 1) lines) (one_more lines k line l is) ∙ append_assoc (take k lines) (line ∷ []) (drop (k + 1) lines)

-- one more line was added; the loop goes over the same lines under another name
pub lines_added : (s : Set) (items lines : List Line) (k : ℕ) (line : Line) (old new : List Dependency) → items ≡ lines → k < length items → line ≡ get_or items k line → LinesAsk s (take k lines) old → HasAdded s line old new → LinesAsk s (take (k + 1) lines) new
lines_added s items lines k line old new same l is asks added =
    let one = one_more lines k line (subst (λ (all : List Line). k < length all) same l) (subst (λ (all : List Line). line ≡ get_or all k line) same is) in
    subst (λ (front : List Line). LinesAsk s front new) (sym one) (subst (LinesAsk s (take k lines ++ line ∷ [])) (sym added.2) (lines_more s (take k lines) line old added.0 asks added.1))

bad_at : (s : Set) (lines : List Line) (k : ℕ) (line : Line) (ds : List Dependency) (number : ℕ) → k < length lines → line ≡ get_or lines k line → LinesAsk s (take k lines) ds → IsBad s line × (number ≡ line.number) → IsFirstBad s lines number
bad_at s lines k line ds number l is asks bad =
    subst (IsFirstBad s lines) (sym bad.1)
    (subst (λ (all : List Line). IsFirstBad s all line.number) (sym (cut_at lines k line l is)) (bad_behind s (take k lines) line (drop (k + 1) lines) ds asks bad.0))

-- the first line that is bad
pub bad_told : (X Y : Type 0) (e : Or BadDepend) (s : Set) (items lines : List Line) (k : ℕ) (line : Line) (ds : List Dependency) → items ≡ lines → k < length items → line ≡ get_or items k line → LinesAsk s (take k lines) ds → IfBad {X = X} (Err e) (λ bad. IsBad s line × (bad.line ≡ line.number)) → IfBad {X = Y} (Err e) (λ bad. IsFirstBad s lines bad.line)
bad_told X Y (Bad bad) s items lines k line ds same l is asks told =
    bad_at s lines k line ds bad.line (subst (λ (all : List Line). k < length all) same l) (subst (λ (all : List Line). line ≡ get_or all k line) same is) asks told
bad_told X Y OutOfMemory s items lines k line ds same l is asks told = tt
