-- The file `image`: its lines, and what they say.
use Rattle.std.proofs.Common.{◌≡◌, ℕ, suc, ◌+◌, ◌<◌, Bool, true, false, cond, eqb, Result, Ok, Err, IfOk, List, [], ◌∷◌, ◌++◌, length, map, refl, sym, ◌∙◌, ap, ap₂, subst, append_assoc, arith}
use Rattle.std.specs.List.{AllByRecursion, onto_first}
use Rattle.std.proofs.lemmas.List.{map-append, append-nil, append_cancel_right, length-map}
use Rattle.std.proofs.lemmas.Bool.{true≢false, false≢true}
use Rattle.std.proofs.Math.Dec.{eqb-suc-zero}
use Rattle.ips_text.specs.Reading.{IfBad}
use Rattle.ips_text.specs.declared.refusal.Or.{Or}
use Rattle.ips_records.specs.Lines.{ended, lines_in, BeginsFile, StopsFile, IsFirstBadLine}
use Rattle.ips_records.specs.Listed.{Chain, MayEnd, Sole, NoneNext}
use Rattle.ips_state.specs.State.{Head}
use Rattle.ips_state.specs.Lawful.{IsHead}
use Rattle.ips_state.specs.Text.{head_lines}
use Rattle.ips_load.specs.declared.head_lines.HeadLine.{HeadLine}
use Rattle.ips_load.specs.declared.heading.Heading.{Heading}
use Rattle.ips_load.specs.Fault.{IsHeadFile}
use Rattle.ips_load.specs.HeadLines.{head_line_text, IsHeadLine, FollowsLine, head_items, head_read, IsHeadOf, BeginsHead, StopsHead, IsFirstBadItem}
use Rattle.ips_load.proofs.Answered.{bad_weaker}
use Rattle.ips_load.proofs.HeadSections.{heading_chain, heading_fits, heading_text}

-- an item of a chain may stand behind those before it
chain_may : (items : List HeadLine) (x : HeadLine) (rest : List HeadLine) → Chain FollowsLine (items ++ x ∷ rest) → MayEnd FollowsLine items x
chain_may [] x rest chain = tt
chain_may (y ∷ []) x rest chain = chain.0
chain_may (y ∷ z ∷ items) x rest chain = chain_may (z ∷ items) x rest chain.1

-- the lines of items
abbrev pub lines_from : List HeadLine → List (List ℕ)
lines_from items = map ended (map head_line_text items)

lines_append : (a b : List HeadLine) → lines_from (a ++ b) ≡ lines_from a ++ lines_from b
lines_append a b = ap (map ended) (map-append head_line_text a b) ∙ map-append ended (map head_line_text a) (map head_line_text b)

length_lines : (items : List HeadLine) → length (lines_from items) ≡ length items
length_lines items = length-map (map head_line_text items) ended ∙ length-map items head_line_text

same_item : (a b : HeadLine) → Sole head_line_text IsHeadLine a → IsHeadLine b → ended (head_line_text a) ≡ ended (head_line_text b) → b ≡ a
same_item a b sole fits e = sole.alone b fits (sym (append_cancel_right (head_line_text a) (head_line_text b) (10 ∷ []) e))

-- items whose lines begin with those of others begin with these others
begin_alike : (items all : List HeadLine) (next : List ℕ) (more : List (List ℕ)) → AllByRecursion (Sole head_line_text IsHeadLine) items → AllByRecursion IsHeadLine all → (lines_from items ++ next ∷ []) ++ more ≡ lines_from all
    → (x : HeadLine) × (rest : List HeadLine) × (all ≡ items ++ x ∷ rest) × IsHeadLine x × (next ≡ ended (head_line_text x))
begin_alike [] [] next more sole others e = absurd cc
begin_alike [] (x ∷ all) next more sole others e = let here : next ≡ ended (head_line_text x) = cc in (x, all, refl, others.0, here)
begin_alike (y ∷ items) [] next more sole others e = absurd cc
begin_alike (y ∷ items) (x ∷ all) next more sole others e =
    let first : ended (head_line_text y) ≡ ended (head_line_text x) = cc in
    let behind : (lines_from items ++ next ∷ []) ++ more ≡ lines_from all = cc in
    let h = begin_alike items all next more sole.1 others.1 behind in
    (h.0, h.1, ap₂ (λ (a : HeadLine) (l : List HeadLine). a ∷ l) (same_item y x sole.0 others.0 first) h.2, h.3, h.4)

all_alike : (items all : List HeadLine) → AllByRecursion (Sole head_line_text IsHeadLine) items → AllByRecursion IsHeadLine all → lines_from items ≡ lines_from all → all ≡ items
all_alike [] [] sole others e = refl
all_alike [] (x ∷ all) sole others e = absurd cc
all_alike (y ∷ items) [] sole others e = absurd cc
all_alike (y ∷ items) (x ∷ all) sole others e =
    let first : ended (head_line_text y) ≡ ended (head_line_text x) = cc in
    let behind : lines_from items ≡ lines_from all = cc in
    ap₂ (λ (a : HeadLine) (l : List HeadLine). a ∷ l) (same_item y x sole.0 others.0 first) (all_alike items all sole.1 others.1 behind)

pub all_fit : (items : List HeadLine) → AllByRecursion (Sole head_line_text IsHeadLine) items → AllByRecursion IsHeadLine items
all_fit [] all = tt
all_fit (x ∷ items) all = (all.0.fits, all_fit items all.1)

sole_front : (front rest : List HeadLine) → AllByRecursion (Sole head_line_text IsHeadLine) (front ++ rest) → AllByRecursion (Sole head_line_text IsHeadLine) front
sole_front [] rest all = tt
sole_front (x ∷ front) rest all = (all.0, sole_front front rest all.1)

sole_rest : (front rest : List HeadLine) → AllByRecursion (Sole head_line_text IsHeadLine) (front ++ rest) → AllByRecursion (Sole head_line_text IsHeadLine) rest
sole_rest [] rest all = all
sole_rest (x ∷ front) rest all = sole_rest front rest all.1

-- a file of a heading has the lines of its items
pub file_items : (h : Head) → lines_from (head_items h) ≡ map ended (head_lines h)
file_items h = ap (map ended) (heading_text h)

-- behind these lines, of all or of some of the file's, no file goes on
file_stops : (whole : Bool) (items front rest : List HeadLine) (others : List (List ℕ)) → AllByRecursion (Sole head_line_text IsHeadLine) front → AllByRecursion (Sole head_line_text IsHeadLine) rest → items ≡ front ++ rest
    → (whole ≡ true → others ≡ []) → (whole ≡ false → (others ≡ [] → ⊥) × NoneNext head_line_text IsHeadLine FollowsLine items others) → StopsHead whole front rest
    → StopsFile IsHeadFile (lines_from front) (lines_from rest ++ others)
file_stops whole items front (x ∷ rest) others sf sr cut all some stops = λ b.
    let h = b.1.0 in
    let w = begin_alike front (head_items h) (ended (head_line_text x)) b.0 sf (heading_fits h b.1.1) (b.1.2 ∙ sym (file_items h)) in
    let one = same_item x w.0 sr.0 w.3 w.4 in
    stops (w.1, (h, b.1.1, append_assoc front (x ∷ []) w.1 ∙ sym (w.2 ∙ ap (λ (y : HeadLine). front ++ y ∷ w.1) one)))
file_stops true items front [] [] sf sr cut all some stops = λ h.
    stops (h.0, h.1, sym (all_alike front (head_items h.0) sf (heading_fits h.0 h.1) (h.2 ∙ sym (file_items h.0))))
file_stops true items front [] (next ∷ others) sf sr cut all some stops = let none : next ∷ others ≡ [] = all refl in absurd cc
file_stops false items front [] [] sf sr cut all some stops = absurd ((some refl).0 refl)
file_stops false items front [] (next ∷ others) sf sr cut all some stops = λ b.
    let h = b.1.0 in
    let w = begin_alike front (head_items h) next b.0 sf (heading_fits h b.1.1) (b.1.2 ∙ sym (file_items h)) in
    let whole_items : items ≡ front = cut ∙ append-nil front in
    let may : MayEnd FollowsLine items w.0 = subst (λ (l : List HeadLine). MayEnd FollowsLine l w.0) (sym whole_items) (chain_may front w.0 w.1 (subst (Chain FollowsLine) w.2 (heading_chain h b.1.1))) in
    (some refl).1 w.0 others w.3 may (ap (λ (l : List ℕ). l ∷ others) w.4)

-- the first bad line of a file, by that of its items
pub bad_file : (whole : Bool) (items : List HeadLine) (lines others : List (List ℕ)) (n : ℕ) → AllByRecursion (Sole head_line_text IsHeadLine) items → lines ≡ lines_from items ++ others
    → (whole ≡ true → others ≡ []) → (whole ≡ false → (others ≡ [] → ⊥) × NoneNext head_line_text IsHeadLine FollowsLine items others) → IsFirstBadItem whole items n → IsFirstBadLine IsHeadFile lines n
bad_file whole items lines others n sole cut all some bad =
    let soles = subst (AllByRecursion (Sole head_line_text IsHeadLine)) bad.cut sole in
    record {
      front = lines_from bad.front;
      rest = lines_from bad.rest ++ others;
      cut = cut ∙ ap (λ (l : List (List ℕ)). l ++ others) (ap lines_from bad.cut ∙ lines_append bad.front bad.rest) ∙ append_assoc (lines_from bad.front) (lines_from bad.rest) others;
      place = bad.place ∙ ap (λ (k : ℕ). k + 1) (sym (length_lines bad.front));
      begins = (lines_from bad.begins.0, (bad.begins.1.0, bad.begins.1.1, sym (lines_append bad.front bad.begins.0) ∙ ap lines_from bad.begins.1.2 ∙ file_items bad.begins.1.0));
      stops = file_stops whole items bad.front bad.rest others (sole_front bad.front bad.rest soles) (sole_rest bad.front bad.rest soles) bad.cut all some bad.stops;
    }

-- ---- what was read

cons_no : {A : Type 0} (x : A) (xs : List A) → x ∷ xs ≡ [] → ⊥
cons_no x xs e = cc

-- no line is left exactly where no byte is
empty_lines : (rest : List ℕ) (empty : Bool) → empty ≡ eqb (length rest) 0 → empty ≡ true → lines_in rest ≡ []
empty_lines [] empty is e = refl
empty_lines (b ∷ rest) empty is e = absurd (false≢true (sym (eqb-suc-zero (length rest)) ∙ sym is ∙ e))

some_lines : (rest : List ℕ) (empty : Bool) → empty ≡ eqb (length rest) 0 → empty ≡ false → (lines_in rest ≡ [] → ⊥) × (0 < length rest)
some_lines [] empty is e = absurd (true≢false (sym is ∙ e))
some_lines (b ∷ rest) empty is e = (go (eqb b 10) (lines_in rest), omega arith)
  where
    go : (here : Bool) (lines : List (List ℕ)) → cond here ((b ∷ []) ∷ lines) (onto_first b lines) ≡ [] → ⊥
    go true lines e = cons_no (b ∷ []) lines e
    go false [] e = cons_no (b ∷ []) [] e
    go false (line ∷ lines) e = cons_no (b ∷ line) lines e

pub read_whole_lines : {E : Type 0} (r : Result Heading E) (bytes : List ℕ) (items given : List HeadLine) (rest : List ℕ) (empty : Bool) → given ≡ items → lines_in bytes ≡ lines_from items ++ lines_in rest → empty ≡ eqb (length rest) 0
    → IfOk r (λ h. given ≡ head_items (head_read h)) → IfOk r (λ h. empty ≡ true) → IfOk r (λ h. lines_in bytes ≡ map ended (head_lines (head_read h)))
read_whole_lines (Err e) bytes items given rest empty same lines is these whole = tt
read_whole_lines (Ok h) bytes items given rest empty same lines is these whole =
    lines ∙ ap (λ (l : List (List ℕ)). lines_from items ++ l) (empty_lines rest empty is whole) ∙ append-nil (lines_from items) ∙ ap lines_from (sym same ∙ these) ∙ file_items (head_read h)

bad_read : (bytes : List ℕ) (items given : List HeadLine) (rest : List ℕ) (empty : Bool) → given ≡ items → AllByRecursion (Sole head_line_text IsHeadLine) items → lines_in bytes ≡ lines_from items ++ lines_in rest
    → (0 < length rest → NoneNext head_line_text IsHeadLine FollowsLine items (lines_in rest)) → empty ≡ eqb (length rest) 0 → (n : ℕ) → IsFirstBadItem empty given n → IsFirstBadLine IsHeadFile (lines_in bytes) n
bad_read bytes items given rest empty same sole lines ends is n bad =
    bad_file empty items (lines_in bytes) (lines_in rest) n sole lines (empty_lines rest empty is) (λ some. let w = some_lines rest empty is some in (w.0, ends w.1)) (subst (λ (l : List HeadLine). IsFirstBadItem empty l n) same bad)

pub read_bad_line : (r : Result Heading (Or ℕ)) (bytes : List ℕ) (items given : List HeadLine) (rest : List ℕ) (empty : Bool) → given ≡ items → AllByRecursion (Sole head_line_text IsHeadLine) items → lines_in bytes ≡ lines_from items ++ lines_in rest
    → (0 < length rest → NoneNext head_line_text IsHeadLine FollowsLine items (lines_in rest)) → empty ≡ eqb (length rest) 0 → IfBad r (IsFirstBadItem empty given) → IfBad r (λ n. IsFirstBadLine IsHeadFile (lines_in bytes) n)
read_bad_line r bytes items given rest empty same sole lines ends is bad =
    bad_weaker r (IsFirstBadItem empty given) (λ n. IsFirstBadLine IsHeadFile (lines_in bytes) n) (bad_read bytes items given rest empty same sole lines ends is) bad
