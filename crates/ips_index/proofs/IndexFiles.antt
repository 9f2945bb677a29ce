-- The lines of an index, and where a text goes wrong as one.
use Rattle.std.proofs.Common.{◌≡◌, ◌↔◌, ℕ, suc, ◌+◌, ◌≤◌, Bool, true, false, cond, eqb, List, [], ◌∷◌, ◌++◌, length, map, refl, sym, ◌∙◌, ap, subst, append_assoc, codes, arith, length-append}
use Rattle.std.specs.Prelude.{Contains, Result, Ok, Err, IfOk}
use Rattle.std.specs.List.{AllByRecursion, flat_map, onto_first}
use Rattle.std.specs.List.Sorted.{IsStrictlySortedBy}
use Rattle.std.specs.declared.cmp.Ordering.TheVariants.{Less}
use Rattle.std.specs.BTreeSet.{BTreeSet}
use Rattle.std.proofs.lemmas.List.{append_cancel_right, append-nil}
use Rattle.std.proofs.lemmas.List.Concat.{flat_map-cons}
use Rattle.std.proofs.lemmas.List.Folds.{flat_map-map}
use Rattle.ips_text.specs.declared.refusal.Or.{Or}
use Rattle.ips_text.specs.declared.refusal.Or.TheVariants.{Bad, OutOfMemory}
use Rattle.ips_text.specs.Reading.{Gives, IfBad}
use Rattle.std.specs.Cmp.Lexicographic.{pointwise}
use Rattle.std.proofs.lemmas.Bool.{true≢false}
use Rattle.ips_action.proofs.KeyOrder.{same_true, same_self}
use Rattle.ips_text.specs.Cut.{has_byte}
use Rattle.ips_records.specs.Lines.{ended, lines_text, lines_in, StopsFile, IsFirstBadLine}
use Rattle.ips_records.specs.Listed.{Chain, Sole, IsListed}
use Rattle.ips_records.proofs.Texts.{text_is, text_lines}
use Rattle.ips_records.proofs.Apart.{texts_apart}
use Rattle.ips_index.specs.declared.fault.BadIndex.{BadIndex}
use Rattle.ips_index.specs.Rows.{IndexedValue, row_cmp, row_total, row_line, index_text}
use Rattle.ips_index.specs.Text.{IsRow, AreIndexRows, IsIndexText, IsIndexFile, StandsBefore, index_lines}
use Rattle.ips_index.proofs.Facts.{each_of, all_of}
use Rattle.ips_index.proofs.InSets.{same_rows}
use Rattle.ips_index.proofs.RowLines.{row_one, row_single}

-- ---- rows that ascend one after the other ascend

above : (x y : IndexedValue) (rows : List IndexedValue) → row_cmp x y ≡ Less → AllByRecursion (λ (z : IndexedValue). row_cmp y z ≡ Less) rows → AllByRecursion (λ (z : IndexedValue). row_cmp x z ≡ Less) rows
above x y [] less all = tt
above x y (z ∷ rows) less all = (row_total.trans x y z less all.0, above x y rows less all.1)

chain_sorted : (rows : List IndexedValue) → Chain StandsBefore rows → IsStrictlySortedBy row_cmp rows
unfolding IsStrictlySortedBy
chain_sorted [] c = tt
chain_sorted (x ∷ []) c = (tt, tt)
chain_sorted (x ∷ y ∷ rows) c = let later = chain_sorted (y ∷ rows) c.1 in ((c.0, above x y rows c.0 later.0), later)

sorted_chain : (rows : List IndexedValue) → IsStrictlySortedBy row_cmp rows → Chain StandsBefore rows
unfolding IsStrictlySortedBy
sorted_chain [] s = tt
sorted_chain (x ∷ []) s = tt
sorted_chain (x ∷ y ∷ rows) s = (s.0.0, sorted_chain (y ∷ rows) s.1)

all_fit : (rows : List IndexedValue) → AllByRecursion (Sole row_line IsRow) rows → AllByRecursion IsRow rows
all_fit [] all = tt
all_fit (r ∷ rows) all = (all.0.fits, all_fit rows all.1)

pub are_rows : (rows : List IndexedValue) → AllByRecursion IsRow rows → Chain StandsBefore rows → AreIndexRows rows
are_rows rows fit chain = record { each = each_of IsRow rows fit; ascend = chain_sorted rows chain }

-- ---- where the lines go wrong

head : List ℕ
head = ended (codes "index 1")

of_listed : (lines : List (List ℕ)) → IsListed row_line IsRow StandsBefore lines → IsIndexFile (ended (codes "index 1") ∷ lines)
of_listed lines h = (h.0, are_rows h.0 h.1 h.2, ap (λ (l : List (List ℕ)). ended (codes "index 1") ∷ l) h.3)

to_listed : (line : List ℕ) (lines : List (List ℕ)) → IsIndexFile (line ∷ lines) → (line ≡ ended (codes "index 1")) × IsListed row_line IsRow StandsBefore lines
to_listed line lines h =
    let rest : lines ≡ map ended (map row_line h.0) = cc in
    let first : line ≡ ended (codes "index 1") = cc in
    (first, (h.0, all_of IsRow h.0 h.1.each, sorted_chain h.0 h.1.ascend, rest))

no_lines : IsIndexFile [] → ⊥
no_lines h = absurd (nothing h.0 h.2)
  where
    nothing : (rows : List IndexedValue) → [] ≡ map ended (index_lines rows) → ⊥
    nothing rows e = cc

none_listed : IsListed row_line IsRow StandsBefore []
none_listed = ([], tt, tt, refl)

-- the first line doesn't tell the form
pub bad_head : (lines : List (List ℕ)) → ((others : List (List ℕ)) → lines ≡ ended (codes "index 1") ∷ others → ⊥) → IsFirstBadLine IsIndexFile lines 1
bad_head lines none = record {
  front = [];
  rest = lines;
  cut = refl;
  place = refl;
  begins = (ended (codes "index 1") ∷ [], of_listed [] none_listed);
  stops = go lines none;
}
  where
    go : (l : List (List ℕ)) → ((others : List (List ℕ)) → l ≡ ended (codes "index 1") ∷ others → ⊥) → StopsFile IsIndexFile [] l
    go [] off = no_lines
    go (line ∷ rest) off = λ b. off rest (ap (λ (x : List ℕ). x ∷ rest) (to_listed line b.0 b.1).0)

-- another first line
pub other_head : (bytes line rest : List ℕ) → lines_in bytes ≡ ended line ∷ lines_in rest → (line ≡ codes "index 1" → ⊥) → (others : List (List ℕ)) → lines_in bytes ≡ ended (codes "index 1") ∷ others → ⊥
other_head bytes line rest is differs others e = differs (append_cancel_right line (codes "index 1") (10 ∷ []) (first (ended line) (ended (codes "index 1")) (lines_in rest) others (sym is ∙ e)))
  where
    first : (a b : List ℕ) (xs ys : List (List ℕ)) → a ∷ xs ≡ b ∷ ys → a ≡ b
    first a b xs ys h = cc

-- the line, told by a test
pub same_line : (t : Bool) (line head : List ℕ) → t ≡ pointwise eqb line head → t ≡ true → line ≡ head
same_line t line head is e = same_true line head (sym is ∙ e)

pub other_line : (t : Bool) (line head : List ℕ) → t ≡ pointwise eqb line head → t ≡ false → line ≡ head → ⊥
other_line t line head is e same = true≢false (sym (same_self line head same) ∙ sym is ∙ e)

-- a line of a row is the first bad one
pub bad_rows : (lines rows : List (List ℕ)) (n : ℕ) → lines ≡ ended (codes "index 1") ∷ rows → IsFirstBadLine (IsListed row_line IsRow StandsBefore) rows n → IsFirstBadLine IsIndexFile lines (n + 1)
bad_rows lines rows n e bad = record {
  front = ended (codes "index 1") ∷ bad.front;
  rest = bad.rest;
  cut = e ∙ ap (λ (l : List (List ℕ)). ended (codes "index 1") ∷ l) bad.cut;
  place = omega (arith, bad.place);
  begins = (bad.begins.0, of_listed (bad.front ++ bad.begins.0) bad.begins.1);
  stops = go bad.front bad.rest bad.stops;
}
  where
    go : (front rest : List (List ℕ)) → StopsFile (IsListed row_line IsRow StandsBefore) front rest → StopsFile IsIndexFile (ended (codes "index 1") ∷ front) rest
    go front [] stop = λ h. stop (to_listed (ended (codes "index 1")) front h).1
    go front (line ∷ rest) stop = λ b. stop (b.0, (to_listed (ended (codes "index 1")) ((front ++ line ∷ []) ++ b.0) b.1).1)

-- where all lines are of such a file, none is bad
pub not_bad : (IsFile : List (List ℕ) → Type 0) (lines : List (List ℕ)) (n : ℕ) → IsFile lines → IsFirstBadLine IsFile lines n → ⊥
not_bad IsFile lines n file bad = go bad.front bad.rest bad.cut bad.stops
  where
    go : (front rest : List (List ℕ)) → lines ≡ front ++ rest → StopsFile IsFile front rest → ⊥
    go front [] e stop = stop (subst IsFile (e ∙ append-nil front) file)
    go front (line ∷ rest) e stop = stop (rest, subst IsFile (e ∙ sym (append_assoc front (line ∷ []) rest)) file)

-- a text has no more lines than bytes
pub few_lines : (bytes : List ℕ) → length (lines_in bytes) ≤ length bytes
few_lines [] = omega arith
few_lines (b ∷ bytes) = go (eqb b 10) (few_lines bytes)
  where
    onto : (lines : List (List ℕ)) → length (onto_first b lines) ≤ length lines + 1
    onto [] = omega arith
    onto (l ∷ lines) = omega arith

    onto_some : (lines : List (List ℕ)) → length lines ≤ length bytes → length (onto_first b lines) ≤ suc (length bytes)
    onto_some lines le = let h = onto lines in omega (arith, h, le)

    go : (here : Bool) → length (lines_in bytes) ≤ length bytes → length (cond here ((b ∷ []) ∷ lines_in bytes) (onto_first b (lines_in bytes))) ≤ suc (length bytes)
    go true le = omega (arith, le)
    go false le = onto_some (lines_in bytes) le

pub low_number : (IsFile : List (List ℕ) → Type 0) (bytes : List ℕ) (n : ℕ) → IsFirstBadLine IsFile (lines_in bytes) n → n ≤ length bytes + 1
low_number IsFile bytes n bad =
    let few = few_lines bytes in
    let all : length (lines_in bytes) ≡ length bad.front + length bad.rest = ap length bad.cut ∙ length-append bad.front bad.rest in
    omega (arith, few, all, bad.place)

-- ---- texts

text_same : (rows : List IndexedValue) → lines_text (index_lines rows) ≡ index_text rows
text_same rows =
    flat_map-cons ended (codes "index 1") (map row_line rows) ∙ append_assoc (codes "index 1") (10 ∷ []) (flat_map ended (map row_line rows)) ∙ ap (λ (l : List ℕ). codes "index 1" ++ 10 ∷ l) (flat_map-map ended row_line rows)

all_single : (rows : List IndexedValue) → AllByRecursion IsRow rows → AllByRecursion (λ (l : List ℕ). has_byte 10 l ≡ false) (map row_line rows)
all_single [] all = tt
all_single (r ∷ rows) all = (row_single r all.0, all_single rows all.1)

-- the text of an index has its lines
pub text_file : (rows : List IndexedValue) (text : List ℕ) → IsIndexText rows text → IsIndexFile (lines_in text)
text_file rows text is = (rows, is.0, ap lines_in (is.1 ∙ sym (text_same rows)) ∙ text_lines (index_lines rows) (refl, all_single rows (all_of IsRow rows is.0.each)))

-- no two lists of rows have one text
pub rows_one : (a b : List IndexedValue) → AreIndexRows a → AreIndexRows b → index_text a ≡ index_text b → a ≡ b
rows_one a b ia ib e =
    texts_apart row_line IsRow row_one row_single a b (all_of IsRow a ia.each) (all_of IsRow b ib.each) (flat_map-map ended row_line a ∙ rest ∙ sym (flat_map-map ended row_line b))
  where
    rest : flat_map (λ (r : IndexedValue). row_line r ++ 10 ∷ []) a ≡ flat_map (λ (r : IndexedValue). row_line r ++ 10 ∷ []) b
    rest = cc

-- ---- what was read

-- rows that were read one a line, behind the first line, and put into a set
pub read_rows : (bytes rest : List ℕ) (items : List IndexedValue) (set : BTreeSet IndexedValue) → lines_in bytes ≡ ended (codes "index 1") ∷ lines_in rest → AllByRecursion (Sole row_line IsRow) items → Chain StandsBefore items → lines_in rest ≡ map ended (map row_line items)
    → IsStrictlySortedBy row_cmp set.keys → ((row : IndexedValue) → Contains set.keys row ↔ Contains items row) → IsIndexText set.keys bytes
read_rows bytes rest items set first sole chain lines ascend same =
    let are : AreIndexRows items = are_rows items (all_fit items sole) chain in
    let one : set.keys ≡ items = same_rows set (record { keys = items }) ascend are.ascend same in
    subst (λ (l : List IndexedValue). IsIndexText l bytes) (sym one) (are, text_is bytes (index_lines items) (first ∙ ap (λ (l : List (List ℕ)). ended (codes "index 1") ∷ l) lines) ∙ text_same items)

-- a text of an index is read as it
pub read_back : (bytes : List ℕ) (r : Result (List IndexedValue) (Or BadIndex)) → IfOk r (λ rows. IsIndexText rows bytes) → IfBad r (λ (fault : BadIndex). IsFirstBadLine IsIndexFile (lines_in bytes) fault.line) → (rows : List IndexedValue) → IsIndexText rows bytes
    → (let read : Result (List IndexedValue) BadIndex = Ok rows in Gives (λ (x : List IndexedValue). x) r read)
read_back bytes (Ok found) good bad rows is = ap (λ (l : List IndexedValue). Ok l) (rows_one rows found is.0 good.0 (sym is.1 ∙ good.1))
read_back bytes (Err (Bad fault)) good bad rows is = absurd (not_bad IsIndexFile (lines_in bytes) fault.line (text_file rows bytes is) bad)
read_back bytes (Err OutOfMemory) good bad rows is = tt
