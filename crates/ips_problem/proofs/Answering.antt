-- What a problem answers of its tests.
use Rattle.std.proofs.Common.{◌≡◌, ℕ, ◌<◌, Bool, true, false, not, ◌&&◌, List, [], ◌∷◌, map, length, slice_get, get_or, filter_map, option_to_list, position, bytes_eq, Option, Some, is_some, option_map, refl, sym, ap, ◌∙◌, arith}
use Rattle.std.specs.List.{list_all}
use Rattle.std.proofs.lemmas.Bool.{and_left, and_right, and_from}
use Rattle.ips_fmri.specs.declared.fmri.Fmri.{Fmri}
use Rattle.ips_depend.specs.Dependency.{mentions}
use Rattle.ips_request.specs.Stems.{stems_of}
use Rattle.std.proofs.lemmas.List.{length-map, get_or_default}
use Rattle.std.proofs.lemmas.Option.{same_Some, slice_get-map, slice_get_read}
use Rattle.ips_refute.specs.declared.nogoods.Pair.{Pair}
use Rattle.ips_depend.specs.Holds.{holds}
use Rattle.ips_problem.specs.declared.problem.Problem.{Problem}
use Rattle.ips_problem.specs.declared.rows.Numbered.{Numbered}
use Rattle.ips_problem.specs.declared.rows.Numbers.{Numbers}
use Rattle.ips_problem.specs.declared.rows.Row.{Row}
use Rattle.ips_problem.specs.Posed.{candidate_of, number_of, is_number, decides, picked, before, spared, version_at, greatest_of, stems_of_test, last_at, breaks_at}
use Rattle.ips_problem.specs.Seen.{numbers_mentioned, puzzle_of, seen_numbers, seen_row, seen_test}
use Rattle.ips_problem.specs.Held.{posed_of}
use Rattle.ips_problem.proofs.Numbers.{all_present, present_mapped}
use Rattle.ips_problem.proofs.Picking.{is_number_true}

-- a list as it is read
at_read : {X Y : Type 0} (f : X → Y) (xs : List X) (i : ℕ) (x : X) → i < length xs → x ≡ get_or xs i x → slice_get (map f xs) i ≡ Some (f x)
at_read f xs i x l e = slice_get-map f xs i ∙ ap (option_map f) (slice_get_read xs (length xs) i x refl l e)

within : (p : Problem) (t : ℕ) → t < length (map seen_test p.tests.items) → t < length p.tests.items
within p t l = omega (arith, length-map p.tests.items seen_test)

pub test_at : (p : Problem) (t : ℕ) (n : Numbered) → t < length (map seen_test p.tests.items) → n ≡ get_or p.tests.items t n → slice_get (map seen_test p.tests.items) t ≡ Some (seen_test n)
test_at p t n l e = at_read seen_test p.tests.items t n (within p t l) e

-- the numbers of a test are those of the stems that it mentions
numbers_at : (p : Problem) (t : ℕ) (n : Numbered) (m : Numbers) → t < length p.tests.items → n ≡ get_or p.tests.items t n → m ≡ get_or p.numbers.items t m
    → m.mentioned.items ≡ numbers_mentioned (puzzle_of p.stems.keys p.rows.items) (seen_test n)
numbers_at p t n m l e f =
    let known : t < length p.numbers.items = omega (arith, p.each) in
    same_Some m.mentioned.items (numbers_mentioned (puzzle_of p.stems.keys p.rows.items) (seen_test n))
    (sym (at_read seen_numbers p.numbers.items t m known f) ∙ ap (λ xs. slice_get xs t) p.numbered
    ∙ at_read (λ (n : Numbered). numbers_mentioned (puzzle_of p.stems.keys p.rows.items) (seen_test n)) p.tests.items t n l e)

-- so the stem at each place has its number
pub mentioned_at : (p : Problem) (t : ℕ) (n : Numbered) (m : Numbers) → t < length (map seen_test p.tests.items) → n ≡ get_or p.tests.items t n → m ≡ get_or p.numbers.items t m
    → m.mentioned.items ≡ map (λ (f : Fmri). position (bytes_eq f.stem) (stems_of p.stems.keys)) (mentions n.test)
mentioned_at p t n m l e f = numbers_at p t n m (within p t l) e f

pub last_told : (p : Problem) (t : ℕ) (m : Numbers) → t < length (map seen_test p.tests.items) → m ≡ get_or p.numbers.items t m → m.last ≡ last_at (posed_of p) (slice_get (map seen_test p.tests.items) t)
last_told p t m known f =
    let l = within p t known in
    let few : t < length p.numbers.items = omega (arith, p.each) in
    let (n, e) = read_of p.tests.items t l in
    let last = λ (n : Numbered). greatest_of (stems_of_test (puzzle_of p.stems.keys p.rows.items) (seen_test n)) in
    same_Some m.last (last n)
    (sym (at_read (λ (m : Numbers). m.last) p.numbers.items t m few f) ∙ ap (λ xs. slice_get xs t) p.last ∙ at_read last p.tests.items t n l e)
    ∙ ap (last_at (posed_of p)) (sym (test_at p t n known e))
  where
    read_of : (xs : List Numbered) (i : ℕ) → i < length xs → (n : Numbered) × (n ≡ get_or xs i n)
    read_of [] i l = absurd (omega arith)
    read_of (x ∷ xs) i l = (get_or (x ∷ xs) i x, get_or_default (x ∷ xs) i x (get_or (x ∷ xs) i x) l)

-- a set decides the stems that a test mentions where it decides each of their numbers
decided_mentions : (p : Problem) (t : ℕ) (n : Numbered) (m : Numbers) (set : List Pair) → t < length p.tests.items → n ≡ get_or p.tests.items t n → m ≡ get_or p.numbers.items t m
    → list_all (λ (o : Option ℕ). decides set (option_to_list o)) m.mentioned.items ≡ decides set (filter_map (λ (f : Fmri). number_of (posed_of p) f.stem) (mentions n.test))
decided_mentions p t n m set l e f =
    all_present (λ i. is_some (candidate_of set i)) m.mentioned.items
    ∙ ap (λ (os : List (Option ℕ)). decides set (filter_map (λ (o : Option ℕ). o) os)) (numbers_at p t n m l e f)
    ∙ ap (decides set) (present_mapped (λ (f : Fmri). number_of (posed_of p) f.stem) (mentions n.test))

-- a test is broken where its candidate is chosen, the stems that it mentions are decided and its dependency fails
pub broken_told : (p : Problem) (t : ℕ) (n : Numbered) (m : Numbers) (set : List Pair) (b : Bool) → t < length (map seen_test p.tests.items) → n ≡ get_or p.tests.items t n → m ≡ get_or p.numbers.items t m
    → is_number (candidate_of set n.stem) n.candidate ≡ true → list_all (λ (o : Option ℕ). decides set (option_to_list o)) m.mentioned.items ≡ true
    → b ≡ not (holds (picked (posed_of p) set) (before (posed_of p)) (spared (posed_of p)) n.test)
    → b ≡ breaks_at (posed_of p) set (slice_get (map seen_test p.tests.items) t)
broken_told p t n m set b known e f chosen decided told =
    let own : is_some (candidate_of set n.stem) ≡ true = ap (λ o. is_some o) (is_number_true (candidate_of set n.stem) n.candidate chosen) in
    let all : decides set (stems_of_test (posed_of p) (seen_test n)) ≡ true = and_from _ _ own (sym (decided_mentions p t n m set (within p t known) e f) ∙ decided) in
    told ∙ (λ i. sym chosen i && sym all i && not (holds (picked (posed_of p) set) (before (posed_of p)) (spared (posed_of p)) n.test))
    ∙ ap (breaks_at (posed_of p) set) (sym (test_at p t n known e))

-- it isn't where its candidate isn't chosen
pub unbroken_unchosen : (p : Problem) (t : ℕ) (n : Numbered) (set : List Pair) → t < length (map seen_test p.tests.items) → n ≡ get_or p.tests.items t n
    → is_number (candidate_of set n.stem) n.candidate ≡ false → false ≡ breaks_at (posed_of p) set (slice_get (map seen_test p.tests.items) t)
unbroken_unchosen p t n set known e chosen =
    (λ i. sym chosen i && decides set (stems_of_test (posed_of p) (seen_test n)) && not (holds (picked (posed_of p) set) (before (posed_of p)) (spared (posed_of p)) n.test))
    ∙ ap (breaks_at (posed_of p) set) (sym (test_at p t n known e))

-- nor where a stem that it mentions isn't decided
pub unbroken_undecided : (p : Problem) (t : ℕ) (n : Numbered) (m : Numbers) (set : List Pair) → t < length (map seen_test p.tests.items) → n ≡ get_or p.tests.items t n → m ≡ get_or p.numbers.items t m
    → list_all (λ (o : Option ℕ). decides set (option_to_list o)) m.mentioned.items ≡ false → false ≡ breaks_at (posed_of p) set (slice_get (map seen_test p.tests.items) t)
unbroken_undecided p t n m set known e f decided =
    let rest = sym (decided_mentions p t n m set (within p t known) e f) ∙ decided in
    let all : decides set (stems_of_test (posed_of p) (seen_test n)) ≡ false = and_right (is_some (candidate_of set n.stem)) _ rest in
    let own = is_number (candidate_of set n.stem) n.candidate in
    sym (and_left (own && decides set (stems_of_test (posed_of p) (seen_test n))) (not (holds (picked (posed_of p) set) (before (posed_of p)) (spared (posed_of p)) n.test)) (and_right own (decides set (stems_of_test (posed_of p) (seen_test n))) all))
    ∙ ap (breaks_at (posed_of p) set) (sym (test_at p t n known e))

-- the version of a candidate of a row as it is read
pub version_told : (p : Problem) (i : ℕ) (row : Row) (k : ℕ) → i < length p.stems.keys → row ≡ get_or p.rows.items i row
    → version_at (Some (seen_row row)) (Some k) ≡ version_at (slice_get (map seen_row p.rows.items) i) (Some k)
version_told p i row k l e =
    let within : i < length p.rows.items = omega (arith, p.rows_known) in
    ap (λ r. version_at r (Some k)) (sym (at_read seen_row p.rows.items i row within e))
