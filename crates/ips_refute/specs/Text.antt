-- The text of a refutation, in its one spelling.
use Rattle.std.specs.Prelude.{◌≡◌, ℕ, zero, suc, ◌+◌, ◌^◌, ◌<◌, ◌≤◌, Bool, true, false, ◌==◌, ◌&&◌, nat_lt, if◌then◌else◌, List, [], ◌∷◌, ◌++◌, length, map, replicate, codes, All}
use Rattle.std.specs.List.{flat_map, join_with_byte}
use Rattle.std.specs.Fmt.{decimal}
use Rattle.ips_refute.specs.declared.nogoods.Pair.{Pair}
use Rattle.ips_refute.specs.declared.nogoods.Nogood.{Nogood}
use Rattle.ips_refute.specs.declared.nogoods.Reason.{Reason}
use Rattle.ips_refute.specs.declared.nogoods.Reason.TheVariants.{Test, Earlier}
use Rattle.ips_refute.specs.declared.runs.Run.{Run}
use Rattle.ips_refute.specs.Meaning.{Ascends}

-- a nogood, without where it lies in memory
pub record RefutationEntry : Type 0 where
  pub set : List Pair
  pub stem : ℕ
  pub reasons : List Reason

-- what a nogood says
abbrev pub entry_of : Nogood → RefutationEntry
entry_of g = record { set = g.set.items; stem = g.stem; reasons = g.reasons.items }

-- what the nogoods of a refutation say, in their order
abbrev pub entries : List Nogood → List RefutationEntry
entries nogoods = map entry_of nogoods

-- a pair is written as its stem and its candidate, in decimal digits, with a dot between them
abbrev pub pair_text : Pair → List ℕ
pair_text q = decimal q.stem ++ 46 ∷ decimal q.candidate

-- a list is written as its values with a mark between them, or as `-` where it is empty
abbrev pub listed_text : {A : Type 0} → ℕ → (A → List ℕ) → List A → List ℕ
listed_text mark spell [] = 45 ∷ []
listed_text mark spell (x ∷ xs) = join_with_byte mark (map spell (x ∷ xs))

-- a set is written as its pairs joined by `,`, or as `-`
abbrev pub set_text : List Pair → List ℕ
set_text set = listed_text 44 pair_text set

-- a reason is written as `t` and the number of the test, or as `n` and the number of the earlier nogood
abbrev pub reason_text : Reason → List ℕ
reason_text (Test t) = 116 ∷ decimal t
reason_text (Earlier n) = 110 ∷ decimal n

-- the most equal reasons in a row that are written as one
abbrev pub most : ℕ
most = 200002

-- a count is written behind `*`; one reason alone has none
abbrev pub count_text : ℕ → List ℕ
count_text n = if n == 1 then [] else 42 ∷ decimal n

-- equal reasons in a row are written as the reason and their count
abbrev pub run_text : Run → List ℕ
run_text r = reason_text r.reason ++ count_text r.count

-- runs are written joined by one blank, or as `-`
abbrev pub runs_text : List Run → List ℕ
runs_text runs = listed_text 32 run_text runs

-- what stands between the fields of a line: ` | `
abbrev pub bar : List ℕ
bar = 32 ∷ 124 ∷ 32 ∷ []

-- a nogood as it is written: its reasons in runs
pub record Written : Type 0 where
  pub set : List Pair
  pub stem : ℕ
  pub runs : List Run

-- a nogood is written as a line of its set, its further stem and its reasons
abbrev pub line_text : Written → List ℕ
line_text w = set_text w.set ++ bar ++ decimal w.stem ++ bar ++ runs_text w.runs ++ 10 ∷ []

-- the reasons of runs, one after the other
abbrev pub reasons_of : List Run → List Reason
reasons_of runs = flat_map (λ (r : Run). replicate r.count r.reason) runs

-- what a line means
abbrev pub meant : Written → RefutationEntry
meant w = record { set = w.set; stem = w.stem; reasons = reasons_of w.runs }

-- The first line: `refutation 1`, or `refutation 2` where counts may be written.
abbrev pub header : Bool → List ℕ
header false = codes "refutation 1\n"
header true = codes "refutation 2\n"

-- the first line, and a line for each nogood
abbrev pub written_text : Bool → List Written → List ℕ
written_text counts ws = header counts ++ flat_map line_text ws

-- ---- the grammar

-- the numbers of a pair are below 2^32
abbrev pub IsSmallPair : Pair → Type 0
IsSmallPair q = (q.stem < 2 ^ 32) × (q.candidate < 2 ^ 32)

-- the number of a reason is below 2^32
abbrev pub IsSmallReason : Reason → Type 0
IsSmallReason (Test t) = t < 2 ^ 32
IsSmallReason (Earlier n) = n < 2 ^ 32

-- how many equal reasons may be written as one
abbrev pub most_of : Bool → ℕ
most_of false = 1
most_of true = most

-- a run is of one reason at least, and of one alone where counts aren't written
abbrev pub IsRun : Bool → Run → Type 0
IsRun counts r = IsSmallReason r.reason × (0 < r.count) × (r.count ≤ most_of counts)

-- a nogood whose set stands by ascending stem, with numbers below 2^32
pub record IsEntry (e : RefutationEntry) : Type 0 where
  pub ascends : Ascends e.set
  pub pairs : All IsSmallPair e.set
  pub stem : e.stem < 2 ^ 32
  pub reasons : All IsSmallReason e.reasons

-- a line of the grammar is one of such a nogood
pub record IsWritten (counts : Bool) (w : Written) : Type 0 where
  pub ascends : Ascends w.set
  pub pairs : All IsSmallPair w.set
  pub stem : w.stem < 2 ^ 32
  pub runs : All (IsRun counts) w.runs

-- The text is one of these nogoods, with or without counts.
pub record IsTextOf (es : List RefutationEntry) (text : List ℕ) : Type 0 where
  pub counts : Bool
  pub lines : List Written
  pub good : All (IsWritten counts) lines
  pub means : map meant lines ≡ es
  pub spelled : text ≡ written_text counts lines

-- ---- the one spelling

-- the reasons are one
abbrev pub is_same : Reason → Reason → Bool
is_same (Test t) (Test u) = t == u
is_same (Test t) (Earlier n) = false
is_same (Earlier n) (Test t) = false
is_same (Earlier n) (Earlier m) = n == m

-- the runs of reasons, of which so many equal ones stand before the others
abbrev pub runs_behind : Reason → ℕ → List Reason → List Run
runs_behind x n [] = record { reason = x; count = n } ∷ []
runs_behind x n (y ∷ ys) = if is_same x y && nat_lt n most then runs_behind x (n + 1) ys else record { reason = x; count = n } ∷ runs_behind y 1 ys

-- the runs of reasons: each as long as it can be, from the left, up to the most that may be written as one
abbrev pub runs_of : List Reason → List Run
runs_of [] = []
runs_of (x ∷ xs) = runs_behind x 1 xs

-- a nogood in its one spelling
abbrev pub written : RefutationEntry → Written
written e = record { set = e.set; stem = e.stem; runs = runs_of e.reasons }

-- the line of a nogood in its one spelling
abbrev pub entry_text : RefutationEntry → List ℕ
entry_text e = line_text (written e)

-- a refutation is written as its first line, `refutation 2`, and a line for each nogood
abbrev pub refutation_text : List RefutationEntry → List ℕ
refutation_text es = header true ++ flat_map entry_text es

-- ---- what isn't of the grammar

-- the text's lines before this one are of the grammar, and this one isn't: it is there, but no line of the grammar stands in front of the rest of the text
pub record IsBadEntry (text : List ℕ) (count : ℕ) : Type 0 where
  pub counts : Bool
  pub before : List Written
  pub rest : List ℕ
  pub good : All (IsWritten counts) before
  pub counted : length before ≡ count
  pub parts : text ≡ written_text counts before ++ rest
  pub there : 0 < length rest
  pub bad : (w : Written) (more : List ℕ) → IsWritten counts w → rest ≡ line_text w ++ more → ⊥

-- the first line of a text that isn't of the grammar, by its number from 1
abbrev pub IsBadLine : List ℕ → ℕ → Type 0
IsBadLine text zero = ⊥
IsBadLine text (suc zero) = (counts : Bool) (rest : List ℕ) → text ≡ header counts ++ rest → ⊥
IsBadLine text (suc (suc count)) = IsBadEntry text count
