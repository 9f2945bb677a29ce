-- Reading a refutation's text from left to right.
use Rattle.std.specs.Prelude.{ℕ, ◌+◌, ◌^◌, ◌==◌, ◌&&◌, nat_lt, if◌then◌else◌, Bool, true, List, [], ◌∷◌, length, drop, Result, Ok, Err}
use Rattle.ips_text.specs.declared.refusal.Stop.{Stop}
use Rattle.ips_text.specs.Reading.{◌>>=◌, Reader, next_is, both, via, one_or_more}
use Rattle.ips_text.specs.Number.{number_at}
use Rattle.ips_refute.specs.declared.nogoods.Pair.{Pair}
use Rattle.ips_refute.specs.declared.nogoods.Reason.{Reason}
use Rattle.ips_refute.specs.declared.nogoods.Reason.TheVariants.{Test, Earlier}
use Rattle.ips_refute.specs.declared.reading.BadLine.{BadLine}
use Rattle.ips_refute.specs.declared.runs.Run.{Run}
use Rattle.ips_refute.specs.Text.{RefutationEntry, Written, most, reasons_of}

-- a reader of which only this matters: whether it stops
abbrev pub Scanner : Type 0 → Type 0
Scanner A = Reader (Unit {0}) A

-- reading stops in front of these bytes
abbrev pub stop_at : List ℕ → Stop (Unit {0})
stop_at bytes = record { kind = tt; left = length bytes }

-- a number below 2^32
unfoldable pub small_at : Scanner ℕ
small_at bytes = do
  x ← number_at tt bytes
  if nat_lt x.0 (2 ^ 32) then Ok x else Err (stop_at bytes)

-- a byte that has to stand here
unfoldable pub mark_at : ℕ → Scanner (Unit {0})
mark_at mark [] = Err (stop_at [])
mark_at mark (b ∷ bytes) = if b == mark then Ok (tt, bytes) else Err (stop_at (b ∷ bytes))

-- nothing is kept of a bar
abbrev pub nothing : Unit {0} × (Unit {0} × Unit {0}) → Unit {0}
nothing x = tt

-- what stands between the fields of a line: ` | `
unfoldable pub bar_at : Scanner (Unit {0})
bar_at = via nothing (both (mark_at 32) (both (mark_at 124) (mark_at 32)))

-- a pair of the two numbers that were read
abbrev pub pair_of : ℕ × (Unit {0} × ℕ) → Pair
pair_of x = record { stem = x.0; candidate = x.1.1 }

-- a pair: two numbers with a dot between them
unfoldable pub pair_at : Scanner Pair
pair_at = via pair_of (both small_at (both (mark_at 46) small_at))

-- values with a mark between them, or `-` where there are none
abbrev pub listed_at : {A : Type 0} → ℕ → Scanner A → Scanner (List A)
listed_at mark r bytes = if next_is 45 bytes then Ok ([], drop 1 bytes) else one_or_more mark r bytes

-- pairs joined by `,`, or `-`
unfoldable pub pairs_at : Scanner (List Pair)
pairs_at = listed_at 44 pair_at

-- the stems of the pairs ascend
abbrev pub ascends : List Pair → Bool
ascends [] = true
ascends (p ∷ []) = true
ascends (p ∷ q ∷ set) = nat_lt p.stem q.stem && ascends (q ∷ set)

-- a set: pairs whose stems ascend, or `-`
unfoldable pub set_at : Scanner (List Pair)
set_at bytes = do
  x ← pairs_at bytes
  if ascends x.0 then Ok x else Err (stop_at bytes)

-- a reason: a number behind its kind
unfoldable pub reason_at : Scanner Reason
reason_at [] = Err (stop_at [])
reason_at (b ∷ bytes) =
    if b == 116
    then via (λ t. Test t) small_at bytes
    else (if b == 110 then via (λ n. Earlier n) small_at bytes else Err (stop_at (b ∷ bytes)))

-- a count: a number from 2 to the most that may be written as one
unfoldable pub count_at : Scanner ℕ
count_at bytes = do
  x ← small_at bytes
  if nat_lt 1 x.0 && nat_lt x.0 (most + 1) then Ok x else Err (stop_at bytes)

-- so many equal reasons in a row
abbrev pub run : Reason → ℕ → Run
run reason count = record { reason = reason; count = count }

-- a reason, and behind it `*` and a count where counts may be written
unfoldable pub run_at : Bool → Scanner Run
run_at counts bytes = do
  x ← reason_at bytes
  if counts && next_is 42 x.1 then via (run x.0) count_at (drop 1 x.1) else Ok (run x.0 1, x.1)

-- runs joined by one blank, or `-`
unfoldable pub runs_at : Bool → Scanner (List Run)
runs_at counts = listed_at 32 (run_at counts)

-- the number between two bars
abbrev pub between : Unit {0} × (ℕ × Unit {0}) → ℕ
between x = x.1.0

-- the further stem, between its bars
unfoldable pub stem_at : Scanner ℕ
stem_at = via between (both bar_at (both small_at bar_at))

-- the fields of a line
abbrev pub Fields : Type 0
Fields = List Pair × (ℕ × (List Run × Unit {0}))

-- the fields of a line, where counts may be written or not
unfoldable pub fields_at : Bool → Scanner Fields
fields_at counts = both set_at (both stem_at (both (runs_at counts) (mark_at 10)))

-- a nogood of the fields that were read, as it was written
abbrev pub written_from : Fields → Written
written_from x = record { set = x.0; stem = x.1.0; runs = x.1.1.0 }

-- and what it means
abbrev pub entry_from : Fields → RefutationEntry
entry_from x = record { set = x.0; stem = x.1.0; reasons = reasons_of x.1.1.0 }

-- a nogood's line, and what it means
unfoldable pub entry_at : Bool → Scanner RefutationEntry
entry_at counts = via entry_from (fields_at counts)

-- a nogood's line behind so many, or its number where it isn't of the grammar
abbrev pub numbered : {A : Type 0} → ℕ → Result A (Stop (Unit {0})) → Result A BadLine
numbered count (Ok x) = Ok x
numbered count (Err s) = Err (record { line = count + 2 })

-- a nogood's line behind so many
abbrev pub line_at : Bool → ℕ → List ℕ → Result (RefutationEntry × List ℕ) BadLine
line_at counts count bytes = numbered count (entry_at counts bytes)
