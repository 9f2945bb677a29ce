-- The line of a fault is one of the text's.
use Rattle.std.proofs.Common.{ℕ, suc, ◌+◌, ◌<◌, ◌≤◌, Bool, true, false, cond, ◌==◌, List, [], ◌∷◌, length, Option, Some, None, Result, Ok, Err, inl, inr, arith}
use Rattle.std.specs.Prelude.{IfSome}
use Rattle.std.specs.List.{AllByRecursion}
use Rattle.std.specs.Str.{is_utf8}
use Rattle.ips_text.specs.declared.refusal.Or.{Or}
use Rattle.ips_text.specs.declared.refusal.Or.TheVariants.{Bad, OutOfMemory}
use Rattle.ips_text.specs.Reading.{IfBad}
use Rattle.ips_action.specs.declared.fault.ActionFault.{ActionFault}
use Rattle.ips_manifest.specs.declared.fault.ManifestFault.{ManifestFault}
use Rattle.ips_manifest.specs.Logical.{Logical, into_first, physical_lines, logical_lines, continued, continues, unreadable_at, or_else, lines_of}
use Rattle.ips_manifest.specs.Text.{IsFaultAtBy, IsFirstInBy}

-- a text has no more lines than bytes
lines_few : (bytes : List ℕ) → length (physical_lines bytes) ≤ length bytes
lines_few [] = omega arith
lines_few (b ∷ bytes) = go (b == 10) (physical_lines bytes) (lines_few bytes)
  where
    go : (t : Bool) (lines : List (List ℕ)) → length lines ≤ length bytes → length (cond t ([] ∷ lines) (into_first b lines)) ≤ suc (length bytes)
    go true lines le = omega arith
    go false [] le = omega arith
    go false (line ∷ lines) le = omega arith

-- the numbers of a logical line are below this one
record IsBelow (top : ℕ) (line : Logical) : Type 0 where
  number : line.number < top
  unreadable : IfSome line.unreadable (λ n. n < top)

either_below : (top number : ℕ) (t : Bool) (later : Option ℕ) → number < top → IfSome later (λ n. n < top) → IfSome (or_else (cond t None (Some number)) later) (λ n. n < top)
either_below top number true later lt below = below
either_below top number false later lt below = lt

at_below : (top number : ℕ) (t : Bool) → number < top → IfSome (cond t None (Some number)) (λ n. n < top)
at_below top number true lt = tt
at_below top number false lt = lt

continued_below : (top number : ℕ) (line : List ℕ) (lines : List Logical) → number < top → AllByRecursion (IsBelow top) lines → AllByRecursion (IsBelow top) (continued number line lines)
continued_below top number line [] lt all = (record { number = lt; unreadable = at_below top number (is_utf8 line) lt }, tt)
continued_below top number line (next ∷ others) lt all = (record { number = lt; unreadable = either_below top number (is_utf8 line) next.unreadable lt all.0.unreadable }, all.1)

lines_below : (top number : ℕ) (lines : List (List ℕ)) → number + length lines ≤ top → AllByRecursion (IsBelow top) (logical_lines number lines)
lines_below top number [] le = tt
lines_below top number (line ∷ lines) le = go (continues line) (lines_below top (number + 1) lines (omega (arith, le)))
  where
    lt : number < top
    lt = omega (arith, le)

    go : (t : Bool) → AllByRecursion (IsBelow top) (logical_lines (number + 1) lines)
        → AllByRecursion (IsBelow top) (cond t (continued number line (logical_lines (number + 1) lines)) (record { number = number; text = line; unreadable = unreadable_at number line } ∷ logical_lines (number + 1) lines))
    go true all = continued_below top number line (logical_lines (number + 1) lines) lt all
    go false all = (record { number = lt; unreadable = at_below top number (is_utf8 line) lt }, all)

module _ {A L : Type 0} (Means : List ℕ → A → Type 0) (put : ℕ → A → L) (First : List ℕ → ActionFault → Type 0) where
  fault_below : (top : ℕ) (unreadable : Option ℕ) (line : Logical) (f : ManifestFault) → line.number < top → IfSome unreadable (λ n. n < top) → IsFaultAtBy Means First unreadable line f → f.line < top
  fault_below top (Some n) line f number below fault = rw (fault.0) below
  fault_below top None line f number below fault = rw (fault.1) number

  first_below : (top : ℕ) (lines : List Logical) (f : ManifestFault) → AllByRecursion (IsBelow top) lines → IsFirstInBy Means put First lines f → f.line < top
  first_below top [] f all first = absurd first
  first_below top (line ∷ others) f all (inl fault) = fault_below top line.unreadable line f all.0.number all.0.unreadable fault
  first_below top (line ∷ others) f all (inr later) = first_below top others f all.1 later.1

  -- the line of a text's fault is at most the number of its bytes
  pub fault_within : (bytes : List ℕ) (f : ManifestFault) → IsFirstInBy Means put First (lines_of bytes) f → f.line ≤ length bytes
  fault_within bytes f fault =
      let few = lines_few bytes in
      let lt = first_below (1 + length (physical_lines bytes)) (logical_lines 1 (physical_lines bytes)) f (lines_below (1 + length (physical_lines bytes)) 1 (physical_lines bytes) (omega arith)) fault in
      omega (arith, few, lt)

  pub bad_within : (X Y : Type 0) (e : Or ManifestFault) (bytes : List ℕ) → IfBad {X = X} (Err e) (λ f. IsFirstInBy Means put First (lines_of bytes) f) → IfBad {X = Y} (Err e) (λ f. f.line ≤ length bytes)
  bad_within X Y (Bad f) bytes h = fault_within bytes f h
  bad_within X Y OutOfMemory bytes h = tt

  pub where_bad : {V : Type 0} (r : Result V (Or ManifestFault)) (bytes : List ℕ) → IfBad r (λ f. IsFirstInBy Means put First (lines_of bytes) f) → IfBad r (λ f. f.line ≤ length bytes)
  where_bad (Ok v) bytes h = tt
  where_bad {V} (Err e) bytes h = bad_within V V e bytes h
