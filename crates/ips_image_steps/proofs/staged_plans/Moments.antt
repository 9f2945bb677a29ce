-- The text of a moment can stand in a name.
use Rattle.std.proofs.Common.{◌≡◌, ◌<◌, ◌+◌, ◌/◌, ◌%◌, ◌^◌, ◌++◌, ◌∷◌, [], ℕ, true, List, refl, sym, subst, arith}
use Rattle.std.specs.List.{list_all}
use Rattle.std.proofs.lemmas.Bool.{and_from}
use Rattle.ips_fmri.specs.Version.{pair, stamp_text}
use Rattle.ips_aside.specs.lost_and_found.Moments.{NamesMoment, is_stamp_byte}
use Rattle.ips_moment.specs.Moment.{IsMomentText, stamp_number}

pair_bytes : (n : ℕ) (rest : List ℕ) → n < 100 → list_all is_stamp_byte rest ≡ true → list_all is_stamp_byte (pair n ++ rest) ≡ true
pair_bytes n rest few all = and_from (is_stamp_byte (48 + n / 10)) _ (digit_byte (n / 10) (omega arith)) (and_from (is_stamp_byte (48 + n % 10)) _ (digit_byte (n % 10) (omega arith)) all)
  where
    digit_byte : (n : ℕ) → n < 10 → is_stamp_byte (48 + n) ≡ true
    digit_byte n few = grind arith

stamp_named : (n : ℕ) → NamesMoment (stamp_text n)
stamp_named n =
    let seconds = pair (n % 100) ++ 90 ∷ [] in
    let minutes = pair (n / 10 ^ 2 % 100) ++ seconds in
    let hours = pair (n / 10 ^ 4 % 100) ++ minutes in
    let days = pair (n / 10 ^ 6 % 100) ++ 84 ∷ hours in
    let months = pair (n / 10 ^ 8 % 100) ++ days in
    let years = pair (n / 10 ^ 10 % 100) ++ months in
    let at_hours : list_all is_stamp_byte hours ≡ true = pair_bytes (n / 10 ^ 4 % 100) minutes (omega arith) (pair_bytes (n / 10 ^ 2 % 100) seconds (omega arith) (pair_bytes (n % 100) (90 ∷ []) (omega arith) refl)) in
    record {
      bytes = pair_bytes (n / 10 ^ 12 % 100) years (omega arith) (pair_bytes (n / 10 ^ 10 % 100) months (omega arith) (pair_bytes (n / 10 ^ 8 % 100) days (omega arith) (pair_bytes (n / 10 ^ 6 % 100) (84 ∷ hours) (omega arith) at_hours)));
      some = omega arith;
      few = omega arith;
    }

pub moment_named : (moment : ℕ) (text : List ℕ) → IsMomentText moment text → NamesMoment text
moment_named moment text is = subst NamesMoment (sym is.written) (stamp_named (stamp_number is.clock))
