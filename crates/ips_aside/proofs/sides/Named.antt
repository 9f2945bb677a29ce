-- What becomes of names beside paths.
use Rattle.std.proofs.Common.{◌≡◌, ℕ, Bool, true, false, ◌||◌, List, ◌++◌, length, nat_lt, Option, Some, None, is_some, refl, arith, inl, inr}
use Rattle.std.proofs.lemmas.Bool.{false_from_ne_true, lt-ltb, or_left, or_right}
use Rattle.ips_text.specs.Path.{Has, IsPath}
use Rattle.ips_text.specs.declared.path.PathFault.TheVariants.{TooLong}
use Rattle.ips_outside.specs.Image.{Entry, Image, IsImage}
use Rattle.ips_after.specs.Planned.{IsProperRequest}
use Rattle.ips_after.specs.Request.{Request, Wanted}
use Rattle.ips_after.specs.Salvage.{dir_or_other, is_long_path, is_lost}
use Rattle.ips_change.specs.Told.{naming}
use Rattle.ips_aside.specs.declared.sides.side.Put.{Put}
use Rattle.ips_aside.specs.declared.sides.side.Put.TheVariants.{Legacy, New, Old}
use Rattle.ips_aside.specs.declared.sides.side.SideName.TheVariants as name
use Rattle.ips_aside.specs.sides.Sides.{IsNameOf, ending_of}
use Rattle.ips_aside.proofs.sides.Longer.{IsEnding, ended_path}

pub is_ending : (put : Put) → IsEnding (ending_of put)
is_ending (Old m) = record { no_slash = refl; no_nul = refl; ascii = refl; three = omega arith }
is_ending (Legacy m) = record { no_slash = refl; no_nul = refl; ascii = refl; three = omega arith }
is_ending (New payload m) = record { no_slash = refl; no_nul = refl; ascii = refl; three = omega arith }

too_long : (q : List ℕ) → Has TooLong q → is_long_path q ≡ true
too_long q (inl long) = or_left (nat_lt 1023 (length q)) _ (lt-ltb 1023 (length q) long)
too_long q (inr part) = or_right (nat_lt 1023 (length q)) _ part

-- a path with an extension that is no path is too long
pub long_end : (p : List ℕ) (put : Put) → IsPath p → (IsPath (p ++ ending_of put) → ⊥) → is_long_path (p ++ ending_of put) ≡ true
long_end p put path never = go (is_long_path (p ++ ending_of put)) refl
  where
    both_ways : (b : Bool) → b ≡ true → b ≡ false → ⊥
    both_ways true one other = cc
    both_ways false one other = cc

    go : (b : Bool) → is_long_path (p ++ ending_of put) ≡ b → is_long_path (p ++ ending_of put) ≡ true
    go true is = is
    go false is = absurd (never (ended_path p (ending_of put) path (is_ending put) (λ long. both_ways _ (too_long _ long) is)))

-- what is no path is not lost: nothing stands there, and nothing was or is wanted there
none_lost : (a b c : Bool) → a ≡ false → b ≡ false → c ≡ false → ((a || b) || c) ≡ false
none_lost false false false ea eb ec = refl
none_lost true b c ea eb ec = cc
none_lost false true c ea eb ec = cc
none_lost false false true ea eb ec = cc

wanted_path : (r : Request) (q : List ℕ) (w : Option Wanted) → r.new.at q ≡ w → IsProperRequest r → is_some w ≡ true → IsPath q
wanted_path r q (Some w) is proper some = (proper.news q w is).0
wanted_path r q None is proper some = cc

other_stands : (e : Option Entry) → dir_or_other e ≡ true → is_some e ≡ true
other_stands (Some e) h = refl
other_stands None h = cc

pub unlost : (r : Request) (t : Image) (q : List ℕ) → IsProperRequest r → IsImage t → (IsPath q → ⊥) → is_lost (naming r) t q ≡ false
unlost r t q proper image never = none_lost (is_some (r.old.at q)) (is_some (r.new.at q)) (dir_or_other (t.look q))
    (false_from_ne_true _ (λ e. never (proper.olds q e)))
    (false_from_ne_true _ (λ e. never (wanted_path r q (r.new.at q) refl proper e)))
    (false_from_ne_true _ (λ e. never (image.paths q (other_stands (t.look q) e))))

pub long_name : (r : Request) (t : Image) (p : List ℕ) (put : Put) → IsProperRequest r → IsImage t → IsPath p → (IsPath (p ++ ending_of put) → ⊥) → IsNameOf (naming r) t (p ++ ending_of put) name.TooLong
long_name r t p put proper image path never = (long_end p put path never, unlost r t (p ++ ending_of put) proper image never)
