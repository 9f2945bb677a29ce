-- Paths that are or were wanted.
use Rattle.std.specs.Prelude.{ℕ, List, Option, Some, None}
use Rattle.std.specs.Option.{option_map}
use Rattle.std.specs.declared.cmp.Ordering.{Ordering}
use Rattle.std.specs.declared.cmp.Ordering.TheVariants.{Less, Equal, Greater}
use Rattle.std.specs.Ordering.{nat_cmp}
use Rattle.std.specs.Cmp.Lexicographic.{slice_cmp}
use Rattle.ips_meaning.specs.declared.entry.Entry.{Entry}
use Rattle.ips_after.specs.Request.{Wanted}
use Rattle.ips_change.specs.wanted.Wanted.{wanted_of}
use Rattle.ips_change.specs.declared.survey.pair.Pair as declared

-- A path, with what was wanted there and what is.
pub record Pair : Type 0 where
  pub path : List ℕ
  pub was : Option Wanted
  pub wanted : Option Wanted

-- a pair as the code holds it
abbrev pub pair_seen : declared.Pair → Pair
pair_seen p = record { path = p.path.now.bytes; was = option_map (λ x. wanted_of x.now) p.old; wanted = option_map (λ x. wanted_of x.now) p.new }

-- a path that was wanted and isn't
abbrev pub old_alone : List ℕ × Entry → Pair
old_alone x = record { path = x.0; was = Some (wanted_of x.1); wanted = None }

-- a path that is wanted and wasn't
abbrev pub new_alone : List ℕ × Entry → Pair
new_alone x = record { path = x.0; was = None; wanted = Some (wanted_of x.1) }

-- a path that was wanted and is
abbrev pub together : List ℕ × Entry → List ℕ × Entry → Pair
together x y = record { path = x.0; was = Some (wanted_of x.1); wanted = Some (wanted_of y.1) }

-- the one that comes first, by how their paths compare
abbrev pub ranked : Ordering → List ℕ × Entry → List ℕ × Entry → Pair
ranked Less x y = old_alone x
ranked Equal x y = together x y
ranked Greater x y = new_alone y

-- the one that comes first of an old and a new path, or both where they are one
abbrev pub lesser : List ℕ × Entry → List ℕ × Entry → Pair
lesser x y = ranked (slice_cmp nat_cmp x.0 y.0) x y

-- the same of the next ones, where there are such
abbrev pub first : Option (List ℕ × Entry) → Option (List ℕ × Entry) → Option Pair
first (Some x) (Some y) = Some (lesser x y)
first (Some x) None = Some (old_alone x)
first None (Some y) = Some (new_alone y)
first None None = None

-- how many entries of a Want a path takes
abbrev pub taken : {A : Type 0} → Option A → ℕ
taken (Some x) = 1
taken None = 0
