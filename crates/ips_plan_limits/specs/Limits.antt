-- The limits of a plan.
use Rattle.std.specs.Prelude.{ℕ, Bool, ◌&&◌, ◌||◌, not, cond, nat_lt, List, [], ◌∷◌, length, Option, Some, None, slice_get}
use Rattle.std.specs.Option.{option_map}
use Rattle.std.specs.Ordering.{nat_cmp, is_gt}
use Rattle.std.specs.Cmp.Lexicographic.{slice_cmp}
use Rattle.ips_text.specs.declared.limits.Which.{Which}
use Rattle.ips_text.specs.declared.limits.Which.TheVariants.{AccountBytes, ImageFileBytes, Names, Steps}
use Rattle.ips_text.specs.Ancestry.{covers, same_path}
use Rattle.ips_steps.specs.Private.{records_name}
use Rattle.ips_steps.specs.Steps.{Step, Gone, Fresh, Mode, Put, Symlink, Hard}
use Rattle.ips_journal.specs.declared.staged.Staged.{Staged}
use Rattle.ips_journal.specs.declared.staged.Staged.TheVariants.{Payload, Bytes, Standing}
use Rattle.ips_after.specs.Findings.{is_account_path}
use Rattle.ips_due.specs.Delivered.{owners_path, drivers_path}
use Rattle.ips_plan_limits.specs.Names.{most_names}
use Rattle.ips_plan_limits.specs.declared.large.Large.{Large}
use Rattle.ips_plan_limits.specs.declared.limits.Excess.{Excess}

-- The path is at or below `var/pkg`, but for the owners and the drivers: the records that an image is loaded from stand at such.
abbrev pub is_loaded_path : List ℕ → Bool
is_loaded_path path = covers records_name path && not (same_path owners_path path || same_path drivers_path path)

-- How many bytes a file may have at the path: an account file 16 MiB, a record that an image is loaded from 64 MiB; there is no limit to others.
abbrev pub limit_at : List ℕ → Option ℕ
limit_at path = cond (is_account_path path) (Some 16777216) (cond (is_loaded_path path) (Some 67108864) None)

-- What there is too much of where a file at the path is too large.
abbrev pub which_at : List ℕ → Which
which_at path = cond (is_account_path path) AccountBytes ImageFileBytes

-- How many bytes of its own a content has; none if it is a payload or a copy of what stands.
abbrev pub own_count : Option Staged → Option ℕ
own_count (Some (Payload name)) = None
own_count (Some (Bytes bytes)) = Some (length bytes.items)
own_count (Some (Standing from)) = None
own_count None = None

-- The file of the path with so many bytes, where that is more than this limit.
abbrev pub large_over : List ℕ → ℕ → Option ℕ → Option (List ℕ × ℕ)
large_over path count (Some limit) = cond (nat_lt limit count) (Some (path, count)) None
large_over path count None = None

-- The file of the path with so many bytes, where that is more than it may have.
abbrev pub large_at : List ℕ → Option ℕ → Option (List ℕ × ℕ)
large_at path (Some count) = large_over path count (limit_at path)
large_at path None = None

-- The file that the step puts with bytes of its own, where it has more than it may have.
abbrev pub large_of : List Staged → Step → Option (List ℕ × ℕ)
large_of staged (Gone p) = None
large_of staged (Fresh m p) = None
large_of staged (Mode m p) = None
large_of staged (Put n m p) = large_at p (own_count (slice_get staged n))
large_of staged (Symlink p target) = None
large_of staged (Hard p to) = None

-- Of two files the one of the lesser path, else the first.
abbrev pub lesser_of : List ℕ × ℕ → List ℕ × ℕ → List ℕ × ℕ
lesser_of found other = cond (is_gt (slice_cmp nat_cmp found.0 other.0)) other found

-- The same, where each may be none.
abbrev pub lesser_large : Option (List ℕ × ℕ) → Option (List ℕ × ℕ) → Option (List ℕ × ℕ)
lesser_large (Some found) (Some other) = Some (lesser_of found other)
lesser_large (Some found) None = Some found
lesser_large None other = other

-- The file of the least path of these steps, and of what was found before them.
abbrev pub least_large : List Staged → Option (List ℕ × ℕ) → List Step → Option (List ℕ × ℕ)
least_large staged found [] = found
least_large staged found (s ∷ later) = least_large staged (lesser_large found (large_of staged s)) later

-- The file of the least path, by bytes, that is put with bytes of its own and has more than it may have.
abbrev pub first_large : List Staged → List Step → Option (List ℕ × ℕ)
first_large staged steps = least_large staged None steps

-- The first file that is too large, as what there is too much of.
abbrev pub large_excess : List Step → List Staged → Option Excess
large_excess steps staged = option_map (λ (f : List ℕ × ℕ). record { which = which_at f.0; count = f.1 }) (first_large staged steps)

-- What of a plan is beyond its limit: its steps, of which there may be 4,000,000; else the names of one file, of which there may be 32,000; or else the
-- first file that is too large.
abbrev pub first_excess : List Step → List Staged → Option Excess
first_excess steps staged = cond (nat_lt 4000000 (length steps)) (Some (record { which = Steps; count = length steps }))
    (cond (nat_lt 32000 (most_names steps)) (Some (record { which = Names; count = most_names steps })) (large_excess steps staged))

-- A file that is too large, as it is told: its path and how many bytes it has.
abbrev pub large_told : Large → List ℕ × ℕ
large_told f = (f.path.now.bytes, f.count)
