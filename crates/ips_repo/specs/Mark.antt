-- The mark of a repository.
use Rattle.std.specs.Prelude.{ℕ, Bool, false, ◌||◌, ◌==◌, not, if◌then◌else◌, List, filter, Option, Some, None, Result, Ok, Err, codes}
use Rattle.std.specs.List.{slice_split, list_any}
use Rattle.std.specs.Cmp.Lexicographic.{pointwise}
use Rattle.ips_outside.specs.Image.{Image}
use Rattle.ips_files.specs.Files.{file_at}
use Rattle.ips_repo.specs.Places.{mark_place}
use Rattle.ips_repo.specs.declared.fault.RepoFault.{RepoFault}
use Rattle.ips_repo.specs.declared.fault.RepoFault.TheVariants as fault

-- a blank is a space or a tab
abbrev pub is_blank : ℕ → Bool
is_blank b = (b == 32) || (b == 9)

-- the line without its blanks
abbrev pub without_blanks : List ℕ → List ℕ
without_blanks line = filter (λ b. not (is_blank b)) line

-- what marks a repository of format 4
abbrev pub mark : List ℕ
mark = codes "version=4"

-- the line without its blanks is the mark
abbrev pub is_mark_line : List ℕ → Bool
is_mark_line line = pointwise ◌==◌ (without_blanks line) mark

-- one of the lines, which newlines divide, is a mark line
abbrev pub has_mark_line : List ℕ → Bool
has_mark_line bytes = list_any is_mark_line (slice_split (λ b. b == 10) bytes)

-- a file with a mark line
abbrev pub is_mark_file : Option (List ℕ) → Bool
is_mark_file None = false
is_mark_file (Some bytes) = has_mark_line bytes

-- the folder is a repository of format 4: a file with a mark line stands at the place of the mark
abbrev pub is_repository : Image → Bool
is_repository t = is_mark_file (file_at t mark_place)

-- what judging the mark means
abbrev pub marking : Image → Result (Unit {0}) RepoFault
marking t = if is_repository t then Ok tt else Err fault.NoRepository

-- The faults of looking for the mark: there is none, or a call failed.
abbrev pub IsMarkFault : RepoFault → Type 0
IsMarkFault fault.NoRepository = Unit {0}
IsMarkFault (fault.BadCatalog why) = ⊥
IsMarkFault fault.ManifestMissing = ⊥
IsMarkFault (fault.BadManifest why) = ⊥
IsMarkFault fault.PayloadMissing = ⊥
IsMarkFault (fault.PayloadDamaged found) = ⊥
IsMarkFault (fault.Compressed found) = ⊥
IsMarkFault (fault.TooLarge which count) = ⊥
IsMarkFault fault.SourceFault = Unit {0}
