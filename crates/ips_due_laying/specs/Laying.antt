-- What is laid, by what is due and outstanding.
use Rattle.std.specs.Prelude.{ℕ, cond, List, [], ◌∷◌, map, Option, Some, None, slice_get}
use Rattle.std.specs.Option.{option_map}
use Rattle.ips_text.specs.Ancestry.{same_path}
use Rattle.ips_due.specs.Due.{Content, Due, DueFile, OfPayload, Own}
use Rattle.ips_laying.specs.Laying.{Laid, LaidDir, LaidFile, LaidPayload}
use Rattle.ips_due.specs.declared.outstanding.verdict.Named.{Named}
use Rattle.ips_due.specs.declared.outstanding.verdict.Verdict.{Verdict}
use Rattle.ips_due.specs.declared.outstanding.verdict.Verdict.TheVariants as verdict

-- What is said of a path, where it is named.
abbrev pub verdict_at : List Named → List ℕ → Option Verdict
verdict_at [] q = None
verdict_at (n ∷ named) q = cond (same_path n.path.bytes q) n.verdict (verdict_at named q)

-- An account file, as it is laid.
abbrev pub account_laid : DueFile → Laid
account_laid f = LaidFile f.mode f.bytes

-- A content, as it is laid for a record: with mode 0644, and a payload by its name.
abbrev pub content_laid : Content → Laid
content_laid (Own bytes) = LaidFile 420 bytes
content_laid (OfPayload payload) = LaidPayload 420 payload

-- A record, as it is laid.
abbrev pub record_laid : List ℕ × Content → Laid
record_laid r = content_laid r.1

-- What is laid by a verdict; nothing where what stands is taken away.
abbrev pub laid_by : Due → Verdict → Option Laid
laid_by due (verdict.Account n) = option_map account_laid (slice_get due.accounts n)
laid_by due (verdict.Record n) = option_map record_laid (slice_get due.records n)
laid_by due verdict.Folder = Some (LaidDir 493)
laid_by due verdict.Gone = None

-- What is laid by what is said; nothing where nothing is.
abbrev pub laid_for : Due → Option Verdict → Option Laid
laid_for due (Some v) = laid_by due v
laid_for due None = None

-- A path, and what is laid there, if anything is.
abbrev pub Place : Type 0
Place = List ℕ × Option Laid

-- The paths that are named, each with what is laid there by what is due.
abbrev pub laid_paths : Due → List Named → List Place
laid_paths due named = map (λ n. (n.path.bytes, laid_for due n.verdict)) named

-- What is laid at a path; nothing where it isn't among these.
abbrev pub laid_at : List Place → List ℕ → Option Laid
laid_at [] q = None
laid_at (p ∷ places) q = cond (same_path p.0 q) p.1 (laid_at places q)
