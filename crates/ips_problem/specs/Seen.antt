-- What rows and tests in memory show.
use Rattle.std.specs.Prelude.{ℕ, List, [], map, slice_get, Option, Some, None}
use Rattle.std.specs.Option.{option_map}
use Rattle.std.specs.declared.alloc.Global.{Global}
use Rattle.std.specs.declared.string.String.{String}
use Rattle.ips_request.specs.declared.read.Read.{Read}
use Rattle.ips_request.specs.Stems.{stems_of}
use Rattle.ips_problem.specs.declared.rows.Row as declared
use Rattle.ips_problem.specs.declared.rows.Numbered as numbered
use Rattle.ips_problem.specs.declared.rows.Numbers.{Numbers}
use Rattle.ips_fmri.specs.declared.fmri.Fmri.{Fmri}
use Rattle.ips_depend.specs.Dependency.{mentions}
use Rattle.ips_problem.specs.Posed.{Offer, StemRow, Numbered, Posed, number_of}

-- what a version that was read offers
abbrev pub seen_read : Read → Offer
seen_read r = record { version = r.version; lines = r.manifest.lines.items }

-- what the version with this number offers; absence offers nothing
abbrev pub seen_candidate : List Read → Option ℕ → Option Offer
seen_candidate reads None = None
seen_candidate reads (Some i) = option_map seen_read (slice_get reads i)

-- what is known of a stem
abbrev pub seen_row : declared.Row → StemRow
seen_row r = record { before = r.before; spared = r.spared; candidates = map (seen_candidate r.reads.items) r.candidates.items }

-- a test
abbrev pub seen_test : numbered.Numbered → Numbered
seen_test n = record { stem = n.stem; candidate = n.candidate; dependency = n.test }

-- the numbers of the stems that a test mentions, each where it is in reach, in their order
abbrev pub seen_numbers : Numbers → List (Option ℕ)
seen_numbers m = m.mentioned.items

-- the number of the stem of each thing that a dependency mentions, where it is in reach
abbrev pub numbers_mentioned : Posed → Numbered → List (Option ℕ)
numbers_mentioned p n = map (λ (f : Fmri). number_of p f.stem) (mentions n.dependency)

-- the puzzle of these stems and rows, without tests
abbrev pub puzzle_of : List (String Global) → List declared.Row → Posed
puzzle_of keys rows = record { stems = stems_of keys; rows = map seen_row rows; tests = []; avoid = [] }
