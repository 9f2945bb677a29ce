-- What a command asks to be shown.
use Rattle.std.specs.Prelude.{ℕ, Bool, List, Option, Some, None}
use Rattle.ips_fmri.specs.declared.pattern.Pattern.{Pattern}
use Rattle.ips_words.specs.declared.what.What.{What}
use Rattle.ips_words.specs.declared.what.What.TheVariants as what
use Rattle.ips_showing.specs.declared.showing.Showing.{Showing}
use Rattle.ips_showing.specs.declared.showing.Showing.TheVariants as showing

-- The installed packages, the history, what the package that a pattern names delivers or its manifest, what differs from the
-- packages, or where a word stands in them.
pub data Asked : Type 0 where
  Listing : Asked
  History : Asked
  Contents : Pattern → Bool → Asked
  Verify : Asked
  Search : List ℕ → Asked

-- All records are asked for.
abbrev pub IsOfRecords : Asked → Type 0
IsOfRecords Listing = Unit {0}
IsOfRecords History = Unit {0}
IsOfRecords (Contents pattern manifest) = Unit {0}
IsOfRecords Verify = Unit {0}
IsOfRecords (Search pattern) = ⊥

-- What is asked, by what was lent.
abbrev pub asked : Showing → Asked
asked showing.Listing = Listing
asked showing.History = History
asked (showing.Contents pattern manifest) = Contents pattern.now manifest
asked showing.Verify = Verify
asked (showing.Search pattern) = Search pattern.now

-- What a command asks to be shown, where it shows something of an image.
abbrev pub asked_by : What → Option Asked
asked_by what.List = Some Listing
asked_by what.History = Some History
asked_by (what.Contents pattern manifest) = Some (Contents pattern manifest)
asked_by what.Verify = Some Verify
asked_by (what.Search pattern) = Some (Search pattern)
asked_by other = None
