-- The lines of the file `image`, each by itself, and which may stand behind which.
use Rattle.std.specs.Prelude.{◌≡◌, ◌⊎◌, ℕ, ◌+◌, ◌<◌, Bool, true, false, length, List, [], ◌∷◌, ◌++◌, map, Option, Some, None, codes}
use Rattle.std.specs.Ordering.{nat_cmp}
use Rattle.std.specs.Cmp.Lexicographic.{slice_cmp}
use Rattle.std.specs.declared.cmp.Ordering.TheVariants.{Less}
use Rattle.ips_text.specs.Quote.{quoted}
use Rattle.ips_fmri.specs.Name.{IsPublisher}
use Rattle.ips_filter.specs.Settings.{Sets}
use Rattle.ips_records.specs.Form.{IsWord}
use Rattle.ips_state.specs.declared.state.Origin.{Origin}
use Rattle.ips_state.specs.State.{Head}
use Rattle.ips_state.specs.Lawful.{IsHead, AreOrigins, Differ}
use Rattle.ips_state.specs.Text.{format_line, publisher_line, origin_line, variant_line, facet_line}
use Rattle.ips_load.specs.declared.head_lines.HeadLine.{HeadLine}
use Rattle.ips_load.specs.declared.head_lines.HeadLine.TheVariants as line
use Rattle.ips_load.specs.declared.heading.Heading.{Heading}

-- The line of the actuator word.
abbrev pub actuator_line : List ℕ → List ℕ
actuator_line word = codes "actuator " ++ quoted word

-- How a line is written.
abbrev pub head_line_text : HeadLine → List ℕ
head_line_text (line.Format n) = format_line n
head_line_text (line.Publisher p) = publisher_line p
head_line_text (line.Origin o) = origin_line o
head_line_text (line.Actuator w) = actuator_line w
head_line_text (line.Variant n v) = variant_line (n, v)
head_line_text (line.Facet p on) = facet_line (p, on)

-- The origin is named by a publisher.
abbrev pub IsOrigin : Origin → Type 0
IsOrigin o = IsPublisher o.name

-- The name and the value of a variant are words.
abbrev pub IsVariant : List ℕ × List ℕ → Type 0
IsVariant v = IsWord v.0 × IsWord v.1

-- The pattern of a facet is a word.
abbrev pub IsFacet : List ℕ × Bool → Type 0
IsFacet f = IsWord f.0

-- The records have this format: the first or the second.
abbrev pub IsFormat : ℕ → Type 0
IsFormat n = (n ≡ 1) ⊎ (n ≡ 2)

-- What may be said in a line by itself.
abbrev pub IsHeadLine : HeadLine → Type 0
IsHeadLine (line.Format n) = IsFormat n
IsHeadLine (line.Publisher p) = IsPublisher p
IsHeadLine (line.Origin o) = IsOrigin o
IsHeadLine (line.Actuator w) = IsWord w
IsHeadLine (line.Variant n v) = IsVariant (n, v)
IsHeadLine (line.Facet p on) = IsFacet (p, on)

-- The place of a kind of line among the others.
abbrev pub rank : HeadLine → ℕ
rank (line.Format n) = 0
rank (line.Publisher p) = 1
rank (line.Origin o) = 2
rank (line.Actuator w) = 3
rank (line.Variant n v) = 4
rank (line.Facet p on) = 5

-- The second line may stand behind the first: it is of a later kind; an origin also behind an origin, and a variant or a facet
-- behind one of a lesser name.
abbrev pub FollowsLine : HeadLine → HeadLine → Type 0
FollowsLine (line.Origin o) (line.Origin p) = Unit {0}
FollowsLine (line.Variant n v) (line.Variant m w) = slice_cmp nat_cmp n m ≡ Less
FollowsLine (line.Facet p on) (line.Facet q off) = slice_cmp nat_cmp p q ≡ Less
FollowsLine a b = rank a < rank b

-- The line of an actuator word, where one is set.
abbrev pub actuator_items : Option (List ℕ) → List HeadLine
actuator_items None = []
actuator_items (Some w) = line.Actuator w ∷ []

-- The line of a variant.
abbrev pub variant_item : List ℕ × List ℕ → HeadLine
variant_item v = line.Variant v.0 v.1

-- The line of a facet.
abbrev pub facet_item : List ℕ × Bool → HeadLine
facet_item f = line.Facet f.0 f.1

-- What stands behind the lines of format and publisher.
abbrev pub tail_items : Head → List HeadLine
tail_items h = map line.Origin h.origins ++ actuator_items h.actuator ++ map variant_item h.settings.variants ++ map facet_item h.settings.facets

-- What the lines of the file `image` say, one by one.
abbrev pub head_items : Head → List HeadLine
head_items h = line.Format h.format ∷ line.Publisher h.publisher ∷ tail_items h

-- What the heading in memory says.
abbrev pub head_read : Heading → Head
head_read h = record { format = h.format; publisher = h.publisher; origins = h.origins.items; actuator = h.actuator; settings = h.settings }

-- ---- what some lines say

-- the origin of a line
abbrev pub origin_in : HeadLine → List Origin
origin_in (line.Origin o) = o ∷ []
origin_in x = []

-- the actuator word of a line
abbrev pub actuator_in : HeadLine → List (List ℕ)
actuator_in (line.Actuator w) = w ∷ []
actuator_in x = []

-- the variant of a line
abbrev pub variant_in : HeadLine → List (List ℕ × List ℕ)
variant_in (line.Variant n v) = (n, v) ∷ []
variant_in x = []

-- the facet of a line
abbrev pub facet_in : HeadLine → List (List ℕ × Bool)
facet_in (line.Facet p on) = (p, on) ∷ []
facet_in x = []

-- the first word of a list, if there is one
abbrev pub first_word : List (List ℕ) → Option (List ℕ)
first_word [] = None
first_word (w ∷ words) = Some w

-- ---- which lines a heading has

-- The lines are those of a heading that an image may have.
abbrev pub IsHeadOf : List HeadLine → Type 0
IsHeadOf lines = (h : Head) × IsHead h × (lines ≡ head_items h)

-- Some such heading begins with these lines.
abbrev pub BeginsHead : List HeadLine → Type 0
BeginsHead front = (more : List HeadLine) × IsHeadOf (front ++ more)

-- Behind these lines no heading goes on with what comes next: with the next line, or, where the flag says that these are all,
-- with the end.
abbrev pub StopsHead : Bool → List HeadLine → List HeadLine → Type 0
StopsHead whole front (x ∷ rest) = BeginsHead (front ++ x ∷ []) → ⊥
StopsHead true front [] = IsHeadOf front → ⊥
StopsHead false front [] = Unit {0}

-- The number, from 1, of the first line with which no heading goes on; where these lines aren't all, that may be the one behind
-- them.
pub record IsFirstBadItem (whole : Bool) (lines : List HeadLine) (number : ℕ) : Type 0 where
  pub front : List HeadLine
  pub rest : List HeadLine
  pub cut : lines ≡ front ++ rest
  pub place : number ≡ length front + 1
  pub begins : BeginsHead front
  pub stops : StopsHead whole front rest

-- The first of the origins that can't stand there has this place: those before it may be the origins of an image, and no more of
-- them with it.
pub record IsBadOrigin (format : ℕ) (origins : List Origin) (place : ℕ) : Type 0 where
  pub front : List Origin
  pub origin : Origin
  pub rest : List Origin
  pub cut : origins ≡ front ++ origin ∷ rest
  pub count : place ≡ length front
  pub stand : AreOrigins format front
  pub never : (more : List Origin) → AreOrigins format (front ++ origin ∷ more) → ⊥

-- Afterwards the names have these values, and every other name has what it had.
abbrev pub AreSet : {V : Type 0} → List (List ℕ × V) → List (List ℕ × V) → List (List ℕ × V) → Type 0
AreSet [] old new = new ≡ old
AreSet (s ∷ more) old new = (more ≡ []) × Sets s.0 (Some s.1) old new
