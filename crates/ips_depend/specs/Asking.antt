-- Which dependencies a manifest asks for in an image, and its first line that is no dependency though it should be one.
use Rattle.std.specs.Prelude.{◌≡◌, ℕ, ◌⊎◌, Bool, List, [], ◌∷◌, ◌++◌, codes, bytes_eq}
use Rattle.std.specs.List.{list_any}
use Rattle.ips_fmri.specs.declared.fmri.Fmri.{Fmri}
use Rattle.ips_fmri.specs.Fmri.{IsFmri, WritesFmri}
use Rattle.ips_action.specs.declared.kind.ActionKind.TheVariants as kind
use Rattle.ips_action.specs.Attrs.{Attr, values_of}
use Rattle.ips_manifest.specs.declared.line.Line.{Line}
use Rattle.ips_filter.specs.Settings.{Set}
use Rattle.ips_filter.specs.Admitted.{Admits}
use Rattle.ips_depend.specs.Dependency.{Dependency, Require, Optional, Incorporate, Exclude, Conditional, RequireAny, Group, GroupAny, Parent, Origin, type_of, type_name, predicates, objects}

-- The texts are ways to write the FMRIs, one after the other.
abbrev pub AreWritten : List (List ℕ) → List Fmri → Type 0
AreWritten [] [] = Unit {0}
AreWritten [] (f ∷ fmris) = ⊥
AreWritten (text ∷ texts) [] = ⊥
AreWritten (text ∷ texts) (f ∷ fmris) = IsFmri f × WritesFmri f text × AreWritten texts fmris

-- The values mark a dependency as one on the image that the system runs from: one of them is `true`.
abbrev pub marks_root : List (List ℕ) → Bool
marks_root values = list_any (bytes_eq (codes "true")) values

-- Where the dependency is of type origin, it is on the image that the system runs from just where it is so marked.
abbrev pub IsMarked : Bool → Dependency → Type 0
IsMarked rooted (Require f) = Unit {0}
IsMarked rooted (Optional f) = Unit {0}
IsMarked rooted (Incorporate f) = Unit {0}
IsMarked rooted (Exclude f) = Unit {0}
IsMarked rooted (Conditional p f) = Unit {0}
IsMarked rooted (RequireAny fs) = Unit {0}
IsMarked rooted (Group f) = Unit {0}
IsMarked rooted (GroupAny fs) = Unit {0}
IsMarked rooted (Parent fs) = Unit {0}
IsMarked rooted (Origin r f) = r ≡ rooted

-- The dependency of a `depend` action with these attributes: its type, one predicate for each `predicate`, one FMRI for each
-- `fmri`. Type `origin` speaks of the system that runs where a `root-image` is `true`.
pub record Asks (attrs : List Attr) (d : Dependency) : Type 0 where
  pub of_type : values_of (codes "type") attrs ≡ type_name (type_of d) ∷ []
  pub predicates : AreWritten (values_of (codes "predicate") attrs) (predicates d)
  pub objects : AreWritten (values_of (codes "fmri") attrs) (objects d)
  pub marked : IsMarked (marks_root (values_of (codes "root-image") attrs)) d

-- The line is a `depend` action that the image takes.
abbrev pub IsJudged : Set → Line → Type 0
IsJudged settings line = (line.action.kind ≡ kind.Depend) × Admits settings line.action.attrs

-- The line asks for these dependencies: for none where it isn't judged, and else for the one that its action asks for.
abbrev pub LineAsks : Set → Line → List Dependency → Type 0
LineAsks settings line ds = ((IsJudged settings line → ⊥) × (ds ≡ [])) ⊎ (IsJudged settings line × ((d : Dependency) × Asks line.action.attrs d × (ds ≡ d ∷ [])))

-- The lines ask for these dependencies, in order.
abbrev pub LinesAsk : Set → List Line → List Dependency → Type 0
LinesAsk settings [] ds = ds ≡ []
LinesAsk settings (line ∷ lines) ds = (first : List Dependency) × (rest : List Dependency) × LineAsks settings line first × LinesAsk settings lines rest × (ds ≡ first ++ rest)

-- The line is judged, and asks for no dependency: its type is unknown, it has too few or too many FMRIs, a predicate is missing or
-- stands where none belongs, or one of its texts is no FMRI.
abbrev pub IsBad : Set → Line → Type 0
IsBad settings line = IsJudged settings line × ((d : Dependency) → Asks line.action.attrs d → ⊥)

-- The first bad line has this number.
abbrev pub IsFirstBad : Set → List Line → ℕ → Type 0
IsFirstBad settings [] number = ⊥
IsFirstBad settings (line ∷ lines) number = (IsBad settings line × (number ≡ line.number)) ⊎ (((ds : List Dependency) × LineAsks settings line ds) × IsFirstBad settings lines number)
