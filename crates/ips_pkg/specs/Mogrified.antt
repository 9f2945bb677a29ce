-- How the program ends where it transforms a manifest.
use Rattle.std.specs.Prelude.{◌≡◌, ◌∷◌, ◌⊎◌, ℕ, IsTrue, List, Some, codes, slice_get}
use Rattle.ips_outside.specs.Outside.{Outside, Reads}
use Rattle.ips_outside.specs.Taking.{Taking}
use Rattle.ips_files.specs.Telling.{Tells}
use Rattle.ips_mogrify.specs.declared.status.MogrifyStatus.{MogrifyStatus}
use Rattle.ips_mogrify.specs.declared.status.MogrifyOutcome.TheVariants as outcome
use Rattle.ips_mogrify.specs.Outcome.{ComesTo, IsHostFault, IsManifestDue, source_seen}
use Rattle.ips_mogrify.specs.Status.{exit_number}

-- The first word asks for the transformation of a manifest.
abbrev pub AsksToMogrify : List (List ℕ) → Type 0
AsksToMogrify words = slice_get words 0 ≡ Some (codes "mogrify")

-- Where there is a third word, this is the path that it is.
abbrev pub IsThird : List (List ℕ) → List ℕ → Type 0
IsThird words root = (name option path : List ℕ) (rest : List (List ℕ)) → words ≡ name ∷ option ∷ path ∷ rest → root ≡ path

-- The number is that of a status: it is what the words come to on the source, whose files were read alone, and the manifest that is due was written.
pub record MogrifiesWith {S O : Type 0} (q : Outside S) (t : Taking O) (words : List (List ℕ)) (source source_now : S) (out out_now : O) (number : ℕ) : Type 0 where
  pub status : MogrifyStatus
  pub comes : IsHostFault status.outcome ⊎ ComesTo words (source_seen q source) status.outcome
  pub reads : Reads q source source_now (status.outcome ≡ outcome.SourceFault)
  pub silent : (status.outcome ≡ outcome.Written → ⊥) → (out_now ≡ out) × IsTrue status.told
  pub tells : status.outcome ≡ outcome.Written → (text : List ℕ) × Tells t text out out_now status.told × IsManifestDue words (source_seen q source) text
  pub is : number ≡ exit_number status

-- The words were carried out on a source that stands at the path of the third, and this is the number.
pub record MogrifiesOn {S O : Type 0} (q : Outside S) (t : Taking O) (root : S → List ℕ) (words : List (List ℕ)) (number : ℕ) : Type 0 where
  pub source : S
  pub source_now : S
  pub out : O
  pub out_now : O
  pub is_folder : IsThird words (root source)
  pub ends : MogrifiesWith q t words source source_now out out_now number

-- The number is that of such a run, or memory was refused before it.
pub data Mogrifies {S O : Type 0} (q : Outside S) (t : Taking O) (root : S → List ℕ) (words : List (List ℕ)) (number : ℕ) : Type 0 where
  Transformed : MogrifiesOn q t root words number → Mogrifies q t root words number
  Starved : number ≡ 99 → Mogrifies q t root words number
