-- Logical lines of the program, as the definitions see them.
use Rattle.std.specs.Prelude.{◌≡◌, ℕ, List, [], ◌∷◌, Option, Some, None, true, false, string_bytes}
use Rattle.ips_action.specs.Action.{Fields}
use Rattle.ips_action.specs.Meaning.{Means}
use Rattle.ips_manifest.specs.declared.logical.Held.{Held}
use Rattle.ips_manifest.specs.declared.logical.Held.TheVariants.{Borrowed, Joined}
use Rattle.ips_manifest.specs.declared.line.Line.{Line}
use Rattle.ips_manifest.specs.Logical.{is_skipped}
use Rattle.ips_manifest.specs.Manifest.{line_at}

-- the text, however it is held
abbrev pub held_text : Held → List ℕ
held_text (Borrowed text) = text.now
held_text (Joined text) = string_bytes text

-- what a logical line's text gives: nothing where it is skipped, and else what it means
abbrev pub TextGivesBy : {A : Type 0} → (List ℕ → A → Type 0) → List ℕ → Option A → Type 0
TextGivesBy means text None = is_skipped text ≡ true
TextGivesBy means text (Some a) = (is_skipped text ≡ false) × means text a

-- the line that is put together of this number and what stands there, where there is something
abbrev pub lines_with : {A L : Type 0} → (ℕ → A → L) → ℕ → Option A → List L
lines_with put number None = []
lines_with put number (Some a) = put number a ∷ []

-- what a logical line's text gives a manifest: nothing where it is skipped, and else an action
abbrev pub TextGives : List ℕ → Option Fields → Type 0
TextGives text action = TextGivesBy Means text action

-- the line of a manifest that an action gives, where there is one
abbrev pub lines_for : ℕ → Option Fields → List Line
lines_for number action = lines_with line_at number action
