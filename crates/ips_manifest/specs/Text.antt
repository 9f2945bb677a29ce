-- Texts of lines, where it is known what one line means: what the whole text means, and its first fault.
use Rattle.std.specs.Prelude.{◌≡◌, ℕ, Bool, true, false, ◌⊎◌, List, [], ◌∷◌, ◌++◌, Option, Some, None}
use Rattle.ips_action.specs.declared.fault.ActionFault.{ActionFault}
use Rattle.ips_manifest.specs.declared.fault.LineFault.{LineFault}
use Rattle.ips_manifest.specs.declared.fault.LineFault.TheVariants as fault
use Rattle.ips_manifest.specs.declared.fault.ManifestFault.{ManifestFault}
use Rattle.ips_manifest.specs.Logical.{Logical, is_skipped}

-- what the text of a logical line gives: nothing where it is skipped, and else what it means, put together with its number
abbrev pub TextMeansBy : {A L : Type 0} → (List ℕ → A → Type 0) → (ℕ → A → L) → Bool → Logical → List L → Type 0
TextMeansBy means put true line lines = lines ≡ []
TextMeansBy {A} means put false line lines = (a : A) × means line.text a × (lines ≡ put line.number a ∷ [])

-- the logical line is UTF-8, and gives these lines
abbrev pub LineMeansBy : {A L : Type 0} → (List ℕ → A → Type 0) → (ℕ → A → L) → Logical → List L → Type 0
LineMeansBy means put line lines = (line.unreadable ≡ None) × TextMeansBy means put (is_skipped line.text) line lines

-- each logical line gives its lines, one after the other
abbrev pub LinesMeanBy : {A L : Type 0} → (List ℕ → A → Type 0) → (ℕ → A → L) → List Logical → List L → Type 0
LinesMeanBy means put [] lines = lines ≡ []
LinesMeanBy {A} {L} means put (line ∷ others) lines =
    (first : List L) × (rest : List L) × LineMeansBy means put line first × LinesMeanBy means put others rest × (lines ≡ first ++ rest)

-- the text means nothing, and this is its first fault
abbrev pub IsActionFaultBy : {A : Type 0} → (List ℕ → A → Type 0) → (List ℕ → ActionFault → Type 0) → List ℕ → LineFault → Type 0
IsActionFaultBy means first text fault.NotText = ⊥
IsActionFaultBy {A} means first text (fault.Action f) = first text f × ((a : A) → means text a → ⊥)

-- the fault of a logical line: at its first physical line that isn't UTF-8, where there is one, and else at its own number
abbrev pub IsFaultAtBy : {A : Type 0} → (List ℕ → A → Type 0) → (List ℕ → ActionFault → Type 0) → Option ℕ → Logical → ManifestFault → Type 0
IsFaultAtBy means first (Some number) line f = (f.line ≡ number) × (f.fault ≡ fault.NotText)
IsFaultAtBy means first None line f = (is_skipped line.text ≡ false) × (f.line ≡ line.number) × IsActionFaultBy means first line.text f.fault

-- the fault is that of the first logical line that has one
abbrev pub IsFirstInBy : {A L : Type 0} → (List ℕ → A → Type 0) → (ℕ → A → L) → (List ℕ → ActionFault → Type 0) → List Logical → ManifestFault → Type 0
IsFirstInBy means put first [] f = ⊥
IsFirstInBy {A} {L} means put first (line ∷ others) f =
    IsFaultAtBy means first line.unreadable line f ⊎ (((lines : List L) × LineMeansBy means put line lines) × IsFirstInBy means put first others f)
