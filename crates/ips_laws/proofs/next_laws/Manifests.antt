-- A text is one manifest, or has one first fault, and never both.
use Rattle.std.proofs.Common.{◌≡◌, ◌⊎◌, ℕ, Bool, true, false, List, [], ◌∷◌, ◌++◌, Option, Some, None, Result, Ok, refl, sym, ap, subst, ◌∙◌, inl, inr}
use Rattle.std.proofs.lemmas.Bool.{true≢false}
use Rattle.std.proofs.lemmas.Option.{none-some}
use Rattle.ips_text.specs.declared.refusal.Stop.{Stop}
use Rattle.ips_line.specs.declared.fault.Part.{Part}
use Rattle.ips_line.specs.declared.fault.WordFault.{WordFault}
use Rattle.ips_line.specs.declared.fault.WordFault.TheVariants as words
use Rattle.ips_line.specs.Line.{Line, IsFault, IsLine, Said}
use Rattle.ips_action.specs.Action.{Fields}
use Rattle.ips_action.specs.Meaning.{FaultOf, HasFault, IsFirstFault, Means, word_fault}
use Rattle.ips_action.specs.declared.fault.ActionFault.{ActionFault}
use Rattle.ips_action.specs.declared.fault.ActionFault.TheVariants.{UnknownAction, BadWord, OpenQuote, MissingKey, BadValue}
use Rattle.ips_action.proofs.Lines.{same_fault}
use Rattle.ips_action.proofs.One.{one_fault}
use Rattle.ips_action.proofs.Told.{fault_only, no_line_at, one_meaning, one_says}
use Rattle.ips_manifest.specs.declared.line.Line as manifest
use Rattle.ips_manifest.specs.declared.fault.LineFault.{LineFault}
use Rattle.ips_manifest.specs.declared.fault.LineFault.TheVariants as fault
use Rattle.ips_manifest.specs.declared.fault.ManifestFault.{ManifestFault}
use Rattle.ips_manifest.specs.Logical.{Logical, is_skipped, lines_of}
use Rattle.ips_manifest.specs.Manifest.{IsActionFault, IsFaultAt, IsFaultOf, IsFirstIn, IsLineFault, IsManifestOf, LineMeans, LinesMean, TextMeans}
use Rattle.ips_filter.specs.Settings.{Set}
use Rattle.ips_depend.specs.Asking.{IsBad, IsFirstBad, LineAsks, LinesAsk}
use Rattle.ips_depend.specs.Dependency.{Dependency}

-- ---- what a line says

abbrev read : Line → Result Line (Stop Part)
read line = Ok line

-- ---- the fault of a text that is no action

-- it is one of its words, or one of what they say
abbrev Split : List ℕ → ActionFault → Type 0
Split text f = ((w : WordFault) × IsFault text w × (f ≡ word_fault w)) ⊎ HasFault text f

split : (text : List ℕ) (f : ActionFault) → IsFirstFault text f → Split text f
split text (UnknownAction place) h = inr h
split text (BadWord place) (inl h) = inl (words.BadWord place, h, refl)
split text (BadWord place) (inr h) = inr h
split text (OpenQuote place) h = inl (words.OpenQuote place, h, refl)
split text (MissingKey name) h = inr h
split text (BadValue name) h = inr h

is_line : (text : List ℕ) (f : ActionFault) → HasFault text f → IsLine text
is_line text f h = (h.1.0, h.1.1, h.1.3)

split_once : (text : List ℕ) (f g : ActionFault) → Split text f → Split text g → f ≡ g
split_once text f g (inl a) (inl b) = a.2 ∙ ap word_fault (sym (same_fault text a.0 b.0 (fault_only text a.0 a.1) (fault_only text b.0 b.1))) ∙ sym b.2
split_once text f g (inl a) (inr b) = absurd (no_line_at text a.0 a.1 (is_line text g b))
split_once text f g (inr a) (inl b) = absurd (no_line_at text b.0 b.1 (is_line text f a))
split_once text f g (inr a) (inr b) = one_fault b.0 f g (subst (λ (s : Said). FaultOf s f) (one_says a.0 b.0 text a.1 b.1) a.2) b.2

text_fault_once : (text : List ℕ) (f g : LineFault) → IsActionFault text f → IsActionFault text g → f ≡ g
text_fault_once text fault.NotText g a b = absurd a
text_fault_once text (fault.Action f) fault.NotText a b = absurd b
text_fault_once text (fault.Action f) (fault.Action g) a b = ap (λ (x : ActionFault). fault.Action x) (split_once text f g (split text f a.0) (split text g b.0))

text_fault_or_means : (text : List ℕ) (f : LineFault) (a : Fields) → IsActionFault text f → Means text a → ⊥
text_fault_or_means text fault.NotText a h m = h
text_fault_or_means text (fault.Action f) a h m = h.1 a m

-- ---- logical lines

at_once : (o : Option ℕ) (line : Logical) (f g : ManifestFault) → IsFaultAt o line f → IsFaultAt o line g → f ≡ g
at_once (Some number) line f g a b = λ i. record { line = (a.0 ∙ sym b.0) i; fault = (a.1 ∙ sym b.1) i }
at_once None line f g a b = λ i. record { line = (a.1 ∙ sym b.1) i; fault = text_fault_once line.text f.fault g.fault a.2 b.2 i }

line_fault_or_means : (line : Logical) (f : ManifestFault) (lines : List manifest.Line) → IsLineFault line f → LineMeans line lines → ⊥
line_fault_or_means line f lines h m = go line.unreadable refl h (is_skipped line.text) refl m.1
  where
    go : (o : Option ℕ) → line.unreadable ≡ o → IsFaultAt o line f → (skipped : Bool) → is_skipped line.text ≡ skipped → TextMeans skipped line lines → ⊥
    go (Some number) at h skipped is t = none-some number (sym m.0 ∙ at)
    go None at h true is t = true≢false (sym is ∙ h.0)
    go None at h false is t = text_fault_or_means line.text f.fault t.0 h.2 t.1

first_once : (lines : List Logical) (f g : ManifestFault) → IsFirstIn lines f → IsFirstIn lines g → f ≡ g
first_once [] f g a b = absurd a
first_once (line ∷ others) f g (inl a) (inl b) = at_once line.unreadable line f g a b
first_once (line ∷ others) f g (inl a) (inr b) = absurd (line_fault_or_means line f b.0.0 a b.0.1)
first_once (line ∷ others) f g (inr a) (inl b) = absurd (line_fault_or_means line g a.0.0 b a.0.1)
first_once (line ∷ others) f g (inr a) (inr b) = first_once others f g a.1 b.1

first_or_mean : (logical : List Logical) (f : ManifestFault) (lines : List manifest.Line) → IsFirstIn logical f → LinesMean logical lines → ⊥
first_or_mean [] f lines h m = h
first_or_mean (line ∷ others) f lines (inl h) m = line_fault_or_means line f m.0 h m.2
first_or_mean (line ∷ others) f lines (inr h) m = first_or_mean others f m.1 h.1 m.3

text_once : (skipped : Bool) (line : Logical) (a b : List manifest.Line) → TextMeans skipped line a → TextMeans skipped line b → a ≡ b
text_once true line a b h g = h ∙ sym g
text_once false line a b h g =
    let alone : Fields → List manifest.Line = λ x. record { number = line.number; action = x } ∷ [] in
    h.2 ∙ ap alone (one_meaning line.text h.0 g.0 h.1 g.1) ∙ sym g.2

lines_once : (logical : List Logical) (a b : List manifest.Line) → LinesMean logical a → LinesMean logical b → a ≡ b
lines_once [] a b h g = h ∙ sym g
lines_once (line ∷ others) a b h g =
    let first = text_once (is_skipped line.text) line h.0 g.0 h.2.1 g.2.1 in
    let rest = lines_once others h.1 g.1 h.3 g.3 in
    h.4 ∙ (λ i. first i ++ rest i) ∙ sym g.4

-- ---- manifests

pub manifest_once : (bytes : List ℕ) (a b : List manifest.Line) → IsManifestOf bytes a → IsManifestOf bytes b → a ≡ b
manifest_once bytes a b h g = lines_once (lines_of bytes) a b h g

pub manifest_fault_once : (bytes : List ℕ) (f g : ManifestFault) → IsFaultOf bytes f → IsFaultOf bytes g → f ≡ g
manifest_fault_once bytes f g a b = first_once (lines_of bytes) f g a b

pub fault_or_manifest : (bytes : List ℕ) (f : ManifestFault) (lines : List manifest.Line) → IsFaultOf bytes f → IsManifestOf bytes lines → ⊥
fault_or_manifest bytes f lines h m = first_or_mean (lines_of bytes) f lines h m

-- ---- what lines ask for

bad_or_asks : (s : Set) (line : manifest.Line) (ds : List Dependency) → IsBad s line → LineAsks s line ds → ⊥
bad_or_asks s line ds bad (inl a) = a.0 bad.0
bad_or_asks s line ds bad (inr a) = bad.1 a.1.0 a.1.1

pub bad_once : (s : Set) (lines : List manifest.Line) (m n : ℕ) → IsFirstBad s lines m → IsFirstBad s lines n → m ≡ n
bad_once s [] m n a b = absurd a
bad_once s (line ∷ lines) m n (inl a) (inl b) = a.1 ∙ sym b.1
bad_once s (line ∷ lines) m n (inl a) (inr b) = absurd (bad_or_asks s line b.0.0 a.0 b.0.1)
bad_once s (line ∷ lines) m n (inr a) (inl b) = absurd (bad_or_asks s line a.0.0 b.0 a.0.1)
bad_once s (line ∷ lines) m n (inr a) (inr b) = bad_once s lines m n a.1 b.1

pub bad_or_ask : (s : Set) (lines : List manifest.Line) (n : ℕ) (ds : List Dependency) → IsFirstBad s lines n → LinesAsk s lines ds → ⊥
bad_or_ask s [] n ds bad ask = bad
bad_or_ask s (line ∷ lines) n ds (inl bad) ask = bad_or_asks s line ask.0 bad.0 ask.2
bad_or_ask s (line ∷ lines) n ds (inr bad) ask = bad_or_ask s lines n ask.1 bad.1 ask.3
