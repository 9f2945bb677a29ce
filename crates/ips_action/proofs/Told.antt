-- What a line says is one thing, and so is its fault.
use Rattle.std.proofs.Common.{◌≡◌, ℕ, ◌-◌, ◌<◌, ◌≤◌, List, [], ◌∷◌, ◌++◌, length, Result, Ok, Err, refl, sym, ◌∙◌, ap, subst, arith, inl, inr}
use Rattle.std.proofs.lemmas.List.{length-append}
use Rattle.ips_text.specs.declared.refusal.Stop.{Stop}
use Rattle.ips_text.specs.declared.refusal.Or.{Or}
use Rattle.ips_text.specs.Reading.{Gives, IfBad}
use Rattle.ips_text.proofs.Readers.{one_place}
use Rattle.std.specs.Prelude.{IfOk}
use Rattle.ips_line.specs.declared.fault.Part.{Part}
use Rattle.ips_line.specs.declared.fault.Part.TheVariants as part
use Rattle.ips_line.specs.declared.fault.WordFault.{WordFault}
use Rattle.ips_line.specs.declared.fault.WordFault.TheVariants as words
use Rattle.ips_line.specs.Line.{Line, IsWrittenLine, line_written, words_of, Said, Says, IsLine, IsFault, EndsInQuote}
use Rattle.ips_line.specs.Canonical.{canonical_words}
use Rattle.ips_line.specs.Reading.{read_line, said_line, placed, fault_of, read_words}
use Rattle.ips_line.proofs.Whole.{line_only, line_found}
use Rattle.ips_line.proofs.Opened.{open_told, fault_told}
use Rattle.ips_line.proofs.Answered.{words_found}
use Rattle.ips_line.proofs.Spelled.{reads_back, one_line}
use Rattle.ips_action.specs.declared.fault.ActionFault.{ActionFault}
use Rattle.ips_action.specs.declared.fault.ActionFault.TheVariants.{UnknownAction, BadWord, OpenQuote, MissingKey, BadValue}
use Rattle.ips_action.specs.Kind.{kind_name}
use Rattle.ips_action.specs.Action.{Fields, IsAction, payload_word, pairs_of, line_text}
use Rattle.ips_action.specs.Meaning.{Means, IsSaid, FaultOf, HasFault, IsFirstFault, word_fault}
use Rattle.ips_action.proofs.One.{one_said}
use Rattle.ips_action.proofs.Lines.{Only, faults_said, same_fault}
use Rattle.ips_action.proofs.ReadBack.{are_words, said_back, one_action}

-- ---- one thing is said

abbrev read : Line → Result Line (Stop Part)
read line = Ok line

pub line_same : (a b : Line) → read a ≡ read b → a ≡ b
line_same a b e = cc

pub one_written : (a b : Line) → IsWrittenLine a → IsWrittenLine b → line_written a ≡ line_written b → a ≡ b
one_written a b ha hb e = line_same a b (sym (line_only a ha) ∙ ap read_line e ∙ line_only b hb)

pub one_says : (s t : Said) (text : List ℕ) → Says s text → Says t text → s ≡ t
one_says s t text a b = sym a.2 ∙ ap words_of (one_written a.0 b.0 a.1 b.1 (sym a.3 ∙ b.3)) ∙ b.2

pub one_meaning : (text : List ℕ) (a b : Fields) → Means text a → Means text b → a ≡ b
one_meaning text a b m n = let P : Said → Type 0 = λ s. IsSaid s a in one_said n.0 a b (subst P (one_says m.0 n.0 text m.1 n.1) m.2) n.2

-- ---- the canonical line

said_from : (text : List ℕ) (s : Said) → read_words text ≡ Ok s → said_line (read_line text) ≡ Ok s
unfolding read_words
said_from text s e = go (read_line text) e
  where
    go : (r : Result Line (Stop Part)) → placed text r ≡ Ok s → said_line r ≡ Ok s
    go (Ok line) e = let same : words_of line ≡ s = cc in ap (λ (x : Said). Ok x) same
    go (Err stop) e = absurd cc

pub line_means : (a : Fields) → IsAction a → Means (line_text a) a
line_means a h =
    let s = canonical_words (kind_name a.kind) (payload_word a.payload) (pairs_of a.attrs) in
    (s, words_found (line_text a) s (said_from (line_text a) s (reads_back (kind_name a.kind) (payload_word a.payload) (pairs_of a.attrs) (are_words a h))), said_back a h)

pub one_text : (a b : Fields) → IsAction a → IsAction b → line_text a ≡ line_text b → a ≡ b
one_text a b ha hb e =
    let same = one_line (kind_name a.kind) (kind_name b.kind) (payload_word a.payload) (payload_word b.payload) (pairs_of a.attrs) (pairs_of b.attrs) (are_words a ha) (are_words b hb) e in
    one_action a b ha hb same.0 same.1 same.2

-- ---- one fault

placed_err : (text : List ℕ) (s : Stop Part) → read_line text ≡ Err s → read_words text ≡ Err (fault_of (length text) s.kind s.left)
unfolding read_words
placed_err text s e = ap (placed text) e

quote_told : (text : List ℕ) (place : ℕ) → EndsInQuote text place → read_words text ≡ Err (words.OpenQuote place)
quote_told text place h =
    let told = placed_err text (record { kind = part.Quote (length text - place); left = 0 }) (open_told text place h) in
    let room : place ≤ length text = omega (arith, h.at, ap length h.written, length-append (line_written h.line ++ h.gap ++ h.key ++ 61 ∷ []) (h.quote ∷ h.inside)) in
    let at : length text - (length text - place) ≡ place = omega arith in
    told ∙ ap (λ (n : ℕ). Err (words.OpenQuote n)) at

-- a fault of words is what reading tells
pub fault_only : (text : List ℕ) (fault : WordFault) → IsFault text fault → read_words text ≡ Err fault
fault_only text (words.OpenQuote place) h = quote_told text place h.0
fault_only text (words.BadWord place) h = go (read_line text) refl
  where
    same : (m n : ℕ) → (m < n → ⊥) → (n < m → ⊥) → m ≡ n
    same m n f g = omega arith

    stopped : (s : Stop Part) → read_line text ≡ Err s → (fault : WordFault) → fault ≡ fault_of (length text) s.kind s.left → IsFault text fault → read_words text ≡ Err (words.BadWord place)
    stopped s e (words.OpenQuote other) is told = absurd (h.1 other told.0)
    stopped s e (words.BadWord other) is told = placed_err text s e ∙ ap (λ (f : WordFault). Err f) (sym is) ∙ ap (λ (n : ℕ). Err (words.BadWord n)) (same other place (one_place IsLine text other place told.0 h.0) (one_place IsLine text place other h.0 told.0))

    go : (r : Result Line (Stop Part)) → read_line text ≡ r → read_words text ≡ Err (words.BadWord place)
    go (Ok line) e = let found = line_found text line e in absurd (h.2 (line, found.0, found.1))
    go (Err s) e = stopped s e (fault_of (length text) s.kind s.left) refl (fault_told text s e)

-- ---- the first fault, and no other

line_of : (said : Said) (text : List ℕ) → Says said text → IsLine text
line_of said text says = (says.0, says.1, says.3)

pub no_line_at : (text : List ℕ) (fault : WordFault) → IsFault text fault → IsLine text → ⊥
no_line_at text (words.OpenQuote place) h = h.2
no_line_at text (words.BadWord place) h = h.2

-- where the words are read
pub faults_read : (said : Said) (text : List ℕ) (r : Result Fields (Or ActionFault)) → Says said text → Only said text → IfOk r (λ a. IsSaid said a) → IfBad r (λ f. FaultOf said f)
    → (fault : ActionFault) → IsFirstFault text fault → Gives (λ x. x) r (Err fault)
faults_read said text r says only found first fault h = go fault h
  where
    had : (fault : ActionFault) → HasFault text fault → Gives (λ x. x) r (Err fault)
    had fault h = faults_said said text r only found first h.0 fault h.1 h.2

    go : (fault : ActionFault) → IsFirstFault text fault → Gives (λ x. x) r (Err fault)
    go (UnknownAction place) h = had (UnknownAction place) h
    go (BadWord place) (inl h) = absurd (no_line_at text (words.BadWord place) h (line_of said text says))
    go (BadWord place) (inr h) = had (BadWord place) h
    go (OpenQuote place) h = absurd (no_line_at text (words.OpenQuote place) h (line_of said text says))
    go (MissingKey name) h = had (MissingKey name) h
    go (BadValue name) h = had (BadValue name) h

-- where the words aren't read
pub faults_words : (text : List ℕ) (told : WordFault) → read_words text ≡ Err told → IsFault text told → (fault : ActionFault) → IsFirstFault text fault → word_fault told ≡ fault
faults_words text told e is fault h = go fault h
  where
    none : (fault : ActionFault) → HasFault text fault → word_fault told ≡ fault
    none fault h = absurd (no_line_at text told is (line_of h.0 text h.1))

    go : (fault : ActionFault) → IsFirstFault text fault → word_fault told ≡ fault
    go (UnknownAction place) h = none (UnknownAction place) h
    go (BadWord place) (inl h) = ap word_fault (sym (same_fault text told (words.BadWord place) e (fault_only text (words.BadWord place) h)))
    go (BadWord place) (inr h) = none (BadWord place) h
    go (OpenQuote place) h = ap word_fault (sym (same_fault text told (words.OpenQuote place) e (fault_only text (words.OpenQuote place) h)))
    go (MissingKey name) h = none (MissingKey name) h
    go (BadValue name) h = none (BadValue name) h
