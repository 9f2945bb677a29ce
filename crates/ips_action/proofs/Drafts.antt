-- Lines whose contents aren't known yet.
use Rattle.std.proofs.Common.{◌≡◌, ℕ, List, Option, Result, Ok, Err, sym, ap, ap₂, subst, ◌∙◌, inl, inr}
use Rattle.std.specs.Prelude.{IfOk}
use Rattle.ips_text.specs.declared.refusal.Or.{Or}
use Rattle.ips_text.specs.declared.refusal.Or.TheVariants.{Bad, OutOfMemory}
use Rattle.ips_text.specs.Reading.{Gives, IfBad}
use Rattle.ips_line.specs.declared.fault.WordFault.{WordFault}
use Rattle.ips_line.specs.declared.fault.WordFault.TheVariants as words
use Rattle.ips_line.specs.Line.{Said, Says, IsFault}
use Rattle.ips_action.specs.declared.fault.ActionFault.{ActionFault}
use Rattle.ips_action.specs.declared.fault.ActionFault.TheVariants.{UnknownAction, BadWord, OpenQuote, MissingKey, BadValue}
use Rattle.ips_action.specs.Action.{Fields}
use Rattle.ips_action.specs.Meaning.{IsSaid, FaultOf, word_fault}
use Rattle.ips_action.specs.Draft.{drafted, draft_word, MeansDraft, IsFirstDraftFault}
use Rattle.ips_action.proofs.One.{one_said, fault_not_said}
use Rattle.ips_action.proofs.Told.{one_says, no_line_at}

abbrev Read : Type 0
Read = Result (Fields × Option (List ℕ)) (Or ActionFault)

abbrev IsRead : Said → Read → Type 0
IsRead said r = IfOk r (λ d. IsSaid (drafted said) d.0 × (d.1 ≡ draft_word said))

abbrev IsRefused : Said → Read → Type 0
IsRefused said r = IfBad r (λ f. FaultOf (drafted said) f)

said_here : (said : Said) (text : List ℕ) (a : Fields) (w : Option (List ℕ)) → Says said text → MeansDraft text a w → IsSaid (drafted said) a × (w ≡ draft_word said)
said_here said text a w says m =
    let same : m.0 ≡ said = one_says m.0 said text m.1 says in
    (subst (λ (s : Said). IsSaid (drafted s) a) same m.2, m.3 ∙ ap draft_word same)

pub draft_found : (said : Said) (text : List ℕ) (r : Read) → Says said text → IsRead said r → IfOk r (λ d. MeansDraft text d.0 d.1)
draft_found said text (Ok d) says found = (said, says, found.0, found.1)
draft_found said text (Err e) says found = tt

pub draft_only : (said : Said) (text : List ℕ) (r : Read) → Says said text → IsRead said r → IsRefused said r → (a : Fields) (w : Option (List ℕ)) → MeansDraft text a w → Gives (λ x. x) r (Ok (a, w))
draft_only said text (Ok d) says found first a w m =
    let here = said_here said text a w says m in
    ap₂ (λ (x : Fields) (y : Option (List ℕ)). Ok (x, y)) (one_said (drafted said) a d.0 here.0 found.0) (here.1 ∙ sym found.1)
draft_only said text (Err (Bad f)) says found first a w m = absurd (fault_not_said (drafted said) f a first (said_here said text a w says m).0)
draft_only said text (Err OutOfMemory) says found first a w m = tt

pub draft_first : (said : Said) (text : List ℕ) (r : Read) → Says said text → IsRefused said r → IfBad r (λ f. IsFirstDraftFault text f)
draft_first said text (Ok d) says first = tt
draft_first said text (Err OutOfMemory) says first = tt
draft_first said text (Err (Bad f)) says first = go f first
  where
    go : (f : ActionFault) → FaultOf (drafted said) f → IsFirstDraftFault text f
    go (UnknownAction place) h = (said, says, h)
    go (BadWord place) h = inr (said, says, h)
    go (OpenQuote place) h = absurd h
    go (MissingKey name) h = (said, says, h)
    go (BadValue name) h = (said, says, h)

pub no_draft : (text : List ℕ) (told : WordFault) → IsFault text told → (a : Fields) (w : Option (List ℕ)) → MeansDraft text a w → ⊥
no_draft text told is a w m = no_line_at text told is (m.1.0, m.1.1, m.1.3)

pub words_first : (text : List ℕ) (told : WordFault) → IsFault text told → IsFirstDraftFault text (word_fault told)
words_first text (words.BadWord place) is = inl is
words_first text (words.OpenQuote place) is = is

-- the same fault, where something else would have been answered
pub same_bad : (A B : Type 0) (e : Or ActionFault) (P : ActionFault → Type 0) → IfBad {X = A} (Err e) P → IfBad {X = B} (Err e) P
same_bad A B (Bad f) P h = h
same_bad A B OutOfMemory P h = tt
