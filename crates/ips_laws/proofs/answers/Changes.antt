-- Changes by like steps are the same.
use Rattle.std.proofs.Common.{◌≡◌, ℕ, zero, suc, List, [], ◌∷◌, map, Some, refl, sym, ◌∙◌, ap, subst, arith}
use Rattle.std.specs.Prelude.{slice_get}
use Rattle.std.specs.declared.vec.Vec.{Vec}
use Rattle.std.specs.declared.alloc.Global.{Global}
use Rattle.ips_text.specs.declared.text.Text.{Text}
use Rattle.ips_outside.specs.Image.{Image}
use Rattle.ips_digest.specs.declared.name.PayloadName.{PayloadName}
use Rattle.ips_digest.proofs.Names.{spelled_once}
use Rattle.ips_steps.specs.Steps.{Step}
use Rattle.ips_steps.specs.View.{step_of}
use Rattle.ips_journal.specs.declared.staged.Staged.{Staged}
use Rattle.ips_journal.specs.declared.staged.Staged.TheVariants.{Payload, Bytes, Standing}
use Rattle.ips_emit.specs.declared.emitting.Emitted.{Emitted}
use Rattle.ips_emit.specs.Emitted.{FromFile, FromPayload, OwnBytes, Provenance, provenance_of}
use Rattle.ips_report.specs.Report.{done_text}
use Rattle.ips_report.specs.declared.outcome.Outcome.{Outcome}
use Rattle.ips_report.specs.declared.outcome.Outcome.TheVariants as outcome
use Rattle.ips_run.specs.declared.operation.Change.{Change}
use Rattle.ips_run.specs.declared.operation.Decision.TheVariants as decision
use Rattle.ips_tell.specs.told.Laying.{IsChangeOfSteps, no_counts, sorts_among}
use Rattle.ips_tell.specs.told.Naming.{AreNamed, IsNamed}
use Rattle.ips_laws.specs.plan_laws.Alike as alike
use Rattle.ips_laws.specs.answers.Decided.{DecideTheSame}
use Rattle.ips_laws.specs.answers.Same.{SayTheSame}

named_rest : (x : Staged) (xs : List Staged) → AreNamed (x ∷ xs) → AreNamed xs
named_rest x xs named n d within = named (suc n) d (omega (arith, within))

pub puts_too : (t : Image) (xs ys : List Staged) → AreNamed xs → AreNamed ys → alike.AreLikeSources t (map provenance_of xs) (map provenance_of ys)
    → (n : ℕ) (name : PayloadName) → slice_get xs n ≡ Some (Payload name) → slice_get ys n ≡ Some (Payload name)
puts_too t [] ys names others like n name is = absurd cc
puts_too t (x ∷ xs) [] names others like n name is = absurd like
puts_too t (x ∷ xs) (y ∷ ys) names others like zero name is = head x y (names zero x (omega arith)) (others zero y (omega arith)) like.0 is
  where
    head : (a b : Staged) → IsNamed a → IsNamed b → alike.IsLikeSource t (provenance_of a) (provenance_of b) → Some a ≡ Some (Payload name) → Some b ≡ Some (Payload name)
    head (Payload p) (Payload q) h k same e =
        let here : p ≡ name = cc in
        ap (λ (z : PayloadName). Some (Payload z)) (spelled_once q p k h (sym same) ∙ here)
    head (Payload p) (Bytes b) h k same e = absurd same
    head (Payload p) (Standing b) h k same e = absurd same
    head (Bytes a) b h k same e = absurd cc
    head (Standing a) b h k same e = absurd cc
puts_too t (x ∷ xs) (y ∷ ys) names others like (suc n) name is = puts_too t xs ys (named_rest x xs names) (named_rest y ys others) like.1 n name is

pub sources_turned : (t : Image) (xs ys : List Provenance) → alike.AreLikeSources t xs ys → alike.AreLikeSources t ys xs
sources_turned t [] [] like = tt
sources_turned t [] (y ∷ ys) like = absurd like
sources_turned t (x ∷ xs) [] like = absurd like
sources_turned t (x ∷ xs) (y ∷ ys) like = (turn x y like.0, sources_turned t xs ys like.1)
  where
    turn : (a b : Provenance) → alike.IsLikeSource t a b → alike.IsLikeSource t b a
    turn (FromPayload p) (FromPayload q) same = sym same
    turn (OwnBytes p) (OwnBytes q) same = sym same
    turn (FromFile p) (FromFile q) same = sym same
    turn a b same = absurd same

-- what is told of steps is what they are
abbrev done_by : Vec Text Global → List Step → Outcome
done_by licenses steps = outcome.Done no_counts (sorts_among steps) licenses

told_of : (p : List ℕ) (e : Emitted) (c : Change Outcome) (x : IsChangeOfSteps p e c) → c.told ≡ done_by x.licenses (map step_of e.steps.items)
told_of p e c x = x.told

done_same : (a b : Vec Text Global) (xs ys : List Step) → a.items ≡ b.items → xs ≡ ys → SayTheSame (done_by a xs) (done_by b ys)
done_same a b xs ys licenses steps = record { number = refl; text = λ i. done_text no_counts (sorts_among (steps i)) (licenses i) }

-- two changes of like steps, with the payloads of one publisher
pub changes_same : (t : Image) (publisher other : List ℕ) (e f : Emitted) (c d : Change Outcome) → publisher ≡ other → IsChangeOfSteps publisher e c → IsChangeOfSteps other f d → alike.AreLikeSteps t e f
    → DecideTheSame (decision.Change c) (decision.Change d)
changes_same t publisher other e f c d same x y like = (
  subst (λ (o : Outcome). SayTheSame o d.told) (sym x.told) (subst (SayTheSame (done_by x.licenses (map step_of e.steps.items))) (sym y.told) (done_same x.licenses y.licenses _ _ (x.none_shown ∙ sym y.none_shown) like.steps)),
  record { publisher = y.publisher_is ∙ sym same ∙ sym x.publisher_is; payloads = puts e f c d x.staged y.staged x.named y.named like.sources },
  record { publisher = x.publisher_is ∙ same ∙ sym y.publisher_is; payloads = puts f e d c y.staged x.staged y.named x.named (sources_turned t _ _ like.sources) },
)
  where
    puts : (e f : Emitted) (c d : Change Outcome) → c.staged ≡ e.staged → d.staged ≡ f.staged → AreNamed e.staged.items → AreNamed f.staged.items → alike.AreLikeSources t (map provenance_of e.staged.items) (map provenance_of f.staged.items)
        → (n : ℕ) (name : PayloadName) → slice_get c.staged.items n ≡ Some (Payload name) → slice_get d.staged.items n ≡ Some (Payload name)
    puts e f c d is was named others like n name at =
        ap (λ (v : Vec Staged Global). slice_get v.items n) was ∙ puts_too t e.staged.items f.staged.items named others like n name (ap (λ (v : Vec Staged Global). slice_get v.items n) (sym is) ∙ at)
