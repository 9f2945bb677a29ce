-- Of the fixed outcomes whose cause stands for a command there is one.
use Rattle.std.proofs.Common.{◌≡◌, ℕ, ◌+◌, ◌*◌, true, List, Option, Some, refl, sym, ◌∙◌, ap, subst, arith}
use Rattle.std.proofs.lemmas.Option.{cond_some}
use Rattle.ips_outside.specs.Image.{Image}
use Rattle.ips_kinds.specs.Tallies.{Carrier}
use Rattle.ips_history.specs.Directories.{image_for}
use Rattle.ips_history.specs.declared.effect.Effect.{Effect}
use Rattle.ips_history.specs.declared.effect.Effect.TheVariants as effect
use Rattle.ips_report.specs.declared.outcome.Outcome.{Outcome}
use Rattle.ips_report.specs.declared.outcome.Outcome.TheVariants as outcome
use Rattle.ips_run.specs.declared.operation.Decision.{Decision}
use Rattle.ips_tell.specs.told.Told.{told_as}
use Rattle.ips_words.specs.declared.command.Command.{Command}
use Rattle.ips_words.specs.declared.what.What.{What}
use Rattle.ips_words.specs.declared.what.What.TheVariants as what
use Rattle.ips_showing.specs.Asked.{Asked, asked_by}
use Rattle.ips_showing.specs.Shows as showing
use Rattle.ips_operations.specs.changing.Commands.{is_changing}
use Rattle.ips_operations.specs.changing.Decides.{Decides, asked_of}
use Rattle.ips_operations.specs.creating.Creations.{Creation, creating_at, makes_image}
use Rattle.ips_operations.specs.creating.Decides as creating
use Rattle.ips_operations.specs.fixing.Fixes.{Repairing, fixing_at, repairs}
use Rattle.ips_operations.specs.fixing.Decides as fixing
use Rattle.ips_trial.specs.Generated.{IsTried, Starved, Summed, summary_text}
use Rattle.ips_top.specs.Runs.{IsAnswer, IsAnswered}
use Rattle.ips_laws.specs.answers.Causes.{CanCome, CauseStands, Answering, Changing, Creating, Fixing, Showing, Trying}
use Rattle.ips_laws.specs.answers.Decided.{DecidesOnce}
use Rattle.ips_laws.specs.answers.Same.{IsFixed, SayTheSame}
use Rattle.ips_laws.proofs.answers.Runs.{says_same, told_once}
use Rattle.ips_laws.proofs.answers.Told.{by_field}

-- ---- what a command asks for is of one group

-- the group of a command
abbrev pub group_of : What → ℕ
group_of what.List = 0
group_of what.History = 0
group_of (what.Contents pattern manifest) = 0
group_of what.Verify = 0
group_of (what.Search pattern) = 0
group_of (what.ImageCreate publisher variants facets actuator) = 2
group_of what.Fix = 3
group_of (what.Gen number) = 4
group_of (what.Help command) = 5
group_of what.Version = 5
group_of w = 1

pub of_shown : (w : What) (a : Asked) → asked_by w ≡ Some a → group_of w ≡ 0
of_shown what.List a is = refl
of_shown what.History a is = refl
of_shown (what.Contents pattern manifest) a is = refl
of_shown what.Verify a is = refl
of_shown (what.Search pattern) a is = refl
of_shown w a is = absurd cc

pub of_changing : (w : What) → is_changing w ≡ true → group_of w ≡ 1
of_changing what.List is = absurd cc
of_changing what.History is = absurd cc
of_changing (what.Contents pattern manifest) is = absurd cc
of_changing what.Verify is = absurd cc
of_changing (what.Search pattern) is = absurd cc
of_changing (what.ImageCreate publisher variants facets actuator) is = absurd cc
of_changing what.Fix is = absurd cc
of_changing (what.Gen number) is = absurd cc
of_changing (what.Help command) is = absurd cc
of_changing what.Version is = absurd cc
of_changing w is = refl

pub of_creating : (w : What) → makes_image w ≡ true → group_of w ≡ 2
of_creating (what.ImageCreate publisher variants facets actuator) is = refl
of_creating w is = absurd cc

pub of_fixing : (w : What) → repairs w ≡ true → group_of w ≡ 3
of_fixing what.Fix is = refl
of_fixing w is = absurd cc

pub of_tried : (w : What) (number : ℕ) → w ≡ what.Gen number → group_of w ≡ 4
of_tried w number is = ap group_of is

text_of_answer : (w : What) (text : List ℕ) → IsAnswer w text → group_of w ≡ 5
text_of_answer (what.Help command) text is = refl
text_of_answer what.Version text is = refl
text_of_answer w text is = absurd is

of_answer : (w : What) (told : Outcome) → IsFixed told → IsAnswered w told → group_of w ≡ 5
of_answer w (outcome.Shown text) fixed is = text_of_answer w text is
of_answer w outcome.OutOfMemory fixed is = absurd fixed
of_answer w told fixed is = absurd is

pub apart : (X : Type 0) (w : What) (n m : ℕ) → (n ≡ m → ⊥) → group_of w ≡ n → group_of w ≡ m → X
apart X w n m not a b = absurd (not (sym a ∙ b))

-- ---- what is answered

text_one : (w : What) (a b : List ℕ) → IsAnswer w a → IsAnswer w b → a ≡ b
text_one (what.Help command) a b x y = x ∙ sym y
text_one what.Version a b x y = x ∙ sym y
text_one w a b x y = absurd x

answer_once : (w : What) (told other : Outcome) → IsFixed told → IsFixed other → IsAnswered w told → IsAnswered w other → SayTheSame told other
answer_once w (outcome.Shown text) (outcome.Shown more) fixed firm x y = by_field outcome.Shown text more (text_one w text more x y)
answer_once w (outcome.Shown text) outcome.OutOfMemory fixed firm x y = absurd firm
answer_once w outcome.OutOfMemory other fixed firm x y = absurd fixed
answer_once w (outcome.Shown text) other fixed firm x y = absurd y
answer_once w told other fixed firm x y = absurd x

-- what a trial that is fixed tells is its summary
summary_of : (n : ℕ) (old new : List Carrier) (told : Outcome) → IsFixed told → IsTried n old new told → told ≡ outcome.Shown (summary_text n (n + 1) (3 * n + 4) 0)
summary_of n old new told fixed (Summed finished) = refl
summary_of n old new told fixed Starved = absurd fixed

-- ---- the causes of two outcomes

module _ (c : Command) (moment : ℕ) (repository held : Image) (told other : Outcome) (fixed : IsFixed told) (firm : IsFixed other) where
  come_once : (e : Effect) (decides : Image → Decision Outcome → Type 0) → DecidesOnce (decides (image_for e held)) → CanCome e decides repository held told → CanCome e decides repository held other → SayTheSame told other
  come_once e decides once x y =
      let (ends, is, comes) = x.comes in
      let (stops, was, more) = y.comes in
      subst (λ (z : Outcome). SayTheSame z other) (sym is) (subst (SayTheSame (told_as ends)) (sym was)
      (told_once e (decides (image_for e held)) once repository held x.left y.left x.before x.now y.before y.now (λ runs. Unit {0}) (λ runs. Unit {0}) ends stops
      (subst IsFixed is fixed) (subst IsFixed was firm) comes more))

  made : (z : Creation) → creating_at c moment ≡ Some z → group_of c.what ≡ 2
  made z is = of_creating c.what (cond_some (makes_image c.what) _ z is).0

  mended : (z : Repairing) → fixing_at c moment ≡ Some z → group_of c.what ≡ 3
  mended z is = of_fixing c.what (cond_some (repairs c.what) _ z is).0

  same_some : {A : Type 0} (z : Option A) (x y : A) → z ≡ Some x → z ≡ Some y → x ≡ y
  same_some z x y at is = let e : Some x ≡ Some y = sym at ∙ is in cc

  module _ (shows : (z : Asked) → DecidesOnce (showing.Shows (image_for effect.Shows held) z))
      (changes : DecidesOnce (Decides (asked_of c moment true repository (image_for effect.Changes held))))
      (creates : (z : Creation) → DecidesOnce (creating.Decides z (image_for effect.Creates held)))
      (fixes : (z : Repairing) → DecidesOnce (fixing.Decides z (image_for effect.Fixes held))) where
    pub stand_once : CauseStands c moment repository held told → CauseStands c moment repository held other → SayTheSame told other
    stand_once (Showing z is x) (Showing w was y) = come_once effect.Shows (λ t. showing.Shows t w) (shows w)
        (subst (λ (v : Asked). CanCome effect.Shows (λ t. showing.Shows t v) repository held told) (same_some (asked_by c.what) z w is was) x) y
    stand_once (Showing z is x) (Changing was y) = apart (SayTheSame told other) c.what 0 1 (λ e. omega (arith, e)) (of_shown c.what z is) (of_changing c.what was)
    stand_once (Showing z is x) (Creating w was y) = apart (SayTheSame told other) c.what 0 2 (λ e. omega (arith, e)) (of_shown c.what z is) (made w was)
    stand_once (Showing z is x) (Fixing w was y) = apart (SayTheSame told other) c.what 0 3 (λ e. omega (arith, e)) (of_shown c.what z is) (mended w was)
    stand_once (Showing z is x) (Trying n was old now y) = apart (SayTheSame told other) c.what 0 4 (λ e. omega (arith, e)) (of_shown c.what z is) (of_tried c.what n was)
    stand_once (Showing z is x) (Answering y) = apart (SayTheSame told other) c.what 0 5 (λ e. omega (arith, e)) (of_shown c.what z is) (of_answer c.what other firm y)
    stand_once (Changing is x) (Showing w was y) = apart (SayTheSame told other) c.what 1 0 (λ e. omega (arith, e)) (of_changing c.what is) (of_shown c.what w was)
    stand_once (Changing is x) (Changing was y) = come_once effect.Changes (λ t. Decides (asked_of c moment true repository t)) changes x y
    stand_once (Changing is x) (Creating w was y) = apart (SayTheSame told other) c.what 1 2 (λ e. omega (arith, e)) (of_changing c.what is) (made w was)
    stand_once (Changing is x) (Fixing w was y) = apart (SayTheSame told other) c.what 1 3 (λ e. omega (arith, e)) (of_changing c.what is) (mended w was)
    stand_once (Changing is x) (Trying n was old now y) = apart (SayTheSame told other) c.what 1 4 (λ e. omega (arith, e)) (of_changing c.what is) (of_tried c.what n was)
    stand_once (Changing is x) (Answering y) = apart (SayTheSame told other) c.what 1 5 (λ e. omega (arith, e)) (of_changing c.what is) (of_answer c.what other firm y)
    stand_once (Creating z is x) (Showing w was y) = apart (SayTheSame told other) c.what 2 0 (λ e. omega (arith, e)) (made z is) (of_shown c.what w was)
    stand_once (Creating z is x) (Changing was y) = apart (SayTheSame told other) c.what 2 1 (λ e. omega (arith, e)) (made z is) (of_changing c.what was)
    stand_once (Creating z is x) (Creating w was y) = come_once effect.Creates (λ t. creating.Decides w t) (creates w)
        (subst (λ (v : Creation). CanCome effect.Creates (λ t. creating.Decides v t) repository held told) (same_some (creating_at c moment) z w is was) x) y
    stand_once (Creating z is x) (Fixing w was y) = apart (SayTheSame told other) c.what 2 3 (λ e. omega (arith, e)) (made z is) (mended w was)
    stand_once (Creating z is x) (Trying n was old now y) = apart (SayTheSame told other) c.what 2 4 (λ e. omega (arith, e)) (made z is) (of_tried c.what n was)
    stand_once (Creating z is x) (Answering y) = apart (SayTheSame told other) c.what 2 5 (λ e. omega (arith, e)) (made z is) (of_answer c.what other firm y)
    stand_once (Fixing z is x) (Showing w was y) = apart (SayTheSame told other) c.what 3 0 (λ e. omega (arith, e)) (mended z is) (of_shown c.what w was)
    stand_once (Fixing z is x) (Changing was y) = apart (SayTheSame told other) c.what 3 1 (λ e. omega (arith, e)) (mended z is) (of_changing c.what was)
    stand_once (Fixing z is x) (Creating w was y) = apart (SayTheSame told other) c.what 3 2 (λ e. omega (arith, e)) (mended z is) (made w was)
    stand_once (Fixing z is x) (Fixing w was y) = come_once effect.Fixes (λ t. fixing.Decides w t) (fixes w)
        (subst (λ (v : Repairing). CanCome effect.Fixes (λ t. fixing.Decides v t) repository held told) (same_some (fixing_at c moment) z w is was) x) y
    stand_once (Fixing z is x) (Trying n was old now y) = apart (SayTheSame told other) c.what 3 4 (λ e. omega (arith, e)) (mended z is) (of_tried c.what n was)
    stand_once (Fixing z is x) (Answering y) = apart (SayTheSame told other) c.what 3 5 (λ e. omega (arith, e)) (mended z is) (of_answer c.what other firm y)
    stand_once (Trying n is old now x) (Showing w was y) = apart (SayTheSame told other) c.what 4 0 (λ e. omega (arith, e)) (of_tried c.what n is) (of_shown c.what w was)
    stand_once (Trying n is old now x) (Changing was y) = apart (SayTheSame told other) c.what 4 1 (λ e. omega (arith, e)) (of_tried c.what n is) (of_changing c.what was)
    stand_once (Trying n is old now x) (Creating w was y) = apart (SayTheSame told other) c.what 4 2 (λ e. omega (arith, e)) (of_tried c.what n is) (made w was)
    stand_once (Trying n is old now x) (Fixing w was y) = apart (SayTheSame told other) c.what 4 3 (λ e. omega (arith, e)) (of_tried c.what n is) (mended w was)
    stand_once (Trying n is old now x) (Trying m was older later y) =
        let number : what.Gen n ≡ what.Gen m = sym is ∙ was in
        let same : n ≡ m = cc in
        says_same told other (summary_of n old now told fixed x ∙ ap (λ (k : ℕ). outcome.Shown (summary_text k (k + 1) (3 * k + 4) 0)) same ∙ sym (summary_of m older later other firm y))
    stand_once (Trying n is old now x) (Answering y) = apart (SayTheSame told other) c.what 4 5 (λ e. omega (arith, e)) (of_tried c.what n is) (of_answer c.what other firm y)
    stand_once (Answering x) (Showing w was y) = apart (SayTheSame told other) c.what 5 0 (λ e. omega (arith, e)) (of_answer c.what told fixed x) (of_shown c.what w was)
    stand_once (Answering x) (Changing was y) = apart (SayTheSame told other) c.what 5 1 (λ e. omega (arith, e)) (of_answer c.what told fixed x) (of_changing c.what was)
    stand_once (Answering x) (Creating w was y) = apart (SayTheSame told other) c.what 5 2 (λ e. omega (arith, e)) (of_answer c.what told fixed x) (made w was)
    stand_once (Answering x) (Fixing w was y) = apart (SayTheSame told other) c.what 5 3 (λ e. omega (arith, e)) (of_answer c.what told fixed x) (mended w was)
    stand_once (Answering x) (Trying n was old now y) = apart (SayTheSame told other) c.what 5 4 (λ e. omega (arith, e)) (of_answer c.what told fixed x) (of_tried c.what n was)
    stand_once (Answering x) (Answering y) = answer_once c.what told other fixed firm x y
