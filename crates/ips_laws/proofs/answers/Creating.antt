-- A command that makes an image decides once.
use Rattle.std.proofs.Common.{◌≡◌, ◌≢◌, ℕ, Bool, true, IsTrue, map, None, Ok, refl, sym, ◌∙◌, ap}
use Rattle.ips_text.specs.declared.refusal.Or.TheVariants.{Bad}
use Rattle.ips_outside.specs.Image.{Image}
use Rattle.ips_steps.specs.View.{step_of}
use Rattle.ips_load.proofs.SetInOrder.{set_alike}
use Rattle.ips_state.specs.State.{Recorded, recorded}
use Rattle.ips_state.specs.Records.{with_line}
use Rattle.ips_state.specs.declared.state.State.{State}
use Rattle.ips_words.specs.declared.what.What.{What}
use Rattle.ips_words.specs.declared.what.What.TheVariants.{ImageCreate}
use Rattle.ips_emit.specs.declared.emitting.Emitted.{Emitted}
use Rattle.ips_plan_limits.specs.Limits.{first_excess}
use Rattle.ips_plan.specs.created.Creating.{AreCreationSteps, ComesOfCreation}
use Rattle.ips_plan.specs.declared.created.fault.CreateFault.{CreateFault}
use Rattle.ips_plan.specs.declared.created.fault.CreateFault.TheVariants as fault
use Rattle.ips_report.specs.declared.outcome.Outcome.{Outcome}
use Rattle.ips_report.specs.declared.outcome.Outcome.TheVariants as outcome
use Rattle.ips_run.specs.declared.operation.Change.{Change}
use Rattle.ips_run.specs.declared.operation.Decision.{Decision}
use Rattle.ips_run.specs.declared.operation.Decision.TheVariants as decision
use Rattle.ips_tell.specs.told.Laying.{IsChangeOfSteps}
use Rattle.ips_operations.specs.creating.Creations.{AreFoundedBy, Creation, IsBegun}
use Rattle.ips_operations.specs.creating.Decides.{Decides, IsUnmade, Exists, Made, Unmade}
use Rattle.ips_operations.specs.creating.Told.{unmade_told}
use Rattle.ips_laws.specs.plan_laws.Alike as alike
use Rattle.ips_next.proofs.OneNext.{line_one}
use Rattle.ips_laws.specs.answers.Decided.{DecideTheSame, DecidesOnce}
use Rattle.ips_laws.proofs.answers.Changes.{changes_same}
use Rattle.ips_laws.proofs.answers.Told.{by_fields, none_decided, refused_same, unmovable}

-- ---- the laws of what it rests on

abbrev pub CreationStepsAreOne : Type 0
CreationStepsAreOne = (moment : ℕ) (new next : State) (t : Image) (d e : Emitted) → recorded new ≡ recorded next → AreCreationSteps moment new t d → AreCreationSteps moment next t e → alike.AreLikeSteps t d e

abbrev pub UncreatedIsOne : Type 0
UncreatedIsOne = (told : Bool) (moment : ℕ) (new next : State) (t : Image) (why cause : CreateFault) → IsTrue told → recorded new ≡ recorded next
    → ComesOfCreation told t moment new why → ComesOfCreation told t moment next cause → why ≢ fault.FolderFault → cause ≢ fault.FolderFault → alike.IsSameCreateFault why cause

abbrev pub CreationExcludesCauses : Type 0
CreationExcludesCauses = (told : Bool) (moment : ℕ) (new next : State) (t : Image) (e : Emitted) (why : CreateFault) → IsTrue told → recorded new ≡ recorded next
    → AreCreationSteps moment new t e → first_excess (map step_of e.steps.items) e.staged.items ≡ None → ComesOfCreation told t moment next why → why ≡ fault.FolderFault

-- ---- the records that are begun

founded_one : (w : What) (a b : Recorded) → AreFoundedBy w a → AreFoundedBy w b → a ≡ b
founded_one (ImageCreate publisher variants facets actuator) a b x y =
    let variants_are = set_alike a.settings.variants b.settings.variants x.ordered.variants y.ordered.variants (λ name. x.variants_are name ∙ sym (y.variants_are name)) in
    let facets_are = set_alike a.settings.facets b.settings.facets x.ordered.facets y.ordered.facets (λ name. x.facets_are name ∙ sym (y.facets_are name)) in
    λ i. record {
      format = (x.format ∙ sym y.format) i;
      publisher = (x.publisher_is ∙ sym y.publisher_is) i;
      origins = (x.origins ∙ sym y.origins) i;
      actuator = (x.actuator_is ∙ sym y.actuator_is) i;
      settings = record { variants = variants_are i; facets = facets_are i };
      installed = (x.installed ∙ sym y.installed) i;
      avoid = (x.avoid ∙ sym y.avoid) i;
      freeze = (x.freeze ∙ sym y.freeze) i;
      mediators = (x.mediators ∙ sym y.mediators) i;
      history = (x.history ∙ sym y.history) i;
      index = (x.index ∙ sym y.index) i;
    }
founded_one w a b x y = absurd x

pub begun_one : (a : Creation) (s t : State) → IsBegun a s → IsBegun a t → recorded s ≡ recorded t
begun_one a s t x y =
    let founded = founded_one a.command.what x.founded y.founded x.are_founded y.are_founded in
    let added = line_one a.moment a.command.history x.line y.line x.is_line y.is_line in
    x.is ∙ (λ i. record (founded i) { history = with_line (founded i).history (added i) }) ∙ sym y.is

-- ---- what is told

no_call : (why : CreateFault) (d : Decision Outcome) → unmade_told (Bad why) ≡ Ok d → why ≢ fault.FolderFault
no_call why d told is = none_decided ⊥ _ d (sym (ap (λ (f : CreateFault). unmade_told (Bad f)) is) ∙ told)

unmade_same : (f g : CreateFault) (d e : Decision Outcome) → alike.IsSameCreateFault f g → unmade_told (Bad f) ≡ Ok d → unmade_told (Bad g) ≡ Ok e → DecideTheSame d e
unmade_same (fault.Unmovable path) (fault.Unmovable other) d e same x y = refused_same (outcome.Unmovable path) (outcome.Unmovable other) d e x y (unmovable path other same)
unmade_same (fault.TooLarge excess) (fault.TooLarge other) d e same x y = refused_same (outcome.TooLarge excess.which excess.count) (outcome.TooLarge other.which other.count) d e x y
    (by_fields outcome.TooLarge excess.which other.which excess.count other.count (λ i. (same i).which) (λ i. (same i).count))
unmade_same fault.FolderFault g d e same x y = none_decided (DecideTheSame d e) _ d x
unmade_same f g d e same x y = absurd same

-- ---- what is decided

module _ (steps_one : CreationStepsAreOne) (uncreated_one : UncreatedIsOne) (creation_alone : CreationExcludesCauses) (a : Creation) (t : Image) where
  unmade_once : (why cause : CreateFault) (d e : Decision Outcome) → IsUnmade a t why → IsUnmade a t cause → unmade_told (Bad why) ≡ Ok d → unmade_told (Bad cause) ≡ Ok e → DecideTheSame d e
  unmade_once why cause d e x y told said =
      unmade_same why cause d e (uncreated_one true a.moment x.state y.state t why cause refl (begun_one a x.state y.state x.begun y.begun) x.comes y.comes (no_call why d told) (no_call cause e said)) told said

  not_unmade : (X : Type 0) (s : State) (e : Emitted) (why : CreateFault) (d : Decision Outcome) → IsBegun a s → AreCreationSteps a.moment s t e → first_excess (map step_of e.steps.items) e.staged.items ≡ None
      → IsUnmade a t why → unmade_told (Bad why) ≡ Ok d → X
  not_unmade X s e why d begun steps within x told = absurd (no_call why d told (creation_alone true a.moment s x.state t e why refl (begun_one a s x.state begun x.begun) steps within x.comes))

  made_once : (s r : State) (e f : Emitted) (c d : Change Outcome) → IsBegun a s → IsBegun a r → AreCreationSteps a.moment s t e → AreCreationSteps a.moment r t f → IsChangeOfSteps s.publisher e c → IsChangeOfSteps r.publisher f d
      → DecideTheSame (decision.Change c) (decision.Change d)
  made_once s r e f c d begun other steps more change next =
      let same = begun_one a s r begun other in
      changes_same t s.publisher r.publisher e f c d (ap (λ (x : Recorded). x.publisher) same) change next (steps_one a.moment s r t e f same steps more)

  pub creating_once : DecidesOnce (Decides a t)
  creating_once d e (Exists there) (Exists stands) fixed firm = record { number = refl; text = refl }
  creating_once d e (Exists there) (Unmade cause none y said) fixed firm = absurd (there none)
  creating_once d e (Exists there) (Made s f c none begun steps within change) fixed firm = absurd (there none)
  creating_once d e (Unmade why none x told) (Exists stands) fixed firm = absurd (stands none)
  creating_once d e (Unmade why none x told) (Unmade cause free y said) fixed firm = unmade_once why cause d e x y told said
  creating_once d e (Unmade why none x told) (Made s f c free begun steps within change) fixed firm = not_unmade (DecideTheSame d e) s f why d begun steps within x told
  creating_once d e (Made s f c none begun steps within change) (Exists stands) fixed firm = absurd (stands none)
  creating_once d e (Made s f c none begun steps within change) (Unmade cause free y said) fixed firm = not_unmade (DecideTheSame d e) s f cause e begun steps within y said
  creating_once d e (Made s f c none begun steps within change) (Made r g b free other more few next) fixed firm = made_once s r f g c b begun other steps more change next
