-- A command that repairs an image decides once.
use Rattle.std.proofs.Common.{◌≡◌, ◌≢◌, ℕ, Bool, true, IsTrue, List, map, None, Ok, refl, sym, ◌∙◌, ap, subst}
use Rattle.ips_text.specs.declared.refusal.Or.TheVariants.{Bad}
use Rattle.ips_outside.specs.Image.{Image}
use Rattle.ips_steps.specs.View.{step_of}
use Rattle.ips_after.specs.Findings.{findings}
use Rattle.ips_after.specs.Request.{Want}
use Rattle.ips_state.specs.State.{Recorded, recorded}
use Rattle.ips_state.specs.Records.{with_line}
use Rattle.ips_state.specs.declared.state.State.{State}
use Rattle.ips_load.specs.Held.{Holds}
use Rattle.ips_load.specs.declared.fault.StateFault.{StateFault}
use Rattle.ips_image.specs.Whole.{IsStateFault}
use Rattle.ips_entries.proofs.HeldOnce.{held_once}
use Rattle.ips_laws.proofs.recorded.NoFault.{no_fault}
use Rattle.ips_laws.proofs.recorded.OneFault.{state_fault_one}
use Rattle.ips_meaning.specs.declared.entry.Entry.{Entry}
use Rattle.ips_meaning.specs.declared.fault.WantFault.{WantFault}
use Rattle.ips_change.specs.wanted.Wanted.{want_of}
use Rattle.ips_change.specs.wanted.Named.{is_payload_of}
use Rattle.ips_plan.specs.image_plan.Meaning.{StateFails, StateMeans}
use Rattle.ips_emit.specs.declared.emitting.Emitted.{Emitted}
use Rattle.ips_plan_limits.specs.Limits.{first_excess}
use Rattle.ips_repair.specs.Repairing.{AreRepairSteps, ComesOfRepairAt}
use Rattle.ips_repair.specs.declared.fault.RepairFault.{RepairFault}
use Rattle.ips_repair.specs.declared.fault.RepairFault.TheVariants as fault
use Rattle.ips_report.specs.declared.outcome.Outcome.TheVariants as outcome
use Rattle.ips_run.specs.declared.operation.Change.{Change}
use Rattle.ips_run.specs.declared.operation.Decision.{Decision}
use Rattle.ips_run.specs.declared.operation.Decision.TheVariants as decision
use Rattle.ips_report.specs.declared.outcome.Outcome.{Outcome}
use Rattle.ips_tell.specs.refusals.Told.{unmeant_told, unread_told}
use Rattle.ips_tell.specs.told.Laying.{IsChangeOfSteps}
use Rattle.ips_operations.specs.fixing.Fixes.{Repairing}
use Rattle.ips_operations.specs.fixing.Decides.{Decides, IsDamaged, IsNewState, IsRepairedBy, IsSound, IsUnrepaired, Told, OldFormat, Repaired, Sound, Unmeant, Unread, Unrepaired}
use Rattle.ips_operations.specs.fixing.Told.{unrepaired_told}
use Rattle.ips_laws.specs.plan_laws.Alike as alike
use Rattle.ips_laws.specs.answers.Decided.{DecideTheSame, DecidesOnce}
use Rattle.ips_laws.proofs.answers.Changes.{changes_same}
use Rattle.ips_next.proofs.OneNext.{line_one}
use Rattle.ips_laws.proofs.answers.Told.{by_fields, none_decided, of_record, refused_same, unmeant_same, unmovable, unread_same}

-- ---- the laws of what it rests on

abbrev pub WantIsOne : Type 0
WantIsOne = (a b : State) (x y : List (List ℕ × Entry)) → recorded a ≡ recorded b → StateMeans a x → StateMeans b y → want_of x ≡ want_of y

abbrev pub UnmeantIsOne : Type 0
UnmeantIsOne = (a b : State) (why other : WantFault) → recorded a ≡ recorded b → StateFails a why → StateFails b other → alike.IsSameUnmeant why other

abbrev pub WantOrFault : Type 0
WantOrFault = (a b : State) (why : WantFault) (y : List (List ℕ × Entry)) → recorded a ≡ recorded b → StateFails a why → StateMeans b y → ⊥

abbrev pub RepairStepsAreOne : Type 0
RepairStepsAreOne = (moment : ℕ) (a b : State) (history : List (List ℕ)) (want other : List (List ℕ × Entry)) (t : Image) (d e : Emitted) → recorded a ≡ recorded b → StateMeans a want → StateMeans b other
    → AreRepairSteps moment history want t d → AreRepairSteps moment history other t e → alike.AreLikeSteps t d e

abbrev pub UnrepairedIsOne : Type 0
UnrepairedIsOne = (told : Bool) (moment : ℕ) (a b : State) (history : List (List ℕ)) (want other : List (List ℕ × Entry)) (t : Image) (why cause : RepairFault) → IsTrue told → recorded a ≡ recorded b → StateMeans a want → StateMeans b other
    → ComesOfRepairAt told t moment history want why → ComesOfRepairAt told t moment history other cause → why ≢ fault.FolderFault → cause ≢ fault.FolderFault → alike.IsSameRepairFault why cause

abbrev pub RepairExcludesCauses : Type 0
RepairExcludesCauses = (told : Bool) (moment : ℕ) (a b : State) (history : List (List ℕ)) (want other : List (List ℕ × Entry)) (t : Image) (e : Emitted) (why : RepairFault) → IsTrue told → recorded a ≡ recorded b → StateMeans a want → StateMeans b other
    → AreRepairSteps moment history want t e → first_excess (map step_of e.steps.items) e.staged.items ≡ None → ComesOfRepairAt told t moment history other why → why ≡ fault.FolderFault

-- ---- what is told

no_call : (why : RepairFault) (d : Decision Outcome) → unrepaired_told (Bad why) ≡ Ok d → why ≢ fault.FolderFault
no_call why d told is = none_decided ⊥ _ d (sym (ap (λ (f : RepairFault). unrepaired_told (Bad f)) is) ∙ told)

unrepaired_same : (f g : RepairFault) (d e : Decision Outcome) → alike.IsSameRepairFault f g → unrepaired_told (Bad f) ≡ Ok d → unrepaired_told (Bad g) ≡ Ok e → DecideTheSame d e
unrepaired_same (fault.Unmovable path) (fault.Unmovable other) d e same x y = refused_same (outcome.Unmovable path) (outcome.Unmovable other) d e x y (unmovable path other same)
unrepaired_same (fault.TooLarge excess) (fault.TooLarge other) d e same x y = refused_same (outcome.TooLarge excess.which excess.count) (outcome.TooLarge other.which other.count) d e x y
    (by_fields outcome.TooLarge excess.which other.which excess.count other.count (λ i. (same i).which) (λ i. (same i).count))
unrepaired_same fault.FolderFault g d e same x y = none_decided (DecideTheSame d e) _ d x
unrepaired_same f g d e same x y = absurd same

-- the formats differ
first_or_second : (n : ℕ) → n ≡ 1 → n ≡ 2 → ⊥
first_or_second n one two = let e : 1 ≡ 2 = sym one ∙ two in cc

-- ---- what is decided

module _ (want_one : WantIsOne) (unmeant_one : UnmeantIsOne) (means_or_fails : WantOrFault) (steps_one : RepairStepsAreOne) (unrepaired_one : UnrepairedIsOne) (repair_alone : RepairExcludesCauses) (a : Repairing) (t : Image) where
  told_one : (x y : State) → Holds t (recorded x) → Holds t (recorded y) → recorded x ≡ recorded y
  told_one x y h k = held_once t (recorded x) (recorded y) h k

  not_unread : (X : Type 0) (s : State) (why : StateFault) (d : Decision Outcome) → Holds t (recorded s) → IsStateFault t why → unread_told (Bad why) ≡ Ok d → X
  not_unread X s why d holds bad told = absurd (of_record why d told (no_fault t (recorded s) holds why bad))

  not_old : (X : Type 0) (s : State) (told : Told t) → Holds t (recorded s) → s.format ≡ 1 → X
  not_old X s told holds first = absurd (first_or_second s.format first (ap (λ (r : Recorded). r.format) (told_one s told.state holds told.holds) ∙ told.format))

  not_unmeant : (X : Type 0) (x y : Told t) (why : WantFault) (want : List (List ℕ × Entry)) → StateFails x.state why → StateMeans y.state want → X
  not_unmeant X x y why want fails means = absurd (means_or_fails x.state y.state why want (told_one x.state y.state x.holds y.holds) fails means)

  not_sound : (X : Type 0) (x y : Told t) → IsSound t x.state → IsDamaged t y.state → X
  not_sound X x y sound damaged =
      let same = want_one x.state y.state sound.want damaged.want (told_one x.state y.state x.holds y.holds) sound.means damaged.means in
      absurd (damaged.found (sym (ap (λ (w : Want). findings is_payload_of w t) same) ∙ sound.found))

  history_one : (x y : State) (p : IsNewState a t x) (q : IsNewState a t y) → x.history.items ≡ y.history.items
  history_one x y p q =
      let olds = ap (λ (r : Recorded). r.history) (told_one p.told.state q.told.state p.told.holds q.told.holds) in
      let added = line_one a.moment a.command.history p.noted.line q.noted.line p.noted.is_line q.noted.is_line in
      p.noted.history ∙ (λ i. with_line (olds i) (added i)) ∙ sym q.noted.history

  publisher_one : (x y : State) (p : IsNewState a t x) (q : IsNewState a t y) → x.publisher ≡ y.publisher
  publisher_one x y p q =
      let olds = ap (λ (r : Recorded). r.publisher) (told_one p.told.state q.told.state p.told.holds q.told.holds) in
      ap (λ (s : State). s.publisher) p.noted.rest ∙ olds ∙ sym (ap (λ (s : State). s.publisher) q.noted.rest)

  unrepaired_once : (why cause : RepairFault) (d e : Decision Outcome) → IsUnrepaired a t why → IsUnrepaired a t cause → unrepaired_told (Bad why) ≡ Ok d → unrepaired_told (Bad cause) ≡ Ok e → DecideTheSame d e
  unrepaired_once why cause d e x y told said =
      let comes = subst (λ (h : List (List ℕ)). ComesOfRepairAt true t a.moment h x.damaged.want why) (history_one x.new y.new x.is_new y.is_new) x.comes in
      unrepaired_same why cause d e
      (unrepaired_one true a.moment x.is_new.told.state y.is_new.told.state y.new.history.items x.damaged.want y.damaged.want t why cause refl
      (told_one x.is_new.told.state y.is_new.told.state x.is_new.told.holds y.is_new.told.holds) x.damaged.means y.damaged.means comes y.comes (no_call why d told) (no_call cause e said)) told said

  not_unrepaired : (X : Type 0) (new : State) (f : Emitted) (why : RepairFault) (d : Decision Outcome) → IsRepairedBy a t new f → IsUnrepaired a t why → unrepaired_told (Bad why) ≡ Ok d → X
  not_unrepaired X new f why d by x told =
      let steps = subst (λ (h : List (List ℕ)). AreRepairSteps a.moment h by.damaged.want t f) (history_one new x.new by.is_new x.is_new) by.steps in
      absurd (no_call why d told (repair_alone true a.moment by.is_new.told.state x.is_new.told.state x.new.history.items by.damaged.want x.damaged.want t f why refl
      (told_one by.is_new.told.state x.is_new.told.state by.is_new.told.holds x.is_new.told.holds) by.damaged.means x.damaged.means steps by.within x.comes))

  repaired_once : (new other : State) (f g : Emitted) (c d : Change Outcome) → IsRepairedBy a t new f → IsRepairedBy a t other g → IsChangeOfSteps new.publisher f c → IsChangeOfSteps other.publisher g d → DecideTheSame (decision.Change c) (decision.Change d)
  repaired_once new other f g c d by more change next =
      let steps = subst (λ (h : List (List ℕ)). AreRepairSteps a.moment h by.damaged.want t f) (history_one new other by.is_new more.is_new) by.steps in
      changes_same t new.publisher other.publisher f g c d (publisher_one new other by.is_new more.is_new) change next
      (steps_one a.moment by.is_new.told.state more.is_new.told.state other.history.items by.damaged.want more.damaged.want t f g
      (told_one by.is_new.told.state more.is_new.told.state by.is_new.told.holds more.is_new.told.holds) by.damaged.means more.damaged.means steps more.steps)

  unmeant_once : (x y : Told t) (why cause : WantFault) (d e : Decision Outcome) → StateFails x.state why → StateFails y.state cause → d ≡ unmeant_told why → e ≡ unmeant_told cause → DecideTheSame d e
  unmeant_once x y why cause d e fails other is was =
      subst (λ (z : Decision Outcome). DecideTheSame z e) (sym is) (subst (DecideTheSame (unmeant_told why)) (sym was) (unmeant_same why cause (unmeant_one x.state y.state why cause (told_one x.state y.state x.holds y.holds) fails other)))

  pub fixing_once : DecidesOnce (Decides a t)
  fixing_once d e (Unread why bad told) (Unread cause wrong said) fixed firm = unread_same why cause d e (state_fault_one t why cause bad wrong (of_record why d told) (of_record cause e said)) told said
  fixing_once d e (Unread why bad told) (OldFormat s holds first) fixed firm = not_unread (DecideTheSame d e) s why d holds bad told
  fixing_once d e (Unread why bad told) (Unmeant x cause fails is) fixed firm = not_unread (DecideTheSame d e) x.state why d x.holds bad told
  fixing_once d e (Unread why bad told) (Sound x sound) fixed firm = not_unread (DecideTheSame d e) x.state why d x.holds bad told
  fixing_once d e (Unread why bad told) (Unrepaired cause x said) fixed firm = not_unread (DecideTheSame d e) x.is_new.told.state why d x.is_new.told.holds bad told
  fixing_once d e (Unread why bad told) (Repaired new f c by change) fixed firm = not_unread (DecideTheSame d e) by.is_new.told.state why d by.is_new.told.holds bad told
  fixing_once d e (OldFormat s holds first) (Unread cause wrong said) fixed firm = not_unread (DecideTheSame d e) s cause e holds wrong said
  fixing_once d e (OldFormat s holds first) (OldFormat r stands again) fixed firm = record { number = refl; text = refl }
  fixing_once d e (OldFormat s holds first) (Unmeant x cause fails is) fixed firm = not_old (DecideTheSame d e) s x holds first
  fixing_once d e (OldFormat s holds first) (Sound x sound) fixed firm = not_old (DecideTheSame d e) s x holds first
  fixing_once d e (OldFormat s holds first) (Unrepaired cause x said) fixed firm = not_old (DecideTheSame d e) s x.is_new.told holds first
  fixing_once d e (OldFormat s holds first) (Repaired new f c by change) fixed firm = not_old (DecideTheSame d e) s by.is_new.told holds first
  fixing_once d e (Unmeant x why fails is) (Unread cause wrong said) fixed firm = not_unread (DecideTheSame d e) x.state cause e x.holds wrong said
  fixing_once d e (Unmeant x why fails is) (OldFormat s holds first) fixed firm = not_old (DecideTheSame d e) s x holds first
  fixing_once d e (Unmeant x why fails is) (Unmeant y cause other was) fixed firm = unmeant_once x y why cause d e fails other is was
  fixing_once d e (Unmeant x why fails is) (Sound y sound) fixed firm = not_unmeant (DecideTheSame d e) x y why sound.want fails sound.means
  fixing_once d e (Unmeant x why fails is) (Unrepaired cause y said) fixed firm = not_unmeant (DecideTheSame d e) x y.is_new.told why y.damaged.want fails y.damaged.means
  fixing_once d e (Unmeant x why fails is) (Repaired new f c by change) fixed firm = not_unmeant (DecideTheSame d e) x by.is_new.told why by.damaged.want fails by.damaged.means
  fixing_once d e (Sound x sound) (Unread cause wrong said) fixed firm = not_unread (DecideTheSame d e) x.state cause e x.holds wrong said
  fixing_once d e (Sound x sound) (OldFormat s holds first) fixed firm = not_old (DecideTheSame d e) s x holds first
  fixing_once d e (Sound x sound) (Unmeant y cause fails was) fixed firm = not_unmeant (DecideTheSame d e) y x cause sound.want fails sound.means
  fixing_once d e (Sound x sound) (Sound y other) fixed firm = tt
  fixing_once d e (Sound x sound) (Unrepaired cause y said) fixed firm = not_sound (DecideTheSame d e) x y.is_new.told sound y.damaged
  fixing_once d e (Sound x sound) (Repaired new f c by change) fixed firm = not_sound (DecideTheSame d e) x by.is_new.told sound by.damaged
  fixing_once d e (Unrepaired why x told) (Unread cause wrong said) fixed firm = not_unread (DecideTheSame d e) x.is_new.told.state cause e x.is_new.told.holds wrong said
  fixing_once d e (Unrepaired why x told) (OldFormat s holds first) fixed firm = not_old (DecideTheSame d e) s x.is_new.told holds first
  fixing_once d e (Unrepaired why x told) (Unmeant y cause fails was) fixed firm = not_unmeant (DecideTheSame d e) y x.is_new.told cause x.damaged.want fails x.damaged.means
  fixing_once d e (Unrepaired why x told) (Sound y sound) fixed firm = not_sound (DecideTheSame d e) y x.is_new.told sound x.damaged
  fixing_once d e (Unrepaired why x told) (Unrepaired cause y said) fixed firm = unrepaired_once why cause d e x y told said
  fixing_once d e (Unrepaired why x told) (Repaired new f c by change) fixed firm = not_unrepaired (DecideTheSame d e) new f why d by x told
  fixing_once d e (Repaired new f c by change) (Unread cause wrong said) fixed firm = not_unread (DecideTheSame d e) by.is_new.told.state cause e by.is_new.told.holds wrong said
  fixing_once d e (Repaired new f c by change) (OldFormat s holds first) fixed firm = not_old (DecideTheSame d e) s by.is_new.told holds first
  fixing_once d e (Repaired new f c by change) (Unmeant y cause fails was) fixed firm = not_unmeant (DecideTheSame d e) y by.is_new.told cause by.damaged.want fails by.damaged.means
  fixing_once d e (Repaired new f c by change) (Sound y sound) fixed firm = not_sound (DecideTheSame d e) y by.is_new.told sound by.damaged
  fixing_once d e (Repaired new f c by change) (Unrepaired cause y said) fixed firm = not_unrepaired (DecideTheSame d e) new f cause e by y said
  fixing_once d e (Repaired new f c by change) (Repaired other g b more next) fixed firm = repaired_once new other f g c b by more change next
