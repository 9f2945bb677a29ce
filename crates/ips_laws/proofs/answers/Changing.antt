-- A changing command decides once.
use Rattle.std.proofs.Common.{◌≡◌, ◌⊎◌, inl, inr, ℕ, ◌+◌, Bool, true, IsTrue, List, [], ◌∷◌, ◌++◌, flat_map, map, Option, Some, None, Ok, Err, codes, refl, sym, ◌∙◌, ap, subst}
use Rattle.std.specs.Fmt.{decimal}
use Rattle.std.specs.Option.{option_map}
use Rattle.ips_text.specs.Quote.{shown}
use Rattle.ips_text.specs.declared.refusal.Or.{Or}
use Rattle.ips_text.specs.declared.refusal.Or.TheVariants.{Bad}
use Rattle.ips_outside.specs.Image.{Image, IsImage, is_dir}
use Rattle.ips_steps.specs.Private.{records_name}
use Rattle.ips_state.specs.State.{Recorded, recorded}
use Rattle.ips_state.specs.declared.state.State.{State}
use Rattle.ips_load.specs.Held.{Holds}
use Rattle.ips_load.specs.declared.fault.StateFault.{StateFault}
use Rattle.ips_image.specs.Whole.{IsStateFault}
use Rattle.ips_entries.proofs.HeldOnce.{held_once}
use Rattle.ips_laws.proofs.recorded.NoFault.{no_fault}
use Rattle.ips_laws.proofs.recorded.OneFault.{state_fault_one}
use Rattle.ips_next.specs.Decided.{limit_asked}
use Rattle.ips_next.specs.Next.{ComesNext, Given, IsNext, given}
use Rattle.ips_next.specs.declared.fault.NextFault.{NextFault}
use Rattle.ips_next.specs.declared.fault.NextFault.TheVariants as next
use Rattle.ips_next.proofs.OneNext.{next_one}
use Rattle.ips_plan.specs.image_plan.Accounts as accounts
use Rattle.ips_plan.specs.declared.request_plan.fault.PlanFault.{PlanFault}
use Rattle.ips_plan.specs.declared.request_plan.fault.PlanFault.TheVariants as plan
use Rattle.ips_plan.specs.declared.request_plan.planning.Plan.{Plan}
use Rattle.ips_plan.specs.requested.Meant.{ComesAt, IsPlanAt}
use Rattle.ips_next.specs.Tried.{seen_tried}
use Rattle.ips_report.specs.Report.{behind_blanks, candidate_text, done_text, line, prefixed_lines, tried_texts}
use Rattle.ips_report.specs.declared.unsolved.Tried.{Tried}
use Rattle.ips_report.specs.declared.outcome.Outcome.{Outcome}
use Rattle.ips_report.specs.declared.outcome.Outcome.TheVariants as outcome
use Rattle.ips_run.specs.declared.operation.Decision.{Decision}
use Rattle.ips_run.specs.declared.operation.Decision.TheVariants as decision
use Rattle.ips_run.specs.declared.operation.DecideFault.{DecideFault}
use Rattle.ips_tell.specs.refusals.Told.{Answer, as_refused, unread_told}
use Rattle.ips_tell.specs.told.Laying.{sorts_among}
use Rattle.ips_tell.specs.told.Naming.{AreNamed}
use Rattle.ips_operations.specs.changing.Refusals.{payload_told, unled_told, unplanned_told}
use Rattle.ips_operations.specs.changing.Commands.{accepts}
use Rattle.ips_operations.specs.changing.Decides.{Asked, Decides, IsPlannedTo, IsUnled, IsUnplanned, Led, given_for, Unread, Unled, Unplanned, Changed}
use Rattle.ips_operations.specs.changing.Plans.{change_of}
use Rattle.ips_operations.proofs.changing.Decided.{records_stand}
use Rattle.ips_laws.specs.next_laws.Causes as causes
use Rattle.ips_laws.specs.plan_laws.Alike as alike
use Rattle.ips_laws.specs.answers.Decided.{DecideTheSame, DecidesOnce, IsFixedDecision}
use Rattle.ips_laws.specs.answers.Same.{SayTheSame}
use Rattle.ips_laws.proofs.answers.Changes.{puts_too, sources_turned}
use Rattle.ips_laws.proofs.answers.Told.{by_field, by_fields, none_decided, of_record, refused_same, refusal, reserved, unmovable, unread_same}

-- ---- the laws of what it rests on

abbrev pub CausesAreOne : Type 0
CausesAreOne = (g : Given) (a b : NextFault) → (a ≡ next.SourceFault → ⊥) → (b ≡ next.SourceFault → ⊥) → ComesNext g a → ComesNext g b → causes.IsSameCause a b ⊎ causes.IsBesideSpent a b

abbrev pub NextExcludesCauses : Type 0
NextExcludesCauses = (g : Given) (new : Recorded) (why : NextFault) → IsNext g new → ComesNext g why → (why ≡ next.SearchSpent (limit_asked g.what)) ⊎ (why ≡ next.SourceFault)

abbrev pub PlansAreOne : Type 0
PlansAreOne = (g : accounts.Given) (moment : ℕ) (old other new next : State) (accept : Bool) (p q : Plan) → IsTrue g.told → IsTrue g.tells → IsTrue (is_dir (g.image.look records_name))
    → recorded old ≡ recorded other → recorded new ≡ recorded next → IsPlanAt g moment old new accept p → IsPlanAt g moment other next accept q → alike.AreLikePlans g.image p q

abbrev pub UnplannedIsOne : Type 0
UnplannedIsOne = (g : accounts.Given) (moment : ℕ) (old other new next : State) (accept : Bool) (why cause : PlanFault) → IsTrue g.told → IsTrue g.tells → IsTrue (is_dir (g.image.look records_name))
    → recorded old ≡ recorded other → recorded new ≡ recorded next → ComesAt g moment old new accept why → ComesAt g moment other next accept cause
    → alike.IsOfNoCall why → alike.IsOfNoCall cause → alike.IsSameCause why cause

abbrev pub PlanExcludesCauses : Type 0
PlanExcludesCauses = (g : accounts.Given) (moment : ℕ) (old other new next : State) (accept : Bool) (p : Plan) (why : PlanFault) → IsTrue g.told → IsTrue g.tells → IsTrue (is_dir (g.image.look records_name))
    → recorded old ≡ recorded other → recorded new ≡ recorded next → IsPlanAt g moment old new accept p → ComesAt g moment other next accept why
    → (why ≡ plan.SourceFault) ⊎ (why ≡ plan.FolderFault)

-- ---- why a command leads nowhere

-- a command is told to lead nowhere for a cause that no call is
of_no_call : (f : NextFault) (d : Decision Outcome) → unled_told (Bad f) ≡ Ok d → f ≡ next.SourceFault → ⊥
of_no_call f d told is = none_decided ⊥ _ d (sym (ap (λ (g : NextFault). unled_told (Bad g)) is) ∙ told)

-- a search that was spent isn't fixed
spent : (f : NextFault) (limit : ℕ) (d : Decision Outcome) → f ≡ next.SearchSpent limit → unled_told (Bad f) ≡ Ok d → IsFixedDecision d → ⊥
spent f limit d is told fixed = subst IsFixedDecision (refusal (outcome.SearchSpent limit) d (sym (ap (λ (g : NextFault). unled_told (Bad g)) is) ∙ told)) fixed

beside : (f g : NextFault) (d e : Decision Outcome) → causes.IsBesideSpent f g → unled_told (Bad f) ≡ Ok d → unled_told (Bad g) ≡ Ok e → IsFixedDecision d → IsFixedDecision e → ⊥
beside (next.SearchSpent limit) g d e is x y fixed firm = spent (next.SearchSpent limit) limit d refl x fixed
beside (next.NoSolution stems refutation) (next.SearchSpent limit) d e is x y fixed firm = spent (next.SearchSpent limit) limit e refl y firm
beside next.NothingToDo (next.SearchSpent limit) d e is x y fixed firm = spent (next.SearchSpent limit) limit e refl y firm
beside f g d e is x y fixed firm = absurd is

nothing : (d : Decision Outcome) → unled_told (Bad next.NothingToDo) ≡ Ok d → d ≡ decision.Nothing
nothing d e = let same : ◌≡◌ {A = Answer} (Ok decision.Nothing) (Ok d) = e in cc

tried_same : (i : ℕ) (xs ys : List Tried) → map seen_tried xs ≡ map seen_tried ys → tried_texts i xs ≡ tried_texts i ys
tried_same i [] [] e = refl
tried_same i [] (y ∷ ys) e = absurd cc
tried_same i (x ∷ xs) [] e = absurd cc
tried_same i (x ∷ xs) (y ∷ ys) e =
    let head : seen_tried x ≡ seen_tried y = cc in
    let tail : map seen_tried xs ≡ map seen_tried ys = cc in
    λ j. line (codes "stem " ++ decimal i ++ 32 ∷ (head j).stem ++ flat_map candidate_text (head j).candidates) ++ tried_same (i + 1) xs ys tail j

unled_same : (f g : NextFault) (d e : Decision Outcome) → causes.IsSameCause f g → unled_told (Bad f) ≡ Ok d → unled_told (Bad g) ≡ Ok e → DecideTheSame d e
unled_same next.OldFormat next.OldFormat d e same x y = refused_same outcome.OldFormat outcome.OldFormat d e x y (record { number = refl; text = refl })
unled_same next.NoRepository next.NoRepository d e same x y = refused_same outcome.NoRepository outcome.NoRepository d e x y (record { number = refl; text = refl })
unled_same (next.BadCatalog fault) (next.BadCatalog other) d e same x y = refused_same (outcome.BadCatalog fault) (outcome.BadCatalog other) d e x y (by_field outcome.BadCatalog fault other same)
unled_same (next.NoMatch pattern) (next.NoMatch other) d e same x y = refused_same (outcome.NoMatch pattern) (outcome.NoMatch other) d e x y (by_field outcome.NoMatch pattern other same)
unled_same (next.Ambiguous pattern stems) (next.Ambiguous other names) d e same x y = refused_same (outcome.Ambiguous pattern stems) (outcome.Ambiguous other names) d e x y
    (record { number = refl; text = λ i. line (codes "ambiguous " ++ same.0 i ++ codes ":" ++ behind_blanks (same.1 i)) })
unled_same (next.ManifestMissing fmri) (next.ManifestMissing other) d e same x y = refused_same (outcome.ManifestMissing fmri) (outcome.ManifestMissing other) d e x y (by_field outcome.ManifestMissing fmri other same)
unled_same (next.BadManifest fmri fault) (next.BadManifest other wrong) d e same x y = refused_same (outcome.BadManifest fmri fault) (outcome.BadManifest other wrong) d e x y (by_fields outcome.BadManifest fmri other fault wrong same.0 same.1)
unled_same (next.BadDepend fmri number) (next.BadDepend other at) d e same x y = refused_same (outcome.BadDepend fmri number) (outcome.BadDepend other at) d e x y (by_fields outcome.BadDepend fmri other number at same.0 same.1)
unled_same (next.TooLarge which count) (next.TooLarge other many) d e same x y = refused_same (outcome.TooLarge which count) (outcome.TooLarge other many) d e x y (by_fields outcome.TooLarge which other count many same.0 same.1)
unled_same (next.NoSolution stems refutation) (next.NoSolution names other) d e same x y = refused_same (outcome.NoSolution stems refutation) (outcome.NoSolution names other) d e x y
    (record { number = refl; text = ap (λ (tried : List ℕ). line (codes "no solution") ++ tried) (tried_same 0 stems.items names.items same) })
unled_same (next.SearchSpent limit) (next.SearchSpent other) d e same x y = refused_same (outcome.SearchSpent limit) (outcome.SearchSpent other) d e x y (by_field outcome.SearchSpent limit other same)
unled_same next.NothingToDo next.NothingToDo d e same x y = subst (λ (z : Decision Outcome). DecideTheSame z e) (sym (nothing d x)) (subst (DecideTheSame decision.Nothing) (sym (nothing e y)) tt)
unled_same next.SourceFault g d e same x y = none_decided (DecideTheSame d e) _ d x
unled_same f g d e same x y = absurd same

-- ---- why a request has no plan

-- what is told of a request without a plan is what was decided
unplanned_is : (o : Outcome) (d : Decision Outcome) → Some (as_refused o) ≡ Some (Ok d) → as_refused o ≡ Ok d
unplanned_is o d e = cc

undecided : (X : Type 0) (why : Or DecideFault) (d : Decision Outcome) → ◌≡◌ {A = Option Answer} (Some (Err why)) (Some (Ok d)) → X
undecided X why d e = absurd cc

no_call : (why : PlanFault) (d : Decision Outcome) → unplanned_told (Bad why) ≡ Some (Ok d) → alike.IsOfNoCall why
no_call why d told = (
  (λ is. undecided ⊥ _ d (sym (ap (λ (f : PlanFault). unplanned_told (Bad f)) is) ∙ told)),
  (λ is. undecided ⊥ _ d (sym (ap (λ (f : PlanFault). unplanned_told (Bad f)) is) ∙ told)),
)

both_refused : (a b : Outcome) (d e : Decision Outcome) → SayTheSame a b → Some (as_refused a) ≡ Some (Ok d) → Some (as_refused b) ≡ Some (Ok e) → DecideTheSame d e
both_refused a b d e same x y = refused_same a b d e (unplanned_is a d x) (unplanned_is b e y) same

unplanned_same : (f g : PlanFault) (d e : Decision Outcome) → alike.IsSameCause f g → unplanned_told (Bad f) ≡ Some (Ok d) → unplanned_told (Bad g) ≡ Some (Ok e) → DecideTheSame d e
unplanned_same (plan.Reserved path) (plan.Reserved other) d e same x y = both_refused (outcome.Reserved path) (outcome.Reserved other) d e (reserved path other same) x y
unplanned_same (plan.Clash clash) (plan.Clash other) d e same x y = both_refused (outcome.Clash clash) (outcome.Clash other) d e (by_field outcome.Clash clash other same) x y
unplanned_same (plan.BadAccountLine book number) (plan.BadAccountLine other at) d e same x y = both_refused (outcome.BadAccountLine book number) (outcome.BadAccountLine other at) d e (by_fields outcome.BadAccountLine book other number at same.0 same.1) x y
unplanned_same (plan.IdTaken id) (plan.IdTaken other) d e same x y = both_refused (outcome.IdTaken id) (outcome.IdTaken other) d e (by_field outcome.IdTaken id other same) x y
unplanned_same (plan.UnknownOwner path name) (plan.UnknownOwner other user) d e same x y = both_refused (outcome.UnknownOwner path name) (outcome.UnknownOwner other user) d e
    (record { number = refl; text = λ i. line (codes "unknown owner " ++ same.1 i ++ codes " of " ++ shown (same.0 i)) }) x y
unplanned_same (plan.LicenseNeeded list) (plan.LicenseNeeded other) d e same x y = both_refused (outcome.LicenseNeeded list) (outcome.LicenseNeeded other) d e
    (record { number = refl; text = ap (prefixed_lines (codes "license needed: ")) same }) x y
unplanned_same (plan.Unmovable path) (plan.Unmovable other) d e same x y = both_refused (outcome.Unmovable path) (outcome.Unmovable other) d e
    (unmovable path other same) x y
unplanned_same (plan.Payload name why) (plan.Payload other cause) d e same x y =
    payload_said (payload_told name why) x ((λ i. option_map as_refused (payload_told (same.0 i) (same.1 i))) ∙ y)
  where
    payload_said : (p : Option Outcome) → option_map as_refused p ≡ Some (Ok d) → option_map as_refused p ≡ Some (Ok e) → DecideTheSame d e
    payload_said (Some told) z w = both_refused told told d e (record { number = refl; text = refl }) z w
    payload_said None z w = absurd cc
unplanned_same (plan.TooLarge which count) (plan.TooLarge other many) d e same x y = both_refused (outcome.TooLarge which count) (outcome.TooLarge other many) d e (by_fields outcome.TooLarge which other count many same.0 same.1) x y
unplanned_same plan.SourceFault g d e same x y = undecided (DecideTheSame d e) _ d x
unplanned_same plan.FolderFault g d e same x y = undecided (DecideTheSame d e) _ d x
unplanned_same f g d e same x y = absurd same

-- ---- plans

plans_same : (t : Image) (publisher other : List ℕ) (p q : Plan) → publisher ≡ other → AreNamed p.planned.emitted.staged.items → AreNamed q.planned.emitted.staged.items → alike.AreLikePlans t p q → DecideTheSame (decision.Change (change_of publisher p)) (decision.Change (change_of other q))
plans_same t publisher other p q same named others like = (
  record { number = refl; text = λ i. done_text (like.counts i) (sorts_among (like.steps.steps i)) (like.licenses i) },
  record { publisher = sym same; payloads = puts_too t p.planned.emitted.staged.items q.planned.emitted.staged.items named others like.steps.sources },
  record { publisher = same; payloads = puts_too t q.planned.emitted.staged.items p.planned.emitted.staged.items others named (sources_turned t _ _ like.steps.sources) },
)

-- ---- what is decided

module _ (causes_one : CausesAreOne) (next_alone : NextExcludesCauses) (plans_one : PlansAreOne) (unplanned_one : UnplannedIsOne) (plan_alone : PlanExcludesCauses)
    (a : Asked) (tells : IsTrue a.tells) (formed : IsImage a.image) where
  -- the folder of the records stands
  stands : (s : State) → Holds a.image (recorded s) → IsTrue (is_dir (a.image.look records_name))
  stands s holds = records_stand a.image (recorded s) formed holds

  old_one : (x y : State) → Holds a.image (recorded x) → Holds a.image (recorded y) → recorded x ≡ recorded y
  old_one x y h k = held_once a.image (recorded x) (recorded y) h k

  abbrev given_at : State → Given
  given_at s = given (recorded s) a.command a.moment a.repository

  given_one : (x y : State) → recorded x ≡ recorded y → given_at x ≡ given_at y
  given_one x y same = ap (λ (r : Recorded). given r a.command a.moment a.repository) same

  new_one : (x y : Led a) → recorded x.new ≡ recorded y.new
  new_one x y =
      next_one (given_at y.old) (recorded x.new) (recorded y.new)
      (subst (λ (g : Given). IsNext g (recorded x.new)) (given_one x.old y.old (old_one x.old y.old x.holds y.holds)) (x.leads.next tells)) (y.leads.next tells)

  publisher_one : (x y : State) → recorded x ≡ recorded y → x.publisher ≡ y.publisher
  publisher_one x y same = ap (λ (r : Recorded). r.publisher) same

  for_one : (x y : State) → recorded x ≡ recorded y → given_for a x ≡ given_for a y
  for_one x y same = ap (λ (p : List ℕ). record { told = true; image = a.image; tells = a.tells; publisher = p; repository = a.repository }) (publisher_one x y same)

  not_unread : (X : Type 0) (s : State) (why : StateFault) (d : Decision Outcome) → Holds a.image (recorded s) → IsStateFault a.image why → unread_told (Bad why) ≡ Ok d → X
  not_unread X s why d holds bad told = absurd (of_record why d told (no_fault a.image (recorded s) holds why bad))

  not_unled : (X : Type 0) (led : Led a) (why : NextFault) (d : Decision Outcome) → IsUnled a why → unled_told (Bad why) ≡ Ok d → IsFixedDecision d → X
  not_unled X led why d unled told fixed =
      let comes = subst (λ (g : Given). ComesNext g why) (given_one unled.old led.old (old_one unled.old led.old unled.holds led.holds)) (unled.leads.comes tells) in
      elim (next_alone (given_at led.old) (recorded led.new) why (led.leads.next tells) comes) [
        | inl is ↦ absurd (spent why (limit_asked a.command.what) d is told fixed)
        | inr call ↦ absurd (of_no_call why d told call)
      ]

  unled_once : (why cause : NextFault) (d e : Decision Outcome) → IsUnled a why → IsUnled a cause → unled_told (Bad why) ≡ Ok d → unled_told (Bad cause) ≡ Ok e → IsFixedDecision d → IsFixedDecision e → DecideTheSame d e
  unled_once why cause d e x y told said fixed firm =
      let comes = subst (λ (g : Given). ComesNext g why) (given_one x.old y.old (old_one x.old y.old x.holds y.holds)) (x.leads.comes tells) in
      elim (causes_one (given_at y.old) why cause (of_no_call why d told) (of_no_call cause e said) comes (y.leads.comes tells)) [
        | inl same ↦ unled_same why cause d e same told said
        | inr spends ↦ absurd (beside why cause d e spends told said fixed firm)
      ]

  unplanned_once : (why cause : PlanFault) (d e : Decision Outcome) → IsUnplanned a why → IsUnplanned a cause → unplanned_told (Bad why) ≡ Some (Ok d) → unplanned_told (Bad cause) ≡ Some (Ok e) → DecideTheSame d e
  unplanned_once why cause d e x y told said =
      let olds = old_one x.led.old y.led.old x.led.holds y.led.holds in
      let news = new_one x.led y.led in
      let comes = subst (λ (g : accounts.Given). ComesAt g a.moment x.led.old x.led.new (accepts a.command.what) why) (for_one x.led.new y.led.new news) x.comes in
      unplanned_same why cause d e
      (unplanned_one (given_for a y.led.new) a.moment x.led.old y.led.old x.led.new y.led.new (accepts a.command.what) why cause refl tells (stands y.led.old y.led.holds) olds news comes y.comes (no_call why d told) (no_call cause e said)) told said

  not_unplanned : (X : Type 0) (led : Led a) (p : Plan) (why : PlanFault) (d : Decision Outcome) → IsPlannedTo a led p → IsUnplanned a why → unplanned_told (Bad why) ≡ Some (Ok d) → X
  not_unplanned X led p why d planned x told =
      let olds = old_one led.old x.led.old led.holds x.led.holds in
      let news = new_one led x.led in
      let is_plan = subst (λ (g : accounts.Given). IsPlanAt g a.moment led.old led.new (accepts a.command.what) p) (for_one led.new x.led.new news) planned.planned in
      elim (plan_alone (given_for a x.led.new) a.moment led.old x.led.old led.new x.led.new (accepts a.command.what) p why refl tells (stands led.old led.holds) olds news is_plan x.comes) [
        | inl call ↦ absurd ((no_call why d told).0 call)
        | inr call ↦ absurd ((no_call why d told).1 call)
      ]

  planned_once : (x y : Led a) (p q : Plan) → IsPlannedTo a x p → IsPlannedTo a y q → DecideTheSame (decision.Change (change_of x.new.publisher p)) (decision.Change (change_of y.new.publisher q))
  planned_once x y p q planned other =
      let olds = old_one x.old y.old x.holds y.holds in
      let news = new_one x y in
      let is_plan = subst (λ (g : accounts.Given). IsPlanAt g a.moment x.old x.new (accepts a.command.what) p) (for_one x.new y.new news) planned.planned in
      plans_same a.image x.new.publisher y.new.publisher p q (publisher_one x.new y.new news) planned.named other.named
      (plans_one (given_for a y.new) a.moment x.old y.old x.new y.new (accepts a.command.what) p q refl tells (stands y.old y.holds) olds news is_plan other.planned)

  pub changing_once : DecidesOnce (Decides a)
  changing_once d e (Unread why bad told) (Unread cause wrong said) fixed firm = unread_same why cause d e (state_fault_one a.image why cause bad wrong (of_record why d told) (of_record cause e said)) told said
  changing_once d e (Unread why bad told) (Unled cause unled said) fixed firm = not_unread (DecideTheSame d e) unled.old why d unled.holds bad told
  changing_once d e (Unread why bad told) (Unplanned cause unplanned said) fixed firm = not_unread (DecideTheSame d e) unplanned.led.old why d unplanned.led.holds bad told
  changing_once d e (Unread why bad told) (Changed led p planned) fixed firm = not_unread (DecideTheSame d e) led.old why d led.holds bad told
  changing_once d e (Unled why unled told) (Unread cause wrong said) fixed firm = not_unread (DecideTheSame d e) unled.old cause e unled.holds wrong said
  changing_once d e (Unled why unled told) (Unled cause other said) fixed firm = unled_once why cause d e unled other told said fixed firm
  changing_once d e (Unled why unled told) (Unplanned cause unplanned said) fixed firm = not_unled (DecideTheSame d e) unplanned.led why d unled told fixed
  changing_once d e (Unled why unled told) (Changed led p planned) fixed firm = not_unled (DecideTheSame d e) led why d unled told fixed
  changing_once d e (Unplanned why unplanned told) (Unread cause wrong said) fixed firm = not_unread (DecideTheSame d e) unplanned.led.old cause e unplanned.led.holds wrong said
  changing_once d e (Unplanned why unplanned told) (Unled cause unled said) fixed firm = not_unled (DecideTheSame d e) unplanned.led cause e unled said firm
  changing_once d e (Unplanned why unplanned told) (Unplanned cause other said) fixed firm = unplanned_once why cause d e unplanned other told said
  changing_once d e (Unplanned why unplanned told) (Changed led p planned) fixed firm = not_unplanned (DecideTheSame d e) led p why d planned unplanned told
  changing_once d e (Changed led p planned) (Unread cause wrong said) fixed firm = not_unread (DecideTheSame d e) led.old cause e led.holds wrong said
  changing_once d e (Changed led p planned) (Unled cause unled said) fixed firm = not_unled (DecideTheSame d e) led cause e unled said firm
  changing_once d e (Changed led p planned) (Unplanned cause unplanned said) fixed firm = not_unplanned (DecideTheSame d e) led p cause e planned unplanned said
  changing_once d e (Changed led p planned) (Changed other q second) fixed firm = planned_once led other p q planned second
