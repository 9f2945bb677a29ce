-- Why a request has no plan is one, and excludes that it has one.
use Rattle.std.proofs.Common.{◌≡◌, ◌⊎◌, inl, inr, ℕ, Bool, true, List, map, Result, Ok, Err, refl, sym, ap, subst, ◌∙◌}
use Rattle.std.proofs.lemmas.Option.{none-some, same_Some}
use Rattle.ips_outside.specs.Image.{is_dir}
use Rattle.ips_steps.specs.Private.{records_name}
use Rattle.ips_state.specs.declared.state.State.{State}
use Rattle.ips_state.specs.State.{recorded}
use Rattle.ips_books.specs.Seen.{accounts as books_seen}
use Rattle.ips_due.specs.Delivered.{Delivered}
use Rattle.ips_books.specs.Accounts.{Accounts}
use Rattle.ips_delivered.specs.delivered.Delivering.{HasUnknownOwner, PackagesDeliver, first_unknown}
use Rattle.ips_due.specs.outstanding.Parts.{due_file}
use Rattle.ips_account_files.specs.Behind.{Files, IsTold, files_seen}
use Rattle.ips_account_files.specs.declared.files.AccountFiles.{AccountFiles}
use Rattle.ips_books.specs.declared.fault.AccountFault.{AccountFault}
use Rattle.ips_books.specs.declared.fault.AccountFault.TheVariants as account
use Rattle.ips_account_files.specs.declared.ledger.fault.LedgerFault.{LedgerFault}
use Rattle.ips_account_files.specs.declared.ledger.fault.LedgerFault.TheVariants as ledger
use Rattle.ips_meaning.specs.declared.fault.WantFault.{WantFault}
use Rattle.ips_meaning.specs.declared.fault.WantFault.TheVariants as want
use Rattle.ips_plan_limits.specs.declared.limits.Excess.{Excess}
use Rattle.ips_plan.specs.image_plan.Accounts.{Given, IsLedger}
use Rattle.ips_plan.specs.image_plan.Behind.{ComesBehind, ComesOf, IsPlanned}
use Rattle.ips_plan.specs.declared.image_plan.behind.Planned.{Planned}
use Rattle.ips_plan.specs.image_plan.Between.{AreMeant}
use Rattle.ips_plan.specs.declared.image_plan.behind.BehindFault.{BehindFault}
use Rattle.ips_plan.specs.declared.image_plan.behind.BehindFault.TheVariants as behind
use Rattle.ips_plan.specs.declared.image_plan.between.Between.{Between}
use Rattle.ips_plan.specs.request_plan.Causes.{IsUnedited, IsUngiven, unlaid, unmeant}
use Rattle.ips_plan.specs.request_plan.Plans.{AreFiles, ComesBetween, ComesOfPlan, IsBetween, IsRequestPlan, NewFail, NoFiles, NoSteps, NonePlanned, OldFail}
use Rattle.ips_plan.specs.declared.request_plan.fault.PlanFault.{PlanFault}
use Rattle.ips_plan.specs.declared.request_plan.fault.PlanFault.TheVariants as fault
use Rattle.ips_plan.specs.declared.request_plan.planning.Plan.{Plan}
use Rattle.ips_plan.specs.requested.Meant.{ComesAt, IsPlanAt, accounts_in}
use Rattle.ips_laws.specs.plan_laws.Alike.{IsOfNoCall, IsSameCause, IsSameUnmeant}
use Rattle.ips_laws.proofs.plan_laws.Ledgers.{AnswersAreOne, ok_told}
use Rattle.ips_laws.proofs.plan_laws.Licenses.{needed_apart, needed_one}
use Rattle.ips_next.proofs.OneNext.{moment_one}
use Rattle.ips_laws.proofs.plan_laws.Pairs.{hinders_apart, pair_excess, pair_hindered, steps_apart}
use Rattle.ips_laws.proofs.plan_laws.Posed.{FilesFit, IsPosed, news, olds, posed_answers, posed_files}
use Rattle.ips_laws.proofs.plan_laws.States.{admitted_same}
use Rattle.ips_laws.proofs.plan_laws.Unmeant.{fails_or_means, fault_one}

-- ---- causes as they are told

-- causes are the same where both are one, or one each of two that are the same
same_of : (c d why other : PlanFault) → why ≡ c → other ≡ d → IsSameCause c d → IsSameCause why other
same_of c d why other h k same = subst (λ (x : PlanFault). IsSameCause x other) (sym h) (subst (IsSameCause c) (sym k) same)

unmeant_same : (f g : WantFault) → IsSameUnmeant f g → IsSameCause (unmeant f) (unmeant g)
unmeant_same (want.Reserved path) (want.Reserved other) h = h
unmeant_same (want.Reserved path) (want.Clash other) h = absurd h
unmeant_same (want.Clash clash) (want.Reserved other) h = absurd h
unmeant_same (want.Clash clash) (want.Clash other) h = h

unedited_same : (f : AccountFault) (why other : PlanFault) → IsUnedited f why → IsUnedited f other → IsSameCause why other
unedited_same (account.BadAccountLine book line) why other h k = same_of (fault.BadAccountLine book line) (fault.BadAccountLine book line) why other h k (refl, refl)
unedited_same (account.IdTaken id) why other h k = same_of (fault.IdTaken id) (fault.IdTaken id) why other h k refl
unedited_same (account.UnknownGroup name) why other h k = same_of (fault.UnknownOwner h.path name) (fault.UnknownOwner k.path name) why other h.is k.is (h.bytes ∙ sym k.bytes, refl)

ungiven_same : (f : LedgerFault) (why other : PlanFault) → IsUngiven f why → IsUngiven f other → IsOfNoCall why → IsSameCause why other
ungiven_same (ledger.Payload name w) why other h k known = same_of (fault.Payload name w) (fault.Payload name w) why other h k (refl, refl)
ungiven_same (ledger.TooLarge count) why other h k known = same_of _ _ why other h k (refl, refl)
ungiven_same (ledger.Account f) why other h k known = unedited_same f why other h k
ungiven_same ledger.SourceFault why other h k known = absurd (known.0 h)
ungiven_same ledger.FolderFault why other h k known = absurd (known.1 h)

-- what is told of no call comes of none
told_of : (f : LedgerFault) (why : PlanFault) → IsUngiven f why → IsOfNoCall why → IsTold (Err f)
told_of (ledger.Payload name w) why h known = (λ e. cc, λ e. cc)
told_of (ledger.TooLarge count) why h known = (λ e. cc, λ e. cc)
told_of (ledger.Account f) why h known = (λ e. cc, λ e. cc)
told_of ledger.SourceFault why h known = absurd (known.0 h)
told_of ledger.FolderFault why h known = absurd (known.1 h)

err_one : (f g : LedgerFault) → (let x : Result Files LedgerFault = Err f in x) ≡ Err g → f ≡ g
err_one f g e = cc

ok_not : (x : Files) (f : LedgerFault) → (let y : Result Files LedgerFault = Ok x in y) ≡ Err f → ⊥
ok_not x f e = cc

-- ---- unknown owners

module _ (a b : State) (same : recorded a ≡ recorded b) (books : Accounts) where
  unknown_one : (path name place other : List ℕ) → HasUnknownOwner books a.settings a.installed.items path name → HasUnknownOwner books b.settings b.installed.items place other → (path ≡ place) × (name ≡ other)
  unknown_one path name place other h k =
      let admitted = admitted_same a b same h.admitted k.admitted h.are_admitted k.are_admitted in
      let both : (path, name) ≡ (place, other) = same_Some (path, name) (place, other) (sym h.unknown ∙ ap (first_unknown books) admitted ∙ k.unknown) in
      (ap (λ (x : List ℕ × List ℕ). x.0) both, ap (λ (x : List ℕ × List ℕ). x.1) both)

  unknown_or_known : (path name : List ℕ) (d : Delivered) → HasUnknownOwner books a.settings a.installed.items path name → PackagesDeliver books b.settings b.installed.items d → ⊥
  unknown_or_known path name d h k =
      let admitted = admitted_same a b same h.admitted k.admitted h.are_admitted k.are_admitted in
      absurd (none-some (path, name) (sym k.known ∙ sym (ap (first_unknown books) admitted) ∙ h.unknown))

-- ---- no steps

-- what a cause knows of its request
abbrev posed_of : (g : Given) (text : List ℕ) (old new : State) (b : Between) (files : AccountFiles) (accept : Bool) (f : BehindFault) → IsBetween old new b → AreMeant b → AreFiles g b files
    → (h : ComesBehind g.told g.image text b (map due_file files.due.items) (books_seen files.books) accept f) → IsPosed g old new b files h.due
posed_of g text old new b files accept f between meant are_files h = record { between = between; meant = meant; are_files = are_files; is_due = h.is_due; together = h.together; apart = h.apart }

module _ (one : AnswersAreOne) (fits : FilesFit) (g : Given) (told : g.told ≡ true) (tells : g.tells ≡ true) (stands : is_dir (g.image.look records_name) ≡ true) (text : List ℕ)
    (old other new next : State) (was_same : recorded old ≡ recorded other) (is_same : recorded new ≡ recorded next) (accept : Bool) where
  module _ (b c : Between) (hb : IsBetween old new b) (hc : IsBetween other next c) (mb : AreMeant b) (mc : AreMeant c) (x y : AccountFiles) (of_b : AreFiles g b x) (of_c : AreFiles g c y) where
    was : recorded b.old.now ≡ recorded c.old.now
    was = olds one g told tells old other new next was_same is_same b c hb hc mb mc

    is : recorded b.new.now ≡ recorded c.new.now
    is = news one g told tells old other new next was_same is_same b c hb hc mb mc

    accounts : books_seen x.books ≡ books_seen y.books
    accounts = ap (λ (f : Files). accounts_in f.books) (posed_files one g told tells old other new next was_same is_same b c hb hc mb mc x y of_b of_c)

    abbrev Here : BehindFault → Type 0
    Here f = ComesBehind g.told g.image text b (map due_file x.due.items) (books_seen x.books) accept f

    abbrev There : BehindFault → Type 0
    There f = ComesBehind g.told g.image text c (map due_file y.due.items) (books_seen y.books) accept f

    posed_here : (f : BehindFault) (h : Here f) → IsPosed g old new b x h.due
    posed_here f h = posed_of g text old new b x accept f hb mb of_b h

    posed_there : (f : BehindFault) (k : There f) → IsPosed g other next c y k.due
    posed_there f k = posed_of g text other next c y accept f hc mc of_c k

    posed_plan : (planned : Planned) (h : IsPlanned g.told g.image text b (map due_file x.due.items) (books_seen x.books) accept planned) → IsPosed g old new b x h.due
    posed_plan planned h = record { between = hb; meant = mb; are_files = of_b; is_due = h.is_due; together = h.together; apart = h.apart }

    -- an unknown owner is told of the same accounts
    unknown_moved : (path name : List ℕ) → HasUnknownOwner (books_seen x.books) b.new.now.settings b.new.now.installed.items path name → HasUnknownOwner (books_seen y.books) b.new.now.settings b.new.now.installed.items path name
    unknown_moved path name h = subst (λ (a : Accounts). HasUnknownOwner a b.new.now.settings b.new.now.installed.items path name) accounts h

    unknown_here : (path name : List ℕ) (f : BehindFault) → HasUnknownOwner (books_seen x.books) b.new.now.settings b.new.now.installed.items path name → There f → ⊥
    unknown_here path name f h k = unknown_or_known b.new.now c.new.now is (books_seen y.books) path name k.is_due.is (unknown_moved path name h) k.is_due.is_delivered

    unknown_there : (path name : List ℕ) (f : BehindFault) → Here f → HasUnknownOwner (books_seen y.books) c.new.now.settings c.new.now.installed.items path name → ⊥
    unknown_there path name f h k = unknown_or_known c.new.now b.new.now (sym is) (books_seen y.books) path name h.is_due.is k (subst (λ (a : Accounts). PackagesDeliver a b.new.now.settings b.new.now.installed.items h.is_due.is) accounts h.is_due.is_delivered)

    behind_one : (f e : BehindFault) → ComesOf g.told g.image text b (map due_file x.due.items) (books_seen x.books) accept f → ComesOf g.told g.image text c (map due_file y.due.items) (books_seen y.books) accept e
        → IsOfNoCall (unlaid f) → IsOfNoCall (unlaid e) → IsSameCause (unlaid f) (unlaid e)
    behind_one (behind.UnknownOwner u) (behind.UnknownOwner v) h k hf ke = unknown_one b.new.now c.new.now is (books_seen y.books) u.path.bytes u.name v.path.bytes v.name (unknown_moved u.path.bytes u.name h) k
    behind_one (behind.UnknownOwner u) (behind.LicenseNeeded l) h k hf ke = absurd (unknown_here u.path.bytes u.name (behind.LicenseNeeded l) h k)
    behind_one (behind.UnknownOwner u) (behind.Unmovable p) h k hf ke = absurd (unknown_here u.path.bytes u.name (behind.Unmovable p) h k)
    behind_one (behind.UnknownOwner u) (behind.TooLarge e) h k hf ke = absurd (unknown_here u.path.bytes u.name (behind.TooLarge e) h k)
    behind_one (behind.LicenseNeeded l) (behind.UnknownOwner v) h k hf ke = absurd (unknown_there v.path.bytes v.name (behind.LicenseNeeded l) h k)
    behind_one (behind.LicenseNeeded l) (behind.LicenseNeeded m) h k hf ke = needed_one b.old.now c.old.now b.new.now c.new.now was is accept l.items m.items h.comes k.comes
    behind_one (behind.LicenseNeeded l) (behind.Unmovable p) h k hf ke = absurd (needed_apart b.old.now c.old.now b.new.now c.new.now was is accept l.items k.comes.shown h.comes k.comes.displayed)
    behind_one (behind.LicenseNeeded l) (behind.TooLarge e) h k hf ke = absurd (needed_apart b.old.now c.old.now b.new.now c.new.now was is accept l.items k.comes.shown h.comes k.comes.displayed)
    behind_one (behind.Unmovable p) (behind.UnknownOwner v) h k hf ke = absurd (unknown_there v.path.bytes v.name (behind.Unmovable p) h k)
    behind_one (behind.Unmovable p) (behind.LicenseNeeded m) h k hf ke = absurd (needed_apart c.old.now b.old.now c.new.now b.new.now (sym was) (sym is) accept m.items h.comes.shown k.comes h.comes.displayed)
    behind_one (behind.Unmovable p) (behind.Unmovable q) h k hf ke =
        pair_hindered one fits g told tells stands text old other new next was_same is_same b c x y h.due k.due (posed_here (behind.Unmovable p) h) (posed_there (behind.Unmovable q) k) (h.comes.over told) p.bytes q.bytes (k.comes.over told) (h.comes.hindered told) (k.comes.hindered told)
    behind_one (behind.Unmovable p) (behind.TooLarge e) h k hf ke =
        absurd (hinders_apart one fits g told tells stands text old other new next was_same is_same b c x y h.due k.due (posed_here (behind.Unmovable p) h) (posed_there (behind.TooLarge e) k) (h.comes.over told) p.bytes k.comes.emitted (h.comes.hindered told) k.comes.steps)
    behind_one (behind.TooLarge e) (behind.UnknownOwner v) h k hf ke = absurd (unknown_there v.path.bytes v.name (behind.TooLarge e) h k)
    behind_one (behind.TooLarge e) (behind.LicenseNeeded m) h k hf ke = absurd (needed_apart c.old.now b.old.now c.new.now b.new.now (sym was) (sym is) accept m.items h.comes.shown k.comes h.comes.displayed)
    behind_one (behind.TooLarge e) (behind.Unmovable q) h k hf ke =
        absurd (steps_apart one fits g told tells stands text old other new next was_same is_same b c x y h.due k.due (posed_here (behind.TooLarge e) h) (posed_there (behind.Unmovable q) k) (h.comes.steps.over told) h.comes.emitted q.bytes (k.comes.over told) h.comes.steps (k.comes.hindered told))
    behind_one (behind.TooLarge e) (behind.TooLarge d) h k hf ke =
        let excess = pair_excess one fits g told tells stands text old other new next was_same is_same b c x y h.due k.due (posed_here (behind.TooLarge e) h) (posed_there (behind.TooLarge d) k) (h.comes.steps.over told) h.comes.emitted k.comes.emitted h.comes.steps k.comes.steps in
        let same : e ≡ d = same_Some e d (sym h.comes.beyond ∙ excess ∙ k.comes.beyond) in
        (ap (λ (z : Excess). z.which) same, ap (λ (z : Excess). z.count) same)
    behind_one behind.FolderFault e h k hf ke = absurd (hf.1 refl)
    behind_one f behind.FolderFault h k hf ke = absurd (ke.1 refl)

    -- where there is a plan no cause comes of what is due
    plan_or_behind : (planned : Planned) (e : BehindFault) → IsPlanned g.told g.image text b (map due_file x.due.items) (books_seen x.books) accept planned
        → ComesOf g.told g.image text c (map due_file y.due.items) (books_seen y.books) accept e → IsOfNoCall (unlaid e) → ⊥
    plan_or_behind planned (behind.UnknownOwner v) h k known = unknown_or_known c.new.now b.new.now (sym is) (books_seen y.books) v.path.bytes v.name h.is_due.is k (subst (λ (a : Accounts). PackagesDeliver a b.new.now.settings b.new.now.installed.items h.is_due.is) accounts h.is_due.is_delivered)
    plan_or_behind planned (behind.LicenseNeeded m) h k known = needed_apart c.old.now b.old.now c.new.now b.new.now (sym was) (sym is) accept m.items planned.licenses.items k.comes h.planned.displayed
    plan_or_behind planned (behind.Unmovable q) h k known =
        steps_apart one fits g told tells stands text old other new next was_same is_same b c x y h.due k.due (posed_plan planned h) (posed_there (behind.Unmovable q) k) (h.planned.steps.over told) planned.emitted q.bytes (k.comes.over told) h.planned.steps (k.comes.hindered told)
    plan_or_behind planned (behind.TooLarge d) h k known =
        let excess = pair_excess one fits g told tells stands text old other new next was_same is_same b c x y h.due k.due (posed_plan planned h) (posed_there (behind.TooLarge d) k) (h.planned.steps.over told) planned.emitted k.comes.emitted h.planned.steps k.comes.steps in
        none-some d (sym h.planned.within ∙ excess ∙ k.comes.beyond)
    plan_or_behind planned behind.FolderFault h k known = absurd (known.1 refl)

  -- ---- a request between two states

  meant_of : (b : Between) (why : PlanFault) → ComesBetween g text b accept why → AreMeant b
  meant_of b why (NoFiles f meant are ungiven) = meant
  meant_of b why (NoSteps files meant are none) = meant

  abbrev Answers : Between → Result Files LedgerFault → Type 0
  Answers b answer = (bytes : List ℕ → List ℕ) → IsLedger g b.old.now b.new.now b.was.now b.is.now bytes answer

  ledgers : (b c : Between) → IsBetween old new b → IsBetween other next c → AreMeant b → AreMeant c → (x y : Result Files LedgerFault) → Answers b x → Answers c y → IsTold x → IsTold y → x ≡ y
  ledgers b c hb hc mb mc x y h k tx ty = posed_answers one g told tells old other new next was_same is_same b c hb hc mb mc x y h k tx ty

  -- the causes are told of their faults, as far as no call failed
  no_call : (f why : PlanFault) → why ≡ f → IsOfNoCall why → IsOfNoCall f
  no_call f why is known = subst IsOfNoCall is known

  between_one : (b c : Between) (why more : PlanFault) → IsBetween old new b → IsBetween other next c → ComesBetween g text b accept why → ComesBetween g text c accept more → IsOfNoCall why → IsOfNoCall more → IsSameCause why more
  between_one b c why more hb hc (NoFiles f mb lb ub) (NoFiles e mc lc uc) hw hm =
      let same : f ≡ e = err_one f e (ledgers b c hb hc mb mc (Err f) (Err e) lb lc (told_of f why ub hw) (told_of e more uc hm)) in
      ungiven_same e why more (subst (λ (z : LedgerFault). IsUngiven z why) same ub) uc hw
  between_one b c why more hb hc (NoFiles f mb lb ub) (NoSteps y mc fc nc) hw hm =
      absurd (ok_not (files_seen y) f (sym (ledgers b c hb hc mb mc (Err f) (Ok (files_seen y)) lb fc (told_of f why ub hw) (ok_told (files_seen y)))))
  between_one b c why more hb hc (NoSteps x mb fb nb) (NoFiles e mc lc uc) hw hm =
      absurd (ok_not (files_seen x) e (ledgers b c hb hc mb mc (Ok (files_seen x)) (Err e) fb lc (ok_told (files_seen x)) (told_of e more uc hm)))
  between_one b c why more hb hc (NoSteps x mb fb nb) (NoSteps y mc fc nc) hw hm =
      same_of (unlaid nb.fault) (unlaid nc.fault) why more nb.is nc.is (behind_one b c hb hc mb mc x y fb fc nb.fault nc.fault nb.comes nc.comes (no_call (unlaid nb.fault) why nb.is hw) (no_call (unlaid nc.fault) more nc.is hm))

  comes_one : (why more : PlanFault) → ComesOfPlan g text old new accept why → ComesOfPlan g text other next accept more → IsOfNoCall why → IsOfNoCall more → IsSameCause why more
  comes_one why more (OldFail f hf e) (OldFail i kf d) hw hm = same_of (unmeant f) (unmeant i) why more e d (unmeant_same f i (fault_one old other was_same f i hf kf))
  comes_one why more (OldFail f hf e) (NewFail i w mw kf d) hw hm = absurd (fails_or_means old other was_same f w hf mw)
  comes_one why more (OldFail f hf e) (NonePlanned c hc k) hw hm = absurd (fails_or_means old c.old.now (was_same ∙ sym (ap recorded hc.old_is)) f c.was.now hf (meant_of c more k).old)
  comes_one why more (NewFail f w mw hf e) (OldFail i kf d) hw hm = absurd (fails_or_means other old (sym was_same) i w kf mw)
  comes_one why more (NewFail f w mw hf e) (NewFail i v mv kf d) hw hm = same_of (unmeant f) (unmeant i) why more e d (unmeant_same f i (fault_one new next is_same f i hf kf))
  comes_one why more (NewFail f w mw hf e) (NonePlanned c hc k) hw hm = absurd (fails_or_means new c.new.now (is_same ∙ sym (ap recorded hc.new_is)) f c.is.now hf (meant_of c more k).new)
  comes_one why more (NonePlanned b hb h) (OldFail i kf d) hw hm = absurd (fails_or_means other b.old.now (sym was_same ∙ sym (ap recorded hb.old_is)) i b.was.now kf (meant_of b why h).old)
  comes_one why more (NonePlanned b hb h) (NewFail i v mv kf d) hw hm = absurd (fails_or_means next b.new.now (sym is_same ∙ sym (ap recorded hb.new_is)) i b.is.now kf (meant_of b why h).new)
  comes_one why more (NonePlanned b hb h) (NonePlanned c hc k) hw hm = between_one b c why more hb hc h k hw hm

  plan_or_between : (c : Between) (p : Plan) (why : PlanFault) → IsBetween other next c → IsRequestPlan g text old new accept p → ComesBetween g text c accept why → IsOfNoCall why → ⊥
  plan_or_between c p why hc h (NoFiles e mc lc uc) known =
      ok_not (files_seen h.is_plan.files) e (ledgers h.between c h.is_between hc h.is_plan.meant mc (Ok (files_seen h.is_plan.files)) (Err e) h.is_plan.are_files lc (ok_told (files_seen h.is_plan.files)) (told_of e why uc known))
  plan_or_between c p why hc h (NoSteps y mc fc nc) known =
      plan_or_behind h.between c h.is_between hc h.is_plan.meant mc h.is_plan.files y h.is_plan.are_files fc p.planned nc.fault h.is_plan.is_plan.planned nc.comes (no_call (unlaid nc.fault) why nc.is known)

  plan_or_comes : (p : Plan) (why : PlanFault) → IsRequestPlan g text old new accept p → ComesOfPlan g text other next accept why → IsOfNoCall why → ⊥
  plan_or_comes p why h (OldFail f kf e) known = fails_or_means other h.between.old.now (sym was_same ∙ sym (ap recorded h.is_between.old_is)) f h.between.was.now kf h.is_plan.meant.old
  plan_or_comes p why h (NewFail f w mw kf e) known = fails_or_means next h.between.new.now (sym is_same ∙ sym (ap recorded h.is_between.new_is)) f h.between.is.now kf h.is_plan.meant.new
  plan_or_comes p why h (NonePlanned c hc k) known = plan_or_between c p why hc h k known

-- ---- at a moment

-- a cause is one of a failed call, or of none
called_or_not : (why : PlanFault) → ((why ≡ fault.SourceFault) ⊎ (why ≡ fault.FolderFault)) ⊎ IsOfNoCall why
called_or_not fault.SourceFault = inl (inl refl)
called_or_not fault.FolderFault = inl (inr refl)
called_or_not (fault.Reserved path) = inr (λ e. cc, λ e. cc)
called_or_not (fault.Clash clash) = inr (λ e. cc, λ e. cc)
called_or_not (fault.BadAccountLine book line) = inr (λ e. cc, λ e. cc)
called_or_not (fault.IdTaken id) = inr (λ e. cc, λ e. cc)
called_or_not (fault.UnknownOwner path name) = inr (λ e. cc, λ e. cc)
called_or_not (fault.LicenseNeeded list) = inr (λ e. cc, λ e. cc)
called_or_not (fault.Unmovable path) = inr (λ e. cc, λ e. cc)
called_or_not (fault.Payload name w) = inr (λ e. cc, λ e. cc)
called_or_not (fault.TooLarge which count) = inr (λ e. cc, λ e. cc)

module _ (one : AnswersAreOne) (fits : FilesFit) (g : Given) (told : g.told ≡ true) (tells : g.tells ≡ true) (stands : is_dir (g.image.look records_name) ≡ true) (moment : ℕ)
    (old other new next : State) (was_same : recorded old ≡ recorded other) (is_same : recorded new ≡ recorded next) (accept : Bool) where
  -- the cause is one
  pub unplanned_one : (why more : PlanFault) → ComesAt g moment old new accept why → ComesAt g moment other next accept more → IsOfNoCall why → IsOfNoCall more → IsSameCause why more
  unplanned_one why more h k =
      comes_one one fits g told tells stands k.0 old other new next was_same is_same accept why more (subst (λ (text : List ℕ). ComesOfPlan g text old new accept why) (moment_one moment h.0 k.0 h.1 k.1) h.2) k.2

  -- and excludes a plan
  pub planned_or_not : (p : Plan) (why : PlanFault) → IsPlanAt g moment old new accept p → ComesAt g moment other next accept why → (why ≡ fault.SourceFault) ⊎ (why ≡ fault.FolderFault)
  planned_or_not p why h k = elim (called_or_not why) [
    | inl called ↦ called
    | inr known ↦ absurd (plan_or_comes one fits g told tells stands k.0 old other new next was_same is_same accept p why (subst (λ (text : List ℕ). IsRequestPlan g text old new accept p) (moment_one moment h.0 k.0 h.1 k.1) h.2) k.2 known)
  ]
