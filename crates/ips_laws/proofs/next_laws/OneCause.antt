-- Why a command leads to no new state is one.
use Rattle.std.proofs.Common.{◌≡◌, ◌⊎◌, ℕ, Bool, true, List, Option, Some, None, Result, Ok, Err, refl, sym, ap, subst, ◌∙◌, inl, inr, arith}
use Rattle.ips_outside.specs.Image.{Image}
use Rattle.ips_catalog.specs.Listed.{Listed}
use Rattle.ips_repo.specs.Opening.{Opened}
use Rattle.ips_repo.specs.declared.fault.RepoFault.{RepoFault}
use Rattle.ips_repo.specs.declared.fault.RepoFault.TheVariants as repo
use Rattle.ips_state.specs.State.{Installed, Recorded}
use Rattle.ips_request.specs.declared.request.Request.{Request}
use Rattle.ips_request.specs.declared.fault.ProblemFault.{ProblemFault}
use Rattle.ips_request.specs.declared.fault.ProblemFault.TheVariants as problem
use Rattle.ips_problem.specs.Asked.{IsAsked, IsProblemFault}
use Rattle.ips_problem.specs.Posed.{Posed}
use Rattle.ips_words.specs.declared.what.What.{What}
use Rattle.ips_words.specs.declared.what.What.TheVariants.{Avoid, Unavoid, UpdateFormat}
use Rattle.ips_asked.specs.Asked.{IsAskedBy}
use Rattle.ips_asked.specs.Requested.{IsRequestOf, kind_asked}
use Rattle.ips_asked.proofs.One.{asked_one}
use Rattle.ips_next.specs.Decided.{DoesNotOpen, IsDecided, IsLookedAt, IsPosed, IsUnchosen, IsUnposed, chosen_over, limit_asked, looks, unposed}
use Rattle.ips_next.specs.Next.{Asks, ComesNext, Given, IsNext, IsOldFormat}
use Rattle.ips_next.specs.Tried.{tried_rows}
use Rattle.ips_next.specs.declared.fault.NextFault.{NextFault}
use Rattle.ips_next.specs.declared.fault.NextFault.TheVariants.{OldFormat, NoRepository, BadCatalog, NoMatch, Ambiguous, ManifestMissing, BadManifest, BadDepend, TooLarge, NoSolution, SearchSpent, NothingToDo, SourceFault}
use Rattle.ips_next.proofs.OneDecided.{decided_or_none, one_repository}
use Rattle.ips_next.proofs.OneNext.{next_changes}
use Rattle.ips_laws.specs.next_laws.Causes.{IsBesideSpent, IsSameCause}
use Rattle.ips_laws.proofs.next_laws.Fetched.{IsTold}
use Rattle.ips_laws.proofs.next_laws.Problems.{asked_moved, asked_once, fault_moved, fault_over, problem_once, problem_or_asked}
use Rattle.ips_laws.proofs.next_laws.Same.{same_cause}

-- ---- the format

format_or_asks : (g : Given) (asked : Recorded) → IsOldFormat g.what g.old.format → Asks g asked → ⊥
format_or_asks g asked old asks = go asks.format
  where
    go : (g.old.format ≡ 2) ⊎ (g.what ≡ UpdateFormat) → ⊥
    go (inl second) = let first = old.first in omega arith
    go (inr moves) = old.stays moves

-- ---- the repository

abbrev opened : List Listed → Result (List Listed) RepoFault
opened catalog = Ok catalog

abbrev closed : RepoFault → Result (List Listed) RepoFault
closed why = Err why

opened_or_closed : (catalog : List Listed) (why : RepoFault) → opened catalog ≡ closed why → ⊥
opened_or_closed catalog why e = cc

opened_once : (a b : List Listed) → opened a ≡ opened b → a ≡ b
opened_once a b e = cc

closed_once : (a b : RepoFault) → closed a ≡ closed b → a ≡ b
closed_once a b e = cc

looked_or_closed : (w : What) (publisher : List ℕ) (held : Image) (why : RepoFault) (x : Option Opened) → DoesNotOpen w publisher held why → IsLookedAt (looks (kind_asked w)) publisher held x → ⊥
looked_or_closed w publisher held why x d h = go x (subst (λ (b : Bool). IsLookedAt b publisher held x) d.looking h)
  where
    go : (x : Option Opened) → IsLookedAt true publisher held x → ⊥
    go None h = h
    go (Some repository) h = opened_or_closed repository.catalog why (sym h.1 ∙ d.fault)

-- ---- the puzzle

-- what is asked for is that over which packages are chosen, but for avoided stems
asked_over : (w : What) (old asked : Recorded) → IsAskedBy w old asked → asked ≡ record (chosen_over w old asked) { avoid = asked.avoid }
asked_over (Avoid stems) old asked a = λ i. record {
  format = a.format i;
  publisher = a.publisher i;
  origins = a.origins i;
  actuator = a.actuator i;
  settings = a.settings i;
  installed = a.installed i;
  avoid = asked.avoid;
  freeze = a.freeze i;
  mediators = a.mediators i;
  history = a.history i;
  index = a.index i;
}
asked_over (Unavoid stems) old asked a = λ i. record {
  format = a.format i;
  publisher = a.publisher i;
  origins = a.origins i;
  actuator = a.actuator i;
  settings = a.settings i;
  installed = a.installed i;
  avoid = asked.avoid;
  freeze = a.freeze i;
  mediators = a.mediators i;
  history = a.history i;
  index = a.index i;
}
asked_over w old asked a = refl

module _ (w : What) (old asked : Recorded) (held : Image) where
  fault_chosen : (q : Request) (repository : Option Opened) (s : Recorded) (why : ProblemFault) → IsAskedBy w old asked → (s ≡ chosen_over w old asked) ⊎ (s ≡ asked) → IsProblemFault q s repository held why
      → IsProblemFault q (chosen_over w old asked) repository held why
  fault_chosen q repository s why a (inl e) h = subst (λ (s : Recorded). IsProblemFault q s repository held why) e h
  fault_chosen q repository s why a (inr e) h =
      fault_over q (chosen_over w old asked) asked.avoid repository held why (subst (λ (s : Recorded). IsProblemFault q s repository held why) (e ∙ asked_over w old asked a) h)

  -- requests of one command ask for the same
  fault_of : (q p : Request) (x y : Option Opened) (s : Recorded) (why : ProblemFault) → IsRequestOf w q → IsRequestOf w p → x ≡ y → IsProblemFault q s x held why → IsProblemFault p s y held why
  fault_of q p x y s why h g e f =
      subst (λ (o : Option Opened). IsProblemFault p s o held why) e (fault_moved q p (h.kind_is ∙ sym g.kind_is) (h.patterns ∙ sym g.patterns) (h.rejects ∙ sym g.rejects) s x held why f)

  unposed_once : (why other : ProblemFault) → IsAskedBy w old asked → IsTold why → IsTold other → IsUnposed w old asked held why → IsUnposed w old asked held other → IsSameCause (unposed why) (unposed other)
  unposed_once why other a t u x y =
      let same = one_repository (looks (kind_asked w)) old.publisher held x.repository y.repository x.looked_at y.looked_at in
      let here = fault_chosen x.request x.repository x.over why a x.is_over x.fault in
      let there = fault_chosen y.request y.repository y.over other a y.is_over y.fault in
      problem_once y.request (chosen_over w old asked) y.repository held why other t u (fault_of x.request y.request x.repository y.repository (chosen_over w old asked) why x.is_request y.is_request same here) there

  unposed_or_posed : (why : ProblemFault) (q : Request) (repository : Option Opened) (p : Posed) → IsAskedBy w old asked → IsTold why → IsUnposed w old asked held why → IsPosed w old asked held q repository p → ⊥
  unposed_or_posed why q repository p a t x y =
      let same = one_repository (looks (kind_asked w)) old.publisher held x.repository repository x.looked_at y.looked_at in
      let here = fault_chosen x.request x.repository x.over why a x.is_over x.fault in
      problem_or_asked q (chosen_over w old asked) repository held why p t (fault_of x.request q x.repository repository (chosen_over w old asked) why x.is_request y.is_request same here) y.posed

  posed_once : (q p : Request) (x y : Option Opened) (a b : Posed) → IsPosed w old asked held q x a → IsPosed w old asked held p y b → a ≡ b
  posed_once q p x y a b h g =
      let same = one_repository (looks (kind_asked w)) old.publisher held x y h.looked_at g.looked_at in
      let kinds = h.is_request.kind_is ∙ sym g.is_request.kind_is in
      let patterns = h.is_request.patterns ∙ sym g.is_request.patterns in
      let rejects = h.is_request.rejects ∙ sym g.is_request.rejects in
      let here = subst (λ (o : Option Opened). IsAsked p (chosen_over w old asked) o held a) same (asked_moved q p kinds patterns rejects (chosen_over w old asked) x held a h.posed) in
      asked_once p (chosen_over w old asked) y held a b here g.posed

-- ---- stages

-- the fault of a repository that doesn't open
abbrev unopened : RepoFault → NextFault
unopened repo.NoRepository = NoRepository
unopened (repo.BadCatalog fault) = BadCatalog fault
unopened (repo.TooLarge which count) = TooLarge which count
unopened f = SourceFault

-- it comes of a repository that doesn't open
abbrev Unopened : Given → NextFault → Type 0
Unopened g a = (f : RepoFault) × DoesNotOpen g.what g.old.publisher g.held f × (a ≡ unopened f)

-- it comes of a command that poses no puzzle
abbrev Unposed : Given → Recorded → NextFault → Type 0
Unposed g asked a = (f : ProblemFault) × IsTold f × IsUnposed g.what g.old asked g.held f × (a ≡ unposed f)

-- packages are decided on
abbrev Decides : Given → Recorded → Type 0
Decides g asked = (packages : List Installed) × (avoid : List (List ℕ)) × IsDecided g.what g.old asked g.held packages avoid

-- it comes of a puzzle
abbrev Searched : Given → Recorded → NextFault → Type 0
Searched g asked (NoSolution stems refutation) = IsUnchosen g.what g.old asked g.held (NoSolution stems refutation)
Searched g asked (SearchSpent limit) = IsUnchosen g.what g.old asked g.held (SearchSpent limit)
Searched g asked NothingToDo = Decides g asked
Searched g asked a = ⊥

-- stage by stage
abbrev Stage : Given → Recorded → NextFault → Type 0
Stage g asked a = Unopened g a ⊎ (Unposed g asked a ⊎ Searched g asked a)

abbrev Comes : Given → NextFault → Type 0
Comes g a = (IsOldFormat g.what g.old.format × (a ≡ OldFormat)) ⊎ ((asked : Recorded) × Asks g asked × Stage g asked a)

stage : (g : Given) (a : NextFault) → (a ≡ SourceFault → ⊥) → ComesNext g a → Comes g a
stage g OldFormat told h = inl (h, refl)
stage g NoRepository told h = inr (h.asked, h.asks, inl (repo.NoRepository, h.undecided, refl))
stage g (BadCatalog fault) told h = inr (h.asked, h.asks, inl (repo.BadCatalog fault, h.undecided, refl))
stage g (NoMatch pattern) told h = inr (h.asked, h.asks, inr (inl (problem.NoMatch pattern, tt, h.undecided, refl)))
stage g (Ambiguous pattern stems) told h = inr (h.asked, h.asks, inr (inl (problem.Ambiguous pattern stems, tt, h.undecided, refl)))
stage g (ManifestMissing fmri) told h = inr (h.asked, h.asks, inr (inl (problem.ManifestMissing fmri, tt, h.undecided, refl)))
stage g (BadManifest fmri fault) told h = inr (h.asked, h.asks, inr (inl (problem.BadManifest fmri fault, tt, h.undecided, refl)))
stage g (BadDepend fmri line) told h = inr (h.asked, h.asks, inr (inl (problem.BadDepend fmri line, tt, h.undecided, refl)))
stage g (TooLarge which count) told h = inr (h.asked, h.asks, go h.undecided)
  where
    go : DoesNotOpen g.what g.old.publisher g.held (repo.TooLarge which count) ⊎ IsUnposed g.what g.old h.asked g.held (problem.TooLarge which count) → Stage g h.asked (TooLarge which count)
    go (inl d) = inl (repo.TooLarge which count, d, refl)
    go (inr u) = inr (inl (problem.TooLarge which count, tt, u, refl))
stage g (NoSolution stems refutation) told h = inr (h.asked, h.asks, inr (inr h.undecided))
stage g (SearchSpent limit) told h = inr (h.asked, h.asks, inr (inr h.undecided))
stage g NothingToDo told h = inr (h.asked, h.is_settled.asks, inr (inr (h.settled.installed, h.settled.avoid, h.is_settled.decided)))
stage g SourceFault told h = absurd (told refl)

-- the puzzle of which it comes
abbrev Posing : Given → Recorded → Type 0
Posing g asked = (q : Request) × (repository : Option Opened) × (p : Posed) × IsPosed g.what g.old asked g.held q repository p

posing : (g : Given) (asked : Recorded) (a : NextFault) → Searched g asked a → Posing g asked
posing g asked (NoSolution stems refutation) h = (h.request, h.repository, h.puzzle, h.is_posed)
posing g asked (SearchSpent limit) h = (h.request, h.repository, h.puzzle, h.is_posed)
posing g asked NothingToDo (packages, avoid, h) = (h.request, h.repository, h.puzzle, h.is_posed)
posing g asked a h = absurd h

-- the repository that is looked at behind the opening
looking : (g : Given) (asked : Recorded) (a : NextFault) → Unposed g asked a ⊎ Searched g asked a → (x : Option Opened) × IsLookedAt (looks (kind_asked g.what)) g.old.publisher g.held x
looking g asked a (inl (f, told, h, is)) = (h.repository, h.looked_at)
looking g asked a (inr h) = let (q, x, p, is) = posing g asked a h in (x, is.looked_at)

-- ---- two causes

-- of a puzzle that was posed
searched_once : (g : Given) (asked : Recorded) (a b : NextFault) → Searched g asked a → Searched g asked b → IsSameCause a b ⊎ IsBesideSpent a b
searched_once g asked (NoSolution stems refutation) (NoSolution stems' refutation') x y =
    let same = posed_once g.what g.old asked g.held x.request y.request x.repository y.repository x.puzzle y.puzzle x.is_posed y.is_posed in
    inl (x.unsolved.tried ∙ ap (λ (p : Posed). tried_rows p.stems p.rows) same ∙ sym y.unsolved.tried)
searched_once g asked (NoSolution stems refutation) (SearchSpent limit) x y = inr tt
searched_once g asked (NoSolution stems refutation) NothingToDo x (packages, avoid, y) =
    absurd (decided_or_none g.what g.old asked g.held packages avoid x.request x.repository x.puzzle stems.items refutation y x.is_posed x.unsolved)
searched_once g asked (NoSolution stems refutation) b x y = absurd y
searched_once g asked (SearchSpent limit) (NoSolution stems refutation) x y = inr tt
searched_once g asked (SearchSpent limit) (SearchSpent limit') x y = inl (x.unsolved.0 ∙ sym y.unsolved.0)
searched_once g asked (SearchSpent limit) NothingToDo x y = inr tt
searched_once g asked (SearchSpent limit) b x y = absurd y
searched_once g asked NothingToDo (NoSolution stems refutation) (packages, avoid, x) y =
    absurd (decided_or_none g.what g.old asked g.held packages avoid y.request y.repository y.puzzle stems.items refutation x y.is_posed y.unsolved)
searched_once g asked NothingToDo (SearchSpent limit) x y = inr tt
searched_once g asked NothingToDo NothingToDo x y = inl tt
searched_once g asked NothingToDo b x y = absurd y
searched_once g asked a b x y = absurd x

-- a cause that comes of no puzzle, where one is posed
posing_or_unposed : (g : Given) (asked : Recorded) (a : NextFault) → Asks g asked → Unposed g asked a → Posing g asked → ⊥
posing_or_unposed g asked a asks (f, told, h, is) (q, x, p, posed) = unposed_or_posed g.what g.old asked g.held f q x p asks.is_asked told h posed

stage_once : (g : Given) (asked : Recorded) (a b : NextFault) → Asks g asked → Stage g asked a → Stage g asked b → IsSameCause a b ⊎ IsBesideSpent a b
stage_once g asked a b asks (inl (f, d, is)) (inl (f', d', is')) = inl (same_cause a b (is ∙ ap unopened (closed_once f f' (sym d.fault ∙ d'.fault)) ∙ sym is'))
stage_once g asked a b asks (inl (f, d, is)) (inr y) = let (x, h) = looking g asked b y in absurd (looked_or_closed g.what g.old.publisher g.held f x d h)
stage_once g asked a b asks (inr x) (inl (f, d, is)) = let (y, h) = looking g asked a x in absurd (looked_or_closed g.what g.old.publisher g.held f y d h)
stage_once g asked a b asks (inr (inl (f, t, h, is))) (inr (inl (f', t', h', is'))) =
    inl (subst (λ (c : NextFault). IsSameCause c b) (sym is) (subst (IsSameCause (unposed f)) (sym is') (unposed_once g.what g.old asked g.held f f' asks.is_asked t t' h h')))
stage_once g asked a b asks (inr (inl x)) (inr (inr y)) = absurd (posing_or_unposed g asked a asks x (posing g asked b y))
stage_once g asked a b asks (inr (inr x)) (inr (inl y)) = absurd (posing_or_unposed g asked b asks y (posing g asked a x))
stage_once g asked a b asks (inr (inr x)) (inr (inr y)) = searched_once g asked a b x y

comes_once : (g : Given) (a b : NextFault) → Comes g a → Comes g b → IsSameCause a b ⊎ IsBesideSpent a b
comes_once g a b (inl x) (inl y) = inl (same_cause a b (x.1 ∙ sym y.1))
comes_once g a b (inl x) (inr (asked, asks, y)) = absurd (format_or_asks g asked x.0 asks)
comes_once g a b (inr (asked, asks, x)) (inl y) = absurd (format_or_asks g asked y.0 asks)
comes_once g a b (inr (asked, asks, x)) (inr (asked', asks', y)) =
    let same = asked_one g.what g.old asked asked' asks.is_asked asks'.is_asked in
    stage_once g asked' a b asks' (subst (λ (s : Recorded). Stage g s a) same x) y

pub cause_once : (g : Given) (a b : NextFault) → (a ≡ SourceFault → ⊥) → (b ≡ SourceFault → ⊥) → ComesNext g a → ComesNext g b → IsSameCause a b ⊎ IsBesideSpent a b
cause_once g a b t u x y = comes_once g a b (stage g a t x) (stage g b u y)

-- ---- a next state

-- beside a next state only what comes of a puzzle
beside : (g : Given) (new : Recorded) (why : NextFault) → IsNext g new → Comes g why → (asked : Recorded) × Searched g asked why
beside g new why x (inl old) = absurd (format_or_asks g x.asked old.0 x.is_settled.asks)
beside g new why x (inr (asked, asks, inl (f, d, is))) = let h = x.is_settled.decided in absurd (looked_or_closed g.what g.old.publisher g.held f h.repository d h.is_posed.looked_at)
beside g new why x (inr (asked, asks, inr (inl u))) =
    let same = asked_one g.what g.old asked x.asked asks.is_asked x.is_settled.asks.is_asked in
    let h = x.is_settled.decided in
    absurd (posing_or_unposed g x.asked why x.is_settled.asks (subst (λ (s : Recorded). Unposed g s why) same u) (h.request, h.repository, h.puzzle, h.is_posed))
beside g new why x (inr (asked, asks, inr (inr s))) = (asked, s)

pub next_or_cause : (g : Given) (new : Recorded) (why : NextFault) → IsNext g new → ComesNext g why → (why ≡ SearchSpent (limit_asked g.what)) ⊎ (why ≡ SourceFault)
next_or_cause g new (NoSolution stems refutation) x h =
    let same = asked_one g.what g.old h.asked x.asked h.asks.is_asked x.is_settled.asks.is_asked in
    let u = subst (λ (s : Recorded). IsUnchosen g.what g.old s g.held (NoSolution stems refutation)) same h.undecided in
    absurd (decided_or_none g.what g.old x.asked g.held x.settled.installed x.settled.avoid u.request u.repository u.puzzle stems.items refutation x.is_settled.decided u.is_posed u.unsolved)
next_or_cause g new (SearchSpent limit) x h = inl (ap (λ (n : ℕ). SearchSpent n) h.undecided.unsolved.0)
next_or_cause g new NothingToDo x h = absurd (next_changes g new x h)
next_or_cause g new SourceFault x h = inr refl
next_or_cause g new why x h = absurd (beside g new why x (stage g why (λ (e : why ≡ SourceFault). absurd cc) h)).1
