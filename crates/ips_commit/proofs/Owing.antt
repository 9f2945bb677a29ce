-- What the folder owes in each phase of a commit.
use Rattle.std.proofs.Common.{◌≡◌, ℕ, ◌*◌, Bool, true, false, ◌||◌, List, [], length, take, Option, Some, None, unwrap_or, refl, ◌∙◌, ap, subst, ◌⊎◌, inl, inr}
use Rattle.std.specs.List.{list_any}
use Rattle.std.proofs.lemmas.Bool.{or_parts, or_from}
use Rattle.ips_text.specs.Ancestry.{covers}
use Rattle.ips_text.proofs.Ancestry.{covers-self}
use Rattle.ips_outside.specs.Image.{Image, IsImage, Agrees}
use Rattle.ips_outside.specs.Change.{with_entry_at}
use Rattle.ips_outside.specs.State.{ChangedWithin, IsSettled, nowhere, State, MayLeave}
use Rattle.ips_outside.specs.Outside.{Outside, IsOutside}
use Rattle.ips_outside.proofs.Images.{HasNodes}
use Rattle.ips_outside.proofs.Moments.{agrees_less, within_crash}
use Rattle.ips_folder.specs.Calls.{ChangesOnly, Throughout}
use Rattle.ips_folder.proofs.Runs.{joins, weaker, keeps_wider}
use Rattle.ips_steps.specs.Steps.{Step, stage_name, freed, sets}
use Rattle.ips_steps.specs.Private.{gate_name, journal_name, mark_front, mark_name, begins, is_private, visible}
use Rattle.ips_steps.specs.Owed.{AreMarks, steps_left, IsReady, IsOpen, Owes, Old, Open, New, FolderOwes}
use Rattle.ips_steps.proofs.AtTurn.{front_frees, front_sets}
use Rattle.ips_steps.proofs.Lists.{clash}
use Rattle.ips_steps.proofs.PrivateNames.{gate_private, visible_agrees}
use Rattle.ips_steps.proofs.Owing.{open_laying, gate_ready, owes_laying, owes_opening, owes_closing, owes_sweeping, closed_seen}
use Rattle.ips_journal.specs.Text.{journal_text}
use Rattle.ips_journal.specs.Reading.{journal_of}
use Rattle.ips_commit.specs.Pending.{IsBare, IsSwept, HasNoOtherMark, is_swept}
use Rattle.ips_commit.specs.Phases.{Opens}
use Rattle.ips_contents.proofs.Written.{own_modes}
use Rattle.ips_commit.proofs.OwnNames.{swept_private, gate_unswept, unmarked_gate}
use Rattle.ips_commit.proofs.Marked.{mark_own, same_marks}
use Rattle.ips_commit.proofs.Leftovers.{bare_of}
use Rattle.ips_commit.proofs.Swept.{removed_gone, removed_none}
use Rattle.ips_commit.proofs.Lays.{HasBegun, next_of}

pub nodes_of : (t : Image) → IsImage t → HasNodes t
nodes_of t formed = record { self = formed.self }

-- the journal that is ready is the text of its list
pub ready_text : (steps : List Step) (marks : ℕ) (a t : Image) → IsReady journal_text steps marks a t → journal_of t ≡ journal_text steps
ready_text steps marks a t r = ap (λ (e : Option (List ℕ)). unwrap_or e []) r.journal

unswept_of : (q : List ℕ) → is_private q ≡ false → (s : Bool) → is_swept q ≡ s → is_swept q ≡ false
unswept_of q seen true is = clash (is_private q) (swept_private q is) seen
unswept_of q seen false is = is

pub unswept : (q : List ℕ) → is_private q ≡ false → is_swept q ≡ false
unswept q seen = unswept_of q seen (is_swept q) refl

ungated : (q : List ℕ) → is_private q ≡ false → (c : Bool) → covers gate_name q ≡ c → covers gate_name q ≡ false
ungated q seen true is = clash (is_private q) (gate_private q is) seen
ungated q seen false is = is

-- what is swept isn't seen
pub swept_seen : (t u : Image) → Agrees is_swept nowhere t u → visible u ≡ visible t
swept_seen t u h = visible_agrees t u (agrees_less is_swept nowhere is_private nowhere t u (λ q seen. unswept_of q seen (is_swept q) refl) (λ q l. refl) h)

-- what was swept behind the gate that was closed
pub done_of : (marks : List (List ℕ)) (t u v : Image) → IsImage v → u ≡ with_entry_at gate_name None t → HasNoOtherMark t marks → IsSwept marks u v → Agrees is_swept nowhere u v → (visible v ≡ visible t) × IsBare v
done_of marks t u v formed closed others swept agrees = (
  swept_seen u v agrees ∙ ap visible closed ∙ closed_seen t,
  bare_of v formed (swept.nothing_new gate_name (ap (λ (w : Image). w.look gate_name) closed ∙ removed_gone gate_name gate_name t (covers-self gate_name))) gone,
)
  where
    gone : (q : List ℕ) → is_swept q ≡ true → v.look q ≡ None
    gone q is = at (covers stage_name q) refl (covers journal_name q) refl (list_any (λ m. covers m q) marks) refl is
      where
        at : (s : Bool) → covers stage_name q ≡ s → (j : Bool) → covers journal_name q ≡ j → (m : Bool) → list_any (λ m. covers m q) marks ≡ m → (s || (j || begins mark_front q)) ≡ true → v.look q ≡ None
        at true is_s j is_j m is_m all = swept.stage q is_s
        at false is_s true is_j m is_m all = swept.journal q is_j
        at false is_s false is_j true is_m all = swept.marks q is_m
        at false is_s false is_j false is_m all = swept.nothing_new q (ap (λ (w : Image). w.look q) closed ∙ removed_none gate_name q t (others q all is_m))

-- what was swept is gone
pub swept_gone : (marks : List (List ℕ)) (t v : Image) → HasNoOtherMark t marks → IsSwept marks t v → (q : List ℕ) → is_swept q ≡ true → v.look q ≡ None
swept_gone marks t v others swept q is = at (covers stage_name q) refl (covers journal_name q) refl (list_any (λ m. covers m q) marks) refl is
  where
    at : (s : Bool) → covers stage_name q ≡ s → (j : Bool) → covers journal_name q ≡ j → (m : Bool) → list_any (λ m. covers m q) marks ≡ m → (s || (j || begins mark_front q)) ≡ true → v.look q ≡ None
    at true is_s j is_j m is_m all = swept.stage q is_s
    at false is_s true is_j m is_m all = swept.journal q is_j
    at false is_s false is_j true is_m all = swept.marks q is_m
    at false is_s false is_j false is_m all = swept.nothing_new q (others q all is_m)

-- the same behind a gate that was closed already
pub cleared_of : (marks : List (List ℕ)) (t v : Image) → IsImage v → t.look gate_name ≡ None → HasNoOtherMark t marks → IsSwept marks t v → Agrees is_swept nowhere t v → (visible v ≡ visible t) × IsBare v
cleared_of marks t v formed shut others swept agrees = (swept_seen t v agrees, bare_of v formed (swept.nothing_new gate_name shut) (swept_gone marks t v others swept))

-- the due image is owed, so it is owed as one that may be
pub owes_less : (b : Image) (a : Image) (t : Image) → Owes journal_text b (Some a) true t → Owes journal_text b (Some a) false t
owes_less b a t owes = weaken b (Some a) true t owes a refl
  where
    weaken : (b : Image) (x : Option Image) (due : Bool) (t : Image) → Owes journal_text b x due t → (a : Image) → x ≡ Some a → Owes journal_text b (Some a) false t
    weaken b x due t (Old gone seen) a is = Old gone seen
    weaken b x due t (Open {a = y} steps marks o) a is = let same : y ≡ a = cc in Open steps marks (subst (λ (z : Image). IsOpen journal_text steps marks z t) same o)
    weaken b x due t (New {a = y} gone seen) a is = let same : y ≡ a = cc in New gone (seen ∙ same)

-- touched whole where a mode is touched
abbrev touched_whole : State → State
touched_whole s = record { held = s.held; whole = λ q. s.whole q || s.modes q; modes = nowhere }

-- it leaves no less
leaves_no_less : (s : State) (c : Image) → MayLeave s c → MayLeave (touched_whole s) c
leaves_no_less s c may = record {
  formed = may.formed;
  agrees = record {
    look = λ q f l. let parts = or_parts (s.whole q) (s.modes q) f in may.agrees.look q parts.0 parts.1;
    but_mode = λ q f. may.agrees.but_mode q (or_parts (s.whole q) (s.modes q) f).0;
    same = λ x y f g. may.agrees.same x y (or_parts (s.whole x) (s.modes x) f).0 (or_parts (s.whole y) (s.modes y) g).0;
  };
}

-- what was owed is owed while what is swept is changed, or set in its mode
left_owes : (b : Image) (a : Option Image) (due : Bool) (old s : State) → Owes journal_text b a due old.held → old.held.look gate_name ≡ None → IsSettled old → ChangedWithin is_swept is_swept old s → FolderOwes journal_text b a due s
left_owes b a due old s owes shut clean w =
    let more : FolderOwes journal_text b a due (touched_whole s) = owes_sweeping journal_text b a due is_swept old (touched_whole s) owes shut clean swept_private gate_unswept (record {
      whole = λ q off safe. or_from (s.whole q) (s.modes q) (w.whole q off safe) (w.modes q off (clean.modes q));
      modes = λ q l safe. refl;
      agrees = own_modes is_swept old.held s.held w.agrees;
    }) in
    record { now = more.now; left = λ c may. more.left c (leaves_no_less s c may) }

module _ {F : Type 0} (o : Outside F) (sane : IsOutside o) where
  pub nodes : (f : F) → o.tells f ≡ true → HasNodes (o.state f).held
  nodes f told = nodes_of (o.state f).held (sane.formed f told)

  -- ---- while the steps are laid

  module _ (steps : List Step) (marks : ℕ) (a : Image) (old new : F) (told : o.tells old ≡ true) (is_open : IsOpen journal_text steps marks a (o.state old).held) where
    abbrev t : Image
    t = (o.state old).held

    abbrev left : List Step
    left = steps_left marks steps

    laying_wide : HasBegun o (journal_of t) (take (1000 * marks) steps) old new → ChangesOnly o (freed left) (λ q. freed left q || sets left t q) old new
    laying_wide begun =
        let next : begun.begun ≡ take (length begun.begun) left = next_of steps begun.begun (1000 * marks) (begun.next steps is_open.ready.lists (ready_text steps marks a t is_open.ready)) in
        let some = take (length begun.begun) left in
        let laid : ChangesOnly o (freed some) (λ q. freed some q || sets some t q) old new =
        subst (λ (l : List Step). ChangesOnly o (freed l) (λ q. freed l q || sets l t q) old new) next begun.moments in
        keeps_wider o (freed some) (λ q. freed some q || sets some t q) (freed left) (λ q. freed left q || sets left t q) old new
        (front_frees left (length begun.begun))
        (λ q none. let parts = or_parts (freed left q) (sets left t q) none in or_from (freed some q) (sets some t q) (front_frees left (length begun.begun) q parts.0) (front_sets left (length begun.begun) t q parts.1))
        laid

    pub laying_owed : IsSettled (o.state old) → HasBegun o (journal_of t) (take (1000 * marks) steps) old new → (b : Image) (due : Bool) → Throughout o old new (FolderOwes journal_text b (Some a) due)
    laying_owed clean begun b due = weaker o old new (ChangedWithin (freed left) (λ q. freed left q || sets left t q) (o.state old)) (FolderOwes journal_text b (Some a) due)
        (λ s w. owes_laying journal_text steps marks a b due (o.state old) s is_open (nodes old told) clean w) (laying_wide begun).moments

    pub laying_open : HasBegun o (journal_of t) (take (1000 * marks) steps) old new → IsOpen journal_text steps marks a (o.state new).held
    laying_open begun =
        let h = (laying_wide begun).now.agrees in
        open_laying journal_text steps marks a t (o.state new).held is_open (nodes old told) (record { look = λ q f l. h.look q f (or_from _ _ f l); but_mode = h.but_mode; same = h.same })

    -- a crash leaves the marks
    pub laying_left : HasBegun o (journal_of t) (take (1000 * marks) steps) old new → IsSettled (o.state old) → (c : Image) → MayLeave (o.state new) c → AreMarks c marks
    laying_left begun clean c may =
        let loose = λ (q : List ℕ). freed left q || sets left t q in
        let h = agrees_less _ _ (freed left) loose t c (λ q f. or_from _ _ f (clean.whole q)) (λ q l. or_from _ _ l (clean.modes q)) (within_crash (freed left) loose (o.state old) (o.state new) c (laying_wide begun).now may) in
        (open_laying journal_text steps marks a t c is_open (nodes old told) (record { look = λ q f l. h.look q f (or_from _ _ f l); but_mode = h.but_mode; same = h.same })).ready.marked

  -- ---- while the gate opens and closes

  module _ (steps : List Step) (marks : ℕ) (a : Image) (old new : F) (told : o.tells old ≡ true) (ready : IsReady journal_text steps marks a (o.state old).held) (clean : IsSettled (o.state old)) (run : ChangesOnly o (covers gate_name) nowhere old new) where
    pub opening_owed : Throughout o old new (FolderOwes journal_text (visible (o.state old).held) (Some a) false)
    opening_owed = weaker o old new (ChangedWithin (covers gate_name) nowhere (o.state old)) (FolderOwes journal_text (visible (o.state old).held) (Some a) false)
        (λ s w. owes_opening journal_text steps marks a (o.state old) s ready (nodes old told) clean w) run.moments

    pub gate_opened : Opens o old new → IsOpen journal_text steps marks a (o.state new).held
    gate_opened opens = record { gate = opens.is_open.stands; ready = gate_ready journal_text steps marks a (o.state old).held (o.state new).held ready (nodes old told) run.now.agrees }

    pub closing_owed : visible (o.state old).held ≡ a → (b : Image) (due : Bool) → Throughout o old new (FolderOwes journal_text b (Some a) due)
    closing_owed seen b due = weaker o old new (ChangedWithin (covers gate_name) nowhere (o.state old)) (FolderOwes journal_text b (Some a) due)
        (λ s w. owes_closing journal_text steps marks a (o.state old) s ready (nodes old told) clean w b due seen) run.moments

  -- ---- behind the closed gate

  pub sweeping_owed : (b : Image) (a : Option Image) (due : Bool) (old new : F) → Owes journal_text b a due (o.state old).held → (o.state old).held.look gate_name ≡ None → IsSettled (o.state old)
      → ChangesOnly o is_swept nowhere old new → Throughout o old new (FolderOwes journal_text b a due)
  sweeping_owed b a due old new owes shut clean run = weaker o old new (ChangedWithin is_swept nowhere (o.state old)) (FolderOwes journal_text b a due)
      (λ s w. owes_sweeping journal_text b a due is_swept (o.state old) s owes shut clean swept_private gate_unswept w) run.moments

  -- the same where modes were set
  pub left_owed : (b : Image) (a : Option Image) (due : Bool) (old new : F) → Owes journal_text b a due (o.state old).held → (o.state old).held.look gate_name ≡ None → IsSettled (o.state old)
      → ChangesOnly o is_swept is_swept old new → Throughout o old new (FolderOwes journal_text b a due)
  left_owed b a due old new owes shut clean run = weaker o old new (ChangedWithin is_swept is_swept (o.state old)) (FolderOwes journal_text b a due)
      (λ s w. left_owes b a due (o.state old) s owes shut clean w) run.moments

  -- ---- the gate closed, and what is left swept

  -- only the updater's own names are changed and touched
  pub at_gate : (old new : F) → ChangesOnly o (covers gate_name) nowhere old new → ChangesOnly o is_private nowhere old new
  at_gate old new run = keeps_wider o (covers gate_name) nowhere is_private nowhere old new (λ q seen. ungated q seen (covers gate_name q) refl) (λ q l. l) run

  pub at_swept : (old new : F) → ChangesOnly o is_swept nowhere old new → ChangesOnly o is_private nowhere old new
  at_swept old new run = keeps_wider o is_swept nowhere is_private nowhere old new unswept (λ q l. l) run

  -- a crash as the gate opens or closes leaves the marks
  pub gate_left : (old new : F) (count : ℕ) → ChangesOnly o (covers gate_name) nowhere old new → IsSettled (o.state old) → AreMarks (o.state old).held count → (c : Image) → MayLeave (o.state new) c → AreMarks c count
  gate_left old new count run clean are c may = same_marks (covers gate_name) (o.state old).held c count
      (agrees_less _ _ (covers gate_name) nowhere (o.state old).held c (λ q f. or_from _ _ f (clean.whole q)) (λ q l. or_from false _ refl (clean.modes q)) (within_crash (covers gate_name) nowhere (o.state old) (o.state new) c run.now may))
      (λ i. unmarked_gate (mark_name i) (mark_own i)) are

  -- and behind it, that it is closed
  pub shut_left : (old new : F) → ChangesOnly o is_swept nowhere old new → IsSettled (o.state old) → (o.state old).held.look gate_name ≡ None → (c : Image) → MayLeave (o.state new) c → c.look gate_name ≡ None
  shut_left old new run clean shut c may =
      let h = agrees_less _ _ is_swept nowhere (o.state old).held c (λ q f. or_from _ _ f (clean.whole q)) (λ q l. or_from false _ refl (clean.modes q)) (within_crash is_swept nowhere (o.state old) (o.state new) c run.now may) in
      h.look gate_name gate_unswept refl ∙ shut

  pub closed_owed : (steps : List Step) (marks : ℕ) (a : Image) (old mid new : F) → o.tells old ≡ true → IsReady journal_text steps marks a (o.state old).held → IsSettled (o.state old)
      → ChangesOnly o (covers gate_name) nowhere old mid → visible (o.state old).held ≡ a → (o.state mid).held ≡ with_entry_at gate_name None (o.state old).held → IsSettled (o.state mid) → ChangesOnly o is_swept nowhere mid new
      → (b : Image) (due : Bool) → Throughout o old new (FolderOwes journal_text b (Some a) due)
  closed_owed steps marks a old mid new told ready clean run seen closed safe sweep b due =
      let t = (o.state old).held in
      let u = (o.state mid).held in
      let shut : u.look gate_name ≡ None = ap (λ (w : Image). w.look gate_name) closed ∙ removed_gone gate_name gate_name t (covers-self gate_name) in
      let shown : visible u ≡ a = ap visible closed ∙ closed_seen t ∙ seen in
      joins o old mid new (FolderOwes journal_text b (Some a) due)
      (closing_owed steps marks a old mid told ready clean run seen b due)
      (sweeping_owed b (Some a) due mid new (New shut shown) shut safe sweep)

-- where something is owed, nothing stands at the gate, or some marks stand
pub owes_marks : (b : Image) (x : Option Image) (due : Bool) (c : Image) → Owes journal_text b x due c → (c.look gate_name ≡ None) ⊎ ((count : ℕ) × AreMarks c count)
owes_marks b x due c (Old gone seen) = inl gone
owes_marks b x due c (Open steps marks o) = inr (marks, o.ready.marked)
owes_marks b x due c (New gone seen) = inl gone

-- what a crash leaves where nothing is touched
pub safe_left : (s : State) (c : Image) → IsSettled s → MayLeave s c → Agrees nowhere nowhere s.held c
safe_left s c clean may = agrees_less s.whole s.modes nowhere nowhere s.held c (λ q f. clean.whole q) (λ q l. clean.modes q) may.agrees

-- the marks are gone, and then what else is swept
pub swept_twice : (names more : List (List ℕ)) (t u v : Image) → ((q : List ℕ) → list_any (λ m. covers m q) names ≡ true → u.look q ≡ None) → ((q : List ℕ) → t.look q ≡ None → u.look q ≡ None) → IsSwept more u v → IsSwept names t v
swept_twice names more t u v gone none swept = record {
  stage = swept.stage;
  journal = swept.journal;
  marks = λ q is. swept.nothing_new q (gone q is);
  nothing_new = λ q absent. swept.nothing_new q (none q absent);
}
