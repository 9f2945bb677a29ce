-- What a folder owes while its own names are written, while steps are laid, and as the gate opens and closes.
use Rattle.std.proofs.Common.{◌≡◌, ◌≢◌, ℕ, zero, suc, ◌+◌, ◌*◌, ◌^◌, ◌<◌, Bool, true, false, ◌||◌, List, [], ◌∷◌, take, drop, Option, Some, None, refl, sym, ◌∙◌, ap, subst, arith, inl, inr}
use Rattle.std.specs.Fmt.{decimal}
use Rattle.std.proofs.lemmas.Bool.{and_parts, or_parts, or_from, cases_lt, false_from_ne_true}
use Rattle.std.proofs.lemmas.List.{drop-drop}
use Rattle.ips_text.specs.Ancestry.{covers}
use Rattle.ips_outside.specs.Image.{Entry, Dir, File, Link, Other, Image, Agrees, with_mode, file_bytes}
use Rattle.ips_outside.specs.Change.{with_entry_at}
use Rattle.ips_outside.specs.State.{State, MayLeave, ChangedWithin, IsSettled, nowhere, untouched, settled}
use Rattle.ips_steps.specs.Steps.{Step, stage_name, stage_path, after, feasible, sets, sound, sound_before, freed}
use Rattle.ips_steps.specs.Private.{journal_name, gate_name, mark_front, mark_name, is_private, visible}
use Rattle.ips_steps.specs.Journal.{allowed, step_allowed}
use Rattle.ips_steps.specs.Owed.{AreMarks, steps_left, IsReady, IsOpen, Owes, Old, Open, New, FolderOwes, IsPrivate}
use Rattle.ips_outside.proofs.Images.{HasNodes, image_ext}
use Rattle.ips_outside.proofs.Moments.{agrees_less, within_crash, placed_within}
use Rattle.ips_steps.proofs.Lists.{clash}
use Rattle.ips_steps.proofs.Linked.{own_again}
use Rattle.ips_steps.proofs.AtTurn.{rest_feasible, rest_after}
use Rattle.ips_steps.proofs.Numbered.{marks_apart}
use Rattle.ips_steps.proofs.PrivateNames.{private_below, mark_private, begins_front, gate_private, journal_kept, gate_kept, marks_kept, same_bytes, visible_alike, visible_agrees}

-- ---- the steps that are left

allowed_left : (n : ℕ) (steps : List Step) → allowed steps ≡ true → allowed (drop n steps) ≡ true
allowed_left zero steps may = may
allowed_left (suc n) [] may = refl
allowed_left (suc n) (s ∷ rest) may = allowed_left n rest (and_parts (step_allowed s) (allowed rest) may).1

sound_left : (n : ℕ) (steps : List Step) → sound steps ≡ true → sound (drop n steps) ≡ true
sound_left zero steps so = so
sound_left (suc n) [] so = refl
sound_left (suc n) (s ∷ rest) so = sound_left n rest (and_parts (sound_before s rest) (sound rest) so).1

none_alike : (x y : Option Entry) → with_mode 0 x ≡ with_mode 0 y → x ≡ None → y ≡ None
none_alike x (Some (Dir m f)) h n = cc
none_alike x (Some (File m b)) h n = cc
none_alike x (Some (Link g)) h n = cc
none_alike x (Some Other) h n = cc
none_alike x None h n = refl

-- the same marks stand where nothing but their modes is another
same_marks : (t u : Image) (count : ℕ) → ((i : ℕ) → with_mode 0 (u.look (mark_name i)) ≡ with_mode 0 (t.look (mark_name i))) → AreMarks t count → AreMarks u count
same_marks t u count same are = record {
  stand = λ i lt none. are.stand i lt (none_alike _ _ (same (i + 1)) none);
  last = none_alike _ _ (sym (same (count + 1))) are.last;
}

-- modes that are loose at freed paths besides don't matter, since what stands there is free
agrees_kept : (free loose : List ℕ → Bool) (t u : Image) → Agrees free (λ q. free q || loose q) t u → Agrees free loose t u
agrees_kept free loose t u h = record { look = λ q f l. h.look q f (or_from _ _ f l); but_mode = h.but_mode; same = h.same }

journal_off : covers gate_name journal_name ≡ false
unfolding gate_name journal_name
journal_off = refl

contents_off : (k : ℕ) → covers gate_name (stage_path k) ≡ false
unfolding gate_name stage_name
contents_off k = refl

stage_off : covers gate_name stage_name ≡ false
unfolding gate_name stage_name
stage_off = refl

marks_off : (k : ℕ) → covers gate_name (mark_name k) ≡ false
unfolding gate_name mark_front
marks_off k = refl

-- what a crash leaves where the gate alone was changed and touched
gate_crash : (old s : State) (c : Image) → IsSettled old → ChangedWithin (covers gate_name) nowhere old s → MayLeave s c → Agrees (covers gate_name) nowhere old.held c
gate_crash old s c clean w may = agrees_less _ _ _ _ old.held c (λ q f. or_from _ _ f (clean.whole q)) (λ q l. or_from false _ refl (clean.modes q)) (within_crash (covers gate_name) nowhere old s c w may)

not_at_gate : (q : List ℕ) → is_private q ≡ false → covers gate_name q ≡ false
not_at_gate q seen = false_from_ne_true _ (λ c. clash (is_private q) (gate_private q c) seen)

gate_visible : (t u : Image) → Agrees (covers gate_name) nowhere t u → visible u ≡ visible t
gate_visible t u h = visible_agrees t u (agrees_less _ _ _ _ t u not_at_gate (λ q l. refl) h)

-- the gate gone, the image is seen
pub closed_seen : (t : Image) → visible (with_entry_at gate_name None t) ≡ visible t
closed_seen t = gate_visible t (with_entry_at gate_name None t) (placed_within gate_name None t)

mark_gate_off : (k : ℕ) → covers (mark_name k) gate_name ≡ false
unfolding mark_front gate_name
mark_gate_off k = refl

mark_journal_off : (k : ℕ) → covers (mark_name k) journal_name ≡ false
unfolding mark_front journal_name
mark_journal_off k = refl

mark_contents_off : (k n : ℕ) → covers (mark_name k) (stage_path n) ≡ false
unfolding mark_front stage_name
mark_contents_off k n = refl

mark_stage_off : (k : ℕ) → covers (mark_name k) stage_name ≡ false
unfolding mark_front stage_name
mark_stage_off k = refl

at_mark : (k : ℕ) (q : List ℕ) → is_private q ≡ false → covers (mark_name k) q ≡ false
at_mark k q seen = false_from_ne_true _ (λ c. clash (is_private q) (private_below (mark_name k) q (mark_private (mark_name k) (begins_front mark_front (decimal k))) c) seen)

next_left : (k : ℕ) (steps : List Step) → steps_left (k + 1) steps ≡ drop 1000 (steps_left k steps)
next_left k steps =
    let more : 1000 * (k + 1) ≡ 1000 * k + 1000 = omega arith in
    ap (λ (n : ℕ). drop n steps) more ∙ sym (drop-drop 1000 (1000 * k) steps)

-- One list, with a number of marks.
module _ (text : List Step → List ℕ) (steps : List Step) (marks : ℕ) (a : Image) where
  abbrev pub left : List Step
  left = steps_left marks steps

  pub left_allowed : (t : Image) → IsReady text steps marks a t → allowed left ≡ true
  left_allowed t r = allowed_left _ steps r.lists.names

  left_sound : (t : Image) → IsReady text steps marks a t → sound left ≡ true
  left_sound t r = sound_left _ steps r.is_sound

  -- It stays ready, and means the same, whatever stands at its paths, in its modes, and at private paths but the journal,
  -- the stage and the marks.
  module _ (apart : List ℕ → Bool) (own : (q : List ℕ) → apart q ≡ true → is_private q ≡ true) (files : (n : ℕ) → apart (stage_path n) ≡ false) (dir : apart stage_name ≡ false) where
    ready_again : (t u : Image) → IsReady text steps marks a t → HasNodes t → file_bytes (u.look journal_name) ≡ file_bytes (t.look journal_name) → AreMarks u marks
        → Agrees (λ q. freed left q || apart q) (sets left t) t u → IsReady text steps marks a u
    ready_again t u r n journal marked h =
        let both = own_again apart own files dir left t u n (left_allowed t r) (left_sound t r) r.can h in
        record {
          lists = r.lists;
          is_sound = r.is_sound;
          journal = journal ∙ r.journal;
          marked = marked;
          can = both.0;
          means = both.1 ∙ r.means;
        }

  -- ---- while steps are laid

  ready_laying : (t u : Image) → IsReady text steps marks a t → HasNodes t → Agrees (freed left) (sets left t) t u → IsReady text steps marks a u
  ready_laying t u r n h =
      let may = left_allowed t r in
      ready_again nowhere (λ q no. cc) (λ k. refl) refl t u r n
      (same_bytes _ _ (h.but_mode journal_name (journal_kept left may)))
      (same_marks t u marks (λ i. h.but_mode (mark_name i) (marks_kept left i may)) r.marked)
      (agrees_less _ _ _ _ t u (λ q f. (or_parts (freed left q) false f).0) (λ q l. l) h)

  pub open_laying : (t u : Image) → IsOpen text steps marks a t → HasNodes t → Agrees (freed left) (sets left t) t u → IsOpen text steps marks a u
  open_laying t u o n h = record {
    gate = λ gone. o.gate (none_alike (u.look gate_name) (t.look gate_name) (h.but_mode gate_name (gate_kept left (left_allowed t o.ready))) gone);
    ready = ready_laying t u o.ready n h;
  }

  -- From an open gate with nothing touched, whatever the steps have changed and touched so far, the folder owes the same.
  pub owes_laying : (b : Image) (due : Bool) (old s : State) → IsOpen text steps marks a old.held → HasNodes old.held → IsSettled old
      → ChangedWithin (freed left) (λ q. freed left q || sets left old.held q) old s → FolderOwes text b (Some a) due s
  owes_laying b due old s o n clean w = record {
    now = Open steps marks (open_laying old.held s.held o n (agrees_kept _ _ old.held s.held w.agrees));
    left = λ c may.
        let crashed = agrees_less _ _ _ _ old.held c (λ q f. or_from _ _ f (clean.whole q)) (λ q l. or_from _ _ l (clean.modes q)) (within_crash _ _ old s c w may) in
        Open steps marks (open_laying old.held c o n (agrees_kept _ _ old.held c crashed));
  }

  -- ---- as the gate opens and closes

  pub gate_ready : (t u : Image) → IsReady text steps marks a t → HasNodes t → Agrees (covers gate_name) nowhere t u → IsReady text steps marks a u
  gate_ready t u r n h = ready_again (covers gate_name) gate_private contents_off stage_off t u r n
      (same_bytes _ _ (h.but_mode journal_name journal_off))
      (same_marks t u marks (λ i. h.but_mode (mark_name i) (marks_off i)) r.marked)
      (agrees_less _ _ _ _ t u (λ q f. (or_parts (freed left q) (covers gate_name q) f).1) (λ q l. refl) h)

  module _ (old s : State) (r : IsReady text steps marks a old.held) (n : HasNodes old.held) (clean : IsSettled old) (w : ChangedWithin (covers gate_name) nowhere old s) where
    -- As the gate opens, before its sync: the old image, or the steps that mean the new one.
    pub owes_opening : FolderOwes text (visible old.held) (Some a) false s
    owes_opening = record { now = either s.held w.agrees; left = λ c may. either c (gate_crash old s c clean w may) }
      where
        either : (c : Image) → Agrees (covers gate_name) nowhere old.held c → Owes text (visible old.held) (Some a) false c
        either c h = go (c.look gate_name) refl
          where
            go : (o : Option Entry) → c.look gate_name ≡ o → Owes text (visible old.held) (Some a) false c
            go (Some e) is = Open steps marks (record { gate = λ none. cc; ready = gate_ready old.held c r n h })
            go None is = Old is (gate_visible old.held c h)

    -- As the gate closes, after all steps are laid and safe: the steps that mean the new image, or that image.
    pub owes_closing : (b : Image) (due : Bool) → visible old.held ≡ a → FolderOwes text b (Some a) due s
    owes_closing b due done = record { now = either s.held w.agrees; left = λ c may. either c (gate_crash old s c clean w may) }
      where
        either : (c : Image) → Agrees (covers gate_name) nowhere old.held c → Owes text b (Some a) due c
        either c h = go (c.look gate_name) refl
          where
            go : (o : Option Entry) → c.look gate_name ≡ o → Owes text b (Some a) due c
            go (Some e) is = Open steps marks (record { gate = λ none. cc; ready = gate_ready old.held c r n h })
            go None is = New is (gate_visible old.held c h ∙ done)

  -- ---- as a mark is made

  abbrev next : ℕ
  next = marks + 1

  -- The next thousand steps are laid and safe, and nothing stands at the mark after the next.
  module _ (t : Image) (o : IsOpen text steps marks a t) (n : HasNodes t) (few : marks + 2 < 2 ^ 64)
      (can : feasible (steps_left (marks + 1) steps) t ≡ true) (means : visible (after (steps_left (marks + 1) steps) t) ≡ a)
      (bare : t.look (mark_name (marks + 2)) ≡ None) where
    -- the list is ready with one more mark, but that the mark doesn't stand yet
    module _ (u : Image) (h : Agrees (covers (mark_name next)) nowhere t u) where
      elsewhere : (i : ℕ) → i < 2 ^ 64 → (next ≡ i → ⊥) → u.look (mark_name i) ≡ t.look (mark_name i)
      elsewhere i lt apart = h.look (mark_name i) (marks_apart next i (omega (arith, few)) lt apart) refl

      open_gate : u.look gate_name ≢ None
      open_gate gone = o.gate (sym (h.look gate_name (mark_gate_off next) refl) ∙ gone)

      journal_bytes : file_bytes (u.look journal_name) ≡ file_bytes (t.look journal_name)
      journal_bytes = same_bytes _ _ (h.but_mode journal_name (mark_journal_off next))

      at_own : (q : List ℕ) → covers (mark_name next) q ≡ true → is_private q ≡ true
      at_own q c = private_below (mark_name next) q (mark_private (mark_name next) (begins_front mark_front (decimal next))) c

      wider : (list : List Step) → Agrees (λ q. freed list q || covers (mark_name next) q) (sets list t) t u
      wider list = agrees_less _ _ _ _ t u (λ q f. (or_parts (freed list q) (covers (mark_name next) q) f).1) (λ q l. refl) h

      lower : (i : ℕ) → i < marks → u.look (mark_name (i + 1)) ≢ None
      lower i lt gone = o.ready.marked.stand i lt (sym (elsewhere (i + 1) (omega (arith, few, lt)) (λ e. omega (arith, e, lt))) ∙ gone)

      -- the mark isn't there: as before
      unmarked : u.look (mark_name next) ≡ None → IsReady text steps marks a u
      unmarked gone = ready_again (covers (mark_name next)) at_own (mark_contents_off next) (mark_stage_off next) t u o.ready n journal_bytes (record { stand = lower; last = gone }) (wider left)

      -- the mark is there: a thousand steps less are left
      one_more : u.look (mark_name next) ≢ None → AreMarks u next
      one_more there = record { stand = at; last = ap (λ (k : ℕ). u.look (mark_name k)) after_next ∙ elsewhere (marks + 2) few (λ e. omega (arith, e)) ∙ bare }
        where
          after_next : next + 1 ≡ marks + 2
          after_next = omega arith

          at : (i : ℕ) → i < next → u.look (mark_name (i + 1)) ≢ None
          at i lt = elim (cases_lt i marks) [
            | inl below ↦ lower i below
            | inr up ↦ let same : next ≡ i + 1 = omega (arith, lt, up) in subst (λ (k : ℕ). u.look (mark_name k) ≢ None) same there
          ]

      marked : u.look (mark_name next) ≢ None → IsReady text steps next a u
      marked there =
          let rest = steps_left next steps in
          let may = allowed_left (1000 * next) steps o.ready.lists.names in
          let both = own_again (covers (mark_name next)) at_own (mark_contents_off next) (mark_stage_off next) rest t u n may (sound_left (1000 * next) steps o.ready.is_sound) can (wider rest) in
          record {
            lists = o.ready.lists;
            is_sound = o.ready.is_sound;
            journal = journal_bytes ∙ o.ready.journal;
            marked = one_more there;
            can = both.0;
            means = both.1 ∙ means;
          }

      pub open_marked : u.look (mark_name next) ≢ None → IsOpen text steps next a u
      open_marked there = record { gate = open_gate; ready = marked there }

      either_mark : (b : Image) (due : Bool) → Owes text b (Some a) due u
      either_mark b due = go (u.look (mark_name next)) refl
        where
          go : (e : Option Entry) → u.look (mark_name next) ≡ e → Owes text b (Some a) due u
          go None is = Open steps marks (record { gate = open_gate; ready = unmarked is })
          go (Some e) is = Open steps next (open_marked (λ none. cc))

  -- As a mark is made, before its sync, the folder owes the same.
  pub owes_marking : (b : Image) (due : Bool) (old s : State) → IsOpen text steps marks a old.held → HasNodes old.held → IsSettled old → marks + 2 < 2 ^ 64
      → feasible (steps_left (marks + 1) steps) old.held ≡ true → visible (after (steps_left (marks + 1) steps) old.held) ≡ a
      → old.held.look (mark_name (marks + 2)) ≡ None → ChangedWithin (covers (mark_name (marks + 1))) nowhere old s → FolderOwes text b (Some a) due s
  owes_marking b due old s o n clean few can means bare w = record {
    now = either_mark old.held o n few can means bare s.held w.agrees b due;
    left = λ c may. either_mark old.held o n few can means bare c
        (agrees_less _ _ _ _ old.held c (λ q f. or_from _ _ f (clean.whole q)) (λ q l. or_from false _ refl (clean.modes q)) (within_crash _ nowhere old s c w may)) b due;
  }

  -- A front of the steps that are left is laid: the rest can be laid, and means the same.
  front_laid : (t : Image) → IsReady text steps marks a t → (n : ℕ)
      → (feasible (drop n left) (after (take n left) t) ≡ true) × (visible (after (drop n left) (after (take n left) t)) ≡ a)
  front_laid t r n = (rest_feasible left n t r.can, ap visible (rest_after left n t) ∙ r.means)

  -- So where a thousand of them are laid the next mark can be made.
  pub thousand_laid : (t u : Image) → IsReady text steps marks a t → u ≡ after (take 1000 left) t
      → (feasible (steps_left (marks + 1) steps) u ≡ true) × (visible (after (steps_left (marks + 1) steps) u) ≡ a)
  thousand_laid t u r is =
      let Next : Image → List Step → Type 0 = λ v list. (feasible list v ≡ true) × (visible (after list v) ≡ a) in
      subst (λ (v : Image). Next v (steps_left (marks + 1) steps)) (sym is) (subst (Next (after (take 1000 left) t)) (sym (next_left marks steps)) (front_laid t r 1000))

-- ---- where private names alone are touched

unless : (x h : Bool) → (x ≡ true → h ≡ true) → h ≡ false → x ≡ false
unless true h f shut = clash h (f refl) shut
unless false h f shut = refl

pub private_seen : (s : State) (left : Image) → IsPrivate s → MayLeave s left → visible left ≡ visible s.held
private_seen s left p may = visible_alike s.held left
    (λ q seen. may.agrees.look q (unless _ _ (p.whole q) seen) (unless _ _ (p.modes q) seen))
    (λ a b sa sb. may.agrees.same a b (unless _ _ (p.whole a) sa) (unless _ _ (p.whole b) sb))

module _ (text : List Step → List ℕ) (s : State) (p : IsPrivate s) where
  pub private_old : (left : Image) (a : Option Image) → MayLeave s left → left.look gate_name ≡ None → Owes text (visible s.held) a false left
  private_old left a may shut = Old shut (private_seen s left p may)

  pub private_new : (left b : Image) (due : Bool) → MayLeave s left → left.look gate_name ≡ None → Owes text b (Some (visible s.held)) due left
  private_new left b due may shut = New shut (private_seen s left p may)

  module _ (shut : s.held.look gate_name ≡ None) (off : s.whole gate_name ≡ false) where
    -- a crash leaves the gate closed
    still_shut : (c : Image) → MayLeave s c → c.look gate_name ≡ None
    still_shut c may = none_alike _ _ (sym (may.agrees.but_mode gate_name off)) shut

    pub folder_old : (a : Option Image) → FolderOwes text (visible s.held) a false s
    folder_old a = record { now = Old shut refl; left = λ c may. private_old c a may (still_shut c may) }

    pub folder_new : (b : Image) (due : Bool) → FolderOwes text b (Some (visible s.held)) due s
    folder_new b due = record { now = New shut refl; left = λ c may. private_new c b due may (still_shut c may) }

-- ---- as private names are written behind a closed gate

-- what an image shows with its gate closed is owed as long as that is what is seen
closed_owes : (text : List Step → List ℕ) (b : Image) (a : Option Image) (due : Bool) (s : State) (t : Image) → IsPrivate s → s.held.look gate_name ≡ None → s.whole gate_name ≡ false
    → visible s.held ≡ visible t → t.look gate_name ≡ None → Owes text b a due t → FolderOwes text b a due s
closed_owes text b a due s t p shut off same closed (Old gone seen) = subst (λ (x : Image). FolderOwes text x a false s) (same ∙ seen) (folder_old text s p shut off a)
closed_owes text b a due s t p shut off same closed (Open steps marks o) = absurd (o.gate closed)
closed_owes text b a due s t p shut off same closed (New gone seen) = subst (λ (x : Image). FolderOwes text b (Some x) due s) (same ∙ seen) (folder_new text s p shut off b due)

pub owes_sweeping : (text : List Step → List ℕ) (b : Image) (a : Option Image) (due : Bool) (free : List ℕ → Bool) (old s : State) → Owes text b a due old.held → old.held.look gate_name ≡ None
    → IsSettled old → ((q : List ℕ) → free q ≡ true → is_private q ≡ true) → free gate_name ≡ false → ChangedWithin free nowhere old s → FolderOwes text b a due s
owes_sweeping text b a due free old s owes shut clean own off w = closed_owes text b a due s old.held
    (record { whole = λ q is. private_whole q is (free q) refl; modes = λ q is. clash (s.modes q) is (w.modes q refl (clean.modes q)) })
    (none_alike _ _ (sym (w.agrees.but_mode gate_name off)) shut)
    (w.whole gate_name off (clean.whole gate_name))
    (visible_agrees old.held s.held (agrees_less _ _ _ _ old.held s.held (λ q seen. unless (free q) (is_private q) (own q) seen) (λ q l. refl) w.agrees))
    shut owes
  where
    private_whole : (q : List ℕ) → s.whole q ≡ true → (f : Bool) → free q ≡ f → is_private q ≡ true
    private_whole q is true at = own q at
    private_whole q is false at = clash (s.whole q) is (w.whole q at (clean.whole q))

-- ---- what the next run finds

pub owes_crashed : (text : List Step → List ℕ) (b : Image) (a : Option Image) (due : Bool) (s : State) (left : Image) → FolderOwes text b a due s → MayLeave s left → FolderOwes text b a due (untouched left)
owes_crashed text b a due s left owes may = record {
  now = owes.left left may;
  left = λ c again. subst (Owes text b a due) (sym (image_ext c left (λ q. again.agrees.look q refl refl) (λ x y. again.agrees.same x y refl refl))) (owes.left left may);
}

pub owes_synced : (text : List Step → List ℕ) (b : Image) (a : Option Image) (due : Bool) (s : State) → FolderOwes text b a due s → FolderOwes text b a due (settled s)
owes_synced text b a due s owes = record {
  now = owes.now;
  left = λ c may. subst (Owes text b a due) (sym (image_ext c s.held (λ q. may.agrees.look q refl refl) (λ x y. may.agrees.same x y refl refl))) owes.now;
}

open_of : (text : List Step → List ℕ) (b : Image) (a : Option Image) (due : Bool) (t : Image) → Owes text b a due t → t.look gate_name ≢ None → (c : Image) → a ≡ Some c
    → (steps : List Step) × (marks : ℕ) × IsOpen text steps marks c t
open_of text b a due t (Old gone seen) there c is = absurd (there gone)
open_of text b a due t (Open {a = x} steps marks o) there c is = let same : x ≡ c = cc in (steps, marks, subst (λ (y : Image). IsOpen text steps marks y t) same o)
open_of text b a due t (New gone seen) there c is = absurd (there gone)

pub owed_open : (text : List Step → List ℕ) (b a : Image) (due : Bool) (t : Image) → Owes text b (Some a) due t → t.look gate_name ≢ None → (steps : List Step) × (marks : ℕ) × IsOpen text steps marks a t
owed_open text b a due t owes there = open_of text b (Some a) due t owes there a refl

pub one_count : (t : Image) (m n : ℕ) → AreMarks t m → AreMarks t n → m ≡ n
one_count t m n ms ns = elim (cases_lt m n) [
  | inl lt ↦ absurd (ns.stand m lt ms.last)
  | inr ge ↦ elim (cases_lt n m) [
    | inl lt ↦ absurd (ms.stand n lt ns.last)
    | inr le ↦ omega (arith, ge, le)
  ]
]
