-- States that are reached by changes at some paths alone.
use Rattle.std.proofs.Common.{◌≡◌, ⊎_elim, ℕ, Bool, true, false, cond, ◌||◌, List, Option, None, refl, sym, ◌∙◌, ap, subst}
use Rattle.std.proofs.lemmas.Bool.{or_parts, or_from}
use Rattle.ips_text.specs.Ancestry.{same_path, covers}
use Rattle.ips_outside.specs.Image.{Entry, Image, Agrees, with_mode}
use Rattle.ips_outside.specs.Change.{with_entry_at, joined, moded, names}
use Rattle.ips_outside.specs.State.{State, nowhere, MayLeave, Changed, MayChange, ChangedWithin, written, mode_set, settled}
use Rattle.ips_text.proofs.Ancestry.{uncovered}
use Rattle.ips_outside.proofs.Agree.{mode_over, moded_mode}

pub agrees_self : (free loose : List ℕ → Bool) (t : Image) → Agrees free loose t t
agrees_self free loose t = record { look = λ q f l. refl; but_mode = λ q f. refl; same = λ a b f g. refl }

pub agrees_on : (free loose : List ℕ → Bool) (t u v : Image) → Agrees free loose t u → Agrees free loose u v → Agrees free loose t v
agrees_on free loose t u v h k = record {
  look = λ q f l. k.look q f l ∙ h.look q f l;
  but_mode = λ q f. k.but_mode q f ∙ h.but_mode q f;
  same = λ a b f g. k.same a b f g ∙ h.same a b f g;
}

-- less is known where more is free
pub agrees_less : (free loose more looser : List ℕ → Bool) (t u : Image) → ((q : List ℕ) → more q ≡ false → free q ≡ false) → ((q : List ℕ) → looser q ≡ false → loose q ≡ false) → Agrees free loose t u → Agrees more looser t u
agrees_less free loose more looser t u m l h = record {
  look = λ q f g. h.look q (m q f) (l q g);
  but_mode = λ q f. h.but_mode q (m q f);
  same = λ a b f g. h.same a b (m a f) (m b g);
}

pub within_self : (free loose : List ℕ → Bool) (s : State) → ChangedWithin free loose s s
within_self free loose s = record { whole = λ q f o. o; modes = λ q f o. o; agrees = agrees_self free loose s.held }

pub within_changed : (free loose : List ℕ → Bool) (old mid new : State) → ChangedWithin free loose old mid → Changed free loose mid new → ChangedWithin free loose old new
within_changed free loose old mid new w ch = record {
  whole = λ q f o. ap (λ (g : List ℕ → Bool). g q) ch.whole ∙ or_from _ _ f (w.whole q f o);
  modes = λ q f o. ap (λ (g : List ℕ → Bool). g q) ch.modes ∙ or_from _ _ f (w.modes q f o);
  agrees = agrees_on free loose old.held mid.held new.held w.agrees ch.agrees;
}

pub within_may : (free loose : List ℕ → Bool) (old mid new : State) → ChangedWithin free loose old mid → MayChange free loose mid new → ChangedWithin free loose old new
within_may free loose old mid new w may = ⊎_elim (λ same. subst (ChangedWithin free loose old) (sym same) w) (λ ch. within_changed free loose old mid new w ch) may

pub within_settled : (free loose : List ℕ → Bool) (old mid : State) → ChangedWithin free loose old mid → ChangedWithin free loose old (settled mid)
within_settled free loose old mid w = record { whole = λ q f o. refl; modes = λ q f o. refl; agrees = w.agrees }

-- a crash then leaves what agrees with the older state
pub within_crash : (free loose : List ℕ → Bool) (old s : State) (c : Image) → ChangedWithin free loose old s → MayLeave s c → Agrees (λ q. free q || old.whole q) (λ q. loose q || old.modes q) old.held c
within_crash free loose old s c w may =
    let wider : Agrees (λ q. free q || old.whole q) (λ q. loose q || old.modes q) old.held s.held = agrees_less free loose _ _ old.held s.held (λ q f. (or_parts (free q) (old.whole q) f).0) (λ q f. (or_parts (loose q) (old.modes q) f).0) w.agrees in
    let left : Agrees (λ q. free q || old.whole q) (λ q. loose q || old.modes q) s.held c = agrees_less s.whole s.modes _ _ s.held c
    (λ q f. let parts = or_parts (free q) (old.whole q) f in w.whole q parts.0 parts.1)
    (λ q f. let parts = or_parts (loose q) (old.modes q) f in w.modes q parts.0 parts.1) may.agrees in
    agrees_on _ _ old.held s.held c wider left

pick : {A : Type 0} (s c : Bool) (e n x : A) → c ≡ false → s ≡ false → cond s e (cond c n x) ≡ x
pick s c e n x cf sf = rw (sf, cf) refl

-- what a change at a path changes
pub placed_within : (p : List ℕ) (e : Option Entry) (t : Image) → Agrees (covers p) nowhere t (with_entry_at p e t)
placed_within p e t = record {
  look = λ q f l. pick (same_path p q) (covers p q) e None (t.look q) f (uncovered p q f);
  but_mode = λ q f. ap (with_mode 0) (pick (same_path p q) (covers p q) e None (t.look q) f (uncovered p q f));
  same = λ a b f g. rw (f, g) refl;
}

pub joined_within : (p to : List ℕ) (t : Image) → Agrees (covers p) nowhere t (joined p to t)
joined_within p to t = record {
  look = λ q f l. pick (same_path p q) (covers p q) (t.look to) None (t.look q) f (uncovered p q f);
  but_mode = λ q f. ap (with_mode 0) (pick (same_path p q) (covers p q) (t.look to) None (t.look q) f (uncovered p q f));
  same = λ a b f g. rw (f, g, uncovered p a f, uncovered p b g) refl;
}

pub moded_within : (m : ℕ) (p : List ℕ) (t : Image) → Agrees nowhere (names t p) t (moded m p t)
moded_within m p t = record {
  look = λ q f l. rw l refl;
  but_mode = λ q f. moded_mode (names t p q) m (t.look q);
  same = λ a b f g. refl;
}

pub written_changed : (p : List ℕ) (u : Image) (s : State) → Agrees (covers p) nowhere s.held u → Changed (covers p) nowhere s (written p u s)
written_changed p u s h = record { whole = refl; modes = refl; agrees = h }

pub mode_set_changed : (m : ℕ) (p : List ℕ) (s : State) → Changed nowhere (names s.held p) s (mode_set m p s)
mode_set_changed m p s = record { whole = refl; modes = refl; agrees = moded_within m p s.held }

-- one run after another
pub within_then : (free loose : List ℕ → Bool) (old mid new : State) → ChangedWithin free loose old mid → ChangedWithin free loose mid new → ChangedWithin free loose old new
within_then free loose old mid new w v = record {
  whole = λ q f o. v.whole q f (w.whole q f o);
  modes = λ q f o. v.modes q f (w.modes q f o);
  agrees = agrees_on free loose old.held mid.held new.held w.agrees v.agrees;
}

pub within_wider : (free loose more looser : List ℕ → Bool) (old s : State) → ((q : List ℕ) → more q ≡ false → free q ≡ false) → ((q : List ℕ) → looser q ≡ false → loose q ≡ false) → ChangedWithin free loose old s → ChangedWithin more looser old s
within_wider free loose more looser old s m l w = record {
  whole = λ q f o. w.whole q (m q f) o;
  modes = λ q f o. w.modes q (l q f) o;
  agrees = agrees_less free loose more looser old.held s.held m l w.agrees;
}
