-- What holds of each moment of a record: how its parts stand to one another.
use Rattle.std.proofs.Common.{◌≡◌, ℕ, Bool, true, false, cond, ◌&&◌, ◌||◌, List, [], ◌∷◌, ◌++◌, Option, Some, None, refl, sym, ◌∙◌, ap, subst}
use Rattle.std.specs.List.{list_any}
use Rattle.std.proofs.lemmas.Bool.{or_parts, or_from}
use Rattle.ips_text.specs.Ancestry.{same_path, covers, is_below}
use Rattle.ips_outside.specs.Image.{Entry, Dir, File, Link, Other, Image, Agrees, is_dir, is_file, has_parent, dir_or_none, with_mode}
use Rattle.ips_outside.specs.Change.{with_entry_at, joined, moded, names, appended, more_bytes}
use Rattle.ips_outside.specs.State.{State, nowhere}
use Rattle.ips_outside.proofs.Agree.{mode_over}
use Rattle.ips_outside.proofs.Moments.{agrees_self, agrees_on, agrees_less, placed_within, joined_within, moded_within}
use Rattle.ips_folder.proofs.Appended.{appended_within}
use Rattle.ips_folder.specs.declared.call.Call.{Call}
use Rattle.ips_folder.specs.declared.call.Call.TheVariants as call
use Rattle.ips_folder.specs.History.{Moment, begun, changed, mode_given, effect, replay}

-- The two images differ in modes alone.
pub record Alike (t u : Image) : Type 0 where
  pub look : (q : List ℕ) → with_mode 0 (u.look q) ≡ with_mode 0 (t.look q)
  pub same : (a b : List ℕ) → u.same a b ≡ t.same a b

pub record IsKept (m : Moment) : Type 0 where
  pub names : (q : List ℕ) → m.state.whole q ≡ list_any (λ p. covers p q) m.touched
  pub alike : Alike m.state.held m.zeroed
  pub zeroed : Agrees m.state.whole m.state.modes m.state.held m.zeroed
  pub safe : Agrees m.state.whole m.state.modes m.state.held m.safe

agrees_sym : (free loose : List ℕ → Bool) (t u : Image) → Agrees free loose t u → Agrees free loose u t
agrees_sym free loose t u h = record {
  look = λ q f l. sym (h.look q f l);
  but_mode = λ q f. sym (h.but_mode q f);
  same = λ a b f g. sym (h.same a b f g);
}

-- one change more, of either image
module _ (free loose more looser : List ℕ → Bool) where
  changed_first : (t t' u : Image) → Agrees more looser t t' → Agrees free loose t u → Agrees (λ q. more q || free q) (λ q. looser q || loose q) t' u
  changed_first t t' u change h = agrees_on _ _ t' t u
      (agrees_less more looser _ _ t' t (λ q f. (or_parts (more q) (free q) f).0) (λ q f. (or_parts (looser q) (loose q) f).0) (agrees_sym more looser t t' change))
      (agrees_less free loose _ _ t u (λ q f. (or_parts (more q) (free q) f).1) (λ q f. (or_parts (looser q) (loose q) f).1) h)

  changed_both : (t t' u u' : Image) → Agrees more looser t t' → Agrees more looser u u' → Agrees free loose t u → Agrees (λ q. more q || free q) (λ q. looser q || loose q) t' u'
  changed_both t t' u u' change change' h = agrees_on _ _ t' u u' (changed_first t t' u change h)
      (agrees_less more looser _ _ u u' (λ q f. (or_parts (more q) (free q) f).0) (λ q f. (or_parts (looser q) (loose q) f).0) change')

-- a change at a path that does the same to images that are alike
pub record IsAlikeAt (p : List ℕ) (change : Image → Image) : Type 0 where
  pub within : (t : Image) → Agrees (covers p) nowhere t (change t)
  pub alike : (t u : Image) → Alike t u → Alike (change t) (change u)

changed_kept : (p : List ℕ) (change : Image → Image) (m : Moment) → IsAlikeAt p change → IsKept m → IsKept (changed p change m)
changed_kept p change m at kept = record {
  names = λ q. ap (λ (b : Bool). covers p q || b) (kept.names q);
  alike = at.alike m.state.held m.zeroed kept.alike;
  zeroed = changed_both m.state.whole m.state.modes (covers p) nowhere m.state.held (change m.state.held) m.zeroed (change m.zeroed) (at.within m.state.held) (at.within m.zeroed) kept.zeroed;
  safe = changed_first m.state.whole m.state.modes (covers p) nowhere m.state.held (change m.state.held) m.safe (at.within m.state.held) kept.safe;
}

mode_cond : (s : Bool) (x y x' y' : Option Entry) → with_mode 0 x ≡ with_mode 0 x' → with_mode 0 y ≡ with_mode 0 y' → with_mode 0 (cond s x y) ≡ with_mode 0 (cond s x' y')
mode_cond true x y x' y' e f = e
mode_cond false x y x' y' e f = f

placed_alike : (p : List ℕ) (e : Option Entry) → IsAlikeAt p (with_entry_at p e)
placed_alike p e = record {
  within = placed_within p e;
  alike = λ t u h. record {
    look = λ q. mode_cond (same_path p q) e _ e _ refl (mode_cond (covers p q) None (u.look q) None (t.look q) refl (h.look q));
    same = λ a b. ap (λ (s : Bool). cond (covers p a || covers p b) (same_path p a && (same_path p b && is_file e)) s) (h.same a b);
  };
}

joined_alike : (p to : List ℕ) → IsAlikeAt p (joined p to)
joined_alike p to = record {
  within = joined_within p to;
  alike = λ t u h. record {
    look = λ q. mode_cond (same_path p q) (u.look to) _ (t.look to) _ (h.look to) (mode_cond (covers p q) None (u.look q) None (t.look q) refl (h.look q));
    same = λ a b. ap (λ (s : Bool). cond (is_below p a || is_below p b) false s) (h.same (cond (same_path p a) to a) (cond (same_path p b) to b));
  };
}

-- more bytes of entries that differ in mode alone
more_alike : (more : List ℕ) (x y : Option Entry) → with_mode 0 x ≡ with_mode 0 y → with_mode 0 (more_bytes more x) ≡ with_mode 0 (more_bytes more y)
more_alike more x y h = sym (through x) ∙ ap (more_bytes more) h ∙ through y
  where
    through : (x : Option Entry) → more_bytes more (with_mode 0 x) ≡ with_mode 0 (more_bytes more x)
    through (Some (Dir m f)) = refl
    through (Some (File m b)) = refl
    through (Some (Link g)) = refl
    through (Some Other) = refl
    through None = refl

appended_alike : (p bytes : List ℕ) → IsAlikeAt p (appended p bytes)
appended_alike p bytes = record {
  within = appended_within p bytes;
  alike = λ t u h. record {
    look = λ q. mode_cond (same_path p q) _ (u.look q) _ (t.look q) (more_alike bytes (u.look q) (t.look q) (h.look q)) (h.look q);
    same = λ a b. h.same a b;
  };
}

mode_anew : (s s' : Bool) (m m' : ℕ) (x y : Option Entry) → with_mode 0 x ≡ with_mode 0 y → with_mode 0 (cond s (with_mode m x) x) ≡ with_mode 0 (cond s' (with_mode m' y) y)
mode_anew s s' m m' x y e = other s m x ∙ e ∙ sym (other s' m' y)
  where
    other : (s : Bool) (m : ℕ) (x : Option Entry) → with_mode 0 (cond s (with_mode m x) x) ≡ with_mode 0 x
    other true m x = mode_over 0 m x
    other false m x = refl

mode_given_kept : (mode : ℕ) (p : List ℕ) (m : Moment) → IsKept m → IsKept (mode_given mode p m)
mode_given_kept mode p m kept =
    let t = m.state.held in
    let u = m.zeroed in
    let one : names u p ≡ names t p = λ i q. same_path p q || kept.alike.same p q i in
    let change : Agrees nowhere (names t p) u (moded 0 p u) = subst (λ (n : List ℕ → Bool). Agrees nowhere n u (moded 0 p u)) one (moded_within 0 p u) in
    record {
      names = kept.names;
      alike = record { look = λ q. mode_anew (names u p q) (names t p q) 0 mode (u.look q) (t.look q) (kept.alike.look q); same = kept.alike.same };
      zeroed = changed_both m.state.whole m.state.modes nowhere (names t p) t (moded mode p t) u (moded 0 p u) (moded_within mode p t) change kept.zeroed;
      safe = changed_first m.state.whole m.state.modes nowhere (names t p) t (moded mode p t) m.safe (moded_within mode p t) kept.safe;
    }

pub begun_kept : (t : Image) → IsKept (begun t)
begun_kept t = record { names = λ q. refl; alike = record { look = λ q. refl; same = λ a b. refl }; zeroed = agrees_self nowhere nowhere t; safe = agrees_self nowhere nowhere t }

pub effect_kept : (c : Call) (m : Moment) → IsKept m → IsKept (effect c m)
effect_kept (call.MakeDir path mode) m kept = changed_kept path.bytes _ m (placed_alike path.bytes _) kept
effect_kept (call.MakeFile path) m kept = changed_kept path.bytes _ m (placed_alike path.bytes _) kept
effect_kept (call.Append path bytes) m kept = changed_kept path.bytes _ m (appended_alike path.bytes bytes.items) kept
effect_kept (call.MakeLink path target) m kept = changed_kept path.bytes _ m (placed_alike path.bytes _) kept
effect_kept (call.MakeHard path to) m kept = changed_kept path.bytes _ m (joined_alike path.bytes to.bytes) kept
effect_kept (call.Remove path) m kept = changed_kept path.bytes _ m (placed_alike path.bytes None) kept
effect_kept (call.SetMode path mode) m kept = mode_given_kept mode path.bytes m kept
effect_kept call.Sync m kept = begun_kept m.state.held

pub replay_kept : (calls : List Call) (m : Moment) → IsKept m → IsKept (replay calls m)
replay_kept [] m kept = kept
replay_kept (c ∷ calls) m kept = replay_kept calls (effect c m) (effect_kept c m kept)
