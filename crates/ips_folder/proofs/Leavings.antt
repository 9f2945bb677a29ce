-- What a crash leaves by a choice is one of the images that it may leave.
use Rattle.std.proofs.Common.{◌≡◌, ℕ, Bool, true, false, cond, ◌||◌, List, [], ◌∷◌, Option, Some, None, refl, sym, ◌∙◌, ap, subst}
use Rattle.std.specs.List.{list_any}
use Rattle.std.proofs.lemmas.Bool.{false_from_ne_true}
use Rattle.ips_text.specs.Ancestry.{same_path, covers}
use Rattle.ips_text.proofs.Ancestry.{same_covers}
use Rattle.ips_outside.specs.Image.{Entry, Dir, File, Link, Other, Image, IsImage, Agrees, is_file, with_mode}
use Rattle.ips_outside.specs.State.{State, MayLeave}
use Rattle.ips_outside.specs.Tearing.{halved, IsTorn}
use Rattle.ips_outside.proofs.Agree.{is_file-alike}
use Rattle.ips_outside.proofs.Moments.{agrees_self, agrees_on}
use Rattle.ips_folder.specs.declared.call.Call.{Call}
use Rattle.ips_folder.specs.declared.stop.Choice.{Choice}
use Rattle.ips_folder.specs.declared.stop.Choice.TheVariants as choice
use Rattle.ips_folder.specs.History.{Moment, begun, replay}
use Rattle.ips_folder.specs.Crash.{without, is_name, IsJunked, IsLeftBy}
use Rattle.ips_folder.proofs.Kept.{IsKept, begun_kept, replay_kept}
use Rattle.ips_text.proofs.Truths.{or_true}

-- a touched name is touched
pub name_touched : (m : Moment) (q : List ℕ) → IsKept m → is_name m q ≡ true → m.state.whole q ≡ true
name_touched m q kept name = kept.names q ∙ go m.touched name
  where
    go : (ps : List (List ℕ)) → list_any (λ p. same_path p q) ps ≡ true → list_any (λ p. covers p q) ps ≡ true
    go [] name = cc
    go (p ∷ ps) name = step (same_path p q) refl (go ps) name
      where
        step : (s : Bool) → same_path p q ≡ s → (list_any (λ p. same_path p q) ps ≡ true → list_any (λ p. covers p q) ps ≡ true) → (s || list_any (λ p. same_path p q) ps) ≡ true → (covers p q || list_any (λ p. covers p q) ps) ≡ true
        step true is rest name = ap (λ (b : Bool). b || list_any (λ p. covers p q) ps) (same_covers p q is)
        step false is rest name = rw (rest name) (or_true (covers p q))

without_agrees : (gone loose : List ℕ → Bool) (t : Image) → Agrees gone loose t (without gone t)
without_agrees gone loose t = record {
  look = λ q f l. rw f refl;
  but_mode = λ q f. rw f refl;
  same = λ a b f g. rw (f, g) refl;
}

halved_plain : (x : Option Entry) → is_file x ≡ false → halved x ≡ x
halved_plain (Some (Dir m f)) plain = refl
halved_plain (Some (File m b)) plain = cc
halved_plain (Some (Link g)) plain = refl
halved_plain (Some Other) plain = refl
halved_plain None plain = refl

module _ (m : Moment) (kept : IsKept m) (held : IsImage m.state.held) (left : Image) where
  -- from what stands with mode 0
  over_zeroed : Agrees m.state.whole m.state.modes m.zeroed left → Agrees m.state.whole m.state.modes m.state.held left
  over_zeroed h = agrees_on m.state.whole m.state.modes m.state.held m.zeroed left kept.zeroed h

  junk_agrees : IsJunked m left → Agrees m.state.whole m.state.modes m.zeroed left
  junk_agrees junk = record { look = λ q f l. junk.untouched q f; but_mode = λ q f. ap (with_mode 0) (junk.untouched q f); same = λ a b f g. junk.same a b f g }

  torn_look : IsTorn (is_name m) m.zeroed left → (q : List ℕ) → m.state.whole q ≡ false → left.look q ≡ m.zeroed.look q
  torn_look torn q off = go (is_file (m.zeroed.look q)) refl
    where
      unnamed : is_name m q ≡ false
      unnamed = false_from_ne_true _ (λ name. let on = name_touched m q kept name in cc)

      is_held : is_file (m.zeroed.look q) ≡ is_file (m.state.held.look q)
      is_held = is_file-alike (m.zeroed.look q) (m.state.held.look q) (kept.alike.look q)

      go : (b : Bool) → is_file (m.zeroed.look q) ≡ b → left.look q ≡ m.zeroed.look q
      go true file = torn.kept q q (kept.alike.same q q ∙ held.self q (sym is_held ∙ file)) unnamed
      go false plain = torn.cut q (λ r one. absurd (let file = (held.files q r (sym (kept.alike.same q r) ∙ one)).0 in let here = is_held in cc)) ∙ halved_plain (m.zeroed.look q) plain

  torn_agrees : IsTorn (is_name m) m.zeroed left → Agrees m.state.whole m.state.modes m.zeroed left
  torn_agrees torn = record { look = λ q f l. torn_look torn q f; but_mode = λ q f. ap (with_mode 0) (torn_look torn q f); same = λ a b f g. torn.same a b }

  agrees_by : (c : Choice) → IsLeftBy c m left → Agrees m.state.whole m.state.modes m.state.held left
  agrees_by choice.Before is = subst (Agrees m.state.whole m.state.modes m.state.held) (sym is) kept.safe
  agrees_by choice.After is = subst (Agrees m.state.whole m.state.modes m.state.held) (sym is) (agrees_self m.state.whole m.state.modes m.state.held)
  agrees_by choice.Gone is = over_zeroed (subst (Agrees m.state.whole m.state.modes m.zeroed) (sym is) (without_agrees m.state.whole m.state.modes m.zeroed))
  agrees_by choice.Junk is = over_zeroed (junk_agrees is)
  agrees_by choice.Torn is = over_zeroed (torn_agrees is)

  pub may_be_left : (c : Choice) → IsImage left → IsLeftBy c m left → MayLeave m.state left
  may_be_left c formed is = record { formed = formed; agrees = agrees_by c is }

-- the same of a record of calls
pub may_leave : (first : Image) (calls : List Call) (left : Image) (c : Choice) → IsImage (replay calls (begun first)).state.held → IsImage left → IsLeftBy c (replay calls (begun first)) left → MayLeave (replay calls (begun first)).state left
may_leave first calls left c held formed is = may_be_left (replay calls (begun first)) (replay_kept calls (begun first) (begun_kept first)) held left c formed is

pub held_may_stay : (s : State) → IsImage s.held → MayLeave s s.held
held_may_stay s formed = record { formed = formed; agrees = agrees_self s.whole s.modes s.held }
