-- A put's path made one more name of its content.
use Rattle.std.proofs.Common.{◌≡◌, ℕ, Bool, true, false, ◌||◌, List, [], ◌∷◌, Some, Result, OnOk, refl, sym, ◌∙◌, ap, subst}
use Rattle.std.proofs.lemmas.Bool.{or_parts}
use Rattle.ips_text.specs.Ancestry.{covers}
use Rattle.ips_outside.specs.Image.{Image, is_file}
use Rattle.ips_outside.specs.Change.{joined, moded, names}
use Rattle.ips_outside.specs.State.{State, nowhere, written}
use Rattle.ips_outside.specs.Outside.{Outside, IsOutside}
use Rattle.ips_folder.specs.Calls.{Writes, ChangesOnly, CanMake}
use Rattle.ips_steps.specs.Steps.{Step, Put, stage_path, sets}
use Rattle.ips_kinds.specs.declared.kind.Act.TheVariants as act
use Rattle.ips_journal.specs.Reading.{stage_for}
use Rattle.ips_outside.proofs.Trees.{on_ok_to}
use Rattle.ips_folder.proofs.Runs.{keeps_then, keeps_wider, one_write}
use Rattle.ips_apply.specs.Acting.{with_name, CanAct}
use Rattle.ips_apply.specs.Applied.{ChangedBy}
use Rattle.ips_apply.specs.Judging.{has_other_mode, content_differs}
use Rattle.ips_apply.proofs.Changes.{mode_at}
use Rattle.ips_apply.proofs.Puts.{moded_makes, moded_is_file}

module _ (s : Step) (n m : ℕ) (p f : List ℕ) (is : s ≡ Put n m p) (at : stage_for s ≡ Some f) where
  -- the content is the staged file
  content_at : stage_path n ≡ f
  content_at = let one : Some (stage_path n) ≡ Some f = ap stage_for (sym is) ∙ at in cc

  module _ (t : Image) where
    -- the path can be made, and the content is a file
    pub can_name : CanAct s act.MakeHard t → CanMake t p × (is_file (t.look f) ≡ true)
    can_name can =
        let both = subst (λ (x : Step). CanAct x act.MakeHard t) is can in
        (both.0, ap (λ (q : List ℕ). is_file (t.look q)) (sym content_at) ∙ both.1)

    pub differs_there : (other_mode : Bool) → other_mode ≡ content_differs t s → other_mode ≡ has_other_mode m (t.look f)
    differs_there other_mode was = was ∙ ap (content_differs t) is ∙ ap (λ (q : List ℕ). has_other_mode m (t.look q)) content_at

    name_at : (u : Image) → u ≡ moded m f t → joined p f u ≡ with_name s t
    name_at u now = ap (joined p f) now ∙ ap (λ (q : List ℕ). joined p q (moded m q t)) (sym content_at) ∙ ap (λ (x : Step). with_name x t) (sym is)

    -- the same when the content has the mode
    pub still_makes : (u : Image) → u ≡ moded m f t → CanAct s act.MakeHard t → CanMake u p
    still_makes u now can = subst (λ (v : Image). CanMake v p) (sym now) (moded_makes m f p t (can_name can).0)

    pub still_file : (u : Image) → u ≡ moded m f t → CanAct s act.MakeHard t → is_file (u.look f) ≡ true
    still_file u now can = ap (λ (v : Image). is_file (v.look f)) now ∙ moded_is_file m f f t ∙ (can_name can).1

    -- and then the path is its name
    pub is_named : {F : Type 0} (o : Outside F) (mid new : F) {T E : Type 0} (result : Result T E) → (o.state mid).held ≡ moded m f t → o.tells mid ≡ true
        → Writes o (covers p) nowhere (written p (joined p f (o.state mid).held) (o.state mid)) mid new result → OnOk result ((o.state new).held ≡ with_name s t)
    is_named o mid new result now told w = on_ok_to result _ (λ is. ap (λ (u : State). u.held) is ∙ name_at (o.state mid).held now) (w.done told)

  module _ {F : Type 0} (o : Outside F) (sane : IsOutside o) (old mid : F) (run : ChangesOnly o nowhere (names (o.state old).held f) old mid) where
    content_moded : ChangedBy o (Put n m p) old mid
    content_moded = mode_at o sane (Put n m p) f old mid
        (λ q off. ap (λ (r : List ℕ). names (o.state old).held r q) (sym content_at) ∙ (or_parts (names (o.state old).held (stage_path n) q) false off).0) run

    -- the content's mode is set, at most
    pub mode_changed : ChangedBy o s old mid
    mode_changed = subst (λ (x : Step). ChangedBy o x old mid) (sym is) content_moded

    -- and then the path is made
    pub name_changed : (new : F) (to : State) {T E : Type 0} (result : Result T E) → o.tells mid ≡ true → Writes o (covers p) nowhere to mid new result → ChangedBy o s old new
    name_changed new to result told w =
        let loose : List ℕ → Bool = λ q. covers p q || sets (Put n m p ∷ []) (o.state old).held q in
        let whole : ChangedBy o (Put n m p) old new = keeps_then o (covers p) loose old mid new content_moded
        (keeps_wider o (covers p) nowhere (covers p) loose mid new (λ q off. off) (λ q off. refl) (one_write o sane mid new (covers p) nowhere to result told w)) in
        subst (λ (x : Step). ChangedBy o x old new) (sym is) whole
