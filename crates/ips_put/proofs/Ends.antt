-- What is said of attempts is kept while what was stopped is brought to its end.
use Rattle.std.proofs.Common.{◌≡◌, ◌≢◌, Bool, false, List, Option, Some, None, refl, sym, ap, subst, ◌∙◌, inl, inr, ◌⊎◌, ⊎_elim}
use Rattle.ips_text.proofs.Ancestry.{covers-self}
use Rattle.ips_outside.specs.Image.{Entry, Image}
use Rattle.ips_outside.specs.State.{State, IsSettled, MayLeave, settled}
use Rattle.ips_outside.specs.Outside.{Outside, IsOutside, Elapses}
use Rattle.ips_outside.proofs.Images.{image_ext}
use Rattle.ips_folder.specs.Calls.{Throughout}
use Rattle.ips_folder.proofs.Runs.{started, goes_on, joins, weaker}
use Rattle.ips_steps.specs.Private.{gate_name, visible}
use Rattle.ips_steps.specs.Owed.{Owes, Old, Open, FolderOwes}
use Rattle.ips_steps.proofs.PrivateNames.{gate_private}
use Rattle.ips_journal.specs.Text.{journal_text}
use Rattle.ips_commit.specs.Pending.{IsBare, HasCommitted}
use Rattle.ips_sends.specs.Keeps.{ShowsAtEnd, Shut, Forward, ShowsSomeAtEnd, Keeps}
use Rattle.ips_sends.proofs.Stops.{synced, owed}

-- nothing stands at the gate where nothing stands at the updater's own names
pub bare_shut : (t : Image) → IsBare t → t.look gate_name ≡ None
bare_shut t bare = bare gate_name (gate_private gate_name (covers-self gate_name))

-- what a folder with nothing touched owes, by what it holds
owes_now : (b : Image) (a : Option Image) (due : Bool) (s : State) → IsSettled s → Owes journal_text b a due s.held → FolderOwes journal_text b a due s
owes_now b a due s clean owes = record {
  now = owes;
  left = λ c may. subst (Owes journal_text b a due) (sym (image_ext c s.held (λ q. may.agrees.look q (clean.whole q) (clean.modes q)) (λ x y. may.agrees.same x y (clean.whole x) (clean.whole y)))) owes;
}

module _ {F : Type 0} (o : Outside F) (sane : IsOutside o) (Q : Image → Type 0) where
  abbrev Kept : State → Type 0
  Kept = Keeps journal_text Q

  -- a call behind which the state is as before, or settled
  pub call_kept : (old new : F) → Elapses o old new → (o.state new ≡ o.state old) ⊎ (o.state new ≡ settled (o.state old)) → Kept (o.state old) → Throughout o old new Kept
  call_kept old new time is kept =
      goes_on o old old new Kept (started o old Kept (sane.only_now old) kept) time
      (⊎_elim (λ same. subst Kept (sym same) kept) (λ safe. subst Kept (sym safe) (synced journal_text Q (o.state old) kept)) is)

  pub here_kept : (old : F) → Kept (o.state old) → Throughout o old old Kept
  here_kept old kept = started o old Kept (sane.only_now old) kept

  -- a recovery
  pub recovery_kept : (old new : F) → IsSettled (o.state old) → ((b : Image) (a : Option Image) (due : Bool) → FolderOwes journal_text b a due (o.state old) → Throughout o old new (FolderOwes journal_text b a due))
      → Kept (o.state old) → Throughout o old new Kept
  recovery_kept old new clean still kept = let n = kept.now in go n.0 n.1 n.2
    where
      go : (u : Image) → ShowsAtEnd journal_text (o.state old).held u → Q u → Throughout o old new Kept
      go u (Shut gone seen) is =
          weaker o old new (FolderOwes journal_text u None false) Kept (λ s owes. owed journal_text Q u None false s owes (λ _. is) (λ x e. cc))
          (still u None false (owes_now u None false (o.state old) clean (Old gone seen)))
      go u (Forward steps marks open_gate) is =
          weaker o old new (FolderOwes journal_text u (Some u) false) Kept (λ s owes. owed journal_text Q u (Some u) false s owes (λ _. is) (λ x e. let same : u ≡ x = cc in subst Q same is))
          (still u (Some u) false (owes_now u (Some u) false (o.state old) clean (Open steps marks open_gate)))

  pub then_kept : (old mid new : F) → Throughout o old mid Kept → (Kept (o.state mid) → Throughout o mid new Kept) → Throughout o old new Kept
  then_kept old mid new first second = joins o old mid new Kept first (second (first.each (o.state mid) (sane.counts_now mid (o.clock old) first.later)))

-- what a recovery leaves
pub left_safe : (s : State) (t : Image) → (t.look gate_name ≡ None → HasCommitted (visible t) s) → (t.look gate_name ≢ None → (a : Image) × HasCommitted a s) → IsSettled s × (s.held.look gate_name ≡ None)
left_safe s t cleared done = go (t.look gate_name) refl
  where
    go : (e : Option Entry) → t.look gate_name ≡ e → IsSettled s × (s.held.look gate_name ≡ None)
    go None shut = let d = cleared shut in (d.safe, bare_shut s.held d.bare)
    go (Some e) there = let d = done (λ none. cc) in (d.1.safe, bare_shut s.held d.1.bare)

pub settled_is : (s : State) → IsSettled (settled s)
settled_is s = record { whole = λ q. refl; modes = λ q. refl }
