-- A staged change committed, phase by phase.
use Rattle.std.proofs.Common.{◌≡◌, ℕ, inl, inr, true, false, List, [], Some, refl, ◌∙◌, arith}
use Rattle.ips_text.specs.Ancestry.{covers}
use Rattle.ips_outside.specs.Image.{Image}
use Rattle.ips_outside.specs.State.{IsSettled, nowhere}
use Rattle.ips_outside.specs.Outside.{Outside, IsOutside}
use Rattle.ips_folder.specs.Calls.{ChangesOnly, Throughout}
use Rattle.ips_folder.proofs.Runs.{joins, weaker}
use Rattle.ips_steps.specs.Steps.{Step}
use Rattle.ips_steps.specs.Private.{gate_name, mark_name, visible}
use Rattle.ips_steps.specs.Owed.{IsOpen, FolderOwes}
use Rattle.ips_steps.proofs.PrivateNames.{gate_private}
use Rattle.ips_kinds.specs.Tallies.{Carrier}
use Rattle.ips_journal.specs.Text.{journal_text}
use Rattle.ips_commit.specs.Due.{DueOnceOpen}
use Rattle.ips_commit.specs.Pending.{HasNoOtherMark}
use Rattle.ips_commit.specs.Staging.{IsStaged}
use Rattle.ips_commit.specs.Phases.{Opens, IsUnderWay}
use Rattle.ips_commit.specs.Recovering.{AreLaidTo, IsJournalled}
use Rattle.ips_commit.proofs.CutOff.{none_laid, as_own, laid_alike, content_else, stage_else}
use Rattle.ips_commit.proofs.OwnNames.{unmarked_gate}
use Rattle.ips_commit.proofs.Marked.{mark_own}
use Rattle.ips_commit.proofs.Owing.{ready_text, owes_less, opening_owed, gate_opened}

-- where no mark stood and the gate was opened, the first step can be laid
pub opened_way : {F : Type 0} (o : Outside F) (old mid : F) → HasNoOtherMark (o.state old).held [] → ChangesOnly o (covers gate_name) nowhere old mid → Opens o old mid → IsSettled (o.state mid) → IsUnderWay (o.state mid) 0
opened_way o old mid unmarked run opens clean = record {
  safe = clean;
  gate = opens.is_open.stands;
  marked = record { stand = λ i lt. absurd (omega (arith, lt)); last = none (mark_name 1) (mark_own 1) refl };
  others = none;
}
  where
    none : HasNoOtherMark (o.state mid).held []
    none q b off = run.now.agrees.look q (unmarked_gate q b) refl ∙ unmarked q b off

module _ {F : Type 0} (o : Outside F) (sane : IsOutside o) where
  module _ (steps : List Step) (a : Image) (old : F) (told : o.tells old ≡ true) (staged : IsStaged steps a (o.state old)) where
    abbrev before : Image
    before = visible (o.state old).held

    pub opening : (mid : F) → ChangesOnly o (covers gate_name) nowhere old mid → Throughout o old mid (FolderOwes journal_text before (Some a) false)
    opening mid run = opening_owed o sane steps 0 a old mid told staged.ready staged.safe run

    pub none_laid_yet : (mid : F) → ChangesOnly o (covers gate_name) nowhere old mid → (counts : List Carrier) → AreLaidTo steps 0 (o.state old).held (o.state mid).held counts counts
    none_laid_yet mid run counts = none_laid steps (o.state old).held (o.state mid).held counts (as_own (covers gate_name) gate_private (o.state old).held (o.state mid).held run.now.agrees)

    module _ (mid : F) (kind : o.tells mid ≡ o.tells old) (run : ChangesOnly o (covers gate_name) nowhere old mid) (opens : Opens o old mid) (clean : IsSettled (o.state mid)) where
      pub is_open : IsOpen journal_text steps 0 a (o.state mid).held
      is_open = gate_opened o sane steps 0 a old mid told staged.ready staged.safe run opens

      -- so many steps are laid, told of the image before
      pub laid_since : (n : ℕ) (u : Image) (before now : List Carrier) → AreLaidTo steps n (o.state mid).held u before now → AreLaidTo steps n (o.state old).held u before now
      laid_since n u counts now are = laid_alike (covers gate_name) gate_private (λ k. (content_else k).1) stage_else.1 steps n (o.state old).held (o.state mid).held u counts now staged.ready.lists.names run.now.agrees are

      -- from then on the new image is due
      module _ (new : F) (owed : Throughout o mid new (FolderOwes journal_text before (Some a) true)) where
        pub owed_since : Throughout o old new (FolderOwes journal_text before (Some a) false)
        owed_since = joins o old mid new (FolderOwes journal_text before (Some a) false) (opening mid run)
            (weaker o mid new (FolderOwes journal_text before (Some a) true) (FolderOwes journal_text before (Some a) false)
            (λ s owes. record { now = owes_less before a s.held owes.now; left = λ c may. owes_less before a c (owes.left c may) }) owed)

        pub due_since : DueOnceOpen o before a old new
        due_since = inr (record { before = opens.before; since = mid; not_yet = opens.not_yet; written = opens.written; call = opens.call; sync = opens.sync; is_open = opens.is_open; owed = owed })

      -- the journal lists the steps, and none is told to be laid
      pub is_journalled : IsJournalled (o.state mid).held steps 0
      is_journalled = record {
        lists = is_open.ready.lists;
        text_is = ready_text steps 0 a (o.state mid).held is_open.ready;
        marked = record { stand = is_open.ready.marked.stand; last = inl is_open.ready.marked.last };
      }
