-- A change that is put: staged, and then committed.
use Rattle.std.proofs.Common.{◌≡◌, ◌≢◌, ℕ, ◌<◌, ◌≤◌, ◌^◌, ◌+◌, Bool, true, false, ◌||◌, List, [], Option, Some, None, is_none, Result, Ok, Err, ◌⊎◌, inl, inr, ⊎_elim, refl, sym, ap, subst, ◌∙◌, arith, slice_get}
use Rattle.ips_text.specs.Ancestry.{covers, same_path}
use Rattle.ips_text.specs.declared.refusal.Or.{Or}
use Rattle.ips_text.specs.declared.refusal.Or.TheVariants.{Bad, OutOfMemory}
use Rattle.ips_text.specs.Reading.{IfBad}
use Rattle.ips_outside.specs.Image.{Entry, Image, IsImage, is_dir, file_bytes, dir_or_none}
use Rattle.ips_outside.specs.State.{State}
use Rattle.ips_outside.specs.Outside.{Outside, IsOutside, HasCause, Rose}
use Rattle.ips_folder.specs.Calls.{CanMake, Throughout}
use Rattle.ips_folder.proofs.Runs.{joins}
use Rattle.ips_steps.specs.Steps.{Step, Stage, all_laid}
use Rattle.ips_steps.specs.Private.{records_name, journal_name, gate_name, visible}
use Rattle.ips_steps.specs.Owed.{FolderOwes}
use Rattle.ips_steps.proofs.PrivateNames.{gate_parent}
use Rattle.ips_journal.specs.Text.{journal_text}
use Rattle.ips_journal.specs.declared.staged.Staged.{Staged}
use Rattle.ips_journal.specs.declared.staged.Staged.TheVariants.{Payload, Bytes, Standing}
use Rattle.ips_digest.specs.declared.name.PayloadName.{PayloadName}
use Rattle.ips_repo.specs.declared.fault.RepoFault.{RepoFault}
use Rattle.ips_commit.specs.Answers.{IsToldOrMasked}
use Rattle.ips_commit.specs.Pending.{HasCommitted, HasNoOtherMark}
use Rattle.ips_contents.specs.Contents.{StagedContents, SaysOfStage, AreSeen}
use Rattle.ips_commit.specs.Staging.{IsStaged, HasStaged}
use Rattle.ips_contents.specs.declared.fault.StageFault.{StageFault}
use Rattle.ips_contents.specs.declared.fault.StageFault.TheVariants as stage
use Rattle.ips_commit.specs.declared.fault.CommitFault.{CommitFault}
use Rattle.ips_commit.specs.declared.fault.CommitFault.TheVariants as commit
use Rattle.ips_put.specs.Putting.{IsGiven, AreGiven, HasBytes, IsMeant, IsUnput, Puts, unstaged_as}

-- ---- the gate can be made where a change stands ready

above_journal : covers records_name journal_name ≡ true
unfolding records_name journal_name
above_journal = refl

not_journal : same_path records_name journal_name ≡ false
unfolding records_name journal_name
not_journal = refl

stands_above : (e : Option Entry) (text : List ℕ) (d : Bool) → (is_none e || d) ≡ true → file_bytes e ≡ Some text → d ≡ true
stands_above None text d above there = cc
stands_above (Some e) text d above there = above

pub can_open : (steps : List Step) (a : Image) (s : State) → IsImage s.held → IsStaged steps a s → CanMake s.held gate_name
can_open steps a s formed staged = record {
  absent = staged.shut;
  parent = ap (dir_or_none s.held) gate_parent
      ∙ stands_above (s.held.look journal_name) _ (is_dir (s.held.look records_name)) (formed.below_dirs records_name journal_name above_journal not_journal) staged.ready.journal;
}

pub unmarked : (steps : List Step) (a : Image) (s : State) → IsStaged steps a s → HasNoOtherMark s.held []
unmarked steps a s staged = λ q is others. staged.unmarked q is

-- ---- no payload is staged, and nothing fails

pub no_payload : (tells : Bool) (repository : Image) (publisher : List ℕ) (staged : List Staged) (name : PayloadName) (why : RepoFault) → AreGiven staged → tells ≡ true
    → SaysOfStage tells repository publisher staged (stage.Payload name why) → ⊥
no_payload tells repository publisher staged name why given told says = let first = says.1 told in given first.at (Payload name) first.stands

pub never_rose : Rose 0 0 → ⊥
never_rose rose = ⊎_elim (λ less. omega (arith, less)) (λ last. omega (arith, last)) rose

-- only the folder fails, or memory runs out
abbrev pub OnlyFolder : Or StageFault → Type 0
OnlyFolder (Bad stage.FolderFault) = Unit {0}
OnlyFolder (Bad stage.SourceFault) = ⊥
OnlyFolder (Bad (stage.Payload name why)) = ⊥
OnlyFolder OutOfMemory = Unit {0}

pub only_folder : {T : Type 0} (repository : Image) (publisher : List ℕ) (staged : List Staged) (e : Or StageFault) → AreGiven staged → IfBad {X = T} (Err e) (SaysOfStage true repository publisher staged)
    → {B : Type 0} → HasCause 0 0 (IsToldOrMasked 0 0 ((let r : Result T (Or StageFault) = Err e in r) ≡ Err (Bad stage.SourceFault)) B) → OnlyFolder e
only_folder repository publisher staged (Bad stage.FolderFault) given says cause = tt
only_folder repository publisher staged (Bad stage.SourceFault) given says cause = never_rose (cause.rose (inl refl))
only_folder repository publisher staged (Bad (stage.Payload name why)) given says cause = no_payload true repository publisher staged name why given refl says
only_folder repository publisher staged OutOfMemory given says cause = tt

pub unstaged_cause : {T : Type 0} (before now : ℕ) (e : Or StageFault) → OnlyFolder e → HasCause before now ((let r : Result T (Or StageFault) = Err e in r) ≡ Err (Bad stage.FolderFault))
    → HasCause before now (((let r : Result (Unit {0}) (Or CommitFault) = Err (unstaged_as e) in r) ≡ Err (Bad commit.Unchanged)) ⊎ ((let r : Result (Unit {0}) (Or CommitFault) = Err (unstaged_as e) in r) ≡ Err (Bad commit.Unfinished)))
unstaged_cause before now (Bad stage.FolderFault) only cause = record { later = cause.later; rose = λ is. cause.rose refl; steady = λ not. absurd (not (inl refl)) }
unstaged_cause before now (Bad stage.SourceFault) only cause = absurd only
unstaged_cause before now (Bad (stage.Payload name why)) only cause = absurd only
unstaged_cause before now OutOfMemory only cause = record { later = cause.later; rose = λ is. ⊎_elim (λ a. cc) (λ b. cc) is; steady = λ not. cause.steady (λ is. cc) }

-- ---- what is meant

pub given_bytes : (tells : Bool) (repository : Image) (publisher : List ℕ) (t : Image) (staged : List Staged) (contents : Stage) → AreGiven staged → StagedContents tells repository publisher t staged contents
    → (n : ℕ) (s : Staged) → slice_get staged n ≡ Some s → HasBytes s (contents n)
given_bytes tells repository publisher t staged contents given are n (Payload name) at = absurd (given n (Payload name) at)
given_bytes tells repository publisher t staged contents given are n (Bytes bytes) at = let w = are n (Bytes bytes) at in w.1 ∙ ap (λ (b : List ℕ). Some b) w.2
given_bytes tells repository publisher t staged contents given are n (Standing path) at = absurd (given n (Standing path) at)

pub meant_by : (tells : Bool) (repository : Image) (publisher : List ℕ) (steps : List Step) (staged : List Staged) (t : Image) (s : State) → AreGiven staged → (h : HasStaged tells repository publisher steps staged t s)
    → IsMeant steps staged t (visible (all_laid h.contents steps t))
meant_by tells repository publisher steps staged t s given h = record { contents = h.contents; are = given_bytes tells repository publisher t staged h.contents given h.are; is = refl }

-- ---- what is put

module _ {F : Type 0} (o : Outside F) (Means : Image → Type 0) (old : F) where
  pub put_none : (new : F) → Throughout o old new (FolderOwes journal_text (visible (o.state old).held) None false) → Puts o Means false old new
  put_none new owed = record { after = None; is_meant = tt; owed = owed; done = λ is. cc }

  pub put_ready : (mid new : F) (a : Image) (b : Bool) → Means a → Throughout o old mid (FolderOwes journal_text (visible (o.state old).held) (Some a) false) → visible (o.state mid).held ≡ visible (o.state old).held
      → Throughout o mid new (FolderOwes journal_text (visible (o.state mid).held) (Some a) false) → (b ≡ true → HasCommitted a (o.state new)) → Puts o Means b old new
  put_ready mid new a b meant staged seen committed done = record {
    after = Some a;
    is_meant = meant;
    owed = joins o old mid new (FolderOwes journal_text (visible (o.state old).held) (Some a) false) staged
        (subst (λ (t : Image). Throughout o mid new (FolderOwes journal_text t (Some a) false)) seen committed);
    done = λ is. (a, refl, done is);
  }

-- nothing is put from the updater's own names
pub seen_given : (staged : List Staged) → AreGiven staged → AreSeen staged
seen_given staged given n (Payload name) at = absurd (given n (Payload name) at)
seen_given staged given n (Bytes bytes) at = tt
seen_given staged given n (Standing path) at = absurd (given n (Standing path) at)

-- why nothing is put, where it isn't staged
pub unstaged_sound : (e : Or StageFault) → IfBad {X = Unit {0}} (Err (unstaged_as e)) (λ why. (why ≡ commit.Unchanged) ⊎ (why ≡ commit.Unfinished))
unstaged_sound (Bad stage.FolderFault) = inl refl
unstaged_sound (Bad stage.SourceFault) = inl refl
unstaged_sound (Bad (stage.Payload name why)) = inl refl
unstaged_sound OutOfMemory = tt

-- once the gate's call was made, it isn't answered that nothing is put
pub unput_begun : (why : CommitFault) → IsUnput {T = Unit {0}} (Err (Bad why)) → (why ≡ commit.Unchanged → ⊥) → ⊥
unput_begun commit.Unchanged unput begun = begun refl
unput_begun commit.Unfinished unput begun = unput
unput_begun (commit.BadJournal line) unput begun = unput
