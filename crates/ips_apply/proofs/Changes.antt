-- Runs of calls that change what one step changes.
use Rattle.std.proofs.Common.{◌≡◌, ℕ, Bool, true, false, ◌||◌, List, [], ◌∷◌, Option, Some, MatchOption, Result, refl, sym, ◌∙◌, subst}
use Rattle.std.proofs.lemmas.Bool.{or_parts, or_from}
use Rattle.ips_text.specs.Ancestry.{covers}
use Rattle.ips_outside.specs.Change.{names}
use Rattle.ips_outside.specs.State.{State, nowhere}
use Rattle.ips_outside.specs.Outside.{Outside, IsOutside, Reads}
use Rattle.ips_folder.specs.Calls.{Writes, ChangesOnly}
use Rattle.ips_steps.specs.Steps.{Step, Gone, Fresh, Mode, Put, Symlink, Hard, path_of, frees, sets}
use Rattle.ips_steps.specs.View.{sort_of}
use Rattle.ips_steps.specs.declared.step.Sort.TheVariants as sort
use Rattle.ips_folder.proofs.Runs.{begun, keeps_then, keeps_wider, one_write, one_read}
use Rattle.ips_apply.specs.Applied.{ChangedBy}

module _ {F : Type 0} (o : Outside F) (sane : IsOutside o) (s : Step) where
  pub idle : (old : F) → ChangedBy o s old old
  idle old = begun o (frees s) _ old (sane.only_now old)

  -- a call at the step's path
  pub call_at_path : (p : List ℕ) (old new : F) (to : State) {T E : Type 0} (result : Result T E) → ((q : List ℕ) → frees s q ≡ covers p q) → o.tells old ≡ true → Writes o (covers p) nowhere to old new result → ChangedBy o s old new
  call_at_path p old new to result same told w = keeps_wider o (covers p) nowhere (frees s) (λ q. frees s q || sets (s ∷ []) (o.state old).held q) old new
      (λ q off. sym (same q) ∙ off) (λ q off. refl) (one_write o sane old new (covers p) nowhere to result told w)

  -- another mode of what the step sets the mode of
  pub mode_at : (p : List ℕ) (old new : F) → ((q : List ℕ) → sets (s ∷ []) (o.state old).held q ≡ false → names (o.state old).held p q ≡ false) → ChangesOnly o nowhere (names (o.state old).held p) old new → ChangedBy o s old new
  mode_at p old new within run = keeps_wider o nowhere (names (o.state old).held p) (frees s) (λ q. frees s q || sets (s ∷ []) (o.state old).held q) old new
      (λ q off. refl) (λ q off. within q (or_parts (frees s q) _ off).1) run

  -- one act more
  pub act_more : (old mid new : F) → ChangedBy o s old mid → ((q : List ℕ) → (frees s q || sets (s ∷ []) (o.state old).held q) ≡ false → sets (s ∷ []) (o.state mid).held q ≡ false) → ChangedBy o s mid new → ChangedBy o s old new
  act_more old mid new first within last = keeps_then o (frees s) (λ q. frees s q || sets (s ∷ []) (o.state old).held q) old mid new first
      (keeps_wider o (frees s) (λ q. frees s q || sets (s ∷ []) (o.state mid).held q) (frees s) (λ q. frees s q || sets (s ∷ []) (o.state old).held q) mid new
      (λ q off. off) (λ q off. or_from (frees s q) _ (or_parts (frees s q) _ off).0 (within q off)) last)

-- a look, and then another mode
pub looked_then_set : {F : Type 0} (o : Outside F) (sane : IsOutside o) (p : List ℕ) (old mid new : F) (failure : Type 0) → Reads o old mid failure → (to : State) {T E : Type 0} (result : Result T E) → Writes o nowhere (names (o.state mid).held p) to mid new result
    → o.tells old ≡ true → ChangesOnly o nowhere (names (o.state old).held p) old new
looked_then_set o sane p old mid new failure read to result w told = keeps_then o nowhere (names (o.state old).held p) old mid new
    (one_read o sane nowhere (names (o.state old).held p) old mid failure read)
    (subst (λ (t : State). ChangesOnly o nowhere (names t.held p) mid new) read.kept (one_write o sane mid new nowhere (names (o.state mid).held p) to result (read.call.same_kind ∙ told) w))

-- a step other than a mode frees what is at and below its path
pub frees_path : (s : Step) → (sort_of s ≡ sort.Mode → ⊥) → (q : List ℕ) → frees s q ≡ covers (path_of s) q
frees_path (Gone p) other q = refl
frees_path (Fresh m p) other q = refl
frees_path (Mode m p) other q = absurd (other refl)
frees_path (Put n m p) other q = refl
frees_path (Symlink p target) other q = refl
frees_path (Hard p to) other q = refl

-- what is known of an option that is there
pub known : {A : Type 0} (o : Option A) (x : A) (P : Type 0) (Q : A → Type 0) → o ≡ Some x → MatchOption o P Q → Q x
known {A = A} o x P Q is h = subst (λ (y : Option A). MatchOption y P Q) is h

-- a step behind a call that only reads
pub read_then_changed : {F : Type 0} (o : Outside F) (sane : IsOutside o) (s : Step) (old mid new : F) (failure : Type 0) → Reads o old mid failure → ChangedBy o s mid new → ChangedBy o s old new
read_then_changed o sane s old mid new failure read step =
    let loose : List ℕ → Bool = λ q. frees s q || sets (s ∷ []) (o.state old).held q in
    keeps_then o (frees s) loose old mid new (one_read o sane (frees s) loose old mid failure read)
    (subst (λ (t : State). ChangesOnly o (frees s) (λ q. frees s q || sets (s ∷ []) t.held q) mid new) read.kept step)
