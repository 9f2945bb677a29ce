-- One more step behind a list of them.
use Rattle.std.proofs.Common.{◌≡◌, ℕ, Bool, true, false, ◌||◌, List, [], ◌∷◌, ◌++◌, length, drop, unwrap_or, refl, sym, ◌∙◌, ap, subst}
use Rattle.std.proofs.Math.Seq.{drop-append_seam, drop-length}
use Rattle.std.proofs.lemmas.Bool.{and_parts, or_parts, or_from}
use Rattle.ips_outside.specs.Image.{Image}
use Rattle.ips_outside.specs.Outside.{Outside, IsOutside, Reads}
use Rattle.ips_steps.specs.Steps.{Step, frees, freed, after, feasible, sets}
use Rattle.ips_steps.specs.Journal.{step_allowed, allowed}
use Rattle.ips_steps.proofs.Linked.{after_append, feasible_append, sets_append}
use Rattle.ips_steps.proofs.PrivateNames.{journal_kept, same_bytes}
use Rattle.ips_folder.proofs.Runs.{keeps_then, keeps_wider, one_read}
use Rattle.ips_journal.specs.Reading.{journal_of}
use Rattle.ips_outside.proofs.Moments.{agrees_self}
use Rattle.ips_apply.specs.Applied.{ChangedBy, ChangedByAll, AgreesBut, AreLaid}

freed_more : (steps : List Step) (s : Step) (q : List ℕ) → freed (steps ++ s ∷ []) q ≡ false → (freed steps q ≡ false) × (frees s q ≡ false)
freed_more [] s q off = (refl, (or_parts (frees s q) false off).0)
freed_more (x ∷ rest) s q off =
    let parts = or_parts (frees x q) _ off in
    let more = freed_more rest s q parts.1 in
    (or_from (frees x q) _ parts.0 more.0, more.1)

sets_more : (steps : List Step) (s : Step) (t : Image) (q : List ℕ) → sets (steps ++ s ∷ []) t q ≡ false → (sets steps t q ≡ false) × (sets (s ∷ []) (after steps t) q ≡ false)
sets_more steps s t q off = or_parts (sets steps t q) (sets (s ∷ []) (after steps t) q) (sym (sets_append steps (s ∷ []) t q) ∙ off)

pub allowed_behind : (front steps : List Step) → allowed (front ++ steps) ≡ true → allowed steps ≡ true
allowed_behind [] steps may = may
allowed_behind (x ∷ front) steps may = allowed_behind front steps (and_parts (step_allowed x) _ may).1

module _ {F : Type 0} (o : Outside F) (sane : IsOutside o) where
  -- a call that only reads, behind steps that are laid
  pub laid_then_read : (steps : List Step) (old mid new : F) (failure : Type 0) → AreLaid o steps old mid → Reads o mid new failure → AreLaid o steps old new
  laid_then_read steps old mid new failure done read = record {
    can = done.can;
    held = ap (λ s. s.held) read.kept ∙ done.held;
    moments = keeps_then o (freed steps) _ old mid new done.moments (one_read o sane (freed steps) _ mid new failure read);
  }

  -- nothing moves the journal
  pub journal_stays : (steps : List Step) (old new : F) → allowed steps ≡ true → AreLaid o steps old new → journal_of (o.state new).held ≡ journal_of (o.state old).held
  journal_stays steps old new may done =
      ap (λ bytes. unwrap_or bytes []) (same_bytes _ _ (done.moments.now.agrees.but_mode _ (journal_kept steps may)))

  -- what one more step changes
  pub changed_more : (steps : List Step) (s : Step) (old mid new : F) → AreLaid o steps old mid → ChangedBy o s mid new → ChangedByAll o (steps ++ s ∷ []) old new
  changed_more steps s old mid new done step =
      let t = (o.state old).held in
      let all = steps ++ s ∷ [] in
      let loose : List ℕ → Bool = λ q. freed all q || sets all t q in
      keeps_then o (freed all) loose old mid new
      (keeps_wider o (freed steps) (λ q. freed steps q || sets steps t q) (freed all) loose old mid (λ q off. (freed_more steps s q off).0)
      (λ q off. let parts = or_parts (freed all q) _ off in or_from (freed steps q) _ (freed_more steps s q parts.0).0 (sets_more steps s t q parts.1).0) done.moments)
      (keeps_wider o (frees s) (λ q. frees s q || sets (s ∷ []) (o.state mid).held q) (freed all) loose mid new (λ q off. (freed_more steps s q off).1)
      (λ q off. let parts = or_parts (freed all q) _ off in or_from (frees s q) _ (freed_more steps s q parts.0).1 (ap (λ (u : Image). sets (s ∷ []) u q) done.held ∙ (sets_more steps s t q parts.1).1)) step)

  -- what is held, where no step was begun behind those that are laid
  pub held_none : (steps : List Step) (old new : F) → AreLaid o steps old new → AgreesBut (drop (length steps) steps) (after steps (o.state old).held) (o.state new).held
  held_none steps old new done =
      let t = after steps (o.state old).held in
      subst (λ (more : List Step). AgreesBut more t (o.state new).held) (sym (drop-length steps)) (subst (AgreesBut [] t) (sym done.held) (agrees_self _ _ t))

  -- and where one was
  pub held_one : (steps : List Step) (s : Step) (old mid new : F) → AreLaid o steps old mid → ChangedBy o s mid new → AgreesBut (drop (length steps) (steps ++ s ∷ [])) (after steps (o.state old).held) (o.state new).held
  held_one steps s old mid new done step =
      let t = after steps (o.state old).held in
      let apart : (q : List ℕ) → freed (s ∷ []) q ≡ false → frees s q ≡ false = λ q off. (or_parts (frees s q) false off).0 in
      let agrees = step.now.agrees in
      let here : AgreesBut (s ∷ []) (o.state mid).held (o.state new).held = record {
        look = λ q off unset. agrees.look q (apart q off) (or_from (frees s q) (sets (s ∷ []) (o.state mid).held q) (apart q off) unset);
        but_mode = λ q off. agrees.but_mode q (apart q off);
        same = λ a b f g. agrees.same a b (apart a f) (apart b g);
      } in
      subst (λ (more : List Step). AgreesBut more t (o.state new).held) (sym (drop-append_seam steps (s ∷ []))) (subst (λ (u : Image). AgreesBut (s ∷ []) u (o.state new).held) done.held here)

  pub laid_one_more : (steps : List Step) (s : Step) (old mid new : F) → AreLaid o steps old mid → feasible (s ∷ []) (o.state mid).held ≡ true
      → (o.state new).held ≡ after (s ∷ []) (o.state mid).held → ChangedBy o s mid new → AreLaid o (steps ++ s ∷ []) old new
  laid_one_more steps s old mid new done can held step = record {
    can = feasible_append steps (s ∷ []) (o.state old).held done.can (ap (feasible (s ∷ [])) (sym done.held) ∙ can);
    held = held ∙ ap (after (s ∷ [])) done.held ∙ sym (after_append steps (s ∷ []) (o.state old).held);
    moments = changed_more steps s old mid new done step;
  }
