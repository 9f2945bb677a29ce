-- A step carried out act by act.
use Rattle.std.proofs.Common.{◌≡◌, ℕ, ◌+◌, ◌<◌, ◌≤◌, Bool, true, [], ◌∷◌, length, slice_get, Some, refl, sym, ◌∙◌, ap, subst, arith}
use Rattle.ips_outside.specs.Image.{Image}
use Rattle.ips_outside.specs.Outside.{Outside, IsOutside}
use Rattle.ips_steps.specs.Steps.{Step, after, feasible, sets}
use Rattle.ips_steps.specs.View.{sort_of}
use Rattle.ips_steps.specs.declared.step.Sort.{Sort}
use Rattle.ips_steps.specs.declared.step.Sort.TheVariants as sort
use Rattle.ips_kinds.specs.Acts.{acts, tally_after}
use Rattle.ips_kinds.specs.declared.kind.Act.{Act}
use Rattle.ips_kinds.specs.declared.kind.Act.TheVariants as act
use Rattle.ips_apply.specs.Acting.{acted, CanAct}
use Rattle.ips_apply.specs.Applied.{ChangedBy}
use Rattle.ips_apply.specs.Judging.{content_differs}
use Rattle.ips_apply.proofs.Changes.{idle, act_more}
use Rattle.ips_apply.proofs.Walks.{until, act_next, act_can, act_within, act_content, act_last}

-- So many acts of the step are done.
pub record InTurn {F : Type 0} (o : Outside F) (s : Step) (start now : F) (turn : ℕ) : Type 0 where
  pub same_kind : o.tells now ≡ o.tells start
  pub faults : o.faults now ≡ o.faults start
  pub changes : o.changes start ≤ o.changes now
  pub held : o.tells start ≡ true → (o.state now).held ≡ until s turn (o.state start).held
  pub moments : o.tells start ≡ true → ChangedBy o s start now

pub first_turn : {F : Type 0} (o : Outside F) (sane : IsOutside o) (s : Step) (start : F) → InTurn o s start start 0
first_turn o sane s start = record { same_kind = refl; faults = refl; changes = omega arith; held = λ told. refl; moments = λ told. idle o sane s start }

module _ {F : Type 0} (o : Outside F) (sane : IsOutside o) (s : Step) (start now : F) (turn : ℕ) (c : InTurn o s start now turn) (can : o.tells start ≡ true → feasible (s ∷ []) (o.state start).held ≡ true) where
  back : o.tells now ≡ true → o.tells start ≡ true
  back told = sym c.same_kind ∙ told

  module _ (a : Act) (is : slice_get (acts (sort_of s)) turn ≡ Some a) (other : a ≡ act.Finished → ⊥) where
    pub can_act : o.tells now ≡ true → CanAct s a (o.state now).held
    can_act told = subst (CanAct s a) (sym (c.held (back told))) (act_can s (o.state start).held turn a is (can (back told)) other)

    -- the content has the mode that it had
    pub content_stays : (other_mode : Bool) → (o.tells start ≡ true → other_mode ≡ content_differs (o.state start).held s) → o.tells now ≡ true → other_mode ≡ content_differs (o.state now).held s
    content_stays other_mode was told =
        was (back told) ∙ sym (act_content s (o.state start).held turn a is (can (back told)) other) ∙ ap (λ (t : Image). content_differs t s) (sym (c.held (back told)))

    -- a call that failed may have done a part of the act
    pub changed_so_far : (new : F) → (o.tells now ≡ true → ChangedBy o s now new) → o.tells start ≡ true → ChangedBy o s start new
    changed_so_far new step told = act_more o sane s start now new (c.moments told)
        (λ q off. ap (λ (t : Image). sets (s ∷ []) t q) (c.held told) ∙ act_within s (o.state start).held turn a is (can told) other q off) (step (c.same_kind ∙ told))

    pub next_turn : (new : F) → o.tells new ≡ o.tells now → o.faults new ≡ o.faults now → o.changes now ≤ o.changes new → (o.tells now ≡ true → (o.state new).held ≡ acted s a (o.state now).held)
        → (o.tells now ≡ true → ChangedBy o s now new) → InTurn o s start new (turn + 1)
    next_turn new same_kind faults made done step = record {
      same_kind = same_kind ∙ c.same_kind;
      faults = faults ∙ c.faults;
      changes = omega (arith, c.changes, made);
      held = λ told. done (c.same_kind ∙ told) ∙ ap (acted s a) (c.held told) ∙ sym (act_next s (o.state start).held turn a is);
      moments = changed_so_far new step;
    }

  -- where the acts are finished the step is laid
  pub last_turn : slice_get (acts (sort_of s)) turn ≡ Some act.Finished → o.tells start ≡ true → (o.state now).held ≡ after (s ∷ []) (o.state start).held
  last_turn is told = c.held told ∙ act_last s (o.state start).held turn (can told) is

-- each sort has an act
pub has_acts : (r : Sort) → 0 < length (acts r)
has_acts sort.Gone = omega arith
has_acts sort.Fresh = omega arith
has_acts sort.Mode = omega arith
has_acts sort.Put = omega arith
has_acts sort.Link = omega arith
has_acts sort.Hard = omega arith

-- an act before the last leaves the tally
pub tally_stays : (a : Act) (n : ℕ) → (a ≡ act.Finished → ⊥) → tally_after a n ≡ n
tally_stays act.Clear n other = refl
tally_stays act.MakeDir n other = refl
tally_stays act.MakeLink n other = refl
tally_stays act.MakeHard n other = refl
tally_stays act.SetMode n other = refl
tally_stays act.Finished n other = absurd (other refl)
