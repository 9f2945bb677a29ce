use Rattle.std.proofs.Common.{◌≡◌, ℕ, Bool, List, ◌∙◌, ap, subst, ◌||◌}
use Rattle.ips_steps.specs.Private.{records_name}
use Rattle.ips_text.specs.Ancestry.{is_below, same_path}
use Rattle.ips_rehearse.proofs.Paths.{at_records}
use Rattle.ips_outside.specs.State.{State}
use Rattle.ips_rehearse.specs.Going.{IsFound}
use Rattle.std.specs.List.{list_any, All}
use Rattle.ips_outside.specs.Tearing.{in_set}
use Rattle.ips_steps.specs.View.{step_of}
use Rattle.ips_rehearse.specs.Asked.{gives_worked, goes_through, works_in}
use Rattle.ips_rehearse.specs.Plans.{is_worked, is_worked_first, is_made, is_passed}
use Rattle.ips_rehearse.proofs.Keys.{of_none, none_in, of_one}
use Rattle.ips_rehearse.proofs.rehearsing.ask.Goals as goal

pub returns-clause-worked : goal.returns-clause-worked
returns-clause-worked g c = λ m gives.
    let steps = c.args.steps.now in
    let worked : in_set c.gather.new.worked ≡ is_worked steps = (λ i q. of_one (list_any (λ s. works_in q (step_of s)) steps) (same_path records_name q) (in_set c.gather.new.worked q) (in_set c.add.new.paths q) (in_set c.new-worked.result q)
    (c.in_ok-gather.ensures.worked q) (c.in_ok-add.ensures q ∙ at_records (λ p. same_path p q || in_set c.new-worked.result q)) (none_in q c.new-worked.result.keys c.new-worked.ensures.empty) i) in
    let passed : in_set c.gather.new.passed ≡ is_passed steps = (λ i q. of_one (list_any (λ s. goes_through q (step_of s)) steps) (is_below q records_name) (in_set c.gather.new.passed q) (in_set c.add_above.new.above q) (in_set c.new-passed.result q)
    (c.in_ok-gather.ensures.passed q) (c.in_ok-add_above.ensures q ∙ at_records (λ p. is_below q p || in_set c.new-passed.result q)) (none_in q c.new-passed.result.keys c.new-passed.ensures.empty) i) in
    c.add_going.ensures.kept m (c.add_standing.ensures.kept m (c.modes_of-modes.ensures.worked m
    ∙ ap (λ (w : List ℕ → Bool). list_any (λ s. gives_worked w (in_set c.gather.new.passed) m (step_of s)) steps) worked ∙ ap (λ (w : List ℕ → Bool). list_any (λ s. gives_worked (is_worked steps) w m (step_of s)) steps) passed ∙ gives))

pub returns-clause-standing : goal.returns-clause-standing
returns-clause-standing g c = λ told q m f works stands.
    let steps = c.args.steps.now in
    c.add_going.ensures.kept m (c.in-Ok.ensures.found told q m f
    (of_none q c.new-first.result.keys (is_worked_first steps q) (in_set c.gather_first.new.first q) c.new-first.ensures.empty (c.in_ok-gather_first.ensures q) ∙ works)
    stands)

pub returns-clause-going : goal.returns-clause-going
returns-clause-going g c = λ told.
    let steps = c.args.steps.now in
    let same : in_set c.gather.new.made ≡ is_made steps = (λ i q. of_none q c.new-made.result.keys (is_made steps q) (in_set c.gather.new.made q) c.new-made.ensures.empty (c.in_ok-gather.ensures.made q) i) in
    let o = g.F.Source.outside in
    subst (λ (made : List ℕ → Bool). All (IsFound (o.state c.args.folder.now).held made c.add_going.new.modes.has) steps) same
    (subst (λ (s : State). All (IsFound s.held (in_set c.gather.new.made) c.add_going.new.modes.has) steps) c.add_standing.ensures.reads.kept (c.in_ok-add_going.ensures.found (c.add_standing.ensures.reads.call.same_kind ∙ told)))
