use Rattle.std.proofs.Common.{sym, ◌∙◌}
use Rattle.std.proofs.lemmas.Bool.{true≢false}
use Rattle.ips_conflict.proofs.Places.{at_index}
use Rattle.ips_conflict.proofs.Found.{meets_is, not_of_sort, has_place_there}
use Rattle.ips_conflict.proofs.earliest.meets.Goals as goal

pub returns-then-not-is_of_sort : goal.returns-then-not-is_of_sort
returns-then-not-is_of_sort c = (
  λ h. absurd (true≢false (sym h)),
  λ m. absurd (not_of_sort c.args.placed.now c.args.sort c.args.test c.args.j c.index-placed-j.result (at_index c.args.placed.now c.args.j c.index-placed-j.result c.requires.within c.index-placed-j.is)
      (λ is. true≢false (sym (c.is_of_sort.ensures.1 is) ∙ c.if-not-is_of_sort.true)) m),
)

pub passes-requires : goal.passes-requires
passes-requires c =
    let here = at_index c.args.placed.now c.args.j c.index-placed-j.result c.requires.within c.index-placed-j.is in record {
      index = c.requires.index;
      here = here;
      test = c.requires.test;
      keyed = has_place_there c.args.placed.now c.args.j c.index-placed-j.result c.args.sort here (c.is_of_sort.ensures.0 c.if-not-is_of_sort.false);
    }

pub returns : goal.returns
returns c =
    let here = at_index c.args.placed.now c.args.j c.index-placed-j.result c.requires.within c.index-placed-j.is in
    meets_is c.args.placed.now c.args.sort c.args.test c.args.j c.index-placed-j.result c.in_ok-answer.answer here (c.is_of_sort.ensures.0 c.if-not-is_of_sort.false) c.in_ok-answer.ensures.0 c.in_ok-answer.ensures.1
