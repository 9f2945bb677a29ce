use Rattle.std.proofs.Common.{sym, subst, List, ℕ}
use Rattle.ips_fmri.specs.Pattern.{MatchesBy}
use Rattle.std.specs.Str.{chars}
use Rattle.std.proofs.lemmas.Bool.{true≢false}
use Rattle.ips_fmri.proofs.Globs.{front_star, front_none, no_star}
use Rattle.ips_fmri.proofs.matching.matches_text.Goals as goal

pub returns-in_default : goal.returns-in_default
returns-in_default c =
    let same = no_star c.args.marks (chars c.args.pattern.now) (chars c.args.text.now) c.in_default.ensures.none in (
      λ h. same.1 (c.meets_all.ensures.0 h),
      λ h. c.meets_all.ensures.1 (same.0 h),
    )

pub returns-in-Some-behind_front : goal.returns-in-Some-behind_front
returns-in-Some-behind_front c =
    let cut = c.in-Some.ensures.some in
    let same = front_star c.args.marks (chars c.in-Some.front.now) (chars c.in-Some.behind.now) (chars c.args.text.now) (chars c.in-Some-behind_front.left.now) cut.0 c.in-Some-behind_front.ensures.some in (
      λ h. subst (λ (p : List ℕ). MatchesBy c.args.marks p (chars c.args.text.now)) (sym cut.1) (same.0 (c.matches_behind_star.ensures.0 h)),
      λ h. c.matches_behind_star.ensures.1 (same.1 (subst (λ (p : List ℕ). MatchesBy c.args.marks p (chars c.args.text.now)) cut.1 h)),
    )

pub returns-in-None : goal.returns-in-None
returns-in-None c =
    let cut = c.in-Some.ensures.some in (
      λ h. absurd (true≢false (sym h)),
      λ h. absurd (front_none c.args.marks (chars c.in-Some.front.now) (chars c.in-Some.behind.now) (chars c.args.text.now) cut.0 c.in-None.ensures.none (subst (λ (p : List ℕ). MatchesBy c.args.marks p (chars c.args.text.now)) cut.1 h)),
    )
