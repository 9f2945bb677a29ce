use Rattle.std.proofs.Common.{rules, sym, ap, ◌∙◌, length}
use Rattle.std.specs.Str.{chars, IsUtf8}
use Rattle.std.proofs.lemmas.Bool.{eqb-true, eq-eqb, true≢false}
use Rattle.ips_fmri.proofs.Cuts.{nothing_written, nothing_read}
use Rattle.ips_fmri.proofs.Globs.{all_from_front, front_from_all, none_left}
use Rattle.ips_fmri.proofs.matching.meets_all.Goals as goal

pub returns-in-Some : goal.returns-in-Some
returns-in-Some c =
    let utf8 : IsUtf8 c.in-Some.rest.now = search rules in (
      λ h. all_from_front c.args.marks (chars c.args.pattern.now) (chars c.args.text.now) (chars c.in-Some.rest.now) c.in-Some.ensures.some (nothing_read c.in-Some.rest.now (eqb-true (length c.in-Some.rest.now) 0 (sym c.is_empty.ensures ∙ h))),
      λ h. c.is_empty.ensures ∙ eq-eqb (length c.in-Some.rest.now) 0 (ap length (nothing_written c.in-Some.rest.now utf8 (none_left c.args.marks (chars c.args.pattern.now) (chars c.args.text.now) (chars c.in-Some.rest.now) c.in-Some.ensures.some h))),
    )

pub returns-in-None : goal.returns-in-None
returns-in-None c = (λ h. absurd (true≢false (sym h)), λ h. absurd (c.in-None.ensures.none _ (front_from_all c.args.marks (chars c.args.pattern.now) (chars c.args.text.now) h)))
