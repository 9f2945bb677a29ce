use Rattle.std.proofs.Common.{◌||◌, Bool, map, ap, ◌∙◌}
use Rattle.ips_text.specs.Kept.{Kept}
use Rattle.ips_after.specs.Lists.{listed}
use Rattle.ips_conflict.specs.Index.{has_path}
use Rattle.ips_due.proofs.outstanding.Gone.{reached_any}
use Rattle.ips_due.proofs.outstanding.going.gather.Goals as goal

pub returns : goal.returns
returns g c = λ q.
    let renewed = map (λ (p : Kept). p.bytes) c.args.parts.now.renewed.now in
    let gone = map (λ (p : Kept). p.bytes) c.args.parts.now.gone.now in
    reached_any (has_path c.add_all-2.new.going) renewed gone
    (λ x. c.in_ok-add_all-2.ensures x ∙ ap (λ (b : Bool). b || listed gone x) (c.in_ok-add_all.ensures x ∙ ap (λ (b : Bool). b || listed renewed x) (c.requires.none x))) q
