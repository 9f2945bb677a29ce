use Rattle.std.proofs.Common.{◌∙◌}
use Rattle.ips_asked.proofs.Places.{put_there, put_last}
use Rattle.ips_asked.proofs.origins.put.Goals as goal

pub returns-in-Some : goal.returns-in-Some
returns-in-Some c = put_there c.args.name.now c.args.origin c.deref.result.now c.args.origins.now.items c.in-Some.place c.requires c.deref.ensures.value c.in-Some.ensures

pub returns-in_ok-push-in-None : goal.returns-in_ok-push-in-None
returns-in_ok-push-in-None c =
    c.in_ok-push-in-None.ensures.items ∙ put_last c.args.name.now c.args.origin c.deref.result.now c.args.origins.now.items c.requires c.deref.ensures.value c.in-None.ensures
