use Rattle.std.proofs.Common.{◌∙◌, ◌==◌, rules}
use Rattle.std.proofs.lemmas.Iterator.{YieldsList-from_slice}
use Rattle.std.proofs.lemmas.Iterator.Consumers.{YieldsList-from_filter, count_from_yields_List}
use Rattle.ips_aside.proofs.Ordered.{depth_counted}
use Rattle.ips_aside.proofs.lost.depth.Goals as goal

pub returns : goal.returns
returns c =
    count_from_yields_List c.filter.result c.count.result c.count.ensures.ran
    (YieldsList-from_filter _ (λ b. b == 47) (YieldsList-from_slice c.args.path.now cc) c.filter.ensures.closure (λ x b q k. search rules))
    ∙ depth_counted c.args.path.now
