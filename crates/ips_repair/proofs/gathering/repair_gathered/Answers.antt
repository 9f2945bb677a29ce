use Rattle.std.proofs.Common.{rules}
use Rattle.ips_load.proofs.Answered.{bad_weaker}
use Rattle.ips_change.specs.wanted.Named.{is_payload_of}
use Rattle.ips_repair.specs.Repairing.{ComesOfRepair, IsUnmovable}
use Rattle.ips_repair.proofs.History.{over, says}
use Rattle.ips_repair.proofs.Steps.{hinders}
use Rattle.ips_repair.proofs.Told.{unmovable_comes}
use Rattle.ips_repair.proofs.gathering.repair_gathered.Goals as goal

pub returns-in-Some : goal.returns-in-Some
returns-in-Some g c =
    let told = g.F.Source.outside.tells c.args.folder.now in
    let t = (g.F.Source.outside.state c.args.folder.now).held in
    let history = c.args.new.now.history.items in
    let want = c.args.want.now in
    let means = c.requires.changes.meant in
    let text = c.args.text.now in
    let laws = c.repairs_are_lawful.ensures in record {
      plans = record {
        lists = search rules;
        within = search rules;
        repaired = search rules;
        refused = bad_weaker c.hindered.result (IsUnmovable c.in-Some.path.now.bytes) (ComesOfRepair told t text history want)
            (unmovable_comes told t text history want c.in-Some.path.now.bytes (λ tells.
            let known = c.requires.gathered tells in
            hinders _ _ _ want means text history t (g.met.F.Source.sane.formed c.args.folder.now tells) (c.requires.records tells) c.args.changes.now c.args.things.now c.args.root.now.bytes c.args.ways.now known
            (λ bytes. laws.repair _ _ _ want means bytes is_payload_of history t (over history t) (says history t bytes))
            (λ bytes q own. laws.own_old _ _ _ want means bytes is_payload_of t (over history t) q own)
            (λ bytes q own. laws.own_new _ _ _ want means bytes is_payload_of t (over history t) q own)
            (c.repairs_hang_together.ensures.salvage (λ p. p) is_payload_of history t (over history t) (says history t (λ p. p)))
            c.in-Some.path.now (λ r a root are foreign long. c.in-Some.ensures.first r t a root known.saved.found are foreign long)))
            c.hindered.ensures.path;
        reads = search rules;
      };
    }
