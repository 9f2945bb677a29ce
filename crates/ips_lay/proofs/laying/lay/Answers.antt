use Rattle.ips_lay.specs.Lists.{names_of}
use Rattle.ips_lay.proofs.Unlaid.{lays_none}
use Rattle.ips_lay.proofs.laying.lay.Goals as goal

pub returns-in_err-buffer-clause-beside : goal.returns-in_err-buffer-clause-beside
returns-in_err-buffer-clause-beside g c = λ told. lays_none c.args.publisher.now c.requires.publisher g.F.Source.outside (names_of c.args.contents.now) c.args.folder.now (g.met.F.Source.sane.only_now c.args.folder.now)
