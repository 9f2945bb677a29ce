use Rattle.std.proofs.Common.{◌<◌, length, ◌∙◌, arith}
use Rattle.std.proofs.lemmas.List.{length-map}
use Rattle.std.proofs.Common.{string_bytes}
use Rattle.ips_problem.proofs.Answering.{version_told}
use Rattle.ips_problem.proofs.problem.Problem.version.Goals as goal

pub returns : goal.returns
returns c =
    let keys = c.args.self.now.stems.keys in
    let known : c.args.stem < length keys = omega (arith, c.requires.stem, length-map keys (λ k. string_bytes k)) in
    c.version_of.ensures ∙ version_told c.args.self.now c.args.stem c.index.result.now c.args.candidate known c.index.ensures
