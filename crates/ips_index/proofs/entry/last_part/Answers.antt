use Rattle.std.proofs.Common.{sym, None, Some, arith}
use Rattle.std.proofs.lemmas.Str.{IsCharBoundary-start, IsCharBoundary-after_ascii}
use Rattle.std.proofs.lemmas.Str.Pattern.{rfind_char}
use Rattle.ips_index.proofs.LastPart.{last_from, last_whole}
use Rattle.ips_index.proofs.entry.last_part.Goals as goal

pub returns-in-Some-clause-last : goal.returns-in-Some-clause-last
returns-in-Some-clause-last c =
    let at = rfind_char 47 c.args.path.now (Some c.in-Some.slash) c.in-Some.ensures.cases (omega arith) in
    last_from c.args.path.now c.in-Some.slash at.0 at.1 at.2

pub returns-in-Some-clause-cut : goal.returns-in-Some-clause-cut
returns-in-Some-clause-cut c =
    let at = rfind_char 47 c.args.path.now (Some c.in-Some.slash) c.in-Some.ensures.cases (omega arith) in
    IsCharBoundary-after_ascii c.args.path.now c.in-Some.slash c.utf8.path at.0 (omega (arith, at.1))

pub returns-in-None-clause-last : goal.returns-in-None-clause-last
returns-in-None-clause-last c = sym (last_whole c.args.path.now (rfind_char 47 c.args.path.now None c.in-None.ensures.cases (omega arith)))

pub returns-in-None-clause-cut : goal.returns-in-None-clause-cut
returns-in-None-clause-cut c = IsCharBoundary-start c.args.path.now c.utf8.path
