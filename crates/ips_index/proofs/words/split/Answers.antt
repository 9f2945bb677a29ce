use Rattle.ips_index.proofs.RowLines.{none_second, none_third, none_fourth}
use Rattle.ips_index.proofs.words.split.Goals as goal

pub returns-in_err-index-clause-none : goal.returns-in_err-index-clause-none
returns-in_err-index-clause-none c = rw c.from_residual-in_err-index.ensures (none_second c.args.line.now c.in_ok-token.token.now c.in_ok-token.rest.now c.in_ok-token.ensures.some c.in_err-index.ensures.none)

pub returns-in_err-kind-clause-none : goal.returns-in_err-kind-clause-none
returns-in_err-kind-clause-none c =
    rw c.from_residual-in_err-kind.ensures
    (none_third c.args.line.now c.in_ok-token.token.now c.in_ok-token.rest.now c.in_ok-index.index.now c.in_ok-index.rest.now c.in_ok-token.ensures.some c.in_ok-index.ensures.some c.in_err-kind.ensures.none)

pub returns-in_err-value-clause-none : goal.returns-in_err-value-clause-none
returns-in_err-value-clause-none c =
    rw c.from_residual-in_err-value.ensures
    (none_fourth c.args.line.now c.in_ok-token.token.now c.in_ok-token.rest.now c.in_ok-index.index.now c.in_ok-index.rest.now c.in_ok-kind.kind.now c.in_ok-kind.rest.now c.in_ok-token.ensures.some c.in_ok-index.ensures.some c.in_ok-kind.ensures.some
    c.in_err-value.ensures.none)
