use Rattle.std.proofs.Common.{arith}
use Rattle.std.proofs.lemmas.List.Elements.{All-from_get_or, recursion_from_All}
use Rattle.percent_encoding.proofs.PercentLemmas.{IsByte}
use Rattle.ips_text.proofs.Shown.{shown_is}
use Rattle.ips_send_report.proofs.telling.shown_text.Goals as goal

pub returns : goal.returns
returns c =
    let small = recursion_from_All IsByte c.args.path.now (All-from_get_or IsByte c.args.path.now 0 (λ i within. omega (arith, c.type_inv.path i))) in
    rw (c.from_string.ensures, c.in_ok-append_to.ensures.ok, c.new-text.ensures.bytes, c.percent_encode.ensures.text) (shown_is c.args.path.now small)
