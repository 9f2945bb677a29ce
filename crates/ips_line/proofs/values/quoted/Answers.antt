use Rattle.ips_line.proofs.Quotes.{cut_first, cut_behind, low_quote}
use Rattle.ips_line.proofs.values.quoted.Goals as goal

pub range_from-inside-requires : goal.range_from-inside-requires
range_from-inside-requires c = λ h. cut_first c.args.text.now c.args.quote c.utf8.text c.requires.first (low_quote c.args.quote c.requires.quotes)

pub range_from-requires : goal.range_from-requires
range_from-requires c = λ h. cut_behind c.range_from-inside.result.now c.in-Some.end c.args.quote c.range_from-inside.utf8 (rw (c.as_bytes.ensures.value) at c.in-Some.ensures.within) (low_quote c.args.quote c.requires.quotes)
