use Rattle.std.proofs.Common.{◌≡◌, true, sym, ◌∙◌}
use Rattle.ips_manifest.specs.Logical.{continues}
use Rattle.ips_manifest.proofs.Ends.{front_told, ends_cut, ends_some}
use Rattle.ips_manifest.proofs.logical.continued.Goals as goal

pub overflow_sub-line : goal.overflow_sub-line
overflow_sub-line c = ends_some c.args.line.now (rw (c.as_bytes.ensures.value) at (sym c.is_continued.ensures ∙ c.if-is_continued.true))

pub split_at-requires : goal.split_at-requires
split_at-requires c = ends_cut c.args.line.now (rw (c.as_bytes.ensures.value) at (sym c.is_continued.ensures ∙ c.if-is_continued.true))

pub returns-then-is_continued-clause-some : goal.returns-then-is_continued-clause-some
returns-then-is_continued-clause-some c =
    let ends : continues c.args.line.now ≡ true = rw (c.as_bytes.ensures.value) at (sym c.is_continued.ensures ∙ c.if-is_continued.true) in
    (ends, c.split_at.ensures.front ∙ front_told c.args.line.now)
