use Rattle.std.proofs.Common.{◌≡◌, ◌∙◌, ◌∷◌, ◌++◌, List, ℕ, length, sym, ap, codes, arith, rules}
use Rattle.ips_records.specs.Lines.{ended, lines_in}
use Rattle.ips_records.proofs.First.{cut_ends, none_ended}
use Rattle.ips_index.proofs.IndexFiles.{other_head, same_line, other_line}
use Rattle.ips_index.proofs.reading.behind_head.Goals as goal

pub returns-in_default-clause-none : goal.returns-in_default-clause-none
returns-in_default-clause-none c = λ others. none_ended c.args.bytes.now (codes "index 1") others c.in_default.ensures.none

pub returns-then-eq-clause-some : goal.returns-then-eq-clause-some
returns-then-eq-clause-some c =
    let head : c.as_slice.result.now ≡ codes "index 1" = search rules in
    let same : c.in-Some.line.now ≡ codes "index 1" = same_line c.eq.result c.in-Some.line.now c.as_slice.result.now c.eq.ensures c.if-eq.true ∙ head in
    cut_ends c.args.bytes.now c.in-Some.line.now c.in-Some.rest.now c.in-Some.ensures.some ∙ ap (λ (l : List ℕ). ended l ∷ lines_in c.in-Some.rest.now) same

pub returns-then-eq-clause-shorter : goal.returns-then-eq-clause-shorter
returns-then-eq-clause-shorter c =
    let head : c.as_slice.result.now ≡ codes "index 1" = search rules in
    let same : c.in-Some.line.now ≡ codes "index 1" = same_line c.eq.result c.in-Some.line.now c.as_slice.result.now c.eq.ensures c.if-eq.true ∙ head in
    let all : length c.args.bytes.now ≡ length (codes "index 1" ++ 10 ∷ c.in-Some.rest.now) = ap length c.in-Some.ensures.some.parts ∙ ap (λ (l : List ℕ). length (l ++ 10 ∷ c.in-Some.rest.now)) same in
    omega (arith, all)

pub returns-else-eq-clause-none : goal.returns-else-eq-clause-none
returns-else-eq-clause-none c =
    let head : c.as_slice.result.now ≡ codes "index 1" = search rules in
    other_head c.args.bytes.now c.in-Some.line.now c.in-Some.rest.now (cut_ends c.args.bytes.now c.in-Some.line.now c.in-Some.rest.now c.in-Some.ensures.some)
    (λ same. other_line c.eq.result c.in-Some.line.now c.as_slice.result.now c.eq.ensures c.if-eq.false (same ∙ sym head))
