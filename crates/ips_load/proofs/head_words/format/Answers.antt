use Rattle.std.proofs.Common.{◌≡◌, inl, inr, refl, sym, ◌∙◌, codes, rules}
use Rattle.ips_index.proofs.IndexFiles.{same_line, other_line}
use Rattle.ips_load.proofs.HeadWords.{first_text, second_text, no_format}
use Rattle.ips_load.proofs.head_words.format.Goals as goal

pub returns-then-eq-clause-some : goal.returns-then-eq-clause-some
returns-then-eq-clause-some c =
    let head : c.as_slice.result.now ≡ codes "image 1" = search rules in
    (inl refl, sym (same_line c.eq.result c.args.bytes.now c.as_slice.result.now c.eq.ensures c.if-eq.true ∙ head ∙ first_text))

pub returns-then-eq-2-clause-some : goal.returns-then-eq-2-clause-some
returns-then-eq-2-clause-some c =
    let head : c.as_slice-else-eq.result.now ≡ codes "image 2" = search rules in
    (inr refl, sym (same_line c.eq-else-eq.result c.args.bytes.now c.as_slice-else-eq.result.now c.eq-else-eq.ensures c.if-eq-2.true ∙ head ∙ second_text))

pub returns-else-eq-2-clause-none : goal.returns-else-eq-2-clause-none
returns-else-eq-2-clause-none c =
    let first : c.as_slice.result.now ≡ codes "image 1" = search rules in
    let second : c.as_slice-else-eq.result.now ≡ codes "image 2" = search rules in
    no_format c.args.bytes.now (λ same. other_line c.eq.result c.args.bytes.now c.as_slice.result.now c.eq.ensures c.if-eq.false (same ∙ sym first))
    (λ same. other_line c.eq-else-eq.result c.args.bytes.now c.as_slice-else-eq.result.now c.eq-else-eq.ensures c.if-eq-2.false (same ∙ sym second))
