use Rattle.std.proofs.Common.{◌≤◌, ℕ, List, [], Bor, length, get_or, map, take, sym, ap, refl, arith, ◌∙◌}
use Rattle.std.specs.List.{join_with_byte}
use Rattle.std.proofs.lemmas.List.{length-map, length-take-le, get_or_default}
use Rattle.ips_text.proofs.Lists.{map_item}
use Rattle.ips_books.proofs.Written.{join_more, is_later}
use Rattle.ips_books.proofs.writing.join.Goals as goal

pub loop-part-init : goal.loop-part-init
loop-part-init c = record { text = c.new-text.ensures.items; behind = refl }

pub loop-part-preserved : goal.loop-part-preserved
loop-part-preserved c =
    let parts = c.args.parts.now in
    let i = c.loop-part.part-index in
    let none : Bor (List ℕ) = record { ref_ptr = (0, 0); now = [] } in
    let part = get_or parts i none in
    let within : i ≤ length parts = omega (arith, c.loop-part-test.true) in
    record {
      text = join_more c.args.mark (map (λ p. p.now) (take i parts)) part.now c.loop-part.text.items c.push_part.new.text.items i c.loop-part.is_behind (length-map (take i parts) (λ p. p.now) ∙ length-take-le i parts within) c.loop-part.invariant.behind c.loop-part.invariant.text c.in_ok-push_part.ensures
          ∙ ap (join_with_byte c.args.mark) (sym (map_item (λ p. p.now) parts i part c.loop-part-test.true (get_or_default parts i none part c.loop-part-test.true)));
      behind = is_later i;
    }
