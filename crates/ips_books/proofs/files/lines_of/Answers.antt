use Rattle.std.proofs.Common.{◌≡◌, ℕ, List, true, false, eqb, Vec, Global, sym, ap, ◌∙◌}
use Rattle.std.specs.List.{list_any}
use Rattle.ips_books.specs.Lines.{AccountLine}
use Rattle.ips_books.proofs.Read.{read_more, read_last, read_all}
use Rattle.ips_books.proofs.files.lines_of.Goals as goal
use Rattle.ips_books.proofs.files.lines_of.Goals.{then-not-is_empty+in_ok-from_slice-2+in_ok-push-2, else-not-is_empty}

pub loop-front-preserved : goal.loop-front-preserved
loop-front-preserved c =
    read_more c.args.text.now c.loop-front.rest.now c.in-Some.front.now c.in-Some.behind.now c.loop-front.lines.items c.push.new.self.items c.new.result c.loop-front.invariant c.in-Some.ensures.some c.in-Some.ensures.first
    (c.new.ensures ∙ ap (λ (text : List ℕ). let line : AccountLine = record { text = text; ended = true } in line) c.in_ok-from_slice.ensures.items) c.in_ok-push.ensures.items

pub returns : goal.returns
returns c =
    let items = λ (v : Vec AccountLine Global). v.items in
    let text = c.args.text.now in
    let rest = c.loop-front.rest.now in
    let first : list_any (λ b. eqb b 10) rest ≡ false = c.in_default.ensures.none in
    elim c.if-not-is_empty.branch [
      | then-not-is_empty+in_ok-from_slice-2+in_ok-push-2 w ↦
          ap items w.lines-is
          ∙ read_last text rest c.loop-front.lines.items w.push-then-not-is_empty.new.self.items w.new-then-not-is_empty.result c.loop-front.invariant first (sym w.if-not-is_empty.ensures)
          (w.new-then-not-is_empty.ensures ∙ ap (λ (text : List ℕ). let line : AccountLine = record { text = text; ended = false } in line) w.in_ok-from_slice-2.ensures.items) w.in_ok-push-2.ensures.items
      | else-not-is_empty w ↦ ap items w.lines-is ∙ read_all text rest c.loop-front.lines.items c.loop-front.invariant (sym w.if-not-is_empty.ensures)
    ]
