use Rattle.std.proofs.Common.{◌≡◌, ◌<◌, ◌+◌, ◌∷◌, [], ℕ, length, List, arith, subst, ap, ◌∙◌, length-append}
use Rattle.ips_text.proofs.Lists.{all_append}
use Rattle.ips_records.specs.Lines.{lines_in}
use Rattle.ips_records.specs.Listed.{NoneNext, MayEnd, Sole}
use Rattle.ips_records.proofs.Items.{chain_more, lines_step}
use Rattle.ips_records.proofs.list.read_front.Goals as goal

pub returns-in_default-clause-ends : goal.returns-in_default-clause-ends
returns-in_default-clause-ends g c = λ some.
    let items = c.loop-alloc.items.items in
    let rest = lines_in c.loop-alloc.rest.now in
    let none = rw c.in_default.is at c.in_ok-item.ensures.none in
    subst (λ (l : List g.row.L-Item.Denot). NoneNext g.L.Listing.line g.L.Listing.fits g.L.Listing.follows l rest) c.deref.ensures.value none

pub loop-alloc-preserved : goal.loop-alloc-preserved
loop-alloc-preserved g c =
    let items = c.loop-alloc.items.items in
    let item = c.in-Some.item in
    let pushed = c.in_ok-push.ensures.items in
    let may = subst (λ (l : List g.row.L-Item.Denot). MayEnd g.L.Listing.follows l item) c.deref.ensures.value (rw c.in-Some.is at c.in_ok-item.ensures.follows) in
    let more : length c.push.new.self.items ≡ length items + 1 = ap length pushed ∙ length-append items (item ∷ []) in
    let shorter = rw c.in-Some.is at c.in_ok-item.ensures.shorter in
    record {
      sole = rw pushed (all_append (Sole g.L.Listing.line g.L.Listing.fits) items (item ∷ []) c.loop-alloc.invariant.sole (rw c.in-Some.is at c.in_ok-item.ensures.sole, tt));
      chain = rw pushed (chain_more g.L.Listing.follows items item c.loop-alloc.invariant.chain may);
      lines = rw pushed (lines_step g.L.Listing.line g.L.Listing.fits g.L.Listing.follows (lines_in c.args.bytes.now) items item (lines_in c.loop-alloc.rest.now) (lines_in c.in-Some.behind.now) c.loop-alloc.invariant.lines (rw c.in-Some.is at c.in_ok-item.ensures.lines));
      room = omega (arith, more, shorter, c.loop-alloc.invariant.room);
    }
