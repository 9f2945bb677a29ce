use Rattle.std.proofs.Common.{◌≡◌, ◌<◌, ◌+◌, ℕ, length, arith, rules, subst}
use Rattle.ips_records.specs.Lines.{lines_in, IsFirstBadLine}
use Rattle.ips_records.specs.Listed.{IsListed}
use Rattle.ips_records.proofs.First.{lines_some}
use Rattle.ips_records.proofs.Items.{bad_next}
use Rattle.ips_records.proofs.list.read_list.Goals as goal

pub returns-else-is_empty-clause-bad : goal.returns-else-is_empty-clause-bad
returns-else-is_empty-clause-bad g c =
    let items = c.in_ok-items.items.items in
    let rest = c.in_ok-items.rest.now in
    let some : 0 < length rest = search rules in
    let bad = bad_next g.L.Listing.line g.L.Listing.fits g.L.Listing.follows (lines_in c.args.bytes.now) items (lines_in rest) c.in_ok-items.ensures.sole c.in_ok-items.ensures.chain c.in_ok-items.ensures.lines (lines_some rest some) (c.in_ok-items.ensures.ends some) in
    let count : length items ≡ c.len.result = omega (arith, c.len.ensures, c.in_ok-items.items.ok) in
    subst (λ (n : ℕ). IsFirstBadLine (IsListed g.L.Listing.line g.L.Listing.fits g.L.Listing.follows) (lines_in c.args.bytes.now) (n + 1)) count bad
