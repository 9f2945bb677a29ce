use Rattle.std.proofs.Common.{◌||◌, ℕ, Bool, List, map, take, take_all, sym, ap, ◌∙◌, arith}
use Rattle.ips_text.proofs.Lists.{map_item}
use Rattle.ips_after.specs.Lists.{listed}
use Rattle.ips_action.specs.Attrs.{is_same}
use Rattle.ips_conflict.specs.Index.{has_path}
use Rattle.ips_text.specs.Kept.{Kept}
use Rattle.ips_due.proofs.outstanding.Gone.{set_more}
use Rattle.ips_after.proofs.Order.{listed_last}
use Rattle.ips_due.proofs.outstanding.going.add_all.Goals as goal

pub loop-i-preserved : goal.loop-i-preserved
loop-i-preserved c =
    let paths = c.args.paths.now in
    let i = c.loop-i.i in
    let row = c.index-paths-i.result in
    let before = map (λ (p : Kept). p.bytes) (take i paths) in λ q.
    set_more (has_path c.add.new.keys) (has_path c.loop-i.going) (has_path c.args.going.now) before row.bytes
    (λ x. c.in_ok-add.ensures.paths x ∙ ap (λ (p : List ℕ). is_same x p || has_path c.loop-i.going x) c.bytes.ensures.value) c.loop-i.invariant q
    ∙ ap (λ (b : Bool). has_path c.args.going.now q || b) (sym (listed_last before row.bytes q) ∙ ap (λ (l : List (List ℕ)). listed l q) (sym (map_item (λ (p : Kept). p.bytes) paths i row c.loop-i-test.true c.index-paths-i.is)))

pub returns : goal.returns
returns c = λ q.
    c.loop-i.invariant q
    ∙ ap (λ (l : List Kept). has_path c.args.going.now q || listed (map (λ (p : Kept). p.bytes) l) q) (take_all c.loop-i.i c.args.paths.now (omega (arith, c.loop-i-test.false)))
