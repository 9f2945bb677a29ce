use Rattle.std.proofs.Common.{Bool, false, List, ℕ, Option, sym, ◌∙◌, ap, subst}
use Rattle.std.proofs.lemmas.Bool.{false≢true}
use Rattle.std.proofs.lemmas.Result.{IfOk-weaker}
use Rattle.ips_outside.proofs.Reading.{reads_none}
use Rattle.ips_after.specs.After.{ranks}
use Rattle.ips_after.specs.Change.{Change, laid_entry, replaces}
use Rattle.ips_after.specs.Request.{Wanted}
use Rattle.ips_account_files.specs.ledger.Left.{FitsFile, IsLeft, IsLeftStanding, IsOwnLeft, changes_by, only_file}
use Rattle.ips_account_files.proofs.ledger.Answered.{if_both}
use Rattle.ips_account_files.proofs.ledger.Givings.{laid_small, own_gone, own_stays, small_at}
use Rattle.ips_account_files.proofs.ledger.leaving.left_at.Goals as goal

pub returns-then-is_replacing : goal.returns-then-is_replacing
returns-then-is_replacing g c =
    let t = (g.F.Source.outside.state c.args.folder.now).held in
    let rows = c.args.rows.now in
    let s = c.args.settled.now in
    let q = c.args.path.now.bytes in
    record {
      small = λ r of few. laid_small (r.new.at q) c.laid.result (c.laid.ensures.own (r.new.at q) (subst (λ (p : List ℕ). FitsFile (r.new.at p) c.change_at-change.result) c.bytes.ensures.value (c.change_at-change.ensures.fits r of))) (small_at r.new q few);
      found = λ told r said good table silent are marks.
          let change = changes_by r t rows s in
          let told_change = c.change_at-change.ensures.told r t said good table silent are ∙ ap change c.bytes.ensures.value in
          let goes = ap replaces (sym told_change) ∙ sym (c.is_replacing.ensures r.bytes) ∙ c.if-is_replacing.true in
          record {
            is = c.laid.ensures.told r.bytes (t.look q) ∙ ap (λ (x : Change). only_file (laid_entry x)) told_change ∙ sym (own_gone change (ranks r) t q goes);
            own = subst (λ (b : Bool). IsOwnLeft b (r.new.at q) c.laid.result) (sym goes) (c.laid.ensures.own (r.new.at q) (subst (λ (p : List ℕ). FitsFile (r.new.at p) c.change_at-change.result) c.bytes.ensures.value (c.change_at-change.ensures.fits r table.entries)));
          };
      reads = reads_none g.F.Source.outside c.args.folder.now _ false≢true;
    }

pub returns-clause-found : goal.returns-clause-found
returns-clause-found g c = λ told.
    let t = (g.F.Source.outside.state c.args.folder.now).held in
    let rows = c.args.rows.now in
    let s = c.args.settled.now in
    let q = c.args.path.now.bytes in
    IfOk-weaker c.standing_at.result (λ left. IsLeftStanding t rows s c.args.replaced.now q left × ((new : Option Wanted) → IsOwnLeft false new left)) (IsLeft t rows s c.args.replaced.now q)
    (λ left both. λ r said good table silent are marks.
    let change = changes_by r t rows s in
    let stays = ap replaces (sym (c.change_at-change.ensures.told r t said good table silent are ∙ ap change c.bytes.ensures.value)) ∙ sym (c.is_replacing.ensures r.bytes) ∙ c.if-is_replacing.false in
    record {
      is = both.0 r said good table silent are marks ∙ sym (own_stays change (ranks r) t q stays);
      own = subst (λ (b : Bool). IsOwnLeft b (r.new.at q) left) (sym stays) (both.1 (r.new.at q));
    })
    (if_both c.standing_at.result (IsLeftStanding t rows s c.args.replaced.now q) (λ left. (new : Option Wanted) → IsOwnLeft false new left) (c.standing_at.ensures.found told) c.standing_at.ensures.own)
