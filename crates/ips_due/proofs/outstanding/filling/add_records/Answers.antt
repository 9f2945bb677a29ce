use Rattle.std.proofs.Common.{◌≡◌, ◌<◌, ℕ, List, [], Some, get_or, length, map, take, take_all, sym, ap, subst, ◌∙◌, arith}
use Rattle.std.specs.Prelude.{slice_get}
use Rattle.std.proofs.lemmas.Option.{get_or_from_slice_get, slice_get-get_or}
use Rattle.ips_text.proofs.Lists.{map_item}
use Rattle.ips_outside.specs.Image.{Image}
use Rattle.ips_outside.specs.State.{State}
use Rattle.ips_outside.proofs.Reading.{reads_then}
use Rattle.ips_after.specs.Change.{reached}
use Rattle.ips_conflict.specs.Index.{has_path}
use Rattle.ips_change.specs.content.Failing.{HasFailed}
use Rattle.ips_due.specs.Due.{Own, record_at, said_record}
use Rattle.ips_due.specs.outstanding.Noted.{Adds, record_said}
use Rattle.ips_due.proofs.outstanding.Meant.{Kept, kept_path, record_own}
use Rattle.ips_due.proofs.outstanding.Noting.{adds_more}
use Rattle.ips_change.specs.wanted.Named.{is_payload_of}
use Rattle.ips_due.proofs.outstanding.filling.add_records.Goals as goal

pub loop-number-preserved : goal.loop-number-preserved
loop-number-preserved g c =
    let records = g.R.Records.records c.args.records.now in
    let n = c.loop-number.number in
    let t = (g.S.Source.outside.state c.args.source.now).held in
    let u = (g.S.Source.outside.state c.loop-number.source).held in
    let kept : u ≡ t = ap (λ (s : State). s.held) c.loop-number.invariant.reads.kept in
    let lt : n < length records = omega (arith, c.loop-number-test.true, c.count-number-end.ensures) in
    let r : Kept = get_or records n ([], Own []) in
    let here : slice_get records n ≡ Some r = slice_get-get_or records n ([], Own []) lt in
    let goes = reached (has_path c.args.going.now) in
    record {
      marked = c.in_ok-add_record.ensures.marked;
      room = c.add_record.ensures.kept ∙ c.loop-number.invariant.room;
      reads = reads_then g.S.Source.outside c.args.source.now c.loop-number.source c.add_record.new.source (HasFailed c.add_record.result) _ c.loop-number.invariant.reads c.add_record.ensures.reads (λ f. subst (λ (r : _). HasFailed r) c.in_ok-add_record.was f) (λ f. absurd f);
      so_far = λ told bytes due is.
          subst (λ (l : List (List ℕ)). Adds bytes due c.args.notes.now c.add_record.new.notes l (λ q. record_said bytes (record_at due.records q) (goes q) (t.look q))) (sym (map_item kept_path records n r lt (sym (get_or_from_slice_get records n r r here))))
          (adds_more bytes due c.args.notes.now c.loop-number.notes c.add_record.new.notes (map kept_path (take n records)) r.0 (λ q. record_said bytes (record_at due.records q) (goes q) (t.look q)) (said_record bytes is_payload_of r.1 (goes r.0) (u.look r.0)) (c.loop-number.invariant.so_far told bytes due is)
          (c.in_ok-add_record.ensures.found (c.loop-number.invariant.reads.call.same_kind ∙ told) bytes due r.0 r.1 is here)
          (λ apart. ap (λ (x : Image). said_record bytes is_payload_of r.1 (goes r.0) (x.look r.0)) kept ∙ record_own bytes due records n r (goes r.0) (t.look r.0) is here apart));
    }

pub returns-clause-found : goal.returns-clause-found
returns-clause-found g c = λ told bytes due is.
    let records = g.R.Records.records c.args.records.now in
    subst (λ (l : List Kept). Adds bytes due c.args.notes.now c.loop-number.notes (map kept_path l) (λ q. record_said bytes (record_at due.records q) (reached (has_path c.args.going.now) q) ((g.S.Source.outside.state c.args.source.now).held.look q))) (take_all c.loop-number.number records (omega (arith, c.loop-number-test.false, c.count-number-end.ensures)))
    (c.loop-number.invariant.so_far told bytes due is)
