use Rattle.std.proofs.Common.{◌≡◌, ◌+◌, ◌≤◌, length, Some, None, map, sym, ◌∙◌, ap, subst, arith, Bor}
use Rattle.std.specs.List.{AllByRecursion}
use Rattle.std.specs.Prelude.{slice_get}
use Rattle.ips_outside.specs.Image.{Image}
use Rattle.ips_outside.specs.State.{State}
use Rattle.ips_outside.proofs.Reading.{reads_then}
use Rattle.ips_meaning.specs.declared.entry.Entry.{Entry}
use Rattle.ips_change.specs.wanted.Wanted.{wanted_of}
use Rattle.ips_change.specs.content.Failing.{HasFailed}
use Rattle.ips_change.specs.survey.Pairs.{first, pair_seen}
use Rattle.ips_change.specs.survey.Rows.{HasLooked, row_pair}
use Rattle.ips_change.proofs.survey.Paired.{goes, next_pair, row_added, rows_ended, stays_within, taken_map}
use Rattle.ips_change.proofs.survey.surveying.merge.Goals as goal

pub loop-pair-preserved : goal.loop-pair-preserved
loop-pair-preserved g c =
    let old = c.args.old.now in
    let new = c.args.new.now in
    let i = c.loop-pair.i in
    let j = c.loop-pair.j in
    let pair = pair_seen c.in-Some.pair in
    let kept = ap (λ (s : State). s.held) c.loop-pair.invariant.reads.kept in
    let next : first (slice_get old i) (slice_get new j) ≡ Some pair =
    next_pair _ old new i j c.at.result c.at-in-loop-pair.result (Some pair) c.at.ensures.none c.at.ensures.some c.at-in-loop-pair.ensures.none c.at-in-loop-pair.ensures.some c.in-Some.ensures in
    let olds = taken_map (λ (x : Bor Entry). wanted_of x.now) c.in-Some.pair.old ∙ sym c.taken-i.ensures in
    let news = taken_map (λ (x : Bor Entry). wanted_of x.now) c.in-Some.pair.new ∙ sym c.taken-j.ensures in
    let both = goes old new i j pair next in
    record {
      room = omega (arith, c.loop-pair.invariant.room, c.add.auto.buffer);
      old_within = subst (λ (k : _). i + k ≤ length old) olds (stays_within i _ (length old) both.old_one both.old c.loop-pair.invariant.old_within);
      new_within = subst (λ (k : _). j + k ≤ length new) news (stays_within j _ (length new) both.new_one both.new c.loop-pair.invariant.new_within);
      reads = reads_then g.F.Source.outside c.args.folder.now c.loop-pair.folder c.add.new.folder (HasFailed c.add.result) _ c.loop-pair.invariant.reads c.add.ensures.reads (λ f. subst (λ (r : _). HasFailed r) c.in_default-add.is f) (λ f. absurd f);
      merged = λ rest m. row_added old new i j c.taken-i.result c.taken-j.result (map row_pair c.loop-pair.rows.items) (map row_pair c.add.new.rows.items) rest pair next olds news c.in_default-add.ensures.row c.loop-pair.invariant.merged m;
      found = λ told. subst (λ (t : Image). AllByRecursion (HasLooked t) c.add.new.rows.items) kept
          (c.in_default-add.ensures.found (c.loop-pair.invariant.reads.call.same_kind ∙ told)
          (subst (λ (t : Image). AllByRecursion (HasLooked t) c.loop-pair.rows.items) (sym kept) (c.loop-pair.invariant.found told)));
    }

pub returns-clause-rows : goal.returns-clause-rows
returns-clause-rows g c =
    let old = c.args.old.now in
    let new = c.args.new.now in
    let i = c.loop-pair.i in
    let j = c.loop-pair.j in
    let next : first (slice_get old i) (slice_get new j) ≡ None =
    next_pair _ old new i j c.at.result c.at-in-loop-pair.result None c.at.ensures.none c.at.ensures.some c.at-in-loop-pair.ensures.none c.at-in-loop-pair.ensures.some c.in_default.ensures in
    rows_ended old new i j (map row_pair c.loop-pair.rows.items) next c.len-olds.ensures.in_order c.len-news.ensures.in_order c.loop-pair.invariant.merged
