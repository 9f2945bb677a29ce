use Rattle.ips_index.specs.Entries.{listed_at}
use Rattle.ips_index.proofs.Listed.{stem_put, kept_put, undone, kept_same, among, only_among, all_in, but_not}
use Rattle.ips_index.proofs.keeping.put_rows.Goals as goal

pub returns-in-Ok-clause-kept : goal.returns-in-Ok-clause-kept
returns-in-Ok-clause-kept c =
    kept_put c.args.rows.now c.enter.new.rows c.remove_all.new.set c.args.stems.now c.enter.new.stems c.args.stem.now c.args.list.items c.in_ok-fresh.fresh.items c.in_ok-gone.gone.items c.requires.kept
    (among c.args.rows.now.keys c.in_ok-fresh.fresh.items c.deref.result.now c.args.list.items c.deref.ensures.value c.in_ok-fresh.ensures) c.enter.ensures.old (only_among c.args.rows.now.keys c.enter.new.rows.keys c.deref-3.result.now c.in_ok-fresh.fresh.items c.deref-3.ensures.value c.enter.ensures.only)
    (but_not (listed_at c.args.stems.now c.args.stem.now) c.in_ok-gone.gone.items c.deref-2.result.now c.args.list.items c.deref-2.ensures.value c.in_ok-gone.ensures) (all_in c.enter.new.rows.keys c.deref-3.result.now c.in_ok-fresh.fresh.items c.deref-3.ensures.value c.in-Ok.ensures.all)
    (but_not c.enter.new.rows.keys c.remove_all.new.set.keys c.deref-in-Ok.result.now c.in_ok-gone.gone.items c.deref-in-Ok.ensures.value c.remove_all.ensures.rows) c.requires.list c.in-Ok.ensures.listed c.enter.ensures.others (c.remove_all.ensures.order (c.enter.ensures.order c.requires.kept.lawful.ascend))

pub returns-in-Ok-clause-put : goal.returns-in-Ok-clause-put
returns-in-Ok-clause-put c =
    stem_put c.args.rows.now c.enter.new.rows c.remove_all.new.set c.args.stems.now c.enter.new.stems c.args.stem.now c.args.list.items c.in_ok-fresh.fresh.items c.in_ok-gone.gone.items c.requires.kept
    (among c.args.rows.now.keys c.in_ok-fresh.fresh.items c.deref.result.now c.args.list.items c.deref.ensures.value c.in_ok-fresh.ensures) c.enter.ensures.old (only_among c.args.rows.now.keys c.enter.new.rows.keys c.deref-3.result.now c.in_ok-fresh.fresh.items c.deref-3.ensures.value c.enter.ensures.only)
    (but_not (listed_at c.args.stems.now c.args.stem.now) c.in_ok-gone.gone.items c.deref-2.result.now c.args.list.items c.deref-2.ensures.value c.in_ok-gone.ensures) (all_in c.enter.new.rows.keys c.deref-3.result.now c.in_ok-fresh.fresh.items c.deref-3.ensures.value c.in-Ok.ensures.all)
    (but_not c.enter.new.rows.keys c.remove_all.new.set.keys c.deref-in-Ok.result.now c.in_ok-gone.gone.items c.deref-in-Ok.ensures.value c.remove_all.ensures.rows)

pub returns-clause-same : goal.returns-clause-same
returns-clause-same c =
    undone c.args.rows.now c.enter.new.rows c.remove_all-in-Err.new.set c.args.stems.now c.enter.new.stems c.args.stem.now c.args.list.items c.in_ok-fresh.fresh.items c.in_ok-gone.gone.items c.requires.kept
    (among c.args.rows.now.keys c.in_ok-fresh.fresh.items c.deref.result.now c.args.list.items c.deref.ensures.value c.in_ok-fresh.ensures) c.enter.ensures.old (only_among c.args.rows.now.keys c.enter.new.rows.keys c.deref-3.result.now c.in_ok-fresh.fresh.items c.deref-3.ensures.value c.enter.ensures.only)
    (but_not c.enter.new.rows.keys c.remove_all-in-Err.new.set.keys c.deref-in-Err.result.now c.in_ok-fresh.fresh.items c.deref-in-Err.ensures.value c.remove_all-in-Err.ensures.rows)
    (c.remove_all-in-Err.ensures.order (c.enter.ensures.order c.requires.kept.lawful.ascend))

pub returns-clause-kept : goal.returns-clause-kept
returns-clause-kept c = kept_same c.args.rows.now c.remove_all-in-Err.new.set c.args.stems.now c.enter.new.stems (returns-clause-same c) c.in-Err.ensures.same c.requires.kept
