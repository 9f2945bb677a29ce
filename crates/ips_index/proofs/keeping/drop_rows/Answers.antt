use Rattle.std.proofs.Common.{ap, subst, List, [], None}
use Rattle.std.specs.Prelude.{◌↔◌, Contains}
use Rattle.std.specs.Option.{option_map_or}
use Rattle.std.proofs.lemmas.Map.Text.{btree_map_updates_text}
use Rattle.ips_index.specs.Rows.{IndexedValue}
use Rattle.ips_index.proofs.Listed.{stem_dropped, kept_dropped, gone_at, nothing_taken}
use Rattle.ips_index.proofs.keeping.drop_rows.Goals as goal

pub returns-in-Some-clause-dropped : goal.returns-in-Some-clause-dropped
returns-in-Some-clause-dropped c =
    stem_dropped c.args.rows.now c.remove_all.new.set c.args.stems.now c.remove.new.self c.args.stem.now c.in-Some.list.items c.requires.kept (ap (λ (o : _). option_map_or (λ rows. rows.items) o []) c.in-Some.ensures.value)
    (subst (λ (l : List IndexedValue). (row : IndexedValue) → Contains c.remove_all.new.set.keys row ↔ (Contains c.args.rows.now.keys row × (Contains l row → ⊥))) c.deref.ensures.value c.remove_all.ensures.rows)

pub returns-in-Some-clause-kept : goal.returns-in-Some-clause-kept
returns-in-Some-clause-kept c =
    let gone = gone_at c.args.stems.now c.remove.new.self c.args.stem.now (btree_map_updates_text c.args.stem.now c.args.stems.now c.remove.new.self None c.remove.ensures.updates) in
    kept_dropped c.args.rows.now c.remove_all.new.set c.args.stems.now c.remove.new.self c.args.stem.now c.requires.kept
    (stem_dropped c.args.rows.now c.remove_all.new.set c.args.stems.now c.remove.new.self c.args.stem.now c.in-Some.list.items c.requires.kept (ap (λ (o : _). option_map_or (λ rows. rows.items) o []) c.in-Some.ensures.value)
    (subst (λ (l : List IndexedValue). (row : IndexedValue) → Contains c.remove_all.new.set.keys row ↔ (Contains c.args.rows.now.keys row × (Contains l row → ⊥))) c.deref.ensures.value c.remove_all.ensures.rows)) gone.0 gone.1 (c.remove_all.ensures.order c.requires.kept.lawful.ascend)

pub returns-in_default-clause-dropped : goal.returns-in_default-clause-dropped
returns-in_default-clause-dropped c =
    stem_dropped c.args.rows.now c.args.rows.now c.args.stems.now c.remove.new.self c.args.stem.now [] c.requires.kept (ap (λ (o : _). option_map_or (λ rows. rows.items) o []) c.in_default.ensures.value) (nothing_taken c.args.rows.now.keys)

pub returns-in_default-clause-kept : goal.returns-in_default-clause-kept
returns-in_default-clause-kept c =
    let gone = gone_at c.args.stems.now c.remove.new.self c.args.stem.now (btree_map_updates_text c.args.stem.now c.args.stems.now c.remove.new.self None c.remove.ensures.updates) in
    kept_dropped c.args.rows.now c.args.rows.now c.args.stems.now c.remove.new.self c.args.stem.now c.requires.kept
    (stem_dropped c.args.rows.now c.args.rows.now c.args.stems.now c.remove.new.self c.args.stem.now [] c.requires.kept (ap (λ (o : _). option_map_or (λ rows. rows.items) o []) c.in_default.ensures.value) (nothing_taken c.args.rows.now.keys)) gone.0 gone.1 c.requires.kept.lawful.ascend
