use Rattle.std.proofs.Common.{◌∙◌, ap, [], None}
use Rattle.std.specs.Str.{bytes_eq}
use Rattle.std.specs.Option.{option_map_or}
use Rattle.std.specs.BTreeMap.{get_by_text}
use Rattle.std.proofs.lemmas.Bool.{cond-false}
use Rattle.std.proofs.lemmas.Map.Text.{btree_map_updates_text}
use Rattle.ips_index.proofs.sets.taken.Goals as goal

pub returns-in-Some-clause-others : goal.returns-in-Some-clause-others
returns-in-Some-clause-others c = λ q apart.
    ap (λ (o : _). option_map_or (λ rows. rows.items) o [])
    (btree_map_updates_text c.args.stem.now c.args.stems.now c.remove.new.self None c.remove.ensures.updates q ∙ cond-false (bytes_eq c.args.stem.now q) None (get_by_text c.args.stems.now q) apart)
