use Rattle.std.proofs.Common.{◌++◌, ◌∙◌, List, Option, map, refl, sym, ap, arith}
use Rattle.std.specs.Prelude.{codes}
use Rattle.ips_index.specs.Rows.{IndexedValue}
use Rattle.ips_entries.specs.Part.{index_parts, owned}
use Rattle.ips_entries.proofs.Written.{on_told, path_in}
use Rattle.ips_entries.proofs.placing.push_index.Goals as goal

pub push_place-requires : goal.push_place-requires
push_place-requires c = path_in (codes "index") (record { bytes = refl; some = omega arith; few = omega arith; no_dots = refl })

pub returns-in-Some : goal.returns-in-Some
returns-in-Some c = on_told c.push_place.result _ _ (λ e. e ∙ ap (λ (i : Option (List IndexedValue)). map owned c.args.places.now.items ++ index_parts i) (sym c.in-Some.is)) c.push_place.ensures
