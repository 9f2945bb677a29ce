use Rattle.std.proofs.Common.{◌++◌, ℕ, List, None, Vec, Global, sym, ◌∙◌, ap}
use Rattle.std.specs.List.{flat_map}
use Rattle.std.specs.Map.{lookup}
use Rattle.std.specs.Option.{option_map}
use Rattle.std.proofs.lemmas.Result.{on_ok_weaker}
use Rattle.ips_action.specs.Attrs.{is_same}
use Rattle.ips_aside.specs.Ways.{bytes_if_any}
use Rattle.ips_image_steps.specs.declared.saving.saved.Saved.{Saved as Told}
use Rattle.ips_image_steps.specs.saving.Saving.{last_at, name_placed, saved_told, side_placed, thing_placed, way_placed}
use Rattle.ips_image_steps.proofs.saving.Last.{last_append}
use Rattle.ips_image_steps.proofs.saving.filling.fill.Goals as goal

pub returns : goal.returns
returns c = on_ok_weaker c.put_things.result (λ things q.
    let W = flat_map (way_placed (bytes_if_any c.args.ways.now.standing)) c.args.ways.now.above.keys in
    let S = flat_map side_placed c.args.sides.now in
    let N = flat_map name_placed c.args.names.now in
    let T = flat_map (thing_placed c.args.root.now.bytes) c.args.things.now in
    let none = ap (λ (es : List (Vec ℕ Global × Told)). option_map saved_told (lookup (λ k. is_same q k.items) es)) c.requires in
    let files = c.in_ok-put_names.ensures q ∙ ap (last_at N q) (c.in_ok-put_sides.ensures q ∙ ap (last_at S q) (c.in_ok-put_ways.ensures q ∙ ap (last_at W q) none)) ∙ sym (last_append S N q (last_at W q None)) in
    things q ∙ ap (last_at T q) files ∙ sym (last_append W ((S ++ N) ++ T) q None ∙ last_append (S ++ N) T q (last_at W q None))) c.put_things.ensures
