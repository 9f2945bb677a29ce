use Rattle.std.proofs.Common.{length, map, string_bytes, sym, ap, ◌∙◌, rules}
use Rattle.std.proofs.lemmas.List.{length-map}
use Rattle.std.proofs.lemmas.List.Sorted.{answers_always}
use Rattle.ips_state.specs.State.{installed}
use Rattle.ips_problem.specs.Held.{posed_of}
use Rattle.ips_problem.specs.Seen.{puzzle_of}
use Rattle.ips_problem.specs.Taken.{selected_below}
use Rattle.ips_problem.proofs.Packages.{before, before_order, distinct_keys, selected_alike, taken}
use Rattle.ips_problem.proofs.Recording.{taken_packages}
use Rattle.ips_problem.proofs.problem.Problem.take.Goals as goal

pub returns : goal.returns
returns c =
    let p = posed_of c.args.self.now in
    let keys = c.args.self.now.stems.keys in
    let choice = c.args.chosen.now in
    let sorted = c.in_ok-sort_by.ensures.sorted before before_order (answers_always _ _ _ (λ f a r q k. search rules)) in
    let all = c.in_ok-packages.ensures ∙ (λ j. selected_below (puzzle_of (c.as_slice.ensures.keys j) (c.deref.ensures.value j)) choice (length (c.as_slice.ensures.keys j)))
    ∙ ap (selected_below (puzzle_of keys c.args.self.now.rows.items) choice) (sym (length-map keys (λ k. string_bytes k)))
    ∙ selected_alike p choice (length p.stems) in
    let are = taken p choice c.in_ok-packages.packages.items c.sort_by.new.self.items (distinct_keys keys c.as_slice.ensures.unique) all c.in_ok-sort_by.ensures.permutation sorted in
    record { taken = are; lawful = λ sound. taken_packages p choice (map installed c.sort_by.new.self.items) sound are }
