use Rattle.std.proofs.Common.{ℕ, List, map, rules, subst}
use Rattle.std.specs.List.Sorted.{IsPermutation}
use Rattle.std.proofs.lemmas.List.Sorted.{answers_always, IsPermutation-map}
use Rattle.ips_state.specs.State.{recorded}
use Rattle.ips_entries.specs.Part.{Owned, entry_at, owned}
use Rattle.ips_entries.proofs.Parts.{entries_told, parts_moved}
use Rattle.ips_entries.proofs.PathsDiffer.{before_place, entries_ascend}
use Rattle.ips_entries.proofs.Written.{ranks_places}
use Rattle.ips_entries.proofs.placing.places.Goals as goal

pub returns-clause-records : goal.returns-clause-records
returns-clause-records c =
    let r = recorded c.args.state.now in
    let old = c.push_places.new.places.items in
    let new = c.sort_by.new.self.items in
    let moved = c.in_ok-sort_by.ensures.permutation in
    let up = c.in_ok-sort_by.ensures.sorted before_place ranks_places (answers_always _ _ _ (λ f a s q k. search rules)) in
    record {
      due = subst (λ (l : List (List ℕ × List ℕ)). IsPermutation l (map (entry_at r) new)) (entries_told r old c.in_ok-push_places.ensures) (IsPermutation-map (entry_at r) old new moved);
      order = entries_ascend r old new c.requires.installed c.in_ok-push_places.ensures moved up;
    }

pub returns-clause-parts : goal.returns-clause-parts
returns-clause-parts c = parts_moved (recorded c.args.state.now) c.push_places.new.places.items c.sort_by.new.self.items c.in_ok-push_places.ensures c.in_ok-sort_by.ensures.permutation

pub returns-clause-own : goal.returns-clause-own
returns-clause-own c =
    let old = c.push_places.new.places.items in
    let new = c.sort_by.new.self.items in
    subst (λ (l : List Owned). IsPermutation l (map owned new)) c.in_ok-push_places.ensures (IsPermutation-map owned old new c.in_ok-sort_by.ensures.permutation)
