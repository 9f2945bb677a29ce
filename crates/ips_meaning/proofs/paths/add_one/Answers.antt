use Rattle.std.proofs.Common.{◌≡◌, ◌∙◌, Option, ℕ, true, false, not, None, sym, ap}
use Rattle.std.specs.Prelude.{is_some}
use Rattle.ips_conflict.proofs.Kept.{found_at}
use Rattle.ips_meaning.specs.Places.{has_path}
use Rattle.ips_meaning.proofs.PathMaps.{put_path, put_none, had_already}
use Rattle.ips_meaning.proofs.paths.add_one.Goals as goal

pub returns-then-contains_key-clause-new : goal.returns-then-contains_key-clause-new
returns-then-contains_key-clause-new c =
    let has : has_path c.args.paths.now c.args.path.now ≡ true = sym (ap (λ (o : Option (Option ℕ)). is_some o) (found_at c.args.path.now c.args.paths.now.entries)) ∙ sym c.contains_key.ensures ∙ c.if-contains_key.true in
    sym (ap not has)

pub returns-then-contains_key-clause-paths : goal.returns-then-contains_key-clause-paths
returns-then-contains_key-clause-paths c =
    had_already c.args.paths.now c.args.path.now (sym (ap (λ (o : Option (Option ℕ)). is_some o) (found_at c.args.path.now c.args.paths.now.entries)) ∙ sym c.contains_key.ensures ∙ c.if-contains_key.true)

pub returns-clause-new : goal.returns-clause-new
returns-clause-new c =
    let absent : has_path c.args.paths.now c.args.path.now ≡ false = sym (ap (λ (o : Option (Option ℕ)). is_some o) (found_at c.args.path.now c.args.paths.now.entries)) ∙ sym c.contains_key.ensures ∙ c.if-contains_key.false in
    sym (ap not absent)

pub returns-clause-paths : goal.returns-clause-paths
returns-clause-paths c = put_path c.args.paths.now c.insert.new.self c.in_ok-key.key None c.args.path.now c.in_ok-insert.ensures.entries c.in_ok-key.ensures.items

pub returns-clause-places : goal.returns-clause-places
returns-clause-places c =
    put_none c.args.paths.now c.insert.new.self c.in_ok-key.key c.args.path.now c.in_ok-insert.ensures.entries c.in_ok-key.ensures.items
    (sym (ap (λ (o : Option (Option ℕ)). is_some o) (found_at c.args.path.now c.args.paths.now.entries)) ∙ sym c.contains_key.ensures ∙ c.if-contains_key.false)
