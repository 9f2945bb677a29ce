use Rattle.std.proofs.Common.{◌≡◌, ◌∙◌, true, false, ℕ, List, None, is_some, ap, sym, arith}
use Rattle.ips_outside.specs.Change.{with_entry_at}
use Rattle.ips_outside.specs.Table.{kind_at}
use Rattle.ips_outside.specs.Tree.{tree_image}
use Rattle.ips_outside.proofs.Trees.{image_taken, formed_taken, none_taken, look_none}
use Rattle.ips_outside.proofs.Rooms.{room_taken, path_at, path_fits, some_copied}
use Rattle.ips_outside.proofs.tree.Tree.remove.Goals as goal

pub take_away-requires-clause-room : goal.take_away-requires-clause-room
take_away-requires-clause-room c =
    let t = c.args.self.now in
    let name = c.bytes-name.result.now in
    let some : is_some (kind_at t.paths.entries name) ≡ true = ap is_some (sym c.find.ensures) ∙ some_copied c.find.result ∙ sym c.is_some.ensures ∙ c.if-is_some.true in
    omega (arith, path_fits name (path_at t.paths.entries t.nodes.items name t.formed some), t.room.each name some)

pub take_away-requires-clause-each : goal.take_away-requires-clause-each
take_away-requires-clause-each c = λ q some.
    let t = c.args.self.now in
    omega (arith, path_fits q (path_at t.paths.entries t.nodes.items q t.formed some), t.room.each q some)

pub invariant_of-self : goal.invariant_of-self
unfolding tree_image
invariant_of-self c =
    let t = c.args.self.now in
    let name = c.bytes-name.result.now in
    record {
      room = room_taken t.paths.entries c.take_away.new.paths.entries name t.spare c.take_away.new.spare t.room c.take_away.ensures.grows c.take_away.ensures.taken;
      formed = formed_taken t.paths.entries c.take_away.new.paths.entries t.nodes.items name t.formed c.take_away.ensures.taken;
    }

pub returns-then-is_some : goal.returns-then-is_some
unfolding tree_image
returns-then-is_some c =
    let t = c.args.self.now in
    image_taken t.paths.entries c.take_away.new.paths.entries t.nodes.items c.bytes-name.result.now t.formed c.take_away.ensures.taken
    ∙ ap (λ (p : List ℕ). with_entry_at p None (tree_image t)) c.bytes-name.ensures.value

pub returns-else-is_some : goal.returns-else-is_some
unfolding tree_image
returns-else-is_some c =
    let t = c.args.self.now in
    let name = c.bytes-name.result.now in
    let none : is_some (kind_at t.paths.entries name) ≡ false = ap is_some (sym c.find.ensures) ∙ some_copied c.find.result ∙ sym c.is_some.ensures ∙ c.if-is_some.false in
    none_taken name (tree_image t) t.formed (look_none t.nodes.items (kind_at t.paths.entries name) none)
    ∙ ap (λ (p : List ℕ). with_entry_at p None (tree_image t)) c.bytes-name.ensures.value
