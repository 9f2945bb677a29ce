use Rattle.std.proofs.Common.{◌≡◌, ◌∙◌, sym, ap, subst}
use Rattle.std.specs.Option.{option_copied}
use Rattle.ips_conflict.specs.declared.placed.Placed.{Placed}
use Rattle.ips_conflict.proofs.Kept.{found_at}
use Rattle.ips_delivered.specs.delivered.Kept.{owner_at, owner_of_two}
use Rattle.ips_delivered.proofs.delivered.Owning.{IsOwnerPut, owner_kept, owner_put, two_first, two_without}
use Rattle.ips_delivered.proofs.delivered.owners.put.Goals as goal
use Rattle.ips_delivered.proofs.delivered.owners.put.Goals.{in-Some+else-not-comes_first, in_default}

pub returns-then-not-comes_first : goal.returns-then-not-comes_first
returns-then-not-comes_first c =
    owner_kept c.args.owners.now c.args.path.now c.args.item.now c.in-Some.first.now c.requires.path (sym (found_at c.args.path.now c.args.owners.now.entries) ∙ sym c.in-Some.ensures.value)
    (sym c.comes_first.ensures ∙ c.if-not-comes_first.true)

pub returns : goal.returns
returns c =
    let owners = c.args.owners.now in
    let path = c.args.path.now in
    let item = c.args.item.now in
    let two : owner_of_two (owner_at owners path) item ≡ item = elim c.match-get.branch [
      | in-Some+else-not-comes_first w ↦
          two_first (owner_at owners path) item w.in-Some.first.now (sym (found_at path owners.entries) ∙ sym w.in-Some.ensures.value) (sym w.comes_first.ensures ∙ w.if-not-comes_first.false)
      | in_default w ↦ two_without (owner_at owners path) item (sym (found_at path owners.entries) ∙ sym c.get.ensures.value ∙ ap option_copied w.in_default.is)
    ] in
    owner_put owners c.insert.new.self c.in_ok-key.key path item (subst (λ (p : Placed). IsOwnerPut owners c.insert.new.self c.in_ok-key.key p) c.copy.ensures c.in_ok-insert.ensures.entries) c.in_ok-key.ensures.items c.requires.path two
