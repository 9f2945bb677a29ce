use Rattle.std.proofs.Common.{subst, sym}
use Rattle.std.specs.Prelude.{IsSome}
use Rattle.ips_action.specs.Action.{Fields}
use Rattle.ips_action.proofs.Payloads.{is_with_payload}
use Rattle.ips_action.proofs.action.Action.with_payload.Goals as goal

pub invariant_of-result : goal.invariant_of-result
invariant_of-result c =
    let held : Fields = record { kind = c.self.inside.kind; payload = c.self.inside.payload; attrs = c.self.inside.attrs } in
    is_with_payload held c.args.payload c.self.invariant (subst (λ (a : Fields). IsSome a.payload) (sym c.self.view_is) c.requires.has) c.has_digest.ensures
