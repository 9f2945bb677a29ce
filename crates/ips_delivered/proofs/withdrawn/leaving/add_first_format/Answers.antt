use Rattle.std.proofs.Common.{[], ◌∷◌}
use Rattle.std.proofs.lemmas.Result.{on_ok_weaker}
use Rattle.ips_state.specs.Records.{installed_path, manifests_path}
use Rattle.ips_delivered.specs.withdrawn.Sets.{HasMore}
use Rattle.ips_delivered.proofs.withdrawn.More.{more_then}
use Rattle.ips_delivered.proofs.withdrawn.leaving.add_first_format.Goals as goal

pub returns : goal.returns
returns c =
    on_ok_weaker {P = HasMore c.add.new.set c.add-2.new.set (manifests_path ∷ [])} c.add-2.result (λ h. more_then c.args.gone.now c.add.new.set c.add-2.new.set (installed_path ∷ []) (manifests_path ∷ []) c.in_ok-add.ensures h) c.add-2.ensures
