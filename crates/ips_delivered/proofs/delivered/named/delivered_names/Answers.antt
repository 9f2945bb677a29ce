use Rattle.std.proofs.Common.{List, sym, subst}
use Rattle.ips_conflict.specs.declared.placed.Placed.{Placed}
use Rattle.ips_meaning.specs.Taken.{AreAdmitted}
use Rattle.ips_delivered.proofs.delivered.Picked.{stems_of}
use Rattle.ips_delivered.proofs.delivered.named.delivered_names.Goals as goal

pub names_of-requires : goal.names_of-requires
names_of-requires c =
    let are = subst (λ (l : List Placed). AreAdmitted c.args.settings.now c.args.packages.now l) (sym c.deref.ensures.value) c.in_ok-admitted.ensures in
    record { stems = stems_of c.args.settings.now c.args.packages.now c.deref.result.now are c.requires.stems }
