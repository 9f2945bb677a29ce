use Rattle.std.proofs.Common.{refl, sym, ap, ◌∙◌, arith}
use Rattle.std.specs.Option.{option_copied}
use Rattle.ips_cases.specs.Cases.{meets}
use Rattle.ips_cases.proofs.Finding.{found_passes, none_passes}
use Rattle.ips_cases.proofs.table.Cases.find.Goals as goal

pub unreachable-requires : goal.unreachable-requires
unreachable-requires g c =
    let none = none_passes (meets c.args.key) c.self.inside.rows (sym c.first_met.ensures ∙ ap option_copied c.in-None.is) in
    let one = c.self.invariant.1 c.args.key (rw (← c.self.view_is) at c.requires) in
    omega (arith, none, one)

pub returns-clause-once : goal.returns-clause-once
returns-clause-once g c = rw (← c.self.view_is) (c.self.invariant.1 c.args.key (rw (← c.self.view_is) at c.requires))

pub returns-clause-row : goal.returns-clause-row
returns-clause-row g c =
    let found = found_passes (meets c.args.key) c.self.inside.rows c.in-Some.row.now (sym c.first_met.ensures ∙ ap option_copied c.in-Some.is) in
    rw (← c.self.view_is) (found.0, c.in-Some.row.now, found.1, found.2, (found.3, refl))
