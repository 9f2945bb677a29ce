use Rattle.std.proofs.Common.{◌∷◌, [], refl, sym, subst}
use Rattle.std.specs.List.{AllByRecursion}
use Rattle.ips_text.proofs.Lists.{all_append}
use Rattle.ips_change.specs.wanted.Wanted.{want_of}
use Rattle.ips_change.specs.declared.survey.row.Row.{Row}
use Rattle.ips_mend.specs.mended.Mending.{IsRowFor}
use Rattle.ips_mend.proofs.mended.Merged.{row_next, row_paths_next}
use Rattle.ips_mend.proofs.mended.listing.rows.Goals as goal
use Rattle.ips_change.specs.declared.stands.Stands.TheVariants as stands
use Rattle.std.proofs.Common.{Some, None, List}

pub loop-i-preserved : goal.loop-i-preserved
loop-i-preserved c =
    let want = c.args.want.now in
    let row : Row = record { path = c.in-Some.path; old = None; new = Some c.in-Some.entry; stands = stands.Unasked } in
    let here = row_next want c.loop-i.i row c.in-Some.entry.now c.in-Some.ensures.some refl c.len-i-end.ensures.in_order in
    record {
      paths = row_paths_next want c.loop-i.i c.loop-i.rows.items c.push.new.self.items row c.in-Some.entry.now c.in_ok-push.ensures.items c.in-Some.ensures.some c.loop-i.invariant.paths;
      entries = subst (λ (l : List Row). AllByRecursion (IsRowFor (want_of want)) l) (sym c.in_ok-push.ensures.items) (all_append (IsRowFor (want_of want)) c.loop-i.rows.items (row ∷ []) c.loop-i.invariant.entries (here, tt));
    }
