use Rattle.std.proofs.Common.{List, sym, ◌∙◌, ap, length, subst}
use Rattle.std.proofs.lemmas.List.{length-map}
use Rattle.std.specs.List.{AllByRecursion}
use Rattle.ips_change.specs.declared.change.Change.{Change}
use Rattle.ips_emit.specs.Emitted.{HasTarget}
use Rattle.ips_change.specs.wanted.Wanted.{want_of}
use Rattle.ips_change.proofs.wanted.Found.{proper_at}
use Rattle.ips_repair.proofs.gathering.repair_at.Goals as goal

pub repair_by-requires-clause-changes : goal.repair_by-requires-clause-changes
repair_by-requires-clause-changes g c =
    let want = c.args.want.now in
    let means = c.requires.meant in record {
      meant = means;
      long = ap length c.deref.ensures.value ∙ c.in-Ok.ensures.long;
      targets = subst (λ (l : List Change). AllByRecursion HasTarget l) (sym c.deref.ensures.value)
          (c.mended_changes_have_targets.ensures (want_of want) c.in-Ok.changes.items (λ q w at. (proper_at want q w means.proper means.bytes at).1) (c.in-Ok.ensures.long ∙ sym (length-map want (λ e. e.0))) c.in-Ok.ensures.fits);
    }
