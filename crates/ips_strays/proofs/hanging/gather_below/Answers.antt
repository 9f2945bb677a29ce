use Rattle.std.proofs.Common.{◌≡◌, List, ℕ, not, ◌&&◌, sym, ◌∙◌, ap, subst}
use Rattle.std.specs.List.{list_any}
use Rattle.ips_text.specs.Ancestry.{covers}
use Rattle.ips_outside.specs.Children.{AreChildren, path_bytes}
use Rattle.ips_outside.specs.Image.{Image}
use Rattle.ips_outside.specs.State.{State}
use Rattle.ips_outside.proofs.Trees.{on_ok_to}
use Rattle.ips_after.specs.Lists.{listed}
use Rattle.ips_change.specs.survey.Marks.{row_paths}
use Rattle.ips_strays.specs.Strays.{Adds, hangs}
use Rattle.ips_strays.proofs.Gathered.{adds_hanging}
use Rattle.ips_strays.proofs.hanging.gather_below.Goals as goal

pub returns-in-Ok-clause-found : goal.returns-in-Ok-clause-found
returns-in-Ok-clause-found g c = λ told.
    let o = g.F.Source.outside in
    let u = (o.state c.args.folder.now).held in
    let rows = row_paths c.args.rows.now in
    let dir = c.args.row.now.path.now.bytes in
    let paths = path_bytes c.as_slice.result.now in
    let old = c.args.strays.now.items in
    let new = c.gather_bare.new.strays.items in
    let looked : (o.state c.is_dir_at.new.source).held ≡ u = ap (λ (s : State). s.held) c.is_dir_at.ensures.reads.kept in
    let kept : (o.state c.list.new.self).held ≡ u = ap (λ (s : State). s.held) c.list.ensures.reads.kept ∙ looked in
    let asked = c.is_dir_at.ensures.reads.call.same_kind ∙ told in
    let are = subst (λ (l : List (List ℕ)). AreChildren u dir l) (sym c.as_slice.ensures) (subst (λ (v : Image). AreChildren v dir c.in-Ok.listing.names) looked (c.in-Ok.ensures.found asked).children) in
    on_ok_to c.gather_bare.result (Adds u (hangs rows dir) old new)
    (λ adds. adds_hanging u rows paths dir old new (g.met.F.Source.sane.formed c.args.folder.now told) are (subst (λ (v : Image). Adds v (λ q. list_any (λ p. not (listed rows p) && covers p q) paths) old new) kept adds))
    (c.gather_bare.ensures.found (c.list.ensures.reads.call.same_kind ∙ asked))
