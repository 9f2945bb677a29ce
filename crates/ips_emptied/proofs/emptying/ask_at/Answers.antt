use Rattle.std.proofs.Common.{Bool, List, sym, ◌∙◌, ap, subst}
use Rattle.std.specs.List.{list_all}
use Rattle.ips_after.specs.After.{change_settled, unstated}
use Rattle.ips_after.specs.Change.{reached, replaces}
use Rattle.std.specs.Prelude.{is_none}
use Rattle.ips_change.specs.wanted.Named.{is_payload_of}
use Rattle.ips_change.specs.Told.{naming}
use Rattle.ips_change.specs.survey.Rows.{row_pair}
use Rattle.ips_change.specs.survey.Marks.{row_paths}
use Rattle.ips_change.proofs.survey.Placed.{count}
use Rattle.ips_emptied.specs.Emptying.{IsEmptiedAt, goes_by}
use Rattle.ips_emptied.proofs.Asked.{candidate, children_say, no_candidate, no_dir, no_whole, seen_dir, taken, unseen_dir}
use Rattle.ips_emptied.proofs.emptying.ask_at.Goals as goal

pub returns-then-not-candidate-clause-found : goal.returns-then-not-candidate-clause-found
returns-then-not-candidate-clause-found g c = λ told r said good table own marks are known.
    let o = g.F.Source.outside in
    no_candidate r (o.state c.args.folder.now).held c.args.rows.now said good (g.met.F.Source.sane.formed c.args.folder.now told) table c.args.row.now.path.now.bytes (sym are ∙ c.if-not-candidate.true)

pub returns-then-not-is_dir-clause-found : goal.returns-then-not-is_dir-clause-found
returns-then-not-is_dir-clause-found g c = λ told r said good table own marks are known.
    let row = c.args.row.now in
    let q = row.path.now.bytes in
    let t = (g.F.Source.outside.state c.args.folder.now).held in
    let known = candidate (naming r) t (row_paths c.args.rows.now) q (sym are ∙ c.if-not-candidate.false) in
    no_dir r t c.args.rows.now said good (g.met.F.Source.sane.formed c.args.folder.now told) table q
    (unseen_dir is_payload_of (row_pair row).was (row_pair row).wanted (t.look q) row.stands (ap unstated own.0 ∙ known.old) (ap is_none own.1 ∙ known.new) (c.requires.looked told) (sym c.is_dir.ensures ∙ c.if-not-is_dir.true))

pub returns-then-listing-clause-found : goal.returns-then-listing-clause-found
returns-then-listing-clause-found g c = λ told r said good table own marks are known.
    let t = (g.F.Source.outside.state c.args.folder.now).held in
    no_whole r t c.args.rows.now said good (g.met.F.Source.sane.formed c.args.folder.now told) table c.args.row.now.path.now.bytes (sym (c.in_ok-listing.ensures.found told).foreign ∙ c.if-listing.true)

pub returns-then-is_reached-clause-found : goal.returns-then-is_reached-clause-found
returns-then-is_reached-clause-found g c = λ told r said good table own marks are known.
    let row = c.args.row.now in
    let q = row.path.now.bytes in
    let t = (g.F.Source.outside.state c.args.folder.now).held in
    let test : List _ → Bool = λ p. replaces (change_settled (naming r) t p) in
    taken r t c.args.rows.now said good (g.met.F.Source.sane.formed c.args.folder.now told) table q (sym are ∙ c.if-not-candidate.false)
    (seen_dir is_payload_of (row_pair row).was (row_pair row).wanted (t.look q) row.stands (c.requires.looked told) (sym c.is_dir.ensures ∙ c.if-not-is_dir.false))
    (sym (c.in_ok-listing.ensures.found told).foreign ∙ c.if-listing.false)
    (sym (c.is_reached.ensures test marks ∙ ap (reached test) c.bytes.ensures.value) ∙ c.if-is_reached.true)

pub returns-clause-found : goal.returns-clause-found
returns-clause-found g c = λ told r said good table own marks are known.
    let row = c.args.row.now in
    let rows = c.args.rows.now in
    let paths = row_paths rows in
    let q = row.path.now.bytes in
    let t = (g.F.Source.outside.state c.args.folder.now).held in
    let test : List _ → Bool = λ p. replaces (change_settled (naming r) t p) in
    let goes = goes_by paths c.args.replaced.now c.args.emptied.now in
    let listing = c.in_ok-listing.ensures.found told in
    subst (IsEmptiedAt (naming r) t q) (sym (c.all_go.ensures ∙ ap (list_all goes) c.as_slice.ensures))
    (children_say r t rows said good (g.met.F.Source.sane.formed c.args.folder.now told) table q c.in_ok-listing.listing.names c.args.replaced.now c.args.emptied.now (c.requires.replaced ∙ sym (count rows)) (c.requires.emptied ∙ sym (count rows))
    (sym are ∙ c.if-not-candidate.false)
    (seen_dir is_payload_of (row_pair row).was (row_pair row).wanted (t.look q) row.stands (c.requires.looked told) (sym c.is_dir.ensures ∙ c.if-not-is_dir.false))
    (sym listing.foreign ∙ c.if-listing.false)
    (sym (c.is_reached.ensures test marks ∙ ap (reached test) c.bytes.ensures.value) ∙ c.if-is_reached.false)
    marks listing.children.each known)
