use Rattle.std.proofs.Common.{◌≡◌, inl, ℕ, true, List, refl, sym, ap, subst, ◌∙◌, arith}
use Rattle.ips_text.specs.Ancestry.{covers}
use Rattle.ips_outside.specs.Children.{path_bytes}
use Rattle.ips_outside.specs.Image.{Image, has_parent}
use Rattle.ips_folder.specs.Calls.{ChangesOnly}
use Rattle.ips_ways.specs.Ways.{CanHave, HasBegun}
use Rattle.ips_ways.proofs.Made.{begun_then, or_both}
use Rattle.ips_create.specs.Created.{IsFault, is_begun}
use Rattle.ips_create.specs.Ready.{laid_out}
use Rattle.ips_create.specs.declared.fault.CreateFault.{CreateFault}
use Rattle.ips_create.proofs.Phases.{run_of, held_of, missing_of, first_marked, start_of, start_then, makes_from, unmade, rest_laid, second_marked, catalog_parent, makes_all, marked_all, made_at, begun_at_last}
use Rattle.ips_create.proofs.making.make.Goals as goal

pub make_safe-requires-clause-can : goal.make_safe-requires-clause-can
make_safe-requires-clause-can g c = λ told. subst (CanHave (g.F.Source.outside.state c.args.folder.now).held) (sym c.requires.records) (c.requires.ready told).records

pub lay-requires-clause-can : goal.lay-requires-clause-can
lay-requires-clause-can g c = λ told_one.
    let told = sym c.make_safe.ensures.same_kind ∙ told_one in
    let held = held_of g.F.Source.outside (path_bytes c.args.records.now) c.requires.records c.args.folder.now c.make_safe.new.folder (c.in-Ok.ensures.done told) in
    subst (λ (v : Image). CanHave v (path_bytes c.args.places.now)) (sym held) (c.requires.ready told).places

pub lay-requires-clause-parent : goal.lay-requires-clause-parent
lay-requires-clause-parent g c = λ told_one.
    let o = g.F.Source.outside in
    let dirs = path_bytes c.args.records.now in
    let old = c.args.folder.now in
    let one = c.make_safe.new.folder in
    let told = sym c.make_safe.ensures.same_kind ∙ told_one in
    catalog_parent o g.met.F.Source.sane (laid_out (path_bytes c.args.places.now) c.args.catalog.now.bytes c.args.text.now) c.requires.layout old (c.requires.ready told) (c.requires.safe told)
    one (run_of o dirs c.requires.records old one (c.make_safe.ensures.any_moment told)) (c.in-Ok.ensures.safe told) (held_of o dirs c.requires.records old one (c.in-Ok.ensures.done told))

pub write_safe-requires : goal.write_safe-requires
write_safe-requires g c = λ told_two. subst (λ (p : List ℕ). has_parent (g.F.Source.outside.state c.lay.new.folder).held p ≡ true) (sym c.requires.mark) refl

-- ---- the records aren't made

pub returns-in-Err-clause-makes : goal.returns-in-Err-clause-makes
returns-in-Err-clause-makes g c = λ told.
    let o = g.F.Source.outside in
    let dirs = path_bytes c.args.records.now in
    let old = c.args.folder.now in
    let one = c.make_safe.new.folder in
    unmade o g.met.F.Source.sane (laid_out (path_bytes c.args.places.now) c.args.catalog.now.bytes c.args.text.now) c.requires.layout old (c.requires.ready told) (c.requires.safe told)
    one c.in-Err.why.begun c.in-Err.ensures.still c.in-Err.ensures.kept (missing_of o dirs c.requires.records old one c.in-Err.why.begun (c.in-Err.ensures.missing told))
    (run_of o dirs c.requires.records old one (c.make_safe.ensures.any_moment told))

pub returns-in-Err-clause-marked : goal.returns-in-Err-clause-marked
returns-in-Err-clause-marked g c = λ told.
    let o = g.F.Source.outside in
    let old = c.args.folder.now in
    let one = c.make_safe.new.folder in
    first_marked o g.met.F.Source.sane (laid_out (path_bytes c.args.places.now) c.args.catalog.now.bytes c.args.text.now) c.requires.layout old (c.requires.ready told) (c.requires.safe told)
    one (run_of o (path_bytes c.args.records.now) c.requires.records old one (c.make_safe.ensures.any_moment told))

-- ---- the rest isn't

pub returns-in-Err-lay-clause-makes : goal.returns-in-Err-lay-clause-makes
returns-in-Err-lay-clause-makes g c = λ told.
    let o = g.F.Source.outside in
    let sane = g.met.F.Source.sane in
    let dirs = path_bytes c.args.records.now in
    let l = laid_out (path_bytes c.args.places.now) c.args.catalog.now.bytes c.args.text.now in
    let is = c.requires.layout in
    let ready = c.requires.ready told in
    let safe = c.requires.safe told in
    let old = c.args.folder.now in
    let one = c.make_safe.new.folder in
    let two = c.lay.new.folder in
    let run = run_of o dirs c.requires.records old one (c.make_safe.ensures.any_moment told) in
    let clean = c.in-Ok.ensures.safe told in
    let held = held_of o dirs c.requires.records old one (c.in-Ok.ensures.done told) in
    let start = start_of o sane l is old ready safe one c.in-Ok.made c.in-Ok.ensures.still c.in-Ok.ensures.kept (missing_of o dirs c.requires.records old one c.in-Ok.made (c.in-Ok.ensures.missing told)) run clean held in
    inl (makes_from o sane l is old ready safe two (start_then o sane l is old ready safe one two start
    (rest_laid o sane l is old ready safe one run clean held two (c.lay.ensures.any_moment (c.make_safe.ensures.same_kind ∙ told)))))

pub returns-in-Err-lay-clause-marked : goal.returns-in-Err-lay-clause-marked
returns-in-Err-lay-clause-marked g c = λ told.
    let o = g.F.Source.outside in
    let dirs = path_bytes c.args.records.now in
    let old = c.args.folder.now in
    let one = c.make_safe.new.folder in
    second_marked o g.met.F.Source.sane (laid_out (path_bytes c.args.places.now) c.args.catalog.now.bytes c.args.text.now) c.requires.layout old (c.requires.ready told) (c.requires.safe told)
    one (run_of o dirs c.requires.records old one (c.make_safe.ensures.any_moment told)) (c.in-Ok.ensures.safe told) (held_of o dirs c.requires.records old one (c.in-Ok.ensures.done told))
    c.lay.new.folder (c.lay.ensures.any_moment (c.make_safe.ensures.same_kind ∙ told))

pub returns-in-Err-lay-clause-faults : goal.returns-in-Err-lay-clause-faults
returns-in-Err-lay-clause-faults g c = subst IsFault (sym c.behind.ensures) tt

pub returns-in-Err-lay-clause-kept : goal.returns-in-Err-lay-clause-kept
returns-in-Err-lay-clause-kept g c = λ none.
    let both = or_both c.in-Ok.made c.in-Err-lay.why.begun (sym (ap is_begun c.behind.ensures) ∙ none) in
    c.in-Err-lay.ensures.kept both.1 ∙ c.in-Ok.ensures.kept both.0

pub returns-in-Err-lay-clause-begun : goal.returns-in-Err-lay-clause-begun
returns-in-Err-lay-clause-begun g c =
    let o = g.F.Source.outside in
    let a = o.changes c.args.folder.now in
    let b = o.changes c.make_safe.new.folder in
    let d = o.changes c.lay.new.folder in
    subst (λ (why : CreateFault). HasBegun a d (is_begun why)) (sym c.behind.ensures)
    (begun_then a b d c.in-Ok.made c.in-Err-lay.why.begun c.in-Ok.ensures.begun c.in-Err-lay.ensures.begun c.make_safe.ensures.changes c.lay.ensures.changes)

-- ---- all is made

pub returns-in-Ok-write_safe-clause-made : goal.returns-in-Ok-write_safe-clause-made
returns-in-Ok-write_safe-clause-made g c = λ told.
    let o = g.F.Source.outside in
    let dirs = path_bytes c.args.records.now in
    let old = c.args.folder.now in
    let one = c.make_safe.new.folder in
    let two = c.lay.new.folder in
    let new = c.write_safe.new.folder in
    let told_one = c.make_safe.ensures.same_kind ∙ told in
    let told_two = c.lay.ensures.same_kind ∙ told_one in
    made_at o g.met.F.Source.sane (laid_out (path_bytes c.args.places.now) c.args.catalog.now.bytes c.args.text.now) c.requires.layout old (c.requires.ready told) (c.requires.safe told)
    one (run_of o dirs c.requires.records old one (c.make_safe.ensures.any_moment told)) (c.in-Ok.ensures.safe told) (held_of o dirs c.requires.records old one (c.in-Ok.ensures.done told))
    two (c.in-Ok-lay.ensures.written told_one) (c.in-Ok-lay.ensures.others told_one) (c.in-Ok-lay.ensures.safe told_one)
    new (subst (λ (p : List ℕ). ChangesOnly o (covers p) (covers p) two new) c.requires.mark (c.write_safe.ensures.any_moment told_two))
    (ap (o.state new).held.look (sym c.requires.mark) ∙ c.in-Ok-write_safe.ensures.written told_two) (c.in-Ok-write_safe.ensures.safe told_two)

pub returns-in-Ok-write_safe-clause-makes : goal.returns-in-Ok-write_safe-clause-makes
returns-in-Ok-write_safe-clause-makes g c = λ told.
    let o = g.F.Source.outside in
    let sane = g.met.F.Source.sane in
    let dirs = path_bytes c.args.records.now in
    let l = laid_out (path_bytes c.args.places.now) c.args.catalog.now.bytes c.args.text.now in
    let is = c.requires.layout in
    let ready = c.requires.ready told in
    let safe = c.requires.safe told in
    let old = c.args.folder.now in
    let one = c.make_safe.new.folder in
    let two = c.lay.new.folder in
    let new = c.write_safe.new.folder in
    let told_one = c.make_safe.ensures.same_kind ∙ told in
    let told_two = c.lay.ensures.same_kind ∙ told_one in
    let run = run_of o dirs c.requires.records old one (c.make_safe.ensures.any_moment told) in
    let clean = c.in-Ok.ensures.safe told in
    let held = held_of o dirs c.requires.records old one (c.in-Ok.ensures.done told) in
    inl (makes_all o sane l is old ready safe one run clean held two (c.in-Ok-lay.ensures.written told_one) (c.in-Ok-lay.ensures.others told_one) (c.in-Ok-lay.ensures.safe told_one)
    new (subst (λ (p : List ℕ). ChangesOnly o (covers p) (covers p) two new) c.requires.mark (c.write_safe.ensures.any_moment told_two))
    (start_of o sane l is old ready safe one c.in-Ok.made c.in-Ok.ensures.still c.in-Ok.ensures.kept (missing_of o dirs c.requires.records old one c.in-Ok.made (c.in-Ok.ensures.missing told)) run clean held)
    (c.lay.ensures.any_moment told_one))

pub returns-in-Ok-write_safe-clause-marked : goal.returns-in-Ok-write_safe-clause-marked
returns-in-Ok-write_safe-clause-marked g c = λ told.
    let o = g.F.Source.outside in
    let dirs = path_bytes c.args.records.now in
    let old = c.args.folder.now in
    let one = c.make_safe.new.folder in
    let two = c.lay.new.folder in
    let new = c.write_safe.new.folder in
    let told_one = c.make_safe.ensures.same_kind ∙ told in
    let told_two = c.lay.ensures.same_kind ∙ told_one in
    marked_all o g.met.F.Source.sane (laid_out (path_bytes c.args.places.now) c.args.catalog.now.bytes c.args.text.now) c.requires.layout old (c.requires.ready told) (c.requires.safe told)
    one (run_of o dirs c.requires.records old one (c.make_safe.ensures.any_moment told)) (c.in-Ok.ensures.safe told) (held_of o dirs c.requires.records old one (c.in-Ok.ensures.done told))
    two (c.in-Ok-lay.ensures.written told_one) (c.in-Ok-lay.ensures.others told_one) (c.in-Ok-lay.ensures.safe told_one)
    new (subst (λ (p : List ℕ). ChangesOnly o (covers p) (covers p) two new) c.requires.mark (c.write_safe.ensures.any_moment told_two)) (c.lay.ensures.any_moment told_one)

pub returns-in-Ok-write_safe-clause-begun : goal.returns-in-Ok-write_safe-clause-begun
returns-in-Ok-write_safe-clause-begun g c =
    let o = g.F.Source.outside in
    begun_at_last (o.changes c.args.folder.now) (o.changes c.lay.new.folder) (o.changes c.write_safe.new.folder) (omega (arith, c.make_safe.ensures.changes, c.lay.ensures.changes)) c.write_safe.ensures.made

-- ---- the mark isn't

pub returns-in-Err-write_safe-clause-makes : goal.returns-in-Err-write_safe-clause-makes
returns-in-Err-write_safe-clause-makes g c = λ told.
    let o = g.F.Source.outside in
    let sane = g.met.F.Source.sane in
    let dirs = path_bytes c.args.records.now in
    let l = laid_out (path_bytes c.args.places.now) c.args.catalog.now.bytes c.args.text.now in
    let is = c.requires.layout in
    let ready = c.requires.ready told in
    let safe = c.requires.safe told in
    let old = c.args.folder.now in
    let one = c.make_safe.new.folder in
    let two = c.lay.new.folder in
    let new = c.write_safe.new.folder in
    let told_one = c.make_safe.ensures.same_kind ∙ told in
    let told_two = c.lay.ensures.same_kind ∙ told_one in
    let run = run_of o dirs c.requires.records old one (c.make_safe.ensures.any_moment told) in
    let clean = c.in-Ok.ensures.safe told in
    let held = held_of o dirs c.requires.records old one (c.in-Ok.ensures.done told) in
    inl (makes_all o sane l is old ready safe one run clean held two (c.in-Ok-lay.ensures.written told_one) (c.in-Ok-lay.ensures.others told_one) (c.in-Ok-lay.ensures.safe told_one)
    new (subst (λ (p : List ℕ). ChangesOnly o (covers p) (covers p) two new) c.requires.mark (c.write_safe.ensures.any_moment told_two))
    (start_of o sane l is old ready safe one c.in-Ok.made c.in-Ok.ensures.still c.in-Ok.ensures.kept (missing_of o dirs c.requires.records old one c.in-Ok.made (c.in-Ok.ensures.missing told)) run clean held)
    (c.lay.ensures.any_moment told_one))

pub returns-in-Err-write_safe-clause-marked : goal.returns-in-Err-write_safe-clause-marked
returns-in-Err-write_safe-clause-marked g c = λ told.
    let o = g.F.Source.outside in
    let dirs = path_bytes c.args.records.now in
    let old = c.args.folder.now in
    let one = c.make_safe.new.folder in
    let two = c.lay.new.folder in
    let new = c.write_safe.new.folder in
    let told_one = c.make_safe.ensures.same_kind ∙ told in
    let told_two = c.lay.ensures.same_kind ∙ told_one in
    marked_all o g.met.F.Source.sane (laid_out (path_bytes c.args.places.now) c.args.catalog.now.bytes c.args.text.now) c.requires.layout old (c.requires.ready told) (c.requires.safe told)
    one (run_of o dirs c.requires.records old one (c.make_safe.ensures.any_moment told)) (c.in-Ok.ensures.safe told) (held_of o dirs c.requires.records old one (c.in-Ok.ensures.done told))
    two (c.in-Ok-lay.ensures.written told_one) (c.in-Ok-lay.ensures.others told_one) (c.in-Ok-lay.ensures.safe told_one)
    new (subst (λ (p : List ℕ). ChangesOnly o (covers p) (covers p) two new) c.requires.mark (c.write_safe.ensures.any_moment told_two)) (c.lay.ensures.any_moment told_one)

pub returns-in-Err-write_safe-clause-begun : goal.returns-in-Err-write_safe-clause-begun
returns-in-Err-write_safe-clause-begun g c =
    let o = g.F.Source.outside in
    begun_at_last (o.changes c.args.folder.now) (o.changes c.lay.new.folder) (o.changes c.write_safe.new.folder) (omega (arith, c.make_safe.ensures.changes, c.lay.ensures.changes)) c.write_safe.ensures.made
