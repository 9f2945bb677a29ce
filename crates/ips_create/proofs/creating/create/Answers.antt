use Rattle.std.proofs.Common.{inl, ℕ, Bool, true, ◌-◌, length, take, drop, sym, ap, subst, ◌∙◌}
use Rattle.ips_outside.specs.Children.{path_bytes}
use Rattle.ips_outside.specs.State.{State, IsSettled}
use Rattle.ips_outside.proofs.Reading.{reads_none}
use Rattle.ips_folder.specs.Calls.{Throughout}
use Rattle.ips_ways.specs.Ways.{HasBegun, IsFree}
use Rattle.ips_create.specs.Created.{Layout, layout_of, IsMade, is_begun}
use Rattle.ips_create.specs.Making.{IsMarkedLast}
use Rattle.ips_create.specs.Ready.{IsLayout, IsReady, laid_out}
use Rattle.ips_create.proofs.Layouts.{is_layout, is_ready}
use Rattle.ips_create.proofs.Behind.{records_are, layout_is, makes_none, marked_none, begun_none, renamed, either_behind, done_behind, marked_behind, says_refused, refused_unbegun, says_then}
use Rattle.ips_create.proofs.creating.create.Goals as goal

-- ---- for want of memory

pub returns-in_err-parts-clause-creates : goal.returns-in_err-parts-clause-creates
returns-in_err-parts-clause-creates g c = λ told.
    let o = g.F.Source.outside in
    let old = c.args.target.now in
    inl (makes_none o g.met.F.Source.sane old old ⊥ (reads_none o old ⊥ (λ f. f)) (layout_of c.args.publisher.now))

pub returns-in_err-parts-clause-marked : goal.returns-in_err-parts-clause-marked
returns-in_err-parts-clause-marked g c = λ told unmarked.
    let o = g.F.Source.outside in
    let old = c.args.target.now in
    marked_none o g.met.F.Source.sane old old ⊥ (reads_none o old ⊥ (λ f. f)) (layout_of c.args.publisher.now) (c.requires.safe told) unmarked

-- ---- it can't be made

pub returns-in-Err-clause-says : goal.returns-in-Err-clause-says
returns-in-Err-clause-says g c = λ told.
    says_refused (layout_of c.args.publisher.now) (g.F.Source.outside.state c.args.target.now).held (path_bytes c.deref.result.now) (ap path_bytes c.deref.ensures.value ∙ c.in_ok-parts.ensures.dirs) c.in-Err.fault (c.in-Err.ensures.says told) c.in-Err.ensures.unbegun

pub returns-in-Err-clause-creates : goal.returns-in-Err-clause-creates
returns-in-Err-clause-creates g c = λ told. inl (makes_none g.F.Source.outside g.met.F.Source.sane c.args.target.now c.check.new.source _ c.check.ensures.reads (layout_of c.args.publisher.now))

pub returns-in-Err-clause-marked : goal.returns-in-Err-clause-marked
returns-in-Err-clause-marked g c = λ told unmarked.
    marked_none g.F.Source.outside g.met.F.Source.sane c.args.target.now c.check.new.source _ c.check.ensures.reads (layout_of c.args.publisher.now) (c.requires.safe told) unmarked

pub returns-in-Err-clause-kept : goal.returns-in-Err-clause-kept
returns-in-Err-clause-kept g c = λ none. c.check.ensures.reads.kept

pub returns-in-Err-clause-begun : goal.returns-in-Err-clause-begun
returns-in-Err-clause-begun g c =
    let o = g.F.Source.outside in
    subst (λ (b : Bool). HasBegun (o.changes c.args.target.now) (o.changes c.check.new.source) b) (sym (refused_unbegun c.in-Err.fault c.in-Err.ensures.unbegun))
    (begun_none o g.met.F.Source.sane c.args.target.now c.check.new.source _ c.check.ensures.reads)

-- ---- it can

pub make-requires-clause-records : goal.make-requires-clause-records
make-requires-clause-records g c = records_are c.args.publisher.now c.deref-2.result.now (ap path_bytes c.deref-2.ensures.value ∙ c.in_ok-parts.ensures.dirs)

pub make-requires-clause-layout : goal.make-requires-clause-layout
make-requires-clause-layout g c =
    let parts = c.in_ok-parts.parts in
    let known = c.in_ok-parts.ensures in
    subst IsLayout (sym (layout_is c.args.publisher.now c.deref-3.result.now (ap path_bytes c.deref-3.ensures.value ∙ known.dirs) parts.catalog.bytes c.deref-4.result.now known.catalog (c.deref-4.ensures.value ∙ known.text))) (is_layout c.args.publisher.now)

pub make-requires-clause-ready : goal.make-requires-clause-ready
make-requires-clause-ready g c = λ told_mid.
    let o = g.F.Source.outside in
    let old = c.args.target.now in
    let p = c.args.publisher.now in
    let parts = c.in_ok-parts.parts in
    let known = c.in_ok-parts.ensures in
    let reads = c.check.ensures.reads in
    let told = sym reads.call.same_kind ∙ told_mid in
    let free = subst (IsFree (o.state old).held) (ap path_bytes c.deref.ensures.value ∙ known.dirs) (c.in-Ok.ensures.free told) in
    let ready = is_ready p c.requires.publisher (o.state old).held (g.met.F.Source.sane.formed old told) free (c.in-Ok.ensures.unmarked told) (c.requires.shut told) in
    subst (λ (l : Layout). IsReady l (o.state c.check.new.source).held) (sym (layout_is p c.deref-3.result.now (ap path_bytes c.deref-3.ensures.value ∙ known.dirs) parts.catalog.bytes c.deref-4.result.now known.catalog (c.deref-4.ensures.value ∙ known.text)))
    (subst (λ (s : State). IsReady (layout_of p) s.held) (sym reads.kept) ready)

pub make-requires-clause-safe : goal.make-requires-clause-safe
make-requires-clause-safe g c = λ told_mid. let reads = c.check.ensures.reads in subst IsSettled (sym reads.kept) (c.requires.safe (sym reads.call.same_kind ∙ told_mid))

pub returns-in-Ok-make-clause-created : goal.returns-in-Ok-make-clause-created
returns-in-Ok-make-clause-created g c = λ told.
    let o = g.F.Source.outside in
    let p = c.args.publisher.now in
    let parts = c.in_ok-parts.parts in
    let known = c.in_ok-parts.ensures in
    let reads = c.check.ensures.reads in
    let l = laid_out (path_bytes (take (length c.deref-3.result.now - 2) (drop 2 c.deref-3.result.now))) parts.catalog.bytes c.deref-4.result.now in
    subst (λ (k : Layout). IsMade k (o.state c.args.target.now).held (o.state c.make.new.folder)) (layout_is p c.deref-3.result.now (ap path_bytes c.deref-3.ensures.value ∙ known.dirs) parts.catalog.bytes c.deref-4.result.now known.catalog (c.deref-4.ensures.value ∙ known.text))
    (subst (λ (s : State). IsMade l s.held (o.state c.make.new.folder)) reads.kept (c.in-Ok-make.ensures.made (reads.call.same_kind ∙ told)))

pub returns-in-Ok-make-clause-creates : goal.returns-in-Ok-make-clause-creates
returns-in-Ok-make-clause-creates g c = λ told.
    let o = g.F.Source.outside in
    let p = c.args.publisher.now in
    let old = c.args.target.now in
    let mid = c.check.new.source in
    let new = c.make.new.folder in
    let parts = c.in_ok-parts.parts in
    let known = c.in_ok-parts.ensures in
    let reads = c.check.ensures.reads in
    let l = laid_out (path_bytes (take (length c.deref-3.result.now - 2) (drop 2 c.deref-3.result.now))) parts.catalog.bytes c.deref-4.result.now in
    inl (done_behind o g.met.F.Source.sane old mid _ reads (layout_of p) new (renamed o g.met.F.Source.sane old mid _ reads (layout_of p) new l
    (layout_is p c.deref-3.result.now (ap path_bytes c.deref-3.ensures.value ∙ known.dirs) parts.catalog.bytes c.deref-4.result.now known.catalog (c.deref-4.ensures.value ∙ known.text)) (c.in-Ok-make.ensures.makes (reads.call.same_kind ∙ told))))

pub returns-in-Ok-make-clause-marked : goal.returns-in-Ok-make-clause-marked
returns-in-Ok-make-clause-marked g c = λ told unmarked.
    let o = g.F.Source.outside in
    let p = c.args.publisher.now in
    let mid = c.check.new.source in
    let new = c.make.new.folder in
    let parts = c.in_ok-parts.parts in
    let known = c.in_ok-parts.ensures in
    let reads = c.check.ensures.reads in
    marked_behind o g.met.F.Source.sane c.args.target.now mid _ reads (layout_of p) new (c.requires.safe told) unmarked
    (subst (λ (k : Layout). Throughout o mid new (IsMarkedLast k)) (layout_is p c.deref-3.result.now (ap path_bytes c.deref-3.ensures.value ∙ known.dirs) parts.catalog.bytes c.deref-4.result.now known.catalog (c.deref-4.ensures.value ∙ known.text)) (c.make.ensures.marked (reads.call.same_kind ∙ told)))

pub returns-in-Ok-make-clause-begun : goal.returns-in-Ok-make-clause-begun
returns-in-Ok-make-clause-begun g c = let o = g.F.Source.outside in subst (λ (n : ℕ). HasBegun n (o.changes c.make.new.folder) true) c.check.ensures.reads.none_made c.in-Ok-make.ensures.begun

-- ---- a call failed

pub returns-clause-says : goal.returns-clause-says
returns-clause-says g c = λ told.
    let t = (g.F.Source.outside.state c.args.target.now).held in
    says_then (layout_of c.args.publisher.now) t c.in-Err-make.why c.in-Err-make.ensures.faults (c.in-Ok.ensures.unmarked told) (subst (IsFree t) (ap path_bytes c.deref.ensures.value ∙ c.in_ok-parts.ensures.dirs) (c.in-Ok.ensures.free told))

pub returns-clause-creates : goal.returns-clause-creates
returns-clause-creates g c = λ told.
    let o = g.F.Source.outside in
    let p = c.args.publisher.now in
    let old = c.args.target.now in
    let mid = c.check.new.source in
    let new = c.make.new.folder in
    let parts = c.in_ok-parts.parts in
    let known = c.in_ok-parts.ensures in
    let reads = c.check.ensures.reads in
    let l = laid_out (path_bytes (take (length c.deref-3.result.now - 2) (drop 2 c.deref-3.result.now))) parts.catalog.bytes c.deref-4.result.now in
    either_behind o g.met.F.Source.sane old mid _ reads (layout_of p) new c.in-Err-make.why (renamed o g.met.F.Source.sane old mid _ reads (layout_of p) new l
    (layout_is p c.deref-3.result.now (ap path_bytes c.deref-3.ensures.value ∙ known.dirs) parts.catalog.bytes c.deref-4.result.now known.catalog (c.deref-4.ensures.value ∙ known.text)) (c.in-Err-make.ensures.makes (reads.call.same_kind ∙ told)))

pub returns-clause-marked : goal.returns-clause-marked
returns-clause-marked g c = λ told unmarked.
    let o = g.F.Source.outside in
    let p = c.args.publisher.now in
    let mid = c.check.new.source in
    let new = c.make.new.folder in
    let parts = c.in_ok-parts.parts in
    let known = c.in_ok-parts.ensures in
    let reads = c.check.ensures.reads in
    marked_behind o g.met.F.Source.sane c.args.target.now mid _ reads (layout_of p) new (c.requires.safe told) unmarked
    (subst (λ (k : Layout). Throughout o mid new (IsMarkedLast k)) (layout_is p c.deref-3.result.now (ap path_bytes c.deref-3.ensures.value ∙ known.dirs) parts.catalog.bytes c.deref-4.result.now known.catalog (c.deref-4.ensures.value ∙ known.text)) (c.make.ensures.marked (reads.call.same_kind ∙ told)))

pub returns-clause-kept : goal.returns-clause-kept
returns-clause-kept g c = λ none. c.in-Err-make.ensures.kept none ∙ c.check.ensures.reads.kept

pub returns-clause-begun : goal.returns-clause-begun
returns-clause-begun g c =
    let o = g.F.Source.outside in
    subst (λ (n : ℕ). HasBegun n (o.changes c.make.new.folder) (is_begun c.in-Err-make.why)) c.check.ensures.reads.none_made c.in-Err-make.ensures.begun
