use Rattle.std.proofs.Common.{◌≡◌, List, ℕ, [], ◌∷◌, false, rules, sym, ◌∙◌}
use Rattle.ips_lay.proofs.Copied.{laid_intact}
use Rattle.ips_lay.proofs.Unlaid.{lays_read, lays_written, not_intact}
use Rattle.ips_lay.proofs.laying.lay_content.Goals as goal

pub returns-in-Ok-true-clause-any_moment : goal.returns-in-Ok-true-clause-any_moment
returns-in-Ok-true-clause-any_moment g c = λ told. lays_read g.F.Source.outside g.met.F.Source.sane c.args.publisher.now (c.args.content.now.name ∷ []) c.args.folder.now c.is_intact.new.repository _ c.is_intact.ensures.reads

pub returns-in-Ok-false-clause-intact : goal.returns-in-Ok-false-clause-intact
returns-in-Ok-false-clause-intact g c = λ told.
    laid_intact c.write_content.result c.args.publisher.now c.args.content.now.name c.args.content.now.place.bytes (g.F.Source.outside.state c.write_content.new.folder).held c.requires.placed
    (c.write_content.ensures.written (c.is_intact.ensures.reads.call.same_kind ∙ told))

pub returns-in-Ok-false-clause-any_moment : goal.returns-in-Ok-false-clause-any_moment
returns-in-Ok-false-clause-any_moment g c = λ told.
    let off : c.in-Ok-false.field-0 ≡ false = search rules in
    lays_written g.F.Source.outside g.met.F.Source.sane c.args.publisher.now c.args.content.now.name c.args.content.now.place.bytes c.args.folder.now c.is_intact.new.repository c.write_content.new.folder _ c.requires.placed
    (not_intact c.in-Ok-false.field-0 (c.in-Ok-false.ensures.found told) off) c.is_intact.ensures.reads (c.write_content.ensures.any_moment (c.is_intact.ensures.reads.call.same_kind ∙ told))

pub returns-in-Err-Bad-clause-any_moment : goal.returns-in-Err-Bad-clause-any_moment
returns-in-Err-Bad-clause-any_moment g c = λ told. lays_read g.F.Source.outside g.met.F.Source.sane c.args.publisher.now (c.args.content.now.name ∷ []) c.args.folder.now c.is_intact.new.repository _ c.is_intact.ensures.reads

pub returns-in-Err-OutOfMemory-clause-any_moment : goal.returns-in-Err-OutOfMemory-clause-any_moment
returns-in-Err-OutOfMemory-clause-any_moment g c = λ told. lays_read g.F.Source.outside g.met.F.Source.sane c.args.publisher.now (c.args.content.now.name ∷ []) c.args.folder.now c.is_intact.new.repository _ c.is_intact.ensures.reads
