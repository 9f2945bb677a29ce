use Rattle.std.proofs.Common.{◌≡◌, ℕ, ◌∙◌, List, Some, ap, flat_map, length, map, refl, slice_get, subst, sym}
use Rattle.std.proofs.lemmas.List.{length_push, map_push}
use Rattle.ips_text.specs.declared.refusal.Or.TheVariants.{Bad}
use Rattle.ips_outside.proofs.Reading.{handed_on, reads_as}
use Rattle.ips_request.specs.declared.fault.ProblemFault.TheVariants as fault
use Rattle.ips_request.specs.Manifests.{needed}
use Rattle.ips_request.specs.Stems.{stems_of}
use Rattle.ips_request.specs.Subject.{case_in}
use Rattle.ips_request.proofs.Named.{bad_handed}
use Rattle.ips_problem.specs.declared.gathered.Gathered.{Gathered}
use Rattle.ips_problem.specs.declared.rows.Row as declared
use Rattle.ips_problem.specs.Gathered.{AreReadBehind, IsFaultAmong, IsGoneThrough, IsRowOf, asked_at}
use Rattle.ips_problem.specs.Reach.{stems_wanted}
use Rattle.ips_problem.specs.Seen.{seen_row, seen_test}
use Rattle.ips_problem.proofs.Growth.{first_fault, gathered_next}
use Rattle.ips_problem.proofs.Recording.{more_gathered}
use Rattle.ips_problem.proofs.growing.next.Goals as goal

pub returns-clause-gathered : goal.returns-clause-gathered
returns-clause-gathered g c = λ told r is gone.
    let held = (g.S.Source.outside.state c.args.source.now).held in
    let gathered = c.args.gathered in
    let case = case_in c.args.subject.now held r in
    let stem = c.in_ok-stem.stem in
    let row = c.in-Ok.row in
    let total = c.row_of.new.total in
    let keys = stems_of gathered.stems.keys in
    let new = c.in_ok-with_row.field-0 in
    let more = c.in_ok-with_row.ensures in
    let at = subst (λ (k : ℕ). slice_get keys k ≡ Some stem) c.turn_of-turn.ensures c.in_ok-stem.ensures.there in
    let is_row = subst (λ s. IsRowOf case s row) c.as_str.ensures (c.in-Ok.ensures.row told r is) in
    let read = subst (λ s. AreReadBehind case gathered.total total s (needed case s) row.reads.items) c.as_str.ensures (c.in-Ok.ensures.read told r is) in
    subst (λ (n : ℕ). IsGoneThrough case (stems_of new.stems.keys) (length new.rows.items) (map seen_row new.rows.items) (map seen_test new.tests.items) n) (sym more.total)
    (gathered_next case keys (length gathered.rows.items) stem (map seen_row gathered.rows.items) (map seen_test gathered.tests.items) gathered.total total row at gone is_row read c.row_of.ensures.few
    (stems_of new.stems.keys) (length new.rows.items) (map seen_row new.rows.items) (map seen_test new.tests.items)
    more.stems (ap (λ (rs : List declared.Row). length rs) more.rows ∙ length_push gathered.rows.items row) (ap (map seen_row) more.rows ∙ map_push seen_row gathered.rows.items row) more.tests)

pub returns-in-Err-clause-bad : goal.returns-in-Err-clause-bad
returns-in-Err-clause-bad g c = λ told.
    let held = (g.S.Source.outside.state c.args.source.now).held in
    let s = c.args.subject.now in
    let gathered = c.args.gathered in
    bad_handed declared.Row Gathered _ _ c.in-Err.why (c.in-Err.ensures.bad told)
    (λ why h r is gone.
    let case = case_in s held r in
    let own = subst (λ stem. IsFaultAmong s.state.now.settings case gathered.total stem (needed case stem) why) c.as_str.ensures (h r is) in
    first_fault case (stems_of gathered.stems.keys) c.turn_of-turn.result c.in_ok-stem.stem c.in_ok-stem.ensures.there s.state.now.settings (map seen_row gathered.rows.items) (map seen_test gathered.tests.items) gathered.total why
    (subst (λ (k : ℕ). IsGoneThrough case (stems_of gathered.stems.keys) k (map seen_row gathered.rows.items) (map seen_test gathered.tests.items) gathered.total) (sym c.turn_of-turn.ensures) gone) own)

pub returns-in-Err-clause-reads : goal.returns-in-Err-clause-reads
returns-in-Err-clause-reads g c =
    reads_as g.S.Source.outside c.args.source.now c.row_of.new.source _ _ c.row_of.ensures.reads
    (λ failed. handed_on _ c.row_of.result c.in-Err.why (Bad fault.SourceFault) refl c.in-Err.is failed)
    (λ failed. handed_on c.row_of.result _ c.in-Err.why (Bad fault.SourceFault) c.in-Err.is refl failed)

pub returns-clause-sound : goal.returns-clause-sound
returns-clause-sound g c = λ over sound.
    let gathered = c.args.gathered in
    let more = c.in_ok-with_row.ensures in
    let at = subst (λ (k : ℕ). slice_get (stems_of gathered.stems.keys) k ≡ Some c.in_ok-stem.stem) c.turn_of-turn.ensures c.in_ok-stem.ensures.there in
    more_gathered gathered c.in_ok-with_row.field-0 c.in_ok-stem.stem c.in-Ok.row (flat_map (λ o. stems_wanted (asked_at c.in-Ok.row.reads.items o)) c.in-Ok.row.candidates.items) at c.in_ok-stem.ensures.stem (c.in-Ok.ensures.sound over) more.rows
    (ap (λ (rs : List declared.Row). length rs) more.rows ∙ length_push gathered.rows.items c.in-Ok.row) more.tests more.stems sound

pub returns-in-Err-clause-asks : goal.returns-in-Err-clause-asks
returns-in-Err-clause-asks g c = λ failed. c.row_of.ensures.asks (handed_on c.row_of.result _ c.in-Err.why (Bad fault.SourceFault) c.in-Err.is refl failed)
