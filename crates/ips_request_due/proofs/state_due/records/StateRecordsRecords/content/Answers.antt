use Rattle.std.proofs.Common.{◌≡◌, ◌+◌, ◌-◌, List, Some, get_or, length, map, sym, ap, ◌∙◌, arith}
use Rattle.std.specs.Prelude.{option_map, slice_get}
use Rattle.std.proofs.lemmas.Option.{slice_get-get_or, slice_get-map}
use Rattle.std.proofs.lemmas.Result.{IfOk-weaker}
use Rattle.ips_entries.specs.Part.{record_text}
use Rattle.ips_state.specs.State.{recorded}
use Rattle.ips_entries.specs.declared.part.Place.{Place}
use Rattle.ips_due.specs.Due.{Content, Own}
use Rattle.ips_due.specs.declared.outstanding.due.Content.{Content as Told}
use Rattle.ips_due.specs.declared.outstanding.due.DueRecord.{DueRecord}
use Rattle.ips_due.specs.outstanding.Parts.{content_told, due_record}
use Rattle.ips_request_due.specs.state_due.Parts.{due_at, placed_records}
use Rattle.ips_request_due.proofs.state_due.Behind.{DueEntry, behind, in_front, lengths}
use Rattle.ips_request_due.proofs.state_due.records.StateRecordsRecords.content.Goals as goal

pub returns-in-Some : goal.returns-in-Some
returns-in-Some c =
    let r = recorded c.self.inside.state.now in
    let places = c.self.inside.places.now in
    let others = c.self.inside.others.now in
    let there = ap (λ (l : List DueEntry). slice_get (map (λ (e : DueEntry). e.1) l) c.args.number) (sym c.self.view_is) ∙ slice_get-map (λ (e : DueEntry). e.1) (placed_records r places others) c.args.number
    ∙ ap (option_map (λ (e : DueEntry). e.1)) (in_front (due_at r) due_record places others c.args.number c.in-Some.place.now (slice_get-get_or places c.args.number c.in-Some.place.now c.in-Some.ensures.lookup.3.0 ∙ ap (λ (x : Place). Some x) (sym c.in-Some.ensures.lookup.1))) in
    IfOk-weaker c.text_at.result (λ (content : Told). content_told content ≡ Own (record_text r c.in-Some.place.now.part)) (λ (content : Told). slice_get (map (λ (e : DueEntry). e.1) c.args.self.now) c.args.number ≡ Some (content_told content))
    (λ content own. there ∙ ap (λ (x : Content). Some x) (sym own)) c.text_at.ensures

pub returns-in-None : goal.returns-in-None
returns-in-None c =
    let r = recorded c.self.inside.state.now in
    let places = c.self.inside.places.now in
    let others = c.self.inside.others.now in
    let all : length c.args.self.now ≡ length places + length others = ap (λ (l : List DueEntry). length l) (sym c.self.view_is) ∙ lengths (due_at r) due_record places others in
    let there = ap (λ (l : List DueEntry). slice_get (map (λ (e : DueEntry). e.1) l) c.args.number) (sym c.self.view_is) ∙ slice_get-map (λ (e : DueEntry). e.1) (placed_records r places others) c.args.number
    ∙ ap (option_map (λ (e : DueEntry). e.1)) (behind (due_at r) due_record places others c.args.number c.index-self-number.result c.in-None.ensures.lookup.3 (omega (arith, c.requires, all))) in
    let other : DueRecord = get_or others (c.args.number - length places) c.index-self-number.result in
    IfOk-weaker c.copy.result (λ (content : Told). content_told content ≡ content_told other.content) (λ (content : Told). slice_get (map (λ (e : DueEntry). e.1) c.args.self.now) c.args.number ≡ Some (content_told content))
    (λ content own. there ∙ ap (λ (x : Content). Some x) (sym own)) c.copy.ensures
