use Rattle.std.proofs.Common.{◌≡◌, ℕ, Bool, List, sym, ap, subst, ◌∙◌, ◌∷◌, []}
use Rattle.std.specs.Prelude.{is_some, option_map}
use Rattle.std.proofs.lemmas.Option.{same_Some, slice_get-map}
use Rattle.ips_after.specs.Change.{reached}
use Rattle.ips_conflict.specs.Index.{has_path}
use Rattle.ips_due.specs.Due.{said_record}
use Rattle.ips_due.proofs.outstanding.Meant.{kept_path}
use Rattle.ips_due.proofs.outstanding.Noting.{adds_as, adds_had, is_shown}
use Rattle.ips_due.specs.outstanding.Noted.{Adds, noted}
use Rattle.ips_due.specs.outstanding.Verdicts.{meant}
use Rattle.ips_change.specs.wanted.Named.{is_payload_of}
use Rattle.ips_due.proofs.outstanding.filling.add_record.Goals as goal

pub returns-then-has-clause-found : goal.returns-then-has-clause-found
returns-then-has-clause-found g c = λ told bytes due path content records is.
    let one : c.path-path.result.now.bytes ≡ path = same_Some c.path-path.result.now.bytes path (sym c.path-path.ensures ∙ slice_get-map kept_path (g.R.Records.records c.args.records.now) c.args.number ∙ ap (option_map kept_path) is) in
    adds_had bytes due c.args.notes.now path (λ q. said_record bytes is_payload_of content (reached (has_path c.args.going.now) path) ((g.S.Source.outside.state c.args.source.now).held.look path))
    (is_shown bytes due c.args.notes.now path (ap (λ (x : List ℕ). is_some (noted c.args.notes.now x)) (sym one) ∙ sym c.has.ensures ∙ c.if-has.true))

pub returns-clause-found : goal.returns-clause-found
returns-clause-found g c = λ told bytes due path content records is.
    let e = (g.S.Source.outside.state c.args.source.now).held.look path in
    let one : c.path-path.result.now.bytes ≡ path = same_Some c.path-path.result.now.bytes path (sym c.path-path.ensures ∙ slice_get-map kept_path (g.R.Records.records c.args.records.now) c.args.number ∙ ap (option_map kept_path) is) in
    let goes : c.goes_with-goes.result ≡ reached (has_path c.args.going.now) path = c.goes_with-goes.ensures ∙ ap (reached (has_path c.args.going.now)) (c.bytes.ensures.value ∙ one) in
    subst (λ (x : List ℕ). Adds bytes due c.args.notes.now c.add.new.notes (x ∷ []) (λ q. said_record bytes is_payload_of content (reached (has_path c.args.going.now) path) e)) one
    (adds_as bytes due c.args.notes.now c.add.new.notes (c.path-path.result.now.bytes ∷ []) (λ q. meant bytes due c.in_ok-verdict.verdict) (λ q. said_record bytes is_payload_of content (reached (has_path c.args.going.now) path) e) (c.in_ok-add.ensures.noted bytes due)
    (λ q. c.in_ok-verdict.ensures.found told bytes due path content records is ∙ ap (λ (b : Bool). said_record bytes is_payload_of content b e) goes))
