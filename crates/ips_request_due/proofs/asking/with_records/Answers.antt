use Rattle.std.proofs.Common.{◌==◌, ℕ, List, map, ap, sym, subst}
use Rattle.ips_text.specs.Kept.{Kept}
use Rattle.ips_state.specs.State.{recorded}
use Rattle.ips_request_due.specs.state_due.Parts.{placed_records}
use Rattle.ips_due.specs.Due.{Content, MeansSame, record_at}
use Rattle.ips_due.specs.Delivered.{request_due}
use Rattle.ips_due.specs.State.{renewed_by}
use Rattle.ips_due.specs.outstanding.Parts.{due_file}
use Rattle.ips_request_due.proofs.asking.with_records.Goals as goal

pub returns-clause-means : goal.returns-clause-means
returns-clause-means c = λ was is w v are.
    let files = map due_file c.args.accounts.now in
    let old = recorded c.args.old.now in
    let new = recorded c.args.new.now in
    let places = c.in_ok-places.places.items in
    let others = c.args.others.items in
    let gone = map (λ (p : Kept). p.bytes) c.in_ok-gone.gone.items in
    let means = c.places_mean_the_records.ensures.request files old new was is places others gone c.in_ok-places.ensures.records (λ q. ap (λ (r : List (List ℕ × Content)). record_at r q) are) (c.in_ok-gone.ensures.paths.gone was is w v) in
    subst (λ (renewed : List (List ℕ)). MeansSame (record { accounts = files; records = placed_records new places others; renewed = renewed; folders = map (λ (p : Kept). p.bytes) c.new.result.items; gone = gone }) (request_due files old new was is)) (sym c.in_ok-renewed.ensures)
    (subst (λ (l : List Kept). MeansSame (record { accounts = files; records = placed_records new places others; renewed = renewed_by (old.format == 1) (new.format == 1); folders = map (λ (p : Kept). p.bytes) l; gone = gone }) (request_due files old new was is)) (sym c.new.ensures.items) means)
