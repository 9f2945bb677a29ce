use Rattle.std.proofs.Common.{◌≡◌, ℕ, Bool, List, Option, ◌++◌, map, sym, ◌∙◌, ap, subst}
use Rattle.ips_outside.specs.Image.{Image}
use Rattle.ips_outside.proofs.Trees.{on_ok_to}
use Rattle.ips_after.specs.Findings.{is_account_path}
use Rattle.ips_after.specs.Planned.{plan_order}
use Rattle.ips_after.specs.Request.{IsRequest, Request}
use Rattle.ips_change.specs.Told.{change_told, naming}
use Rattle.ips_change.specs.declared.change.Change.{Change}
use Rattle.ips_change.specs.declared.survey.row.Row.{Row}
use Rattle.ips_change.specs.survey.Marks.{row_paths}
use Rattle.ips_change.specs.survey.Tables.{IsTable}
use Rattle.ips_laying.specs.Laying.{Laid, LaysFor}
use Rattle.ips_emptied.specs.order.Chosen.{path_in}
use Rattle.ips_emit.specs.Emitted.{IsEmitted, Provenance, Turn}
use Rattle.ips_image_steps.specs.draft.Drafting.{provenances_in, turns_of}
use Rattle.ips_emptied.specs.Emptying.{marked_in}
use Rattle.ips_emptied.specs.Joining.{SettlesRows}
use Rattle.ips_image_steps.specs.plan_steps.Drawing.{AddsPlan}
use Rattle.ips_image_steps.proofs.plan_steps.drawing.draw.Goals as goal

pub returns : goal.returns
returns g c =
    let rows : List Row = c.args.table.now.rows.items in
    let paths : List (List ℕ) = row_paths rows in
    let said = c.args.table.now.said.items in
    let s = c.args.settled.now in
    let laid : List ℕ → Option Laid = g.L.Laying.laid c.args.laying.now in
    on_ok_to c.draft.result ((r : Request) (t : Image) (turns : List Turn) (provenances : List Provenance)
    → IsRequest r → IsTable r rows said → ((q : List ℕ) → r.over.is_account q ≡ is_account_path q)
    → LaysFor r.bytes laid r.over → SettlesRows r t rows s
    → IsEmitted r.bytes t turns provenances c.args.emitted.now → AddsPlan r t c.args.table.now s laid turns provenances c.draft.new.emitted)
    (λ adds r t turns provenances good table account lays settled old.
    let marks = c.in_ok-accounts.ensures ∙ ap (λ (l : List Row). map is_account_path (row_paths l)) c.deref.ensures.value ∙ ap (λ (f : List ℕ → Bool). map f paths) (λ i. λ q. sym (account q) i) in
    let places = c.in_ok-order.ensures.ordered r t good table (c.deref-2.ensures.value ∙ settled.supports) (c.deref-3.ensures.value ∙ marks) in
    let e : List ℕ → Bool = marked_in paths s.emptied.items in
    let drawn = adds r t e turns provenances table lays (ap (map (change_told r.bytes)) c.deref-4.ensures.value ∙ settled.changes) (c.deref-5.ensures.value ∙ c.requires.whole.marks.are) old in
    record {
      places = c.in_ok-order.order.items;
      are = places;
      steps = subst (λ (p : List Provenance). IsEmitted r.bytes t (turns ++ turns_of r t e (plan_order (naming r) t)) (provenances ++ p) c.draft.new.emitted)
          (ap (λ (l : List Change). provenances_in laid paths said l c.deref-5.result.now c.deref-6.result.now) c.deref-4.ensures.value
          ∙ ap (λ (l : List Bool). provenances_in laid paths said s.changes.items l c.deref-6.result.now) c.deref-5.ensures.value
          ∙ ap (provenances_in laid paths said s.changes.items s.emptied.items) c.deref-6.ensures.value)
          (subst (λ (p : List (List ℕ)). IsEmitted r.bytes t (turns ++ turns_of r t e p) (provenances ++ provenances_in laid paths said c.deref-4.result.now c.deref-5.result.now c.deref-6.result.now) c.draft.new.emitted)
          (ap (map (path_in paths)) c.deref-6.ensures.value ∙ places) drawn);
    })
    c.draft.ensures
