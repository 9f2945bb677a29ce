-- What is around a request, behind calls that change nothing.
use Rattle.std.proofs.Common.{◌≡◌, ℕ, Bool, List, ap, ◌∙◌}
use Rattle.ips_outside.specs.Outside.{Outside}
use Rattle.ips_outside.specs.State.{State}
use Rattle.ips_change.specs.declared.survey.row.Row.{Row}
use Rattle.ips_emptied.specs.declared.settled.Settled.{Settled}
use Rattle.ips_account_files.specs.ledger.Left.{emptied_by}
use Rattle.ips_account_files.specs.Around.{Around, around}

abbrev made : List ℕ → List Row → Settled → Bool → State → Bool → State → Around
made publisher rows s told t tells u = record { told = told; image = t.held; emptied = emptied_by rows s; tells = tells; publisher = publisher; repository = u.held }

pub around_kept : {F S : Type 0} (o : Outside F) (p : Outside S) (old new : F) (before after : S) (publisher : List ℕ) (rows : List Row) (s : Settled)
    → o.tells new ≡ o.tells old → o.state new ≡ o.state old → p.tells after ≡ p.tells before → p.state after ≡ p.state before
    → around o p new after publisher rows s ≡ around o p old before publisher rows s
around_kept o p old new before after publisher rows s told image tells repository =
    ap (λ (b : Bool). made publisher rows s b (o.state new) (p.tells after) (p.state after)) told
    ∙ ap (λ (t : State). made publisher rows s (o.tells old) t (p.tells after) (p.state after)) image
    ∙ ap (λ (b : Bool). made publisher rows s (o.tells old) (o.state old) b (p.state after)) tells
    ∙ ap (λ (u : State). made publisher rows s (o.tells old) (o.state old) (p.tells before) u) repository
