-- No call that may change something was made at the gate.
use Rattle.std.proofs.Common.{◌≡◌, ◌≤◌, true, List, None, false, refl, ◌∙◌, ap}
use Rattle.ips_outside.specs.Image.{Image}
use Rattle.ips_outside.specs.State.{State, settled}
use Rattle.ips_outside.specs.Outside.{Outside, IsOutside, Elapses, OneMore}
use Rattle.ips_folder.proofs.Runs.{started, goes_on, joins}
use Rattle.ips_steps.specs.Private.{gate_name, visible}
use Rattle.ips_kinds.specs.Tallies.{Carrier}
use Rattle.ips_history.specs.Directories.{creates}
use Rattle.ips_history.specs.Run.{HasOpened}
use Rattle.ips_history.specs.Transition.{StillOwes}
use Rattle.ips_history.specs.declared.effect.Effect.{Effect}
use Rattle.ips_run.specs.declared.ending.Ending.{Ending}
use Rattle.ips_run.specs.Ending.{is_refused}
use Rattle.ips_run.specs.Phases.{IsSafelyShut, StaysSafelyShut}
use Rattle.ips_run.specs.Creating.{IsCreated, Standing, Uncreated, Made, Failed}
use Rattle.ips_run.specs.Unopened.{NeverOpens, Unsynced, Synced, Made as MadeShut, MadeInPart}
use Rattle.ips_run.proofs.Opened.{owes_seen, synced_safe, opened, stays_owed, always_safely_shut}

module _ {F : Type 0} (o : Outside F) (sane : IsOutside o) (effect : Effect) where
  -- the opening sync failed
  pub never_synced : (old new : F) → Elapses o old new → o.state new ≡ o.state old → NeverOpens o effect old new
  never_synced old new time kept = Unsynced (goes_on o old old new (λ s. s ≡ o.state old) (started o old (λ s. s ≡ o.state old) (sane.only_now old) refl) time kept)

  -- it has answered
  module _ (old at new : F) (time : Elapses o old at) (is_synced : o.state at ≡ settled (o.state old)) (one : OneMore (o.changes old) (o.changes at)) (later : o.changes at ≤ o.changes new) where
    abbrev has_opened : HasOpened o old new
    has_opened = opened o sane old at new time is_synced one later

    pub never_asked : StaysSafelyShut o at new → NeverOpens o effect old new
    never_asked since = Synced has_opened since

    module _ (shut : (o.state old).held.look gate_name ≡ None) where
      at_shut : (o.state at).held.look gate_name ≡ None
      at_shut = ap (λ (s : State). s.held.look gate_name) is_synced ∙ shut

      -- what was owed stays owed
      shut_back : (end : F) → StillOwes o at end → StaysSafelyShut o at end
      shut_back end still = always_safely_shut o sane (visible (o.state at).held) at end
          (still (visible (o.state at).held) None false (owes_seen (o.state at) None (synced_safe (o.state old) (o.state at) is_synced) at_shut))

      pub never_back : StillOwes o at new → NeverOpens o effect old new
      never_back still = never_asked (shut_back new still)

      -- nothing but reading since then
      pub never_read : Elapses o at new → o.state new ≡ o.state at → NeverOpens o effect old new
      never_read since kept = never_back (stays_owed o sane at new since kept)

      -- a command that makes an image
      pub never_created : {T : Type 0} (means : Image → Image → Type 0) (x : Ending T) (before now : List Carrier) → creates effect ≡ true → is_refused x ≡ true → IsCreated o means x before now at new → NeverOpens o effect old new
      never_created means x before now creating refused (Standing mid (since, kept) same asked) =
          never_asked (joins o at mid new IsSafelyShut (shut_back mid (stays_owed o sane at mid since kept)) (asked.unopened refused))
      never_created means x before now creating refused (Uncreated early (since, kept)) = never_read since kept
      never_created means x before now creating refused (Made mid made closed stands asked) = MadeShut creating has_opened mid made (asked.unopened refused)
      never_created means x before now creating refused (Failed is making) = MadeInPart creating has_opened making
