-- Why a target isn't settled.
use Rattle.std.proofs.Common.{◌≡◌, ◌⊎◌, inl, inr, ℕ, Bool, IsTrue, List, Result, Ok, Err, refl, sym, ◌∙◌, subst}
use Rattle.ips_text.specs.declared.refusal.Or.{Or}
use Rattle.ips_text.specs.declared.refusal.Or.TheVariants.{Bad}
use Rattle.ips_text.specs.declared.refusal.Or.TheVariants as or
use Rattle.ips_outside.specs.Image.{Image}
use Rattle.ips_outside.specs.State.{State, settled}
use Rattle.ips_outside.specs.Outside.{Outside}
use Rattle.ips_kinds.specs.Tallies.{Carrier}
use Rattle.ips_journal.specs.Text.{journal_text}
use Rattle.ips_commit.specs.Calls.{Recovers}
use Rattle.ips_commit.specs.declared.fault.CommitFault.{CommitFault}
use Rattle.ips_commit.specs.declared.fault.CommitFault.TheVariants as commit
use Rattle.ips_sends.specs.Keeps.{ShowsAtEnd, Shut, Forward, Keeps}
use Rattle.ips_sends.proofs.Stops.{synced}
use Rattle.ips_put.specs.Settling.{Settled, IsUnopened, EndsAs, SettlesFrom, IsUnseen, HasNothing, IsRecovered, Settles}

-- how a recovery ends
abbrev Ended : Type 0
Ended = Result Bool (Or CommitFault)

-- as its recovery ended
ends_with : (r : Ended) (why : Or CommitFault) (x : Settled) → EndsAs r x → x ≡ Err why → r ≡ Err why
ends_with (Ok forward) why x ends is = cc
ends_with (Err other) why x ends is = cc

module _ {F : Type 0} (o : Outside F) where
  -- ---- a bad journal

  module _ (Q : Image → Type 0) (from new : F) (before now : List Carrier) (line : ℕ) (recovers : Recovers o from new before now (Err (Bad (commit.BadJournal line)))) (told : IsTrue (o.tells from)) where
    never_led : (u : Image) → ShowsAtEnd journal_text (o.state from).held u → ⊥
    never_led u (Shut gone seen) = (recovers.refused told).0 gone
    never_led u (Forward steps marks is) = (recovers.meant told steps marks u is).1

    -- is none of an image that leads to one of which something is said
    recovery_reads : Keeps journal_text Q (o.state from) → ⊥
    recovery_reads keeps = never_led keeps.now.0 keeps.now.1

  bad_from : (Q : Image → Type 0) (s : State) (new : F) (before now : List Carrier) (x : Settled) → SettlesFrom o s new before now x → (line : ℕ) → x ≡ Err (Bad (commit.BadJournal line)) → IsTrue (o.tells new) → Keeps journal_text Q s → ⊥
  bad_from Q s new before now x (IsUnseen same counted unopened) line is told keeps = subst (λ (y : Settled). IsUnopened y) is unopened
  bad_from Q s new before now x (HasNothing same counted bare done) line is told keeps = cc
  bad_from Q s new before now x (IsRecovered from r same recovers ends) line is told keeps =
      recovery_reads Q from new before now line
      (subst (λ (y : Ended). Recovers o from new before now y) (ends_with r (Bad (commit.BadJournal line)) x ends is) recovers)
      (sym recovers.same_kind ∙ told)
      (subst (λ (t : State). Keeps journal_text Q t) (sym same) keeps)

  pub settling_reads : (Q : Image → Type 0) (old new : F) (before now : List Carrier) (line : ℕ) → Settles o old new before now (Err (Bad (commit.BadJournal line))) → IsTrue (o.tells new) → Keeps journal_text Q (o.state old) → ⊥
  settling_reads Q old new before now line (inl unseen) told keeps = unseen.2
  settling_reads Q old new before now line (inr from) told keeps = bad_from Q (settled (o.state old)) new before now (Err (Bad (commit.BadJournal line))) from line refl told (synced journal_text Q (o.state old) keeps)

  -- ---- want of memory

  starved_from : (s : State) (new : F) (before now : List Carrier) (x : Settled) → SettlesFrom o s new before now x → x ≡ Err or.OutOfMemory → o.state new ≡ s
  starved_from s new before now x (IsUnseen same counted unopened) is = same
  starved_from s new before now x (HasNothing same counted bare done) is = same
  starved_from s new before now x (IsRecovered from r same recovers ends) is =
      let starved : Recovers o from new before now (Err or.OutOfMemory) = subst (λ (y : Ended). Recovers o from new before now y) (ends_with r or.OutOfMemory x ends is) recovers in
      starved.starved.0 ∙ same

  pub settling_starved : (old new : F) (before now : List Carrier) → Settles o old new before now (Err or.OutOfMemory) → (o.state new ≡ o.state old) ⊎ (o.state new ≡ settled (o.state old))
  settling_starved old new before now (inl unseen) = inl unseen.0
  settling_starved old new before now (inr from) = inr (starved_from (settled (o.state old)) new before now (Err or.OutOfMemory) from refl)
