-- What is kept through stops.
use Rattle.std.proofs.Common.{◌≡◌, ℕ, Bool, true, false, ◌||◌, List, [], ◌++◌, Option, Some, None, refl, sym, ap, subst, ◌∙◌, inl}
use Rattle.ips_outside.specs.Image.{Image, IsImage, Agrees}
use Rattle.ips_outside.specs.State.{State, MayLeave, IsSettled, ChangedWithin, nowhere, settled, untouched}
use Rattle.ips_outside.specs.Outside.{Outside, IsOutside}
use Rattle.ips_outside.proofs.Moments.{agrees_on, agrees_less, within_crash}
use Rattle.ips_folder.specs.Calls.{Throughout}
use Rattle.ips_folder.proofs.Runs.{started, joins}
use Rattle.ips_steps.specs.Steps.{Step}
use Rattle.ips_steps.specs.Private.{gate_name, visible}
use Rattle.ips_steps.specs.Owed.{Owes, Old, Open, New, FolderOwes, IsPrivate}
use Rattle.ips_steps.proofs.Lists.{clash}
use Rattle.ips_steps.proofs.Owing.{folder_old}
use Rattle.ips_sends.specs.Keeps.{ShowsAtEnd, Shut, Forward, ShowsSomeAtEnd, Keeps}
use Rattle.ips_sends.specs.Sends.{IsSend, HasSettled, Sends, First, Early, Stopped, Finished, Crash}

module _ (text : List Step → List ℕ) where
  -- what a crash leaves of what a crash left
  left_again : (s : State) (c d : Image) → MayLeave s c → MayLeave (untouched c) d → MayLeave s d
  left_again s c d may again = record {
    formed = again.formed;
    agrees = agrees_on s.whole s.modes s.held c d may.agrees (agrees_less nowhere nowhere s.whole s.modes c d (λ q h. refl) (λ q h. refl) again.agrees);
  }

  left_synced : (s : State) (d : Image) → MayLeave (settled s) d → MayLeave s d
  left_synced s d may = record { formed = may.formed; agrees = agrees_less nowhere nowhere s.whole s.modes s.held d (λ q h. refl) (λ q h. refl) may.agrees }

  pub crashed : (Q : Image → Type 0) (s : State) (c : Image) → Keeps text Q s → MayLeave s c → Keeps text Q (untouched c)
  crashed Q s c keeps may = record { now = keeps.left c may; left = λ d again. keeps.left d (left_again s c d may again) }

  pub synced : (Q : Image → Type 0) (s : State) → Keeps text Q s → Keeps text Q (settled s)
  synced Q s keeps = record { now = keeps.now; left = λ d may. keeps.left d (left_synced s d may) }

  leads : (Q : Image → Type 0) (b : Image) (a : Option Image) (due : Bool) (t : Image) → Owes text b a due t → (due ≡ false → Q b) → ((x : Image) → a ≡ Some x → Q x) → ShowsSomeAtEnd text Q t
  leads Q b a due t (Old shut seen) old new = (b, Shut shut seen, old refl)
  leads Q b a due t (Open {a = x} steps marks is) old new = (x, Forward steps marks is, new x refl)
  leads Q b a due t (New {a = x} shut seen) old new = (x, Shut shut seen, new x refl)

  pub owed : (Q : Image → Type 0) (b : Image) (a : Option Image) (due : Bool) (s : State) → FolderOwes text b a due s → (due ≡ false → Q b) → ((x : Image) → a ≡ Some x → Q x) → Keeps text Q s
  owed Q b a due s owes old new = record { now = leads Q b a due s.held owes.now old new; left = λ c may. leads Q b a due c (owes.left c may) old new }

  shut_leads : (t u : Image) → ShowsAtEnd text t u → t.look gate_name ≡ None → visible t ≡ u
  shut_leads t u (Shut gone seen) shut = seen
  shut_leads t u (Forward steps marks is) shut = absurd (is.gate shut)

  pub seen : (Q : Image → Type 0) (s : State) → Keeps text Q s → s.held.look gate_name ≡ None → Q (visible s.held)
  seen Q s keeps shut = let n = keeps.now in subst Q (sym (shut_leads s.held n.0 n.1 shut)) n.2

  private_of : (s : State) → IsSettled s → IsPrivate s
  private_of s clean = record { whole = λ q is. absurd (clash (s.whole q) is (clean.whole q)); modes = λ q is. absurd (clash (s.modes q) is (clean.modes q)) }

  pub settled_keeps : (Q : Image → Type 0) (s : State) → IsSettled s → s.held.look gate_name ≡ None → Q (visible s.held) → Keeps text Q s
  settled_keeps Q s clean shut is = owed Q (visible s.held) None false s (folder_old text s (private_of s clean) shut (clean.whole gate_name) None) (λ _. is) (λ x e. cc)

  -- ---- histories

  module _ {F A : Type 0} (o : Outside F) (Holds : List A → Image → Type 0) where
    pub kept : (xs : List A) (s : State) → Sends text o Holds xs s → Keeps text (Holds xs) s
    kept xs s (First held clean shut holds) = settled_keeps (Holds xs) held clean shut holds
    kept xs s (Early begun ended old new is so_far was) = (is.before xs (kept xs (o.state old) so_far)).each s was
    kept xs s (Stopped {xs = before} begun ended old new is so_far was) = (is.still before (kept before (o.state old) so_far)).each s was
    kept xs s (Finished {xs = before} begun ended old new is so_far) = is.at_end before (kept before (o.state old) so_far)
    kept xs s (Crash {s = held} left so_far may) = crashed (Holds xs) held left (kept xs held so_far) may

    pub found : (xs : List A) (old at : F) → Sends text o Holds xs (o.state old) → HasSettled text o Holds old at → Holds xs (visible (o.state at).held)
    found xs old at so_far is = seen (Holds xs) (o.state at) (is.kept xs (kept xs (o.state old) so_far)) is.shut

    -- ---- runs

    -- what is said is kept throughout
    abbrev pub KeepsAll : F → F → Type 0
    KeepsAll old new = (xs : List A) → Keeps text (Holds xs) (o.state old) → Throughout o old new (Keeps text (Holds xs))

    module _ (sane : IsOutside o) where
      kept_here : (old new : F) → KeepsAll old new → (xs : List A) → Keeps text (Holds xs) (o.state old) → Keeps text (Holds xs) (o.state new)
      kept_here old new all xs was = let run = all xs was in run.each (o.state new) (sane.counts_now new (o.clock old) run.later)

      -- a run that begins no attempt
      pub nothing_begun : (old new : F) → KeepsAll old new → IsSend text o Holds [] [] old new
      nothing_begun old new all = record {
        at = new;
        before = all;
        from = new;
        first = inl refl;
        still = λ xs was. started o new (Keeps text (Holds xs)) (sane.only_now new) (kept_here old new all xs was);
        at_end = kept_here old new all;
      }

      -- a run behind calls that keep what is said
      pub behind : (begun ended : List A) (old mid new : F) → KeepsAll old mid → IsSend text o Holds begun ended mid new → IsSend text o Holds begun ended old new
      behind begun ended old mid new all is = record {
        at = is.at;
        before = λ xs was. joins o old mid is.at (Keeps text (Holds xs)) (all xs was) (is.before xs (kept_here old mid all xs was));
        from = is.from;
        first = is.first;
        still = λ xs was. is.still xs (kept_here old mid all xs was);
        at_end = λ xs was. is.at_end xs (kept_here old mid all xs was);
      }
