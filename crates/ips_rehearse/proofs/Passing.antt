-- Moments of a run of calls.
use Rattle.std.proofs.Common.{◌≡◌, ◌⊎◌, inl, inr, ⊎_elim, ℕ, ◌+◌, ◌<◌, ◌≤◌, ◌==◌, ◌||◌, nat_lt, Bool, true, false, List, IsTrue, length, refl, sym, subst, arith}
use Rattle.std.proofs.lemmas.Bool.Decides.{nat_tests}
use Rattle.std.proofs.lemmas.List.{get_or_past}
use Rattle.std.proofs.lemmas.Bool.{eq-eqb, eqb-true, or_left}
use Rattle.ips_outside.specs.Image.{Image, is_file}
use Rattle.ips_outside.specs.Outside.{Outside, IsCall}
use Rattle.ips_steps.specs.declared.step.Step.{Step}
use Rattle.ips_rehearse.specs.Rehearsed.{HasNamed, HasTried, HasTriedModes}
use Rattle.ips_rehearse.specs.Tried.{in_modes, in_try, IsDirOf, IsFileOf, IsLinkTo, IsNamed, Passed, Stood, WasWorked}

ne_of : (m n : ℕ) → (m == n) ≡ false → m ≡ n → ⊥
ne_of m n other same = let self : (m == n) ≡ true = eq-eqb m n same in cc

-- a mode is below the number of modes
in_range : (modes : List Bool) (m : ℕ) → length modes ≤ 4096 → in_modes modes m ≡ true → m < 4096
in_range modes m few is = ⊎_elim (λ lt. lt) (λ ge. absurd (let past : in_modes modes m ≡ false = get_or_past modes m false (omega (arith, ge, few)) in cc)) (lt_or_ge m 4096)
  where
    lt_or_ge : (a b : ℕ) → (a < b) ⊎ (b ≤ a)
    lt_or_ge a b = go (nat_lt a b) refl
      where
        go : (t : Bool) → nat_lt a b ≡ t → (a < b) ⊎ (b ≤ a)
        go true is = inl (grind (arith, nat_tests))
        go false is = inr (grind (arith, nat_tests))

module _ {F : Type 0} (o : Outside F) where
  pub pass_none : (f : F) → Passed o f f
  pass_none f = record { later = omega arith; remembers = λ t s le was. was }

  pub pass_call : (old new : F) (failure : Type 0) → IsCall o old new failure → Passed o old new
  pass_call old new failure call = record { later = call.time.later; remembers = call.time.remembers }

  pub pass_then : (a b c : F) → Passed o a b → Passed o b c → Passed o a c
  pass_then a b c first last = record {
    later = omega (arith, first.later, last.later);
    remembers = λ t s le was. last.remembers t s (omega (arith, le, first.later)) (first.remembers t s le was);
  }

  -- the same of a run that holds it
  pub stood_within : (a b c d : F) (P : Image → Type 0) → Passed o a b → Passed o c d → Stood o b c P → Stood o a d P
  stood_within a b c d P before behind s = record { at = s.at; since = pass_then a b s.at before s.since; until = pass_then s.at c d s.until behind; held = s.held }

  pub stood_as : (a b : F) (P Q : Image → Type 0) → ((t : Image) → P t → Q t) → Stood o a b P → Stood o a b Q
  stood_as a b P Q f s = record { at = s.at; since = s.since; until = s.until; held = f (o.state s.at).held s.held }

  pub passed_by : (a b : F) (P : Image → Type 0) → Stood o a b P → Passed o a b
  passed_by a b P s = pass_then a s.at b s.since s.until

  pub worked_within : (a b c d : F) (m : ℕ) → Passed o a b → Passed o c d → WasWorked o m b c → WasWorked o m a d
  worked_within a b c d m before behind w = record {
    at = w.at;
    since = pass_then a b w.at before w.since;
    busy = w.busy;
    then = record { at = w.then.at; since = w.then.since; until = pass_then w.then.at c d w.then.until behind; held = w.then.held };
    still = w.still;
  }

  pub named_within : (n : ℕ) (a b c d : F) → Passed o a b → Passed o c d → HasNamed o n b c → HasNamed o n a d
  named_within n a b c d before behind h = record { to = h.to; content = h.content; named = stood_within a b c d (IsNamed h.to) before behind h.named }

  -- the modes below a number were tried
  abbrev pub ModesBelow : F → F → List Bool → List Bool → List Bool → ℕ → Type 0
  ModesBelow old new worked dirs files n = (m : ℕ) → m < n → (IsTrue (in_modes worked m) → WasWorked o m old new) × (IsTrue (in_modes dirs m) → Stood o old new (IsDirOf m)) × (IsTrue (in_modes files m) → Stood o old new (IsFileOf m))

  pub none_below : (old : F) (worked dirs files : List Bool) → ModesBelow old old worked dirs files 0
  none_below old worked dirs files m lt = absurd (omega (arith, lt))

  -- one mode more
  pub more_below : (old mid then new : F) (worked dirs files : List Bool) (n : ℕ) → Passed o old mid → Passed o mid then → Passed o then new → ModesBelow old mid worked dirs files n
      → (IsTrue (in_modes dirs n || in_modes worked n) → Stood o mid then (IsDirOf n)) → (IsTrue (in_modes worked n) → WasWorked o n mid then) → (IsTrue (in_modes files n) → Stood o then new (IsFileOf n))
      → ModesBelow old new worked dirs files (n + 1)
  more_below old mid then new worked dirs files n first second third so_far makes works sets m lt = go (m == n) refl
    where
      none : Passed o old old
      none = pass_none old

      behind : Passed o mid new
      behind = pass_then mid then new second third

      end : Passed o new new
      end = pass_none new

      go : (b : Bool) → (m == n) ≡ b → (IsTrue (in_modes worked m) → WasWorked o m old new) × (IsTrue (in_modes dirs m) → Stood o old new (IsDirOf m)) × (IsTrue (in_modes files m) → Stood o old new (IsFileOf m))
      go true same = subst (λ (k : ℕ). (IsTrue (in_modes worked k) → WasWorked o k old new) × (IsTrue (in_modes dirs k) → Stood o old new (IsDirOf k)) × (IsTrue (in_modes files k) → Stood o old new (IsFileOf k))) (sym (eqb-true m n same)) (
        λ is. worked_within old mid then new n first third (works is),
        λ is. stood_within old mid then new (IsDirOf n) first third (makes (or_left (in_modes dirs n) (in_modes worked n) is)),
        λ is. stood_within old then new new (IsFileOf n) (pass_then old mid then first second) end (sets is),
      )
      go false other =
          let before = so_far m (omega (arith, lt, ne_of m n other)) in (
            λ is. worked_within old old mid new m none behind (before.0 is),
            λ is. stood_within old old mid new (IsDirOf m) none behind (before.1 is),
            λ is. stood_within old old mid new (IsFileOf m) none behind (before.2 is),
          )

  pub all_below : (old new : F) (worked dirs files : List Bool) (n : ℕ) → 4096 ≤ n → length worked ≤ 4096 → length dirs ≤ 4096 → length files ≤ 4096 → ModesBelow old new worked dirs files n → HasTriedModes o old new worked dirs files
  all_below old new worked dirs files n end few_1 few_2 few_3 all = record {
    works = λ m is. (all m (let lt = in_range worked m few_1 is in omega (arith, lt, end))).0 is;
    makes = λ m is. (all m (let lt = in_range dirs m few_2 is in omega (arith, lt, end))).1 is;
    sets = λ m is. (all m (let lt = in_range files m few_3 is in omega (arith, lt, end))).2 is;
  }

  pub modes_within : (a b c d : F) (worked dirs files : List Bool) → Passed o a b → Passed o c d → HasTriedModes o b c worked dirs files → HasTriedModes o a d worked dirs files
  modes_within a b c d worked dirs files before behind h = record {
    works = λ m is. worked_within a b c d m before behind (h.works m is);
    makes = λ m is. stood_within a b c d (IsDirOf m) before behind (h.makes m is);
    sets = λ m is. stood_within a b c d (IsFileOf m) before behind (h.sets m is);
  }

  pub tried_within : (steps : List Step) (n : ℕ) (a b c d : F) → Passed o a b → Passed o c d → HasTried o steps n b c → HasTried o steps n a d
  tried_within steps n a b c d before behind h = record {
    name_of = λ some. named_within n a b c d before behind (h.name_of some);
    target = h.target;
    longest_target = h.longest_target;
    linked = ⊎_elim (λ none. inl none) (λ s. inr (stood_within a b c d (IsLinkTo h.target) before behind s)) h.linked;
    name = h.name;
    longest_name = h.longest_name;
    named = ⊎_elim (λ none. inl none) (λ s. inr (stood_within a b c d (λ t. IsTrue (is_file (t.look (in_try h.name)))) before behind s)) h.named;
  }
