-- A file copied to the end of another, part by part.
use Rattle.std.proofs.Common.{◌≡◌, ℕ, ◌+◌, ◌<◌, ◌≤◌, true, false, List, ◌++◌, length, take, drop, take-add, take_all, Result, Ok, refl, sym, ◌∙◌, ap, subst, arith, inl, inr}
use Rattle.std.proofs.lemmas.Bool.{cases_lt}
use Rattle.ips_text.specs.Ancestry.{covers}
use Rattle.ips_outside.specs.Image.{Image}
use Rattle.ips_outside.specs.Change.{appended}
use Rattle.ips_outside.specs.State.{State, nowhere, written}
use Rattle.ips_outside.specs.Outside.{Outside, IsOutside, Reads, readable, IsRead}
use Rattle.ips_folder.specs.Calls.{Writes, ChangesOnly, IsSole}
use Rattle.ips_outside.proofs.Reading.{answered}
use Rattle.ips_folder.proofs.Runs.{begun, keeps_then, one_read, one_write}
use Rattle.ips_journal.proofs.Writers.{sole_appended}
use Rattle.ips_folder.proofs.Filled.{appended_none, appended_twice}

module _ {F : Type 0} (o : Outside F) (p from : List ℕ) where
  -- what can be read of the file that is copied
  abbrev pub source_of : F → List ℕ
  source_of f = readable ((o.state f).held.look from)

  -- So many bytes are copied.
  pub record Copied (start now : F) (count : ℕ) : Type 0 where
    pub same_kind : o.tells now ≡ o.tells start
    pub faults : o.faults now ≡ o.faults start
    pub changes : o.changes start ≤ o.changes now
    pub held : o.tells start ≡ true → (o.state now).held ≡ appended p (take count (source_of start)) (o.state start).held
    pub moments : o.tells start ≡ true → ChangesOnly o (covers p) nowhere start now

module _ {F : Type 0} (o : Outside F) (sane : IsOutside o) (p from : List ℕ) where
  abbrev source : F → List ℕ
  source f = source_of o p from f

  abbrev CopiedTo : F → F → ℕ → Type 0
  CopiedTo start now count = Copied o p from start now count

  pub copied_none : (start : F) → CopiedTo start start 0
  copied_none start = record {
    same_kind = refl;
    faults = refl;
    changes = omega arith;
    held = λ told. sym (appended_none p (o.state start).held);
    moments = λ told. begun o (covers p) nowhere start (sane.only_now start);
  }

  -- a run behind a call that only reads
  pub kept_behind : (start mid new : F) (failure : Type 0) → Reads o start mid failure → ChangesOnly o (covers p) nowhere mid new → ChangesOnly o (covers p) nowhere start new
  kept_behind start mid new failure read run = keeps_then o (covers p) nowhere start mid new (one_read o sane (covers p) nowhere start mid failure read) run

  module _ (apart : covers p from ≡ false) (start now : F) (count : ℕ) (c : CopiedTo start now count) where
    -- the file that is copied stays
    pub source_stays : o.tells start ≡ true → source now ≡ source start
    source_stays told = ap readable ((c.moments told).now.agrees.look from apart refl)

    pub sole_stays : o.tells start ≡ true → IsSole (o.state start).held p → IsSole (o.state now).held p
    sole_stays told own = subst (λ (t : Image). IsSole t p) (sym (c.held told)) (sole_appended p (take count (source start)) (o.state start).held own)

    -- a call on it that only reads, whatever it answers
    pub kept_reading : (mid : F) (failure : Type 0) → Reads o now mid failure → o.tells start ≡ true → ChangesOnly o (covers p) nowhere start mid
    kept_reading mid failure read told = keeps_then o (covers p) nowhere start now mid (c.moments told) (one_read o sane (covers p) nowhere now mid failure read)

    module _ (mid : F) (failure : Type 0) (read : Reads o now mid failure) where
      pub told_mid : o.tells start ≡ true → o.tells mid ≡ true
      told_mid told = read.call.same_kind ∙ c.same_kind ∙ told

      pub sole_mid : o.tells start ≡ true → IsSole (o.state start).held p → IsSole (o.state mid).held p
      sole_mid told own = subst (λ (s : State). IsSole s.held p) (sym read.kept) (sole_stays told own)

      pub kept_writing : (new : F) (to : State) {T E : Type 0} (result : Result T E) → Writes o (covers p) nowhere to mid new result → o.tells start ≡ true → ChangesOnly o (covers p) nowhere start new
      kept_writing new to result w told = keeps_then o (covers p) nowhere start mid new (kept_reading mid failure read told)
          (one_write o sane mid new (covers p) nowhere to result (told_mid told) w)

      -- one part more
      pub copied_more : (fine : failure → ⊥) (buffer : List ℕ) (n : ℕ) → (o.tells now ≡ true → IsRead (source now) count buffer n) → (new : F) {T E : Type 0} (result : Result T E) (x : T) → result ≡ Ok x
          → Writes o (covers p) nowhere (written p (appended p (take n buffer) (o.state mid).held) (o.state mid)) mid new result
          → (o.tells mid ≡ true → o.state new ≡ written p (appended p (take n buffer) (o.state mid).held) (o.state mid)) → CopiedTo start new (count + n)
      copied_more fine buffer n part new result x is w done = record {
        same_kind = w.call.same_kind ∙ read.call.same_kind ∙ c.same_kind;
        faults = w.call.cause.steady (answered result x is) ∙ read.call.cause.steady fine ∙ c.faults;
        changes = omega (arith, c.changes, read.none_made, w.one_made.later);
        held = λ told.
            let here = part (c.same_kind ∙ told) in
            let file : source now ≡ source start = source_stays told in
            let bytes : take n buffer ≡ take n (drop count (source start)) = here.bytes ∙ ap (λ (l : List ℕ). take n (drop count l)) file in
            ap (λ s. s.held) (done (told_mid told))
            ∙ ap (λ s. appended p (take n buffer) s.held) read.kept
            ∙ ap (appended p (take n buffer)) (c.held told)
            ∙ appended_twice p (take count (source start)) (take n buffer) (o.state start).held
            ∙ ap (λ (l : List ℕ). appended p l (o.state start).held) (ap (λ (l : List ℕ). take count (source start) ++ l) bytes ∙ sym (take-add count n (source start)));
        moments = λ told. kept_writing new _ result w told;
      }

    -- all is copied
    pub copied_all : o.tells start ≡ true → length (source start) ≤ count → (o.state now).held ≡ appended p (source start) (o.state start).held
    copied_all told whole = c.held told ∙ ap (λ (l : List ℕ). appended p l (o.state start).held) (take_all count (source start) whole)

    -- an empty part comes at the end alone
    pub copied_end : (buffer : List ℕ) → IsRead (source now) count buffer 0 → 0 < length buffer → o.tells start ≡ true → length (source start) ≤ count
    copied_end buffer part room told = elim (cases_lt count (length (source now))) [
      | inl more ↦ absurd (let some = part.some room more in omega arith)
      | inr end ↦ let same = ap length (source_stays told) in omega (arith, end, same)
    ]
