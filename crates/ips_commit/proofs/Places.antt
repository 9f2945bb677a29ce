-- The place in a journal at which a recovery goes on.
use Rattle.std.proofs.Common.{◌≡◌, ◌⊎◌, inl, inr, ⊎_elim, ℕ, ◌+◌, ◌*◌, ◌<◌, ◌≤◌, ◌^◌, Bool, true, false, List, [], ◌∷◌, ◌++◌, length, length-append, take, drop, min, Option, Some, None, is_some, Result, Ok, Err, IfErr, OnOk, refl, sym, ◌∙◌, ap, subst, arith}
use Rattle.std.proofs.Math.ListN.{drop_of_length-le}
use Rattle.std.proofs.lemmas.List.{length-take-le, take_min}
use Rattle.std.proofs.lemmas.Bool.{cases_lt}
use Rattle.ips_outside.specs.Image.{Entry, Image}
use Rattle.ips_outside.specs.State.{State}
use Rattle.ips_outside.specs.Outside.{Outside, Reads}
use Rattle.ips_steps.specs.Steps.{Step}
use Rattle.ips_steps.specs.Private.{gate_name, mark_name}
use Rattle.ips_steps.specs.Journal.{IsJournal}
use Rattle.ips_steps.specs.Owed.{steps_left, IsOpen}
use Rattle.ips_journal.specs.Text.{journal_text}
use Rattle.ips_journal.specs.Bad.{IsBadLine}
use Rattle.ips_journal.specs.Reading.{ReaderState, IsAt, NextAnswers, IsJournalFault, journal_of}
use Rattle.ips_journal.specs.declared.fault.StepFault.{StepFault}
use Rattle.ips_journal.specs.declared.fault.StepFault.TheVariants.{BadJournal, FolderFault}
use Rattle.ips_journal.proofs.JournalLaws.{one_text, none_bad, in_order}
use Rattle.ips_commit.specs.declared.fault.CommitFault.{CommitFault}
use Rattle.ips_commit.specs.declared.fault.CommitFault.TheVariants as fault
use Rattle.ips_commit.specs.Recovering.{AreCounted, IsPlaced, ReadsWhole, SaysOfText, SaysOfFinding, unread_as}
use Rattle.ips_commit.proofs.Owing.{ready_text}
use Rattle.ips_commit.proofs.Leftovers.{some_of}

-- ---- what a reader answers, where the folder was only read before

module _ {F : Type 0} (o : Outside F) (old mid : F) (reads : Reads o old mid ⊥) where
  text_same : journal_of (o.state mid).held ≡ journal_of (o.state old).held
  text_same = ap (λ (s : State). journal_of s.held) reads.kept

  pub means_here : (r now : ReaderState) (result : Result Bool StepFault)
      → (o.tells mid ≡ true → (front : List Step) → IsAt (journal_of (o.state mid).held) front r → NextAnswers (journal_of (o.state mid).held) front now result)
      → o.tells old ≡ true → (front : List Step) → IsAt (journal_of (o.state old).held) front r → NextAnswers (journal_of (o.state old).held) front now result
  means_here r now result means told front at = subst (λ (l : List ℕ). NextAnswers l front now result) text_same
      (means (reads.call.same_kind ∙ told) front (subst (λ (l : List ℕ). IsAt l front r) (sym text_same) at))

-- ---- a whole journal read

-- The reader stands behind so many steps of the text.
abbrev pub HasRead : List ℕ → ReaderState → ℕ → Type 0
HasRead text r count = (front : List Step) × IsAt text front r × (length front ≡ count)

fault_of : (text : List ℕ) (e : StepFault) → IsJournalFault text e → ReadsWhole text (Err e)
fault_of text (BadJournal line) is = is
fault_of text FolderFault is = tt

pub whole_fault : (text : List ℕ) (front : List Step) (now : ReaderState) (result : Result Bool StepFault) (e : StepFault) (answer : Result ℕ StepFault) → result ≡ Err e → answer ≡ Err e → NextAnswers text front now result → ReadsWhole text answer
whole_fault text front now result e answer was is means = subst (ReadsWhole text) (sym is) (fault_of text e (subst (NextAnswers text front now) was means))

pub whole_end : (text : List ℕ) (front : List Step) (now : ReaderState) (result : Result Bool StepFault) (count : ℕ) → result ≡ Ok false → NextAnswers text front now result → length front ≡ count → ReadsWhole text (Ok count)
whole_end text front now result count was means so_many = let m = subst (NextAnswers text front now) was means in (front, m.0, m.1, so_many)

pub read_more : (text : List ℕ) (front : List Step) (now : ReaderState) (result : Result Bool StepFault) (count : ℕ) → result ≡ Ok true → NextAnswers text front now result → length front ≡ count → HasRead text now (count + 1)
read_more text front now result count was means so_many =
    let m = subst (NextAnswers text front now) was means in
    (front ++ m.0 ∷ [], m.1, length-append front (m.0 ∷ []) ∙ ap (λ (n : ℕ). n + 1) so_many)

pub too_many : (text : List ℕ) (r : ReaderState) (count : ℕ) → HasRead text r (count + 1) → count ≡ 18446744073709551615 → ReadsWhole text (Ok count)
too_many text r count read most = absurd (omega (arith, read.1.1.listed.count, read.2))

-- ---- a part of a journal passed

module _ (steps : List Step) (lists : IsJournal steps) (text : List ℕ) (is : text ≡ journal_text steps) where
  pub passed_more : (i : ℕ) (now : ReaderState) (result : Result Bool StepFault) → i < length steps → result ≡ Ok true → NextAnswers text (take i steps) now result → IsAt text (take (i + 1) steps) now
  passed_more i now result lt was means =
      let m = subst (NextAnswers text (take i steps) now) was means in
      let front = take i steps ++ m.0 ∷ [] in
      let order = in_order steps front now lists (subst (λ (l : List ℕ). IsAt l front now) is m.1) in
      let count : length front ≡ i + 1 = length-append (take i steps) (m.0 ∷ []) ∙ ap (λ (n : ℕ). n + 1) (length-take-le i steps (omega arith)) in
      subst (λ (l : List Step). IsAt text l now) (order.1 ∙ ap (λ (n : ℕ). take n steps) count) m.1

  pub never_ends : (i : ℕ) (now : ReaderState) (result : Result Bool StepFault) → i < length steps → result ≡ Ok false → NextAnswers text (take i steps) now result → ⊥
  never_ends i now result lt was means =
      let m = subst (NextAnswers text (take i steps) now) was means in
      let same : take i steps ≡ steps = one_text (take i steps) steps m.0 lists (sym m.1 ∙ is) in
      omega (arith, length-take-le i steps (omega arith), ap length same)

  pub only_folder : (front : List Step) (now : ReaderState) (result : Result Bool StepFault) (e : StepFault) → result ≡ Err e → NextAnswers text front now result → e ≡ FolderFault
  only_folder front now result e was means = go e (subst (NextAnswers text front now) was means)
    where
      go : (e : StepFault) → IsJournalFault text e → e ≡ FolderFault
      go (BadJournal line) bad = absurd (none_bad steps line lists (subst (λ (l : List ℕ). IsBadLine l line) is bad))
      go FolderFault bad = refl

pub failed_as : (answer : Result (Unit {0}) StepFault) (e : StepFault) (P : Type 0) → answer ≡ Err e → e ≡ FolderFault → OnOk answer P × IfErr answer (λ why. why ≡ FolderFault)
failed_as answer e P is at = subst (λ (r : Result (Unit {0}) StepFault). OnOk r P × IfErr r (λ why. why ≡ FolderFault)) (sym is) (tt, at)

-- ---- marks counted

pub stand_more : (t u : Image) (count : ℕ) (p : List ℕ) (there : Bool) → u ≡ t → p ≡ mark_name (count + 1) → there ≡ is_some (u.look p) → there ≡ true
    → ((i : ℕ) → i < count → t.look (mark_name (i + 1)) ≡ None → ⊥) → (i : ℕ) → i < count + 1 → t.look (mark_name (i + 1)) ≡ None → ⊥
stand_more t u count p there same at found is before i lt none = elim (cases_lt i count) [
  | inl less ↦ before i less none
  | inr more ↦
      let last : i ≡ count = omega arith in
      let stands : is_some (t.look (mark_name (count + 1))) ≡ true = ap is_some (ap t.look (sym at)) ∙ ap (λ (v : Image). is_some (v.look p)) (sym same) ∙ sym found ∙ is in
      some_of (t.look (mark_name (count + 1))) stands (ap (λ (k : ℕ). t.look (mark_name (k + 1))) (sym last) ∙ none)
]

pub counted_here : (t u : Image) (total count : ℕ) (p : List ℕ) (there : Bool) → u ≡ t → p ≡ mark_name (count + 1) → there ≡ is_some (u.look p) → there ≡ false
    → ((i : ℕ) → i < count → t.look (mark_name (i + 1)) ≡ None → ⊥) → AreCounted t total count
counted_here t u total count p there same at found is before = record {
  stand = before;
  last = inl (none_of (t.look (mark_name (count + 1))) (ap is_some (ap t.look (sym at)) ∙ ap (λ (v : Image). is_some (v.look p)) (sym same) ∙ sym found ∙ is));
}
  where
    none_of : (e : Option Entry) → is_some e ≡ false → e ≡ None
    none_of None off = refl
    none_of (Some x) off = cc

pub counted_all : (t : Image) (total count enough : ℕ) → count ≡ enough → total ≤ 1000 * enough → ((i : ℕ) → i < count → t.look (mark_name (i + 1)) ≡ None → ⊥) → AreCounted t total enough
counted_all t total count enough same all before = subst (AreCounted t total) same (record { stand = before; last = inr (omega arith) })

-- ---- why a journal can't be read

pub text_fault : (text : List ℕ) (e : StepFault) (why : CommitFault) → ReadsWhole text (Err e) → why ≡ unread_as e → SaysOfText text why
text_fault text e why reads is = subst (SaysOfText text) (sym is) (go e reads)
  where
    go : (e : StepFault) → ReadsWhole text (Err e) → SaysOfText text (unread_as e)
    go (BadJournal line) bad = bad
    go FolderFault bad = tt

pub folder_fault : (text : List ℕ) (e : StepFault) (why : CommitFault) → e ≡ FolderFault → why ≡ unread_as e → SaysOfText text why
folder_fault text e why at is = subst (SaysOfText text) (sym is) (subst (λ (x : StepFault). SaysOfText text (unread_as x)) (sym at) tt)

pub unread_unchanged : (e : StepFault) (why : CommitFault) → why ≡ unread_as e → why ≡ fault.Unchanged → e ≡ FolderFault
unread_unchanged (BadJournal line) why is un = cc
unread_unchanged FolderFault why is un = refl

pub unread_unbegun : (e : StepFault) (why : CommitFault) → why ≡ unread_as e → why ≡ fault.Unfinished → ⊥
unread_unbegun (BadJournal line) why is un = cc
unread_unbegun FolderFault why is un = cc

pub unchanged_unread : (e : StepFault) (why : CommitFault) → why ≡ unread_as e → e ≡ FolderFault → why ≡ fault.Unchanged
unchanged_unread e why is at = is ∙ ap unread_as at

-- ---- the place that the marks tell

take_least : (n m : ℕ) (l : List Step) → length l ≡ m → take (min n m) l ≡ take n l
take_least n m l is = ap (λ (k : ℕ). take (min n k) l) (sym is) ∙ take_min n l

pub placed_at : (t : Image) (total count passed : ℕ) (r : ReaderState) → (whole : (steps : List Step) × IsJournal steps × (journal_of t ≡ journal_text steps) × (length steps ≡ total)) → AreCounted t total count
    → passed ≡ min (min (count * 1000) 18446744073709551615) total → IsAt (journal_of t) (take passed whole.0) r → IsPlaced t r count
placed_at t total count passed r whole counted is at = record {
  steps = whole.0;
  is = record { lists = whole.1; text_is = whole.2; marked = subst (λ (n : ℕ). AreCounted t n count) (sym whole.3) counted };
  at = subst (λ (l : List Step). IsAt (journal_of t) l r) (ap (λ (n : ℕ). take n whole.0) least ∙ take_least (1000 * count) total whole.0 whole.3) at;
}
  where
    few : total < 2 ^ 64
    few = subst (λ (n : ℕ). n < 2 ^ 64) whole.3 whole.1.count

    least : passed ≡ min (1000 * count) total
    least = is ∙ (omega (arith, few))

-- from what was read, counted and passed
pub placed_from : (t : Image) (result : Result ℕ StepFault) (total count passed : ℕ) (r : ReaderState) → result ≡ Ok total → ReadsWhole (journal_of t) result → AreCounted t total count
    → passed ≡ min (min (count * 1000) 18446744073709551615) total
    → ((steps : List Step) → IsJournal steps → journal_of t ≡ journal_text steps → passed ≤ length steps → IsAt (journal_of t) (take passed steps) r) → IsPlaced t r count
placed_from t result total count passed r is reads counted so_many at =
    let whole = subst (ReadsWhole (journal_of t)) is reads in
    let few : passed ≤ length whole.0 = subst (λ (n : ℕ). passed ≤ n) (sym whole.3) (omega (arith, so_many)) in
    placed_at t total count passed r whole counted so_many (at whole.0 whole.1 whole.2 few)

-- ---- what a finding says

pub says_found : (t : Image) → (t.look gate_name ≡ None → ⊥) → (why : CommitFault) → SaysOfText (journal_of t) why → SaysOfFinding t why
says_found t gate fault.Unchanged says = tt
says_found t gate fault.Unfinished says = says
says_found t gate (fault.BadJournal line) says = (gate, says)

pub gate_as : (t u : Image) (p : List ℕ) (b : Bool) → u ≡ t → p ≡ gate_name → b ≡ is_some (u.look p) → b ≡ is_some (t.look gate_name)
gate_as t u p b same at found = found ∙ ap (λ (v : Image). is_some (v.look p)) same ∙ ap (λ (x : List ℕ). is_some (t.look x)) at

-- ---- the place at which an owed list is left

module _ (t : Image) (r : ReaderState) (count : ℕ) (placed : IsPlaced t r count) (steps : List Step) (marks : ℕ) (a : Image) (is_open : IsOpen journal_text steps marks a t) where
  pub same_steps : placed.steps ≡ steps
  same_steps = one_text placed.steps steps placed.is.lists is_open.ready.lists (sym placed.is.text_is ∙ ready_text steps marks a t is_open.ready)

  -- the marks that stand: as many, or enough for all steps on both sides
  pub counts : (count ≡ marks) ⊎ ((length steps ≤ 1000 * count) × (length steps ≤ 1000 * marks))
  counts = ⊎_elim
      (λ none. inl (as_many none))
      (λ whole.
      let all : length steps ≤ 1000 * count = subst (λ (l : List Step). length l ≤ 1000 * count) same_steps whole in
      let more : count ≤ marks = at_least in
      inr (all, omega arith))
      placed.is.marked.last
    where
      at_least : count ≤ marks
      at_least = elim (cases_lt marks count) [
        | inl lt ↦ absurd (placed.is.marked.stand marks lt is_open.ready.marked.last)
        | inr ge ↦ ge
      ]

      as_many : t.look (mark_name (count + 1)) ≡ None → count ≡ marks
      as_many none = elim (cases_lt count marks) [
        | inl lt ↦ absurd (is_open.ready.marked.stand count lt none)
        | inr ge ↦ let le : count ≤ marks = at_least in omega arith
      ]

  -- so both leave the same steps
  pub same_left : steps_left count steps ≡ steps_left marks steps
  same_left = ⊎_elim
      (λ same. ap (λ (n : ℕ). drop (1000 * n) steps) same)
      (λ both. drop_of_length-le steps both.0 ∙ sym (drop_of_length-le steps both.1))
      counts
