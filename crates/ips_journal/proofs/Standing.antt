-- What reading and writing a line do to where a reader or a text stands.
use Rattle.std.proofs.Common.{◌≡◌, ℕ, suc, ◌+◌, ◌-◌, ◌^◌, ◌<◌, ◌≤◌, false, List, [], ◌∷◌, ◌++◌, length, take, drop, Option, Some, None, IfOk, Result, Ok, Err, inl, inr, refl, sym, ap, ◌∙◌, subst, arith, append_assoc, length-append, length-drop, length-take-le}
use Rattle.std.proofs.Math.Seq.{take-append-add}
use Rattle.std.proofs.lemmas.List.{drop-drop, drop_all}
use Rattle.ips_steps.specs.Steps.{Step}
use Rattle.ips_steps.specs.Journal.{IsJournal, numbered}
use Rattle.ips_journal.specs.Text.{head_line, line, step_line, step_lines, end_line, headed, journal_text}
use Rattle.ips_journal.specs.Bad.{GoesOn, IsBadLine}
use Rattle.ips_text.specs.Cut.{has_byte}
use Rattle.ips_journal.specs.Line.{ComeFirst, BeginsLine}
use Rattle.ips_journal.specs.Reading.{ReaderState, Stands, NextAnswers, IsJournalFault, IsNextLine, TellsLine, puts_in, text_from}
use Rattle.ips_journal.specs.Holding.{IsHeaded, IsNextFault, IsStepLine, ReadMeans, TellsMore, clipped, found_step, seen, step_by}
use Rattle.ips_journal.specs.declared.cursor.Cursor.{Cursor}
use Rattle.ips_journal.specs.declared.parts.Parts.{Parts}
use Rattle.ips_steps.specs.declared.step.Sort.{Sort}
use Rattle.std.specs.Result.{IsErrAnd}
use Rattle.std.specs.Prelude.{is_some}
use Rattle.ips_journal.specs.declared.fault.StepFault.{StepFault}
use Rattle.ips_journal.specs.declared.fault.StepFault.TheVariants.{BadJournal, FolderFault}
use Rattle.ips_text.proofs.Cuts.{cut_once, not_cut}
use Rattle.ips_journal.proofs.LinePieces.{first_behind}
use Rattle.ips_journal.proofs.StepLines.{step_one_line, end_one_line, step_short, end_short}
use Rattle.ips_journal.proofs.Journals.{journal_more, journal_last, last_told, puts_few, puts_more, lines_more, headed_long}

-- ---- writing

pub line_written : (text start new rest : List ℕ) (steps more : List Step) (s : Step) → ((x : List ℕ) → text ++ x ≡ start ++ step_lines steps x) → new ≡ text ++ line (step_line s) [] → more ≡ steps ++ s ∷ []
    → new ++ rest ≡ start ++ step_lines more rest
line_written text start new rest steps more s so_far e m =
    ap (λ (l : List ℕ). l ++ rest) e
    ∙ append_assoc text (line (step_line s) []) rest
    ∙ ap (λ (l : List ℕ). text ++ l) (append_assoc (step_line s) (10 ∷ []) rest)
    ∙ so_far (line (step_line s) rest)
    ∙ ap (λ (l : List ℕ). start ++ l) (sym (lines_more steps s rest))
    ∙ ap (λ (l : List Step). start ++ step_lines l rest) (sym m)

-- ---- lines

-- where no newline stands within the room, no shorter line does
pub no_line : (x more ahead : List ℕ) (room : ℕ) → length x < room → has_byte 10 (take room ahead) ≡ false → ahead ≡ x ++ 10 ∷ more → ⊥
no_line x more ahead room lt off e =
    let rest : room ≡ length x + suc (room - length x - 1) = omega arith in
    let front : take room ahead ≡ x ++ 10 ∷ take (room - length x - 1) more = ap (λ (n : ℕ). take n ahead) rest ∙ ap (take (length x + suc (room - length x - 1))) e ∙ take-append-add x (10 ∷ more) (suc (room - length x - 1)) in
    not_cut 10 (take room ahead) x (take (room - length x - 1) more) off front

-- the first line of a text that begins so is no other
head_once : (bytes a b : List ℕ) → has_byte 10 bytes ≡ false → line bytes a ≡ line head_line b → bytes ≡ head_line
head_once bytes a b off e = (cut_once 10 bytes a head_line b off refl e).0

-- ---- the first line

pub head_read : (text held : List ℕ) (count : ℕ) → ComeFirst held text → BeginsLine text held count → count < length held → take count held ≡ head_line → length text < 2 ^ 64 → IsHeaded text 10 (drop (count + 1) held)
head_read text held count first begins within is small =
    let nine : count ≡ 9 = omega (arith, length-take-le count held (omega arith), ap length is) in
    let parts : text ≡ line head_line (drop 10 text) = begins.parts ∙ ap (λ (l : List ℕ). line l (drop (count + 1) text)) is ∙ ap (λ (n : ℕ). line head_line (drop (n + 1) text)) nine in
    record { parts = parts; within = omega (arith, ap length parts); small = small; ahead = subst (λ (n : ℕ). ComeFirst (drop (count + 1) held) (drop (n + 1) text)) nine (first_behind text held (count + 1) (omega arith) first) }

pub no_head : (text buffer : List ℕ) (count : ℕ) → BeginsLine text buffer count → (take count buffer ≡ head_line → ⊥) → IsBadLine text 1
no_head text buffer count begins off = λ rest e. off (head_once (take count buffer) (drop (count + 1) text) rest begins.one_line (sym begins.parts ∙ e))

pub no_first : (text : List ℕ) → has_byte 10 (take 16384 text) ≡ false → IsBadLine text 1
no_first text off = λ rest e. no_line head_line rest text 16384 (omega arith) off e

module _ (text : List ℕ) (front : List Step) where
  -- behind the first line, where nothing was read before
  pub behind_first : (old new : ReaderState) → Stands (text_from front) text front old → old.steps ≡ 0 → IsHeaded text new.place new.ahead → new.steps ≡ old.steps → new.puts ≡ old.puts → Stands (headed front) text front new
  behind_first old new h zero first steps puts = go front h.listed h.steps h.puts
    where
      go : (f : List Step) → IsJournal f → old.steps ≡ length f → old.puts ≡ puts_in f → Stands (headed f) text f new
      go [] listed count put = record {
        listed = listed;
        steps = steps ∙ count;
        puts = puts ∙ put;
        line = λ some. absurd (omega (arith, steps, zero, some));
        place = first.within;
        begins = first.parts;
        ahead = first.ahead;
        small = λ some. first.small;
      }
      go (s ∷ f) listed count put = absurd (omega (arith, zero, count))

  -- a fault of the first line
  pub first_fault : (r : ReaderState) → Stands (text_from front) text front r → r.steps ≡ 0 → (f : StepFault) → IsJournalFault text f → TellsLine 1 f → IsNextFault text front f
  first_fault r h zero (BadJournal line) bad is = (bad, inl (none front (sym h.steps ∙ zero), is))
    where
      none : (f : List Step) → length f ≡ 0 → f ≡ []
      none [] e = refl
      none (s ∷ f) e = absurd (omega (arith, e))
  first_fault r h zero FolderFault bad is = (tt, tt)

  -- and where a step was
  pub behind_already : (r : ReaderState) → Stands (text_from front) text front r → 0 < r.steps → Stands (headed front) text front r
  behind_already r h some = go front h.listed h.steps h.puts h.begins
    where
      go : (f : List Step) → IsJournal f → r.steps ≡ length f → r.puts ≡ puts_in f → text ≡ text_from f (drop r.place text) → Stands (headed f) text f r
      go [] listed count put begins = absurd (omega (arith, some, count))
      go (s ∷ f) listed count put begins = record { listed = listed; steps = count; puts = put; line = h.line; place = h.place; begins = begins; ahead = h.ahead; small = h.small }

-- ---- a further line

from_more : (front : List Step) (s : Step) (x : List ℕ) → headed front (line (step_line s) x) ≡ text_from (front ++ s ∷ []) x
from_more [] s x = refl
from_more (t ∷ front) s x = ap (line head_line) (sym (lines_more (t ∷ front) s x))

module _ (text : List ℕ) (front : List Step) (r : ReaderState) (h : Stands (headed front) text front r) (small : length text < 2 ^ 64) where
  long : length front + length (drop r.place text) + 10 ≤ length text
  long = omega (arith, headed_long front (drop r.place text), ap length h.begins)

  bad_line : (number : ℕ) → number ≡ clipped r.steps 2 → ((s : Step) (more : List ℕ) → IsJournal (front ++ s ∷ []) → drop r.place text ≡ line (step_line s) more → ⊥)
      → ((more : List ℕ) → drop r.place text ≡ line (end_line (length front)) more → ⊥) → IsBadLine text number × IsNextLine text front number
  bad_line number is no_step no_end =
      let count : number ≡ suc (suc (length front)) = omega (arith, is, h.steps, long, small) in (
        subst (IsBadLine text) (sym count) (inl (record { front = front; rest = drop r.place text; listed = h.listed; counted = refl; parts = h.begins; no_step = no_step; no_end = no_end })),
        inr (inl (omega (arith, count))),
      )

  -- no line ends within the room
  pub none_ends : (number : ℕ) → number ≡ clipped r.steps 2 → has_byte 10 (take 16384 (drop r.place text)) ≡ false → IsBadLine text number × IsNextLine text front number
  none_ends number is off = bad_line number is
      (λ s more j e. let told = last_told front s j in no_line (step_line s) more (drop r.place text) 16384 (omega (arith, step_short s told.0 told.1)) off e)
      (λ more e. no_line (end_line (length front)) more (drop r.place text) 16384 (omega (arith, end_short (length front) h.listed.count)) off e)

  module _ (bytes : List ℕ) (count : ℕ) (parts : drop r.place text ≡ line bytes (drop (count + 1) (drop r.place text))) (one_line : has_byte 10 bytes ≡ false) (sized : length bytes ≡ count) where
    behind : drop (count + 1) (drop r.place text) ≡ drop (r.place + (count + 1)) text
    behind = drop-drop (count + 1) r.place text

    pub line_within : r.place + (count + 1) ≤ length text
    line_within = omega (arith, ap length parts, sized, h.place, length-drop r.place text, length-append bytes (10 ∷ drop (count + 1) (drop r.place text)))

    -- the line tells no step that may stand there, and isn't the last
    pub no_such_line : (number : ℕ) → number ≡ clipped r.steps 2 → ((s : Step) → IsStepLine bytes r.puts s → ⊥) → (bytes ≡ end_line r.steps → ⊥) → IsBadLine text number × IsNextLine text front number
    no_such_line number is no_step no_end = bad_line number is
        (λ s more j e.
        let told = last_told front s j in
        let next = journal_last front s j in
        no_step s (record {
          safe = next.safe;
          number = ap (λ (n : ℕ). numbered n (s ∷ [])) h.puts ∙ next.number;
          spelled = (cut_once 10 bytes (drop (count + 1) (drop r.place text)) (step_line s) more one_line (step_one_line s told.0 told.1) (sym parts ∙ e)).0;
        }))
        (λ more e. no_end ((cut_once 10 bytes (drop (count + 1) (drop r.place text)) (end_line (length front)) more one_line (end_one_line (length front) h.listed.count) (sym parts ∙ e)).0 ∙ ap end_line (sym h.steps)))

    -- the line tells a step
    pub step_taken : (s : Step) (new : ReaderState) (held : List ℕ) → ComeFirst held (drop r.place text) → count < length held → new.ahead ≡ drop (count + 1) held → IsStepLine bytes r.puts s → new.place ≡ clipped r.place (count + 1) → new.steps ≡ clipped r.steps 1 → new.puts ≡ clipped r.puts (puts_in (s ∷ [])) → new.line ≡ clipped r.steps 2
        → Stands (text_from (front ++ s ∷ [])) text (front ++ s ∷ []) new
    step_taken s new held first fits ahead is place steps puts number =
        let here : new.place ≡ r.place + (count + 1) = omega (arith, place, line_within, small) in
        record {
          listed = journal_more front s h.listed is.safe (ap (λ (n : ℕ). numbered n (s ∷ [])) (sym h.puts) ∙ is.number) (omega (arith, long, small));
          steps = omega (arith, steps, h.steps, long, small, length-append front (s ∷ []));
          puts = omega (arith, puts, h.puts, puts_more front (s ∷ []), puts_few front, puts_few (s ∷ []), long, small);
          line = λ some. omega (arith, number, steps, h.steps, long, small);
          place = omega (arith, here, line_within);
          begins =
              h.begins
              ∙ ap (headed front) (parts ∙ ap (λ (l : List ℕ). line l (drop (count + 1) (drop r.place text))) is.spelled ∙ ap (line (step_line s)) (behind ∙ ap (λ (n : ℕ). drop n text) (sym here)))
              ∙ from_more front s (drop new.place text);
          ahead = subst (λ (l : List ℕ). ComeFirst l (drop new.place text)) (sym ahead)
              (subst (ComeFirst (drop (count + 1) held)) (behind ∙ ap (λ (n : ℕ). drop n text) (sym here)) (first_behind (drop r.place text) held (count + 1) (omega arith) first));
          small = λ some. small;
        }

    whole : bytes ≡ end_line r.steps → text ≡ headed front (line (end_line (length front)) (drop (r.place + (count + 1)) text))
    whole is =
        h.begins ∙ ap (headed front) (parts ∙ ap (λ (l : List ℕ). line l (drop (count + 1) (drop r.place text))) (is ∙ ap end_line h.steps) ∙ ap (line (end_line (length front))) behind)

    -- the line is the last, and nothing is behind it
    pub all_read : bytes ≡ end_line r.steps → length text ≤ r.place + (count + 1) → IsJournal front × (text ≡ journal_text front)
    all_read is end =
        (h.listed, whole is ∙ ap (λ (l : List ℕ). headed front (line (end_line (length front)) l)) (drop_all (r.place + (count + 1)) text end))

    -- or something is
    pub more_behind : (number : ℕ) → bytes ≡ end_line r.steps → r.place + (count + 1) < length text → number ≡ clipped (clipped r.steps 2) 1 → IsBadLine text number × IsNextLine text front number
    more_behind number is there e =
        let third : number ≡ suc (suc (length front + 1)) = omega (arith, e, h.steps, long, small) in
        let on : GoesOn text (length front + 1) = record { front = front; rest = drop (r.place + (count + 1)) text; listed = h.listed; counted = refl; parts = whole is; there = omega (arith, there, length-drop (r.place + (count + 1)) text) } in
        (subst (IsBadLine text) (sym third) (inr on), inr (inr (on, omega (arith, third))))

    -- what a fault behind the last line tells
    pub fault_behind : (now : List ℕ) (place number : ℕ) (f : StepFault) → bytes ≡ end_line r.steps → now ≡ text → place ≡ r.place + (count + 1) → number ≡ clipped (clipped r.steps 2) 1 → TellsMore number place now f → IsNextFault text front f
    fault_behind now place number (BadJournal told) is same at e h =
        subst (λ (n : ℕ). IsBadLine text n × IsNextLine text front n) (sym h.0) (more_behind number is (omega (arith, h.1, at, ap length same)) e)
    fault_behind now place number FolderFault is same at e h = (tt, tt)

    pub end_behind : (now : List ℕ) (place : ℕ) → bytes ≡ end_line r.steps → now ≡ text → place ≡ r.place + (count + 1) → length now ≤ place → IsJournal front × (text ≡ journal_text front)
    end_behind now place is same at h = all_read is (omega (arith, h, at, ap length same))

-- a fault that is handed on
pub fault_handed : (text : List ℕ) (front : List Step) (new : Cursor) (parts : Parts) (r : Result (Option Sort) StepFault) (f : StepFault) → IsErrAnd r (λ e. e ≡ f) → IsNextFault text front f → ReadMeans text front new parts r
fault_handed text front new parts (Ok x) f h is = absurd h
fault_handed text front new parts (Err e) f h is = subst (IsNextFault text front) (sym h) is

-- the step that is lent is no part of where a reader stands
pub lending : (before : List ℕ → List ℕ) (text : List ℕ) (front : List Step) (c : Cursor) (a b : Option Step) → Stands before text front (seen c a) → Stands before text front (seen c b)
lending before text front c a b h = record { listed = h.listed; steps = h.steps; puts = h.puts; line = h.line; place = h.place; begins = h.begins; ahead = h.ahead; small = h.small }

-- what an answer means, where the step that was found is lent
pub read_means : (text : List ℕ) (front : List Step) (old new : Cursor) (held lent : Option Step) (parts : Parts) (found : Result (Option Sort) StepFault) (x : Option Sort) → found ≡ Ok x
    → (Stands (text_from front) text front (seen old None) → ReadMeans text front new parts found) → IfOk found (λ y. new.is_open ≡ is_some y) → Stands (text_from front) text front (seen old held) → lent ≡ found_step found parts
    → NextAnswers text front (seen new lent) (Ok (is_some x))
read_means text front old new held lent parts found x is means opened h made =
    go x (subst (ReadMeans text front new parts) is (means (lending (text_from front) text front old held None h))) (subst (λ (f : Result (Option Sort) StepFault). IfOk f (λ y. new.is_open ≡ is_some y)) is opened)
    (made ∙ ap (λ (f : Result (Option Sort) StepFault). found_step f parts) is)
  where
    go : (y : Option Sort) → ReadMeans text front new parts (Ok y) → new.is_open ≡ is_some y → lent ≡ found_step (Ok y) parts → NextAnswers text front (seen new lent) (Ok (is_some y))
    go (Some sort) stands opens lend =
        (step_by sort parts, (opens, lending (text_from (front ++ step_by sort parts ∷ [])) text (front ++ step_by sort parts ∷ []) new None lent stands), lend)
    go None listed opens lend = listed

-- a fault that was met
pub read_fault : (text : List ℕ) (front : List Step) (old new : Cursor) (held : Option Step) (parts : Parts) (found : Result (Option Sort) StepFault) (f : StepFault) → found ≡ Err f
    → (Stands (text_from front) text front (seen old None) → ReadMeans text front new parts found) → Stands (text_from front) text front (seen old held) → IsNextFault text front f
read_fault text front old new held parts found f is means h = subst (ReadMeans text front new parts) is (means (lending (text_from front) text front old held None h))
