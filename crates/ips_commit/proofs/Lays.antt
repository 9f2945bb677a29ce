-- Steps laid from a reader's place on: which of the text's they are.
use Rattle.std.proofs.Common.{◌≡◌, ◌⊎◌, inl, inr, ⊎_elim, ℕ, zero, suc, ◌+◌, ◌*◌, Bool, true, false, List, [], ◌∷◌, ◌++◌, append_assoc, length, length-append, take, drop, refl, sym, ◌∙◌, ap, subst, arith}
use Rattle.std.proofs.Math.ListN.{drop_of_length-le}
use Rattle.std.proofs.Math.Seq.{take-length, take-append_seam, drop-append_seam, drop-length}
use Rattle.std.proofs.lemmas.List.{take-append-drop, drop-take, length-take-le, take_all}
use Rattle.std.proofs.lemmas.Bool.{cases_lt, and_parts, and_from}
use Rattle.ips_outside.specs.Image.{Image}
use Rattle.ips_outside.specs.Outside.{Outside}
use Rattle.ips_steps.specs.Steps.{Step}
use Rattle.ips_steps.specs.Journal.{IsJournal, step_allowed, allowed}
use Rattle.ips_journal.specs.Text.{journal_text}
use Rattle.ips_journal.specs.Bad.{IsBadLine}
use Rattle.ips_journal.specs.Reading.{ReaderState, IsAt}
use Rattle.ips_journal.specs.declared.fault.StepFault.{StepFault}
use Rattle.ips_journal.specs.declared.fault.StepFault.TheVariants.{BadJournal, FolderFault}
use Rattle.ips_journal.proofs.JournalLaws.{one_text, none_bad, in_order}
use Rattle.ips_apply.specs.Applied.{BeginsWith, IsImpossible, ChangedByAll, StopsBy, EndsOrNot}

-- ---- fronts of a list

-- one less
pub front_less : (a all : List Step) (s : Step) → a ++ s ∷ [] ≡ take (length (a ++ s ∷ [])) all → a ≡ take (length a) all
front_less a all s is =
    let count : length (a ++ s ∷ []) ≡ length a + 1 = length-append a (s ∷ []) in
    let cut : take (length a) (a ++ s ∷ []) ≡ take (length a) (take (length a + 1) all) = ap (take (length a)) (is ∙ ap (λ (n : ℕ). take n all) count) in
    sym (take-append_seam a (s ∷ [])) ∙ cut ∙ take_less (length a) all
  where
    take_suc : (n : ℕ) (l : List Step) → take n (take (suc n) l) ≡ take n l
    take_suc zero l = refl
    take_suc (suc n) [] = refl
    take_suc (suc n) (x ∷ l) = ap (λ (r : List Step). x ∷ r) (take_suc n l)

    take_less : (n : ℕ) (l : List Step) → take n (take (n + 1) l) ≡ take n l
    take_less n l = let one_more : n + 1 ≡ suc n = omega arith in ap (λ (k : ℕ). take n (take k l)) one_more ∙ take_suc n l

-- what follows a front
pub next_of : (all begun : List Step) (n : ℕ) → take n all ++ begun ≡ take (length (take n all ++ begun)) all → begun ≡ take (length begun) (drop n all)
next_of all begun n is =
    let front = take n all in
    let count : length (front ++ begun) ≡ length front + length begun = length-append front begun in
    sym (drop-append_seam front begun) ∙ ap (drop (length front)) (is ∙ ap (λ (k : ℕ). take k all) count) ∙ drop-take (length front) (length begun) all ∙ ap (take (length begun)) same
  where
    same : drop (length (take n all)) all ≡ drop n all
    same = elim (cases_lt n (length all)) [
      | inl lt ↦ ap (λ (k : ℕ). drop k all) (length-take-le n all (omega arith))
      | inr ge ↦ ap (λ (l : List Step). drop (length l) all) (take_all n all ge) ∙ drop-length all ∙ sym (drop_of_length-le all ge)
    ]

pub rest_of : (all rest : List Step) (n : ℕ) → take n all ++ rest ≡ all → rest ≡ drop n all
rest_of all rest n is = sym (drop-append_seam (take n all) rest) ∙ ap (drop (length (take n all))) (is ∙ sym (take-append-drop n all)) ∙ drop-append_seam (take n all) (drop n all)

-- the first many thousands and what follows them
pub front_grown : (all steps : List Step) (first marks : ℕ) → take (1000 * first) all ++ steps ≡ take (length (take (1000 * first) all ++ steps)) all → length steps + 1000 * first ≡ 1000 * marks
    → take (1000 * first) all ++ steps ≡ take (1000 * marks) all
front_grown all steps first marks is count =
    let front = take (1000 * first) all in
    let sum : length (front ++ steps) ≡ length front + length steps = length-append front steps in
    elim (cases_lt (length all) (1000 * first)) [
      | inl past ↦
          let whole : length front ≡ length all = ap length (take_all (1000 * first) all (omega (arith, past))) in
          is ∙ take_all (length (front ++ steps)) all (omega (arith, sum, whole)) ∙ sym (take_all (1000 * marks) all (omega (arith, past, count)))
      | inr within ↦
          let so_many : length front ≡ 1000 * first = length-take-le (1000 * first) all within in
          let same : length (front ++ steps) ≡ 1000 * marks = omega (arith, sum, so_many, count) in
          is ∙ ap (λ (n : ℕ). take n all) same
    ]

pub allowed_before : (front steps : List Step) → allowed (front ++ steps) ≡ true → allowed front ≡ true
allowed_before [] steps may = refl
allowed_before (x ∷ front) steps may = let parts = and_parts (step_allowed x) _ may in and_from _ _ parts.0 (allowed_before front steps parts.1)

-- ---- the next steps of a text

-- The steps behind the front that were finished or begun: they are the next ones of whatever list the text is the journal
-- of, and all that changed anything.
pub record HasBegun {F : Type 0} (o : Outside F) (text : List ℕ) (front : List Step) (old new : F) : Type 0 where
  pub begun : List Step
  pub next : (all : List Step) → IsJournal all → text ≡ journal_text all → front ++ begun ≡ take (length (front ++ begun)) all
  pub moments : ChangedByAll o begun old new

-- where the text begins with them
pub begins_next : (text : List ℕ) (front begun : List Step) → BeginsWith text (front ++ begun) → (all : List Step) → IsJournal all → text ≡ journal_text all → front ++ begun ≡ take (length (front ++ begun)) all
begins_next text front begun begins all lists is = (in_order all (front ++ begun) begins.0 lists (subst (λ (l : List ℕ). IsAt l (front ++ begun) begins.0) is begins.1)).1

whole_next : (text : List ℕ) (whole : List Step) → IsJournal whole → text ≡ journal_text whole → (all : List Step) → IsJournal all → text ≡ journal_text all → whole ≡ take (length whole) all
whole_next text whole lists is all lists_all is_all = subst (λ (l : List Step). whole ≡ take (length whole) l) (one_text whole all lists lists_all (sym is ∙ is_all)) (sym (take-length whole))

-- where it ends with them or not
pub part_next : (text : List ℕ) (front steps : List Step) (r : ReaderState) (ended : Bool) → EndsOrNot text (front ++ steps) r ended → (all : List Step) → IsJournal all → text ≡ journal_text all → front ++ steps ≡ take (length (front ++ steps)) all
part_next text front steps r true ends all lists is = whole_next text (front ++ steps) ends.0 ends.1 all lists is
part_next text front steps r false at all lists is = begins_next text front steps (r, at) all lists is

pub part_lists : (text : List ℕ) (list : List Step) (r : ReaderState) (ended : Bool) → EndsOrNot text list r ended → IsJournal list
part_lists text list r true ends = ends.0
part_lists text list r false at = at.1.listed

bad_next : (text : List ℕ) (front steps : List Step) (t : Image) (line : ℕ) → IsBadLine text line ⊎ IsImpossible text (front ++ steps) t line → (all : List Step) → IsJournal all → text ≡ journal_text all → front ++ steps ≡ take (length (front ++ steps)) all
bad_next text front steps t line why all lists is = ⊎_elim
    (λ bad. absurd (none_bad all line lists (subst (λ (l : List ℕ). IsBadLine l line) is bad)))
    (λ cannot. front_less (front ++ steps) all cannot.step (begins_next text (front ++ steps) (cannot.step ∷ []) cannot.stands all lists is))
    why

module _ {F : Type 0} (o : Outside F) (old new : F) where
  pub stopped_begun : (text : List ℕ) (front steps : List Step) (e : StepFault) → StopsBy o text front steps old new e → HasBegun o text front old new
  stopped_begun text front steps (BadJournal line) ends = record { begun = steps; next = bad_next text front steps (o.state new).held line ends.1; moments = ends.0.moments }
  stopped_begun text front steps FolderFault ends = record { begun = ends.begun; next = begins_next text front ends.begun ends.stands; moments = ends.moments }

  -- so were the steps that were finished
  pub stopped_next : (text : List ℕ) (front steps : List Step) (e : StepFault) → StopsBy o text front steps old new e → (all : List Step) → IsJournal all → text ≡ journal_text all → front ++ steps ≡ take (length (front ++ steps)) all
  stopped_next text front steps (BadJournal line) ends all lists is = bad_next text front steps (o.state new).held line ends.1 all lists is
  stopped_next text front steps FolderFault ends all lists is = ⊎_elim
      (λ same. subst (λ (l : List Step). front ++ l ≡ take (length (front ++ l)) all) same (begins_next text front ends.begun ends.stands all lists is))
      (λ one. front_less (front ++ steps) all one.0 (subst (λ (l : List Step). l ≡ take (length l) all) (ap (λ (l : List Step). front ++ l) one.1 ∙ sym (append_assoc front steps (one.0 ∷ []))) (begins_next text front ends.begun ends.stands all lists is)))
      ends.one_more
