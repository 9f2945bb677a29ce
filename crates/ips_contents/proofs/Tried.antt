-- Contents stay as they are while calls are tried beside them.
use Rattle.std.proofs.Common.{◌≡◌, ℕ, ◌+◌, ◌%◌, ◌<◌, Bool, true, false, ◌||◌, ◌==◌, if◌then◌else◌, zero, suc, ◌/◌, List, [], ◌∷◌, length, Option, Some, None, refl, sym, ◌∙◌, ap, arith}
use Rattle.std.proofs.lemmas.Bool.{and_parts, or_parts, or_from, eqb-true, ne_eqb, false_from_ne_true, lt-ltb}
use Rattle.std.specs.Fmt.{decimal, digits, digits_onto, digit_glyph}
use Rattle.ips_text.specs.Ancestry.{covers, is_below}
use Rattle.ips_text.proofs.Ancestry.{covers_trans}
use Rattle.ips_outside.specs.Image.{Entry, Image, IsImage, Agrees, is_file, file_bytes}
use Rattle.ips_outside.specs.State.{State}
use Rattle.ips_outside.specs.Outside.{Outside}
use Rattle.ips_folder.specs.Calls.{ChangesOnly, Throughout}
use Rattle.ips_folder.proofs.Runs.{joins, keeps_then, keeps_wider, weaker}
use Rattle.ips_steps.specs.Steps.{Step, stage_name, stage_path, stage_of}
use Rattle.ips_steps.specs.declared.step.Step as program
use Rattle.ips_steps.proofs.Lists.{clash}
use Rattle.ips_journal.specs.declared.staged.Staged.{Staged}
use Rattle.ips_rehearse.specs.Tried.{try_name, IsGone}
use Rattle.ips_rehearse.proofs.Paths.{try_parent}
use Rattle.ips_rehearse.proofs.Trials.{off_child}
use Rattle.ips_contents.specs.Contents.{StagedContents, AreAlone, HaveModes, HoldsOnly}
use Rattle.ips_contents.specs.Writing.{WasRehearsed}
use Rattle.ips_contents.proofs.AllWritten.{some_content}
use Rattle.ips_rehearse.proofs.Opens.{trials_staged}
use Rattle.ips_steps.proofs.ByName.{bytes_file}

-- ---- no content's name is that of the trials

-- a byte is `t`
abbrev lettered : List ℕ → Bool
lettered [] = false
lettered (b ∷ bytes) = (b == 116) || lettered bytes

no_letter : (n : ℕ) → n < 10 → (48 + n == 116) ≡ false
no_letter n lt = ne_eqb (48 + n) 116 (λ e. omega (arith, e, lt))

small_digit : (n : ℕ) → (digit_glyph false (n % 10) == 116) ≡ false
small_digit n = rw (lt-ltb (n % 10) 10 (omega arith)) (no_letter (n % 10) (omega arith))

either_plain : (last : Bool) (a b : List ℕ) → lettered a ≡ false → lettered b ≡ false → lettered (if last then a else b) ≡ false
either_plain true a b wa wb = wa
either_plain false a b wa wb = wb

digits_plain : (k n : ℕ) (acc : List ℕ) → lettered acc ≡ false → lettered (digits_onto k 10 false n acc) ≡ false
digits_plain zero n acc plain = plain
digits_plain (suc k) n acc plain =
    let more : lettered (digit_glyph false (n % 10) ∷ acc) ≡ false = or_from _ _ (small_digit n) plain in
    either_plain (n / 10 == 0) _ _ more (digits_plain k (n / 10) (digit_glyph false (n % 10) ∷ acc) more)

number_plain : (n : ℕ) → lettered (decimal n) ≡ false
unfolding digits
number_plain n = digits_plain 64 n [] refl

-- what begins with `t` is not at or above a text without one
plain_apart : (p q : List ℕ) → lettered q ≡ false → covers (116 ∷ p) q ≡ false
plain_apart p [] plain = refl
plain_apart p (b ∷ q) plain = false_from_ne_true _ (λ c.
    let first : 116 ≡ b = eqb-true 116 b (and_parts (116 == b) (covers p q) c).0 in
    clash (b == 116) (ap (λ (x : ℕ). x == 116) (sym first)) (or_parts (b == 116) (lettered q) plain).0)

content_untried : (n : ℕ) → covers try_name (stage_path n) ≡ false
unfolding try_name stage_name
content_untried n = plain_apart (114 ∷ 121 ∷ []) (decimal n) (number_plain n)

stage_untried : covers try_name stage_name ≡ false
unfolding try_name stage_name
stage_untried = refl

-- what isn't in the stage is not at or below the trials
try_in_stage : (q : List ℕ) → covers stage_name q ≡ false → covers try_name q ≡ false
try_in_stage q off = false_from_ne_true _ (λ c. clash (covers stage_name q) (covers_trans stage_name try_name q trials_staged c) off)

-- the trials are below the stage
try_below : (q : List ℕ) → covers try_name q ≡ true → is_below stage_name q ≡ true
try_below q c = go (is_below stage_name q) refl
  where
    go : (b : Bool) → is_below stage_name q ≡ b → is_below stage_name q ≡ true
    go true is = is
    go false off = clash (covers try_name q) c (off_child stage_name try_name try_parent q off)

-- ---- before the trials

-- nothing stands there where only contents stand in the stage
pub untried : (count : ℕ) (t : Image) → HoldsOnly count t → IsGone try_name t
untried count t only q c = go (t.look q) refl
  where
    go : (e : Option Entry) → t.look q ≡ e → t.look q ≡ None
    go None is = is
    go (Some x) is =
        let at = only q (try_below q c) (λ none. let bad : Some x ≡ None = sym is ∙ none in cc) in
        clash (covers try_name q) c (ap (covers try_name) at.2 ∙ content_untried at.0)

-- the first content, if there is one, is a file
pub first_there : (tells : Bool) (repository : Image) (publisher : List ℕ) (t u : Image) (staged : List Staged) → StagedContents tells repository publisher t staged (stage_of u)
    → 0 < length staged → is_file (u.look (stage_path 0)) ≡ true
first_there tells repository publisher t u staged are some = bytes_file (u.look (stage_path 0)) (some_content tells repository publisher t staged (stage_of u) are 0 some)

-- ---- behind them

module _ (t u : Image) (h : Agrees (covers try_name) (covers try_name) t u) (gone : IsGone try_name u) where
  same_content : (n : ℕ) → u.look (stage_path n) ≡ t.look (stage_path n)
  same_content n = h.look (stage_path n) (content_untried n) (content_untried n)

  pub same_stage : u.look stage_name ≡ t.look stage_name
  same_stage = h.look stage_name stage_untried stage_untried

  pub contents_tried : (tells : Bool) (repository : Image) (publisher : List ℕ) (before : Image) (staged : List Staged) → StagedContents tells repository publisher before staged (stage_of t) → StagedContents tells repository publisher before staged (stage_of u)
  contents_tried tells repository publisher before staged are n s at = let old = are n s at in (old.0, ap file_bytes (same_content n) ∙ old.1, old.2)

  pub modes_tried : (steps : List Step) → HaveModes steps t → HaveModes steps u
  modes_tried steps modes k n m p there = let old = modes k n m p there in (old.0, same_content n ∙ old.1)

  pub alone_tried : IsImage u → AreAlone t → AreAlone u
  alone_tried formed alone n q small same = go (covers try_name q) refl
    where
      go : (c : Bool) → covers try_name q ≡ c → q ≡ stage_path n
      go true c = absurd (let files = formed.files (stage_path n) q same in let bad : is_file None ≡ true = ap is_file (sym (gone q c)) ∙ ap is_file (sym files.1) ∙ files.0 in cc)
      go false off = alone n q small (sym (h.same (stage_path n) q (content_untried n) off) ∙ same)

  pub only_tried : (count : ℕ) → HoldsOnly count t → HoldsOnly count u
  only_tried count only q below there = go (covers try_name q) refl
    where
      go : (c : Bool) → covers try_name q ≡ c → (n : ℕ) × (n < count) × (q ≡ stage_path n)
      go true c = absurd (there (gone q c))
      go false off = only q below (λ none. there (h.look q off off ∙ none))

-- contents written and calls tried in the stage
module _ {F : Type 0} (o : Outside F) where
  pub tried_then : (old mid new : F) → ChangesOnly o (covers stage_name) (covers stage_name) old mid → ChangesOnly o (covers try_name) (covers try_name) mid new → ChangesOnly o (covers stage_name) (covers stage_name) old new
  tried_then old mid new first run = keeps_then o (covers stage_name) (covers stage_name) old mid new first
      (keeps_wider o (covers try_name) (covers try_name) (covers stage_name) (covers stage_name) mid new try_in_stage try_in_stage run)

-- ---- what was tried in a run

-- it was tried in a longer one
pub rehearsed_within : {F : Type 0} (o : Outside F) (P Q : State → Type 0) (steps : List program.Step) (n : ℕ) (old mid late new : F) → Throughout o old mid Q → ((s : State) → P s → Q s) → Throughout o late new Q
    → WasRehearsed o steps n P mid late → WasRehearsed o steps n Q old new
rehearsed_within o P Q steps n old mid late new before more behind w = record {
  from = w.from;
  to = w.to;
  since = joins o old mid w.from Q before (weaker o mid w.from P Q more w.since);
  tried = w.tried;
  until = joins o w.to late new Q (weaker o w.to late P Q more w.until) behind;
}
