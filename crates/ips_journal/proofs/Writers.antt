-- A journal written step by step.
use lib.Chars.{codes}
use Rattle.std.proofs.Common.{◌≡◌, ℕ, ◌+◌, ◌^◌, ◌<◌, min, List, [], ◌∷◌, ◌++◌, length, Option, Some, None, refl, sym, ap, ◌∙◌, subst, arith, append_assoc, append-nil, length-append}
use Rattle.std.specs.Fmt.{decimal}
use Rattle.ips_text.proofs.Ancestry.{same_path-self}
use Rattle.ips_outside.specs.Image.{Entry, Dir, File, Link, Other, Image, is_file, file_bytes}
use Rattle.ips_outside.specs.Change.{appended, more_bytes}
use Rattle.ips_folder.specs.Calls.{IsSole}
use Rattle.ips_steps.specs.Steps.{Step}
use Rattle.ips_steps.specs.Private.{journal_name}
use Rattle.ips_journal.specs.Text.{head_line, line, step_line, end_line, headed, journal_text}
use Rattle.ips_journal.specs.Writing.{IsWritten}
use Rattle.ips_journal.specs.declared.writer.JournalWriter.{JournalWriter}
use Rattle.ips_journal.proofs.Standing.{line_written}

more_of : (more file : List ℕ) (e : Option Entry) → file_bytes e ≡ Some file → file_bytes (more_bytes more e) ≡ Some (file ++ more)
more_of more file (Some (Dir m f)) is = cc
more_of more file (Some (File m b)) is = let same : b ≡ file = cc in ap (λ (l : List ℕ). Some (l ++ more)) same
more_of more file (Some (Link g)) is = cc
more_of more file (Some Other) is = cc
more_of more file None is = cc

-- the bytes of a file that is appended to
pub appended_bytes : (p more file : List ℕ) (t : Image) → file_bytes (t.look p) ≡ Some file → file_bytes ((appended p more t).look p) ≡ Some (file ++ more)
appended_bytes p more file t is = rw (same_path-self p) (more_of more file (t.look p) is)

more_file : (more : List ℕ) (e : Option Entry) → is_file (more_bytes more e) ≡ is_file e
more_file more (Some (Dir m f)) = refl
more_file more (Some (File m b)) = refl
more_file more (Some (Link g)) = refl
more_file more (Some Other) = refl
more_file more None = refl

-- a file with one name stays one
pub sole_appended : (p more : List ℕ) (t : Image) → IsSole t p → IsSole (appended p more t) p
sole_appended p more t own = record { file = rw (same_path-self p) (more_file more (t.look p) ∙ own.file); sole = own.sole }

module _ (w : JournalWriter) (t : Image) (steps : List Step) (is : IsWritten w t steps) where
  -- what was gathered is appended
  pub appended_all : (v : JournalWriter) (u : Image) (p bytes : List ℕ) → bytes ≡ w.gathered.items → p ≡ journal_name → u ≡ appended p bytes t → v.gathered.items ≡ [] → v.steps ≡ w.steps → IsWritten v u steps
  appended_all v u p bytes all at made none same =
      let here : u ≡ appended journal_name w.gathered.items t = made ∙ ap (λ (x : List ℕ). appended x bytes t) at ∙ ap (λ (x : List ℕ). appended journal_name x t) all in
      subst (λ (x : Image). IsWritten v x steps) (sym here) (record {
        file = is.file ++ w.gathered.items;
        stands = appended_bytes journal_name w.gathered.items is.file t is.stands;
        sole = sole_appended journal_name w.gathered.items t is.sole;
        text = λ rest. ap (λ (x : List ℕ). ((is.file ++ w.gathered.items) ++ x) ++ rest) none ∙ ap (λ (x : List ℕ). x ++ rest) (append-nil (is.file ++ w.gathered.items)) ∙ is.text rest;
        counted = same ∙ is.counted;
      })

  -- one step more
  pub step_written : (v : JournalWriter) (s : Step) → v.gathered.items ≡ w.gathered.items ++ line (step_line s) [] → v.steps ≡ min (w.steps + 1) 18446744073709551615 → IsWritten v t (steps ++ s ∷ [])
  step_written v s more count = record {
    file = is.file;
    stands = is.stands;
    sole = is.sole;
    text = λ rest. line_written (is.file ++ w.gathered.items) (line head_line []) (is.file ++ v.gathered.items) rest steps (steps ++ s ∷ []) s is.text
        (ap (λ (x : List ℕ). is.file ++ x) more ∙ sym (append_assoc is.file w.gathered.items (line (step_line s) []))) refl;
    counted = omega (arith, count, is.counted, length-append steps (s ∷ []));
  }

  -- the last line
  pub all_written : (u : Image) (p bytes : List ℕ) → length steps < 2 ^ 64 → bytes ≡ w.gathered.items ++ (codes "end " ++ (decimal w.steps ++ 10 ∷ [])) → p ≡ journal_name → u ≡ appended p bytes t
      → file_bytes (u.look journal_name) ≡ Some (journal_text steps)
  all_written u p bytes few all at made =
      let here : u ≡ appended journal_name bytes t = made ∙ ap (λ (x : List ℕ). appended x bytes t) at in
      let count : w.steps ≡ length steps = omega (arith, is.counted, few) in
      let last : List ℕ = line (end_line w.steps) [] in
      ap (λ (x : Image). file_bytes (x.look journal_name)) here
      ∙ appended_bytes journal_name bytes is.file t is.stands
      ∙ ap Some (ap (λ (x : List ℕ). is.file ++ x) all ∙ sym (append_assoc is.file w.gathered.items last) ∙ is.text last ∙ ap (λ (n : ℕ). headed steps (line (end_line n) [])) count)
