-- What a spawner in memory keeps, run by run.
use Rattle.std.proofs.Common.{◌≡◌, ℕ, zero, suc, ◌+◌, ◌<◌, ◌≤◌, List, [], ◌∷◌, ◌++◌, length, get_or, take, map, refl, sym, ap, subst, ◌∙◌, append_assoc, append-nil, arith, length-append}
use Rattle.std.specs.List.{flat_map}
use Rattle.std.proofs.lemmas.List.Concat.{flat_map-append}
use Rattle.ips_outside.specs.Running.{Run}
use Rattle.ips_outside.specs.Spawning.{word_text, words_text, ran_text}
use Rattle.ips_outside.specs.Marks.{Seen, see, see_all, ended, runs_of, HasEnded, word_marks, words_marks}
use Rattle.ips_outside.specs.declared.spawner.Mark.{Mark}
use Rattle.ips_outside.specs.declared.spawner.Mark.TheVariants as mark

-- the words before one, and that one, are no longer than all of them
pub text_within : (words : List (List ℕ)) (i : ℕ) (x : List ℕ) → i < length words → x ≡ get_or words i x → length (flat_map word_text (take i words)) + (length x + 1) ≤ length (flat_map word_text words)
text_within [] i x lt is = absurd (omega arith)
text_within (w ∷ words) zero x lt is = omega (arith, ap length is, length-append (word_text w) (flat_map word_text words), length-append w (0 ∷ []))
text_within (w ∷ words) (suc i) x lt is = omega (arith, text_within words i x (omega arith) is, length-append (word_text w) (flat_map word_text words), length-append (word_text w) (flat_map word_text (take i words)))

pub text_length : (words : List (List ℕ)) → length (words_text words) ≡ length (flat_map word_text words) + 1
text_length words = length-append (flat_map word_text words) (10 ∷ [])

see_append : (s : Seen) (xs ys : List Mark) → see_all s (xs ++ ys) ≡ see_all (see_all s xs) ys
see_append s [] ys = refl
see_append s (x ∷ xs) ys = see_append (see s x) xs ys

abbrev at : List Run → List (List ℕ) → List ℕ → Seen
at runs words word = record { runs = runs; words = words; word = word }

see_inside : (runs : List Run) (words : List (List ℕ)) (word more : List ℕ) → see_all (at runs words word) (map (λ byte. mark.Inside byte) more) ≡ at runs words (word ++ more)
see_inside runs words word [] = ap (at runs words) (sym (append-nil word))
see_inside runs words word (x ∷ more) = see_inside runs words (word ++ x ∷ []) more ∙ ap (at runs words) (append_assoc word (x ∷ []) more)

see_word : (runs : List Run) (words : List (List ℕ)) (word : List ℕ) → see_all (at runs words []) (word_marks word) ≡ at runs (words ++ word ∷ []) []
see_word runs words word = see_append (at runs words []) (map (λ byte. mark.Inside byte) word) (mark.WordEnd ∷ []) ∙ ap (λ (s : Seen). see_all s (mark.WordEnd ∷ [])) (see_inside runs words [] word)

see_words : (runs : List Run) (words more : List (List ℕ)) → see_all (at runs words []) (words_marks more) ≡ at runs (words ++ more) []
see_words runs words [] = ap (λ (w : List (List ℕ)). at runs w []) (sym (append-nil words))
see_words runs words (x ∷ more) =
    see_append (at runs words []) (word_marks x) (words_marks more)
    ∙ ap (λ (s : Seen). see_all s (words_marks more)) (see_word runs words x)
    ∙ see_words runs (words ++ x ∷ []) more
    ∙ ap (λ (w : List (List ℕ)). at runs w []) (append_assoc words (x ∷ []) more)

is_ended : (marks : List Mark) → HasEnded marks → see_all (ended []) marks ≡ ended (runs_of marks)
is_ended marks done = ap (λ (w : List (List ℕ)). at (runs_of marks) w (see_all (ended []) marks).word) done.words ∙ ap (at (runs_of marks) []) done.word

module _ (marks more : List Mark) (words : List (List ℕ)) (status : ℕ) (done : HasEnded marks) (is : more ≡ marks ++ words_marks words ++ mark.RunEnd status ∷ []) where
  one_run : see_all (ended []) more ≡ ended (runs_of marks ++ record { words = words; status = status } ∷ [])
  one_run = ap (see_all (ended [])) (is ∙ append_assoc marks (words_marks words) (mark.RunEnd status ∷ [])) ∙ see_append (ended []) marks (words_marks words ++ mark.RunEnd status ∷ [])
      ∙ ap (λ (s : Seen). see_all s (words_marks words ++ mark.RunEnd status ∷ [])) (is_ended marks done)
      ∙ see_append (ended (runs_of marks)) (words_marks words) (mark.RunEnd status ∷ [])
      ∙ ap (λ (s : Seen). see s (mark.RunEnd status)) (see_words (runs_of marks) [] words)

  pub runs_more : runs_of more ≡ runs_of marks ++ record { words = words; status = status } ∷ []
  runs_more = ap (λ (s : Seen). s.runs) one_run

  pub still_ended : HasEnded more
  still_ended = record { words = ap (λ (s : Seen). s.words) one_run; word = ap (λ (s : Seen). s.word) one_run }

  pub text_more : (text longer : List ℕ) → text ≡ ran_text (runs_of marks) → longer ≡ text ++ words_text words → longer ≡ ran_text (runs_of more)
  text_more text longer so_far written = written ∙ ap (λ (t : List ℕ). t ++ words_text words) so_far
      ∙ ap (λ (t : List ℕ). ran_text (runs_of marks) ++ t) (sym (append-nil (words_text words)))
      ∙ sym (flat_map-append (λ (r : Run). words_text r.words) (runs_of marks) (record { words = words; status = status } ∷ []))
      ∙ ap ran_text (sym runs_more)
