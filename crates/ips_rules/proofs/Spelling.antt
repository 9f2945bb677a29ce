-- Words one after the other, from the first on.
use Rattle.std.proofs.Common.{◌≡◌, ℕ, true, List, [], ◌∷◌, ◌++◌, map, refl, sym, ap, ◌∙◌, append_assoc}
use Rattle.std.specs.List.{list_all, flat_map, AllByRecursion}
use Rattle.std.proofs.lemmas.Bool.{and_parts}
use Rattle.ips_line.specs.Line.{is_blank, IsRunOfBytes}
use Rattle.ips_rule.specs.Rules.{Word, word_text, written_word, IsValue, Spelled, spelled_text, IsSpelled, AreDone}
use Rattle.ips_rules.specs.Next.{ends_word, FirstWord, FirstWords}

-- ---- the first word apart

gap_ends : (gap rest : List ℕ) → IsRunOfBytes is_blank gap → ends_word (gap ++ rest) ≡ true
gap_ends [] rest h = absurd h
gap_ends (b ∷ gap) rest h = (and_parts (is_blank b) (list_all is_blank gap) h).0

spelled_ends : (Fits : Word → Type 0) (spelled : List Spelled) (behind : List ℕ) → AllByRecursion (IsSpelled Fits) spelled → ends_word behind ≡ true → ends_word (flat_map spelled_text spelled ++ behind) ≡ true
spelled_ends Fits [] behind h ends = ends
spelled_ends Fits (s ∷ spelled) behind h ends =
    let apart = append_assoc (spelled_text s) (flat_map spelled_text spelled) behind ∙ append_assoc s.gap (word_text s.word) (flat_map spelled_text spelled ++ behind) in
    ap ends_word apart ∙ gap_ends s.gap (word_text s.word ++ (flat_map spelled_text spelled ++ behind)) h.0.0

-- the first of words, and what stands behind it
pub record Apart (Fits : Word → Type 0) (word : List ℕ) (words : List (List ℕ)) (text behind : List ℕ) : Type 0 where
  pub first : Spelled
  pub rest : List ℕ
  pub stands : FirstWord Fits text first rest
  pub said : word ≡ written_word first.word
  pub others : FirstWords Fits words rest behind

pub first_apart : {Fits : Word → Type 0} (word : List ℕ) (words : List (List ℕ)) (text behind : List ℕ) → FirstWords Fits (word ∷ words) text behind → Apart Fits word words text behind
first_apart {Fits} word words text behind f = go f.spelled.0 f.spelled.1 f.spelled.2 f.spelled.3
  where
    go : (spelled : List Spelled) → AllByRecursion (IsSpelled Fits) spelled → map (λ s. written_word s.word) spelled ≡ word ∷ words → f.front ≡ flat_map spelled_text spelled → Apart Fits word words text behind
    go [] h e t = absurd cc
    go (s ∷ spelled) h e t =
        let head : written_word s.word ≡ word = cc in
        let tail : map (λ s. written_word s.word) spelled ≡ words = cc in
        record {
          first = s;
          rest = flat_map spelled_text spelled ++ behind;
          stands = record {
            spelled = h.0;
            whole = f.whole ∙ ap (λ (l : List ℕ). l ++ behind) t ∙ append_assoc (spelled_text s) (flat_map spelled_text spelled) behind;
            ends = spelled_ends Fits spelled behind h.1 f.ends;
          };
          said = sym head;
          others = record { front = flat_map spelled_text spelled; spelled = (spelled, h.1, tail, refl); whole = refl; ends = f.ends };
        }

-- no words leave the whole text
pub none_first : {Fits : Word → Type 0} (text behind : List ℕ) → FirstWords Fits [] text behind → text ≡ behind
none_first text behind f = go f.spelled.0 f.spelled.2 f.spelled.3
  where
    go : (spelled : List Spelled) → map (λ s. written_word s.word) spelled ≡ [] → f.front ≡ flat_map spelled_text spelled → text ≡ behind
    go [] e t = f.whole ∙ ap (λ (l : List ℕ). l ++ behind) t
    go (s ∷ spelled) e t = absurd cc

-- ---- joined

pub first_none : {Fits : Word → Type 0} (text : List ℕ) → ends_word text ≡ true → FirstWords Fits [] text text
first_none text ends = record { front = []; spelled = ([], tt, refl, refl); whole = refl; ends = ends }

pub first_joined : {Fits : Word → Type 0} (s : Spelled) (words : List (List ℕ)) (text rest behind : List ℕ) → FirstWord Fits text s rest → FirstWords Fits words rest behind → FirstWords Fits (written_word s.word ∷ words) text behind
first_joined s words text rest behind f g =
    let a = g.spelled in
    record {
      front = spelled_text s ++ g.front;
      spelled = (s ∷ a.0, (f.spelled, a.1), ap (λ (l : List (List ℕ)). written_word s.word ∷ l) a.2, ap (λ (l : List ℕ). spelled_text s ++ l) a.3);
      whole = f.whole ∙ ap (λ (l : List ℕ). spelled_text s ++ l) g.whole ∙ sym (append_assoc (spelled_text s) g.front behind);
      ends = g.ends;
    }

-- ---- the words behind `->`, up to the end

blanks_end : (behind : List ℕ) → list_all is_blank behind ≡ true → ends_word behind ≡ true
blanks_end [] h = refl
blanks_end (b ∷ behind) h = (and_parts (is_blank b) (list_all is_blank behind) h).0

-- the words, and the blanks behind them
pub record Done (words : List (List ℕ)) (text : List ℕ) : Type 0 where
  pub behind : List ℕ
  pub blank : list_all is_blank behind ≡ true
  pub stand : FirstWords IsValue words text behind

pub done_first : (words : List (List ℕ)) (text : List ℕ) → AreDone words text → Done words text
done_first words text a = record { behind = a.1; blank = a.3; stand = record { front = a.0; spelled = a.2; whole = a.4; ends = blanks_end a.1 a.3 } }

pub first_done : (words : List (List ℕ)) (text : List ℕ) → Done words text → AreDone words text
first_done words text d = (d.stand.front, d.behind, d.stand.spelled, d.blank, d.stand.whole)

-- what stands behind `->` begins with a blank, where anything does
pub done_ends : (words : List (List ℕ)) (text : List ℕ) → AreDone words text → ends_word text ≡ true
done_ends words text a = ap ends_word (a.4 ∙ ap (λ (l : List ℕ). l ++ a.1) a.2.3) ∙ spelled_ends IsValue a.2.0 a.1 a.2.1 (blanks_end a.1 a.3)
