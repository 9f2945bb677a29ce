-- What was read of a rule, and what is left.
use Rattle.std.proofs.Common.{◌≡◌, ℕ, true, false, List, [], ◌∷◌, ◌++◌, Option, Some, None, Result, Ok, Err, refl, sym, ap, subst, ◌∙◌, append_assoc}
use Rattle.std.specs.Prelude.{codes, IfOk, IfNone}
use Rattle.std.specs.List.{list_all}
use Rattle.std.proofs.lemmas.Bool.{true≢false}
use Rattle.std.proofs.lemmas.List.{append-nil}
use Rattle.ips_line.specs.Line.{is_blank}
use Rattle.ips_rule.specs.declared.selector.Selector.{Selector}
use Rattle.ips_rule.specs.declared.operation.Operation.{Operation}
use Rattle.ips_rule.specs.Rules.{Rule, IsRule, selector_word, IsSelector, operation_words, IsOperation, asked_words, Word, written_word, IsTerm, IsValue, AreDone, IsInside, rule_front, rule_end, Says}
use Rattle.ips_rules.specs.Next.{IsNext, IsNoWord, FirstWords, Asks}
use Rattle.ips_rules.proofs.Reader.{values_read, terms_read, first_one}
use Rattle.ips_rules.proofs.Spelling.{first_apart, none_first, first_none, first_joined, done_first, first_done}
use Rattle.ips_rules.proofs.One.{no_arrow, one_selector, one_asked, one_done, inside_asks, one_inside}

-- ---- words behind `->`

-- the words that were read stand before the rest, in each way to go on
pub record Left (text rest : List ℕ) (words : List (List ℕ)) : Type 0 where
  pub back : (later : List (List ℕ)) → AreDone later rest → AreDone (words ++ later) text
  pub on : (all : List (List ℕ)) → AreDone all text → (later : List (List ℕ)) × AreDone later rest × (all ≡ words ++ later)

pub left_begin : (text : List ℕ) → Left text text []
left_begin text = record { back = λ later h. h; on = λ all h. (all, h, refl) }

pub left_on : (text rest : List ℕ) (words : List (List ℕ)) (w : Word) (behind : List ℕ) → Left text rest words → list_all is_blank rest ≡ false → IsNext IsValue rest w behind → Left text behind (words ++ written_word w ∷ [])
left_on text rest words w behind l some n = record {
  back = λ later h.
      let d = done_first later behind h in
      let joined = first_done (written_word w ∷ later) rest (record { behind = d.behind; blank = d.blank; stand = first_joined (record { gap = n.0; word = w }) later rest behind d.behind n.1 d.stand }) in
      subst (λ (x : List (List ℕ)). AreDone x text) (sym (append_assoc words (written_word w ∷ []) later)) (l.back (written_word w ∷ later) joined);
  on = λ all h. let before = l.on all h in go before.0 before.1 before.2;
}
  where
    go : {all : List (List ℕ)} (left : List (List ℕ)) → AreDone left rest → all ≡ words ++ left → (later : List (List ℕ)) × AreDone later behind × (all ≡ (words ++ written_word w ∷ []) ++ later)
    go [] h e =
        let d = done_first [] rest h in
        absurd (true≢false (sym (ap (list_all is_blank) (none_first rest d.behind d.stand) ∙ d.blank) ∙ some))
    go (v ∷ left) h e =
        let d = done_first (v ∷ left) rest h in
        let x = first_apart v left rest d.behind d.stand in
        let same = first_one values_read rest x.first (record { gap = n.0; word = w }) x.rest behind x.stands n.1 in
        let value : v ≡ written_word w = x.said ∙ ap written_word same.0 in (
          left,
          subst (AreDone left) same.1 (first_done left x.rest (record { behind = d.behind; blank = d.blank; stand = x.others })),
          e ∙ ap (λ (u : List ℕ). words ++ u ∷ left) value ∙ sym (append_assoc words (written_word w ∷ []) left),
        )

pub left_none : (text rest : List ℕ) (words : List (List ℕ)) → Left text rest words → list_all is_blank rest ≡ false → IsNoWord IsValue rest → (all : List (List ℕ)) → AreDone all text → ⊥
left_none text rest words l some none all h = let before = l.on all h in go before.0 before.1
  where
    go : (left : List (List ℕ)) → AreDone left rest → ⊥
    go [] h =
        let d = done_first [] rest h in
        true≢false (sym (ap (list_all is_blank) (none_first rest d.behind d.stand) ∙ d.blank) ∙ some)
    go (v ∷ left) h =
        let d = done_first (v ∷ left) rest h in
        let x = first_apart v left rest d.behind d.stand in
        none x.first x.rest x.stands

pub left_end : (text rest : List ℕ) (words : List (List ℕ)) → Left text rest words → list_all is_blank rest ≡ true → AreDone words text
left_end text rest words l blank = subst (λ (x : List (List ℕ)). AreDone x text) (append-nil words) (l.back [] ([], rest, ([], tt, refl, refl), blank, refl))

-- ---- words up to `->`

-- what was asked for stands before the rest, in each way to go on
pub record Asked (text rest : List ℕ) (read : List Selector) : Type 0 where
  pub back : (later : List Selector) (behind : List ℕ) → Asks later rest behind → Asks (read ++ later) text behind
  pub on : (all : List Selector) (behind : List ℕ) → Asks all text behind → (later : List Selector) × Asks later rest behind × (all ≡ read ++ later)

pub asked_begin : (text : List ℕ) → Asked text text []
asked_begin text = record { back = λ later behind h. h; on = λ all behind h. (all, h, refl) }

pub asked_on : (text rest : List ℕ) (read : List Selector) (w : Word) (after : List ℕ) (s : Selector) → Asked text rest read → IsNext IsTerm rest w after → selector_word s ≡ written_word w → IsSelector s → Asked text after (read ++ s ∷ [])
asked_on text rest read w after s l n same fits = record {
  back = λ later behind h.
      let words = first_joined (record { gap = n.0; word = w }) (asked_words later) rest after behind n.1 h.words in
      let joined : Asks (s ∷ later) rest behind = record { are = (fits, h.are); words = subst (λ (v : List ℕ). FirstWords IsTerm (v ∷ asked_words later) rest behind) (sym same) words } in
      subst (λ (x : List Selector). Asks x text behind) (sym (append_assoc read (s ∷ []) later)) (l.back (s ∷ later) behind joined);
  on = λ all behind h. let before = l.on all behind h in go before.0 behind before.1 before.2;
}
  where
    go : {all : List Selector} (left : List Selector) (behind : List ℕ) → Asks left rest behind → all ≡ read ++ left → (later : List Selector) × Asks later after behind × (all ≡ (read ++ s ∷ []) ++ later)
    go [] behind h e =
        let x = first_apart (codes "->") [] rest behind h.words in
        let one = first_one terms_read rest x.first (record { gap = n.0; word = w }) x.rest after x.stands n.1 in
        absurd (no_arrow s (same ∙ ap written_word (sym one.0) ∙ sym x.said))
    go (t ∷ left) behind h e =
        let x = first_apart (selector_word t) (asked_words left) rest behind h.words in
        let one = first_one terms_read rest x.first (record { gap = n.0; word = w }) x.rest after x.stands n.1 in
        let selector : t ≡ s = one_selector t s h.are.0 fits (x.said ∙ ap written_word one.0 ∙ sym same) in
        let others = subst (λ (r : List ℕ). FirstWords IsTerm (asked_words left) r behind) one.1 x.others in
        (left, record { are = h.are.1; words = others }, e ∙ ap (λ (u : Selector). read ++ u ∷ left) selector ∙ sym (append_assoc read (s ∷ []) left))

pub asked_end : (text rest : List ℕ) (read : List Selector) (w : Word) (after : List ℕ) → Asked text rest read → IsNext IsTerm rest w after → written_word w ≡ codes "->" → Asks read text after
asked_end text rest read w after l n arrow =
    let words = first_joined (record { gap = n.0; word = w }) [] rest after after n.1 (first_none after n.1.ends) in
    let joined : Asks [] rest after = record { are = tt; words = subst (λ (v : List ℕ). FirstWords IsTerm (v ∷ []) rest after) arrow words } in
    subst (λ (x : List Selector). Asks x text after) (append-nil read) (l.back [] after joined)

pub asked_no_word : (text rest : List ℕ) (read : List Selector) → Asked text rest read → IsNoWord IsTerm rest → (all : List Selector) (behind : List ℕ) → Asks all text behind → ⊥
asked_no_word text rest read l none all behind h = let before = l.on all behind h in go before.0 before.1
  where
    go : (left : List Selector) → Asks left rest behind → ⊥
    go [] h = let x = first_apart (codes "->") [] rest behind h.words in none x.first x.rest x.stands
    go (t ∷ left) h = let x = first_apart (selector_word t) (asked_words left) rest behind h.words in none x.first x.rest x.stands

pub asked_none : (text rest : List ℕ) (read : List Selector) (w : Word) (after : List ℕ) → Asked text rest read → IsNext IsTerm rest w after → (written_word w ≡ codes "->" → ⊥) → ((s : Selector) → IsSelector s → selector_word s ≡ written_word w → ⊥)
    → (all : List Selector) (behind : List ℕ) → Asks all text behind → ⊥
asked_none text rest read w after l n other none all behind h = let before = l.on all behind h in go before.0 before.1
  where
    go : (left : List Selector) → Asks left rest behind → ⊥
    go [] h =
        let x = first_apart (codes "->") [] rest behind h.words in
        other (ap written_word (sym (first_one terms_read rest x.first (record { gap = n.0; word = w }) x.rest after x.stands n.1).0) ∙ sym x.said)
    go (t ∷ left) h =
        let x = first_apart (selector_word t) (asked_words left) rest behind h.words in
        none t h.are.0 (x.said ∙ ap written_word (first_one terms_read rest x.first (record { gap = n.0; word = w }) x.rest after x.stands n.1).0)

-- ---- both, one behind the other

pub inside_joined : (r : Rule) (text rest : List ℕ) → Asks r.selectors text rest → AreDone (operation_words r.operation) rest → IsInside r text
inside_joined r text rest a d = (a.words.front, rest, a.words.spelled, d, a.words.whole)

-- no operation stands behind what is asked for
pub no_done : (selectors : List Selector) (text rest : List ℕ) → Asks selectors text rest → ((o : Operation) → IsOperation o → AreDone (operation_words o) rest → ⊥) → (r : Rule) → IsRule r → IsInside r text → ⊥
no_done selectors text rest a none r is h =
    let same = one_asked r.selectors selectors text h.1 rest (inside_asks r text is.selectors h) a in
    none r.operation is.operation (subst (AreDone (operation_words r.operation)) same.1 h.3)

-- the words behind `->` are those of no operation
pub no_operation : {E : Type 0} (r : Result (Option Operation) E) (words given : List (List ℕ)) (text : List ℕ) → AreDone words text → given ≡ words
    → IfOk r (λ found. IfNone found ((o : Operation) → IsOperation o → operation_words o ≡ given → ⊥)) → IfOk r (λ found. IfNone found ((o : Operation) → IsOperation o → AreDone (operation_words o) text → ⊥))
no_operation (Err e) words given text d same none = tt
no_operation (Ok (Some o)) words given text d same none = tt
no_operation (Ok None) words given text d same none = λ o is h. none o is (one_done (operation_words o) words text h d ∙ sym same)

-- what stands inside is the words of no rule
pub no_rule : {E : Type 0} (r : Result (Option Rule) E) (line inside : List ℕ) → line ≡ rule_front ++ inside ++ rule_end → IfOk r (λ found. IfNone found ((rule : Rule) → IsRule rule → IsInside rule inside → ⊥))
    → IfOk r (λ found. IfNone found ((rule : Rule) → Says rule line → ⊥))
no_rule (Err e) line inside whole none = tt
no_rule (Ok (Some rule)) line inside whole none = tt
no_rule (Ok None) line inside whole none = λ rule says. none rule says.0 (subst (IsInside rule) (one_inside line says.1.0 inside says.1.2 whole) says.1.1)
