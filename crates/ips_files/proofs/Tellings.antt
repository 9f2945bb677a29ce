-- A text that is written part by part.
use Rattle.std.proofs.Common.{◌≡◌, Bool, ℕ, zero, suc, subst, ◌+◌, ◌-◌, ◌<◌, ◌≤◌, ◌==◌, true, false, IsTrue, List, [], ◌∷◌, ◌++◌, length, take, drop, refl, sym, ap, ◌∙◌, arith}
use Rattle.std.proofs.lemmas.List.{append-nil, append_assoc, drop-drop, drop-take, take-take, take-append-drop, take_all, take_rest, length-drop}
use Rattle.std.proofs.lemmas.Bool.{eqb-true}
use Rattle.ips_outside.specs.Outside.{Rose, HasCause}
use Rattle.ips_outside.specs.Taking.{Taking}
use Rattle.ips_outside.proofs.Faults.{no_cause, cause_behind}
use Rattle.ips_files.specs.Telling.{Tells}

-- So much of the text is written, and this is left.
pub record IsTold {O : Type 0} (t : Taking O) (text rest : List ℕ) (old new : O) : Type 0 where
  pub count : ℕ
  pub within : count ≤ length text
  pub rest_is : rest ≡ drop count text
  pub taken_is : IsTrue (t.tells old) → t.taken new ≡ t.taken old ++ take count text
  pub steady : t.faults new ≡ t.faults old
  pub same_kind : t.tells new ≡ t.tells old

pub nothing_told : {O : Type 0} (t : Taking O) (text : List ℕ) (old : O) → IsTold t text text old old
nothing_told t text old = record {
  count = 0;
  within = omega arith;
  rest_is = refl;
  taken_is = λ tells. sym (append-nil (t.taken old));
  steady = refl;
  same_kind = refl;
}

take_two : (m n : ℕ) (text : List ℕ) → take (m + n) text ≡ take m text ++ take n (drop m text)
take_two m n text =
    sym (take-append-drop m (take (m + n) text))
    ∙ ap (λ (front : List ℕ). front ++ drop m (take (m + n) text)) (take-take m (m + n) text (omega arith))
    ∙ ap (λ (back : List ℕ). take m text ++ back) (drop-take m n text)

-- one part more
pub more_told : {O : Type 0} (t : Taking O) (text rest : List ℕ) (old mid new : O) → IsTold t text rest old mid → (n : ℕ) → n ≤ length rest → t.tells new ≡ t.tells mid → t.faults new ≡ t.faults mid
    → (IsTrue (t.tells mid) → t.taken new ≡ t.taken mid ++ take n rest) → IsTold t text (take (length rest - n) (drop n rest)) old new
more_told t text rest old mid new told n within same steady taken = record {
  count = told.count + n;
  within = omega (arith, told.within, within, ap length told.rest_is, length-drop told.count text);
  rest_is = take_rest rest n ∙ ap (λ (r : List ℕ). drop n r) told.rest_is ∙ drop-drop n told.count text;
  taken_is = λ tells.
      taken (told.same_kind ∙ tells)
      ∙ ap (λ (front : List ℕ). front ++ take n rest) (told.taken_is tells)
      ∙ append_assoc (t.taken old) (take told.count text) (take n rest)
      ∙ ap (λ (r : List ℕ). t.taken old ++ (take told.count text ++ take n r)) told.rest_is
      ∙ ap (λ (l : List ℕ). t.taken old ++ l) (sym (take_two told.count n text));
  steady = steady ∙ told.steady;
  same_kind = same ∙ told.same_kind;
}

pub less_left : (rest : List ℕ) (n : ℕ) → n ≤ length rest → 0 < n → length (take (length rest - n) (drop n rest)) < length rest
less_left rest n within some = omega (arith, ap length (take_rest rest n), length-drop n rest)

pub some_left : (rest : List ℕ) → (length rest == 0) ≡ false → 0 < length rest
some_left [] e = cc
some_left (b ∷ rest) e = omega arith

-- all of it
pub all_told : {O : Type 0} (t : Taking O) (text rest : List ℕ) (old new : O) → IsTold t text rest old new → (length rest == 0) ≡ true → IsTrue (t.tells old) → t.taken new ≡ t.taken old ++ text
all_told t text rest old new told none tells =
    let left : length rest ≡ 0 = eqb-true (length rest) 0 none in
    told.taken_is tells ∙ ap (λ (l : List ℕ). t.taken old ++ l) (take_all told.count text (omega (arith, left, ap length told.rest_is, length-drop told.count text)))

-- ---- whole texts, one behind the other

module _ {O : Type 0} (t : Taking O) where
  -- the text was written to its end
  pub told_whole : (text rest : List ℕ) (old new : O) → IsTold t text rest old new → (length rest == 0) ≡ true → Tells t text old new true
  told_whole text rest old new told none = record {
    whole = λ tells all. all_told t text rest old new told none tells;
    front = λ tells. (told.count, told.taken_is tells);
    cause = no_cause_told told;
    same_kind = told.same_kind;
  }
    where
      no_cause_told : IsTold t text rest old new → HasCause (t.faults old) (t.faults new) (true ≡ false)
      no_cause_told told = record { later = omega (arith, told.steady); rose = λ never. cc; steady = λ _. told.steady }

  -- a call failed
  pub told_front : (text rest : List ℕ) (old mid new : O) (failed : Type 0) → IsTold t text rest old mid → failed → t.tells new ≡ t.tells mid → HasCause (t.faults mid) (t.faults new) failed
      → (IsTrue (t.tells mid) → t.taken new ≡ t.taken mid) → Tells t text old new false
  told_front text rest old mid new failed told fails same cause kept = record {
    whole = λ tells all. cc;
    front = λ tells. (told.count, kept (told.same_kind ∙ tells) ∙ told.taken_is tells);
    cause = record { later = omega (arith, told.steady, cause.later); rose = λ _. subst (λ (n : ℕ). Rose n (t.faults new)) told.steady (cause.rose fails); steady = λ none. absurd (none refl) };
    same_kind = same ∙ told.same_kind;
  }

  -- another text behind one that was written whole
  pub tells_then : (a b : List ℕ) (old mid new : O) (told : Bool) → Tells t a old mid true → Tells t b mid new told → Tells t (a ++ b) old new told
  tells_then a b old mid new told first second = record {
    whole = λ tells all. second.whole (first.same_kind ∙ tells) all ∙ ap (λ (l : List ℕ). l ++ b) (first.whole tells refl) ∙ append_assoc (t.taken old) a b;
    front = λ tells.
        let more = second.front (first.same_kind ∙ tells) in (
          length a + more.0,
          more.1 ∙ ap (λ (l : List ℕ). l ++ take more.0 b) (first.whole tells refl) ∙ append_assoc (t.taken old) a (take more.0 b) ∙ ap (λ (l : List ℕ). t.taken old ++ l) (sym (take_both a b more.0)),
        );
    cause = cause_behind (t.faults old) (t.faults mid) (t.faults new) (true ≡ false) (told ≡ false) (told ≡ false) first.cause (λ never. cc) second.cause (λ x. x) (λ x. x);
    same_kind = second.same_kind ∙ first.same_kind;
  }
    where
      more : (a : List ℕ) (n : ℕ) → suc (length a) + n ≡ suc (length a + n)
      more a n = omega arith

      take_both : (a b : List ℕ) (n : ℕ) → take (length a + n) (a ++ b) ≡ a ++ take n b
      take_both [] b n = ap (λ (m : ℕ). take m b) (omega arith)
      take_both (x ∷ a) b n = ap (λ (m : ℕ). take m (x ∷ (a ++ b))) (more a n) ∙ ap (λ (l : List ℕ). x ∷ l) (take_both a b n)

  -- a text that wasn't written whole, with nothing behind it
  pub tells_stop : (a b : List ℕ) (old new : O) → Tells t a old new false → Tells t (a ++ b) old new false
  tells_stop a b old new first = record {
    whole = λ tells all. cc;
    front = λ tells. let some = first.front tells in (min_count a some.0, some.1 ∙ ap (λ (l : List ℕ). t.taken old ++ l) (cut a b some.0));
    cause = first.cause;
    same_kind = first.same_kind;
  }
    where
      min_count : List ℕ → ℕ → ℕ
      min_count a n = length (take n a)

      cut : (a b : List ℕ) (n : ℕ) → take n a ≡ take (length (take n a)) (a ++ b)
      cut [] b zero = refl
      cut [] b (suc n) = refl
      cut (x ∷ a) b zero = refl
      cut (x ∷ a) b (suc n) = ap (λ (l : List ℕ). x ∷ l) (cut a b n)

  pub tells_nothing : (old : O) → Tells t [] old old true
  tells_nothing old = record {
    whole = λ tells all. sym (append-nil (t.taken old));
    front = λ tells. (0, sym (append-nil (t.taken old)));
    cause = no_cause (t.faults old) (true ≡ false) (λ never. cc);
    same_kind = refl;
  }

  -- the parts of a text are those that were written
  pub tells_parts : (a b text : List ℕ) (old mid new : O) (told : Bool) → text ≡ a ++ b → Tells t a old mid true → Tells t b mid new told → Tells t text old new told
  tells_parts a b text old mid new told is first second = subst (λ (l : List ℕ). Tells t l old new told) (sym is) (tells_then a b old mid new told first second)

  pub tells_part : (a b text : List ℕ) (old new : O) → text ≡ a ++ b → Tells t a old new false → Tells t text old new false
  tells_part a b text old new is first = subst (λ (l : List ℕ). Tells t l old new false) (sym is) (tells_stop a b old new first)

-- five texts, one behind the other: two, and then three
pub two_and_three : (a b c d e : List ℕ) → (((a ++ b) ++ c) ++ d) ++ e ≡ (a ++ b) ++ (c ++ (d ++ e))
two_and_three a b c d e = append_assoc ((a ++ b) ++ c) d e ∙ append_assoc (a ++ b) c (d ++ e)

-- or four, and then one
pub four_and_one : (a b c d e : List ℕ) → (((a ++ b) ++ c) ++ d) ++ e ≡ ((a ++ b) ++ (c ++ d)) ++ e
four_and_one a b c d e = ap (λ (l : List ℕ). l ++ e) (append_assoc (a ++ b) c d)

-- or one, then two and two; or three together, and then two
pub one_two_two : (a b c d e : List ℕ) → (((a ++ b) ++ c) ++ d) ++ e ≡ a ++ ((b ++ c) ++ (d ++ e))
one_two_two a b c d e = append_assoc ((a ++ b) ++ c) d e ∙ ap (λ (l : List ℕ). l ++ (d ++ e)) (append_assoc a b c) ∙ append_assoc a (b ++ c) (d ++ e)

pub three_and_two : (a b c d e : List ℕ) → (((a ++ b) ++ c) ++ d) ++ e ≡ (a ++ (b ++ c)) ++ (d ++ e)
three_and_two a b c d e = append_assoc ((a ++ b) ++ c) d e ∙ ap (λ (l : List ℕ). l ++ (d ++ e)) (append_assoc a b c)
