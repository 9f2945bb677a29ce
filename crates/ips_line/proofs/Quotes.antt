-- Values between quotes: where the quote stands that closes, and what stands before it.
use Rattle.std.proofs.Common.{◌≡◌, ℕ, zero, suc, ◌+◌, ◌<◌, ◌≤◌, Bool, true, false, cond, ◌&&◌, ◌||◌, not, eqb, List, [], ◌∷◌, ◌++◌, length, take, drop, get_or, Option, Some, None, refl, sym, ap, subst, ◌∙◌, append_assoc, arith, inl, inr}
use Rattle.std.specs.List.{list_all, position}
use Rattle.std.proofs.lemmas.Bool.{eqb-true, eq-eqb, and_parts, true≢false, false_from_ne_true}
use Rattle.std.proofs.lemmas.List.{append-nil, length-append, take-append-drop}
use Rattle.std.proofs.Math.Seq.{take-append_seam, drop-append_seam}
use Rattle.std.specs.Str.{IsUtf8, IsCharBoundary}
use Rattle.std.proofs.lemmas.Str.{IsCharBoundary-before_ascii, IsCharBoundary-after_ascii}
use Rattle.ips_text.specs.Reading.{next_is}
use Rattle.ips_text.proofs.Readers.{chosen, next_same}
use Rattle.ips_line.specs.Line.{is_quote, is_escape, meant, stays_inside}
use Rattle.ips_line.specs.Reading.{into_front, begins_escape, begins_quote, closing, closed, plain_at, written_at}
use Rattle.ips_line.proofs.Places.{first_passes, none_passes}
use Rattle.ips_text.proofs.Truths.{not_true}

abbrev Cut : Type 0
Cut = List ℕ × List ℕ

some_cut : (x y : Cut) → (let a : Option Cut = Some x in a) ≡ Some y → x ≡ y
some_cut x y e = cc

into_some : (front : List ℕ) (o : Option Cut) (z : Cut) → into_front front o ≡ Some z → (x : Cut) × (o ≡ Some x) × ((let p : Cut = (front ++ x.0, x.1) in p) ≡ z)
into_some front None z e = absurd cc
into_some front (Some x) z e = (x, refl, some_cut (front ++ x.0, x.1) z e)

into_none : (front : List ℕ) (o : Option Cut) → into_front front o ≡ None → o ≡ None
into_none front None e = refl
into_none front (Some x) e = absurd cc

or_false : (x y : Bool) → (x || y) ≡ false → (x ≡ false) × (y ≡ false)
or_false false y e = (refl, e)
or_false true y e = absurd (true≢false e)

no_lone : (q b : ℕ) → is_escape q b q ≡ false → eqb b 92 ≡ false
no_lone q b e = go (eqb b 92) refl
  where
    go : (t : Bool) → eqb b 92 ≡ t → eqb b 92 ≡ false
    go false h = h
    go true h = let same = next_same q in absurd (true≢false (sym (rw (h, same) refl) ∙ e))

-- a byte before what stays inside
stays_cons : (q b c : ℕ) (bytes y rest : List ℕ) → c ∷ bytes ≡ y ++ (q ∷ rest) → is_escape q b c ≡ false → eqb b q ≡ false → stays_inside q y ≡ true → stays_inside q (b ∷ y) ≡ true
stays_cons q b c bytes [] rest e esc ne h =
    let same : c ≡ q = cc in
    let lone = no_lone q b (subst (λ (d : ℕ). is_escape q b d ≡ false) same esc) in
    rw (ne, lone) refl
stays_cons q b c bytes (d ∷ y) rest e esc ne h =
    let same : c ≡ d = cc in
    let none : is_escape q b d ≡ false = subst (λ (d : ℕ). is_escape q b d ≡ false) same esc in
    rw (none, ne) h

abbrev Cuts : ℕ → List ℕ → Cut → Type 0
Cuts q bytes p = (bytes ≡ p.0 ++ (q ∷ p.1)) × (stays_inside q p.0 ≡ true)

pub closing_takes : (q : ℕ) (bytes : List ℕ) (z : Cut) → closing q bytes ≡ Some z → Cuts q bytes z
unfolding closing
closing_takes q [] z e = absurd cc
closing_takes q (b ∷ []) z e =
    elim (chosen (eqb b q) (Some ([], [])) None (Some z) e) [
      | inl w ↦ let first = eqb-true b q w.0 in subst (Cuts q (b ∷ [])) (some_cut ([], []) z w.1) (ap (λ (c : ℕ). c ∷ []) first, refl)
      | inr w ↦ absurd cc
    ]
closing_takes q (b ∷ c ∷ bytes) z e =
    elim (chosen (is_escape q b c) (into_front (b ∷ c ∷ []) (closing q bytes)) (cond (eqb b q) (Some ([], c ∷ bytes)) (into_front (b ∷ []) (closing q (c ∷ bytes)))) (Some z) e) [
      | inl w ↦
          let x = into_some (b ∷ c ∷ []) (closing q bytes) z w.1 in
          let t = closing_takes q bytes x.0 x.1 in
          subst (Cuts q (b ∷ c ∷ bytes)) x.2 (ap (λ (l : List ℕ). b ∷ c ∷ l) t.0, rw (w.0) t.1)
      | inr w ↦
          elim (chosen (eqb b q) (Some ([], c ∷ bytes)) (into_front (b ∷ []) (closing q (c ∷ bytes))) (Some z) w.1) [
            | inl v ↦ let first = eqb-true b q v.0 in subst (Cuts q (b ∷ c ∷ bytes)) (some_cut ([], c ∷ bytes) z v.1) (ap (λ (d : ℕ). d ∷ c ∷ bytes) first, refl)
            | inr v ↦
                let x = into_some (b ∷ []) (closing q (c ∷ bytes)) z v.1 in
                let t = closing_takes q (c ∷ bytes) x.0 x.1 in
                subst (Cuts q (b ∷ c ∷ bytes)) x.2 (ap (λ (l : List ℕ). b ∷ l) t.0, stays_cons q b c bytes x.0.0 x.0.1 t.0 w.0 v.0 t.1)
          ]
    ]

-- a quote is no backslash
pub not_backslash : (q : ℕ) → is_quote q ≡ true → eqb q 92 ≡ false
not_backslash q e = grind arith

closes_here : (q : ℕ) (rest : List ℕ) → is_quote q ≡ true → closing q (q ∷ rest) ≡ Some ([], rest)
unfolding closing
closes_here q [] h = let same = next_same q in rw same refl
closes_here q (c ∷ rest) h = let same = next_same q in let none = not_backslash q h in rw (none, same) refl

pub closing_again : (q : ℕ) (raw rest : List ℕ) → is_quote q ≡ true → stays_inside q raw ≡ true → closing q (raw ++ (q ∷ rest)) ≡ Some (raw, rest)
unfolding closing
closing_again q [] rest h stays = closes_here q rest h
closing_again q (b ∷ []) rest h stays =
    let n = or_false (eqb b q) (eqb b 92) (not_true (eqb b q || eqb b 92) stays) in
    let more = closes_here q rest h in
    rw (n.1, n.0, more) refl
closing_again q (b ∷ c ∷ raw) rest h stays =
    elim (chosen (is_escape q b c) (stays_inside q raw) (not (eqb b q) && stays_inside q (c ∷ raw)) true stays) [
      | inl w ↦ let more = closing_again q raw rest h w.1 in rw (w.0, more) refl
      | inr w ↦
          let p = and_parts (not (eqb b q)) (stays_inside q (c ∷ raw)) w.1 in
          let ne = not_true (eqb b q) p.0 in
          let more = closing_again q (c ∷ raw) rest h p.1 in
          rw (w.0, ne, more) refl
    ]

-- what stands inside where the text ends before a quote closes: a lone backslash is given its second byte
pub extra : ℕ → List ℕ → List ℕ
extra q [] = []
extra q (b ∷ []) = cond (eqb b 92) (92 ∷ []) []
extra q (b ∷ c ∷ bytes) = cond (is_escape q b c) (extra q bytes) (extra q (c ∷ bytes))

lone_pair : (q : ℕ) → stays_inside q (92 ∷ 92 ∷ []) ≡ true
lone_pair q = go (eqb 92 q) refl
  where
    go : (t : Bool) → eqb 92 q ≡ t → stays_inside q (92 ∷ 92 ∷ []) ≡ true
    go true h = rw h refl
    go false h = rw h refl

lone_ends : (q b : ℕ) (t : Bool) → eqb b 92 ≡ t → eqb b q ≡ false → stays_inside q (b ∷ extra q (b ∷ [])) ≡ true
unfolding extra
lone_ends q b true h ne = subst (λ (d : ℕ). stays_inside q (d ∷ extra q (d ∷ [])) ≡ true) (sym (eqb-true b 92 h)) (lone_pair q)
lone_ends q b false h ne = rw h (rw (ne, h) refl)

pub closing_open : (q : ℕ) (bytes : List ℕ) → closing q bytes ≡ None → stays_inside q (bytes ++ extra q bytes) ≡ true
unfolding closing extra
closing_open q [] e = refl
closing_open q (b ∷ []) e =
    elim (chosen (eqb b q) (Some ([], [])) None None e) [
      | inl w ↦ absurd cc
      | inr w ↦ lone_ends q b (eqb b 92) refl w.0
    ]
closing_open q (b ∷ c ∷ bytes) e =
    elim (chosen (is_escape q b c) (into_front (b ∷ c ∷ []) (closing q bytes)) (cond (eqb b q) (Some ([], c ∷ bytes)) (into_front (b ∷ []) (closing q (c ∷ bytes)))) None e) [
      | inl w ↦ let more = closing_open q bytes (into_none (b ∷ c ∷ []) (closing q bytes) w.1) in rw (w.0) more
      | inr w ↦
          elim (chosen (eqb b q) (Some ([], c ∷ bytes)) (into_front (b ∷ []) (closing q (c ∷ bytes))) None w.1) [
            | inl v ↦ absurd cc
            | inr v ↦ let more = closing_open q (c ∷ bytes) (into_none (b ∷ []) (closing q (c ∷ bytes)) v.1) in rw (w.0, v.0) more
          ]
    ]

-- ---- looking for the quote, place by place

into_twice : (front more : List ℕ) (o : Option Cut) → into_front front (into_front more o) ≡ into_front (front ++ more) o
into_twice front more None = refl
into_twice front more (Some x) = ap (λ (l : List ℕ). Some (l, x.1)) (sym (append_assoc front more x.0))

into_nothing : (o : Option Cut) → into_front [] o ≡ o
into_nothing None = refl
into_nothing (Some x) = refl

-- what was passed, and what is still looked at
pub record SoFar (q : ℕ) (bytes : List ℕ) (place : ℕ) : Type 0 where
  pub front : List ℕ
  pub rest : List ℕ
  pub parts : bytes ≡ front ++ rest
  pub size : length front ≡ place
  pub reads : into_front front (closing q rest) ≡ closing q bytes

pub far_begin : (q : ℕ) (bytes : List ℕ) → SoFar q bytes 0
far_begin q bytes = record { front = []; rest = bytes; parts = refl; size = refl; reads = into_nothing (closing q bytes) }

-- what is still looked at stands behind the place
far_rest : (q : ℕ) (bytes : List ℕ) (place : ℕ) (h : SoFar q bytes place) → (take place bytes ≡ h.front) × (drop place bytes ≡ h.rest)
far_rest q bytes place h = (
  ap (λ (n : ℕ). take n bytes) (sym h.size) ∙ ap (take (length h.front)) h.parts ∙ take-append_seam h.front h.rest,
  ap (λ (n : ℕ). drop n bytes) (sym h.size) ∙ ap (drop (length h.front)) h.parts ∙ drop-append_seam h.front h.rest,
)

escape_on : (q : ℕ) (front rest : List ℕ) (total : Option Cut) → begins_escape q rest ≡ true → into_front front (closing q rest) ≡ total
    → (two : List ℕ) × (after : List ℕ) × (rest ≡ two ++ after) × (length two ≡ 2) × (into_front (front ++ two) (closing q after) ≡ total)
unfolding closing
escape_on q front [] total esc e = absurd (true≢false (sym esc))
escape_on q front (b ∷ []) total esc e = absurd (true≢false (sym esc))
escape_on q front (b ∷ c ∷ after) total esc e = (b ∷ c ∷ [], after, refl, refl, sym (into_twice front (b ∷ c ∷ []) (closing q after)) ∙ (rw (esc) at e))

other_on : (q : ℕ) (front : List ℕ) (b : ℕ) (after : List ℕ) (total : Option Cut) → begins_escape q (b ∷ after) ≡ false → eqb b q ≡ false → into_front front (closing q (b ∷ after)) ≡ total
    → into_front (front ++ b ∷ []) (closing q after) ≡ total
unfolding closing
other_on q front b [] total esc ne e = rw (ne) at e
other_on q front b (c ∷ after) total esc ne e = sym (into_twice front (b ∷ []) (closing q (c ∷ after))) ∙ (rw (esc, ne) at e)

here_on : (q : ℕ) (front : List ℕ) (b : ℕ) (after : List ℕ) (total : Option Cut) → begins_escape q (b ∷ after) ≡ false → eqb b q ≡ true → into_front front (closing q (b ∷ after)) ≡ total → total ≡ Some (front, after)
unfolding closing
here_on q front b [] total esc same e = sym (rw (same) at e) ∙ ap (λ (l : List ℕ). Some (l, [])) (append-nil front)
here_on q front b (c ∷ after) total esc same e = sym (rw (esc, same) at e) ∙ ap (λ (l : List ℕ). Some (l, c ∷ after)) (append-nil front)

pub far_escape : (q : ℕ) (bytes : List ℕ) (place : ℕ) → SoFar q bytes place → begins_escape q (drop place bytes) ≡ true → SoFar q bytes (place + 2)
far_escape q bytes place h esc =
    let at = far_rest q bytes place h in
    let s = escape_on q h.front h.rest (closing q bytes) (subst (λ (l : List ℕ). begins_escape q l ≡ true) at.1 esc) h.reads in
    record {
      front = h.front ++ s.0;
      rest = s.1;
      parts = h.parts ∙ ap (λ (l : List ℕ). h.front ++ l) s.2 ∙ sym (append_assoc h.front s.0 s.1);
      size = omega (arith, length-append h.front s.0, h.size, s.3);
      reads = s.4;
    }

-- the next byte, at a place within the text
next_at : (rest : List ℕ) → 0 < length rest → (b : ℕ) × (after : List ℕ) × (rest ≡ b ∷ after)
next_at [] lt = absurd (omega arith)
next_at (b ∷ after) lt = (b, after, refl)

pub byte_at : (bytes : List ℕ) (place : ℕ) (b : ℕ) (after : List ℕ) → drop place bytes ≡ b ∷ after → get_or bytes place 0 ≡ b
byte_at [] zero b after e = absurd cc
byte_at [] (suc place) b after e = absurd cc
byte_at (c ∷ bytes) zero b after e = cc
byte_at (c ∷ bytes) (suc place) b after e = byte_at bytes place b after e

drop_more : (bytes : List ℕ) (place : ℕ) (b : ℕ) (after : List ℕ) → drop place bytes ≡ b ∷ after → drop (place + 1) bytes ≡ after
drop_more bytes place b after e = let one : place + 1 ≡ suc place = omega arith in ap (λ (n : ℕ). drop n bytes) one ∙ go bytes place e
  where
    go : (bytes : List ℕ) (place : ℕ) → drop place bytes ≡ b ∷ after → drop (suc place) bytes ≡ after
    go [] zero e = absurd cc
    go [] (suc place) e = absurd cc
    go (c ∷ bytes) zero e = cc
    go (c ∷ bytes) (suc place) e = go bytes place e

far_size : (q : ℕ) (bytes : List ℕ) (place : ℕ) (h : SoFar q bytes place) → length bytes ≡ place + length h.rest
far_size q bytes place h = omega (arith, ap length h.parts, length-append h.front h.rest, h.size)

pub far_room : (q : ℕ) (bytes : List ℕ) (place : ℕ) → SoFar q bytes place → place ≤ length bytes
far_room q bytes place h = omega (arith, far_size q bytes place h)

pub far_other : (q : ℕ) (bytes : List ℕ) (place : ℕ) → SoFar q bytes place → place < length bytes → begins_escape q (drop place bytes) ≡ false → (get_or bytes place 0 ≡ q → ⊥) → SoFar q bytes (place + 1)
far_other q bytes place h lt esc ne =
    let at = far_rest q bytes place h in
    let n = next_at h.rest (omega (arith, far_size q bytes place h)) in
    let byte = byte_at bytes place n.0 n.1 (at.1 ∙ n.2) in
    let other : eqb n.0 q ≡ false = false_from_ne_true (eqb n.0 q) (λ s. ne (byte ∙ eqb-true n.0 q s)) in
    let esc' : begins_escape q (n.0 ∷ n.1) ≡ false = subst (λ (l : List ℕ). begins_escape q l ≡ false) (at.1 ∙ n.2) esc in
    record {
      front = h.front ++ n.0 ∷ [];
      rest = n.1;
      parts = h.parts ∙ ap (λ (l : List ℕ). h.front ++ l) n.2 ∙ sym (append_assoc h.front (n.0 ∷ []) n.1);
      size = omega (arith, length-append h.front (n.0 ∷ []), h.size);
      reads = other_on q h.front n.0 n.1 (closing q bytes) esc' other (subst (λ (l : List ℕ). into_front h.front (closing q l) ≡ closing q bytes) n.2 h.reads);
    }

pub far_here : (q : ℕ) (bytes : List ℕ) (place : ℕ) → SoFar q bytes place → place < length bytes → begins_escape q (drop place bytes) ≡ false → get_or bytes place 0 ≡ q
    → (closing q bytes ≡ Some (take place bytes, drop (place + 1) bytes)) × (next_is q (drop place bytes) ≡ true)
far_here q bytes place h lt esc same =
    let at = far_rest q bytes place h in
    let n = next_at h.rest (omega (arith, far_size q bytes place h)) in
    let byte = byte_at bytes place n.0 n.1 (at.1 ∙ n.2) in
    let first : eqb n.0 q ≡ true = eq-eqb n.0 q (sym byte ∙ same) in
    let esc' : begins_escape q (n.0 ∷ n.1) ≡ false = subst (λ (l : List ℕ). begins_escape q l ≡ false) (at.1 ∙ n.2) esc in
    let reads = here_on q h.front n.0 n.1 (closing q bytes) esc' first (subst (λ (l : List ℕ). into_front h.front (closing q l) ≡ closing q bytes) n.2 h.reads) in
    let behind : drop (place + 1) bytes ≡ n.1 = drop_more bytes place n.0 n.1 (at.1 ∙ n.2) in
    (reads ∙ rw (at.0, behind) refl, rw (at.1, n.2) first)

pub far_end : (q : ℕ) (bytes : List ℕ) (place : ℕ) → SoFar q bytes place → length bytes ≤ place → closing q bytes ≡ None
unfolding closing
far_end q bytes place h le = go h.rest (omega (arith, far_size q bytes place h)) h.reads
  where
    go : (rest : List ℕ) → length rest ≡ 0 → into_front h.front (closing q rest) ≡ closing q bytes → closing q bytes ≡ None
    go [] z e = sym e
    go (b ∷ rest) z e = absurd (omega arith)

-- ---- what is meant

abbrev pub plain_byte : ℕ → Bool
plain_byte b = not (eqb b 92)

-- no backslash is among the bytes
abbrev pub HasNoBackslash : List ℕ → Type 0
HasNoBackslash bytes = list_all plain_byte bytes ≡ true

no_escape : (q b c : ℕ) → plain_byte b ≡ true → is_escape q b c ≡ false
no_escape q b c h = rw (not_true (eqb b 92) h) refl

-- bytes without a backslash mean themselves
pub meant_front : (q : ℕ) (front text : List ℕ) → HasNoBackslash front → meant q (front ++ text) ≡ front ++ meant q text
meant_front q [] text h = refl
meant_front q (b ∷ []) [] h = refl
meant_front q (b ∷ []) (c ∷ text) h = rw (no_escape q b c (and_parts (plain_byte b) true h).0) refl
meant_front q (b ∷ c ∷ front) text h =
    let p = and_parts (plain_byte b) (list_all plain_byte (c ∷ front)) h in
    let more = meant_front q (c ∷ front) text p.1 in
    rw (no_escape q b c p.0) (ap (λ (l : List ℕ). b ∷ l) more)

pub meant_plain : (q : ℕ) (text : List ℕ) → HasNoBackslash text → meant q text ≡ text
meant_plain q text h = ap (meant q) (sym (append-nil text)) ∙ meant_front q text [] h ∙ append-nil text

-- a backslash that comes first, as an escape and alone
pub meant_escape : (q : ℕ) (text : List ℕ) → begins_escape q text ≡ true → meant q text ≡ take 1 (drop 1 text) ++ meant q (drop 2 text)
meant_escape q [] h = absurd (true≢false (sym h))
meant_escape q (b ∷ []) h = absurd (true≢false (sym h))
meant_escape q (b ∷ c ∷ text) h = rw h refl

pub meant_first : (q : ℕ) (text : List ℕ) → next_is 92 text ≡ true → begins_escape q text ≡ false → meant q text ≡ take 1 text ++ meant q (drop 1 text)
meant_first q [] h none = absurd (true≢false (sym h))
meant_first q (b ∷ []) h none = refl
meant_first q (b ∷ c ∷ text) h none = rw none refl

-- ---- where a text may be cut

pub low_quote : (q : ℕ) → is_quote q ≡ true → q < 128
low_quote q e = grind arith

first_low : (bytes : List ℕ) (b : ℕ) → next_is b bytes ≡ true → b < 128 → (0 < length bytes) × (get_or bytes 0 0 < 128)
first_low [] b h low = absurd (true≢false (sym h))
first_low (c ∷ bytes) b h low = (omega arith, omega (arith, eqb-true c b h))

-- behind a byte that comes first
pub cut_first : (bytes : List ℕ) (b : ℕ) → IsUtf8 bytes → next_is b bytes ≡ true → b < 128 → IsCharBoundary bytes 1
cut_first bytes b utf8 h low = let f = first_low bytes b h low in IsCharBoundary-after_ascii bytes 0 utf8 f.0 f.1

escape_low : (q : ℕ) (text : List ℕ) → is_quote q ≡ true → begins_escape q text ≡ true → (1 < length text) × (get_or text 1 0 < 128)
escape_low q [] is_q h = absurd (true≢false (sym h))
escape_low q (b ∷ []) is_q h = absurd (true≢false (sym h))
escape_low q (b ∷ c ∷ text) is_q h = (omega arith, second (and_parts (eqb b 92) (eqb c q || eqb c 92) h).1)
  where
    second : (eqb c q || eqb c 92) ≡ true → c < 128
    second e = go (eqb c q) refl e
      where
        go : (t : Bool) → eqb c q ≡ t → (eqb c q || eqb c 92) ≡ true → c < 128
        go true s e = omega (arith, eqb-true c q s, low_quote q is_q)
        go false s e = omega (arith, eqb-true c 92 (rw s at e))

-- behind an escape
pub cut_escape : (q : ℕ) (text : List ℕ) → is_quote q ≡ true → IsUtf8 text → begins_escape q text ≡ true → IsCharBoundary text 2
cut_escape q text is_q utf8 h = let f = escape_low q text is_q h in IsCharBoundary-after_ascii text 1 utf8 f.0 f.1

pub escape_size : (q : ℕ) (text : List ℕ) → begins_escape q text ≡ true → 2 ≤ length text
escape_size q [] h = absurd (true≢false (sym h))
escape_size q (b ∷ []) h = absurd (true≢false (sym h))
escape_size q (b ∷ c ∷ text) h = omega arith

-- before a byte that stands at a place
pub cut_before : (bytes : List ℕ) (place b : ℕ) → next_is b (drop place bytes) ≡ true → b < 128 → place < length bytes → IsCharBoundary bytes place
cut_before bytes place b h low lt = IsCharBoundary-before_ascii bytes place lt (go bytes place h)
  where
    go : (bytes : List ℕ) (place : ℕ) → next_is b (drop place bytes) ≡ true → get_or bytes place 0 < 128
    go [] zero h = absurd (true≢false (sym h))
    go [] (suc place) h = absurd (true≢false (sym h))
    go (c ∷ bytes) zero h = omega (arith, eqb-true c b h)
    go (c ∷ bytes) (suc place) h = go bytes place h

-- ---- a written value

pub written_quote : (text : List ℕ) (q : ℕ) → is_quote q ≡ true → next_is q text ≡ true → written_at text ≡ closed q (length text) (closing q (drop 1 text))
unfolding written_at
written_quote [] q is_q h = absurd (true≢false (sym h))
written_quote (b ∷ text) q is_q h = let same = eqb-true b q h in rw same (rw is_q refl)

pub written_plain : (text : List ℕ) → begins_quote text ≡ false → written_at text ≡ plain_at text
unfolding written_at
written_plain [] h = refl
written_plain (b ∷ text) h = rw h refl

-- behind a byte that stands at a place
pub cut_behind : (bytes : List ℕ) (place b : ℕ) → IsUtf8 bytes → next_is b (drop place bytes) ≡ true → b < 128 → IsCharBoundary bytes (place + 1)
cut_behind bytes place b utf8 h low =
    let f = stands_at bytes place h in
    IsCharBoundary-after_ascii bytes place utf8 f.0 (omega (arith, f.1))
  where
    stands_at : (bytes : List ℕ) (place : ℕ) → next_is b (drop place bytes) ≡ true → (place < length bytes) × (get_or bytes place 0 ≡ b)
    stands_at [] zero h = absurd (true≢false (sym h))
    stands_at [] (suc place) h = absurd (true≢false (sym h))
    stands_at (c ∷ bytes) zero h = (omega arith, eqb-true c b h)
    stands_at (c ∷ bytes) (suc place) h = let t = stands_at bytes place h in (omega (arith, t.0), t.1)

-- ---- what is meant, from backslash to backslash

abbrev is_backslash : ℕ → Bool
is_backslash b = eqb b 92

pub backslash_cut : (bytes : List ℕ) (i : ℕ) → position is_backslash bytes ≡ Some i → IsCharBoundary bytes i
backslash_cut bytes i e = let f = first_passes is_backslash bytes i e in IsCharBoundary-before_ascii bytes i f.within (omega (arith, byte_at bytes i f.byte f.after f.rest, eqb-true f.byte 92 f.passes))

pub backslash_next : (bytes : List ℕ) (i : ℕ) → position is_backslash bytes ≡ Some i → next_is 92 (drop i bytes) ≡ true
backslash_next bytes i e = let f = first_passes is_backslash bytes i e in rw (f.rest) f.passes

pub unescape_on : (q : ℕ) (value rest : List ℕ) (place : ℕ) (front behind character after total : List ℕ) → position is_backslash rest ≡ Some place → front ≡ take place rest → behind ≡ drop place rest
    → meant q behind ≡ character ++ meant q after → value ++ meant q rest ≡ total → ((value ++ front) ++ character) ++ meant q after ≡ total
unescape_on q value rest place front behind character after total e is_front is_behind step so_far =
    let f = first_passes is_backslash rest place e in
    let cut : meant q rest ≡ front ++ meant q behind
    = ap (meant q) (sym (take-append-drop place rest)) ∙ meant_front q (take place rest) (drop place rest) f.before ∙ ap (λ (l : List ℕ). l ++ meant q (drop place rest)) (sym is_front) ∙ ap (λ (l : List ℕ). front ++ meant q l) (sym is_behind) in
    append_assoc (value ++ front) character (meant q after) ∙ ap (λ (l : List ℕ). (value ++ front) ++ l) (sym step) ∙ append_assoc value front (meant q behind) ∙ ap (λ (l : List ℕ). value ++ l) (sym cut) ∙ so_far

pub unescape_end : (q : ℕ) (value rest total : List ℕ) → position is_backslash rest ≡ None → value ++ meant q rest ≡ total → value ++ rest ≡ total
unescape_end q value rest total e so_far = ap (λ (l : List ℕ). value ++ l) (sym (meant_plain q rest (none_passes is_backslash rest e))) ∙ so_far
