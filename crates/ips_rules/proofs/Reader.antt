-- A word is read in one way.
use Rattle.std.proofs.Common.{◌≡◌, ℕ, ◌<◌, true, false, List, [], ◌∷◌, ◌++◌, length, Ok, refl, sym, ap, ap₂, subst, ◌∙◌, append_assoc, arith}
use Rattle.std.specs.List.{list_all}
use Rattle.std.proofs.lemmas.Bool.{and_parts, true≢false}
use Rattle.std.proofs.lemmas.List.{length-append}
use Rattle.ips_text.specs.declared.refusal.Stop.{Stop}
use Rattle.ips_text.specs.Reading.{run}
use Rattle.ips_text.proofs.Runs.{Ends, run_again, run_is}
use Rattle.ips_text.proofs.Readers.{ok_is}
use Rattle.ips_line.specs.declared.fault.Part.{Part}
use Rattle.ips_line.specs.Line.{is_blank, is_quote, in_word, in_key, IsRunOfBytes, Written, Plain, Quoted, written_text, IsWritten}
use Rattle.ips_line.specs.Reading.{begins_quote, written_at}
use Rattle.ips_line.proofs.Heads.{run_all, has_run}
use Rattle.ips_line.proofs.Keyed.{Reads-written, no_blank}
use Rattle.ips_line.proofs.Listed.{run_ends, written_follows}
use Rattle.ips_line.specs.Seen.{HasQuote}
use Rattle.ips_rule.specs.Rules.{Word, Value, Keyed, word_text, QuotesValue, IsTerm, IsValue, Spelled}
use Rattle.ips_rules.specs.Next.{TermAt, ValueAt, ends_word, FirstWord, IsNext, IsNoWord}
use Rattle.ips_rules.proofs.Equals.{one_key, has_quote, not_none}

abbrev Read : Type 0
Read = Written × List ℕ

-- ---- bytes

word_blank : (b : ℕ) → in_word b ≡ true → is_blank b ≡ false
word_blank b h = grind arith

quote_blank : (b : ℕ) → is_quote b ≡ true → is_blank b ≡ false
quote_blank b h = grind arith

quote_word : (b : ℕ) → is_quote b ≡ true → in_word b ≡ true
quote_word b h = grind arith

key_word : (b : ℕ) → in_key b ≡ true → in_word b ≡ true
key_word b h = grind arith

key_quote : (b : ℕ) → in_key b ≡ true → is_quote b ≡ false
key_quote b h = grind arith

pub word_ended : (rest : List ℕ) → ends_word rest ≡ true → Ends in_word rest
word_ended [] h = tt
word_ended (b ∷ rest) h = run_ends (b ∷ []) rest (rw h refl)

-- ---- a key and a quote

-- up to a blank a text begins with no more than the word that stands first
within_word : (bytes rest front more : List ℕ) → Ends in_word rest → list_all in_word front ≡ true → bytes ++ rest ≡ front ++ more → (left : List ℕ) × (bytes ≡ front ++ left)
within_word bytes rest [] more ends all e = (bytes, refl)
within_word [] [] (b ∷ front) more ends all e = absurd cc
within_word [] (c ∷ rest) (b ∷ front) more ends all e =
    let head : c ≡ b = cc in
    absurd (true≢false (sym (and_parts (in_word b) (list_all in_word front) all).0 ∙ ap in_word (sym head) ∙ ends))
within_word (c ∷ bytes) rest (b ∷ front) more ends all e =
    let head : c ≡ b = cc in
    let tail : bytes ++ rest ≡ front ++ more = cc in
    let w = within_word bytes rest front more ends (and_parts (in_word b) (list_all in_word front) all).1 tail in
    (w.0, ap₂ ◌∷◌ head w.1)

words_behind : (key rest : List ℕ) → list_all in_key key ≡ true → list_all in_word rest ≡ true → list_all in_word (key ++ rest) ≡ true
words_behind [] rest keys words = words
words_behind (b ∷ key) rest keys words =
    let p = and_parts (in_key b) (list_all in_key key) keys in
    rw (key_word b p.0) (words_behind key rest p.1 words)

quote_words : (q : ℕ) → is_quote q ≡ true → list_all in_word (61 ∷ q ∷ []) ≡ true
quote_words q h = rw (quote_word q h) refl

-- a text whose first word begins with a key, `=` and a quote: so does that word
word_quotes : (value : Written) (rest : List ℕ) → IsWritten value → Ends in_word rest → QuotesValue (written_text value ++ rest) → QuotesValue (written_text value)
word_quotes (Plain bytes) rest h ends q =
    let front = q.key ++ 61 ∷ q.quote ∷ [] in
    let all : list_all in_word front ≡ true = words_behind q.key (61 ∷ q.quote ∷ []) (run_all in_key q.key q.is_key) (quote_words q.quote q.quotes) in
    let w = within_word bytes rest front q.more ends all (q.whole ∙ sym (append_assoc q.key (61 ∷ q.quote ∷ []) q.more)) in
    record { key = q.key; quote = q.quote; more = w.0; is_key = q.is_key; quotes = q.quotes; whole = w.1 ∙ append_assoc q.key (61 ∷ q.quote ∷ []) w.0 }
word_quotes (Quoted quote inside) rest h ends q = go q.key q.is_key q.whole
  where
    go : (key : List ℕ) → IsRunOfBytes in_key key → written_text (Quoted quote inside) ++ rest ≡ key ++ 61 ∷ q.quote ∷ q.more → QuotesValue (written_text (Quoted quote inside))
    go [] is_key e = absurd is_key
    go (b ∷ key) is_key e =
        let head : quote ≡ b = cc in
        absurd (true≢false (sym h.0 ∙ ap is_quote head ∙ key_quote b (and_parts (in_key b) (list_all in_key key) is_key).0))

more_quotes : (text rest : List ℕ) → QuotesValue text → QuotesValue (text ++ rest)
more_quotes text rest q = record {
  key = q.key;
  quote = q.quote;
  more = q.more ++ rest;
  is_key = q.is_key;
  quotes = q.quotes;
  whole = ap (λ (l : List ℕ). l ++ rest) q.whole ∙ append_assoc q.key (61 ∷ q.quote ∷ q.more) rest;
}

-- ---- the first byte

-- the first byte is there, and no blank
abbrev StartsWord : List ℕ → Type 0
StartsWord [] = ⊥
StartsWord (b ∷ bytes) = is_blank b ≡ false

value_starts : (value : Written) (rest : List ℕ) → IsWritten value → StartsWord (written_text value ++ rest)
value_starts (Plain []) rest h = absurd h
value_starts (Plain (b ∷ bytes)) rest h = word_blank b (and_parts (in_word b) (list_all in_word bytes) h.1).0
value_starts (Quoted quote inside) rest h = quote_blank quote h.0

key_starts : (key rest : List ℕ) → IsRunOfBytes in_key key → StartsWord (key ++ rest)
key_starts [] rest h = absurd h
key_starts (b ∷ key) rest h = no_blank b (and_parts (in_key b) (list_all in_key key) h).0

-- ---- both forms of words

-- what reads the words of a form: it takes one that fits, reads it again, and reads one alone
pub record IsReader (Fits : Word → Type 0) (At : List ℕ → Word → List ℕ → Type 0) : Type 0 where
  pub takes : (text : List ℕ) (w : Word) (rest : List ℕ) → At text w rest → Fits w × (text ≡ word_text w ++ rest)
  pub again : (w : Word) (rest : List ℕ) → Fits w → ends_word rest ≡ true → At (word_text w ++ rest) w rest
  pub one : (text : List ℕ) (v w : Word) (rest more : List ℕ) → At text v rest → At text w more → (v ≡ w) × (rest ≡ more)
  pub starts : (w : Word) (rest : List ℕ) → Fits w → StartsWord (word_text w ++ rest)

read_one : (text : List ℕ) (v w : Written) (rest more : List ℕ) → written_at text ≡ Ok (v, rest) → written_at text ≡ Ok (w, more) → (v ≡ w) × (rest ≡ more)
read_one text v w rest more h g =
    let both : (let x : Read = (v, rest) in x) ≡ (w, more) = ok_is {E = Stop Part} (v, rest) (w, more) (sym h ∙ g) in
    (ap (λ (p : Read). p.0) both, ap (λ (p : Read). p.1) both)

abbrev as_value : Written → Word
as_value w = Value w

pub values_read : IsReader IsValue ValueAt
values_read = record { takes = takes; again = again; one = one; starts = starts }
  where
    takes : (text : List ℕ) (w : Word) (rest : List ℕ) → ValueAt text w rest → IsValue w × (text ≡ word_text w ++ rest)
    takes text (Value value) rest h = let t = Reads-written.takes text (value, rest) h in (t.1, t.0)
    takes text (Keyed key quote inside) rest h = absurd h

    again : (w : Word) (rest : List ℕ) → IsValue w → ends_word rest ≡ true → ValueAt (word_text w ++ rest) w rest
    again (Value value) rest h ends = Reads-written.again value rest h (written_follows value rest (word_ended rest ends))
    again (Keyed key quote inside) rest h ends = absurd h

    one : (text : List ℕ) (v w : Word) (rest more : List ℕ) → ValueAt text v rest → ValueAt text w more → (v ≡ w) × (rest ≡ more)
    one text (Value v) (Value w) rest more h g = let both = read_one text v w rest more h g in (ap as_value both.0, both.1)
    one text (Value v) (Keyed key quote inside) rest more h g = absurd g
    one text (Keyed key quote inside) w rest more h g = absurd h

    starts : (w : Word) (rest : List ℕ) → IsValue w → StartsWord (word_text w ++ rest)
    starts (Value value) rest h = value_starts value rest h
    starts (Keyed key quote inside) rest h = absurd h

-- ---- words up to `->`

abbrev keyed : List ℕ → Written → Word
keyed key (Plain bytes) = Value (Plain bytes)
keyed key (Quoted quote inside) = Keyed key quote inside

-- a quoted value that is read behind a key and `=`
keyed_quotes : (text key rest more : List ℕ) (quote : ℕ) (inside : List ℕ) → IsRunOfBytes in_key key → text ≡ key ++ 61 ∷ rest → written_at rest ≡ Ok (Quoted quote inside, more) → QuotesValue text
keyed_quotes text key rest more quote inside is_key e h =
    let t = Reads-written.takes rest (Quoted quote inside, more) h in
    record { key = key; quote = quote; more = (inside ++ quote ∷ []) ++ more; is_key = is_key; quotes = t.1.0; whole = e ∙ ap (λ (l : List ℕ). key ++ 61 ∷ l) t.0 }

pub terms_read : IsReader IsTerm TermAt
terms_read = record { takes = takes; again = again; one = one; starts = starts }
  where
    takes : (text : List ℕ) (w : Word) (rest : List ℕ) → TermAt text w rest → IsTerm w × (text ≡ word_text w ++ rest)
    takes text (Value value) rest h =
        let t = Reads-written.takes text (value, rest) h.1 in
        ((t.1, λ q. h.0 (subst QuotesValue (sym t.0) (more_quotes (written_text value) rest q))), t.0)
    takes text (Keyed key quote inside) rest h =
        let t = Reads-written.takes h.1.0 (Quoted quote inside, rest) h.1.2 in
        ((h.0, t.1), h.1.1 ∙ ap (λ (l : List ℕ). key ++ 61 ∷ l) t.0 ∙ sym (append_assoc key (61 ∷ written_text (Quoted quote inside)) rest))

    again : (w : Word) (rest : List ℕ) → IsTerm w → ends_word rest ≡ true → TermAt (word_text w ++ rest) w rest
    again (Value value) rest h ends =
        let ended = word_ended rest ends in
        (λ q. h.1 (word_quotes value rest h.0 ended q), Reads-written.again value rest h.0 (written_follows value rest ended))
    again (Keyed key quote inside) rest h ends =
        (h.0, (written_text (Quoted quote inside) ++ rest, append_assoc key (61 ∷ written_text (Quoted quote inside)) rest, Reads-written.again (Quoted quote inside) rest h.1 tt))

    one : (text : List ℕ) (v w : Word) (rest more : List ℕ) → TermAt text v rest → TermAt text w more → (v ≡ w) × (rest ≡ more)
    one text (Value v) (Value w) rest more h g = let both = read_one text v w rest more h.1 g.1 in (ap as_value both.0, both.1)
    one text (Value v) (Keyed key quote inside) rest more h g = absurd (h.0 (keyed_quotes text key g.1.0 more quote inside g.0 g.1.1 g.1.2))
    one text (Keyed key quote inside) (Value w) rest more h g = absurd (g.0 (keyed_quotes text key h.1.0 rest quote inside h.0 h.1.1 h.1.2))
    one text (Keyed key quote inside) (Keyed other mark within) rest more h g =
        let same = one_key key other h.1.0 g.1.0 h.0 g.0 (sym h.1.1 ∙ g.1.1) in
        let both = read_one h.1.0 (Quoted quote inside) (Quoted mark within) rest more h.1.2 (ap written_at same.1 ∙ g.1.2) in
        (ap₂ keyed same.0 both.0, both.1)

    starts : (w : Word) (rest : List ℕ) → IsTerm w → StartsWord (word_text w ++ rest)
    starts (Value value) rest h = value_starts value rest h.0
    starts (Keyed key quote inside) rest h = subst StartsWord (sym (append_assoc key (61 ∷ written_text (Quoted quote inside)) rest)) (key_starts key (61 ∷ (written_text (Quoted quote inside) ++ rest)) h.0)

-- ---- as the program reads a word

pub written_quote : (w : Written) → IsWritten w → HasQuote w
written_quote (Plain bytes) h = tt
written_quote (Quoted quote inside) h = h.0

pub no_value : (text : List ℕ) → ((value : Written) (behind : List ℕ) → written_at text ≡ Ok (value, behind) → ⊥) → (w : Word) (behind : List ℕ) → ValueAt text w behind → ⊥
no_value text none (Value value) behind h = none value behind h
no_value text none (Keyed key quote inside) behind h = h

pub no_quoted : (text bytes rest : List ℕ) → written_at text ≡ Ok (Plain bytes, rest) → (quote : ℕ) (inside behind : List ℕ) → written_at text ≡ Ok (Quoted quote inside, behind) → ⊥
no_quoted text bytes rest h quote inside behind g =
    let same = (read_one text (Plain bytes) (Quoted quote inside) rest behind h g).0 in
    absurd cc

-- behind a key, `=` and a quote no value stands between quotes
pub no_keyed : (text key rest : List ℕ) → IsRunOfBytes in_key key → text ≡ key ++ 61 ∷ rest → begins_quote rest ≡ true → ((quote : ℕ) (inside behind : List ℕ) → written_at rest ≡ Ok (Quoted quote inside, behind) → ⊥)
    → (w : Word) (behind : List ℕ) → TermAt text w behind → ⊥
no_keyed text key rest is_key e quotes none (Value value) behind h = h.0 (has_quote text key rest is_key e quotes)
no_keyed text key rest is_key e quotes none (Keyed other quote inside) behind h =
    let same = one_key key other rest h.1.0 is_key h.0 (sym e ∙ h.1.1) in
    none quote inside behind (ap written_at same.1 ∙ h.1.2)

-- no value stands first, and no key, `=` and a quote
pub no_term : (text : List ℕ) → (QuotesValue text → ⊥) → ((value : Written) (behind : List ℕ) → written_at text ≡ Ok (value, behind) → ⊥) → (w : Word) (behind : List ℕ) → TermAt text w behind → ⊥
no_term text quotes none (Value value) behind h = none value behind h.1
no_term text quotes none (Keyed key quote inside) behind h = quotes (keyed_quotes text key h.1.0 behind quote inside h.0 h.1.1 h.1.2)

-- ---- behind blanks

to_ends : (text : List ℕ) → StartsWord text → Ends is_blank text
to_ends [] h = tt
to_ends (b ∷ text) h = h

pub gap_some : (text gap body : List ℕ) → run is_blank text ≡ (gap, body) → (length gap ≡ 0 → ⊥) → IsRunOfBytes is_blank (run is_blank text).0 × ((run is_blank text).1 ≡ body)
gap_some text gap body e some =
    let first : (run is_blank text).0 ≡ gap = ap (λ (p : List ℕ × List ℕ). p.0) e in
    let all : list_all is_blank gap ≡ true = ap (list_all is_blank) (sym first) ∙ (run_is is_blank text).all in
    (subst (IsRunOfBytes is_blank) (sym first) (has_run is_blank gap all (not_none gap some)), ap (λ (p : List ℕ × List ℕ). p.1) e)

module _ {Fits : Word → Type 0} {At : List ℕ → Word → List ℕ → Type 0} (reader : IsReader Fits At) where
  first_run : (text : List ℕ) (s : Spelled) (rest : List ℕ) → FirstWord Fits text s rest → run is_blank text ≡ (s.gap, word_text s.word ++ rest)
  first_run text s rest f =
      ap (run is_blank) (f.whole ∙ append_assoc s.gap (word_text s.word) rest)
      ∙ run_again is_blank s.gap (word_text s.word ++ rest) (run_all is_blank s.gap f.spelled.0) (to_ends (word_text s.word ++ rest) (reader.starts s.word rest f.spelled.1))

  -- what stands first is what is read behind the blanks
  first_at : (text body : List ℕ) (s : Spelled) (rest : List ℕ) → (run is_blank text).1 ≡ body → FirstWord Fits text s rest → At body s.word rest
  first_at text body s rest e f =
      subst (λ (l : List ℕ). At l s.word rest) (ap (λ (p : List ℕ × List ℕ). p.1) (sym (first_run text s rest f)) ∙ e) (reader.again s.word rest f.spelled.1 f.ends)

  pub first_one : (text : List ℕ) (s t : Spelled) (rest more : List ℕ) → FirstWord Fits text s rest → FirstWord Fits text t more → (s.word ≡ t.word) × (rest ≡ more)
  first_one text s t rest more f g =
      reader.one (run is_blank text).1 s.word t.word rest more (first_at text (run is_blank text).1 s rest refl f) (first_at text (run is_blank text).1 t more refl g)

  pub first_not_blank : (text : List ℕ) (s : Spelled) (rest : List ℕ) → list_all is_blank text ≡ true → FirstWord Fits text s rest → ⊥
  first_not_blank text s rest blank f =
      no_blanks s.gap (word_text s.word ++ rest) (reader.starts s.word rest f.spelled.1)
      (ap (list_all is_blank) (sym (f.whole ∙ append_assoc s.gap (word_text s.word) rest)) ∙ blank)
    where
      no_blanks : (gap body : List ℕ) → StartsWord body → list_all is_blank (gap ++ body) ≡ true → ⊥
      no_blanks [] [] h e = h
      no_blanks [] (b ∷ body) h e = true≢false (sym (and_parts (is_blank b) (list_all is_blank body) e).0 ∙ h)
      no_blanks (b ∷ gap) body h e = no_blanks gap body h (and_parts (is_blank b) (list_all is_blank (gap ++ body)) e).1

  -- ---- as the program reads

  pub next_is : (text body : List ℕ) (w : Word) (rest : List ℕ) → IsRunOfBytes is_blank (run is_blank text).0 → (run is_blank text).1 ≡ body → At body w rest → ends_word rest ≡ true → IsNext Fits text w rest
  next_is text body w rest gap e at ends =
      let t = reader.takes body w rest at in
      let whole = (run_is is_blank text).parts ∙ ap (λ (l : List ℕ). (run is_blank text).0 ++ l) (e ∙ t.1) ∙ sym (append_assoc (run is_blank text).0 (word_text w) rest) in
      ((run is_blank text).0, record { spelled = (gap, t.0); whole = whole; ends = ends })

  pub no_gap : (text : List ℕ) → (run is_blank text).0 ≡ [] → IsNoWord Fits text
  no_gap text none = λ s rest f. go s.gap f.spelled.0 (ap (λ (p : List ℕ × List ℕ). p.0) (sym (first_run text s rest f)) ∙ none)
    where
      go : (gap : List ℕ) → IsRunOfBytes is_blank gap → gap ≡ [] → ⊥
      go [] h e = h
      go (b ∷ gap) h e = cc

  pub no_word : (text body : List ℕ) → (run is_blank text).1 ≡ body → ((w : Word) (rest : List ℕ) → At body w rest → ⊥) → IsNoWord Fits text
  no_word text body e none = λ s rest f. none s.word rest (first_at text body s rest e f)

  pub no_end : (text body : List ℕ) (w : Word) (behind : List ℕ) → (run is_blank text).1 ≡ body → At body w behind → ends_word behind ≡ false → IsNoWord Fits text
  no_end text body w behind e at more = λ s rest f.
      let same = reader.one body s.word w rest behind (first_at text body s rest e f) at in
      true≢false (sym f.ends ∙ ap ends_word same.1 ∙ more)

pub next_shorter : {Fits : Word → Type 0} (text : List ℕ) (w : Word) (rest : List ℕ) → IsNext Fits text w rest → length rest < length text
next_shorter text w rest n =
    omega (arith, ap length n.1.whole, length-append (n.0 ++ word_text w) rest, length-append n.0 (word_text w), some n.0 n.1.spelled.0)
  where
    some : (gap : List ℕ) → IsRunOfBytes is_blank gap → 0 < length gap
    some [] h = absurd h
    some (b ∷ gap) h = omega arith
