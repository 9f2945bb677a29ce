-- Words that ask for a transformation, one by one.
use Rattle.std.proofs.Common.{◌≡◌, ℕ, zero, suc, ◌+◌, ◌<◌, ◌≤◌, ◌==◌, ◌⊎◌, inl, inr, Bool, false, cond, List, [], ◌∷◌, ◌++◌, length, take, drop, take-append-drop, get_or, Option, Some, refl, sym, ap, subst, ◌∙◌, arith}
use Rattle.std.specs.Prelude.{codes, slice_get, Err}
use Rattle.ips_text.specs.declared.refusal.Or.{Or}
use Rattle.ips_text.specs.declared.refusal.Or.TheVariants.{Bad, OutOfMemory}
use Rattle.ips_text.specs.Reading.{IfBad}
use Rattle.std.proofs.lemmas.Bool.{eq-eqb, cases_Bool, eqb-true}
use Rattle.std.proofs.lemmas.Option.{none-some, slice_get_within, slice_get-get_or}
use Rattle.ips_text.specs.Path.{IsPath}
use Rattle.ips_text.proofs.Fronts.{ascii_path}
use Rattle.ips_syntax.specs.declared.table.Why.{Why}
use Rattle.ips_syntax.specs.declared.table.Why.TheVariants.{Missing, Extra}
use Rattle.ips_words.specs.declared.what.Usage.{Usage}
use Rattle.ips_mogrify.specs.Outcome.{AsksToTransform, BeginsRequest, IsWordFault, why_at}
use Rattle.ips_mogrify.specs.Reading.{IsWrong}

abbrev Word : Type 0
Word = List ℕ

-- what the word at a place has to be
abbrev pub Fits : ℕ → Word → Type 0
Fits zero w = w ≡ codes "mogrify"
Fits (suc zero) w = w ≡ codes "-d"
Fits (suc (suc zero)) w = Unit {0}
Fits (suc (suc (suc zero))) w = IsPath w
Fits (suc (suc (suc (suc zero)))) w = IsPath w
Fits (suc (suc (suc (suc (suc place))))) w = ⊥

-- the words from that place on are what they have to be
abbrev pub Fit : ℕ → List Word → Type 0
Fit place [] = Unit {0}
Fit place (w ∷ words) = Fits place w × Fit (suc place) words

-- ---- one word more

more : (k : ℕ) (words : List Word) (p : ℕ) (w : Word) → Fit k (take p words) → slice_get words p ≡ Some w → Fits (k + p) w → Fit k (take (suc p) words)
more k [] p w h at f = absurd (none-some w at)
more k (x ∷ words) zero w h at f = (let e : k + 0 ≡ k = omega arith in subst (λ (n : ℕ). Fits n x) e (subst (Fits (k + 0)) (sym (same x w at)) f), tt)
  where
    same : (x w : Word) → (let o : Option Word = Some x in o) ≡ Some w → x ≡ w
    same x w e = cc
more k (x ∷ words) (suc p) w h at f = (h.0, more (suc k) words p w h.1 at (let e : k + suc p ≡ suc k + p = omega arith in subst (λ (n : ℕ). Fits n w) e f))

pub one_more : (words : List Word) (p : ℕ) (w : Word) → Fit 0 (take p words) → slice_get words p ≡ Some w → Fits p w → Fit 0 (take (suc p) words)
one_more words p w h at f = more 0 words p w h at (let e : p ≡ 0 + p = omega arith in subst (λ (n : ℕ). Fits n w) e f)

here : (k : ℕ) (words : List Word) (p : ℕ) (w : Word) → Fit k (take (suc p) words) → slice_get words p ≡ Some w → Fits (k + p) w
here k [] p w h at = absurd (none-some w at)
here k (x ∷ words) zero w h at = let e : k ≡ k + 0 = omega arith in subst (λ (n : ℕ). Fits n w) e (subst (Fits k) (same x w at) h.0)
  where
    same : (x w : Word) → (let o : Option Word = Some x in o) ≡ Some w → x ≡ w
    same x w e = cc
here k (x ∷ words) (suc p) w h at = let e : suc k + p ≡ k + suc p = omega arith in subst (λ (n : ℕ). Fits n w) e (here (suc k) words p w h.1 at)

-- ---- words that go on

a_path : IsPath (codes "a")
a_path = ascii_path (codes "a") refl refl refl refl refl (omega arith) (omega arith) refl

abbrev a : Word
a = codes "a"

goes_on : (words : List Word) → Fit 0 words → BeginsRequest words
goes_on [] h = (codes "mogrify" ∷ codes "-d" ∷ a ∷ a ∷ a ∷ [], a, a, record { folder = a; form = refl; rules_path = a_path; manifest_path = a_path })
goes_on (b ∷ []) h = (codes "-d" ∷ a ∷ a ∷ a ∷ [], a, a, record { folder = a; form = ap (λ (x : Word). x ∷ codes "-d" ∷ a ∷ a ∷ a ∷ []) h.0; rules_path = a_path; manifest_path = a_path })
goes_on (b ∷ c ∷ []) h = (a ∷ a ∷ a ∷ [], a, a, record { folder = a; form = λ i. h.0 i ∷ h.1.0 i ∷ a ∷ a ∷ a ∷ []; rules_path = a_path; manifest_path = a_path })
goes_on (b ∷ c ∷ d ∷ []) h = (a ∷ a ∷ [], a, a, record { folder = d; form = λ i. h.0 i ∷ h.1.0 i ∷ d ∷ a ∷ a ∷ []; rules_path = a_path; manifest_path = a_path })
goes_on (b ∷ c ∷ d ∷ e ∷ []) h = (a ∷ [], e, a, record { folder = d; form = λ i. h.0 i ∷ h.1.0 i ∷ d ∷ e ∷ a ∷ []; rules_path = h.1.1.1.0; manifest_path = a_path })
goes_on (b ∷ c ∷ d ∷ e ∷ f ∷ []) h = ([], e, f, record { folder = d; form = λ i. h.0 i ∷ h.1.0 i ∷ d ∷ e ∷ f ∷ []; rules_path = h.1.1.1.0; manifest_path = h.1.1.1.1.0 })
goes_on (b ∷ c ∷ d ∷ e ∷ f ∷ g ∷ words) h = absurd h.1.1.1.1.1.0

front : (k : ℕ) (words others : List Word) → Fit k (words ++ others) → Fit k words
front k [] others h = tt
front k (w ∷ words) others h = (h.0, front (suc k) words others h.1)

fit_on : (words : List Word) → BeginsRequest words → Fit 0 words
fit_on words g = front 0 words g.0 (subst (Fit 0) (sym g.3.form) (refl, (refl, (tt, (g.3.rules_path, (g.3.manifest_path, tt))))))

goes_before : (words : List Word) (rules manifest : Word) (p : ℕ) → AsksToTransform words rules manifest → BeginsRequest (take p words)
goes_before words rules manifest p asks = (drop p words, rules, manifest, subst (λ (l : List Word). AsksToTransform l rules manifest) (sym (take-append-drop p words)) asks)

-- ---- the first word that goes wrong

-- a word stands there that isn't as it should be
pub word_wrong : (words : List Word) (place : ℕ) (word : Word) (why : Why) → Fit 0 (take place words) → slice_get words place ≡ Some word → (Fits place word → ⊥) → why ≡ why_at place → IsWordFault words place why
word_wrong words place word why h at none is =
    let lt : place < length words = slice_get_within words place word at in
    let stops : BeginsRequest (take (place + 1) words) → ⊥ = λ g.
    let e : place + 1 ≡ suc place = omega arith in
    let z : 0 + place ≡ place = omega arith in
    none (subst (λ (n : ℕ). Fits n word) z (here 0 words place word (subst (λ (n : ℕ). Fit 0 (take n words)) e (fit_on (take (place + 1) words) g)) at)) in
    record {
      within = omega (arith, lt);
      begins = goes_on (take place words) h;
      stops = λ lt. stops;
      none = λ rules manifest asks. stops (goes_before words rules manifest (place + 1) asks);
      cause = is ∙ sym (ap (λ (t : Bool). cond t Missing (why_at place)) (other place (length words) lt));
    }
  where
    other : (m n : ℕ) → m < n → (m == n) ≡ false
    other m n lt = elim (cases_Bool (m == n)) [ inl same ↦ absurd (omega (arith, eqb-true m n same, lt)) | inr apart ↦ apart ]

-- no word stands there
pub word_missing : (words : List Word) (place : ℕ) (why : Why) → place < 5 → place ≤ length words → length words ≤ place → Fit 0 (take place words) → why ≡ Missing → IsWordFault words place why
word_missing words place why few within end h is = record {
  within = within;
  begins = goes_on (take place words) h;
  stops = λ lt. absurd (omega (arith, lt, end));
  none = λ rules manifest asks. absurd (omega (arith, ap length asks.form, end, few));
  cause = is ∙ sym (ap (λ (t : Bool). cond t Missing (why_at place)) (eq-eqb place (length words) (let e : place ≡ length words = omega (arith, within, end) in e)));
}

-- the same, as it is told
pub wrong_word : (words : List Word) (place : ℕ) (cause : Why) (usage : Usage) → place < 5 → place ≤ length words → Fit 0 (take place words) → cause ≡ why_at place → IsWrong words place (Fits place) cause usage → IsWordFault words usage.place usage.why
wrong_word words place cause usage few within h is wrong = subst (λ (n : ℕ). IsWordFault words n usage.why) (sym wrong.0) (go wrong.1)
  where
    go : ((length words ≤ place) × (usage.why ≡ Missing)) ⊎ ((word : Word) × (slice_get words place ≡ Some word) × (Fits place word → ⊥) × (usage.why ≡ cause)) → IsWordFault words place usage.why
    go (inl w) = word_missing words place usage.why few within w.0 h w.1
    go (inr w) = word_wrong words place w.0 usage.why h w.1 w.2 (w.3 ∙ is)

-- a further word stands behind the last
pub word_extra : (words : List Word) → 5 < length words → Fit 0 (take 5 words) → IsWordFault words 5 Extra
word_extra words lt h = word_wrong words 5 (get_or words 5 []) Extra h (slice_get-get_or words 5 [] lt) (λ f. f) refl

-- the same, unless memory ran out
pub if_wrong : (X Y : Type 0) (words : List Word) (place : ℕ) (cause : Why) (e : Or Usage) → place < 5 → place ≤ length words → Fit 0 (take place words) → cause ≡ why_at place
    → IfBad {X = X} (Err e) (IsWrong words place (Fits place) cause) → IfBad {X = Y} (Err e) (λ usage. IsWordFault words usage.place usage.why)
if_wrong X Y words place cause (Bad usage) few within h is wrong = wrong_word words place cause usage few within h is wrong
if_wrong X Y words place cause OutOfMemory few within h is wrong = tt

-- ---- the words that stand

pub fit_none : (words : List Word) → Fit 0 (take 0 words)
fit_none [] = tt
fit_none (w ∷ words) = tt

module _ (words : List Word) (name : slice_get words 0 ≡ Some (codes "mogrify")) where
  pub fit_name : Fit 0 (take 1 words)
  fit_name = one_more words 0 (codes "mogrify") (fit_none words) name refl

  module _ (option : slice_get words 1 ≡ Some (codes "-d")) where
    pub fit_option : Fit 0 (take 2 words)
    fit_option = one_more words 1 (codes "-d") fit_name option refl

    pub fit_folder : 2 < length words → Fit 0 (take 3 words)
    fit_folder lt = one_more words 2 (get_or words 2 []) fit_option (slice_get-get_or words 2 [] lt) tt

    pub fit_rules : (rules : Word) → slice_get words 3 ≡ Some rules → IsPath rules → Fit 0 (take 4 words)
    fit_rules rules at path = one_more words 3 rules (fit_folder (omega (arith, slice_get_within words 3 rules at))) at path

    pub fit_manifest : (rules manifest : Word) → slice_get words 3 ≡ Some rules → IsPath rules → slice_get words 4 ≡ Some manifest → IsPath manifest → Fit 0 (take 5 words)
    fit_manifest rules manifest at path there is_path = one_more words 4 manifest (fit_rules rules at path) there is_path

-- ---- all words

pub asks : (words : List Word) (rules manifest : Word) → slice_get words 0 ≡ Some (codes "mogrify") → slice_get words 1 ≡ Some (codes "-d") → slice_get words 3 ≡ Some rules → IsPath rules → slice_get words 4 ≡ Some manifest → IsPath manifest → length words ≤ 5 → AsksToTransform words rules manifest
asks [] rules manifest n d r is_r m is_m le = absurd (none-some _ n)
asks (b ∷ []) rules manifest n d r is_r m is_m le = absurd (none-some _ d)
asks (b ∷ c ∷ []) rules manifest n d r is_r m is_m le = absurd (none-some _ r)
asks (b ∷ c ∷ e ∷ []) rules manifest n d r is_r m is_m le = absurd (none-some _ r)
asks (b ∷ c ∷ e ∷ f ∷ []) rules manifest n d r is_r m is_m le = absurd (none-some _ m)
asks (b ∷ c ∷ e ∷ f ∷ g ∷ []) rules manifest n d r is_r m is_m le = record {
  folder = e;
  form = λ i. same b (codes "mogrify") n i ∷ same c (codes "-d") d i ∷ e ∷ same f rules r i ∷ same g manifest m i ∷ [];
  rules_path = is_r;
  manifest_path = is_m;
}
  where
    same : (x w : Word) → (let o : Option Word = Some x in o) ≡ Some w → x ≡ w
    same x w e = cc
asks (b ∷ c ∷ e ∷ f ∷ g ∷ h ∷ words) rules manifest n d r is_r m is_m le = absurd (omega (arith, le))
