-- Readers of words that stop at the first word that nothing continues.
use Rattle.std.proofs.Common.{◌≡◌, ◌≢◌, ℕ, suc, List, [], ◌∷◌, ◌++◌, length, Result, Ok, Err, refl, sym, ◌∙◌, ap, subst}
use Rattle.ips_text.specs.declared.refusal.Stop.{Stop}
use Rattle.ips_text.specs.Reading.{◌>>=◌}
use Rattle.ips_syntax.specs.declared.table.Why.{Why}
use Rattle.ips_syntax.specs.declared.table.Why.TheVariants.{Missing}
use Rattle.ips_syntax.specs.Reading.{stop}

-- words
abbrev pub Words : Type 0
Words = List (List ℕ)

-- a reader of words
abbrev pub Reads : Type 0 → Type 0
Reads A = Words → Result A (Stop Why)

-- it reads something
abbrev pub Completes : {A : Type 0} → Reads A → Type 0
Completes {A} f = (more : Words) × (x : A) × (f more ≡ Ok x)

-- it reads nothing of these words
abbrev pub Refuses : {A : Type 0} → Reads A → Words → Type 0
Refuses {A} f words = (x : A) → f words ≡ Ok x → ⊥

-- no words that begin so are read
abbrev pub StopsAt : {A : Type 0} → Reads A → Words → Words → Why → Type 0
StopsAt f front [] why = why ≡ Missing
StopsAt f front (word ∷ behind) why = ((more : Words) → Refuses f (front ++ word ∷ more)) × (why ≢ Missing)

-- the words are at fault at the first that nothing continues
pub record IsFault {A : Type 0} (f : Reads A) (words : Words) (s : Stop Why) : Type 0 where
  pub front : Words
  pub rest : Words
  pub cut : words ≡ front ++ rest
  pub left : s.left ≡ length rest
  pub begins : Completes (λ more. f (front ++ more))
  pub stops : StopsAt f front rest s.kind

-- of a fault this is so
abbrev pub IfFault : {A : Type 0} → Result A (Stop Why) → (Stop Why → Type 0) → Type 0
IfFault (Ok x) P = Unit {0}
IfFault (Err s) P = P s

-- at the first word
pub at_first : {A : Type 0} (f : Reads A) (word : List ℕ) (behind : Words) (s : Stop Why) → s.left ≡ suc (length behind) → s.kind ≢ Missing → Completes f → ((more : Words) → Refuses f (word ∷ more)) → IsFault f (word ∷ behind) s
at_first f word behind s left kind complete refuses = record { front = []; rest = word ∷ behind; cut = refl; left = left; begins = complete; stops = (refuses, kind) }

-- behind the last word
pub at_end : {A : Type 0} (f : Reads A) (s : Stop Why) → s.left ≡ 0 → s.kind ≡ Missing → Completes f → IsFault f [] s
at_end f s left kind complete = record { front = []; rest = []; cut = refl; left = left; begins = complete; stops = kind }

-- behind a word
pub behind_word : {A : Type 0} (f g : Reads A) (word : List ℕ) (words : Words) (s : Stop Why) → ((us : Words) → f (word ∷ us) ≡ g us) → IsFault g words s → IsFault f (word ∷ words) s
behind_word f g word words s same h = record {
  front = word ∷ h.front;
  rest = h.rest;
  cut = ap (λ (l : Words). word ∷ l) h.cut;
  left = h.left;
  begins = (h.begins.0, h.begins.1, same (h.front ++ h.begins.0) ∙ h.begins.2);
  stops = go h.rest h.stops;
}
  where
    go : (rest : Words) → StopsAt g h.front rest s.kind → StopsAt f (word ∷ h.front) rest s.kind
    go [] stops = stops
    go (w ∷ behind) stops = (λ more x e. stops.0 more x (sym (same (h.front ++ w ∷ more)) ∙ e), stops.1)

-- the same from a word on
pub from_word : {A : Type 0} (f g : Reads A) (word : List ℕ) (words : Words) (s : Stop Why) → ((us : Words) → f (word ∷ us) ≡ g (word ∷ us)) → Completes f → IsFault g (word ∷ words) s → IsFault f (word ∷ words) s
from_word f g word words s same complete h = go h.front h.rest h.cut h.left h.begins h.stops
  where
    there : (w : List ℕ) (us : Words) → word ≡ w → f (w ∷ us) ≡ g (w ∷ us)
    there w us e = subst (λ (v : List ℕ). f (v ∷ us) ≡ g (v ∷ us)) e (same us)

    stopping_at : (w : List ℕ) (front rest : Words) → word ≡ w → StopsAt g (w ∷ front) rest s.kind → StopsAt f (w ∷ front) rest s.kind
    stopping_at w front [] e stops = stops
    stopping_at w front (v ∷ behind) e stops = (λ more x is. stops.0 more x (sym (there w (front ++ v ∷ more) e) ∙ is), stops.1)

    stopping_first : (rest : Words) → word ∷ words ≡ rest → StopsAt g [] rest s.kind → StopsAt f [] rest s.kind
    stopping_first [] e stops = stops
    stopping_first (v ∷ behind) e stops = let is : word ≡ v = cc in (λ more x found. stops.0 more x (sym (there v more is) ∙ found), stops.1)

    go : (front rest : Words) → word ∷ words ≡ front ++ rest → s.left ≡ length rest → Completes (λ more. g (front ++ more)) → StopsAt g front rest s.kind → IsFault f (word ∷ words) s
    go [] rest cut left begins stops = record { front = []; rest = rest; cut = cut; left = left; begins = complete; stops = stopping_first rest cut stops }
    go (w ∷ front) rest cut left begins stops =
        let is : word ≡ w = cc in
        record { front = w ∷ front; rest = rest; cut = cut; left = left; begins = (begins.0, begins.1, there w (front ++ begins.0) is ∙ begins.2); stops = stopping_at w front rest is stops }

-- what is made of what is read
pub of_made : {A B : Type 0} (f : Reads A) (make : A → B) (words : Words) (s : Stop Why) → IsFault f words s → IsFault (λ us. f us >>= λ x. Ok (make x)) words s
of_made {A} {B} f make words s h = record {
  front = h.front;
  rest = h.rest;
  cut = h.cut;
  left = h.left;
  begins = (h.begins.0, make h.begins.1, ap (λ (r : Result A (Stop Why)). r >>= λ x. Ok (make x)) h.begins.2);
  stops = go h.rest h.stops;
}
  where
    read : (r : Result A (Stop Why)) (y : B) → (r >>= λ x. Ok (make x)) ≡ Ok y → (x : A) × (r ≡ Ok x)
    read (Ok x) y e = (x, refl)
    read (Err e') y e = absurd cc

    go : (rest : Words) → StopsAt f h.front rest s.kind → StopsAt (λ us. f us >>= λ x. Ok (make x)) h.front rest s.kind
    go [] stops = stops
    go (w ∷ behind) stops = (λ more y e. let got = read (f (h.front ++ w ∷ more)) y e in stops.0 more got.0 got.1, stops.1)

-- a fault of a result that was found otherwise
pub fault_of : {A : Type 0} (r q : Result A (Stop Why)) (P : Stop Why → Type 0) → r ≡ q → IfFault q P → IfFault r P
fault_of {A} r q P e h = subst (λ (x : Result A (Stop Why)). IfFault x P) (sym e) h

-- a fact of a fault from another
pub if_fault : {A : Type 0} (r : Result A (Stop Why)) (P Q : Stop Why → Type 0) → ((s : Stop Why) → P s → Q s) → IfFault r P → IfFault r Q
if_fault (Ok x) P Q f h = tt
if_fault (Err s) P Q f h = f s h

-- the words are at fault at the first that nothing continues, where they are at fault
abbrev pub Judged : {A : Type 0} → Reads A → Words → Type 0
Judged f words = IfFault (f words) (IsFault f words)

-- the first word is refused
pub refused_at : {A : Type 0} (f : Reads A) (word : List ℕ) (words : Words) (why : Why) → why ≢ Missing → ((us : Words) → f (word ∷ us) ≡ Err (stop why (suc (length us)))) → Completes f → Judged f (word ∷ words)
refused_at {A} f word words why kind reads complete =
    fault_of (f (word ∷ words)) (Err (stop why (suc (length words)))) (IsFault f (word ∷ words)) (reads words)
    (at_first f word words (stop why (suc (length words))) refl kind complete (λ more x is. let e : Err (stop why (suc (length more))) ≡ Ok x = sym (reads more) ∙ is in absurd cc))

-- a word is missing
pub lacking_at : {A : Type 0} (f : Reads A) → f [] ≡ Err (stop Missing 0) → Completes f → Judged f []
lacking_at f reads complete = fault_of (f []) (Err (stop Missing 0)) (IsFault f []) reads (at_end f (stop Missing 0) refl refl complete)

-- behind the first word it is read so
pub goes_on : {A : Type 0} (f g : Reads A) (word : List ℕ) (words : Words) → ((us : Words) → f (word ∷ us) ≡ g us) → Judged g words → Judged f (word ∷ words)
goes_on f g word words same h = fault_of (f (word ∷ words)) (g words) (IsFault f (word ∷ words)) (same words) (if_fault (g words) (IsFault g words) (IsFault f (word ∷ words)) (λ s. behind_word f g word words s same) h)

-- from the first word on it is read so
pub reads_as : {A : Type 0} (f g : Reads A) (word : List ℕ) (words : Words) → ((us : Words) → f (word ∷ us) ≡ g (word ∷ us)) → Completes f → Judged g (word ∷ words) → Judged f (word ∷ words)
reads_as f g word words same complete h =
    fault_of (f (word ∷ words)) (g (word ∷ words)) (IsFault f (word ∷ words)) (same words) (if_fault (g (word ∷ words)) (IsFault g (word ∷ words)) (IsFault f (word ∷ words)) (λ s. from_word f g word words s same complete) h)

-- what is read is no fault
pub no_fault : {A : Type 0} (f : Reads A) (words : Words) (x : A) → f words ≡ Ok x → Judged f words
no_fault f words x e = fault_of (f words) (Ok x) (IsFault f words) e tt

-- what is made of what is read
pub made_judged : {A B : Type 0} (f : Reads A) (make : A → B) (words : Words) → Judged f words → Judged (λ us. f us >>= λ x. Ok (make x)) words
made_judged {A} {B} f make words h = go (f words) h
  where
    go : (r : Result A (Stop Why)) → IfFault r (IsFault f words) → IfFault (r >>= λ x. Ok (make x)) (IsFault (λ us. f us >>= λ x. Ok (make x)) words)
    go (Ok x) h = tt
    go (Err s) h = of_made f make words s h
