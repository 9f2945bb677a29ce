-- Texts that write FMRIs, one after the other.
use Rattle.std.proofs.Common.{◌≡◌, ◌∙◌, ℕ, List, [], ◌∷◌, ◌++◌, refl, sym, ap, subst, append_assoc}
use Rattle.std.proofs.lemmas.List.{append-nil}
use Rattle.ips_fmri.specs.declared.fmri.Fmri.{Fmri}
use Rattle.ips_fmri.specs.Fmri.{IsFmri, WritesFmri}
use Rattle.ips_fmri.proofs.Versions.{written_one}
use Rattle.ips_fmri.proofs.Readings.{judges_fmri}
use Rattle.ips_depend.specs.Asking.{AreWritten}

pub written_once : (texts : List (List ℕ)) (fs gs : List Fmri) → AreWritten texts fs → AreWritten texts gs → fs ≡ gs
written_once [] [] [] a b = refl
written_once [] [] (g ∷ gs) a b = absurd b
written_once [] (f ∷ fs) gs a b = absurd a
written_once (t ∷ texts) [] gs a b = absurd a
written_once (t ∷ texts) (f ∷ fs) [] a b = absurd b
written_once (t ∷ texts) (f ∷ fs) (g ∷ gs) a b =
    let first = written_one judges_fmri t f g (a.0, a.1) (b.0, b.1) in
    let rest = written_once texts fs gs a.2 b.2 in
    ap (λ (x : Fmri). x ∷ fs) first ∙ ap (λ (l : List Fmri). g ∷ l) rest

written_more : (texts : List (List ℕ)) (fs : List Fmri) (t : List ℕ) (f : Fmri) → AreWritten texts fs → IsFmri f → WritesFmri f t → AreWritten (texts ++ t ∷ []) (fs ++ f ∷ [])
written_more [] [] t f w is writes = (is, writes, tt)
written_more [] (g ∷ fs) t f w is writes = absurd w
written_more (u ∷ texts) [] t f w is writes = absurd w
written_more (u ∷ texts) (g ∷ fs) t f w is writes = (w.0, w.1, written_more texts fs t f w.2 is writes)

written_within : (front rest : List (List ℕ)) (t : List ℕ) (gs : List Fmri) → AreWritten (front ++ t ∷ rest) gs → (f : Fmri) × IsFmri f × WritesFmri f t
written_within [] rest t [] w = absurd w
written_within [] rest t (g ∷ gs) w = (g, w.0, w.1)
written_within (u ∷ front) rest t [] w = absurd w
written_within (u ∷ front) rest t (g ∷ gs) w = written_within front rest t gs w.2

-- ---- on the way along the texts

-- the texts that stand before those that are left write the FMRIs
pub record Passed (texts left : List (List ℕ)) (fs : List Fmri) : Type 0 where
  pub front : List (List ℕ)
  pub parts : texts ≡ front ++ left
  pub written : AreWritten front fs

pub none_passed : (texts : List (List ℕ)) → Passed texts texts []
none_passed texts = record { front = []; parts = refl; written = tt }

-- one more text is read
pub read_more : (texts left rest : List (List ℕ)) (fs : List Fmri) (t : List ℕ) (f : Fmri) → Passed texts left fs → left ≡ t ∷ rest → IsFmri f × WritesFmri f t → Passed texts rest (fs ++ f ∷ [])
read_more texts left rest fs t f passed next reads = record {
  front = passed.front ++ t ∷ [];
  parts = passed.parts ∙ ap (λ (l : List (List ℕ)). passed.front ++ l) next ∙ sym (append_assoc passed.front (t ∷ []) rest);
  written = written_more passed.front fs t f passed.written reads.0 reads.1;
}

-- a text that writes no FMRI
pub none_read : (texts left rest : List (List ℕ)) (fs : List Fmri) (t : List ℕ) → Passed texts left fs → left ≡ t ∷ rest → ((f : Fmri) → IsFmri f → WritesFmri f t → ⊥) → (gs : List Fmri) → AreWritten texts gs → ⊥
none_read texts left rest fs t passed next reads gs w =
    let here = passed.parts ∙ ap (λ (l : List (List ℕ)). passed.front ++ l) next in
    let at = written_within passed.front rest t gs (subst (λ (l : List (List ℕ)). AreWritten l gs) here w) in
    reads at.0 at.1 at.2

-- all texts are read
pub all_read : (texts left : List (List ℕ)) (fs : List Fmri) → Passed texts left fs → left ≡ [] → AreWritten texts fs
all_read texts left fs passed end =
    let here = passed.parts ∙ ap (λ (l : List (List ℕ)). passed.front ++ l) end ∙ append-nil passed.front in
    subst (λ (l : List (List ℕ)). AreWritten l fs) (sym here) passed.written
