-- Whether a pattern with stars matches a text is decided.
use Rattle.std.proofs.Common.{◌≡◌, ◌⊎◌, inl, inr, ℕ, Bool, List, [], ◌∷◌, ◌++◌, refl, sym, ap, subst}
use Rattle.ips_fmri.specs.Pattern.{MatchesCharacter, MatchesBy}
use Rattle.ips_grammar.proofs.Decided.{Decided, with_it, both, either, unless, same_number, same_bytes, is_true}

-- an end of the text has the property
abbrev Split : (List ℕ → Type 0) → List ℕ → Type 0
Split P text = (some : List ℕ) × (rest : List ℕ) × (text ≡ some ++ rest) × P rest

split_none : (P : List ℕ → Type 0) (some rest : List ℕ) → [] ≡ some ++ rest → P rest → P []
split_none P [] rest e p = subst P (sym e) p
split_none P (c ∷ some) rest e p = absurd cc

split_next : (P : List ℕ → Type 0) (b : ℕ) (text some rest : List ℕ) → b ∷ text ≡ some ++ rest → P rest → P (b ∷ text) ⊎ Split P text
split_next P b text [] rest e p = inl (subst P (sym e) p)
split_next P b text (c ∷ some) rest e p = inr (some, rest, cc, p)

split_on : (P : List ℕ → Type 0) (b : ℕ) (text : List ℕ) → P (b ∷ text) ⊎ Split P text → Split P (b ∷ text)
split_on P b text (inl p) = ([], b ∷ text, refl, p)
split_on P b text (inr s) = (b ∷ s.0, s.1, ap (λ (l : List ℕ). b ∷ l) s.2, s.3)

split : (P : List ℕ → Type 0) → ((rest : List ℕ) → Decided (P rest)) → (text : List ℕ) → Decided (Split P text)
split P decide [] = with_it (P []) (Split P []) (λ p. ([], [], refl, p)) (λ s. split_none P s.0 s.1 s.2 s.3) (decide [])
split P decide (b ∷ text) =
    with_it (P (b ∷ text) ⊎ Split P text) (Split P (b ∷ text)) (split_on P b text) (λ s. split_next P b text s.0 s.1 s.2 s.3) (either (decide (b ∷ text)) (split P decide text))

-- a character that meets this one, and behind it an end that has the property
abbrev One : Bool → ℕ → (List ℕ → Type 0) → List ℕ → Type 0
One marks c P text = (one : ℕ) × (rest : List ℕ) × (text ≡ one ∷ rest) × MatchesCharacter marks c one × P rest

nothing : (one : ℕ) (rest : List ℕ) → [] ≡ one ∷ rest → ⊥
nothing one rest e = absurd cc

one_first : (marks : Bool) (c d : ℕ) (P : List ℕ → Type 0) (text : List ℕ) (one : ℕ) (rest : List ℕ) → d ∷ text ≡ one ∷ rest → MatchesCharacter marks c one → P rest → MatchesCharacter marks c d × P text
one_first marks c d P text one rest e meets p =
    let first : d ≡ one = cc in
    let behind : text ≡ rest = cc in
    (subst (MatchesCharacter marks c) (sym first) meets, subst P (sym behind) p)

one : (marks : Bool) (c : ℕ) (P : List ℕ → Type 0) → ((rest : List ℕ) → Decided (P rest)) → (text : List ℕ) → Decided (One marks c P text)
one marks c P decide [] = inr (λ w. nothing w.0 w.1 w.2)
one marks c P decide (d ∷ text) =
    with_it (MatchesCharacter marks c d × P text) (One marks c P (d ∷ text)) (λ p. (d, text, refl, p.0, p.1)) (λ w. one_first marks c d P text w.0 w.1 w.2 w.3 w.4)
    (both (either (both (is_true marks) (same_number c 63)) (same_number c d)) (decide text))

pub matches : (marks : Bool) (pattern text : List ℕ) → Decided (MatchesBy marks pattern text)
matches marks [] text = same_bytes text []
matches marks (c ∷ pattern) text =
    either (both (same_number c 42) (split (MatchesBy marks pattern) (matches marks pattern) text))
    (both (unless (same_number c 42)) (one marks c (MatchesBy marks pattern) (matches marks pattern) text))
