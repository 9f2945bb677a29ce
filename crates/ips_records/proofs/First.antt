-- The first line of a text.
use denote.Ref.{Bor}
use Rattle.std.proofs.Common.{◌≡◌, ℕ, ◌<◌, Bool, true, false, IsFalse, cond, ◌||◌, eqb, List, [], ◌∷◌, ◌++◌, length, Option, Some, None, IfSome, refl, sym, ◌∙◌, ap, arith}
use Rattle.std.proofs.lemmas.Bool.{true≢false}
use Rattle.std.specs.List.{onto_first}
use Rattle.ips_text.specs.Cut.{has_byte, IsCut}
use Rattle.ips_records.specs.Lines.{ended, lines_in}
use Rattle.ips_text.proofs.Cuts.{not_cut}

-- a line without newlines ends at the newline behind it
pub line_ends : (line rest : List ℕ) → has_byte 10 line ≡ false → lines_in (line ++ 10 ∷ rest) ≡ ended line ∷ lines_in rest
line_ends [] rest none = refl
line_ends (b ∷ line) rest none = go (eqb b 10) none (line_ends line rest)
  where
    go : (here : Bool) → (here || has_byte 10 line) ≡ false → (has_byte 10 line ≡ false → lines_in (line ++ 10 ∷ rest) ≡ ended line ∷ lines_in rest)
        → cond here ((b ∷ []) ∷ lines_in (line ++ 10 ∷ rest)) (onto_first b (lines_in (line ++ 10 ∷ rest))) ≡ ended (b ∷ line) ∷ lines_in rest
    go true none later = absurd (true≢false none)
    go false none later = ap (onto_first b) (later none)

-- the lines of bytes that are cut at a newline
pub cut_ends : (bytes line rest : List ℕ) → IsCut 10 bytes line rest → lines_in bytes ≡ ended line ∷ lines_in rest
cut_ends bytes line rest c = ap lines_in c.parts ∙ line_ends line rest c.first_lacks

pub first_some : (bytes : List ℕ) (found : Option (Bor (List ℕ) × Bor (List ℕ))) → IfSome found (λ x. IsCut 10 bytes x.0.now x.1.now) → IfSome found (λ x. lines_in bytes ≡ ended x.0.now ∷ lines_in x.1.now)
first_some bytes None c = tt
first_some bytes (Some x) c = cut_ends bytes x.0.now x.1.now c

pub first_clear : (bytes : List ℕ) (found : Option (Bor (List ℕ) × Bor (List ℕ))) → IfSome found (λ x. IsCut 10 bytes x.0.now x.1.now) → IfSome found (λ x. IsFalse (has_byte 10 x.0.now))
first_clear bytes None c = tt
first_clear bytes (Some x) c = c.first_lacks

-- bytes without a newline are one line, which isn't ended
unended : (b : ℕ) (bytes : List ℕ) → has_byte 10 (b ∷ bytes) ≡ false → lines_in (b ∷ bytes) ≡ (b ∷ bytes) ∷ []
unended b [] none = go (eqb b 10)
  where
    go : (here : Bool) → cond here ((b ∷ []) ∷ []) ((b ∷ []) ∷ []) ≡ (b ∷ []) ∷ []
    go true = refl
    go false = refl
unended b (c ∷ bytes) none = go (eqb b 10) none (unended c bytes)
  where
    go : (here : Bool) → (here || has_byte 10 (c ∷ bytes)) ≡ false → (has_byte 10 (c ∷ bytes) ≡ false → lines_in (c ∷ bytes) ≡ (c ∷ bytes) ∷ [])
        → cond here ((b ∷ []) ∷ lines_in (c ∷ bytes)) (onto_first b (lines_in (c ∷ bytes))) ≡ (b ∷ c ∷ bytes) ∷ []
    go true none later = absurd (true≢false none)
    go false none later = ap (onto_first b) (later none)

first_line : (one line : List ℕ) (ones others : List (List ℕ)) → one ∷ ones ≡ line ∷ others → one ≡ line
first_line one line ones others e = cc

-- so no ended line stands first in them
pub none_ended : (bytes line : List ℕ) (others : List (List ℕ)) → has_byte 10 bytes ≡ false → lines_in bytes ≡ ended line ∷ others → ⊥
none_ended [] line others none e = cc
none_ended (b ∷ bytes) line others none e = not_cut 10 (b ∷ bytes) line [] none (first_line (b ∷ bytes) (ended line) [] others (sym (unended b bytes none) ∙ e))

some_lines : (b : ℕ) (here : Bool) (lines : List (List ℕ)) → cond here ((b ∷ []) ∷ lines) (onto_first b lines) ≡ [] → ⊥
some_lines b true lines e = cc
some_lines b false [] e = cc
some_lines b false (line ∷ lines) e = cc

-- a text has a line, where it isn't empty
pub lines_some : (bytes : List ℕ) → 0 < length bytes → lines_in bytes ≡ [] → ⊥
lines_some [] some e = absurd (omega arith)
lines_some (b ∷ bytes) some e = some_lines b (eqb b 10) (lines_in bytes) e
