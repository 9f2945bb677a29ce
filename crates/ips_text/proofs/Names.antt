-- How long quoted bytes are.
use Rattle.std.proofs.Common.{◌≡◌, ℕ, ◌+◌, ◌<◌, false, List, [], ◌∷◌, ◌++◌, length, take, get_or, ap, ◌∙◌, arith}
use Rattle.std.proofs.lemmas.List.{length-append, take_more, append-nil}
use Rattle.std.proofs.lemmas.List.Folds.{length-flat_map-take}
use Rattle.std.proofs.lemmas.Grind.{flat_map-append}
use Rattle.std.proofs.lemmas.Bool.{lt-leb}
use Rattle.ips_text.specs.Quote.{quoted, quoted_byte, fits_name}

-- the length up to a place, and what the byte there adds
pub quoted_more : (bytes : List ℕ) (i : ℕ) → i < length bytes → length (quoted (take (i + 1) bytes)) ≡ length (quoted (take i bytes)) + length (quoted_byte (get_or bytes i 0))
unfolding quoted
quoted_more bytes i lt =
    ap (λ (l : List ℕ). length (quoted l)) (take_more bytes i 0 lt)
    ∙ ap (λ (l : List ℕ). length l) (flat_map-append quoted_byte (take i bytes) (get_or bytes i 0 ∷ []))
    ∙ length-append (quoted (take i bytes)) (quoted_byte (get_or bytes i 0) ++ [])
    ∙ ap (λ (l : List ℕ). length (quoted (take i bytes)) + length l) (append-nil (quoted_byte (get_or bytes i 0)))

-- a byte for which there is no room: the whole is too long
pub no_room : (bytes : List ℕ) (i room size b : ℕ) → i < length bytes → length (quoted (take i bytes)) + room ≡ 255 → size ≡ length (quoted_byte b) → b ≡ get_or bytes i 0 → room < size → fits_name bytes ≡ false
unfolding quoted
no_room bytes i room size b lt so_far s is over =
    lt-leb (length (quoted bytes)) 255 (omega (arith, so_far, s, ap (λ (x : ℕ). length (quoted_byte x)) is, length-flat_map-take quoted_byte bytes i 0 lt))
