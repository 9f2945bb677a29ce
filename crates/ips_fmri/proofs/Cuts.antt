-- A text that is cut at a character, as the characters on both sides.
use Rattle.std.proofs.Common.{◌≡◌, ℕ, ◌<◌, eqb, List, [], ◌∷◌, ◌++◌, length, take, drop, get_or, Option, Some, None, sym, ap, subst, ◌∙◌, arith}
use Rattle.std.specs.Prelude.{IfNone, IfSome}
use denote.Ref.{Bor}
use Rattle.std.specs.Str.{chars, encode_utf8_all, IsUtf8, NonePass, NoCharPasses}
use Rattle.std.specs.Str.Pattern.{HasCharAt}
use Rattle.std.proofs.lemmas.Bool.{eqb-false}
use Rattle.std.proofs.lemmas.List.{take-append-drop, length-drop, nil_from_length}
use Rattle.std.proofs.lemmas.Str.{chars-nil, encodes-chars, chars_from_encodes, chars-append, chars_past_char, IsUtf8-take, IsUtf8-drop, IsCharBoundary-before_ascii}
use Rattle.std.proofs.lemmas.Str.Pattern.{IsSplitOnceResult, drop_at_char}
use Rattle.ips_fmri.specs.Matching.{HasNone}

none_passes : (mark : ℕ) (cs : List ℕ) → NonePass (λ d. eqb d mark) cs → HasNone mark cs
none_passes mark [] h = tt
none_passes mark (c ∷ cs) h = (eqb-false c mark h.0, none_passes mark cs h.1)

pub no_char : (mark : ℕ) (text : List ℕ) → IsUtf8 text → NoCharPasses (λ d. eqb d mark) text → HasNone mark (chars text)
no_char mark text utf8 h = subst (HasNone mark) (chars_from_encodes h.0 text utf8 h.1) (none_passes mark h.0 h.2)

pub split_none : (mark : ℕ) (text : List ℕ) (r : Option (Bor (List ℕ) × Bor (List ℕ))) → IsUtf8 text → IsSplitOnceResult mark text r → IfNone r (HasNone mark (chars text))
split_none mark text None utf8 h = no_char mark text utf8 h
split_none mark text (Some x) utf8 h = tt

inside : (text : List ℕ) (i mark : ℕ) (rest : List ℕ) → drop i text ≡ mark ∷ rest → i < length text
inside text i mark rest e = omega (arith, ap length e, length-drop i text)

pub split_some : (mark : ℕ) (text : List ℕ) (r : Option (Bor (List ℕ) × Bor (List ℕ))) → mark < 128 → IsUtf8 text → IsSplitOnceResult mark text r → IfSome r (λ x. HasNone mark (chars x.0.now) × (chars text ≡ chars x.0.now ++ (mark ∷ chars x.1.now)))
split_some mark text None ascii utf8 h = tt
split_some mark text (Some x) ascii utf8 h =
    let i : ℕ = h.0 in
    let j : ℕ = h.1 in
    let at : HasCharAt mark text i j = h.2.1 in
    let within = inside text i mark (drop j text) (drop_at_char mark text i j at ascii) in
    let low : get_or text i 0 < 128 = omega (arith, at.byte ascii) in
    let front = IsUtf8-take text i utf8 (IsCharBoundary-before_ascii text i within low) in
    let back = IsUtf8-drop text i utf8 (IsCharBoundary-before_ascii text i within low) in
    let cut : chars text ≡ chars (take i text) ++ (mark ∷ chars (drop j text))
    = ap chars (sym (take-append-drop i text)) ∙ chars-append (take i text) (drop i text) front ∙ ap (λ (l : List ℕ). chars (take i text) ++ l) (chars_past_char (drop i text) (drop j text) mark back at.split) in
    let none = no_char mark (take i text) front h.2.0 in
    rw (h.3, h.4) (none, cut)

-- a text without characters is empty
pub nothing_written : (text : List ℕ) → IsUtf8 text → chars text ≡ [] → text ≡ []
nothing_written text utf8 e = sym (encodes-chars text utf8) ∙ ap encode_utf8_all e

pub nothing_read : (text : List ℕ) → length text ≡ 0 → chars text ≡ []
nothing_read text e = ap chars (nil_from_length text e) ∙ chars-nil
