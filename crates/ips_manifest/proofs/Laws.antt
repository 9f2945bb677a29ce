-- The canonical text of a manifest reads as the manifest, and no two have one.
use Rattle.std.proofs.Common.{◌≡◌, ℕ, ◌+◌, Bool, true, cond, not, eqb, List, [], ◌∷◌, ◌++◌, Option, None, refl, sym, ap, subst, ◌∙◌, append_assoc}
use Rattle.std.specs.Prelude.{map}
use Rattle.std.specs.List.{list_all, AllByRecursion}
use Rattle.std.proofs.lemmas.Bool.{and_parts}
use Rattle.ips_action.specs.Action.{Fields, IsAction, line_text}
use Rattle.ips_action.specs.Meaning.{Means}
use Rattle.ips_manifest.specs.declared.line.Line.{Line}
use Rattle.ips_manifest.specs.Logical.{into_first, physical_lines, is_skipped, Logical, unreadable_at, continued, logical_lines}
use Rattle.ips_manifest.specs.Manifest.{LineMeans, LinesMean, line_at, manifest_text, renumbered, StandsOnLine}
use Rattle.ips_manifest.proofs.Joins.{read_none}
use Rattle.ips_manifest.proofs.Gone.{action_means}
use Rattle.ips_manifest.proofs.Endings.{line_ends, line_kept}
use Rattle.ips_text.proofs.Truths.{not_true}

abbrev other : ℕ → Bool
other b = not (eqb b 10)

-- a line without a newline, up to the newline behind it
split_line : (line rest : List ℕ) → list_all other line ≡ true → physical_lines (line ++ (10 ∷ rest)) ≡ line ∷ physical_lines rest
split_line [] rest h = refl
split_line (b ∷ line) rest h =
    let p = and_parts (other b) (list_all other line) h in
    let first = not_true (eqb b 10) p.0 in
    let more = split_line line rest p.1 in
    ap (λ (t : Bool). cond t ([] ∷ physical_lines (line ++ (10 ∷ rest))) (into_first b (physical_lines (line ++ (10 ∷ rest))))) first ∙ ap (into_first b) more

abbrev single : ℕ → Fields → Logical
single number action = record { number = number; text = line_text action; unreadable = None }

split_text : (line : Line) (lines : List Line) → StandsOnLine line → physical_lines (manifest_text (line ∷ lines)) ≡ line_text line.action ∷ physical_lines (manifest_text lines)
split_text line lines h = ap physical_lines (append_assoc (line_text line.action) (10 ∷ []) (manifest_text lines)) ∙ split_line (line_text line.action) (manifest_text lines) h.single

-- the logical lines of a canonical text are the canonical lines
split_logical : (number : ℕ) (line : Line) (lines : List Line) → StandsOnLine line
    → logical_lines number (physical_lines (manifest_text (line ∷ lines))) ≡ single number line.action ∷ logical_lines (number + 1) (physical_lines (manifest_text lines))
split_logical number line lines h =
    let text = line_text line.action in
    let others = physical_lines (manifest_text lines) in
    ap (logical_lines number) (split_text line lines h)
    ∙ ap (λ (t : Bool). cond t (continued number text (logical_lines (number + 1) others)) (record { number = number; text = text; unreadable = unreadable_at number text } ∷ logical_lines (number + 1) others)) (line_ends line.action)
    ∙ ap (λ (u : Option ℕ). record { number = number; text = text; unreadable = u } ∷ logical_lines (number + 1) others) (read_none number text h.text)

abbrev Back : Type 0
Back = (a : Fields) → IsAction a → Means (line_text a) a

pub text_means : Back → (number : ℕ) (lines : List Line) → AllByRecursion StandsOnLine lines → LinesMean (logical_lines number (physical_lines (manifest_text lines))) (renumbered number lines)
text_means back number [] h = refl
text_means back number (line ∷ lines) h =
    let text = line_text line.action in
    let first : LineMeans (single number line.action) (record { number = number; action = line.action } ∷ []) =
    (refl, action_means Means line_at (is_skipped text) (single number line.action) line.action (line_kept line.action) (back line.action h.0.action)) in
    subst (λ (l : List Logical). LinesMean l (renumbered number (line ∷ lines))) (sym (split_logical number line lines h.0))
    (record { number = number; action = line.action } ∷ [], renumbered (number + 1) lines, first, text_means back (number + 1) lines h.1, refl)

abbrev actions : List Line → List Fields
actions lines = map (λ line. line.action) lines

abbrev One : Type 0
One = (a b : Fields) → IsAction a → IsAction b → line_text a ≡ line_text b → a ≡ b

pub text_one : One → (lines others : List Line) → AllByRecursion StandsOnLine lines → AllByRecursion StandsOnLine others → manifest_text lines ≡ manifest_text others → actions lines ≡ actions others
text_one one [] [] h g e = refl
text_one one [] (line ∷ others) h g e = absurd (nothing (ap physical_lines e ∙ split_text line others g.0))
  where
    nothing : (let l : List (List ℕ) = [] in l) ≡ line_text line.action ∷ physical_lines (manifest_text others) → ⊥
    nothing e = absurd cc
text_one one (line ∷ lines) [] h g e = absurd (nothing (sym (split_text line lines h.0) ∙ ap physical_lines e))
  where
    nothing : line_text line.action ∷ physical_lines (manifest_text lines) ≡ [] → ⊥
    nothing e = absurd cc
text_one one (line ∷ lines) (other ∷ others) h g e =
    let split = sym (split_text line lines h.0) ∙ ap physical_lines e ∙ split_text other others g.0 in
    let first : line_text line.action ≡ line_text other.action = cc in
    let same = one line.action other.action h.0.action g.0.action first in
    let cut : (line_text line.action ++ (10 ∷ [])) ++ manifest_text lines ≡ (line_text line.action ++ (10 ∷ [])) ++ manifest_text others = e ∙ ap (λ (l : List ℕ). (l ++ (10 ∷ [])) ++ manifest_text others) (sym first) in
    let rest = text_one one lines others h.1 g.1 (same_behind (line_text line.action ++ (10 ∷ [])) (manifest_text lines) (manifest_text others) cut) in
    ap (λ (a : Fields). a ∷ actions lines) same ∙ ap (λ (l : List Fields). other.action ∷ l) rest
  where
    same_behind : (front a b : List ℕ) → front ++ a ≡ front ++ b → a ≡ b
    same_behind [] a b e = e
    same_behind (c ∷ front) a b e = let tail : front ++ a ≡ front ++ b = cc in same_behind front a b tail
