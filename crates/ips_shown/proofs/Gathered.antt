-- Paths that are gathered line by line.
use Rattle.std.proofs.Common.{◌≡◌, ◌↔◌, ◌⊎◌, inl, inr, ℕ, ◌<◌, ◌+◌, List, [], ◌∷◌, ◌++◌, length, take, sym, ap, subst, ◌∙◌}
use Rattle.std.specs.Prelude.{Contains, slice_index_or}
use Rattle.std.proofs.lemmas.List.{take_more}
use Rattle.std.proofs.lemmas.Option.{same_Some}
use Rattle.std.proofs.lemmas.List.Elements.{Contains-append_left, Contains-push, Contains-push_cases}
use Rattle.ips_text.specs.Path.{IsPath}
use Rattle.ips_manifest.specs.declared.line.Line.{Line}
use Rattle.ips_filter.specs.Settings.{Set}
use Rattle.ips_shown.specs.Shown.{ArePaths, Delivers, Gives}

-- these are the paths of the admitted actions of the lines
abbrev pub Gathered : Set → List Line → List (List ℕ) → Type 0
Gathered s lines paths = ((path : List ℕ) → Contains paths path ↔ Delivers s lines path) × ArePaths paths

-- with one more line: its path, where it gives one, and those before
with_more : (s : Set) (lines : List Line) (line : Line) (path : List ℕ) → Delivers s (lines ++ line ∷ []) path → Delivers s lines path ⊎ Gives s line.action path
with_more s lines line path d = elim (Contains-push_cases lines line d.line d.stands) [
  | inl before ↦ inl (record { line = d.line; stands = before; gives = d.gives })
  | inr here ↦ inr (subst (λ (l : Line). Gives s l.action path) (sym here) d.gives)
]

before_more : (s : Set) (lines : List Line) (line : Line) (path : List ℕ) → Delivers s lines path → Delivers s (lines ++ line ∷ []) path
before_more s lines line path d = record { line = d.line; stands = Contains-append_left lines (line ∷ []) d.line d.stands; gives = d.gives }

here_more : (s : Set) (lines : List Line) (line : Line) (path : List ℕ) → Gives s line.action path → Delivers s (lines ++ line ∷ []) path
here_more s lines line path g = record { line = line; stands = Contains-push lines line; gives = g }

same_given : (s : Set) (line : Line) (p q : List ℕ) → Gives s line.action p → Gives s line.action q → p ≡ q
same_given s line p q a b = same_Some p q (sym a.given ∙ b.given)

taken : (lines : List Line) (i : ℕ) (line : Line) → i < length lines → line ≡ slice_index_or lines i line → take (i + 1) lines ≡ take i lines ++ line ∷ []
taken lines i line lt here = take_more lines i line lt ∙ ap (λ (l : Line). take i lines ++ l ∷ []) (sym here)

pub gathered_path : (s : Set) (lines : List Line) (i : ℕ) (line : Line) (paths : List (List ℕ)) (p : List ℕ) → i < length lines → line ≡ slice_index_or lines i line
    → Gathered s (take i lines) paths → Gives s line.action p → IsPath p → Gathered s (take (i + 1) lines) (paths ++ p ∷ [])
gathered_path s lines i line paths p lt here so_far gives proper =
    let front = take i lines in
    subst (λ (l : List Line). Gathered s l (paths ++ p ∷ [])) (sym (taken lines i line lt here)) (
      λ path. (
        λ h. elim (Contains-push_cases paths p path h) [
          | inl old ↦ before_more s front line path ((so_far.0 path).0 old)
          | inr new ↦ here_more s front line path (subst (Gives s line.action) new gives)
        ],
        λ d. elim (with_more s front line path d) [
          | inl old ↦ Contains-append_left paths (p ∷ []) path ((so_far.0 path).1 old)
          | inr new ↦ subst (Contains (paths ++ p ∷ [])) (same_given s line p path gives new) (Contains-push paths p)
        ],
      ),
      λ path h. elim (Contains-push_cases paths p path h) [
        | inl old ↦ so_far.1 path old
        | inr new ↦ subst IsPath new proper
      ],
    )

pub gathered_none : (s : Set) (lines : List Line) (i : ℕ) (line : Line) (paths : List (List ℕ)) → i < length lines → line ≡ slice_index_or lines i line
    → Gathered s (take i lines) paths → ((path : List ℕ) → Gives s line.action path → ⊥) → Gathered s (take (i + 1) lines) paths
gathered_none s lines i line paths lt here so_far none =
    let front = take i lines in
    subst (λ (l : List Line). Gathered s l paths) (sym (taken lines i line lt here)) (
      λ path. (
        λ h. before_more s front line path ((so_far.0 path).0 h),
        λ d. elim (with_more s front line path d) [
          | inl old ↦ (so_far.0 path).1 old
          | inr new ↦ absurd (none path new)
        ],
      ),
      so_far.1,
    )
