-- Lines that are added one after the other, and their contents.
use Rattle.std.proofs.Common.{◌≡◌, ℕ, List, [], ◌∷◌, ◌++◌, map, refl, sym, ap, subst, ◌∙◌, append_assoc}
use Rattle.std.specs.List.{AllByRecursion, flat_map}
use Rattle.std.proofs.lemmas.List.{map-append, append-nil}
use Rattle.std.proofs.lemmas.Grind.{flat_map-append}
use Rattle.ips_text.proofs.Lists.{all_append}
use Rattle.ips_action.specs.Action.{Fields}
use Rattle.ips_manifest.specs.declared.line.Line.{Line}
use Rattle.ips_manifest.specs.Manifest.{StandsOnLine, line_written, manifest_text}
use Rattle.ips_filling.specs.declared.filled.Filled.{Filled}
use Rattle.ips_sends.specs.Published.{actions_text}
use Rattle.ips_prepare.specs.declared.prepared.Content.{Content}
use Rattle.ips_prepare.specs.Prepared.{IsEntry, actions_of, actions_filled, contents_in}

-- the lines of filled ones
abbrev pub lines_in : List Filled → List Line
lines_in filled = map (λ (f : Filled). f.line) filled

pub lines_more : (start old new : List Line) (yielded : List Filled) (f : Filled) → old ≡ start ++ lines_in yielded → new ≡ old ++ f.line ∷ [] → new ≡ start ++ lines_in (yielded ++ f ∷ [])
lines_more start old new yielded f were is =
    is ∙ ap (λ (l : List Line). l ++ f.line ∷ []) were ∙ append_assoc start (lines_in yielded) (f.line ∷ [])
    ∙ ap (λ (l : List Line). start ++ l) (sym (map-append (λ (x : Filled). x.line) yielded (f ∷ [])))

pub contents_more : (start old new : List Content) (yielded : List Filled) (f : Filled) → old ≡ start ++ flat_map contents_in yielded → new ≡ old ++ contents_in f → new ≡ start ++ flat_map contents_in (yielded ++ f ∷ [])
contents_more start old new yielded f were is =
    is ∙ ap (λ (l : List Content). l ++ contents_in f) were ∙ append_assoc start (flat_map contents_in yielded) (contents_in f)
    ∙ ap (λ (l : List Content). start ++ l) (sym (flat_map-append contents_in yielded (f ∷ []) ∙ ap (λ (l : List Content). flat_map contents_in yielded ++ l) (append-nil (contents_in f))))

pub parts_more : (yielded : List Filled) (f : Filled) (rest before all : List Filled) → yielded ++ before ≡ all → before ≡ f ∷ rest → (yielded ++ f ∷ []) ++ rest ≡ all
parts_more yielded f rest before all are step = append_assoc yielded (f ∷ []) rest ∙ ap (λ (l : List Filled). yielded ++ l) (sym step) ∙ are

pub all_yielded : (yielded rest all : List Filled) → yielded ++ rest ≡ all → rest ≡ [] → yielded ≡ all
all_yielded yielded rest all are none = sym (append-nil yielded) ∙ ap (λ (l : List Filled). yielded ++ l) (sym none) ∙ are

lines_stand : (filled : List Filled) → AllByRecursion IsEntry filled → AllByRecursion StandsOnLine (lines_in filled)
lines_stand [] all = tt
lines_stand (f ∷ filled) all = (all.0.stands, lines_stand filled all.1)

-- lines that stand, with those of entries behind them, stand
pub all_stand : (start new : List Line) (filled : List Filled) → new ≡ start ++ lines_in filled → AllByRecursion StandsOnLine start → AllByRecursion IsEntry filled → AllByRecursion StandsOnLine new
all_stand start new filled is stand entries = subst (AllByRecursion StandsOnLine) (sym is) (all_append StandsOnLine start (lines_in filled) stand (lines_stand filled entries))

lines_actions : (filled : List Filled) → actions_of (lines_in filled) ≡ actions_filled filled
lines_actions [] = refl
lines_actions (f ∷ filled) = ap (λ (l : List Fields). f.line.action ∷ l) (lines_actions filled)

pub actions_joined : (start new : List Line) (filled : List Filled) → new ≡ start ++ lines_in filled → actions_of new ≡ actions_of start ++ actions_filled filled
actions_joined start new filled is =
    ap actions_of is ∙ map-append (λ (line : Line). line.action) start (lines_in filled) ∙ ap (λ (l : List Fields). actions_of start ++ l) (lines_actions filled)

pub text_is : (lines : List Line) → manifest_text lines ≡ actions_text (actions_of lines)
text_is [] = refl
text_is (line ∷ lines) = ap (λ (l : List ℕ). line_written line ++ l) (text_is lines)
