-- Which lines a text is a manifest of, or that it is one of none, is decided.
use Rattle.std.proofs.Common.{◌≡◌, inl, inr, ℕ, Bool, true, false, List, [], ◌∷◌, ◌++◌, Option, Some, None, refl}
use Rattle.ips_action.specs.Action.{Fields}
use Rattle.ips_action.specs.Meaning.{Means}
use Rattle.ips_manifest.specs.declared.line.Line.{Line}
use Rattle.ips_manifest.specs.Logical.{Logical, is_skipped}
use Rattle.ips_manifest.specs.Manifest.{TextMeans, LineMeans, LinesMean}
use Rattle.ips_grammar.proofs.Decided.{Decided, with_it, both}
use Rattle.ips_grammar.proofs.Actions.{means}

text_means : (skipped : Bool) (line : Logical) → Decided ((lines : List Line) × TextMeans skipped line lines)
text_means true line = inl ([], refl)
text_means false line =
    with_it ((a : Fields) × Means line.text a) ((lines : List Line) × TextMeans false line lines)
    (λ w. (record { number = line.number; action = w.0 } ∷ [], (w.0, w.1, refl))) (λ w. (w.1.0, w.1.1)) (means line.text)

is_none : (o : Option ℕ) → Decided (o ≡ None)
is_none None = inl refl
is_none (Some n) = inr (λ e. absurd cc)

line_means : (line : Logical) → Decided ((lines : List Line) × LineMeans line lines)
line_means line =
    with_it ((line.unreadable ≡ None) × ((lines : List Line) × TextMeans (is_skipped line.text) line lines)) ((lines : List Line) × LineMeans line lines)
    (λ h. (h.1.0, (h.0, h.1.1))) (λ w. (w.1.0, (w.0, w.1.1))) (both (is_none line.unreadable) (text_means (is_skipped line.text) line))

pub lines_mean : (logical : List Logical) → Decided ((lines : List Line) × LinesMean logical lines)
lines_mean [] = inl ([], refl)
lines_mean (line ∷ others) =
    with_it (((lines : List Line) × LineMeans line lines) × ((lines : List Line) × LinesMean others lines)) ((lines : List Line) × LinesMean (line ∷ others) lines)
    (λ h. (h.0.0 ++ h.1.0, (h.0.0, h.1.0, h.0.1, h.1.1, refl))) (λ w. ((w.1.0, w.1.2), (w.1.1, w.1.3)))
    (both (line_means line) (lines_mean others))
