-- Lines of the file `image`, told apart by their first letter.
use Rattle.std.proofs.Common.{◌≡◌, ℕ, Bool, false, eqb, List, [], ◌∷◌, refl, ap}
use Rattle.std.proofs.lemmas.Bool.{eqb-false}
use Rattle.ips_fmri.specs.Name.{IsPublisher}
use Rattle.ips_records.specs.Form.{IsWord}
use Rattle.ips_records.specs.Listed.{Sole}
use Rattle.ips_state.specs.declared.state.Origin.{Origin}
use Rattle.ips_state.specs.Text.{format_line, publisher_line, origin_line, variant_line, facet_line}
use Rattle.ips_load.specs.declared.head_lines.HeadLine.{HeadLine}
use Rattle.ips_load.specs.declared.head_lines.HeadLine.TheVariants as line
use Rattle.ips_load.specs.HeadLines.{actuator_line, head_line_text, IsFormat, IsOrigin, IsVariant, IsFacet, IsHeadLine}
use Rattle.ips_load.proofs.HeadWords.{format_one}

-- the first byte
abbrev first : List ℕ → ℕ
first [] = 0
first (b ∷ bytes) = b

apart : (x y : List ℕ) → eqb (first x) (first y) ≡ false → x ≡ y → ⊥
apart x y off e = eqb-false (first x) (first y) off (ap first e)

format_alone : (n : ℕ) → IsFormat n → (other : HeadLine) → IsHeadLine other → head_line_text other ≡ format_line n → other ≡ line.Format n
format_alone n h (line.Format m) o e = ap (λ (k : ℕ). line.Format k) (format_one m n o h e)
format_alone n h other o e = absurd (apart (head_line_text other) (format_line n) refl e)

pub format_sole : (n : ℕ) → IsFormat n → Sole head_line_text IsHeadLine (line.Format n)
format_sole n h = record { fits = h; alone = format_alone n h }

variant_alone : (n v : List ℕ) → Sole variant_line IsVariant (n, v) → (other : HeadLine) → IsHeadLine other → head_line_text other ≡ variant_line (n, v) → other ≡ line.Variant n v
variant_alone n v s (line.Variant m w) o e = ap (λ (p : List ℕ × List ℕ). line.Variant p.0 p.1) (s.alone (m, w) o e)
variant_alone n v s other o e = absurd (apart (head_line_text other) (variant_line (n, v)) refl e)

pub variant_kind : (n v : List ℕ) → Sole variant_line IsVariant (n, v) → Sole head_line_text IsHeadLine (line.Variant n v)
variant_kind n v s = record { fits = s.fits; alone = variant_alone n v s }

facet_alone : (p : List ℕ) (on : Bool) → Sole facet_line IsFacet (p, on) → (other : HeadLine) → IsHeadLine other → head_line_text other ≡ facet_line (p, on) → other ≡ line.Facet p on
facet_alone p on s (line.Facet q off) o e = ap (λ (f : List ℕ × Bool). line.Facet f.0 f.1) (s.alone (q, off) o e)
facet_alone p on s other o e = absurd (apart (head_line_text other) (facet_line (p, on)) refl e)

pub facet_kind : (p : List ℕ) (on : Bool) → Sole facet_line IsFacet (p, on) → Sole head_line_text IsHeadLine (line.Facet p on)
facet_kind p on s = record { fits = s.fits; alone = facet_alone p on s }

-- bytes that are a line of no kind are no line
pub no_line : (bytes : List ℕ) → ((n : ℕ) → IsFormat n → format_line n ≡ bytes → ⊥) → ((p : List ℕ) → IsPublisher p → publisher_line p ≡ bytes → ⊥) → ((o : Origin) → IsOrigin o → origin_line o ≡ bytes → ⊥)
    → ((w : List ℕ) → IsWord w → actuator_line w ≡ bytes → ⊥) → ((v : List ℕ × List ℕ) → IsVariant v → variant_line v ≡ bytes → ⊥) → ((f : List ℕ × Bool) → IsFacet f → facet_line f ≡ bytes → ⊥)
    → (x : HeadLine) → IsHeadLine x → head_line_text x ≡ bytes → ⊥
no_line bytes format publisher origin actuator variant facet (line.Format n) h e = format n h e
no_line bytes format publisher origin actuator variant facet (line.Publisher p) h e = publisher p h e
no_line bytes format publisher origin actuator variant facet (line.Origin o) h e = origin o h e
no_line bytes format publisher origin actuator variant facet (line.Actuator w) h e = actuator w h e
no_line bytes format publisher origin actuator variant facet (line.Variant n v) h e = variant (n, v) h e
no_line bytes format publisher origin actuator variant facet (line.Facet p on) h e = facet (p, on) h e
