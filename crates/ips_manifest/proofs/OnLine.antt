-- The lines of a text that is a manifest stand on a line each.
use Rattle.std.proofs.Common.{◌≡◌, ℕ, ◌+◌, Bool, true, false, cond, not, eqb, List, [], ◌∷◌, ◌++◌, Option, Some, None, Result, Ok, Err, refl, sym, ap, subst, arith}
use Rattle.std.specs.Prelude.{IfOk}
use Rattle.std.specs.List.{list_all, AllByRecursion}
use Rattle.std.specs.Str.{IsUtf8, is_utf8}
use Rattle.std.proofs.lemmas.Bool.{eqb-true, true≢false}
use Rattle.std.proofs.lemmas.Str.{IsUtf8-from_is_utf8}
use Rattle.ips_text.proofs.Truths.{both_true}
use Rattle.ips_text.proofs.Lists.{all_append}
use Rattle.ips_line.proofs.OnLine.{CanStand, other, can_join, can_part}
use Rattle.ips_text.specs.declared.refusal.Or.{Or}
use Rattle.ips_action.specs.Action.{Fields}
use Rattle.ips_action.specs.Meaning.{Means}
use Rattle.ips_action.proofs.OnLine.{means_can}
use Rattle.ips_action.proofs.Payloads.{is_with_payload, draft_can}
use Rattle.ips_manifest.specs.declared.draft.Draft.{Draft}
use Rattle.ips_manifest.specs.declared.fault.ManifestFault.{ManifestFault}
use Rattle.ips_manifest.specs.declared.line.Line.{Line}
use Rattle.ips_manifest.specs.Logical.{into_first, physical_lines, continues, without_last, Logical, unreadable_at, or_else, continued, logical_lines, lines_of, is_skipped}
use Rattle.ips_manifest.specs.Text.{TextMeansBy, LinesMeanBy}
use Rattle.ips_manifest.specs.Manifest.{line_at, IsManifestOf, StandsOnLine}
use Rattle.ips_manifest.specs.Draft.{Drafted, MeansDrafted, draft_at, IsDraftOf, CanBeFilled}

-- ---- physical lines

-- the line has no newline
abbrev Single : List ℕ → Type 0
Single line = list_all other line ≡ true

all_single : (bytes : List ℕ) → AllByRecursion Single (physical_lines bytes)
all_single [] = tt
all_single (b ∷ bytes) = go (eqb b 10) refl (physical_lines bytes) (all_single bytes)
  where
    go : (t : Bool) → eqb b 10 ≡ t → (lines : List (List ℕ)) → AllByRecursion Single lines → AllByRecursion Single (cond t ([] ∷ lines) (into_first b lines))
    go true e lines all = (refl, all)
    go false e [] all = (both_true (other b) true (ap not e) refl, tt)
    go false e (line ∷ lines) all = (both_true (other b) (list_all other line) (ap not e) all.0, all.1)

-- ---- logical lines

kept_front : (line : List ℕ) → continues line ≡ true → line ≡ without_last line ++ (92 ∷ [])
kept_front [] e = absurd (true≢false (sym e))
kept_front (b ∷ []) e = ap (λ (c : ℕ). c ∷ []) (eqb-true b 92 e)
kept_front (b ∷ c ∷ line) e = ap (λ (l : List ℕ). b ∷ l) (kept_front (c ∷ line) e)

front_can : (line : List ℕ) → continues line ≡ true → CanStand line → CanStand (without_last line)
front_can line e c = (can_part (without_last line) 92 [] (omega arith) (subst CanStand (kept_front line e) c)).0

line_can : (number : ℕ) (line : List ℕ) → Single line → unreadable_at number line ≡ None → CanStand line
line_can number line single e = record { text = go (is_utf8 line) refl e; single = single }
  where
    go : (t : Bool) → is_utf8 line ≡ t → cond t None (Some number) ≡ None → IsUtf8 line
    go true f e = IsUtf8-from_is_utf8 line f
    go false f e = absurd cc

both_none : (a b : Option ℕ) → or_else a b ≡ None → (a ≡ None) × (b ≡ None)
both_none None b e = (refl, e)
both_none (Some n) b e = absurd cc

-- a logical line of UTF-8 can stand on a line
abbrev CanLogical : Logical → Type 0
CanLogical line = line.unreadable ≡ None → CanStand line.text

continued_can : (number : ℕ) (line : List ℕ) (lines : List Logical) → continues line ≡ true → Single line → AllByRecursion CanLogical lines → AllByRecursion CanLogical (continued number line lines)
continued_can number line [] goes single all = (λ e. front_can line goes (line_can number line single e), tt)
continued_can number line (next ∷ others) goes single all =
    (λ e. let n = both_none (unreadable_at number line) next.unreadable e in can_join (without_last line) next.text (front_can line goes (line_can number line single n.0)) (all.0 n.1), all.1)

all_logical : (number : ℕ) (lines : List (List ℕ)) → AllByRecursion Single lines → AllByRecursion CanLogical (logical_lines number lines)
all_logical number [] all = tt
all_logical number (line ∷ lines) all = go (continues line) refl (all_logical (number + 1) lines all.1)
  where
    go : (t : Bool) → continues line ≡ t → AllByRecursion CanLogical (logical_lines (number + 1) lines)
        → AllByRecursion CanLogical (cond t (continued number line (logical_lines (number + 1) lines)) (record { number = number; text = line; unreadable = unreadable_at number line } ∷ logical_lines (number + 1) lines))
    go true e rest = continued_can number line (logical_lines (number + 1) lines) e all.0 rest
    go false e rest = (λ none. line_can number line all.0 none, rest)

-- ---- the lines that they give

-- where each line that a text gives can stand, all lines of a text can
module _ {A L : Type 0} (Means : List ℕ → A → Type 0) (put : ℕ → A → L) (Stands : L → Type 0) (stands : (number : ℕ) (text : List ℕ) (a : A) → Means text a → CanStand text → Stands (put number a)) where
  text_stands : (skipped : Bool) (line : Logical) (lines : List L) → CanStand line.text → TextMeansBy Means put skipped line lines → AllByRecursion Stands lines
  text_stands true line lines c m = subst (AllByRecursion Stands) (sym m) tt
  text_stands false line lines c m = subst (AllByRecursion Stands) (sym m.2) (stands line.number line.text m.0 m.1 c, tt)

  logical_stand : (logical : List Logical) (lines : List L) → AllByRecursion CanLogical logical → LinesMeanBy Means put logical lines → AllByRecursion Stands lines
  logical_stand [] lines all m = subst (AllByRecursion Stands) (sym m) tt
  logical_stand (line ∷ others) lines all m =
      subst (AllByRecursion Stands) (sym m.4) (all_append Stands m.0 m.1 (text_stands (is_skipped line.text) line m.0 (all.0 m.2.0) m.2.1) (logical_stand others m.1 all.1 m.3))

  all_stand : (bytes : List ℕ) (lines : List L) → LinesMeanBy Means put (lines_of bytes) lines → AllByRecursion Stands lines
  all_stand bytes lines m = logical_stand (lines_of bytes) lines (all_logical 1 (physical_lines bytes) (all_single bytes)) m

-- ---- the lines of a manifest, and of a draft

action_stands : (number : ℕ) (text : List ℕ) (a : Fields) → Means text a → CanStand text → StandsOnLine (line_at number a)
action_stands number text a m c =
    let can = means_can text a m c in
    record { action = m.2.action; text = can.text; single = can.single }

pub manifest_stands : (bytes : List ℕ) (lines : List Line) → IsManifestOf bytes lines → AllByRecursion StandsOnLine lines
manifest_stands bytes lines m = all_stand Means line_at StandsOnLine action_stands bytes lines m

filled_stands : (number : ℕ) (text : List ℕ) (d : Drafted) → MeansDrafted text d → CanStand text → CanBeFilled (draft_at number d)
filled_stands number text d m c =
    let can = draft_can text d.0 d.1 d.0.payload m m.2.action.named c in
    record {
      stands = record { action = m.2.action; text = can.text; single = can.single };
      filled = λ payload named some.
          let other = draft_can text d.0 d.1 (Some payload) m named c in
          record { action = is_with_payload d.0 payload m.2.action some named; text = other.text; single = other.single };
    }

-- each line of a draft can stand on a line, with any content
pub drafts_stand : {V : Type 0} (items : V → List Draft) (bytes : List ℕ) (r : Result V (Or ManifestFault)) → IfOk r (λ v. IsDraftOf bytes (items v)) → IfOk r (λ v. AllByRecursion CanBeFilled (items v))
drafts_stand items bytes (Ok v) m = all_stand MeansDrafted draft_at CanBeFilled filled_stands bytes (items v) m
drafts_stand items bytes (Err e) m = tt
