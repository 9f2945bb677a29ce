-- Physical lines are joined to a logical line one after the other.
use Rattle.std.proofs.Common.{◌≡◌, ℕ, ◌+◌, ◌<◌, ◌≤◌, Bool, true, false, cond, eqb, List, [], ◌∷◌, ◌++◌, length, Option, Some, None, refl, sym, ap, ◌∙◌, append_assoc, arith}
use Rattle.std.proofs.lemmas.Bool.{false_from_ne_true}
use Rattle.std.specs.Str.{IsUtf8, is_utf8}
use Rattle.std.proofs.lemmas.Str.{is_utf8-from_IsUtf8, IsUtf8-from_is_utf8}
use Rattle.ips_manifest.specs.declared.fault.LineFault.TheVariants.{NotText}
use Rattle.ips_manifest.specs.declared.fault.ManifestFault.{ManifestFault}
use Rattle.ips_manifest.specs.Logical.{into_first, physical_lines, continues, without_last, Logical, unreadable_at, or_else, continued, logical_lines}
use Rattle.ips_manifest.specs.Next.{IsNext, IsUnreadable}

-- ---- what is UTF-8

pub read_none : (number : ℕ) (line : List ℕ) → IsUtf8 line → unreadable_at number line ≡ None
read_none number line utf8 = ap (λ (b : Bool). cond b None (Some number)) (is_utf8-from_IsUtf8 line utf8)

pub read_some : (number : ℕ) (line : List ℕ) → (IsUtf8 line → ⊥) → unreadable_at number line ≡ Some number
read_some number line bad = ap (λ (b : Bool). cond b None (Some number)) (false_from_ne_true (is_utf8 line) (λ e. bad (IsUtf8-from_is_utf8 line e)))

-- ---- what was joined before, and what is still read

abbrev with_front : ℕ → List ℕ → List Logical → List Logical
with_front number text [] = record { number = number; text = text; unreadable = None } ∷ []
with_front number text (next ∷ others) = record { number = number; text = text ++ next.text; unreadable = next.unreadable } ∷ others

pub record Joining (number : ℕ) (bytes text : List ℕ) (later : ℕ) (left : List ℕ) : Type 0 where
  pub lines : with_front number text (logical_lines later (physical_lines left)) ≡ logical_lines number (physical_lines bytes)
  pub room : later + length left ≤ number + length bytes
  pub within : length left ≤ length bytes

begin_lines : (number : ℕ) (lines : List (List ℕ)) → (lines ≡ [] → ⊥) → with_front number [] (logical_lines number lines) ≡ logical_lines number lines
begin_lines number [] some = absurd (some refl)
begin_lines number (line ∷ lines) some = go (continues line) refl (logical_lines (number + 1) lines)
  where
    go : (t : Bool) → continues line ≡ t → (rest : List Logical)
        → with_front number [] (cond t (continued number line rest) (record { number = number; text = line; unreadable = unreadable_at number line } ∷ rest)) ≡ cond t (continued number line rest) (record { number = number; text = line; unreadable = unreadable_at number line } ∷ rest)
    go true e [] = refl
    go true e (next ∷ others) = refl
    go false e rest = refl

some_lines : (bytes : List ℕ) → 0 < length bytes → physical_lines bytes ≡ [] → ⊥
some_lines [] lt e = absurd (omega arith)
some_lines (b ∷ bytes) lt e = go (eqb b 10) (physical_lines bytes) e
  where
    go : (t : Bool) (lines : List (List ℕ)) → cond t ([] ∷ lines) (into_first b lines) ≡ [] → ⊥
    go true lines e = absurd cc
    go false [] e = absurd cc
    go false (line ∷ lines) e = absurd cc

pub join_begin : (number : ℕ) (bytes : List ℕ) → 0 < length bytes → Joining number bytes [] number bytes
join_begin number bytes some = record { lines = begin_lines number (physical_lines bytes) (some_lines bytes some); room = omega arith; within = omega arith }

-- one more physical line that goes on
on_lines : (number : ℕ) (text line : List ℕ) (later : ℕ) (rest : List Logical) → unreadable_at later line ≡ None → with_front number text (continued later line rest) ≡ with_front number (text ++ without_last line) rest
on_lines number text line later [] readable = ap (λ (u : Option ℕ). record { number = number; text = text ++ without_last line; unreadable = u } ∷ []) readable
on_lines number text line later (next ∷ others) readable =
    ap (λ (u : Option ℕ). record { number = number; text = text ++ (without_last line ++ next.text); unreadable = or_else u next.unreadable } ∷ others) readable
    ∙ ap (λ (l : List ℕ). record { number = number; text = l; unreadable = next.unreadable } ∷ others) (sym (append_assoc text (without_last line) next.text))

split_on : (later : ℕ) (line : List ℕ) (lines : List (List ℕ)) → continues line ≡ true → logical_lines later (line ∷ lines) ≡ continued later line (logical_lines (later + 1) lines)
split_on later line lines goes = ap (λ (b : Bool). cond b (continued later line (logical_lines (later + 1) lines)) (record { number = later; text = line; unreadable = unreadable_at later line } ∷ logical_lines (later + 1) lines)) goes

split_end : (later : ℕ) (line : List ℕ) (lines : List (List ℕ)) → continues line ≡ false → logical_lines later (line ∷ lines) ≡ record { number = later; text = line; unreadable = unreadable_at later line } ∷ logical_lines (later + 1) lines
split_end later line lines ends = ap (λ (b : Bool). cond b (continued later line (logical_lines (later + 1) lines)) (record { number = later; text = line; unreadable = unreadable_at later line } ∷ logical_lines (later + 1) lines)) ends

pub join_on : (number : ℕ) (bytes text : List ℕ) (later : ℕ) (left line behind front : List ℕ) → Joining number bytes text later left → physical_lines left ≡ line ∷ physical_lines behind → length behind < length left → unreadable_at later line ≡ None
    → continues line ≡ true → front ≡ without_last line → Joining number bytes (text ++ front) (later + 1) behind
join_on number bytes text later left line behind front h split shorter readable goes is_front = record {
  lines =
      ap (λ (l : List ℕ). with_front number (text ++ l) (logical_lines (later + 1) (physical_lines behind))) is_front
      ∙ sym (ap (λ (l : List (List ℕ)). with_front number text (logical_lines later l)) split
      ∙ ap (with_front number text) (split_on later line (physical_lines behind) goes)
      ∙ on_lines number text line later (logical_lines (later + 1) (physical_lines behind)) readable)
      ∙ h.lines;
  room = omega (arith, h.room);
  within = omega (arith, h.within);
}

-- the physical line that ends the logical line
pub join_end : (number : ℕ) (bytes text : List ℕ) (later : ℕ) (left line behind : List ℕ) → Joining number bytes text later left → physical_lines left ≡ line ∷ physical_lines behind → length behind < length left → unreadable_at later line ≡ None
    → continues line ≡ false → IsNext number bytes (text ++ line) (later + 1) behind
join_end number bytes text later left line behind h split shorter readable ends = record {
  lines =
      sym h.lines ∙ ap (λ (l : List (List ℕ)). with_front number text (logical_lines later l)) split
      ∙ ap (with_front number text) (split_end later line (physical_lines behind) ends)
      ∙ ap (λ (u : Option ℕ). record { number = number; text = text ++ line; unreadable = u } ∷ logical_lines (later + 1) (physical_lines behind)) readable;
  shorter = omega (arith, h.within);
  room = omega (arith, h.room);
}

-- the end of the text
pub join_stop : (number : ℕ) (bytes text : List ℕ) (later : ℕ) (left : List ℕ) → 0 < length bytes → Joining number bytes text later left → left ≡ [] → IsNext number bytes text later left
join_stop number bytes text later left some h none = record {
  lines =
      sym h.lines ∙ ap (λ (l : List ℕ). with_front number text (logical_lines later (physical_lines l))) none
      ∙ ap (λ (l : List ℕ). record { number = number; text = text; unreadable = None } ∷ logical_lines later (physical_lines l)) (sym none);
  shorter = omega (arith, ap length none);
  room = h.room;
}

abbrev Unread : ℕ → List Logical → ℕ → Type 0
Unread number lines at = (line : Logical) × (others : List Logical) × (lines ≡ line ∷ others) × (line.unreadable ≡ Some at)

-- a physical line that isn't UTF-8
bad_lines : (number : ℕ) (text line : List ℕ) (later : ℕ) (lines : List (List ℕ)) → unreadable_at later line ≡ Some later → Unread number (with_front number text (logical_lines later (line ∷ lines))) later
bad_lines number text line later lines bad = go (continues line) refl (logical_lines (later + 1) lines)
  where
    go : (t : Bool) → continues line ≡ t → (rest : List Logical) → Unread number (with_front number text (cond t (continued later line rest) (record { number = later; text = line; unreadable = unreadable_at later line } ∷ rest))) later
    go true e [] = (record { number = number; text = text ++ without_last line; unreadable = unreadable_at later line }, [], refl, bad)
    go true e (next ∷ others) = (record { number = number; text = text ++ (without_last line ++ next.text); unreadable = or_else (unreadable_at later line) next.unreadable }, others, refl, ap (λ (u : Option ℕ). or_else u next.unreadable) bad)
    go false e rest = (record { number = number; text = text ++ line; unreadable = unreadable_at later line }, rest, refl, bad)

pub join_bad : (number : ℕ) (bytes text : List ℕ) (later : ℕ) (left line behind : List ℕ) (f : ManifestFault) → Joining number bytes text later left → physical_lines left ≡ line ∷ physical_lines behind → f.line ≡ later → f.fault ≡ NotText → unreadable_at later line ≡ Some later
    → IsUnreadable number bytes f
join_bad number bytes text later left line behind f h split at not_text bad =
    let b = bad_lines number text line later (physical_lines behind) bad in
    record {
      line = b.0;
      others = b.1;
      lines = sym h.lines ∙ ap (λ (l : List (List ℕ)). with_front number text (logical_lines later l)) split ∙ b.2;
      fault = not_text;
      at = b.3 ∙ ap (λ (n : ℕ). Some n) (sym at);
    }

-- a logical line of one physical line
pub single_next : (number : ℕ) (bytes line behind : List ℕ) → physical_lines bytes ≡ line ∷ physical_lines behind → length behind < length bytes → unreadable_at number line ≡ None → continues line ≡ false → IsNext number bytes line (number + 1) behind
single_next number bytes line behind split shorter readable ends =
    join_end number bytes [] number bytes line behind (join_begin number bytes (omega arith)) split shorter readable ends

pub single_bad : (number : ℕ) (bytes line behind : List ℕ) (f : ManifestFault) → physical_lines bytes ≡ line ∷ physical_lines behind → length behind < length bytes → f.line ≡ number → f.fault ≡ NotText → unreadable_at number line ≡ Some number → IsUnreadable number bytes f
single_bad number bytes line behind f split shorter at not_text bad = join_bad number bytes [] number bytes line behind f (join_begin number bytes (omega arith)) split at not_text bad
