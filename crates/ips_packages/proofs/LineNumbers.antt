-- The line of a manifest's fault is counted from 1, and behind a package's head from 3.
use Rattle.std.proofs.Common.{◌≡◌, ℕ, zero, suc, ◌+◌, ◌<◌, Bool, true, false, cond, List, [], ◌∷◌, ◌++◌, Option, Some, None, inl, inr, refl, sym, ◌∙◌, ap, subst, arith, append_assoc}
use Rattle.std.specs.Prelude.{IfSome, codes}
use Rattle.std.specs.List.{AllByRecursion}
use Rattle.std.specs.Str.{is_utf8}
use Rattle.ips_fmri.specs.Version.{Parts, IsVersion, version_text}
use Rattle.ips_manifest.specs.declared.fault.ManifestFault.{ManifestFault}
use Rattle.ips_manifest.specs.Logical.{Logical, physical_lines, logical_lines, continued, continues, unreadable_at, or_else}
use Rattle.ips_manifest.specs.Manifest.{IsFaultAt, IsFirstIn, IsFaultOf}
use Rattle.ips_records.specs.Lines.{ended}
use Rattle.ips_state.specs.Text.{package_head}
use Rattle.ips_load.specs.Fault.{IsBadPackage}
use Rattle.ips_packages.specs.Placed.{IsBadBehind}

-- the numbers of a logical line are counted from 1
record IsCounted (line : Logical) : Type 0 where
  number : 0 < line.number
  unreadable : IfSome line.unreadable (λ n. 0 < n)

at_counted : (number : ℕ) (t : Bool) → 0 < number → IfSome (cond t None (Some number)) (λ n. 0 < n)
at_counted number true some = tt
at_counted number false some = some

either_counted : (number : ℕ) (t : Bool) (later : Option ℕ) → 0 < number → IfSome later (λ n. 0 < n) → IfSome (or_else (cond t None (Some number)) later) (λ n. 0 < n)
either_counted number true later some all = all
either_counted number false later some all = some

continued_counted : (number : ℕ) (line : List ℕ) (lines : List Logical) → 0 < number → AllByRecursion IsCounted lines → AllByRecursion IsCounted (continued number line lines)
continued_counted number line [] some all = (record { number = some; unreadable = at_counted number (is_utf8 line) some }, tt)
continued_counted number line (next ∷ others) some all = (record { number = some; unreadable = either_counted number (is_utf8 line) next.unreadable some all.0.unreadable }, all.1)

lines_counted : (number : ℕ) (lines : List (List ℕ)) → 0 < number → AllByRecursion IsCounted (logical_lines number lines)
lines_counted number [] some = tt
lines_counted number (line ∷ lines) some = go (continues line) (lines_counted (number + 1) lines (omega arith))
  where
    go : (t : Bool) → AllByRecursion IsCounted (logical_lines (number + 1) lines)
        → AllByRecursion IsCounted (cond t (continued number line (logical_lines (number + 1) lines)) (record { number = number; text = line; unreadable = unreadable_at number line } ∷ logical_lines (number + 1) lines))
    go true all = continued_counted number line (logical_lines (number + 1) lines) some all
    go false all = (record { number = some; unreadable = at_counted number (is_utf8 line) some }, all)

at_fault : (unreadable : Option ℕ) (line : Logical) (f : ManifestFault) → 0 < line.number → IfSome unreadable (λ n. 0 < n) → IsFaultAt unreadable line f → 0 < f.line
at_fault (Some n) line f number counted fault = rw (fault.0) counted
at_fault None line f number counted fault = rw (fault.1) number

first_counted : (lines : List Logical) (f : ManifestFault) → AllByRecursion IsCounted lines → IsFirstIn lines f → 0 < f.line
first_counted [] f all first = absurd first
first_counted (line ∷ others) f all (inl fault) = at_fault line.unreadable line f all.0.number all.0.unreadable fault
first_counted (line ∷ others) f all (inr later) = first_counted others f all.1 later.1

-- the line of a manifest's fault isn't 0
pub fault_counted : (bytes : List ℕ) (f : ManifestFault) → IsFaultOf bytes f → 0 < f.line
fault_counted bytes f fault = first_counted (logical_lines 1 (physical_lines bytes)) f (lines_counted 1 (physical_lines bytes) (omega arith)) fault

-- behind two lines it has a number greater by 2
pub fault_behind : (text : List ℕ) (f : ManifestFault) → IsFaultOf text f → IsBadBehind text (f.line + 2)
fault_behind text f h = go f.line refl (fault_counted text f h)
  where
    go : (n : ℕ) → n ≡ f.line → 0 < n → IsBadBehind text (n + 2)
    go zero e some = absurd (omega (arith, some))
    go (suc n) e some = let three : suc (suc (suc n)) ≡ suc n + 2 = omega arith in subst (IsBadBehind text) three (f, h, e)

-- the head of a record, and what stands behind it
pub behind_head : (v : Parts) (text : List ℕ) → package_head v ++ text ≡ codes "package 2\n" ++ (ended (codes "version " ++ version_text v) ++ text)
behind_head v text = append_assoc (ended (codes "package 2")) (ended (codes "version " ++ version_text v)) text

pub head_told : (bytes behind text : List ℕ) (v : Parts) → bytes ≡ codes "package 2\n" ++ behind → behind ≡ ended (codes "version " ++ version_text v) ++ text → bytes ≡ package_head v ++ text
head_told bytes behind text v first second = first ∙ ap (λ (l : List ℕ). codes "package 2\n" ++ l) second ∙ sym (behind_head v text)

pub bad_record : (bytes text : List ℕ) (v : Parts) (line : ℕ) → bytes ≡ package_head v ++ text → IsVersion v → IsBadBehind text line → IsBadPackage bytes line
bad_record bytes text v zero is h bad = absurd bad
bad_record bytes text v (suc zero) is h bad = absurd bad
bad_record bytes text v (suc (suc zero)) is h bad = absurd bad
bad_record bytes text v (suc (suc (suc line))) is h bad = (v, text, h, is, bad)
