-- The lines of mediators.
use Rattle.std.proofs.Common.{◌≡◌, ℕ, false, List, ◌∷◌, ◌++◌, Option, refl, sym, ◌∙◌, ap, arith}
use Rattle.ips_text.specs.Quote.{quoted}
use Rattle.ips_fmri.specs.Version.{Parts, IfVersion}
use Rattle.ips_text.specs.Cut.{has_byte, IsCut}
use Rattle.ips_records.specs.Listed.{Sole}
use Rattle.ips_text.proofs.Cuts.{cut_once, not_cut}
use Rattle.ips_records.specs.Form.{IsWord, IfMarked}
use Rattle.ips_records.specs.Field.{version_field, word_field}
use Rattle.ips_records.proofs.WordForms.{word_one}
use Rattle.ips_records.proofs.Fields.{version_field_one, word_field_one}
use Rattle.ips_records.proofs.Clear.{clear_lacks, word_clear, version_field_clear}
use Rattle.ips_mediate.specs.declared.set.SetMediator.{SetMediator}
use Rattle.ips_state.specs.Form.{IsSetting}
use Rattle.ips_state.specs.Text.{mediator_line}

-- what stands behind the name
abbrev behind_name : SetMediator → List ℕ
behind_name m = version_field m.version ++ 32 ∷ word_field m.implementation

name_lacks : (m : SetMediator) → IsSetting m → has_byte 32 (quoted m.name) ≡ false
name_lacks m h = clear_lacks 32 (quoted m.name) (omega arith) (word_clear m.name h.name)

version_lacks : (m : SetMediator) → IsSetting m → has_byte 32 (version_field m.version) ≡ false
version_lacks m h = clear_lacks 32 (version_field m.version) (omega arith) (version_field_clear m.version h.version)

-- a line is cut behind the name, and then behind the version
pub cut_name : (m : SetMediator) (bytes first behind : List ℕ) → IsSetting m → IsCut 32 bytes first behind → mediator_line m ≡ bytes → (quoted m.name ≡ first) × (behind_name m ≡ behind)
cut_name m bytes first behind h c e = cut_once 32 (quoted m.name) (behind_name m) first behind (name_lacks m h) c.first_lacks (e ∙ c.parts)

pub cut_version : (m : SetMediator) (behind second third : List ℕ) → IsSetting m → IsCut 32 behind second third → behind_name m ≡ behind → (version_field m.version ≡ second) × (word_field m.implementation ≡ third)
cut_version m behind second third h c e = cut_once 32 (version_field m.version) (word_field m.implementation) second third (version_lacks m h) c.first_lacks (e ∙ c.parts)

-- a line that isn't cut so is none of a mediator
pub no_name : (m : SetMediator) (bytes : List ℕ) → has_byte 32 bytes ≡ false → mediator_line m ≡ bytes → ⊥
no_name m bytes none e = not_cut 32 bytes (quoted m.name) (behind_name m) none (sym e)

pub no_version : (m : SetMediator) (behind : List ℕ) → has_byte 32 behind ≡ false → behind_name m ≡ behind → ⊥
no_version m behind none e = not_cut 32 behind (version_field m.version) (word_field m.implementation) none (sym e)

-- no two settings have one line
setting_same : (a b : List ℕ) (v w : Option Parts) (x y : Option (List ℕ)) → a ≡ b → v ≡ w → x ≡ y
    → (let s : SetMediator = record { name = a; version = v; implementation = x } in s) ≡ (let s : SetMediator = record { name = b; version = w; implementation = y } in s)
setting_same a b v w x y ea ev ex = rw (ea, ev, ex) refl

pub setting_one : (m n : SetMediator) → IsSetting m → IsSetting n → mediator_line m ≡ mediator_line n → m ≡ n
setting_one m n hm hn e =
    let first = cut_once 32 (quoted m.name) (behind_name m) (quoted n.name) (behind_name n) (name_lacks m hm) (name_lacks n hn) e in
    let second = cut_once 32 (version_field m.version) (word_field m.implementation) (version_field n.version) (word_field n.implementation) (version_lacks m hm) (version_lacks n hn) first.1 in
    setting_same m.name n.name m.version n.version m.implementation n.implementation (word_one m.name n.name hm.name hn.name first.0)
    (version_field_one m.version n.version hm.version hn.version second.0) (word_field_one m.implementation n.implementation hm.implementation hn.implementation second.1)

-- the setting of three fields
pub setting_sole : (m : SetMediator) → Sole quoted IsWord m.name → Sole version_field IfVersion m.version → Sole word_field IfMarked m.implementation → Sole mediator_line IsSetting m
setting_sole m name version implementation =
    let h : IsSetting m = record { name = name.fits; version = version.fits; implementation = implementation.fits } in
    record { fits = h; alone = λ other o e. setting_one other m o h e }

pub setting_written : (m : SetMediator) (bytes first behind second third : List ℕ) → IsCut 32 bytes first behind → IsCut 32 behind second third
    → quoted m.name ≡ first → version_field m.version ≡ second → word_field m.implementation ≡ third → mediator_line m ≡ bytes
setting_written m bytes first behind second third c d en ev ei = rw (en, ev, ei) (ap (λ (l : List ℕ). first ++ 32 ∷ l) (sym d.parts) ∙ sym c.parts)
