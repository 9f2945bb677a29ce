-- Canonical FMRIs, stems and stems at a version.
use Rattle.std.proofs.Common.{◌≡◌, ℕ, true, false, List, [], ◌∷◌, ◌++◌, Option, Some, None, IsSome, refl, sym, ◌∙◌, ap, subst}
use Rattle.std.specs.Prelude.{codes}
use Rattle.std.proofs.lemmas.Bool.{false≢true}
use Rattle.std.specs.List.{list_all}
use Rattle.std.specs.Str.{IsUtf8}
use Rattle.std.proofs.lemmas.List.{append-nil}
use Rattle.ips_records.specs.Listed.{Sole}
use Rattle.ips_fmri.specs.Version.{Parts, IfVersion}
use Rattle.ips_fmri.specs.Name.{IsStem, IsPublisher}
use Rattle.ips_fmri.specs.Fmri.{IsFmri, IfPublisher, fmri_text, lead_text, version_part_text}
use Rattle.ips_fmri.specs.declared.fmri.Fmri.{Fmri}
use Rattle.ips_fmri.proofs.Versions.{written_one}
use Rattle.ips_fmri.proofs.Readings.{judges_fmri, fmri_written, WritesName}
use Rattle.ips_records.specs.Form.{IsNamed, HasVersion}
use Rattle.ips_records.proofs.FileNames.{is_low, low_append, low_component, low_stem, low_version, low_text}

-- no two FMRIs have one canonical spelling
pub fmri_one : (f g : Fmri) → IsFmri f → IsFmri g → fmri_text f ≡ fmri_text g → f ≡ g
fmri_one f g hf hg e = written_one judges_fmri (fmri_text g) f g (subst (λ (t : List ℕ). WritesName f t) e (fmri_written f hf)) (fmri_written g hg)

pub fmri_sole : (f : Fmri) → IsFmri f → Sole fmri_text IsFmri f
fmri_sole f hf = record { fits = hf; alone = λ g hg e. fmri_one g f hg hf e }

low_lead : (publisher : Option (List ℕ)) → IfPublisher publisher → list_all is_low (lead_text publisher false) ≡ true
low_lead None h = refl
low_lead (Some publisher) h = low_append (codes "pkg://" ++ publisher) (47 ∷ []) (low_append (codes "pkg://") publisher refl (low_component publisher h.form)) refl

low_part : (v : Option Parts) → IfVersion v → list_all is_low (version_part_text v) ≡ true
low_part None h = refl
low_part (Some v) h = low_version v h

-- a canonical spelling is a text
pub fmri_utf8 : (f : Fmri) → IsFmri f → IsUtf8 (fmri_text f)
fmri_utf8 f h = low_text (fmri_text f) (low_append (lead_text f.publisher false ++ f.stem) (version_part_text f.version) (low_append (lead_text f.publisher false) f.stem (low_lead f.publisher h.publisher) (low_stem f.stem h.stem)) (low_part f.version h.version))

-- a stem alone
abbrev pub bare : List ℕ → Fmri
bare stem = record { publisher = None; stem = stem; version = None }

pub bare_fmri : (stem : List ℕ) → IsStem false stem → IsFmri (bare stem)
bare_fmri stem s = record { publisher = tt; stem = s; version = tt }

pub bare_text : (stem : List ℕ) → fmri_text (bare stem) ≡ stem
bare_text stem = append-nil stem

-- what there is of a stem at a version
version_fits : (v : Option Parts) → HasVersion v → IfVersion v
version_fits None h = tt
version_fits (Some v) h = h

publisher_fits : (p : Option (List ℕ)) → p ≡ None → IfPublisher p
publisher_fits None e = tt
publisher_fits (Some p) e = absurd cc

pub named_fmri : (f : Fmri) → IsNamed f → IsFmri f
named_fmri f h = record { publisher = publisher_fits f.publisher h.publisher; stem = h.stem; version = version_fits f.version h.version }

bare_is : (f : Fmri) → f.publisher ≡ None → f.version ≡ None → fmri_text f ≡ f.stem
bare_is f ep ev = rw (ep, ev) (append-nil f.stem)

-- a stem alone is that of the canonical spelling
pub bare_found : (f : Fmri) (bytes : List ℕ) → f.publisher ≡ None → f.version ≡ None → fmri_text f ≡ bytes → f.stem ≡ bytes
bare_found f bytes ep ev e = sym (bare_is f ep ev) ∙ e

pub stem_sole : (f : Fmri) → Sole fmri_text IsFmri f → Sole (λ (s : List ℕ). s) (IsStem false) f.stem
stem_sole f s = record { fits = s.fits.stem; alone = λ other o e. e }

-- where another FMRI is found, the bytes are no stem
pub not_stem : (f : Fmri) (bytes stem : List ℕ) → Sole fmri_text IsFmri f → fmri_text f ≡ bytes → ((f.publisher ≡ None) × (f.version ≡ None) → ⊥) → IsStem false stem → stem ≡ bytes → ⊥
not_stem f bytes stem sole is no_bare h e =
    let same = sole.alone (bare stem) (bare_fmri stem h) (bare_text stem ∙ e ∙ sym is) in
    no_bare (sym (ap (λ (g : Fmri). g.publisher) same), sym (ap (λ (g : Fmri). g.version) same))

has_version : (v : Option Parts) → IfVersion v → IsSome v → HasVersion v
has_version None h some = absurd (false≢true some)
has_version (Some v) h some = h

version_some : (v : Option Parts) → HasVersion v → IsSome v
version_some None h = absurd h
version_some (Some v) h = refl

-- an FMRI with a version and without a publisher
pub named_sole : (f : Fmri) → Sole fmri_text IsFmri f → (f.publisher ≡ None) × IsSome f.version → Sole fmri_text IsNamed f
named_sole f sole h = record {
  fits = record { publisher = h.0; stem = sole.fits.stem; version = has_version f.version sole.fits.version h.1 };
  alone = λ other o e. sole.alone other (named_fmri other o) e;
}

-- where another FMRI is found, the bytes are none of these
pub not_named : (f : Fmri) (bytes : List ℕ) (name : Fmri) → Sole fmri_text IsFmri f → fmri_text f ≡ bytes → ((f.publisher ≡ None) × IsSome f.version → ⊥) → IsNamed name → fmri_text name ≡ bytes → ⊥
not_named f bytes name sole is never h e =
    let same = sole.alone name (named_fmri name h) (e ∙ sym is) in
    never (subst (λ (g : Fmri). (g.publisher ≡ None) × IsSome g.version) same (h.publisher, version_some name.version h.version))
