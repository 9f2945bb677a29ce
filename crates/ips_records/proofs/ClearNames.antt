-- Stems and stems at a version have neither blanks nor newlines.
use Rattle.std.proofs.Common.{◌≡◌, ℕ, Bool, true, false, List, [], ◌∷◌, ◌++◌, Option, Some, None, refl, sym, ◌∙◌, ap, subst, arith}
use Rattle.std.specs.List.{list_all, join_with_byte}
use Rattle.std.proofs.lemmas.Bool.{and_parts}
use Rattle.std.proofs.lemmas.Bool.Decides.{nat_tests}
use Rattle.std.proofs.lemmas.List.Splits.{join_with_byte-slice_split}
use Rattle.ips_text.specs.Reading.{OneOrMore}
use Rattle.ips_text.specs.Path.{parts}
use Rattle.ips_fmri.specs.Version.{Parts, version_text, IsVersion}
use Rattle.ips_fmri.specs.Name.{may_begin, may_go_on, IsComponent, IsStem}
use Rattle.ips_fmri.specs.Fmri.{fmri_text, lead_text, version_part_text}
use Rattle.ips_fmri.specs.declared.fmri.Fmri.{Fmri}
use Rattle.ips_records.specs.Form.{IsNamed, HasVersion}
use Rattle.ips_records.proofs.FileNames.{begin_goes_on}
use Rattle.ips_records.proofs.Clear.{is_clear, is_clear_byte, clear_append, version_clear}

byte_clear : (b : ℕ) → may_go_on false b ≡ true → is_clear_byte b ≡ true
byte_clear b e = grind (arith, nat_tests)

run_clear : (x : List ℕ) → list_all (may_go_on false) x ≡ true → is_clear x ≡ true
run_clear [] e = refl
run_clear (b ∷ x) e = let h = and_parts (may_go_on false b) (list_all (may_go_on false) x) e in rw (byte_clear b h.0, run_clear x h.1) refl

component_clear : (x : List ℕ) → IsComponent false x → is_clear x ≡ true
component_clear [] h = absurd h
component_clear (b ∷ x) h = rw (byte_clear b (begin_goes_on b h.0), run_clear x h.1) refl

joined_clear : (xs : List (List ℕ)) → OneOrMore (IsComponent false) xs → is_clear (join_with_byte 47 xs) ≡ true
joined_clear [] h = absurd h
joined_clear (x ∷ []) h = component_clear x h
joined_clear (x ∷ y ∷ xs) h = clear_append x (47 ∷ join_with_byte 47 (y ∷ xs)) (component_clear x h.0) (joined_clear (y ∷ xs) h.1)

pub stem_clear : (stem : List ℕ) → IsStem false stem → is_clear stem ≡ true
stem_clear stem s = ap is_clear (sym (join_with_byte-slice_split 47 stem)) ∙ joined_clear (parts stem) s.form

part_clear : (v : Option Parts) → HasVersion v → is_clear (version_part_text v) ≡ true
part_clear None h = absurd h
part_clear (Some v) h = version_clear v h

pub name_clear : (f : Fmri) → IsNamed f → is_clear (fmri_text f) ≡ true
name_clear f h =
    let lead : is_clear (lead_text f.publisher false) ≡ true = rw h.publisher refl in
    clear_append (lead_text f.publisher false ++ f.stem) (version_part_text f.version) (clear_append (lead_text f.publisher false) f.stem lead (stem_clear f.stem h.stem)) (part_clear f.version h.version)
