-- No two lists of stems, names or mediators have one text.
use Rattle.std.proofs.Common.{◌≡◌, ℕ, false, List, ◌++◌, map, sym, ◌∙◌, ap, subst, arith}
use Rattle.ips_text.specs.Quote.{quoted}
use Rattle.ips_fmri.specs.Fmri.{fmri_text}
use Rattle.ips_fmri.specs.Name.{IsStem}
use Rattle.ips_fmri.specs.declared.fmri.Fmri.{Fmri}
use Rattle.ips_text.specs.Cut.{has_byte}
use Rattle.ips_records.specs.Lines.{lines_text}
use Rattle.ips_text.proofs.Cuts.{lacks_append}
use Rattle.ips_records.proofs.Apart.{texts_apart}
use Rattle.ips_records.specs.Form.{IsNamed}
use Rattle.ips_records.specs.Field.{version_field, word_field}
use Rattle.ips_records.proofs.Clear.{clear_lacks, word_clear, version_field_clear, word_field_clear}
use Rattle.ips_records.proofs.ClearNames.{stem_clear, name_clear}
use Rattle.ips_records.proofs.NameForms.{fmri_one, named_fmri}
use Rattle.ips_mediate.specs.declared.set.SetMediator.{SetMediator}
use Rattle.ips_state.specs.Form.{IsSetting}
use Rattle.ips_state.specs.Text.{name_lines, mediator_line}
use Rattle.ips_state.specs.Lawful.{AreStems, AreVersioned, AreMediators}
use Rattle.ips_load.proofs.Settings.{setting_one}
use Rattle.ips_load.proofs.FileKinds.{same_list}

pub stems_one : (a b : List (List ℕ)) → AreStems a → AreStems b → lines_text a ≡ lines_text b → a ≡ b
stems_one a b ha hb e =
    texts_apart (λ (s : List ℕ). s) (IsStem false) (λ x y hx hy same. same) (λ s h. clear_lacks 10 s (omega arith) (stem_clear s h)) a b ha.each hb.each
    (ap lines_text (same_list a) ∙ e ∙ sym (ap lines_text (same_list b)))

pub names_one : (a b : List Fmri) → AreVersioned a → AreVersioned b → lines_text (name_lines a) ≡ lines_text (name_lines b) → a ≡ b
names_one a b ha hb e =
    texts_apart fmri_text IsNamed (λ f g hf hg same. fmri_one f g (named_fmri f hf) (named_fmri g hg) same) (λ f h. clear_lacks 10 (fmri_text f) (omega arith) (name_clear f h)) a b ha.each hb.each e

line_single : (m : SetMediator) → IsSetting m → has_byte 10 (mediator_line m) ≡ false
line_single m h =
    lacks_append 10 (quoted m.name) _ (clear_lacks 10 (quoted m.name) (omega arith) (word_clear m.name h.name))
    (lacks_append 10 (version_field m.version) _ (clear_lacks 10 (version_field m.version) (omega arith) (version_field_clear m.version h.version))
    (clear_lacks 10 (word_field m.implementation) (omega arith) (word_field_clear m.implementation h.implementation)))

pub mediators_one : (a b : List SetMediator) → AreMediators a → AreMediators b → lines_text (map mediator_line a) ≡ lines_text (map mediator_line b) → a ≡ b
mediators_one a b ha hb e = texts_apart mediator_line IsSetting setting_one line_single a b ha.each hb.each e
