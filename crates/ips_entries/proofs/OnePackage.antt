-- A manifest's text and a package's record have one meaning, and lists of packages that are told alike are the same.
use Rattle.std.proofs.Common.{◌≡◌, ℕ, Bool, true, false, List, [], ◌∷◌, ◌++◌, sym, ◌∙◌, ap, ap₂, subst, arith, append_assoc}
use Rattle.std.specs.Prelude.{codes}
use Rattle.std.proofs.lemmas.List.{append_cancel_left}
use Rattle.ips_text.proofs.Cuts.{cut_once}
use Rattle.ips_fmri.specs.Version.{Parts, IsVersion, version_text}
use Rattle.ips_action.specs.Action.{Fields}
use Rattle.ips_action.proofs.Told.{one_meaning}
use Rattle.ips_manifest.specs.declared.line.Line.{Line}
use Rattle.ips_manifest.specs.Logical.{Logical, is_skipped, lines_of}
use Rattle.ips_manifest.specs.Manifest.{IsManifestOf, LinesMean, TextMeans}
use Rattle.ips_records.proofs.Clear.{clear_lacks, version_clear}
use Rattle.ips_records.proofs.Fields.{version_one}
use Rattle.ips_state.specs.Text.{package_head}
use Rattle.ips_packages.proofs.LineNumbers.{behind_head}
use Rattle.ips_packages.proofs.Records.{version_first}

-- ---- manifests

pub manifest_one : (text other : List ℕ) (a b : List Line) → text ≡ other → IsManifestOf text a → IsManifestOf other b → a ≡ b
manifest_one text other a b e ha hb = lines_one (lines_of text) a b ha (subst (λ (t : List ℕ). IsManifestOf t b) (sym e) hb)
  where
    text_one : (skipped : Bool) (l : Logical) (a b : List Line) → TextMeans skipped l a → TextMeans skipped l b → a ≡ b
    text_one true l a b ha hb = ha ∙ sym hb
    text_one false l a b ha hb = ha.2 ∙ ap (λ (f : Fields). (let x : Line = record { number = l.number; action = f } in x) ∷ []) (one_meaning l.text ha.0 hb.0 ha.1 hb.1) ∙ sym hb.2

    lines_one : (ls : List Logical) (a b : List Line) → LinesMean ls a → LinesMean ls b → a ≡ b
    lines_one [] a b ha hb = ha ∙ sym hb
    lines_one (l ∷ ls) a b ha hb = ha.4 ∙ ap₂ (λ (x y : List Line). x ++ y) (text_one (is_skipped l.text) l ha.0 hb.0 ha.2.1 hb.2.1) (lines_one ls ha.1 hb.1 ha.3 hb.3) ∙ sym hb.4

-- ---- records of packages

pub record_one : (v w : Parts) (text other : List ℕ) → IsVersion v → IsVersion w → package_head v ++ text ≡ package_head w ++ other → (v ≡ w) × (text ≡ other)
record_one v w text other hv hw e =
    let first = append_cancel_left (codes "package 2\n") (version_first v text) (version_first w other) (sym (behind_head v text) ∙ e ∙ behind_head w other) in
    let second = append_cancel_left (codes "version ") (version_text v ++ 10 ∷ text) (version_text w ++ 10 ∷ other) (sym (version_behind v text) ∙ first ∙ version_behind w other) in
    let parts = cut_once 10 (version_text v) text (version_text w) other (clear_lacks 10 (version_text v) (omega arith) (version_clear v hv)) (clear_lacks 10 (version_text w) (omega arith) (version_clear w hw)) second in
    (version_one v w hv hw parts.0, parts.1)
  where
    version_behind : (v : Parts) (rest : List ℕ) → version_first v rest ≡ codes "version " ++ (version_text v ++ 10 ∷ rest)
    version_behind v rest = ap (λ (l : List ℕ). codes "version " ++ l) (append_assoc (version_text v) (10 ∷ []) rest)
