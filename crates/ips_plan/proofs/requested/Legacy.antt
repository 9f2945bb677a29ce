-- A record of a legacy package is due only where the new packages keep one.
use Rattle.std.proofs.Common.{◌≡◌, ℕ, Bool, true, false, cond, ◌||◌, ◌==◌, List, [], ◌∷◌, ◌++◌, map, filter, slice_get, Option, Some, None, is_some, refl, sym, ap, subst, ◌∙◌, inl, inr}
use Rattle.std.specs.Prelude.{codes}
use Rattle.std.specs.List.{AllByRecursion}
use Rattle.std.proofs.lemmas.Bool.{false_from_ne_true, or_cases, or_parts, true≢false}
use Rattle.std.proofs.lemmas.Option.{none-some}
use Rattle.ips_text.specs.Ancestry.{is_below, same_path}
use Rattle.ips_text.proofs.Ancestry.{same_path-true}
use Rattle.ips_action.specs.declared.kind.ActionKind.{ActionKind}
use Rattle.ips_action.specs.declared.kind.ActionKind.TheVariants as kind
use Rattle.ips_action.specs.Attrs.{values_of}
use Rattle.ips_manifest.specs.declared.package.Package.{Package}
use Rattle.ips_filter.specs.Settings.{Set}
use Rattle.ips_mediate.specs.declared.set.SetMediator.{SetMediator}
use Rattle.ips_mediate.specs.Mediation.{of_link}
use Rattle.ips_conflict.specs.declared.placed.Placed.{Placed}
use Rattle.ips_conflict.specs.Clash.{has_legacy}
use Rattle.ips_conflict.specs.Key.{is_legacy}
use Rattle.ips_meaning.specs.Taken.{Leaves, Stays, Taken}
use Rattle.ips_after.specs.Findings.{is_account_path}
use Rattle.ips_after.specs.Lists.{listed}
use Rattle.ips_index.specs.Rows.{IndexedValue}
use Rattle.ips_state.specs.State.{Installed, Recorded}
use Rattle.ips_state.specs.Records.{common_records, index_records, manifest_path, package_path, records_by, records_of}
use Rattle.ips_books.specs.Accounts.{Accounts}
use Rattle.ips_due.specs.Due.{Content, Due, DueFile, IsDue, MeansSame, account_at, is_due, own_records, record_at}
use Rattle.ips_due.specs.Delivered.{Delivered, Legacy, License, delivered_records, legacy_path, legacy_record, license_record, request_due}
use Rattle.ips_due.proofs.StateDue.{all_append, at_record, own_all, renewed_is}
use Rattle.ips_delivered.specs.delivered.Delivering.{PackagesDeliver, legacies_of, legacy_of}
use Rattle.ips_delivered.proofs.delivered.OneList.{one_admitted}

-- ---- all other records stand elsewhere

-- the path isn't below the folder of legacy packages
abbrev Elsewhere : List ℕ → Type 0
Elsewhere x = is_below legacy_path x ≡ false

index_elsewhere : (o : Option (List IndexedValue)) → AllByRecursion (λ (e : List ℕ × List ℕ). Elsewhere e.0) (index_records o)
index_elsewhere None = tt
index_elsewhere (Some rows) = (refl, tt)

common_elsewhere : (r : Recorded) → AllByRecursion (λ (e : List ℕ × List ℕ). Elsewhere e.0) (common_records r)
common_elsewhere r = (refl, (refl, (refl, (refl, (refl, index_elsewhere r.index)))))

placed_elsewhere : (path : List ℕ → List ℕ) → ((stem : List ℕ) → Elsewhere (path stem)) → (text : Installed → List ℕ) (ps : List Installed) → AllByRecursion (λ (e : List ℕ × List ℕ). Elsewhere e.0) (map (λ p. (path p.stem, text p)) ps)
placed_elsewhere path at text [] = tt
placed_elsewhere path at text (p ∷ ps) = (at p.stem, placed_elsewhere path at text ps)

installed_elsewhere : (f : Bool) (ps : List Installed) → AllByRecursion (λ (e : List ℕ × List ℕ). Elsewhere e.0) (records_by f ps)
installed_elsewhere true ps = (refl, placed_elsewhere manifest_path (λ s. refl) _ ps)
installed_elsewhere false ps = placed_elsewhere package_path (λ s. refl) _ ps

licenses_elsewhere : (ls : List License) → AllByRecursion (λ (e : List ℕ × Content). Elsewhere e.0) (map license_record ls)
licenses_elsewhere [] = tt
licenses_elsewhere (l ∷ ls) = (refl, licenses_elsewhere ls)

no_legacy : (gs : List Legacy) → gs ≡ [] → AllByRecursion (λ (e : List ℕ × Content). Elsewhere e.0) (map legacy_record gs)
no_legacy [] none = tt
no_legacy (g ∷ gs) none = cc

module _ (new : Recorded) (is : Delivered) (none : is.legacy ≡ []) where
  records_elsewhere : (q : List ℕ) → is_some (record_at (own_records (records_of new) ++ delivered_records is) q) ≡ true → Elsewhere q
  records_elsewhere q h = at_record Elsewhere (own_records (records_of new) ++ delivered_records is) q (all_append Elsewhere (own_records (records_of new)) (delivered_records is)
      (own_all Elsewhere (records_of new) (all_append Elsewhere (common_records new) (records_by (new.format == 1) new.installed) (common_elsewhere new) (installed_elsewhere (new.format == 1) new.installed)))
      (refl, (refl, all_append Elsewhere (map license_record is.licenses) (map legacy_record is.legacy) (licenses_elsewhere is.licenses) (no_legacy is.legacy none)))) h

account_elsewhere : (q : List ℕ) → is_account_path q ≡ true → Elsewhere q
account_elsewhere q h = elim (or_cases (same_path (codes "etc/passwd") q) (same_path (codes "etc/shadow") q || same_path (codes "etc/group") q) h) [
  | inl same ↦ subst Elsewhere (same_path-true (codes "etc/passwd") q same) refl
  | inr other ↦ elim (or_cases (same_path (codes "etc/shadow") q) (same_path (codes "etc/group") q) other) [
    | inl same ↦ subst Elsewhere (same_path-true (codes "etc/shadow") q same) refl
    | inr same ↦ subst Elsewhere (same_path-true (codes "etc/group") q same) refl
  ]
]

-- ---- legacy packages that are delivered are kept

unlinked : (k : ActionKind) (value : Option (List ℕ)) → is_legacy k ≡ true → of_link k value ≡ None
unlinked kind.Set value h = refl
unlinked kind.Depend value h = refl
unlinked kind.Dir value h = refl
unlinked kind.File value h = refl
unlinked kind.Link value h = cc
unlinked kind.Hardlink value h = cc
unlinked kind.User value h = refl
unlinked kind.Group value h = refl
unlinked kind.Driver value h = refl
unlinked kind.License value h = refl
unlinked kind.Legacy value h = refl
unlinked kind.Signature value h = refl

module _ (mediators : List SetMediator) (all : List Placed) where
  stays : (p : Placed) → is_legacy p.action.kind ≡ true → Stays mediators all p
  stays p h name is = absurd (none-some name (sym (unlinked p.action.kind (slice_get (values_of (codes "mediator") p.action.attrs) 0) h) ∙ is))

  -- the legacy packages of the rest are those of all, where the first action is none
  later : (p : Placed) (admitted : List Placed) → is_legacy p.action.kind ≡ false → legacies_of (p ∷ admitted) ≡ legacies_of admitted
  later p admitted is = ap (λ (b : Bool). map legacy_of (cond b (p ∷ filter (λ (x : Placed). is_legacy x.action.kind) admitted) (filter (λ (x : Placed). is_legacy x.action.kind) admitted))) is

  none_delivered : (admitted kept : List Placed) → Leaves (Stays mediators all) admitted kept → has_legacy kept ≡ false → legacies_of admitted ≡ []
  none_delivered [] kept left none = refl
  none_delivered (p ∷ admitted) kept (inl w) none =
      let parts = or_parts (is_legacy p.action.kind) (has_legacy w.1.0) (sym (ap has_legacy w.1.2) ∙ none) in
      later p admitted parts.0 ∙ none_delivered admitted w.1.0 w.1.1 parts.1
  none_delivered (p ∷ admitted) kept (inr w) none =
      let none_here : is_legacy p.action.kind ≡ false = false_from_ne_true (is_legacy p.action.kind) (λ is. w.0 (stays p is)) in
      later p admitted none_here ∙ none_delivered admitted kept w.1 none

none_kept : (settings : Set) (mediators : List SetMediator) (packages : List Package) (books : Accounts) (is : Delivered) (taken : Taken settings mediators packages) → PackagesDeliver books settings packages is → has_legacy taken.kept ≡ false → is.legacy ≡ []
none_kept settings mediators packages books is taken d none =
    let same : d.admitted ≡ taken.admitted = one_admitted settings packages d.admitted taken.admitted d.are_admitted taken.are_admitted in
    ap (λ (x : Delivered). x.legacy) d.is ∙ ap legacies_of same ∙ none_delivered mediators taken.admitted taken.admitted taken.kept taken.are_kept none

-- ---- so nothing is due below their folder where none is kept

module _ (files : List DueFile) (old new : Recorded) (was is : Delivered) (due : Due) (means : MeansSame due (request_due files old new was is)) (together : IsDue due) where
  elsewhere : is.legacy ≡ [] → (q : List ℕ) → is_due due q ≡ true → Elsewhere q
  elsewhere none q h = elim (or_cases (is_some (account_at due.accounts q)) (is_some (record_at due.records q) || (listed due.renewed q || listed due.folders q)) h) [
    | inl account ↦ account_elsewhere q (together.accounts q account)
    | inr rest ↦ elim (or_cases (is_some (record_at due.records q)) (listed due.renewed q || listed due.folders q) rest) [
      | inl record_due ↦ records_elsewhere new is none q (sym (ap is_some (means.records q)) ∙ record_due)
      | inr more ↦ elim (or_cases (listed due.renewed q) (listed due.folders q) more) [
        | inl renewed ↦ let at = renewed_is (old.format == 1) (new.format == 1) q (sym (means.renewed q) ∙ renewed) in subst Elsewhere (sym at.0) refl
        | inr folder ↦ absurd (true≢false (sym folder ∙ means.folders q))
      ]
    ]
  ]

  pub legacy_kept : (settings : Set) (mediators : List SetMediator) (packages : List Package) (books : Accounts) (taken : Taken settings mediators packages) → PackagesDeliver books settings packages is
      → (q : List ℕ) → is_below (codes "var/sadm/pkg") q ≡ true → is_due due q ≡ true → has_legacy taken.kept ≡ true
  legacy_kept settings mediators packages books taken d q below there = go (has_legacy taken.kept) refl
    where
      go : (b : Bool) → has_legacy taken.kept ≡ b → has_legacy taken.kept ≡ true
      go true kept = kept
      go false none = absurd (true≢false (sym below ∙ elsewhere (none_kept settings mediators packages books is taken d none) q there))
