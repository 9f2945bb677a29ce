-- What a request makes due hangs together.
use Rattle.std.proofs.Common.{◌≡◌, ◌⊎◌, ℕ, Bool, true, false, cond, not, ◌||◌, ◌==◌, List, [], ◌∷◌, ◌++◌, map, filter, Option, Some, None, is_some, refl, sym, ◌∙◌, ap, subst, inl, inr}
use Rattle.std.specs.Prelude.{codes, IsTrue}
use Rattle.std.specs.List.{AllByRecursion, list_any}
use Rattle.std.proofs.lemmas.Bool.{and_parts, or_cases, or_from, or_left, or_parts, or_right, not-true, false_from_ne_true}
use Rattle.std.proofs.lemmas.Option.{same_Some}
use Rattle.std.proofs.lemmas.List.{append_cancel_left}
use Rattle.ips_text.specs.Ancestry.{same_path, covers, is_below, parent}
use Rattle.ips_text.specs.Quote.{quoted, AreBytes}
use Rattle.ips_text.proofs.Ancestry.{same_path-true, same_path-self, at_parent_of, covers_trans}
use Rattle.ips_text.proofs.Quotes.{quoted_apart}
use Rattle.ips_steps.specs.Steps.{stage_name}
use Rattle.ips_steps.specs.Private.{records_name, journal_name, gate_name, mark_front, is_private}
use Rattle.ips_steps.proofs.Lists.{clash}
use Rattle.ips_index.specs.Rows.{IndexedValue}
use Rattle.ips_state.specs.State.{Installed, Recorded}
use Rattle.ips_state.specs.Records.{avoid_path, common_records, freeze_path, gone_stems, history_path, image_path, index_path, index_records, installed_path, listed_records, manifest_path, manifests_path, mediators_path, package_path, package_records, packages_path, records_by, records_of, taken_away, taken_by}
use Rattle.ips_metafiles.specs.Records.{license_path}
use Rattle.ips_after.specs.Findings.{is_account_path}
use Rattle.ips_after.specs.Lists.{listed}
use Rattle.ips_due.specs.Due.{account_at, Content, DueFile, IsDue, is_own, own_records, record_at}
use Rattle.ips_due.specs.State.{renewed_by}
use Rattle.ips_due.specs.Delivered.{AreNamedByBytes, Delivered, Legacy, License, creation_due, delivered_gone, delivered_records, drivers_path, first_folders, gone_license, has_legacy_package, has_license, has_stem, info_path, legacy_folder, legacy_path, legacy_record, license_folder, license_record, licenses_path, owners_path, request_due}
use Rattle.ips_after.proofs.Fits.{at_listed}
use Rattle.ips_due.proofs.StateDue.{all_append, at_record, home, no_slash, own_all, own_folder, packages_seen, parent_of, renewed_is}

-- ---- folders above what is due

-- something is in the folder of a stem's licenses
abbrev license_home : Delivered → List ℕ → Bool
license_home d p = list_any (λ (l : License). same_path (license_folder l.stem) p) d.licenses

-- something is in the folder of a legacy package
abbrev legacy_home : Delivered → List ℕ → Bool
legacy_home d p = list_any (λ (g : Legacy). same_path (legacy_folder g.pkg) p) d.legacy

-- the last of the tests that follow
abbrev or_info : Delivered → List ℕ → Bool
or_info d p = legacy_home d p || same_path (codes "etc") p

abbrev or_legacy : Delivered → List ℕ → Bool
or_legacy d p = covers p legacy_path || or_info d p

abbrev or_stem : Delivered → List ℕ → Bool
or_stem d p = license_home d p || or_legacy d p

abbrev or_license : Delivered → List ℕ → Bool
or_license d p = covers p licenses_path || or_stem d p

-- the path is a folder above what is due
abbrev is_home : Bool → Delivered → List ℕ → Bool
is_home f d p = covers p (home f) || or_license d p

at_home : (f : Bool) (d : Delivered) (p : List ℕ) → covers p (home f) ≡ true → is_home f d p ≡ true
at_home f d p h = or_left (covers p (home f)) (or_license d p) h

at_license : (f : Bool) (d : Delivered) (p : List ℕ) → covers p licenses_path ≡ true → is_home f d p ≡ true
at_license f d p h = or_right (covers p (home f)) (or_license d p) (or_left (covers p licenses_path) (or_stem d p) h)

at_stem : (f : Bool) (d : Delivered) (p : List ℕ) → license_home d p ≡ true → is_home f d p ≡ true
at_stem f d p h = or_right (covers p (home f)) (or_license d p) (or_right (covers p licenses_path) (or_stem d p) (or_left (license_home d p) (or_legacy d p) h))

in_legacy : (f : Bool) (d : Delivered) (p : List ℕ) → or_legacy d p ≡ true → is_home f d p ≡ true
in_legacy f d p h = or_right (covers p (home f)) (or_license d p) (or_right (covers p licenses_path) (or_stem d p) (or_right (license_home d p) (or_legacy d p) h))

at_legacy : (f : Bool) (d : Delivered) (p : List ℕ) → covers p legacy_path ≡ true → is_home f d p ≡ true
at_legacy f d p h = in_legacy f d p (or_left (covers p legacy_path) (or_info d p) h)

at_package : (f : Bool) (d : Delivered) (p : List ℕ) → legacy_home d p ≡ true → is_home f d p ≡ true
at_package f d p h = in_legacy f d p (or_right (covers p legacy_path) (or_info d p) (or_left (legacy_home d p) (same_path (codes "etc") p) h))

at_etc : (f : Bool) (d : Delivered) (p : List ℕ) → same_path (codes "etc") p ≡ true → is_home f d p ≡ true
at_etc f d p h = in_legacy f d p (or_right (covers p legacy_path) (or_info d p) (or_right (legacy_home d p) (same_path (codes "etc") p) h))

none_of : {A : Type 0} (test : A → Bool) (xs : List A) → ((x : A) → test x ≡ false) → list_any test xs ≡ false
none_of test [] h = refl
none_of test (x ∷ xs) h = or_from (test x) (list_any test xs) (h x) (none_of test xs h)

-- A path that is no such folder, told apart from each sort of them.
record IsApart (f : Bool) (d : Delivered) (x : List ℕ) : Type 0 where
  home : covers x (home f) ≡ false
  license : covers x licenses_path ≡ false
  stem : license_home d x ≡ false
  legacy : covers x legacy_path ≡ false
  info : legacy_home d x ≡ false
  etc : same_path (codes "etc") x ≡ false

no_home : (f : Bool) (d : Delivered) (x : List ℕ) → IsApart f d x → is_home f d x ≡ false
no_home f d x a = or_from _ _ a.home (or_from _ _ a.license (or_from _ _ a.stem (or_from _ _ a.legacy (or_from _ _ a.info a.etc))))

-- A path of a record, or one that goes: it is the image's own and not private, and no such folder.
record IsOut (f : Bool) (d : Delivered) (x : List ℕ) : Type 0 where
  own : is_own x ≡ true
  seen : is_private x ≡ false
  out : is_home f d x ≡ false

-- what is above the path is such a folder
abbrev IsIn : Bool → Delivered → List ℕ → Type 0
IsIn f d x = (p : List ℕ) → is_below p x ≡ true → is_home f d p ≡ true

in_parent : (f : Bool) (d : Delivered) (x up : List ℕ) → parent x ≡ Some up → ((p : List ℕ) → covers p up ≡ true → is_home f d p ≡ true) → IsIn f d x
in_parent f d x up is over p below =
    let parts = and_parts (covers p x) (not (same_path p x)) below in
    let at = at_parent_of p x parts.0 (not-true _ parts.1) in
    over p (subst (λ (y : List ℕ). covers p y ≡ true) (same_Some at.dir up (sym at.is ∙ is)) at.up)

-- at or above a folder: at it, or at or above its own
up_two : (p folder top : List ℕ) → parent folder ≡ Some top → covers p folder ≡ true → (same_path folder p ≡ true) ⊎ (covers p top ≡ true)
up_two p folder top is over = go (same_path p folder) refl
  where
    go : (c : Bool) → same_path p folder ≡ c → (same_path folder p ≡ true) ⊎ (covers p top ≡ true)
    go true same = inl (subst (λ (x : List ℕ). same_path folder x ≡ true) (sym (same_path-true p folder same)) (same_path-self folder))
    go false apart = let at = at_parent_of p folder over apart in inr (subst (λ (y : List ℕ). covers p y ≡ true) (same_Some at.dir top (sym at.is ∙ is)) at.up)

-- ---- where the records of a state stand

module _ (f : Bool) (d : Delivered) where
  -- a record's path, of which what is above is such a folder
  abbrev AtRecord : List ℕ → Type 0
  AtRecord x = IsOut f d x × IsIn f d x

  in_own : (x : List ℕ) → parent x ≡ Some (codes "var/pkg") → IsIn f d x
  in_own x is = in_parent f d x (codes "var/pkg") is (λ p over. at_home f d p (covers_trans p (codes "var/pkg") (home f) over (own_folder f)))

  in_child : (s : List ℕ) → IsIn f d (home f ++ 47 ∷ quoted s)
  in_child s = in_parent f d (home f ++ 47 ∷ quoted s) (home f) (parent_of (home f) (quoted s) (no_slash s)) (λ p over. at_home f d p over)

image_out : (f : Bool) (d : Delivered) → IsOut f d image_path
unfolding records_name stage_name journal_name gate_name mark_front
image_out true d = record { own = refl; seen = refl; out = no_home true d image_path (record { home = refl; license = refl; stem = none_of (λ (l : License). same_path (license_folder l.stem) image_path) d.licenses (λ l. refl); legacy = refl; info = none_of (λ (g : Legacy). same_path (legacy_folder g.pkg) image_path) d.legacy (λ g. refl); etc = refl }) }
image_out false d = record { own = refl; seen = refl; out = no_home false d image_path (record { home = refl; license = refl; stem = none_of (λ (l : License). same_path (license_folder l.stem) image_path) d.licenses (λ l. refl); legacy = refl; info = none_of (λ (g : Legacy). same_path (legacy_folder g.pkg) image_path) d.legacy (λ g. refl); etc = refl }) }

avoid_out : (f : Bool) (d : Delivered) → IsOut f d avoid_path
unfolding records_name stage_name journal_name gate_name mark_front
avoid_out true d = record { own = refl; seen = refl; out = no_home true d avoid_path (record { home = refl; license = refl; stem = none_of (λ (l : License). same_path (license_folder l.stem) avoid_path) d.licenses (λ l. refl); legacy = refl; info = none_of (λ (g : Legacy). same_path (legacy_folder g.pkg) avoid_path) d.legacy (λ g. refl); etc = refl }) }
avoid_out false d = record { own = refl; seen = refl; out = no_home false d avoid_path (record { home = refl; license = refl; stem = none_of (λ (l : License). same_path (license_folder l.stem) avoid_path) d.licenses (λ l. refl); legacy = refl; info = none_of (λ (g : Legacy). same_path (legacy_folder g.pkg) avoid_path) d.legacy (λ g. refl); etc = refl }) }

freeze_out : (f : Bool) (d : Delivered) → IsOut f d freeze_path
unfolding records_name stage_name journal_name gate_name mark_front
freeze_out true d = record { own = refl; seen = refl; out = no_home true d freeze_path (record { home = refl; license = refl; stem = none_of (λ (l : License). same_path (license_folder l.stem) freeze_path) d.licenses (λ l. refl); legacy = refl; info = none_of (λ (g : Legacy). same_path (legacy_folder g.pkg) freeze_path) d.legacy (λ g. refl); etc = refl }) }
freeze_out false d = record { own = refl; seen = refl; out = no_home false d freeze_path (record { home = refl; license = refl; stem = none_of (λ (l : License). same_path (license_folder l.stem) freeze_path) d.licenses (λ l. refl); legacy = refl; info = none_of (λ (g : Legacy). same_path (legacy_folder g.pkg) freeze_path) d.legacy (λ g. refl); etc = refl }) }

mediators_out : (f : Bool) (d : Delivered) → IsOut f d mediators_path
unfolding records_name stage_name journal_name gate_name mark_front
mediators_out true d = record { own = refl; seen = refl; out = no_home true d mediators_path (record { home = refl; license = refl; stem = none_of (λ (l : License). same_path (license_folder l.stem) mediators_path) d.licenses (λ l. refl); legacy = refl; info = none_of (λ (g : Legacy). same_path (legacy_folder g.pkg) mediators_path) d.legacy (λ g. refl); etc = refl }) }
mediators_out false d = record { own = refl; seen = refl; out = no_home false d mediators_path (record { home = refl; license = refl; stem = none_of (λ (l : License). same_path (license_folder l.stem) mediators_path) d.licenses (λ l. refl); legacy = refl; info = none_of (λ (g : Legacy). same_path (legacy_folder g.pkg) mediators_path) d.legacy (λ g. refl); etc = refl }) }

history_out : (f : Bool) (d : Delivered) → IsOut f d history_path
unfolding records_name stage_name journal_name gate_name mark_front
history_out true d = record { own = refl; seen = refl; out = no_home true d history_path (record { home = refl; license = refl; stem = none_of (λ (l : License). same_path (license_folder l.stem) history_path) d.licenses (λ l. refl); legacy = refl; info = none_of (λ (g : Legacy). same_path (legacy_folder g.pkg) history_path) d.legacy (λ g. refl); etc = refl }) }
history_out false d = record { own = refl; seen = refl; out = no_home false d history_path (record { home = refl; license = refl; stem = none_of (λ (l : License). same_path (license_folder l.stem) history_path) d.licenses (λ l. refl); legacy = refl; info = none_of (λ (g : Legacy). same_path (legacy_folder g.pkg) history_path) d.legacy (λ g. refl); etc = refl }) }

index_out : (f : Bool) (d : Delivered) → IsOut f d index_path
unfolding records_name stage_name journal_name gate_name mark_front
index_out true d = record { own = refl; seen = refl; out = no_home true d index_path (record { home = refl; license = refl; stem = none_of (λ (l : License). same_path (license_folder l.stem) index_path) d.licenses (λ l. refl); legacy = refl; info = none_of (λ (g : Legacy). same_path (legacy_folder g.pkg) index_path) d.legacy (λ g. refl); etc = refl }) }
index_out false d = record { own = refl; seen = refl; out = no_home false d index_path (record { home = refl; license = refl; stem = none_of (λ (l : License). same_path (license_folder l.stem) index_path) d.licenses (λ l. refl); legacy = refl; info = none_of (λ (g : Legacy). same_path (legacy_folder g.pkg) index_path) d.legacy (λ g. refl); etc = refl }) }

installed_out : (f : Bool) (d : Delivered) → IsOut f d installed_path
unfolding records_name stage_name journal_name gate_name mark_front
installed_out true d = record { own = refl; seen = refl; out = no_home true d installed_path (record { home = refl; license = refl; stem = none_of (λ (l : License). same_path (license_folder l.stem) installed_path) d.licenses (λ l. refl); legacy = refl; info = none_of (λ (g : Legacy). same_path (legacy_folder g.pkg) installed_path) d.legacy (λ g. refl); etc = refl }) }
installed_out false d = record { own = refl; seen = refl; out = no_home false d installed_path (record { home = refl; license = refl; stem = none_of (λ (l : License). same_path (license_folder l.stem) installed_path) d.licenses (λ l. refl); legacy = refl; info = none_of (λ (g : Legacy). same_path (legacy_folder g.pkg) installed_path) d.legacy (λ g. refl); etc = refl }) }

owners_out : (f : Bool) (d : Delivered) → IsOut f d owners_path
unfolding records_name stage_name journal_name gate_name mark_front
owners_out true d = record { own = refl; seen = refl; out = no_home true d owners_path (record { home = refl; license = refl; stem = none_of (λ (l : License). same_path (license_folder l.stem) owners_path) d.licenses (λ l. refl); legacy = refl; info = none_of (λ (g : Legacy). same_path (legacy_folder g.pkg) owners_path) d.legacy (λ g. refl); etc = refl }) }
owners_out false d = record { own = refl; seen = refl; out = no_home false d owners_path (record { home = refl; license = refl; stem = none_of (λ (l : License). same_path (license_folder l.stem) owners_path) d.licenses (λ l. refl); legacy = refl; info = none_of (λ (g : Legacy). same_path (legacy_folder g.pkg) owners_path) d.legacy (λ g. refl); etc = refl }) }

drivers_out : (f : Bool) (d : Delivered) → IsOut f d drivers_path
unfolding records_name stage_name journal_name gate_name mark_front
drivers_out true d = record { own = refl; seen = refl; out = no_home true d drivers_path (record { home = refl; license = refl; stem = none_of (λ (l : License). same_path (license_folder l.stem) drivers_path) d.licenses (λ l. refl); legacy = refl; info = none_of (λ (g : Legacy). same_path (legacy_folder g.pkg) drivers_path) d.legacy (λ g. refl); etc = refl }) }
drivers_out false d = record { own = refl; seen = refl; out = no_home false d drivers_path (record { home = refl; license = refl; stem = none_of (λ (l : License). same_path (license_folder l.stem) drivers_path) d.licenses (λ l. refl); legacy = refl; info = none_of (λ (g : Legacy). same_path (legacy_folder g.pkg) drivers_path) d.legacy (λ g. refl); etc = refl }) }

manifest_out : (f : Bool) (d : Delivered) (z : List ℕ) → IsOut f d (manifests_path ++ 47 ∷ z)
unfolding records_name stage_name journal_name gate_name mark_front
manifest_out true d z = record { own = refl; seen = refl; out = no_home true d (manifests_path ++ 47 ∷ z) (record { home = refl; license = refl; stem = none_of (λ (l : License). same_path (license_folder l.stem) (manifests_path ++ 47 ∷ z)) d.licenses (λ l. refl); legacy = refl; info = none_of (λ (g : Legacy). same_path (legacy_folder g.pkg) (manifests_path ++ 47 ∷ z)) d.legacy (λ g. refl); etc = refl }) }
manifest_out false d z = record { own = refl; seen = refl; out = no_home false d (manifests_path ++ 47 ∷ z) (record { home = refl; license = refl; stem = none_of (λ (l : License). same_path (license_folder l.stem) (manifests_path ++ 47 ∷ z)) d.licenses (λ l. refl); legacy = refl; info = none_of (λ (g : Legacy). same_path (legacy_folder g.pkg) (manifests_path ++ 47 ∷ z)) d.legacy (λ g. refl); etc = refl }) }

package_out : (f : Bool) (d : Delivered) (z : List ℕ) → IsOut f d (packages_path ++ 47 ∷ z)
unfolding records_name stage_name journal_name gate_name mark_front
package_out true d z = record { own = refl; seen = refl; out = no_home true d (packages_path ++ 47 ∷ z) (record { home = refl; license = refl; stem = none_of (λ (l : License). same_path (license_folder l.stem) (packages_path ++ 47 ∷ z)) d.licenses (λ l. refl); legacy = refl; info = none_of (λ (g : Legacy). same_path (legacy_folder g.pkg) (packages_path ++ 47 ∷ z)) d.legacy (λ g. refl); etc = refl }) }
package_out false d z = record { own = refl; seen = refl; out = no_home false d (packages_path ++ 47 ∷ z) (record { home = refl; license = refl; stem = none_of (λ (l : License). same_path (license_folder l.stem) (packages_path ++ 47 ∷ z)) d.licenses (λ l. refl); legacy = refl; info = none_of (λ (g : Legacy). same_path (legacy_folder g.pkg) (packages_path ++ 47 ∷ z)) d.legacy (λ g. refl); etc = refl }) }

-- the folder of manifests goes only where the new format is 2
manifests_out : (d : Delivered) → IsOut false d manifests_path
unfolding records_name stage_name journal_name gate_name mark_front
manifests_out d = record { own = refl; seen = refl; out = no_home false d manifests_path (record { home = refl; license = refl; stem = none_of (λ (l : License). same_path (license_folder l.stem) manifests_path) d.licenses (λ l. refl); legacy = refl; info = none_of (λ (g : Legacy). same_path (legacy_folder g.pkg) manifests_path) d.legacy (λ g. refl); etc = refl }) }

child_out : (f : Bool) (d : Delivered) (z : List ℕ) → IsOut f d (home f ++ 47 ∷ z)
child_out true d z = manifest_out true d z
child_out false d z = package_out false d z

module _ (f : Bool) (d : Delivered) where
  index_all : (o : Option (List IndexedValue)) → AllByRecursion (λ (e : List ℕ × List ℕ). AtRecord f d e.0) (index_records o)
  index_all None = cc
  index_all (Some rows) = ((index_out f d, in_own f d index_path refl), cc)

  common_all : (r : Recorded) → AllByRecursion (λ (e : List ℕ × List ℕ). AtRecord f d e.0) (common_records r)
  common_all r = ((image_out f d, in_own f d image_path refl), ((avoid_out f d, in_own f d avoid_path refl), ((freeze_out f d, in_own f d freeze_path refl), ((mediators_out f d, in_own f d mediators_path refl), ((history_out f d, in_own f d history_path refl), index_all r.index)))))

  each_all : (path : List ℕ → List ℕ) (text : Installed → List ℕ) → ((s : List ℕ) → AtRecord f d (path s)) → (ps : List Installed) → AllByRecursion (λ (e : List ℕ × List ℕ). AtRecord f d e.0) (map (λ p. (path p.stem, text p)) ps)
  each_all path text at [] = cc
  each_all path text at (p ∷ ps) = (at p.stem, each_all path text at ps)

state_all : (f : Bool) (d : Delivered) (r : Recorded) → AllByRecursion (λ (e : List ℕ × List ℕ). AtRecord f d e.0) (common_records r ++ records_by f r.installed)
state_all true d r = all_append (AtRecord true d) (common_records r) (listed_records r.installed) (common_all true d r) ((installed_out true d, in_own true d installed_path refl), each_all true d manifest_path _ (λ s. (child_out true d (quoted s), in_child true d s)) r.installed)
state_all false d r = all_append (AtRecord false d) (common_records r) (package_records r.installed) (common_all false d r) (each_all false d package_path _ (λ s. (child_out false d (quoted s), in_child false d s)) r.installed)

-- ---- licenses and legacy packages

license_parent : (s : List ℕ) → parent (license_folder s) ≡ Some licenses_path
license_parent s = parent_of licenses_path (quoted s) (no_slash s)

file_parent : (s n : List ℕ) → parent (license_path s n) ≡ Some (license_folder s)
file_parent s n = parent_of (license_folder s) (quoted n) (no_slash n)

legacy_parent : (k : List ℕ) → parent (legacy_folder k) ≡ Some legacy_path
legacy_parent k = parent_of legacy_path (quoted k) (no_slash k)

info_parent : (k : List ℕ) → parent (info_path k) ≡ Some (legacy_folder k)
info_parent k = parent_of (legacy_folder k) (codes "pkginfo") refl

-- a folder of a stem is no license, nor one of a legacy package its record
folder_no_file : (s t n : List ℕ) → same_path (license_folder s) (license_path t n) ≡ false
folder_no_file s t n = false_from_ne_true _ (λ h.
    let same = same_path-true (license_folder s) (license_path t n) h in
    let up : licenses_path ≡ license_folder t = same_Some licenses_path (license_folder t) (sym (license_parent s) ∙ ap parent same ∙ file_parent t n) in
    clash (same_path licenses_path (license_folder t)) (subst (λ (x : List ℕ). same_path licenses_path x ≡ true) up refl) refl)

folder_no_info : (k g : List ℕ) → same_path (legacy_folder k) (info_path g) ≡ false
folder_no_info k g = false_from_ne_true _ (λ h.
    let same = same_path-true (legacy_folder k) (info_path g) h in
    let up : legacy_path ≡ legacy_folder g = same_Some legacy_path (legacy_folder g) (sym (legacy_parent k) ∙ ap parent same ∙ info_parent g) in
    clash (same_path legacy_path (legacy_folder g)) (subst (λ (x : List ℕ). same_path legacy_path x ≡ true) up refl) refl)

file_out : (f : Bool) (d : Delivered) (s n : List ℕ) → IsOut f d (license_path s n)
unfolding records_name stage_name journal_name gate_name mark_front
file_out true d s n = record { own = refl; seen = refl; out = no_home true d (license_path s n) (record { home = refl; license = refl; stem = none_of (λ (l : License). same_path (license_folder l.stem) (license_path s n)) d.licenses (λ l. folder_no_file l.stem s n); legacy = refl; info = none_of (λ (g : Legacy). same_path (legacy_folder g.pkg) (license_path s n)) d.legacy (λ g. refl); etc = refl }) }
file_out false d s n = record { own = refl; seen = refl; out = no_home false d (license_path s n) (record { home = refl; license = refl; stem = none_of (λ (l : License). same_path (license_folder l.stem) (license_path s n)) d.licenses (λ l. folder_no_file l.stem s n); legacy = refl; info = none_of (λ (g : Legacy). same_path (legacy_folder g.pkg) (license_path s n)) d.legacy (λ g. refl); etc = refl }) }

info_out : (f : Bool) (d : Delivered) (k : List ℕ) → IsOut f d (info_path k)
unfolding records_name stage_name journal_name gate_name mark_front
info_out true d k = record { own = refl; seen = refl; out = no_home true d (info_path k) (record { home = refl; license = refl; stem = none_of (λ (l : License). same_path (license_folder l.stem) (info_path k)) d.licenses (λ l. refl); legacy = refl; info = none_of (λ (g : Legacy). same_path (legacy_folder g.pkg) (info_path k)) d.legacy (λ g. folder_no_info g.pkg k); etc = refl }) }
info_out false d k = record { own = refl; seen = refl; out = no_home false d (info_path k) (record { home = refl; license = refl; stem = none_of (λ (l : License). same_path (license_folder l.stem) (info_path k)) d.licenses (λ l. refl); legacy = refl; info = none_of (λ (g : Legacy). same_path (legacy_folder g.pkg) (info_path k)) d.legacy (λ g. folder_no_info g.pkg k); etc = refl }) }

-- the folder of a stem of which no license is delivered
folder_out : (f : Bool) (d : Delivered) (s : List ℕ) → license_home d (license_folder s) ≡ false → IsOut f d (license_folder s)
unfolding records_name stage_name journal_name gate_name mark_front
folder_out true d s h = record { own = refl; seen = refl; out = no_home true d (license_folder s) (record { home = refl; license = refl; stem = h; legacy = refl; info = none_of (λ (g : Legacy). same_path (legacy_folder g.pkg) (license_folder s)) d.legacy (λ g. refl); etc = refl }) }
folder_out false d s h = record { own = refl; seen = refl; out = no_home false d (license_folder s) (record { home = refl; license = refl; stem = h; legacy = refl; info = none_of (λ (g : Legacy). same_path (legacy_folder g.pkg) (license_folder s)) d.legacy (λ g. refl); etc = refl }) }

package_folder_out : (f : Bool) (d : Delivered) (k : List ℕ) → legacy_home d (legacy_folder k) ≡ false → IsOut f d (legacy_folder k)
unfolding records_name stage_name journal_name gate_name mark_front
package_folder_out true d k h = record { own = refl; seen = refl; out = no_home true d (legacy_folder k) (record { home = refl; license = refl; stem = none_of (λ (l : License). same_path (license_folder l.stem) (legacy_folder k)) d.licenses (λ l. refl); legacy = refl; info = h; etc = refl }) }
package_folder_out false d k h = record { own = refl; seen = refl; out = no_home false d (legacy_folder k) (record { home = refl; license = refl; stem = none_of (λ (l : License). same_path (license_folder l.stem) (legacy_folder k)) d.licenses (λ l. refl); legacy = refl; info = h; etc = refl }) }

-- folders of two names are two
quoted_differ : (front a b : List ℕ) → AreBytes a → AreBytes b → same_path a b ≡ false → same_path (front ++ 47 ∷ quoted a) (front ++ 47 ∷ quoted b) ≡ false
quoted_differ front a b ha hb apart = false_from_ne_true _ (λ h.
    let whole = same_path-true (front ++ 47 ∷ quoted a) (front ++ 47 ∷ quoted b) h in
    let tails : 47 ∷ quoted a ≡ 47 ∷ quoted b = append_cancel_left front (47 ∷ quoted a) (47 ∷ quoted b) whole in
    let names : quoted a ≡ quoted b = cc in
    clash (same_path a b) (subst (λ (x : List ℕ). same_path a x ≡ true) (quoted_apart a b ha hb names) (same_path-self a)) apart)

stems_differ : (s : List ℕ) → AreBytes s → (ls : List License) → AllByRecursion (λ (l : License). AreBytes l.stem) ls → has_stem ls s ≡ false → list_any (λ (l : License). same_path (license_folder l.stem) (license_folder s)) ls ≡ false
stems_differ s hs [] all h = refl
stems_differ s hs (l ∷ ls) all h =
    let parts = or_parts (same_path l.stem s) (has_stem ls s) h in
    or_from _ _ (quoted_differ licenses_path l.stem s all.0 hs parts.0) (stems_differ s hs ls all.1 parts.1)

packages_differ : (k : List ℕ) → AreBytes k → (gs : List Legacy) → AllByRecursion (λ (g : Legacy). AreBytes g.pkg) gs → has_legacy_package gs k ≡ false → list_any (λ (g : Legacy). same_path (legacy_folder g.pkg) (legacy_folder k)) gs ≡ false
packages_differ k hk [] all h = refl
packages_differ k hk (g ∷ gs) all h =
    let parts = or_parts (same_path g.pkg k) (has_legacy_package gs k) h in
    or_from _ _ (quoted_differ legacy_path g.pkg k all.0 hk parts.0) (packages_differ k hk gs all.1 parts.1)

module _ (f : Bool) (d : Delivered) where
  in_license : (s n : List ℕ) → ((p : List ℕ) → same_path (license_folder s) p ≡ true → license_home d p ≡ true) → IsIn f d (license_path s n)
  in_license s n there = in_parent f d (license_path s n) (license_folder s) (file_parent s n) (λ p over. elim (up_two p (license_folder s) licenses_path (license_parent s) over) [
    | inl same ↦ at_stem f d p (there p same)
    | inr up ↦ at_license f d p up
  ])

  in_info : (k : List ℕ) → ((p : List ℕ) → same_path (legacy_folder k) p ≡ true → legacy_home d p ≡ true) → IsIn f d (info_path k)
  in_info k there = in_parent f d (info_path k) (legacy_folder k) (info_parent k) (λ p over. elim (up_two p (legacy_folder k) legacy_path (legacy_parent k) over) [
    | inl same ↦ at_package f d p (there p same)
    | inr up ↦ at_legacy f d p up
  ])

  licenses_all : (ls : List License) → ((p : List ℕ) → list_any (λ (l : License). same_path (license_folder l.stem) p) ls ≡ true → license_home d p ≡ true)
      → AllByRecursion (λ (e : List ℕ × Content). AtRecord f d e.0) (map license_record ls)
  licenses_all [] there = cc
  licenses_all (l ∷ ls) there =
      ((file_out f d l.stem l.name, in_license l.stem l.name (λ p same. there p (or_left _ _ same))), licenses_all ls (λ p rest. there p (or_right _ _ rest)))

  legacy_all : (gs : List Legacy) → ((p : List ℕ) → list_any (λ (g : Legacy). same_path (legacy_folder g.pkg) p) gs ≡ true → legacy_home d p ≡ true)
      → AllByRecursion (λ (e : List ℕ × Content). AtRecord f d e.0) (map legacy_record gs)
  legacy_all [] there = cc
  legacy_all (g ∷ gs) there =
      ((info_out f d g.pkg, in_info g.pkg (λ p same. there p (or_left _ _ same))), legacy_all gs (λ p rest. there p (or_right _ _ rest)))

  delivered_all : AllByRecursion (λ (e : List ℕ × Content). AtRecord f d e.0) (delivered_records d)
  delivered_all = (
    (owners_out f d, in_own f d owners_path refl),
    (
      (drivers_out f d, in_own f d drivers_path refl),
      all_append (AtRecord f d) (map license_record d.licenses) (map legacy_record d.legacy) (licenses_all d.licenses (λ p h. h)) (legacy_all d.legacy (λ p h. h)),
    ),
  )

  gone_license_out : (l : License) → AreBytes l.stem → AllByRecursion (λ (x : License). AreBytes x.stem) d.licenses → IsOut f d (gone_license d.licenses l)
  gone_license_out l hl all = go (has_stem d.licenses l.stem) refl
    where
      go : (c : Bool) → has_stem d.licenses l.stem ≡ c → IsOut f d (cond c (license_path l.stem l.name) (license_folder l.stem))
      go true h = file_out f d l.stem l.name
      go false h = folder_out f d l.stem (stems_differ l.stem hl d.licenses all h)

  gone_licenses : (ls : List License) → AllByRecursion (λ (x : License). AreBytes x.stem) ls → AllByRecursion (λ (x : License). AreBytes x.stem) d.licenses
      → AllByRecursion (IsOut f d) (map (gone_license d.licenses) (filter (λ (l : License). not (has_license d.licenses l)) ls))
  gone_licenses [] hs all = cc
  gone_licenses (l ∷ ls) hs all = go (not (has_license d.licenses l)) (gone_licenses ls hs.1 all)
    where
      go : (c : Bool) → AllByRecursion (IsOut f d) (map (gone_license d.licenses) (filter (λ (l : License). not (has_license d.licenses l)) ls)) → AllByRecursion (IsOut f d) (map (gone_license d.licenses) (cond c (l ∷ filter (λ (l : License). not (has_license d.licenses l)) ls) (filter (λ (l : License). not (has_license d.licenses l)) ls)))
      go true rest = (gone_license_out l hs.0 all, rest)
      go false rest = rest

  gone_legacy : (gs : List Legacy) → AllByRecursion (λ (x : Legacy). AreBytes x.pkg) gs → AllByRecursion (λ (x : Legacy). AreBytes x.pkg) d.legacy
      → AllByRecursion (IsOut f d) (map (λ (g : Legacy). legacy_folder g.pkg) (filter (λ (g : Legacy). not (has_legacy_package d.legacy g.pkg)) gs))
  gone_legacy [] hs all = cc
  gone_legacy (g ∷ gs) hs all = go (has_legacy_package d.legacy g.pkg) refl (gone_legacy gs hs.1 all)
    where
      go : (c : Bool) → has_legacy_package d.legacy g.pkg ≡ c → AllByRecursion (IsOut f d) (map (λ (g : Legacy). legacy_folder g.pkg) (filter (λ (g : Legacy). not (has_legacy_package d.legacy g.pkg)) gs)) → AllByRecursion (IsOut f d) (map (λ (g : Legacy). legacy_folder g.pkg) (cond (not c) (g ∷ filter (λ (g : Legacy). not (has_legacy_package d.legacy g.pkg)) gs) (filter (λ (g : Legacy). not (has_legacy_package d.legacy g.pkg)) gs)))
      go true h rest = rest
      go false h rest = (package_folder_out f d g.pkg (packages_differ g.pkg hs.0 d.legacy all h), rest)

  all_both : (xs ys : List (List ℕ)) → AllByRecursion (IsOut f d) xs → AllByRecursion (IsOut f d) ys → AllByRecursion (IsOut f d) (xs ++ ys)
  all_both [] ys a b = b
  all_both (x ∷ xs) ys a b = (a.0, all_both xs ys a.1 b)

  stems_out : (path : List ℕ → List ℕ) → ((s : List ℕ) → IsOut f d (path s)) → (stems : List (List ℕ)) → AllByRecursion (IsOut f d) (map path stems)
  stems_out path at [] = cc
  stems_out path at (s ∷ stems) = (at s, stems_out path at stems)

taken_out : (was is : Bool) (d : Delivered) (old new : List Installed) → AllByRecursion (IsOut is d) (taken_by was is old new)
taken_out true true d old new = stems_out true d manifest_path (λ s. child_out true d (quoted s)) (gone_stems old new)
taken_out true false d old new = (installed_out false d, (manifests_out d, cc))
taken_out false true d old new = cc
taken_out false false d old new = stems_out false d package_path (λ s. child_out false d (quoted s)) (gone_stems old new)

-- ---- account files

account_out : (f : Bool) (d : Delivered) (x : List ℕ) → is_account_path x ≡ true → is_home f d x ≡ false
account_out f d x h = elim (or_cases (same_path (codes "etc/passwd") x) _ h) [
  | inl one ↦ at f (codes "etc/passwd") x one (passwd f)
  | inr more ↦ elim (or_cases (same_path (codes "etc/shadow") x) _ more) [
    | inl two ↦ at f (codes "etc/shadow") x two (shadow f)
    | inr three ↦ at f (codes "etc/group") x three (group f)
  ]
]
  where
    at : (f : Bool) (a x : List ℕ) → same_path a x ≡ true → is_home f d a ≡ false → is_home f d x ≡ false
    at f a x same out = subst (λ (y : List ℕ). is_home f d y ≡ false) (same_path-true a x same) out

    passwd : (f : Bool) → is_home f d (codes "etc/passwd") ≡ false
    passwd true = no_home true d (codes "etc/passwd") (record { home = refl; license = refl; stem = none_of (λ (l : License). same_path (license_folder l.stem) (codes "etc/passwd")) d.licenses (λ l. refl); legacy = refl; info = none_of (λ (g : Legacy). same_path (legacy_folder g.pkg) (codes "etc/passwd")) d.legacy (λ g. refl); etc = refl })
    passwd false = no_home false d (codes "etc/passwd") (record { home = refl; license = refl; stem = none_of (λ (l : License). same_path (license_folder l.stem) (codes "etc/passwd")) d.licenses (λ l. refl); legacy = refl; info = none_of (λ (g : Legacy). same_path (legacy_folder g.pkg) (codes "etc/passwd")) d.legacy (λ g. refl); etc = refl })

    shadow : (f : Bool) → is_home f d (codes "etc/shadow") ≡ false
    shadow true = no_home true d (codes "etc/shadow") (record { home = refl; license = refl; stem = none_of (λ (l : License). same_path (license_folder l.stem) (codes "etc/shadow")) d.licenses (λ l. refl); legacy = refl; info = none_of (λ (g : Legacy). same_path (legacy_folder g.pkg) (codes "etc/shadow")) d.legacy (λ g. refl); etc = refl })
    shadow false = no_home false d (codes "etc/shadow") (record { home = refl; license = refl; stem = none_of (λ (l : License). same_path (license_folder l.stem) (codes "etc/shadow")) d.licenses (λ l. refl); legacy = refl; info = none_of (λ (g : Legacy). same_path (legacy_folder g.pkg) (codes "etc/shadow")) d.legacy (λ g. refl); etc = refl })

    group : (f : Bool) → is_home f d (codes "etc/group") ≡ false
    group true = no_home true d (codes "etc/group") (record { home = refl; license = refl; stem = none_of (λ (l : License). same_path (license_folder l.stem) (codes "etc/group")) d.licenses (λ l. refl); legacy = refl; info = none_of (λ (g : Legacy). same_path (legacy_folder g.pkg) (codes "etc/group")) d.legacy (λ g. refl); etc = refl })
    group false = no_home false d (codes "etc/group") (record { home = refl; license = refl; stem = none_of (λ (l : License). same_path (license_folder l.stem) (codes "etc/group")) d.licenses (λ l. refl); legacy = refl; info = none_of (λ (g : Legacy). same_path (legacy_folder g.pkg) (codes "etc/group")) d.legacy (λ g. refl); etc = refl })

account_in : (f : Bool) (d : Delivered) (x : List ℕ) → is_account_path x ≡ true → IsIn f d x
account_in f d x h = in_parent f d x (codes "etc") (etc_parent x h) (λ p over. at_etc f d p (etc_only p over))
  where
    etc_parent : (x : List ℕ) → is_account_path x ≡ true → parent x ≡ Some (codes "etc")
    etc_parent x h = elim (or_cases (same_path (codes "etc/passwd") x) _ h) [
      | inl one ↦ subst (λ (y : List ℕ). parent y ≡ Some (codes "etc")) (same_path-true (codes "etc/passwd") x one) refl
      | inr more ↦ elim (or_cases (same_path (codes "etc/shadow") x) _ more) [
        | inl two ↦ subst (λ (y : List ℕ). parent y ≡ Some (codes "etc")) (same_path-true (codes "etc/shadow") x two) refl
        | inr three ↦ subst (λ (y : List ℕ). parent y ≡ Some (codes "etc")) (same_path-true (codes "etc/group") x three) refl
      ]
    ]

    etc_only : (p : List ℕ) → covers p (codes "etc") ≡ true → same_path (codes "etc") p ≡ true
    etc_only p over = go (same_path p (codes "etc")) refl
      where
        go : (c : Bool) → same_path p (codes "etc") ≡ c → same_path (codes "etc") p ≡ true
        go true same = subst (λ (x : List ℕ). same_path (codes "etc") x ≡ true) (sym (same_path-true p (codes "etc") same)) refl
        go false apart = let at = at_parent_of p (codes "etc") over apart in let none : Some at.dir ≡ None = sym at.is in absurd (cc)

-- ---- what a request makes due

folder_own : is_own packages_path ≡ true
unfolding records_name
folder_own = refl

module _ (accounts : List DueFile) (old new : Recorded) (was is : Delivered) (files : (q : List ℕ) → IsTrue (is_some (account_at accounts q)) → IsTrue (is_account_path q)) (named_old : AreNamedByBytes was) (named : AreNamedByBytes is) where
  abbrev form : Bool
  form = new.format == 1

  abbrev older : Bool
  older = old.format == 1

  abbrev all_records : List (List ℕ × Content)
  all_records = own_records (records_of new) ++ delivered_records is

  abbrev all_gone : List (List ℕ)
  all_gone = taken_away old new ++ delivered_gone was is

  record_at_home : (q : List ℕ) → is_some (record_at all_records q) ≡ true → AtRecord form is q
  record_at_home q h = at_record (AtRecord form is) all_records q (all_append (AtRecord form is) (own_records (records_of new)) (delivered_records is) (own_all (AtRecord form is) (records_of new) (state_all form is new)) (delivered_all form is)) h

  gone_at : (q : List ℕ) → listed all_gone q ≡ true → IsOut form is q
  gone_at q h = at_listed (IsOut form is) all_gone q
      (all_both form is (taken_away old new) (delivered_gone was is) (taken_out older form is old.installed new.installed)
      (all_both form is (map (gone_license is.licenses) (filter (λ (l : License). not (has_license is.licenses l)) was.licenses)) (map (λ (g : Legacy). legacy_folder g.pkg) (filter (λ (g : Legacy). not (has_legacy_package is.legacy g.pkg)) was.legacy))
      (gone_licenses form is was.licenses named_old.stems named.stems) (gone_legacy form is was.legacy named_old.packages named.packages))) h

  renewed_at : (q : List ℕ) → listed (renewed_by older form) q ≡ true → (is_own q ≡ true) × (is_private q ≡ false)
  renewed_at q h = let at = (renewed_is older form q h).0 in (ap is_own at ∙ folder_own, ap is_private at ∙ packages_seen)

  renewed_in : (q : List ℕ) → listed (renewed_by older form) q ≡ true → IsIn form is q
  renewed_in q h = in_own form is q (ap parent (renewed_is older form q h).0)

  own_at : (q : List ℕ) → (is_some (record_at all_records q) || (listed (renewed_by older form) q || (false || listed all_gone q))) ≡ true → (is_own q ≡ true) × (is_private q ≡ false)
  own_at q h = elim (or_cases (is_some (record_at all_records q)) _ h) [
    | inl record_due ↦ let at = (record_at_home q record_due).0 in (at.own, at.seen)
    | inr more ↦ elim (or_cases (listed (renewed_by older form) q) _ more) [
      | inl renewed ↦ renewed_at q renewed
      | inr gone ↦ let at = gone_at q gone in (at.own, at.seen)
    ]
  ]

  due_in : (q : List ℕ) → (is_some (account_at accounts q) || (is_some (record_at all_records q) || (listed (renewed_by older form) q || false))) ≡ true → IsIn form is q
  due_in q h = elim (or_cases (is_some (account_at accounts q)) _ h) [
    | inl account ↦ account_in form is q (files q account)
    | inr rest ↦ elim (or_cases (is_some (record_at all_records q)) _ rest) [
      | inl record_due ↦ (record_at_home q record_due).1
      | inr more ↦ elim (or_cases (listed (renewed_by older form) q) false more) [
        | inl renewed ↦ renewed_in q renewed
        | inr none ↦ cc
      ]
    ]
  ]

  pub request_is_due : IsDue (request_due accounts old new was is)
  request_is_due = record {
    accounts = files;
    own = own_at;
    flat = λ p q up h. false_from_ne_true _ (λ bad. elim (or_cases (is_some (account_at accounts p)) _ bad) [
      | inl account ↦ clash (is_home form is p) (due_in q h p up) (account_out form is p (files p account))
      | inr rest ↦ elim (or_cases (is_some (record_at all_records p)) (listed all_gone p) rest) [
        | inl record_due ↦ clash (is_home form is p) (due_in q h p up) (record_at_home p record_due).0.out
        | inr gone ↦ clash (is_home form is p) (due_in q h p up) (gone_at p gone).out
      ]
    ]);
  }

-- ---- what an image is made with

-- nothing is delivered
abbrev nothing : Delivered
nothing = record { owners = []; drivers = []; licenses = []; legacy = [] }

-- the folder of what was lost
abbrev lost_path : List ℕ
lost_path = codes "var/pkg/lost+found"

first_own : AllByRecursion (λ (x : List ℕ). (is_own x ≡ true) × (is_private x ≡ false)) first_folders
unfolding records_name stage_name journal_name gate_name mark_front
first_own = ((refl, refl), ((refl, refl), tt))

module _ (new : Recorded) where
  abbrev made : Bool
  made = new.format == 1

  abbrev first_records : List (List ℕ × Content)
  first_records = own_records (records_of new) ++ delivered_records nothing

  first_at : (q : List ℕ) → is_some (record_at first_records q) ≡ true → AtRecord made nothing q
  first_at q h = at_record (AtRecord made nothing) first_records q (all_append (AtRecord made nothing) (own_records (records_of new)) (delivered_records nothing) (own_all (AtRecord made nothing) (records_of new) (state_all made nothing new)) (delivered_all made nothing)) h

  first_in : AllByRecursion (IsIn made nothing) first_folders
  first_in = (in_own made nothing licenses_path refl, (in_own made nothing lost_path refl, tt))

  -- the place of an index, where what stands goes
  index_gone : (q : List ℕ) → listed (index_path ∷ []) q ≡ true → IsOut made nothing q
  index_gone q h = at_listed (IsOut made nothing) (index_path ∷ []) q (index_out made nothing, tt) h

  first_due : (q : List ℕ) → (false || (is_some (record_at first_records q) || (listed (packages_path ∷ []) q || listed first_folders q))) ≡ true → IsIn made nothing q
  first_due q h = elim (or_cases (is_some (record_at first_records q)) (listed (packages_path ∷ []) q || listed first_folders q) h) [
    | inl record_due ↦ (first_at q record_due).1
    | inr more ↦ elim (or_cases (listed (packages_path ∷ []) q) (listed first_folders q) more) [
      | inl packages ↦ at_listed (IsIn made nothing) (packages_path ∷ []) q (in_own made nothing packages_path refl, tt) packages
      | inr folder ↦ at_listed (IsIn made nothing) first_folders q first_in folder
    ]
  ]

  owned_first : (q : List ℕ) → (is_some (record_at first_records q) || (listed (packages_path ∷ []) q || (listed first_folders q || listed (index_path ∷ []) q))) ≡ true → (is_own q ≡ true) × (is_private q ≡ false)
  owned_first q h = elim (or_cases (is_some (record_at first_records q)) _ h) [
    | inl record_due ↦ let at = (first_at q record_due).0 in (at.own, at.seen)
    | inr more ↦ elim (or_cases (listed (packages_path ∷ []) q) _ more) [
      | inl packages ↦ at_listed (λ (x : List ℕ). (is_own x ≡ true) × (is_private x ≡ false)) (packages_path ∷ []) q ((folder_own, packages_seen), tt) packages
      | inr rest ↦ elim (or_cases (listed first_folders q) (listed (index_path ∷ []) q) rest) [
        | inl folder ↦ at_listed (λ (x : List ℕ). (is_own x ≡ true) × (is_private x ≡ false)) first_folders q first_own folder
        | inr gone ↦ let at = index_gone q gone in (at.own, at.seen)
      ]
    ]
  ]

  pub creation_is_due : IsDue (creation_due new)
  creation_is_due = record {
    accounts = λ q h. cc;
    own = owned_first;
    flat = λ p q up h. false_from_ne_true _ (λ bad. elim (or_cases (is_some (record_at first_records p)) (listed (index_path ∷ []) p) bad) [
      | inl record_due ↦ clash (is_home made nothing p) (first_due q h p up) (first_at p record_due).0.out
      | inr gone ↦ clash (is_home made nothing p) (first_due q h p up) (index_gone p gone).out
    ]);
  }
