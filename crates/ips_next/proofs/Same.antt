-- States whose lists are alike.
use Rattle.std.proofs.Common.{◌≡◌, List, [], ◌∷◌, map, Some, None, refl, sym, ap, ◌∙◌}
use Rattle.std.proofs.lemmas.Option.{same_Some}
use Rattle.ips_fmri.specs.declared.fmri.Fmri.{Fmri}
use Rattle.ips_manifest.specs.declared.package.Package.{Package}
use Rattle.ips_state.specs.declared.state.State.{State}
use Rattle.ips_state.specs.State.{installed, recorded}
use Rattle.ips_state.specs.Text.{versioned_stem}
use Rattle.ips_next.specs.Alike.{AreAlike, AreAlikeLists, IsSamePackage}
use Rattle.ips_next.specs.Next.{IsUnchanged}
use Rattle.ips_next.proofs.Comparing.{alike_shown, shown_alike, all_equal, equal_all}

shown : (ps : List Package) → map versioned_stem (map installed ps) ≡ map (λ p. versioned_stem (installed p)) ps
shown [] = refl
shown (p ∷ ps) = ap (λ (l : List Fmri). versioned_stem (installed p) ∷ l) (shown ps)

one_name : (p q : Package) → IsSamePackage p q → versioned_stem (installed p) ≡ versioned_stem (installed q)
one_name p q same = λ i. record { publisher = None; stem = same.0 i; version = Some (same.1 i) }

one_package : (p q : Package) → versioned_stem (installed p) ≡ versioned_stem (installed q) → IsSamePackage p q
one_package p q same = (ap (λ (f : Fmri). f.stem) same, same_Some p.version q.version (ap (λ (f : Fmri). f.version) same))

selection_same : (ps qs : List Package) → AreAlike IsSamePackage ps qs → map versioned_stem (map installed qs) ≡ map versioned_stem (map installed ps)
selection_same ps qs all = shown qs ∙ sym (alike_shown IsSamePackage (λ p. versioned_stem (installed p)) one_name ps qs all) ∙ sym (shown ps)

same_selection : (ps qs : List Package) → map versioned_stem (map installed qs) ≡ map versioned_stem (map installed ps) → AreAlike IsSamePackage ps qs
same_selection ps qs same = shown_alike IsSamePackage (λ p. versioned_stem (installed p)) one_package ps qs (sym (shown ps) ∙ sym same ∙ shown qs)

-- what isn't changed has lists that are alike
pub alike_lists : (old new : State) → IsUnchanged (recorded old) (recorded new) → AreAlikeLists old new
alike_lists old new same = record {
  format = sym same.format;
  origins = equal_all old.origins.items new.origins.items (sym same.origins);
  installed = same_selection old.installed.items new.installed.items same.selection;
  avoid = equal_all old.avoid.items new.avoid.items (sym same.avoid);
  freeze = equal_all old.freeze.items new.freeze.items (sym same.freeze);
  mediators = equal_all old.mediators.items new.mediators.items (sym same.mediators);
}

-- and the other way round, where the settings and the indexes are the same
pub unchanged : (old new : State) → AreAlikeLists old new → new.settings ≡ old.settings → new.index ≡ old.index → IsUnchanged (recorded old) (recorded new)
unchanged old new lists settings index = record {
  selection = selection_same old.installed.items new.installed.items lists.installed;
  settings = settings;
  avoid = sym (all_equal old.avoid.items new.avoid.items lists.avoid);
  freeze = sym (all_equal old.freeze.items new.freeze.items lists.freeze);
  mediators = sym (all_equal old.mediators.items new.mediators.items lists.mediators);
  origins = sym (all_equal old.origins.items new.origins.items lists.origins);
  format = sym lists.format;
  index = index;
}
