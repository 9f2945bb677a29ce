-- States with the same records have the same admitted actions, and mean the same.
use Rattle.std.proofs.Common.{◌≡◌, ℕ, List, [], ◌∷◌, ◌++◌, map, flat_map, refl, sym, ap, subst, ◌∙◌}
use Rattle.ips_manifest.specs.declared.package.Package.{Package}
use Rattle.ips_filter.specs.Settings.{Set}
use Rattle.ips_filter.specs.Admitted.{Admits}
use Rattle.ips_mediate.specs.declared.set.SetMediator.{SetMediator}
use Rattle.ips_state.specs.declared.state.State.{State}
use Rattle.ips_state.specs.State.{Installed, Recorded, installed, recorded}
use Rattle.ips_conflict.specs.declared.placed.Placed.{Placed}
use Rattle.ips_meaning.specs.declared.entry.Entry.{Entry}
use Rattle.ips_meaning.specs.Taken.{AreAdmitted, Leaves, all_placed, placed_of}
use Rattle.ips_meaning.specs.Want.{PackagesMean}
use Rattle.ips_laws.specs.Alike.{AreLike}
use Rattle.ips_laws.proofs.Apart.{one_left}
use Rattle.ips_laws.proofs.OneMeaning.{meaning_like}
use Rattle.ips_plan.specs.image_plan.Meaning.{StateMeans}
use Rattle.ips_laws.proofs.OneMeaning.{all_seen}

-- the actions of a package, as it is seen, in their places
abbrev seen_placed : Installed → List Placed
seen_placed q = map (λ line. record { stem = q.stem; line = line.number; action = line.action }) q.lines

module _ (a b : State) (same : recorded a ≡ recorded b) where
  pub settings_same : a.settings ≡ b.settings
  settings_same = ap (λ (r : Recorded). r.settings) same

  pub mediators_same : a.mediators.items ≡ b.mediators.items
  mediators_same = ap (λ (r : Recorded). r.mediators) same

  pub installed_same : map installed a.installed.items ≡ map installed b.installed.items
  installed_same = ap (λ (r : Recorded). r.installed) same

  pub publisher_same : a.publisher ≡ b.publisher
  publisher_same = ap (λ (r : Recorded). r.publisher) same

  -- the admitted actions of one are those of the other
  pub admitted_moved : (x : List Placed) → AreAdmitted a.settings a.installed.items x → AreAdmitted b.settings b.installed.items x
  admitted_moved x h =
      let placed : all_placed a.installed.items ≡ all_placed b.installed.items = all_seen a.installed.items ∙ ap (flat_map seen_placed) installed_same ∙ sym (all_seen b.installed.items) in
      let moved : Leaves (λ (p : Placed). Admits a.settings p.action.attrs) (all_placed b.installed.items) x = subst (λ (l : List Placed). Leaves (λ (p : Placed). Admits a.settings p.action.attrs) l x) placed h in
      subst (λ (s : Set). Leaves (λ (p : Placed). Admits s p.action.attrs) (all_placed b.installed.items) x) settings_same moved

  pub admitted_same : (x y : List Placed) → AreAdmitted a.settings a.installed.items x → AreAdmitted b.settings b.installed.items y → x ≡ y
  admitted_same x y h k = one_left (λ (p : Placed). Admits b.settings p.action.attrs) (all_placed b.installed.items) x y (admitted_moved x h) k

  pub meaning_same : (x y : List (List ℕ × Entry)) → StateMeans a x → StateMeans b y → AreLike x y
  meaning_same x y h k =
      let under : PackagesMean a.settings b.mediators.items b.installed.items y = subst (λ (s : Set). PackagesMean s b.mediators.items b.installed.items y) (sym settings_same) k.mean in
      let with_them : PackagesMean a.settings a.mediators.items b.installed.items y = subst (λ (m : List SetMediator). PackagesMean a.settings m b.installed.items y) (sym mediators_same) under in
      meaning_like a.settings a.mediators.items a.installed.items b.installed.items x y installed_same h.mean with_them
