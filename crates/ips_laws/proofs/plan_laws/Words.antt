-- The words that an actuator is run with are one, and so is how many packages a request changes.
use Rattle.std.proofs.Common.{◌≡◌, ℕ, Bool, cond, List, [], ◌∷◌, ◌++◌, map, filter, length, Option, Some, None, is_none, true, false, refl, sym, ap, subst, ◌∙◌, arith}
use Rattle.std.specs.Prelude.{codes}
use Rattle.ips_text.specs.Ancestry.{same_path}
use Rattle.ips_fmri.specs.Version.{Parts}
use Rattle.ips_action.specs.Action.{Fields}
use Rattle.ips_actuate.specs.Actuators.{AreServices, AreWords, runs}
use Rattle.ips_conflict.specs.declared.placed.Placed.{Placed}
use Rattle.ips_counts.specs.declared.counts.Counts.{Counts}
use Rattle.ips_laws.proofs.InOrder.{same_paths}
use Rattle.ips_manifest.specs.declared.package.Package.{Package}
use Rattle.ips_plan_limits.specs.Counts.{absent_among, is_absent, is_other, is_updated, updated_from, version_at}
use Rattle.ips_state.specs.declared.state.State.{State}
use Rattle.ips_state.specs.State.{Installed, Recorded, installed, recorded}
use Rattle.ips_plan.specs.image_plan.Acting.{AreActions, AreRuns, AreRunsOf, RunsWhere}
use Rattle.ips_plan.specs.request_plan.Plans.{AreCounts}
use Rattle.ips_laws.proofs.plan_laws.States.{admitted_same, installed_same}

-- ---- words

services_one : (Holds : List ℕ → Type 0) (xs ys : List (List ℕ)) → AreServices Holds xs → AreServices Holds ys → xs ≡ ys
services_one Holds xs ys h k = same_paths xs ys h.ascend k.ascend (λ s there. (k.each s).1 ((h.each s).0 there)) (λ s there. (h.each s).1 ((k.each s).0 there))

words_one : (program : List ℕ) (old new : List Fields) (before other after more : List (List (List ℕ))) → AreWords program old new before after → AreWords program old new other more → (before ≡ other) × (after ≡ more)
words_one program old new before other after more h k =
    let disabled = services_one _ h.disabled k.disabled h.are_disabled k.are_disabled in
    let suspended = services_one _ h.suspended k.suspended h.are_suspended k.are_suspended in
    let refreshed = services_one _ h.refreshed k.refreshed h.are_refreshed k.are_refreshed in
    let restarted = services_one _ h.restarted k.restarted h.are_restarted k.are_restarted in (
      h.words_before ∙ (λ i. runs program (codes "disable") (disabled i) ++ runs program (codes "suspend") (suspended i)) ∙ sym k.words_before,
      h.words_after ∙ (λ i. runs program (codes "enable") (suspended i) ++ (runs program (codes "refresh") (refreshed i) ++ runs program (codes "restart") (restarted i))) ∙ sym k.words_after,
    )

actions_one : (a b : State) (x y : List Fields) → recorded a ≡ recorded b → AreActions a x → AreActions b y → x ≡ y
actions_one a b x y same h k = h.are ∙ ap (map (λ (p : Placed). p.action)) (admitted_same a b same h.admitted k.admitted h.are_admitted k.are_admitted) ∙ sym k.are

module _ (old other new next : State) (was_same : recorded old ≡ recorded other) (is_same : recorded new ≡ recorded next) where
  runs_of : (program : List ℕ) (before others after more : List (List (List ℕ))) → AreRunsOf program old new before after → AreRunsOf program other next others more → (before ≡ others) × (after ≡ more)
  runs_of program before others after more h k =
      let was : h.was ≡ k.was = actions_one old other h.was k.was was_same h.were_actions k.were_actions in
      let is : h.is ≡ k.is = actions_one new next h.is k.is is_same h.are_actions k.are_actions in
      words_one program k.was k.is before others after more (subst (λ (l : List Fields). AreWords program k.was l before after) is (subst (λ (l : List Fields). AreWords program l h.is before after) was h.words)) k.words

  runs_where : (program : Option (List ℕ)) (before others after more : List (List (List ℕ))) → RunsWhere program old new before after → RunsWhere program other next others more → (before ≡ others) × (after ≡ more)
  runs_where (Some program) before others after more h k = runs_of program before others after more h k
  runs_where None before others after more h k = (h.0 ∙ sym k.0, h.1 ∙ sym k.1)

  -- the words are the same
  pub runs_one : (before others after more : List (List (List ℕ))) → AreRuns old new before after → AreRuns other next others more → (before ≡ others) × (after ≡ more)
  runs_one before others after more h k =
      let actuator : new.actuator ≡ next.actuator = ap (λ (r : Recorded). r.actuator) is_same in
      runs_where next.actuator before others after more (subst (λ (o : Option (List ℕ)). RunsWhere o old new before after) actuator h) k

-- ---- counts, by what packages show

abbrev version_seen : List Installed → List ℕ → Option Parts
version_seen [] stem = None
version_seen (p ∷ packages) stem = cond (same_path p.stem stem) (Some p.version) (version_seen packages stem)

versions : (packages : List Package) (stem : List ℕ) → version_at packages stem ≡ version_seen (map installed packages) stem
versions [] stem = refl
versions (p ∷ packages) stem = ap (cond (same_path p.stem stem) (Some p.version)) (versions packages stem)

abbrev kept_seen : (Installed → Bool) → List Installed → ℕ
kept_seen test packages = length (filter test packages)

counted : (test : Package → Bool) (seen : Installed → Bool) → ((p : Package) → test p ≡ seen (installed p)) → (packages : List Package) → length (filter test packages) ≡ kept_seen seen (map installed packages)
counted test seen same [] = refl
counted test seen same (p ∷ packages) =
    ap (λ (b : Bool). length (cond b (p ∷ filter test packages) (filter test packages))) (same p) ∙ go (seen (installed p)) (counted test seen same packages)
  where
    go : (b : Bool) → length (filter test packages) ≡ kept_seen seen (map installed packages) → length (cond b (p ∷ filter test packages) (filter test packages)) ≡ length (cond b (installed p ∷ filter seen (map installed packages)) (filter seen (map installed packages)))
    go true rest = omega (arith, rest)
    go false rest = rest

abbrev absent_seen : List Installed → Installed → Bool
absent_seen packages p = is_none (version_seen packages p.stem)

abbrev updated_seen : List Installed → Installed → Bool
updated_seen old p = is_other (version_seen old p.stem) p.version

absent_is : (packages others : List Package) → absent_among packages others ≡ kept_seen (absent_seen (map installed packages)) (map installed others)
absent_is packages others = counted (is_absent packages) (absent_seen (map installed packages)) (λ p. ap (λ (o : Option Parts). is_none o) (versions packages p.stem)) others

updated_is : (old new : List Package) → updated_from old new ≡ kept_seen (updated_seen (map installed old)) (map installed new)
updated_is old new = counted (is_updated old) (updated_seen (map installed old)) (λ p. ap (λ (o : Option Parts). is_other o p.version) (versions old p.stem)) new

absent_one : (a b c d : List Package) → map installed a ≡ map installed b → map installed c ≡ map installed d → absent_among a c ≡ absent_among b d
absent_one a b c d x y = absent_is a c ∙ (λ i. kept_seen (absent_seen (x i)) (y i)) ∙ sym (absent_is b d)

updated_one : (a b c d : List Package) → map installed a ≡ map installed b → map installed c ≡ map installed d → updated_from a c ≡ updated_from b d
updated_one a b c d x y = updated_is a c ∙ (λ i. kept_seen (updated_seen (x i)) (y i)) ∙ sym (updated_is b d)

-- so many packages are installed, updated and removed
pub counts_one : (old other new next : State) → recorded old ≡ recorded other → recorded new ≡ recorded next → (x y : Counts) → AreCounts old new x → AreCounts other next y → x ≡ y
counts_one old other new next was_same is_same x y h k =
    let was = installed_same old other was_same in
    let is = installed_same new next is_same in
    let installs = h.installs ∙ absent_one old.installed.items other.installed.items new.installed.items next.installed.items was is ∙ sym k.installs in
    let updates = h.updates ∙ updated_one old.installed.items other.installed.items new.installed.items next.installed.items was is ∙ sym k.updates in
    let removes = h.removes ∙ absent_one new.installed.items next.installed.items old.installed.items other.installed.items is was ∙ sym k.removes in
    λ i. record { installs = installs i; updates = updates i; removes = removes i }
