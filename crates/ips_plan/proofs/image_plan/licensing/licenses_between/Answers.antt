use Rattle.std.proofs.Common.{◌≡◌, ◌<◌, ℕ, false, List, [], length, sym, subst}
use Rattle.std.proofs.lemmas.Result.{IfOk-weaker}
use Rattle.std.specs.List.{AllByRecursion}
use Rattle.ips_fmri.specs.Name.{IsStem}
use Rattle.ips_manifest.specs.declared.package.Package.{Package}
use Rattle.ips_delivered.proofs.withdrawn.More.{package_stems}
use Rattle.ips_plan.specs.image_plan.Licenses.{AreDisplayed, AreNeeded, AreNewBetween}
use Rattle.ips_load.proofs.Answered.{bad_weaker}
use Rattle.ips_plan.proofs.image_plan.Licenses.{newly_lent}
use Rattle.ips_plan.proofs.image_plan.licensing.licenses_between.Goals as goal

pub new_licenses-requires-clause-old : goal.new_licenses-requires-clause-old
new_licenses-requires-clause-old c = subst (λ (l : List Package). AllByRecursion (λ (p : Package). IsStem false p.stem) l) (sym c.deref.ensures.value) (package_stems c.args.old.now.installed.items c.requires.old.installed.each)

pub new_licenses-requires-clause-new : goal.new_licenses-requires-clause-new
new_licenses-requires-clause-new c = subst (λ (l : List Package). AllByRecursion (λ (p : Package). IsStem false p.stem) l) (sym c.deref-2.ensures.value) (package_stems c.args.new.now.installed.items c.requires.new.installed.each)

pub returns-in-Ok-clause-displayed : goal.returns-in-Ok-clause-displayed
returns-in-Ok-clause-displayed c =
    let old = c.args.old.now in
    let new = c.args.new.now in
    let found = c.in-Ok.found in
    IfOk-weaker c.accepted.result (λ shown. (shown.items ≡ found.display.items) × (c.args.accept ≡ false → found.accept.items ≡ [])) (λ shown. AreDisplayed old new c.args.accept shown.items)
    (λ shown h. record {
      asked = found.accept.items;
      delivered = subst (λ (texts : List (List ℕ)). AreNewBetween old new texts found.accept.items) (sym h.0) (newly_lent old.settings new.settings old.installed.items new.installed.items c.deref.result.now c.deref-2.result.now found.display.items found.accept.items c.deref.ensures.value c.deref-2.ensures.value c.in-Ok.ensures);
      accepted = h.1;
    }) c.accepted.ensures.displayed

pub returns-in-Ok-clause-needed : goal.returns-in-Ok-clause-needed
returns-in-Ok-clause-needed c =
    let old = c.args.old.now in
    let new = c.args.new.now in
    let found = c.in-Ok.found in
    bad_weaker c.accepted.result (λ asked. (asked.items ≡ found.accept.items) × (c.args.accept ≡ false) × (0 < length asked.items)) (λ asked. AreNeeded old new c.args.accept asked.items)
    (λ asked h. record {
      shown = found.display.items;
      delivered = subst (λ (texts : List (List ℕ)). AreNewBetween old new found.display.items texts) (sym h.0) (newly_lent old.settings new.settings old.installed.items new.installed.items c.deref.result.now c.deref-2.result.now found.display.items found.accept.items c.deref.ensures.value c.deref-2.ensures.value c.in-Ok.ensures);
      refused = h.1;
      some = h.2;
    }) c.accepted.ensures.needed
