use Rattle.std.proofs.Common.{◌≡◌, ◌∙◌, ◌++◌, [], false, List, ℕ, sym, ap, subst}
use Rattle.std.specs.List.{AllByRecursion}
use Rattle.std.proofs.lemmas.Bool.{false≢true, or_right}
use Rattle.std.proofs.lemmas.Option.{none-some}
use Rattle.ips_fmri.specs.Name.{IsStem}
use Rattle.ips_manifest.specs.declared.package.Package.{Package}
use Rattle.ips_outside.specs.Image.{File}
use Rattle.ips_after.specs.Lists.{listed}
use Rattle.ips_state.specs.State.{recorded}
use Rattle.ips_state.specs.Records.{taken_away}
use Rattle.ips_due.specs.Due.{is_due}
use Rattle.ips_due.specs.Delivered.{delivered_gone, request_due}
use Rattle.ips_delivered.specs.delivered.Named.{DeliverNamed, names_told}
use Rattle.ips_delivered.proofs.delivered.Outcomes.{both_ok, on_ok}
use Rattle.ips_delivered.proofs.withdrawn.More.{package_stems}
use Rattle.ips_delivered.proofs.withdrawn.paths.withdrawn.Goals as goal

pub delivered_names-requires : goal.delivered_names-requires
delivered_names-requires c = record { stems = subst (λ (l : List Package). AllByRecursion (λ (p : Package). IsStem false p.stem) l) (sym c.deref.ensures.value) (package_stems c.args.old.now.installed.items c.requires.old.installed.each) }

pub delivered_names-requires-2 : goal.delivered_names-requires-2
delivered_names-requires-2 c = record { stems = subst (λ (l : List Package). AllByRecursion (λ (p : Package). IsStem false p.stem) l) (sym c.deref-2.ensures.value) (package_stems c.args.new.now.installed.items c.requires.new.installed.each) }

pub in_order-requires : goal.in_order-requires
in_order-requires c = λ q has.
    let old = recorded c.args.old.now in
    let new = recorded c.args.new.now in
    let was = names_told c.in_ok-before.before in
    let is = names_told c.in_ok-after.after in
    let due = request_due [] old new was is in
    let proper = c.requests_have_proper_due.ensures [] old new was is (λ x h. absurd (false≢true h)) (λ x m b h. absurd (none-some (File m b) h)) c.requires.old c.requires.new c.in_ok-before.ensures.names c.in_ok-after.ensures.names in
    proper.paths q (or_right (is_due due q) (listed due.gone q) (sym (c.in_ok-gone.ensures q) ∙ has))

pub returns-clause-old : goal.returns-clause-old
returns-clause-old c =
    let old = c.args.old.now in
    let was = names_told c.in_ok-before.before in
    let told = subst (λ (l : List Package). DeliverNamed old.settings l was.licenses was.legacy) c.deref.ensures.value c.in_ok-before.ensures.delivered in
    on_ok c.in_order.result (was, told, c.in_ok-before.ensures.names)

pub returns-clause-paths : goal.returns-clause-paths
returns-clause-paths c =
    let old = c.args.old.now in
    let new = c.args.new.now in
    let was = names_told c.in_ok-before.before in
    let is = names_told c.in_ok-after.after in
    let taken = taken_away (recorded old) (recorded new) in
    let told = subst (λ (l : List Package). DeliverNamed old.settings l was.licenses was.legacy) c.deref.ensures.value c.in_ok-before.ensures.delivered in
    let told_new = subst (λ (l : List Package). DeliverNamed new.settings l is.licenses is.legacy) c.deref-2.ensures.value c.in_ok-after.ensures.delivered in
    both_ok c.in_order.result _ _ _ c.in_order.ensures.order c.in_order.ensures.paths (λ paths order just. record {
      order = order;
      gone = λ w v w_is v_is q.
          let licenses = c.names_are_one.ensures.licenses old.settings old.installed.items was.licenses w.licenses was.legacy w.legacy told w_is in
          let legacy = c.names_are_one.ensures.legacy old.settings old.installed.items was.licenses w.licenses was.legacy w.legacy told w_is in
          let licenses_new = c.names_are_one.ensures.licenses new.settings new.installed.items is.licenses v.licenses is.legacy v.legacy told_new v_is in
          let legacy_new = c.names_are_one.ensures.legacy new.settings new.installed.items is.licenses v.licenses is.legacy v.legacy told_new v_is in
          let same : delivered_gone was is ≡ delivered_gone w v =
          (λ i. delivered_gone (record { owners = []; drivers = []; licenses = licenses i; legacy = legacy i }) (record { owners = []; drivers = []; licenses = licenses_new i; legacy = legacy_new i })) in
          sym (just q) ∙ c.in_ok-gone.ensures q ∙ ap (λ (l : List (List ℕ)). listed (taken ++ l) q) same;
    })
