-- A repair of what packages mean is lawful.
use Rattle.std.proofs.Common.{◌≡◌, inl, inr, ℕ, Bool, true, false, List, map, Option, Some, None, is_some, refl, sym, ◌∙◌, ap, subst}
use Rattle.std.specs.Prelude.{codes}
use Rattle.std.proofs.lemmas.Bool.{or_cases}
use Rattle.ips_text.specs.Ancestry.{covers, is_below, same_path}
use Rattle.ips_outside.specs.Image.{Entry, Image, is_dir}
use Rattle.ips_steps.specs.Private.{records_name}
use Rattle.ips_steps.proofs.Lists.{clash}
use Rattle.ips_manifest.specs.declared.package.Package.{Package}
use Rattle.ips_filter.specs.Settings.{Set}
use Rattle.ips_mediate.specs.declared.set.SetMediator.{SetMediator}
use Rattle.ips_meaning.specs.declared.entry.Entry as meaning
use Rattle.ips_state.specs.Records.{history_path}
use Rattle.ips_after.specs.Findings.{Damage}
use Rattle.ips_after.specs.Planned.{IsNameable, IsProperRequest}
use Rattle.ips_after.specs.Repaired.{IsRepair, Repair, found, request_of, spoiled}
use Rattle.ips_after.specs.Request.{IsWant, Over, Wanted, is_dir_wanted, lays, takes}
use Rattle.ips_due.specs.Asked.{AreMeant}
use Rattle.ips_due.specs.Due.{FitsAccounts, IsOverOf, LeavesOwn, is_own}
use Rattle.ips_due.proofs.Asking as asking
use Rattle.ips_due.proofs.Fitting.{Account, Folder, Gone, Record, Said, Silent, over_fits, said_is}
use Rattle.ips_change.specs.wanted.Wanted.{want_of, wanted_among}
use Rattle.ips_change.proofs.wanted.Apart.{nothing_below, nothing_legacy}
use Rattle.ips_request_due.specs.repairs.Repairing.{repair_between, repair_due}
use Rattle.ips_request_due.proofs.repairs.Due.{hangs, is_due_there, said_there}
use Rattle.ips_request_due.proofs.repairs.Due as due
use Rattle.std.proofs.lemmas.Bool.{and_from, and_parts, not-true}
use Rattle.ips_text.specs.Ancestry.{parent}
use Rattle.ips_text.proofs.Ancestry.{at_parent_of, same_path-true}
use Rattle.ips_change.proofs.wanted.Apart.{own_wanted}
use Rattle.ips_change.proofs.wanted.Found.{is_want, led_to_file}
use Rattle.ips_after.proofs.Fits.{dir_of_wanted}
use Rattle.ips_after.proofs.Sorted.{sorted_once}
use Rattle.ips_after.specs.Request.{OverFits}

spoiled_some : (w : Option Wanted) (d : Option Damage) → is_some (spoiled w d) ≡ true → is_some w ≡ true
spoiled_some (Some w) d h = refl
spoiled_some None d h = cc

spoiled_none : (w : Option Wanted) (d : Option Damage) → w ≡ None → spoiled w d ≡ None
spoiled_none (Some w) d h = cc
spoiled_none None d h = refl

history_parent : parent history_path ≡ Some records_name
unfolding records_name
history_parent = refl

-- what is above the history is at or above the folder of the records
above_history : (p : List ℕ) → is_below p history_path ≡ true → covers p records_name ≡ true
above_history p below =
    let parts = and_parts (covers p history_path) _ below in
    let at = at_parent_of p history_path parts.0 (not-true _ parts.1) in
    let one : at.dir ≡ records_name = let e : Some at.dir ≡ Some records_name = sym at.is ∙ history_parent in cc in
    subst (λ (x : List ℕ). covers p x ≡ true) one at.up

module _ (settings : Set) (mediators : List SetMediator) (packages : List Package) (entries : List (List ℕ × meaning.Entry)) (is : AreMeant settings mediators packages entries)
    (bytes : List ℕ → List ℕ) (holds : List ℕ → List ℕ → Bool) (t : Image) (o : Over) where
  abbrev f : Repair
  f = repair_between entries bytes holds o

  -- the image's own folders are left to it
  pub none_own : (q : List ℕ) → is_own q ≡ true → wanted_among entries q ≡ None
  none_own q own = elim (or_cases (is_below records_name q) (is_below (codes "var/sadm/pkg") q) own) [
    | inl h ↦ nothing_below settings mediators packages entries is.mean q h
    | inr h ↦ nothing_legacy settings mediators packages entries is.mean q h
  ]

  pub none_old : (q : List ℕ) → is_own q ≡ true → (request_of f t).old.at q ≡ None
  none_old q own = spoiled_none (wanted_among entries q) (found f t q) (none_own q own)

  module _ (history : List (List ℕ)) (of : IsOverOf bytes holds (repair_due history) t o) where
    of_said : (q : List ℕ) → Said (repair_due history) q (o.at q)
    of_said q = subst (Said (repair_due history) q) (sym (of.at q)) (said_is bytes holds (repair_due history) t q)

    wants : IsWant (want_of entries)
    wants = is_want entries is.mean.want.in_order is.together

    accounts_fit : FitsAccounts (repair_due history) (want_of entries)
    accounts_fit = record { files = λ q a w. cc; above = λ p q a below w. cc }

    left : LeavesOwn (repair_due history) (want_of entries)
    left = asking.leaves settings settings mediators mediators packages packages entries entries is is bytes holds (repair_due history) t o (hangs history) of
        (λ q below there. let at = is_due_there history q (due.widened history q there) in clash (is_below (codes "var/sadm/pkg") history_path) (subst (λ (x : List ℕ). is_below (codes "var/sadm/pkg") x ≡ true) (sym at) below) refl)

    fits : OverFits o (want_of entries)
    fits = over_fits bytes holds (repair_due history) t o (want_of entries) (hangs history) of wants accounts_fit left

    silent_at : (q : List ℕ) → is_some (wanted_among entries q) ≡ true → (x : Option (Option Entry)) → Said (repair_due history) q x → x ≡ None
    silent_at q there (Some x) s =
        let at = said_there history q (Some x) s refl in
        clash (is_some (wanted_among entries q)) there (ap is_some (none_own q (subst (λ (y : List ℕ). is_own y ≡ true) at due.own_history)))
    silent_at q there None s = refl

    taken_none : (q : List ℕ) (x : Option (Option Entry)) → Said (repair_due history) q x → takes x ≡ false
    taken_none q _ (Account m b at) = refl
    taken_none q _ (Record b at) = refl
    taken_none q _ (Folder at) = refl
    taken_none q _ (Gone at) = cc
    taken_none q _ Silent = refl

    above_said : (p q : List ℕ) → is_below p q ≡ true → lays (o.at q) ≡ true → is_dir_wanted (wanted_among entries p) ≡ true
    above_said p q below laid =
        let at = said_there history q (o.at q) (of_said q) (some (o.at q) laid) in
        let up = above_history p (subst (λ (x : List ℕ). is_below p x ≡ true) (sym at) below) in
        go (same_path p records_name) refl up
      where
        some : (x : Option (Option Entry)) → lays x ≡ true → is_some x ≡ true
        some (Some x) laid = refl
        some None laid = cc

        own : is_dir_wanted (wanted_among entries records_name) ≡ true
        own = own_wanted settings mediators packages entries is.mean

        go : (s : Bool) → same_path p records_name ≡ s → covers p records_name ≡ true → is_dir_wanted (wanted_among entries p) ≡ true
        go true same up = subst (λ (x : List ℕ). is_dir_wanted (wanted_among entries x) ≡ true) (sym (same_path-true p records_name same)) own
        go false apart up = wants.dirs p records_name (and_from _ _ up (rw apart refl)) (dir_of_wanted _ own)

    pub lawful : IsRepair f
    lawful = record {
      want_fits = wants;
      over_fits = fits;
      silent = λ q there. silent_at q there (o.at q) (of_said q);
      kept = λ q. taken_none q (o.at q) (of_said q);
      above = above_said;
      hards = λ h to at. led_to_file entries h to (sorted_once (map (λ (e : List ℕ × meaning.Entry). e.0) entries) is.mean.want.in_order) is.together at;
    }

    pub nameable : is_dir (t.look records_name) ≡ true → IsNameable (request_of f t) t
    nameable stands =
        let base = asking.is_nameable settings settings mediators mediators packages packages entries entries is is bytes holds (repair_due history) t o (hangs history) of stands in
        record { stands = base.stands; wanted = base.wanted; news = base.news; olds = λ q there. base.news q (spoiled_some (wanted_among entries q) (found f t q) there); overs = base.overs }

    pub proper : IsProperRequest (request_of f t)
    proper =
        let base = asking.is_proper settings settings mediators mediators packages packages entries entries is is bytes holds (repair_due history) t o (hangs history) of (due.is_proper history) in
        record { news = base.news; olds = λ q there. base.olds q (spoiled_some (wanted_among entries q) (found f t q) there); keys = base.keys; overs = base.overs }
