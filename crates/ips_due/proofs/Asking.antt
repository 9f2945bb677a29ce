-- A request between what packages mean is such as the laws of the image after ask for.
use Rattle.std.proofs.Common.{◌≡◌, ℕ, ◌<◌, Bool, true, false, List, map, Option, Some, is_some, sym, ap, subst, inl, inr, arith}
use Rattle.std.specs.Prelude.{codes}
use Rattle.std.proofs.lemmas.Bool.{or_cases, or_left, or_right}
use Rattle.ips_text.specs.Path.{IsPath}
use Rattle.ips_text.specs.Ancestry.{is_below}
use Rattle.ips_outside.specs.Image.{Entry, Dir, File, Image, is_dir}
use Rattle.ips_steps.specs.Private.{records_name}
use Rattle.ips_manifest.specs.declared.package.Package.{Package}
use Rattle.ips_filter.specs.Settings.{Set}
use Rattle.ips_mediate.specs.declared.set.SetMediator.{SetMediator}
use Rattle.ips_conflict.specs.Clash.{has_legacy}
use Rattle.ips_meaning.specs.declared.entry.Entry as meaning
use Rattle.ips_after.specs.Planned.{HasEntryParts, IsNameable, IsProperRequest}
use Rattle.ips_after.specs.Request.{IsRequest, Over, Request}
use Rattle.ips_after.proofs.Behind.{above_path}
use Rattle.ips_after.proofs.Sorted.{sorted_once}
use Rattle.ips_change.specs.wanted.Wanted.{want_of, wanted_among}
use Rattle.ips_change.proofs.wanted.Apart.{legacy_wanted, nothing_below, nothing_legacy, own_wanted, wanted_named}
use Rattle.ips_change.proofs.wanted.Found.{is_want, led_to_file, proper_at, some_there}
use Rattle.ips_due.specs.Asked.{AreMeant, request_between}
use Rattle.ips_due.specs.Due.{Due, FitsAccounts, HasProperDue, IsDue, IsOverOf, LeavesOwn, is_due}
use Rattle.ips_due.proofs.Fitting.{Account, Folder, Gone, Record, Said, Silent, due_of_account, due_of_folder, due_of_record, over_fits, over_named, said_is}

module _ (so sn : Set) (mo mn : List SetMediator) (po pn : List Package) (old new : List (List ℕ × meaning.Entry)) (was : AreMeant so mo po old) (is : AreMeant sn mn pn new)
    (bytes : List ℕ → List ℕ) (holds : List ℕ → List ℕ → Bool) (due : Due) (t : Image) (o : Over) (fit : IsDue due) (of : IsOverOf bytes holds due t o) where
  abbrev r : Request
  r = request_between old new bytes holds o

  pub leaves : ((q : List ℕ) → is_below (codes "var/sadm/pkg") q ≡ true → is_due due q ≡ true → has_legacy is.mean.taken.kept ≡ true) → LeavesOwn due (want_of new)
  leaves legacy = record {
    none = λ q own. elim (or_cases (is_below records_name q) (is_below (codes "var/sadm/pkg") q) own) [
      | inl h ↦ nothing_below sn mn pn new is.mean q h
      | inr h ↦ nothing_legacy sn mn pn new is.mean q h
    ];
    folder = own_wanted sn mn pn new is.mean;
    legacy = λ q below there. legacy_wanted sn mn pn new is.mean (legacy q below there);
  }

  pub is_asked : FitsAccounts due (want_of new) → LeavesOwn due (want_of new) → IsRequest r
  is_asked accounts left = record {
    old_want = is_want old was.mean.want.in_order was.together;
    new_want = is_want new is.mean.want.in_order is.together;
    over_fits = over_fits bytes holds due t o (want_of new) fit of (is_want new is.mean.want.in_order is.together) accounts left;
    hards = λ h to at. led_to_file new h to (sorted_once (map (λ (e : List ℕ × meaning.Entry). e.0) new) is.mean.want.in_order) is.together at;
  }

  pub is_nameable : is_dir (t.look records_name) ≡ true → IsNameable r t
  is_nameable stands = record {
    stands = stands;
    wanted = own_wanted sn mn pn new is.mean;
    news = λ q there. wanted_named sn mn pn new is.mean q there;
    olds = λ q there. wanted_named so mo po old was.mean q there;
    overs = λ q there. over_named bytes holds due t o q fit of there;
  }

  path_of_said : HasProperDue due → (q : List ℕ) (x : Option (Option Entry)) → Said due q x → is_some x ≡ true → IsPath q
  path_of_said proper q _ (Account m b at) h = proper.paths q (or_left _ _ (due_of_account due q (ap is_some at)))
  path_of_said proper q _ (Record b at) h = proper.paths q (or_left _ _ (due_of_record due q at))
  path_of_said proper q _ (Folder at) h = proper.paths q (or_left _ _ (due_of_folder due q at))
  path_of_said proper q _ (Gone at) h = proper.paths q (or_right (is_due due q) _ at)
  path_of_said proper q _ Silent h = cc

  parts_of_said : HasProperDue due → (q : List ℕ) (e : Entry) (x : Option (Option Entry)) → Said due q x → x ≡ Some (Some e) → HasEntryParts e
  parts_of_said proper q e _ (Account m b at) h = let one : File m b ≡ e = cc in subst HasEntryParts one (proper.modes q m b at)
  parts_of_said proper q e _ (Record b at) h = let one : File 420 b ≡ e = cc in subst HasEntryParts one (let small : 420 < 4096 = omega arith in small)
  parts_of_said proper q e _ (Folder at) h = let one : Dir 493 false ≡ e = cc in subst HasEntryParts one (let small : 493 < 4096 = omega arith in small)
  parts_of_said proper q e _ (Gone at) h = cc
  parts_of_said proper q e _ Silent h = cc

  of_said : (q : List ℕ) → Said due q (o.at q)
  of_said q = subst (Said due q) (sym (of.at q)) (said_is bytes holds due t q)

  pub is_proper : HasProperDue due → IsProperRequest r
  is_proper proper = record {
    news = λ q w at. proper_at new q w is.proper is.bytes at;
    olds = λ q there. let w = some_there (wanted_among old q) there in (proper_at old q w.0 was.proper was.bytes w.1).0;
    keys = λ q there. let x = of.only q there in above_path x.0 q (path_of_said proper x.0 (o.at x.0) (of_said x.0) x.2) x.1;
    overs = λ q e at. parts_of_said proper q e (o.at q) (of_said q) at;
  }
