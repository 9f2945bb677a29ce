-- What no packages mean.
use Rattle.std.proofs.Common.{◌≡◌, inl, inr, ℕ, true, List, [], Option, Some, None, is_some, refl, ◌∙◌, ap, subst, arith}
use Rattle.ips_manifest.specs.declared.package.Package.{Package}
use Rattle.ips_filter.specs.Settings.{Set}
use Rattle.ips_mediate.specs.declared.set.SetMediator.{SetMediator}
use Rattle.ips_conflict.specs.declared.placed.Placed.{Placed}
use Rattle.ips_conflict.specs.Clash.{Conflict, HasKey, IsConflictBy}
use Rattle.ips_conflict.specs.declared.clashing.Rule.{Rule}
use Rattle.ips_conflict.specs.declared.clashing.Rule.TheVariants as rule
use Rattle.ips_conflict.specs.Key.{Key}
use Rattle.ips_meaning.specs.declared.entry.Entry.{Entry}
use Rattle.ips_meaning.specs.declared.entry.Entry.TheVariants as entry
use Rattle.ips_meaning.specs.declared.fault.WantFault.{WantFault}
use Rattle.ips_meaning.specs.declared.fault.WantFault.TheVariants as fault
use Rattle.ips_meaning.specs.Reserved.{GivesPath}
use Rattle.ips_meaning.specs.Taken.{Leaves, Stays, Taken}
use Rattle.ips_meaning.specs.Want.{IsWanted, PackagesFail, PackagesMean}
use Rattle.ips_change.specs.wanted.Wanted.{wanted_among, wanted_of}
use Rattle.ips_change.proofs.wanted.Found.{only_at}
use Rattle.ips_after.specs.Request.{WantDir, Wanted}

-- none of no actions is kept
none_kept : (settings : Set) (mediators : List SetMediator) (taken : Taken settings mediators []) → taken.kept ≡ []
none_kept settings mediators taken = subst (λ (l : List Placed). Leaves (Stays mediators taken.admitted) l taken.kept) taken.are_admitted taken.are_kept

module _ (settings : Set) (mediators : List SetMediator) where
  no_key : (key : Key) (i : ℕ) (p : Placed) → HasKey [] key i p → ⊥
  no_key key i p h = let none : None ≡ Some p = h.here in cc

  no_conflict : (r : Rule) (c : Conflict) → IsConflictBy r [] c → ⊥
  no_conflict rule.Mediator c h = no_key c.key c.first h.a h.a_key
  no_conflict rule.Kinds c h = no_key c.key c.first h.a h.a_key
  no_conflict rule.Attributes c h = no_key c.key c.first h.a h.a_key
  no_conflict rule.Deliverers c h = no_key c.key c.first h.a h.a_key
  no_conflict rule.Below c h = no_key c.key c.first h.a h.a_key
  no_conflict rule.Target c h = no_key c.key c.first h.a h.a_key

  -- no packages mean some image
  pub none_fail : (why : WantFault) → PackagesFail settings mediators [] why → ⊥
  none_fail (fault.Reserved path) h =
      let gives = h.fault_is.taken.0 in
      let given = subst (λ (l : List Placed). GivesPath l path.bytes) h.taken.are_admitted gives in
      none_given given
    where
      none_given : GivesPath [] path.bytes → ⊥
      none_given h = absurd (omega (arith, h.1.1))
  none_fail (fault.Clash clash) h =
      let c = h.fault_is.1.0 in
      no_conflict c.rule c (subst (λ (l : List Placed). IsConflictBy c.rule l c) (none_kept settings mediators h.taken) h.fault_is.1.1.conflict)

  -- nothing but directories without stated modes is wanted
  only_plain : (entries : List (List ℕ × Entry)) → PackagesMean settings mediators [] entries → (q : List ℕ) → is_some (wanted_among entries q) ≡ true → wanted_among entries q ≡ Some (WantDir None)
  only_plain entries mean q there = go (wanted_among entries q) refl there
    where
      wanted_plain : (e : Entry) → IsWanted [] q e → e ≡ entry.Dir None
      wanted_plain e (inl given) = absurd (no_key _ given.i given.p given.at)
      wanted_plain e (inr implicit) = implicit.1

      go : (o : Option Wanted) → wanted_among entries q ≡ o → is_some o ≡ true → wanted_among entries q ≡ Some (WantDir None)
      go (Some w) is h =
          let (e, there, one) = only_at entries q w is in
          let plain = wanted_plain e (subst (λ (l : List Placed). IsWanted l q e) (none_kept settings mediators mean.taken) (subst (λ (x : List ℕ × Entry). IsWanted mean.taken.kept x.0 x.1) there.2 (mean.want.each there.0 (q, e) there.1))) in
          is ∙ ap Some (one ∙ ap wanted_of plain)
      go None is h = cc

  pub plain_wanted : (packages : List Package) (entries : List (List ℕ × Entry)) → packages ≡ [] → PackagesMean settings mediators packages entries → (q : List ℕ) → is_some (wanted_among entries q) ≡ true → wanted_among entries q ≡ Some (WantDir None)
  plain_wanted packages entries none mean = only_plain entries (subst (λ (l : List Package). PackagesMean settings mediators l entries) none mean)
