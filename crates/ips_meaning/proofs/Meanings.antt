-- What packages mean, from what was computed of them.
use Rattle.std.proofs.Common.{◌≡◌, ℕ, List, Option, Some, None, sym, subst}
use Rattle.std.specs.Prelude.{MatchOption}
use Rattle.std.proofs.lemmas.Option.{none-some, same_Some}
use Rattle.ips_text.specs.declared.path.RelPath.{RelPath}
use Rattle.ips_manifest.specs.declared.package.Package.{Package}
use Rattle.ips_filter.specs.Settings.{Set}
use Rattle.ips_mediate.specs.declared.set.SetMediator.{SetMediator}
use Rattle.ips_conflict.specs.declared.placed.Placed.{Placed}
use Rattle.ips_conflict.specs.declared.clashing.Clash.{Clash}
use Rattle.ips_conflict.specs.Clash.{Conflict, IsConflict, IsFirst, told}
use Rattle.ips_meaning.specs.declared.entry.Entry.{Entry}
use Rattle.ips_meaning.specs.declared.fault.WantFault.{WantFault}
use Rattle.ips_meaning.specs.declared.fault.WantFault.TheVariants as fault
use Rattle.ips_meaning.specs.Faults.{fault_told}
use Rattle.ips_meaning.specs.Taken.{AreAdmitted, Leaves, Stays, Taken}
use Rattle.ips_meaning.specs.Reserved.{IsFreeOfReserved, IsLeastReserved}
use Rattle.ips_meaning.specs.Want.{IsWantOf, IsFreeOfClashes, PackagesMean, PackagesFail}

-- what was found of reserved paths
abbrev pub ReservedIn : List Placed → Option RelPath → Type 0
ReservedIn admitted found = MatchOption found (IsFreeOfReserved admitted) (λ path. IsLeastReserved admitted path.bytes)

-- what was found of clashes
abbrev pub ClashIn : List Placed → Option Clash → Type 0
ClashIn kept found = MatchOption found ((c : Conflict) → IsConflict kept c → ⊥) (λ clash. (c : Conflict) × IsFirst kept c × (clash ≡ told kept c))

-- where no fault is told, nothing clashes
pub no_clash : (kept : List Placed) (found : Option RelPath) (clash : Option Clash) → fault_told found clash ≡ None → ClashIn kept clash → IsFreeOfClashes kept
no_clash kept (Some path) clash e k = absurd (none-some (fault.Reserved path) (sym e))
no_clash kept None (Some clash) e k = absurd (none-some (fault.Clash clash) (sym e))
no_clash kept None None e k = k

module _ (settings : Set) (mediators : List SetMediator) (packages : List Package) (admitted kept : List Placed) (are : AreAdmitted settings packages admitted) (seen : List Placed) (same : seen ≡ admitted) (left : Leaves (Stays mediators seen) seen kept) where
  abbrev taken : Taken settings mediators packages
  taken = record { admitted = admitted; kept = kept; are_admitted = are; are_kept = subst (λ (l : List Placed). Leaves (Stays mediators l) l kept) same left }

  pub fails : (again under : List Placed) (found : Option RelPath) (clash : Option Clash) (f : WantFault) → again ≡ admitted → ReservedIn again found → under ≡ kept → ClashIn under clash → fault_told found clash ≡ Some f → PackagesFail settings mediators packages f
  fails again under (Some path) clash f here h there k e =
      subst (PackagesFail settings mediators packages) (same_Some (fault.Reserved path) f e) (record { taken = taken; fault_is = subst (λ (l : List Placed). IsLeastReserved l path.bytes) here h })
  fails again under None (Some clash) f here h there k e =
      subst (PackagesFail settings mediators packages) (same_Some (fault.Clash clash) f e) (record { taken = taken; fault_is = (subst IsFreeOfReserved here h, subst (λ (l : List Placed). ClashIn l (Some clash)) there k) })
  fails again under None None f here h there k e = absurd (none-some f e)

  pub meant : (again under of : List Placed) (found : Option RelPath) (clash : Option Clash) (entries : List (List ℕ × Entry)) → again ≡ admitted → ReservedIn again found → under ≡ kept → ClashIn under clash → fault_told found clash ≡ None → of ≡ kept → IsWantOf of entries
      → PackagesMean settings mediators packages entries
  meant again under of (Some path) clash entries here h there k e at want = absurd (none-some (fault.Reserved path) (sym e))
  meant again under of None (Some clash) entries here h there k e at want = absurd (none-some (fault.Clash clash) (sym e))
  meant again under of None None entries here h there k e at want = record {
    taken = taken;
    no_reserved = subst IsFreeOfReserved here h;
    no_clash = subst IsFreeOfClashes there k;
    want = subst (λ (l : List Placed). IsWantOf l entries) at want;
  }
