-- What packages mean, and why they mean nothing, exclude each other.
use Rattle.std.proofs.Common.{◌≡◌, ◌⊎◌, inl, inr, ℕ, List, [], ◌∷◌, refl, sym, ◌∙◌, ap, subst}
use Rattle.ips_manifest.specs.declared.package.Package.{Package}
use Rattle.ips_filter.specs.Settings.{Set}
use Rattle.ips_filter.specs.Admitted.{Admits}
use Rattle.ips_mediate.specs.declared.set.SetMediator.{SetMediator}
use Rattle.ips_conflict.specs.declared.placed.Placed.{Placed}
use Rattle.ips_conflict.specs.Clash.{Conflict, IsFirst}
use Rattle.ips_meaning.specs.Taken.{Leaves, Stays, Taken, all_placed}
use Rattle.ips_meaning.specs.Reserved.{IsFreeOfReserved}
use Rattle.ips_meaning.specs.Want.{PackagesMean, PackagesFail, IsFaultIn, IsFreeOfClashes}
use Rattle.ips_meaning.specs.declared.fault.WantFault.{WantFault}
use Rattle.ips_meaning.specs.declared.fault.WantFault.TheVariants as fault
use Rattle.ips_meaning.specs.declared.entry.Entry.{Entry}

-- what is left of a list is one list
pub one_left : {A : Type 0} (P : A → Type 0) (xs a b : List A) → Leaves P xs a → Leaves P xs b → a ≡ b
one_left P [] a b x y = x ∙ sym y
one_left {A} P (x ∷ xs) a b (inl p) (inl q) = p.1.2 ∙ ap (λ (l : List A). x ∷ l) (one_left P xs p.1.0 q.1.0 p.1.1 q.1.1) ∙ sym q.1.2
one_left P (x ∷ xs) a b (inl p) (inr q) = absurd (q.0 p.0)
one_left P (x ∷ xs) a b (inr p) (inl q) = absurd (p.0 q.0)
one_left P (x ∷ xs) a b (inr p) (inr q) = one_left P xs a b p.1 q.1

-- an image takes one list of admitted actions, and one of kept ones
one_admitted : (s : Set) (mediators : List SetMediator) (packages : List Package) (x y : Taken s mediators packages) → x.admitted ≡ y.admitted
one_admitted s mediators packages x y = one_left (λ (p : Placed). Admits s p.action.attrs) (all_placed packages) x.admitted y.admitted x.are_admitted y.are_admitted

one_kept : (s : Set) (mediators : List SetMediator) (packages : List Package) (x y : Taken s mediators packages) → x.kept ≡ y.kept
one_kept s mediators packages x y =
    let same = one_admitted s mediators packages x y in
    let here = subst (λ (l : List Placed). Leaves (Stays mediators l) l x.kept) same x.are_kept in
    one_left (Stays mediators y.admitted) y.admitted x.kept y.kept here y.are_kept

-- neither a reserved path nor a clash can be told of what has none
not_at_fault : (admitted kept : List Placed) (why : WantFault) → IsFreeOfReserved admitted → IsFreeOfClashes kept → IsFaultIn admitted kept why → ⊥
not_at_fault admitted kept (fault.Reserved path) free none is = free path.bytes is.taken
not_at_fault admitted kept (fault.Clash clash) free none is = none is.1.0 is.1.1.conflict

pub apart : (s : Set) (mediators : List SetMediator) (packages : List Package) (entries : List (List ℕ × Entry)) (why : WantFault) → PackagesMean s mediators packages entries → PackagesFail s mediators packages why → ⊥
apart s mediators packages entries why mean fail =
    let free = subst IsFreeOfReserved (one_admitted s mediators packages mean.taken fail.taken) mean.no_reserved in
    let none = subst IsFreeOfClashes (one_kept s mediators packages mean.taken fail.taken) mean.no_clash in
    not_at_fault fail.taken.admitted fail.taken.kept why free none fail.fault_is
