-- Steps of the walk through a catalog.
use Rattle.std.proofs.Common.{◌≡◌, ℕ, suc, ◌+◌, ◌<◌, ◌≤◌, List, [], ◌∷◌, ◌++◌, length, get_or, drop, map, Result, Ok, Err, refl, sym, ap, ◌∙◌, arith, append_assoc, append-nil}
use Rattle.std.proofs.lemmas.List.{drop_more, drop_all, map-append}
use Rattle.ips_text.specs.declared.refusal.Or.{Or}
use Rattle.ips_text.specs.declared.refusal.Or.TheVariants.{Bad, OutOfMemory}
use Rattle.ips_text.specs.Reading.{◌>>=◌, Fails}
use Rattle.ips_fmri.specs.Version.{Parts}
use Rattle.ips_catalog.specs.declared.packages.Listing.{Listing}
use Rattle.ips_catalog.specs.declared.fault.CatalogFault.{CatalogFault}
use Rattle.ips_catalog.specs.Listed.{Listed}
use Rattle.ips_catalog.specs.Seen.{seen}
use Rattle.ips_catalog.specs.Reading.{entry_at, versions_at, package_at, packages_at}
use Rattle.ips_catalog.specs.Outline.{Entry, package_kept, packages_kept, entry_data, entries_data, package_data, packages_data}
use Rattle.ips_catalog.proofs.Outlines.{Kept}

-- what fails first fails the whole
pub fails_then : {X Y E : Type 0} (e : Or E) (r : Result X E) (f : X → Result Y E) → Fails e r → Fails e (r >>= f)
fails_then (Bad e) r f h = ap (λ x. x >>= f) h
fails_then OutOfMemory r f h = tt

-- ---- entries

pub entry_first : (publisher stem : List ℕ) (index : ℕ) (before : List Parts) (entries : List Entry) (entry : Entry) → index < length entries → entry ≡ get_or entries index entry
    → versions_at publisher stem index before (entries_data (drop index entries))
    ≡ (entry_at publisher stem index before (entry_data entry) >>= λ versions. versions_at publisher stem (index + 1) versions (entries_data (drop (index + 1) entries)))
unfolding versions_at
entry_first publisher stem index before entries entry within is =
    let here : drop index entries ≡ entry ∷ drop (index + 1) entries = drop_more entries index entry within ∙ ap (λ (x : Entry). x ∷ drop (index + 1) entries) (sym is) in
    let next : suc index ≡ index + 1 = omega arith in
    ap (λ (xs : List Entry). versions_at publisher stem index before (entries_data xs)) here
    ∙ ap (λ (n : ℕ). entry_at publisher stem index before (entry_data entry) >>= λ versions. versions_at publisher stem n versions (entries_data (drop (index + 1) entries))) next

pub entries_end : (publisher stem : List ℕ) (index : ℕ) (before : List Parts) (entries : List Entry) → length entries ≤ index → versions_at publisher stem index before (entries_data (drop index entries)) ≡ Ok before
unfolding versions_at
entries_end publisher stem index before entries past = ap (λ (xs : List Entry). versions_at publisher stem index before (entries_data xs)) (drop_all index entries past)

-- ---- packages

-- the packages behind those that were read
abbrev pub behind : List Listed → Result (List Listed) CatalogFault → Result (List Listed) CatalogFault
behind front rest = rest >>= λ packages. Ok (front ++ packages)

pub behind_nothing : (rest : Result (List Listed) CatalogFault) → rest ≡ behind [] rest
behind_nothing (Ok packages) = refl
behind_nothing (Err fault) = refl

behind_more : (front : List Listed) (listed : Listed) (rest : Result (List Listed) CatalogFault) → behind front (rest >>= λ packages. Ok (listed ∷ packages)) ≡ behind (front ++ listed ∷ []) rest
behind_more front listed (Ok packages) = ap Ok (sym (append_assoc front (listed ∷ []) packages))
behind_more front listed (Err fault) = refl

-- the package of the first member, and the others behind it
abbrev then_others : List ℕ → List Kept → Listed → Result (List Listed) CatalogFault
then_others publisher es listed = packages_at publisher (packages_data (packages_kept es)) >>= λ packages. Ok (listed ∷ packages)

package_first : (publisher key : List ℕ) (left es : List Kept) (e : Kept) → left ≡ e ∷ es → key ≡ e.0
    → packages_at publisher (packages_data (packages_kept left)) ≡ (package_at publisher key (package_data (package_kept e.1)) >>= then_others publisher es)
unfolding packages_at
package_first publisher key left es e is named =
    ap (λ (xs : List Kept). packages_at publisher (packages_data (packages_kept xs))) is
    ∙ ap (λ (k : List ℕ). package_at publisher k (package_data (package_kept e.1)) >>= then_others publisher es) (sym named)

pub package_fails : (publisher key : List ℕ) (all left es : List Kept) (e : Kept) (front : List Listed) (or : Or CatalogFault) → left ≡ e ∷ es → key ≡ e.0
    → packages_at publisher (packages_data (packages_kept all)) ≡ behind front (packages_at publisher (packages_data (packages_kept left))) → Fails or (package_at publisher key (package_data (package_kept e.1))) → Fails or (packages_at publisher (packages_data (packages_kept all)))
package_fails publisher key all left es e front or is named whole h =
    rw (whole, package_first publisher key left es e is named)
    (fails_then or (package_at publisher key (package_data (package_kept e.1)) >>= then_others publisher es) (λ packages. Ok (front ++ packages)) (fails_then or (package_at publisher key (package_data (package_kept e.1))) (then_others publisher es) h))

pub package_more : (publisher key : List ℕ) (all left es : List Kept) (e : Kept) (before after : List Listing) (l : Listing) → left ≡ e ∷ es → key ≡ e.0
    → packages_at publisher (packages_data (packages_kept all)) ≡ behind (map seen before) (packages_at publisher (packages_data (packages_kept left))) → package_at publisher key (package_data (package_kept e.1)) ≡ Ok (seen l) → after ≡ before ++ l ∷ []
    → packages_at publisher (packages_data (packages_kept all)) ≡ behind (map seen after) (packages_at publisher (packages_data (packages_kept es)))
package_more publisher key all left es e before after l is named whole read pushed =
    let rest = packages_at publisher (packages_data (packages_kept es)) in
    let listed : map seen after ≡ map seen before ++ seen l ∷ [] = ap (map seen) pushed ∙ map-append seen before (l ∷ []) in
    whole
    ∙ ap (behind (map seen before)) (package_first publisher key left es e is named ∙ ap (λ (r : Result Listed CatalogFault). r >>= then_others publisher es) read)
    ∙ behind_more (map seen before) (seen l) rest
    ∙ ap (λ (front : List Listed). behind front rest) (sym listed)

pub packages_end : (publisher : List ℕ) (all left : List Kept) (front : List Listed) → left ≡ [] → packages_at publisher (packages_data (packages_kept all)) ≡ behind front (packages_at publisher (packages_data (packages_kept left))) → packages_at publisher (packages_data (packages_kept all)) ≡ Ok front
unfolding packages_at
packages_end publisher all left front none whole =
    whole ∙ ap (λ (xs : List Kept). behind front (packages_at publisher (packages_data (packages_kept xs)))) none ∙ ap Ok (append-nil front)

pub none_left : (es : List Kept) → (0 < length es → ⊥) → es ≡ []
none_left [] none = refl
none_left (e ∷ es) none = absurd (none (omega arith))
