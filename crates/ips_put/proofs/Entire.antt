-- What is put is whole.
use Rattle.std.proofs.Common.{◌≡◌, ℕ, zero, suc, ◌<◌, Bool, true, false, cond, List, [], ◌∷◌, length, Option, Some, None, Vec, Global, slice_get, Result, Ok, Err, Ordering, Less, Equal, Greater, refl, sym, ap, subst, ◌∙◌, arith, inl, inr, ◌⊎◌}
use Rattle.std.specs.Prelude.{nat_lt}
use Rattle.std.specs.List.{Contains}
use Rattle.std.specs.Str.{IsUtf8, bytes_eq}
use Rattle.std.proofs.lemmas.Bool.{true≢false}
use Rattle.std.specs.Ordering.{MatchOrdering, match_ordering}
use Rattle.std.specs.BTreeSet.{insert_key}
use Rattle.std.proofs.lemmas.Slice.Eq.{bytes_eq-Decides}
use Rattle.ips_text.specs.Ancestry.{covers}
use Rattle.ips_text.proofs.Readers.{ok_not_err}
use Rattle.ips_outside.specs.Image.{Entry, Image, file_bytes}
use Rattle.ips_steps.specs.Private.{visible}
use Rattle.ips_digest.specs.declared.name.PayloadName.{PayloadName}
use Rattle.ips_fmri.specs.Version.{Parts}
use Rattle.ips_fmri.specs.Order.{IsLess, version_cmp}
use Rattle.ips_fmri.proofs.Orders.{versions_tell}
use Rattle.ips_manifest.specs.declared.line.Line.{Line}
use Rattle.ips_catalog.specs.Listed.{Listed, count_of, versions_of}
use Rattle.ips_catalog.specs.Reading.{read_catalog}
use Rattle.ips_catalog.specs.declared.fault.CatalogFault.{CatalogFault}
use Rattle.ips_files.specs.Files.{file_at}
use Rattle.ips_repo.specs.Places.{mark_place, payload_place}
use Rattle.ips_repo.specs.Mark.{is_repository, is_mark_file}
use Rattle.ips_repo.specs.Opening.{opening, catalog_in, limited}
use Rattle.ips_repo.specs.Payload.{HasIntact}
use Rattle.ips_repo.specs.declared.fault.RepoFault.{RepoFault}
use Rattle.ips_repo.specs.declared.fault.RepoFault.TheVariants as fault
use Rattle.ips_journal.specs.declared.staged.Staged.{Staged}
use Rattle.ips_journal.specs.declared.staged.Staged.TheVariants.{Bytes}
use Rattle.ips_listing.specs.Text.{catalog_text, with_version}
use Rattle.ips_listing.proofs.Values.{read_back}
use Rattle.ips_listing.proofs.Puts.{lists_more, in_order_more, its_versions, other_versions}
use Rattle.ips_sends.specs.Whole.{Attempt, IsInCatalog, IsWhole, IsAtSame, AreWholeOrOut}
use Rattle.ips_put.specs.Putting.{IsMeant}
use Rattle.ips_put.specs.Two.{two_puts}
use Rattle.ips_put.specs.Ready.{manifest_of, place_of_catalog, IsReadyToPut, AreApart}
use Rattle.ips_put.proofs.Pair.{first_put, second_put, others_kept}

-- what compares as equal is the same version
same_version : (v w : Parts) → version_cmp v w ≡ Equal → v ≡ w
same_version v w e = subst (λ (o : Ordering). MatchOrdering o (IsLess v w) (v ≡ w) (IsLess w v)) e (versions_tell v w).holds

inserted : (versions : List Parts) (v : Parts) → Contains (insert_key version_cmp versions v) v
inserted [] v = (zero, omega arith, refl)
inserted (w ∷ versions) v = by (version_cmp v w) refl (inserted versions v)
  where
    by : (o : Ordering) → version_cmp v w ≡ o → Contains (insert_key version_cmp versions v) v → Contains (match_ordering o (v ∷ w ∷ versions) (w ∷ versions) (w ∷ insert_key version_cmp versions v)) v
    by Less e more = (zero, omega arith, refl)
    by Equal e more = (zero, omega arith, sym (same_version v w e))
    by Greater e (k, within, is) = (suc k, omega (arith, within), is)

contains_cases : {K : Type 0} (x : K) (xs : List K) (q : K) → Contains (x ∷ xs) q → (x ≡ q) ⊎ Contains xs q
contains_cases x xs q (zero, within, is) = inl is
contains_cases x xs q (suc k, within, is) = inr (k, omega arith, is)

contains_later : {K : Type 0} (x : K) (xs : List K) (q : K) → Contains xs q → Contains (x ∷ xs) q
contains_later x xs q (k, within, is) = (suc k, omega arith, is)

contains_none : {K : Type 0} (q : K) → Contains {X = K} [] q → ⊥
contains_none q (k, within, is) = omega arith

-- what is there behind an insertion was there, or was inserted
insert_cases : (versions : List Parts) (v w : Parts) → Contains (insert_key version_cmp versions v) w → (w ≡ v) ⊎ Contains versions w
insert_cases [] v w has = turned (contains_cases v [] w has)
  where
    turned : (v ≡ w) ⊎ Contains {X = Parts} [] w → (w ≡ v) ⊎ Contains {X = Parts} [] w
    turned (inl is) = inl (sym is)
    turned (inr more) = inr more
insert_cases (u ∷ versions) v w has = by (version_cmp v u) refl has (insert_cases versions v w)
  where
    turned : (v ≡ w) ⊎ Contains (u ∷ versions) w → (w ≡ v) ⊎ Contains (u ∷ versions) w
    turned (inl is) = inl (sym is)
    turned (inr more) = inr more

    pushed : (w ≡ v) ⊎ Contains versions w → (w ≡ v) ⊎ Contains (u ∷ versions) w
    pushed (inl is) = inl is
    pushed (inr more) = inr (contains_later u versions w more)

    passed : (Contains (insert_key version_cmp versions v) w → (w ≡ v) ⊎ Contains versions w) → (u ≡ w) ⊎ Contains (insert_key version_cmp versions v) w → (w ≡ v) ⊎ Contains (u ∷ versions) w
    passed rest (inl is) = inr (zero, omega arith, is)
    passed rest (inr more) = pushed (rest more)

    by : (o : Ordering) → version_cmp v u ≡ o → Contains (match_ordering o (v ∷ u ∷ versions) (u ∷ versions) (u ∷ insert_key version_cmp versions v)) w
        → (Contains (insert_key version_cmp versions v) w → (w ≡ v) ⊎ Contains versions w) → (w ≡ v) ⊎ Contains (u ∷ versions) w
    by Less e there rest = turned (contains_cases v (u ∷ versions) w there)
    by Equal e there rest = inr there
    by Greater e there rest = passed rest (contains_cases u (insert_key version_cmp versions v) w there)

insert_holds : (versions : List Parts) (v w : Parts) → Contains versions w → Contains (insert_key version_cmp versions v) w
insert_holds [] v w has = absurd (contains_none w has)
insert_holds (u ∷ versions) v w has = by (version_cmp v u) refl (insert_holds versions v w)
  where
    passed : (Contains versions w → Contains (insert_key version_cmp versions v) w) → (u ≡ w) ⊎ Contains versions w → Contains (u ∷ insert_key version_cmp versions v) w
    passed rest (inl is) = (zero, omega arith, is)
    passed rest (inr more) = contains_later u (insert_key version_cmp versions v) w (rest more)

    by : (o : Ordering) → version_cmp v u ≡ o → (Contains versions w → Contains (insert_key version_cmp versions v) w)
        → Contains (match_ordering o (v ∷ u ∷ versions) (u ∷ versions) (u ∷ insert_key version_cmp versions v)) w
    by Less e rest = contains_later v (u ∷ versions) w has
    by Equal e rest = has
    by Greater e rest = passed rest (contains_cases u versions w has)

same_stem : (s r : List ℕ) → (s ≡ r) ⊎ (s ≡ r → ⊥)
same_stem s r = by (bytes_eq s r) refl
  where
    by : (b : Bool) → bytes_eq s r ≡ b → (s ≡ r) ⊎ (s ≡ r → ⊥)
    by true e = inl ((bytes_eq-Decides s r).0 e)
    by false e = inr (λ is. absurd (true≢false (sym ((bytes_eq-Decides s r).1 is) ∙ e)))

pub same_ok : (r : Result (List Listed) RepoFault) (c d : List Listed) → r ≡ Ok c → r ≡ Ok d → c ≡ d
same_ok r c d e f = cc

-- a repository that is open is marked
pub marked : (b : Bool) (r : Result (List Listed) RepoFault) (catalog : List Listed) → cond b r (Err fault.NoRepository) ≡ Ok catalog → b ≡ true
marked true r catalog e = refl
marked false r catalog e = absurd (ok_not_err catalog fault.NoRepository (sym e))

-- an attempt that isn't listed is out
module _ (t : Image) (x : Attempt) (xs : List Attempt) (mark : is_repository t ≡ true) (unlisted : IsInCatalog t x → ⊥) (silent : x.answered ≡ false) (were : AreWholeOrOut xs t) where
  abbrev StandsYet : Attempt → Type 0
  StandsYet y = (z : Attempt) × Contains (x ∷ xs) z × IsAtSame y z × IsWhole t z

  each_yet : (y : Attempt) → (x ≡ y) ⊎ Contains xs y → IsInCatalog t y → StandsYet y
  each_yet y (inl is) listed = absurd (unlisted (subst (λ (z : Attempt). IsInCatalog t z) (sym is) listed))
  each_yet y (inr at) listed = let z = were.each y at listed in (z.0, contains_later x xs z.0 z.1, z.2, z.3)

  answered_yet : (y : Attempt) → (x ≡ y) ⊎ Contains xs y → y.answered ≡ true → IsWhole t y
  answered_yet y (inl is) said = absurd (true≢false (sym said ∙ ap (λ (z : Attempt). z.answered) (sym is) ∙ silent))
  answered_yet y (inr at) said = were.answered y at said

  pub begun_out : AreWholeOrOut (x ∷ xs) t
  begun_out = record {
    mark = λ y at. mark;
    each = λ y at listed. each_yet y (contains_cases x xs y at) listed;
    answered = λ y at said. answered_yet y (contains_cases x xs y at) said;
  }

module _ (t a : Image) (x : Attempt) (catalog : List Listed) (lines : List Line) (m c : Vec ℕ Global) (h : IsReadyToPut t x catalog lines m.items c.items) (staged : List Staged)
    (meant : IsMeant (two_puts (manifest_of x) (place_of_catalog x)) staged t a) (first : slice_get staged 0 ≡ Some (Bytes m)) (second : slice_get staged 1 ≡ Some (Bytes c)) where
  abbrev more : List Listed
  more = with_version x.stem x.version catalog

  kept : (r : List ℕ) → covers (manifest_of x) r ≡ false → covers (place_of_catalog x) r ≡ false → file_at a r ≡ file_at (visible t) r
  kept r off out = ap file_bytes (others_kept t (manifest_of x) (place_of_catalog x) h.can staged a meant r off out)

  text_back : read_catalog x.publisher c.items ≡ Ok more
  text_back =
      let utf8 : IsUtf8 (catalog_text x.publisher more) = subst IsUtf8 h.catalog_is h.utf8 in
      ap (read_catalog x.publisher) h.catalog_is
      ∙ read_back x.publisher more (in_order_more x.stem x.version catalog h.ordered) (lists_more x.stem x.version catalog h.stem h.version h.listings) utf8

  catalog_back : catalog_in x.publisher (Some c.items) ≡ Ok more
  catalog_back = let back = text_back in let bytes = h.bytes_fit in let stems = h.stems_fit in let versions = h.versions_fit in rw (bytes, back, stems, versions) refl

  mark_after : is_repository a ≡ true
  mark_after = ap is_mark_file (kept mark_place h.first_marked h.second_marked) ∙ marked (is_repository (visible t)) (catalog_in x.publisher (file_at (visible t) (place_of_catalog x))) catalog h.opened

  pub open_after : opening x.publisher a ≡ Ok more
  open_after =
      ap (λ (b : Bool). cond b (catalog_in x.publisher (file_at a (place_of_catalog x))) (Err fault.NoRepository)) mark_after
      ∙ ap (catalog_in x.publisher) (ap file_bytes (second_put t (manifest_of x) (place_of_catalog x) h.can staged a meant c second))
      ∙ catalog_back

  pub whole : IsWhole a x
  whole = record {
    listed = (more, open_after, subst (λ (vs : List Parts). Contains vs x.version) (sym (its_versions x.stem x.version catalog h.ordered.stems)) (inserted (versions_of catalog x.stem) x.version));
    text = m.items;
    stands = ap file_bytes (first_put t (manifest_of x) (place_of_catalog x) h.can staged a meant m first);
    lines = lines;
    means = h.means;
    has = h.has;
    intact = λ name has.
        let i = h.intact name has in
        (i.0, record { stands = kept (payload_place x.publisher name) (h.first_apart name) (h.second_apart name) ∙ i.1.stands; within = i.1.within; named = i.1.named });
  }

  stays : (s : List ℕ) (v : Parts) → Contains (versions_of catalog s) v → Contains (versions_of more s) v
  stays s v has = by (same_stem s x.stem)
    where
      by : (s ≡ x.stem) ⊎ (s ≡ x.stem → ⊥) → Contains (versions_of more s) v
      by (inl same) =
          subst (λ (vs : List Parts). Contains vs v) (sym (ap (versions_of more) same ∙ its_versions x.stem x.version catalog h.ordered.stems))
          (insert_holds (versions_of catalog x.stem) x.version v (subst (λ (k : List ℕ). Contains (versions_of catalog k) v) same has))
      by (inr other) = subst (λ (vs : List Parts). Contains vs v) (sym (other_versions x.stem s x.version catalog other)) has

  module _ (xs : List Attempt) (apart : AreApart x catalog xs) (was : AreWholeOrOut xs (visible t)) where
    open_before : (y : Attempt) → y.publisher ≡ x.publisher → opening y.publisher (visible t) ≡ Ok catalog
    open_before y same = ap (λ (p : List ℕ). opening p (visible t)) same ∙ h.opened

    open_behind : (y : Attempt) → y.publisher ≡ x.publisher → opening y.publisher a ≡ Ok more
    open_behind y same = ap (λ (p : List ℕ). opening p a) same ∙ open_after

    opening_same : (y : Attempt) → covers (manifest_of x) (place_of_catalog y) ≡ false → covers (place_of_catalog x) (place_of_catalog y) ≡ false → opening y.publisher a ≡ opening y.publisher (visible t)
    opening_same y off out =
        ap (λ (f : Option (List ℕ)). cond (is_mark_file f) (catalog_in y.publisher (file_at a (place_of_catalog y))) (Err fault.NoRepository)) (kept mark_place h.first_marked h.second_marked)
        ∙ ap (λ (f : Option (List ℕ)). cond (is_mark_file (file_at (visible t) mark_place)) (catalog_in y.publisher f) (Err fault.NoRepository)) (kept (place_of_catalog y) off out)

    still : (y : Attempt) → Contains xs y → IsInCatalog (visible t) y → IsInCatalog a y
    still y at (before, opened, lists) = by (apart.catalogs y at)
      where
        by : (y.publisher ≡ x.publisher) ⊎ ((covers (manifest_of x) (place_of_catalog y) ≡ false) × (covers (place_of_catalog x) (place_of_catalog y) ≡ false)) → IsInCatalog a y
        by (inl same) =
            let is : before ≡ catalog = same_ok (opening y.publisher (visible t)) before catalog opened (open_before y same) in
            (more, open_behind y same, stays y.stem y.version (subst (λ (l : List Listed). Contains (versions_of l y.stem) y.version) is lists))
        by (inr out) = (before, opening_same y out.0 out.1 ∙ opened, lists)

    -- no attempt at this version was listed
    not_before : (z : Attempt) → IsAtSame x z → IsInCatalog (visible t) z → ⊥
    not_before z same (before, opened, lists) =
        let is : before ≡ catalog = same_ok (opening z.publisher (visible t)) before catalog opened (open_before z same.publisher) in
        let there : Contains (versions_of catalog z.stem) z.version = subst (λ (l : List Listed). Contains (versions_of l z.stem) z.version) is lists in
        let of_stem : Contains (versions_of catalog x.stem) z.version = subst (λ (s : List ℕ). Contains (versions_of catalog s) z.version) same.stem there in
        apart.unlisted (subst (λ (v : Parts). Contains (versions_of catalog x.stem) v) same.version of_stem)

    whole_on : (z : Attempt) → Contains xs z → IsWhole (visible t) z → IsWhole a z
    whole_on z at is = by (apart.manifests z at)
      where
        by : IsAtSame x z ⊎ ((covers (manifest_of x) (manifest_of z) ≡ false) × (covers (place_of_catalog x) (manifest_of z) ≡ false)) → IsWhole a z
        by (inl same) = absurd (not_before z same is.listed)
        by (inr out) = record {
          listed = still z at is.listed;
          text = is.text;
          stands = kept (manifest_of z) out.0 out.1 ∙ is.stands;
          lines = is.lines;
          means = is.means;
          has = is.has;
          intact = λ name has.
              let i = is.intact name has in
              let off = apart.payloads z name at in
              (i.0, record { stands = kept (payload_place z.publisher name) off.0 off.1 ∙ i.1.stands; within = i.1.within; named = i.1.named });
        }

    -- what is listed now was, or is at this version
    back : (y : Attempt) → Contains xs y → IsInCatalog a y → IsAtSame x y ⊎ IsInCatalog (visible t) y
    back y at (now, opened, lists) = by (apart.catalogs y at)
      where
        by_version : y.publisher ≡ x.publisher → y.stem ≡ x.stem → (y.version ≡ x.version) ⊎ Contains (versions_of catalog x.stem) y.version → IsAtSame x y ⊎ IsInCatalog (visible t) y
        by_version same stem (inl version) = inl (record { publisher = same; stem = stem; version = version })
        by_version same stem (inr before) = inr (catalog, open_before y same, subst (λ (s : List ℕ). Contains (versions_of catalog s) y.version) (sym stem) before)

        by_stem : y.publisher ≡ x.publisher → Contains (versions_of more y.stem) y.version → (y.stem ≡ x.stem) ⊎ (y.stem ≡ x.stem → ⊥) → IsAtSame x y ⊎ IsInCatalog (visible t) y
        by_stem same has (inl stem) =
            let put : Contains (insert_key version_cmp (versions_of catalog x.stem) x.version) y.version
            = subst (λ (vs : List Parts). Contains vs y.version) (ap (versions_of more) stem ∙ its_versions x.stem x.version catalog h.ordered.stems) has in
            by_version same stem (insert_cases (versions_of catalog x.stem) x.version y.version put)
        by_stem same has (inr other) = inr (catalog, open_before y same, subst (λ (vs : List Parts). Contains vs y.version) (other_versions x.stem y.stem x.version catalog other) has)

        by : (y.publisher ≡ x.publisher) ⊎ ((covers (manifest_of x) (place_of_catalog y) ≡ false) × (covers (place_of_catalog x) (place_of_catalog y) ≡ false)) → IsAtSame x y ⊎ IsInCatalog (visible t) y
        by (inl same) =
            let is : now ≡ more = same_ok (opening y.publisher a) now more opened (open_behind y same) in
            by_stem same (subst (λ (l : List Listed). Contains (versions_of l y.stem) y.version) is lists) (same_stem y.stem x.stem)
        by (inr out) = inr (now, sym (opening_same y out.0 out.1) ∙ opened, lists)

    abbrev Stands : Attempt → Type 0
    Stands y = (z : Attempt) × Contains (x ∷ xs) z × IsAtSame y z × IsWhole a z

    each_of : (y : Attempt) → (x ≡ y) ⊎ Contains xs y → IsInCatalog a y → Stands y
    each_of y (inl is) listed = subst Stands is (x, (zero, omega arith, refl), record { publisher = refl; stem = refl; version = refl }, whole)
    each_of y (inr at) listed = by (back y at listed)
      where
        by : IsAtSame x y ⊎ IsInCatalog (visible t) y → Stands y
        by (inl same) = (x, (zero, omega arith, refl), record { publisher = sym same.publisher; stem = sym same.stem; version = sym same.version }, whole)
        by (inr before) = let z = was.each y at before in (z.0, contains_later x xs z.0 z.1, z.2, whole_on z.0 z.1 z.3)

    answered_of : (y : Attempt) → (x ≡ y) ⊎ Contains xs y → y.answered ≡ true → IsWhole a y
    answered_of y (inl is) said = subst (λ (z : Attempt). IsWhole a z) is whole
    answered_of y (inr at) said = whole_on y at (was.answered y at said)

    pub all_whole_or_out : AreWholeOrOut (x ∷ xs) a
    all_whole_or_out = record {
      mark = λ y at. mark_after;
      each = λ y at listed. each_of y (contains_cases x xs y at) listed;
      answered = λ y at said. answered_of y (contains_cases x xs y at) said;
    }
