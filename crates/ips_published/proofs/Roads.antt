-- The directories on the way to a package: each is a path, in the root or in one of those before it.
use Rattle.std.proofs.Common.{◌≡◌, inl, inr, ℕ, zero, suc, true, not, eqb, List, [], ◌∷◌, ◌++◌, map, take, Some, refl, sym, ap, subst, ◌∙◌, arith, append_assoc, length-append}
use Rattle.std.specs.Prelude.{codes}
use Rattle.std.specs.List.{Contains, list_all, join_with_byte}
use Rattle.std.proofs.lemmas.Bool.{and_parts, not-true}
use Rattle.ips_text.specs.Ancestry.{parent}
use Rattle.ips_text.specs.Path.{IsPath}
use Rattle.ips_text.specs.Quote.{quoted}
use Rattle.ips_text.proofs.Fronts.{front_path, ascii_path, records_path}
use Rattle.ips_outside.specs.Image.{Image, IsImage}
use Rattle.ips_steps.specs.Private.{records_name}
use Rattle.ips_digest.specs.Name.{IsName, spelling}
use Rattle.ips_digest.specs.declared.name.PayloadName.{PayloadName}
use Rattle.ips_fmri.specs.Name.{IsPublisher}
use Rattle.ips_fmri.specs.Version.{Parts, version_text}
use Rattle.ips_records.proofs.Joined.{IsFileName, joined_path}
use Rattle.ips_records.proofs.FileNames.{publisher_name}
use Rattle.ips_repo.proofs.Digits.{payload_digits}
use Rattle.ips_repo.specs.Places.{publisher_place, catalog_place, manifest_place, payload_place}
use Rattle.ips_sends.specs.Judged.{payload_dir, ways}
use Rattle.ips_sends.proofs.Apart.{NoSlash, parent_joined}
use Rattle.ips_sends.proofs.Free.{component_free, spelled_free, front_free}
use Rattle.ips_put.proofs.Places.{quoted_free}
use Rattle.ips_ways.specs.Ways.{IsFree, is_dir_or_free}
use Rattle.ips_ways.proofs.Stand.{In, HaveWay, CanStart, are_free}
use Rattle.ips_lay.specs.Records.{record_dirs}

-- ---- words

word_publisher : IsFileName (codes "publisher")
word_publisher = record { bytes = refl; some = omega arith; few = omega arith; no_dots = refl }

word_file : IsFileName (codes "file")
word_file = record { bytes = refl; some = omega arith; few = omega arith; no_dots = refl }

no_slash : (x : List ℕ) → list_all (λ (b : ℕ). not (eqb b 47)) x ≡ true → NoSlash x
no_slash [] h = tt
no_slash (b ∷ x) h = let p = and_parts (not (eqb b 47)) (list_all (λ (c : ℕ). not (eqb c 47)) x) h in (not-true (eqb b 47) p.0, no_slash x p.1)

-- ---- the directories of the records

var_path : IsPath (codes "var")
var_path = ascii_path (codes "var") refl refl refl refl refl (omega arith) (omega arith) refl

top_path : IsPath (codes "publisher")
top_path = ascii_path (codes "publisher") refl refl refl refl refl (omega arith) (omega arith) refl

pub records_are : codes "var/pkg" ≡ records_name
unfolding records_name
records_are = refl

name_path : IsPath records_name
name_path = subst IsPath records_are records_path

records_parent : parent records_name ≡ Some (codes "var")
unfolding records_name
records_parent = refl

record_ways : HaveWay [] record_dirs
record_ways = (var_path, inl refl, (records_path, inr (codes "var", refl, inl refl), tt))

-- ---- those of a package

module _ (publisher : List ℕ) (is : IsPublisher publisher) where
  abbrev place : List ℕ
  place = publisher_place publisher

  abbrev pub catalog_dir : List ℕ
  catalog_dir = publisher_place publisher ++ codes "/catalog"

  abbrev manifests_dir : List ℕ
  manifests_dir = publisher_place publisher ++ codes "/pkg"

  abbrev files_dir : List ℕ
  files_dir = publisher_place publisher ++ codes "/file"

  abbrev pub stem_dir : List ℕ → List ℕ
  stem_dir stem = publisher_place publisher ++ codes "/pkg/" ++ quoted stem

  stem_form : (stem : List ℕ) → stem_dir stem ≡ manifests_dir ++ (47 ∷ quoted stem)
  stem_form stem = append_assoc place (codes "/pkg/") (quoted stem) ∙ sym (append_assoc place (codes "/pkg") (47 ∷ quoted stem))

  dir_form : (m : PayloadName) → payload_dir publisher m ≡ files_dir ++ (47 ∷ take 2 (spelling m))
  dir_form m = append_assoc place (codes "/file/") (take 2 (spelling m)) ∙ sym (append_assoc place (codes "/file") (47 ∷ take 2 (spelling m)))

  catalog_form : catalog_dir ++ (47 ∷ codes "catalog.base.C") ≡ catalog_place publisher
  catalog_form = append_assoc place (codes "/catalog") (47 ∷ codes "catalog.base.C")

  -- ---- paths

  pub payload_path : (m : PayloadName) → IsName m → IsPath (payload_place publisher m)
  payload_path m n =
      let name = publisher_name publisher is in
      let digits = payload_digits m n in
      let names : List (List ℕ) = codes "publisher" ∷ publisher ∷ codes "file" ∷ take 2 (spelling m) ∷ spelling m ∷ [] in
      let same : join_with_byte 47 names ≡ payload_place publisher m = simp append_assoc in
      subst IsPath same (joined_path names (word_publisher, (name, (word_file, (digits.front, digits.all)))) (simp length-append (omega (arith, name.few, digits.front.few, digits.short))))

  files_path : IsPath files_dir
  files_path =
      let name = publisher_name publisher is in
      let names : List (List ℕ) = codes "publisher" ∷ publisher ∷ codes "file" ∷ [] in
      let same : join_with_byte 47 names ≡ files_dir = simp append_assoc in
      subst IsPath same (joined_path names (word_publisher, (name, word_file)) (simp length-append (omega (arith, name.few))))

  dir_path : (m : PayloadName) → IsName m → IsPath (payload_dir publisher m)
  dir_path m n = front_path (payload_dir publisher m) (spelling m) (payload_path m n)

  -- ---- what they stand in

  free : NoSlash publisher
  free = component_free publisher is.form

  place_parent : parent place ≡ Some (codes "publisher")
  place_parent = parent_joined (codes "publisher") publisher free

  catalog_dir_parent : parent catalog_dir ≡ Some place
  catalog_dir_parent = parent_joined place (codes "catalog") (no_slash (codes "catalog") refl)

  manifests_parent : parent manifests_dir ≡ Some place
  manifests_parent = parent_joined place (codes "pkg") (no_slash (codes "pkg") refl)

  files_parent : parent files_dir ≡ Some place
  files_parent = parent_joined place (codes "file") (no_slash (codes "file") refl)

  stem_parent : (stem : List ℕ) → parent (stem_dir stem) ≡ Some manifests_dir
  stem_parent stem = ap parent (stem_form stem) ∙ parent_joined manifests_dir (quoted stem) (quoted_free stem)

  dir_parent : (m : PayloadName) → IsName m → parent (payload_dir publisher m) ≡ Some files_dir
  dir_parent m n = ap parent (dir_form m) ∙ parent_joined files_dir (take 2 (spelling m)) (front_free 2 (spelling m) (spelled_free m n))

  pub payload_parent : (m : PayloadName) → IsName m → parent (payload_place publisher m) ≡ Some (payload_dir publisher m)
  payload_parent m n = parent_joined (payload_dir publisher m) (spelling m) (spelled_free m n)

  pub manifest_parent : (stem : List ℕ) (version : Parts) → parent (manifest_place publisher stem version) ≡ Some (stem_dir stem)
  manifest_parent stem version = parent_joined (stem_dir stem) (quoted (version_text version)) (quoted_free (version_text version))

  pub catalog_parent : parent (catalog_place publisher) ≡ Some catalog_dir
  catalog_parent = ap parent (sym catalog_form) ∙ parent_joined catalog_dir (codes "catalog.base.C") (no_slash (codes "catalog.base.C") refl)

  -- ---- all of them

  dirs_way : (before : List (List ℕ)) → In before files_dir → (names : List PayloadName) → ((m : PayloadName) → Contains names m → IsName m) → HaveWay before (map (payload_dir publisher) names)
  dirs_way before has [] are = tt
  dirs_way before has (m ∷ names) are =
      let n = are m (zero, omega arith, refl) in
      (dir_path m n, inr (files_dir, dir_parent m n, has), dirs_way (payload_dir publisher m ∷ before) (inr has) names (λ x h. are x (suc h.0, omega (arith, h.1), h.2)))

  module _ (stem : List ℕ) (version : Parts) (manifest : IsPath (manifest_place publisher stem version)) (catalog : IsPath (catalog_place publisher)) where
    stem_path : IsPath (stem_dir stem)
    stem_path = front_path (stem_dir stem) (quoted (version_text version)) manifest

    manifests_path : IsPath manifests_dir
    manifests_path = front_path manifests_dir (quoted stem) (subst IsPath (stem_form stem) stem_path)

    catalog_dir_path : IsPath catalog_dir
    catalog_dir_path = front_path catalog_dir (codes "catalog.base.C") (subst IsPath (sym catalog_form) catalog)

    place_path : IsPath place
    place_path = front_path place (codes "catalog/catalog.base.C") catalog

    pub all_ways : (names : List PayloadName) → ((m : PayloadName) → Contains names m → IsName m) → HaveWay [] (ways publisher stem names)
    all_ways names are = (
      var_path,
      inl refl,
      (
        name_path,
        inr (codes "var", records_parent, inl refl),
        (
          top_path,
          inl refl,
          (
            place_path,
            inr (codes "publisher", place_parent, inl refl),
            (
              catalog_dir_path,
              inr (place, catalog_dir_parent, inl refl),
              (
                manifests_path,
                inr (place, manifests_parent, inr (inl refl)),
                (stem_path, inr (manifests_dir, stem_parent stem, inl refl), (files_path, inr (place, files_parent, inr (inr (inr (inl refl)))), dirs_way _ (inl refl) names are)),
              ),
            ),
          ),
        ),
      ),
    )

  -- ---- which of them it is

  pub data IsRoad (stem w : List ℕ) : Type 0 where
    OfVar : codes "var" ≡ w → IsRoad stem w
    OfRecords : records_name ≡ w → IsRoad stem w
    OfTop : codes "publisher" ≡ w → IsRoad stem w
    OfPublisher : place ≡ w → IsRoad stem w
    OfCatalog : catalog_dir ≡ w → IsRoad stem w
    OfManifests : manifests_dir ≡ w → IsRoad stem w
    OfStem : stem_dir stem ≡ w → IsRoad stem w
    OfFiles : files_dir ≡ w → IsRoad stem w
    OfPayload : (m : PayloadName) → payload_dir publisher m ≡ w → IsRoad stem w

  dir_of : (stem w : List ℕ) (names : List PayloadName) → In (map (payload_dir publisher) names) w → IsRoad stem w
  dir_of stem w [] has = absurd has
  dir_of stem w (m ∷ names) (inl same) = OfPayload m same
  dir_of stem w (m ∷ names) (inr has) = dir_of stem w names has

  pub road_of : (stem w : List ℕ) (names : List PayloadName) → In (ways publisher stem names) w → IsRoad stem w
  road_of stem w names (inl same) = OfVar same
  road_of stem w names (inr (inl same)) = OfRecords same
  road_of stem w names (inr (inr (inl same))) = OfTop same
  road_of stem w names (inr (inr (inr (inl same)))) = OfPublisher same
  road_of stem w names (inr (inr (inr (inr (inl same))))) = OfCatalog same
  road_of stem w names (inr (inr (inr (inr (inr (inl same)))))) = OfManifests same
  road_of stem w names (inr (inr (inr (inr (inr (inr (inl same))))))) = OfStem same
  road_of stem w names (inr (inr (inr (inr (inr (inr (inr (inl same)))))))) = OfFiles same
  road_of stem w names (inr (inr (inr (inr (inr (inr (inr (inr has)))))))) = dir_of stem w names has

  pub stem_among : (stem : List ℕ) (names : List PayloadName) → In (ways publisher stem names) (stem_dir stem)
  stem_among stem names = inr (inr (inr (inr (inr (inr (inl refl))))))

  pub catalog_among : (stem : List ℕ) (names : List PayloadName) → In (ways publisher stem names) catalog_dir
  catalog_among stem names = inr (inr (inr (inr (inl refl))))

  dirs_among : (names : List PayloadName) (m : PayloadName) → Contains names m → In (map (payload_dir publisher) names) (payload_dir publisher m)
  dirs_among [] m (k, within, at) = absurd (omega (arith, within))
  dirs_among (x ∷ names) m (zero, within, at) = inl (ap (payload_dir publisher) at)
  dirs_among (x ∷ names) m (suc k, within, at) = inr (dirs_among names m (k, omega (arith, within), at))

  pub payload_among : (stem : List ℕ) (names : List PayloadName) (m : PayloadName) → Contains names m → In (ways publisher stem names) (payload_dir publisher m)
  payload_among stem names m has = inr (inr (inr (inr (inr (inr (inr (inr (dirs_among names m has))))))))

-- the directories of the records are among them
pub records_among : (publisher stem : List ℕ) (names : List PayloadName) (w : List ℕ) → In record_dirs w → In (ways publisher stem names) w
records_among publisher stem names w (inl same) = inl same
records_among publisher stem names w (inr (inl same)) = inr (inl (sym records_are ∙ same))
records_among publisher stem names w (inr (inr none)) = absurd none

pub name_among : (publisher stem : List ℕ) (names : List PayloadName) → In (ways publisher stem names) records_name
name_among publisher stem names = inr (inl refl)

-- where nothing is in the way, the directories of the records can be made
pub records_start : (t : Image) → IsImage t → (publisher stem : List ℕ) (names : List PayloadName) → IsFree t (ways publisher stem names) → CanStart [] record_dirs t
records_start t formed publisher stem names clear =
    let all = are_free t (ways publisher stem names) clear in
    record { formed = formed; dirs = λ d has. absurd has; free = (all.0, (subst (λ (q : List ℕ). is_dir_or_free q (t.look q) ≡ true) (sym records_are) all.1.0, tt)); ways = record_ways }
