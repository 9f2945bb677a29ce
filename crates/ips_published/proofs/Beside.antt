-- What is written beside a repository is none of its files.
use Rattle.std.proofs.Common.{◌≡◌, ◌⊎◌, inl, inr, ℕ, Bool, true, false, cond, ◌||◌, List, ◌∷◌, ◌++◌, take, Option, Some, None, Ok, Err, refl, sym, ap, subst, ◌∙◌, append_assoc}
use Rattle.std.specs.Prelude.{codes}
use Rattle.std.specs.List.{Contains}
use Rattle.std.proofs.lemmas.Bool.{or_from, false_from_ne_true}
use Rattle.ips_text.specs.Ancestry.{same_path, covers}
use Rattle.ips_text.specs.Quote.{quoted}
use Rattle.ips_text.proofs.Readers.{ok_not_err}
use Rattle.ips_outside.specs.Image.{Image, IsImage, Agrees, is_dir, file_bytes}
use Rattle.ips_outside.specs.State.{nowhere}
use Rattle.ips_steps.specs.Private.{records_name, is_private}
use Rattle.ips_steps.proofs.Lists.{clash}
use Rattle.ips_digest.specs.Name.{IsName, spelling}
use Rattle.ips_digest.specs.declared.name.PayloadName.{PayloadName}
use Rattle.ips_digest.proofs.Names.{spelled_once}
use Rattle.ips_fmri.specs.Name.{IsPublisher}
use Rattle.ips_fmri.specs.Version.{Parts}
use Rattle.ips_catalog.specs.Listed.{Listed}
use Rattle.ips_files.specs.Files.{file_at}
use Rattle.ips_repo.specs.Places.{publisher_place, mark_place, catalog_place, manifest_place, payload_place}
use Rattle.ips_repo.specs.Mark.{is_repository}
use Rattle.ips_repo.specs.Opening.{opening, catalog_in}
use Rattle.ips_repo.specs.Payload.{HasIntact}
use Rattle.ips_repo.specs.declared.fault.RepoFault.TheVariants as fault
use Rattle.ips_ways.specs.Ways.{gives_way, is_missing}
use Rattle.ips_ways.proofs.Giving.{gives_no_dir, none_below}
use Rattle.ips_lay.specs.Laid.{IsAtUnlaid}
use Rattle.ips_sends.specs.Whole.{IsBeside}
use Rattle.ips_sends.specs.Judged.{ways}
use Rattle.ips_sends.proofs.Apart.{NoSlash, covers_split, covers_on, payload_covers, manifest_apart, catalog_apart}
use Rattle.ips_sends.proofs.Free.{component_free, spelled_free, front_free}
use Rattle.ips_published.proofs.Digests.{intact_name}
use Rattle.ips_published.proofs.Heads.{private_head}
use Rattle.ips_published.proofs.Roads.{IsRoad, OfVar, OfRecords, OfTop, OfPublisher, OfCatalog, OfManifests, OfStem, OfFiles, OfPayload, road_of}
use Rattle.ips_published.proofs.NoRoads.{apart_on, manifest_no_road, payload_no_road}
use Rattle.ips_published.proofs.Missing.{not_missing, missing_back, none_file, file_not_missing}

abbrev PathTest : Type 0
PathTest = List ℕ → Bool

-- of a repository that is open the catalog stands
pub catalog_stands : (publisher : List ℕ) (b : Bool) (f : Option (List ℕ)) (catalog : List Listed) → cond b (catalog_in publisher f) (Err fault.NoRepository) ≡ Ok catalog → (bytes : List ℕ) × (f ≡ Some bytes)
catalog_stands publisher true None catalog e = absurd (ok_not_err catalog _ (sym e))
catalog_stands publisher true (Some bytes) catalog e = (bytes, refl)
catalog_stands publisher false f catalog e = absurd (ok_not_err catalog fault.NoRepository (sym e))

-- a directory gives way to none
no_room : (t : Image) (d w : List ℕ) → d ≡ w → is_dir (t.look d) ≡ true → gives_way w (t.look w) ≡ true → ⊥
no_room t d w at dir room = clash (is_dir (t.look w)) (subst (λ (z : List ℕ). is_dir (t.look z) ≡ true) at dir) (gives_no_dir w (t.look w) room)

-- own names of the updater, where the directories of the records stand
module _ (t : Image) (publisher stem : List ℕ) (is : IsPublisher publisher) (names : List PayloadName) (var : is_dir (t.look (codes "var")) ≡ true) (records : is_dir (t.look records_name) ≡ true) where
  own_road : (q w : List ℕ) → is_private q ≡ true → gives_way w (t.look w) ≡ true → covers w q ≡ true → IsRoad publisher is stem w → ⊥
  own_road q w own room over (OfVar at) = no_room t (codes "var") w at var room
  own_road q w own room over (OfRecords at) = no_room t records_name w at records room
  own_road q w own room over (OfTop at) = clash (covers w q) over (subst (λ (z : List ℕ). covers z q ≡ false) at (private_head (codes "ublisher") q own))
  own_road q w own room over (OfPublisher at) = clash (covers w q) over (subst (λ (z : List ℕ). covers z q ≡ false) at (private_head (codes "ublisher/" ++ publisher) q own))
  own_road q w own room over (OfCatalog at) = clash (covers w q) over (subst (λ (z : List ℕ). covers z q ≡ false) at (private_head ((codes "ublisher/" ++ publisher) ++ codes "/catalog") q own))
  own_road q w own room over (OfManifests at) = clash (covers w q) over (subst (λ (z : List ℕ). covers z q ≡ false) at (private_head ((codes "ublisher/" ++ publisher) ++ codes "/pkg") q own))
  own_road q w own room over (OfStem at) = clash (covers w q) over (subst (λ (z : List ℕ). covers z q ≡ false) at (private_head (((codes "ublisher/" ++ publisher) ++ codes "/pkg/") ++ quoted stem) q own))
  own_road q w own room over (OfFiles at) = clash (covers w q) over (subst (λ (z : List ℕ). covers z q ≡ false) at (private_head ((codes "ublisher/" ++ publisher) ++ codes "/file") q own))
  own_road q w own room over (OfPayload m at) =
      clash (covers w q) over (subst (λ (z : List ℕ). covers z q ≡ false) at (private_head (((codes "ublisher/" ++ publisher) ++ codes "/file/") ++ take 2 (spelling m)) q own))

  pub own_stays : (q : List ℕ) → is_private q ≡ true → is_missing t (ways publisher stem names) q ≡ false
  own_stays q own = not_missing t (ways publisher stem names) q (λ w among room over. own_road q w own room over (road_of publisher is stem w names among))

-- the image before contents are laid: the directories of the records stand there, and the publisher's catalog is open
module _ (t : Image) (formed : IsImage t) (publisher stem : List ℕ) (is : IsPublisher publisher) (names : List PayloadName) (catalog : List Listed) (opened : opening publisher t ≡ Ok catalog)
    (var : is_dir (t.look (codes "var")) ≡ true) (records : is_dir (t.look records_name) ≡ true) where
  abbrev roads : List (List ℕ)
  roads = ways publisher stem names

  abbrev place : List ℕ
  place = publisher_place publisher

  free_of : (p : List ℕ) → IsPublisher p → NoSlash p
  free_of p is_p = component_free p is_p.form

  -- ---- the mark

  mark_road : (w : List ℕ) → IsRoad publisher is stem w → covers w mark_place ≡ false
  unfolding records_name
  mark_road w (OfVar at) = subst (λ (z : List ℕ). covers z mark_place ≡ false) at refl
  mark_road w (OfRecords at) = subst (λ (z : List ℕ). covers z mark_place ≡ false) at refl
  mark_road w (OfTop at) = subst (λ (z : List ℕ). covers z mark_place ≡ false) at refl
  mark_road w (OfPublisher at) = subst (λ (z : List ℕ). covers z mark_place ≡ false) at refl
  mark_road w (OfCatalog at) = subst (λ (z : List ℕ). covers z mark_place ≡ false) at refl
  mark_road w (OfManifests at) = subst (λ (z : List ℕ). covers z mark_place ≡ false) at refl
  mark_road w (OfStem at) = subst (λ (z : List ℕ). covers z mark_place ≡ false) at refl
  mark_road w (OfFiles at) = subst (λ (z : List ℕ). covers z mark_place ≡ false) at refl
  mark_road w (OfPayload m at) = subst (λ (z : List ℕ). covers z mark_place ≡ false) at refl

  mark_stays : is_missing t roads mark_place ≡ false
  mark_stays = not_missing t roads mark_place (λ w among room over. clash (covers w mark_place) over (mark_road w (road_of publisher is stem w names among)))

  -- ---- catalogs

  catalog_there : (bytes : List ℕ) × (file_at t (catalog_place publisher) ≡ Some bytes)
  catalog_there = catalog_stands publisher (is_repository t) (file_at t (catalog_place publisher)) catalog opened

  -- nothing at or above the catalog is missing
  above_catalog : (w d : List ℕ) → d ≡ w → covers d (catalog_place publisher) ≡ true → same_path d (catalog_place publisher) ≡ false → gives_way w (t.look w) ≡ true → ⊥
  above_catalog w d at over apart room =
      none_file t (catalog_place publisher) catalog_there.0
      (none_below t w (catalog_place publisher) formed room (subst (λ (z : List ℕ). covers z (catalog_place publisher) ≡ true) at over) (subst (λ (z : List ℕ). same_path z (catalog_place publisher) ≡ false) at apart)) catalog_there.1

  -- another part of the publisher's isn't above a catalog
  part_apart : (p x : List ℕ) → IsPublisher p → covers x (codes "catalog/catalog.base.C") ≡ false → covers (publisher ++ (47 ∷ x)) (p ++ (47 ∷ codes "catalog/catalog.base.C")) ≡ true → ⊥
  part_apart p x is_p off over = clash (covers x (codes "catalog/catalog.base.C")) (covers_split publisher p x (codes "catalog/catalog.base.C") (free_of publisher is) (free_of p is_p) over).1 off

  catalog_road : (p w : List ℕ) → IsPublisher p → gives_way w (t.look w) ≡ true → covers w (catalog_place p) ≡ true → IsRoad publisher is stem w → ⊥
  unfolding records_name
  catalog_road p w is_p room over (OfVar at) = clash (covers w (catalog_place p)) over (subst (λ (z : List ℕ). covers z (catalog_place p) ≡ false) at refl)
  catalog_road p w is_p room over (OfRecords at) = clash (covers w (catalog_place p)) over (subst (λ (z : List ℕ). covers z (catalog_place p) ≡ false) at refl)
  catalog_road p w is_p room over (OfTop at) = above_catalog w (codes "publisher") at (covers_on (codes "publisher") (publisher ++ codes "/catalog/catalog.base.C")) (apart_on (codes "publisher") (publisher ++ codes "/catalog/catalog.base.C")) room
  catalog_road p w is_p room over (OfPublisher at) = above_catalog w place at (covers_on place (codes "catalog/catalog.base.C")) (apart_on place (codes "catalog/catalog.base.C")) room
  catalog_road p w is_p room over (OfCatalog at) =
      above_catalog w (place ++ codes "/catalog") at
      (subst (λ (z : List ℕ). covers (place ++ codes "/catalog") z ≡ true) (append_assoc place (codes "/catalog") (47 ∷ codes "catalog.base.C")) (covers_on (place ++ codes "/catalog") (codes "catalog.base.C")))
      (subst (λ (z : List ℕ). same_path (place ++ codes "/catalog") z ≡ false) (append_assoc place (codes "/catalog") (47 ∷ codes "catalog.base.C")) (apart_on (place ++ codes "/catalog") (codes "catalog.base.C"))) room
  catalog_road p w is_p room over (OfManifests at) = part_apart p (codes "pkg") is_p refl (subst (λ (z : List ℕ). covers z (catalog_place p) ≡ true) (sym at) over)
  catalog_road p w is_p room over (OfStem at) =
      part_apart p (codes "pkg/" ++ quoted stem) is_p refl (subst (λ (z : List ℕ). covers z (catalog_place p) ≡ true) (sym at ∙ append_assoc place (codes "/pkg/") (quoted stem)) over)
  catalog_road p w is_p room over (OfFiles at) = part_apart p (codes "file") is_p refl (subst (λ (z : List ℕ). covers z (catalog_place p) ≡ true) (sym at) over)
  catalog_road p w is_p room over (OfPayload m at) =
      part_apart p (codes "file/" ++ take 2 (spelling m)) is_p refl (subst (λ (z : List ℕ). covers z (catalog_place p) ≡ true) (sym at ∙ append_assoc place (codes "/file/") (take 2 (spelling m))) over)

  catalog_stays : (p : List ℕ) → IsPublisher p → is_missing t roads (catalog_place p) ≡ false
  catalog_stays p is_p = not_missing t roads (catalog_place p) (λ w among room over. catalog_road p w is_p room over (road_of publisher is stem w names among))

  -- ---- manifests and payloads

  manifest_stays : (p s : List ℕ) (v : Parts) (text : List ℕ) → IsPublisher p → file_at t (manifest_place p s v) ≡ Some text → is_missing t roads (manifest_place p s v) ≡ false
  manifest_stays p s v text is_p stands = file_not_missing t formed roads (manifest_place p s v) text (λ w among. manifest_no_road publisher is stem p s v is_p w (road_of publisher is stem w names among)) stands

  payload_stays : (p : List ℕ) (m : PayloadName) → IsPublisher p → HasIntact p t m → is_missing t roads (payload_place p m) ≡ false
  payload_stays p m is_p has = file_not_missing t formed roads (payload_place p m) has.0 (λ w among. payload_no_road publisher is stem p m is_p (intact_name p t m has) w (road_of publisher is stem w names among)) has.1.stands

  -- ---- contents that are laid

  module _ (mid : Image) (made : Agrees (is_missing t roads) nowhere t mid) (laid : PathTest) (unlaid : (q : List ℕ) → laid q ≡ true → IsAtUnlaid publisher mid names q) (are : (m : PayloadName) → Contains names m → IsName m) where
    abbrev beside : PathTest
    beside = λ q. is_missing t roads q || laid q

    laid_off : (q : List ℕ) → ((m : PayloadName) → IsName m → (HasIntact publisher mid m → ⊥) → covers (payload_place publisher m) q ≡ true → ⊥) → laid q ≡ false
    laid_off q none = false_from_ne_true (laid q) (λ h. let u = unlaid q h in none u.0 (are u.0 u.1) u.2 u.3)

    -- what was intact is so once the directories are made
    pub intact_made : (p : List ℕ) (m : PayloadName) → IsPublisher p → HasIntact p t m → HasIntact p mid m
    intact_made p m is_p has =
        let q = payload_place p m in
        (has.0, record { stands = ap file_bytes (made.look q (payload_stays p m is_p has) refl) ∙ has.1.stands; within = has.1.within; named = has.1.named })

    payload_kept : (p : List ℕ) (name m : PayloadName) → IsPublisher p → HasIntact p t name → IsName m → (HasIntact publisher mid m → ⊥) → covers (payload_place publisher m) (payload_place p name) ≡ true → ⊥
    payload_kept p name m is_p has is_m not over =
        let is_name = intact_name p t name has in
        let digits = spelled_free m is_m in
        let others = spelled_free name is_name in
        let same = payload_covers publisher p m name (free_of publisher is) (free_of p is_p) digits others (front_free 2 (spelling m) digits) (front_free 2 (spelling name) others) over in
        not (subst (HasIntact publisher mid) (sym (spelled_once m name is_m is_name same.1)) (subst (λ (x : List ℕ). HasIntact x mid name) (sym same.0) (intact_made p name is_p has)))

    mark_apart : (m : PayloadName) → covers (payload_place publisher m) mark_place ≡ false
    mark_apart m = refl

    pub is_beside : IsBeside t beside
    is_beside = record {
      mark = or_from (is_missing t roads mark_place) (laid mark_place) mark_stays (laid_off mark_place (λ m n not over. clash (covers (payload_place publisher m) mark_place) over (mark_apart m)));
      catalogs = λ p is_p. or_from (is_missing t roads (catalog_place p)) (laid (catalog_place p)) (catalog_stays p is_p) (laid_off (catalog_place p) (λ m n not over. catalog_apart publisher p m (free_of publisher is) (free_of p is_p) over));
      manifests = λ p s v text is_p stands. or_from (is_missing t roads (manifest_place p s v)) (laid (manifest_place p s v)) (manifest_stays p s v text is_p stands)
          (laid_off (manifest_place p s v) (λ m n not over. manifest_apart publisher p s m v (free_of publisher is) (free_of p is_p) over));
      payloads = λ p name is_p has. or_from (is_missing t roads (payload_place p name)) (laid (payload_place p name)) (payload_stays p name is_p has)
          (laid_off (payload_place p name) (λ m n not over. payload_kept p name m is_p has n not over));
      own = λ q own. or_from (is_missing t roads q) (laid q) (own_stays t publisher stem is names var records q own)
          (laid_off q (λ m n not over. clash (covers (payload_place publisher m) q) over (private_head ((((codes "ublisher/" ++ publisher) ++ codes "/file/") ++ take 2 (spelling m)) ++ (47 ∷ spelling m)) q own)));
    }

    -- what isn't beside the image from before the records is none of these paths
    pub off_beside : (b : Image) → ((q : List ℕ) → file_at t q ≡ file_at b q) → ((q : List ℕ) → gives_way q (t.look q) ≡ true → gives_way q (b.look q) ≡ true)
        → (q : List ℕ) → ((is_missing b roads q ≡ true) ⊎ IsAtUnlaid publisher b names q → ⊥) → beside q ≡ false
    off_beside b alike back q off =
        or_from (is_missing t roads q) (laid q) (false_from_ne_true (is_missing t roads q) (λ h. off (inl (missing_back b t roads q back h))))
        (false_from_ne_true (laid q) (λ h.
        let u = unlaid q h in
        off (inr (u.0, u.1, (λ has. u.2 (intact_made publisher u.0 is (has.0, record { stands = alike (payload_place publisher u.0) ∙ has.1.stands; within = has.1.within; named = has.1.named }))), u.3))))
