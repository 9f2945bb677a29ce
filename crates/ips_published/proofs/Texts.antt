-- What is put of a package, apart from what stands in the repository.
use Rattle.std.proofs.Common.{◌≡◌, inl, inr, ℕ, ◌+◌, Bool, true, false, not, List, [], ◌∷◌, ◌++◌, length, map, Option, Some, None, Result, Ok, Err, refl, sym, ap, subst, ◌∙◌}
use Rattle.std.specs.Prelude.{nat_lt, if◌then◌else◌}
use Rattle.std.specs.List.{AllByRecursion, Contains}
use Rattle.std.specs.Str.{IsUtf8}
use Rattle.std.proofs.lemmas.Bool.{cases_Bool, and_from, not_from_false, false_from_ne_true, ltb-true, ltb-false}
use Rattle.std.proofs.lemmas.List.Concat.{flat_map-cons}
use Rattle.ips_text.specs.Ancestry.{covers}
use Rattle.ips_text.specs.Path.{IsPath}
use Rattle.ips_text.specs.Quote.{quoted}
use Rattle.ips_text.specs.declared.limits.Which.{Which}
use Rattle.ips_text.specs.declared.limits.Which.TheVariants as which
use Rattle.ips_text.proofs.Bytes.{text_bytes}
use Rattle.ips_text.proofs.Quotes.{quoted_apart}
use Rattle.ips_text.proofs.Readers.{ok_not_err}
use Rattle.ips_outside.specs.Image.{Image}
use Rattle.ips_steps.specs.Private.{records_name, is_private}
use Rattle.ips_steps.specs.Journal.{may_name}
use Rattle.ips_journal.specs.declared.staged.Staged.{Staged}
use Rattle.ips_fmri.specs.Name.{IsStem}
use Rattle.ips_fmri.specs.Version.{Parts, IsVersion, version_text}
use Rattle.ips_records.proofs.Fields.{version_one}
use Rattle.ips_records.proofs.FileNames.{low_stem, low_version, low_text}
use Rattle.ips_action.specs.Action.{Fields, line_text}
use Rattle.ips_manifest.specs.declared.line.Line.{Line}
use Rattle.ips_manifest.specs.Manifest.{IsManifestOf, StandsOnLine, line_written, manifest_text, renumbered}
use Rattle.ips_catalog.specs.Listed.{Listed, IsInOrder, count_of, versions_of}
use Rattle.ips_catalog.specs.Reading.{read_catalog}
use Rattle.ips_catalog.specs.declared.fault.CatalogFault.{CatalogFault}
use Rattle.ips_listing.specs.Text.{AreListings, catalog_text, with_version}
use Rattle.ips_listing.proofs.Values.{reads_listings}
use Rattle.ips_files.specs.Files.{file_at}
use Rattle.ips_repo.specs.Places.{catalog_place}
use Rattle.ips_repo.specs.Mark.{is_repository}
use Rattle.ips_repo.specs.Opening.{IsOffered, opening, catalog_in, limited, catalog_limit, stem_limit, version_limit}
use Rattle.ips_repo.specs.declared.fault.RepoFault.{RepoFault}
use Rattle.ips_repo.specs.declared.fault.RepoFault.TheVariants as fault
use Rattle.ips_sends.specs.Whole.{Attempt}
use Rattle.ips_sends.specs.Published.{actions_text}
use Rattle.ips_sends.specs.Judged.{Put, Verdict, Refused, Publish, CanPut, IsOverPut, Judges, IsUnopened, HasNoManifest, HasLargeManifest, HasBadManifest, LacksSource, IsListedYet, HasLargeContent, IsBlocked, IsTooLarge, CanBePublished}
use Rattle.ips_sends.specs.Judged as judged
use Rattle.ips_put.specs.Ready.{manifest_of, place_of_catalog, AreApart}
use Rattle.ips_put.proofs.Places.{manifest_catalog, catalog_manifest, manifest_payload, catalog_payload, catalogs, manifests}
use Rattle.ips_prepare.specs.Prepared.{actions_of}
use Rattle.ips_judged.specs.declared.verdict.Asked.{Asked}
use Rattle.ips_judged.specs.Answers.{asked_of}
use Rattle.ips_ready.specs.Plans.{AreTwo, IsPlan, manifest_at, catalog_at}
use Rattle.ips_ready.specs.declared.planning.Plan.{Plan}
use Rattle.ips_published.proofs.Heads.{seen_head, records_head}

-- ---- the text of a manifest

abbrev pub Back : Type 0
Back = (lines : List Line) → AllByRecursion StandsOnLine lines → IsManifestOf (manifest_text lines) (renumbered 1 lines)

text_is : (lines : List Line) → actions_text (actions_of lines) ≡ manifest_text lines
text_is [] = refl
text_is (line ∷ lines) =
    flat_map-cons (λ (action : Fields). line_text action ++ 10 ∷ []) line.action (actions_of lines)
    ∙ ap (λ (rest : List ℕ). (line_text line.action ++ 10 ∷ []) ++ rest) (text_is lines)
    ∙ sym (flat_map-cons line_written line lines)

actions_same : (n : ℕ) (lines : List Line) → map (λ (line : Line). line.action) (renumbered n lines) ≡ actions_of lines
actions_same n [] = refl
actions_same n (line ∷ lines) = ap (λ (rest : List Fields). line.action ∷ rest) (actions_same (n + 1) lines)

-- ---- places of their own

stem_once : (s r : List ℕ) → IsStem false s → IsStem false r → quoted s ≡ quoted r → s ≡ r
stem_once s r hs hr e = quoted_apart s r (text_bytes s (low_text s (low_stem s hs))) (text_bytes r (low_text r (low_stem r hr))) e

version_once : (v w : Parts) → IsVersion v → IsVersion w → quoted (version_text v) ≡ quoted (version_text w) → v ≡ w
version_once v w hv hw e =
    version_one v w hv hw (quoted_apart (version_text v) (version_text w) (text_bytes (version_text v) (low_text (version_text v) (low_version v hv))) (text_bytes (version_text w) (low_text (version_text w) (low_version w hw))) e)

pub are_apart : (x : Attempt) (catalog : List Listed) (xs : List Attempt) → (Contains (versions_of catalog x.stem) x.version → ⊥) → AreApart x catalog xs
are_apart x catalog xs unlisted = record {
  unlisted = unlisted;
  catalogs = λ y at. elim (cases_Bool (covers (place_of_catalog x) (place_of_catalog y))) [
    | inl over ↦ inl (sym (catalogs x.publisher y.publisher x.is_publisher y.is_publisher over))
    | inr off ↦ inr (manifest_catalog x.publisher y.publisher x.is_publisher y.is_publisher x.stem x.version, off)
  ];
  manifests = λ y at. elim (cases_Bool (covers (manifest_of x) (manifest_of y))) [
    | inl over ↦
        let same = manifests x.publisher y.publisher x.is_publisher y.is_publisher x.stem y.stem x.version y.version over in
        inl (record { publisher = sym same.0; stem = sym (stem_once x.stem y.stem x.is_stem y.is_stem same.1); version = sym (version_once x.version y.version x.is_version y.is_version same.2) })
    | inr off ↦ inr (off, catalog_manifest x.publisher y.publisher x.is_publisher y.is_publisher y.stem y.version)
  ];
  payloads = λ y name at. (manifest_payload x.publisher y.publisher x.is_publisher y.is_publisher x.stem x.version name, catalog_payload x.publisher y.publisher x.is_publisher y.is_publisher name);
}

-- a journal may name what begins with a `p`
pub may_head : (x : List ℕ) → may_name (112 ∷ x) ≡ true
may_head x = and_from (not (is_private (112 ∷ x))) (not (covers (112 ∷ x) records_name)) (not_from_false (is_private (112 ∷ x)) (seen_head x)) (not_from_false (covers (112 ∷ x) records_name) (records_head x))

-- ---- what was judged

-- it can be put, and passes no limit
abbrev CanOf : Image → Image → judged.Asked → Verdict → Type 0
CanOf proto t a (Refused r) = Unit {0}
CanOf proto t a (Publish put) = (can : CanPut proto t a put) × ((limit : Which) (count : ℕ) → IsOverPut (with_version a.stem a.version can.new.has.catalog) put limit count → ⊥)

can_of : (proto t : Image) (a : judged.Asked) (v : Verdict) → Judges proto t a v → CanOf proto t a v
can_of proto t a v (IsUnopened why e) = tt
can_of proto t a v (HasNoManifest catalog o n) = tt
can_of proto t a v (HasLargeManifest catalog bytes o s l) = tt
can_of proto t a v (HasBadManifest has f b) = tt
can_of proto t a v (LacksSource has drafts text d m) = tt
can_of proto t a v (IsListedYet has drafts d s c) = tt
can_of proto t a v (HasLargeContent new count o) = tt
can_of proto t a v (IsBlocked new filled path f g w) = tt
can_of proto t a v (IsTooLarge put can limit count o) = tt
can_of proto t a v (CanBePublished put can within) = (can, within)

-- a catalog that is opened lists stems and versions
in_limits : (read : Result (List Listed) CatalogFault) (catalog : List Listed) → limited read ≡ Ok catalog → read ≡ Ok catalog
in_limits (Err why) catalog e = absurd (ok_not_err catalog (fault.BadCatalog why) (sym e))
in_limits (Ok found) catalog e = ap (λ (l : List Listed). (let r : Result (List Listed) CatalogFault = Ok l in r)) (kept (nat_lt stem_limit (length found)) (nat_lt version_limit (count_of found)) e)
  where
    kept : (a b : Bool) → (if a then Err (fault.TooLarge which.Stems (length found)) else (if b then Err (fault.TooLarge which.Versions (count_of found)) else (let r : Result (List Listed) RepoFault = Ok found in r))) ≡ Ok catalog → found ≡ catalog
    kept true b e = absurd (ok_not_err catalog (fault.TooLarge which.Stems (length found)) (sym e))
    kept false true e = absurd (ok_not_err catalog (fault.TooLarge which.Versions (count_of found)) (sym e))
    kept false false e = cc

opened_lists : (publisher : List ℕ) (b : Bool) (f : Option (List ℕ)) (catalog : List Listed) → (if b then catalog_in publisher f else Err fault.NoRepository) ≡ Ok catalog → AreListings catalog
opened_lists publisher false f catalog e = absurd (ok_not_err catalog fault.NoRepository (sym e))
opened_lists publisher true None catalog e = absurd (ok_not_err catalog _ (sym e))
opened_lists publisher true (Some bytes) catalog e = within (nat_lt catalog_limit (length bytes)) e
  where
    within : (c : Bool) → (if c then Err (fault.TooLarge which.CatalogBytes (length bytes)) else limited (read_catalog publisher bytes)) ≡ Ok catalog → AreListings catalog
    within true e = absurd (ok_not_err catalog (fault.TooLarge which.CatalogBytes (length bytes)) (sym e))
    within false e = reads_listings publisher bytes catalog (in_limits (read_catalog publisher bytes) catalog e)

-- What is put of a package, over an image in which its catalog is open.
pub record IsSet (a : Asked) (put : Put) (staged : List Staged) (t : Image) : Type 0 where
  pub lines : List Line
  pub means : IsManifestOf put.manifest lines
  pub has : map (λ (line : Line). line.action) lines ≡ put.actions
  pub catalog : List Listed
  pub opened : opening a.publisher t ≡ Ok catalog
  pub ordered : IsInOrder catalog
  pub listings : AreListings catalog
  pub unlisted : Contains (versions_of catalog a.stem) a.version → ⊥
  pub catalog_is : put.catalog ≡ catalog_text a.publisher (with_version a.stem a.version catalog)
  pub utf8 : IsUtf8 put.catalog
  pub bytes_fit : nat_lt catalog_limit (length put.catalog) ≡ false
  pub stems_fit : nat_lt stem_limit (length (with_version a.stem a.version catalog)) ≡ false
  pub versions_fit : nat_lt version_limit (count_of (with_version a.stem a.version catalog)) ≡ false
  pub manifest_path : IsPath (manifest_at a)
  pub catalog_path : IsPath (catalog_at a)
  pub texts : AreTwo put.manifest put.catalog staged

module _ (proto t : Image) (a : Asked) (put : Put) (plan : Plan) (is : IsPlan a put plan) (back : Back) (judges : Judges proto t (asked_of a) (Publish put))
    (offered : (catalog : List Listed) → opening a.publisher t ≡ Ok catalog → IsOffered catalog) where
  set : (can : CanPut proto t (asked_of a) put) → ((limit : Which) (count : ℕ) → IsOverPut (with_version a.stem a.version can.new.has.catalog) put limit count → ⊥) → IsSet a put plan.staged.items t
  set can within =
      let catalog = can.new.has.catalog in
      let more = with_version a.stem a.version catalog in
      let bytes : nat_lt catalog_limit (length put.catalog) ≡ false = false_from_ne_true (nat_lt catalog_limit (length put.catalog)) (λ h. within which.CatalogBytes (length put.catalog) (refl, ltb-true catalog_limit (length put.catalog) h)) in
      let few = ltb-false catalog_limit (length put.catalog) bytes in
      let stems : nat_lt stem_limit (length more) ≡ false = false_from_ne_true (nat_lt stem_limit (length more)) (λ h. within which.Stems (length more) (few, refl, ltb-true stem_limit (length more) h)) in
      let some = ltb-false stem_limit (length more) stems in
      let versions : nat_lt version_limit (count_of more) ≡ false = false_from_ne_true (nat_lt version_limit (count_of more)) (λ h. within which.Versions (count_of more) (few, some, refl, ltb-true version_limit (count_of more) h)) in
      record {
        lines = renumbered 1 is.lines;
        means = subst (λ (text : List ℕ). IsManifestOf text (renumbered 1 is.lines)) (sym (can.is.manifest_is ∙ ap actions_text (sym is.are) ∙ text_is is.lines)) (back is.lines is.stand);
        has = actions_same 1 is.lines ∙ is.are;
        catalog = catalog;
        opened = can.new.has.opened;
        ordered = (offered catalog can.new.has.opened).ordered;
        listings = opened_lists a.publisher (is_repository t) (file_at t (catalog_place a.publisher)) catalog can.new.has.opened;
        unlisted = can.new.new;
        catalog_is = can.is.catalog_is;
        utf8 = is.utf8;
        bytes_fit = bytes;
        stems_fit = stems;
        versions_fit = versions;
        manifest_path = is.first;
        catalog_path = is.second;
        texts = is.texts;
      }

  pub is_set : IsSet a put plan.staged.items t
  is_set = let c = can_of proto t (asked_of a) (Publish put) judges in set c.0 c.1
