-- What is put is the package, published over what stood.
use Rattle.std.proofs.Common.{◌≡◌, ℕ, Bool, true, false, List, ◌∷◌, ◌++◌, length, Some, Ok, sym, ap, subst, ◌∙◌}
use Rattle.std.specs.Prelude.{codes, nat_lt}
use Rattle.std.specs.List.{Contains}
use Rattle.std.specs.Str.{IsUtf8}
use Rattle.std.proofs.lemmas.Bool.{and_from}
use Rattle.ips_text.specs.Path.{IsPath}
use Rattle.ips_text.specs.Quote.{quoted}
use Rattle.ips_outside.specs.Image.{Image, File, is_dir}
use Rattle.ips_steps.specs.Private.{visible}
use Rattle.ips_steps.specs.Journal.{may_name}
use Rattle.ips_digest.specs.declared.name.PayloadName.{PayloadName}
use Rattle.ips_fmri.specs.Version.{version_text}
use Rattle.ips_journal.specs.declared.staged.Staged.{Staged}
use Rattle.ips_manifest.specs.Manifest.{IsManifestOf}
use Rattle.ips_catalog.specs.Listed.{Listed}
use Rattle.ips_listing.specs.Text.{with_version}
use Rattle.ips_repo.specs.Opening.{opening, catalog_limit}
use Rattle.ips_repo.specs.Payload.{HasIntact}
use Rattle.ips_sends.specs.Whole.{Attempt, AreWholeOrOut}
use Rattle.ips_sends.specs.Judged.{Put}
use Rattle.ips_put.specs.Putting.{IsMeant}
use Rattle.ips_put.specs.Two.{two_puts, CanPutTwo}
use Rattle.ips_put.specs.Ready.{IsReadyToPut}
use Rattle.ips_put.proofs.Entire.{all_whole_or_out, whole, open_after, same_ok}
use Rattle.ips_put.proofs.Pair.{first_put, second_put, others_kept}
use Rattle.ips_put.proofs.Places.{manifest_catalog, catalog_manifest, manifest_payload, catalog_payload, manifest_marked, catalog_marked}
use Rattle.ips_judged.specs.declared.verdict.Asked.{Asked}
use Rattle.ips_judged.specs.Answers.{IsAsked}
use Rattle.ips_published.specs.Publishing.{attempt, names_put, manifest_at, catalog_at, IsBesideAt, IsPublishedOver}
use Rattle.ips_published.proofs.Roads.{stem_dir, catalog_dir, manifest_parent, catalog_parent}
use Rattle.ips_published.proofs.Texts.{IsSet, are_apart, may_head}

-- two texts can be put where the directories of the stem and of the catalog stand
module _ (a : Asked) (is : IsAsked a) where
  first_may : may_name (manifest_at a) ≡ true
  first_may = may_head ((((codes "ublisher/" ++ a.publisher) ++ codes "/pkg/") ++ quoted a.stem) ++ (47 ∷ quoted (version_text a.version)))

  second_may : may_name (catalog_at a) ≡ true
  second_may = may_head ((codes "ublisher/" ++ a.publisher) ++ codes "/catalog/catalog.base.C")

  pub can_two : (t : Image) → IsPath (manifest_at a) → IsPath (catalog_at a) → is_dir (t.look (stem_dir a.publisher is.publisher a.stem)) ≡ true → is_dir (t.look (catalog_dir a.publisher is.publisher)) ≡ true
      → CanPutTwo t (manifest_at a) (catalog_at a)
  can_two t first second stem catalog = record {
    first = first;
    second = second;
    named = and_from (may_name (manifest_at a)) (may_name (catalog_at a)) first_may second_may;
    first_apart = manifest_catalog a.publisher a.publisher is.publisher is.publisher a.stem a.version;
    second_apart = catalog_manifest a.publisher a.publisher is.publisher is.publisher a.stem a.version;
    first_dir = stem_dir a.publisher is.publisher a.stem;
    first_parent = manifest_parent a.publisher is.publisher a.stem a.version;
    first_stands = stem;
    second_dir = catalog_dir a.publisher is.publisher;
    second_parent = catalog_parent a.publisher is.publisher;
    second_stands = catalog;
  }

module _ (a : Asked) (is : IsAsked a) (put : Put) (staged : List Staged) (b : Image) (s : IsSet a put staged b) (t : Image) (can : CanPutTwo t (manifest_at a) (catalog_at a)) (opened : opening a.publisher (visible t) ≡ Ok s.catalog)
    (intact : (name : PayloadName) → Contains (names_put put) name → HasIntact a.publisher (visible t) name) where
  abbrev more : List Listed
  more = with_version a.stem a.version s.catalog

  ready : (answered : Bool) → IsReadyToPut t (attempt a is put answered) s.catalog s.lines s.texts.first.items s.texts.second.items
  ready answered = record {
    opened = opened;
    ordered = s.ordered;
    listings = s.listings;
    stem = is.stem;
    version = is.version;
    means = subst (λ (text : List ℕ). IsManifestOf text s.lines) (sym s.texts.first_is) s.means;
    has = s.has;
    catalog_is = s.texts.second_is ∙ s.catalog_is;
    utf8 = subst IsUtf8 (sym s.texts.second_is) s.utf8;
    bytes_fit = subst (λ (text : List ℕ). nat_lt catalog_limit (length text) ≡ false) (sym s.texts.second_is) s.bytes_fit;
    stems_fit = s.stems_fit;
    versions_fit = s.versions_fit;
    intact = intact;
    can = can;
    first_marked = manifest_marked a.publisher a.stem a.version;
    second_marked = catalog_marked a.publisher;
    first_apart = λ name. manifest_payload a.publisher a.publisher is.publisher is.publisher a.stem a.version name;
    second_apart = λ name. catalog_payload a.publisher a.publisher is.publisher is.publisher name;
  }

  module _ (u : Image) (meant : IsMeant (two_puts (manifest_at a) (catalog_at a)) staged t u) where
    pub all_stay : (answered : Bool) (xs : List Attempt) → AreWholeOrOut xs (visible t) → AreWholeOrOut (attempt a is put answered ∷ xs) u
    all_stay answered xs were =
        let x = attempt a is put answered in
        all_whole_or_out t u x s.catalog s.lines s.texts.first s.texts.second (ready answered) staged meant s.texts.first_at s.texts.second_at xs (are_apart x s.catalog xs s.unlisted) were

    pub published : ((q : List ℕ) → (IsBesideAt a put b q → ⊥) → (visible t).look q ≡ (visible b).look q) → IsPublishedOver a is put b u
    published beside =
        let x = attempt a is put false in
        let r = ready false in
        record {
          manifest = first_put t (manifest_at a) (catalog_at a) can staged u meant s.texts.first s.texts.first_at ∙ ap (λ (bytes : List ℕ). Some (File 420 bytes)) s.texts.first_is;
          catalog = second_put t (manifest_at a) (catalog_at a) can staged u meant s.texts.second s.texts.second_at ∙ ap (λ (bytes : List ℕ). Some (File 420 bytes)) s.texts.second_is;
          opened = λ catalog was.
              let same : s.catalog ≡ catalog = same_ok (opening a.publisher b) s.catalog catalog s.opened was in
              subst (λ (l : List Listed). opening a.publisher u ≡ Ok (with_version a.stem a.version l)) same
              (open_after t u x s.catalog s.lines s.texts.first s.texts.second r staged meant s.texts.first_at s.texts.second_at);
          whole = whole t u x s.catalog s.lines s.texts.first s.texts.second r staged meant s.texts.first_at s.texts.second_at;
          others = λ q off out apart. others_kept t (manifest_at a) (catalog_at a) can staged u meant q off out ∙ beside q apart;
        }
