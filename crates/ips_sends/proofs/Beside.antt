-- What is written beside a repository.
use Rattle.std.proofs.Common.{◌≡◌, ℕ, Bool, true, false, cond, ◌||◌, Result, Err, List, Option, Some, None, refl, sym, ap, subst, ◌∙◌}
use Rattle.std.specs.Prelude.{IsTrue, IsFalse, Ok}
use Rattle.std.specs.List.{Contains}
use Rattle.ips_text.proofs.Ancestry.{covers-self}
use Rattle.ips_outside.specs.Image.{Entry, Image, IsImage, Agrees, file_bytes, with_mode}
use Rattle.ips_outside.specs.State.{State, MayLeave, IsSettled, ChangedWithin, nowhere}
use Rattle.ips_outside.proofs.Moments.{agrees_less, within_crash}
use Rattle.ips_steps.specs.Steps.{Step}
use Rattle.ips_steps.specs.Private.{gate_name, is_private, visible}
use Rattle.ips_steps.proofs.Lists.{clash}
use Rattle.ips_steps.proofs.PrivateNames.{gate_private}
use Rattle.ips_digest.specs.declared.name.PayloadName.{PayloadName}
use Rattle.ips_fmri.specs.Name.{IsPublisher}
use Rattle.ips_catalog.specs.Listed.{Listed, versions_of}
use Rattle.ips_files.specs.Files.{file_at}
use Rattle.ips_repo.specs.Places.{mark_place, catalog_place, manifest_place, payload_place}
use Rattle.ips_repo.specs.Mark.{is_mark_file}
use Rattle.ips_repo.specs.Opening.{opening, catalog_in}
use Rattle.ips_repo.specs.declared.fault.RepoFault.TheVariants as fault
use Rattle.ips_repo.specs.Payload.{HasIntact, IsIntact}
use Rattle.ips_sends.specs.Keeps.{Keeps, ShowsSomeAtEnd, Shut}
use Rattle.ips_sends.specs.Whole.{Attempt, IsInCatalog, IsWhole, IsAtSame, AreWholeOrOut, IsBeside}

abbrev PathTest : Type 0
PathTest = List ℕ → Bool

none_is : (o : Option (List ℕ)) (bytes : List ℕ) → o ≡ None → o ≡ Some bytes → ⊥
none_is o bytes e f = let same = sym e ∙ f in cc

-- ---- images in which the same files stand

module _ (t c : Image) (same : (q : List ℕ) → file_at c q ≡ file_at t q) where
  file_alike : (q : List ℕ) → file_at (visible c) q ≡ file_at (visible t) q
  file_alike q = go (is_private q)
    where
      go : (b : Bool) → file_bytes (cond b None (c.look q)) ≡ file_bytes (cond b None (t.look q))
      go true = refl
      go false = same q

  pub opening_alike : (publisher : List ℕ) → opening publisher (visible c) ≡ opening publisher (visible t)
  opening_alike publisher =
      ap (λ (f : Option (List ℕ)). cond (is_mark_file f) (catalog_in publisher (file_at (visible c) (catalog_place publisher))) (Err fault.NoRepository)) (file_alike mark_place)
      ∙ ap (λ (f : Option (List ℕ)). cond (is_mark_file (file_at (visible t) mark_place)) (catalog_in publisher f) (Err fault.NoRepository)) (file_alike (catalog_place publisher))

  whole_alike : (x : Attempt) → IsWhole (visible t) x → IsWhole (visible c) x
  whole_alike x is = record {
    listed = (is.listed.0, opening_alike x.publisher ∙ is.listed.1, is.listed.2);
    text = is.text;
    stands = file_alike (manifest_place x.publisher x.stem x.version) ∙ is.stands;
    lines = is.lines;
    means = is.means;
    has = is.has;
    intact = λ name has.
        let i = is.intact name has in
        (i.0, record { stands = file_alike (payload_place x.publisher name) ∙ i.1.stands; within = i.1.within; named = i.1.named });
  }

  pub kept_alike : (xs : List Attempt) → AreWholeOrOut xs (visible t) → AreWholeOrOut xs (visible c)
  kept_alike xs are = record {
    mark = λ x has. ap is_mark_file (file_alike mark_place) ∙ are.mark x has;
    each = λ x has listed. let y = are.each x has (listed.0, sym (opening_alike x.publisher) ∙ listed.1, listed.2) in (y.0, y.1, y.2, whole_alike y.0 y.3);
    answered = λ x has is. whole_alike x (are.answered x has is);
  }

-- ---- free paths

-- what is seen at a path that isn't free
module _ (free : PathTest) (t c : Image) (agrees : Agrees free free t c) where
  seen_same : (q : List ℕ) → free q ≡ false → (visible c).look q ≡ (visible t).look q
  seen_same q not_free = ap (λ (e : Option Entry). cond (is_private q) None e) (agrees.look q not_free not_free)

  file_same : (q : List ℕ) → free q ≡ false → file_at (visible c) q ≡ file_at (visible t) q
  file_same q not_free = ap file_bytes (seen_same q not_free)

  module _ (beside : IsBeside t free) where
    pub opening_same : (publisher : List ℕ) → IsPublisher publisher → opening publisher (visible c) ≡ opening publisher (visible t)
    opening_same publisher is =
        ap (λ (f : Option (List ℕ)). cond (is_mark_file f) (catalog_in publisher (file_at (visible c) (catalog_place publisher))) (Err fault.NoRepository)) (file_same mark_place beside.mark)
        ∙ ap (λ (f : Option (List ℕ)). cond (is_mark_file (file_at (visible t) mark_place)) (catalog_in publisher f) (Err fault.NoRepository)) (file_same (catalog_place publisher) (beside.catalogs publisher is))

    listed_back : (x : Attempt) → IsInCatalog (visible c) x → IsInCatalog (visible t) x
    listed_back x is = (is.0, sym (opening_same x.publisher x.is_publisher) ∙ is.1, is.2)

    listed_on : (x : Attempt) → IsInCatalog (visible t) x → IsInCatalog (visible c) x
    listed_on x is = (is.0, opening_same x.publisher x.is_publisher ∙ is.1, is.2)

    -- what is seen stands
    stands_there : (q bytes : List ℕ) → file_at (visible t) q ≡ Some bytes → file_at t q ≡ Some bytes
    stands_there q bytes is = go (is_private q) refl
      where
        go : (b : Bool) → is_private q ≡ b → file_at t q ≡ Some bytes
        go true own = absurd (none_is (file_at (visible t) q) bytes (ap (λ (x : Bool). file_bytes (cond x None (t.look q))) own) is)
        go false own = sym (ap (λ (x : Bool). file_bytes (cond x None (t.look q))) own) ∙ is

    intact_on : (publisher : List ℕ) (name : PayloadName) → IsPublisher publisher → HasIntact publisher (visible t) name → HasIntact publisher (visible c) name
    intact_on publisher name is has =
        let place = payload_place publisher name in
        let there : HasIntact publisher t name = (has.0, record { stands = stands_there place has.0 has.1.stands; within = has.1.within; named = has.1.named }) in
        (has.0, record { stands = file_same place (beside.payloads publisher name is there) ∙ has.1.stands; within = has.1.within; named = has.1.named })

    whole_on : (x : Attempt) → IsWhole (visible t) x → IsWhole (visible c) x
    whole_on x is =
        let place = manifest_place x.publisher x.stem x.version in
        record {
          listed = listed_on x is.listed;
          text = is.text;
          stands = file_same place (beside.manifests x.publisher x.stem x.version is.text x.is_publisher (stands_there place is.text is.stands)) ∙ is.stands;
          lines = is.lines;
          means = is.means;
          has = is.has;
          intact = λ name has. intact_on x.publisher name x.is_publisher (is.intact name has);
        }

    pub kept_beside : (xs : List Attempt) → AreWholeOrOut xs (visible t) → AreWholeOrOut xs (visible c)
    kept_beside xs are = record {
      mark = λ x has. ap is_mark_file (file_same mark_place beside.mark) ∙ are.mark x has;
      each = λ x has listed. let y = are.each x has (listed_back x listed) in (y.0, y.1, y.2, whole_on y.0 y.3);
      answered = λ x has is. whole_on x (are.answered x has is);
    }

neither : (a b : Bool) → a ≡ false → b ≡ false → (a || b) ≡ false
neither a b e f = rw (e, f) refl

-- each moment
pub moments_keep : (text : List Step → List ℕ) (xs : List Attempt) (free : PathTest) (old s : State) → IsSettled old → old.held.look gate_name ≡ None → IsBeside old.held free
    → ChangedWithin free free old s → AreWholeOrOut xs (visible old.held) → Keeps text (AreWholeOrOut xs) s
moments_keep text xs free old s clean shut beside within are =
    let not_free = beside.own gate_name (gate_private gate_name (covers-self gate_name)) in
    let here : (c : Image) → Agrees free free old.held c → ShowsSomeAtEnd text (AreWholeOrOut xs) c = λ c agrees.
    (visible c, Shut (agrees.look gate_name not_free not_free ∙ shut) refl, kept_beside free old.held c agrees beside xs are) in
    record {
      now = here s.held within.agrees;
      left = λ c may. here c (agrees_less (λ q. free q || old.whole q) (λ q. free q || old.modes q) free free old.held c (λ q h. neither (free q) (old.whole q) h (clean.whole q)) (λ q h. neither (free q) (old.modes q) h (clean.modes q)) (within_crash free free old s c within may));
    }
