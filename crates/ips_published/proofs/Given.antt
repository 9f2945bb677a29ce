-- What is ready can be carried out.
use Rattle.std.proofs.Common.{◌≡◌, inl, inr, ℕ, zero, suc, ◌≤◌, true, false, ◌||◌, List, [], ◌∷◌, ◌++◌, length, map, take, slice_get, Option, Some, None, refl, sym, ap, subst, ◌∙◌, arith}
use Rattle.std.specs.Prelude.{codes}
use Rattle.std.specs.List.{AllByRecursion, Contains}
use Rattle.std.proofs.lemmas.Bool.{or_from, false_from_ne_true}
use Rattle.std.proofs.lemmas.Option.{slice_get_within}
use Rattle.ips_text.specs.Ancestry.{same_path, covers, parent}
use Rattle.ips_text.proofs.Ancestry.{covers-self, covers_trans, parent_covers}
use Rattle.ips_text.specs.Kept.{Kept}
use Rattle.ips_outside.specs.Children.{path_bytes}
use Rattle.ips_outside.specs.Image.{Dir, Image, IsImage, is_dir, has_parent, dir_or_none}
use Rattle.ips_outside.specs.Outside.{Outside}
use Rattle.ips_steps.specs.Private.{records_name, gate_name, is_private}
use Rattle.ips_steps.specs.Journal.{IsJournal}
use Rattle.ips_steps.specs.Steps.{Step}
use Rattle.ips_steps.specs.View.{step_of}
use Rattle.ips_steps.proofs.Lists.{clash}
use Rattle.ips_steps.proofs.PrivateNames.{gate_private}
use Rattle.ips_journal.specs.declared.staged.Staged.{Staged}
use Rattle.ips_journal.specs.declared.staged.Staged.TheVariants.{Bytes}
use Rattle.ips_commit.specs.Staging.{CanStage}
use Rattle.ips_digest.specs.Name.{IsName, spelling}
use Rattle.ips_digest.specs.declared.name.PayloadName.{PayloadName}
use Rattle.ips_files.specs.Files.{file_at}
use Rattle.ips_repo.specs.Places.{payload_place}
use Rattle.ips_repo.specs.Payload.{payload_limit, digest_by}
use Rattle.ips_ways.specs.Ways.{CanHave, IsFree, is_missing, with_dir, with_dirs}
use Rattle.ips_ways.proofs.Stand.{In, CanStart, AreFree, are_free, can_have, stand, free_then, none_stays, in_of, contains_of}
use Rattle.ips_lay.specs.declared.content.Content.{Content}
use Rattle.ips_lay.specs.Laid.{IsNotThere}
use Rattle.ips_lay.specs.Lists.{AreNames, ArePlaced, names_of}
use Rattle.ips_lay.specs.Records.{record_dirs}
use Rattle.ips_lay.proofs.Unlaid.{name_in}
use Rattle.ips_sends.specs.Judged.{Put, payload_dir, ways}
use Rattle.ips_sends.proofs.Apart.{NoSlash, manifest_apart, catalog_apart}
use Rattle.ips_sends.proofs.Free.{component_free}
use Rattle.ips_put.specs.Putting.{IsGiven, AreGiven}
use Rattle.ips_put.specs.Two.{CanPutTwo, two_puts}
use Rattle.ips_put.proofs.Pair.{lists, can_stage}
use Rattle.ips_prepare.specs.declared.prepared.Content as prepare
use Rattle.ips_prepare.specs.Prepared.{IsSourced}
use Rattle.ips_judged.specs.declared.verdict.Asked.{Asked}
use Rattle.ips_judged.specs.Answers.{IsAsked}
use Rattle.ips_ready.specs.Plans.{AreTwo, IsPlaced, IsPlan, Source, manifest_at, catalog_at, names_put, sources_placed, sources_prepared}
use Rattle.ips_ready.specs.declared.planning.Plan.{Plan}
use Rattle.ips_beside.specs.Writing.{AreThere, StaysOffLaid, WritesBeside}
use Rattle.ips_published.specs.Ending.{Ending}
use Rattle.ips_published.specs.Writing.{AreDirectories, CanWrite, Goes}
use Rattle.ips_published.proofs.Beside.{own_stays}
use Rattle.ips_published.proofs.Heads.{private_head, records_head}
use Rattle.ips_published.proofs.Roads.{all_ways, catalog_among, catalog_dir, catalog_parent, manifest_parent, name_among, payload_among, payload_parent, records_are, records_start, stem_among, stem_dir}
use Rattle.ips_published.proofs.Whole.{can_two}

-- ---- contents

same_content : (x c : Content) → (let o : Option Content = Some x in o) ≡ Some c → x ≡ c
same_content x c e = cc

placed_at : (publisher : List ℕ) (contents : List Content) → AllByRecursion (IsPlaced publisher) contents → (n : ℕ) (c : Content) → slice_get contents n ≡ Some c → IsPlaced publisher c
placed_at publisher [] all n c at = absurd (omega (arith, slice_get_within [] n c at))
placed_at publisher (x ∷ contents) all zero c at = subst (IsPlaced publisher) (same_content x c at) all.0
placed_at publisher (x ∷ contents) all (suc n) c at = placed_at publisher contents all.1 n c at

pub are_names : (publisher : List ℕ) (contents : List Content) → AllByRecursion (IsPlaced publisher) contents → AreNames contents
are_names publisher contents all n c at = (placed_at publisher contents all n c at).name

pub are_placed : (publisher : List ℕ) (contents : List Content) → AllByRecursion (IsPlaced publisher) contents → ArePlaced publisher contents
are_placed publisher contents all n c at = (placed_at publisher contents all n c at).place

names_named : (publisher : List ℕ) (contents : List Content) → AllByRecursion (IsPlaced publisher) contents → (m : PayloadName) → Contains (names_of contents) m → IsName m
names_named publisher [] all m (k, within, at) = absurd (omega (arith, within))
names_named publisher (x ∷ contents) all m (zero, within, at) = subst IsName at all.0.name
names_named publisher (x ∷ contents) all m (suc k, within, at) = names_named publisher contents all.1 m (k, omega (arith, within), at)

-- at the path of the source a file stands whose digest is its name
abbrev HasIt : Image → Source → Type 0
HasIt proto s = (bytes : List ℕ) × (file_at proto s.0 ≡ Some bytes) × (length bytes ≤ payload_limit) × (digest_by s.1 bytes ≡ s.1)

sources_have : (proto : Image) (contents : List prepare.Content) → AllByRecursion (IsSourced proto) contents → AllByRecursion (HasIt proto) (sources_prepared contents)
sources_have proto [] all = tt
sources_have proto (c ∷ contents) all = ((all.0.bytes, all.0.stands, all.0.within, all.0.named), sources_have proto contents all.1)

have_there : (proto : Image) (contents : List Content) → AllByRecursion (HasIt proto) (sources_placed contents) → AreThere proto contents
have_there proto [] all n c at not = absurd (omega (arith, slice_get_within [] n c at))
have_there proto (x ∷ contents) all zero c at not = (subst (λ (k : Content). IsNotThere k.name (file_at proto k.path.bytes)) (sym (same_content x c at)) not) all.0.0 all.0.1 all.0.2 all.0.3
have_there proto (x ∷ contents) all (suc n) c at not = have_there proto contents all.1 n c at not

-- contents of these sources are there
pub are_there : (proto : Image) (contents : List Content) (prepared : List prepare.Content) → sources_placed contents ≡ sources_prepared prepared → AllByRecursion (IsSourced proto) prepared → AreThere proto contents
are_there proto contents prepared same all = have_there proto contents (subst (AllByRecursion (HasIt proto)) (sym same) (sources_have proto prepared all))

-- the same under other names
pub stays_as : (p q : List ℕ) (t u : Image) (some paths : List Kept) (few contents : List Content) → p ≡ q → some ≡ paths → few ≡ contents → StaysOffLaid p (with_dirs (path_bytes some) t) (names_of few) u → StaysOffLaid q (with_dirs (path_bytes paths) t) (names_of contents) u
stays_as p q t u some paths few contents publisher ways_are contents_are stays =
    subst (λ (l : List Content). StaysOffLaid q (with_dirs (path_bytes paths) t) (names_of l) u) contents_are
    (subst (λ (l : List Kept). StaysOffLaid q (with_dirs (path_bytes l) t) (names_of few) u) ways_are (subst (λ (x : List ℕ). StaysOffLaid x (with_dirs (path_bytes some) t) (names_of few) u) publisher stays))

-- ---- two texts

same_some : (s r : Staged) (o : Option Staged) → o ≡ Some s → o ≡ Some r → s ≡ r
same_some s r o e f = cc

pub are_given : (manifest catalog : List ℕ) (staged : List Staged) → AreTwo manifest catalog staged → AreGiven staged
are_given manifest catalog staged two zero s at = subst IsGiven (same_some (Bytes two.first) s (slice_get staged 0) two.first_at at) tt
are_given manifest catalog staged two (suc zero) s at = subst IsGiven (same_some (Bytes two.second) s (slice_get staged 1) two.second_at at) tt
are_given manifest catalog staged two (suc (suc k)) s at = absurd (omega (arith, slice_get_within staged (suc (suc k)) s at, two.two))

-- directories at every path
abbrev everywhere : Image
everywhere = record { look = λ q. Some (Dir 493 false); same = λ x y. false }

-- ---- the gate, while directories of the records are made

gate_apart : (same_path (codes "var") gate_name ≡ false) × (same_path (codes "var/pkg") gate_name ≡ false)
unfolding gate_name
gate_apart = (refl, refl)

pub gate_shut : (t u : Image) → u ≡ with_dirs record_dirs t → t.look gate_name ≡ None → u.look gate_name ≡ None
gate_shut t u held shut =
    ap (λ (v : Image). v.look gate_name) held
    ∙ none_stays (codes "var/pkg") (with_dir (codes "var") t) gate_name gate_apart.1 (none_stays (codes "var") t gate_name gate_apart.0 shut)

-- ---- what is ready

module _ (a : Asked) (is : IsAsked a) (put : Put) (plan : Plan) (p : IsPlan a put plan) where
  abbrev roads : List (List ℕ)
  roads = ways a.publisher a.stem (names_put put)

  pub named : (m : PayloadName) → Contains (names_put put) m → IsName m
  named m has = names_named a.publisher plan.contents.items p.placed m (subst (λ (l : List PayloadName). Contains l m) (sym p.names) has)

  pub journal : IsJournal (map step_of plan.steps.items)
  journal = subst IsJournal (sym p.steps) (lists everywhere (manifest_at a) (catalog_at a) (can_two a is everywhere p.first p.second refl refl))

  -- ---- the directories

  pub clear : (t : Image) → IsFree t (path_bytes plan.ways.items) → IsFree t roads
  clear t h = subst (IsFree t) p.ways h

  pub can_records : (t : Image) → IsImage t → IsFree t (path_bytes plan.ways.items) → CanHave t record_dirs
  can_records t formed h = can_have [] record_dirs t (records_start t formed a.publisher a.stem (names_put put) (clear t h))

  pub start_all : (t u : Image) → IsImage u → IsFree t (path_bytes plan.ways.items) → u ≡ with_dirs record_dirs t → CanStart [] roads u
  start_all t u formed h held = record {
    formed = formed;
    dirs = λ d has. absurd has;
    free = subst (λ (v : Image). AreFree v roads) (sym held) (free_then record_dirs t roads (are_free t roads (clear t h)));
    ways = all_ways a.publisher is.publisher a.stem a.version p.first p.second (names_put put) named;
  }

  pub records_stand : (t u : Image) → IsImage t → IsFree t (path_bytes plan.ways.items) → u ≡ with_dirs record_dirs t → (d : List ℕ) → In record_dirs d → is_dir (u.look d) ≡ true
  records_stand t u formed h held d has =
      ap (λ (v : Image). is_dir (v.look d)) held ∙ (stand [] record_dirs t (records_start t formed a.publisher a.stem (names_put put) (clear t h))).1 d has

  pub can_write : (t u : Image) → IsImage t → IsImage u → IsFree t (path_bytes plan.ways.items) → u ≡ with_dirs record_dirs t → CanWrite plan u
  can_write t u formed after h held =
      let start = start_all t u after h held in record {
        can = subst (CanHave u) (sym p.ways) (can_have [] roads u start);
        dirs = subst (λ (l : List (List ℕ)). AreDirectories (with_dirs l u) l) (sym p.ways) (λ path has. (stand [] roads u start).1 path (in_of roads path has));
        var = records_stand t u formed h held (codes "var") (inl refl);
        records = records_stand t u formed h held records_name (inr (inl records_are));
      }

  -- ---- once they can be made

  module _ (t : Image) (can : CanWrite plan t) where
    abbrev pub made : Image
    made = with_dirs (path_bytes plan.ways.items) t

    road_stands : (d : List ℕ) → In roads d → is_dir (made.look d) ≡ true
    road_stands d has = can.dirs d (subst (λ (l : List (List ℕ)). Contains l d) (sym p.ways) (contains_of roads d has))

    pub have_parents : (n : ℕ) (c : Content) → slice_get plan.contents.items n ≡ Some c → has_parent made c.place.bytes ≡ true
    have_parents n c at =
        let one = placed_at a.publisher plan.contents.items p.placed n c at in
        let has = subst (λ (l : List PayloadName). Contains l c.name) p.names (name_in plan.contents.items n c at) in
        ap (dir_or_none made) (ap parent one.place ∙ payload_parent a.publisher is.publisher c.name one.name) ∙ road_stands (payload_dir a.publisher c.name) (payload_among a.publisher is.publisher a.stem (names_put put) c.name has)

    -- ---- once contents are laid

    module _ {F : Type 0} (o : Outside F) (mid new : F) (from : (o.state mid).held ≡ t) (shut : t.look gate_name ≡ None) (writes : WritesBeside o a.publisher (path_bytes plan.ways.items) (names_of plan.contents.items) mid new)
        (stays : StaysOffLaid a.publisher made (names_of plan.contents.items) (o.state new).held) where
      free : NoSlash a.publisher
      free = component_free a.publisher is.publisher.form

      abbrev pub after : Image
      after = (o.state new).held

      -- a directory on the way that isn't below a content
      still : (d : List ℕ) → In roads d → ((m : PayloadName) → covers (payload_place a.publisher m) d ≡ true → ⊥) → is_dir (after.look d) ≡ true
      still d has apart = ap is_dir (stays d (λ at. apart at.0 at.3)) ∙ road_stands d has

      stem_stands : is_dir (after.look (stem_dir a.publisher is.publisher a.stem)) ≡ true
      stem_stands = still (stem_dir a.publisher is.publisher a.stem) (stem_among a.publisher is.publisher a.stem (names_put put)) (λ m over.
          manifest_apart a.publisher a.publisher a.stem m a.version free free
          (covers_trans (payload_place a.publisher m) (stem_dir a.publisher is.publisher a.stem) (manifest_at a) over (parent_covers (manifest_at a) (stem_dir a.publisher is.publisher a.stem) (manifest_parent a.publisher is.publisher a.stem a.version))))

      catalog_stands : is_dir (after.look (catalog_dir a.publisher is.publisher)) ≡ true
      catalog_stands = still (catalog_dir a.publisher is.publisher) (catalog_among a.publisher is.publisher a.stem (names_put put)) (λ m over.
          catalog_apart a.publisher a.publisher m free free
          (covers_trans (payload_place a.publisher m) (catalog_dir a.publisher is.publisher) (catalog_at a) over (parent_covers (catalog_at a) (catalog_dir a.publisher is.publisher) (catalog_parent a.publisher is.publisher))))

      abbrev tail : PayloadName → List ℕ
      tail m = (((codes "ublisher/" ++ a.publisher) ++ codes "/file/") ++ take 2 (spelling m)) ++ (47 ∷ spelling m)

      records_there : is_dir (after.look records_name) ≡ true
      records_there = still records_name (name_among a.publisher a.stem (names_put put)) (λ m over. clash (covers (payload_place a.publisher m) records_name) over (records_head (tail m)))

      own : is_private gate_name ≡ true
      own = gate_private gate_name (covers-self gate_name)

      off : (is_missing (o.state mid).held (path_bytes plan.ways.items) gate_name || writes.laid gate_name) ≡ false
      off =
          or_from (is_missing (o.state mid).held (path_bytes plan.ways.items) gate_name) (writes.laid gate_name)
          (subst (λ (u : Image). is_missing u (path_bytes plan.ways.items) gate_name ≡ false) (sym from)
          (subst (λ (l : List (List ℕ)). is_missing t l gate_name ≡ false) (sym p.ways) (own_stays t a.publisher a.stem is.publisher (names_put put) can.var can.records gate_name own)))
          (false_from_ne_true (writes.laid gate_name) (λ h. let u = writes.unlaid gate_name h in clash (covers (payload_place a.publisher u.0) gate_name) u.3 (private_head (tail u.0) gate_name own)))

      gate_there : after.look gate_name ≡ None
      gate_there = writes.only.now.agrees.look gate_name off off ∙ ap (λ (u : Image). u.look gate_name) from ∙ shut

      pub can_put : CanPutTwo after (manifest_at a) (catalog_at a)
      can_put = can_two a is after p.first p.second stem_stands catalog_stands

      pub can_put_all : CanStage (map step_of plan.steps.items) plan.staged.items after
      can_put_all = subst (λ (l : List Step). CanStage l plan.staged.items after) (sym p.steps)
          (can_stage after (manifest_at a) (catalog_at a) can_put plan.staged.items (are_given put.manifest put.catalog plan.staged.items p.texts) p.texts.two records_there gate_there)

  -- ---- the same, by what is put

  module _ {F : Type 0} (o : Outside F) (mid : F) where
    pub two_can : CanWrite plan (o.state mid).held → (o.state mid).held.look gate_name ≡ None → (at : F) → WritesBeside o a.publisher (ways a.publisher a.stem (names_put put)) (names_put put) mid at
        → StaysOffLaid a.publisher (with_dirs (ways a.publisher a.stem (names_put put)) (o.state mid).held) (names_put put) (o.state at).held → CanPutTwo (o.state at).held (manifest_at a) (catalog_at a)
    two_can can shut at writes stays =
        can_put (o.state mid).held can o mid at refl shut
        (subst (λ (l : List (List ℕ)). WritesBeside o a.publisher l (names_of plan.contents.items) mid at) (sym p.ways) (subst (λ (l : List PayloadName). WritesBeside o a.publisher roads l mid at) (sym p.names) writes))
        (subst (λ (l : List (List ℕ)). StaysOffLaid a.publisher (with_dirs l (o.state mid).held) (names_of plan.contents.items) (o.state at).held) (sym p.ways)
        (subst (λ (l : List PayloadName). StaysOffLaid a.publisher (with_dirs roads (o.state mid).held) l (o.state at).held) (sym p.names) stays))

    pub goes_as : (new : F) (x : Ending) → Goes o a.publisher (path_bytes plan.ways.items) (names_of plan.contents.items) (map step_of plan.steps.items) plan.staged.items mid new x
        → Goes o a.publisher (ways a.publisher a.stem (names_put put)) (names_put put) (two_puts (manifest_at a) (catalog_at a)) plan.staged.items mid new x
    goes_as new x goes =
        subst (λ (l : List Step). Goes o a.publisher roads (names_put put) l plan.staged.items mid new x) p.steps
        (subst (λ (l : List PayloadName). Goes o a.publisher roads l (map step_of plan.steps.items) plan.staged.items mid new x) p.names
        (subst (λ (l : List (List ℕ)). Goes o a.publisher l (names_of plan.contents.items) (map step_of plan.steps.items) plan.staged.items mid new x) p.ways goes))
