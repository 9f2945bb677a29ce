-- How what is ready is carried out ends, by what was written.
use Rattle.std.proofs.Common.{◌≡◌, inl, ℕ, Bool, true, false, cond, ◌||◌, List, [], ◌∷◌, ◌++◌, take, Option, Some, None, IfSome, Ok, Err, refl, sym, ap, subst, ◌∙◌}
use Rattle.std.specs.Prelude.{codes}
use Rattle.std.specs.List.{Contains}
use Rattle.std.proofs.lemmas.Bool.{false_from_ne_true}
use Rattle.ips_text.proofs.Ancestry.{covers-self}
use Rattle.ips_text.specs.declared.refusal.Or.TheVariants.{Bad, OutOfMemory}
use Rattle.ips_outside.specs.Image.{Entry, Image, IsImage, is_dir}
use Rattle.ips_outside.specs.State.{State, IsSettled, ChangedWithin, nowhere}
use Rattle.ips_outside.specs.Outside.{Outside, IsOutside}
use Rattle.ips_folder.specs.Calls.{ChangesOnly, Throughout}
use Rattle.ips_folder.proofs.Runs.{joins, weaker}
use Rattle.ips_steps.specs.Private.{records_name, gate_name, is_private, visible}
use Rattle.ips_steps.specs.Owed.{Owes, Old, Open, New, FolderOwes}
use Rattle.ips_steps.proofs.PrivateNames.{gate_private}
use Rattle.ips_journal.specs.Text.{journal_text}
use Rattle.ips_journal.specs.declared.staged.Staged.{Staged}
use Rattle.ips_digest.specs.Name.{IsName, spelling}
use Rattle.ips_digest.specs.declared.name.PayloadName.{PayloadName}
use Rattle.ips_catalog.specs.Listed.{Listed, versions_of}
use Rattle.ips_files.specs.Files.{file_at}
use Rattle.ips_repo.specs.Places.{catalog_place}
use Rattle.ips_repo.specs.Mark.{is_repository}
use Rattle.ips_repo.specs.Opening.{opening, catalog_in}
use Rattle.ips_repo.specs.Payload.{HasIntact}
use Rattle.ips_ways.specs.Ways.{gives_way, is_missing, with_dirs}
use Rattle.ips_ways.proofs.Stand.{CanStart, way_before}
use Rattle.ips_lay.specs.Lists.{AreAllIntact}
use Rattle.ips_lay.specs.Records.{record_dirs}
use Rattle.ips_sends.specs.Whole.{Attempt, AreWholeOrOut, IsBeside}
use Rattle.ips_sends.specs.Judged.{Put, Publish, Judges, ways}
use Rattle.ips_sends.proofs.Stops.{seen, settled_keeps}
use Rattle.ips_sends.proofs.Beside.{opening_alike, opening_same, kept_alike, kept_beside, moments_keep}
use Rattle.ips_put.specs.Putting.{IsMeant, Puts, PutsNothing, is_done}
use Rattle.ips_put.specs.Two.{CanPutTwo, two_puts}
use Rattle.ips_put.proofs.Entire.{begun_out, marked, same_ok}
use Rattle.ips_put.proofs.While.{put_kept, put_done}
use Rattle.ips_judged.specs.declared.verdict.Asked.{Asked}
use Rattle.ips_judged.specs.Answers.{IsAsked, asked_of}
use Rattle.ips_beside.specs.Writing.{WritesBeside, StaysOffLaid}
use Rattle.ips_published.specs.declared.fault.PublishFault.TheVariants.{Refused, Lost, SourceFault, FolderFault, BadJournal}
use Rattle.ips_published.specs.Ending.{Ending, IsStopped}
use Rattle.ips_published.specs.Publishing.{attempt, names_put, manifest_at, catalog_at, IsBesideAt, DiffersBeside, IsPublishedOver}
use Rattle.ips_published.specs.Answers.{Ends, IsUnput, IsUnfinished, IsPublished}
use Rattle.ips_published.specs.Writing.{Goes, GoesBeside, GoesPutting, IsPutEnding}
use Rattle.ips_published.proofs.Beside.{is_beside, off_beside}
use Rattle.ips_published.proofs.Given.{gate_shut}
use Rattle.ips_published.proofs.Heads.{file_seen, opening_seen}
use Rattle.ips_published.proofs.Lead.{Says, Leads, sent}
use Rattle.ips_published.proofs.Missing.{missed, is_missed, dirs_file, records_elsewhere}
use Rattle.ips_published.proofs.Roads.{records_among}
use Rattle.ips_published.proofs.Texts.{IsSet}
use Rattle.ips_published.proofs.Whole.{all_stay, published}

-- nothing stands at the gate
abbrev pub IsShut : State → Type 0
IsShut s = s.held.look gate_name ≡ None

-- where one image is owed alone, the gate is closed
owes_shut : (b t : Image) (after : Option Image) (due : Bool) → after ≡ None → Owes journal_text b after due t → t.look gate_name ≡ None
owes_shut b t after due none (Old shut seen_as) = shut
owes_shut b t after due none (Open {a = x} steps marks is) = absurd (let bad : (let o : Option Image = Some x in o) ≡ None = none in cc)
owes_shut b t after due none (New shut seen_as) = shut

module _ {F : Type 0} (o : Outside F) (sane : IsOutside o) (proto : Image) (a : Asked) (is : IsAsked a) (put : Put) (staged : List Staged) (old : F) (s : IsSet a put staged (o.state old).held)
    (named : (m : PayloadName) → Contains (names_put put) m → IsName m) (clean : IsSettled (o.state old)) (shut : (o.state old).held.look gate_name ≡ None)
    (judges : Judges proto (o.state old).held (asked_of a) (Publish put)) where
  abbrev roads : List (List ℕ)
  roads = ways a.publisher a.stem (names_put put)

  abbrev before : Image
  before = (o.state old).held

  abbrev begun : Attempt
  begun = attempt a is put false

  opened_seen : opening a.publisher (visible before) ≡ Ok s.catalog
  opened_seen = opening_seen before a.publisher ∙ s.opened

  is_marked : is_repository (visible before) ≡ true
  is_marked = marked (is_repository (visible before)) (catalog_in a.publisher (file_at (visible before) (catalog_place a.publisher))) s.catalog opened_seen

  were : (xs : List Attempt) → Says xs (o.state old) → AreWholeOrOut xs (visible before)
  were xs was = seen journal_text (AreWholeOrOut xs) (o.state old) was shut

  -- the attempt begins: it isn't listed
  begins : (xs : List Attempt) → Says xs (o.state old) → AreWholeOrOut (begun ∷ xs) (visible before)
  begins xs was =
      begun_out (visible before) begun xs is_marked
      (λ listed. s.unlisted (subst (λ (l : List Listed). Contains (versions_of l a.stem) a.version) (same_ok (opening a.publisher (visible before)) listed.0 s.catalog listed.1 opened_seen) listed.2)) refl (were xs was)

  -- ---- behind the directories of the records

  module _ (mid : F) (start : CanStart [] record_dirs (o.state old).held) (only : ChangesOnly o (is_missing (o.state old).held record_dirs) nowhere old mid) (held : (o.state mid).held ≡ with_dirs record_dirs (o.state old).held)
      (clean_mid : IsSettled (o.state mid)) (formed : IsImage (o.state mid).held) (var : is_dir ((o.state mid).held.look (codes "var")) ≡ true) (records : is_dir ((o.state mid).held.look records_name) ≡ true) (lead : Leads o old mid) where
    abbrev t : Image
    t = (o.state mid).held

    alike : (q : List ℕ) → file_at t q ≡ file_at before q
    alike q = ap (λ (u : Image). file_at u q) held ∙ dirs_file [] record_dirs before start records_elsewhere q

    back : (q : List ℕ) → gives_way q (t.look q) ≡ true → gives_way q (before.look q) ≡ true
    back q way = way_before [] record_dirs before start q (sym (ap (λ (u : Image). gives_way q (u.look q)) held) ∙ way)

    shut_mid : IsShut (o.state mid)
    shut_mid = gate_shut before t held shut

    opened_then : opening a.publisher (visible t) ≡ Ok s.catalog
    opened_then = opening_alike before t alike a.publisher ∙ opened_seen

    opened_mid : opening a.publisher t ≡ Ok s.catalog
    opened_mid = sym (opening_seen t a.publisher) ∙ opened_then

    whole_mid : (xs : List Attempt) → Says xs (o.state old) → AreWholeOrOut (begun ∷ xs) (visible t)
    whole_mid xs was = kept_alike before t alike (begun ∷ xs) (begins xs was)

    says_mid : (xs : List Attempt) → Says xs (o.state old) → Says (begun ∷ xs) (o.state mid)
    says_mid xs was = settled_keeps journal_text (AreWholeOrOut (begun ∷ xs)) (o.state mid) clean_mid shut_mid (whole_mid xs was)

    -- what isn't beside wasn't made
    records_off : (q : List ℕ) → (IsBesideAt a put before q → ⊥) → is_missing before record_dirs q ≡ false
    records_off q off = false_from_ne_true (is_missing before record_dirs q) (λ h.
        let m = missed before record_dirs q h in
        off (inl (is_missed before roads q m.road (records_among a.publisher a.stem (names_put put) m.road m.among) m.room m.over)))

    -- ---- while all is written beside

    module _ (at : F) (writes : WritesBeside o a.publisher (ways a.publisher a.stem (names_put put)) (names_put put) mid at) where
      abbrev free : List ℕ → Bool
      free = λ q. is_missing (o.state mid).held (ways a.publisher a.stem (names_put put)) q || writes.laid q

      apart : IsBeside t free
      apart = is_beside t formed a.publisher a.stem is.publisher (names_put put) s.catalog opened_mid var records writes.mid writes.made writes.laid writes.unlaid named

      says_then : (xs : List Attempt) → Says xs (o.state old) → (x : State) → ChangedWithin free free (o.state mid) x → Says (begun ∷ xs) x
      says_then xs was x within = moments_keep journal_text (begun ∷ xs) free (o.state mid) x clean_mid shut_mid apart within (whole_mid xs was)

      says_beside : (xs : List Attempt) → Says xs (o.state old) → Throughout o mid at (Says (begun ∷ xs))
      says_beside xs was = weaker o mid at (ChangedWithin free free (o.state mid)) (Says (begun ∷ xs)) (says_then xs was) writes.only.moments

      gate_off : free gate_name ≡ false
      gate_off = apart.own gate_name (gate_private gate_name (covers-self gate_name))

      shut_then : (x : State) → ChangedWithin free free (o.state mid) x → IsShut x
      shut_then x within = within.agrees.look gate_name gate_off gate_off ∙ shut_mid

      shut_beside : Throughout o mid at IsShut
      shut_beside = weaker o mid at (ChangedWithin free free (o.state mid)) IsShut shut_then writes.only.moments

      differs : DiffersBeside a put before (o.state at).held
      differs q off =
          let out = off_beside t formed a.publisher a.stem is.publisher (names_put put) s.catalog opened_mid var records writes.mid writes.made writes.laid writes.unlaid named before alike back q off in
          ap (λ (e : Option Entry). cond (is_private q) None e) (writes.only.now.agrees.look q out out ∙ only.now.agrees.look q (records_off q off) refl)

      pub ends_beside : (x : Ending) → IsStopped x → Ends o proto a is old at x
      ends_beside x stopped =
          let keeps = sent o sane old mid begun begun lead at says_mid says_beside (λ xs was. says_then xs was (o.state at) writes.only.now) in
          IsUnput put x judges stopped keeps.keeps (record { shut = keeps.since IsShut shut_mid shut_beside; seen = differs })

      -- ---- all is written, safe and intact

      module _ (can : CanPutTwo (o.state at).held (manifest_at a) (catalog_at a)) (intact : AreAllIntact a.publisher (o.state at).held (names_put put)) where
        abbrev u : Image
        u = (o.state at).held

        opened_at : opening a.publisher (visible u) ≡ Ok s.catalog
        opened_at = opening_same free t u writes.only.now.agrees apart a.publisher is.publisher ∙ opened_then

        intact_seen : (m : PayloadName) → Contains (names_put put) m → HasIntact a.publisher (visible u) m
        intact_seen m has =
            let i = intact m has in (
              i.0,
              record {
                stands = file_seen u ((((codes "ublisher/" ++ a.publisher) ++ codes "/file/") ++ take 2 (spelling m)) ++ (47 ∷ spelling m)) ∙ i.1.stands;
                within = i.1.within;
                named = i.1.named;
              },
            )

        whole_at : (xs : List Attempt) → Says xs (o.state old) → AreWholeOrOut xs (visible u)
        whole_at xs was = kept_beside free t u writes.only.now.agrees apart xs (kept_alike before t alike xs (were xs was))

        begun_at : (xs : List Attempt) → Says xs (o.state old) → AreWholeOrOut (begun ∷ xs) (visible u)
        begun_at xs was = kept_beside free t u writes.only.now.agrees apart (begun ∷ xs) (whole_mid xs was)

        abbrev Means : Image → Type 0
        Means = IsMeant (two_puts (manifest_at a) (catalog_at a)) staged (o.state at).held

        each : (answered : Bool) (xs : List Attempt) → Says xs (o.state old) → (v : Image) → Means v → AreWholeOrOut (attempt a is put answered ∷ xs) v
        each answered xs was v meant = all_stay a is put staged before s u can opened_at intact_seen v meant answered xs (whole_at xs was)

        over : (after : Option Image) → IfSome after Means → IfSome after (IsPublishedOver a is put before)
        over None meant = tt
        over (Some v) meant = published a is put staged before s u can opened_at intact_seen v meant differs

        module _ (new : F) (done : Bool) (puts : Puts o (IsMeant (two_puts (manifest_at a) (catalog_at a)) staged (o.state at).held) done at new) where
          says_put : (xs : List Attempt) → Says xs (o.state old) → Throughout o at new (Says (begun ∷ xs))
          says_put xs was = put_kept o Means (AreWholeOrOut (begun ∷ xs)) done at new puts (each false xs was) (begun_at xs was)

          says_all : (xs : List Attempt) → Says xs (o.state old) → Throughout o mid new (Says (begun ∷ xs))
          says_all xs was = joins o mid at new (Says (begun ∷ xs)) (says_beside xs was) (says_put xs was)

          says_end : (xs : List Attempt) → Says xs (o.state old) → Says (begun ∷ xs) (o.state new)
          says_end xs was = let run = says_put xs was in run.each (o.state new) (sane.counts_now new (o.clock at) run.later)

          says_done : done ≡ true → (xs : List Attempt) → Says xs (o.state old) → Says (attempt a is put true ∷ xs) (o.state new)
          says_done e xs was = put_done o Means (AreWholeOrOut (attempt a is put true ∷ xs)) done at new puts (each true xs was) e

          ends_unfinished : Ends o proto a is old new (Err (Bad (FolderFault true)))
          ends_unfinished =
              IsUnfinished put judges (sent o sane old mid begun begun lead new says_mid says_all says_end).keeps
              (record { before = u; seen = differs; after = puts.after; published = over puts.after puts.is_meant; owed = puts.owed.each (o.state new) (sane.counts_now new (o.clock at) puts.owed.later) })

          ends_done : done ≡ true → Ends o proto a is old new (Ok tt)
          ends_done e =
              let d = puts.done e in
              IsPublished put judges (sent o sane old mid begun (attempt a is put true) lead new says_mid says_all (says_done e)).keeps
              (record { after = d.0; committed = d.2; published = published a is put staged before s u can opened_at intact_seen d.0 (subst (λ (m : Option Image). IfSome m Means) d.1 puts.is_meant) differs })

          ends_unput : (x : Ending) → IsStopped x → PutsNothing o at new → Ends o proto a is old new x
          ends_unput x stopped nothing =
              let behind = weaker o at new (FolderOwes journal_text (visible u) None false) IsShut (λ y owes. owes_shut (visible u) y.held None false refl owes.now) nothing.owed in
              let keeps = sent o sane old mid begun begun lead new says_mid says_all says_end in
              IsUnput put x judges stopped keeps.keeps
              (record {
                shut = keeps.since IsShut shut_mid (joins o mid at new IsShut shut_beside behind);
                seen = λ q off. ap (λ (v : Image). v.look q) nothing.seen ∙ differs q off;
              })

        pub ends_put : (x : Ending) (new : F) → Puts o (IsMeant (two_puts (manifest_at a) (catalog_at a)) staged (o.state at).held) (is_done x) at new → (IsStopped x → PutsNothing o at new) → IsPutEnding x → Ends o proto a is old new x
        ends_put (Ok tt) new puts nothing ending = ends_done new true puts refl
        ends_put (Err (Bad (Refused r))) new puts nothing ending = absurd ending
        ends_put (Err (Bad (Lost text))) new puts nothing ending = absurd ending
        ends_put (Err (Bad SourceFault)) new puts nothing ending = absurd ending
        ends_put (Err (Bad (FolderFault true))) new puts nothing ending = ends_unfinished new false puts
        ends_put (Err (Bad (FolderFault false))) new puts nothing ending = ends_unput new false puts (Err (Bad (FolderFault false))) refl (nothing refl)
        ends_put (Err (Bad (BadJournal line))) new puts nothing ending = absurd ending
        ends_put (Err OutOfMemory) new puts nothing ending = ends_unput new false puts (Err OutOfMemory) tt (nothing tt)

    -- ---- as it goes

    pub ends_of : ((at : F) → WritesBeside o a.publisher (ways a.publisher a.stem (names_put put)) (names_put put) mid at → StaysOffLaid a.publisher (with_dirs (ways a.publisher a.stem (names_put put)) (o.state mid).held) (names_put put) (o.state at).held
        → CanPutTwo (o.state at).held (manifest_at a) (catalog_at a)) → (new : F) (x : Ending) → Goes o a.publisher (ways a.publisher a.stem (names_put put)) (names_put put) (two_puts (manifest_at a) (catalog_at a)) staged mid new x → Ends o proto a is old new x
    ends_of can new x (GoesBeside y stopped writes) = ends_beside new writes y stopped
    ends_of can new x (GoesPutting y at writes safe stays intact puts nothing ending) = ends_put at writes (can at writes stays) intact y new puts nothing ending
