-- A directory with names that are no paths goes unsaved just where one was found among what was asked for.
use Rattle.std.proofs.Common.{◌≡◌, ◌⊎◌, inl, inr, ℕ, Bool, true, false, cond, not, ◌&&◌, List, [], ◌∷◌, Option, Some, None, is_some, refl, sym, ◌∙◌, ap}
use Rattle.std.specs.List.{AllByRecursion}
use Rattle.std.proofs.lemmas.Bool.{and_from, and_parts, cases_Bool, false_from_ne_true, not-true, not_from_false, or_cases, or_left, or_right}
use Rattle.ips_text.specs.Ancestry.{covers, same_path}
use Rattle.ips_text.specs.Kept.{Kept}
use Rattle.ips_text.proofs.Ancestry.{covers-self, covers_trans, same_path-self, same_path-true}
use Rattle.ips_outside.specs.Image.{Dir, Entry, File, Image, Link, Other}
use Rattle.ips_steps.specs.Private.{records_name}
use Rattle.ips_steps.proofs.Lists.{clash}
use Rattle.ips_after.specs.After.{change_after, given_up, given_up_as, over_or, supported}
use Rattle.ips_after.specs.Change.{Change, Removed, cleared, reached, replaces}
use Rattle.ips_after.specs.Lists.{listed}
use Rattle.ips_after.specs.Request.{Request, WantDir, WantFile, WantHard, WantLink, Wanted, is_dir_wanted, takes}
use Rattle.ips_after.specs.Salvage.{has_foreign, lesser}
use Rattle.ips_after.proofs.Changed.{reach_of, reached_from}
use Rattle.ips_after.proofs.Fits.{any_from, any_of, dir_of_wanted}
use Rattle.ips_change.specs.Told.{naming}
use Rattle.ips_change.specs.wanted.Named.{is_payload_of}
use Rattle.ips_change.specs.declared.survey.row.Row.{Row}
use Rattle.ips_change.specs.survey.Marks.{row_paths}
use Rattle.ips_change.specs.declared.survey.said.Said.{Said}
use Rattle.ips_change.specs.survey.Tables.{IsTable}
use Rattle.ips_found.specs.Found.{AreThings, Found, FoundDir, FoundFile, FoundLink, FoundOther, IsThing, found_of, found_told, thing_paths}
use Rattle.ips_found.specs.declared.found.Thing.{Thing}
use Rattle.ips_strays.specs.foreign.Foreign.{Gathers, IsFirstThing, asks, asks_among, found_foreign, gives_dir, is_lost_thing}
use Rattle.ips_movable.specs.First.{IsFirstPath, loses_foreign}
use Rattle.ips_strays.proofs.foreign.Firsts.{at_place, none_before, none_lost}

-- ---- one path

-- what is found has such names just where what stands does
foreign_seen : (e : Option Entry) (f : Found) → Some f ≡ found_of e → found_foreign f ≡ has_foreign e
foreign_seen (Some (Dir m b)) x is = ap found_foreign (same x (FoundDir m b) is)
  where
    same : (a b : Found) → Some a ≡ Some b → a ≡ b
    same a b e = cc
foreign_seen (Some (File m b)) x is = ap found_foreign (same x (FoundFile m) is)
  where
    same : (a b : Found) → Some a ≡ Some b → a ≡ b
    same a b e = cc
foreign_seen (Some (Link g)) x is = ap found_foreign (same x (FoundLink g) is)
  where
    same : (a b : Found) → Some a ≡ Some b → a ≡ b
    same a b e = cc
foreign_seen (Some Other) x is = ap found_foreign (same x FoundOther is)
  where
    same : (a b : Found) → Some a ≡ Some b → a ≡ b
    same a b e = cc
foreign_seen None x is = absurd (cc)

foreign_stands : (e : Option Entry) → has_foreign e ≡ true → is_some e ≡ true
foreign_stands (Some e) h = refl
foreign_stands None h = cc

-- a directory with such names is ours just where one was wanted
ours : (holds : List ℕ → List ℕ → Bool) (o : Option Wanted) (e : Option Entry) → has_foreign e ≡ true → given_up_as holds o e ≡ is_dir_wanted o
ours holds o None h = cc
ours holds o (Some (File m b)) h = cc
ours holds o (Some (Link g)) h = cc
ours holds o (Some Other) h = cc
ours holds (Some (WantDir n)) (Some (Dir m f)) h = refl
ours holds (Some (WantFile payload n preserve)) (Some (Dir m f)) h = refl
ours holds (Some (WantLink target)) (Some (Dir m f)) h = refl
ours holds (Some (WantHard to)) (Some (Dir m f)) h = refl
ours holds None (Some (Dir m f)) h = refl

-- what is taken away is removed
taken_removed : (o : Option (Option Entry)) (c : Change) → takes o ≡ true → over_or o c ≡ Removed
taken_removed (Some (Some e)) c h = cc
taken_removed (Some None) c h = refl
taken_removed None c h = cc

removes : (b : Bool) (c : Change) → c ≡ Removed → replaces (cond b Removed c) ≡ true
removes true c h = refl
removes false c h = ap replaces h

taken_goes : (r : Request) (t : Image) (emptied : List ℕ → Bool) (x q : List ℕ) → takes (r.over.at x) ≡ true → covers x q ≡ true → cleared (change_after (naming r) t emptied) q ≡ true
taken_goes r t emptied x q taken over = reached_from (λ p. replaces (change_after (naming r) t emptied p)) x q over (removes (emptied x) _ (taken_removed (r.over.at x) (supported (naming r) t x) taken))

-- ---- what was asked for

module _ (r : Request) (t : Image) (emptied : List ℕ → Bool) (rows : List Row) (said : List (Option Said)) (table : IsTable r rows said) where
  -- what a row asks of and holds such names goes unsaved
  asked_lost : (x q : List ℕ) → has_foreign (t.look q) ≡ true → asks r t emptied x q ≡ true → (given_up (naming r) t q && cleared (change_after (naming r) t emptied) q) ≡ true
  asked_lost x q foreign h = go (takes (r.over.at x)) refl (and_parts (not (covers records_name x)) _ h).1
    where
      go : (b : Bool) → takes (r.over.at x) ≡ b → cond b (covers x q) (gives_dir r t emptied x && same_path x q) ≡ true → (given_up (naming r) t q && cleared (change_after (naming r) t emptied) q) ≡ true
      go true taken over = and_from _ _ (or_right (given_up_as is_payload_of (r.old.at q) (t.look q)) _ (reached_from (λ p. takes (r.over.at p)) x q over taken)) (taken_goes r t emptied x q taken over)
      go false kept h =
          let parts = and_parts (gives_dir r t emptied x) (same_path x q) h in
          let same = same_path-true x q parts.1 in
          let given = and_parts (is_dir_wanted (r.old.at q)) _ (ap (gives_dir r t emptied) (sym same) ∙ parts.0) in
          and_from _ _ (or_left _ _ (ours is_payload_of (r.old.at q) (t.look q) foreign ∙ given.0)) given.1

  -- and where such a directory goes unsaved, a row asks of it
  lost_asked : (q : List ℕ) → loses_foreign (naming r) t emptied q ≡ true → (is_some (t.look q) && asks_among r t emptied (row_paths rows) q) ≡ true
  lost_asked q h =
      let start = and_parts (has_foreign (t.look q)) _ h in
      let next = and_parts (not (covers records_name q)) _ start.1 in
      let last = and_parts (given_up (naming r) t q) (cleared (change_after (naming r) t emptied) q) next.1 in
      and_from _ _ (foreign_stands (t.look q) start.0) (go start.0 next.0 last.1 (or_cases _ _ last.0))
    where
      here : takes (r.over.at q) ≡ true ⊎ takes (r.over.at q) ≡ false → gives_dir r t emptied q ≡ true → cond (takes (r.over.at q)) (covers q q) (gives_dir r t emptied q && same_path q q) ≡ true
      here (inl taken) given = ap (λ (b : Bool). cond b (covers q q) (gives_dir r t emptied q && same_path q q)) taken ∙ covers-self q
      here (inr kept) given = ap (λ (b : Bool). cond b (covers q q) (gives_dir r t emptied q && same_path q q)) kept ∙ and_from _ _ given (same_path-self q)

      spoken : (x : List ℕ) → takes (r.over.at x) ≡ true → listed (row_paths rows) x ≡ true
      spoken x taken = elim (cases_Bool (listed (row_paths rows) x)) [
        | inl row ↦ row
        | inr bare ↦ clash (takes (r.over.at x)) taken (ap takes (table.none_else x bare))
      ]

      go : has_foreign (t.look q) ≡ true → not (covers records_name q) ≡ true → cleared (change_after (naming r) t emptied) q ≡ true
          → (given_up_as is_payload_of (r.old.at q) (t.look q) ≡ true) ⊎ (reached (λ p. takes (r.over.at p)) q ≡ true) → asks_among r t emptied (row_paths rows) q ≡ true
      go foreign apart goes (inl own) =
          let wanted : is_dir_wanted (r.old.at q) ≡ true = sym (ours is_payload_of (r.old.at q) (t.look q) foreign) ∙ own in
          let row : listed (row_paths rows) q ≡ true = table.covers q ∙ or_left _ _ (dir_of_wanted (r.old.at q) wanted) in
          any_from (λ p. asks r t emptied p q) (row_paths rows) q row (and_from _ _ apart (here (cases_Bool (takes (r.over.at q))) (and_from _ _ wanted goes)))
      go foreign apart goes (inr taken) =
          let x = reach_of (λ p. takes (r.over.at p)) q taken in
          let free : covers records_name x.at ≡ false = false_from_ne_true _ (λ over. clash (covers records_name q) (covers_trans records_name x.at q over x.over) (not-true _ apart)) in
          any_from (λ p. asks r t emptied p q) (row_paths rows) x.at (spoken x.at x.holds)
          (and_from _ _ (not_from_false _ free) (ap (λ (b : Bool). cond b (covers x.at q) (gives_dir r t emptied x.at && same_path x.at q)) x.holds ∙ x.over))

  -- a thing that was asked for is lost just where such a directory goes unsaved
  thing_lost : (x : Thing) → IsThing t x → (is_some (t.look x.path.bytes) && asks_among r t emptied (row_paths rows) x.path.bytes) ≡ true → is_lost_thing x ≡ loses_foreign (naming r) t emptied x.path.bytes
  thing_lost x is asked = ap (λ (b : Bool). b && not (covers records_name p)) (foreign_seen (t.look p) (found_told x.found) is) ∙ go (has_foreign (t.look p)) refl
    where
      p : List ℕ
      p = x.path.bytes

      more : (a b : Bool) → b ≡ true → a ≡ (a && b)
      more true b h = sym h
      more false b h = refl

      go : (f : Bool) → has_foreign (t.look p) ≡ f → (has_foreign (t.look p) && not (covers records_name p)) ≡ loses_foreign (naming r) t emptied p
      go false none = ap (λ (f : Bool). f && not (covers records_name p)) none ∙ sym (ap (λ (f : Bool). f && (not (covers records_name p) && (given_up (naming r) t p && cleared (change_after (naming r) t emptied) p))) none)
      go true foreign =
          let y = any_of (λ y. asks r t emptied y p) (row_paths rows) (and_parts (is_some (t.look p)) _ asked).1 in
          ap (λ (b : Bool). has_foreign (t.look p) && b) (more (not (covers records_name p)) _ (asked_lost y.path p foreign y.holds))

  -- so are all of them
  all_lost : (things : List Thing) → AreThings t things → ((q : List ℕ) → listed (thing_paths things) q ≡ true → (is_some (t.look q) && asks_among r t emptied (row_paths rows) q) ≡ true)
      → AllByRecursion (λ x. is_lost_thing x ≡ loses_foreign (naming r) t emptied x.path.bytes) things
  all_lost [] are asked = tt
  all_lost (x ∷ things) are asked = (thing_lost x are.0 (asked x.path.bytes (or_left _ _ (same_path-self x.path.bytes))), all_lost things are.1 (λ q there. asked q (or_right (same_path x.path.bytes q) _ there)))

  pub first_lost : (things : List Thing) (first : Option Kept) → Gathers r t emptied (row_paths rows) [] things → AreThings t things → IsFirstThing things first → IsFirstPath (loses_foreign (naming r) t emptied) first
  first_lost things None all are none = λ q. false_from_ne_true _ (λ h.
      clash (loses_foreign (naming r) t emptied q) h (none_lost (loses_foreign (naming r) t emptied) things q (all_lost things are (λ x there. sym (all.each x) ∙ there)) none (all.each q ∙ lost_asked q h)))
  first_lost things (Some p) all are at =
      let told = all_lost things are (λ x there. sym (all.each x) ∙ there) in (
        ap (loses_foreign (naming r) t emptied) at.path_is ∙ sym (at_place (λ x. is_lost_thing x ≡ loses_foreign (naming r) t emptied x.path.bytes) things at.place at.thing at.there told) ∙ at.lost,
        λ q less. false_from_ne_true _ (λ h.
            clash (loses_foreign (naming r) t emptied q) h
            (none_before (loses_foreign (naming r) t emptied) things at.place at.thing q all.order at.there told at.before (ap (lesser q) (sym at.path_is) ∙ less) (all.each q ∙ lost_asked q h))),
      )
