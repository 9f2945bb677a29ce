-- What is put beside paths is placed at its names.
use Rattle.std.proofs.Common.{◌≡◌, ◌⊎◌, inl, inr, ℕ, Bool, true, false, cond, ◌||◌, List, [], ◌∷◌, ◌++◌, Option, Some, None, is_some, refl, sym, ◌∙◌, ap}
use Rattle.std.specs.List.{AllByRecursion, flat_map}
use Rattle.std.specs.Option.{option_map}
use Rattle.std.proofs.lemmas.Bool.{false≢true, or_cases, or_left, or_right}
use Rattle.std.proofs.lemmas.List.Folds.{list_any-append}
use Rattle.ips_text.specs.Ancestry.{is_below, same_path}
use Rattle.ips_text.proofs.Ancestry.{same_path-self as same_self, same_path-true}
use Rattle.ips_text.proofs.Lists.{all_append}
use Rattle.ips_outside.specs.Image.{Dir, Entry, File, Image, Link, Other, file_bytes}
use Rattle.ips_outside.specs.Outside.{readable}
use Rattle.ips_steps.specs.Private.{records_name}
use Rattle.ips_steps.specs.Steps.{content_bytes}
use Rattle.ips_after.specs.Lists.{listed}
use Rattle.ips_after.specs.Request.{IsWant, Request}
use Rattle.ips_after.specs.Salvage.{Aside, IsLostName, has_long_side, is_long_path, is_lost, put_beside, salvaged, side_at, side_entry, side_is, side_name}
use Rattle.ips_after.specs.Salvage as salvage
use Rattle.ips_after.proofs.Names.{side_facts}
use Rattle.ips_aside.specs.declared.sides.side.Put.{Put}
use Rattle.ips_aside.specs.declared.sides.side.Put.TheVariants.{Legacy, New, Old}
use Rattle.ips_aside.specs.declared.sides.side.Side.{Side}
use Rattle.ips_aside.specs.declared.sides.side.SideName.{SideName}
use Rattle.ips_aside.specs.declared.sides.side.SideName.TheVariants as name
use Rattle.ips_aside.specs.sides.Sides.{IsNameOf, IsSide, ending_of, side_paths, side_put}
use Rattle.ips_aside.specs.declared.lost.LostName.{LostName}
use Rattle.ips_aside.specs.Lost.{AreNamesOf, HasName, lost_seen, names_of}
use Rattle.ips_aside.proofs.Defined.{IsLostSide, any_at as any_lost, front_named, goes_name, listed_side, names_defined, suffix_put, told as told_names}
use Rattle.ips_filter.proofs.Facets.{all_weaker}
use Rattle.ips_image_steps.specs.saving.Saving.{IsSavedFrom, Saved, SavedBeside, entry_saved, last_at, name_placed, named_placed, provenances_put, provenances_saved, put_entry, side_placed}
use Rattle.ips_image_steps.proofs.saving.Apart.{names_apart}
use Rattle.ips_image_steps.proofs.saving.Last.{At, Fate, Off, all_flat, any_at, fate}

-- the bytes that are copied are those that can be read
pub same_read : (e : Option Entry) → content_bytes (file_bytes e) ≡ readable e
same_read (Some (Dir m f)) = refl
same_read (Some (File m b)) = refl
same_read (Some (Link g)) = refl
same_read (Some Other) = refl
same_read None = refl

both_all : {A : Type 0} (P Q R : A → Type 0) (xs : List A) → ((x : A) → P x → Q x → R x) → AllByRecursion P xs → AllByRecursion Q xs → AllByRecursion R xs
both_all P Q R [] join p q = tt
both_all P Q R (x ∷ xs) join p q = (join x p.0 q.0, both_all P Q R xs join p.1 q.1)

-- names are placed just where they are
names_any : (names : List LostName) (q : List ℕ) → any_at (flat_map name_placed names) q ≡ listed (names_of names) q
names_any [] q = refl
names_any (x ∷ names) q = ap (λ (b : Bool). same_path x.name.items q || b) (names_any names q)

module _ (r : Request) (t : Image) (a : Aside) where
  -- a file that is put beside a path goes to this one
  pub record SentTo (q : List ℕ) (what : Saved) : Type 0 where
    pub path : List ℕ
    pub side : salvage.Side
    pub at : side_at r t path ≡ Some side
    pub name : side_name r t a path side ≡ q
    pub entry : entry_saved r.bytes t what ≡ side.entry
    pub sources : AllByRecursion (IsSavedFrom r t) (provenances_saved what)

  -- the file of a path is the one that is put beside it
  abbrev OwnSide : List ℕ → Put → Type 0
  OwnSide p put = side_at r t p ≡ Some (side_put r.bytes (readable (t.look p)) put)

  sources_put : (p : List ℕ) (put : Put) → OwnSide p put → AllByRecursion (IsSavedFrom r t) (provenances_put p put)
  sources_put p (Old m) is = (((side_facts r t p (side_put r.bytes (readable (t.look p)) (Old m)) is).0.file, or_right (salvaged r t p) _ (ap is_some is)), tt)
  sources_put p (Legacy m) is = (((side_facts r t p (side_put r.bytes (readable (t.look p)) (Legacy m)) is).0.file, or_right (salvaged r t p) _ (ap is_some is)), tt)
  sources_put p (New payload m) is = (record { path = p; mode = m; is = is }, tt)

  same_entry : (p : List ℕ) (put : Put) → put_entry r.bytes t p put ≡ (side_put r.bytes (readable (t.look p)) put).entry
  same_entry p put = ap (λ (b : List ℕ). (side_put r.bytes b put).entry) (same_read (t.look p))

  -- ---- at names beside paths

  free_name : (s : Side) → IsSide r t s → is_lost r t (s.path.now.bytes ++ ending_of s.put) ≡ false
      → side_name r t a s.path.now.bytes (side_put r.bytes (readable (t.look s.path.now.bytes)) s.put) ≡ s.path.now.bytes ++ ending_of s.put
  free_name s one free =
      let p = s.path.now.bytes in
      ap (λ (e : List ℕ). cond (is_lost r t (p ++ e)) (a.lost p) (p ++ e)) (suffix_put r.bytes (readable (t.look p)) s.put) ∙ ap (λ (b : Bool). cond b (a.lost p) (p ++ ending_of s.put)) free

  side_sent : (s : Side) → IsSide r t s → AllByRecursion (λ x. SentTo x.0 x.1) (side_placed s)
  side_sent s one = go s.name one.name
    where
      go : (n : SideName) → IsNameOf r t (s.path.now.bytes ++ ending_of s.put) n → AllByRecursion (λ x. SentTo x.0 x.1) (named_placed s n)
      go (name.Free path) is = (
        record {
          path = s.path.now.bytes;
          side = side_put r.bytes (readable (t.look s.path.now.bytes)) s.put;
          at = one.is;
          name = free_name s one is.2 ∙ sym is.0;
          entry = same_entry s.path.now.bytes s.put;
          sources = sources_put s.path.now.bytes s.put one.is;
        },
        tt,
      )
      go name.Lost is = tt
      go name.TooLong is = tt

  -- a file whose name can be used is placed there
  side_there : (sides : List Side) (p : List ℕ) (side : salvage.Side) → AllByRecursion (IsSide r t) sides → listed (side_paths sides) p ≡ true → side_at r t p ≡ Some side → is_lost r t (p ++ side.suffix) ≡ false
      → has_long_side r t a p (side_at r t p) ≡ false → any_at (flat_map side_placed sides) (p ++ side.suffix) ≡ true
  side_there [] p side all there at free short = cc
  side_there (s ∷ sides) p side all there at free short =
      list_any-append (λ x. same_path x.0 (p ++ side.suffix)) (side_placed s) (flat_map side_placed sides) ∙ go (or_cases (same_path s.path.now.bytes p) (listed (side_paths sides) p) there) (λ h. side_there sides p side all.1 h at free short)
    where
      q : List ℕ
      q = p ++ side.suffix

      here : s.path.now.bytes ≡ p → any_at (side_placed s) q ≡ true
      here same = named s.name all.0.name
        where
          seen : Some (side_put r.bytes (readable (t.look s.path.now.bytes)) s.put) ≡ Some side
          seen = sym all.0.is ∙ ap (side_at r t) same ∙ at

          is : side_put r.bytes (readable (t.look s.path.now.bytes)) s.put ≡ side
          is = let e = seen in cc

          ending : ending_of s.put ≡ side.suffix
          ending = sym (suffix_put r.bytes (readable (t.look s.path.now.bytes)) s.put) ∙ ap (λ (x : salvage.Side). x.suffix) is

          at_name : s.path.now.bytes ++ ending_of s.put ≡ q
          at_name = ap (λ (l : List ℕ). l ++ ending_of s.put) same ∙ ap (λ (l : List ℕ). p ++ l) ending

          long : is_long_path q ≡ false
          long = sym (ap (λ (b : Bool). is_long_path (cond b (a.lost p) q)) free) ∙ sym (ap (has_long_side r t a p) at) ∙ short

          named : (n : SideName) → IsNameOf r t (s.path.now.bytes ++ ending_of s.put) n → any_at (named_placed s n) q ≡ true
          named (name.Free path) told = or_left _ _ (same_here (told.0 ∙ at_name))
            where
              same_here : path.bytes ≡ q → same_path path.bytes q ≡ true
              same_here e = ap (λ (l : List ℕ). same_path l q) e ∙ same_self q
          named name.Lost told = absurd (false≢true (sym free ∙ ap (is_lost r t) (sym at_name) ∙ told.1))
          named name.TooLong told = absurd (false≢true (sym long ∙ ap is_long_path (sym at_name) ∙ told.0))

      go : (same_path s.path.now.bytes p ≡ true) ⊎ (listed (side_paths sides) p ≡ true) → (listed (side_paths sides) p ≡ true → any_at (flat_map side_placed sides) q ≡ true) → (any_at (side_placed s) q || any_at (flat_map side_placed sides) q) ≡ true
      go (inl e) rest = or_left _ _ (here (same_path-true s.path.now.bytes p e))
      go (inr e) rest = or_right (any_at (side_placed s) q) _ (rest e)

  -- ---- what goes to a path

  -- What is put beside paths goes to a path by the side name of one of these, or by none.
  data Sending (keys : List (List ℕ)) (q : List ℕ) (o : Option Entry) : Type 0 where
    Sent : (p : List ℕ) (side : salvage.Side) → side_at r t p ≡ Some side → side_name r t a p side ≡ q → put_beside r t a keys q o ≡ Some side.entry → Sending keys q o
    Left : put_beside r t a keys q o ≡ o → ((p : List ℕ) (side : salvage.Side) → listed keys p ≡ true → side_at r t p ≡ Some side → side_name r t a p side ≡ q → ⊥) → Sending keys q o

  sending : (keys : List (List ℕ)) (q : List ℕ) (o : Option Entry) → Sending keys q o
  sending [] q o = Left refl (λ p side l at name. cc)
  sending (p ∷ rest) q o = go (side_at r t p) refl (sending rest q o)
    where
      put : Option salvage.Side → Option Entry
      put s = cond (side_is r t a q p s) (side_entry s) (put_beside r t a rest q o)

      pass : (s : Option salvage.Side) → side_at r t p ≡ s → side_is r t a q p s ≡ false → Sending rest q o → Sending (p ∷ rest) q o
      pass s at off (Sent x side on name is) = Sent x side on name (ap put at ∙ ap (λ (b : Bool). cond b (side_entry s) (put_beside r t a rest q o)) off ∙ is)
      pass s at off (Left is none) = Left (ap put at ∙ ap (λ (b : Bool). cond b (side_entry s) (put_beside r t a rest q o)) off ∙ is)
          (λ x side l on name. here x side on name (or_cases (same_path p x) (listed rest x) l))
        where
          here : (x : List ℕ) (side : salvage.Side) → side_at r t x ≡ Some side → side_name r t a x side ≡ q → (same_path p x ≡ true) ⊎ (listed rest x ≡ true) → ⊥
          here x side on name (inl e) =
              let same = same_path-true p x e in
              let is : s ≡ Some side = sym at ∙ ap (side_at r t) same ∙ on in
              false≢true (sym off ∙ ap (side_is r t a q p) is ∙ ap (λ (y : List ℕ). same_path (side_name r t a y side) q) same ∙ ap (λ (y : List ℕ). same_path y q) name ∙ same_self q)
          here x side on name (inr l) = none x side l on name

      take_it : (side : salvage.Side) → side_at r t p ≡ Some side → same_path (side_name r t a p side) q ≡ true → Sending (p ∷ rest) q o
      take_it side at e = Sent p side at (same_path-true (side_name r t a p side) q e) (ap put at ∙ ap (λ (b : Bool). cond b (Some side.entry) (put_beside r t a rest q o)) e)

      go : (s : Option salvage.Side) → side_at r t p ≡ s → Sending rest q o → Sending (p ∷ rest) q o
      go (Some side) at rest_sent = at_name (same_path (side_name r t a p side) q) refl
        where
          at_name : (b : Bool) → same_path (side_name r t a p side) q ≡ b → Sending (p ∷ rest) q o
          at_name true e = take_it side at e
          at_name false e = pass (Some side) at e rest_sent
      go None at rest_sent = pass None at refl rest_sent

  module _ (things : List (List ℕ)) (sides : List Side) (names : List LostName) (are : AreNamesOf r t a things sides names) (want : IsWant r.new) (bare : (q : List ℕ) → is_below records_name q ≡ true → r.new.at q ≡ None)
      (under : is_below records_name a.root ≡ true) (short : (p : List ℕ) → has_long_side r t a p (side_at r t p) ≡ false) where
    name_sent : (x : LostName) → IsLostSide r t (lost_seen x) → HasName a x → SentTo x.name.items (SavedBeside x.path.now.bytes x.put)
    name_sent x l has = record {
      path = x.path.now.bytes;
      side = l.side;
      at = l.at;
      name = goes_name r t a things sides names are x l has;
      entry = same_entry x.path.now.bytes x.put ∙ ap (λ (s : salvage.Side). s.entry) (sym l.own);
      sources = sources_put x.path.now.bytes x.put (l.at ∙ ap (λ (s : salvage.Side). Some s) l.own);
    }

    pub all_sent : AllByRecursion (λ x. SentTo x.0 x.1) (flat_map side_placed sides ++ flat_map name_placed names)
    all_sent = all_append (λ x. SentTo x.0 x.1) (flat_map side_placed sides) (flat_map name_placed names)
        (all_flat (λ x. SentTo x.0 x.1) side_placed sides (all_weaker (IsSide r t) (λ s. AllByRecursion (λ x. SentTo x.0 x.1) (side_placed s)) sides side_sent are.sides_are.each))
        (all_flat (λ x. SentTo x.0 x.1) name_placed names (both_all (λ x. IsLostSide r t (lost_seen x)) (HasName a) (λ x. AllByRecursion (λ y. SentTo y.0 y.1) (name_placed x)) names (λ x l h. (name_sent x l h, tt)) (told_names r t a things sides names are) are.has))

    -- each file that is put beside a path is placed at its name
    sent_there : (p : List ℕ) (side : salvage.Side) → side_at r t p ≡ Some side → any_at (flat_map side_placed sides ++ flat_map name_placed names) (side_name r t a p side) ≡ true
    sent_there p side at = go (is_lost r t (p ++ side.suffix)) refl
      where
        split : (q : List ℕ) → (any_at (flat_map side_placed sides) q || any_at (flat_map name_placed names) q) ≡ true → any_at (flat_map side_placed sides ++ flat_map name_placed names) q ≡ true
        split q h = list_any-append (λ x. same_path x.0 q) (flat_map side_placed sides) (flat_map name_placed names) ∙ h

        go : (b : Bool) → is_lost r t (p ++ side.suffix) ≡ b → any_at (flat_map side_placed sides ++ flat_map name_placed names) (cond b (a.lost p) (p ++ side.suffix)) ≡ true
        go true lost = split (a.lost p) (or_right (any_at (flat_map side_placed sides) (a.lost p)) _ (names_any names (a.lost p) ∙ front_named a names p are.has (any_lost r t a things sides names are p side at lost)))
        go false free = split (p ++ side.suffix) (or_left _ _ (side_there sides p side are.sides_are.each (listed_side r t a things sides names are p side at) at free (short p)))

    defined : (p : List ℕ) (side : salvage.Side) → side_at r t p ≡ Some side → is_lost r t (p ++ side.suffix) ≡ true → IsLostName r t a p side
    defined = names_defined r t a things sides names are bare under

    -- what is placed last of the files that are put beside paths is what goes there
    pub files_last : (q : List ℕ) (o : Option Saved)
        → option_map (entry_saved r.bytes t) (last_at (flat_map side_placed sides ++ flat_map name_placed names) q o) ≡ put_beside r t a r.new.keys q (option_map (entry_saved r.bytes t) o)
    files_last q o = go (fate SentTo placings q o all_sent) (sending r.new.keys q (told o))
      where
        placings : List (List ℕ × Saved)
        placings = flat_map side_placed sides ++ flat_map name_placed names

        told : Option Saved → Option Entry
        told x = option_map (entry_saved r.bytes t) x

        one_entry : (what : Saved) (s : SentTo q what) (p : List ℕ) (side : salvage.Side) → side_at r t p ≡ Some side → side_name r t a p side ≡ q → Some (entry_saved r.bytes t what) ≡ Some side.entry
        one_entry what s p side at name =
            let same = names_apart r t a bare under defined s.path s.side s.at p side at (s.name ∙ sym name) in
            let both : Some s.side ≡ Some side = sym s.at ∙ ap (side_at r t) same ∙ at in
            let one : s.side ≡ side = cc in
            ap (λ (e : Entry). Some e) (s.entry ∙ ap (λ (x : salvage.Side). x.entry) one)

        go : Fate SentTo placings q o → Sending r.new.keys q (told o) → told (last_at placings q o) ≡ put_beside r t a r.new.keys q (told o)
        go (At what s is) (Sent p side at name put) = ap told is ∙ one_entry what s p side at name ∙ sym put
        go (At what s is) (Left put none) = absurd (none s.path s.side (sym (want.keyed s.path) ∙ (side_facts r t s.path s.side s.at).1) s.at s.name)
        go (Off is none) (Sent p side at name put) = absurd (false≢true (sym none ∙ ap (any_at placings) (sym name) ∙ sent_there p side at))
        go (Off is none) (Left put others) = ap told is ∙ sym put
