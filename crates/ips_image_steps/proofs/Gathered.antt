-- What was found is the salvage of the request.
use Rattle.std.proofs.Common.{◌≡◌, ◌⊎◌, inl, inr, ℕ, true, false, List, [], ◌∷◌, ◌++◌, map, Option, Some, None, is_some, refl, sym, ◌∙◌, ap, subst}
use Rattle.std.specs.List.{AllByRecursion}
use Rattle.std.proofs.lemmas.Bool.{or_cases, or_parts, or_left, or_right}
use Rattle.ips_text.specs.Ancestry.{is_below, same_path}
use Rattle.ips_text.specs.Kept.{Kept}
use Rattle.ips_text.specs.Path.{IsPath}
use Rattle.ips_text.specs.Quote.{AreBytes}
use Rattle.ips_text.proofs.Ancestry.{same_path-true}
use Rattle.ips_outside.specs.Image.{Image, IsImage, Link}
use Rattle.ips_steps.specs.Private.{records_name}
use Rattle.ips_steps.specs.View.{step_of}
use Rattle.ips_after.specs.Lists.{listed}
use Rattle.ips_after.specs.Request.{IsRequest, Request}
use Rattle.ips_after.specs.Salvage.{Aside, Beside, GoesTo, HasSalvagedBytes, IsAside, IsOwn, IsRoot, Salvage, has_long_side, is_unmovable, salvaged, saving_contents, saving_steps, side_at}
use Rattle.ips_after.specs.Salvage.{saved as saved_at}
use Rattle.ips_after.specs.Salvage as salvage
use Rattle.ips_after.proofs.Names.{root_under, side_facts}
use Rattle.ips_after.proofs.Saved.{sent_or_way}
use Rattle.ips_steps.proofs.Lists.{clash}
use Rattle.ips_due.specs.Apart.{LeavesSalvage}
use Rattle.ips_change.specs.Told.{naming}
use Rattle.ips_change.specs.declared.survey.table.Table.{Table}
use Rattle.ips_change.specs.survey.Marks.{row_paths}
use Rattle.ips_laying.specs.Laying.{Laid}
use Rattle.ips_emptied.specs.Emptying.{marked_in}
use Rattle.ips_emptied.specs.declared.settled.Settled.{Settled}
use Rattle.ips_found.specs.Found.{AreThings, FoundLink, found_of, found_told, thing_paths}
use Rattle.ips_found.specs.declared.found.Thing.{Thing}
use Rattle.ips_movable.specs.First.{IsFirstPath}
use Rattle.ips_movable.specs.Movable.{CanMove, SaysBytes}
use Rattle.ips_aside.specs.declared.sides.side.Side.{Side}
use Rattle.ips_aside.specs.sides.Sides.{has_side}
use Rattle.ips_aside.specs.declared.lost.LostName.{LostName}
use Rattle.ips_aside.specs.declared.ways.Ways.{Ways}
use Rattle.ips_aside.specs.Lost.{AreLostNames, AreNamesOf, folder_paths, lost_in, names_of}
use Rattle.ips_aside.specs.Ways.{IsMarkedAbove, IsStandingAbove, is_way, bytes_if_any}
use Rattle.ips_aside.proofs.Defined.{names_defined}
use Rattle.ips_aside.proofs.Had.{all_had}
use Rattle.ips_aside.proofs.Missing.{all_ways, only_ways}
use Rattle.ips_due.proofs.Lying.{own_of}
use Rattle.ips_emit.specs.declared.emitting.Emitted.{Emitted}
use Rattle.ips_emit.specs.Emitted.{staged_bytes}
use Rattle.ips_image_steps.specs.Asked.{HasOwnFolder, IsAsked, SavesNothing}
use Rattle.ips_image_steps.specs.Sources.{HasSources}
use Rattle.ips_image_steps.specs.Answers.{HasSteps, IsHindered}
use Rattle.ips_image_steps.specs.Findings.{AddsAll, AreFiles, AreFound, AreSaved, IsSettled}
use Rattle.ips_image_steps.proofs.Staged.{staged_stand}

-- the salvage that was found
abbrev pub aside_found : Table → Settled → List ℕ → List LostName → Ways → Aside
aside_found table settled root names ways = record { root = root; emptied = marked_in (row_paths table.rows.items) settled.emptied.items; ways = is_way ways; lost = lost_in names }

-- what a symbolic link says that is salvaged is bytes, where it can be moved
pub link_bytes : (t : Image) (root : List ℕ) (xs : List Thing) (q g : List ℕ) → AreThings t xs → AllByRecursion (CanMove root) xs → listed (thing_paths xs) q ≡ true → t.look q ≡ Some (Link g) → AreBytes g
link_bytes t root [] q g found can there at = cc
link_bytes t root (x ∷ xs) q g found can there at = go (or_cases (same_path x.path.bytes q) (listed (thing_paths xs) q) there) (λ h. link_bytes t root xs q g found.1 can.1 h at)
  where
    go : (same_path x.path.bytes q ≡ true) ⊎ (listed (thing_paths xs) q ≡ true) → (listed (thing_paths xs) q ≡ true → AreBytes g) → AreBytes g
    go (inl e) later =
        let seen : Some (found_told x.found) ≡ Some (FoundLink g) = found.0 ∙ ap (λ (p : List ℕ). found_of (t.look p)) (same_path-true x.path.bytes q e) ∙ ap found_of at in
        let is : found_told x.found ≡ FoundLink g = cc in
        subst SaysBytes is can.0.says
    go (inr rest) later = later rest

module _ (laid : List ℕ → Option Laid) (moment : List ℕ) (r : Request) (t : Image) (table : Table) (settled : Settled) (things : List Thing) (sides : List Side) (root : List ℕ) (names : List LostName) (ways : Ways)
    (asked : IsAsked laid table.rows.items table.said.items r) (folder : HasOwnFolder r t) (formed : IsImage t) (known : IsSettled t table.rows.items table.said.items settled) (saved : AreSaved t table.rows.items table.said.items things)
    (files : AreFiles t table.rows.items table.said.items sides) (at_root : IsRoot t moment root) (lost : AreLostNames root (thing_paths things) sides names) where
  abbrev a : Aside
  a = aside_found table settled root names ways

  abbrev paths : List (List ℕ)
  paths = row_paths table.rows.items

  pub named : IsRequest (naming r)
  named = record { old_want = asked.good.old_want; new_want = asked.good.new_want; over_fits = asked.good.over_fits; hards = asked.good.hards }

  under : is_below records_name root ≡ true
  under = ap (is_below records_name) at_root.name ∙ root_under moment at_root.times

  -- beside just rows files are put
  rows_all : (p : List ℕ) → has_side (naming r) t p ≡ true → listed paths p ≡ true
  rows_all p has = go (side_at (naming r) t p) refl has
    where
      go : (s : Option salvage.Side) → side_at (naming r) t p ≡ s → is_some s ≡ true → listed paths p ≡ true
      go (Some side) at h = asked.table.covers p ∙ or_right (is_some (r.old.at p)) _ (or_left _ _ (side_facts (naming r) t p side at).1)
      go None at h = cc

  pub are : AreNamesOf (naming r) t a (thing_paths things) sides names
  are =
      let found = files r asked.proper asked.table in
      record {
        paths = paths;
        sides_are = found;
        all = rows_all;
        things_are = saved.listed_just r asked.good asked.table;
        names_are = lost;
        has = all_had (naming r) t a paths (thing_paths things) sides names asked.table.order found lost (λ p. refl);
      }

  bare : (q : List ℕ) → is_below records_name q ≡ true → r.new.at q ≡ None
  bare q b = folder.none_new q (or_left _ _ b)

  module _ (above : IsMarkedAbove ways.above (folder_paths root (thing_paths things) ++ names_of names)) (standing : IsStandingAbove t root (bytes_if_any ways.standing)) where
    pub is_aside : IsAside (naming r) t a
    is_aside = record {
      no_root = at_root.free;
      is_emptied = (known.settles r asked.good asked.table).emptied;
      ways_only = λ q h. only_ways (naming r) t a (thing_paths things) sides names are ways above standing formed at_root.free q h;
      ways_all = λ q b dir side. all_ways (naming r) t a (thing_paths things) sides names are ways above standing formed at_root.free bare under folder.stands q b dir side;
      names = λ p side at gone. names_defined (naming r) t a (thing_paths things) sides names are bare under p side at gone;
    }

    -- where nothing is saved there is nothing that account files and records should leave alone
    unsaved : SavesNothing (naming r) t → (q : List ℕ) → is_some (saved_at (naming r) t a q) ≡ true → ⊥
    unsaved none q s = go (sent_or_way (naming r) t a q s)
      where
        sent : (q : List ℕ) → GoesTo (naming r) t a q → ⊥
        sent q (Salvage p h) = clash (salvaged (naming r) t p) h (none.unsalvaged p)
        sent q (Beside p side at) = clash (is_some (side_at (naming r) t p)) (ap is_some at) (ap is_some (none.unsided p))

        go : GoesTo (naming r) t a q ⊎ (a.ways q ≡ true) → ⊥
        go (inl g) = sent q g
        go (inr w) = let x = (is_aside.ways_only q w).0 in sent x.at x.goes

    own_where : LeavesSalvage r.over ⊎ SavesNothing (naming r) t → IsOwn (naming r) t a
    own_where (inl leaves) = own_of moment (naming r) t a named formed folder.stands folder.wanted folder.none_old folder.none_new leaves at_root is_aside
    own_where (inr none) = record {
      stands = folder.stands;
      wanted = folder.wanted;
      none_new = bare;
      none_old = λ q b. folder.none_old q (or_left _ _ b);
      inside = under;
      apart = λ q s. absurd (unsaved none q s);
      above = λ p q s up down. absurd (unsaved none p s);
    }

    pub own : IsOwn (naming r) t a
    own = own_where folder.leaves

    pub hindered : (p : Kept) → IsFirstPath (is_unmovable (naming r) t a) (Some p) → IsHindered moment r t p.bytes
    hindered p h = record { aside = a; is_root = at_root; is_aside = is_aside; first = record { there = h.0; first = h.1 } }

    module _ (none : (p : List ℕ) → is_unmovable (naming r) t a p ≡ false) (can : AllByRecursion (CanMove root) things) where
      pub are_found : AreFound r t a table settled things sides names ways
      are_found = record {
        settles = known.settles r asked.good asked.table;
        found = saved.found;
        are = are;
        ways_are = λ q. refl;
        short = λ p. (or_parts _ _ (or_parts _ _ (none p)).1).1;
        bare = bare;
        under = under;
      }

      targets : HasSalvagedBytes (naming r) t
      targets q g s at = link_bytes t root things q g saved.found can (saved.listed_just r asked.good asked.table q ∙ s) at

      pub has_steps : (e : Emitted) (adds : AddsAll r t a table settled e) → IsPath root → map step_of e.steps.items ≡ saving_steps (naming r) t a adds.asides → map (staged_bytes r.bytes t) e.staged.items ≡ saving_contents (naming r) t a adds.asides
          → HasSteps moment r t e
      has_steps e adds path steps contents = record {
        plan = record {
          aside = a;
          asides = adds.asides;
          is_root = at_root;
          root_path = path;
          is_aside = is_aside;
          are_asides = adds.are_asides;
          none_unmovable = none;
          targets = targets;
          steps_are = steps;
          contents_are = contents;
        };
        own = own;
        standing = staged_stand t (naming r) e.staged.items adds.sources.saved adds.sources.laid (adds.steps.provenances_are ∙ adds.sources.are) adds.sources.copied adds.sources.uncopied;
        sources = subst (HasSources r t a adds.asides) (sym adds.steps.provenances_are) adds.sources;
      }
