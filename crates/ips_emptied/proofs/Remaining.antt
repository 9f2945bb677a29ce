-- What is left before directories are emptied.
use Rattle.std.proofs.Common.{◌≡◌, ℕ, Bool, true, false, cond, not, ◌&&◌, ◌||◌, List, Option, Some, None, is_none, is_some, refl, sym, ◌∙◌, ap}
use Rattle.std.specs.List.{list_any}
use Rattle.std.specs.Option.{option_map}
use Rattle.std.proofs.lemmas.Bool.{and_parts, false_from_ne_true, or_from}
use Rattle.ips_text.specs.Ancestry.{covers, is_below}
use Rattle.ips_text.proofs.Ancestry.{covers-self}
use Rattle.ips_outside.specs.Image.{Dir, Entry, File, Image, IsImage, Link, Other, has_parent, is_dir, is_file, with_mode}
use Rattle.ips_steps.proofs.Lists.{clash}
use Rattle.ips_after.specs.After as after
use Rattle.ips_after.specs.Change.{Change, Changes, Given, IsFit, Joined, Kept, Laid, Removed, cleared, laid_entry, left, makes, replaces, can_be_laid, target, with_given}
use Rattle.ips_after.specs.Lists.{listed}
use Rattle.ips_after.specs.Request.{IsRequest, Request, Wanted, is_dir_wanted, lays}
use Rattle.ips_after.proofs.Changed.{reached_from}
use Rattle.ips_after.proofs.Fits.{Spares, any_of, fits_after, given_but, target_plain}
use Rattle.ips_change.specs.Told.{naming}
use Rattle.ips_change.specs.declared.survey.row.Row.{Row}
use Rattle.ips_change.specs.survey.Marks.{holds_below, row_paths}
use Rattle.ips_change.specs.declared.survey.said.Said.{Said}
use Rattle.ips_change.specs.survey.Said.{said_as}
use Rattle.ips_change.specs.survey.Tables.{IsTable}
use Rattle.ips_change.proofs.survey.Filling.{or_none}
use Rattle.ips_after.proofs.Unseen.{and_second}
use Rattle.ips_links.proofs.Linked.{IsBare, is_bare, is_silent}
use Rattle.ips_emptied.specs.Emptying.{is_candidate}
use Rattle.ips_emptied.specs.Settling.{makes_by, replaces_by}

some_moded : (e : Option Entry) → is_some (with_mode 0 e) ≡ is_some e
some_moded (Some (Dir m f)) = refl
some_moded (Some (File m b)) = refl
some_moded (Some (Link g)) = refl
some_moded (Some Other) = refl
some_moded None = refl

some_alike : (a b : Option Entry) → with_mode 0 a ≡ with_mode 0 b → is_some a ≡ is_some b
some_alike a b h = sym (some_moded a) ∙ ap is_some h ∙ some_moded b

module _ (r : Request) (t : Image) (good : IsRequest r) (formed : IsImage t) where
  abbrev settled : Changes
  settled = after.change_settled r t

  abbrev none : List ℕ → Bool
  none q = false

  spared : Spares r t none
  spared = record { may = λ q e. clash false e refl; held = λ q y e up l. clash false e refl }

  fit : IsFit (after.change_after r t none) (after.image_after r t none)
  fit = fits_after r t none good formed spared

  -- Before directories are emptied something is left at a path just where something is made there, or where something stands and nothing at or
  -- above the path goes or is replaced.
  pub settled_there : (x : List ℕ) → is_some ((after.image_settled r t).look x) ≡ (makes (settled x) || (not (cleared settled x) && is_some (t.look x)))
  settled_there x = at (settled x) refl
    where
      file_some : (e : Option Entry) → is_file e ≡ true → is_some e ≡ true
      file_some (Some x) h = refl
      file_some None h = cc

      given : Option Entry
      given = with_given settled (after.ranks r) t x (t.look x)

      stood : laid_entry (settled x) ≡ None → is_some (left settled (after.ranks r) t x) ≡ (not (cleared settled x) && is_some (t.look x))
      stood unlaid = go (cleared settled x)
        where
          go : (b : Bool) → is_some (cond b (laid_entry (settled x)) given) ≡ (not b && is_some (t.look x))
          go true = ap is_some unlaid
          go false = some_alike given (t.look x) (given_but settled (after.ranks r) t x (t.look x))

      at : (c : Change) → settled x ≡ c → is_some (left settled (after.ranks r) t (target (settled x) x)) ≡ (makes (settled x) || (not (cleared settled x) && is_some (t.look x)))
      at Kept is = rw is (stood (ap laid_entry is))
      at Removed is = rw is (stood (ap laid_entry is))
      at (Given m) is = rw is (stood (ap laid_entry is))
      at (Laid e) is = rw is
          (ap (λ (b : Bool). is_some (cond b (laid_entry (settled x)) given)) (reached_from (λ p. replaces (settled p)) x x (covers-self x) (ap replaces is))
          ∙ ap (λ (c : Change). is_some (laid_entry c)) is)
      at (Joined to) is =
          let u = after.image_after r t none in
          let both = and_parts (has_parent u x) _ (ap (λ (c : Change). can_be_laid c x u) (sym is) ∙ fit.stand x) in
          let file : is_file (u.look to) ≡ true = (and_parts (not (covers x to)) (is_file (u.look to)) both.1).1 in
          let there : is_file (left settled (after.ranks r) t to) ≡ true = ap (λ (y : List ℕ). is_file (left settled (after.ranks r) t y)) (sym (target_plain (settled to) to (fit.flat x to is))) ∙ file in
          rw is (file_some (left settled (after.ranks r) t to) there)

-- nothing becomes of a path without a row
pub settled_bare : (r : Request) (t : Image) (rows : List Row) (said : List (Option Said)) (q : List ℕ) → IsRequest r → IsTable r rows said → listed (row_paths rows) q ≡ false → after.change_settled (naming r) t q ≡ Kept
settled_bare r t rows said q good table apart =
    ap (λ (o : Option (Option Entry)). after.over_or o (after.supported (naming r) t q)) bare.over
    ∙ ap (after.supported_as (naming r) t q) bare.new
    ∙ ap (λ (b : Bool). cond b (Laid (Dir 493 false)) (after.linked (naming r) t q)) unsupported
    ∙ ap (after.linked_as (naming r) t q) bare.new
    ∙ ap (λ (o : Option Wanted). after.by_itself (naming r) (r.old.at q) o (t.look q)) bare.new
    ∙ ap (λ (o : Option Wanted). after.by_itself (naming r) o None (t.look q)) bare.old
  where
    bare : IsBare r q
    bare = is_bare r rows said q table apart

    wanted : list_any (λ x. is_below q x && makes (after.linked (naming r) t x)) r.new.keys ≡ true → ⊥
    wanted h =
        let x = any_of (λ y. is_below q y && makes (after.linked (naming r) t y)) r.new.keys h in
        let below = (and_parts (is_below q x.path) (makes (after.linked (naming r) t x.path)) x.holds).0 in
        clash (is_dir_wanted (r.new.at q)) (good.new_want.dirs q x.path below (good.new_want.keyed x.path ∙ x.in_list)) (ap is_dir_wanted bare.new)

    spoken : list_any (λ x. is_below q x && lays (r.over.at x)) r.over.keys ≡ true → ⊥
    spoken h =
        let x = any_of (λ y. is_below q y && lays (r.over.at y)) r.over.keys h in
        let below = (and_parts (is_below q x.path) (lays (r.over.at x.path)) x.holds).0 in
        let first = or_none (is_some (r.old.at q)) (is_some (r.new.at q) || listed r.over.keys q) (sym (table.covers q) ∙ apart) in
        let second = or_none (is_some (r.new.at q)) (listed r.over.keys q) first.0 in
        clash (listed r.over.keys q) (good.over_fits.closed q x.path below x.in_list) second.0

    unsupported : after.is_support (naming r) t q ≡ false
    unsupported = and_second (is_none (r.over.at q)) (not (is_dir (t.look q)) || after.is_taken (naming r) t q) _ (or_from _ _ (false_from_ne_true _ wanted) (false_from_ne_true _ spoken))

-- ---- row by row

-- a test of what settles a path, by what is said of it and what becomes of it without
pub settled_here : (f : Change → Bool) (g : Option Said → Change → Bool) → ((o : Option (Option Entry)) (c : Change) → g (said_as o) c ≡ f (after.over_or o c)) → (r : Request) (t : Image) (p : List ℕ) (said : Option Said) (c : Change)
    → said ≡ said_as (r.over.at p) → c ≡ after.supported (naming r) t p → g said c ≡ f (after.change_settled (naming r) t p)
settled_here f g same r t p said c are is =
    ap (λ (s : Option Said). g s c) are ∙ ap (g (said_as (r.over.at p))) is ∙ same (r.over.at p) (after.supported (naming r) t p)

pub replaces_same : (o : Option (Option Entry)) (c : Change) → replaces_by (said_as o) c ≡ replaces (after.over_or o c)
replaces_same None c = refl
replaces_same (Some None) c = refl
replaces_same (Some (Some e)) c = refl

pub makes_same : (o : Option (Option Entry)) (c : Change) → makes_by (said_as o) c ≡ makes (after.over_or o c)
makes_same None c = refl
makes_same (Some None) c = refl
makes_same (Some (Some e)) c = refl

pub candidate_here : (r : Request) (t : Image) (paths : List (List ℕ)) (p : List ℕ) (old : Option Wanted) (none : Bool) (said : Option Said) (support below : Bool) → old ≡ r.old.at p → none ≡ is_none (r.new.at p) → said ≡ said_as (r.over.at p) → support ≡ after.is_support (naming r) t p
    → below ≡ holds_below (λ q. makes (after.change_settled (naming r) t q)) paths p
    → (after.unstated old && (none && (is_none said && (not support && not below)))) ≡ is_candidate (naming r) t paths p
candidate_here r t paths p old none said support below at by are held made =
    ap (λ (o : Option Wanted). after.unstated o && (none && (is_none said && (not support && not below)))) at
    ∙ ap (λ (b : Bool). after.unstated (r.old.at p) && (b && (is_none said && (not support && not below)))) by
    ∙ ap (λ (b : Bool). after.unstated (r.old.at p) && (is_none (r.new.at p) && (b && (not support && not below)))) (ap is_none are ∙ is_silent (r.over.at p))
    ∙ ap (λ (b : Bool). after.unstated (r.old.at p) && (is_none (r.new.at p) && (is_none (r.over.at p) && (not b && not below)))) held
    ∙ ap (λ (b : Bool). after.unstated (r.old.at p) && (is_none (r.new.at p) && (is_none (r.over.at p) && (not (after.is_support (naming r) t p) && not b)))) made

pub mapped_none : {A B : Type 0} (f : A → B) (o : Option A) → is_none o ≡ is_none (option_map f o)
mapped_none f (Some x) = refl
mapped_none f None = refl
