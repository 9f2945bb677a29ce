-- The image's own paths behind a request, with what is saved.
use Rattle.std.proofs.Common.{◌≡◌, ◌⊎◌, ℕ, Bool, true, false, ◌&&◌, ◌||◌, ◌++◌, List, Option, Some, None, is_some, is_none, refl, sym, ◌∙◌, ap, inl, inr, arith}
use Rattle.std.proofs.lemmas.Bool.{and_parts, cases_Bool, or_cases, false_from_ne_true}
use Rattle.ips_text.specs.Ancestry.{same_path, covers, is_below}
use Rattle.ips_text.proofs.Ancestry.{covers-self, covers_trans, same_path-true}
use Rattle.ips_outside.specs.Image.{Dir, Entry, File, Image, IsImage, Link, Other, file_bytes, is_dir, with_mode}
use Rattle.ips_steps.specs.Private.{records_name}
use Rattle.ips_steps.proofs.Lists.{clash}
use Rattle.ips_state.specs.Records.{image_path}
use Rattle.ips_after.specs.After.{change_after, is_stated, is_support, is_taken, is_top, ranks, unstated}
use Rattle.ips_after.specs.Change.{Changes, Kept, Laid, Removed, cleared, replaces}
use Rattle.ips_after.specs.Extra.{extra_or}
use Rattle.ips_after.specs.Lists.{listed}
use Rattle.ips_after.specs.Request.{IsRequest, Request, Wanted, is_dir_wanted, lays}
use Rattle.ips_after.specs.Salvage.{Aside, IsAside, IsOwn, change_saving, depth, image_saving, lost_front, root_name, saved}
use Rattle.ips_after.proofs.Changed.{reach_of, reached_from}
use Rattle.ips_after.proofs.Fits.{Alone, Away, Fate, Set, Spare, Spares, below_covers, below_of, below_trans, change_over, dir_left, dir_of_wanted, exists_dir, fate, given_but, spare_for, spares}
use Rattle.ips_after.proofs.Names.{beside_out, depth_below}
use Rattle.ips_after.proofs.Places.{below_off, root_rest}
use Rattle.ips_after.proofs.Saved.{Near, Place, Under, comparable, free_names, goes_or_way, place_of, way_own}
use Rattle.ips_due.specs.Apart.{lost_path}
use Rattle.ips_outside.proofs.Looks.{none_or}

-- a mode makes nothing of nothing
no_mode : (e : Option Entry) → with_mode 0 e ≡ None → e ≡ None
no_mode (Some (Dir m f)) h = cc
no_mode (Some (File m b)) h = cc
no_mode (Some (Link g)) h = cc
no_mode (Some Other) h = cc
no_mode None h = refl

wanted_there : (w : Option Wanted) → is_dir_wanted w ≡ true → is_none w ≡ true → ⊥
wanted_there (Some w) a b = cc
wanted_there None a b = cc

none_stated : (a d : Bool) (o : Option Wanted) → o ≡ None → (a && (d && is_stated o)) ≡ true → ⊥
none_stated true true o e h = clash (is_stated o) h (ap is_stated e)
none_stated true false o e h = cc
none_stated false d o e h = cc

-- a path at or above the folder of all salvage folders, below that of the records, is that folder
at_lost : (q : List ℕ) → is_below records_name q ≡ true → covers q lost_path ≡ true → covers lost_path q ≡ true
unfolding records_name
at_lost q down up = elim (cases_Bool (same_path q lost_path)) [
  | inl same ↦ ap (covers lost_path) (same_path-true q lost_path same) ∙ covers-self lost_path
  | inr apart ↦
      let one = depth_below records_name q down in
      let two = depth_below q lost_path (below_of q lost_path up apart) in
      let three : depth records_name ≡ 1 = refl in
      let four : depth lost_path ≡ 2 = refl in
      absurd (omega (arith, one, two, three, four))
]

-- a path above one of the image's own is at or above the folder of the records, or the image's own
up_or_own : (z q : List ℕ) → covers z q ≡ true → is_below records_name q ≡ true → (covers z records_name ≡ true) ⊎ (is_below records_name z ≡ true)
up_or_own z q over deep = elim (comparable z records_name q over (below_covers records_name q deep)) [
  | inl up ↦ inl up
  | inr down ↦ elim (cases_Bool (same_path records_name z)) [
    | inl same ↦ inl (ap (λ (x : List ℕ). covers x records_name) (sym (same_path-true records_name z same)) ∙ covers-self records_name)
    | inr apart ↦ inr (below_of records_name z down apart)
  ]
]

front_lost : (z : List ℕ) → covers lost_path (lost_front ++ z) ≡ true
front_lost z = refl

-- the salvage folder lies in that of all
pub root_lost : (text root : List ℕ) (times : ℕ) → root ≡ root_name text times → covers lost_path root ≡ true
root_lost text root times is = let b = root_rest text times in ap (covers lost_path) (is ∙ b.is) ∙ front_lost b.rest

pub bytes_there : (e : Option Entry) (b : List ℕ) → file_bytes e ≡ Some b → is_none e ≡ false
bytes_there (Some x) b h = refl
bytes_there None b h = cc

-- where the file `image` stands the folder of the records does
pub folder_stands : (t : Image) (b : List ℕ) → IsImage t → file_bytes (t.look image_path) ≡ Some b → is_dir (t.look records_name) ≡ true
unfolding records_name
folder_stands t b formed file = ap (λ (x : Bool). x || is_dir (t.look records_name)) (sym (bytes_there (t.look image_path) b file)) ∙ formed.below_dirs records_name image_path refl refl

module _ (r : Request) (t : Image) (a : Aside) (good : IsRequest r) (formed : IsImage t) (own : IsOwn r t a) (is : IsAside r t a) (lost : covers lost_path a.root ≡ true) where
  gone : Spares r t a.emptied
  gone = spares r t a.emptied is.is_emptied

  abbrev base : Changes
  base = change_after r t a.emptied

  abbrev full : Changes
  full = change_saving r t a

  abbrev u : Image
  u = image_saving r t a

  alike : (q : List ℕ) → saved r t a q ≡ None → full q ≡ base q
  alike q none = ap (λ (o : Option Entry). extra_or o (base q)) none

  -- ---- where nothing is saved

  lost_place : (q : List ℕ) → is_below records_name q ≡ true → Place r t a good formed own is q → covers lost_path q ≡ true
  lost_place q deep (Under b) = covers_trans lost_path a.root q lost (below_covers a.root q b)
  lost_place q deep (Near p side at free name) = absurd (beside_out r t a.root own.none_new own.inside p side at (ap (is_below records_name) name ∙ deep))

  lost_way : (q : List ℕ) → is_below records_name q ≡ true → (covers q a.root ≡ true) ⊎ (covers a.root q ≡ true) → covers lost_path q ≡ true
  lost_way q deep (inl up) = elim (comparable q lost_path a.root up lost) [
    | inl c ↦ at_lost q deep c
    | inr c ↦ c
  ]
  lost_way q deep (inr down) = covers_trans lost_path a.root q lost down

  unsaved : (q : List ℕ) → is_below records_name q ≡ true → covers lost_path q ≡ false → saved r t a q ≡ None
  unsaved q deep off = none_or (saved r t a q) (λ s. elim (goes_or_way r t a good formed own is q s) [
    | inl g ↦ clash (covers lost_path q) (lost_place q deep (place_of r t a good formed own is q g)) off
    | inr w ↦ clash (covers lost_path q) (lost_way q deep (or_cases (covers q a.root) (covers a.root q) (is.ways_only q w).2)) off
  ])

  wanted_up : (q : List ℕ) → covers q records_name ≡ true → is_dir_wanted (r.new.at q) ≡ true
  wanted_up q over = elim (cases_Bool (same_path q records_name)) [
    | inl same ↦ ap (λ (x : List ℕ). is_dir_wanted (r.new.at x)) (same_path-true q records_name same) ∙ own.wanted
    | inr apart ↦ good.new_want.dirs q records_name (below_of q records_name over apart) (dir_of_wanted (r.new.at records_name) own.wanted)
  ]

  stands_up : (q : List ℕ) → covers q records_name ≡ true → is_dir (t.look q) ≡ true
  stands_up q over = elim (cases_Bool (same_path q records_name)) [
    | inl same ↦ ap (λ (x : List ℕ). is_dir (t.look x)) (same_path-true q records_name same) ∙ own.stands
    | inr apart ↦ ap (λ (b : Bool). b || is_dir (t.look q)) (sym (exists_dir t records_name own.stands)) ∙ formed.below_dirs q records_name over apart
  ]

  no_place_up : (q : List ℕ) → covers q records_name ≡ true → Place r t a good formed own is q → ⊥
  no_place_up q over (Under b) = clash (covers q records_name) over (below_off q (below_trans records_name a.root q own.inside b))
  no_place_up q over (Near p side at free name) =
      let none = (free_names (r.old.at (p ++ side.suffix)) (r.new.at (p ++ side.suffix)) (t.look (p ++ side.suffix)) free).1 in
      clash (is_dir_wanted (r.new.at q)) (wanted_up q over) (ap (λ (x : List ℕ). is_dir_wanted (r.new.at x)) (sym name) ∙ ap is_dir_wanted none)

  unsaved_up : (q : List ℕ) → covers q records_name ≡ true → saved r t a q ≡ None
  unsaved_up q over = none_or (saved r t a q) (λ s. elim (goes_or_way r t a good formed own is q s) [
    | inl g ↦ absurd (no_place_up q over (place_of r t a good formed own is q g))
    | inr w ↦ clash (covers q records_name) over (below_off q (way_own r t a good formed own is q w))
  ])

  -- ---- what becomes of a path

  -- what account files and records lay is laid
  full_laid : (q : List ℕ) (e : Entry) → r.over.at q ≡ Some (Some e) → full q ≡ Laid e
  full_laid q e at =
      let none = none_or (saved r t a q) (λ s. clash (listed r.over.keys q) (good.over_fits.keyed q (ap is_some at)) (own.apart q s)) in
      alike q none ∙ change_over r t a.emptied good formed gone q e at

  pub laid : (q : List ℕ) (e : Entry) → r.over.at q ≡ Some (Some e) → u.look q ≡ Some e
  laid q e at =
      let change = full_laid q e at in
      rw (change, reached_from (λ p. replaces (full p)) q q (covers-self q) (ap replaces change), change) refl

  -- one of the image's own of which they don't speak, and for which nothing is made, is kept
  kept : (q : List ℕ) → is_below records_name q ≡ true → covers lost_path q ≡ false → r.over.at q ≡ None → is_support r t q ≡ false → full q ≡ Kept
  kept q deep off silent unmade = alike q (unsaved q deep off) ∙ go (fate r t a.emptied good formed gone q (own.none_new q deep))
    where
      go : Fate r t a.emptied q → base q ≡ Kept
      go (Set e at is) = clash (is_some (r.over.at q)) (ap is_some at) (ap is_some silent)
      go (Away at is) = clash (is_some (r.over.at q)) (ap is_some at) (ap is_some silent)
      go (Spare at sup is) = clash (is_support r t q) sup unmade
      go (Alone at sup is) =
          let still : a.emptied q ≡ false = false_from_ne_true _ (λ e. clash (unstated (r.old.at q)) (and_parts (unstated (r.old.at q)) _ (gone.may q e)).0 (ap unstated (own.none_old q deep))) in
          is ∙ rw (still, own.none_old q deep) refl

  -- one that they take away goes
  away : (q : List ℕ) → is_below records_name q ≡ true → covers lost_path q ≡ false → r.over.at q ≡ Some None → full q ≡ Removed
  away q deep off at = alike q (unsaved q deep off) ∙ go (fate r t a.emptied good formed gone q (own.none_new q deep))
    where
      go : Fate r t a.emptied q → base q ≡ Removed
      go (Set e other is) = let bad : Some None ≡ Some (Some e) = sym at ∙ other in absurd cc
      go (Away other is) = is
      go (Spare other sup is) = clash (is_some (r.over.at q)) (ap is_some at) (ap is_some other)
      go (Alone other sup is) = clash (is_some (r.over.at q)) (ap is_some at) (ap is_some other)

  -- nothing is made below it
  pub unmade : (q : List ℕ) → is_below records_name q ≡ true → ((y : List ℕ) → is_below q y ≡ true → lays (r.over.at y) ≡ false) → is_support r t q ≡ false
  unmade q deep none = false_from_ne_true _ (λ sup. let y = spare_for r t a.emptied good formed gone q (own.none_new q deep) sup in clash (lays (r.over.at y.path)) y.laid (none y.path y.inside))

  -- ---- what stands and isn't spoken of stays

  -- no directory is taken above a path where they don't speak of what is above
  untaken : (q : List ℕ) → is_below records_name q ≡ true → ((x : List ℕ) → covers x q ≡ true → r.over.at x ≡ None) → is_taken r t q ≡ false
  untaken q deep silent = false_from_ne_true _ (λ h.
      let z = reach_of (λ x. is_top r t x || is_some (r.over.at x)) q h in
      elim (or_cases (is_top r t z.at) (is_some (r.over.at z.at)) z.holds) [
        | inl top ↦ absurd (elim (up_or_own z.at q z.over deep) [
          | inl up ↦ wanted_there (r.new.at z.at) (wanted_up z.at up) (and_parts (is_none (r.new.at z.at)) _ top).0
          | inr down ↦ none_stated (is_none (r.new.at z.at)) (is_dir (t.look z.at)) (r.old.at z.at) (own.none_old z.at down) top
        ])
        | inr said ↦ clash _ said (ap is_some (silent z.at z.over))
      ])

  -- for a directory that stands there none is made
  pub unmade_dir : (q : List ℕ) → is_below records_name q ≡ true → ((x : List ℕ) → covers x q ≡ true → r.over.at x ≡ None) → is_dir (t.look q) ≡ true → is_support r t q ≡ false
  unmade_dir q deep silent dir = rw (silent q (covers-self q), dir, untaken q deep silent) refl

  module _ (q : List ℕ) (deep : is_below records_name q ≡ true) (off : covers lost_path q ≡ false) (silent : (x : List ℕ) → covers x q ≡ true → r.over.at x ≡ None) (there : is_none (t.look q) ≡ false) (none_made : is_support r t q ≡ false) where
    off_above : (x : List ℕ) → covers x q ≡ true → covers lost_path x ≡ false
    off_above x over = false_from_ne_true _ (λ c. clash (covers lost_path q) (covers_trans lost_path x q c over) off)

    support_above : (x : List ℕ) → covers x q ≡ true → is_below records_name x ≡ true → is_support r t x ≡ false
    support_above x over down = elim (cases_Bool (same_path x q)) [
      | inl same ↦ ap (is_support r t) (same_path-true x q same) ∙ none_made
      | inr apart ↦ unmade_dir x down (λ z up. silent z (covers_trans z x q up over)) (ap (λ (b : Bool). b || is_dir (t.look x)) (sym there) ∙ formed.below_dirs x q over apart)
    ]

    still : (x : List ℕ) → covers x q ≡ true → replaces (full x) ≡ false
    still x over = elim (up_or_own x q over deep) [
      | inl up ↦ ap replaces (alike x (unsaved_up x up)) ∙ dir_left r t a.emptied good formed gone x (r.new.at x) refl (wanted_up x up) (stands_up x up)
      | inr down ↦ ap replaces (kept x down (off_above x over) (silent x over) (support_above x over down))
    ]

    not_cleared : cleared full q ≡ false
    not_cleared = false_from_ne_true _ (λ h. let z = reach_of (λ p. replaces (full p)) q h in clash _ z.holds (still z.at z.over))

    pub stays : with_mode 0 (u.look q) ≡ with_mode 0 (t.look q)
    stays = rw (kept q deep off (silent q (covers-self q)) none_made, not_cleared) (given_but full (ranks r) t q (t.look q))

  -- ---- what goes, or never stood

  -- nothing is left of what stood there: nothing did, it is taken away, or something is laid at a path above
  pub data Leaves_none (q : List ℕ) : Type 0 where
    Bare : r.over.at q ≡ None → t.look q ≡ None → Leaves_none q
    Taken : r.over.at q ≡ Some None → Leaves_none q
    Renewed : (p : List ℕ) (e : Entry) → r.over.at q ≡ None → covers p q ≡ true → r.over.at p ≡ Some (Some e) → Leaves_none q

  kept_none : (q : List ℕ) (b : Bool) → cleared full q ≡ b → full q ≡ Kept → (b ≡ false → t.look q ≡ None) → u.look q ≡ None
  kept_none q true clear change bare = rw (change, clear, change) refl
  kept_none q false clear change bare = rw (change, clear) (no_mode _ (given_but full (ranks r) t q (t.look q) ∙ ap (with_mode 0) (bare refl)))

  pub absent : (q : List ℕ) → is_below records_name q ≡ true → covers lost_path q ≡ false → ((y : List ℕ) → is_below q y ≡ true → lays (r.over.at y) ≡ false) → Leaves_none q → u.look q ≡ None
  absent q deep off none (Bare silent bare) = kept_none q (cleared full q) refl (kept q deep off silent (unmade q deep none)) (λ _. bare)
  absent q deep off none (Taken at) =
      let change = away q deep off at in
      rw (change, reached_from (λ p. replaces (full p)) q q (covers-self q) (ap replaces change), change) refl
  absent q deep off none (Renewed p e silent over at) =
      let clear : cleared full q ≡ true = reached_from (λ x. replaces (full x)) p q over (ap replaces (full_laid p e at)) in
      kept_none q true clear (kept q deep off silent (unmade q deep none)) (λ bad. cc)
