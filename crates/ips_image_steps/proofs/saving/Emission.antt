-- The steps of what is saved, path by path.
use Rattle.std.proofs.Common.{◌≡◌, ℕ, Bool, true, false, cond, ◌||◌, List, [], ◌∷◌, ◌++◌, map, Option, Some, None, is_some, Vec, Global, nat_cmp, refl, sym, ◌∙◌, ap, subst, append_assoc}
use Rattle.std.specs.Prelude.{Result, Ok, Err, OnOk}
use Rattle.std.specs.Borrow.{Bor}
use Rattle.std.specs.BTreeMap.{BTreeMap}
use Rattle.std.specs.Map.{lookup}
use Rattle.std.specs.Map.Iter.{deref_pair}
use Rattle.std.specs.List.{AllByRecursion}
use Rattle.std.specs.List.Sorted.{IsStrictlySortedBy}
use Rattle.std.specs.Option.{option_map}
use Rattle.std.specs.Ordering.{is_eq}
use Rattle.std.specs.declared.cmp.Ordering.TheVariants.{Less}
use Rattle.std.specs.Cmp.Lexicographic.{slice_cmp}
use Rattle.std.proofs.lemmas.Bool.{or_left, or_right}
use Rattle.std.proofs.lemmas.List.{flat_map_more, map-append}
use Rattle.ips_text.specs.Ancestry.{is_below, same_path}
use Rattle.ips_text.proofs.Ancestry.{same_path-self}
use Rattle.ips_action.specs.Attrs.{is_same}
use Rattle.ips_conflict.proofs.Kept.{found_at}
use Rattle.ips_outside.specs.Image.{Entry, Image}
use Rattle.ips_steps.specs.Private.{records_name}
use Rattle.ips_after.specs.After.{change_after}
use Rattle.ips_after.specs.Change.{Change, Kept, Laid}
use Rattle.ips_after.specs.Extra.{extra_or}
use Rattle.ips_after.specs.Lists.{listed}
use Rattle.ips_after.specs.Request.{IsRequest, Request}
use Rattle.ips_after.specs.Salvage.{Aside, change_saving, has_long_side, saved, side_at}
use Rattle.ips_change.specs.Told.{naming}
use Rattle.ips_found.specs.Found.{AreThings, thing_paths}
use Rattle.ips_found.specs.declared.found.Thing.{Thing}
use Rattle.ips_aside.specs.declared.sides.side.Side.{Side}
use Rattle.ips_aside.specs.declared.lost.LostName.{LostName}
use Rattle.ips_aside.specs.declared.ways.Ways.{Ways}
use Rattle.ips_aside.specs.Lost.{AreNamesOf}
use Rattle.ips_aside.specs.Ways.{is_way}
use Rattle.ips_emit.specs.declared.emitting.Emitted.{Emitted}
use Rattle.ips_emit.specs.Emitted.{IsEmitted, Provenance, Turn}
use Rattle.ips_image_steps.specs.draft.Drafting.{turns_saving}
use Rattle.ips_image_steps.specs.declared.saving.saved.Saved.{Saved as Told}
use Rattle.ips_image_steps.specs.saving.Saving.{AddsSaved, IsSavedFrom, Saved, all_placed, entry_saved, last_at, provenances_at, provenances_if, provenances_saved, saved_at, saved_paths, saved_told, turns_at}
use Rattle.ips_image_steps.proofs.saving.Gathered.{same_as, saved_last, sources_last}
use Rattle.ips_image_steps.proofs.saving.Last.{all_flat, each_always}

-- a map by paths
abbrev pub Saveds : Type 0
Saveds = BTreeMap (Vec ℕ Global) Told

-- ---- the entries that are gone through

-- the paths of entries that were yielded
abbrev pub paths_through : List (Bor (Vec ℕ Global) × Bor Told) → List (List ℕ)
paths_through yielded = map (λ y. y.0.now.items) yielded

pub through_all : (yielded : List (Bor (Vec ℕ Global) × Bor Told)) → paths_through yielded ≡ map (λ e. e.0.items) (map deref_pair yielded)
through_all [] = refl
through_all (y ∷ yielded) = ap (λ (l : List (List ℕ)). y.0.now.items ∷ l) (through_all yielded)

-- what is found by the order of bytes is what is under the path
pub found_there : (saved : Saveds) (k : Vec ℕ Global) (what : Told) → lookup (λ (j : Vec ℕ Global). is_eq (slice_cmp nat_cmp k.items j.items)) saved.entries ≡ Some what → saved_at saved k.items ≡ Some (saved_told what)
found_there saved k what is = ap (option_map saved_told) (sym (found_at k.items saved.entries) ∙ is)

-- the order of entries is that of their paths
pub keys_order : (es : List (Vec ℕ Global × Told)) → IsStrictlySortedBy (λ (a b : Vec ℕ Global). slice_cmp nat_cmp a.items b.items) (map (λ e. e.0) es) → IsStrictlySortedBy (slice_cmp nat_cmp) (map (λ e. e.0.items) es)
unfolding IsStrictlySortedBy
keys_order [] up = tt
keys_order (e ∷ es) up = (all_less e es up.0, keys_order es up.1)
  where
    all_less : (e : Vec ℕ Global × Told) (es : List (Vec ℕ Global × Told)) → AllByRecursion (λ (y : Vec ℕ Global). slice_cmp nat_cmp e.0.items y.items ≡ Less) (map (λ x. x.0) es) → AllByRecursion (λ (y : List ℕ). slice_cmp nat_cmp e.0.items y ≡ Less) (map (λ x. x.0.items) es)
    all_less e [] all = tt
    all_less e (x ∷ es) all = (all.0, all_less e es all.1)

pub emitted_more : (bytes : List ℕ → List ℕ) (t : Image) (saved : Saveds) (turns : List Turn) (provenances : List Provenance) (paths : List (List ℕ)) (p : List ℕ) (what : Saved) (e : Emitted) → saved_at saved p ≡ Some what
    → IsEmitted bytes t ((turns ++ turns_at bytes t saved paths) ++ (p, Laid (entry_saved bytes t what)) ∷ []) ((provenances ++ provenances_at saved paths) ++ provenances_saved what) e
    → IsEmitted bytes t (turns ++ turns_at bytes t saved (paths ++ p ∷ [])) (provenances ++ provenances_at saved (paths ++ p ∷ [])) e
emitted_more bytes t saved turns provenances paths p what e is emitted =
    let turn : List ℕ → Turn = λ q. (q, extra_or (option_map (entry_saved bytes t) (saved_at saved q)) Kept) in
    let froms : List ℕ → List Provenance = λ q. provenances_if (saved_at saved q) in
    let more : (turns ++ turns_at bytes t saved paths) ++ (p, Laid (entry_saved bytes t what)) ∷ [] ≡ turns ++ turns_at bytes t saved (paths ++ p ∷ []) =
    append_assoc turns (turns_at bytes t saved paths) ((p, Laid (entry_saved bytes t what)) ∷ [])
    ∙ ap (λ (o : Option Saved). turns ++ (turns_at bytes t saved paths ++ (p, extra_or (option_map (entry_saved bytes t) o) Kept) ∷ [])) (sym is)
    ∙ ap (λ (l : List Turn). turns ++ l) (sym (map-append turn paths (p ∷ []))) in
    let from : (provenances ++ provenances_at saved paths) ++ provenances_saved what ≡ provenances ++ provenances_at saved (paths ++ p ∷ []) =
    ap (λ (o : Option Saved). (provenances ++ provenances_at saved paths) ++ provenances_if o) (sym is) ∙ flat_map_more froms provenances paths p in
    subst (λ (l : List Provenance). IsEmitted bytes t (turns ++ turns_at bytes t saved (paths ++ p ∷ [])) l e) from
    (subst (λ (l : List Turn). IsEmitted bytes t l ((provenances ++ provenances_at saved paths) ++ provenances_saved what) e) more emitted)

-- ---- all that is saved

-- something is under a path just where it is one of the map's
keys_listed : (es : List (Vec ℕ Global × Told)) (q : List ℕ) → is_some (option_map saved_told (lookup (λ k. is_same q k.items) es)) ≡ listed (map (λ e. e.0.items) es) q
keys_listed [] q = refl
keys_listed (e ∷ es) q = go (is_same q e.0.items) (same_as q e.0.items) (keys_listed es q)
  where
    go : (b : Bool) → b ≡ same_path e.0.items q → is_some (option_map saved_told (lookup (λ k. is_same q k.items) es)) ≡ listed (map (λ x. x.0.items) es) q
        → is_some (option_map saved_told (cond b (Some e.1) (lookup (λ k. is_same q k.items) es))) ≡ (same_path e.0.items q || listed (map (λ x. x.0.items) es) q)
    go true is rest = ap (λ (b : Bool). b || listed (map (λ x. x.0.items) es) q) is
    go false is rest = rest ∙ ap (λ (b : Bool). b || listed (map (λ x. x.0.items) es) q) is

map_alike : (f g : List ℕ → Turn) (paths : List (List ℕ)) → ((q : List ℕ) → listed paths q ≡ true → f q ≡ g q) → map f paths ≡ map g paths
map_alike f g [] same = refl
map_alike f g (p ∷ paths) same =
    ap (λ (x : Turn). x ∷ map f paths) (same p (or_left _ _ (same_path-self p)))
    ∙ ap (λ (l : List Turn). g p ∷ l) (map_alike f g paths (λ q l. same q (or_right (same_path p q) _ l)))

extra_alike : (o : Option Entry) (c d : Change) → is_some o ≡ true → extra_or o c ≡ extra_or o d
extra_alike (Some e) c d some = refl
extra_alike None c d some = cc

some_mapped : (bytes : List ℕ → List ℕ) (t : Image) (o : Option Saved) → is_some (option_map (entry_saved bytes t) o) ≡ is_some o
some_mapped bytes t (Some what) = refl
some_mapped bytes t None = refl

-- where just what is saved is under the map's paths, its steps are those of what is saved
pub adds_saved : (r : Request) (t : Image) (a : Aside) (map_saved : Saveds) (turns : List Turn) (provenances : List Provenance) (new : Emitted) → IsStrictlySortedBy (slice_cmp nat_cmp) (saved_paths map_saved)
    → ((q : List ℕ) → option_map (entry_saved r.bytes t) (saved_at map_saved q) ≡ saved (naming r) t a q)
    → ((q : List ℕ) (what : Saved) → saved_at map_saved q ≡ Some what → AllByRecursion (IsSavedFrom (naming r) t) (provenances_saved what))
    → IsEmitted r.bytes t (turns ++ turns_at r.bytes t map_saved (saved_paths map_saved)) (provenances ++ provenances_at map_saved (saved_paths map_saved)) new → AddsSaved r t a turns provenances new
adds_saved r t a m turns provenances new sorted is sources emitted = record {
  asides = paths;
  are = record { all = all_paths; by_bytes = sorted };
  more = provenances_at m paths;
  steps = subst (λ (l : List Turn). IsEmitted r.bytes t (turns ++ l) (provenances ++ provenances_at m paths) new) same_turns emitted;
  sources = all_flat (IsSavedFrom (naming r) t) (λ q. provenances_if (saved_at m q)) paths (each_always (λ q. AllByRecursion (IsSavedFrom (naming r) t) (provenances_if (saved_at m q))) paths (λ q. from q (saved_at m q) refl));
}
  where
    paths : List (List ℕ)
    paths = saved_paths m

    all_paths : (q : List ℕ) → is_some (saved (naming r) t a q) ≡ listed paths q
    all_paths q = ap is_some (sym (is q)) ∙ some_mapped r.bytes t (saved_at m q) ∙ keys_listed m.entries q

    turn : (q : List ℕ) → listed paths q ≡ true → extra_or (option_map (entry_saved r.bytes t) (saved_at m q)) Kept ≡ change_saving (naming r) t a q
    turn q there = ap (λ (o : Option Entry). extra_or o Kept) (is q) ∙ extra_alike (saved (naming r) t a q) Kept (change_after (naming r) t a.emptied q) (all_paths q ∙ there)

    same_turns : turns_at r.bytes t m paths ≡ turns_saving r t a paths
    same_turns = map_alike (λ q. (q, extra_or (option_map (entry_saved r.bytes t) (saved_at m q)) Kept)) (λ q. (q, change_saving (naming r) t a q)) paths (λ q there. ap (λ (c : Change). (q, c)) (turn q there))

    from : (q : List ℕ) (o : Option Saved) → saved_at m q ≡ o → AllByRecursion (IsSavedFrom (naming r) t) (provenances_if o)
    from q (Some what) at = sources q what at
    from q None at = tt

-- what holds behind a call that succeeded, by two clauses
pub both_ok : {T E P Q R : Type 0} (result : Result T E) → (P → Q → R) → OnOk result P → OnOk result Q → OnOk result R
both_ok (Ok x) join p q = join p q
both_ok (Err e) join p q = tt

-- the steps of what was placed are those of what is saved
pub added : (r : Request) (t : Image) (a : Aside) (root : List ℕ) (things : List Thing) (sides : List Side) (names : List LostName) (ways : Ways) (m : Saveds) (turns : List Turn) (provenances : List Provenance) (new : Emitted)
    → IsRequest r → ((q : List ℕ) → is_below records_name q ≡ true → r.new.at q ≡ None) → a.root ≡ root → is_below records_name a.root ≡ true
    → AreThings t things → AreNamesOf (naming r) t a (thing_paths things) sides names → ((q : List ℕ) → a.ways q ≡ is_way ways q) → ((p : List ℕ) → has_long_side (naming r) t a p (side_at (naming r) t p) ≡ false)
    → ((q : List ℕ) → saved_at m q ≡ last_at (all_placed root things sides names ways) q None) → IsStrictlySortedBy (slice_cmp nat_cmp) (saved_paths m)
    → IsEmitted r.bytes t (turns ++ turns_at r.bytes t m (saved_paths m)) (provenances ++ provenances_at m (saved_paths m)) new → AddsSaved r t a turns provenances new
added r t a root things sides names ways m turns provenances new good bare is_root under found are same short filled order emitted =
    adds_saved r t a m turns provenances new order
    (λ q. ap (option_map (entry_saved r.bytes t)) (last q) ∙ saved_last (naming r) t a things sides names ways found are good.new_want bare under short same q)
    (λ q what is. sources_last (naming r) t a things sides names ways found are good.new_want bare under short q what (sym (last q) ∙ is)) emitted
  where
    last : (q : List ℕ) → saved_at m q ≡ last_at (all_placed a.root things sides names ways) q None
    last q = filled q ∙ ap (λ (x : List ℕ). last_at (all_placed x things sides names ways) q None) (sym is_root)
