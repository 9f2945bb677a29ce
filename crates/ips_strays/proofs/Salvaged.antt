-- What is salvaged without a row is what hangs below rows where something goes.
use Rattle.std.proofs.Common.{◌≡◌, ◌⊎◌, inl, inr, ℕ, zero, suc, ◌<◌, Bool, true, false, not, ◌&&◌, ◌||◌, List, Option, Some, None, length, is_some, refl, sym, ◌∙◌, ap, arith}
use Rattle.std.proofs.lemmas.Bool.{and_from, and_parts, cases_Bool, false_from_ne_true, not-true, not_from_false, or_cases, or_left, or_right}
use Rattle.ips_text.specs.Ancestry.{covers, is_below, parent, same_path}
use Rattle.ips_text.proofs.Ancestry.{at_parent_of, covers-self, covers_trans, parent_covers, parent_length, same_path-true}
use Rattle.ips_text.proofs.Truths.{or_false}
use Rattle.ips_outside.specs.Image.{Dir, Entry, File, Image, IsImage, Link, Other, is_dir}
use Rattle.ips_action.specs.declared.action.Preserve.{Preserve}
use Rattle.ips_action.specs.declared.action.Preserve.TheVariants as preserves
use Rattle.ips_after.specs.After as after
use Rattle.ips_after.specs.Change.{reached}
use Rattle.ips_after.specs.Lists.{listed}
use Rattle.ips_after.specs.Request.{IsRequest, Request, WantDir, WantFile, WantHard, WantLink, Wanted, takes}
use Rattle.ips_after.specs.Salvage as salvage
use Rattle.ips_after.proofs.Changed.{both_ways, reach_of, reached_from}
use Rattle.ips_after.proofs.Fits.{any_from, any_of, below_of, dir_of_wanted}
use Rattle.ips_after.proofs.Ordered.{above_parent}
use Rattle.ips_after.proofs.Saved.{comparable}
use Rattle.ips_steps.proofs.Lists.{clash}
use Rattle.ips_change.specs.Told.{naming}
use Rattle.ips_change.specs.wanted.Named.{is_payload_of}
use Rattle.ips_change.specs.declared.survey.row.Row.{Row}
use Rattle.ips_change.specs.survey.Marks.{IsMarkOf, row_paths}
use Rattle.ips_change.specs.declared.survey.said.Said.{Said}
use Rattle.ips_change.specs.survey.Tables.{IsTable}
use Rattle.ips_links.proofs.Linked.{is_bare}
use Rattle.ips_salvage.specs.Destroying.{destroys_else, goes_else}
use Rattle.ips_salvage.proofs.Salvageable.{salvaged_here, top_none}
use Rattle.ips_strays.specs.Strays.{branch, hangs, hangs_among, opens}
use Rattle.ips_strays.proofs.Branches.{below_child, branch_only, branch_over, branch_parent, dir_above}

-- ---- rows stand below rows alone

-- above a row there are rows alone
closed : (r : Request) (rows : List Row) (said : List (Option Said)) (c q : List ℕ) → IsRequest r → IsTable r rows said → covers c q ≡ true → listed (row_paths rows) q ≡ true → listed (row_paths rows) c ≡ true
closed r rows said c q good table over is = elim (cases_Bool (same_path c q)) [
  | inl same ↦ ap (listed (row_paths rows)) (same_path-true c q same) ∙ is
  | inr apart ↦ table.covers c ∙ go (below_of c q over apart) (or_cases _ _ (sym (table.covers q) ∙ is))
]
  where
    later : is_below c q ≡ true → (is_some (r.new.at q) ≡ true) ⊎ (listed r.over.keys q ≡ true) → (is_some (r.old.at c) || (is_some (r.new.at c) || listed r.over.keys c)) ≡ true
    later below (inl wanted) = or_right (is_some (r.old.at c)) _ (or_left _ _ (dir_of_wanted (r.new.at c) (good.new_want.dirs c q below wanted)))
    later below (inr spoken) = or_right (is_some (r.old.at c)) _ (or_right (is_some (r.new.at c)) _ (good.over_fits.closed c q below spoken))

    go : is_below c q ≡ true → (is_some (r.old.at q) ≡ true) ⊎ ((is_some (r.new.at q) || listed r.over.keys q) ≡ true) → (is_some (r.old.at c) || (is_some (r.new.at c) || listed r.over.keys c)) ≡ true
    go below (inl was) = or_left _ _ (dir_of_wanted (r.old.at c) (good.old_want.dirs c q below was))
    go below (inr more) = later below (or_cases _ _ more)

-- ---- the nearest row above a path without one

-- the nearest of the paths above another, at or below one of them
pub record Nearest (paths : List (List ℕ)) (x q : List ℕ) : Type 0 where
  pub path : List ℕ
  pub is : listed paths path ≡ true
  pub under : covers x path ≡ true
  pub hangs : hangs paths path q ≡ true

-- what is nearest to a directory without a row is nearest to what is in it
nearest_from : (paths : List (List ℕ)) (x q dir : List ℕ) → parent q ≡ Some dir → Nearest paths x dir → Nearest paths x q
nearest_from paths x q dir at rest =
    let parts = and_parts (is_below rest.path dir) (not (listed paths (branch rest.path dir))) rest.hangs in
    let child = branch rest.path dir in
    let up = branch_parent rest.path dir parts.0 in
    let wide = covers_trans child dir q (branch_over rest.path dir parts.0) (parent_covers q dir at) in
    record {
      path = rest.path;
      is = rest.is;
      under = rest.under;
      hangs = and_from _ _ (below_child rest.path child q up wide) (ap (λ (c : List ℕ). not (listed paths c)) (sym (branch_only rest.path child q up wide)) ∙ parts.1);
    }

pub nearest : (n : ℕ) (paths : List (List ℕ)) (x q : List ℕ) → length q < n → listed paths x ≡ true → listed paths q ≡ false → covers x q ≡ true → Nearest paths x q
nearest zero paths x q few is none over = absurd (omega (arith, few))
nearest (suc n) paths x q few is none over =
    let apart : same_path x q ≡ false = false_from_ne_true _ (λ same. clash (listed paths q) (ap (listed paths) (sym (same_path-true x q same)) ∙ is) none) in
    let at = at_parent_of x q over apart in
    elim (cases_Bool (listed paths at.dir)) [
      | inl row ↦ record {
        path = at.dir;
        is = row;
        under = at.up;
        hangs = and_from _ _ (above_parent at.dir q at.dir at.is (covers-self at.dir)) (not_from_false _ (ap (listed paths) (sym (branch_only at.dir q q at.is (covers-self q))) ∙ none));
      }
      | inr bare ↦ nearest_from paths x q at.dir at.is (nearest n paths x at.dir (omega (arith, parent_length q at.dir at.is, few)) is bare at.up)
    ]

-- ---- what is salvaged

-- a test that holds at rows alone holds at or above a row with something that hangs below it, where it does at or above that
row_reached : (paths : List (List ℕ)) (test : List ℕ → Bool) (p q : List ℕ) → ((x c : List ℕ) → covers x c ≡ true → listed paths c ≡ true → listed paths x ≡ true) → ((x : List ℕ) → listed paths x ≡ false → test x ≡ false) → hangs paths p q ≡ true → reached test q ≡ true → reached test p ≡ true
row_reached paths test p q whole alone hang h =
    let x = reach_of test q h in
    let parts = and_parts (is_below p q) (not (listed paths (branch p q))) hang in
    let c = branch p q in
    let up = branch_parent p q parts.0 in
    let bare : listed paths c ≡ false = not-true _ parts.1 in
    let row : listed paths x.at ≡ true = elim (cases_Bool (listed paths x.at)) [
      | inl row ↦ row
      | inr bare ↦ clash (test x.at) x.holds (alone x.at bare)
    ] in
    elim (comparable x.at c q x.over (branch_over p q parts.0)) [
      | inl over ↦
          let apart : same_path x.at c ≡ false = false_from_ne_true _ (λ same. clash (listed paths c) (ap (listed paths) (sym (same_path-true x.at c same)) ∙ row) bare) in
          let at = at_parent_of x.at c over apart in
          let dir : at.dir ≡ p = same_Some at.dir p (sym at.is ∙ up) in
          reached_from test x.at p (ap (covers x.at) (sym dir) ∙ at.up) x.holds
      | inr under ↦ clash (listed paths c) (whole c x.at under row) bare
    ]
  where
    same_Some : (a b : List ℕ) → Some a ≡ Some b → a ≡ b
    same_Some a b e = cc

-- a row at or above a path, at or above which a test holds
record RowAbove (paths : List (List ℕ)) (test : List ℕ → Bool) (q : List ℕ) : Type 0 where
  path : List ℕ
  here : reached test path ≡ true
  row : listed paths path ≡ true
  over : covers path q ≡ true

row_above : (paths : List (List ℕ)) (test : List ℕ → Bool) (q : List ℕ) → ((x : List ℕ) → listed paths x ≡ false → test x ≡ false) → reached test q ≡ true → RowAbove paths test q
row_above paths test q alone h =
    let x = reach_of test q h in
    record {
      path = x.at;
      here = reached_from test x.at x.at (covers-self x.at) x.holds;
      row = elim (cases_Bool (listed paths x.at)) [
        | inl row ↦ row
        | inr bare ↦ clash (test x.at) x.holds (alone x.at bare)
      ];
      over = x.over;
    }

-- what holds at or above a path does so at or above what is below it
lower : (test : List ℕ → Bool) (x p : List ℕ) → covers x p ≡ true → reached test x ≡ true → reached test p ≡ true
lower test x p over h = let y = reach_of test x h in reached_from test y.at p (covers_trans y.at x p y.over over) y.holds

-- an edit that goes is one of a file
no_edit : (r : Request) (was new : Option Wanted) (e : Option Entry) → is_dir e ≡ true → salvage.drops_edit_as r was new e ≡ false
no_edit r (Some (WantFile payload m preserve)) None (Some (Dir k f)) h = go preserve
  where
    go : (preserve : Preserve) → salvage.is_salvage (after.answer_gone r payload preserve (Some (Dir k f))) ≡ false
    go preserves.None = refl
    go preserves.True = refl
    go preserves.RenameOld = refl
    go preserves.RenameNew = refl
    go preserves.Legacy = refl
    go preserves.Abandon = refl
    go preserves.InstallOnly = refl
no_edit r (Some (WantFile payload m preserve)) None (Some (File k b)) h = cc
no_edit r (Some (WantFile payload m preserve)) None (Some (Link g)) h = cc
no_edit r (Some (WantFile payload m preserve)) None (Some Other) h = cc
no_edit r (Some (WantFile payload m preserve)) None None h = cc
no_edit r (Some (WantFile payload m preserve)) (Some w) e h = refl
no_edit r (Some (WantDir m)) new e h = refl
no_edit r (Some (WantLink target)) new e h = refl
no_edit r (Some (WantHard to)) new e h = refl
no_edit r None new e h = refl

module _ (r : Request) (t : Image) (rows : List Row) (said : List (Option Said)) (marks : List Bool) (good : IsRequest r) (table : IsTable r rows said) (formed : IsImage t) (marked : IsMarkOf (destroys_else (naming r) t) (row_paths rows) marks) where
  unsaid : (x : List ℕ) → listed (row_paths rows) x ≡ false → takes (r.over.at x) ≡ false
  unsaid x none = ap takes (table.none_else x none)

  -- what has no row is given up only where it is taken away
  given : (q : List ℕ) → listed (row_paths rows) q ≡ false → after.given_up (naming r) t q ≡ reached (λ x. takes (r.over.at x)) q
  given q none = ap (λ o. after.given_up_as is_payload_of o (t.look q) || reached (λ x. takes (r.over.at x)) q) (is_bare r rows said q table none).old

  -- nor is it an edit that goes
  goes : (q : List ℕ) → listed (row_paths rows) q ≡ false → goes_else (naming r) t q ≡ (reached (destroys_else (naming r) t) q || reached (after.is_top (naming r) t) q)
  goes q none =
      ap (λ o. reached (destroys_else (naming r) t) q || (reached (after.is_top (naming r) t) q || salvage.drops_edit_as (naming r) o (r.new.at q) (t.look q))) (is_bare r rows said q table none).old
      ∙ ap (λ (b : Bool). reached (destroys_else (naming r) t) q || b) (sym (or_false (reached (after.is_top (naming r) t) q)))

  -- where a directory stands no edit goes
  opened : (p : List ℕ) → is_dir (t.look p) ≡ true → goes_else (naming r) t p ≡ (reached (destroys_else (naming r) t) p || reached (after.is_top (naming r) t) p)
  opened p dir =
      ap (λ (b : Bool). reached (destroys_else (naming r) t) p || (reached (after.is_top (naming r) t) p || b)) (no_edit (naming r) (r.old.at p) (r.new.at p) (t.look p) dir)
      ∙ ap (λ (b : Bool). reached (destroys_else (naming r) t) p || b) (sym (or_false (reached (after.is_top (naming r) t) p)))

  -- what stands without a row is salvaged where it hangs below a row where something goes
  hanging_salvaged : (q : List ℕ) → (is_some (t.look q) && hangs_among (opens r t) (row_paths rows) (row_paths rows) q) ≡ true → (salvage.salvaged (naming r) t q && not (listed (row_paths rows) q)) ≡ true
  hanging_salvaged q h =
      let start = and_parts (is_some (t.look q)) _ h in
      let p = any_of (λ x. opens r t x && hangs (row_paths rows) x q) (row_paths rows) start.1 in
      let parts = and_parts (opens r t p.path) (hangs (row_paths rows) p.path q) p.holds in
      let way = and_parts (goes_else (naming r) t p.path) (not (reached (λ x. takes (r.over.at x)) p.path)) parts.0 in
      let hang = and_parts (is_below p.path q) (not (listed (row_paths rows) (branch p.path q))) parts.1 in
      let apart = and_parts (covers p.path q) (not (same_path p.path q)) hang.0 in
      let dir = dir_above t p.path q formed start.0 apart.0 (not-true _ apart.1) in
      let none : listed (row_paths rows) q ≡ false = false_from_ne_true _ (λ row.
      clash (listed (row_paths rows) (branch p.path q)) (closed r rows said (branch p.path q) q good table (branch_over p.path q hang.0) row) (not-true _ hang.1)) in
      let kept : after.given_up (naming r) t q ≡ false = given q none ∙ false_from_ne_true _ (λ taken.
      clash (reached (λ x. takes (r.over.at x)) p.path) (row_reached (row_paths rows) (λ x. takes (r.over.at x)) p.path q (λ x c. closed r rows said x c good table) unsaid parts.1 taken) (not-true _ way.1)) in
      let gone : goes_else (naming r) t q ≡ true = goes q none ∙ elim (or_cases _ _ (sym (opened p.path dir) ∙ way.0)) [
        | inl destroyed ↦ or_left _ _ (lower (destroys_else (naming r) t) p.path q apart.0 destroyed)
        | inr top ↦ or_right (reached (destroys_else (naming r) t) q) _ (lower (after.is_top (naming r) t) p.path q apart.0 top)
      ] in
      and_from _ _ (sym (salvaged_here r t q formed) ∙ and_from _ _ start.0 (and_from _ _ (not_from_false _ kept) gone)) (not_from_false _ none)

  -- what hangs below the row that is nearest above it, where something goes at or above that
  hangs_there : (x q : List ℕ) → listed (row_paths rows) x ≡ true → covers x q ≡ true → listed (row_paths rows) q ≡ false → reached (λ y. takes (r.over.at y)) q ≡ false → ((p : List ℕ) → covers x p ≡ true → goes_else (naming r) t p ≡ true)
      → hangs_among (opens r t) (row_paths rows) (row_paths rows) q ≡ true
  hangs_there x q row over none kept lead =
      let n = nearest (suc (length q)) (row_paths rows) x q (omega arith) row none over in
      let above = (and_parts (covers n.path q) _ (and_parts (is_below n.path q) _ n.hangs).0).0 in
      let free : reached (λ y. takes (r.over.at y)) n.path ≡ false = false_from_ne_true _ (λ taken. clash (reached (λ y. takes (r.over.at y)) q) (lower (λ y. takes (r.over.at y)) n.path q above taken) kept) in
      any_from (λ p. opens r t p && hangs (row_paths rows) p q) (row_paths rows) n.path n.is (and_from _ _ (and_from _ _ (lead n.path n.under) (not_from_false _ free)) n.hangs)

  -- and where it is salvaged, it does
  salvaged_hangs : (q : List ℕ) → (salvage.salvaged (naming r) t q && not (listed (row_paths rows) q)) ≡ true → (is_some (t.look q) && hangs_among (opens r t) (row_paths rows) (row_paths rows) q) ≡ true
  salvaged_hangs q h =
      let both = and_parts (salvage.salvaged (naming r) t q) _ h in
      let none : listed (row_paths rows) q ≡ false = not-true _ both.1 in
      let start = and_parts (is_some (t.look q)) _ (salvaged_here r t q formed ∙ both.0) in
      let next = and_parts (not (after.given_up (naming r) t q)) (goes_else (naming r) t q) start.1 in
      let kept : reached (λ x. takes (r.over.at x)) q ≡ false = sym (given q none) ∙ not-true _ next.0 in
      elim (or_cases _ _ (sym (goes q none) ∙ next.1)) [
        | inl destroyed ↦
            let x = row_above (row_paths rows) (destroys_else (naming r) t) q marked.none_else destroyed in
            and_from _ _ start.0 (hangs_there x.path q x.row x.over none kept (λ p under. or_left _ _ (lower (destroys_else (naming r) t) x.path p under x.here)))
        | inr top ↦
            let x = row_above (row_paths rows) (after.is_top (naming r) t) q (λ y bare. top_none r t rows said y table bare) top in
            and_from _ _ start.0 (hangs_there x.path q x.row x.over none kept (λ p under. or_right (reached (destroys_else (naming r) t) p) _ (or_left _ _ (lower (after.is_top (naming r) t) x.path p under x.here))))
      ]

  -- so it is just there
  pub strays_are : (q : List ℕ) → (is_some (t.look q) && hangs_among (opens r t) (row_paths rows) (row_paths rows) q) ≡ (salvage.salvaged (naming r) t q && not (listed (row_paths rows) q))
  strays_are q = both_ways (hanging_salvaged q) (salvaged_hangs q)
