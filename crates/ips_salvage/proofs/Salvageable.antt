-- What is salvaged, row by row.
use Rattle.std.proofs.Common.{◌≡◌, ◌⊎◌, inl, inr, ℕ, Bool, true, false, not, ◌&&◌, ◌||◌, List, Option, Some, None, is_none, is_some, refl, sym, ◌∙◌, ap}
use Rattle.std.proofs.lemmas.Bool.{and_from, and_parts, false_from_ne_true, or_cases, or_left}
use Rattle.ips_text.specs.Ancestry.{covers, same_path}
use Rattle.ips_text.proofs.Ancestry.{same_path-true}
use Rattle.ips_outside.specs.Image.{Dir, Entry, File, Image, IsImage, Link, Other, is_dir, is_file}
use Rattle.ips_after.specs.After as after
use Rattle.ips_after.specs.Change.{reached}
use Rattle.ips_after.specs.Lists.{listed}
use Rattle.ips_after.specs.Request.{Request}
use Rattle.ips_after.specs.Salvage as salvage
use Rattle.ips_after.proofs.Changed.{reach_of, reached_from}
use Rattle.ips_change.specs.wanted.Named.{is_payload_of}
use Rattle.ips_change.specs.Told.{naming}
use Rattle.ips_change.specs.declared.survey.row.Row.{Row}
use Rattle.ips_change.specs.survey.Marks.{row_paths}
use Rattle.ips_change.specs.declared.survey.said.Said.{Said}
use Rattle.ips_change.specs.survey.Tables.{IsTable}
use Rattle.ips_after.proofs.Unseen.{and_second}
use Rattle.ips_links.proofs.Linked.{is_bare}
use Rattle.ips_salvage.specs.Destroying.{destroys_else, gives_file, goes_else}
use Rattle.ips_salvage.proofs.Destruction.{none_both}

-- at a path without a row no directory with a stated mode goes
pub top_none : (r : Request) (t : Image) (rows : List Row) (said : List (Option Said)) (q : List ℕ) → IsTable r rows said → listed (row_paths rows) q ≡ false → after.is_top (naming r) t q ≡ false
top_none r t rows said q table apart = and_second (is_none (r.new.at q)) (is_dir (t.look q)) (after.is_stated (r.old.at q)) (ap after.is_stated (is_bare r rows said q table apart).old)

stands_there : (e : Option Entry) → is_some e ≡ true → is_none e ≡ true → ⊥
stands_there (Some e) h k = cc
stands_there None h k = cc

-- a file that is given up stands neither at a path with something that isn't, nor above it
file_apart : (r : Request) (t : Image) (p q : List ℕ) → IsImage t → is_some (t.look q) ≡ true → after.given_up (naming r) t q ≡ false → covers p q ≡ true → gives_file (naming r) t p ≡ true → ⊥
file_apart r t p q formed there kept over gives = go (same_path p q) refl
  where
    file : (is_file (t.look p) ≡ true) × (after.given_up_as is_payload_of (r.old.at p) (t.look p) ≡ true)
    file = and_parts (is_file (t.look p)) _ (and_parts _ (is_file (t.look p) && after.given_up_as is_payload_of (r.old.at p) (t.look p)) gives).1

    no_file : (e : Option Entry) → is_file e ≡ true → is_dir e ≡ true → ⊥
    no_file (Some (Dir m f)) h k = cc
    no_file (Some (File m b)) h k = cc
    no_file (Some (Link g)) h k = cc
    no_file (Some Other) h k = cc
    no_file None h k = cc

    above : (is_none (t.look q) ≡ true) ⊎ (is_dir (t.look p) ≡ true) → ⊥
    above (inl none) = stands_there (t.look q) there none
    above (inr dir) = no_file (t.look p) file.0 dir

    go : (b : Bool) → same_path p q ≡ b → ⊥
    go true same = none_both (after.given_up (naming r) t q) (or_left _ _ (ap (λ (x : List ℕ). after.given_up_as is_payload_of (r.old.at x) (t.look x)) (sym (same_path-true p q same)) ∙ file.1)) kept
    go false other = above (or_cases _ _ (formed.below_dirs p q over other))

-- so what isn't given up goes with something that is destroyed just where it goes with something other than such a file
pub goes_same : (r : Request) (t : Image) (q : List ℕ) → IsImage t → is_some (t.look q) ≡ true → after.given_up (naming r) t q ≡ false → reached (destroys_else (naming r) t) q ≡ reached (salvage.destroys (naming r) t) q
goes_same r t q formed there kept = both_ways _ _
    (λ h. let x = reach_of (destroys_else (naming r) t) q h in reached_from (salvage.destroys (naming r) t) x.at q x.over (and_parts _ (not (gives_file (naming r) t x.at)) x.holds).0)
    (λ h.
    let x = reach_of (salvage.destroys (naming r) t) q h in
    let none : gives_file (naming r) t x.at ≡ false = false_from_ne_true _ (file_apart r t x.at q formed there kept x.over) in
    reached_from (destroys_else (naming r) t) x.at q x.over (and_from _ _ x.holds (ap not none)))
  where
    both_ways : (a b : Bool) → (a ≡ true → b ≡ true) → (b ≡ true → a ≡ true) → a ≡ b
    both_ways true b h k = sym (h refl)
    both_ways false true h k = k refl
    both_ways false false h k = refl

pub salvaged_here : (r : Request) (t : Image) (q : List ℕ) → IsImage t → (is_some (t.look q) && (not (after.given_up (naming r) t q) && goes_else (naming r) t q)) ≡ salvage.salvaged (naming r) t q
salvaged_here r t q formed = go (is_some (t.look q)) refl (after.given_up (naming r) t q) refl
  where
    goes : Bool
    goes = reached (salvage.destroys (naming r) t) q || (reached (after.is_top (naming r) t) q || salvage.drops_edit_as (naming r) (r.old.at q) (r.new.at q) (t.look q))

    rest : Bool
    rest = reached (after.is_top (naming r) t) q || salvage.drops_edit_as (naming r) (r.old.at q) (r.new.at q) (t.look q)

    go : (a : Bool) → is_some (t.look q) ≡ a → (g : Bool) → after.given_up (naming r) t q ≡ g → (is_some (t.look q) && (not (after.given_up (naming r) t q) && goes_else (naming r) t q)) ≡ (is_some (t.look q) && (not (after.given_up (naming r) t q) && goes))
    go false none g given = ap (λ (b : Bool). b && (not (after.given_up (naming r) t q) && goes_else (naming r) t q)) none ∙ sym (ap (λ (b : Bool). b && (not (after.given_up (naming r) t q) && goes)) none)
    go true there true given =
        ap (λ (b : Bool). is_some (t.look q) && (not b && goes_else (naming r) t q)) given
        ∙ sym (ap (λ (b : Bool). is_some (t.look q) && (not b && goes)) given)
    go true there false given = ap (λ (b : Bool). is_some (t.look q) && (not (after.given_up (naming r) t q) && (b || rest))) (goes_same r t q formed there given)
