-- What was or is wanted at a side name, and what stands there.
use Rattle.std.proofs.Common.{◌≡◌, ℕ, zero, suc, ◌<◌, Bool, false, ◌||◌, List, [], ◌∷◌, Option, Some, None, get_or, length, is_some, refl, sym, ◌∙◌, ap, arith}
use Rattle.std.specs.Prelude.{slice_get}
use Rattle.std.specs.Option.{option_map}
use Rattle.ips_outside.specs.Image.{Dir, Entry, File, Link, Other}
use Rattle.ips_outside.specs.Outside.{look_of}
use Rattle.ips_after.specs.Lists.{listed}
use Rattle.ips_after.specs.Request.{Request}
use Rattle.ips_after.specs.Salvage.{dir_or_other}
use Rattle.ips_change.specs.survey.Rows.{IsRowOf}
use Rattle.ips_change.specs.declared.survey.row.Row.{Row}
use Rattle.ips_change.specs.survey.Marks.{row_paths}
use Rattle.ips_change.specs.survey.Tables.{IsTable}
use Rattle.ips_change.specs.declared.survey.said.Said.{Said}
use Rattle.ips_links.proofs.Linked.{all_here, is_bare}
use Rattle.ips_aside.specs.lost_and_found.Sides.{dir_or_other_looked}

-- the row's path stands at its place
path_here : (rows : List Row) (i : ℕ) (row : Row) (path : List ℕ) → i < length rows → row ≡ get_or rows i row → slice_get (row_paths rows) i ≡ Some path → row.path.now.bytes ≡ path
path_here [] i row path lt is at = absurd (omega arith)
path_here (x ∷ rows) zero row path lt is at = ap (λ (r : Row). r.path.now.bytes) is ∙ go at
  where
    go : Some x.path.now.bytes ≡ Some path → x.path.now.bytes ≡ path
    go e = cc
path_here (x ∷ rows) (suc i) row path lt is at = path_here rows i row path (omega (arith, lt)) is at

pub wanted_here : (r : Request) (said : List (Option Said)) (rows : List Row) (i : ℕ) (row : Row) (path : List ℕ) → IsTable r rows said → i < length rows → row ≡ get_or rows i row → slice_get (row_paths rows) i ≡ Some path
    → (is_some row.old || is_some row.new) ≡ (is_some (r.old.at path) || is_some (r.new.at path))
wanted_here r said rows i row path table lt is at =
    let of = all_here (IsRowOf r) rows i row lt is table.entries in
    let here = path_here rows i row path lt is at in
    ap (λ (b : Bool). b || is_some row.new) (some_mapped _ row.old ∙ ap is_some of.0 ∙ ap (λ (p : List ℕ). is_some (r.old.at p)) here)
    ∙ ap (λ (b : Bool). is_some (r.old.at path) || b) (some_mapped _ row.new ∙ ap is_some of.1 ∙ ap (λ (p : List ℕ). is_some (r.new.at p)) here)
  where
    some_mapped : {A B : Type 0} (f : A → B) (o : Option A) → is_some o ≡ is_some (option_map f o)
    some_mapped f (Some x) = refl
    some_mapped f None = refl

pub wanted_none : (r : Request) (said : List (Option Said)) (rows : List Row) (path : List ℕ) → IsTable r rows said → listed (row_paths rows) path ≡ false → false ≡ (is_some (r.old.at path) || is_some (r.new.at path))
wanted_none r said rows path table none =
    let bare = is_bare r rows said path table none in
    sym (ap (λ o. is_some o || is_some (r.new.at path)) bare.old ∙ ap is_some bare.new)

pub dir_or_other_seen : (e : Option Entry) → dir_or_other_looked (look_of e) ≡ dir_or_other e
dir_or_other_seen (Some (Dir m f)) = refl
dir_or_other_seen (Some (File m b)) = refl
dir_or_other_seen (Some (Link g)) = refl
dir_or_other_seen (Some Other) = refl
dir_or_other_seen None = refl
