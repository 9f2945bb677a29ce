-- What becomes of rows where nothing is said of any path.
use Rattle.std.proofs.Common.{◌≡◌, ℕ, zero, suc, ◌<◌, Bool, false, cond, List, [], ◌∷◌, map, length, get_or, Option, Some, sym, ◌∙◌, ap, subst, arith}
use Rattle.std.specs.Prelude.{slice_get}
use Rattle.std.specs.List.{AllByRecursion}
use Rattle.std.proofs.lemmas.Option.{get_or_from_slice_get, same_Some}
use Rattle.ips_text.proofs.Lists.{element}
use Rattle.ips_outside.specs.Image.{Entry, Image}
use Rattle.ips_after.specs.After.{change_settled, over_or, supported}
use Rattle.ips_after.specs.Change.{Change, Kept, Removed}
use Rattle.ips_after.specs.Lists.{listed}
use Rattle.ips_after.specs.Request.{IsRequest, Request, Wanted}
use Rattle.ips_change.specs.declared.change.Change.{Change as Told}
use Rattle.ips_change.specs.declared.change.Change.TheVariants as told
use Rattle.ips_change.specs.Told.{change_told, naming}
use Rattle.ips_links.specs.Fitting.{FitsSupported}
use Rattle.ips_links.proofs.Fitted.{fit_here}
use Rattle.ips_change.specs.declared.survey.row.Row.{Row}
use Rattle.ips_change.specs.declared.survey.said.Said.{Said}
use Rattle.ips_change.specs.survey.Rows.{IsRowOf, row_pair}
use Rattle.ips_change.specs.survey.Marks.{row_paths}
use Rattle.ips_change.specs.survey.Tables.{IsTable}
use Rattle.ips_change.proofs.survey.Marking.{mark_there}
use Rattle.ips_links.proofs.Linked.{all_here}
use Rattle.ips_emptied.proofs.Remaining.{settled_bare}
use Rattle.ips_emptied.specs.declared.settled.Settled.{Settled}
use Rattle.ips_emptied.specs.Joining.{HasAll, SettlesRows}
use Rattle.ips_account_files.specs.ledger.Left.{FitsFile, IsSilent, changes_by, emptied_by}

-- the path of the row at a place
pub row_at : (rows : List Row) (i : ℕ) (row : Row) → i < length rows → row ≡ get_or rows i row → slice_get (row_paths rows) i ≡ Some row.path.now.bytes
row_at [] i row lt is = absurd (omega (arith, lt))
row_at (x ∷ rows) zero row lt is = ap (λ (r : Row). Some r.path.now.bytes) (sym is)
row_at (x ∷ rows) (suc i) row lt is = row_at rows i row (omega (arith, lt)) is

told_at : {X A : Type 0} (g : X → A) (f : List ℕ → A) (xs : List X) (paths : List (List ℕ)) (i : ℕ) (x : X) (p : List ℕ) → map g xs ≡ map f paths → slice_get paths i ≡ Some p → i < length xs → x ≡ get_or xs i x → g x ≡ f p
told_at g f [] paths i x p are there lt is = absurd (omega (arith, lt))
told_at g f (y ∷ xs) [] i x p are there lt is = cc
told_at g f (y ∷ xs) (q ∷ paths) zero x p are there lt is =
    let own : g y ≡ f q = cc in
    ap g is ∙ own ∙ ap f (same_Some q p there)
told_at g f (y ∷ xs) (q ∷ paths) (suc i) x p are there lt is =
    let rest : map g xs ≡ map f paths = cc in
    told_at g f xs paths i x p rest there (omega (arith, lt)) is

-- what becomes of a row, by its marks
pub settled_here : (r : Request) (t : Image) (rows : List Row) (s : Settled) (i : ℕ) (p : List ℕ) (gone : Bool) (c : Told) → IsSilent r → HasAll rows s → SettlesRows r t rows s → i < length rows → slice_get (row_paths rows) i ≡ Some p
    → gone ≡ get_or s.emptied.items i gone → c ≡ get_or s.changes.items i c → cond gone Removed (change_told r.bytes c) ≡ changes_by r t rows s p
settled_here r t rows s i p gone c silent all are lt there empty is =
    ap (λ (b : Bool). cond b Removed (change_told r.bytes c)) (empty ∙ mark_there (emptied_by rows s) (row_paths rows) s.emptied.items i p gone all.marks.are there)
    ∙ ap (λ (x : Change). cond (emptied_by rows s p) Removed x) (told_at (change_told r.bytes) (supported (naming r) t) s.changes.items (row_paths rows) i c p are.changes there (omega (arith, lt, all.changes)) is)
    ∙ ap (λ (o : Option (Option Entry)). cond (emptied_by rows s p) Removed (over_or o (supported (naming r) t p))) (sym (silent p))

-- nothing becomes of a path without a row
pub changes_bare : (r : Request) (t : Image) (rows : List Row) (said : List (Option Said)) (s : Settled) (q : List ℕ) → IsRequest r → IsTable r rows said → HasAll rows s → listed (row_paths rows) q ≡ false → changes_by r t rows s q ≡ Kept
changes_bare r t rows said s q good table all apart =
    ap (λ (b : Bool). cond b Removed (change_settled (naming r) t q)) (all.marks.none_else q apart) ∙ settled_bare r t rows said q good table apart

-- what is wanted at the path of a row
pub wanted_here : (r : Request) (rows : List Row) (i : ℕ) (row : Row) (p : List ℕ) → AllByRecursion (IsRowOf r) rows → slice_get (row_paths rows) i ≡ Some p → i < length rows → row ≡ get_or rows i row → (row_pair row).wanted ≡ r.new.at p
wanted_here r rows i row p of there lt is = (all_here (IsRowOf r) rows i row lt is of).1 ∙ ap r.new.at (same_Some row.path.now.bytes p (sym (row_at rows i row lt is) ∙ there))

fits_file : (new : Option Wanted) (c : Told) → FitsSupported new c → FitsFile new c
fits_file new told.Kept h = tt
fits_file new told.Removed h = tt
fits_file new (told.Dir mode) h = tt
fits_file new (told.File payload mode) h = h
fits_file new (told.Link target) h = tt
fits_file new (told.Hard to) h = tt
fits_file new (told.Mode mode) h = h

-- what becomes of a row is what is wanted there, as far as files go
pub fits_here : (r : Request) (rows : List Row) (s : Settled) (i : ℕ) (p : List ℕ) (c : Told) → HasAll rows s → AllByRecursion (IsRowOf r) rows → i < length rows → slice_get (row_paths rows) i ≡ Some p → c ≡ get_or s.changes.items i c → FitsFile (r.new.at p) c
fits_here r rows s i p c all of lt there is =
    let e = element rows i lt in
    let row = e.0 in
    let at = sym (get_or_from_slice_get rows i row row e.1) in
    subst (λ (w : Option Wanted). FitsFile w c) (wanted_here r rows i row p of there lt at)
    (fits_file (row_pair row).wanted c (fit_here FitsSupported rows s.changes.items i row c lt at (omega (arith, lt, all.changes)) is all.fits))
