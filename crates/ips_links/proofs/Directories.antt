-- Directories for what is made below them, row by row.
use Rattle.std.proofs.Common.{◌≡◌, ℕ, Bool, false, not, ◌&&◌, ◌||◌, List, Option, Some, None, is_none, is_some, ◌∙◌, ap}
use Rattle.std.proofs.lemmas.Bool.{or_from}
use Rattle.ips_outside.specs.Image.{Image, is_dir}
use Rattle.ips_after.specs.After as after
use Rattle.ips_after.specs.Change.{Change}
use Rattle.ips_after.specs.Lists.{listed}
use Rattle.ips_after.specs.Request.{Request, WantDir, WantFile, WantHard, WantLink, Wanted}
use Rattle.ips_change.specs.Told.{naming}
use Rattle.ips_change.specs.declared.survey.row.Row.{Row}
use Rattle.ips_change.specs.survey.Marks.{row_paths}
use Rattle.ips_change.specs.declared.survey.said.Said.{Said}
use Rattle.ips_change.specs.survey.Said.{said_as}
use Rattle.ips_change.specs.survey.Tables.{IsTable}
use Rattle.ips_change.proofs.survey.Marked.{is_spoken}
use Rattle.ips_after.proofs.Unseen.{and_second}
use Rattle.ips_links.proofs.Linked.{is_bare, is_silent}
use Rattle.ips_links.specs.Supporting.{begins_taken, supported_by}

-- at a path without a row nothing begins to go
pub begins_none : (r : Request) (t : Image) (rows : List Row) (said : List (Option Said)) (q : List ℕ) → IsTable r rows said → listed (row_paths rows) q ≡ false → begins_taken (naming r) t q ≡ false
begins_none r t rows said q table apart =
    let bare = is_bare r rows said q table apart in
    or_from _ _ (and_second (is_none (r.new.at q)) (is_dir (t.look q)) (after.is_stated (r.old.at q)) (ap after.is_stated bare.old)) (ap is_some bare.over)

pub begins_here : (r : Request) (t : Image) (p : List ℕ) (top : Bool) (said : Option Said) → top ≡ after.is_top r t p → said ≡ said_as (r.over.at p) → (top || is_some said) ≡ begins_taken (naming r) t p
begins_here r t p top said is are =
    ap (λ (b : Bool). b || is_some said) is ∙ ap (λ (s : Option Said). after.is_top r t p || is_some s) are ∙ ap (λ (b : Bool). after.is_top r t p || b) (is_spoken (r.over.at p))

pub support_here : (r : Request) (t : Image) (p : List ℕ) (said : Option Said) (below taken : Bool) → said ≡ said_as (r.over.at p) → below ≡ after.holds_made (naming r) t p → taken ≡ after.is_taken (naming r) t p
    → (is_none said && ((not (is_dir (t.look p)) || taken) && below)) ≡ after.is_support (naming r) t p
support_here r t p said below taken are made goes =
    ap (λ (s : Option Said). is_none s && ((not (is_dir (t.look p)) || taken) && below)) are
    ∙ ap (λ (b : Bool). b && ((not (is_dir (t.look p)) || taken) && below)) (is_silent (r.over.at p))
    ∙ ap (λ (b : Bool). is_none (r.over.at p) && ((not (is_dir (t.look p)) || b) && below)) goes
    ∙ ap (λ (b : Bool). is_none (r.over.at p) && ((not (is_dir (t.look p)) || after.is_taken (naming r) t p) && b)) made

pub supported_is : (r : Request) (t : Image) (p : List ℕ) (w : Option Wanted) (own : Change) (support : Bool) → w ≡ r.new.at p → own ≡ after.linked (naming r) t p → support ≡ after.is_support (naming r) t p
    → supported_by w own support ≡ after.supported (naming r) t p
supported_is r t p w own support at by held = go w ∙ ap (after.supported_as (naming r) t p) at
  where
    go : (w : Option Wanted) → supported_by w own support ≡ after.supported_as (naming r) t p w
    go (Some (WantDir m)) = ap (λ (c : Change). supported_by (Some (WantDir m)) c support) by ∙ ap (λ (b : Bool). supported_by (Some (WantDir m)) (after.linked (naming r) t p) b) held
    go (Some (WantFile payload m preserve)) = by
    go (Some (WantLink target)) = by
    go (Some (WantHard to)) = by
    go None = ap (λ (c : Change). supported_by None c support) by ∙ ap (λ (b : Bool). supported_by None (after.linked (naming r) t p) b) held
