-- What is put beside a path, by what is learned of what stands there.
use Rattle.std.proofs.Common.{◌≡◌, ℕ, Bool, true, false, cond, List, Option, Some, None, refl, sym, ◌∙◌, ap}
use Rattle.std.specs.Option.{option_map}
use Rattle.ips_outside.specs.Image.{Entry, Dir, File, Image, Link, Other}
use Rattle.ips_outside.specs.Outside.{readable}
use Rattle.ips_after.specs.After.{answer_at}
use Rattle.ips_after.specs.Request.{Request, WantDir, WantFile, WantHard, WantLink, Wanted}
use Rattle.ips_after.specs.Salvage.{Side, copied, legacy_suffix, old_suffix, side_as, side_at, side_for}
use Rattle.ips_change.specs.wanted.Named.{is_payload_of}
use Rattle.ips_change.specs.declared.stands.Stands.{Stands}
use Rattle.ips_change.specs.declared.stands.Stands.TheVariants as stands
use Rattle.ips_change.specs.Stands.{is_unasked, seen_of, stands_of}
use Rattle.ips_change.specs.Told.{naming}
use Rattle.ips_change.specs.declared.survey.row.Row.{Row}
use Rattle.ips_change.specs.survey.Rows.{IsRowOf, row_pair}
use Rattle.ips_aside.specs.declared.sides.side.Put.{Put}
use Rattle.ips_aside.specs.declared.sides.side.Put.TheVariants as put
use Rattle.ips_aside.specs.sides.Sides.{mode_seen, side_put}

-- the row's entries are those of the request
pub by_row : (r : Request) (t : Image) (row : Row) → IsRowOf r row → side_as (naming r) (row_pair row).was (row_pair row).wanted (t.look row.path.now.bytes) ≡ side_at (naming r) t row.path.now.bytes
by_row r t row own =
    let p = row.path.now.bytes in
    ap (λ (o : Option Wanted). side_as (naming r) o (row_pair row).wanted (t.look p)) own.0 ∙ ap (λ (o : Option Wanted). side_as (naming r) (r.old.at p) o (t.look p)) own.1

-- where no rule asks, nothing is put beside the path
unasked_none : (r : Request) (was new : Option Wanted) (e : Option Entry) → is_unasked was new ≡ true → side_as r was new e ≡ None
unasked_none r was (Some (WantFile payload m preserve)) e h = ap (λ (b : Bool). cond b None (side_for (answer_at r was payload preserve e) (File m (r.bytes payload)) e)) h
unasked_none r was (Some (WantDir m)) e h = refl
unasked_none r was (Some (WantLink target)) e h = refl
unasked_none r was (Some (WantHard to)) e h = refl
unasked_none r was None e h = refl

-- a file that is copied stands with the mode that is seen
seen_old : (bytes : List ℕ → List ℕ) (was new : Option Wanted) (e : Option Entry) → option_map (side_put bytes (readable e)) (option_map (λ m. put.Old m) (mode_seen (seen_of is_payload_of was new e))) ≡ copied old_suffix e
seen_old bytes was new (Some (Dir n f)) = refl
seen_old bytes was new (Some (File n b)) = refl
seen_old bytes was new (Some (Link g)) = refl
seen_old bytes was new (Some Other) = refl
seen_old bytes was new None = refl

seen_legacy : (bytes : List ℕ → List ℕ) (was new : Option Wanted) (e : Option Entry) → option_map (side_put bytes (readable e)) (option_map (λ m. put.Legacy m) (mode_seen (seen_of is_payload_of was new e))) ≡ copied legacy_suffix e
seen_legacy bytes was new (Some (Dir n f)) = refl
seen_legacy bytes was new (Some (File n b)) = refl
seen_legacy bytes was new (Some (Link g)) = refl
seen_legacy bytes was new (Some Other) = refl
seen_legacy bytes was new None = refl

-- the same where it is known only if a rule asks
copied_by : (to_put : ℕ → Put) (suffix : List ℕ) (r : Request) (was new : Option Wanted) (e : Option Entry) (s : Stands)
    → option_map (side_put r.bytes (readable e)) (option_map to_put (mode_seen (seen_of is_payload_of was new e))) ≡ copied suffix e
    → s ≡ stands_of is_payload_of was new e → copied suffix e ≡ side_as (naming r) was new e
    → option_map (side_put r.bytes (readable e)) (option_map to_put (mode_seen s)) ≡ side_as (naming r) was new e
copied_by to_put suffix r was new e s seen learned told = go (is_unasked was new) refl learned
  where
    put_seen : Stands → Option Side
    put_seen x = option_map (side_put r.bytes (readable e)) (option_map to_put (mode_seen x))

    go : (b : Bool) → is_unasked was new ≡ b → s ≡ cond b stands.Unasked (seen_of is_payload_of was new e) → put_seen s ≡ side_as (naming r) was new e
    go true asked is = ap put_seen is ∙ sym (unasked_none (naming r) was new e asked)
    go false asked is = ap put_seen is ∙ seen ∙ told

pub old_beside : (r : Request) (was new : Option Wanted) (e : Option Entry) (s : Stands) → s ≡ stands_of is_payload_of was new e → copied old_suffix e ≡ side_as (naming r) was new e
    → option_map (side_put r.bytes (readable e)) (option_map (λ m. put.Old m) (mode_seen s)) ≡ side_as (naming r) was new e
old_beside r was new e s = copied_by (λ m. put.Old m) old_suffix r was new e s (seen_old r.bytes was new e)

pub legacy_beside : (r : Request) (was new : Option Wanted) (e : Option Entry) (s : Stands) → s ≡ stands_of is_payload_of was new e → copied legacy_suffix e ≡ side_as (naming r) was new e
    → option_map (side_put r.bytes (readable e)) (option_map (λ m. put.Legacy m) (mode_seen s)) ≡ side_as (naming r) was new e
legacy_beside r was new e s = copied_by (λ m. put.Legacy m) legacy_suffix r was new e s (seen_legacy r.bytes was new e)
