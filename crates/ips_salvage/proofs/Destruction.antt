-- Where something is destroyed, row by row.
use Rattle.std.proofs.Common.{◌≡◌, ℕ, Bool, true, false, cond, not, ◌&&◌, ◌||◌, List, Option, Some, None, is_none, is_some, refl, sym, ◌∙◌, ap}
use Rattle.std.specs.List.{list_any}
use Rattle.std.proofs.lemmas.Bool.{and_parts, false_from_ne_true, or_from}
use Rattle.ips_text.specs.Ancestry.{covers, is_below}
use Rattle.ips_text.proofs.Truths.{not_true}
use Rattle.ips_outside.specs.Image.{Dir, Entry, File, Image, Link, Other, is_dir, is_file}
use Rattle.ips_action.specs.declared.action.Preserve.{Preserve}
use Rattle.ips_action.specs.declared.action.Preserve.TheVariants as preserves
use Rattle.ips_preserve.specs.declared.case.Standing.{Standing}
use Rattle.ips_preserve.specs.declared.case.Standing.TheVariants.{Absent, NotFile}
use Rattle.ips_preserve.specs.declared.case.Event.TheVariants.{First, Update}
use Rattle.ips_preserve.specs.Keep.{at_event}
use Rattle.ips_steps.specs.Private.{records_name}
use Rattle.ips_after.specs.After as after
use Rattle.ips_after.specs.Change.{Change, Kept, Laid, makes}
use Rattle.ips_after.specs.Lists.{listed}
use Rattle.ips_after.specs.Request.{IsRequest, Request, WantDir, WantFile, WantHard, WantLink, Wanted, is_dir_wanted, lays}
use Rattle.ips_after.specs.Salvage.{copies, has_bytes, saved_as}
use Rattle.ips_after.proofs.Fits.{any_of}
use Rattle.ips_change.specs.wanted.Named.{is_payload_of}
use Rattle.ips_change.specs.declared.stands.Stands.{Stands}
use Rattle.ips_change.specs.declared.stands.Stands.TheVariants as stands
use Rattle.ips_change.specs.Stands.{is_unasked, seen_of, stands_of}
use Rattle.ips_change.specs.Told.{naming}
use Rattle.ips_change.specs.declared.survey.row.Row.{Row}
use Rattle.ips_change.specs.survey.Marks.{row_paths}
use Rattle.ips_change.specs.declared.survey.said.Said.{Said}
use Rattle.ips_change.specs.survey.Tables.{IsTable}
use Rattle.ips_change.proofs.survey.Filling.{or_none}
use Rattle.ips_after.proofs.Unseen.{and_second}
use Rattle.ips_links.proofs.Linked.{is_bare, unwanted_makes}
use Rattle.ips_salvage.specs.Destroying.{destroys_else, gives_file, needs_no_salvage}

-- nothing stands there, or something that is no file
abbrev fileless : Bool → Standing
fileless true = Absent
fileless false = NotFile

first_copies : (changed : Bool) (preserve : Preserve) (none : Bool) → copies (at_event First changed preserve (fileless none)) ≡ false
first_copies changed preserves.None true = refl
first_copies changed preserves.None false = refl
first_copies changed preserves.True true = refl
first_copies changed preserves.True false = refl
first_copies changed preserves.RenameOld true = refl
first_copies changed preserves.RenameOld false = refl
first_copies changed preserves.RenameNew true = refl
first_copies changed preserves.RenameNew false = refl
first_copies changed preserves.Legacy true = refl
first_copies changed preserves.Legacy false = refl
first_copies changed preserves.Abandon true = refl
first_copies changed preserves.Abandon false = refl
first_copies changed preserves.InstallOnly true = refl
first_copies changed preserves.InstallOnly false = refl

change_copies : (preserve : Preserve) (none : Bool) → copies (at_event Update true preserve (fileless none)) ≡ false
change_copies preserves.None true = refl
change_copies preserves.None false = refl
change_copies preserves.True true = refl
change_copies preserves.True false = refl
change_copies preserves.RenameOld true = refl
change_copies preserves.RenameOld false = refl
change_copies preserves.RenameNew true = refl
change_copies preserves.RenameNew false = refl
change_copies preserves.Legacy true = refl
change_copies preserves.Legacy false = refl
change_copies preserves.Abandon true = refl
change_copies preserves.Abandon false = refl
change_copies preserves.InstallOnly true = refl
change_copies preserves.InstallOnly false = refl

no_copies : (was : Option Wanted) (changed : Bool) (preserve : Preserve) (none : Bool) → copies (at_event (after.event_of was) changed preserve (fileless none)) ≡ false
no_copies (Some (WantFile payload m kept)) true preserve none = change_copies preserve none
no_copies (Some (WantFile payload m kept)) false preserve true = refl
no_copies (Some (WantFile payload m kept)) false preserve false = refl
no_copies (Some (WantDir m)) changed preserve none = first_copies changed preserve none
no_copies (Some (WantLink target)) changed preserve none = first_copies changed preserve none
no_copies (Some (WantHard to)) changed preserve none = first_copies changed preserve none
no_copies None changed preserve none = first_copies changed preserve none

fileless_of : (known : List ℕ → Bool) (e : Option Entry) → is_file e ≡ false → after.standing_of known e ≡ fileless (is_none e)
fileless_of known (Some (Dir m f)) h = refl
fileless_of known (Some (File m b)) h = cc
fileless_of known (Some (Link g)) h = refl
fileless_of known (Some Other) h = refl
fileless_of known None h = refl

no_bytes : (known : List ℕ → Bool) (e : Option Entry) → is_file e ≡ false → has_bytes known e ≡ false
no_bytes known (Some (Dir m f)) h = refl
no_bytes known (Some (File m b)) h = cc
no_bytes known (Some (Link g)) h = refl
no_bytes known (Some Other) h = refl
no_bytes known None h = refl

-- what is no file isn't saved
unsaved_other : (r : Request) (was new : Option Wanted) (e : Option Entry) → is_file e ≡ false → saved_as (naming r) was new e ≡ false
unsaved_other r was (Some (WantDir m)) e h = refl
unsaved_other r was (Some (WantLink target)) e h = refl
unsaved_other r was (Some (WantHard to)) e h = refl
unsaved_other r was None e h = refl
unsaved_other r was (Some (WantFile payload m preserve)) e h =
    let copied = ap (λ (s : Standing). copies (at_event (after.event_of was) (after.has_new_payload was payload) preserve s)) (fileless_of (is_payload_of (after.known_of was payload)) e h)
    ∙ no_copies was (after.has_new_payload was payload) preserve (is_none e) in
    or_from _ _ (no_bytes (is_payload_of payload) e h) (other (after.was_equal was (WantFile payload m preserve)) copied)
  where
    other : (b : Bool) → copies (after.answer_at (naming r) was payload preserve e) ≡ false → (not b && copies (after.answer_at (naming r) was payload preserve e)) ≡ false
    other true k = refl
    other false k = k

-- where no rule asked what stands, a file is made only for a hard link, where none stands
unasked_unsaved : (r : Request) (t : Image) (p : List ℕ) (w : Option Wanted) → r.new.at p ≡ w → is_unasked (r.old.at p) w ≡ true → makes (after.supported_as (naming r) t p w) ≡ true → saved_as (naming r) (r.old.at p) w (t.look p) ≡ false
unasked_unsaved r t p (Some (WantDir m)) is same made = refl
unasked_unsaved r t p (Some (WantLink target)) is same made = refl
unasked_unsaved r t p (Some (WantHard to)) is same made = refl
unasked_unsaved r t p None is same made = refl
unasked_unsaved r t p (Some (WantFile payload m preserve)) is same made = unsaved_other r (r.old.at p) w (t.look p) none
  where
    w : Option Wanted
    w = Some (WantFile payload m preserve)

    alone : Change → Bool
    alone own = makes (cond (after.needs_file (naming r) t p) (Laid (File m (r.bytes payload))) own)

    own : after.itself (naming r) t p ≡ Kept
    own = ap (λ (o : Option Wanted). after.by_itself (naming r) (r.old.at p) o (t.look p)) is ∙ ap (λ (b : Bool). cond b Kept (after.new_change (naming r) (r.old.at p) (WantFile payload m preserve) (t.look p))) same

    here : makes (after.linked_as (naming r) t p (r.new.at p)) ≡ true → alone Kept ≡ true
    here h = sym (ap alone own) ∙ sym (ap (λ (o : Option Wanted). makes (after.linked_as (naming r) t p o)) is) ∙ h

    needed : (b : Bool) → makes (cond b (Laid (File m (r.bytes payload))) Kept) ≡ true → b ≡ true
    needed true h = refl
    needed false h = h

    none : is_file (t.look p) ≡ false
    none =
        let rest = and_parts (is_none (r.over.at p)) _ (needed (after.needs_file (naming r) t p) (here made)) in
        not_true (is_file (t.look p)) (and_parts (not (is_file (t.look p))) _ rest.1).0

-- where no rule asked, what stands must be salvaged where something is made
pub unasked_spared : (r : Request) (t : Image) (p : List ℕ) → is_unasked (r.old.at p) (r.new.at p) ≡ true → makes (after.supported (naming r) t p) ≡ true → false ≡ needs_no_salvage (naming r) t p
unasked_spared r t p same made = sym (or_from _ _ (unasked_unsaved r t p (r.new.at p) refl same made) (ap (λ (b : Bool). not b && (is_file (t.look p) && after.given_up_as is_payload_of (r.old.at p) (t.look p))) same))

-- and so must what is no file
pub other_spared : (r : Request) (t : Image) (p : List ℕ) → is_file (t.look p) ≡ false → false ≡ needs_no_salvage (naming r) t p
other_spared r t p other = sym (or_from _ _ (unsaved_other r (r.old.at p) (r.new.at p) (t.look p) other) (none (is_unasked (r.old.at p) (r.new.at p))))
  where
    given : Bool
    given = after.given_up_as is_payload_of (r.old.at p) (t.look p)

    none : (b : Bool) → (not b && (is_file (t.look p) && given)) ≡ false
    none true = refl
    none false = ap (λ (x : Bool). x && given) other

-- so must all but a file that is seen
pub unseen_spared : (r : Request) (t : Image) (p : List ℕ) (was new : Option Wanted) (s : Stands) → was ≡ r.old.at p → new ≡ r.new.at p → s ≡ stands_of is_payload_of was new (t.look p) → makes (after.supported (naming r) t p) ≡ true
    → ((m : ℕ) (known fresh : Bool) → s ≡ stands.File m known fresh → ⊥) → false ≡ needs_no_salvage (naming r) t p
unseen_spared r t p was new s at by looked made never = go (is_unasked was new) refl looked
  where
    unseen_file : (e : Option Entry) → s ≡ seen_of is_payload_of was new e → is_file e ≡ false
    unseen_file (Some (Dir m f)) h = refl
    unseen_file (Some (File m b)) h = absurd (never m _ _ h)
    unseen_file (Some (Link g)) h = refl
    unseen_file (Some Other) h = refl
    unseen_file None h = refl

    go : (b : Bool) → is_unasked was new ≡ b → s ≡ cond b stands.Unasked (seen_of is_payload_of was new (t.look p)) → false ≡ needs_no_salvage (naming r) t p
    go true same h = unasked_spared r t p (ap (λ (o : Option Wanted). is_unasked o (r.new.at p)) (sym at) ∙ ap (is_unasked was) (sym by) ∙ same) made
    go false asked h = other_spared r t p (unseen_file (t.look p) h)

-- what is made, outside the folder of the records and of what needs no salvage
abbrev pub destroyed_by : Bool → Bool → Bool → Bool
destroyed_by made records spared = made && (not records && not spared)

by_parts : (made records saved gives : Bool) → destroyed_by made records (saved || gives) ≡ ((made && (not records && not saved)) && not gives)
by_parts false records saved gives = refl
by_parts true true saved gives = refl
by_parts true false true gives = refl
by_parts true false false gives = refl

pub destroyed_here : (r : Request) (t : Image) (p : List ℕ) (made records spared : Bool) → made ≡ makes (after.supported (naming r) t p) → records ≡ covers records_name p → (made ≡ true → spared ≡ needs_no_salvage (naming r) t p)
    → destroyed_by made records spared ≡ destroys_else (naming r) t p
destroyed_here r t p made records spared is at held =
    go made held
    ∙ ap (λ (b : Bool). destroyed_by b records (needs_no_salvage (naming r) t p)) is
    ∙ ap (λ (b : Bool). destroyed_by (makes (after.supported (naming r) t p)) b (needs_no_salvage (naming r) t p)) at
    ∙ by_parts (makes (after.supported (naming r) t p)) (covers records_name p) (saved_as (naming r) (r.old.at p) (r.new.at p) (t.look p)) (gives_file (naming r) t p)
  where
    go : (m : Bool) → (m ≡ true → spared ≡ needs_no_salvage (naming r) t p) → destroyed_by m records spared ≡ destroyed_by m records (needs_no_salvage (naming r) t p)
    go true h = ap (λ (b : Bool). destroyed_by true records b) (h refl)
    go false h = refl

pub none_both : (b : Bool) → b ≡ true → b ≡ false → ⊥
none_both b h k = let bad : true ≡ false = sym h ∙ k in cc

-- below a path without a row nothing is made
nothing_below : (r : Request) (t : Image) (rows : List Row) (said : List (Option Said)) (q : List ℕ) → IsRequest r → IsTable r rows said → listed (row_paths rows) q ≡ false → after.holds_made (naming r) t q ≡ false
nothing_below r t rows said q good table apart = or_from _ _ (false_from_ne_true _ wanted) (false_from_ne_true _ spoken)
  where
    wanted : list_any (λ x. is_below q x && makes (after.linked (naming r) t x)) r.new.keys ≡ true → ⊥
    wanted h =
        let x = any_of (λ y. is_below q y && makes (after.linked (naming r) t y)) r.new.keys h in
        let below = (and_parts (is_below q x.path) (makes (after.linked (naming r) t x.path)) x.holds).0 in
        let dir = good.new_want.dirs q x.path below (good.new_want.keyed x.path ∙ x.in_list) in
        none_both (is_dir_wanted (r.new.at q)) dir (ap is_dir_wanted (is_bare r rows said q table apart).new)

    spoken : list_any (λ x. is_below q x && lays (r.over.at x)) r.over.keys ≡ true → ⊥
    spoken h =
        let x = any_of (λ y. is_below q y && lays (r.over.at y)) r.over.keys h in
        let below = (and_parts (is_below q x.path) (lays (r.over.at x.path)) x.holds).0 in
        let first = or_none (is_some (r.old.at q)) (is_some (r.new.at q) || listed r.over.keys q) (sym (table.covers q) ∙ apart) in
        let second = or_none (is_some (r.new.at q)) (listed r.over.keys q) first.0 in
        none_both (listed r.over.keys q) (good.over_fits.closed q x.path below x.in_list) second.0

-- so nothing is made at a path without a row
pub destroyed_none : (r : Request) (t : Image) (rows : List Row) (said : List (Option Said)) (q : List ℕ) → IsRequest r → IsTable r rows said → listed (row_paths rows) q ≡ false → destroys_else (naming r) t q ≡ false
destroyed_none r t rows said q good table apart =
    let bare = is_bare r rows said q table apart in
    let unsupported : after.is_support (naming r) t q ≡ false = and_second (is_none (r.over.at q)) (not (is_dir (t.look q)) || after.is_taken (naming r) t q) _ (nothing_below r t rows said q good table apart) in
    let unmade : makes (after.supported (naming r) t q) ≡ false =
    ap (λ (o : Option Wanted). makes (after.supported_as (naming r) t q o)) bare.new
    ∙ ap (λ (b : Bool). makes (cond b (Laid (Dir 493 false)) (after.linked (naming r) t q))) unsupported
    ∙ unwanted_makes r t q bare.new in
    ap (λ (b : Bool). (b && (not (covers records_name q) && not (saved_as (naming r) (r.old.at q) (r.new.at q) (t.look q)))) && not (gives_file (naming r) t q)) unmade
