-- Steps, one row after another.
use Rattle.std.proofs.Common.{◌≡◌, ◌+◌, ◌<◌, ℕ, zero, suc, Bool, true, false, cond, List, [], ◌∷◌, ◌++◌, map, length, take, get_or, Option, Some, None, refl, sym, ◌∙◌, ap, subst, append_assoc, arith}
use Rattle.std.specs.List.{AllByRecursion}
use Rattle.std.proofs.lemmas.List.{append-nil, get_or_default, map-append}
use Rattle.ips_text.proofs.Lists.{take_item}
use Rattle.ips_outside.specs.Image.{Entry, Image}
use Rattle.ips_laying.specs.Laying as laying
use Rattle.ips_after.specs.After.{change_after, over_or, supported}
use Rattle.ips_after.specs.Change.{Change, Laid, Removed}
use Rattle.ips_after.specs.Request.{Request}
use Rattle.ips_change.specs.declared.change.Change.{Change as Told}
use Rattle.ips_change.specs.declared.change.Change.TheVariants as told
use Rattle.ips_change.specs.Told.{change_told, naming}
use Rattle.ips_change.specs.declared.survey.said.Said.{Said}
use Rattle.ips_change.specs.declared.survey.said.Said.TheVariants.{Lays, Takes}
use Rattle.ips_change.specs.survey.Said.{said_as}
use Rattle.ips_emptied.specs.order.Chosen.{path_in}
use Rattle.ips_emit.specs.declared.emitting.Emitted.{Emitted}
use Rattle.ips_emit.specs.Emitted.{IsEmitted, Provenance, Turn, provenances_told}
use Rattle.ips_image_steps.specs.draft.Drafting.{provenances_at, provenances_in, provenances_laid, provenances_of, turns_of}

-- what becomes of a path, by what is known of its row
pub turn_here : (r : Request) (t : Image) (e : List ℕ → Bool) (p : List ℕ) (gone : Bool) (c : Change) → gone ≡ e p → c ≡ supported (naming r) t p → cond gone Removed (over_or (r.over.at p) c) ≡ change_after (naming r) t e p
turn_here r t e p gone c marked is = ap (λ (b : Bool). cond b Removed (over_or (r.over.at p) c)) marked ∙ ap (λ (x : Change). cond (e p) Removed (over_or (r.over.at p) x)) is

pub turns_more : (r : Request) (t : Image) (e : List ℕ → Bool) (paths : List (List ℕ)) (order : List ℕ) (i place : ℕ) (turns : List Turn) (c : Change) → i < length order → place ≡ get_or order i place → c ≡ change_after (naming r) t e (path_in paths place)
    → (turns ++ turns_of r t e (map (path_in paths) (take i order))) ++ (path_in paths place, c) ∷ [] ≡ turns ++ turns_of r t e (map (path_in paths) (take (i + 1) order))
turns_more r t e paths order i place turns c lt is are =
    let turn : List ℕ → Turn = λ p. (p, change_after (naming r) t e p) in
    append_assoc turns (turns_of r t e (map (path_in paths) (take i order))) ((path_in paths place, c) ∷ [])
    ∙ ap (λ (x : Change). turns ++ (turns_of r t e (map (path_in paths) (take i order)) ++ (path_in paths place, x) ∷ [])) are
    ∙ ap (λ (l : List Turn). turns ++ l) (sym (map-append turn (map (path_in paths) (take i order)) (path_in paths place ∷ [])))
    ∙ ap (λ (l : List (List ℕ)). turns ++ turns_of r t e l) (sym (map-append (path_in paths) (take i order) (place ∷ [])))
    ∙ ap (λ (l : List ℕ). turns ++ turns_of r t e (map (path_in paths) l)) (sym (take_item order i place lt is))

in_append : (entries : List ℕ → Option laying.Laid) (paths : List (List ℕ)) (said : List (Option Said)) (changes : List Told) (emptied : List Bool) (xs ys : List ℕ)
    → provenances_in entries paths said changes emptied (xs ++ ys) ≡ provenances_in entries paths said changes emptied xs ++ provenances_in entries paths said changes emptied ys
in_append entries paths said changes emptied [] ys = refl
in_append entries paths said changes emptied (x ∷ xs) ys =
    ap (λ (l : List Provenance). provenances_of entries paths said changes emptied x ++ l) (in_append entries paths said changes emptied xs ys)
    ∙ sym (append_assoc (provenances_of entries paths said changes emptied x) (provenances_in entries paths said changes emptied xs) (provenances_in entries paths said changes emptied ys))

pub provenances_more : (entries : List ℕ → Option laying.Laid) (paths : List (List ℕ)) (said : List (Option Said)) (changes : List Told) (emptied : List Bool) (order : List ℕ) (i place : ℕ) (before more : List Provenance) → i < length order → place ≡ get_or order i place
    → more ≡ provenances_of entries paths said changes emptied place
    → (before ++ provenances_in entries paths said changes emptied (take i order)) ++ more ≡ before ++ provenances_in entries paths said changes emptied (take (i + 1) order)
provenances_more entries paths said changes emptied order i place before more lt is are =
    append_assoc before (provenances_in entries paths said changes emptied (take i order)) more
    ∙ ap (λ (l : List Provenance). before ++ (provenances_in entries paths said changes emptied (take i order) ++ l)) (are ∙ sym (append-nil (provenances_of entries paths said changes emptied place)))
    ∙ ap (λ (l : List Provenance). before ++ l) (sym (in_append entries paths said changes emptied (take i order) (place ∷ [])))
    ∙ ap (λ (l : List ℕ). before ++ provenances_in entries paths said changes emptied l) (sym (take_item order i place lt is))

-- ---- at a place

pub within_here : (xs : List ℕ) (n i d : ℕ) → i < length xs → AllByRecursion (λ k. k < n) xs → get_or xs i d < n
within_here [] n i d lt all = absurd (omega arith)
within_here (x ∷ xs) n zero d lt all = all.0
within_here (x ∷ xs) n (suc i) d lt all = within_here xs n i d (omega (arith, lt)) all.1

pub from_here : (entries : List ℕ → Option laying.Laid) (paths : List (List ℕ)) (said : List (Option Said)) (changes : List Told) (emptied : List Bool) (place : ℕ) (q : List ℕ) (one : Option Said) (change : Told) → place < length said → place < length changes
    → path_in paths place ≡ q → one ≡ get_or said place one → change ≡ get_or changes place change → provenances_at (get_or emptied place false) one (entries q) change ≡ provenances_of entries paths said changes emptied place
from_here entries paths said changes emptied place q one change lt less at is by =
    ap (λ (x : List ℕ). provenances_at (get_or emptied place false) one (entries x) change) (sym at)
    ∙ ap (λ (x : Option Said). provenances_at (get_or emptied place false) x (entries (path_in paths place)) change) (is ∙ get_or_default said place one None lt)
    ∙ ap (provenances_at (get_or emptied place false) (get_or said place None) (entries (path_in paths place))) (by ∙ get_or_default changes place change told.Kept less)

-- ---- one path

-- a path's last turn is this change, and its contents come from there
pub record Becomes (bytes : List ℕ → List ℕ) (gone : Bool) (said : Option Said) (o : Option (Option Entry)) (entry : Option laying.Laid) (change : Told) (c : Change) (from : List Provenance) : Type 0 where
  pub change_is : c ≡ cond gone Removed (over_or o (change_told bytes change))
  pub from_is : from ≡ provenances_at gone said entry change

pub gone_here : (bytes : List ℕ → List ℕ) (gone : Bool) (said : Option Said) (o : Option (Option Entry)) (entry : Option laying.Laid) (change : Told) → gone ≡ true → Becomes bytes gone said o entry change Removed []
gone_here bytes true said o entry change is = record { change_is = refl; from_is = refl }
gone_here bytes false said o entry change is = cc

pub taken_here : (bytes : List ℕ → List ℕ) (gone : Bool) (said : Option Said) (o : Option (Option Entry)) (entry : Option laying.Laid) (change : Told) → gone ≡ false → said ≡ Some Takes → said ≡ said_as o → Becomes bytes gone said o entry change Removed []
taken_here bytes gone said (Some None) entry change kept is are = rw (kept, is) (record { change_is = refl; from_is = refl })
taken_here bytes gone said None entry change kept is are = let bad : Some Takes ≡ None = sym is ∙ are in cc
taken_here bytes gone said (Some (Some e)) entry change kept is are = let bad : Some Takes ≡ Some Lays = sym is ∙ are in cc

pub own_here : (bytes : List ℕ → List ℕ) (gone : Bool) (said : Option Said) (o : Option (Option Entry)) (entry : Option laying.Laid) (change : Told) → gone ≡ false → said ≡ None → said ≡ said_as o → Becomes bytes gone said o entry change (change_told bytes change) (provenances_told change)
own_here bytes gone said None entry change kept is are = rw (kept, is) (record { change_is = refl; from_is = refl })
own_here bytes gone said (Some None) entry change kept is are = let bad : None ≡ Some Takes = sym is ∙ are in cc
own_here bytes gone said (Some (Some e)) entry change kept is are = let bad : None ≡ Some Lays = sym is ∙ are in cc

-- an entry is laid
pub record LaidHere (o : Option (Option Entry)) : Type 0 where
  pub entry : Entry
  pub is : o ≡ Some (Some entry)

pub laid_one : (said : Option Said) (o : Option (Option Entry)) → said ≡ Some Lays → said ≡ said_as o → LaidHere o
laid_one said (Some (Some e)) is are = record { entry = e; is = refl }
laid_one said None is are = let bad : Some Lays ≡ None = sym is ∙ are in cc
laid_one said (Some None) is are = let bad : Some Lays ≡ Some Takes = sym is ∙ are in cc

pub laid_here : (bytes : List ℕ → List ℕ) (gone : Bool) (said : Option Said) (o : Option (Option Entry)) (entry : Option laying.Laid) (change : Told) (e : Entry) → gone ≡ false → said ≡ Some Lays → o ≡ Some (Some e) → Becomes bytes gone said o entry change (Laid e) (provenances_laid entry)
laid_here bytes gone said o entry change e kept is at = rw (kept, is, at) (record { change_is = refl; from_is = refl })

pub emitted_as : (bytes : List ℕ → List ℕ) (t : Image) (turns : List Turn) (provenances : List Provenance) (p : List ℕ) (c d : Change) (from to : List Provenance) (e : Emitted) → c ≡ d → from ≡ to → IsEmitted bytes t (turns ++ (p, c) ∷ []) (provenances ++ from) e → IsEmitted bytes t (turns ++ (p, d) ∷ []) (provenances ++ to) e
emitted_as bytes t turns provenances p c d from to e is are emitted =
    subst (λ (x : Change). IsEmitted bytes t (turns ++ (p, x) ∷ []) (provenances ++ to) e) is (subst (λ (l : List Provenance). IsEmitted bytes t (turns ++ (p, c) ∷ []) (provenances ++ l) e) are emitted)
