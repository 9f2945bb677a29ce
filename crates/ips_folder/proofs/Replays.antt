-- A record of calls with one more.
use Rattle.std.proofs.Common.{◌≡◌, ◌⊎◌, inl, inr, ℕ, ◌≤◌, Bool, true, false, ◌&&◌, List, [], ◌∷◌, ◌++◌, length, take, drop, Result, Ok, Err, OnOk, OnErr, refl, subst, sym, ◌∙◌, ap, arith, length-append}
use Rattle.std.specs.List.{list_all}
use Rattle.std.proofs.lemmas.Bool.{cases_lt}
use Rattle.std.proofs.lemmas.List.{take_all, take-append-le, drop-append-le}
use Rattle.std.proofs.Math.Seq.{drop-length}
use Rattle.ips_outside.specs.Image.{Image}
use Rattle.ips_outside.specs.State.{State}
use Rattle.ips_folder.specs.declared.call.Call.{Call}
use Rattle.ips_folder.specs.declared.call.Call.TheVariants as call
use Rattle.ips_folder.specs.History.{Moment, begun, effect, replay, change_of, is_change, CanDo, CanAll, IsLeft, IsSynced}
use Rattle.ips_folder.specs.Memory.{Since}

pub replay_append : (calls more : List Call) (m : Moment) → replay (calls ++ more) m ≡ replay more (replay calls m)
replay_append [] more m = refl
replay_append (d ∷ calls) more m = replay_append calls more (effect d m)

pub replay_push : (calls : List Call) (c : Call) (m : Moment) → replay (calls ++ c ∷ []) m ≡ effect c (replay calls m)
replay_push calls c m = replay_append calls (c ∷ []) m

-- what a call leaves depends on what is held alone
pub effect_held : (c : Call) (m : Moment) → (effect c m).state.held ≡ change_of c m.state.held
effect_held (call.MakeDir path mode) m = refl
effect_held (call.MakeFile path) m = refl
effect_held (call.Append path bytes) m = refl
effect_held (call.MakeLink path target) m = refl
effect_held (call.MakeHard path to) m = refl
effect_held (call.Remove path) m = refl
effect_held (call.SetMode path mode) m = refl
effect_held call.Sync m = refl

-- a call that changes something leaves what was safe
pub effect_safe : (c : Call) (m : Moment) → is_change c ≡ true → (effect c m).safe ≡ m.safe
effect_safe (call.MakeDir path mode) m is = refl
effect_safe (call.MakeFile path) m is = refl
effect_safe (call.Append path bytes) m is = refl
effect_safe (call.MakeLink path target) m is = refl
effect_safe (call.MakeHard path to) m is = refl
effect_safe (call.Remove path) m is = refl
effect_safe (call.SetMode path mode) m is = refl
effect_safe call.Sync m is = cc

pub left_push : (first now later : Image) (calls : List Call) (c : Call) → IsLeft first now calls → later ≡ change_of c now → IsLeft first later (calls ++ c ∷ [])
left_push first now later calls c left is = record {
  held = ap (λ (m : Moment). m.state.held) (replay_push calls c (begun first)) ∙ effect_held c (replay calls (begun first)) ∙ ap (change_of c) left.held ∙ sym is;
}

-- whatever a call on the record answers
pub left_after : {E : Type 0} (r : Result (Unit {0}) E) (first now later : Image) (calls longer : List Call) (c : Call) → IsLeft first now calls
    → OnOk r (later ≡ change_of c now) → OnOk r (longer ≡ calls ++ c ∷ []) → OnErr r (later ≡ now) → OnErr r (longer ≡ calls) → IsLeft first later longer
left_after (Ok u) first now later calls longer c left is pushed as_before same = subst (IsLeft first later) (sym pushed) (left_push first now later calls c left is)
left_after (Err e) first now later calls longer c left is pushed as_before same = subst (IsLeft first later) (sym same) (subst (λ (t : Image). IsLeft first t calls) (sym as_before) left)

pub sync_left : {E : Type 0} (r : Result (Unit {0}) E) (first now : Image) (calls longer : List Call) → IsLeft first now calls → OnOk r (longer ≡ calls ++ call.Sync ∷ []) → OnErr r (longer ≡ calls) → IsLeft first now longer
sync_left {E = E} (Ok u) first now calls longer left pushed same = left_after {E = E} (Ok u) first now now calls longer call.Sync left refl pushed tt tt
sync_left {E = E} (Err e) first now calls longer left pushed same = left_after {E = E} (Err e) first now now calls longer call.Sync left tt tt refl same

-- the calls could be made, and one more
pub could_push : (calls : List Call) (c : Call) (m : Moment) → CanAll calls m.state.held → CanDo c (replay calls m).state.held → CanAll (calls ++ c ∷ []) m.state.held
could_push [] c m all can = (can, tt)
could_push (d ∷ calls) c m all can =
    let later : CanAll calls (effect d m).state.held = subst (CanAll calls) (sym (effect_held d m)) all.1 in
    (all.0, subst (CanAll (calls ++ c ∷ [])) (effect_held d m) (could_push calls c (effect d m) later can))

pub could_after : {E : Type 0} (r : Result (Unit {0}) E) (first now : Image) (calls longer : List Call) (c : Call) → IsLeft first now calls → CanAll calls first → CanDo c now
    → OnOk r (longer ≡ calls ++ c ∷ []) → OnErr r (longer ≡ calls) → CanAll longer first
could_after (Ok u) first now calls longer c left all can pushed same = subst (λ (l : List Call). CanAll l first) (sym pushed) (could_push calls c (begun first) all (subst (CanDo c) (sym left.held) can))
could_after (Err e) first now calls longer c left all can pushed same = subst (λ (l : List Call). CanAll l first) (sym same) all

all_push : (calls : List Call) (c : Call) → list_all is_change calls ≡ true → is_change c ≡ true → list_all is_change (calls ++ c ∷ []) ≡ true
all_push [] c all is = rw is refl
all_push (d ∷ calls) c all is = grind (arith, all_push calls c)

drop_push : (n : ℕ) (calls : List Call) (c : Call) → n ≤ length calls → drop n (calls ++ c ∷ []) ≡ drop n calls ++ c ∷ []
drop_push n calls c le = drop-append-le n calls (c ∷ []) le

pub synced_push : (first : Image) (calls : List Call) (n : ℕ) (c : Call) → is_change c ≡ true → IsSynced first calls n → IsSynced first (calls ++ c ∷ []) n
synced_push first calls n c is s = record {
  within = omega (arith, s.within, length-append calls (c ∷ []));
  safe = ap (λ (l : List Call). replay l (begun first)) (take-append-le n calls (c ∷ []) s.within) ∙ s.safe
      ∙ ap begun (sym (ap (λ (m : Moment). m.safe) (replay_push calls c (begun first)) ∙ effect_safe c (replay calls (begun first)) is));
  since = ap (list_all is_change) (drop_push n calls c s.within) ∙ all_push (drop n calls) c s.since is;
}

pub synced_after : {E : Type 0} (r : Result (Unit {0}) E) (first : Image) (calls longer : List Call) (n : ℕ) (c : Call) → is_change c ≡ true → IsSynced first calls n
    → OnOk r (longer ≡ calls ++ c ∷ []) → OnErr r (longer ≡ calls) → IsSynced first longer n
synced_after (Ok u) first calls longer n c is s pushed same = subst (λ (l : List Call). IsSynced first l n) (sym pushed) (synced_push first calls n c is s)
synced_after (Err e) first calls longer n c is s pushed same = subst (λ (l : List Call). IsSynced first l n) (sym same) s

-- with a sync
settled_push : (first : Image) (calls : List Call) → IsSynced first (calls ++ call.Sync ∷ []) (length (calls ++ call.Sync ∷ []))
settled_push first calls =
    let all = calls ++ call.Sync ∷ [] in
    let is = replay_push calls call.Sync (begun first) in
    record {
      within = omega arith;
      safe = ap (λ (l : List Call). replay l (begun first)) (take_all (length all) all (omega arith)) ∙ is ∙ ap begun (sym (ap (λ (m : Moment). m.safe) is));
      since = ap (list_all is_change) (drop-length all);
    }

pub settled_after : {E : Type 0} (r : Result (Unit {0}) E) (first : Image) (calls longer : List Call) (n m : ℕ) → IsSynced first calls n
    → OnOk r (longer ≡ calls ++ call.Sync ∷ []) → OnOk r (m ≡ length longer) → OnErr r (longer ≡ calls) → OnErr r (m ≡ n) → IsSynced first longer m
settled_after (Ok u) first calls longer n m s pushed counted same kept =
    subst (IsSynced first longer) (sym counted) (subst (λ (l : List Call). IsSynced first l (length l)) (sym pushed) (settled_push first calls))
settled_after (Err e) first calls longer n m s pushed counted same kept = subst (IsSynced first longer) (sym kept) (subst (λ (l : List Call). IsSynced first l n) (sym same) s)

-- the states since a moment are the earlier ones and the last
pub since_push : (calls : List Call) (c : Call) (first : Moment) (t : ℕ) (s : State) → Since (calls ++ c ∷ []) first t s → Since calls first t s ⊎ (s ≡ (replay (calls ++ c ∷ []) first).state)
since_push calls c first t s was = elim (cases_lt (length calls) was.at) [
  | inl past ↦ let all : length (calls ++ c ∷ []) ≤ was.at = omega (arith, length-append calls (c ∷ [])) in inr (was.is ∙ ap (λ (l : List Call). (replay l first).state) (take_all was.at (calls ++ c ∷ []) all))
  | inr within ↦ inl (record { at = was.at; low = was.low; high = within; is = was.is ∙ ap (λ (l : List Call). (replay l first).state) (take-append-le was.at calls (c ∷ []) within) })
]

-- a longer record has the older states
pub since_kept : (calls : List Call) (c : Call) (first : Moment) (t : ℕ) (s : State) → Since calls first t s → Since (calls ++ c ∷ []) first t s
since_kept calls c first t s was = record {
  at = was.at;
  low = was.low;
  high = omega (arith, was.high, length-append calls (c ∷ []));
  is = was.is ∙ ap (λ (l : List Call). (replay l first).state) (sym (take-append-le was.at calls (c ∷ []) was.high));
}
