-- The record of drivers needs the driver actions alone.
use Rattle.std.proofs.Common.{◌≡◌, ◌∙◌, ◌++◌, ◌∷◌, [], ◌⊎◌, inl, inr, ℕ, zero, suc, ◌<◌, Bool, true, false, cond, List, map, filter, length, get_or, refl, sym, ap, subst, arith}
use Rattle.std.specs.Prelude.{◌↔◌, Contains}
use Rattle.std.proofs.lemmas.List.Elements.{Contains-append_right, filter-append}
use Rattle.std.proofs.lemmas.List.{map-append}
use Rattle.ips_action.specs.declared.kind.ActionKind.TheVariants as kind
use Rattle.ips_action.specs.Action.{Fields}
use Rattle.ips_conflict.specs.declared.placed.Placed.{Placed}
use Rattle.ips_metafiles.specs.Records.{IsDriverLine, IsDrivers}
use Rattle.ips_delivered.specs.delivered.Kept.{is_driver}

-- The actions of a list.
abbrev pub actions_of : List Placed → List Fields
actions_of xs = map (λ p. p.action) xs

-- The driver actions of a list.
abbrev pub drivers_of : List Placed → List Placed
drivers_of xs = filter (λ p. is_driver p.action.kind) xs

cases : (x : Fields) (xs : List Fields) (a : Fields) → Contains (x ∷ xs) a → (x ≡ a) ⊎ Contains xs a
cases x xs a h = go h.0 h.1 h.2
  where
    go : (k : ℕ) → k < length (x ∷ xs) → get_or (x ∷ xs) k a ≡ a → (x ≡ a) ⊎ Contains xs a
    go zero lt is = inl is
    go (suc k) lt is = inr (k, omega (arith, lt), is)

later : (x : Fields) (xs : List Fields) (a : Fields) → Contains xs a → Contains (x ∷ xs) a
later x xs a h = Contains-append_right (x ∷ []) xs a h

driver_in : (xs : List Placed) (a : Fields) → Contains (actions_of (drivers_of xs)) a → Contains (actions_of xs) a
driver_in [] a h = h
driver_in (x ∷ xs) a h = go (is_driver x.action.kind) (driver_in xs a) h
  where
    go : (t : Bool) → (Contains (actions_of (drivers_of xs)) a → Contains (actions_of xs) a) → Contains (actions_of (cond t (x ∷ drivers_of xs) (drivers_of xs))) a → Contains (actions_of (x ∷ xs)) a
    go true rest h = elim (cases x.action (actions_of (drivers_of xs)) a h) [ inl is ↦ (0, omega arith, is) | inr w ↦ later x.action (actions_of xs) a (rest w) ]
    go false rest h = later x.action (actions_of xs) a (rest h)

driver_back : (xs : List Placed) (a : Fields) → a.kind ≡ kind.Driver → Contains (actions_of xs) a → Contains (actions_of (drivers_of xs)) a
driver_back [] a at h = h
driver_back (x ∷ xs) a at h = elim (cases x.action (actions_of xs) a h) [
  | inl is ↦
      let passes : is_driver x.action.kind ≡ true = ap (λ (f : Fields). is_driver f.kind) is ∙ ap is_driver at in
      subst (λ (t : Bool). Contains (actions_of (cond t (x ∷ drivers_of xs) (drivers_of xs))) a) (sym passes) (0, omega arith, is)
  | inr w ↦ go (is_driver x.action.kind) (driver_back xs a at w)
]
  where
    go : (t : Bool) → Contains (actions_of (drivers_of xs)) a → Contains (actions_of (cond t (x ∷ drivers_of xs) (drivers_of xs))) a
    go true w = later x.action (actions_of (drivers_of xs)) a w
    go false w = w

line_same : (xs : List Placed) (line : List ℕ) → IsDriverLine (actions_of (drivers_of xs)) line ↔ IsDriverLine (actions_of xs) line
line_same xs line = (
  λ h. record { action = h.action; stands = driver_in xs h.action h.stands; driver = h.driver; line_is = h.line_is },
  λ h. record { action = h.action; stands = driver_back xs h.action h.driver h.stands; driver = h.driver; line_is = h.line_is },
)

pub drivers_are : (xs : List Placed) (bytes : List ℕ) → IsDrivers (actions_of (drivers_of xs)) bytes → IsDrivers (actions_of xs) bytes
drivers_are xs bytes h = record {
  lines = h.lines;
  ascend = h.ascend;
  each = λ line. (λ w. (line_same xs line).0 ((h.each line).0 w), λ w. (h.each line).1 ((line_same xs line).1 w));
  written = h.written;
}

one_driver : (p : Placed) (t : Bool) → actions_of (cond t (p ∷ []) []) ≡ cond t (p.action ∷ []) []
one_driver p true = refl
one_driver p false = refl

pub drivers_more : (xs : List Placed) (p : Placed) → actions_of (drivers_of (xs ++ p ∷ [])) ≡ actions_of (drivers_of xs) ++ cond (is_driver p.action.kind) (p.action ∷ []) []
drivers_more xs p =
    ap actions_of (filter-append (λ (q : Placed). is_driver q.action.kind) xs (p ∷ []))
    ∙ map-append (λ (q : Placed). q.action) (drivers_of xs) (drivers_of (p ∷ []))
    ∙ ap (λ (l : List Fields). actions_of (drivers_of xs) ++ l) (one_driver p (is_driver p.action.kind))
