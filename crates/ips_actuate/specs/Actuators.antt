-- What the actuator of an image is run with as actions go and come (pkg(7), "Actuators").
use Rattle.std.specs.Prelude.{◌≡◌, ◌⊎◌, ◌↔◌, ℕ, List, [], ◌∷◌, ◌++◌, map, slice_get, Option, codes, Contains, option_and_then}
use Rattle.std.specs.List.Sorted.{IsStrictlySortedBy}
use Rattle.std.specs.Ordering.{nat_cmp}
use Rattle.std.specs.Cmp.Lexicographic.{slice_cmp}
use Rattle.ips_action.specs.Attrs.{values_of}
use Rattle.ips_action.specs.Action.{Fields, line_text, naming_key}

-- one of the actions has this canonical line
abbrev pub HasLine : List Fields → List ℕ → Type 0
HasLine actions line = (a : Fields) × Contains actions a × (line_text a ≡ line)

-- The action is one of the first, and none of the second has its line.
pub record IsDropped (old new : List Fields) (a : Fields) : Type 0 where
  pub stood : Contains old a
  pub gone : HasLine new (line_text a) → ⊥

-- the action goes, or it comes
abbrev pub IsChanged : List Fields → List Fields → Fields → Type 0
IsChanged old new a = IsDropped old new a ⊎ IsDropped new old a

-- the first value of the attribute that names the action; none where its kind has no such attribute
abbrev pub name_of : Fields → Option (List ℕ)
name_of a = option_and_then (λ key. slice_get (values_of key a.attrs) 0) (naming_key a.kind)

-- none of the actions has this one's kind and name
abbrev pub IsReplacedByNone : List Fields → Fields → Type 0
IsReplacedByNone actions a = (b : Fields) → Contains actions b → b.kind ≡ a.kind → name_of b ≡ name_of a → ⊥

-- The service is disabled: it is a `disable_fmri` of an action that goes and that none replaces.
pub record IsDisabled (old new : List Fields) (service : List ℕ) : Type 0 where
  pub action : Fields
  pub dropped : IsDropped old new action
  pub alone : IsReplacedByNone new action
  pub has : Contains (values_of (codes "disable_fmri") action.attrs) service

-- The service is asked for by this attribute: an action that goes or comes has it, and it isn't disabled.
pub record IsAskedFor (key : List ℕ) (old new : List Fields) (service : List ℕ) : Type 0 where
  pub action : Fields
  pub changed : IsChanged old new action
  pub has : Contains (values_of key action.attrs) service
  pub stays : IsDisabled old new service → ⊥

-- These are the services of which this holds, by their bytes, each once.
pub record AreServices (Holds : List ℕ → Type 0) (services : List (List ℕ)) : Type 0 where
  pub ascend : IsStrictlySortedBy (slice_cmp nat_cmp) services
  pub each : (service : List ℕ) → Contains services service ↔ Holds service

-- the actuator is run with the verb for each service
abbrev pub runs : List ℕ → List ℕ → List (List ℕ) → List (List (List ℕ))
runs program verb services = map (λ service. program ∷ verb ∷ service ∷ []) services

-- The words that the actuator is run with before and after a change of the image: `disable` and `suspend` before, and behind it
-- `enable` for what was suspended, `refresh` and `restart`.
pub record AreWords (program : List ℕ) (old new : List Fields) (before after : List (List (List ℕ))) : Type 0 where
  pub disabled : List (List ℕ)
  pub suspended : List (List ℕ)
  pub refreshed : List (List ℕ)
  pub restarted : List (List ℕ)
  pub are_disabled : AreServices (IsDisabled old new) disabled
  pub are_suspended : AreServices (IsAskedFor (codes "suspend_fmri") old new) suspended
  pub are_refreshed : AreServices (IsAskedFor (codes "refresh_fmri") old new) refreshed
  pub are_restarted : AreServices (IsAskedFor (codes "restart_fmri") old new) restarted
  pub words_before : before ≡ runs program (codes "disable") disabled ++ runs program (codes "suspend") suspended
  pub words_after : after ≡ runs program (codes "enable") suspended ++ (runs program (codes "refresh") refreshed ++ runs program (codes "restart") restarted)
