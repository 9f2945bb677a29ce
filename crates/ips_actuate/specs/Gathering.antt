-- Sets of texts, and what is gathered in them. Only the search for services uses it.
use Rattle.std.specs.Prelude.{◌≡◌, ◌⊎◌, ◌↔◌, ℕ, List, [], ◌∷◌, ◌++◌, Option, Some, None, Contains, codes}
use Rattle.std.specs.BTreeSet.{BTreeSet}
use Rattle.ips_action.specs.Attrs.{values_of}
use Rattle.ips_action.specs.Kind.{kind_name}
use Rattle.ips_action.specs.Action.{Fields, line_text}
use Rattle.ips_actuate.specs.declared.services.Services.{Services}
use Rattle.ips_actuate.specs.Actuators.{name_of, IsDisabled, IsAskedFor}

-- A set of texts.
abbrev pub TextSet : Type 0
TextSet = BTreeSet (List ℕ)

-- The text isn't in the set.
abbrev pub Lacks : TextSet → List ℕ → Type 0
Lacks set text = Contains set.keys text → ⊥

-- One of the items gives the text.
abbrev pub Gives : {X : Type 0} → (X → List ℕ → Type 0) → List X → List ℕ → Type 0
Gives {X} P items text = (x : X) × Contains items x × P x text

-- The set has just the texts of which this holds.
abbrev pub IsSetOf : (List ℕ → Type 0) → TextSet → Type 0
IsSetOf Holds set = (text : List ℕ) → Contains set.keys text ↔ Holds text

-- The set now has what it had, and the texts of which this holds.
abbrev pub IsGrown : (List ℕ → Type 0) → TextSet → TextSet → Type 0
IsGrown Holds old new = (text : List ℕ) → Contains new.keys text ↔ (Contains old.keys text ⊎ Holds text)

-- A blank and the name, where there is one.
abbrev pub name_text : Option (List ℕ) → List ℕ
name_text None = []
name_text (Some name) = 32 ∷ name

-- The kind and the name of an action in one text.
abbrev pub key_text : Fields → List ℕ
key_text a = kind_name a.kind ++ name_text (name_of a)

-- One of the actions has this kind and name.
abbrev pub HasKey : List Fields → List ℕ → Type 0
HasKey = Gives (λ a key. key_text a ≡ key)

-- The action disables the service, where these are the lines and the keys of the new actions.
abbrev pub Disables : TextSet → TextSet → Fields → List ℕ → Type 0
Disables lines keys a service = Lacks lines (line_text a) × Lacks keys (key_text a) × Contains (values_of (codes "disable_fmri") a.attrs) service

-- The action asks for the service by this attribute, where these are the lines on the other side and the disabled services.
abbrev pub Asks : List ℕ → TextSet → TextSet → Fields → List ℕ → Type 0
Asks key lines disabled a service = Lacks lines (line_text a) × Contains (values_of key a.attrs) service × Lacks disabled service

-- The services are those that the change is about.
pub record AreFound (old new : List Fields) (s : Services) : Type 0 where
  pub disabled : IsSetOf (IsDisabled old new) s.disabled
  pub suspended : IsSetOf (IsAskedFor (codes "suspend_fmri") old new) s.suspended
  pub refreshed : IsSetOf (IsAskedFor (codes "refresh_fmri") old new) s.refreshed
  pub restarted : IsSetOf (IsAskedFor (codes "restart_fmri") old new) s.restarted
