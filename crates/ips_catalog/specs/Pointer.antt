-- JSON pointers (RFC 6901): where in a JSON value a part of it stands.
use Rattle.std.specs.Prelude.{◌≡◌, ℕ, ◌==◌, List, [], ◌∷◌, if◌then◌else◌, option_and_then}
use Rattle.std.specs.List.{flat_map}
use Rattle.serde_json.specs.Data.{Members, object}
use Rattle.serde_json.specs.Find as find

-- a byte of a key as a pointer writes it: `~0` for `~`, `~1` for `/`, and any other byte as it is
abbrev pub escaped : ℕ → List ℕ
escaped b = if b == 126 then 126 ∷ 48 ∷ [] else (if b == 47 then 126 ∷ 49 ∷ [] else b ∷ [])

-- the pointer to what stands at these keys, one within another: each key behind a `/`
abbrev pub pointer : List (List ℕ) → List ℕ
pointer keys = flat_map (λ key. 47 ∷ flat_map escaped key) keys

-- followed from an object, as `serde_json` follows pointers, the pointer to keys leads to the member at the first key, and from there on by the others
abbrev pub LeadsOn : List ℕ → List (List ℕ) → Members → Type 0
LeadsOn key keys members = find.pointer (pointer (key ∷ keys)) (object members) ≡ option_and_then (find.pointer (pointer keys)) (find.get_member key members)
