-- What a pointer spells is read back, and leads on.
use Rattle.std.proofs.Common.{◌≡◌, ℕ, Bool, true, false, cond, eqb, List, [], ◌∷◌, ◌++◌, Option, Some, None, option_and_then, refl, sym, ap, ◌∙◌, append_assoc, append-nil}
use Rattle.std.specs.List.{flat_map, AllByRecursion}
use Rattle.std.proofs.lemmas.Bool.{eqb-true}
use Rattle.serde_json.specs.Data.{Data, Members, object}
use Rattle.serde_json.specs.Find.{get_member, unescape, step, walk}
use Rattle.serde_json.specs.Find as find
use Rattle.ips_catalog.specs.Pointer.{escaped, pointer, LeadsOn}

plain_first : (x : ℕ) (bytes : List ℕ) → eqb x 126 ≡ false → unescape (x ∷ bytes) ≡ x ∷ unescape bytes
unfolding unescape
plain_first x [] other = refl
plain_first x (y ∷ bytes) other = rw other refl

pub escaped_back : (key : List ℕ) → unescape (flat_map escaped key) ≡ key
unfolding unescape
escaped_back [] = refl
escaped_back (b ∷ key) = go (eqb b 126) (eqb b 47) refl refl (escaped_back key)
  where
    go : (x y : Bool) → eqb b 126 ≡ x → eqb b 47 ≡ y → unescape (flat_map escaped key) ≡ key → unescape (cond x (126 ∷ 48 ∷ []) (cond y (126 ∷ 49 ∷ []) (b ∷ [])) ++ flat_map escaped key) ≡ b ∷ key
    go true y e f back = ap (λ (bs : List ℕ). 126 ∷ bs) back ∙ ap (λ (c : ℕ). c ∷ key) (sym (eqb-true b 126 e))
    go false true e f back = ap (λ (bs : List ℕ). 47 ∷ bs) back ∙ ap (λ (c : ℕ). c ∷ key) (sym (eqb-true b 47 f))
    go false false e f back = plain_first b (flat_map escaped key) e ∙ ap (λ (bs : List ℕ). b ∷ bs) back

-- no byte of a spelled key is a `/`
abbrev NoSlash : List ℕ → Type 0
NoSlash bytes = AllByRecursion (λ (b : ℕ). eqb b 47 ≡ false) bytes

no_slash : (key : List ℕ) → NoSlash (flat_map escaped key)
no_slash [] = tt
no_slash (b ∷ key) = go (eqb b 126) (eqb b 47) refl (no_slash key)
  where
    go : (x y : Bool) → eqb b 47 ≡ y → NoSlash (flat_map escaped key) → NoSlash (cond x (126 ∷ 48 ∷ []) (cond y (126 ∷ 49 ∷ []) (b ∷ [])) ++ flat_map escaped key)
    go true y f more = (refl, (refl, more))
    go false true f more = (refl, (refl, more))
    go false false f more = (f, more)

-- a part without `/` is read whole
walked : (part bytes rest : List ℕ) (d : Data) → NoSlash bytes → walk part (bytes ++ rest) d ≡ walk (part ++ bytes) rest d
unfolding walk
walked part [] rest d none = ap (λ (p : List ℕ). walk p rest d) (sym (append-nil part))
walked part (b ∷ bytes) rest d none =
    rw none.0 (walked (part ++ b ∷ []) bytes rest d none.1 ∙ ap (λ (p : List ℕ). walk p rest d) (append_assoc part (b ∷ []) bytes))

-- behind a part the other keys follow
others_follow : (part : List ℕ) (keys : List (List ℕ)) (d : Data) → walk part (pointer keys) d ≡ option_and_then (find.pointer (pointer keys)) (step part d)
unfolding walk
others_follow part [] d = whole (step part d)
  where
    whole : (o : Option Data) → o ≡ option_and_then (find.pointer []) o
    whole None = refl
    whole (Some x) = refl
others_follow part (key ∷ keys) d = refl

pub leads_on : (key : List ℕ) (keys : List (List ℕ)) (members : Members) → LeadsOn key keys members
unfolding walk
leads_on key keys members =
    walked [] (flat_map escaped key) (pointer keys) (object members) (no_slash key)
    ∙ others_follow (flat_map escaped key) keys (object members)
    ∙ ap (λ (k : List ℕ). option_and_then (find.pointer (pointer keys)) (get_member k members)) (escaped_back key)
