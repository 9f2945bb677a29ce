-- The places of a repository's files stand apart.
use Rattle.std.proofs.Common.{◌≡◌, ℕ, Bool, true, false, cond, ◌&&◌, eqb, List, [], ◌∷◌, ◌++◌, take, Option, Some, None, refl, sym, ap, subst, ◌∙◌, append_assoc}
use Rattle.std.specs.Prelude.{codes}
use Rattle.std.specs.List.{AllByRecursion}
use Rattle.std.proofs.lemmas.Bool.{and_parts, eqb-true, eq-eqb}
use Rattle.ips_text.specs.Ancestry.{covers, parent, behind}
use Rattle.ips_steps.proofs.Lists.{clash}
use Rattle.ips_text.specs.Quote.{quoted}
use Rattle.ips_digest.specs.Name.{spelling}
use Rattle.ips_digest.specs.declared.name.PayloadName.{PayloadName}
use Rattle.ips_fmri.specs.Version.{Parts, version_text}
use Rattle.ips_repo.specs.Places.{publisher_place, catalog_place, manifest_place, payload_place}

-- no byte is a `/`
abbrev pub NoSlash : List ℕ → Type 0
NoSlash bytes = AllByRecursion (λ (b : ℕ). eqb b 47 ≡ false) bytes

pub no : {G : Type 0} → false ≡ true → G
no e = absurd cc

-- parts before a `/` are the same where one path is at or above the other
pub covers_split : (x y p q : List ℕ) → NoSlash x → NoSlash y → covers (x ++ 47 ∷ p) (y ++ 47 ∷ q) ≡ true → (x ≡ y) × (covers p q ≡ true)
covers_split [] [] p q hx hy h = (refl, h)
covers_split [] (b ∷ y) p q hx hy h =
    let same : 47 ≡ b = eqb-true 47 b (and_parts (eqb 47 b) (covers p (y ++ 47 ∷ q)) h).0 in
    clash (eqb b 47) (subst (λ (c : ℕ). eqb c 47 ≡ true) same refl) hy.0
covers_split (a ∷ x) [] p q hx hy h = clash (eqb a 47) (and_parts (eqb a 47) (covers (x ++ 47 ∷ p) q) h).0 hx.0
covers_split (a ∷ x) (b ∷ y) p q hx hy h =
    let parts = and_parts (eqb a b) (covers (x ++ 47 ∷ p) (y ++ 47 ∷ q)) h in
    let same : a ≡ b = eqb-true a b parts.0 in
    let rest = covers_split x y p q hx.1 hy.1 parts.1 in
    (ap (λ (c : ℕ). c ∷ x) same ∙ ap (λ (z : List ℕ). b ∷ z) rest.0, rest.1)

pub covers_last : (x y : List ℕ) → NoSlash y → covers x y ≡ true → x ≡ y
covers_last [] [] hy h = refl
covers_last [] (b ∷ y) hy h = clash (eqb b 47) h hy.0
covers_last (a ∷ x) [] hy h = absurd cc
covers_last (a ∷ x) (b ∷ y) hy h =
    let parts = and_parts (eqb a b) (covers x y) h in
    let same : a ≡ b = eqb-true a b parts.0 in
    ap (λ (c : ℕ). c ∷ x) same ∙ ap (λ (z : List ℕ). b ∷ z) (covers_last x y hy.1 parts.1)

-- the same paths, part by part
abbrev pub payload_parts : List ℕ → PayloadName → List ℕ
payload_parts publisher m = codes "publisher/" ++ (publisher ++ (47 ∷ (codes "file/" ++ (take 2 (spelling m) ++ (47 ∷ spelling m)))))

abbrev pub manifest_parts : List ℕ → List ℕ → Parts → List ℕ
manifest_parts publisher stem version = codes "publisher/" ++ (publisher ++ (47 ∷ (codes "pkg/" ++ (quoted stem ++ (47 ∷ quoted (version_text version))))))

pub payload_form : (publisher : List ℕ) (m : PayloadName) → payload_place publisher m ≡ payload_parts publisher m
payload_form publisher m =
    append_assoc (publisher_place publisher ++ codes "/file/") (take 2 (spelling m)) (47 ∷ spelling m)
    ∙ append_assoc (publisher_place publisher) (codes "/file/") (take 2 (spelling m) ++ (47 ∷ spelling m))

pub manifest_form : (publisher stem : List ℕ) (version : Parts) → manifest_place publisher stem version ≡ manifest_parts publisher stem version
manifest_form publisher stem version =
    append_assoc (publisher_place publisher ++ codes "/pkg/") (quoted stem) (47 ∷ quoted (version_text version))
    ∙ append_assoc (publisher_place publisher) (codes "/pkg/") (quoted stem ++ (47 ∷ quoted (version_text version)))

pub covers_as : (x y p q : List ℕ) → x ≡ p → y ≡ q → covers x y ≡ true → covers p q ≡ true
covers_as x y p q e f h = subst (λ (z : List ℕ). covers z q ≡ true) e (subst (λ (z : List ℕ). covers x z ≡ true) f h)

-- a payload at or below the place of another is that one
pub payload_covers : (publisher other : List ℕ) (m n : PayloadName) → NoSlash publisher → NoSlash other → NoSlash (spelling m) → NoSlash (spelling n) → NoSlash (take 2 (spelling m)) → NoSlash (take 2 (spelling n))
    → covers (payload_place publisher m) (payload_place other n) ≡ true → (publisher ≡ other) × (spelling m ≡ spelling n)
payload_covers publisher other m n hp ho hm hn tm tn h =
    let first = covers_split publisher other (codes "file/" ++ (take 2 (spelling m) ++ (47 ∷ spelling m))) (codes "file/" ++ (take 2 (spelling n) ++ (47 ∷ spelling n))) hp ho
    (covers_as (payload_place publisher m) (payload_place other n) (payload_parts publisher m) (payload_parts other n) (payload_form publisher m) (payload_form other n) h) in
    let second = covers_split (take 2 (spelling m)) (take 2 (spelling n)) (spelling m) (spelling n) tm tn first.1 in
    (first.0, covers_last (spelling m) (spelling n) hn second.1)

-- no manifest stands at or below the place of a payload
pub manifest_apart : (publisher other stem : List ℕ) (m : PayloadName) (version : Parts) → NoSlash publisher → NoSlash other → covers (payload_place publisher m) (manifest_place other stem version) ≡ true → ⊥
manifest_apart publisher other stem m version hp ho h =
    let first = covers_split publisher other (codes "file/" ++ (take 2 (spelling m) ++ (47 ∷ spelling m))) (codes "pkg/" ++ (quoted stem ++ (47 ∷ quoted (version_text version)))) hp ho
    (covers_as (payload_place publisher m) (manifest_place other stem version) (payload_parts publisher m) (manifest_parts other stem version) (payload_form publisher m) (manifest_form other stem version) h) in
    no first.1

-- nor a catalog
pub catalog_apart : (publisher other : List ℕ) (m : PayloadName) → NoSlash publisher → NoSlash other → covers (payload_place publisher m) (catalog_place other) ≡ true → ⊥
catalog_apart publisher other m hp ho h =
    let first = covers_split publisher other (codes "file/" ++ (take 2 (spelling m) ++ (47 ∷ spelling m))) (codes "catalog/catalog.base.C") hp ho
    (covers_as (payload_place publisher m) (catalog_place other) (payload_parts publisher m) (catalog_place other) (payload_form publisher m) refl h) in
    no first.1

-- ---- what stands above

pub covers_on : (d x : List ℕ) → covers d (d ++ 47 ∷ x) ≡ true
covers_on [] x = refl
covers_on (b ∷ d) x = let same : eqb b b ≡ true = eq-eqb b b refl in rw same (covers_on d x)

plain : (x : List ℕ) → NoSlash x → parent x ≡ None
plain [] h = refl
plain (b ∷ x) h = ap (behind b) (plain x h.1) ∙ ap (λ (t : Bool). let o : Option (List ℕ) = cond t (Some []) None in o) h.0

-- the directory of a path whose last part this is
pub parent_joined : (d x : List ℕ) → NoSlash x → parent (d ++ 47 ∷ x) ≡ Some d
parent_joined [] x h = ap (behind 47) (plain x h)
parent_joined (a ∷ d) x h = ap (behind a) (parent_joined d x h)
