-- Contents that are given their places, one after the other.
use Rattle.std.proofs.Common.{◌≡◌, List, [], ◌∷◌, ◌++◌, map, refl, sym, ap, ◌∙◌}
use Rattle.std.specs.List.{AllByRecursion}
use Rattle.std.proofs.lemmas.List.{map_push}
use Rattle.ips_digest.specs.declared.name.PayloadName.{PayloadName}
use Rattle.ips_text.specs.Kept.{Kept}
use Rattle.ips_lay.specs.declared.content.Content.{Content}
use Rattle.ips_prepare.specs.declared.prepared.Content as prepare
use Rattle.ips_prepare.specs.Prepared.{names_of}
use Rattle.ips_ready.specs.Plans.{Source, sources_placed, sources_prepared}

pub all_more : {A : Type 0} (P : A → Type 0) (xs : List A) (x : A) → AllByRecursion P xs → P x → AllByRecursion P (xs ++ x ∷ [])
all_more P [] x all one = (one, tt)
all_more P (y ∷ xs) x all one = (all.0, all_more P xs x all.1 one)

pair_as : (p q : Kept) (m n : PayloadName) → p ≡ q → m ≡ n → (let s : Source = (p.bytes, m) in s) ≡ (q.bytes, n)
pair_as p q m n same alike = ap (λ (k : Kept). (let s : Source = (k.bytes, m) in s)) same ∙ ap (λ (x : PayloadName). (let s : Source = (q.bytes, x) in s)) alike

pub sources_more : (placed : List Content) (prepared : List prepare.Content) (c : Content) (p : prepare.Content) → sources_placed placed ≡ sources_prepared prepared → c.path ≡ p.path → c.name ≡ p.name
    → sources_placed (placed ++ c ∷ []) ≡ sources_prepared (prepared ++ p ∷ [])
sources_more placed prepared c p same path name =
    map_push (λ (x : Content). (let s : Source = (x.path.bytes, x.name) in s)) placed c
    ∙ ap (λ (l : List Source). l ++ (c.path.bytes, c.name) ∷ []) same
    ∙ ap (λ (s : Source). sources_prepared prepared ++ s ∷ []) (pair_as c.path p.path c.name p.name path name)
    ∙ sym (map_push (λ (x : prepare.Content). (let s : Source = (x.path.bytes, x.name) in s)) prepared p)

abbrev second : List Source → List PayloadName
second sources = map (λ (s : Source). s.1) sources

names_placed : (contents : List Content) → second (sources_placed contents) ≡ map (λ (c : Content). c.name) contents
names_placed [] = refl
names_placed (c ∷ contents) = ap (λ (l : List PayloadName). c.name ∷ l) (names_placed contents)

names_prepared : (contents : List prepare.Content) → second (sources_prepared contents) ≡ names_of contents
names_prepared [] = refl
names_prepared (c ∷ contents) = ap (λ (l : List PayloadName). c.name ∷ l) (names_prepared contents)

-- contents of the same sources have the same names
pub names_same : (placed : List Content) (prepared : List prepare.Content) → sources_placed placed ≡ sources_prepared prepared → map (λ (c : Content). c.name) placed ≡ names_of prepared
names_same placed prepared same = sym (names_placed placed) ∙ ap second same ∙ names_prepared prepared
