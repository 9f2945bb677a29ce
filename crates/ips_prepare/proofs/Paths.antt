-- The directories on the way are paths, and stand one behind the other.
use Rattle.std.proofs.Common.{◌≡◌, ℕ, ◌+◌, ◌<◌, false, List, [], ◌∷◌, ◌++◌, map, length, take, get_or, refl, sym, ap, subst, ◌∙◌, append_assoc, length-append, arith}
use Rattle.std.specs.Prelude.{codes}
use Rattle.std.specs.List.{AllByRecursion, join_with_byte}
use Rattle.std.proofs.lemmas.List.{map-append, append-nil}
use Rattle.std.proofs.lemmas.List.Elements.{All-from_recursion}
use Rattle.ips_text.specs.Kept.{Kept}
use Rattle.ips_text.specs.Path.{IsPath}
use Rattle.ips_text.specs.Quote.{quoted}
use Rattle.ips_text.proofs.Fronts.{ascii_path}
use Rattle.ips_text.proofs.Lists.{map_item}
use Rattle.ips_digest.specs.Name.{IsName, spelling}
use Rattle.ips_digest.specs.declared.name.PayloadName.{PayloadName}
use Rattle.ips_fmri.specs.Name.{IsPublisher, IsStem}
use Rattle.ips_records.proofs.Joined.{IsFileName, joined_path, pkg_name}
use Rattle.ips_records.proofs.FileNames.{stem_name, publisher_name}
use Rattle.ips_outside.specs.Children.{path_bytes}
use Rattle.ips_steps.specs.Private.{records_name}
use Rattle.ips_repo.specs.Places.{publisher_place}
use Rattle.ips_repo.proofs.Digits.{payload_digits}
use Rattle.ips_sends.specs.Judged.{payload_dir}
use Rattle.ips_prepare.specs.declared.prepared.Content.{Content}
use Rattle.ips_prepare.specs.Prepared.{HasName, names_of, first_ways}

-- ---- paths

pub var_path : IsPath (codes "var")
var_path = ascii_path (codes "var") refl refl refl refl refl (omega arith) (omega arith) refl

pub records_path : IsPath (codes "var/pkg")
records_path = ascii_path (codes "var/pkg") refl refl refl refl refl (omega arith) (omega arith) refl

pub publishers_path : IsPath (codes "publisher")
publishers_path = ascii_path (codes "publisher") refl refl refl refl refl (omega arith) (omega arith) refl

word_publisher : IsFileName (codes "publisher")
word_publisher = record { bytes = refl; some = omega arith; few = omega arith; no_dots = refl }

word_catalog : IsFileName (codes "catalog")
word_catalog = record { bytes = refl; some = omega arith; few = omega arith; no_dots = refl }

word_file : IsFileName (codes "file")
word_file = record { bytes = refl; some = omega arith; few = omega arith; no_dots = refl }

-- the directory of a publisher, and one below it
module _ (publisher : List ℕ) (p : IsPublisher publisher) where
  pub publisher_path : IsPath (publisher_place publisher ++ [])
  publisher_path =
      let name = publisher_name publisher p in
      let names : List (List ℕ) = codes "publisher" ∷ publisher ∷ [] in
      let is : join_with_byte 47 names ≡ publisher_place publisher ++ [] = sym (append-nil (publisher_place publisher)) in
      subst IsPath is (joined_path names (word_publisher, name) (omega (arith, name.few)))

  below_path : (word : List ℕ) → IsFileName word → IsPath (publisher_place publisher ++ (47 ∷ word))
  below_path word is_word =
      let name = publisher_name publisher p in
      let names : List (List ℕ) = codes "publisher" ∷ publisher ∷ word ∷ [] in
      let is : join_with_byte 47 names ≡ publisher_place publisher ++ (47 ∷ word) = refl in
      subst IsPath is (joined_path names (word_publisher, (name, is_word)) (simp length-append (omega (arith, name.few, is_word.few))))

  pub catalog_path : IsPath (publisher_place publisher ++ codes "/catalog")
  catalog_path = below_path (codes "catalog") word_catalog

  pub manifests_path : IsPath (publisher_place publisher ++ codes "/pkg")
  manifests_path = below_path (codes "pkg") pkg_name

  pub files_path : IsPath (publisher_place publisher ++ codes "/file")
  files_path = below_path (codes "file") word_file

  pub stem_path : (stem : List ℕ) → IsStem false stem → IsPath (publisher_place publisher ++ codes "/pkg/" ++ quoted stem)
  stem_path stem s =
      let name = publisher_name publisher p in
      let quoted_stem = stem_name stem s in
      let names : List (List ℕ) = codes "publisher" ∷ publisher ∷ codes "pkg" ∷ quoted stem ∷ [] in
      let is : join_with_byte 47 names ≡ publisher_place publisher ++ codes "/pkg/" ++ quoted stem = sym (append_assoc (publisher_place publisher) (codes "/pkg/") (quoted stem)) in
      subst IsPath is (joined_path names (word_publisher, (name, (pkg_name, quoted_stem))) (simp length-append (omega (arith, name.few, quoted_stem.few))))

  pub content_path : (name : PayloadName) → IsName name → IsPath (publisher_place publisher ++ codes "/file/" ++ take 2 (spelling name))
  content_path payload n =
      let name = publisher_name publisher p in
      let front = (payload_digits payload n).front in
      let names : List (List ℕ) = codes "publisher" ∷ publisher ∷ codes "file" ∷ take 2 (spelling payload) ∷ [] in
      let is : join_with_byte 47 names ≡ publisher_place publisher ++ codes "/file/" ++ take 2 (spelling payload) = sym (append_assoc (publisher_place publisher) (codes "/file/") (take 2 (spelling payload))) in
      subst IsPath is (joined_path names (word_publisher, (name, (word_file, front))) (simp length-append (omega (arith, name.few, front.few))))

-- ---- one behind the other

pub path_pushed : (old new : List Kept) (path : Kept) (bytes : List ℕ) → new ≡ old ++ path ∷ [] → path.bytes ≡ bytes → path_bytes new ≡ path_bytes old ++ bytes ∷ []
path_pushed old new path bytes is named =
    ap path_bytes is ∙ map-append (λ (k : Kept). k.bytes) old (path ∷ []) ∙ ap (λ (b : List ℕ). path_bytes old ++ b ∷ []) named

-- a way is that of these bytes
pub way_is : (old new : List (List ℕ)) (x y : List ℕ) → new ≡ old ++ x ∷ [] → x ≡ y → new ≡ old ++ y ∷ []
way_is old new x y is same = is ∙ ap (λ (z : List ℕ). old ++ z ∷ []) same

next_way : (old mid new xs : List (List ℕ)) (x : List ℕ) → mid ≡ old ++ xs → new ≡ mid ++ x ∷ [] → new ≡ old ++ (xs ++ x ∷ [])
next_way old mid new xs x first second = second ∙ ap (λ (l : List (List ℕ)). l ++ x ∷ []) first ∙ append_assoc old xs (x ∷ [])

records_are : codes "var/pkg" ≡ records_name
unfolding records_name
records_are = refl

pub first_pushed : (publisher stem : List ℕ) (o a b c d e f g h : List (List ℕ)) → a ≡ o ++ codes "var" ∷ [] → b ≡ a ++ codes "var/pkg" ∷ [] → c ≡ b ++ codes "publisher" ∷ []
    → d ≡ c ++ (publisher_place publisher ++ []) ∷ [] → e ≡ d ++ (publisher_place publisher ++ codes "/catalog") ∷ [] → f ≡ e ++ (publisher_place publisher ++ codes "/pkg") ∷ []
    → g ≡ f ++ (publisher_place publisher ++ codes "/pkg/" ++ quoted stem) ∷ [] → h ≡ g ++ (publisher_place publisher ++ codes "/file") ∷ [] → h ≡ o ++ first_ways publisher stem
first_pushed publisher stem o a b c d e f g h ha hb hc hd he hf hg hh =
    let place = publisher_place publisher in
    let one : List (List ℕ) = codes "var" ∷ [] in
    let two : List (List ℕ) = codes "var" ∷ records_name ∷ [] in
    let three : List (List ℕ) = codes "var" ∷ records_name ∷ codes "publisher" ∷ [] in
    let four : List (List ℕ) = codes "var" ∷ records_name ∷ codes "publisher" ∷ place ∷ [] in
    let five : List (List ℕ) = codes "var" ∷ records_name ∷ codes "publisher" ∷ place ∷ (place ++ codes "/catalog") ∷ [] in
    let six : List (List ℕ) = codes "var" ∷ records_name ∷ codes "publisher" ∷ place ∷ (place ++ codes "/catalog") ∷ (place ++ codes "/pkg") ∷ [] in
    let seven : List (List ℕ) = codes "var" ∷ records_name ∷ codes "publisher" ∷ place ∷ (place ++ codes "/catalog") ∷ (place ++ codes "/pkg") ∷ (place ++ codes "/pkg/" ++ quoted stem) ∷ [] in
    let at_b : b ≡ o ++ two = next_way o a b one records_name ha (way_is a b (codes "var/pkg") records_name hb records_are) in
    let at_c : c ≡ o ++ three = next_way o b c two (codes "publisher") at_b hc in
    let at_d : d ≡ o ++ four = next_way o c d three place at_c (way_is c d (place ++ []) place hd (append-nil place)) in
    let at_e : e ≡ o ++ five = next_way o d e four (place ++ codes "/catalog") at_d he in
    let at_f : f ≡ o ++ six = next_way o e f five (place ++ codes "/pkg") at_e hf in
    let at_g : g ≡ o ++ seven = next_way o f g six (place ++ codes "/pkg/" ++ quoted stem) at_f hg in
    next_way o g h seven (place ++ codes "/file") at_g hh

-- ---- those of contents

pub has_name : (contents : List Content) (i : ℕ) (c : Content) → i < length contents → c ≡ get_or contents i c → AllByRecursion HasName contents → HasName c
has_name contents i c within is all = subst HasName (sym is) (All-from_recursion HasName contents all i c within)

pub dirs_more : (publisher : List ℕ) (start old new : List (List ℕ)) (contents : List Content) (i : ℕ) (c : Content) → i < length contents → c ≡ get_or contents i c
    → old ≡ start ++ map (payload_dir publisher) (names_of (take i contents)) → new ≡ old ++ payload_dir publisher c.name ∷ [] → new ≡ start ++ map (payload_dir publisher) (names_of (take (i + 1) contents))
dirs_more publisher start old new contents i c within at were is =
    let dir = payload_dir publisher in
    let step : map dir (names_of (take (i + 1) contents)) ≡ map dir (names_of (take i contents)) ++ dir c.name ∷ []
    = ap (map dir) (map_item (λ (x : Content). x.name) contents i c within at) ∙ map-append dir (names_of (take i contents)) (c.name ∷ []) in
    is ∙ ap (λ (l : List (List ℕ)). l ++ dir c.name ∷ []) were ∙ append_assoc start (map dir (names_of (take i contents))) (dir c.name ∷ []) ∙ ap (λ (l : List (List ℕ)). start ++ l) (sym step)
