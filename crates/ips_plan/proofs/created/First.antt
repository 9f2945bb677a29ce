-- What is due where an image is made: records with bytes of their own and folders, each right in the folder of the records, and so is what goes.
use Rattle.std.proofs.Common.{◌≡◌, inl, inr, ℕ, ◌==◌, Bool, true, false, cond, ◌||◌, List, [], ◌∷◌, ◌++◌, length, Option, Some, None, is_some, refl, sym, ◌∙◌, ap, subst, arith}
use Rattle.std.specs.List.{AllByRecursion}
use Rattle.std.proofs.lemmas.Bool.{and_from, false_from_ne_true, not_from_false, or_cases}
use Rattle.std.proofs.lemmas.Option.{same_Some}
use Rattle.ips_text.specs.Ancestry.{covers, is_below, parent, same_path}
use Rattle.ips_text.proofs.Ancestry.{at_parent_of, parent_covers, parent_length, same_path-true}
use Rattle.ips_outside.specs.Image.{Entry, Image}
use Rattle.ips_steps.specs.Private.{records_name}
use Rattle.ips_index.specs.Rows.{IndexedValue}
use Rattle.ips_state.specs.State.{Installed, Recorded}
use Rattle.ips_state.specs.Records.{common_records, index_path, index_records, packages_path, records_by, records_of}
use Rattle.ips_after.specs.Lists.{listed}
use Rattle.ips_after.proofs.Fits.{at_listed}
use Rattle.ips_change.specs.wanted.Named.{is_payload_of}
use Rattle.ips_due.specs.Delivered.{Delivered, creation_due, delivered_records, first_folders}
use Rattle.ips_due.specs.Due.{Content, Due, OfPayload, Own, is_due, own_records, record_at, said, said_by, said_rest, goes_with}
use Rattle.ips_due.proofs.Fitting.{Account, Folder, Gone, Record, Said, Silent, said_is}
use Rattle.ips_due.proofs.StateDue.{all_append, at_record, own_all}

-- the path is right in the folder of the records
abbrev pub IsChild : List ℕ → Type 0
IsChild q = parent q ≡ Some records_name

-- such a path is below that folder
pub child_below : (q : List ℕ) → IsChild q → is_below records_name q ≡ true
child_below q is =
    and_from (covers records_name q) _ (parent_covers q records_name is)
    (not_from_false (same_path records_name q) (false_from_ne_true _ (λ same. let less = parent_length q records_name is in let one = ap length (same_path-true records_name q same) in absurd (omega (arith, less, one)))))

-- what is above such a path is at or above that folder
pub above_child : (p q : List ℕ) → IsChild q → covers p q ≡ true → same_path p q ≡ false → covers p records_name ≡ true
above_child p q is over apart =
    let d = at_parent_of p q over apart in
    subst (λ (x : List ℕ). covers p x ≡ true) (same_Some d.dir records_name (sym d.is ∙ is)) d.up

abbrev nothing : Delivered
nothing = record { owners = []; drivers = []; licenses = []; legacy = [] }

-- ---- where records are

index_children : (o : Option (List IndexedValue)) → AllByRecursion (λ (e : List ℕ × List ℕ). IsChild e.0) (index_records o)
unfolding records_name
index_children None = tt
index_children (Some rows) = (refl, tt)

common_children : (r : Recorded) → AllByRecursion (λ (e : List ℕ × List ℕ). IsChild e.0) (common_records r)
unfolding records_name
common_children r = (refl, (refl, (refl, (refl, (refl, index_children r.index)))))

installed_children : (first : Bool) → AllByRecursion (λ (e : List ℕ × List ℕ). IsChild e.0) (records_by first [])
unfolding records_name
installed_children true = (refl, tt)
installed_children false = tt

empty_children : AllByRecursion (λ (e : List ℕ × Content). IsChild e.0) (delivered_records nothing)
unfolding records_name
empty_children = (refl, (refl, tt))

folder_children : AllByRecursion IsChild first_folders
unfolding records_name
folder_children = (refl, (refl, tt))

packages_child : IsChild packages_path
unfolding records_name
packages_child = refl

index_child : IsChild index_path
unfolding records_name
index_child = refl

-- ---- what they hold

-- the content is bytes of its own
abbrev IsOwnContent : Content → Type 0
IsOwnContent (Own b) = Unit {0}
IsOwnContent (OfPayload payload) = ⊥

own_files : (files : List (List ℕ × List ℕ)) (rest : List (List ℕ × Content)) → AllByRecursion (λ (e : List ℕ × Content). IsOwnContent e.1) rest → AllByRecursion (λ (e : List ℕ × Content). IsOwnContent e.1) (own_records files ++ rest)
own_files [] rest all = all
own_files (f ∷ files) rest all = (tt, own_files files rest all)

own_at : (records : List (List ℕ × Content)) (q : List ℕ) (c : Content) → AllByRecursion (λ (e : List ℕ × Content). IsOwnContent e.1) records → record_at records q ≡ Some c → IsOwnContent c
own_at [] q c all at = cc
own_at (r ∷ records) q c all at = go (same_path r.0 q) at (own_at records q c all.1)
  where
    go : (b : Bool) → cond b (Some r.1) (record_at records q) ≡ Some c → (record_at records q ≡ Some c → IsOwnContent c) → IsOwnContent c
    go true is rest = subst IsOwnContent (same_Some r.1 c is) all.0
    go false is rest = rest is

module _ (new : Recorded) where
  abbrev due : Due
  due = creation_due new

  -- ---- the bytes of payloads don't count

  content_at : (bytes other : List ℕ → List ℕ) (holds : List ℕ → List ℕ → Bool) (goes : Bool) (rest : Option (Option Entry)) (e : Option Entry) (c : Option Content) → ((x : Content) → c ≡ Some x → IsOwnContent x)
      → said_by bytes holds None c goes rest e ≡ said_by other holds None c goes rest e
  content_at bytes other holds goes rest e None own = refl
  content_at bytes other holds goes rest e (Some (Own b)) own = refl
  content_at bytes other holds goes rest e (Some (OfPayload payload)) own = absurd (own (OfPayload payload) refl)

  pub same_said : (bytes other : List ℕ → List ℕ) (t : Image) (q : List ℕ) → said bytes is_payload_of due t q ≡ said other is_payload_of due t q
  same_said bytes other t q =
      content_at bytes other is_payload_of (goes_with due q) (said_rest (listed due.renewed q) (listed due.folders q) (listed due.gone q) (t.look q)) (t.look q) (record_at due.records q)
      (λ c at. own_at due.records q c (own_files (records_of new) (delivered_records nothing) (tt, (tt, tt))) at)

  -- ---- where things are due

  module _ (none : new.installed ≡ []) where
    records_children : AllByRecursion (λ (e : List ℕ × Content). IsChild e.0) due.records
    records_children =
        all_append IsChild (own_records (records_of new)) (delivered_records nothing)
        (own_all IsChild (records_of new) (all_append IsChild (common_records new) (records_by (new.format == 1) new.installed) (common_children new)
        (subst (λ (l : List Installed). AllByRecursion (λ (e : List ℕ × List ℕ). IsChild e.0) (records_by (new.format == 1) l)) (sym none) (installed_children (new.format == 1)))))
        empty_children

    record_child : (q : List ℕ) → is_some (record_at due.records q) ≡ true → IsChild q
    record_child q h = at_record IsChild due.records q records_children h

    made_child : (q : List ℕ) → (listed due.renewed q || listed due.folders q) ≡ true → IsChild q
    made_child q h = elim (or_cases (listed due.renewed q) (listed due.folders q) h) [
      | inl packages ↦ at_listed IsChild due.renewed q (packages_child, tt) packages
      | inr folder ↦ at_listed IsChild due.folders q folder_children folder
    ]

    pub due_child : (q : List ℕ) → is_due due q ≡ true → IsChild q
    due_child q h = elim (or_cases (is_some (record_at due.records q)) (listed due.renewed q || listed due.folders q) h) [
      | inl at ↦ record_child q at
      | inr made ↦ made_child q made
    ]

    pub said_child : (bytes : List ℕ → List ℕ) (t : Image) (q : List ℕ) → is_some (said bytes is_payload_of due t q) ≡ true → IsChild q
    said_child bytes t q h = go (said bytes is_payload_of due t q) (said_is bytes is_payload_of due t q) h
      where
        go : (x : Option (Option Entry)) → Said due q x → is_some x ≡ true → IsChild q
        go _ (Account m b at) h = cc
        go _ (Record b at) h = record_child q at
        go _ (Folder at) h = made_child q at
        go _ (Gone at) h = at_listed IsChild due.gone q (index_child, tt) at
        go _ Silent h = cc
