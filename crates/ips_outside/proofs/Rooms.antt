-- The spare bytes of a tree have room for each path.
use Rattle.std.proofs.Common.{◌≡◌, inl, inr, Bor, ℕ, ◌≤◌, Bool, true, false, cond, List, length, Vec, Global, vec_capacity, Option, Some, None, is_some, refl, sym, ◌∙◌, ap, arith}
use Rattle.std.proofs.lemmas.Bool.{cases_lt}
use Rattle.std.specs.Option.{option_map, option_copied}
use Rattle.ips_text.specs.Ancestry.{same_path, covers}
use Rattle.ips_text.specs.Path.{IsPath}
use Rattle.ips_text.specs.declared.path.PathFault.TheVariants.{TooLong}
use Rattle.ips_outside.specs.Image.{Entry, IsImage, is_file}
use Rattle.ips_outside.specs.Table.{kind_at, entry_of, node_of, one_node, image_of}
use Rattle.ips_outside.specs.Order.{HasRoom}
use Rattle.ips_outside.specs.declared.table.Kind.{Kind}
use Rattle.ips_outside.specs.declared.table.Kind.TheVariants as kind
use Rattle.ips_outside.specs.declared.table.Node.{Node}
use Rattle.ips_outside.proofs.Trees.{one_node-self}

some_file : (e : Option Entry) → is_file e ≡ true → is_some e ≡ true
some_file (Some e) h = refl
some_file None h = cc

-- what the table has stands in the image
pub stands : (paths : List (Vec ℕ Global × Kind)) (nodes : List Node) (q : List ℕ) → IsImage (image_of paths nodes) → is_some (entry_of nodes (kind_at paths q)) ≡ is_some (kind_at paths q)
stands paths nodes q formed = go (kind_at paths q) refl
  where
    go : (k : Option Kind) → kind_at paths q ≡ k → is_some (entry_of nodes (kind_at paths q)) ≡ is_some k
    go (Some (kind.Dir m foreign)) is = ap (λ (k : Option Kind). is_some (entry_of nodes k)) is
    go (Some (kind.File n)) is =
        let own : one_node (node_of (kind_at paths q)) (node_of (kind_at paths q)) ≡ true = ap (λ (k : Option Kind). one_node (node_of k) (node_of k)) is ∙ one_node-self n in
        some_file (entry_of nodes (kind_at paths q)) (formed.files q q own).0
    go (Some (kind.Link target)) is = ap (λ (k : Option Kind). is_some (entry_of nodes k)) is
    go (Some kind.Other) is = ap (λ (k : Option Kind). is_some (entry_of nodes k)) is
    go None is = ap (λ (k : Option Kind). is_some (entry_of nodes k)) is

-- so it stands at a path
pub path_at : (paths : List (Vec ℕ Global × Kind)) (nodes : List Node) (q : List ℕ) → IsImage (image_of paths nodes) → is_some (kind_at paths q) ≡ true → IsPath q
path_at paths nodes q formed some = formed.paths q (stands paths nodes q formed ∙ some)

pub path_fits : (q : List ℕ) → IsPath q → length q ≤ 1023
path_fits q path = elim (cases_lt 1023 (length q)) [ inl long ↦ absurd (path TooLong (inl long)) | inr few ↦ few ]

pub room_made : (paths : List (Vec ℕ Global × Kind)) (spare : Vec ℕ Global) → 1024 ≤ vec_capacity spare → HasRoom paths spare
room_made paths spare room = record { each = λ q some. room }

pub room_edited : (edit : Kind → Kind) (old new : List (Vec ℕ Global × Kind)) (p : List ℕ) (spare : Vec ℕ Global) → HasRoom old spare
    → ((q : List ℕ) → kind_at new q ≡ cond (same_path p q) (option_map edit (kind_at old q)) (kind_at old q)) → HasRoom new spare
room_edited edit old new p spare room edited = record { each = λ q some. room.each q (go (same_path p q) (kind_at old q) (ap is_some (sym (edited q)) ∙ some)) }
  where
    go : (s : Bool) (k : Option Kind) → is_some (cond s (option_map edit k) k) ≡ true → is_some k ≡ true
    go true (Some k) h = refl
    go true None h = cc
    go false k h = h

pub room_taken : (old new : List (Vec ℕ Global × Kind)) (p : List ℕ) (spare more : Vec ℕ Global) → HasRoom old spare → vec_capacity spare ≤ vec_capacity more
    → ((q : List ℕ) → kind_at new q ≡ cond (covers p q) None (kind_at old q)) → HasRoom new more
room_taken old new p spare more room grows taken = record { each = λ q some. omega (arith, room.each q (go (covers p q) (kind_at old q) (ap is_some (sym (taken q)) ∙ some)), grows) }
  where
    go : (c : Bool) (k : Option Kind) → is_some (cond c None k) ≡ true → is_some k ≡ true
    go true k h = cc
    go false k h = h

pub some_copied : {T : Type 0} (x : Option (Bor T)) → is_some (option_copied x) ≡ is_some x
some_copied (Some x) = refl
some_copied None = refl
