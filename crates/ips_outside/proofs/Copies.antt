-- Copies of the tables.
use Rattle.std.proofs.Common.{◌≡◌, ◌∙◌, ℕ, zero, suc, cond, Bool, true, false, List, [], ◌∷◌, Vec, Global, Option, Some, None, refl, sym, subst}
use Rattle.std.specs.List.{AllZip}
use Rattle.std.specs.Option.{option_map_or}
use Rattle.ips_text.specs.Ancestry.{same_path}
use Rattle.ips_outside.specs.Image.{File}
use Rattle.ips_outside.specs.Table.{kind_at, file_of, entry_of, node_of, one_node, image_of, IsKindCopy, IsNodeCopy}
use Rattle.ips_outside.specs.declared.table.Kind.{Kind}
use Rattle.ips_outside.specs.declared.table.Kind.TheVariants as kind
use Rattle.ips_outside.specs.declared.table.Node.{Node}
use Rattle.ips_outside.proofs.Images.{image_ext}

-- what two maps have at a path
abbrev BothHave : Option Kind → Option Kind → Type 0
BothHave k l = (entry_of [] l ≡ entry_of [] k) × (node_of l ≡ node_of k)

one_more : (s : Bool) (k l : Kind) (x y : Option Kind) → IsKindCopy k l → BothHave x y → BothHave (cond s (Some k) x) (cond s (Some l) y)
one_more true k l x y same rest = (same.entry, same.node)
one_more false k l x y same rest = rest

pub kinds_copied : (C : Vec ℕ Global → Vec ℕ Global → Type 0) → ((x y : Vec ℕ Global) → C x y → y.items ≡ x.items) → (old new : List (Vec ℕ Global × Kind)) → AllZip (λ (e f : Vec ℕ Global × Kind). C e.0 f.0 × IsKindCopy e.1 f.1) old new → (q : List ℕ) → BothHave (kind_at old q) (kind_at new q)
kinds_copied C keys [] [] zip q = (refl, refl)
kinds_copied C keys [] (f ∷ new) zip q = absurd zip
kinds_copied C keys (e ∷ old) [] zip q = absurd zip
kinds_copied C keys (e ∷ old) (f ∷ new) zip q =
    subst (λ (p : List ℕ). BothHave (kind_at (e ∷ old) q) (cond (same_path p q) (Some f.1) (kind_at new q))) (sym (keys e.0 f.0 zip.0.0))
    (one_more (same_path e.0.items q) e.1 f.1 (kind_at old q) (kind_at new q) zip.0.1 (kinds_copied C keys old new zip.1 q))

nodes_copied : (old new : List Node) → AllZip IsNodeCopy old new → (n : ℕ) → file_of new n ≡ file_of old n
nodes_copied [] [] zip n = refl
nodes_copied [] (y ∷ new) zip n = absurd zip
nodes_copied (x ∷ old) [] zip n = absurd zip
nodes_copied (x ∷ old) (y ∷ new) zip zero = let one = zip.0 in λ i. Some (File (one.mode i) (one.bytes i))
nodes_copied (x ∷ old) (y ∷ new) zip (suc n) = nodes_copied old new zip.1 n

-- by the number of the node, where there is one
entry_by_node : (nodes : List Node) (k : Option Kind) → entry_of nodes k ≡ option_map_or (file_of nodes) (node_of k) (entry_of [] k)
entry_by_node nodes (Some (kind.Dir m foreign)) = refl
entry_by_node nodes (Some (kind.File n)) = refl
entry_by_node nodes (Some (kind.Link target)) = refl
entry_by_node nodes (Some kind.Other) = refl
entry_by_node nodes None = refl

entry_copied : (old new : List Node) (k l : Option Kind) → ((n : ℕ) → file_of new n ≡ file_of old n) → BothHave k l → entry_of new l ≡ entry_of old k
entry_copied old new k l files both =
    entry_by_node new l ∙ (λ i. option_map_or (λ n. files n i) (both.1 i) (both.0 i)) ∙ sym (entry_by_node old k)

pub image_copied : (C : Vec ℕ Global → Vec ℕ Global → Type 0) → ((x y : Vec ℕ Global) → C x y → y.items ≡ x.items) → (paths new : List (Vec ℕ Global × Kind)) (nodes more : List Node)
    → AllZip (λ (e f : Vec ℕ Global × Kind). C e.0 f.0 × IsKindCopy e.1 f.1) paths new → AllZip IsNodeCopy nodes more → image_of new more ≡ image_of paths nodes
image_copied C keys paths new nodes more zip zip' = image_ext _ _
    (λ q. entry_copied nodes more (kind_at paths q) (kind_at new q) (nodes_copied nodes more zip') (kinds_copied C keys paths new zip q))
    (λ a b. λ i. one_node ((kinds_copied C keys paths new zip a).1 i) ((kinds_copied C keys paths new zip b).1 i))
