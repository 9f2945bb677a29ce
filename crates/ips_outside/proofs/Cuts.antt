-- Files that are cut, node by node.
use Rattle.std.proofs.Common.{◌≡◌, ◌⊎◌, inl, inr, ⊎_elim, ℕ, ◌+◌, ◌<◌, Bool, true, false, cond, not, ◌&&◌, ltb, ◌||◌, List, [], ◌∷◌, Vec, Global, length, get_or, set, replicate, is_some, is_none, Option, Some, None, refl, sym, ◌∙◌, ap, subst, arith}
use Rattle.std.proofs.lemmas.Bool.{cases_eq, cases_lt, false_from_ne_true, and_parts, eqb-true, eq-eqb}
use Rattle.std.proofs.lemmas.Bool.Decides.{nat_tests}
use Rattle.std.proofs.Math.ListN.{get_or-eq_default}
use Rattle.std.proofs.lemmas.List.{get_or-replicate}
use Rattle.ips_outside.specs.Image.{Entry, Dir, File, Link, Other, IsImage, is_dir, is_file, has_small_mode}
use Rattle.ips_text.specs.Ancestry.{same_path}
use Rattle.ips_text.proofs.Ancestry.{same_path-true}
use Rattle.ips_outside.specs.Table.{kind_at, node_of, one_node, file_of, entry_of, image_of}
use Rattle.ips_outside.specs.Tearing.{halved, IsHalf, AreKept, IsTorn}
use Rattle.ips_outside.specs.declared.table.Kind.{Kind}
use Rattle.ips_outside.specs.declared.table.Kind.TheVariants as kind
use Rattle.ips_outside.specs.declared.table.Node.{Node}
use Rattle.ips_outside.proofs.Trees.{node_within, file_at-node, file_of-get, file_of-set_here, file_of-set_other}
use Rattle.ips_text.proofs.Truths.{or_true}

-- how far the nodes are cut
abbrev pub IsCutTo : List Node → List Bool → ℕ → List Node → Type 0
IsCutTo first kept i nodes = (n : ℕ) → file_of nodes n ≡ cond (ltb n i && not (get_or kept n true)) (halved (file_of first n)) (file_of first n)

-- the same, with none lost
abbrev pub upto : List Node → List Bool → ℕ → List Node → Type 0
upto first kept i nodes = record { length : length nodes ≡ length first; cut : IsCutTo first kept i nodes }

pub none_cut : (first : List Node) (kept : List Bool) → IsCutTo first kept 0 first
none_cut first kept n = let e : (ltb n 0 && not (get_or kept n true)) ≡ false = grind (arith, nat_tests) in sym (ap (λ (b : Bool). cond b (halved (file_of first n)) (file_of first n)) e)

module _ (first nodes : List Node) (kept : List Bool) (i : ℕ) (so_far : IsCutTo first kept i nodes) where
  other : (n : ℕ) → (n ≡ i → ⊥) → (ltb n i && not (get_or kept n true)) ≡ (ltb n (i + 1) && not (get_or kept n true))
  other n apart = grind (arith, nat_tests)

  not_yet : (ltb i i && not (get_or kept i true)) ≡ false
  not_yet = grind (arith, nat_tests)

  pub passed : get_or kept i true ≡ true → IsCutTo first kept (i + 1) nodes
  passed stays n = so_far n ∙ ap (λ (b : Bool). cond b (halved (file_of first n)) (file_of first n)) (⊎_elim here (λ apart. other n apart) (cases_eq n i))
    where
      here : n ≡ i → (ltb n i && not (get_or kept n true)) ≡ (ltb n (i + 1) && not (get_or kept n true))
      here is = let e : get_or kept n true ≡ true = ap (λ (m : ℕ). get_or kept m true) is ∙ stays in grind (arith, nat_tests)

  pub halved_here : (d node : Node) → i < length nodes → IsHalf (get_or nodes i d) node → get_or kept i true ≡ false → IsCutTo first kept (i + 1) (set nodes i node)
  halved_here d node lt half goes n = ⊎_elim here apart (cases_eq n i)
    where
      at_first : file_of first i ≡ Some (File (get_or nodes i d).mode (get_or nodes i d).bytes.items)
      at_first = sym (so_far i ∙ ap (λ (b : Bool). cond b (halved (file_of first i)) (file_of first i)) not_yet) ∙ file_of-get nodes i d lt

      now_cut : (ltb i (i + 1) && not (get_or kept i true)) ≡ true
      now_cut = grind (arith, nat_tests)

      at_here : file_of (set nodes i node) i ≡ cond (ltb i (i + 1) && not (get_or kept i true)) (halved (file_of first i)) (file_of first i)
      at_here = file_of-set_here nodes i node lt
          ∙ ap (λ (m : ℕ). Some (File m node.bytes.items)) half.mode ∙ ap (λ (b : List ℕ). Some (File (get_or nodes i d).mode b)) half.bytes
          ∙ sym (ap halved at_first)
          ∙ sym (ap (λ (b : Bool). cond b (halved (file_of first i)) (file_of first i)) now_cut)

      here : n ≡ i → file_of (set nodes i node) n ≡ cond (ltb n (i + 1) && not (get_or kept n true)) (halved (file_of first n)) (file_of first n)
      here is = subst (λ (m : ℕ). file_of (set nodes i node) m ≡ cond (ltb m (i + 1) && not (get_or kept m true)) (halved (file_of first m)) (file_of first m)) (sym is) at_here

      apart : (n ≡ i → ⊥) → file_of (set nodes i node) n ≡ cond (ltb n (i + 1) && not (get_or kept n true)) (halved (file_of first n)) (file_of first n)
      apart ne = file_of-set_other nodes i n node (λ e. ne (sym e)) ∙ so_far n ∙ ap (λ (b : Bool). cond b (halved (file_of first n)) (file_of first n)) (other n ne)

-- all of them
pub all_cut : (first nodes : List Node) (kept : List Bool) → IsCutTo first kept (length kept) nodes → (n : ℕ) → file_of nodes n ≡ cond (get_or kept n true) (file_of first n) (halved (file_of first n))
all_cut first nodes kept cut n = cut n ∙ go (get_or kept n true) refl
  where
    go : (b : Bool) → get_or kept n true ≡ b → cond (ltb n (length kept) && not b) (halved (file_of first n)) (file_of first n) ≡ cond b (file_of first n) (halved (file_of first n))
    go true is = let e : (ltb n (length kept) && not true) ≡ false = grind (arith, nat_tests) in ap (λ (b : Bool). cond b (halved (file_of first n)) (file_of first n)) e
    go false is =
        let lt : n < length kept = elim (cases_lt n (length kept)) [ inl lt ↦ lt | inr ge ↦ absurd (let past : get_or kept n true ≡ true = get_or-eq_default kept true ge in cc) ] in
        let e : (ltb n (length kept) && not false) ≡ true = grind (arith, nat_tests) in
        ap (λ (b : Bool). cond b (halved (file_of first n)) (file_of first n)) e

-- ---- which nodes are kept

one_is : (k : Option Kind) (n : ℕ) → one_node (node_of k) (Some n) ≡ true → node_of k ≡ Some n
one_is k n one = go (node_of k) one
  where
    go : (o : Option ℕ) → one_node o (Some n) ≡ true → o ≡ Some n
    go (Some m) one = ap (λ (x : ℕ). Some x) (eqb-true m n one)
    go None one = cc

is_one : (k : Option Kind) (n : ℕ) → node_of k ≡ Some n → one_node (node_of k) (Some n) ≡ true
is_one k n is = ap (λ (o : Option ℕ). one_node o (Some n)) is ∙ eq-eqb n n refl

pub unset : (flags : List Bool) (count : ℕ) → flags ≡ replicate count false → (n : ℕ) → n < count → get_or flags n true ≡ false
unset flags count is n lt = ap (λ (l : List Bool). get_or l n true) is ∙ get_or-replicate count n false true lt

-- the flags so far, and the entries that are left
module _ (entries : List (Vec ℕ Global × Kind)) (count : ℕ) (is_named : List ℕ → Bool) where
  abbrev pub KeptSoFar : List (Vec ℕ Global × Kind) → List Bool → Type 0
  KeptSoFar rest flags = record {
    length : length flags ≡ count;
    kept : (q : List ℕ) (n : ℕ) → node_of (kind_at entries q) ≡ Some n → is_named q ≡ false → (get_or flags n true ≡ true) ⊎ (node_of (kind_at rest q) ≡ Some n);
    others : (n : ℕ) → n < count → get_or flags n true ≡ true → (q : List ℕ) × (node_of (kind_at entries q) ≡ Some n) × (is_named q ≡ false);
  }

  pub none_kept : (flags : List Bool) → length flags ≡ count → ((n : ℕ) → n < count → get_or flags n true ≡ false) → KeptSoFar entries flags
  none_kept flags same unset = record { length = same; kept = λ q n is off. inr is; others = λ n lt set. absurd (let no = unset n lt in cc) }

  pub one_more_kept : (rest : List (Vec ℕ Global × Kind)) (flags more : List Bool) (path : Vec ℕ Global) (kind : Kind) → KeptSoFar ((path, kind) ∷ rest) flags → kind_at entries path.items ≡ Some kind
      → length more ≡ length flags → ((n : ℕ) → get_or more n true ≡ (get_or flags n true || (one_node (node_of (Some kind)) (Some n) && not (is_named path.items)))) → KeptSoFar rest more
  one_more_kept rest flags more path kind so_far at same marked = record {
    length = same ∙ so_far.length;
    kept = λ q n is off. ⊎_elim (λ set. inl (marked n ∙ ap (λ (b : Bool). b || (one_node (node_of (Some kind)) (Some n) && not (is_named path.items))) set)) (λ left. here q n off (same_path path.items q) refl left) (so_far.kept q n is off);
    others = λ n lt set. from n lt (get_or flags n true) refl (sym (marked n) ∙ set);
  }
    where
      here : (q : List ℕ) (n : ℕ) → is_named q ≡ false → (s : Bool) → same_path path.items q ≡ s → node_of (cond s (Some kind) (kind_at rest q)) ≡ Some n → (get_or more n true ≡ true) ⊎ (node_of (kind_at rest q) ≡ Some n)
      here q n off true one is =
          let unnamed : is_named path.items ≡ false = ap is_named (same_path-true path.items q one) ∙ off in
          let node = is_one (Some kind) n is in
          inl (marked n ∙ rw (node, unnamed) (or_true (get_or flags n true)))
      here q n off false one is = inr is

      from : (n : ℕ) → n < count → (b : Bool) → get_or flags n true ≡ b → (b || (one_node (node_of (Some kind)) (Some n) && not (is_named path.items))) ≡ true → (q : List ℕ) × (node_of (kind_at entries q) ≡ Some n) × (is_named q ≡ false)
      from n lt true is set = so_far.others n lt is
      from n lt false is set =
          let both = and_parts (one_node (node_of (Some kind)) (Some n)) (not (is_named path.items)) set in
          (path.items, ap node_of at ∙ one_is (Some kind) n both.0, false_from_ne_true _ (λ named. let no = both.1 in cc))

  pub all_kept : (flags : List Bool) → KeptSoFar [] flags → AreKept entries count is_named flags
  all_kept flags so_far = record {
    kept = λ q n is lt off. ⊎_elim (λ set. set) (λ left. absurd (let no : Some n ≡ None = sym left in cc)) (so_far.kept q n is off);
    others = so_far.others;
  }

-- ---- the tree with cut files

-- an entry, or half of it
abbrev IsSome : Option Entry → Option Entry → Type 0
IsSome x y = (y ≡ x) ⊎ (y ≡ halved x)

module _ (A : Type 0) (f : Option Entry → A) (blind : (x : Option Entry) → f (halved x) ≡ f x) where
  either : (x y : Option Entry) → IsSome x y → f y ≡ f x
  either x y is = ⊎_elim (λ e. ap f e) (λ e. ap f e ∙ blind x) is

blind_dir : (x : Option Entry) → is_dir (halved x) ≡ is_dir x
blind_dir (Some (Dir m f)) = refl
blind_dir (Some (File m b)) = refl
blind_dir (Some (Link g)) = refl
blind_dir (Some Other) = refl
blind_dir None = refl

blind_file : (x : Option Entry) → is_file (halved x) ≡ is_file x
blind_file (Some (Dir m f)) = refl
blind_file (Some (File m b)) = refl
blind_file (Some (Link g)) = refl
blind_file (Some Other) = refl
blind_file None = refl

blind_some : (x : Option Entry) → is_some (halved x) ≡ is_some x
blind_some (Some (Dir m f)) = refl
blind_some (Some (File m b)) = refl
blind_some (Some (Link g)) = refl
blind_some (Some Other) = refl
blind_some None = refl

blind_none : (x : Option Entry) → is_none (halved x) ≡ is_none x
blind_none (Some (Dir m f)) = refl
blind_none (Some (File m b)) = refl
blind_none (Some (Link g)) = refl
blind_none (Some Other) = refl
blind_none None = refl

blind_mode : (x : Option Entry) → has_small_mode (halved x) ≡ has_small_mode x
blind_mode (Some (Dir m f)) = refl
blind_mode (Some (File m b)) = refl
blind_mode (Some (Link g)) = refl
blind_mode (Some Other) = refl
blind_mode None = refl

same_node : (x y : Option ℕ) → one_node x y ≡ true → (n : ℕ) × (x ≡ Some n) × (y ≡ Some n)
same_node (Some m) (Some n) one = let e = eqb-true m n one in (n, ap (λ (x : ℕ). Some x) e, refl)
same_node (Some m) None one = cc
same_node None y one = cc

module _ (paths : List (Vec ℕ Global × Kind)) (nodes more : List Node) (flags : List Bool) (is_named : List ℕ → Bool) (formed : IsImage (image_of paths nodes))
    (kept : AreKept paths (length nodes) is_named flags) (cut : (n : ℕ) → file_of more n ≡ cond (get_or flags n true) (file_of nodes n) (halved (file_of nodes n))) where
  either_file : (n : ℕ) (b : Bool) → get_or flags n true ≡ b → IsSome (file_of nodes n) (file_of more n)
  either_file n true is = inl (cut n ∙ ap (λ (b : Bool). cond b (file_of nodes n) (halved (file_of nodes n))) is)
  either_file n false is = inr (cut n ∙ ap (λ (b : Bool). cond b (file_of nodes n) (halved (file_of nodes n))) is)

  either_entry : (k : Option Kind) → IsSome (entry_of nodes k) (entry_of more k)
  either_entry (Some (kind.Dir m foreign)) = inl refl
  either_entry (Some (kind.File n)) = either_file n (get_or flags n true) refl
  either_entry (Some (kind.Link target)) = inl refl
  either_entry (Some kind.Other) = inl refl
  either_entry None = inl refl

  pub torn_formed : IsImage (image_of paths more)
  torn_formed = record {
    paths = λ q here. formed.paths q (sym (either Bool is_some blind_some _ _ (either_entry (kind_at paths q))) ∙ here);
    modes = λ q. either Bool has_small_mode blind_mode _ _ (either_entry (kind_at paths q)) ∙ formed.modes q;
    below_dirs = λ p q c s.
        (λ i. either Bool is_none blind_none _ _ (either_entry (kind_at paths q)) i || either Bool is_dir blind_dir _ _ (either_entry (kind_at paths p)) i) ∙ formed.below_dirs p q c s;
    files = λ a b one.
        let file = either Bool is_file blind_file _ _ (either_entry (kind_at paths a)) ∙ (formed.files a b one).0 in
        let node = same_node (node_of (kind_at paths a)) (node_of (kind_at paths b)) one in
        (file, ap (entry_of more) (file_at-node (kind_at paths a) node.0 node.1 ∙ sym (file_at-node (kind_at paths b) node.0 node.2)));
    self = λ a file. formed.self a (sym (either Bool is_file blind_file _ _ (either_entry (kind_at paths a))) ∙ file);
    sym = formed.sym;
    trans = formed.trans;
  }

  pub torn_image : IsTorn is_named (image_of paths nodes) (image_of paths more)
  torn_image = record { cut = λ q all. goes q (kind_at paths q) refl all; kept = λ q r one off. stays q r one off; same = λ a b. refl }
    where
      no_others : (q : List ℕ) (n : ℕ) → kind_at paths q ≡ Some (kind.File n) → ((r : List ℕ) → (image_of paths nodes).same q r ≡ true → is_named r ≡ true) → get_or flags n true ≡ false
      no_others q n is all = false_from_ne_true _ (λ set.
          let r = kept.others n (node_within paths nodes q n formed is) set in
          let one : (image_of paths nodes).same q r.0 ≡ true = (λ i. one_node (node_of (is i)) (r.1 i)) ∙ eq-eqb n n refl in
          let named = all r.0 one in
          let off = r.2 in
          cc)

      goes : (q : List ℕ) (k : Option Kind) → kind_at paths q ≡ k → ((r : List ℕ) → (image_of paths nodes).same q r ≡ true → is_named r ≡ true) → entry_of more (kind_at paths q) ≡ halved (entry_of nodes (kind_at paths q))
      goes q (Some (kind.Dir m foreign)) is all = rw is refl
      goes q (Some (kind.File n)) is all =
          ap (entry_of more) is ∙ cut n ∙ ap (λ (b : Bool). cond b (file_of nodes n) (halved (file_of nodes n))) (no_others q n is all) ∙ sym (ap (λ (k : Option Kind). halved (entry_of nodes k)) is)
      goes q (Some (kind.Link target)) is all = rw is refl
      goes q (Some kind.Other) is all = rw is refl
      goes q None is all = rw is refl

      stays : (q r : List ℕ) → (image_of paths nodes).same q r ≡ true → is_named r ≡ false → entry_of more (kind_at paths q) ≡ entry_of nodes (kind_at paths q)
      stays q r one off =
          let node = same_node (node_of (kind_at paths q)) (node_of (kind_at paths r)) one in
          let n = node.0 in
          let is = file_at-node (kind_at paths q) n node.1 in
          let set = kept.kept r n node.2 (node_within paths nodes q n formed is) off in
          ap (entry_of more) is ∙ cut n ∙ ap (λ (b : Bool). cond b (file_of nodes n) (halved (file_of nodes n))) set ∙ sym (ap (entry_of nodes) is)
