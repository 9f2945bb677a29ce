-- The image that the tables stand for, and what an edit of them makes of it.
use Rattle.std.proofs.Common.{◌≡◌, ℕ, zero, suc, ◌<◌, Bool, true, false, cond, not, ◌&&◌, ◌||◌, ◌==◌, List, [], ◌∷◌, ◌++◌, length, get_or, set, Vec, Global, Option, Some, None, is_none, is_some, Result, Ok, Err, OnOk, OnErr, refl, sym, ◌∙◌, ap, subst, arith}
use Rattle.std.proofs.lemmas.Bool.{and_parts, false_from_ne_true, lt-ltb, ne_eqb, eq-eqb, eqb-true, eqb-false}
use Rattle.std.specs.Option.{option_map}
use Rattle.ips_text.specs.Ancestry.{same_path, covers, is_below}
use Rattle.ips_text.proofs.Ancestry.{same_path-true, same_path-self, same_covers}
use Rattle.ips_text.specs.Path.{IsPath}
use Rattle.ips_outside.specs.Image.{Entry, Dir, File, Link, Other, Image, IsImage, has_small_mode, is_dir, is_file, has_parent, with_mode}
use Rattle.ips_outside.specs.Change.{with_entry_at, joined, moded, appended, more_bytes, marked, with_mark}
use Rattle.ips_outside.specs.Table.{kind_at, file_of, entry_of, node_of, one_node, image_of, with_dir_mode, with_dir_mark, has_dir}
use Rattle.ips_outside.specs.Making.{fault_at}
use Rattle.ips_outside.specs.declared.table.Kind.{Kind}
use Rattle.ips_outside.specs.declared.table.Kind.TheVariants as kind
use Rattle.ips_outside.specs.declared.table.Node.{Node}
use Rattle.ips_outside.specs.declared.refusal.TreeFault.TheVariants.{NoParent, Taken}
use Rattle.ips_outside.proofs.Images.{image_ext}
use Rattle.ips_outside.proofs.Formed.{placed_formed, joined_formed, moded_formed, appended_formed, marked_formed}
use Rattle.ips_text.proofs.Truths.{or_true}

pub on_err : {T E P : Type 0} (r : Result T E) → P → OnErr r P
on_err (Ok x) p = tt
on_err (Err e) p = p

pub on_ok_to : {T E P : Type 0} (r : Result T E) (Q : Type 0) → (P → Q) → OnOk r P → OnOk r Q
on_ok_to (Ok x) Q f p = f p
on_ok_to (Err e) Q f p = tt

-- ---- nodes

file_within : (nodes : List Node) (n : ℕ) → is_file (file_of nodes n) ≡ true → n < length nodes
file_within [] n h = cc
file_within (node ∷ nodes) zero h = omega arith
file_within (node ∷ nodes) (suc n) h = omega (arith, file_within nodes n h)

pub one_node-self : (n : ℕ) → one_node (Some n) (Some n) ≡ true
one_node-self n = eq-eqb n n refl

-- the node of each file is in the table
pub node_within : (paths : List (Vec ℕ Global × Kind)) (nodes : List Node) (q : List ℕ) (n : ℕ) → IsImage (image_of paths nodes) → kind_at paths q ≡ Some (kind.File n) → n < length nodes
node_within paths nodes q n formed is =
    let own : one_node (node_of (kind_at paths q)) (node_of (kind_at paths q)) ≡ true = ap (λ (k : Option Kind). one_node (node_of k) (node_of k)) is ∙ one_node-self n in
    let file : is_file (entry_of nodes (kind_at paths q)) ≡ true = (formed.files q q own).0 in
    file_within nodes n (ap (λ (k : Option Kind). is_file (entry_of nodes k)) (sym is) ∙ file)

pub file_of-get : (nodes : List Node) (n : ℕ) (d : Node) → n < length nodes → file_of nodes n ≡ Some (File (get_or nodes n d).mode (get_or nodes n d).bytes.items)
file_of-get [] n d lt = absurd (omega arith)
file_of-get (node ∷ nodes) zero d lt = refl
file_of-get (node ∷ nodes) (suc n) d lt = file_of-get nodes n d (omega arith)

pub file_at-node : (k : Option Kind) (n : ℕ) → node_of k ≡ Some n → k ≡ Some (kind.File n)
file_at-node (Some (kind.Dir m foreign)) n is = cc
file_at-node (Some (kind.File m)) n is = let one : m ≡ n = cc in ap (λ (x : ℕ). Some (kind.File x)) one
file_at-node (Some (kind.Link target)) n is = cc
file_at-node (Some kind.Other) n is = cc
file_at-node None n is = cc

-- what the map has where there is a node
pub file_at : (paths : List (Vec ℕ Global × Kind)) (p : List ℕ) (read : List ℕ) (n : ℕ) → read ≡ p → Some n ≡ node_of (kind_at paths read) → kind_at paths p ≡ Some (kind.File n)
file_at paths p read n same is = ap (kind_at paths) (sym same) ∙ file_at-node (kind_at paths read) n (sym is)

-- a file shows its node
pub entry_of-file : (paths : List (Vec ℕ Global × Kind)) (nodes : List Node) (q : List ℕ) (n : ℕ) (node : Node) → IsImage (image_of paths nodes) → kind_at paths q ≡ Some (kind.File n) → node ≡ get_or nodes n node
    → entry_of nodes (kind_at paths q) ≡ Some (File node.mode node.bytes.items)
entry_of-file paths nodes q n node formed is at =
    let lt : n < length nodes = node_within paths nodes q n formed is in
    ap (entry_of nodes) is ∙ file_of-get nodes n node lt ∙ ap (λ (x : Node). Some (File x.mode x.bytes.items)) (sym at)

-- ---- an entry where none stood

-- where nothing can be made there is a fault
pub no_fault : (t : Image) (p : List ℕ) → fault_at t p ≡ None → (has_parent t p ≡ true) × (t.look p ≡ None)
no_fault t p h = go (has_parent t p) (t.look p) h
  where
    go : (above : Bool) (e : Option Entry) → cond above (cond (is_some e) (Some Taken) None) (Some NoParent) ≡ None → (above ≡ true) × (e ≡ None)
    go true (Some e) h = cc
    go true None h = (refl, refl)
    go false e h = cc

none_of : (x y : Option Entry) → (is_none x || is_dir y) ≡ true → y ≡ None → x ≡ None
none_of (Some x) y h e = let no : is_dir y ≡ false = ap is_dir e in cc
none_of None y h e = refl

module _ (t : Image) (p : List ℕ) (formed : IsImage t) (absent : t.look p ≡ None) where
  -- nothing stands at or below the path
  pub nothing_below : (q : List ℕ) → covers p q ≡ true → t.look q ≡ None
  nothing_below q c = go (same_path p q) refl
    where
      go : (s : Bool) → same_path p q ≡ s → t.look q ≡ None
      go true s = ap t.look (sym (same_path-true p q s)) ∙ absent
      go false s = none_of (t.look q) (t.look p) (formed.below_dirs p q c s) absent

  pub alone : (q x : List ℕ) → covers p q ≡ true → t.same q x ≡ false
  alone q x c = false_from_ne_true _ (λ one. let file = (formed.files q x one).0 in let none : is_file (t.look q) ≡ false = ap is_file (nothing_below q c) in cc)

  pub alone-back : (q x : List ℕ) → covers p q ≡ true → t.same x q ≡ false
  alone-back q x c = formed.sym x q ∙ alone q x c

look_put : (s c : Bool) (e x : Option Entry) → (s ≡ true → c ≡ true) → (c ≡ true → x ≡ None) → cond s e x ≡ cond s e (cond c None x)
look_put true c e x sc h = refl
look_put false true e x sc h = h refl
look_put false false e x sc h = refl

same_put : (sa ca sb cb f : Bool) (k a b : Option ℕ) → (sa ≡ true → ca ≡ true) → (sb ≡ true → cb ≡ true) → one_node k k ≡ f → one_node k b ≡ false → one_node a k ≡ false
    → (ca ≡ true → one_node a b ≡ false) → (cb ≡ true → one_node a b ≡ false)
    → one_node (cond sa k a) (cond sb k b) ≡ cond (ca || cb) (sa && (sb && f)) (one_node a b)
same_put true true true true f k a b ha hb kk kb ak na nb = kk
same_put true true true false f k a b ha hb kk kb ak na nb = absurd (let bad = hb refl in cc)
same_put true true false cb f k a b ha hb kk kb ak na nb = kb
same_put true false sb cb f k a b ha hb kk kb ak na nb = absurd (let bad = ha refl in cc)
same_put false true true true f k a b ha hb kk kb ak na nb = ak
same_put false true true false f k a b ha hb kk kb ak na nb = absurd (let bad = hb refl in cc)
same_put false true false cb f k a b ha hb kk kb ak na nb = na refl
same_put false false true true f k a b ha hb kk kb ak na nb = ak
same_put false false true false f k a b ha hb kk kb ak na nb = absurd (let bad = hb refl in cc)
same_put false false false true f k a b ha hb kk kb ak na nb = nb refl
same_put false false false false f k a b ha hb kk kb ak na nb = refl

node_of-cond : (s : Bool) (k x : Option Kind) → node_of (cond s k x) ≡ cond s (node_of k) (node_of x)
node_of-cond true k x = refl
node_of-cond false k x = refl

entry_of-cond : (nodes : List Node) (s : Bool) (k x : Option Kind) → entry_of nodes (cond s k x) ≡ cond s (entry_of nodes k) (entry_of nodes x)
entry_of-cond nodes true k x = refl
entry_of-cond nodes false k x = refl

module _ (old new : List (Vec ℕ Global × Kind)) (nodes more : List Node) (p : List ℕ) (k : Kind) (formed : IsImage (image_of old nodes))
    (put : (q : List ℕ) → kind_at new q ≡ cond (same_path p q) (Some k) (kind_at old q)) (absent : entry_of nodes (kind_at old p) ≡ None)
    (kept : (q : List ℕ) → entry_of more (kind_at old q) ≡ entry_of nodes (kind_at old q))
    (own : one_node (node_of (Some k)) (node_of (Some k)) ≡ is_file (entry_of more (Some k)))
    (apart : (q : List ℕ) → (one_node (node_of (Some k)) (node_of (kind_at old q)) ≡ false) × (one_node (node_of (kind_at old q)) (node_of (Some k)) ≡ false)) where
  pub image_put : image_of new more ≡ with_entry_at p (entry_of more (Some k)) (image_of old nodes)
  image_put = image_ext _ _ looks sames
    where
      looks : (q : List ℕ) → entry_of more (kind_at new q) ≡ (with_entry_at p (entry_of more (Some k)) (image_of old nodes)).look q
      looks q =
          ap (entry_of more) (put q) ∙ entry_of-cond more (same_path p q) (Some k) (kind_at old q)
          ∙ ap (λ (x : Option Entry). cond (same_path p q) (entry_of more (Some k)) x) (kept q)
          ∙ look_put (same_path p q) (covers p q) (entry_of more (Some k)) (entry_of nodes (kind_at old q)) (same_covers p q) (nothing_below (image_of old nodes) p formed absent q)

      sames : (a b : List ℕ) → one_node (node_of (kind_at new a)) (node_of (kind_at new b)) ≡ (with_entry_at p (entry_of more (Some k)) (image_of old nodes)).same a b
      sames a b =
          ap (λ (x : Option Kind). one_node (node_of x) (node_of (kind_at new b))) (put a)
          ∙ ap (λ (x : Option ℕ). one_node x (node_of (kind_at new b))) (node_of-cond (same_path p a) (Some k) (kind_at old a))
          ∙ ap (λ (x : Option Kind). one_node (cond (same_path p a) (node_of (Some k)) (node_of (kind_at old a))) (node_of x)) (put b)
          ∙ ap (λ (x : Option ℕ). one_node (cond (same_path p a) (node_of (Some k)) (node_of (kind_at old a))) x) (node_of-cond (same_path p b) (Some k) (kind_at old b))
          ∙ same_put (same_path p a) (covers p a) (same_path p b) (covers p b) (is_file (entry_of more (Some k))) (node_of (Some k)) (node_of (kind_at old a)) (node_of (kind_at old b))
          (same_covers p a) (same_covers p b) own (apart b).0 (apart a).1
          (λ c. alone (image_of old nodes) p formed absent a b c) (λ c. alone-back (image_of old nodes) p formed absent b a c)

plain_entry : (nodes : List Node) (k : Kind) → node_of (Some k) ≡ None → entry_of nodes (Some k) ≡ entry_of [] (Some k)
plain_entry nodes (kind.Dir m foreign) h = refl
plain_entry nodes (kind.File n) h = cc
plain_entry nodes (kind.Link target) h = refl
plain_entry nodes kind.Other h = refl

plain_file : (k : Kind) → node_of (Some k) ≡ None → is_file (entry_of [] (Some k)) ≡ false
plain_file (kind.Dir m foreign) h = refl
plain_file (kind.File n) h = cc
plain_file (kind.Link target) h = refl
plain_file kind.Other h = refl

one_node-none : (x : Option ℕ) → one_node x None ≡ false
one_node-none (Some n) = refl
one_node-none None = refl

-- what was added has a directory above it
added_formed : (t u : Image) (p : List ℕ) (e : Option Entry) → IsImage t → has_parent t p ≡ true → IsPath p → has_small_mode e ≡ true → u ≡ with_entry_at p e t → IsImage u
added_formed t u p e formed above path small is = subst IsImage (sym is) (placed_formed p e t formed (λ _. above) (λ _. path) small)

module _ (old new : List (Vec ℕ Global × Kind)) (nodes : List Node) (p : List ℕ) (k : Kind) (formed : IsImage (image_of old nodes)) (can : fault_at (image_of old nodes) p ≡ None)
    (plain : node_of (Some k) ≡ None) where
  -- what is no file
  pub image_plain : ((q : List ℕ) → kind_at new q ≡ cond (same_path p q) (Some k) (kind_at old q)) → image_of new nodes ≡ with_entry_at p (entry_of [] (Some k)) (image_of old nodes)
  image_plain put =
      let same : entry_of nodes (Some k) ≡ entry_of [] (Some k) = plain_entry nodes k plain in
      image_put old new nodes nodes p k formed put (no_fault (image_of old nodes) p can).1 (λ q. refl)
      (ap (λ (x : Option ℕ). one_node x x) plain ∙ sym (ap is_file same ∙ plain_file k plain))
      (λ q. (ap (λ (x : Option ℕ). one_node x (node_of (kind_at old q))) plain, ap (one_node (node_of (kind_at old q))) plain ∙ one_node-none (node_of (kind_at old q))))
      ∙ ap (λ (e : Option Entry). with_entry_at p e (image_of old nodes)) same

  -- whatever `put` answers
  pub formed_plain : {E : Type 0} (r : Result (Unit {0}) E) → IsPath p → has_small_mode (entry_of [] (Some k)) ≡ true → OnOk r ((q : List ℕ) → kind_at new q ≡ cond (same_path p q) (Some k) (kind_at old q)) → OnErr r (new ≡ old) → IsImage (image_of new nodes)
  formed_plain (Ok u) path small put stays = added_formed (image_of old nodes) (image_of new nodes) p (entry_of [] (Some k)) formed (no_fault (image_of old nodes) p can).0 path small (image_plain put)
  formed_plain (Err e) path small put stays = subst (λ (entries : List (Vec ℕ Global × Kind)). IsImage (image_of entries nodes)) (sym stays) formed

file_of-more : (nodes : List Node) (node : Node) (n : ℕ) → n < length nodes → file_of (nodes ++ node ∷ []) n ≡ file_of nodes n
file_of-more [] node n lt = absurd (omega arith)
file_of-more (x ∷ nodes) node zero lt = refl
file_of-more (x ∷ nodes) node (suc n) lt = file_of-more nodes node n (omega arith)

file_of-last : (nodes : List Node) (node : Node) → file_of (nodes ++ node ∷ []) (length nodes) ≡ Some (File node.mode node.bytes.items)
file_of-last [] node = refl
file_of-last (x ∷ nodes) node = file_of-last nodes node

module _ (old new : List (Vec ℕ Global × Kind)) (nodes : List Node) (p : List ℕ) (node : Node) (formed : IsImage (image_of old nodes)) (can : fault_at (image_of old nodes) p ≡ None)
    (put : (q : List ℕ) → kind_at new q ≡ cond (same_path p q) (Some (kind.File (length nodes))) (kind_at old q)) where
  still : (q : List ℕ) (k : Option Kind) → kind_at old q ≡ k → entry_of (nodes ++ node ∷ []) k ≡ entry_of nodes k
  still q (Some (kind.Dir m foreign)) is = refl
  still q (Some (kind.File n)) is = file_of-more nodes node n (node_within old nodes q n formed is)
  still q (Some (kind.Link target)) is = refl
  still q (Some kind.Other) is = refl
  still q None is = refl

  new_node : (q : List ℕ) (k : Option Kind) → kind_at old q ≡ k → (one_node (Some (length nodes)) (node_of k) ≡ false) × (one_node (node_of k) (Some (length nodes)) ≡ false)
  new_node q (Some (kind.Dir m foreign)) is = (refl, refl)
  new_node q (Some (kind.File n)) is =
      let lt = node_within old nodes q n formed is in
      (ne_eqb (length nodes) n (λ e. omega (arith, e)), ne_eqb n (length nodes) (λ e. omega (arith, e)))
  new_node q (Some (kind.Link target)) is = (refl, refl)
  new_node q (Some kind.Other) is = (refl, refl)
  new_node q None is = (refl, refl)

  -- a file with a node of its own
  pub image_file : image_of new (nodes ++ node ∷ []) ≡ with_entry_at p (Some (File node.mode node.bytes.items)) (image_of old nodes)
  image_file =
      let shown : file_of (nodes ++ node ∷ []) (length nodes) ≡ Some (File node.mode node.bytes.items) = file_of-last nodes node in
      image_put old new nodes (nodes ++ node ∷ []) p (kind.File (length nodes)) formed put (no_fault (image_of old nodes) p can).1 (λ q. still q (kind_at old q) refl)
      (one_node-self (length nodes) ∙ sym (ap is_file shown)) (λ q. new_node q (kind_at old q) refl)
      ∙ ap (λ (e : Option Entry). with_entry_at p e (image_of old nodes)) shown

  pub formed_file : IsPath p → node.mode < 4096 → IsImage (image_of new (nodes ++ node ∷ []))
  formed_file path small = added_formed (image_of old nodes) (image_of new (nodes ++ node ∷ [])) p (Some (File node.mode node.bytes.items)) formed (no_fault (image_of old nodes) p can).0 path (lt-ltb node.mode 4096 small) image_file

-- ---- one node changed

pub file_of-set_here : (nodes : List Node) (n : ℕ) (node : Node) → n < length nodes → file_of (set nodes n node) n ≡ Some (File node.mode node.bytes.items)
file_of-set_here [] n node lt = absurd (omega arith)
file_of-set_here (x ∷ nodes) zero node lt = refl
file_of-set_here (x ∷ nodes) (suc n) node lt = file_of-set_here nodes n node (omega arith)

pub file_of-set_other : (nodes : List Node) (n m : ℕ) (node : Node) → (n ≡ m → ⊥) → file_of (set nodes n node) m ≡ file_of nodes m
file_of-set_other [] n m node apart = refl
file_of-set_other (x ∷ nodes) zero zero node apart = absurd (apart refl)
file_of-set_other (x ∷ nodes) zero (suc m) node apart = refl
file_of-set_other (x ∷ nodes) (suc n) zero node apart = refl
file_of-set_other (x ∷ nodes) (suc n) (suc m) node apart = file_of-set_other nodes n m node (λ e. apart (ap suc e))

file_of-set : (nodes : List Node) (n m : ℕ) (node : Node) → n < length nodes → file_of (set nodes n node) m ≡ cond (n == m) (Some (File node.mode node.bytes.items)) (file_of nodes m)
file_of-set nodes n m node lt = go (n == m) refl
  where
    go : (b : Bool) → (n == m) ≡ b → file_of (set nodes n node) m ≡ cond b (Some (File node.mode node.bytes.items)) (file_of nodes m)
    go true is = ap (file_of (set nodes n node)) (sym (eqb-true n m is)) ∙ file_of-set_here nodes n node lt
    go false is = file_of-set_other nodes n m node (eqb-false n m is)

module _ (paths : List (Vec ℕ Global × Kind)) (nodes : List Node) (p : List ℕ) (n : ℕ) (node : Node) (formed : IsImage (image_of paths nodes)) (at : kind_at paths p ≡ Some (kind.File n)) where
  -- every name of the node shows it, and nothing else changes
  look_of-set : (q : List ℕ) → entry_of (set nodes n node) (kind_at paths q) ≡ cond (one_node (node_of (kind_at paths p)) (node_of (kind_at paths q))) (Some (File node.mode node.bytes.items)) (entry_of nodes (kind_at paths q))
  look_of-set q = go (kind_at paths q) ∙ ap (λ (k : Option Kind). cond (one_node (node_of k) (node_of (kind_at paths q))) (Some (File node.mode node.bytes.items)) (entry_of nodes (kind_at paths q))) (sym at)
    where
      go : (k : Option Kind) → entry_of (set nodes n node) k ≡ cond (one_node (Some n) (node_of k)) (Some (File node.mode node.bytes.items)) (entry_of nodes k)
      go (Some (kind.Dir m foreign)) = refl
      go (Some (kind.File m)) = file_of-set nodes n m node (node_within paths nodes p n formed at)
      go (Some (kind.Link target)) = refl
      go (Some kind.Other) = refl
      go None = refl

  same_of-at : (q : List ℕ) → same_path p q ≡ true → (image_of paths nodes).same p q ≡ true
  same_of-at q s = ap ((image_of paths nodes).same p) (sym (same_path-true p q s)) ∙ ap (λ (k : Option Kind). one_node (node_of k) (node_of k)) at ∙ one_node-self n

  shown : (q : List ℕ) → (image_of paths nodes).same p q ≡ true → (image_of paths nodes).look q ≡ file_of nodes n
  shown q one = sym (formed.files p q one).1 ∙ ap (entry_of nodes) at

  -- the node has another mode
  pub image_moded : (d : Node) → node.bytes.items ≡ (get_or nodes n d).bytes.items → image_of paths (set nodes n node) ≡ moded node.mode p (image_of paths nodes)
  image_moded d kept = image_ext _ _ (λ q. look_of-set q ∙ go q (same_path p q) refl ((image_of paths nodes).same p q) refl) (λ a b. refl)
    where
      turned : (q : List ℕ) → (image_of paths nodes).same p q ≡ true → Some (File node.mode node.bytes.items) ≡ with_mode node.mode ((image_of paths nodes).look q)
      turned q one =
          ap (λ (bytes : List ℕ). Some (File node.mode bytes)) kept
          ∙ ap (with_mode node.mode) (sym (shown q one ∙ file_of-get nodes n d (node_within paths nodes p n formed at)))

      go : (q : List ℕ) (s : Bool) → same_path p q ≡ s → (one : Bool) → (image_of paths nodes).same p q ≡ one
          → cond one (Some (File node.mode node.bytes.items)) ((image_of paths nodes).look q) ≡ cond (s || one) (with_mode node.mode ((image_of paths nodes).look q)) ((image_of paths nodes).look q)
      go q s is true one = turned q one ∙ ap (λ (b : Bool). cond b (with_mode node.mode ((image_of paths nodes).look q)) ((image_of paths nodes).look q)) (sym (or_true s))
      go q true is false one = let own = same_of-at q is in cc
      go q false is false one = refl

  -- the node has more bytes, and no other name
  pub image_appended : (d : Node) (more : List ℕ) → node.mode ≡ (get_or nodes n d).mode → node.bytes.items ≡ (get_or nodes n d).bytes.items ++ more
      → ((q : List ℕ) → (image_of paths nodes).same p q ≡ true → q ≡ p) → image_of paths (set nodes n node) ≡ appended p more (image_of paths nodes)
  image_appended d more kept longer sole = image_ext _ _ (λ q. look_of-set q ∙ go q (same_path p q) refl ((image_of paths nodes).same p q) refl) (λ a b. refl)
    where
      turned : (q : List ℕ) → (image_of paths nodes).same p q ≡ true → Some (File node.mode node.bytes.items) ≡ more_bytes more ((image_of paths nodes).look q)
      turned q one =
          ap (λ (m : ℕ). Some (File m node.bytes.items)) kept ∙ ap (λ (bytes : List ℕ). Some (File (get_or nodes n d).mode bytes)) longer
          ∙ ap (more_bytes more) (sym (shown q one ∙ file_of-get nodes n d (node_within paths nodes p n formed at)))

      go : (q : List ℕ) (s : Bool) → same_path p q ≡ s → (one : Bool) → (image_of paths nodes).same p q ≡ one
          → cond one (Some (File node.mode node.bytes.items)) ((image_of paths nodes).look q) ≡ cond s (more_bytes more ((image_of paths nodes).look q)) ((image_of paths nodes).look q)
      go q true is true one = turned q one
      go q false is true one = let same : same_path p q ≡ true = ap (same_path p) (sole q one) ∙ same_path-self p in cc
      go q true is false one = let own = same_of-at q is in cc
      go q false is false one = refl

  -- the node is as before
  pub image_unchanged : (d : Node) → node.mode ≡ (get_or nodes n d).mode → node.bytes.items ≡ (get_or nodes n d).bytes.items → image_of paths (set nodes n node) ≡ image_of paths nodes
  image_unchanged d kept same = image_ext _ _ (λ q. look_of-set q ∙ go q ((image_of paths nodes).same p q) refl) (λ a b. refl)
    where
      go : (q : List ℕ) (one : Bool) → (image_of paths nodes).same p q ≡ one → cond one (Some (File node.mode node.bytes.items)) ((image_of paths nodes).look q) ≡ (image_of paths nodes).look q
      go q true one =
          ap (λ (m : ℕ). Some (File m node.bytes.items)) kept ∙ ap (λ (bytes : List ℕ). Some (File (get_or nodes n d).mode bytes)) same
          ∙ sym (shown q one ∙ file_of-get nodes n d (node_within paths nodes p n formed at))
      go q false one = refl

  -- whether or not there was memory
  pub formed_appended : (d : Node) (more : List ℕ) (done : Bool) → node.mode ≡ (get_or nodes n d).mode → node.bytes.items ≡ cond done ((get_or nodes n d).bytes.items ++ more) (get_or nodes n d).bytes.items
      → ((q : List ℕ) → (image_of paths nodes).same p q ≡ true → q ≡ p) → IsImage (image_of paths (set nodes n node))
  formed_appended d more true kept longer sole = subst IsImage (sym (image_appended d more kept longer sole)) (appended_formed p more (image_of paths nodes) formed sole)
  formed_appended d more false kept same sole = subst IsImage (sym (image_unchanged d kept same)) formed

  pub formed_moded : (d : Node) → node.bytes.items ≡ (get_or nodes n d).bytes.items → node.mode < 4096 → IsImage (image_of paths (set nodes n node))
  formed_moded d kept small = subst IsImage (sym (image_moded d kept)) (moded_formed node.mode p (image_of paths nodes) formed small)

-- ---- one directory changed

module _ (old new : List (Vec ℕ Global × Kind)) (nodes : List Node) (p : List ℕ) (mode : ℕ) (formed : IsImage (image_of old nodes)) (no_file : node_of (kind_at old p) ≡ None)
    (edited : (q : List ℕ) → kind_at new q ≡ cond (same_path p q) (option_map (with_dir_mode mode) (kind_at old q)) (kind_at old q)) where
  entry_edited : (k : Option Kind) → node_of k ≡ None → entry_of nodes (option_map (with_dir_mode mode) k) ≡ with_mode mode (entry_of nodes k)
  entry_edited (Some (kind.Dir m foreign)) none = refl
  entry_edited (Some (kind.File n)) none = cc
  entry_edited (Some (kind.Link target)) none = refl
  entry_edited (Some kind.Other) none = refl
  entry_edited None none = refl

  node_edited : (s : Bool) (k : Option Kind) → node_of (cond s (option_map (with_dir_mode mode) k) k) ≡ node_of k
  node_edited false k = refl
  node_edited true (Some (kind.Dir m foreign)) = refl
  node_edited true (Some (kind.File n)) = refl
  node_edited true (Some (kind.Link target)) = refl
  node_edited true (Some kind.Other) = refl
  node_edited true None = refl

  pub image_dir_moded : image_of new nodes ≡ moded mode p (image_of old nodes)
  image_dir_moded = image_ext _ _ (λ q. ap (entry_of nodes) (edited q) ∙ looks q (same_path p q) refl) (λ a b. λ i. one_node (same_node a i) (same_node b i))
    where
      same_node : (q : List ℕ) → node_of (kind_at new q) ≡ node_of (kind_at old q)
      same_node q = ap node_of (edited q) ∙ node_edited (same_path p q) (kind_at old q)

      apart : (q : List ℕ) → (image_of old nodes).same p q ≡ false
      apart q = ap (λ (x : Option ℕ). one_node x (node_of (kind_at old q))) no_file

      looks : (q : List ℕ) (s : Bool) → same_path p q ≡ s
          → entry_of nodes (cond s (option_map (with_dir_mode mode) (kind_at old q)) (kind_at old q)) ≡ cond (s || (image_of old nodes).same p q) (with_mode mode ((image_of old nodes).look q)) ((image_of old nodes).look q)
      looks q true s = entry_edited (kind_at old q) (ap (λ (x : List ℕ). node_of (kind_at old x)) (sym (same_path-true p q s)) ∙ no_file)
      looks q false s = sym (ap (λ (one : Bool). cond one (with_mode mode ((image_of old nodes).look q)) ((image_of old nodes).look q)) (apart q))

  pub formed_dir_moded : mode < 4096 → IsImage (image_of new nodes)
  formed_dir_moded small = subst IsImage (sym image_dir_moded) (moded_formed mode p (image_of old nodes) formed small)

-- ---- one directory marked

module _ (old new : List (Vec ℕ Global × Kind)) (nodes : List Node) (p : List ℕ) (formed : IsImage (image_of old nodes))
    (edited : (q : List ℕ) → kind_at new q ≡ cond (same_path p q) (option_map with_dir_mark (kind_at old q)) (kind_at old q)) where
  file_mark : (nodes : List Node) (n : ℕ) → file_of nodes n ≡ with_mark (file_of nodes n)
  file_mark [] n = refl
  file_mark (node ∷ nodes) zero = refl
  file_mark (node ∷ nodes) (suc n) = file_mark nodes n

  entry_mark : (s : Bool) (k : Option Kind) → entry_of nodes (cond s (option_map with_dir_mark k) k) ≡ cond s (with_mark (entry_of nodes k)) (entry_of nodes k)
  entry_mark false k = refl
  entry_mark true (Some (kind.Dir m foreign)) = refl
  entry_mark true (Some (kind.File n)) = file_mark nodes n
  entry_mark true (Some (kind.Link target)) = refl
  entry_mark true (Some kind.Other) = refl
  entry_mark true None = refl

  node_mark : (s : Bool) (k : Option Kind) → node_of (cond s (option_map with_dir_mark k) k) ≡ node_of k
  node_mark false k = refl
  node_mark true (Some (kind.Dir m foreign)) = refl
  node_mark true (Some (kind.File n)) = refl
  node_mark true (Some (kind.Link target)) = refl
  node_mark true (Some kind.Other) = refl
  node_mark true None = refl

  pub image_marked : image_of new nodes ≡ marked p (image_of old nodes)
  image_marked = image_ext _ _ (λ q. ap (entry_of nodes) (edited q) ∙ entry_mark (same_path p q) (kind_at old q)) (λ a b. λ i. one_node (same_node a i) (same_node b i))
    where
      same_node : (q : List ℕ) → node_of (kind_at new q) ≡ node_of (kind_at old q)
      same_node q = ap node_of (edited q) ∙ node_mark (same_path p q) (kind_at old q)

  pub formed_marked : IsImage (image_of new nodes)
  formed_marked = subst IsImage (sym image_marked) (marked_formed p (image_of old nodes) formed)

-- where no directory stands nothing is marked
pub marked_none : (p : List ℕ) (t : Image) → is_dir (t.look p) ≡ false → marked p t ≡ t
marked_none p t none = image_ext _ _ (λ q. at q (same_path p q) refl) (λ a b. refl)
  where
    unmarked : (x : Option Entry) → is_dir x ≡ false → with_mark x ≡ x
    unmarked (Some (Dir m f)) h = cc
    unmarked (Some (File m b)) h = refl
    unmarked (Some (Link g)) h = refl
    unmarked (Some Other) h = refl
    unmarked None h = refl

    at : (q : List ℕ) (s : Bool) → same_path p q ≡ s → cond s (with_mark (t.look q)) (t.look q) ≡ t.look q
    at q true s = unmarked (t.look q) (ap (λ (x : List ℕ). is_dir (t.look x)) (sym (same_path-true p q s)) ∙ none)
    at q false s = refl

-- ---- a further name of a file

module _ (old new : List (Vec ℕ Global × Kind)) (nodes : List Node) (p to : List ℕ) (n : ℕ) (formed : IsImage (image_of old nodes)) (can : fault_at (image_of old nodes) p ≡ None)
    (at : kind_at old to ≡ Some (kind.File n)) (put : (q : List ℕ) → kind_at new q ≡ cond (same_path p q) (Some (kind.File n)) (kind_at old q)) where
  name_node : (q : List ℕ) (s : Bool) → node_of (cond s (Some (kind.File n)) (kind_at old q)) ≡ node_of (kind_at old (cond s to q))
  name_node q true = ap node_of (sym at)
  name_node q false = refl

  names_node : (q : List ℕ) → node_of (kind_at new q) ≡ node_of (kind_at old (cond (same_path p q) to q))
  names_node q = ap node_of (put q) ∙ name_node q (same_path p q)

  absent : (image_of old nodes).look p ≡ None
  absent = (no_fault (image_of old nodes) p can).1

  off : (q : List ℕ) → is_below p q ≡ true → (covers p q ≡ true) × (same_path p q ≡ false)
  off q below = let parts = and_parts (covers p q) (not (same_path p q)) below in (parts.0, let other = parts.1 in false_from_ne_true (same_path p q) (λ same. absurd (cc)))

  joined_nodes : (a b : List ℕ) (ba bb : Bool) → is_below p a ≡ ba → is_below p b ≡ bb
      → (image_of old nodes).same (cond (same_path p a) to a) (cond (same_path p b) to b) ≡ cond (ba || bb) false ((image_of old nodes).same (cond (same_path p a) to a) (cond (same_path p b) to b))
  joined_nodes a b true bb ea eb =
      let parts = off a ea in
      ap (λ (s : Bool). (image_of old nodes).same (cond s to a) (cond (same_path p b) to b)) parts.1 ∙ alone (image_of old nodes) p formed absent a (cond (same_path p b) to b) parts.0
  joined_nodes a b false true ea eb =
      let parts = off b eb in
      ap (λ (s : Bool). (image_of old nodes).same (cond (same_path p a) to a) (cond s to b)) parts.1 ∙ alone-back (image_of old nodes) p formed absent b (cond (same_path p a) to a) parts.0
  joined_nodes a b false false ea eb = refl

  pub image_joined : image_of new nodes ≡ joined p to (image_of old nodes)
  image_joined = image_ext _ _
      (λ q. ap (entry_of nodes) (put q) ∙ entry_of-cond nodes (same_path p q) (Some (kind.File n)) (kind_at old q)
      ∙ ap (λ (e : Option Entry). cond (same_path p q) e ((image_of old nodes).look q)) (sym (ap (entry_of nodes) at))
      ∙ look_put (same_path p q) (covers p q) ((image_of old nodes).look to) ((image_of old nodes).look q) (same_covers p q) (nothing_below (image_of old nodes) p formed absent q))
      (λ a b. (λ i. one_node (names_node a i) (names_node b i)) ∙ joined_nodes a b (is_below p a) (is_below p b) refl refl)

  pub formed_joined : IsPath p → IsImage (image_of new nodes)
  formed_joined path = subst IsImage (sym image_joined) (joined_formed p to (image_of old nodes) formed (no_fault (image_of old nodes) p can).0 path)

-- whatever `put` answers
pub formed_named : {E : Type 0} (old new : List (Vec ℕ Global × Kind)) (nodes : List Node) (p to : List ℕ) (n : ℕ) → IsImage (image_of old nodes) → fault_at (image_of old nodes) p ≡ None
    → kind_at old to ≡ Some (kind.File n) → (r : Result (Unit {0}) E) → IsPath p → OnOk r ((q : List ℕ) → kind_at new q ≡ cond (same_path p q) (Some (kind.File n)) (kind_at old q)) → OnErr r (new ≡ old) → IsImage (image_of new nodes)
formed_named old new nodes p to n formed can at (Ok u) path put stays = formed_joined old new nodes p to n formed can at put path
formed_named old new nodes p to n formed can at (Err e) path put stays = subst (λ (entries : List (Vec ℕ Global × Kind)). IsImage (image_of entries nodes)) (sym stays) formed

-- ---- what stands at and below a path, taken away

module _ (old new : List (Vec ℕ Global × Kind)) (nodes : List Node) (p : List ℕ) (formed : IsImage (image_of old nodes)) (taken : (q : List ℕ) → kind_at new q ≡ cond (covers p q) None (kind_at old q)) where
  look_taken : (s c : Bool) (k : Option Kind) → (s ≡ true → c ≡ true) → entry_of nodes (cond c None k) ≡ cond s None (cond c None (entry_of nodes k))
  look_taken true true k h = refl
  look_taken true false k h = absurd (let bad = h refl in cc)
  look_taken false true k h = refl
  look_taken false false k h = refl

  never : (x y : Bool) → (x && (y && false)) ≡ false
  never true true = refl
  never true false = refl
  never false y = refl

  same_taken : (ca cb sa sb : Bool) (a b : Option Kind) → one_node (node_of (cond ca None a)) (node_of (cond cb None b)) ≡ cond (ca || cb) (sa && (sb && false)) (one_node (node_of a) (node_of b))
  same_taken true cb sa sb a b = sym (never sa sb)
  same_taken false true sa sb a b = one_node-none (node_of a) ∙ sym (never sa sb)
  same_taken false false sa sb a b = refl

  pub image_taken : image_of new nodes ≡ with_entry_at p None (image_of old nodes)
  image_taken = image_ext _ _ (λ q. ap (entry_of nodes) (taken q) ∙ look_taken (same_path p q) (covers p q) (kind_at old q) (same_covers p q))
      (λ a b. (λ i. one_node (node_of (taken a i)) (node_of (taken b i))) ∙ same_taken (covers p a) (covers p b) (same_path p a) (same_path p b) (kind_at old a) (kind_at old b))

  pub formed_taken : IsImage (image_of new nodes)
  formed_taken = subst IsImage (sym image_taken) (placed_formed p None (image_of old nodes) formed (λ some. absurd (cc)) (λ some. absurd (cc)) refl)

-- where nothing stands nothing goes
pub none_taken : (p : List ℕ) (t : Image) → IsImage t → t.look p ≡ None → t ≡ with_entry_at p None t
none_taken p t formed absent = image_ext _ _ (λ q. look_none (same_path p q) (covers p q) (t.look q) (same_covers p q) (nothing_below t p formed absent q))
    (λ a b. same_none (covers p a) (covers p b) (same_path p a) (same_path p b) (t.same a b) (alone t p formed absent a b) (alone-back t p formed absent b a))
  where
    look_none : (s c : Bool) (x : Option Entry) → (s ≡ true → c ≡ true) → (c ≡ true → x ≡ None) → x ≡ cond s None (cond c None x)
    look_none true c x sc h = h (sc refl)
    look_none false true x sc h = h refl
    look_none false false x sc h = refl

    none : (x y : Bool) → false ≡ (x && (y && false))
    none true true = refl
    none true false = refl
    none false y = refl

    same_none : (ca cb sa sb x : Bool) → (ca ≡ true → x ≡ false) → (cb ≡ true → x ≡ false) → x ≡ cond (ca || cb) (sa && (sb && false)) x
    same_none true cb sa sb x ha hb = ha refl ∙ none sa sb
    same_none false true sa sb x ha hb = hb refl ∙ none sa sb
    same_none false false sa sb x ha hb = refl

file_no_dir : (nodes : List Node) (n : ℕ) → false ≡ is_dir (file_of nodes n)
file_no_dir [] n = refl
file_no_dir (node ∷ nodes) zero = refl
file_no_dir (node ∷ nodes) (suc n) = file_no_dir nodes n

pub has_dir-at : (nodes : List Node) (k : Option Kind) → has_dir k ≡ is_dir (entry_of nodes k)
has_dir-at nodes (Some (kind.Dir m foreign)) = refl
has_dir-at nodes (Some (kind.File n)) = file_no_dir nodes n
has_dir-at nodes (Some (kind.Link target)) = refl
has_dir-at nodes (Some kind.Other) = refl
has_dir-at nodes None = refl

pub look_none : (nodes : List Node) (k : Option Kind) → is_some k ≡ false → entry_of nodes k ≡ None
look_none nodes (Some k) h = cc
look_none nodes None h = refl
