-- What a request leaves to searches has one finding: the names of what is saved, the directories on the way, what is saved, and where nothing can be carried out.
use Rattle.std.proofs.Common.{◌≡◌, ℕ, zero, suc, ◌<◌, Bool, true, false, cond, not, ◌&&◌, ◌||◌, nat_lt, List, [], ◌∷◌, ◌++◌, Option, Some, None, is_some, refl, sym, ◌∙◌, ap, subst, arith}
use Rattle.std.proofs.lemmas.Bool.{ltb-true, ltb-false}
use Rattle.ips_text.specs.Ancestry.{same_path, covers, is_below}
use Rattle.ips_outside.specs.Image.{Entry, Image}
use Rattle.ips_steps.specs.Private.{records_name}
use Rattle.ips_after.specs.After.{change_after, given_up}
use Rattle.ips_after.specs.Change.{cleared}
use Rattle.ips_after.specs.Extra.{extra_or}
use Rattle.ips_after.specs.Lists.{listed}
use Rattle.ips_after.specs.Request.{Request}
use Rattle.ips_after.specs.Salvage.{Aside, Beside, GoesTo, IsAside, IsAsides, IsLostName, NameTaken, Salvage, Side, change_saving, has_foreign, has_long_side, inside, is_long_path, is_lost, is_unmovable, movable, moved_inside, put_beside, salvaged, salvaged_inside, saved, side_at, side_entry, side_is, side_name, way_entry, with_suffix}
use Rattle.ips_after.proofs.Changed.{both_ways}
use Rattle.ips_after.proofs.Emptied.{emptied_one}
use Rattle.ips_after.proofs.Names.{AllTried, Before, comes, count, count_before, side_facts, taken_over, tried}
use Rattle.ips_after.proofs.Saved.{no_slash}
use Rattle.ips_due.proofs.outstanding.Answered.{one_order}

-- ---- two findings for one request, with one salvage folder

module _ (r : Request) (t : Image) (a b : Aside) (keyed : (q : List ℕ) → is_some (r.new.at q) ≡ listed r.new.keys q) (bare : (q : List ℕ) → is_below records_name q ≡ true → r.new.at q ≡ None)
    (under : is_below records_name a.root ≡ true) (root : b.root ≡ a.root) (is : IsAside r t a) (js : IsAside r t b) where
  tried_a : AllTried r t a.root a
  tried_a x side at lost = let n = is.names x side at lost in record { times = n.times; name = n.name }

  tried_b : AllTried r t a.root b
  tried_b x side at lost = let n = js.names x side at lost in record { times = n.times; name = n.name ∙ ap (λ (y : List ℕ). tried y n.times x side) root }

  -- the name of a lost side name is the same, where the names before it are
  lost_same : (p : List ℕ) (side : Side) → side_at r t p ≡ Some side → is_lost r t (p ++ side.suffix) ≡ true → ((x : List ℕ) (other : Side) → side_at r t x ≡ Some other → Before x p → side_name r t a x other ≡ side_name r t b x other) → a.lost p ≡ b.lost p
  lost_same p side at lost same = go (nat_lt one.times two.times) refl (nat_lt two.times one.times) refl
    where
      one : IsLostName r t a p side
      one = is.names p side at lost

      two : IsLostName r t b p side
      two = js.names p side at lost

      free : no_slash side.suffix ≡ true
      free = (side_facts r t p side at).0.free

      here : (n : ℕ) → with_suffix n side.suffix ((b.root ++ 47 ∷ p) ++ side.suffix) ≡ tried a.root n p side
      here n = ap (λ (y : List ℕ). with_suffix n side.suffix ((y ++ 47 ∷ p) ++ side.suffix)) root

      sooner : one.times < two.times → ⊥
      sooner less =
          let had : NameTaken r t b p (tried a.root one.times p side) = subst (NameTaken r t b p) (here one.times) (two.first one.times less) in
          one.free (subst (NameTaken r t a p) (sym one.name) (taken_over r t a.root bare under b a root refl tried_b p side free (λ x other on h. sym (same x other on h)) one.times (tried a.root one.times p side) had refl))

      later : two.times < one.times → ⊥
      later less =
          let had : NameTaken r t a p (tried a.root two.times p side) = one.first two.times less in
          two.free (subst (NameTaken r t b p) (sym (two.name ∙ here two.times)) (taken_over r t a.root bare under a b refl root tried_a p side free same two.times (tried a.root two.times p side) had refl))

      go : (l : Bool) → nat_lt one.times two.times ≡ l → (g : Bool) → nat_lt two.times one.times ≡ g → a.lost p ≡ b.lost p
      go true l g e = absurd (sooner (ltb-true one.times two.times l))
      go false l true e = absurd (later (ltb-true two.times one.times e))
      go false l false e =
          let up = ltb-false one.times two.times l in
          let down = ltb-false two.times one.times e in
          let times : one.times ≡ two.times = omega (arith, up, down) in
          one.name ∙ ap (λ (n : ℕ). tried a.root n p side) times ∙ sym (here two.times) ∙ sym two.name

  all_same : (n : ℕ) (p : List ℕ) (side : Side) → side_at r t p ≡ Some side → count (λ y. comes y p) r.new.keys < n → side_name r t a p side ≡ side_name r t b p side
  all_same zero p side at few = absurd (omega (arith, few))
  all_same (suc n) p side at few = go (is_lost r t (p ++ side.suffix)) refl (λ x other on h. all_same n x other on (fewer x other on h))
    where
      fewer : (x : List ℕ) (other : Side) → side_at r t x ≡ Some other → Before x p → count (λ y. comes y x) r.new.keys < n
      fewer x other on h =
          let less = count_before r.new.keys x p (sym (keyed x) ∙ (side_facts r t x other on).1) h in
          omega (arith, less, few)

      go : (l : Bool) → is_lost r t (p ++ side.suffix) ≡ l → ((x : List ℕ) (other : Side) → side_at r t x ≡ Some other → Before x p → side_name r t a x other ≡ side_name r t b x other) → cond l (a.lost p) (p ++ side.suffix) ≡ cond l (b.lost p) (p ++ side.suffix)
      go true lost before = lost_same p side at lost before
      go false free before = refl

  names_same : (p : List ℕ) (side : Side) → side_at r t p ≡ Some side → side_name r t a p side ≡ side_name r t b p side
  names_same p side at = all_same (suc (count (λ y. comes y p) r.new.keys)) p side at (omega arith)

  goes_too : (q : List ℕ) → GoesTo r t a q → GoesTo r t b q
  goes_too q (Salvage x s) = subst (λ (y : List ℕ). GoesTo r t b (y ++ 47 ∷ x)) root (Salvage x s)
  goes_too q (Beside x side at) = subst (GoesTo r t b) (sym (names_same x side at)) (Beside x side at)

  goes_back : (q : List ℕ) → GoesTo r t b q → GoesTo r t a q
  goes_back q (Salvage x s) = subst (λ (y : List ℕ). GoesTo r t a (y ++ 47 ∷ x)) (sym root) (Salvage x s)
  goes_back q (Beside x side at) = subst (GoesTo r t a) (names_same x side at) (Beside x side at)

  ways_same : (q : List ℕ) → a.ways q ≡ b.ways q
  ways_same q = both_ways
      (λ w. let x = is.ways_only q w in js.ways_all q (record { at = x.0.at; inside_it = x.0.inside_it; goes = goes_too x.0.at x.0.goes }) x.1 (ap (λ (y : List ℕ). covers q y || covers y q) root ∙ x.2))
      (λ w. let x = js.ways_only q w in is.ways_all q (record { at = x.0.at; inside_it = x.0.inside_it; goes = goes_back x.0.at x.0.goes }) x.1 (ap (λ (y : List ℕ). covers q y || covers y q) (sym root) ∙ x.2))

  -- what is put beside one path goes to another in both, or in neither
  beside_same : (p q : List ℕ) (s : Option Side) → side_at r t p ≡ s → side_is r t a q p s ≡ side_is r t b q p s
  beside_same p q (Some side) at = ap (λ (y : List ℕ). same_path y q) (names_same p side at)
  beside_same p q None at = refl

  put_same : (keys : List (List ℕ)) (q : List ℕ) (o : Option Entry) → put_beside r t a keys q o ≡ put_beside r t b keys q o
  put_same [] q o = refl
  put_same (p ∷ rest) q o =
      ap (λ (x : Bool). cond x (side_entry (side_at r t p)) (put_beside r t a rest q o)) (beside_same p q (side_at r t p) refl)
      ∙ ap (cond (side_is r t b q p (side_at r t p)) (side_entry (side_at r t p))) (put_same rest q o)

  saved_same : (q : List ℕ) → saved r t a q ≡ saved r t b q
  saved_same q =
      ap (λ (y : List ℕ). cond (salvaged_inside r t (inside y q)) (moved_inside t (inside y q)) (put_beside r t a r.new.keys q (way_entry (a.ways q)))) (sym root)
      ∙ ap (cond (salvaged_inside r t (inside b.root q)) (moved_inside t (inside b.root q))) (put_same r.new.keys q (way_entry (a.ways q)))
      ∙ ap (λ (w : Bool). cond (salvaged_inside r t (inside b.root q)) (moved_inside t (inside b.root q)) (put_beside r t b r.new.keys q (way_entry w))) (ways_same q)

  -- both findings change each path alike
  pub changes_same : change_saving r t a ≡ change_saving r t b
  changes_same = λ i. λ q. go q i
    where
      go : (q : List ℕ) → change_saving r t a q ≡ change_saving r t b q
      go q =
          ap (λ (o : Option Entry). extra_or o (change_after r t a.emptied q)) (saved_same q)
          ∙ ap (λ (e : List ℕ → Bool). extra_or (saved r t b q) (change_after r t e q)) (emptied_one r t a.emptied b.emptied is.is_emptied js.is_emptied)

  -- and save at the same paths
  pub asides_same : (xs ys : List (List ℕ)) → IsAsides r t a xs → IsAsides r t b ys → xs ≡ ys
  asides_same xs ys of_a of_b =
      one_order xs ys of_a.by_bytes of_b.by_bytes (λ q h. sym (in_both q) ∙ h) (λ q h. in_both q ∙ h)
    where
      in_both : (q : List ℕ) → listed xs q ≡ listed ys q
      in_both q = sym (of_a.all q) ∙ ap (λ (o : Option Entry). is_some o) (saved_same q) ∙ of_b.all q

  long_same : (p : List ℕ) (s : Option Side) → side_at r t p ≡ s → has_long_side r t a p s ≡ has_long_side r t b p s
  long_same p (Some side) at = ap is_long_path (names_same p side at)
  long_same p None at = refl

  -- and neither can be carried out at a path at which the other can't
  pub unmovable_same : (p : List ℕ) → is_unmovable r t a p ≡ is_unmovable r t b p
  unmovable_same p =
      let emptied = emptied_one r t a.emptied b.emptied is.is_emptied js.is_emptied in
      let long = long_same p (side_at r t p) refl in
      λ i. (salvaged r t p && (not (movable (t.look p)) || is_long_path (sym root i ++ 47 ∷ p)))
      || ((has_foreign (t.look p) && (not (covers records_name p) && (given_up r t p && cleared (change_after r t (emptied i)) p))) || long i)
