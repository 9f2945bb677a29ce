-- Private names: no step of a journal frees or reads them, and without them an image shows what it is.
use Rattle.std.proofs.Common.{◌≡◌, ℕ, Bool, true, false, cond, not, ◌||◌, ◌==◌, List, [], ◌∷◌, ◌++◌, Option, Some, None, refl, sym, ◌∙◌, ap, subst, inl, inr}
use Rattle.std.proofs.lemmas.Bool.{and_parts, and_from, or_from, or_right, or_left, or_cases, not-true, not_from_false, eqb-true, eq-eqb, false_from_ne_true}
use Rattle.ips_text.specs.Ancestry.{same_path, covers, parent}
use Rattle.ips_outside.specs.Image.{Entry, Dir, File, Link, Other, Image, Agrees, with_mode, file_bytes}
use Rattle.ips_outside.specs.State.{nowhere}
use Rattle.ips_steps.specs.Steps.{Step, Gone, Fresh, Mode, Put, Symlink, Hard, stage_name, stage_path, stage_of, frees, freed, at_parent, clear_of, all_clear_of}
use Rattle.ips_steps.specs.Private.{records_name, journal_name, gate_name, mark_front, mark_name, begins, is_private, visible}
use Rattle.ips_steps.specs.Journal.{may_name, step_allowed, allowed}
use Rattle.ips_text.proofs.Ancestry.{same_path-true, covers-self, covers_trans, at_parent_of, parent_covers}
use Rattle.ips_outside.proofs.Images.{image_ext}
use Rattle.ips_steps.proofs.Lists.{clash}

-- ---- what is seen

hide_look : (h : Bool) (x y : Option Entry) → (h ≡ false → x ≡ y) → cond h None x ≡ cond h None y
hide_look true x y e = refl
hide_look false x y e = e refl

hide_same : (h k x y : Bool) → (h ≡ false → k ≡ false → x ≡ y) → cond (h || k) false x ≡ cond (h || k) false y
hide_same true k x y e = refl
hide_same false true x y e = refl
hide_same false false x y e = e refl refl

-- images that are alike but at private paths look the same
pub visible_alike : (t u : Image) → ((q : List ℕ) → is_private q ≡ false → u.look q ≡ t.look q) → ((a b : List ℕ) → is_private a ≡ false → is_private b ≡ false → u.same a b ≡ t.same a b) → visible u ≡ visible t
visible_alike t u looks sames = image_ext _ _
    (λ q. hide_look (is_private q) (u.look q) (t.look q) (looks q))
    (λ a b. hide_same (is_private a) (is_private b) (u.same a b) (t.same a b) (sames a b))

pub visible_agrees : (t u : Image) → Agrees is_private nowhere t u → visible u ≡ visible t
visible_agrees t u h = visible_alike t u (λ q seen. h.look q seen refl) h.same

-- ---- paths below one another

-- two paths at or above one are one above the other
covers_chain : (p q r : List ℕ) → covers p r ≡ true → covers q r ≡ true → (covers p q || covers q p) ≡ true
covers_chain [] [] r pr qr = refl
covers_chain [] (b ∷ q) [] pr qr = cc
covers_chain [] (b ∷ q) (c ∷ r) pr qr = let same = eqb-true b c (and_parts _ _ qr).0 in or_left (b == 47) _ (subst (λ (x : ℕ). (x == 47) ≡ true) (sym same) pr)
covers_chain (a ∷ p) q [] pr qr = cc
covers_chain (a ∷ p) [] (c ∷ r) pr qr = let same = eqb-true a c (and_parts _ _ pr).0 in or_right false _ (subst (λ (x : ℕ). (x == 47) ≡ true) (sym same) qr)
covers_chain (a ∷ p) (b ∷ q) (c ∷ r) pr qr =
    let pp = and_parts _ _ pr in
    let qq = and_parts _ _ qr in
    let ac = eqb-true a c pp.0 in
    let bc = eqb-true b c qq.0 in
    let e : (a == b) ≡ true = eq-eqb a b (ac ∙ sym bc) in
    let f : (b == a) ≡ true = eq-eqb b a (bc ∙ sym ac) in
    rw (e, f) (covers_chain p q r pp.1 qq.1)

covers_more : (p q : List ℕ) → covers p (p ++ 47 ∷ q) ≡ true
covers_more [] q = refl
covers_more (a ∷ p) q = and_from (a == a) _ (eq-eqb a a refl) (covers_more p q)

-- what is at or above a path that goes on from a front begins with the front, or is at or above it
covers_front : (p f d : List ℕ) → covers p (f ++ d) ≡ true → (begins f p || covers p f) ≡ true
covers_front [] [] d c = refl
covers_front [] (b ∷ f) d c = c
covers_front (a ∷ p) [] d c = refl
covers_front (a ∷ p) (b ∷ f) d c =
    let cs = and_parts (a == b) (covers p (f ++ d)) c in
    let back : (b == a) ≡ true = eq-eqb b a (sym (eqb-true a b cs.0)) in
    rw (cs.0, back) (covers_front p f d cs.1)

pub begins_below : (f p q : List ℕ) → begins f p ≡ true → covers p q ≡ true → begins f q ≡ true
begins_below [] p q b c = refl
begins_below (x ∷ f) [] q b c = cc
begins_below (x ∷ f) (y ∷ p) [] b c = cc
begins_below (x ∷ f) (y ∷ p) (z ∷ q) b c =
    let bs = and_parts _ _ b in
    let cs = and_parts _ _ c in
    and_from _ _ (eq-eqb x z (eqb-true x y bs.0 ∙ eqb-true y z cs.0)) (begins_below f p q bs.1 cs.1)

pub begins_front : (p d : List ℕ) → begins p (p ++ d) ≡ true
begins_front [] d = refl
begins_front (a ∷ p) d = and_from (a == a) _ (eq-eqb a a refl) (begins_front p d)

begins-self : (p : List ℕ) → begins p p ≡ true
begins-self [] = refl
begins-self (a ∷ p) = and_from (a == a) _ (eq-eqb a a refl) (begins-self p)

-- below a private path all are
pub private_below : (p q : List ℕ) → is_private p ≡ true → covers p q ≡ true → is_private q ≡ true
private_below p q own c = elim (or_cases _ _ own) [
  | inl a ↦ or_left _ _ (covers_trans stage_name p q a c)
  | inr rest ↦ or_right (covers stage_name q) _ (elim (or_cases _ _ rest) [
    | inl a ↦ or_left _ _ (covers_trans journal_name p q a c)
    | inr more ↦ or_right (covers journal_name q) _ (elim (or_cases _ _ more) [
      | inl a ↦ or_left _ _ (covers_trans gate_name p q a c)
      | inr a ↦ or_right (covers gate_name q) _ (begins_below mark_front p q a c)
    ])
  ])
]

pub stage_private : (q : List ℕ) → covers stage_name q ≡ true → is_private q ≡ true
stage_private q c = or_left _ _ c

pub journal_private : (q : List ℕ) → covers journal_name q ≡ true → is_private q ≡ true
journal_private q c = or_right (covers stage_name q) _ (or_left _ _ c)

pub gate_private : (q : List ℕ) → covers gate_name q ≡ true → is_private q ≡ true
gate_private q c = or_right (covers stage_name q) _ (or_right (covers journal_name q) _ (or_left _ _ c))

pub mark_private : (q : List ℕ) → begins mark_front q ≡ true → is_private q ≡ true
mark_private q b = or_right (covers stage_name q) _ (or_right (covers journal_name q) _ (or_right (covers gate_name q) _ b))

-- ---- no step is at or above a private name

pub stage_parent : parent stage_name ≡ Some records_name
unfolding stage_name records_name
stage_parent = refl

pub journal_parent : parent journal_name ≡ Some records_name
unfolding journal_name records_name
journal_parent = refl

pub gate_parent : parent gate_name ≡ Some records_name
unfolding gate_name records_name
gate_parent = refl

pub mark_parent : parent mark_front ≡ Some records_name
unfolding mark_front records_name
mark_parent = refl

-- what a step may name is neither such a name nor above it
unnamed : (q p : List ℕ) → parent q ≡ Some records_name → is_private q ≡ true → may_name p ≡ true → covers p q ≡ false
unnamed q p is own may = false_from_ne_true _ (λ covered. go covered (same_path p q) refl)
  where
    parts : (not (is_private p) ≡ true) × (not (covers p records_name) ≡ true)
    parts = and_parts (not (is_private p)) (not (covers p records_name)) may

    go : covers p q ≡ true → (s : Bool) → same_path p q ≡ s → ⊥
    go covered true same = clash (is_private p) (ap is_private (same_path-true p q same) ∙ own) (not-true _ parts.0)
    go covered false same =
        let up = at_parent_of p q covered same in
        let dir : up.dir ≡ records_name = let one = sym up.is ∙ is in cc in
        clash (covers p records_name) (ap (covers p) (sym dir) ∙ up.up) (not-true _ parts.1)

pub stage_unnamed : (p : List ℕ) → may_name p ≡ true → covers p stage_name ≡ false
stage_unnamed p may = unnamed stage_name p stage_parent (stage_private stage_name (covers-self stage_name)) may

journal_unnamed : (p : List ℕ) → may_name p ≡ true → covers p journal_name ≡ false
journal_unnamed p may = unnamed journal_name p journal_parent (journal_private journal_name (covers-self journal_name)) may

gate_unnamed : (p : List ℕ) → may_name p ≡ true → covers p gate_name ≡ false
gate_unnamed p may = unnamed gate_name p gate_parent (gate_private gate_name (covers-self gate_name)) may

pub seen_of : (p : List ℕ) → may_name p ≡ true → is_private p ≡ false
seen_of p may = not-true _ (and_parts (not (is_private p)) (not (covers p records_name)) may).0

pub content_unnamed : (n : ℕ) (p : List ℕ) → may_name p ≡ true → covers p (stage_path n) ≡ false
content_unnamed n p may = false_from_ne_true _ (λ covered. elim (or_cases (covers p stage_name) (covers stage_name p) (covers_chain p stage_name (stage_path n) covered (covers_more stage_name _))) [
  | inl up ↦ clash (covers p stage_name) up (stage_unnamed p may)
  | inr down ↦ clash (is_private p) (stage_private p down) (seen_of p may)
])

pub marks_unnamed : (n : ℕ) (p : List ℕ) → may_name p ≡ true → covers p (mark_name n) ≡ false
marks_unnamed n p may = false_from_ne_true _ (λ covered. elim (or_cases (begins mark_front p) (covers p mark_front) (covers_front p mark_front _ covered)) [
  | inl front ↦ clash (is_private p) (mark_private p front) (seen_of p may)
  | inr up ↦ clash (covers p mark_front) up (unnamed mark_front p mark_parent (mark_private mark_front (begins-self mark_front)) may)
])

-- so none frees it
step_frees : (q : List ℕ) → ((p : List ℕ) → may_name p ≡ true → covers p q ≡ false) → (s : Step) → step_allowed s ≡ true → frees s q ≡ false
step_frees q off (Gone p) may = off p may
step_frees q off (Fresh m p) may = off p may
step_frees q off (Mode m p) may = refl
step_frees q off (Put k m p) may = off p may
step_frees q off (Symlink p target) may = off p may
step_frees q off (Hard p to) may = off p (and_parts _ _ may).0

list_frees : (q : List ℕ) → ((p : List ℕ) → may_name p ≡ true → covers p q ≡ false) → (steps : List Step) → allowed steps ≡ true → freed steps q ≡ false
list_frees q off [] may = refl
list_frees q off (s ∷ rest) may = let parts = and_parts (step_allowed s) (allowed rest) may in or_from _ _ (step_frees q off s parts.0) (list_frees q off rest parts.1)

pub content_kept : (steps : List Step) (n : ℕ) → allowed steps ≡ true → freed steps (stage_path n) ≡ false
content_kept steps n may = list_frees (stage_path n) (content_unnamed n) steps may

pub journal_kept : (steps : List Step) → allowed steps ≡ true → freed steps journal_name ≡ false
journal_kept steps may = list_frees journal_name journal_unnamed steps may

pub gate_kept : (steps : List Step) → allowed steps ≡ true → freed steps gate_name ≡ false
gate_kept steps may = list_frees gate_name gate_unnamed steps may

pub marks_kept : (steps : List Step) (n : ℕ) → allowed steps ≡ true → freed steps (mark_name n) ≡ false
marks_kept steps n may = list_frees (mark_name n) (marks_unnamed n) steps may

-- ---- no step reads a private name

parent_seen : (p : List ℕ) → is_private p ≡ false → at_parent is_private (parent p) ≡ false
parent_seen p own = go (parent p) refl
  where
    go : (o : Option (List ℕ)) → parent p ≡ o → at_parent is_private o ≡ false
    go (Some q) is = false_from_ne_true _ (λ above. clash (is_private p) (private_below q p above (parent_covers p q is)) own)
    go None is = refl

step_clear : (s : Step) → step_allowed s ≡ true → clear_of is_private s ≡ true
step_clear (Gone p) may = refl
step_clear (Fresh m p) may = not_from_false _ (parent_seen p (seen_of p may))
step_clear (Mode m p) may = let own = not-true _ may in and_from _ _ (not_from_false _ (parent_seen p own)) may
step_clear (Put n m p) may = not_from_false _ (parent_seen p (seen_of p may))
step_clear (Symlink p target) may = not_from_false _ (parent_seen p (seen_of p may))
step_clear (Hard p to) may =
    let both = and_parts (may_name p) (may_name to) may in
    and_from _ _ (not_from_false _ (parent_seen p (seen_of p both.0))) (not_from_false _ (seen_of to both.1))

pub all_clear : (steps : List Step) → allowed steps ≡ true → all_clear_of is_private steps ≡ true
all_clear [] may = refl
all_clear (s ∷ rest) may = let both = and_parts (step_allowed s) (allowed rest) may in and_from _ _ (step_clear s both.0) (all_clear rest both.1)

-- ---- the contents stay

pub file_bytes-mode : (m : ℕ) (x : Option Entry) → file_bytes (with_mode m x) ≡ file_bytes x
file_bytes-mode m (Some (Dir o f)) = refl
file_bytes-mode m (Some (File o b)) = refl
file_bytes-mode m (Some (Link g)) = refl
file_bytes-mode m (Some Other) = refl
file_bytes-mode m None = refl

-- bytes are alike but for the mode
pub same_bytes : (x y : Option Entry) → with_mode 0 x ≡ with_mode 0 y → file_bytes x ≡ file_bytes y
same_bytes x y e = sym (file_bytes-mode 0 x) ∙ ap file_bytes e ∙ file_bytes-mode 0 y

pub same_stage : (steps : List Step) (loose : List ℕ → Bool) (t u : Image) → allowed steps ≡ true → Agrees (freed steps) loose t u → stage_of u ≡ stage_of t
same_stage steps loose t u may h = λ i n. same_bytes (u.look (stage_path n)) (t.look (stage_path n)) (h.but_mode (stage_path n) (content_kept steps n may)) i
