-- No line means two actions, and its first fault is one.
use Rattle.std.proofs.Common.{◌≡◌, ℕ, ◌<◌, Bool, true, false, cond, List, [], ◌∷◌, map, length, Option, Some, None, refl, sym, ◌∙◌, ap, subst, arith, inl, inr}
use Rattle.std.specs.declared.cmp.Ordering.{Ordering}
use Rattle.std.specs.declared.cmp.Ordering.TheVariants.{Less, Equal, Greater}
use Rattle.std.specs.Ordering.{ordering_reverse}
use Rattle.std.specs.List.{AllByRecursion}
use Rattle.ips_digest.specs.declared.name.PayloadName.{PayloadName}
use Rattle.ips_digest.specs.Name.{spelling}
use Rattle.ips_digest.proofs.Names.{spelled_once}
use Rattle.ips_line.specs.declared.words.Pair.{Pair}
use Rattle.ips_line.specs.Line.{Said, Placed}
use Rattle.ips_action.specs.declared.kind.ActionKind.{ActionKind}
use Rattle.ips_action.specs.declared.kind.ActionKind.TheVariants.{Set, Depend, Dir, File, Link, Hardlink, User, Group, Driver, License, Legacy, Signature}
use Rattle.ips_action.specs.declared.fault.ActionFault.{ActionFault}
use Rattle.ips_action.specs.declared.fault.ActionFault.TheVariants.{UnknownAction, BadWord, OpenQuote, MissingKey, BadValue}
use Rattle.ips_action.specs.Attrs.{Attr}
use Rattle.ips_action.specs.Kind.{kind_name}
use Rattle.ips_action.specs.Table.{AttributeRow}
use Rattle.ips_action.specs.Attrs.{is_same, IsBefore, AreAttrs, values_of, Gathers}
use Rattle.ips_action.specs.Judging.{MeetsRow, KeepsRow, Finds, FindsFirst, path_of, standing, rows_of, takes_payload}
use Rattle.ips_action.specs.Action.{Fields, IfName, IfTaken, payload_word}
use Rattle.ips_action.specs.Meaning.{held, word_of, IsSaid, IsJudged, IsNotTaken, FaultOf}
use Rattle.ips_action.proofs.Gathered.{later_none, all_later}
use Rattle.ips_action.proofs.KeyOrder.{by_bytes, same_true, same_self, equal_is, turned}

-- ---- kinds

abbrev kind_of : List ℕ → ActionKind
kind_of w = cond (is_same w (kind_name Set)) Set (cond (is_same w (kind_name Depend)) Depend (cond (is_same w (kind_name Dir)) Dir (cond (is_same w (kind_name File)) File (cond (is_same w (kind_name Link)) Link (cond (is_same w (kind_name Hardlink)) Hardlink (cond (is_same w (kind_name User)) User (cond (is_same w (kind_name Group)) Group (cond (is_same w (kind_name Driver)) Driver (cond (is_same w (kind_name License)) License (cond (is_same w (kind_name Legacy)) Legacy Signature))))))))))

kind_back : (kind : ActionKind) → kind_of (kind_name kind) ≡ kind
kind_back Set = refl
kind_back Depend = refl
kind_back Dir = refl
kind_back File = refl
kind_back Link = refl
kind_back Hardlink = refl
kind_back User = refl
kind_back Group = refl
kind_back Driver = refl
kind_back License = refl
kind_back Legacy = refl
kind_back Signature = refl

pub one_kind : (a b : ActionKind) → kind_name a ≡ kind_name b → a ≡ b
one_kind a b e = sym (kind_back a) ∙ ap kind_of e ∙ kind_back b

-- ---- payloads

pub one_payload : (a b : Option PayloadName) → IfName a → IfName b → payload_word a ≡ payload_word b → a ≡ b
one_payload None None ha hb e = refl
one_payload None (Some n) ha hb e = absurd cc
one_payload (Some m) None ha hb e = absurd cc
one_payload (Some m) (Some n) ha hb e = let same : spelling m ≡ spelling n = cc in ap (λ (x : PayloadName). Some x) (spelled_once m n ha hb same)

-- ---- attributes

abbrev Alike : List Attr → List Attr → Type 0
Alike attrs others = (key : List ℕ) → values_of key attrs ≡ values_of key others

head_values : (a : Attr) (attrs : List Attr) → values_of a.key (a ∷ attrs) ≡ a.values
head_values a attrs = rw (same_self a.key a.key refl) refl

-- a key before all others has no values there
not_first : (a : Attr) (attrs others : List Attr) → 0 < length a.values → Alike (a ∷ attrs) others → AllByRecursion (λ (x : Attr). IsBefore a.key x.key) others → ⊥
not_first a attrs others some alike later =
    let none : a.values ≡ [] = sym (head_values a attrs) ∙ alike a.key ∙ later_none others a.key later in
    omega (arith, ap length none)

tails_alike : (a b : Attr) (attrs others : List Attr) → a.key ≡ b.key → AllByRecursion (λ (x : Attr). IsBefore a.key x.key) attrs → AllByRecursion (λ (x : Attr). IsBefore b.key x.key) others → Alike (a ∷ attrs) (b ∷ others) → Alike attrs others
tails_alike a b attrs others same ha hb alike key = go (is_same a.key key) refl
  where
    go : (t : Bool) → is_same a.key key ≡ t → values_of key attrs ≡ values_of key others
    go true e =
        let P : List ℕ → Type 0 = λ k. AllByRecursion (λ (x : Attr). IsBefore k x.key) attrs in
        let Q : List ℕ → Type 0 = λ k. AllByRecursion (λ (x : Attr). IsBefore k x.key) others in
        later_none attrs key (subst P (same_true a.key key e) ha) ∙ sym (later_none others key (subst Q (sym same ∙ same_true a.key key e) hb))
    go false e =
        let f : is_same b.key key ≡ false = ap (λ (k : List ℕ). is_same k key) (sym same) ∙ e in
        let left : values_of key (a ∷ attrs) ≡ values_of key attrs = rw e refl in
        let right : values_of key (b ∷ others) ≡ values_of key others = rw f refl in
        sym left ∙ alike key ∙ right

pub one_list : (attrs others : List Attr) → AreAttrs attrs → AreAttrs others → Alike attrs others → attrs ≡ others
one_list [] [] ha hb alike = refl
one_list [] (b ∷ others) ha hb alike = absurd (not_first b others [] hb.0 (λ key. sym (alike key)) tt)
one_list (a ∷ attrs) [] ha hb alike = absurd (not_first a attrs [] ha.0 alike tt)
one_list (a ∷ attrs) (b ∷ others) ha hb alike = go (by_bytes a.key b.key) refl (one_list attrs others ha.2 hb.2)
  where
    go : (o : Ordering) → by_bytes a.key b.key ≡ o → (Alike attrs others → attrs ≡ others) → a ∷ attrs ≡ b ∷ others
    go Less e rest = absurd (not_first a attrs (b ∷ others) ha.0 alike (e, all_later others a.key b.key e hb.1))
    go Equal e rest =
        let same : a.key ≡ b.key = equal_is a.key b.key e in
        let values : a.values ≡ b.values = sym (head_values a attrs) ∙ alike a.key ∙ ap (λ (k : List ℕ). values_of k (b ∷ others)) same ∙ head_values b others in
        let first : a ≡ b = λ i. record { key = same i; values = values i } in
        ap (λ (x : Attr). x ∷ attrs) first ∙ ap (λ (l : List Attr). b ∷ l) (rest (tails_alike a b attrs others same ha.1 hb.1 alike))
    go Greater e rest =
        let before : IsBefore b.key a.key = turned b.key a.key ∙ ap ordering_reverse e in
        absurd (not_first b others (a ∷ attrs) hb.0 (λ key. sym (alike key)) (before, all_later attrs b.key a.key before ha.1))

pub one_gathered : (pairs : List Pair) (attrs others : List Attr) → AreAttrs attrs → AreAttrs others → Gathers pairs attrs → Gathers pairs others → attrs ≡ others
one_gathered pairs attrs others ha hb ga gb = one_list attrs others ha hb (λ key. ga key ∙ sym (gb key))

-- ---- faults

found_not_kept : (path : List ℕ) (values : List (List ℕ)) (row : AttributeRow) (fault : ActionFault) → Finds path values row fault → MeetsRow path values row → ⊥
found_not_kept path values row (UnknownAction place) f k = f
found_not_kept path values row (BadWord place) f k = f
found_not_kept path values row (OpenQuote place) f k = f
found_not_kept path values row (MissingKey name) f k = omega (arith, k.enough, f.1)
found_not_kept path values row (BadValue name) f k = f.1.1 k

one_found : (path : List ℕ) (values : List (List ℕ)) (row : AttributeRow) (f g : ActionFault) → Finds path values row f → Finds path values row g → f ≡ g
one_found path values row (UnknownAction m) g a b = absurd a
one_found path values row (BadWord m) g a b = absurd a
one_found path values row (OpenQuote m) g a b = absurd a
one_found path values row (MissingKey m) (UnknownAction n) a b = absurd b
one_found path values row (MissingKey m) (BadWord n) a b = absurd b
one_found path values row (MissingKey m) (OpenQuote n) a b = absurd b
one_found path values row (MissingKey m) (MissingKey n) a b = ap MissingKey (a.0 ∙ sym b.0)
one_found path values row (MissingKey m) (BadValue n) a b = absurd (omega (arith, a.1, b.1.0))
one_found path values row (BadValue m) (UnknownAction n) a b = absurd b
one_found path values row (BadValue m) (BadWord n) a b = absurd b
one_found path values row (BadValue m) (OpenQuote n) a b = absurd b
one_found path values row (BadValue m) (MissingKey n) a b = absurd (omega (arith, a.1.0, b.1))
one_found path values row (BadValue m) (BadValue n) a b = ap BadValue (a.0 ∙ sym b.0)

first_not_kept : (payload : Option (List ℕ)) (attrs : List Attr) (rows : List AttributeRow) (fault : ActionFault) → FindsFirst payload attrs rows fault → AllByRecursion (KeepsRow payload attrs) rows → ⊥
first_not_kept payload attrs [] fault f k = f
first_not_kept payload attrs (row ∷ rows) fault (inl f) k = found_not_kept (path_of attrs) (standing payload attrs row) row fault f k.0
first_not_kept payload attrs (row ∷ rows) fault (inr f) k = first_not_kept payload attrs rows fault f.1 k.1

one_first : (payload : Option (List ℕ)) (attrs : List Attr) (rows : List AttributeRow) (f g : ActionFault) → FindsFirst payload attrs rows f → FindsFirst payload attrs rows g → f ≡ g
one_first payload attrs [] f g a b = absurd a
one_first payload attrs (row ∷ rows) f g (inl a) (inl b) = one_found (path_of attrs) (standing payload attrs row) row f g a b
one_first payload attrs (row ∷ rows) f g (inl a) (inr b) = absurd (found_not_kept (path_of attrs) (standing payload attrs row) row f a b.0)
one_first payload attrs (row ∷ rows) f g (inr a) (inl b) = absurd (found_not_kept (path_of attrs) (standing payload attrs row) row g b a.0)
one_first payload attrs (row ∷ rows) f g (inr a) (inr b) = one_first payload attrs rows f g a.1 b.1

-- ---- what words say

-- kind and attributes are the same for whatever the words say
abbrev Alone : Said → ActionKind → List Attr → Type 0
Alone said kind attrs = (said.name.text ≡ kind_name kind) × AreAttrs attrs × Gathers (map (held kind) said.pairs) attrs

alone : (said : Said) (kind other : ActionKind) (attrs others : List Attr) → Alone said kind attrs → Alone said other others → (kind ≡ other) × (attrs ≡ others)
alone said kind other attrs others a b =
    let same : kind ≡ other = one_kind kind other (sym a.0 ∙ b.0) in
    let P : ActionKind → Type 0 = λ k. Gathers (map (held k) said.pairs) attrs in
    (same, one_gathered (map (held other) said.pairs) attrs others a.1 b.1 (subst P same a.2) b.2)

judged_alone : (said : Said) (f : ActionFault) (j : IsJudged said f) → Alone said j.kind j.attrs
judged_alone said f j = (j.name, j.ordered, j.gathers)

said_alone : (said : Said) (a : Fields) → IsSaid said a → Alone said a.kind a.attrs
said_alone said a s = (s.kind, s.action.ordered, s.attrs)

pub one_said : (said : Said) (a b : Fields) → IsSaid said a → IsSaid said b → a ≡ b
one_said said a b s t =
    let both = alone said a.kind b.kind a.attrs b.attrs (said_alone said a s) (said_alone said b t) in
    let payload : a.payload ≡ b.payload = one_payload a.payload b.payload s.action.named t.action.named (sym s.payload ∙ t.payload) in
    λ i. record { kind = both.0 i; payload = payload i; attrs = both.1 i }

abbrev Judged : Said → ActionKind → List Attr → ActionFault → Type 0
Judged said kind attrs fault = FindsFirst (word_of said.payload) attrs (rows_of kind attrs) fault

moved : (said : Said) (kind other : ActionKind) (attrs others : List Attr) (fault : ActionFault) → kind ≡ other → attrs ≡ others → Judged said kind attrs fault → Judged said other others fault
moved said kind other attrs others fault e f h =
    let P : ActionKind → Type 0 = λ k. Judged said k attrs fault in
    let Q : List Attr → Type 0 = λ l. Judged said other l fault in
    subst Q f (subst P e h)

one_judged : (said : Said) (f g : ActionFault) → IsJudged said f → IsJudged said g → f ≡ g
one_judged said f g a b =
    let both = alone said a.kind b.kind a.attrs b.attrs (judged_alone said f a) (judged_alone said g b) in
    one_first (word_of said.payload) b.attrs (rows_of b.kind b.attrs) f g (moved said a.kind b.kind a.attrs b.attrs f both.0 both.1 a.first) b.first

judged_not_said : (said : Said) (f : ActionFault) (a : Fields) → IsJudged said f → IsSaid said a → ⊥
judged_not_said said f a j s =
    let both = alone said j.kind a.kind j.attrs a.attrs (judged_alone said f j) (said_alone said a s) in
    let P : Option (List ℕ) → Type 0 = λ w. AllByRecursion (KeepsRow w a.attrs) (rows_of a.kind a.attrs) in
    first_not_kept (word_of said.payload) a.attrs (rows_of a.kind a.attrs) f (moved said j.kind a.kind j.attrs a.attrs f both.0 both.1 j.first) (subst P (sym s.payload) s.action.rows)

if_taken_some : {A : Type 0} (kind : ActionKind) (payload : Option A) (x : A) → payload ≡ Some x → IfTaken kind payload → takes_payload kind ≡ true
if_taken_some kind None x e h = absurd cc
if_taken_some kind (Some y) x e h = h

not_taken_judged : (said : Said) (place : ℕ) (f : ActionFault) → IsNotTaken said place → IsJudged said f → ⊥
not_taken_judged said place f n j =
    let same : n.kind ≡ j.kind = one_kind n.kind j.kind (sym n.name ∙ j.name) in
    let taken : takes_payload j.kind ≡ true = if_taken_some j.kind said.payload n.word n.payload j.taken in
    let untaken : takes_payload j.kind ≡ false = ap takes_payload (sym same) ∙ n.untaken in
    cc

payload_there : (payload : Option PayloadName) (word : List ℕ) → payload_word payload ≡ Some word → (name : PayloadName) × (payload ≡ Some name)
payload_there None word e = absurd cc
payload_there (Some name) word e = (name, refl)

not_taken_said : (said : Said) (place : ℕ) (a : Fields) → IsNotTaken said place → IsSaid said a → ⊥
not_taken_said said place a n s =
    let same : n.kind ≡ a.kind = one_kind n.kind a.kind (sym n.name ∙ s.kind) in
    let word : payload_word a.payload ≡ Some n.word.text = sym s.payload ∙ ap word_of n.payload in
    let name = payload_there a.payload n.word.text word in
    let taken : takes_payload a.kind ≡ true = if_taken_some a.kind a.payload name.0 name.1 s.action.taken in
    let untaken : takes_payload a.kind ≡ false = ap takes_payload (sym same) ∙ n.untaken in
    cc

one_not_taken : (said : Said) (m n : ℕ) → IsNotTaken said m → IsNotTaken said n → m ≡ n
one_not_taken said m n a b = let same : Some a.word ≡ Some b.word = sym a.payload ∙ b.payload in let word : a.word ≡ b.word = cc in a.at ∙ ap (λ (w : Placed). w.place) word ∙ sym b.at

pub fault_not_said : (said : Said) (fault : ActionFault) (a : Fields) → FaultOf said fault → IsSaid said a → ⊥
fault_not_said said (UnknownAction place) a f s = f.1 a.kind s.kind
fault_not_said said (BadWord place) a f s = not_taken_said said place a f s
fault_not_said said (OpenQuote place) a f s = f
fault_not_said said (MissingKey name) a f s = judged_not_said said (MissingKey name) a f s
fault_not_said said (BadValue name) a f s = judged_not_said said (BadValue name) a f s

pub one_fault : (said : Said) (f g : ActionFault) → FaultOf said f → FaultOf said g → f ≡ g
one_fault said (UnknownAction m) (UnknownAction n) a b = ap UnknownAction (a.0 ∙ sym b.0)
one_fault said (UnknownAction m) (BadWord n) a b = absurd (a.1 b.kind b.name)
one_fault said (UnknownAction m) (OpenQuote n) a b = absurd b
one_fault said (UnknownAction m) (MissingKey n) a b = absurd (a.1 b.kind b.name)
one_fault said (UnknownAction m) (BadValue n) a b = absurd (a.1 b.kind b.name)
one_fault said (BadWord m) (UnknownAction n) a b = absurd (b.1 a.kind a.name)
one_fault said (BadWord m) (BadWord n) a b = ap BadWord (one_not_taken said m n a b)
one_fault said (BadWord m) (OpenQuote n) a b = absurd b
one_fault said (BadWord m) (MissingKey n) a b = absurd (not_taken_judged said m (MissingKey n) a b)
one_fault said (BadWord m) (BadValue n) a b = absurd (not_taken_judged said m (BadValue n) a b)
one_fault said (OpenQuote m) g a b = absurd a
one_fault said (MissingKey m) (UnknownAction n) a b = absurd (b.1 a.kind a.name)
one_fault said (MissingKey m) (BadWord n) a b = absurd (not_taken_judged said n (MissingKey m) b a)
one_fault said (MissingKey m) (OpenQuote n) a b = absurd b
one_fault said (MissingKey m) (MissingKey n) a b = one_judged said (MissingKey m) (MissingKey n) a b
one_fault said (MissingKey m) (BadValue n) a b = one_judged said (MissingKey m) (BadValue n) a b
one_fault said (BadValue m) (UnknownAction n) a b = absurd (b.1 a.kind a.name)
one_fault said (BadValue m) (BadWord n) a b = absurd (not_taken_judged said n (BadValue m) b a)
one_fault said (BadValue m) (OpenQuote n) a b = absurd b
one_fault said (BadValue m) (MissingKey n) a b = one_judged said (BadValue m) (MissingKey n) a b
one_fault said (BadValue m) (BadValue n) a b = one_judged said (BadValue m) (BadValue n) a b
