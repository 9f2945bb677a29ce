-- No two names have one number.
use Rattle.std.proofs.Common.{◌≡◌, ℕ, Bool, true, false, cond, not, ◌&&◌, ◌||◌, eqb, List, [], ◌∷◌, Option, Some, None, option_map, Result, Ok, Err, refl, sym, ap, subst, ◌∙◌, arith}
use Rattle.std.specs.List.{list_any, find}
use Rattle.std.specs.Option.{option_eq}
use Rattle.std.proofs.lemmas.Bool.{or_parts, and_parts}
use Rattle.std.proofs.lemmas.Bool.Decides.{nat_tests}
use Rattle.std.proofs.lemmas.List.Folds.{list_any-append}
use Rattle.ips_text.proofs.Truths.{not_true}
use Rattle.ips_action.specs.Attrs.{is_same}
use Rattle.ips_books.specs.declared.fault.AccountFault.{AccountFault}
use Rattle.ips_books.specs.declared.fault.AccountFault.TheVariants.{IdTaken}
use Rattle.ips_books.specs.Lines.{AccountLine, last_ended}
use Rattle.ips_books.specs.Accounts.{is_kept, is_of, number_of}
use Rattle.ips_books.specs.Writing.{at_first, rewritten, added, with_line, is_of_other, is_number_taken}
use Rattle.ips_accounts.specs.Editing.{number_for, wanted_number}
use Rattle.ips_accounts.specs.Laws.{text_at}
use Rattle.ips_accounts.proofs.Lacking.{and_false, apart_line}
use Rattle.ips_accounts.proofs.Members.{turned_apart}

same_alone : (id number : ℕ) → (eqb id number && true) ≡ eqb id number
same_alone id number = go (eqb id number)
  where
    go : (b : Bool) → (b && true) ≡ b
    go true = refl
    go false = refl

turned : (a b : ℕ) → eqb a b ≡ false → eqb b a ≡ false
turned a b e = grind (arith, nat_tests)

-- ---- lines that are written

none_changed : (p test : AccountLine → Bool) (change : AccountLine → AccountLine) (lines : List AccountLine) → ((line : AccountLine) → p (change line) ≡ false) → list_any p lines ≡ false → list_any p (at_first test change lines) ≡ false
none_changed p test change [] new e = refl
none_changed p test change (x ∷ lines) new e = go (test x) (none_changed p test change lines new)
  where
    go : (t : Bool) → (list_any p lines ≡ false → list_any p (at_first test change lines) ≡ false) → list_any p (cond t (change x ∷ lines) (x ∷ at_first test change lines)) ≡ false
    go true rest = ap (λ (t : Bool). t || list_any p lines) (new x) ∙ (or_parts (p x) (list_any p lines) e).1
    go false rest = let parts = or_parts (p x) (list_any p lines) e in ap (λ (t : Bool). t || list_any p (at_first test change lines)) parts.0 ∙ rest parts.1

any_ended : (name : List ℕ) (id : ℕ) (lines : List AccountLine) → is_number_taken (last_ended lines) name id ≡ is_number_taken lines name id
any_ended name id [] = refl
any_ended name id (x ∷ []) = refl
any_ended name id (x ∷ y ∷ lines) = ap (λ (t : Bool). is_of_other name id x || t) (any_ended name id (y ∷ lines))

-- a number that no other name has is still none's, where the line that is written isn't another's with it
pub none_put : (name other : List ℕ) (id : ℕ) (text : List ℕ) (lines : List AccountLine) → ((e : Bool) → is_of_other name id (record { text = text; ended = e }) ≡ false) → is_number_taken lines name id ≡ false → is_number_taken (with_line other text lines) name id ≡ false
none_put name other id text lines new e = go (list_any (is_of other) lines)
  where
    go : (t : Bool) → is_number_taken (cond t (at_first (is_of other) (rewritten text) lines) (added text lines)) name id ≡ false
    go true = none_changed (is_of_other name id) (is_of other) (rewritten text) lines (λ line. new line.ended) e
    go false =
        list_any-append (is_of_other name id) (last_ended lines) (record { text = text; ended = true } ∷ [])
        ∙ ap (λ (t : Bool). t || (is_of_other name id (record { text = text; ended = true }) || false)) (any_ended name id lines ∙ e)
        ∙ ap (λ (t : Bool). t || false) (new true)

-- a line of the name is no other's
pub own_apart : (name : List ℕ) (id : ℕ) (line : AccountLine) → is_of name line ≡ true → is_of_other name id line ≡ false
own_apart name id line of = ap (λ (t : Bool). (not (is_kept line) && option_eq eqb (number_of line) (Some id)) && not t) of ∙ and_false (not (is_kept line) && option_eq eqb (number_of line) (Some id))

-- nor is one with another number
pub numbered_apart : (name : List ℕ) (id number : ℕ) (line : AccountLine) → number_of line ≡ Some number → eqb id number ≡ false → is_of_other name id line ≡ false
numbered_apart name id number line is apart =
    ap (λ (o : Option ℕ). (not (is_kept line) && option_eq eqb o (Some id)) && not (is_of name line)) is
    ∙ ap (λ (t : Bool). (not (is_kept line) && t) && not (is_of name line)) (turned id number apart)
    ∙ ap (λ (t : Bool). t && not (is_of name line)) (and_false (not (is_kept line)))

-- ---- numbers that were found

-- a number that a name gets is no other's
pub told_free : (lines : List AccountLine) (name : List ℕ) (id : Option ℕ) (n : ℕ) → number_for lines name id ≡ Ok n → is_number_taken lines name n ≡ false
told_free lines name id n e = go (is_number_taken lines name (wanted_number lines name id)) refl e
  where
    go : (t : Bool) → is_number_taken lines name (wanted_number lines name id) ≡ t → (let r : Result ℕ AccountFault = cond t (Err (IdTaken (wanted_number lines name id))) (Ok (wanted_number lines name id)) in r ≡ Ok n) → is_number_taken lines name n ≡ false
    go true f h = absurd cc
    go false f h =
        let same : wanted_number lines name id ≡ n = cc in
        subst (λ (v : ℕ). is_number_taken lines name v ≡ false) same f

pub some_text : (x y : List ℕ) → (let o : Option (List ℕ) = Some x in o ≡ Some y) → x ≡ y
some_text x y e = cc

-- the number of a standing name differs from one that another name gets
pub differs : (name other text : List ℕ) (id number : ℕ) (lines : List AccountLine) → text_at lines name ≡ Some text → ((e : Bool) → number_of (record { text = text; ended = e }) ≡ Some id) → is_same name other ≡ false → is_number_taken lines other number ≡ false → eqb id number ≡ false
differs name other text id number [] at numbered apart free = absurd (none at)
  where
    none : (let o : Option (List ℕ) = None in o ≡ Some text) → ⊥
    none e = cc
differs name other text id number (x ∷ lines) at numbered apart free = go (is_of name x) refl at (or_parts (is_of_other other number x) (is_number_taken lines other number) free) (λ h. differs name other text id number lines h numbered apart)
  where
    go : (t : Bool) → is_of name x ≡ t → option_map (λ (l : AccountLine). l.text) (cond t (Some x) (find (is_of name) lines)) ≡ Some text → (is_of_other other number x ≡ false) × (is_number_taken lines other number ≡ false) → (text_at lines name ≡ Some text → is_number_taken lines other number ≡ false → eqb id number ≡ false) → eqb id number ≡ false
    go true of h parts later =
        let same = some_text x.text text h in
        let is : number_of x ≡ Some id = ap (λ (t : List ℕ). number_of (record { text = t; ended = x.ended })) same ∙ numbered x.ended in
        let kept = not_true (is_kept x) (and_parts (not (is_kept x)) _ of).0 in
        let away = apart_line other name x (turned_apart name other apart) of in
        sym (same_alone id number) ∙ sym (λ i. (not (kept i) && option_eq eqb (is i) (Some number)) && not (away i)) ∙ parts.0
    go false of h parts later = later h parts.1
