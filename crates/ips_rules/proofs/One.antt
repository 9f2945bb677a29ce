-- A text means one list of rules alone, or has just one first line that is no rule.
use Rattle.std.proofs.Common.{◌≡◌, ℕ, Bool, true, false, cond, not, ◌==◌, List, [], ◌∷◌, ◌++◌, Option, Some, None, refl, sym, ap, ap₂, subst, ◌∙◌, inl, inr}
use Rattle.std.specs.Prelude.{codes, nat_lt}
use Rattle.std.specs.List.{list_all, AllByRecursion}
use Rattle.std.proofs.lemmas.Bool.{and_parts, true≢false}
use Rattle.ips_line.specs.Line.{is_blank}
use Rattle.ips_action.specs.declared.kind.ActionKind.{ActionKind}
use Rattle.ips_action.specs.declared.kind.ActionKind.TheVariants.{Set, Depend, Dir, File, Link, Hardlink, User, Group, Driver, License, Legacy, Signature}
use Rattle.ips_action.specs.Attrs.{is_same}
use Rattle.ips_action.specs.Kind.{kind_name}
use Rattle.ips_action.proofs.One.{one_kind}
use Rattle.ips_manifest.specs.Logical.{Logical, lines_of, is_skipped}
use Rattle.ips_rule.specs.declared.selector.Selector.{Selector}
use Rattle.ips_rule.specs.declared.selector.Selector.TheVariants.{Kind, Criterion}
use Rattle.ips_rule.specs.declared.operation.Operation.{Operation}
use Rattle.ips_rule.specs.declared.operation.Operation.TheVariants as does
use Rattle.ips_rule.specs.declared.line.RuleLine.{RuleLine}
use Rattle.ips_rule.specs.Rules.{Rule, selector_word, IsSelector, operation_words, asked_words, written_word, IsTerm, IsValue, AreDone, IsInside, rule_front, rule_end, Says}
use Rattle.ips_rule.specs.File.{TextMeans, LineMeans, LinesMean, AreRulesOf, IsBadAt, IsFirstBad}
use Rattle.ips_rules.specs.Next.{FirstWords, Asks}
use Rattle.ips_rules.proofs.Equals.{one_key}
use Rattle.ips_rules.proofs.Reader.{values_read, terms_read, first_one, first_not_blank}
use Rattle.ips_rules.proofs.Spelling.{first_apart, none_first, done_first, done_ends}

-- ---- what is asked

equals_fails : (test : ℕ → Bool) (key pattern : List ℕ) → test 61 ≡ false → list_all test (key ++ 61 ∷ pattern) ≡ true → ⊥
equals_fails test [] pattern none h = true≢false (sym (and_parts (test 61) (list_all test pattern) h).0 ∙ none)
equals_fails test (b ∷ key) pattern none h = equals_fails test key pattern none (and_parts (test b) (list_all test (key ++ 61 ∷ pattern)) h).1

-- the byte is above `=`, as letters are
abbrev above_equals : ℕ → Bool
above_equals b = nat_lt 61 b

kind_above : (kind : ActionKind) → list_all above_equals (kind_name kind) ≡ true
kind_above Set = refl
kind_above Depend = refl
kind_above Dir = refl
kind_above File = refl
kind_above Link = refl
kind_above Hardlink = refl
kind_above User = refl
kind_above Group = refl
kind_above Driver = refl
kind_above License = refl
kind_above Legacy = refl
kind_above Signature = refl

kind_no_criterion : (kind : ActionKind) (key pattern : List ℕ) → kind_name kind ≡ key ++ 61 ∷ pattern → ⊥
kind_no_criterion kind key pattern e = equals_fails above_equals key pattern refl (ap (list_all above_equals) (sym e) ∙ kind_above kind)

pub no_arrow : (s : Selector) → selector_word s ≡ codes "->" → ⊥
no_arrow (Kind kind) e = true≢false (sym (kind_above kind) ∙ ap (list_all above_equals) e)
no_arrow (Criterion key pattern) e = equals_fails (λ b. not (b == 61)) key pattern refl (ap (list_all (λ b. not (b == 61))) e)

pub one_selector : (s t : Selector) → IsSelector s → IsSelector t → selector_word s ≡ selector_word t → s ≡ t
one_selector (Kind kind) (Kind other) h g e = ap (λ (k : ActionKind). Kind k) (one_kind kind other e)
one_selector (Kind kind) (Criterion key pattern) h g e = absurd (kind_no_criterion kind key pattern e)
one_selector (Criterion key pattern) (Kind kind) h g e = absurd (kind_no_criterion kind key pattern (sym e))
one_selector (Criterion key pattern) (Criterion other value) h g e =
    let same = one_key key other pattern value h g e in
    ap₂ (λ (k v : List ℕ). Criterion k v) same.0 same.1

pub one_asked : (a b : List Selector) (text rest more : List ℕ) → Asks a text rest → Asks b text more → (a ≡ b) × (rest ≡ more)
one_asked a b text rest more h g = go a b text h.are g.are h.words g.words
  where
    go : (a b : List Selector) (text : List ℕ) → AllByRecursion IsSelector a → AllByRecursion IsSelector b → FirstWords IsTerm (asked_words a) text rest → FirstWords IsTerm (asked_words b) text more → (a ≡ b) × (rest ≡ more)
    go [] [] text h g f k =
        let x = first_apart (codes "->") [] text rest f in
        let y = first_apart (codes "->") [] text more k in
        (refl, sym (none_first x.rest rest x.others) ∙ (first_one terms_read text x.first y.first x.rest y.rest x.stands y.stands).1 ∙ none_first y.rest more y.others)
    go [] (t ∷ b) text h g f k =
        let x = first_apart (codes "->") [] text rest f in
        let y = first_apart (selector_word t) (asked_words b) text more k in
        absurd (no_arrow t (y.said ∙ ap written_word (sym (first_one terms_read text x.first y.first x.rest y.rest x.stands y.stands).0) ∙ sym x.said))
    go (s ∷ a) [] text h g f k =
        let x = first_apart (selector_word s) (asked_words a) text rest f in
        let y = first_apart (codes "->") [] text more k in
        absurd (no_arrow s (x.said ∙ ap written_word (first_one terms_read text x.first y.first x.rest y.rest x.stands y.stands).0 ∙ sym y.said))
    go (s ∷ a) (t ∷ b) text h g f k =
        let x = first_apart (selector_word s) (asked_words a) text rest f in
        let y = first_apart (selector_word t) (asked_words b) text more k in
        let same = first_one terms_read text x.first y.first x.rest y.rest x.stands y.stands in
        let head = one_selector s t h.0 g.0 (x.said ∙ ap written_word same.0 ∙ sym y.said) in
        let others = go a b x.rest h.1 g.1 x.others (subst (λ (l : List ℕ). FirstWords IsTerm (asked_words b) l more) (sym same.1) y.others) in
        (ap₂ ◌∷◌ head others.0, others.1)

-- ---- what is done

-- the operation of these words
abbrev operation_of : List (List ℕ) → Option Operation
operation_of [] = None
operation_of (verb ∷ []) = Some does.Drop
operation_of (verb ∷ key ∷ []) = None
operation_of (verb ∷ key ∷ word ∷ []) =
    cond (is_same verb (codes "add")) (Some (does.Add key word)) (cond (is_same verb (codes "default")) (Some (does.Default key word)) (cond (is_same verb (codes "set")) (Some (does.Set key word)) (Some (does.Delete key word))))
operation_of (verb ∷ key ∷ pattern ∷ template ∷ words) = Some (does.Edit key pattern template)

operation_back : (o : Operation) → operation_of (operation_words o) ≡ Some o
operation_back does.Drop = refl
operation_back (does.Add key value) = refl
operation_back (does.Default key value) = refl
operation_back (does.Set key value) = refl
operation_back (does.Delete key pattern) = refl
operation_back (does.Edit key pattern template) = refl

one_operation : (a b : Operation) → operation_words a ≡ operation_words b → a ≡ b
one_operation a b e = some_is a b (sym (operation_back a) ∙ ap operation_of e ∙ operation_back b)
  where
    some_is : (a b : Operation) → (let o : Option Operation = Some a in o) ≡ Some b → a ≡ b
    some_is a b e = cc

pub one_done : (a b : List (List ℕ)) (text : List ℕ) → AreDone a text → AreDone b text → a ≡ b
one_done a b text h g = let x = done_first a text h in let y = done_first b text g in go a b text x.behind y.behind x.blank y.blank x.stand y.stand
  where
    go : (a b : List (List ℕ)) (text rest more : List ℕ) → list_all is_blank rest ≡ true → list_all is_blank more ≡ true → FirstWords IsValue a text rest → FirstWords IsValue b text more → a ≡ b
    go [] [] text rest more h g f k = refl
    go [] (w ∷ b) text rest more h g f k =
        let y = first_apart w b text more k in
        absurd (first_not_blank values_read text y.first y.rest (ap (list_all is_blank) (none_first text rest f) ∙ h) y.stands)
    go (v ∷ a) [] text rest more h g f k =
        let x = first_apart v a text rest f in
        absurd (first_not_blank values_read text x.first x.rest (ap (list_all is_blank) (none_first text more k) ∙ g) x.stands)
    go (v ∷ a) (w ∷ b) text rest more h g f k =
        let x = first_apart v a text rest f in
        let y = first_apart w b text more k in
        let same = first_one values_read text x.first y.first x.rest y.rest x.stands y.stands in
        let others = go a b x.rest rest more h g x.others (subst (λ (l : List ℕ). FirstWords IsValue b l more) (sym same.1) y.others) in
        ap₂ ◌∷◌ (x.said ∙ ap written_word same.0 ∙ sym y.said) others

-- ---- a rule

-- what a rule asks for and what it does, apart
pub inside_asks : (r : Rule) (text : List ℕ) → AllByRecursion IsSelector r.selectors → (h : IsInside r text) → Asks r.selectors text h.1
inside_asks r text are h = record { are = are; words = record { front = h.0; spelled = h.2; whole = h.4; ends = done_ends (operation_words r.operation) h.1 h.3 } }

snoc_some : (y : List ℕ) → (let l : List ℕ = [] in l) ≡ y ++ 62 ∷ [] → ⊥
snoc_some [] e = absurd cc
snoc_some (b ∷ y) e = absurd cc

snoc_one : (x y : List ℕ) → x ++ 62 ∷ [] ≡ y ++ 62 ∷ [] → x ≡ y
snoc_one [] [] e = refl
snoc_one [] (b ∷ y) e = let tail : (let l : List ℕ = [] in l) ≡ y ++ 62 ∷ [] = cc in absurd (snoc_some y tail)
snoc_one (a ∷ x) [] e = let tail : (let l : List ℕ = [] in l) ≡ x ++ 62 ∷ [] = cc in absurd (snoc_some x tail)
snoc_one (a ∷ x) (b ∷ y) e =
    let head : a ≡ b = cc in
    let tail : x ++ 62 ∷ [] ≡ y ++ 62 ∷ [] = cc in
    ap₂ ◌∷◌ head (snoc_one x y tail)

pub one_inside : (line x y : List ℕ) → line ≡ rule_front ++ x ++ rule_end → line ≡ rule_front ++ y ++ rule_end → x ≡ y
one_inside line x y e f =
    let both : rule_front ++ x ++ rule_end ≡ rule_front ++ y ++ rule_end = sym e ∙ f in
    let ends : x ++ 62 ∷ [] ≡ y ++ 62 ∷ [] = cc in
    snoc_one x y ends

pub one_rule : (r s : Rule) (text : List ℕ) → Says r text → Says s text → r ≡ s
one_rule r s text h g =
    let within = one_inside text h.1.0 g.1.0 h.1.2 g.1.2 in
    let other = subst (IsInside s) (sym within) g.1.1 in
    let asked = one_asked r.selectors s.selectors h.1.0 h.1.1.1 other.1 (inside_asks r h.1.0 h.0.selectors h.1.1) (inside_asks s h.1.0 g.0.selectors other) in
    let words = one_done (operation_words r.operation) (operation_words s.operation) h.1.1.1 h.1.1.3 (subst (AreDone (operation_words s.operation)) (sym asked.1) other.3) in
    ap₂ (λ (a : List Selector) (b : Operation). record { selectors = a; operation = b }) asked.0 (one_operation r.operation s.operation words)

-- ---- a file

one_text : (b : Bool) (line : Logical) (x y : List RuleLine) → TextMeans b line x → TextMeans b line y → x ≡ y
one_text true line x y h g = h ∙ sym g
one_text false line x y h g = h.2 ∙ ap (λ (r : Rule). record { number = line.number; rule = r } ∷ []) (one_rule h.0 g.0 line.text h.1 g.1) ∙ sym g.2

one_lines : (lines : List Logical) (x y : List RuleLine) → LinesMean lines x → LinesMean lines y → x ≡ y
one_lines [] x y h g = h ∙ sym g
one_lines (line ∷ lines) x y h g = h.4 ∙ ap₂ ◌++◌ (one_text (is_skipped line.text) line h.0 g.0 h.2.1 g.2.1) (one_lines lines h.1 g.1 h.3 g.3) ∙ sym g.4

bad_no_rules : (u : Option ℕ) (line : Logical) (rules : List RuleLine) (number : ℕ) → line.unreadable ≡ u → IsBadAt u line number → LineMeans line rules → ⊥
bad_no_rules (Some bad) line rules number e h m = none_some (sym m.0 ∙ e)
  where
    none_some : (let o : Option ℕ = None in o) ≡ Some bad → ⊥
    none_some e = cc
bad_no_rules None line rules number e h m = go (is_skipped line.text) h.0 m.1
  where
    go : (b : Bool) → b ≡ false → TextMeans b line rules → ⊥
    go true e t = true≢false e
    go false e t = h.2 t.0 t.1

one_bad_line : (u : Option ℕ) (line : Logical) (x y : ℕ) → IsBadAt u line x → IsBadAt u line y → x ≡ y
one_bad_line (Some bad) line x y h g = h ∙ sym g
one_bad_line None line x y h g = h.1 ∙ sym g.1

one_bad : (lines : List Logical) (x y : ℕ) → IsFirstBad lines x → IsFirstBad lines y → x ≡ y
one_bad [] x y h g = absurd h
one_bad (line ∷ lines) x y (inl h) (inl g) = one_bad_line line.unreadable line x y h g
one_bad (line ∷ lines) x y (inl h) (inr g) = absurd (bad_no_rules line.unreadable line g.0.0 x refl h g.0.1)
one_bad (line ∷ lines) x y (inr h) (inl g) = absurd (bad_no_rules line.unreadable line h.0.0 y refl g h.0.1)
one_bad (line ∷ lines) x y (inr h) (inr g) = one_bad lines x y h.1 g.1

bad_or_rules : (lines : List Logical) (rules : List RuleLine) (number : ℕ) → LinesMean lines rules → IsFirstBad lines number → ⊥
bad_or_rules [] rules number h bad = bad
bad_or_rules (line ∷ lines) rules number h (inl bad) = bad_no_rules line.unreadable line h.0 number refl bad h.2
bad_or_rules (line ∷ lines) rules number h (inr later) = bad_or_rules lines h.1 number h.3 later.1

pub one_file : (bytes : List ℕ) (x y : List RuleLine) → AreRulesOf bytes x → AreRulesOf bytes y → x ≡ y
one_file bytes = one_lines (lines_of bytes)

pub one_first_bad : (bytes : List ℕ) (x y : ℕ) → IsFirstBad (lines_of bytes) x → IsFirstBad (lines_of bytes) y → x ≡ y
one_first_bad bytes = one_bad (lines_of bytes)

pub rules_or_bad : (bytes : List ℕ) (rules : List RuleLine) (number : ℕ) → AreRulesOf bytes rules → IsFirstBad (lines_of bytes) number → ⊥
rules_or_bad bytes = bad_or_rules (lines_of bytes)
