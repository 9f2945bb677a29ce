-- Each value that a line gives is that of a word in the form of its role.
use Rattle.std.proofs.Common.{◌≡◌, ◌⊎◌, ℕ, suc, ◌+◌, ◌≤◌, Bool, true, false, ◌&&◌, ◌||◌, not, List, [], ◌∷◌, ◌++◌, length, nat_le, Option, Some, None, Result, Ok, Err, refl, sym, ap, subst, ◌∙◌, inl, inr, arith}
use Rattle.std.specs.Prelude.{codes, ◌==◌, if◌then◌else◌}
use Rattle.std.specs.List.{AllByRecursion}
use Rattle.std.proofs.lemmas.Bool.{true≢false}
use Rattle.std.proofs.lemmas.List.Folds.{list_any-append}
use Rattle.std.proofs.lemmas.Bool.Decides.{nat_tests}
use Rattle.ips_text.specs.declared.refusal.Stop.{Stop}
use Rattle.ips_text.specs.Reading.{◌>>=◌}
use Rattle.ips_text.proofs.Lists.{all_append}
use Rattle.ips_text.proofs.Truths.{or_true}
use Rattle.ips_syntax.specs.declared.table.Why.{Why}
use Rattle.ips_syntax.specs.declared.table.Why.TheVariants.{Repeated, Unknown}
use Rattle.ips_syntax.specs.declared.table.Verb.{Verb}
use Rattle.ips_syntax.specs.declared.table.Role.{Role}
use Rattle.ips_syntax.specs.declared.table.Role.TheVariants.{Operand}
use Rattle.ips_syntax.specs.declared.table.Form.{Form}
use Rattle.ips_syntax.specs.declared.values.Value.{Value}
use Rattle.ips_syntax.specs.declared.values.Given.{Given}
use Rattle.ips_syntax.specs.declared.lines.Line.{Line}
use Rattle.ips_syntax.specs.declared.lines.Line.TheVariants.{Help, HelpOf, Version, Does}
use Rattle.ips_syntax.specs.Table.{operands_of, required_of, value_form, all_verbs}
use Rattle.ips_syntax.specs.Values.{same, value_at}
use Rattle.ips_syntax.specs.Reading.{stop, stopping, verb_in, role_of, is_operand, again, takes_value, lacks, plain, valued, is_dashed, option_at, options_at, operand_at, operands_at, is_name_given, is_set_by, is_given, behind_options, rest_at, alone, help_of, help_at, command_at, repository_at, image_at, line_of_words}
use Rattle.ips_asked.proofs.Values.{no_fault, same_ok}

-- the form of a role on the line of a command
abbrev pub form_at : Verb → Role → Form
form_at verb Operand = (operands_of verb).form
form_at verb r = value_form r

-- What is given is an option without a value, or the value of a word of this kind in the form of its role.
abbrev pub WasRead : (List ℕ → Type 0) → Verb → Given → Type 0
WasRead P verb g = ((is_operand g.role || takes_value g.role) ≡ false) ⊎ ((word : List ℕ) × P word × (value_at (form_at verb g.role) word ≡ Ok g.value))

abbrev pub AreRead : (List ℕ → Type 0) → Verb → List Given → Type 0
AreRead P verb given = AllByRecursion (WasRead P verb) given

-- ---- answers

pub unless : {X E : Type 0} (b : Bool) (e : E) (r : Result X E) (y : X) → (if b then Err e else r) ≡ Ok y → r ≡ Ok y
unless true e r y is = absurd (cc)
unless false e r y is = is

pub unless_not : {X E : Type 0} (b : Bool) (e : E) (r : Result X E) (y : X) → (if b then Err e else r) ≡ Ok y → b ≡ false
unless_not true e r y is = absurd (cc)
unless_not false e r y is = refl

pub when : {X E : Type 0} (b : Bool) (x : X) (e : E) (y : X) → (if b then Ok x else Err e) ≡ Ok y → (b ≡ true) × (x ≡ y)
when true x e y is = (refl, same_ok x y is)
when false x e y is = no_fault e y is

pub read_value : {X : Type 0} (left : ℕ) (r : Result Value Why) (k : Value → Result X (Stop Why)) (y : X) → (stopping left r >>= k) ≡ Ok y → (v : Value) × (r ≡ Ok v) × (k v ≡ Ok y)
read_value left (Ok v) k y is = (v, refl, is)
read_value left (Err why) k y is = no_fault _ y is

pub then_ok : {X Y : Type 0} (r : Result X (Stop Why)) (k : X → Result Y (Stop Why)) (y : Y) → (r >>= k) ≡ Ok y → (x : X) × (r ≡ Ok x) × (k x ≡ Ok y)
then_ok (Ok x) k y is = (x, refl, is)
then_ok (Err why) k y is = no_fault why y is

pub two : {X E C : Type 0} (b : Bool) (one other : Result X E) (y : X) → (if b then one else other) ≡ Ok y → (b ≡ true → one ≡ Ok y → C) → (b ≡ false → other ≡ Ok y → C) → C
two true one other y is first second = first refl is
two false one other y is first second = second refl is

-- ---- roles

-- an option's form is its own
form_option : (verb : Verb) (r : Role) → is_operand r ≡ false → form_at verb r ≡ value_form r
form_option verb Operand is = absurd (true≢false is)
form_option verb r is = refl

-- ---- the walk

module _ (P : List ℕ → Type 0) (verb : Verb) where
  one_more : (given : List Given) (g : Given) → AreRead P verb given → WasRead P verb g → AreRead P verb (given ++ g ∷ [])
  one_more given g all own = all_append (WasRead P verb) given (g ∷ []) all (own, tt)

  -- an option without a value
  read_plain : (r : Role) → is_operand r ≡ false → takes_value r ≡ false → WasRead P verb (plain r)
  read_plain r option none = inl (rw (option, none) refl)

  -- an option with one
  read_valued : (r : Role) (word : List ℕ) (v : Value) → is_operand r ≡ false → P word → value_at (value_form r) word ≡ Ok v → WasRead P verb (valued r v)
  read_valued r word v option good at = inr (word, good, ap (λ f. value_at f word) (form_option verb r option) ∙ at)

  front : (more : List Given) (rest : List (List ℕ)) (x : List Given × List (List ℕ)) → (let r : Result (List Given × List (List ℕ)) (Stop Why) = Ok x in r) ≡ Ok (more, rest) → (x.0 ≡ more) × (x.1 ≡ rest)
  front more rest x is = (ap (λ (y : List Given × List (List ℕ)). y.0) (same_ok _ _ is), ap (λ (y : List Given × List (List ℕ)). y.1) (same_ok _ _ is))

  -- what is read so far, and the words that are left
  abbrev Sofar : List Given → List (List ℕ) → Type 0
  Sofar more rest = AreRead P verb more × AllByRecursion P rest

  so_far : (given more : List Given) (words rest : List (List ℕ)) → (let r : Result (List Given × List (List ℕ)) (Stop Why) = Ok (given, words) in r) ≡ Ok (more, rest) → AreRead P verb given → AllByRecursion P words → Sofar more rest
  so_far given more words rest is all good = let e = front more rest (given, words) is in (subst (AreRead P verb) e.0 all, subst (AllByRecursion P) e.1 good)

  option_read : (r : Role) (given : List Given) (words : List (List ℕ)) (more : List Given) (rest : List (List ℕ)) → is_operand r ≡ false → AllByRecursion P words → AreRead P verb given → option_at r given words ≡ Ok (more, rest) → Sofar more rest
  option_read r given [] more rest option good all is =
      let at = unless (again r given) _ _ _ is in
      so_far (given ++ plain r ∷ []) more [] rest (unless (takes_value r) _ _ _ at) (one_more given (plain r) all (read_plain r option (unless_not (takes_value r) _ _ _ at))) tt
  option_read r given (word ∷ words) more rest option good all is =
      two (takes_value r) _ _ (more, rest) (unless (again r given) _ _ _ is)
      (λ takes at.
      let (v, from, to) = read_value (suc (length words)) (value_at (value_form r) word) (λ v. Ok (given ++ valued r v ∷ [], words)) (more, rest) at in
      so_far (given ++ valued r v ∷ []) more words rest to (one_more given (valued r v) all (read_valued r word v option good.0 from)) good.1)
      (λ takes at. so_far (given ++ plain r ∷ []) more (word ∷ words) rest at (one_more given (plain r) all (read_plain r option takes)) good)

  options_read : (words : List (List ℕ)) (given : List Given) (more : List Given) (rest : List (List ℕ)) → AllByRecursion P words → AreRead P verb given → options_at verb given words ≡ Ok (more, rest) → Sofar more rest
  unfolding options_at
  options_read [] given more rest good all is = so_far given more [] rest is all tt
  options_read (word ∷ []) given more rest good all is = go (is_operand (role_of verb word)) refl is
    where
      go : (b : Bool) → is_operand (role_of verb word) ≡ b → (if b then Ok (given, word ∷ []) else option_at (role_of verb word) given []) ≡ Ok (more, rest) → Sofar more rest
      go true operand at = so_far given more (word ∷ []) rest at all good
      go false option at = option_read (role_of verb word) given [] more rest option tt all at
  options_read (word ∷ next ∷ words) given more rest good all is =
      let r = role_of verb word in
      two (is_operand r) _ _ (more, rest) is
      (λ operand at. so_far given more (word ∷ next ∷ words) rest at all good)
      (λ option at.
      two (takes_value r) _ _ (more, rest) (unless (again r given) _ _ _ at)
      (λ takes at.
      let (v, from, to) = read_value (suc (length words)) (value_at (value_form r) next) (λ v. options_at verb (given ++ valued r v ∷ []) words) (more, rest) at in
      options_read words (given ++ valued r v ∷ []) more rest good.1.1 (one_more given (valued r v) all (read_valued r next v option good.1.0 from)) to)
      (λ takes at. options_read (next ∷ words) (given ++ plain r ∷ []) more rest good.1 (one_more given (plain r) all (read_plain r option takes)) at))

  -- What the operands add: each is read in their form, an operand stands where one is needed, and nothing that stood is gone.
  record Added (count : ℕ) (given more : List Given) : Type 0 where
    all : AreRead P verb more
    some : (1 ≤ count → is_given Operand given ≡ true) → 1 ≤ (operands_of verb).least → is_given Operand more ≡ true
    kept : (r : Role) → is_given r given ≡ true → is_given r more ≡ true

  operands_read : (words : List (List ℕ)) (count : ℕ) (given more : List Given) → AllByRecursion P words → AreRead P verb given → operands_at (operands_of verb) count given words ≡ Ok more → Added count given more
  unfolding operands_at
  operands_read [] count given more good all is =
      let (enough, same) = when (nat_le (operands_of verb).least count) given _ more is in
      record {
        all = subst (AreRead P verb) same all;
        some = λ had needed. ap (is_given Operand) (sym same) ∙ had (grind (arith, nat_tests));
        kept = λ r stood. ap (is_given r) (sym same) ∙ stood;
      }
  operands_read (word ∷ words) count given more good all is =
      let o = operands_of verb in
      let left = suc (length words) in
      let (later, from, to) = then_ok (operand_at o.form left given word) (λ given. operands_at o (count + 1) given words) more (unless (is_dashed word) _ _ _ (unless (nat_le o.most count) _ _ _ is)) in
      let (v, read, put) = read_value left (value_at o.form word) (λ v. if is_name_given v given then Err (stop Repeated left) else Ok (given ++ valued Operand v ∷ [])) later from in
      let one = same_ok _ later (unless (is_name_given v given) _ _ _ put) in
      let rest = operands_read words (count + 1) later more good.1 (subst (AreRead P verb) one (one_more given (valued Operand v) all (inr (word, good.0, read)))) to in
      record {
        all = rest.all;
        some = λ had needed. rest.some (λ n. ap (is_given Operand) (sym one) ∙ list_any-append (is_set_by Operand) given (valued Operand v ∷ []) ∙ or_true (is_given Operand given)) needed;
        kept = λ r stood. rest.kept r (ap (is_given r) (sym one) ∙ list_any-append (is_set_by r) given (valued Operand v ∷ []) ∙ (rw stood refl));
      }

  -- What a command's line gives: each is read in the form of its role, an operand stands where one is needed, and so does the one option that is required.
  pub record HasRead (given : List Given) : Type 0 where
    pub all : AreRead P verb given
    pub operand : 1 ≤ (operands_of verb).least → is_given Operand given ≡ true
    pub required : (r : Role) → required_of verb ≡ r ∷ [] → is_given r given ≡ true

  lacks_none : (roles : List Role) (given : List Given) (r : Role) → roles ≡ r ∷ [] → lacks roles given ≡ false → is_given r given ≡ true
  lacks_none roles given r is none = go (is_given r given) (subst (λ rs. lacks rs given ≡ false) is none)
    where
      go : (b : Bool) → (not (1 == 0) && not (b || false)) ≡ false → b ≡ true
      go true e = refl
      go false e = absurd (true≢false e)

  has_read : (given more : List Given) (count : ℕ) → count ≡ 0 → Added count given more → lacks (required_of verb) given ≡ false → HasRead more
  has_read given more count none added enough = record {
    all = added.all;
    operand = added.some (λ n. absurd (omega (arith, none)));
    required = λ r is. added.kept r (lacks_none (required_of verb) given r is enough);
  }

  behind_read : (given : List Given) (words : List (List ℕ)) (more : List Given) → AllByRecursion P words → AreRead P verb given → behind_options verb given words ≡ Ok more → HasRead more
  behind_read given [] more good all is =
      has_read given more 0 refl (operands_read [] 0 given more good all (unless (lacks (required_of verb) given) _ _ _ is)) (unless_not (lacks (required_of verb) given) _ _ _ is)
  behind_read given (word ∷ words) more good all is =
      has_read given more 0 refl (operands_read (word ∷ words) 0 given more good all (unless (is_dashed word || lacks (required_of verb) given) _ _ _ is))
      (neither (is_dashed word) (lacks (required_of verb) given) (unless_not (is_dashed word || lacks (required_of verb) given) _ _ _ is))
    where
      neither : (a b : Bool) → (a || b) ≡ false → b ≡ false
      neither true b e = absurd (true≢false e)
      neither false b e = e

  rest_read : (words : List (List ℕ)) (more : List Given) → AllByRecursion P words → rest_at verb words ≡ Ok more → HasRead more
  rest_read words more good is =
      let (x, from, to) = then_ok (options_at verb [] words) (λ (x : List Given × List (List ℕ)). behind_options verb x.0 x.1) more is in
      let so = options_read words [] x.0 x.1 good tt from in
      behind_read x.0 x.1 more so.1 so.0 to

-- What a line gives.
abbrev pub LineRead : (List ℕ → Type 0) → Line → List Given → Type 0
LineRead P (Does verb) given = HasRead P verb given
LineRead P l given = Unit {0}

module _ (P : List ℕ → Type 0) where
  both_of : (x y : Line × List Given) → (let r : Result (Line × List Given) (Stop Why) = Ok x in r) ≡ Ok y → LineRead P x.0 x.1 → LineRead P y.0 y.1
  both_of x y is read = subst (λ (z : Line × List Given). LineRead P z.0 z.1) (same_ok x y is) read

  help_read : (verb : Verb) (words : List (List ℕ)) (y : Line × List Given) → help_of verb words ≡ Ok y → LineRead P y.0 y.1
  help_read verb [] y is = no_fault _ y is
  help_read verb (word ∷ words) y is = go (same word (codes "--help")) words is
    where
      go : (b : Bool) (words : List (List ℕ)) → (if b then alone (HelpOf verb) words else Err (stop Unknown (suc (length words)))) ≡ Ok y → LineRead P y.0 y.1
      go true [] at = both_of (HelpOf verb, []) y at tt
      go true (word ∷ words) at = no_fault _ y at
      go false words at = no_fault _ y at

  help_at_read : (left : ℕ) (verb : Option Verb) (words : List (List ℕ)) (y : Line × List Given) → help_at left verb words ≡ Ok y → LineRead P y.0 y.1
  help_at_read left None words y is = no_fault _ y is
  help_at_read left (Some verb) words y is = help_read verb words y is

  command_read : (left : ℕ) (verb : Option Verb) (words : List (List ℕ)) (y : Line × List Given) → AllByRecursion P words → command_at left verb words ≡ Ok y → LineRead P y.0 y.1
  command_read left None words y good is = no_fault _ y is
  command_read left (Some verb) words y good is =
      let (given, from, to) = then_ok (rest_at verb words) (λ given. Ok (Does verb, given)) y is in
      both_of (Does verb, given) y to (rest_read P verb words given good from)

  repository_read : (words : List (List ℕ)) (y : Line × List Given) → AllByRecursion P words → repository_at words ≡ Ok y → LineRead P y.0 y.1
  repository_read [] y good is = no_fault _ y is
  repository_read (repository ∷ []) y good is = no_fault _ y is
  repository_read (repository ∷ word ∷ words) y good is = command_read (suc (length words)) (verb_in all_verbs word) words y good.1.1 is

  image_read : (words : List (List ℕ)) (y : Line × List Given) → AllByRecursion P words → image_at words ≡ Ok y → LineRead P y.0 y.1
  image_read [] y good is = no_fault _ y is
  image_read (image ∷ []) y good is = no_fault _ y is
  image_read (image ∷ word ∷ words) y good is = repository_read words y good.1.1 (if_ok (same word (codes "-s")) is)
    where
      if_ok : (b : Bool) → (if b then repository_at words else Err (stop Unknown (suc (length words)))) ≡ Ok y → repository_at words ≡ Ok y
      if_ok true at = at
      if_ok false at = no_fault _ y at

  alone_read : (l : Line) (words : List (List ℕ)) (y : Line × List Given) → LineRead P l [] → alone l words ≡ Ok y → LineRead P y.0 y.1
  alone_read l [] y read is = both_of (l, []) y is read
  alone_read l (word ∷ words) y read is = no_fault _ y is

  -- what the words of a line give
  pub line_read : (words : List (List ℕ)) (y : Line × List Given) → AllByRecursion P words → line_of_words words ≡ Ok y → LineRead P y.0 y.1
  line_read [] y good is = no_fault _ y is
  line_read (word ∷ words) y good is = first (same word (codes "-R")) is
    where
      third : (b : Bool) → (if b then alone Version words else help_at (suc (length words)) (verb_in all_verbs word) words) ≡ Ok y → LineRead P y.0 y.1
      third true at = alone_read Version words y tt at
      third false at = help_at_read (suc (length words)) (verb_in all_verbs word) words y at

      second : (b : Bool) → (if b then alone Help words else (if same word (codes "--version") then alone Version words else help_at (suc (length words)) (verb_in all_verbs word) words)) ≡ Ok y → LineRead P y.0 y.1
      second true at = alone_read Help words y tt at
      second false at = third (same word (codes "--version")) at

      first : (b : Bool)
          → (if b then image_at words else (if same word (codes "--help") then alone Help words else (if same word (codes "--version") then alone Version words else help_at (suc (length words)) (verb_in all_verbs word) words))) ≡ Ok y
          → LineRead P y.0 y.1
      first true at = image_read words y good.1 at
      first false at = second (same word (codes "--help")) at
