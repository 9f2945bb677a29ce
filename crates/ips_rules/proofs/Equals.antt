-- Keys at the front of a text.
use Rattle.std.proofs.Common.{◌≡◌, ℕ, Bool, true, false, List, [], ◌∷◌, ◌++◌, length, Option, Some, None, refl, sym, ap, ◌∙◌, arith}
use Rattle.std.specs.Prelude.{IfNone}
use Rattle.std.specs.List.{list_all}
use Rattle.std.proofs.lemmas.Bool.{true≢false}
use Rattle.ips_text.specs.Reading.{run}
use Rattle.ips_text.proofs.Runs.{run_is, run_again}
use Rattle.ips_line.specs.Line.{in_key, IsRunOfBytes}
use Rattle.ips_line.specs.Reading.{is_none, is_key, begins_quote}
use Rattle.ips_line.proofs.Heads.{run_all, has_run}
use Rattle.ips_rule.specs.Rules.{QuotesValue}

abbrev Cut : Type 0
Cut = List ℕ × List ℕ

pub key_iff : (word : List ℕ) (b : Bool) → b ≡ is_key word → (b ≡ true → IsRunOfBytes in_key word) × (IsRunOfBytes in_key word → b ≡ true)
key_iff [] b e = (λ t. absurd (true≢false (sym t ∙ e)), λ r. absurd r)
key_iff (x ∷ word) b e = (λ t. sym e ∙ t, λ r. e ∙ r)

-- ---- a key before an `=`

key_run : (key rest : List ℕ) → IsRunOfBytes in_key key → run in_key (key ++ 61 ∷ rest) ≡ (key, 61 ∷ rest)
key_run key rest h = run_again in_key key (61 ∷ rest) (run_all in_key key h) refl

-- two keys before an `=` at the front of one text are the same
pub one_key : (key other rest more : List ℕ) → IsRunOfBytes in_key key → IsRunOfBytes in_key other → key ++ 61 ∷ rest ≡ other ++ 61 ∷ more → (key ≡ other) × (rest ≡ more)
one_key key other rest more h g e =
    let both = sym (key_run key rest h) ∙ ap (run in_key) e ∙ key_run other more g in
    let tails : 61 ∷ rest ≡ 61 ∷ more = ap (λ (p : Cut). p.1) both in
    let same : rest ≡ more = cc in
    (ap (λ (p : Cut). p.0) both, same)

-- ---- as the program reads

pub if_none : {X P : Type 0} (o : Option X) → P → IfNone o P
if_none None h = h
if_none (Some x) h = tt

pub not_none : (key : List ℕ) → (length key ≡ 0 → ⊥) → is_none key ≡ false
not_none [] h = absurd (h refl)
not_none (b ∷ key) h = refl

pub key_stands : (text key rest behind : List ℕ) → run in_key text ≡ (key, rest) → (length key ≡ 0 → ⊥) → rest ≡ 61 ∷ behind → IsRunOfBytes in_key key × (text ≡ key ++ 61 ∷ behind)
key_stands text key rest behind e some equals =
    let r = run_is in_key text in
    let first : (run in_key text).0 ≡ key = ap (λ (p : Cut). p.0) e in
    let last : (run in_key text).1 ≡ rest = ap (λ (p : Cut). p.1) e in
    (has_run in_key key (ap (list_all in_key) (sym first) ∙ r.all) (not_none key some), r.parts ∙ ap (λ (l : List ℕ). l ++ (run in_key text).1) first ∙ ap (λ (l : List ℕ). key ++ l) (last ∙ equals))

pub no_equals : (text key rest : List ℕ) → run in_key text ≡ (key, rest) → ((behind : List ℕ) → rest ≡ 61 ∷ behind → ⊥) → (other more : List ℕ) → IsRunOfBytes in_key other → text ≡ other ++ 61 ∷ more → ⊥
no_equals text key rest e none other more h whole = none more (ap (λ (p : Cut). p.1) (sym e ∙ ap (run in_key) whole ∙ key_run other more h))

pub no_key : (text key rest : List ℕ) → run in_key text ≡ (key, rest) → length key ≡ 0 → (other more : List ℕ) → IsRunOfBytes in_key other → text ≡ other ++ 61 ∷ more → ⊥
no_key text key rest e none other more h whole = go other h (ap (λ (p : Cut). length p.0) (sym e ∙ ap (run in_key) whole ∙ key_run other more h))
  where
    go : (other : List ℕ) → IsRunOfBytes in_key other → length key ≡ length other → ⊥
    go [] h same = h
    go (b ∷ other) h same = omega (arith, same, none)

-- what stands behind the `=` begins with no quote
pub no_quote : (text key rest : List ℕ) → IsRunOfBytes in_key key → text ≡ key ++ 61 ∷ rest → begins_quote rest ≡ false → QuotesValue text → ⊥
no_quote text key rest h e none q =
    let same = one_key key q.key rest (q.quote ∷ q.more) h q.is_key (sym e ∙ q.whole) in
    true≢false (sym q.quotes ∙ ap begins_quote (sym same.1) ∙ none)

pub has_quote : (text key rest : List ℕ) → IsRunOfBytes in_key key → text ≡ key ++ 61 ∷ rest → begins_quote rest ≡ true → QuotesValue text
has_quote text key rest h e some = go rest e some
  where
    go : (rest : List ℕ) → text ≡ key ++ 61 ∷ rest → begins_quote rest ≡ true → QuotesValue text
    go [] e some = absurd (true≢false (sym some))
    go (b ∷ rest) e some = record { key = key; quote = b; more = rest; is_key = h; quotes = some; whole = e }
