-- The rules of a file are read one logical line after the other.
use Rattle.std.proofs.Common.{◌≡◌, ℕ, Bool, true, false, List, [], ◌∷◌, ◌++◌, length, Option, Some, None, Err, refl, sym, ap, subst, ◌∙◌, append_assoc, arith, inl, inr}
use Rattle.std.proofs.lemmas.Bool.{true≢false}
use Rattle.std.proofs.lemmas.List.{append-nil}
use Rattle.ips_text.specs.declared.refusal.Or.{Or}
use Rattle.ips_text.specs.declared.refusal.Or.TheVariants.{Bad, OutOfMemory}
use Rattle.ips_text.specs.Reading.{IfBad}
use Rattle.ips_manifest.specs.declared.fault.ManifestFault.{ManifestFault}
use Rattle.ips_manifest.specs.Logical.{Logical, physical_lines, logical_lines, is_skipped}
use Rattle.ips_manifest.specs.Next.{IsNext, IsUnreadable}
use Rattle.ips_rule.specs.declared.line.RuleLine.{RuleLine}
use Rattle.ips_rule.specs.Rules.{Rule, Says}
use Rattle.ips_rule.specs.File.{TextMeans, LineMeans, LinesMean, IsBadAt, IsFirstBad, Said, lines_for}

-- logical lines that are behind, and the rules that they give
pub record Behind (total rest : List Logical) (rules : List RuleLine) : Type 0 where
  pub done : List Logical
  pub parts : total ≡ done ++ rest
  pub means : LinesMean done rules

pub behind_none : (total : List Logical) → Behind total total []
behind_none total = record { done = []; parts = refl; means = refl }

means_more : (done : List Logical) (line : Logical) (rules more : List RuleLine) → LinesMean done rules → LineMeans line more → LinesMean (done ++ line ∷ []) (rules ++ more)
means_more [] line rules more h m = (more, [], m, refl, ap (λ (l : List RuleLine). l ++ more) h ∙ sym (append-nil more))
means_more (first ∷ done) line rules more h m =
    (h.0, h.1 ++ more, h.2, means_more done line h.1 more h.3 m, ap (λ (l : List RuleLine). l ++ more) h.4 ∙ append_assoc h.0 h.1 more)

abbrev text_line : ℕ → List ℕ → Logical
text_line number text = record { number = number; text = text; unreadable = None }

rule_given : (skipped : Bool) (line : Logical) (rule : Option Rule) → is_skipped line.text ≡ skipped → Said line.text rule → TextMeans skipped line (lines_for line.number rule)
rule_given true line None e h = refl
rule_given true line (Some rule) e h = absurd (true≢false (sym e ∙ h.0))
rule_given false line None e h = absurd (true≢false (sym h ∙ e))
rule_given false line (Some rule) e h = (rule, h.1, refl)

pub behind_more : (total : List Logical) (rules new : List RuleLine) (number : ℕ) (bytes text held : List ℕ) (later : ℕ) (behind : List ℕ) (rule : Option Rule)
    → Behind total (logical_lines number (physical_lines bytes)) rules → IsNext number bytes held later behind → text ≡ held → Said text rule → new ≡ rules ++ lines_for number rule
    → Behind total (logical_lines later (physical_lines behind)) new
behind_more total rules new number bytes text held later behind rule g next same said added =
    let line = text_line number held in
    let gives : LineMeans line (lines_for number rule) = (refl, rule_given (is_skipped held) line rule refl (subst (λ (t : List ℕ). Said t rule) same said)) in
    subst (Behind total (logical_lines later (physical_lines behind))) (sym added)
    (record {
      done = g.done ++ line ∷ [];
      parts = g.parts ∙ ap (λ (l : List Logical). g.done ++ l) next.lines ∙ sym (append_assoc g.done (line ∷ []) (logical_lines later (physical_lines behind)));
      means = means_more g.done line rules (lines_for number rule) g.means gives;
    })

pub behind_all : (total : List Logical) (rules : List RuleLine) (number : ℕ) (bytes : List ℕ) → Behind total (logical_lines number (physical_lines bytes)) rules → length bytes ≡ 0 → LinesMean total rules
behind_all total rules number bytes g none = go bytes none g.parts
  where
    go : (bytes : List ℕ) → length bytes ≡ 0 → total ≡ g.done ++ logical_lines number (physical_lines bytes) → LinesMean total rules
    go [] e parts = subst (λ (l : List Logical). LinesMean l rules) (sym (parts ∙ append-nil g.done)) g.means
    go (b ∷ bytes) e parts = absurd (omega arith)

-- ---- a fault

first_in : (done rest : List Logical) (rules : List RuleLine) (number : ℕ) → LinesMean done rules → IsFirstBad rest number → IsFirstBad (done ++ rest) number
first_in [] rest rules number h first = first
first_in (line ∷ done) rest rules number h first = inr ((h.0, h.2), first_in done rest h.1 number h.3 first)

bad_at : (total rest : List Logical) (rules : List RuleLine) (line : Logical) (others : List Logical) (number : ℕ) → Behind total rest rules → rest ≡ line ∷ others → IsBadAt line.unreadable line number → IsFirstBad total number
bad_at total rest rules line others number g split bad =
    let all : total ≡ g.done ++ line ∷ others = g.parts ∙ ap (λ (l : List Logical). g.done ++ l) split in
    subst (λ (l : List Logical). IsFirstBad l number) (sym all) (first_in g.done (line ∷ others) rules number g.means (inl bad))

unread_bad : (u : Option ℕ) (line : Logical) (number : ℕ) → u ≡ Some number → IsBadAt u line number
unread_bad None line number e = absurd cc
unread_bad (Some n) line number e = cc

pub bad_unread : (total : List Logical) (rules : List RuleLine) (number : ℕ) (bytes : List ℕ) (f : ManifestFault) → Behind total (logical_lines number (physical_lines bytes)) rules → IsUnreadable number bytes f → IsFirstBad total f.line
bad_unread total rules number bytes f g u = bad_at total (logical_lines number (physical_lines bytes)) rules u.line u.others f.line g u.lines (unread_bad u.line.unreadable u.line f.line u.at)

pub bad_rule : (total : List Logical) (rules : List RuleLine) (number : ℕ) (bytes text held : List ℕ) (later : ℕ) (behind : List ℕ) (told : ℕ) → Behind total (logical_lines number (physical_lines bytes)) rules → IsNext number bytes held later behind → text ≡ held
    → told ≡ number → is_skipped text ≡ false → ((rule : Rule) → Says rule text → ⊥) → IsFirstBad total told
bad_rule total rules number bytes text held later behind told g next same at skipped none =
    bad_at total (logical_lines number (physical_lines bytes)) rules (text_line number held) (logical_lines later (physical_lines behind)) told g next.lines
    (subst (λ (t : List ℕ). is_skipped t ≡ false) same skipped, at, subst (λ (t : List ℕ). (rule : Rule) → Says rule t → ⊥) same none)

-- ---- as the program asks

pub text_bad : (X Y : Type 0) (e : Or ℕ) (total : List Logical) (rules : List RuleLine) (number : ℕ) (bytes : List ℕ) → Behind total (logical_lines number (physical_lines bytes)) rules
    → IfBad {X = X} (Err e) (λ line. (fault : ManifestFault) × IsUnreadable number bytes fault × (line ≡ fault.line)) → IfBad {X = Y} (Err e) (λ line. IsFirstBad total line)
text_bad X Y (Bad line) total rules number bytes g h = subst (IsFirstBad total) (sym h.2) (bad_unread total rules number bytes h.0 g h.1)
text_bad X Y OutOfMemory total rules number bytes g h = tt

pub rule_bad : (X Y : Type 0) (e : Or ℕ) (total : List Logical) (rules : List RuleLine) (number : ℕ) (bytes text held : List ℕ) (later : ℕ) (behind : List ℕ) → Behind total (logical_lines number (physical_lines bytes)) rules → IsNext number bytes held later behind → text ≡ held
    → IfBad {X = X} (Err e) (λ line. (line ≡ number) × (is_skipped text ≡ false) × ((rule : Rule) → Says rule text → ⊥)) → IfBad {X = Y} (Err e) (λ line. IsFirstBad total line)
rule_bad X Y (Bad line) total rules number bytes text held later behind g next same h = bad_rule total rules number bytes text held later behind line g next same h.0 h.1 h.2
rule_bad X Y OutOfMemory total rules number bytes text held later behind g next same h = tt
