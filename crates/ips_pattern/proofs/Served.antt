-- What the engine finds is what the pattern of the text finds.
use Rattle.std.proofs.Common.{◌≡◌, ℕ, ◌*◌, ◌+◌, ◌<◌, ◌≤◌, true, cond, ◌==◌, List, [], ◌∷◌, ◌++◌, map, get_or, Option, None, Some, IsSomeAnd, is_some, slice_range, refl, ap, ap₂, subst, ◌∙◌, arith, inl, inr}
use Rattle.std.specs.Prelude.{chars, IfSome, ◌≢◌}
use Rattle.regex_syntax.specs.Brackets.{Nested}
use Rattle.regex_syntax.specs.Grammar.{Names, read}
use Rattle.regex_syntax.specs.Verdict.{default_config, Reads, Refuses}
use Rattle.regex_syntax.specs.declared.error.ErrorKind.{ErrorKind}
use Rattle.regex_syntax.specs.declared.error.ErrorKind.TheVariants as kind
use Rattle.regex.specs.Patterns.{Re, Match, SameCaptures, find_str, find_all_str}
use Rattle.regex.specs.Replace.{replaced_by, group_bytes, bytes_of}
use Rattle.regex.specs.Templates.{written_after}
use Rattle.regex.specs.Writes.{both}
use Rattle.regex.specs.Strings.{regex_source, regex_config, regex_pattern, regex_names, IsReadFromSource, IsReadFrom}
use Rattle.regex.specs.declared.string.regex.Regex.{Regex}
use Rattle.regex.specs.declared.string.template.Template.{Template}
use Rattle.regex.proofs.ForCallers.{spans, is_match_alike, find_all_alike}
use Rattle.ips_pattern.specs.Pattern.{pattern_of, IsPattern, matches_in, matches, replaced_in, replaced}
use Rattle.ips_pattern.specs.Serving.{IsServed, Serves, IsNamed, IsTemplate}

abbrev Found : Type 0
Found = Nested Re × Names

some_so : (o : Option Found) (P Q : Found → Type 0) → ((found : Found) → P found → Q found) → IsSomeAnd o P → IsSomeAnd o Q
some_so None P Q f h = h
some_so (Some found) P Q f h = f found h

-- ---- what was read

pub read_pattern : (r : Regex) (text : List ℕ) → regex_source r ≡ text → regex_config r ≡ default_config → IsReadFromSource r → IsPattern text
unfolding Reads
read_pattern r text source config is = some_so (read default_config (chars text)) _ (λ found. found.0.depth ≤ 250) (λ found h. h.0) (rw (source, config) at is)

-- a refusal of the parser that isn't for want of memory says that the text is no pattern
pub refused_pattern : (text : List ℕ) (k : ErrorKind) → Refuses default_config text k → k ≢ kind.OutOfMemory → IsPattern text → ⊥
unfolding Refuses
refused_pattern text k (inl memory) other is = other memory
refused_pattern text k (inr (inl none)) other is = rw none at is
refused_pattern text k (inr (inr deep)) other is = go (read default_config (chars text)) deep.1 is
  where
    go : (o : Option Found) → IfSome o (λ found. 250 < found.0.depth) → IsSomeAnd o (λ found. found.0.depth ≤ 250) → ⊥
    go None h is = is
    go (Some found) h is = omega (arith, h, is)

-- ---- what a regex serves

pub serves_read : (r : Regex) → IsServed r → Serves (regex_source r) (regex_pattern r) (regex_names r)
unfolding Reads
serves_read r s = some_so (read default_config (chars (regex_source r))) _ (λ found. SameCaptures (regex_pattern r) found.0.value × (regex_names r ≡ found.1)) (λ found h. (h.1, h.2)) (rw s.config at s.read)

-- ---- searches

pub matches_served : (text : List ℕ) (re : Re) (names : Names) (hay : List ℕ) → Serves text re names → ((k : ℕ) → get_or hay k 0 < 256) → is_some (find_str re hay 0) ≡ matches text hay
matches_served text re names hay s bytes = go (pattern_of text) s
  where
    go : (o : Option Found) → IsSomeAnd o (λ found. SameCaptures re found.0.value × (names ≡ found.1)) → is_some (find_str re hay 0) ≡ matches_in hay o
    go None s = absurd s
    go (Some found) s = is_match_alike s.0 hay bytes true 0

-- ---- replacements

abbrev Seen : Type 0
Seen = ℕ × ℕ × (ℕ → Option ℕ)

module _ (names : Names) (template hay : List ℕ) where
  abbrev writes : Match → List ℕ
  writes m = written_after names (group_bytes hay m) template 0

  abbrev writes_seen : Seen → List ℕ
  writes_seen s = written_after names (λ n. bytes_of hay (cond (n == 0) (Some (s.0, s.1)) (both (s.2 (2 * n)) (s.2 (2 * n + 1))))) template 0

  same_replaced : (xs ys : List Match) → map spans xs ≡ map spans ys → (at : ℕ) → replaced_by writes hay at xs ≡ replaced_by writes hay at ys
  unfolding replaced_by
  same_replaced [] [] e at = refl
  same_replaced [] (y ∷ ys) e at = absurd cc
  same_replaced (x ∷ xs) [] e at = absurd cc
  same_replaced (x ∷ xs) (y ∷ ys) e at =
      let head : spans x ≡ spans y = cc in
      let tail : map spans xs ≡ map spans ys = cc in
      ap₂ ◌++◌ (ap (λ (s : Seen). slice_range hay at s.0 ++ writes_seen s) head)
      (same_replaced xs ys tail x.trace.end ∙ ap (λ (s : Seen). replaced_by writes hay s.1 ys) head)

pub replaced_served : (text template : List ℕ) (re : Re) (names : Names) (hay out : List ℕ) → Serves text re names → ((k : ℕ) → get_or hay k 0 < 256)
    → ((found : Found) → pattern_of text ≡ Some found → out ≡ replaced_by (λ m. written_after found.1 (group_bytes hay m) template 0) hay 0 (find_all_str re hay))
    → out ≡ replaced (record { pattern = text; template = template }) hay
replaced_served text template re names hay out s bytes written = go (pattern_of text) refl s
  where
    go : (o : Option Found) → pattern_of text ≡ o → IsSomeAnd o (λ found. SameCaptures re found.0.value × (names ≡ found.1)) → out ≡ replaced_in template hay o
    go None e s = absurd s
    go (Some found) e s = written found e ∙ same_replaced found.1 template hay (find_all_str re hay) (find_all_str found.0.value hay) (find_all_alike s.0 hay bytes true) 0

-- ---- templates

pub named_read : (r : Regex) → IsServed r → IsNamed (regex_source r) (regex_names r)
named_read r s = go (pattern_of (regex_source r)) (serves_read r s)
  where
    go : (o : Option Found) → IsSomeAnd o (λ found. SameCaptures (regex_pattern r) found.0.value × (regex_names r ≡ found.1)) → IsSomeAnd o (λ found. regex_names r ≡ found.1)
    go None h = h
    go (Some found) h = h.1

pub named_template : (text replacement : List ℕ) (names : Names) (t : Template) → IsNamed text names → IsReadFrom names replacement t → IsTemplate text replacement t
named_template text replacement names t h read = go (pattern_of text) h
  where
    go : (o : Option Found) → IsSomeAnd o (λ found. names ≡ found.1) → IsSomeAnd o (λ found. IsReadFrom found.1 replacement t)
    go None h = h
    go (Some found) h = subst (λ (n : Names). IsReadFrom n replacement t) h read

pub template_known : (text replacement : List ℕ) (t : Template) (found : Found) → pattern_of text ≡ Some found → IsTemplate text replacement t → IsReadFrom found.1 replacement t
template_known text replacement t found e h = subst (λ (o : Option Found). IsSomeAnd o (λ f. IsReadFrom f.1 replacement t)) e h
