-- What words that ask for a transformation come to is one.
use Rattle.std.proofs.Common.{◌≡◌, ◌⊎◌, inl, inr, ℕ, ◌+◌, ◌<◌, ◌≤◌, ◌==◌, Bool, true, false, cond, nat_lt, IsTrue, List, [], ◌∷◌, ◌++◌, length, take, drop, take-append-drop, get_or, Option, Some, None, refl, sym, ◌∙◌, ap, ap₂, subst, subst₂, append_assoc, arith}
use Rattle.std.specs.List.{AllByRecursion}
use Rattle.std.proofs.lemmas.Bool.{cases_Bool, cases_lt}
use Rattle.std.proofs.lemmas.List.{take-take}
use Rattle.ips_text.specs.declared.path.RelPath.{RelPath}
use Rattle.ips_text.specs.declared.limits.Which.TheVariants.{ManifestBytes}
use Rattle.ips_files.specs.Files.{file_at, HasSize}
use Rattle.ips_syntax.specs.declared.table.Why.{Why}
use Rattle.ips_syntax.specs.declared.table.Why.TheVariants.{Missing}
use Rattle.ips_action.specs.Action.{Fields}
use Rattle.ips_action.proofs.One.{one_gathered}
use Rattle.ips_manifest.specs.declared.line.Line.{Line}
use Rattle.ips_manifest.specs.declared.fault.ManifestFault.{ManifestFault}
use Rattle.ips_manifest.specs.Logical.{lines_of}
use Rattle.ips_manifest.specs.Manifest.{manifest_text}
use Rattle.ips_rule.specs.declared.line.RuleLine.{RuleLine}
use Rattle.ips_rule.specs.File.{AreRulesOf}
use Rattle.ips_rule.specs.File as file
use Rattle.ips_transform.specs.Transformed.{ActionParts, HasPatterns}
use Rattle.ips_transform.specs.Output.{rules_of, left_of, IsFieldsOf, IsOwnLine, Yields, IsNoAction, Become, IsFirstBadResult}
use Rattle.ips_mogrify.specs.declared.judging.Refusal.{Refusal}
use Rattle.ips_mogrify.specs.declared.judging.Refusal.TheVariants.{BadRule, BadPattern, BadManifest, BadResult}
use Rattle.ips_mogrify.specs.declared.status.MogrifyOutcome.{MogrifyOutcome}
use Rattle.ips_mogrify.specs.declared.status.MogrifyOutcome.TheVariants.{Usage, FileMissing, TooLarge, Written}
use Rattle.ips_mogrify.specs.Whole.{IsFirstBadPattern, AreBothRead, IsTransformed, Makes}
use Rattle.ips_mogrify.specs.Refused.{IsRefused}
use Rattle.ips_mogrify.specs.Outcome.{AsksToTransform, AsksFor, BeginsRequest, IsWordFault, why_at, SeenSource, IsFile, IsSomeFile, IsFitFile, IsLargeFile, most_bytes, ComesTo, usage, no_rules, no_manifest, large_rules, large_manifest, refused, written, outcome_of, IsManifestDue}
use Rattle.ips_laws.specs.mogrify_laws.Same.{IsSameTransformation}
use Rattle.ips_laws.proofs.next_laws.Manifests.{manifest_once, manifest_fault_once, fault_or_manifest}

-- ---- rules with patterns

pattern_once : (rules : List RuleLine) (m n : ℕ) → IsFirstBadPattern rules m → IsFirstBadPattern rules n → m ≡ n
pattern_once [] m n a b = absurd a
pattern_once (rule ∷ rules) m n (inl a) (inl b) = a.0 ∙ sym b.0
pattern_once (rule ∷ rules) m n (inl a) (inr b) = absurd (a.1 b.0)
pattern_once (rule ∷ rules) m n (inr a) (inl b) = absurd (b.1 a.0)
pattern_once (rule ∷ rules) m n (inr a) (inr b) = pattern_once rules m n a.1 b.1

pattern_or_all : (rules : List RuleLine) (n : ℕ) → IsFirstBadPattern rules n → AllByRecursion HasPatterns (rules_of rules) → ⊥
pattern_or_all [] n a all = a
pattern_or_all (rule ∷ rules) n (inl a) all = a.1 all.0
pattern_or_all (rule ∷ rules) n (inr a) all = pattern_or_all rules n a.1 all.1

-- ---- results

one_of : (parts : ActionParts) (a b : Fields) → IsFieldsOf parts a → IsFieldsOf parts b → a ≡ b
one_of parts a b ha hb =
    let kind = ha.kind ∙ sym hb.kind in
    let payload = ha.payload ∙ sym hb.payload in
    let attrs = one_gathered parts.pairs a.attrs b.attrs ha.ordered hb.ordered ha.gathers hb.gathers in
    λ i. record { kind = kind i; payload = payload i; attrs = attrs i }

none_or_yields : (parts : ActionParts) (a : Fields) → IsNoAction parts → Yields parts a → ⊥
none_or_yields parts a none y = none.2 (subst IsOwnLine (one_of parts a none.0 y.of none.1) y.line)

result_once : (parts : List ActionParts) (m n : ℕ) → IsFirstBadResult parts m → IsFirstBadResult parts n → m ≡ n
result_once [] m n a b = absurd a
result_once (p ∷ parts) m n (inl a) (inl b) = a.0 ∙ sym b.0
result_once (p ∷ parts) m n (inl a) (inr b) = absurd (none_or_yields p b.0.0 a.1 b.0.1)
result_once (p ∷ parts) m n (inr a) (inl b) = absurd (none_or_yields p a.0.0 b.1 a.0.1)
result_once (p ∷ parts) m n (inr a) (inr b) = result_once parts m n a.1 b.1

result_or_lines : (parts : List ActionParts) (n : ℕ) (lines : List Line) → IsFirstBadResult parts n → Become parts lines → ⊥
result_or_lines [] n lines a h = a
result_or_lines (p ∷ parts) n lines (inl a) h = none_or_yields p h.0 a.1 h.2
result_or_lines (p ∷ parts) n lines (inr a) h = result_or_lines parts n h.1 a.1 h.3

become_once : (parts : List ActionParts) (a b : List Line) → Become parts a → Become parts b → a ≡ b
become_once [] a b h g = h ∙ sym g
become_once (p ∷ parts) a b h g =
    let first = one_of p h.0 g.0 h.2.of g.2.of in
    let rest = become_once parts h.1 g.1 h.3 g.3 in
    h.4 ∙ (λ i. record { number = p.number; action = first i } ∷ rest i) ∙ sym g.4

-- ---- two texts

abbrev pub RulesOnce : Type 0
RulesOnce = (bytes : List ℕ) (a b : List RuleLine) → AreRulesOf bytes a → AreRulesOf bytes b → a ≡ b

abbrev pub BadRuleOnce : Type 0
BadRuleOnce = (bytes : List ℕ) (a b : ℕ) → file.IsFirstBad (lines_of bytes) a → file.IsFirstBad (lines_of bytes) b → a ≡ b

abbrev pub RulesOrBad : Type 0
RulesOrBad = (bytes : List ℕ) (rules : List RuleLine) (number : ℕ) → AreRulesOf bytes rules → file.IsFirstBad (lines_of bytes) number → ⊥

module _ (once : RulesOnce) (bad_once : BadRuleOnce) (either : RulesOrBad) (text bytes : List ℕ) where
  pattern_of : (rules others : List RuleLine) (n : ℕ) → AreRulesOf text rules → AreRulesOf text others → IsFirstBadPattern rules n → IsFirstBadPattern others n
  pattern_of rules others n a b h = subst (λ (l : List RuleLine). IsFirstBadPattern l n) (once text rules others a b) h

  same_left : (rules others : List RuleLine) (lines more : List Line) → AreBothRead text bytes rules lines → AreBothRead text bytes others more → left_of rules lines ≡ left_of others more
  same_left rules others lines more a b = ap₂ left_of (once text rules others a.are_rules b.are_rules) (manifest_once bytes lines more a.is_manifest b.is_manifest)

  refusal_once : (a b : Refusal) → IsRefused text bytes a → IsRefused text bytes b → a ≡ b
  refusal_once (BadRule m) (BadRule n) a b = ap BadRule (bad_once text m n a b)
  refusal_once (BadRule m) (BadPattern n) a b = absurd (either text b.0 m b.1 a)
  refusal_once (BadRule m) (BadManifest g) a b = absurd (either text b.0 m b.1 a)
  refusal_once (BadRule m) (BadResult n) a b = absurd (either text b.0 m b.2.are_rules a)
  refusal_once (BadPattern m) (BadRule n) a b = absurd (either text a.0 n a.1 b)
  refusal_once (BadPattern m) (BadPattern n) a b = ap BadPattern (pattern_once b.0 m n (pattern_of a.0 b.0 m a.1 b.1 a.2) b.2)
  refusal_once (BadPattern m) (BadManifest g) a b = absurd (pattern_or_all b.0 m (pattern_of a.0 b.0 m a.1 b.1 a.2) b.2)
  refusal_once (BadPattern m) (BadResult n) a b = absurd (pattern_or_all b.0 m (pattern_of a.0 b.0 m a.1 b.2.are_rules a.2) b.2.patterns)
  refusal_once (BadManifest f) (BadRule n) a b = absurd (either text a.0 n a.1 b)
  refusal_once (BadManifest f) (BadPattern n) a b = absurd (pattern_or_all a.0 n (pattern_of b.0 a.0 n b.1 a.1 b.2) a.2)
  refusal_once (BadManifest f) (BadManifest g) a b = ap BadManifest (manifest_fault_once bytes f g a.3 b.3)
  refusal_once (BadManifest f) (BadResult n) a b = absurd (fault_or_manifest bytes f b.1 a.3 b.2.is_manifest)
  refusal_once (BadResult m) (BadRule n) a b = absurd (either text a.0 n a.2.are_rules b)
  refusal_once (BadResult m) (BadPattern n) a b = absurd (pattern_or_all a.0 n (pattern_of b.0 a.0 n b.1 a.2.are_rules b.2) a.2.patterns)
  refusal_once (BadResult m) (BadManifest g) a b = absurd (fault_or_manifest bytes g a.1 b.3 a.2.is_manifest)
  refusal_once (BadResult m) (BadResult n) a b =
      ap BadResult (result_once (left_of b.0 b.1) m n (subst (λ (l : List ActionParts). IsFirstBadResult l m) (same_left a.0 b.0 a.1 b.1 a.2 b.2) a.3) b.3)

  refused_or_made : (why : Refusal) (results : List Line) → IsRefused text bytes why → IsTransformed text bytes results → ⊥
  refused_or_made (BadRule m) results a t = either text t.0 m t.2.are_rules a
  refused_or_made (BadPattern m) results a t = pattern_or_all t.0 m (pattern_of a.0 t.0 m a.1 t.2.are_rules a.2) t.2.patterns
  refused_or_made (BadManifest f) results a t = fault_or_manifest bytes f t.1 a.3 t.2.is_manifest
  refused_or_made (BadResult m) results a t = result_or_lines (left_of t.0 t.1) m results (subst (λ (l : List ActionParts). IsFirstBadResult l m) (same_left a.0 t.0 a.1 t.1 a.2 t.2) a.3) t.3

  made_once : (a b : List ℕ) → Makes text bytes a → Makes text bytes b → a ≡ b
  made_once a b h g =
      let t = h.1 in
      let u = g.1 in
      let same : h.0 ≡ g.0 = become_once (left_of u.0 u.1) h.0 g.0 (subst (λ (l : List ActionParts). Become l h.0) (same_left t.0 u.0 t.1 u.1 t.2 u.2) t.3) u.3 in
      h.2 ∙ ap manifest_text same ∙ sym g.2

-- ---- words

abbrev Words : Type 0
Words = List (List ℕ)

asks_once : (words : Words) (r m r' m' : List ℕ) → AsksToTransform words r m → AsksToTransform words r' m' → (r ≡ r') × (m ≡ m')
asks_once words r m r' m' a b =
    let e = sym a.form ∙ b.form in
    (ap (λ (l : Words). get_or l 3 []) e, ap (λ (l : Words). get_or l 4 []) e)

begins_front : (words : Words) (n : ℕ) → BeginsRequest words → BeginsRequest (take n words)
begins_front words n g =
    let whole : take n words ++ (drop n words ++ g.0) ≡ words ++ g.0 = sym (append_assoc (take n words) (drop n words) g.0) ∙ ap (λ (l : Words). l ++ g.0) (take-append-drop n words) in
    (drop n words ++ g.0, g.1, g.2, subst (λ (l : Words). AsksToTransform l g.1 g.2) (sym whole) g.3)

not_before : (words : Words) (p q : ℕ) (w v : Why) → IsWordFault words p w → IsWordFault words q v → p < q → ⊥
not_before words p q w v a b lt =
    let le : p + 1 ≤ q = omega (arith, lt) in
    a.stops (omega (arith, lt, b.within)) (subst BeginsRequest (take-take (p + 1) q words le) (begins_front (take q words) (p + 1) b.begins))

same_place : (words : Words) (p q : ℕ) (w v : Why) → IsWordFault words p w → IsWordFault words q v → p ≡ q
same_place words p q w v a b = elim (cases_lt p q) [
  | inl before ↦ absurd (not_before words p q w v a b before)
  | inr le ↦ elim (cases_lt q p) [ inl before ↦ absurd (not_before words q p v w b a before) | inr ge ↦ let e : p ≡ q = omega (arith, le, ge) in e ]
]

fault_once : (words : Words) (p q : ℕ) (w v : Why) → IsWordFault words p w → IsWordFault words q v → Usage p w ≡ Usage q v
fault_once words p q w v a b =
    let place = same_place words p q w v a b in
    let why : w ≡ v = a.cause ∙ ap (λ (n : ℕ). cond (n == length words) Missing (why_at n)) place ∙ sym b.cause in
    λ i. Usage (place i) (why i)

-- ---- files

abbrev File : Type 0
File = Option (List ℕ)

abbrev Judged : List ℕ → List ℕ → MogrifyOutcome → Type 0
Judged text bytes o = ((why : Refusal) × IsRefused text bytes why × (o ≡ outcome_of why)) ⊎ ((made : List ℕ) × Makes text bytes made × (o ≡ Written))

abbrev Sized : Bool → Bool → List ℕ → List ℕ → MogrifyOutcome → Type 0
Sized true large text bytes o = o ≡ TooLarge ManifestBytes (length text)
Sized false true text bytes o = o ≡ TooLarge ManifestBytes (length bytes)
Sized false false text bytes o = Judged text bytes o

abbrev is_large : List ℕ → Bool
is_large bytes = nat_lt most_bytes (length bytes)

-- the outcome over two files, the rules' and the manifest's
abbrev On : File → File → List ℕ → List ℕ → MogrifyOutcome → Type 0
On None g r m o = (p : RelPath) × (p.bytes ≡ r) × (o ≡ FileMissing p)
On (Some text) None r m o = (p : RelPath) × (p.bytes ≡ m) × (o ≡ FileMissing p)
On (Some text) (Some bytes) r m o = Sized (is_large text) (is_large bytes) text bytes o

sized : (file : File) (count : ℕ) → HasSize file count → (bytes : List ℕ) × (file ≡ Some bytes) × (length bytes ≡ count)
sized None count h = absurd h
sized (Some bytes) count h = (bytes, refl, h)

large : (bytes : List ℕ) → most_bytes < length bytes → is_large bytes ≡ true
large bytes lt = elim (cases_Bool (nat_lt most_bytes (length bytes))) [ inl is ↦ is | inr other ↦ absurd (omega (arith, lt, not_less most_bytes (length bytes) other)) ]
  where
    not_less : (m n : ℕ) → nat_lt m n ≡ false → n ≤ m
    not_less m n e = grind arith

fit : (bytes : List ℕ) → length bytes ≤ most_bytes → is_large bytes ≡ false
fit bytes le = elim (cases_Bool (nat_lt most_bytes (length bytes))) [ inl is ↦ absurd (omega (arith, le, less most_bytes (length bytes) is)) | inr other ↦ other ]
  where
    less : (m n : ℕ) → nat_lt m n ≡ true → m < n
    less m n e = grind arith

on_sized : (f g : File) (r m text bytes : List ℕ) (x y : Bool) (o : MogrifyOutcome) → f ≡ Some text → g ≡ Some bytes → is_large text ≡ x → is_large bytes ≡ y → Sized x y text bytes o → On f g r m o
on_sized f g r m text bytes x y o ef eg ex ey h =
    subst₂ (λ (f g : File). On f g r m o) (sym ef) (sym eg) (subst₂ (λ (x y : Bool). Sized x y text bytes o) (sym ex) (sym ey) h)

module _ (words : Words) (s : SeenSource) (told : IsTrue s.tells) (r m : List ℕ) (asks : AsksToTransform words r m) where
  here : (r' m' : List ℕ) (file : File) → AsksToTransform words r' m' → IsFile s r' file → file_at s.held r ≡ file
  here r' m' file a is = ap (file_at s.held) (asks_once words r m r' m' asks a).0 ∙ is told

  there : (r' m' : List ℕ) (file : File) → AsksToTransform words r' m' → IsFile s m' file → file_at s.held m ≡ file
  there r' m' file a is = ap (file_at s.held) (asks_once words r m r' m' asks a).1 ∙ is told

  pub on : (o : MogrifyOutcome) → ComesTo words s o → On (file_at s.held r) (file_at s.held m) r m o
  on o (usage place why u) = absurd (u.none r m asks)
  on o (no_rules r' m' p a at none) =
      subst (λ (f : File). On f (file_at s.held m) r m (FileMissing p)) (sym (here r' m' None a none)) (p, at ∙ sym (asks_once words r m r' m' asks a).0, refl)
  on o (no_manifest r' m' p a some at none) =
      subst₂ (λ (f g : File). On f g r m (FileMissing p)) (sym (here r' m' (Some some.0) a some.1)) (sym (there r' m' None a none)) (p, at ∙ sym (asks_once words r m r' m' asks a).1, refl)
  on o (large_rules r' m' count a some over) =
      let e = (asks_once words r m r' m' asks a).0 in
      let z = sized (file_at s.held r') count (over.0 told) in
      let lt : most_bytes < length z.0 = omega (arith, z.2, over.1) in
      on_sized (file_at s.held r) (file_at s.held m) r m z.0 some.0 true (is_large some.0) (TooLarge ManifestBytes count) (ap (file_at s.held) e ∙ z.1) (there r' m' (Some some.0) a some.1) (large z.0 lt) refl
      (ap (TooLarge ManifestBytes) (sym z.2))
  on o (large_manifest r' m' text count a stands over) =
      let e = (asks_once words r m r' m' asks a).1 in
      let z = sized (file_at s.held m') count (over.0 told) in
      let lt : most_bytes < length z.0 = omega (arith, z.2, over.1) in
      on_sized (file_at s.held r) (file_at s.held m) r m text z.0 false true (TooLarge ManifestBytes count) (here r' m' (Some text) a stands.0) (ap (file_at s.held) e ∙ z.1) (fit text stands.1) (large z.0 lt)
      (ap (TooLarge ManifestBytes) (sym z.2))
  on o (refused text bytes why a h) =
      on_sized (file_at s.held r) (file_at s.held m) r m text bytes false false (outcome_of why) (here a.0 a.1 (Some text) a.2 a.3.0) (there a.0 a.1 (Some bytes) a.2 a.4.0) (fit text a.3.1) (fit bytes a.4.1) (inl (why, h, refl))
  on o (written text bytes made a h) =
      on_sized (file_at s.held r) (file_at s.held m) r m text bytes false false Written (here a.0 a.1 (Some text) a.2 a.3.0) (there a.0 a.1 (Some bytes) a.2 a.4.0) (fit text a.3.1) (fit bytes a.4.1) (inr (made, h, refl))

-- ---- outcomes

same_self : (o : MogrifyOutcome) → IsSameTransformation o o
same_self (FileMissing p) = refl
same_self o = refl

same_as : (a b o : MogrifyOutcome) → a ≡ o → b ≡ o → IsSameTransformation a b
same_as a b o e f = subst₂ IsSameTransformation (sym e) (sym f) (same_self o)

same_missing : (a b : MogrifyOutcome) (path : List ℕ) → (p : RelPath) × (p.bytes ≡ path) × (a ≡ FileMissing p) → (p : RelPath) × (p.bytes ≡ path) × (b ≡ FileMissing p) → IsSameTransformation a b
same_missing a b path h g = subst₂ IsSameTransformation (sym h.2) (sym g.2) (h.1 ∙ sym g.1)

-- the words are at fault, or they ask for something
asked : (words : Words) (s : SeenSource) (o : MogrifyOutcome) → ComesTo words s o → ((place : ℕ) × (why : Why) × IsWordFault words place why × (o ≡ Usage place why)) ⊎ ((r : List ℕ) × (m : List ℕ) × AsksToTransform words r m)
asked words s o (usage place why u) = inl (place, why, u, refl)
asked words s o (no_rules r m p a at none) = inr (r, m, a)
asked words s o (no_manifest r m p a some at none) = inr (r, m, a)
asked words s o (large_rules r m count a some over) = inr (r, m, a)
asked words s o (large_manifest r m text count a stands over) = inr (r, m, a)
asked words s o (refused text bytes why a h) = inr (a.0, a.1, a.2)
asked words s o (written text bytes made a h) = inr (a.0, a.1, a.2)

module _ (once : RulesOnce) (bad_once : BadRuleOnce) (either : RulesOrBad) where
  judged_once : (text bytes : List ℕ) (a b : MogrifyOutcome) → Judged text bytes a → Judged text bytes b → IsSameTransformation a b
  judged_once text bytes a b (inl h) (inl g) = same_as a b (outcome_of g.0) (h.2 ∙ ap outcome_of (refusal_once once bad_once either text bytes h.0 g.0 h.1 g.1)) g.2
  judged_once text bytes a b (inl h) (inr g) = absurd (refused_or_made once bad_once either text bytes h.0 g.1.0 h.1 g.1.1)
  judged_once text bytes a b (inr h) (inl g) = absurd (refused_or_made once bad_once either text bytes g.0 h.1.0 g.1 h.1.1)
  judged_once text bytes a b (inr h) (inr g) = same_as a b Written h.2 g.2

  on_once : (f g : File) (r m : List ℕ) (a b : MogrifyOutcome) → On f g r m a → On f g r m b → IsSameTransformation a b
  on_once None g r m a b h k = same_missing a b r h k
  on_once (Some text) None r m a b h k = same_missing a b m h k
  on_once (Some text) (Some bytes) r m a b h k = go (is_large text) (is_large bytes) h k
    where
      go : (x y : Bool) → Sized x y text bytes a → Sized x y text bytes b → IsSameTransformation a b
      go true y h k = same_as a b (TooLarge ManifestBytes (length text)) h k
      go false true h k = same_as a b (TooLarge ManifestBytes (length bytes)) h k
      go false false h k = judged_once text bytes a b h k

  pub outcome_once : (words : Words) (s : SeenSource) (a b : MogrifyOutcome) → IsTrue s.tells → ComesTo words s a → ComesTo words s b → IsSameTransformation a b
  outcome_once words s a b told ca cb = go (asked words s a ca) (asked words s b cb)
    where
      go : ((place : ℕ) × (why : Why) × IsWordFault words place why × (a ≡ Usage place why)) ⊎ ((r : List ℕ) × (m : List ℕ) × AsksToTransform words r m)
          → ((place : ℕ) × (why : Why) × IsWordFault words place why × (b ≡ Usage place why)) ⊎ ((r : List ℕ) × (m : List ℕ) × AsksToTransform words r m) → IsSameTransformation a b
      go (inl u) (inl v) = same_as a b (Usage v.0 v.1) (u.3 ∙ fault_once words u.0 v.0 u.1 v.1 u.2 v.2) v.3
      go (inl u) (inr v) = absurd (u.2.none v.0 v.1 v.2)
      go (inr u) (inl v) = absurd (v.2.none u.0 u.1 u.2)
      go (inr u) (inr v) = on_once (file_at s.held u.0) (file_at s.held u.1) u.0 u.1 a b (on words s told u.0 u.1 u.2 a ca) (on words s told u.0 u.1 u.2 b cb)

  pub due_once : (words : Words) (s : SeenSource) (a b : List ℕ) → IsTrue s.tells → IsManifestDue words s a → IsManifestDue words s b → a ≡ b
  due_once words s a b told h k =
      let e = asks_once words h.2.0 h.2.1 k.2.0 k.2.1 h.2.2 k.2.2 in
      let text : h.0 ≡ k.0 = same_some h.0 k.0 (sym (h.2.3.0 told) ∙ ap (file_at s.held) e.0 ∙ k.2.3.0 told) in
      let bytes : h.1 ≡ k.1 = same_some h.1 k.1 (sym (h.2.4.0 told) ∙ ap (file_at s.held) e.1 ∙ k.2.4.0 told) in
      made_once once bad_once either k.0 k.1 a b (subst₂ (λ (t b : List ℕ). Makes t b a) text bytes h.3) k.3
    where
      same_some : (x y : List ℕ) → (let o : File = Some x in o) ≡ Some y → x ≡ y
      same_some x y e = cc
