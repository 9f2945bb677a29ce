-- What patterns name is one, and so is the first of them that names nothing; and where each names something there is none.
use Rattle.std.proofs.Common.{◌≡◌, ◌⊎◌, ℕ, List, [], ◌∷◌, length, Some, sym, ap, subst, ◌∙◌, inl, inr, arith}
use Rattle.std.proofs.lemmas.Option.{none-some, same_Some}
use Rattle.ips_fmri.specs.declared.pattern.Pattern.{Pattern}
use Rattle.ips_catalog.specs.Listed.{Listed}
use Rattle.ips_state.specs.State.{Installed, Recorded}
use Rattle.ips_request.specs.declared.request.Request.{Request}
use Rattle.ips_request.specs.declared.fault.ProblemFault.{ProblemFault}
use Rattle.ips_request.specs.declared.fault.ProblemFault.TheVariants as fault
use Rattle.ips_request.specs.Named.{AreKnown, AreMatched, AreNamed, IsFirstUnnamed, IsUnnamed, Names, named_among}
use Rattle.ips_request.specs.Request.{AreNames, IsPatternFault, kind_of, matched_against, patterns_of, rejects_of}
use Rattle.ips_asked.proofs.One.{one_stems}
use Rattle.ips_next.specs.Decided.{unposed}
use Rattle.ips_next.proofs.OneDecided.{all_named, one_known, one_matched}
use Rattle.ips_laws.specs.next_laws.Causes.{IsSameCause}

-- ---- one pattern

unnamed_once : (p : Pattern) (matched : List (List ℕ)) (why other : ProblemFault) → IsUnnamed p matched why → IsUnnamed p matched other → IsSameCause (unposed why) (unposed other)
unnamed_once p matched (fault.NoMatch pattern) (fault.NoMatch pattern') h k = h.1 ∙ sym k.1
unnamed_once p matched (fault.NoMatch pattern) (fault.Ambiguous pattern' stems') h k = absurd (let none = ap (λ (ss : List (List ℕ)). length ss) h.0 in let several = k.0 in omega arith)
unnamed_once p matched (fault.Ambiguous pattern stems) (fault.NoMatch pattern') h k = absurd (let none = ap (λ (ss : List (List ℕ)). length ss) k.0 in let several = h.0 in omega arith)
unnamed_once p matched (fault.Ambiguous pattern stems) (fault.Ambiguous pattern' stems') h k = (h.2 ∙ sym k.2, h.3 ∙ sym k.3)
unnamed_once p matched (fault.NoMatch pattern) other h k = absurd k
unnamed_once p matched (fault.Ambiguous pattern stems) other h k = absurd k
unnamed_once p matched why other h k = absurd h

unnamed_or_names : (p : Pattern) (matched named : List (List ℕ)) (why : ProblemFault) → IsUnnamed p matched why → named_among p matched ≡ Some named → ⊥
unnamed_or_names p matched named (fault.NoMatch pattern) h is = none-some named (ap (named_among p) (sym h.0) ∙ is)
unnamed_or_names p matched named (fault.Ambiguous pattern stems) h is = none-some named (sym h.1 ∙ is)
unnamed_or_names p matched named why h is = absurd h

-- a pattern that names none
abbrev NamesNone : List ℕ → List (List ℕ) → Pattern → ProblemFault → Type 0
NamesNone publisher known p why = (matched : List (List ℕ)) × AreMatched publisher p known matched × IsUnnamed p matched why

none_or_names : (publisher : List ℕ) (known : List (List ℕ)) (p : Pattern) (why : ProblemFault) (named : List (List ℕ)) → NamesNone publisher known p why → Names publisher known p named → ⊥
none_or_names publisher known p why named h g =
    let same = one_matched publisher p known h.0 g.0 h.1 g.1 in
    unnamed_or_names p g.0 named why (subst (λ (m : List (List ℕ)). IsUnnamed p m why) same h.2) g.2

none_once : (publisher : List ℕ) (known : List (List ℕ)) (p : Pattern) (why other : ProblemFault) → NamesNone publisher known p why → NamesNone publisher known p other → IsSameCause (unposed why) (unposed other)
none_once publisher known p why other h g =
    let same = one_matched publisher p known h.0 g.0 h.1 g.1 in
    unnamed_once p g.0 why other (subst (λ (m : List (List ℕ)). IsUnnamed p m why) same h.2) g.2

-- ---- all of them

first_once : (publisher : List ℕ) (known : List (List ℕ)) (ps : List Pattern) (why other : ProblemFault) → IsFirstUnnamed publisher known ps why → IsFirstUnnamed publisher known ps other → IsSameCause (unposed why) (unposed other)
first_once publisher known [] why other h g = absurd h
first_once publisher known (p ∷ ps) why other (inl h) (inl g) = none_once publisher known p why other h g
first_once publisher known (p ∷ ps) why other (inl h) (inr g) = absurd (none_or_names publisher known p why g.0.0 h g.0.1)
first_once publisher known (p ∷ ps) why other (inr h) (inl g) = absurd (none_or_names publisher known p other h.0.0 g h.0.1)
first_once publisher known (p ∷ ps) why other (inr h) (inr g) = first_once publisher known ps why other h.1 g.1

first_or_named : (publisher : List ℕ) (known : List (List ℕ)) (ps : List Pattern) (why : ProblemFault) (named : List (List (List ℕ))) → IsFirstUnnamed publisher known ps why → AreNamed publisher known ps named → ⊥
first_or_named publisher known [] why named h g = h
first_or_named publisher known (p ∷ ps) why [] h g = g
first_or_named publisher known (p ∷ ps) why (x ∷ named) (inl h) g = none_or_names publisher known p why x h g.0
first_or_named publisher known (p ∷ ps) why (x ∷ named) (inr h) g = first_or_named publisher known ps why named h.1 g.1

-- ---- a request's

module _ (q : Request) (s : Recorded) (catalog : List Listed) where
  pub naming_once : (a b x y : List (List (List ℕ))) → AreNames q s catalog a x → AreNames q s catalog b y → (a ≡ b) × (x ≡ y)
  naming_once a b x y h g =
      let known = one_known (matched_against (kind_of q) catalog) s.installed h.known g.known h.are_known g.are_known in
      let all = one_known catalog s.installed h.all g.all h.are_all g.are_all in (
        all_named s.publisher g.known (patterns_of q) a b (subst (λ k. AreNamed s.publisher k (patterns_of q) a) known h.named_so) g.named_so,
        all_named s.publisher g.all (rejects_of q) x y (subst (λ k. AreNamed s.publisher k (rejects_of q) x) all h.rejected_so) g.rejected_so,
      )

  -- where a pattern is at fault, by the known stems and all of them
  abbrev Unnamed : List (List ℕ) → List (List ℕ) → ProblemFault → Type 0
  Unnamed known all why =
      IsFirstUnnamed s.publisher known (patterns_of q) why
      ⊎ (((named : List (List (List ℕ))) × AreNamed s.publisher known (patterns_of q) named) × IsFirstUnnamed s.publisher all (rejects_of q) why)

  moved : (known all known' all' : List (List ℕ)) (why : ProblemFault) → known ≡ known' → all ≡ all' → Unnamed known all why → Unnamed known' all' why
  moved known all known' all' why e f h = subst (λ (k : List (List ℕ)). Unnamed k all' why) e (subst (λ (k : List (List ℕ)). Unnamed known k why) f h)

  pub pattern_fault_once : (why other : ProblemFault) → IsPatternFault q s catalog why → IsPatternFault q s catalog other → IsSameCause (unposed why) (unposed other)
  pattern_fault_once why other h g =
      let known = one_known (matched_against (kind_of q) catalog) s.installed h.known g.known h.are_known g.are_known in
      let all = one_known catalog s.installed h.all g.all h.are_all g.are_all in
      go (moved h.known h.all g.known g.all why known all h.first) g.first
    where
      go : Unnamed g.known g.all why → Unnamed g.known g.all other → IsSameCause (unposed why) (unposed other)
      go (inl a) (inl b) = first_once s.publisher g.known (patterns_of q) why other a b
      go (inl a) (inr b) = absurd (first_or_named s.publisher g.known (patterns_of q) why b.0.0 a b.0.1)
      go (inr a) (inl b) = absurd (first_or_named s.publisher g.known (patterns_of q) other a.0.0 b a.0.1)
      go (inr a) (inr b) = first_once s.publisher g.all (rejects_of q) why other a.1 b.1

  pub pattern_fault_or_names : (why : ProblemFault) (named rejects : List (List (List ℕ))) → IsPatternFault q s catalog why → AreNames q s catalog named rejects → ⊥
  pattern_fault_or_names why named rejects h g =
      let known = one_known (matched_against (kind_of q) catalog) s.installed h.known g.known h.are_known g.are_known in
      let all = one_known catalog s.installed h.all g.all h.are_all g.are_all in
      go (moved h.known h.all g.known g.all why known all h.first)
    where
      go : Unnamed g.known g.all why → ⊥
      go (inl a) = first_or_named s.publisher g.known (patterns_of q) why named a g.named_so
      go (inr a) = first_or_named s.publisher g.all (rejects_of q) why rejects a.1 g.rejected_so
