-- Why a request poses no puzzle is one, and where it poses one there is no such cause.
use Rattle.std.proofs.Common.{◌≡◌, ◌⊎◌, ℕ, List, flat_map, Option, sym, ap, subst, ◌∙◌, inl, inr}
use Rattle.ips_fmri.specs.Version.{Parts}
use Rattle.ips_fmri.specs.declared.pattern.Pattern.{Pattern}
use Rattle.ips_outside.specs.Image.{Image}
use Rattle.ips_catalog.specs.Listed.{Listed}
use Rattle.ips_repo.specs.Opening.{Opened}
use Rattle.ips_state.specs.State.{Recorded}
use Rattle.ips_request.specs.declared.kind.Kind.{Kind}
use Rattle.ips_request.specs.declared.request.Request.{Request}
use Rattle.ips_request.specs.declared.fault.ProblemFault.{ProblemFault}
use Rattle.ips_request.specs.Case.{Case, ManifestReading}
use Rattle.ips_request.specs.Named.{AreKnown, AreNamed, IsFirstUnnamed, with_limits}
use Rattle.ips_request.specs.Request.{AreNames, asked_case, kind_of, matched_against, patterns_of, rejects_of}
use Rattle.ips_request.specs.Stems.{firsts}
use Rattle.ips_request.specs.Subject.{catalog_of, files_of}
use Rattle.ips_request.proofs.Grammar.{some_reading}
use Rattle.ips_problem.specs.Asked.{IsAsked, IsProblemFault}
use Rattle.ips_problem.specs.Fault.{IsFirstFault}
use Rattle.ips_problem.specs.Gathered.{IsPosedBy}
use Rattle.ips_problem.specs.Posed.{Posed, posed}
use Rattle.ips_problem.proofs.OneReach.{one_reach}
use Rattle.ips_next.specs.Decided.{unposed}
use Rattle.ips_laws.specs.next_laws.Causes.{IsSameCause}
use Rattle.ips_laws.proofs.next_laws.Avoided.{first_fault_alike}
use Rattle.ips_laws.proofs.next_laws.Fetched.{IsTold}
use Rattle.ips_laws.proofs.next_laws.Needs.{first_fault_once, not_posed}
use Rattle.ips_laws.proofs.next_laws.Patterns.{naming_once, pattern_fault_once, pattern_fault_or_names}
use Rattle.ips_laws.proofs.next_laws.Same.{same_cause}

-- ---- requests that ask for the same

module _ (q p : Request) (kinds : kind_of q ≡ kind_of p) (patterns : patterns_of q ≡ patterns_of p) (rejected : rejects_of q ≡ rejects_of p) (s : Recorded) where
  names_moved : (catalog : List Listed) (named rejects : List (List (List ℕ))) → AreNames q s catalog named rejects → AreNames p s catalog named rejects
  names_moved catalog named rejects h = record {
    known = h.known;
    all = h.all;
    are_known = subst (λ (k : Kind). AreKnown (matched_against k catalog) s.installed h.known) kinds h.are_known;
    are_all = h.are_all;
    named_so = subst (λ (ps : List Pattern). AreNamed s.publisher h.known ps named) patterns h.named_so;
    rejected_so = subst (λ (ps : List Pattern). AreNamed s.publisher h.all ps rejects) rejected h.rejected_so;
  }

  case_moved : (catalog : List Listed) (file : List ℕ → Parts → Option (List ℕ)) (named rejects : List (List (List ℕ))) (r : ManifestReading) → asked_case q s catalog file named rejects r ≡ asked_case p s catalog file named rejects r
  case_moved catalog file named rejects r = λ i. record {
    kind = kinds i;
    named = with_limits (patterns i) named;
    rejected = firsts (flat_map (λ (stems : List (List ℕ)). stems) rejects);
    catalog = catalog;
    installed = s.installed;
    avoid = s.avoid;
    freeze = s.freeze;
    file = file;
    reading = r;
  }

  -- where a pattern is at fault
  abbrev Unnamed : List (List ℕ) → List (List ℕ) → ProblemFault → List Pattern → List Pattern → Type 0
  Unnamed known all why ps rs = IsFirstUnnamed s.publisher known ps why ⊎ (((named : List (List (List ℕ))) × AreNamed s.publisher known ps named) × IsFirstUnnamed s.publisher all rs why)

  -- have one fault
  pub fault_moved : (repository : Option Opened) (held : Image) (why : ProblemFault) → IsProblemFault q s repository held why → IsProblemFault p s repository held why
  fault_moved repository held why (inl h) = inl (record {
    known = h.known;
    all = h.all;
    are_known = subst (λ (k : Kind). AreKnown (matched_against k (catalog_of repository)) s.installed h.known) kinds h.are_known;
    are_all = h.are_all;
    first = subst (Unnamed h.known h.all why (patterns_of p)) rejected (subst (λ (ps : List Pattern). Unnamed h.known h.all why ps (rejects_of q)) patterns h.first);
  })
  fault_moved repository held why (inr h) = inr (record {
    named = h.named;
    rejects = h.rejects;
    names = names_moved (catalog_of repository) h.named h.rejects h.names;
    first = λ r is. subst (λ (c : Case). IsFirstFault s.settings c why) (case_moved (catalog_of repository) (files_of repository held) h.named h.rejects r) (h.first r is);
  })

  -- and pose one puzzle
  pub asked_moved : (repository : Option Opened) (held : Image) (x : Posed) → IsAsked q s repository held x → IsAsked p s repository held x
  asked_moved repository held x h = record {
    named = h.named;
    rejects = h.rejects;
    names = names_moved (catalog_of repository) h.named h.rejects h.names;
    poses = λ r is. subst (λ (c : Case). IsPosedBy c x) (case_moved (catalog_of repository) (files_of repository held) h.named h.rejects r) (h.poses r is);
  }

-- ---- one request

module _ (q : Request) (s : Recorded) (repository : Option Opened) (held : Image) where
  -- what the patterns name makes one case
  one_case : (a b x y : List (List (List ℕ))) (r : ManifestReading) → AreNames q s (catalog_of repository) a x → AreNames q s (catalog_of repository) b y
      → asked_case q s (catalog_of repository) (files_of repository held) a x r ≡ asked_case q s (catalog_of repository) (files_of repository held) b y r
  one_case a b x y r h g =
      let names = naming_once q s (catalog_of repository) a b x y h g in
      λ i. asked_case q s (catalog_of repository) (files_of repository held) (names.0 i) (names.1 i) r

  pub problem_once : (why other : ProblemFault) → IsTold why → IsTold other → IsProblemFault q s repository held why → IsProblemFault q s repository held other → IsSameCause (unposed why) (unposed other)
  problem_once why other t u (inl a) (inl b) = pattern_fault_once q s (catalog_of repository) why other a b
  problem_once why other t u (inl a) (inr b) = absurd (pattern_fault_or_names q s (catalog_of repository) why b.named b.rejects a b.names)
  problem_once why other t u (inr a) (inl b) = absurd (pattern_fault_or_names q s (catalog_of repository) other a.named a.rejects b a.names)
  problem_once why other t u (inr a) (inr b) =
      let (r, reading) = some_reading s.settings in
      let c = asked_case q s (catalog_of repository) (files_of repository held) b.named b.rejects r in
      let here = subst (λ (c : Case). IsFirstFault s.settings c why) (one_case a.named b.named a.rejects b.rejects r a.names b.names) (a.first r reading) in
      same_cause (unposed why) (unposed other) (ap unposed (first_fault_once s.settings c reading why other t u here (b.first r reading)))

  pub problem_or_asked : (why : ProblemFault) (x : Posed) → IsTold why → IsProblemFault q s repository held why → IsAsked q s repository held x → ⊥
  problem_or_asked why x t (inl a) h = pattern_fault_or_names q s (catalog_of repository) why h.named h.rejects a h.names
  problem_or_asked why x t (inr a) h =
      let (r, reading) = some_reading s.settings in
      let c = asked_case q s (catalog_of repository) (files_of repository held) h.named h.rejects r in
      let here = subst (λ (c : Case). IsFirstFault s.settings c why) (one_case a.named h.named a.rejects h.rejects r a.names h.names) (a.first r reading) in
      not_posed s.settings c reading why t here x (h.poses r reading)

  pub asked_once : (x y : Posed) → IsAsked q s repository held x → IsAsked q s repository held y → x ≡ y
  asked_once x y h g =
      let (r, reading) = some_reading s.settings in
      let c = asked_case q s (catalog_of repository) (files_of repository held) g.named g.rejects r in
      let first = subst (λ (c : Case). IsPosedBy c x) (one_case h.named g.named h.rejects g.rejects r h.names g.names) (h.poses r reading) in
      let second = g.poses r reading in
      first.same ∙ ap (posed c) (one_reach c x.stems y.stems first.reach second.reach) ∙ sym second.same

-- ---- avoided stems

-- which stems are avoided plays no part in why no puzzle is posed
pub fault_over : (q : Request) (s : Recorded) (avoid : List (List ℕ)) (repository : Option Opened) (held : Image) (why : ProblemFault) → IsProblemFault q (record s { avoid = avoid }) repository held why → IsProblemFault q s repository held why
fault_over q s avoid repository held why (inl h) = inl (record { known = h.known; all = h.all; are_known = h.are_known; are_all = h.are_all; first = h.first })
fault_over q s avoid repository held why (inr h) = inr (record {
  named = h.named;
  rejects = h.rejects;
  names = record { known = h.names.known; all = h.names.all; are_known = h.names.are_known; are_all = h.names.are_all; named_so = h.names.named_so; rejected_so = h.names.rejected_so };
  first = λ r is. first_fault_alike (asked_case q s (catalog_of repository) (files_of repository held) h.named h.rejects r) avoid s.settings why (h.first r is);
})
