-- What a request asks, as it is put together in memory.
use Rattle.std.proofs.Common.{◌≡◌, ℕ, ◌+◌, ◌<◌, List, [], ◌∷◌, ◌++◌, map, flat_map, take, length, get_or, Vec, Global, Option, refl, sym, ap, subst, ◌∙◌, inl, inr, arith}
use Rattle.std.proofs.lemmas.List.{map_push}
use Rattle.ips_fmri.specs.Version.{Parts}
use Rattle.ips_fmri.specs.declared.pattern.Pattern.{Pattern}
use Rattle.ips_catalog.specs.Listed.{Listed}
use Rattle.ips_manifest.specs.declared.package.Package.{Package}
use Rattle.ips_repo.specs.Opening.{Opened}
use Rattle.ips_state.specs.State.{Ascend, Installed, installed, recorded}
use Rattle.ips_state.specs.declared.state.State.{State}
use Rattle.ips_request.specs.declared.asking.Naming as declared
use Rattle.ips_request.specs.declared.asking.Subject.{Subject}
use Rattle.ips_request.specs.declared.fault.ProblemFault.{ProblemFault}
use Rattle.ips_request.specs.declared.fault.ProblemFault.TheVariants as fault
use Rattle.ips_request.specs.declared.request.Request.{Request}
use Rattle.ips_request.specs.Request.{IsSubjectOf, kind_of, matched_against, patterns_of, rejects_of}
use Rattle.ips_request.specs.Candidates.{is_target_of}
use Rattle.ips_request.specs.Case.{Case, Naming, is_installed, is_named}
use Rattle.ips_request.specs.Named.{AreKnown, AreNamed, IsFirstUnnamed, IsUnnamed, Names, with_limits}
use Rattle.ips_request.specs.Stems.{stems_of, firsts}
use Rattle.ips_request.specs.Subject.{catalog_of, repo_of, seen_naming}
use Rattle.ips_request.proofs.Lookups.{firsts_once}
use Rattle.ips_request.proofs.Named.{named_more}
use Rattle.ips_request.proofs.StemLists.{AreDistinct, distinct_firsts}
use Rattle.ips_text.proofs.Lists.{take_item}

-- no two of stems that ascend are the same
pub ascending_distinct : (xs : List (List ℕ)) → Ascend xs → AreDistinct xs
ascending_distinct xs s = subst AreDistinct (firsts_once xs s) (distinct_firsts xs)

-- the stems of packages
pub package_stems : (ps : List Package) → map (λ (p : Package). p.stem) ps ≡ map (λ (p : Installed). p.stem) (map installed ps)
package_stems [] = refl
package_stems (p ∷ ps) = ap (λ l. p.stem ∷ l) (package_stems ps)

-- ---- patterns

limited_more : (publisher : List ℕ) (known : List (List ℕ)) (ps : List Pattern) (named : List (List (List ℕ))) (p : Pattern) (stems : List (List ℕ)) → AreNamed publisher known ps named
    → with_limits (ps ++ p ∷ []) (named ++ stems ∷ []) ≡ with_limits ps named ++ record { stems = stems; limit = p.version } ∷ []
limited_more publisher known [] [] p stems all = refl
limited_more publisher known [] (n ∷ named) p stems all = absurd cc
limited_more publisher known (q ∷ ps) [] p stems all = absurd all
limited_more publisher known (q ∷ ps) (n ∷ named) p stems all = ap (λ (l : List Naming). record { stems = n; limit = q.version } ∷ l) (limited_more publisher known ps named p stems all.1)

-- What the patterns up to one name, at the versions that they admit.
pub record AreNamedTo (publisher : List ℕ) (known : List (List ℕ)) (ps : List Pattern) (i : ℕ) (ns : List declared.Naming) : Type 0 where
  pub named : AreNamed publisher known (take i ps) (map (λ (n : declared.Naming). n.stems.items) ns)
  pub limits : map seen_naming ns ≡ with_limits (take i ps) (map (λ (n : declared.Naming). n.stems.items) ns)

pub namings_more : (publisher : List ℕ) (known : List (List ℕ)) (ps : List Pattern) (old new : List declared.Naming) (i : ℕ) (p : Pattern) (n : declared.Naming) (stems : Vec (List ℕ) Global) → i < length ps → p ≡ get_or ps i p
    → AreNamedTo publisher known ps i old → Names publisher known p stems.items → n.stems ≡ stems → n.limit ≡ p.version → new ≡ old ++ n ∷ [] → AreNamedTo publisher known ps (i + 1) new
namings_more publisher known ps old new i p n stems l at done is same limit added =
    let f : declared.Naming → List (List ℕ) = λ n. n.stems.items in
    let here : f n ≡ stems.items = ap (λ v. v.items) same in
    let mapped = ap (map f) added ∙ map_push f old n in
    let one = map_push seen_naming old n in
    let long = ap (λ (qs : List Pattern). with_limits qs (map f old ++ f n ∷ [])) (take_item ps i p l at) ∙ limited_more publisher known (take i ps) (map f old) p (f n) done.named in
    record {
      named = subst (AreNamed publisher known (take (i + 1) ps)) (sym mapped) (named_more publisher known ps (map f old) i p (f n) l at done.named (subst (Names publisher known p) (sym here) is));
      limits = ap (map seen_naming) added ∙ one ∙ ap (λ ls. ls ++ seen_naming n ∷ []) done.limits ∙ ap (λ (v : Option Parts). with_limits (take i ps) (map f old) ++ record { stems = f n; limit = v } ∷ []) limit
          ∙ sym (ap (with_limits (take (i + 1) ps)) mapped ∙ long);
    }

-- the first pattern that names none is no failed call
pub unnamed_other : (publisher : List ℕ) (known : List (List ℕ)) (ps : List Pattern) (why : ProblemFault) → IsFirstUnnamed publisher known ps why → why ≡ fault.SourceFault → ⊥
unnamed_other publisher known [] why h e = h
unnamed_other publisher known (p ∷ ps) why (inl (matched, are, un)) e = subst (IsUnnamed p matched) e un
unnamed_other publisher known (p ∷ ps) why (inr (names, rest)) e = unnamed_other publisher known ps why rest e

-- ---- the same of what is the same

pub known_as : (catalog others : List Listed) (packages ps : List Installed) (known : List (List ℕ)) → catalog ≡ others → packages ≡ ps → AreKnown catalog packages known → AreKnown others ps known
known_as catalog others packages ps known e f h = subst (λ c. AreKnown c ps known) e (subst (λ q. AreKnown catalog q known) f h)

pub named_as : (publisher other : List ℕ) (known ks : List (List ℕ)) (patterns ps : List Pattern) (named : List (List (List ℕ))) → publisher ≡ other → known ≡ ks → patterns ≡ ps
    → AreNamed publisher known patterns named → AreNamed other ks ps named
named_as publisher other known ks patterns ps named e f g h = subst (λ o. AreNamed o ks ps named) e (subst (λ k. AreNamed publisher k ps named) f (subst (λ q. AreNamed publisher known q named) g h))

pub unnamed_as : (publisher other : List ℕ) (known ks : List (List ℕ)) (patterns ps : List Pattern) (why : ProblemFault) → publisher ≡ other → known ≡ ks → patterns ≡ ps
    → IsFirstUnnamed publisher known patterns why → IsFirstUnnamed other ks ps why
unnamed_as publisher other known ks patterns ps why e f g h = subst (λ o. IsFirstUnnamed o ks ps why) e (subst (λ k. IsFirstUnnamed publisher k ps why) f (subst (λ q. IsFirstUnnamed publisher known q why) g h))

-- ---- of which stems an update is

pub target_installed : (ns : List declared.Naming) (c : Case) (stem : List ℕ) → length ns ≡ 0 → is_target_of (map seen_naming ns) c stem ≡ is_installed c stem
target_installed [] c stem e = refl
target_installed (n ∷ ns) c stem e = absurd (omega arith)

pub target_named : (ns : List declared.Naming) (c : Case) (stem : List ℕ) → (length ns ≡ 0 → ⊥) → is_target_of (map seen_naming ns) c stem ≡ is_named c stem
target_named [] c stem e = absurd (e refl)
target_named (n ∷ ns) c stem e = refl

-- ---- the whole

-- What a subject is made of.
pub record IsMade (q : Request) (s : State) (repo : Option Opened) (named : List declared.Naming) (rejects : List (List (List ℕ))) (subject : Subject) : Type 0 where
  pub kind : subject.kind ≡ kind_of q
  pub names : subject.named.items ≡ named
  pub rejected : stems_of subject.rejected.keys ≡ firsts (flat_map (λ (stems : List (List ℕ)). stems) rejects)
  pub state : subject.state.now ≡ s
  pub offered : repo_of subject ≡ repo

pub subject_made : (q : Request) (s : State) (repo : Option Opened) (known all : List (List ℕ)) (named : List declared.Naming) (rejects : List (List (List ℕ))) (subject : Subject)
    → AreKnown (matched_against (kind_of q) (catalog_of repo)) (map installed s.installed.items) known → AreKnown (catalog_of repo) (map installed s.installed.items) all
    → AreNamed s.publisher known (patterns_of q) (map (λ (n : declared.Naming). n.stems.items) named) → map seen_naming named ≡ with_limits (patterns_of q) (map (λ (n : declared.Naming). n.stems.items) named)
    → AreNamed s.publisher all (rejects_of q) rejects → IsMade q s repo named rejects subject → IsSubjectOf q (recorded s) repo subject
subject_made q s repo known all named rejects subject of_known of_all is_named limits is_rejected made = record {
  named = map (λ (n : declared.Naming). n.stems.items) named;
  rejects = rejects;
  names = record { known = known; all = all; are_known = of_known; are_all = of_all; named_so = is_named; rejected_so = is_rejected };
  offered = made.offered;
  settings = ap (λ t. t.settings) made.state;
  same = λ file r.
      let names = ap (map seen_naming) made.names ∙ limits in
      (λ i. record {
        kind = made.kind i;
        named = names i;
        rejected = made.rejected i;
        catalog = catalog_of (made.offered i);
        installed = map installed (made.state i).installed.items;
        avoid = (made.state i).avoid.items;
        freeze = (made.state i).freeze.items;
        file = file;
        reading = r;
      });
}
