-- Which stems are avoided plays no part in which manifests are needed, nor in their faults.
use Rattle.std.proofs.Common.{◌≡◌, ℕ, ◌<◌, ◌≤◌, true, ◌&&◌, List, [], ◌∷◌, ◌++◌, filter, flat_map, take, length, Option, Some, None, is_some, refl, sym, ap, subst, ◌∙◌}
use Rattle.std.specs.List.{AllByRecursion}
use Rattle.ips_fmri.specs.Version.{Parts}
use Rattle.ips_filter.specs.Settings.{Set}
use Rattle.ips_state.specs.State.{Installed}
use Rattle.ips_repo.specs.Manifest.{manifest_limit}
use Rattle.ips_request.specs.declared.fault.ProblemFault.{ProblemFault}
use Rattle.ips_request.specs.declared.kind.Kind.{Kind}
use Rattle.ips_request.specs.declared.kind.Kind.TheVariants as kind
use Rattle.ips_request.specs.Case.{Case, Facts, Naming, installed_version, is_installed, is_named, manifest_facts, own, said_of}
use Rattle.ips_request.specs.Candidates.{candidates, candidates_in, is_target_of, is_version, may_come, newest, role_by, says_obsolete}
use Rattle.ips_request.specs.Manifests.{IsManifestFault, Needed, all_manifests_limit, bytes_read, is_needed, needed}
use Rattle.ips_request.specs.Stems.{firsts, has}
use Rattle.ips_problem.specs.Fault.{AreRead, IsFirstFault, all_bytes, manifests_at, manifests_of}
use Rattle.ips_problem.specs.Reach.{dependencies_of, dependencies_said, drawn_in, grown, seeds, stems_wanted}

module _ (c : Case) (avoid : List (List ℕ)) where
  -- the case with other avoided stems
  abbrev other : Case
  other = record c { avoid = avoid }

  -- ---- what is said

  said_alike : (o : Option Installed) (stem : List ℕ) (v : Parts) → said_of other o stem v ≡ said_of c o stem v
  said_alike None stem v = refl
  said_alike (Some p) stem v = refl

  facts_alike : manifest_facts other ≡ manifest_facts c
  facts_alike = λ i stem v. said_alike (own c stem v) stem v i

  asks_alike : (stem : List ℕ) (o : Option Parts) → dependencies_of other stem o ≡ dependencies_of c stem o
  asks_alike stem None = refl
  asks_alike stem (Some v) = ap dependencies_said (said_alike (own c stem v) stem v)

  -- ---- what is needed

  test_alike : (k : Kind) (stem : List ℕ) (v : Parts) → is_needed k other stem v ≡ is_needed k c stem v
  test_alike kind.Install stem v = refl
  test_alike kind.Update stem v = refl
  test_alike kind.Uninstall stem v = refl
  test_alike kind.Keep stem v = refl

  needed_alike : needed other ≡ needed c
  needed_alike = λ i stem. filter (λ v. test_alike c.kind stem v i) (newest c stem)

  needs_alike : manifests_of other ≡ manifests_of c
  needs_alike = λ i stems. flat_map (λ stem. manifests_at stem (needed_alike i stem)) stems

  -- ---- what is drawn in

  target_alike : (ns : List Naming) (stem : List ℕ) → is_target_of ns other stem ≡ is_target_of ns c stem
  target_alike [] stem = refl
  target_alike (n ∷ ns) stem = refl

  candidates_alike : candidates other ≡ candidates c
  candidates_alike =
      λ i stem. candidates_in (role_by c.kind (is_named c stem) (has stem c.rejected) (target_alike c.named stem i) (is_installed c stem)) c.kind (λ v. says_obsolete (facts_alike i stem v)) (is_version (installed_version c stem)) (filter (λ v. may_come c stem v && is_some (facts_alike i stem v)) (newest c stem))

  drawn_alike : drawn_in other ≡ drawn_in c
  drawn_alike = λ i stem. flat_map (λ o. stems_wanted (asks_alike stem o i)) (candidates_alike i stem)

  grown_alike : (reach : List (List ℕ)) (k : ℕ) → grown other reach k ≡ grown c reach k
  grown_alike reach k = λ i. firsts (seeds c ++ flat_map (drawn_alike i) (take k reach))

  -- ---- the first fault

  read_alike : (ns more : List Needed) → ns ≡ more → AreRead other ns → AreRead c more
  read_alike ns more e read = record {
    said = subst (λ (l : List Needed). AllByRecursion (λ (n : Needed). is_some (manifest_facts c n.stem n.version) ≡ true) l) e
        (subst (λ (f : List ℕ → Parts → Option Facts). AllByRecursion (λ (n : Needed). is_some (f n.stem n.version) ≡ true) ns) facts_alike read.said);
    each = subst (λ (l : List Needed). AllByRecursion (λ (n : Needed). bytes_read c n ≤ manifest_limit) l) e read.each;
    all = subst (λ (l : List Needed). all_bytes c l ≤ all_manifests_limit) e read.all;
  }

  pub first_fault_alike : (settings : Set) (why : ProblemFault) → IsFirstFault settings other why → IsFirstFault settings c why
  first_fault_alike settings why f =
      let before : manifests_of other (take f.turn f.reach) ++ manifests_at f.stem f.before ≡ manifests_of c (take f.turn f.reach) ++ manifests_at f.stem f.before =
      λ i. needs_alike i (take f.turn f.reach) ++ manifests_at f.stem f.before
      in
      record {
        reach = f.reach;
        turn = f.turn;
        stem = f.stem;
        before = f.before;
        version = f.version;
        behind = f.behind;
        grows = f.grows ∙ grown_alike f.reach f.turn;
        on_list = λ k l. subst (λ (ss : List (List ℕ)). k < length ss) (grown_alike f.reach k) (f.on_list k l);
        at_turn = f.at_turn;
        next = sym (λ i. needed_alike i f.stem) ∙ f.next;
        read = read_alike (manifests_of other (take f.turn f.reach) ++ manifests_at f.stem f.before) (manifests_of c (take f.turn f.reach) ++ manifests_at f.stem f.before) before f.read;
        fault = subst (λ (n : ℕ). IsManifestFault settings c n (record { stem = f.stem; version = f.version }) why) (ap (all_bytes c) before) f.fault;
      }
