-- From a puzzle's answer to the best selection.
use Rattle.std.proofs.Common.{◌≡◌, ℕ, List, [], ◌∷◌, slice_get, Option, Some, None, option_map, option_and_then, true, bytes_eq, refl, sym, ap, subst, ◌∙◌}
use Rattle.std.proofs.lemmas.Bool.{cond-true, or_right}
use Rattle.std.proofs.lemmas.Option.{none-some, same_Some, slice_get-map}
use Rattle.ips_fmri.specs.Version.{Parts}
use Rattle.ips_outside.specs.Image.{Image}
use Rattle.ips_repo.specs.Opening.{Opened}
use Rattle.ips_state.specs.State.{Installed, Recorded}
use Rattle.ips_refute.specs.Meaning.{HasNoChoice, pairs}
use Rattle.ips_refute.specs.declared.nogoods.Refutation.{Refutation}
use Rattle.ips_search.specs.Best.{IsFirst, NotLater}
use Rattle.ips_depend.specs.Selection.{Selection}
use Rattle.ips_request.specs.declared.request.Request.{Request}
use Rattle.ips_request.specs.Stems.{has}
use Rattle.ips_request.specs.Case.{Case, IsReading, ManifestReading, manifest_facts}
use Rattle.ips_request.specs.Candidates.{candidates}
use Rattle.ips_request.specs.Request.{asked_case}
use Rattle.ips_request.specs.Subject.{catalog_of, files_of}
use Rattle.ips_request.specs.Laws.{has_first}
use Rattle.ips_problem.specs.Reach.{IsReach}
use Rattle.ips_problem.specs.Selecting.{AreCandidateNumbers, IsAdmissible, IsBestSelection, restricted}
use Rattle.ips_problem.specs.Posed.{Posed, Offer, offer_of, row_of, posed, lines_said, meaning_of, picked}
use Rattle.ips_problem.specs.Taken.{AreTaken, offer_at, package_of}
use Rattle.ips_problem.proofs.Restricting.{restricted_admissible, restricted_within}
use Rattle.ips_problem.proofs.Solving.{first_is_best, none_admissible}
use Rattle.ips_report.specs.declared.unsolved.Tried as tried
use Rattle.ips_words.specs.declared.what.What.{What}
use Rattle.ips_next.specs.Best.{AreBest, AreSelected, IsCaseOf, NoneFits}
use Rattle.ips_next.specs.Decided.{HasNoSolution, IsDecided, IsPosed, chosen_over}

-- a candidate's package has the lines of its manifest
offered_says : (c : Case) (stem : List ℕ) (o : Option (Option Parts)) (q : Installed) → package_of (Some stem) (option_and_then (λ (x : Option Offer). x) (option_map (offer_of c stem) o)) ≡ Some q
    → q.lines ≡ lines_said (manifest_facts c q.stem q.version)
offered_says c stem None q is = absurd (none-some q is)
offered_says c stem (Some None) q is = absurd (none-some q is)
offered_says c stem (Some (Some v)) q is =
    let own : Installed = record { stem = stem; version = v; lines = lines_said (manifest_facts c stem v) } in
    subst (λ (q : Installed). q.lines ≡ lines_said (manifest_facts c q.stem q.version)) (same_Some own q is) refl

selected_says : (c : Case) (stem : Option (List ℕ)) (k : Option ℕ) (q : Installed) → package_of stem (offer_at (option_map (row_of c) stem) k) ≡ Some q → q.lines ≡ lines_said (manifest_facts c q.stem q.version)
selected_says c None k q is = absurd (none-some q is)
selected_says c (Some stem) None q is = absurd (none-some q is)
selected_says c (Some stem) (Some k) q is =
    offered_says c stem (slice_get (candidates c stem) k) q
    (ap (λ (o : Option (Option Offer)). package_of (Some stem) (option_and_then (λ (x : Option Offer). x) o)) (sym (slice_get-map (offer_of c stem) (candidates c stem) k)) ∙ is)

-- the numbers that a selection has for stems in reach stay where the stems out of reach are left out
still_numbered : (c : Case) (reach : List (List ℕ)) (s : Selection) (stems : List (List ℕ)) (numbers : List ℕ) → ((stem : List ℕ) → has stem stems ≡ true → has stem reach ≡ true)
    → AreCandidateNumbers c s stems numbers → AreCandidateNumbers c (restricted reach s) stems numbers
still_numbered c reach s [] [] within are = tt
still_numbered c reach s [] (k ∷ numbers) within are = absurd are
still_numbered c reach s (stem ∷ stems) [] within are = absurd are
still_numbered c reach s (stem ∷ stems) (k ∷ numbers) within are = (
  subst (λ (o : Option Parts). slice_get (candidates c stem) k ≡ Some o) (sym (cond-true (has stem reach) (s stem) None (within stem (has_first stem stems)))) are.0,
  still_numbered c reach s stems numbers (λ y there. within y (or_right (bytes_eq y stem) (has y stems) there)) are.1,
)

-- no admissible selection comes before the best, whether it selects stems out of reach or not
first_of_all : (c : Case) (reach : List (List ℕ)) (s other : Selection) (others : List ℕ) → IsReach c reach → (best : IsBestSelection c reach s) → IsAdmissible c other → AreCandidateNumbers c other reach others
    → NotLater best.numbers others
first_of_all c reach s other others is_reach best admissible are =
    best.first (restricted reach other) others (restricted_admissible c reach other is_reach admissible) (restricted_within reach other)
    (still_numbered c reach other reach others (λ stem there. there) are)

-- the packages of a choice are those of its selection
are_selected : (c : Case) (reach : List (List ℕ)) (choice : List ℕ) (packages : List Installed) → AreTaken (posed c reach) choice packages → AreSelected c (picked (posed c reach) (pairs choice)) packages
are_selected c reach choice packages are = record {
  order = are.order;
  versions = are.selection;
  lines = λ q there.
      let (i, at) = (are.each q).0 there in
      selected_says c (slice_get reach i) (slice_get choice i) q
      (ap (λ (row : Option _). package_of (slice_get reach i) (offer_at row (slice_get choice i))) (sym (slice_get-map (row_of c) reach i)) ∙ at);
}

-- the case that a puzzle is posed by
the_case : (w : What) (old asked : Recorded) (held : Image) (r : ManifestReading) (request : Request) (repository : Option Opened) (p : Posed) → IsPosed w old asked held request repository p → Case
the_case w old asked held r request repository p is = asked_case request (chosen_over w old asked) (catalog_of repository) (files_of repository held) is.posed.named is.posed.rejects r

is_case : (w : What) (old asked : Recorded) (held : Image) (r : ManifestReading) (request : Request) (repository : Option Opened) (p : Posed) (is : IsPosed w old asked held request repository p)
    → IsCaseOf w old asked held r (the_case w old asked held r request repository p is)
unfolding the_case
is_case w old asked held r request repository p is = record {
  request = request;
  is_request = is.is_request;
  repository = repository;
  looked_at = is.looked_at;
  named = is.posed.named;
  rejects = is.posed.rejects;
  names = is.posed.names;
  case_is = refl;
}

pub decided_best : (w : What) (old asked : Recorded) (held : Image) (packages : List Installed) (avoid : List (List ℕ)) (r : ManifestReading)
    → IsDecided w old asked held packages avoid → IsReading (let s : Recorded = chosen_over w old asked in s.settings) r → AreBest w old asked held r packages
unfolding the_case
decided_best w old asked held packages avoid r is reading =
    let c = the_case w old asked held r is.request is.repository is.puzzle is.is_posed in
    let poses = is.is_posed.posed.poses r reading in
    let reach = is.puzzle.stems in
    let first = subst (λ (p : Posed). IsFirst (meaning_of p) is.choice) poses.same is.first in
    let best = first_is_best c reach is.choice poses.reach first in
    record {
      the_case = c;
      is_case = is_case w old asked held r is.request is.repository is.puzzle is.is_posed;
      reach = reach;
      is_reach = poses.reach;
      selection = picked (posed c reach) (pairs is.choice);
      best = best;
      foremost = λ other others. first_of_all c reach (picked (posed c reach) (pairs is.choice)) other others poses.reach best;
      selected = are_selected c reach is.choice packages (subst (λ (p : Posed). AreTaken p is.choice packages) poses.same is.taken);
    }

pub none_fitting : (w : What) (old asked : Recorded) (held : Image) (r : ManifestReading) (request : Request) (repository : Option Opened) (p : Posed) (stems : List tried.Tried) (refutation : Refutation)
    → IsPosed w old asked held request repository p → HasNoSolution p stems refutation → IsReading (let s : Recorded = chosen_over w old asked in s.settings) r → NoneFits w old asked held r
unfolding the_case
none_fitting w old asked held r request repository p stems refutation is none reading =
    let c = the_case w old asked held r request repository p is in
    let poses = is.posed.poses r reading in
    record {
      the_case = c;
      is_case = is_case w old asked held r request repository p is;
      none = λ s. none_admissible c p.stems s poses.reach (subst (λ (p : Posed). HasNoChoice (meaning_of p)) poses.same none.none);
    }
