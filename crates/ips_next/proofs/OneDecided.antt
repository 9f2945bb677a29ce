-- What is decided on is one.
use Rattle.std.proofs.Common.{◌≡◌, ℕ, zero, suc, ◌<◌, get_or, Bool, true, false, List, [], ◌∷◌, flat_map, length, map, Contains, Option, Some, None, bytes_eq, refl, sym, ap, subst, ◌∙◌, inl, inr, arith}
use Rattle.std.specs.Prelude.{if◌then◌else◌}
use Rattle.std.specs.Option.{option_or}
use Rattle.std.specs.List.Sorted.{IsStrictlySortedBy}
use Rattle.std.proofs.lemmas.Option.{none-some, same_Some}
use Rattle.std.proofs.lemmas.Slice.Eq.{bytes_eq-Decides}
use Rattle.ips_fmri.specs.declared.pattern.Pattern.{Pattern}
use Rattle.ips_outside.specs.Image.{Image}
use Rattle.ips_catalog.specs.Listed.{Listed}
use Rattle.ips_repo.specs.Opening.{Opened}
use Rattle.ips_state.specs.State.{Ascend, Installed, Recorded}
use Rattle.ips_refute.specs.Meaning.{Meaning}
use Rattle.ips_refute.specs.declared.nogoods.Refutation.{Refutation}
use Rattle.ips_search.specs.Best.{IsFirst, NotLater}
use Rattle.ips_request.specs.declared.request.Request.{Request}
use Rattle.ips_request.specs.Case.{Case}
use Rattle.ips_request.specs.Stems.{firsts, has}
use Rattle.ips_request.specs.Named.{AreKnown, AreMatched, AreNamed, Names, with_limits, named_among}
use Rattle.ips_request.specs.Request.{AreNames, asked_case, kind_of, matched_against, patterns_of, rejects_of}
use Rattle.ips_request.specs.Subject.{catalog_of, files_of}
use Rattle.ips_request.proofs.Grammar.{some_reading}
use Rattle.ips_problem.specs.Asked.{IsAsked}
use Rattle.ips_problem.specs.Avoided.{AreAvoided}
use Rattle.ips_problem.specs.Gathered.{IsPosedBy}
use Rattle.ips_problem.specs.Laws.{has_contained, contained_had}
use Rattle.ips_problem.specs.Posed.{Posed, meaning_of, posed}
use Rattle.ips_problem.specs.Taken.{AreTaken}
use Rattle.ips_problem.proofs.OneReach.{one_reach}
use Rattle.ips_report.specs.declared.unsolved.Tried as tried
use Rattle.ips_words.specs.declared.what.What.{What}
use Rattle.ips_asked.specs.Named.{latest}
use Rattle.ips_asked.specs.Requested.{IsRequestOf, kind_asked}
use Rattle.ips_asked.proofs.Kept.{first_latest}
use Rattle.ips_asked.proofs.One.{one_list, one_stems}
use Rattle.ips_next.specs.Decided.{HasNoSolution, IsDecided, IsLookedAt, IsPosed, chosen_over, looks}

-- ---- what patterns name

pub one_known : (catalog : List Listed) (packages : List Installed) (a b : List (List ℕ)) → AreKnown catalog packages a → AreKnown catalog packages b → a ≡ b
one_known catalog packages a b x y = one_stems a b x.order y.order (λ z. x.each z ∙ sym (y.each z))

pub one_matched : (publisher : List ℕ) (p : Pattern) (known a b : List (List ℕ)) → AreMatched publisher p known a → AreMatched publisher p known b → a ≡ b
one_matched publisher p [] a b h g = h ∙ sym g
one_matched publisher p (stem ∷ known) a b (inl h) (inl g) =
    let rest = one_matched publisher p known h.1.0 g.1.0 h.1.2 g.1.2 in
    h.1.1 ∙ ap (λ l. stem ∷ l) rest ∙ sym g.1.1
one_matched publisher p (stem ∷ known) a b (inl h) (inr g) = absurd (g.0 h.0)
one_matched publisher p (stem ∷ known) a b (inr h) (inl g) = absurd (h.0 g.0)
one_matched publisher p (stem ∷ known) a b (inr h) (inr g) = one_matched publisher p known a b h.1 g.1

pub one_named : (publisher : List ℕ) (known : List (List ℕ)) (p : Pattern) (a b : List (List ℕ)) → Names publisher known p a → Names publisher known p b → a ≡ b
one_named publisher known p a b h g =
    let matched = one_matched publisher p known h.0 g.0 h.1 g.1 in
    same_Some a b (sym h.2 ∙ ap (named_among p) matched ∙ g.2)

pub all_named : (publisher : List ℕ) (known : List (List ℕ)) (ps : List Pattern) (a b : List (List (List ℕ))) → AreNamed publisher known ps a → AreNamed publisher known ps b → a ≡ b
all_named publisher known [] a b h g = h ∙ sym g
all_named publisher known (p ∷ ps) [] b h g = absurd h
all_named publisher known (p ∷ ps) (x ∷ a) [] h g = absurd g
all_named publisher known (p ∷ ps) (x ∷ a) (y ∷ b) h g =
    let first = one_named publisher known p x y h.0 g.0 in
    let rest = all_named publisher known ps a b h.1 g.1 in
    λ i. first i ∷ rest i

-- requests of one command name the same
module _ (q p : Request) (s : Recorded) (catalog : List Listed) (kinds : kind_of q ≡ kind_of p) (patterns : patterns_of q ≡ patterns_of p) (rejected : rejects_of q ≡ rejects_of p) where
  one_naming : (a b x y : List (List (List ℕ))) → AreNames q s catalog a x → AreNames p s catalog b y → (a ≡ b) × (x ≡ y)
  one_naming a b x y h g =
      let known = one_known (matched_against (kind_of p) catalog) s.installed h.known g.known
      (subst (λ c. AreKnown c s.installed h.known) (λ i. matched_against (kinds i) catalog) h.are_known) g.are_known in
      let all = one_known catalog s.installed h.all g.all h.are_all g.are_all in (
        all_named s.publisher g.known (patterns_of p) a b
            (subst (λ k. AreNamed s.publisher k (patterns_of p) a) known (subst (λ ps. AreNamed s.publisher h.known ps a) patterns h.named_so)) g.named_so,
        all_named s.publisher g.all (rejects_of p) x y
            (subst (λ k. AreNamed s.publisher k (rejects_of p) x) all (subst (λ ps. AreNamed s.publisher h.all ps x) rejected h.rejected_so)) g.rejected_so,
      )

-- ---- the puzzle

pub one_repository : (b : Bool) (publisher : List ℕ) (held : Image) (x y : Option Opened) → IsLookedAt b publisher held x → IsLookedAt b publisher held y → x ≡ y
one_repository true publisher held None y h g = absurd h
one_repository true publisher held (Some x) None h g = absurd g
one_repository true publisher held (Some x) (Some y) h g =
    let both = sym h.1 ∙ g.1 in
    let catalog : x.catalog ≡ y.catalog = cc in
    let publisher_is = h.0 ∙ sym g.0 in
    λ i. Some (record { publisher = publisher_is i; catalog = catalog i })
one_repository false publisher held x y h g = h ∙ sym g

-- requests of one command, asked over the same, pose one puzzle
asked_one_puzzle : (w : What) (q p : Request) (s : Recorded) (repository : Option Opened) (held : Image) (a b : Posed) → IsRequestOf w q → IsRequestOf w p → IsAsked q s repository held a → IsAsked p s repository held b → a ≡ b
asked_one_puzzle w q p s repository held a b x y h g =
    let (r, reading) = some_reading s.settings in
    let kinds = x.kind_is ∙ sym y.kind_is in
    let patterns = x.patterns ∙ sym y.patterns in
    let rejected = x.rejects ∙ sym y.rejects in
    let named = one_naming q p s (catalog_of repository) kinds patterns rejected h.named g.named h.rejects g.rejects h.names g.names in
    let first = h.poses r reading in
    let second = g.poses r reading in
    let same : asked_case q s (catalog_of repository) (files_of repository held) h.named h.rejects r ≡ asked_case p s (catalog_of repository) (files_of repository held) g.named g.rejects r =
    λ i. record {
      kind = kinds i;
      named = with_limits (patterns i) (named.0 i);
      rejected = firsts (flat_map (λ (stems : List (List ℕ)). stems) (named.1 i));
      catalog = catalog_of repository;
      installed = s.installed;
      avoid = s.avoid;
      freeze = s.freeze;
      file = files_of repository held;
      reading = r;
    } in
    let d = asked_case p s (catalog_of repository) (files_of repository held) g.named g.rejects r in
    let here = subst (λ (c : Case). IsPosedBy c a) same first in
    here.same ∙ ap (posed d) (one_reach d a.stems b.stems here.reach second.reach) ∙ sym second.same

posed_one : (w : What) (old asked : Recorded) (held : Image) (q p : Request) (x y : Option Opened) (a b : Posed) → IsPosed w old asked held q x a → IsPosed w old asked held p y b → a ≡ b
posed_one w old asked held q p x y a b h g =
    let same = one_repository (looks (kind_asked w)) old.publisher held x y h.looked_at g.looked_at in
    asked_one_puzzle w q p (chosen_over w old asked) y held a b h.is_request g.is_request (subst (λ (o : Option Opened). IsAsked q (chosen_over w old asked) o held a) same h.posed) g.posed

-- ---- the choice

first_one : (m : Meaning) (a b : List ℕ) → IsFirst m a → IsFirst m b → a ≡ b
first_one m a b h g = neither_later a b (h.0.0 ∙ sym g.0.0) (h.1 b g.0) (g.1 a h.0)
  where
    neither_later : (xs ys : List ℕ) → length xs ≡ length ys → NotLater xs ys → NotLater ys xs → xs ≡ ys
    neither_later [] [] e h g = refl
    neither_later [] (y ∷ ys) e h g = absurd (omega arith)
    neither_later (x ∷ xs) [] e h g = absurd (omega arith)
    neither_later (x ∷ xs) (y ∷ ys) e (inl h) (inl g) = absurd (omega arith)
    neither_later (x ∷ xs) (y ∷ ys) e (inl h) (inr g) = absurd (let k = g.0 in omega arith)
    neither_later (x ∷ xs) (y ∷ ys) e (inr h) (inl g) = absurd (let k = h.0 in omega arith)
    neither_later (x ∷ xs) (y ∷ ys) e (inr h) (inr g) =
        let rest = neither_later xs ys (omega arith) h.1 g.1 in
        λ i. h.0 i ∷ rest i

-- ---- packages

latest_among : (name : List ℕ) (qs : List Installed) (q : Installed) → latest (λ (p : Installed). p.stem) name qs ≡ Some q → Contains qs q × (q.stem ≡ name)
latest_among name [] q is = absurd (none-some q is)
latest_among name (p ∷ qs) q is = go (latest (λ (p : Installed). p.stem) name qs) refl (latest_among name qs)
  where
    own : (b : Bool) → bytes_eq p.stem name ≡ b → (if b then Some p else None) ≡ Some q → Contains (p ∷ qs) q × (q.stem ≡ name)
    own true at is = let one : p ≡ q = same_Some p q is in ((0, omega arith, one), subst (λ (x : Installed). x.stem ≡ name) one ((bytes_eq-Decides p.stem name).0 at))
    own false at is = absurd (none-some q is)

    go : (o : Option Installed) → latest (λ (p : Installed). p.stem) name qs ≡ o → ((x : Installed) → latest (λ (p : Installed). p.stem) name qs ≡ Some x → Contains qs x × (x.stem ≡ name)) → Contains (p ∷ qs) q × (q.stem ≡ name)
    go None at later = own (bytes_eq p.stem name) refl (ap (λ o. option_or o (if bytes_eq p.stem name then Some p else None)) (sym at) ∙ is)
    go (Some x) at later =
        let one : x ≡ q = same_Some x q (ap (λ o. option_or o (if bytes_eq p.stem name then Some p else None)) (sym at) ∙ is) in
        let there = later x at in
        let (k, l, e) = subst (λ (y : Installed). Contains qs y) one there.0 in
        ((suc k, omega arith, e), subst (λ (y : Installed). y.stem ≡ name) one there.1)

contained_latest : (qs : List Installed) (q : Installed) (k : ℕ) → Ascend (map (λ (p : Installed). p.stem) qs) → k < length qs → get_or qs k q ≡ q → latest (λ (p : Installed). p.stem) q.stem qs ≡ Some q
unfolding IsStrictlySortedBy
contained_latest [] q k order l e = absurd (omega arith)
contained_latest (p ∷ qs) q zero order l e = subst (λ (x : Installed). latest (λ (p : Installed). p.stem) x.stem (p ∷ qs) ≡ Some x) e (first_latest (λ (p : Installed). p.stem) p qs order.0)
contained_latest (p ∷ qs) q (suc k) order l e =
    ap (λ o. option_or o (if bytes_eq p.stem q.stem then Some p else None)) (contained_latest qs q k order.1 (omega arith) e)

found_too : (name : List ℕ) (xs ys : List Installed) (q : Installed) → Ascend (map (λ (p : Installed). p.stem) ys) → ((q : Installed) → Contains xs q → Contains ys q) → latest (λ (p : Installed). p.stem) name xs ≡ Some q
    → latest (λ (p : Installed). p.stem) name ys ≡ Some q
found_too name xs ys q order each is =
    let among = latest_among name xs q is in
    let (k, l, e) = each q among.0 in
    ap (λ (n : List ℕ). latest (λ (p : Installed). p.stem) n ys) (sym among.1) ∙ contained_latest ys q k order l e

same_latest : (name : List ℕ) (xs ys : List Installed) → Ascend (map (λ (p : Installed). p.stem) xs) → Ascend (map (λ (p : Installed). p.stem) ys) → ((q : Installed) → Contains xs q → Contains ys q)
    → ((q : Installed) → Contains ys q → Contains xs q) → latest (λ (p : Installed). p.stem) name xs ≡ latest (λ (p : Installed). p.stem) name ys
same_latest name xs ys up rising to from = go (latest (λ (p : Installed). p.stem) name xs) (latest (λ (p : Installed). p.stem) name ys) refl refl
  where
    go : (o u : Option Installed) → latest (λ (p : Installed). p.stem) name xs ≡ o → latest (λ (p : Installed). p.stem) name ys ≡ u → latest (λ (p : Installed). p.stem) name xs ≡ latest (λ (p : Installed). p.stem) name ys
    go (Some q) u at it = at ∙ sym (found_too name xs ys q rising to at)
    go None (Some q) at it = found_too name ys xs q up from it ∙ sym it
    go None None at it = at ∙ sym it

taken_one : (p : Posed) (choice : List ℕ) (xs ys : List Installed) → AreTaken p choice xs → AreTaken p choice ys → xs ≡ ys
taken_one p choice xs ys h g =
    one_list (λ (q : Installed). q.stem) xs ys h.order g.order (λ name. same_latest name xs ys h.order g.order (λ q c. (g.each q).1 ((h.each q).0 c)) (λ q c. (h.each q).1 ((g.each q).0 c)))

avoided_one : (p : Posed) (choice : List ℕ) (xs ys : List (List ℕ)) → AreAvoided p choice xs → AreAvoided p choice ys → xs ≡ ys
avoided_one p choice xs ys h g =
    one_stems xs ys h.order g.order (λ stem. ways (has stem xs) (has stem ys)
    (λ t. has_contained ys stem ((g.each stem).1 ((h.each stem).0 (contained_had xs stem t))))
    (λ t. has_contained xs stem ((h.each stem).1 ((g.each stem).0 (contained_had ys stem t)))))
  where
    ways : (s t : Bool) → (s ≡ true → t ≡ true) → (t ≡ true → s ≡ true) → s ≡ t
    ways true t f g = sym (f refl)
    ways false true f g = g refl
    ways false false f g = refl

pub decided_one : (w : What) (old asked : Recorded) (held : Image) (ps qs : List Installed) (xs ys : List (List ℕ)) → IsDecided w old asked held ps xs → IsDecided w old asked held qs ys → (ps ≡ qs) × (xs ≡ ys)
decided_one w old asked held ps qs xs ys h g =
    let puzzle = posed_one w old asked held h.request g.request h.repository g.repository h.puzzle g.puzzle h.is_posed g.is_posed in
    let choice = first_one (meaning_of g.puzzle) h.choice g.choice (subst (λ (p : Posed). IsFirst (meaning_of p) h.choice) puzzle h.first) g.first in
    let same = one_repository (looks (kind_asked w)) old.publisher held h.repository g.repository h.is_posed.looked_at g.is_posed.looked_at in
    let kept = asked_one_puzzle w h.request g.request asked g.repository held h.kept g.kept h.is_posed.is_request g.is_posed.is_request (subst (λ (o : Option Opened). IsAsked h.request asked o held h.kept) same h.is_kept) g.is_kept in (
      taken_one g.puzzle g.choice ps qs (subst (λ (c : List ℕ). AreTaken g.puzzle c ps) choice (subst (λ (p : Posed). AreTaken p h.choice ps) puzzle h.taken)) g.taken,
      avoided_one g.kept g.choice xs ys (subst (λ (c : List ℕ). AreAvoided g.kept c xs) choice (subst (λ (p : Posed). AreAvoided p h.choice xs) kept h.avoided)) g.avoided,
    )

pub decided_or_none : (w : What) (old asked : Recorded) (held : Image) (packages : List Installed) (avoid : List (List ℕ)) (request : Request) (repository : Option Opened) (p : Posed) (stems : List tried.Tried) (refutation : Refutation)
    → IsDecided w old asked held packages avoid → IsPosed w old asked held request repository p → HasNoSolution p stems refutation → ⊥
decided_or_none w old asked held packages avoid request repository p stems refutation is posed none =
    let puzzle = posed_one w old asked held is.request request is.repository repository is.puzzle p is.is_posed posed in
    none.none is.choice (subst (λ (p : Posed). IsFirst (meaning_of p) is.choice) puzzle is.first).0
