-- A search that keeps one nogood more stands where it stood.
use Rattle.std.proofs.Common.{◌≡◌, ℕ, ◌<◌, get_or, length, List, [], ◌∷◌, ◌++◌, All, Vec, Global, refl, ◌∙◌, subst, sym}
use Rattle.std.proofs.lemmas.List.Elements.{All-push, All-cons, All-contains}
use Rattle.ips_refute.specs.declared.nogoods.Nogood.{Nogood}
use Rattle.ips_refute.specs.declared.nogoods.Pair.{Pair}
use Rattle.ips_refute.specs.Meaning.{Meaning, Ascends, IsSubset, OnePerStem, IsOffered, IsBeginning, pairs}
use Rattle.ips_refute.proofs.Choices.{pair}
use Rattle.ips_refute.specs.Refuting.{IsNogood, AreNogoods}
use Rattle.ips_search.specs.declared.state.State.{State}
use Rattle.ips_search.specs.declared.state.Level.{Level}
use Rattle.ips_search.specs.Searching.{IsSearching, IsCounted, IsLevel}
use Rattle.ips_search.specs.Advising.{Learned}
use Rattle.ips_search.proofs.Walks.{AreNogoods-push, IsLevel-later, Offered-pairs, one_with_top}

pub learned_one : (m : Meaning) (s : State) (ns : Vec Nogood Global) (g : Nogood) → IsSearching m s → ns.items ≡ s.nogoods.items ++ g ∷ [] → Ascends g.set.items → IsNogood m s.nogoods.items g
    → Learned m s (record { choice = s.choice; pairs = s.pairs; levels = s.levels; top = s.top; nogoods = ns })
learned_one m s ns g h e up ok =
    let old = s.nogoods.items in
    let kept : (p : List ℕ) (level : Level) → IsLevel m old p level → IsLevel m ns.items p level = λ p level k.
    subst (λ (l : List Nogood). IsLevel m l p level) (sym e) (IsLevel-later m old g p level k) in
    record {
      searching = record {
        paired = h.paired;
        begun = h.begun;
        learned = subst (λ (l : List Nogood). AreNogoods m l) (sym e) (AreNogoods-push m old g h.learned ok);
        sorted = subst (λ (l : List Nogood). All (λ x. Ascends x.set.items) l) (sym e) (All-push (λ x. Ascends x.set.items) old g h.sorted up);
        as_deep = h.as_deep;
        levels = λ i level at. let r = h.levels i level at in (kept _ level r.0, r.1);
        top = kept s.choice.items s.top h.top;
        tried = h.tried;
        ahead = h.ahead;
      };
      same = refl;
      pairs = refl;
      tried = refl;
      keeps = λ n k. record { counted = k.counted; deep = k.deep };
    }

pub learned_none : (m : Meaning) (s : State) → IsSearching m s → Learned m s s
learned_none m s h = record { searching = h; same = refl; pairs = refl; tried = refl; keeps = λ n k. k }

pub learned_more : (m : Meaning) (s t u : State) → Learned m s t → Learned m t u → Learned m s u
learned_more m s t u a b = record { searching = b.searching; same = b.same ∙ a.same; pairs = b.pairs ∙ a.pairs; tried = b.tried ∙ a.tried; keeps = λ n k. b.keeps n (a.keeps n k) }

-- ---- a failure that is proposed

pub core_offered : (m : Meaning) (p : List ℕ) (more : Pair) (chosen core : List Pair) → IsBeginning m p → chosen ≡ pairs p → more.stem < m.stems → more.candidate < m.candidates more.stem → IsSubset core chosen → All (IsOffered m) (more ∷ core)
core_offered m p more chosen core good e a b w =
    let w' : IsSubset core (pairs p) = subst (λ (s : List Pair). IsSubset core s) e w in
    All-cons (IsOffered m) more core (a, b) (λ k d h. All-contains (IsOffered m) (pairs p) (get_or core k d) (Offered-pairs m p good) (w' k d h))

pub core_one : (p : List ℕ) (more : Pair) (chosen core : List Pair) → chosen ≡ pairs p → more.stem ≡ length p → IsSubset core chosen → Ascends core → OnePerStem (more ∷ core)
core_one p more chosen core e at w a =
    let Q : ℕ → Type 0 = λ n. OnePerStem (pair n more.candidate ∷ core) in
    subst Q (sym at) (one_with_top p more.candidate core (subst (λ (s : List Pair). IsSubset core s) e w) a)
