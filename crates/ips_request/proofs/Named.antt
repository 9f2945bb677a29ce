-- What patterns name, one more at a time.
use Rattle.std.proofs.Common.{◌≡◌, ℕ, zero, suc, ◌+◌, ◌<◌, List, [], ◌∷◌, ◌++◌, take, get_or, length, Err, refl, sym, ap, subst, ◌∙◌, inl, inr, arith}
use Rattle.std.proofs.lemmas.List.{take_more}
use Rattle.ips_fmri.specs.declared.pattern.Pattern.{Pattern}
use Rattle.ips_text.specs.Reading.{IfBad}
use Rattle.ips_text.specs.declared.refusal.Or.{Or}
use Rattle.ips_text.specs.declared.refusal.Or.TheVariants.{Bad, OutOfMemory}
use Rattle.ips_request.specs.declared.fault.ProblemFault.{ProblemFault}
use Rattle.ips_request.specs.Named.{AreMatched, AreNamed, IsFirstUnnamed, IsMatch, IsUnnamed, Names}

-- ---- matches

more_matched : (publisher : List ℕ) (p : Pattern) (known matched : List (List ℕ)) (stem : List ℕ) → AreMatched publisher p known matched → IsMatch publisher p stem
    → AreMatched publisher p (known ++ stem ∷ []) (matched ++ stem ∷ [])
more_matched publisher p [] matched stem all is = inl (is, ([], ap (λ l. l ++ stem ∷ []) all, refl))
more_matched publisher p (k ∷ known) matched stem (inl (here, (rest, e, all))) is =
    inl (here, (rest ++ stem ∷ [], ap (λ l. l ++ stem ∷ []) e, more_matched publisher p known rest stem all is))
more_matched publisher p (k ∷ known) matched stem (inr (not, all)) is = inr (not, more_matched publisher p known matched stem all is)

same_matched : (publisher : List ℕ) (p : Pattern) (known matched : List (List ℕ)) (stem : List ℕ) → AreMatched publisher p known matched → (IsMatch publisher p stem → ⊥)
    → AreMatched publisher p (known ++ stem ∷ []) matched
same_matched publisher p [] matched stem all not = inr (not, all)
same_matched publisher p (k ∷ known) matched stem (inl (here, (rest, e, all))) not = inl (here, (rest, e, same_matched publisher p known rest stem all not))
same_matched publisher p (k ∷ known) matched stem (inr (other, all)) not = inr (other, same_matched publisher p known matched stem all not)

pub matched_more : (publisher : List ℕ) (p : Pattern) (known matched : List (List ℕ)) (i : ℕ) (stem : List ℕ) → i < length known → stem ≡ get_or known i stem
    → AreMatched publisher p (take i known) matched → IsMatch publisher p stem → AreMatched publisher p (take (i + 1) known) (matched ++ stem ∷ [])
matched_more publisher p known matched i stem l at all is =
    subst (λ k. AreMatched publisher p k (matched ++ stem ∷ [])) (sym (take_more known i stem l ∙ ap (λ s. take i known ++ s ∷ []) (sym at))) (more_matched publisher p (take i known) matched stem all is)

pub matched_same : (publisher : List ℕ) (p : Pattern) (known matched : List (List ℕ)) (i : ℕ) (stem : List ℕ) → i < length known → stem ≡ get_or known i stem
    → AreMatched publisher p (take i known) matched → (IsMatch publisher p stem → ⊥) → AreMatched publisher p (take (i + 1) known) matched
matched_same publisher p known matched i stem l at all not =
    subst (λ k. AreMatched publisher p k matched) (sym (take_more known i stem l ∙ ap (λ s. take i known ++ s ∷ []) (sym at))) (same_matched publisher p (take i known) matched stem all not)

-- ---- patterns

more_named : (publisher : List ℕ) (known : List (List ℕ)) (ps : List Pattern) (named : List (List (List ℕ))) (p : Pattern) (stems : List (List ℕ))
    → AreNamed publisher known ps named → Names publisher known p stems → AreNamed publisher known (ps ++ p ∷ []) (named ++ stems ∷ [])
more_named publisher known [] named p stems all is = subst (λ n. AreNamed publisher known (p ∷ []) (n ++ stems ∷ [])) (sym all) (is, refl)
more_named publisher known (q ∷ ps) [] p stems all is = absurd all
more_named publisher known (q ∷ ps) (n ∷ named) p stems all is = (all.0, more_named publisher known ps named p stems all.1 is)

pub named_more : (publisher : List ℕ) (known : List (List ℕ)) (ps : List Pattern) (named : List (List (List ℕ))) (i : ℕ) (p : Pattern) (stems : List (List ℕ)) → i < length ps → p ≡ get_or ps i p
    → AreNamed publisher known (take i ps) named → Names publisher known p stems → AreNamed publisher known (take (i + 1) ps) (named ++ stems ∷ [])
named_more publisher known ps named i p stems l at all is =
    subst (λ k. AreNamed publisher known k (named ++ stems ∷ [])) (sym (take_more ps i p l ∙ ap (λ s. take i ps ++ s ∷ []) (sym at))) (more_named publisher known (take i ps) named p stems all is)

-- the first that names none stands behind those that name some
pub first_unnamed : (publisher : List ℕ) (known : List (List ℕ)) (ps : List Pattern) (named : List (List (List ℕ))) (i : ℕ) (p : Pattern) (why : ProblemFault) → i < length ps → p ≡ get_or ps i p
    → AreNamed publisher known (take i ps) named → ((matched : List (List ℕ)) × AreMatched publisher p known matched × IsUnnamed p matched why) → IsFirstUnnamed publisher known ps why
first_unnamed publisher known [] named i p why l at all bad = absurd (omega arith)
first_unnamed publisher known (q ∷ ps) named zero p why l at all bad =
    let (matched, are, un) = bad in
    inl (matched, subst (λ r. AreMatched publisher r known matched) at are, subst (λ r. IsUnnamed r matched why) at un)
first_unnamed publisher known (q ∷ ps) [] (suc i) p why l at all bad = absurd all
first_unnamed publisher known (q ∷ ps) (n ∷ named) (suc i) p why l at all bad = inr ((n, all.0), first_unnamed publisher known ps named i p why (omega arith) at all.1 bad)

-- a fault that is handed on says what follows from it
pub bad_handed : (X Y : Type 0) {F : Type 0} (P Q : F → Type 0) (e : Or F) → IfBad {X = X} {E = F} (Err e) P → ((f : F) → P f → Q f) → IfBad {X = Y} {E = F} (Err e) Q
bad_handed X Y P Q (Bad f) h w = w f h
bad_handed X Y P Q OutOfMemory h w = tt
