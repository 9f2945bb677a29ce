-- The packages whose stems a pattern matches, one more at a time, and that a named stem is a package's.
use Rattle.std.proofs.Common.{◌≡◌, ℕ, ◌<◌, ◌+◌, Bool, true, false, cond, ◌||◌, List, [], ◌∷◌, ◌++◌, length, take, get_or, Some, inl, inr, refl, sym, ap, subst, ◌∙◌, arith}
use Rattle.std.proofs.lemmas.Bool.{both_ways}
use Rattle.std.proofs.lemmas.Option.{none-some, same_Some}
use Rattle.std.proofs.lemmas.List.{get_or-map, length-map, take-map}
use Rattle.std.proofs.lemmas.Slice.Eq.{bytes_eq-Decides}
use Rattle.std.specs.Str.{bytes_eq}
use Rattle.ips_fmri.specs.declared.pattern.Pattern.{Pattern}
use Rattle.ips_manifest.specs.declared.package.Package.{Package}
use Rattle.ips_request.specs.Named.{AreMatched, IsMatch, is_wild, named_among, sole}
use Rattle.ips_request.specs.Stems.{has}
use Rattle.ips_request.proofs.Named.{matched_more, matched_same}
use Rattle.ips_shown.specs.Naming.{stems_of}

abbrev stem : Package → List ℕ
stem p = p.stem

within : (packages : List Package) (i : ℕ) → i < length packages → i < length (stems_of packages)
within packages i lt = omega (arith, lt, length-map packages stem)

there : (packages : List Package) (i : ℕ) (held : Package) → i < length packages → held ≡ get_or packages i held → held.stem ≡ get_or (stems_of packages) i held.stem
there packages i held lt here = ap stem here ∙ sym (get_or-map stem packages i held held.stem lt)

pub next_matched : (publisher : List ℕ) (p : Pattern) (packages : List Package) (i : ℕ) (held : Package) (matched : List (List ℕ)) → i < length packages → held ≡ get_or packages i held
    → AreMatched publisher p (stems_of (take i packages)) matched → IsMatch publisher p held.stem → AreMatched publisher p (stems_of (take (i + 1) packages)) (matched ++ held.stem ∷ [])
next_matched publisher p packages i held matched lt here so_far is =
    subst (λ known. AreMatched publisher p known (matched ++ held.stem ∷ [])) (take-map stem (i + 1) packages) (matched_more publisher p (stems_of packages) matched i held.stem (within packages i lt) (there packages i held lt here)
    (subst (λ known. AreMatched publisher p known matched) (sym (take-map stem i packages)) so_far) is)

pub next_passed : (publisher : List ℕ) (p : Pattern) (packages : List Package) (i : ℕ) (held : Package) (matched : List (List ℕ)) → i < length packages → held ≡ get_or packages i held
    → AreMatched publisher p (stems_of (take i packages)) matched → (IsMatch publisher p held.stem → ⊥) → AreMatched publisher p (stems_of (take (i + 1) packages)) matched
next_passed publisher p packages i held matched lt here so_far not =
    subst (λ known. AreMatched publisher p known matched) (take-map stem (i + 1) packages) (matched_same publisher p (stems_of packages) matched i held.stem (within packages i lt) (there packages i held lt here)
    (subst (λ known. AreMatched publisher p known matched) (sym (take-map stem i packages)) so_far) not)

or_more : (b c d : Bool) → (c ≡ true → d ≡ true) → (b || c) ≡ true → (b || d) ≡ true
or_more true c d f h = refl
or_more false c d f h = f h

-- what is matched is known
known_of : (publisher : List ℕ) (p : Pattern) (known matched : List (List ℕ)) (x : List ℕ) → AreMatched publisher p known matched → has x matched ≡ true → has x known ≡ true
known_of publisher p [] matched x are h = absurd (both_ways (has x []) refl (ap (has x) (sym are) ∙ h))
known_of publisher p (k ∷ known) matched x (inl (is, (rest, e, all))) h =
    or_more (bytes_eq x k) (has x rest) (has x known) (known_of publisher p known rest x all) (ap (has x) (sym e) ∙ h)
known_of publisher p (k ∷ known) matched x (inr (not, all)) h = or_in (bytes_eq x k) (has x known) (known_of publisher p known matched x all h)
  where
    or_in : (b c : Bool) → c ≡ true → (b || c) ≡ true
    or_in true c h = refl
    or_in false c h = h

has_itself : (x : List ℕ) → has x (x ∷ []) ≡ true
has_itself x = ap (λ b. b || false) ((bytes_eq-Decides x x).1 refl)

alone : (x : List ℕ) (xs : List (List ℕ)) → Some xs ≡ Some (x ∷ []) → has x xs ≡ true
alone x xs e = ap (has x) (same_Some xs (x ∷ []) e) ∙ has_itself x

-- what is named is matched
matched_of : (p : Pattern) (matched : List (List ℕ)) (x : List ℕ) → named_among p matched ≡ Some (x ∷ []) → has x matched ≡ true
matched_of p [] x e = absurd (none-some (x ∷ []) e)
matched_of p (s ∷ ss) x e = go (is_wild p) (has p.stem (s ∷ ss)) refl e
  where
    go_sole : (others : List (List ℕ)) → others ≡ ss → sole s others ≡ Some (x ∷ []) → has x (s ∷ ss) ≡ true
    go_sole [] is e = ap (λ l. has x (s ∷ l)) (sym is) ∙ alone x (s ∷ []) e
    go_sole (other ∷ others) is e = absurd (none-some (x ∷ []) e)

    go : (wild equal : Bool) → has p.stem (s ∷ ss) ≡ equal → cond wild (Some (s ∷ ss)) (cond equal (Some (p.stem ∷ [])) (sole s ss)) ≡ Some (x ∷ []) → has x (s ∷ ss) ≡ true
    go true equal is e = alone x (s ∷ ss) e
    go false true is e = ap (λ y. has y (s ∷ ss)) (sym (ap (λ l. get_or l 0 []) (same_Some (p.stem ∷ []) (x ∷ []) e))) ∙ is
    go false false is e = go_sole ss refl e

-- a stem that is named is known
pub named_known : (publisher : List ℕ) (p : Pattern) (known matched : List (List ℕ)) (x : List ℕ) → AreMatched publisher p known matched → named_among p matched ≡ Some (x ∷ []) → has x known ≡ false → ⊥
named_known publisher p known matched x are named none = both_ways (has x known) none (known_of publisher p known matched x are (matched_of p matched x named))
