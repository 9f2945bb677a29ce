-- Paths of trials.
use Rattle.ips_steps.specs.Private.{records_name}
use Rattle.std.proofs.Common.{◌≡◌, ◌⊎◌, ⊎_elim, inl, inr, ℕ, ◌+◌, ◌≤◌, Bool, true, false, cond, ◌==◌, List, [], ◌∷◌, ◌++◌, length, length-append, drop, get_or, ◌<◌, IsUtf8, Option, Some, None, codes, refl, sym, ◌∙◌, ap, subst, arith}
use Rattle.std.specs.List.{list_any}
use Rattle.std.proofs.lemmas.Bool.{eqb-true, or_cases, or_left, or_right}
use Rattle.std.proofs.lemmas.List.Folds.{list_any-append}
use Rattle.std.proofs.Math.Seq.{drop-append-add}
use Rattle.std.proofs.lemmas.Fmt.{decimal_digit}
use Rattle.std.proofs.lemmas.Str.{IsUtf8-append, IsUtf8-drop, IsCharBoundary-after_ascii}
use Rattle.ips_text.specs.Ancestry.{covers, parent, behind}
use Rattle.ips_text.specs.Path.{IsPath, parts, is_dots, is_nothing, is_long, begins_at_root}
use Rattle.ips_text.specs.declared.path.PathFault.TheVariants.{Empty, Absolute, DotPart, EmptyPart, NulByte, NotText, TooLong}
use Rattle.ips_text.proofs.Fronts.{parts_at, ascii_path, ascii_text}
use Rattle.ips_steps.specs.Steps.{stage_name, stage_path}
use Rattle.ips_steps.proofs.Lists.{clash}
use Rattle.ips_rehearse.specs.Tried.{file_name, link_name, try_name, dir_name, in_try}

-- ---- the names of trials

pub stage_is_path : IsPath (codes "var/pkg/stage")
stage_is_path = ascii_path (codes "var/pkg/stage") refl refl refl refl refl (omega arith) (omega arith) refl

pub try_path : IsPath (codes "var/pkg/stage/try")
try_path = ascii_path (codes "var/pkg/stage/try") refl refl refl refl refl (omega arith) (omega arith) refl

pub dir_path : IsPath (codes "var/pkg/stage/try/dir")
dir_path = ascii_path (codes "var/pkg/stage/try/dir") refl refl refl refl refl (omega arith) (omega arith) refl

pub plain_path : IsPath (codes "var/pkg/stage/try/file")
plain_path = ascii_path (codes "var/pkg/stage/try/file") refl refl refl refl refl (omega arith) (omega arith) refl

pub link_path : IsPath (codes "var/pkg/stage/try/link")
link_path = ascii_path (codes "var/pkg/stage/try/link") refl refl refl refl refl (omega arith) (omega arith) refl

pub first_path : IsPath (codes "var/pkg/stage/0")
first_path = ascii_path (codes "var/pkg/stage/0") refl refl refl refl refl (omega arith) (omega arith) refl

pub inner_dir_path : IsPath (codes "var/pkg/stage/try/dir/dir")
inner_dir_path = ascii_path (codes "var/pkg/stage/try/dir/dir") refl refl refl refl refl (omega arith) (omega arith) refl

pub inner_file_path : IsPath (codes "var/pkg/stage/try/dir/file")
inner_file_path = ascii_path (codes "var/pkg/stage/try/dir/file") refl refl refl refl refl (omega arith) (omega arith) refl

pub dir_is : codes "var/pkg/stage/try/dir" ≡ dir_name
unfolding dir_name
dir_is = refl

pub try_is : codes "var/pkg/stage/try" ≡ try_name
unfolding try_name
try_is = refl

pub first_is : codes "var/pkg/stage/0" ≡ stage_path 0
unfolding stage_name
first_is = ap (λ (l : List ℕ). codes "var/pkg/stage/" ++ l) (sym (decimal_digit 0 (omega arith)))

pub try_parent : parent try_name ≡ Some stage_name
unfolding try_name stage_name
try_parent = refl

pub first_apart : covers try_name (stage_path 0) ≡ false
unfolding try_name stage_name
first_apart = ap (λ (l : List ℕ). covers try_name (stage_name ++ 47 ∷ l)) (decimal_digit 0 (omega arith))

pub dir_parent : parent dir_name ≡ Some try_name
unfolding dir_name try_name
dir_parent = refl

pub plain_parent : parent (codes "var/pkg/stage/try/file") ≡ Some try_name
unfolding try_name
plain_parent = refl

pub link_parent : parent (codes "var/pkg/stage/try/link") ≡ Some try_name
unfolding try_name
link_parent = refl

pub link_apart : covers (codes "var/pkg/stage/try/file") (codes "var/pkg/stage/try/link") ≡ false
link_apart = refl

pub inner_apart : covers (codes "var/pkg/stage/try/dir/dir") (codes "var/pkg/stage/try/dir/file") ≡ false
inner_apart = refl

pub inner_dir_parent : parent (codes "var/pkg/stage/try/dir/dir") ≡ Some dir_name
unfolding dir_name
inner_dir_parent = refl

pub inner_file_parent : parent (codes "var/pkg/stage/try/dir/file") ≡ Some dir_name
unfolding dir_name
inner_file_parent = refl

-- ---- a path of one part behind another path

-- its bytes hold no `/`
split_none : (a : ℕ) (p : List ℕ) → parent (a ∷ p) ≡ None → ((a == 47) ≡ false) × (parent p ≡ None)
split_none a p e = go (parent p) refl e
  where
    last : (b : Bool) → cond {A = Option (List ℕ)} b (Some []) None ≡ None → b ≡ false
    last true is = cc
    last false is = refl

    go : (o : Option (List ℕ)) → parent p ≡ o → behind a o ≡ None → ((a == 47) ≡ false) × (parent p ≡ None)
    go (Some r) is e = cc
    go None is e = (last (a == 47) e, is)

parts_alone : (name : List ℕ) → parent name ≡ None → parts name ≡ name ∷ []
parts_alone [] e = refl
parts_alone (a ∷ name) e =
    let s = split_none a name e in
    let rest = parts_alone name s.1 in
    rw (s.0, rest) refl

pub short_name : (name : List ℕ) → IsPath name → parent name ≡ None → length name ≤ 255
short_name name h alone = go (is_long name) refl
  where
    go : (b : Bool) → is_long name ≡ b → length name ≤ 255
    go true long = absurd (h TooLong (inr (ap (list_any is_long) (parts_alone name alone) ∙ or_left (is_long name) false long)))
    go false short = grind (arith, short)

any_either : (test : List ℕ → Bool) (q last : List ℕ) → list_any test (parts (q ++ 47 ∷ last)) ≡ true → (list_any test (parts q) ≡ true) ⊎ (list_any test (parts last) ≡ true)
any_either test q last e = or_cases _ _ (sym (list_any-append test (parts q) (parts last)) ∙ ap (list_any test) (sym (parts_at q last)) ∙ e)

joined : (q last : List ℕ) → IsPath q → IsPath last → length q + 1 + length last ≤ 1023 → IsPath (q ++ 47 ∷ last)
joined q last h k few Empty e = let none = eqb-true (length (q ++ 47 ∷ last)) 0 e in omega (arith, none, length-append q (47 ∷ last))
joined [] last h k few Absolute e = h Empty refl
joined (a ∷ q) last h k few Absolute e = h Absolute e
joined q last h k few DotPart e = ⊎_elim (h DotPart) (k DotPart) (any_either is_dots q last e)
joined q last h k few EmptyPart e = ⊎_elim (h EmptyPart) (k EmptyPart) (any_either is_nothing q last e)
joined q last h k few NulByte e = ⊎_elim (h NulByte) (k NulByte) (or_cases _ _ (sym (list_any-append (λ b. b == 0) q (47 ∷ last)) ∙ e))
joined q last h k few NotText e = h NotText (λ u. k NotText (λ v. e (IsUtf8-append q (47 ∷ last) u (IsUtf8-append (47 ∷ []) last (ascii_text (47 ∷ []) refl) v))))
joined q last h k few TooLong e = ⊎_elim
    (λ long. omega (arith, few, long, length-append q (47 ∷ last)))
    (λ part. ⊎_elim (λ a. h TooLong (inr a)) (λ b. k TooLong (inr b)) (any_either is_long q last part)) e

pub tried_parent : (name : List ℕ) → parent name ≡ None → parent (in_try name) ≡ Some try_name
unfolding try_name
tried_parent name alone = rw alone refl

pub tried_path : (name : List ℕ) → IsPath name → parent name ≡ None → IsPath (in_try name)
unfolding try_name
tried_path name h alone = let few = short_name name h alone in joined (codes "var/pkg/stage/try") name try_path h (omega (arith, few))

-- ---- the last part of a path

record Split (p dir : List ℕ) : Type 0 where
  name : List ℕ
  is : p ≡ dir ++ 47 ∷ name
  alone : parent name ≡ None

split : (p dir : List ℕ) → parent p ≡ Some dir → Split p dir
split [] dir e = cc
split (a ∷ p) dir e = go (split p) (parent p) refl e
  where
    last : (b : Bool) → (a == 47) ≡ b → parent p ≡ None → cond b (Some []) None ≡ Some dir → Split (a ∷ p) dir
    last true is alone s =
        let none : dir ≡ [] = cc in
        let slash : a ≡ 47 = eqb-true a 47 is in
        record { name = p; is = rw (none, slash) refl; alone = alone }
    last false is alone s = cc

    go : ((r : List ℕ) → parent p ≡ Some r → Split p r) → (o : Option (List ℕ)) → parent p ≡ o → behind a o ≡ Some dir → Split (a ∷ p) dir
    go shorter (Some r) is s =
        let shape : dir ≡ a ∷ r = cc in
        let rest = shorter r is in
        record { name = rest.name; is = ap (λ (l : List ℕ). a ∷ l) rest.is ∙ ap (λ (d : List ℕ). d ++ 47 ∷ rest.name) (sym shape); alone = rest.alone }
    go shorter None is s = last (a == 47) refl is s

any_behind : (test : List ℕ → Bool) (q last : List ℕ) → list_any test (parts last) ≡ true → list_any test (parts (q ++ 47 ∷ last)) ≡ true
any_behind test q last h = ap (list_any test) (parts_at q last) ∙ list_any-append test (parts q) (parts last) ∙ or_right (list_any test (parts q)) (list_any test (parts last)) h

behind_text : (q last : List ℕ) → IsUtf8 (q ++ 47 ∷ last) → IsUtf8 last
behind_text q last u =
    let within : length q < length (q ++ 47 ∷ last) = omega (arith, length-append q (47 ∷ last)) in
    let mark : get_or (q ++ 47 ∷ last) (length q) 0 ≡ 47 = at_mark q in
    subst IsUtf8 (drop-append-add q (47 ∷ last) 1) (IsUtf8-drop (q ++ 47 ∷ last) (length q + 1) u (IsCharBoundary-after_ascii (q ++ 47 ∷ last) (length q) u within (omega arith)))
  where
    at_mark : (q : List ℕ) → get_or (q ++ 47 ∷ last) (length q) 0 ≡ 47
    at_mark [] = refl
    at_mark (b ∷ q) = at_mark q

unrooted : (last : List ℕ) → parent last ≡ None → begins_at_root last ≡ true → ⊥
unrooted [] alone e = cc
unrooted (a ∷ last) alone e = clash (a == 47) e (split_none a last alone).0

back_path : (q last : List ℕ) → IsPath (q ++ 47 ∷ last) → parent last ≡ None → IsPath last
back_path q last h alone Empty e = h EmptyPart (any_behind is_nothing q last (ap (list_any is_nothing) (parts_alone last alone) ∙ or_left (is_nothing last) false e))
back_path q last h alone Absolute e = unrooted last alone e
back_path q last h alone DotPart e = h DotPart (any_behind is_dots q last e)
back_path q last h alone EmptyPart e = h EmptyPart (any_behind is_nothing q last e)
back_path q last h alone NulByte e = h NulByte (list_any-append (λ b. b == 0) q (47 ∷ last) ∙ or_right (list_any (λ b. b == 0) q) (list_any (λ b. b == 0) (47 ∷ last)) e)
back_path q last h alone NotText e = h NotText (λ u. e (behind_text q last u))
back_path q last h alone TooLong e = ⊎_elim (λ long. h TooLong (inl (omega (arith, long, length-append q (47 ∷ last))))) (λ part. h TooLong (inr (any_behind is_long q last part))) e

pub name_is : (p dir : List ℕ) → parent p ≡ Some dir → IsPath p → IsPath (drop (length dir + 1) p) × (parent (drop (length dir + 1) p) ≡ None)
name_is p dir e h =
    let s = split p dir e in
    let at : drop (length dir + 1) p ≡ s.name = ap (drop (length dir + 1)) s.is ∙ drop-append-add dir (47 ∷ s.name) 1 in
    (subst IsPath (sym at) (back_path dir s.name (subst IsPath s.is h) s.alone), ap parent at ∙ s.alone)

-- ---- names of trials

pub link_is : codes "var/pkg/stage/try/link" ≡ link_name
unfolding link_name
link_is = refl

pub file_is : codes "var/pkg/stage/try/file" ≡ file_name
unfolding file_name
file_is = refl

pub at_records : (test : List ℕ → Bool) → test (codes "var/pkg") ≡ test records_name
unfolding records_name
at_records test = refl
