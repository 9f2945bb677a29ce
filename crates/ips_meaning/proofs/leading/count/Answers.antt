use Rattle.std.proofs.Common.{◌≡◌, ◌∙◌, ◌<◌, sym, ap, subst, cond, ℕ, Option, Some, None, refl, length, ◌||◌}
use Rattle.std.specs.Prelude.{IfSome}
use Rattle.ips_action.specs.Attrs.{is_same}
use Rattle.ips_text.proofs.Truths.{or_twice}
use Rattle.ips_conflict.proofs.Kept.{once}
use Rattle.ips_meaning.specs.Places.{first_of, place_of, has_path}
use Rattle.ips_meaning.proofs.Counted.{counts_as}
use Rattle.ips_meaning.proofs.leading.count.Goals as goal

pub first_of-requires-clause-j : goal.first_of-requires-clause-j
first_of-requires-clause-j c =
    let P : Option ℕ → Type 0 = λ o. IfSome o (λ j. j < length c.args.kept.now) in
    subst P (sym c.in_ok-j.ensures.old ∙ c.in-Some.is) c.requires.counted

pub returns-in_default-clause-places : goal.returns-in_default-clause-places
returns-in_default-clause-places c = λ q.
    let none : place_of c.args.paths.now c.args.path.now ≡ None = sym c.in_ok-j.ensures.old ∙ c.in_default.is in
    c.in_ok-j.ensures.places q ∙ counts_as c.args.kept.now c.args.paths.now q c.args.path.now c.args.path.now c.args.i c.args.i refl (ap (λ (o : Option ℕ). first_of c.args.kept.now o c.args.i) (sym none))

pub returns-clause-places : goal.returns-clause-places
returns-clause-places c = λ q.
    let old : place_of c.args.paths.now c.args.path.now ≡ Some c.in-Some.j = sym c.in_ok-j.ensures.old ∙ c.in-Some.is in
    let first = c.first_of.result in
    let same = is_same q c.args.path.now in
    c.in_ok-put.ensures.places q
    ∙ ap (cond same (Some first)) (c.in_ok-j.ensures.places q)
    ∙ sym (once same (Some first) (Some c.args.i) (place_of c.args.paths.now q))
    ∙ counts_as c.args.kept.now c.args.paths.now q c.args.path.now c.args.path.now c.args.i first refl (c.first_of.ensures ∙ ap (λ (o : Option ℕ). first_of c.args.kept.now o c.args.i) (sym old))

pub returns-clause-paths : goal.returns-clause-paths
returns-clause-paths c = λ q.
    c.in_ok-put.ensures.paths q ∙ ap (λ b. is_same q c.args.path.now || b) (c.in_ok-j.ensures.paths q) ∙ sym (or_twice (is_same q c.args.path.now) (has_path c.args.paths.now q))
