use Rattle.std.proofs.Common.{◌≡◌, ◌∙◌, ◌<◌, sym, ap, subst, cond, List, ℕ, Vec, Global, Option, Some, None, length}
use Rattle.std.specs.Prelude.{IfSome, codes}
use Rattle.std.specs.Map.{lookup}
use Rattle.std.proofs.lemmas.Option.{slice_get_within}
use Rattle.ips_action.specs.Attrs.{is_same}
use Rattle.ips_conflict.specs.Key.{value_of}
use Rattle.ips_conflict.specs.Index.{place_of, first_counted}
use Rattle.ips_conflict.proofs.Indexed.{counts_as}
use Rattle.ips_conflict.proofs.Kept.{found_at, found_insert, once}
use Rattle.ips_conflict.proofs.index.count.Goals as goal

pub first_of-first-requires-clause-j : goal.first_of-first-requires-clause-j
first_of-first-requires-clause-j c =
    let P : Option ℕ → Type 0 = λ o. IfSome o (λ j. j < length c.args.placed.now) in
    subst P (sym (found_at c.in_ok-key.key.items c.args.files.now.entries) ∙ sym c.in_ok-j.ensures.old ∙ c.in-Some.is) (c.requires.counted c.in_ok-key.key.items)

pub first_of-first-requires-clause-i : goal.first_of-first-requires-clause-i
first_of-first-requires-clause-i c = slice_get_within c.args.placed.now c.args.i c.args.item.now c.requires.there

pub returns-in_default : goal.returns-in_default
returns-in_default c = λ q.
    let none : place_of c.args.files.now c.in_ok-key.key.items ≡ None = sym (found_at c.in_ok-key.key.items c.args.files.now.entries) ∙ sym c.in_ok-j.ensures.old ∙ c.in_default.is in
    ap (λ (es : List (Vec ℕ Global × ℕ)). lookup (λ (k : Vec ℕ Global). is_same q k.items) es) c.in_ok-j.ensures.entries
    ∙ found_insert c.in_ok-key.key c.args.i q c.args.files.now.entries
    ∙ counts_as c.args.placed.now c.args.files.now q c.in_ok-key.key.items c.args.item.now c.args.i c.args.i (c.in_ok-key.ensures.items ∙ c.as_bytes-path.ensures.value ∙ c.value.ensures.value ∙ ap (value_of (codes "path")) c.action.ensures)
    (ap (λ (o : Option ℕ). first_counted c.args.placed.now o c.args.i) (sym none))

pub returns : goal.returns
returns c = λ q.
    let some : place_of c.args.files.now c.in_ok-key.key.items ≡ Some c.in-Some.j = sym (found_at c.in_ok-key.key.items c.args.files.now.entries) ∙ sym c.in_ok-j.ensures.old ∙ c.in-Some.is in
    let first = c.first_of-first.result in
    let mid = c.insert.new.self in
    ap (λ (es : List (Vec ℕ Global × ℕ)). lookup (λ (k : Vec ℕ Global). is_same q k.items) es) c.in_ok-insert.ensures.entries
    ∙ found_insert c.in_ok-again.again first q mid.entries
    ∙ ap (λ (k : List ℕ). cond (is_same q k) (Some first) (place_of mid q)) (c.in_ok-again.ensures.items ∙ sym c.in_ok-key.ensures.items)
    ∙ ap (cond (is_same q c.in_ok-key.key.items) (Some first)) (ap (λ (es : List (Vec ℕ Global × ℕ)). lookup (λ (k : Vec ℕ Global). is_same q k.items) es) c.in_ok-j.ensures.entries ∙ found_insert c.in_ok-key.key c.args.i q c.args.files.now.entries)
    ∙ sym (once (is_same q c.in_ok-key.key.items) (Some first) (Some c.args.i) (place_of c.args.files.now q))
    ∙ counts_as c.args.placed.now c.args.files.now q c.in_ok-key.key.items c.args.item.now c.args.i first (c.in_ok-key.ensures.items ∙ c.as_bytes-path.ensures.value ∙ c.value.ensures.value ∙ ap (value_of (codes "path")) c.action.ensures)
    (c.first_of-first.ensures ∙ ap (λ (o : Option ℕ). first_counted c.args.placed.now o c.args.i) (sym some))
