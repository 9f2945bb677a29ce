use Rattle.std.proofs.Common.{◌≡◌, ℕ, List, false, not, Option, None, Bor, inl, inr, subst, sym, ◌∙◌, ap, arith}
use Rattle.std.specs.Prelude.{IfNone}
use Rattle.std.proofs.lemmas.Bool.{and_from, false_from_ne_true, not_from_false, true≢false}
use Rattle.ips_text.specs.Ancestry.{covers, parent, same_path}
use Rattle.ips_text.proofs.Ancestry.{covers-self, covers_trans, parent_covers, parent_length, same_path-true}
use Rattle.ips_after.specs.Change.{reached}
use Rattle.ips_after.proofs.Changed.{reach_of, reached_from}
use Rattle.ips_conflict.specs.Index.{has_path}
use Rattle.ips_conflict.proofs.Kept.{found_any}
use Rattle.ips_conflict.proofs.Marked.{no_parent, up_one}
use Rattle.ips_due.proofs.outstanding.going.goes_with.Goals as goal

pub returns-then-contains : goal.returns-then-contains
returns-then-contains c =
    let test = has_path c.args.going.now in
    let path = c.args.path.now in
    sym (reached_from test path path (covers-self path) (sym (c.contains.ensures ∙ found_any path c.args.going.now.keys) ∙ c.if-contains.true))

pub loop-dir-init : goal.loop-dir-init
loop-dir-init c =
    let test = has_path c.args.going.now in
    let path = c.args.path.now in
    let none : test path ≡ false = sym (c.contains.ensures ∙ found_any path c.args.going.now.keys) ∙ c.if-contains.false in
    record {
      over = covers-self path;
      above = λ p over has. and_from (covers p path) (not (same_path p path)) over (not_from_false (same_path p path) (false_from_ne_true _ (λ same. true≢false (sym has ∙ ap test (same_path-true p path same) ∙ none))));
    }

pub returns-then-contains-2 : goal.returns-then-contains-2
returns-then-contains-2 c =
    let test = has_path c.args.going.now in
    let dir = c.in-Some.dir.now in
    let over = covers_trans dir c.loop-dir.at.now c.args.path.now (parent_covers c.loop-dir.at.now dir c.in-Some.ensures.some) c.loop-dir.invariant.over in
    sym (reached_from test dir c.args.path.now over (sym (c.contains-in-Some.ensures ∙ found_any dir c.args.going.now.keys) ∙ c.if-contains-2.true))

pub loop-dir-smaller : goal.loop-dir-smaller
loop-dir-smaller c = let less = parent_length c.loop-dir.at.now c.in-Some.dir.now c.in-Some.ensures.some in omega (arith, less)

pub loop-dir-preserved : goal.loop-dir-preserved
loop-dir-preserved c =
    let test = has_path c.args.going.now in
    let dir = c.in-Some.dir.now in
    let none : test dir ≡ false = sym (c.contains-in-Some.ensures ∙ found_any dir c.args.going.now.keys) ∙ c.if-contains-2.false in
    record {
      over = covers_trans dir c.loop-dir.at.now c.args.path.now (parent_covers c.loop-dir.at.now dir c.in-Some.ensures.some) c.loop-dir.invariant.over;
      above = λ p over has. elim (up_one p c.loop-dir.at.now dir c.in-Some.ensures.some (c.loop-dir.invariant.above p over has)) [ inl here ↦ absurd (true≢false (sym has ∙ ap test here ∙ none)) | inr below ↦ below ];
    }

pub returns : goal.returns
returns c =
    let test = has_path c.args.going.now in
    let path = c.args.path.now in
    let top : parent c.loop-dir.at.now ≡ None = subst (λ (o : Option (Bor (List ℕ))). IfNone o (parent c.loop-dir.at.now ≡ None)) c.in_default.is c.parent.ensures.none in
    sym (false_from_ne_true (reached test path) (λ yes. let r = reach_of test path yes in no_parent r.at c.loop-dir.at.now top (c.loop-dir.invariant.above r.at r.over r.holds)))
