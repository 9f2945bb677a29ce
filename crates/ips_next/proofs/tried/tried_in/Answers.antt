use Rattle.std.proofs.Common.{◌≡◌, ◌∷◌, ◌++◌, [], List, map, take, take_all, slice_get, sym, ◌∙◌, ap, arith}
use Rattle.std.proofs.lemmas.List.{map_push}
use Rattle.ips_problem.specs.Held.{posed_of}
use Rattle.ips_next.specs.Tried.{Tried, seen_tried, tried_rows}
use Rattle.ips_next.proofs.Fronts.{front_more, tried_at, tried_there, as_many_tried}
use Rattle.ips_next.proofs.tried.tried_in.Goals as goal

pub loop-stem-preserved : goal.loop-stem-preserved
loop-stem-preserved c =
    let p = posed_of c.args.problem.now in
    let i = c.loop-stem.stem in
    let t = c.in_ok-tried.tried in
    let same : seen_tried t ≡ tried_at t.stem (slice_get p.rows i) = ap (λ (os : List _). record { stem = t.stem; candidates = os }) c.in_ok-tried.ensures.candidates in
    let there = tried_there p.stems p.rows i t.stem c.in_ok-tried.ensures.stem in
    ap (map seen_tried) c.in_ok-push.ensures.items ∙ map_push seen_tried c.loop-stem.stems.items t
    ∙ ap (λ (l : List Tried). l ++ seen_tried t ∷ []) c.loop-stem.invariant
    ∙ ap (λ (x : Tried). take i (tried_rows p.stems p.rows) ++ x ∷ []) same
    ∙ sym (front_more (tried_rows p.stems p.rows) i (tried_at t.stem (slice_get p.rows i)) there)

pub returns : goal.returns
returns c =
    let p = posed_of c.args.problem.now in
    c.loop-stem.invariant ∙ take_all c.loop-stem.stem (tried_rows p.stems p.rows) (omega (arith, c.stems-stem-end.ensures, as_many_tried p.stems p.rows))
