use Rattle.std.proofs.Common.{◌≡◌, ◌∷◌, [], ℕ, List, Option, Vec, Global, map, sym, ◌∙◌, ap}
use Rattle.std.specs.List.{flat_map}
use Rattle.std.specs.Map.Iter.{deref}
use Rattle.std.proofs.lemmas.List.{map-append}
use Rattle.std.proofs.lemmas.Map.Iter.{iter_end}
use Rattle.ips_aside.specs.Ways.{bytes_if_any}
use Rattle.ips_image_steps.specs.saving.Saving.{last_at, saved_at, way_at, way_placed}
use Rattle.ips_image_steps.proofs.saving.Last.{last_then}
use Rattle.ips_image_steps.proofs.saving.filling.put_ways.Goals as goal

pub loop-path-preserved : goal.loop-path-preserved
loop-path-preserved c =
    let standing : Option (List ℕ) = bytes_if_any c.args.ways.now.standing in
    let k = c.in-Some.path.now in
    record {
      so_far = λ q.
          last_then (way_placed standing) (map deref c.loop-path.yielded) k q (saved_at c.args.saved.now q) (saved_at c.loop-path.saved q) (saved_at c.put_way.new.saved q) (c.loop-path.invariant.so_far q)
          (c.in_ok-put_way.ensures q ∙ ap (λ (p : List ℕ). last_at (way_at standing p) q (saved_at c.loop-path.saved q)) c.deref.ensures.value)
          ∙ ap (λ (l : List (Vec ℕ Global)). last_at (flat_map (way_placed standing) l) q (saved_at c.args.saved.now q)) (sym (map-append deref c.loop-path.yielded (c.in-Some.path ∷ [])));
    }

pub returns : goal.returns
returns c = λ q.
    let standing : Option (List ℕ) = bytes_if_any c.args.ways.now.standing in
    let all : map deref c.loop-path.yielded ≡ c.args.ways.now.above.keys = (iter_end deref _ _ _ _ _ _ (c.into_iter-path-iterator.ensures.into_iter_gives ∙ c.iter-path-items.ensures.rest) c.loop-path.yielded_by c.in-None.is c.next.ensures.steps).0 in
    c.loop-path.invariant.so_far q ∙ ap (λ (l : List (Vec ℕ Global)). last_at (flat_map (way_placed standing) l) q (saved_at c.args.saved.now q)) all
