use Rattle.std.proofs.Common.{◌≡◌, ℕ, ◌+◌, ◌<◌, Bool, not, List, [], Option, IfSome, length, get_or, sym, ◌∙◌, ap, subst, arith}
use Rattle.std.proofs.lemmas.List.{get_or-map}
use Rattle.ips_text.specs.Kept.{Kept}
use Rattle.ips_outside.specs.Children.{path_bytes}
use Rattle.ips_outside.specs.Image.{Image}
use Rattle.ips_outside.specs.State.{State}
use Rattle.ips_outside.proofs.Reading.{answered, reads_then}
use Rattle.ips_ways.specs.Ways.{is_dir_or_free}
use Rattle.ips_ways.proofs.First.{IsFirstOf, first_more, next_within, first_found, none_found}
use Rattle.ips_ways.proofs.looking.first_in_the_way.Goals as goal

pub loop-place-preserved : goal.loop-place-preserved
loop-place-preserved g c =
    let o = g.S.Source.outside in
    let inv = c.loop-place.invariant in
    let n = c.loop-place.place in
    let paths = c.args.paths.now in
    let p = c.index-paths-place.result in
    let t = (o.state c.args.source.now).held in
    let here : get_or (path_bytes paths) n [] ≡ p.bytes = get_or-map (λ (k : Kept). k.bytes) paths n p [] c.loop-place-test.true ∙ sym (ap (λ (k : Kept). k.bytes) c.index-paths-place.is) in
    record {
      reads = reads_then o c.args.source.now c.loop-place.source c.is_in_the_way.new.source _ ⊥ inv.reads c.is_in_the_way.ensures.reads (answered c.is_in_the_way.result _ c.in-Ok.is) (λ f. absurd f);
      within = subst (λ (x : Option ℕ). IfSome x (λ at. at < length paths)) (sym c.first_with-first.ensures) (next_within (path_bytes paths) n (length paths) c.in-Ok.blocked c.loop-place.first c.loop-place-test.true inv.within);
      first = λ told.
          let found : c.in-Ok.blocked ≡ not (is_dir_or_free (get_or (path_bytes paths) n []) (t.look (get_or (path_bytes paths) n []))) =
          c.in-Ok.ensures.found (inv.reads.call.same_kind ∙ told) ∙ ap (λ (u : State). not (is_dir_or_free p.bytes (u.held.look p.bytes))) inv.reads.kept ∙ sym (ap (λ (q : List ℕ). not (is_dir_or_free q (t.look q))) here) in
          subst (IsFirstOf t (path_bytes paths) (n + 1)) (sym c.first_with-first.ensures) (first_more t (path_bytes paths) n c.in-Ok.blocked c.loop-place.first found (inv.first told));
    }

pub returns-clause-some : goal.returns-clause-some
returns-clause-some g c = λ told.
    first_found (g.S.Source.outside.state c.args.source.now).held c.args.paths.now c.loop-place.place (omega (arith, c.loop-place-test.false)) c.loop-place.first c.loop-place.invariant.within (c.loop-place.invariant.first told)

pub returns-clause-none : goal.returns-clause-none
returns-clause-none g c = λ told.
    none_found (g.S.Source.outside.state c.args.source.now).held c.args.paths.now c.loop-place.place (omega (arith, c.loop-place-test.false)) c.loop-place.first (c.loop-place.invariant.first told)
