use Rattle.std.proofs.Common.{◌∙◌, ℕ, List, [], ◌∷◌, ◌++◌, map, take, slice_get, Some, append_assoc, sym, ap, refl}
use Rattle.std.proofs.lemmas.Option.{slice_get-get_or}
use Rattle.ips_outside.specs.Running.{Run}
use Rattle.ips_actuate.specs.Running.{succeeded}
use Rattle.ips_actuate.proofs.running.run_all.Goals as goal

pub returns-in-Ok-clause-ran : goal.returns-in-Ok-clause-ran
returns-in-Ok-clause-ran g c = λ told.
    let list = c.args.list.now in
    let place = sym c.loop-words.invariant.place in
    let got = slice_get-get_or list c.loop-words.words-index c.words-item.result c.loop-words-test.true ∙ ap (λ (w : List (List ℕ)). Some w) (sym c.words-item.is) in
    let now = c.in-Ok.ensures.ran (c.loop-words.invariant.kind ∙ told)
    ∙ ap (λ (w : List (List ℕ)). g.P.Spawner.running.ran c.loop-words.spawner ++ record { words = w; status = c.in-Ok.status } ∷ []) c.as_slice.ensures
    ∙ ap (λ (ran : List Run). ran ++ record { words = c.words-item.result; status = c.in-Ok.status } ∷ []) (c.loop-words.invariant.ran told)
    ∙ append_assoc (g.P.Spawner.running.ran c.args.spawner.now) _ _ in (
      map succeeded (take c.loop-words.index list) ++ record { words = c.words-item.result; status = c.in-Ok.status } ∷ [],
      now ∙ ap (λ (n : ℕ). g.P.Spawner.running.ran c.args.spawner.now ++ (map succeeded (take n list) ++ record { words = c.words-item.result; status = c.in-Ok.status } ∷ [])) place,
      (c.words-item.result, ap (λ (n : ℕ). slice_get list n) (sym place) ∙ got, c.in-Ok.status-test.1, refl),
    )

pub returns-in-Err-clause-ran : goal.returns-in-Err-clause-ran
returns-in-Err-clause-ran g c = λ told.
    let list = c.args.list.now in
    let place = sym c.loop-words.invariant.place in
    let got = slice_get-get_or list c.loop-words.words-index c.words-item.result c.loop-words-test.true ∙ ap (λ (w : List (List ℕ)). Some w) (sym c.words-item.is) in
    let now = c.in-Err.ensures.kept (c.loop-words.invariant.kind ∙ told) ∙ c.loop-words.invariant.ran told in (
      map succeeded (take c.loop-words.index list),
      now ∙ ap (λ (n : ℕ). g.P.Spawner.running.ran c.args.spawner.now ++ map succeeded (take n list)) place,
      (c.words-item.result, ap (λ (n : ℕ). slice_get list n) (sym place) ∙ got, refl),
    )
