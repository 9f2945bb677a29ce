use Rattle.std.proofs.Common.{◌≡◌, ◌+◌, ◌∙◌, ◌||◌, List, ℕ, Some, ap, arith, option_map, slice_get, sym, take, bytes_eq}
use Rattle.ips_catalog.specs.Listed.{Listed}
use Rattle.ips_request.specs.Named.{listed_stems}
use Rattle.ips_request.specs.Stems.{has}
use Rattle.ips_request.proofs.Inserted.{has_next, number_next, number_there}
use Rattle.ips_request.proofs.known.add_stems.Goals as goal
use Rattle.ips_request.proofs.known.add_stems.Goals.{in-Some+in_ok-new+in_ok-add_stem, in_default}

pub loop-number-preserved : goal.loop-number-preserved
loop-number-preserved c = λ x.
    let stem = λ (l : Listed). l.stem in
    let catalog = c.args.catalog.now in
    let i = c.loop-number.number in
    elim c.match-stem.branch [
      | in-Some+in_ok-new+in_ok-add_stem w ↦
          let there : Some w.in-Some.stem.now ≡ option_map stem (slice_get catalog i) = ap (option_map (λ b. b.now)) (sym w.in-Some.is) ∙ c.stem.ensures in
          ap (λ k. has x k.keys) w.known-is
          ∙ has_next x w.in-Some.stem.now (listed_stems (take i catalog)) (listed_stems (take (i + 1) catalog)) c.args.known.now.keys c.loop-number.known.keys w.add_stem.new.known.keys
          (number_next stem catalog i w.in-Some.stem.now there) (c.loop-number.invariant x)
          (w.in_ok-add_stem.ensures x ∙ ap (λ (s : List ℕ). bytes_eq x s || has x c.loop-number.known.keys) w.in_ok-new.ensures)
      | in_default w ↦ absurd (number_there stem catalog i (omega arith) (ap (option_map (λ b. b.now)) (sym w.in_default.is) ∙ c.stem.ensures))
    ]
