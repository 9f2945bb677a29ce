use Rattle.std.proofs.Common.{rules, refl, sym, ◌∙◌, ◌-◌, Bool, true, false, not, ◌||◌, ◌≡◌, ◌≤◌, ◌+◌, ℕ, List, ap, length, arith, length-append}
use Rattle.std.proofs.lemmas.Bool.{leb-true}
use Rattle.ips_outside.specs.Spawning.{words_text}
use Rattle.ips_outside.proofs.Spawns.{runs_more, still_ended, text_more}
use Rattle.ips_outside.proofs.spawner.MemSpawnerSpawner.run.Goals as goal

not_refused : (listed fits : Bool) → (listed || not fits) ≡ false → fits ≡ true
not_refused true fits is = cc
not_refused false true is = refl
not_refused false false is = cc

pub invariant_of-self-2 : goal.invariant_of-self-2
invariant_of-self-2 c =
    let inside = c.self.inside in
    let done = still_ended inside.marks.items c.write_run.new.marks.items c.args.words.now c.status_at-status.result c.self.invariant.0 c.write_run.ensures.marks in
    let text = text_more inside.marks.items c.write_run.new.marks.items c.args.words.now c.status_at-status.result c.self.invariant.0 c.write_run.ensures.marks inside.text.items c.write_run.new.text.items c.self.invariant.1 c.write_run.ensures.text in
    let fits : c.fits-fits.result ≡ true = not_refused _ _ (sym c.fails.ensures.fails ∙ c.if-fails.false) in
    let within = leb-true (length (words_text c.args.words.now)) (inside.room - c.len.result) (sym c.fits-fits.ensures ∙ fits) in
    let free : length inside.text.items + length (words_text c.args.words.now) ≤ inside.room = omega (arith, within, c.len.ensures, c.self.invariant.3) in
    let long = ap (λ (t : List ℕ). length t) c.write_run.ensures.text in
    let sum = length-append inside.text.items (words_text c.args.words.now) in
    (done, text, c.write_run.ensures.same, omega (arith, free, long, sum), search rules, search rules)

pub returns-clause-runs : goal.returns-clause-runs
returns-clause-runs c =
    let inside = c.self.inside in
    let more = runs_more inside.marks.items c.write_run.new.marks.items c.args.words.now c.status_at-status.result c.self.invariant.0 c.write_run.ensures.marks in
    search (rules, more)
