use Rattle.std.proofs.Common.{◌≡◌, ℕ, ◌+◌, ◌≤◌, List, [], ◌∷◌, ◌++◌, length, Option, Some, sym, ◌∙◌, subst, arith, Bor}
use Rattle.std.specs.Option.{option_map}
use Rattle.ips_change.specs.declared.survey.row.Row.{Row}
use Rattle.ips_change.specs.declared.survey.said.Said.{Said}
use Rattle.ips_change.specs.declared.survey.said.Spoken.{Spoken}
use Rattle.ips_change.specs.survey.Lines.{first_line, rows_taken, spoken_taken}
use Rattle.ips_change.proofs.survey.Filling.{Filled, SoFar, all_looked, is_table, line_added, moves, next_found, none_next, none_yet}
use Rattle.ips_change.proofs.survey.merging.fill.Goals as goal

pub loop-line-init : goal.loop-line-init
loop-line-init c =
    let rows = c.args.rows.now in
    let spoken = c.args.spoken.now in
    record {
      rows_within = omega arith;
      spoken_within = omega arith;
      filled = subst (λ (l : List Row). SoFar rows spoken [] rows [] spoken l c.args.table.now.said.items) (sym c.requires.no_rows)
          (subst (λ (l : List (Option Said)). SoFar rows spoken [] rows [] spoken [] l) (sym c.requires.none_said) (none_yet rows spoken c.requires.rows c.requires.spoken));
    }

pub loop-line-preserved : goal.loop-line-preserved
loop-line-preserved c =
    let rows = c.args.rows.now in
    let spoken = c.args.spoken.now in
    let i = c.loop-line.i in
    let j = c.loop-line.j in
    let k = c.rows_taken-i.result in
    let l = c.spoken_taken-j.result in
    let line = c.in-Some.line in
    let front = c.loop-line.table.rows.items in
    let said = c.loop-line.table.said.items in
    let row = option_map (λ (x : Bor Row). x.now) c.get.result in
    let one = option_map (λ (x : Bor Spoken). x.now) c.get-in-loop-line.result in
    let at = next_found rows i c.get.result c.get.ensures.lookup in
    let there = next_found spoken j c.get-in-loop-line.result c.get-in-loop-line.ensures.lookup in
    let is : first_line row one ≡ Some line = sym c.first.ensures ∙ c.in-Some.is in
    let go = moves rows spoken i j row one line at there is c.loop-line.invariant.rows_within c.loop-line.invariant.spoken_within in
    let step = line_added rows spoken i j front said row one line at there is c.loop-line.invariant.filled in
    record {
      rows_within = subst (λ (n : ℕ). i + n ≤ length rows) (sym c.rows_taken-i.ensures) go.rows_within;
      spoken_within = subst (λ (n : ℕ). j + n ≤ length spoken) (sym c.spoken_taken-j.ensures) go.spoken_within;
      filled = subst (λ (n : ℕ). Filled rows spoken (i + n) (j + l) c.add.new.table.rows.items c.add.new.table.said.items) (sym c.rows_taken-i.ensures)
          (subst (λ (n : ℕ). Filled rows spoken (i + rows_taken line.origin) (j + n) c.add.new.table.rows.items c.add.new.table.said.items) (sym c.spoken_taken-j.ensures)
          (subst (λ (x : List Row). Filled rows spoken (i + rows_taken line.origin) (j + spoken_taken line.origin) x c.add.new.table.said.items) (sym c.in_ok-add.ensures.row)
          (subst (λ (x : List (Option Said)). Filled rows spoken (i + rows_taken line.origin) (j + spoken_taken line.origin) (front ++ line.row ∷ []) x) (sym c.in_ok-add.ensures.said) step)));
    }

pub returns-clause-table : goal.returns-clause-table
returns-clause-table c = λ r of named.
    let rows = c.args.rows.now in
    let spoken = c.args.spoken.now in
    let i = c.loop-line.i in
    let j = c.loop-line.j in
    let row = option_map (λ (x : Bor Row). x.now) c.get.result in
    let one = option_map (λ (x : Bor Spoken). x.now) c.get-in-loop-line.result in
    let at = next_found rows i c.get.result c.get.ensures.lookup in
    let there = next_found spoken j c.get-in-loop-line.result c.get-in-loop-line.ensures.lookup in
    let ends = none_next rows spoken i j row one at there (sym c.first.ensures ∙ c.in_default.is) in
    is_table r rows spoken i j c.loop-line.table.rows.items c.loop-line.table.said.items c.loop-line.invariant.filled ends.0 ends.1 of named

pub returns-clause-looked : goal.returns-clause-looked
returns-clause-looked c = λ t all.
    all_looked c.args.rows.now c.args.spoken.now c.loop-line.i c.loop-line.j c.loop-line.table.rows.items c.loop-line.table.said.items c.loop-line.invariant.filled t all
