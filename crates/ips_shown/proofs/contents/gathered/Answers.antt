use Rattle.std.proofs.Common.{◌∙◌, ◌+◌, ◌++◌, ◌∷◌, [], ℕ, List, take, take_all, ap, sym, subst, arith}
use Rattle.ips_manifest.specs.declared.line.Line.{Line}
use Rattle.ips_shown.proofs.Gathered.{Gathered, gathered_path, gathered_none}
use Rattle.ips_shown.proofs.contents.gathered.Goals as goal
use Rattle.ips_shown.proofs.contents.gathered.Goals.{in-Some+in_ok-new+in_ok-push, in_default}

pub loop-line-preserved : goal.loop-line-preserved
loop-line-preserved c =
    let s = c.args.settings.now in
    let lines = c.args.lines.now in
    let i = c.loop-line.line-index in
    let line = c.line-item.result in
    elim c.match-path_of.branch [
      | in-Some+in_ok-new+in_ok-push w ↦
          let added = ap (λ v. v.items) w.paths-is ∙ w.in_ok-push.ensures.items ∙ ap (λ (p : List ℕ). c.loop-line.paths.items ++ p ∷ []) w.in_ok-new.ensures in
          subst (Gathered s (take (i + 1) lines)) (sym added) (gathered_path s lines i line c.loop-line.paths.items w.in-Some.path.now c.loop-line-test.true c.line-item.is c.loop-line.invariant w.in-Some.ensures.gives w.in-Some.ensures.proper)
      | in_default w ↦
          subst (Gathered s (take (i + 1) lines)) (sym (ap (λ v. v.items) w.paths-is)) (gathered_none s lines i line c.loop-line.paths.items c.loop-line-test.true c.line-item.is c.loop-line.invariant w.in_default.ensures.none)
    ]

pub returns-clause-each : goal.returns-clause-each
returns-clause-each c = (subst (λ (l : List Line). Gathered c.args.settings.now l c.loop-line.paths.items) (take_all c.loop-line.line-index c.args.lines.now (omega (arith, c.loop-line-test.false))) c.loop-line.invariant).0
