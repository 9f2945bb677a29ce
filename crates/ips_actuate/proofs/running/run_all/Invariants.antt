use Rattle.std.proofs.Common.{◌≡◌, ◌++◌, IsTrue, map, take}
use Rattle.ips_actuate.specs.Running.{succeeded}
use Rattle.ips_actuate.proofs.running.run_all.Given as goal

abbrev pub invariant-loop-words : goal.invariant-loop-words
invariant-loop-words g l = record {
  place : l.index ≡ l.words-index;
  kind : g.P.Spawner.running.tells l.spawner ≡ g.P.Spawner.running.tells l.fn.spawner;
  faults : g.P.Spawner.running.faults l.spawner ≡ g.P.Spawner.running.faults l.fn.spawner;
  ran : IsTrue (g.P.Spawner.running.tells l.fn.spawner) → g.P.Spawner.running.ran l.spawner ≡ g.P.Spawner.running.ran l.fn.spawner ++ map succeeded (take l.words-index l.list);
}
