use Rattle.std.proofs.Common.{◌≡◌, take}
use Rattle.ips_request.specs.Stems.{stems_of, put_all}
use Rattle.ips_request.proofs.stems.add_texts.Given as goal

abbrev pub invariant-loop-text : goal.invariant-loop-text
invariant-loop-text l = stems_of l.stems.keys ≡ put_all (stems_of l.initial.stems.keys) (take l.text-index l.texts)
