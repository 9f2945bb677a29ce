use Rattle.std.proofs.Common.{◌≡◌, ◌++◌, map, take}
use Rattle.ips_outside.specs.Children.{path_bytes}
use Rattle.ips_sends.specs.Judged.{payload_dir}
use Rattle.ips_prepare.specs.Prepared.{names_of}
use Rattle.ips_prepare.proofs.directories.push_dirs.Given as goal

abbrev pub invariant-loop-content : goal.invariant-loop-content
invariant-loop-content l = path_bytes l.ways.items ≡ path_bytes l.fn.ways.items ++ map (payload_dir l.publisher) (names_of (take l.content-index l.contents))
