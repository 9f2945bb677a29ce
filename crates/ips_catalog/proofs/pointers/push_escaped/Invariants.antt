use Rattle.std.proofs.Common.{◌≡◌, ◌++◌, string_bytes}
use Rattle.std.specs.List.{flat_map}
use Rattle.std.specs.Str.Iter.{chars_rest}
use Rattle.ips_catalog.specs.Pointer.{escaped}
use Rattle.ips_catalog.proofs.pointers.push_escaped.Given as goal

abbrev pub invariant-loop-character : goal.invariant-loop-character
invariant-loop-character l =
    string_bytes l.out ++ flat_map escaped (chars_rest l.character-iterator) ≡ string_bytes l.fn.out ++ flat_map escaped l.key
