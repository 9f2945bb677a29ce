-- Keys, however they are held.
use Rattle.std.specs.Prelude.{ℕ, List, codes}
use Rattle.ips_action.specs.declared.key.Known.{Known}
use Rattle.ips_action.specs.declared.key.Known.TheVariants as known
use Rattle.ips_action.specs.declared.key.Named.{Named}
use Rattle.ips_action.specs.declared.key.Named.TheVariants as named

-- the bytes of a key that stands in many actions
abbrev pub known_text : Known → List ℕ
known_text known.Path = codes "path"
known_text known.Mode = codes "mode"
known_text known.Owner = codes "owner"
known_text known.Group = codes "group"
known_text known.Target = codes "target"
known_text known.Chash = codes "chash"
known_text known.Size = codes "pkg.size"
known_text known.Csize = codes "pkg.csize"
known_text known.ContentHash = codes "pkg.content-hash"
known_text known.ElfArch = codes "elfarch"
known_text known.ElfBits = codes "elfbits"
known_text known.ElfHash = codes "elfhash"
known_text known.Name = codes "name"
known_text known.Value = codes "value"
known_text known.Fmri = codes "fmri"
known_text known.Type = codes "type"

-- the bytes of a key
abbrev pub key_text : Named → List ℕ
key_text (named.Known k) = known_text k
key_text (named.Other text) = text.value
