-- What packages mean, as what a request wants at each path.
use Rattle.std.specs.Prelude.{ℕ, cond, List, [], ◌∷◌, map, Option, Some, None}
use Rattle.std.specs.List.{All}
use Rattle.ips_text.specs.Ancestry.{same_path}
use Rattle.ips_text.specs.Quote.{AreBytes}
use Rattle.ips_digest.specs.Name.{spelling}
use Rattle.ips_meaning.specs.declared.entry.Entry.{Entry}
use Rattle.ips_meaning.specs.declared.entry.Entry.TheVariants.{Dir, File, Link, Hard}
use Rattle.ips_after.specs.Request.{Want, WantDir, WantFile, WantHard, WantLink, Wanted}

-- An entry as what is wanted: a payload is told by the spelling of its name, a path by its bytes.
abbrev pub wanted_of : Entry → Wanted
wanted_of (Dir mode) = WantDir mode
wanted_of (File payload mode preserve) = WantFile (spelling payload) mode preserve
wanted_of (Link target) = WantLink target
wanted_of (Hard to) = WantHard to.bytes

-- What is wanted at a path: the entry that the list has there.
abbrev pub wanted_among : List (List ℕ × Entry) → List ℕ → Option Wanted
wanted_among [] q = None
wanted_among (e ∷ entries) q = cond (same_path e.0 q) (Some (wanted_of e.1)) (wanted_among entries q)

-- Entries by their paths as a Want.
abbrev pub want_of : List (List ℕ × Entry) → Want
want_of entries = record { at = wanted_among entries; keys = map (λ e. e.0) entries }

-- What a symbolic link of the entry says is bytes.
abbrev pub HasLinkBytes : Entry → Type 0
HasLinkBytes (Dir mode) = Unit {0}
HasLinkBytes (File payload mode preserve) = Unit {0}
HasLinkBytes (Link target) = AreBytes target
HasLinkBytes (Hard to) = Unit {0}

-- What symbolic links say is bytes, as each text of a program is.
abbrev pub AreLinkBytes : List (List ℕ × Entry) → Type 0
AreLinkBytes entries = All (λ e. HasLinkBytes e.1) entries
