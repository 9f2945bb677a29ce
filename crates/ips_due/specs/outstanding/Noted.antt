-- Notes of what is said of paths. Only the search for what is outstanding uses them.
use Rattle.std.specs.Prelude.{◌≡◌, ◌↔◌, ℕ, Bool, true, cond, List, Option, Some, None, is_some}
use Rattle.std.specs.Option.{option_map, unwrap_or}
use Rattle.std.specs.Map.{lookup}
use Rattle.ips_text.specs.Path.{IsPath}
use Rattle.ips_text.specs.Ancestry.{covers}
use Rattle.ips_outside.specs.Image.{Entry}
use Rattle.ips_after.specs.Lists.{listed}
use Rattle.ips_action.specs.Attrs.{is_same}
use Rattle.ips_conflict.specs.Index.{has_path}
use Rattle.ips_change.specs.wanted.Named.{is_payload_of}
use Rattle.ips_due.specs.Due.{Content, Due, said_record}
use Rattle.ips_due.specs.declared.outstanding.notes.Notes.{Notes}
use Rattle.ips_due.specs.declared.outstanding.verdict.Verdict.{Verdict}
use Rattle.ips_due.specs.outstanding.Verdicts.{meant}

-- What is noted of a path, where something is.
abbrev pub noted : Notes → List ℕ → Option (Option Verdict)
noted notes q = lookup (λ k. is_same q k.items) notes.verdicts.entries

-- What is said of a path by its note.
abbrev pub told : Notes → List ℕ → Option Verdict
told notes q = unwrap_or (noted notes q) None

-- What the note of a path says, with the bytes of each payload.
abbrev pub shown : (List ℕ → List ℕ) → Due → Notes → List ℕ → Option (Option (Option Entry))
shown bytes due notes q = option_map (meant bytes due) (noted notes q)

-- The marked paths are those of which something is said, and those above.
pub record AreMarked (notes : Notes) : Type 0 where
  pub keys : (p : List ℕ) → (has_path notes.keys p ≡ true) ↔ ((q : List ℕ) × (is_some (told notes q) ≡ true) × (covers p q ≡ true))
  pub proper : (p : List ℕ) → has_path notes.keys p ≡ true → IsPath p

-- The first of both, where there is one.
abbrev pub either : {X : Type 0} → Option X → Option X → Option X
either (Some x) other = Some x
either None other = other

-- Of these paths that is noted, where nothing was noted before.
abbrev pub Adds : (List ℕ → List ℕ) → Due → Notes → Notes → List (List ℕ) → (List ℕ → Option (Option Entry)) → Type 0
Adds bytes due old new paths says = (q : List ℕ) → shown bytes due new q ≡ either (shown bytes due old q) (cond (listed paths q) (Some (says q)) None)

-- What is said of a path by an account file that is due there, if one is.
abbrev pub account_said : Option Entry → Option (Option Entry)
account_said (Some e) = Some (Some e)
account_said None = None

-- What is said of a path by a record that is due there, if one is.
abbrev pub record_said : (List ℕ → List ℕ) → Option Content → Bool → Option Entry → Option (Option Entry)
record_said bytes (Some content) goes e = said_record bytes is_payload_of content goes e
record_said bytes None goes e = None
