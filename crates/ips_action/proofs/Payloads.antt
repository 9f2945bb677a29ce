-- An action with another payload is one of the table, and its canonical line can stand on a line where a line that means it can.
use Rattle.std.proofs.Common.{◌≡◌, ℕ, Bool, true, false, cond, List, [], ◌∷◌, Option, Some, None, refl, subst, map, ◌≤◌, arith}
use Rattle.std.specs.Prelude.{IsSome}
use Rattle.std.specs.List.{AllByRecursion}
use Rattle.std.specs.Option.{option_to_list}
use Rattle.ips_digest.specs.declared.name.PayloadName.{PayloadName}
use Rattle.ips_digest.specs.Name.{IsName, AreNameDigits, spelling}
use Rattle.ips_digest.proofs.Names.{spelled_digits}
use Rattle.ips_line.specs.declared.words.Pair.{Pair}
use Rattle.ips_line.specs.Line.{Said}
use Rattle.ips_line.proofs.OnLine.{CanStand}
use Rattle.ips_action.specs.declared.kind.ActionKind.{ActionKind}
use Rattle.ips_action.specs.declared.check.Check.{Check}
use Rattle.ips_action.specs.declared.check.Check.TheVariants.{Anything, Path, Mode, Payload, Preserve, Overlay, LinkTarget, HardlinkTarget, Numbers, Priority, Account, Id, Field, FileName, Flag, FacetTag}
use Rattle.ips_action.specs.declared.table.Times.{Times}
use Rattle.ips_action.specs.declared.table.Times.TheVariants.{Once, OnceOrMore, AtMostOnce, AnyTimes}
use Rattle.ips_action.specs.Attrs.{Attr, values_of, Gathers}
use Rattle.ips_action.specs.Table.{AttributeRow}
use Rattle.ips_action.specs.Check.{Meets}
use Rattle.ips_action.specs.Judging.{least, is_payload, path_of, MeetsRow, KeepsRow, rows_of, takes_payload}
use Rattle.ips_action.specs.Action.{Fields, IfName, IfTaken, IsAction, payload_word, line_text}
use Rattle.ips_action.specs.Meaning.{held}
use Rattle.ips_action.specs.Draft.{no_content, names_content, with_word, with_payload, MeansDraft}
use Rattle.ips_action.proofs.OnLine.{said_can}

digits_met : (check : Check) (path word : List ℕ) → is_payload check ≡ true → AreNameDigits word → Meets check path word
digits_met Anything path word e digits = absurd cc
digits_met Path path word e digits = absurd cc
digits_met Mode path word e digits = absurd cc
digits_met Payload path word e digits = digits
digits_met Preserve path word e digits = absurd cc
digits_met Overlay path word e digits = absurd cc
digits_met LinkTarget path word e digits = absurd cc
digits_met HardlinkTarget path word e digits = absurd cc
digits_met Numbers path word e digits = absurd cc
digits_met Priority path word e digits = absurd cc
digits_met Account path word e digits = absurd cc
digits_met Id path word e digits = absurd cc
digits_met Field path word e digits = absurd cc
digits_met FileName path word e digits = absurd cc
digits_met Flag path word e digits = absurd cc
digits_met FacetTag path word e digits = absurd cc

least_one : (times : Times) → least times ≤ 1
least_one Once = omega arith
least_one OnceOrMore = omega arith
least_one AtMostOnce = omega arith
least_one AnyTimes = omega arith

row_with : (old : Option (List ℕ)) (word : List ℕ) (attrs : List Attr) (row : AttributeRow) → AreNameDigits word → KeepsRow old attrs row → KeepsRow (Some word) attrs row
row_with old word attrs row digits h = go (is_payload row.check) refl h
  where
    go : (t : Bool) → is_payload row.check ≡ t → MeetsRow (path_of attrs) (cond t (option_to_list old) (values_of row.name attrs)) row
        → MeetsRow (path_of attrs) (cond t (word ∷ []) (values_of row.name attrs)) row
    go true e h = record { enough = least_one row.times; single = λ one. omega arith; each = (digits_met row.check (path_of attrs) word e digits, tt) }
    go false e h = h

rows_with : (old : Option (List ℕ)) (word : List ℕ) (attrs : List Attr) (rows : List AttributeRow) → AreNameDigits word → AllByRecursion (KeepsRow old attrs) rows → AllByRecursion (KeepsRow (Some word) attrs) rows
rows_with old word attrs [] digits h = tt
rows_with old word attrs (row ∷ rows) digits h = (row_with old word attrs row digits h.0, rows_with old word attrs rows digits h.1)

taken_by : (kind : ActionKind) (payload : Option PayloadName) → IsSome payload → IfTaken kind payload → takes_payload kind ≡ true
taken_by kind None some h = absurd cc
taken_by kind (Some payload) some h = h

-- an action that has a payload is one with another payload
pub is_with_payload : (a : Fields) (payload : PayloadName) → IsAction a → IsSome a.payload → IsName payload → IsAction (with_payload payload a)
is_with_payload a payload h some named = record {
  ordered = h.ordered;
  keys = h.keys;
  named = named;
  taken = taken_by a.kind a.payload some h.taken;
  rows = rows_with (payload_word a.payload) (spelling payload) a.attrs (rows_of a.kind a.attrs) (spelled_digits payload named) h.rows;
}

drafted_pairs : (said : Said) (t : Bool) → (cond t (with_word no_content said) said).pairs ≡ said.pairs
drafted_pairs said true = refl
drafted_pairs said false = refl

-- the canonical line of a draft with any payload can stand on a line, where the draft's can
pub draft_can : (text : List ℕ) (a : Fields) (word : Option (List ℕ)) (payload : Option PayloadName) → MeansDraft text a word → IfName payload → CanStand text → CanStand (line_text (record { kind = a.kind; payload = payload; attrs = a.attrs }))
draft_can text a word payload m named c =
    let gathers = subst (λ (pairs : List Pair). Gathers (map (held a.kind) pairs) a.attrs) (drafted_pairs m.0 (names_content m.0.name.text)) m.2.attrs in
    said_can m.0 text (record { kind = a.kind; payload = payload; attrs = a.attrs }) m.1 gathers m.2.action.ordered named c
