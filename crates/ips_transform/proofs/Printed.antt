-- Parts that are printed, whether or not they are an action of the table: no two have one line.
use Rattle.std.proofs.Common.{◌≡◌, sym, ◌∙◌, ap}
use Rattle.std.specs.List.{AllByRecursion}
use Rattle.ips_line.specs.Line.{IsRunOfBytes, in_key}
use Rattle.ips_line.specs.Canonical.{AreWords}
use Rattle.ips_line.proofs.Spelled.{one_line}
use Rattle.ips_action.specs.declared.kind.ActionKind.{ActionKind}
use Rattle.ips_action.specs.Attrs.{Attr, AreAttrs, values_in}
use Rattle.ips_action.specs.Kind.{kind_name}
use Rattle.ips_action.specs.Action.{Fields, IfName, payload_word, pairs_of, line_text}
use Rattle.ips_action.proofs.One.{one_kind, one_payload, one_list}
use Rattle.ips_action.proofs.ReadBack.{keys_of, name_run, values_back, word_runs}

pub record ArePrinted (a : Fields) : Type 0 where
  pub ordered : AreAttrs a.attrs
  pub keys : AllByRecursion (λ (attr : Attr). IsRunOfBytes in_key attr.key) a.attrs
  pub named : IfName a.payload

printed_words : (a : Fields) → ArePrinted a → AreWords (kind_name a.kind) (payload_word a.payload) (pairs_of a.attrs)
printed_words a h = record { is_name = name_run a.kind; is_payload = word_runs a.payload h.named; are_keys = keys_of a.attrs h.keys }

pub one_printed : (a b : Fields) → ArePrinted a → ArePrinted b → line_text a ≡ line_text b → a ≡ b
one_printed a b ha hb e =
    let w = one_line (kind_name a.kind) (kind_name b.kind) (payload_word a.payload) (payload_word b.payload) (pairs_of a.attrs) (pairs_of b.attrs) (printed_words a ha) (printed_words b hb) e in
    let kind = one_kind a.kind b.kind w.0 in
    let payload = one_payload a.payload b.payload ha.named hb.named w.1 in
    let attrs = one_list a.attrs b.attrs ha.ordered hb.ordered (λ key. sym (values_back a.attrs ha.ordered key) ∙ ap (values_in key) w.2 ∙ values_back b.attrs hb.ordered key) in
    λ i. record { kind = kind i; payload = payload i; attrs = attrs i }
