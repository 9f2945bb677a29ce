use Rattle.std.proofs.Common.{◌++◌, ◌∙◌, List, ℕ, ap, sym}
use Rattle.ips_line.specs.Canonical.{payload_text}
use Rattle.ips_action.specs.Kind.{kind_name}
use Rattle.ips_action.specs.Action.{payload_word}
use Rattle.ips_action.proofs.Spelled.{attrs_text}
use Rattle.ips_action.proofs.printing.print_parts.Goals as goal

pub returns : goal.returns
returns c =
    c.from_string.ensures
    ∙ rw (c.in_ok-push_attrs.ensures, c.in_ok-push_name.ensures, c.in_ok-push_str.ensures.bytes, c.new-out.ensures.bytes, c.list.ensures.value, c.name.ensures)
    (ap (λ (l : List ℕ). (kind_name c.args.kind ++ payload_text (payload_word c.args.payload.now)) ++ l) (sym (attrs_text c.args.attrs.now)))
