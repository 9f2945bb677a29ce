use Rattle.std.proofs.Common.{◌∙◌, ℕ, List, ap, sym, bytes_eq, string_bytes, String, Global}
use Rattle.ips_action.proofs.Judged.{any_mapped}
use Rattle.ips_request.specs.Stems.{has, stems_of}
use Rattle.ips_asked.proofs.removing.is_in.Goals as goal

pub returns : goal.returns
returns c =
    let keys = c.args.index.now.keys in
    c.contains.ensures ∙ sym (any_mapped (λ (k : String Global). string_bytes k) (bytes_eq c.as_str.result.now) keys) ∙ ap (λ (s : List ℕ). has s (stems_of keys)) c.as_str.ensures
