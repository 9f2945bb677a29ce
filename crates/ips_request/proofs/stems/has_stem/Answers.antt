use Rattle.std.proofs.Common.{◌∙◌, bytes_eq, string_bytes, sym, String, Global}
use Rattle.ips_action.proofs.Judged.{any_mapped}
use Rattle.ips_request.proofs.stems.has_stem.Goals as goal

pub returns : goal.returns
returns c = c.contains.ensures ∙ sym (any_mapped (λ (k : String Global). string_bytes k) (bytes_eq c.args.stem.now) c.args.stems.now.keys)
