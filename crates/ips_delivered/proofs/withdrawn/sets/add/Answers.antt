use Rattle.std.proofs.Common.{◌||◌, ◌∙◌, ap, sym, List, ℕ, Bool, false, Vec, Global}
use Rattle.std.specs.List.{list_any}
use Rattle.ips_text.specs.Ancestry.{same_path}
use Rattle.ips_text.proofs.Truths.{or_false, or_swapped}
use Rattle.ips_action.specs.Attrs.{is_same}
use Rattle.ips_conflict.specs.Index.{has_path}
use Rattle.ips_conflict.proofs.Kept.{any_insert}
use Rattle.ips_due.proofs.outstanding.Gone.{one_path}
use Rattle.ips_delivered.proofs.withdrawn.sets.add.Goals as goal

pub returns : goal.returns
returns c = λ q.
    let old = has_path c.args.set.now q in
    ap (λ (keys : List (Vec ℕ Global)). list_any (λ (k : Vec ℕ Global). is_same q k.items) keys) c.in_ok-insert.ensures.keys
    ∙ any_insert c.in_ok-key.key q c.args.set.now.keys
    ∙ ap (λ (bytes : List ℕ). is_same q bytes || old) c.in_ok-key.ensures.items
    ∙ ap (λ (b : Bool). b || old) (sym (one_path c.args.bytes.now q))
    ∙ ap (λ (b : Bool). same_path c.args.bytes.now q || b) (or_false old)
    ∙ or_swapped (same_path c.args.bytes.now q) old false
