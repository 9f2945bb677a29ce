use Rattle.std.proofs.Common.{ℕ, Bool, cond, List, Some, Vec, Global, ◌∙◌, ap}
use Rattle.std.specs.Map.{lookup}
use Rattle.std.specs.Option.{option_map}
use Rattle.ips_text.specs.Ancestry.{same_path}
use Rattle.ips_action.specs.Attrs.{is_same}
use Rattle.ips_conflict.proofs.Kept.{found_insert}
use Rattle.ips_image_steps.specs.declared.saving.saved.Saved.{Saved as Told}
use Rattle.ips_image_steps.specs.saving.Saving.{saved_at, saved_told}
use Rattle.ips_image_steps.proofs.saving.Gathered.{same_as, told_cond}
use Rattle.ips_image_steps.proofs.saving.filling.put.Goals as goal

pub returns : goal.returns
returns c = λ q.
    let old = c.args.saved.now in
    let key = c.in_ok-key.key in
    ap (λ (es : List (Vec ℕ Global × Told)). option_map saved_told (lookup (λ k. is_same q k.items) es)) c.in_ok-insert.ensures.entries
    ∙ ap (option_map saved_told) (found_insert key c.args.what q old.entries)
    ∙ told_cond (is_same q key.items) c.args.what (lookup (λ k. is_same q k.items) old.entries)
    ∙ ap (λ (b : Bool). cond b (Some (saved_told c.args.what)) (saved_at old q)) (same_as q key.items ∙ ap (λ (p : List ℕ). same_path p q) c.in_ok-key.ensures.items)
