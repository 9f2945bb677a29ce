use Rattle.std.proofs.Common.{◌≡◌, List, ℕ, sym, ◌∙◌, subst, arith}
use Rattle.std.specs.Prelude.{IfOk}
use Rattle.ips_text.specs.Path.{IsPath}
use Rattle.ips_steps.specs.Steps.{stage_name, stage_path}
use Rattle.ips_contents.proofs.OwnPaths.{content_is_path}
use Rattle.ips_contents.proofs.names.content_path.Goals as goal

pub path_of-requires : goal.path_of-requires
unfolding stage_name
path_of-requires c =
    let bytes : c.as_bytes.result.now ≡ stage_path c.args.number = c.as_bytes.ensures.value ∙ c.in_ok-text.ensures.ok in
    subst (λ (l : List ℕ). IsPath l) (sym bytes) (content_is_path c.args.number (omega arith))

pub returns : goal.returns
unfolding stage_name
returns c =
    let bytes : c.as_bytes.result.now ≡ stage_path c.args.number = c.as_bytes.ensures.value ∙ c.in_ok-text.ensures.ok in
    subst (λ (l : List ℕ). IfOk c.path_of.result (λ path. path.bytes ≡ l)) bytes c.path_of.ensures
