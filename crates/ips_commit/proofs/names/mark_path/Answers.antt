use Rattle.std.proofs.Common.{◌≡◌, List, ℕ, sym, ◌∙◌, subst, arith}
use Rattle.std.specs.Prelude.{IfOk}
use Rattle.ips_text.specs.Path.{IsPath}
use Rattle.ips_steps.specs.Private.{mark_front, mark_name}
use Rattle.ips_contents.proofs.OwnPaths.{mark_is_path}
use Rattle.ips_commit.proofs.names.mark_path.Goals as goal

pub path_of-requires : goal.path_of-requires
unfolding mark_front
path_of-requires c =
    let bytes : c.as_bytes.result.now ≡ mark_name c.args.number = c.as_bytes.ensures.value ∙ c.in_ok-text.ensures.ok in
    subst (λ (l : List ℕ). IsPath l) (sym bytes) (mark_is_path c.args.number (omega arith))

pub returns : goal.returns
unfolding mark_front
returns c =
    let bytes : c.as_bytes.result.now ≡ mark_name c.args.number = c.as_bytes.ensures.value ∙ c.in_ok-text.ensures.ok in
    subst (λ (l : List ℕ). IfOk c.path_of.result (λ path. path.bytes ≡ l)) bytes c.path_of.ensures
