use Rattle.std.proofs.Common.{◌≡◌, ℕ, List, sym, subst}
use Rattle.std.specs.Prelude.{OnOk}
use Rattle.ips_text.specs.Path.{IsPath}
use Rattle.ips_outside.specs.Tree.{tree_image}
use Rattle.ips_generate.specs.Generated as spec
use Rattle.ips_generate.proofs.Names.{payload_path}
use Rattle.ips_generate.proofs.generating.put_payload.Goals as goal

pub put_content-requires-clause-path : goal.put_content-requires-clause-path
put_content-requires-clause-path c = subst (λ (digits : List ℕ). IsPath (spec.payload_place digits)) (sym c.print-count.ensures.spelled) (payload_path c.args.name.now c.requires)

pub returns : goal.returns
returns c = subst (λ (digits : List ℕ). OnOk c.put_content.result (tree_image c.put_content.new.tree ≡ spec.with_content digits c.args.bytes.now (tree_image c.args.tree.now))) c.print-count.ensures.spelled c.put_content.ensures
