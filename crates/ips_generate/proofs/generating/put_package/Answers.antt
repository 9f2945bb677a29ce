use Rattle.std.proofs.Common.{ℕ, List, refl, sym, ◌∙◌, subst, arith}
use Rattle.ips_text.specs.Path.{IsPath}
use Rattle.ips_generate.specs.Generated as spec
use Rattle.ips_generate.proofs.Names.{stem_path}
use Rattle.ips_generate.proofs.generating.put_package.Goals as goal

pub put_manifest-requires : goal.put_manifest-requires
put_manifest-requires c = subst (λ (name : List ℕ). IsPath (spec.manifest_place name)) (sym (c.deref-2.ensures.value ∙ c.in_ok-stem.ensures)) (stem_path c.args.number (let few = c.requires.few in omega arith))

pub returns : goal.returns
returns c = rw (c.in_ok-put_payload.ensures, c.in_ok-put_manifest.ensures, c.deref-4.ensures.value, c.deref-3.ensures.value, c.deref-2.ensures.value, c.in_ok-stem.ensures, c.in_ok-text.ensures, c.name_of-name.ensures.digest, c.deref.ensures.value, c.in_ok-bytes.ensures) refl
