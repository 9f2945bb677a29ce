use Rattle.std.proofs.Common.{rules, ◌≡◌, true, ℕ, List, [], ◌∷◌, Vec, Global, refl, sym, ap, ◌∙◌, subst}
use Rattle.ips_text.specs.Path.{IsPath}
use Rattle.ips_outside.specs.Tree.{tree_image, tree_formed}
use Rattle.ips_outside.specs.Tearing.{in_set}
use Rattle.ips_folder.specs.Junk.{AddsJunk}
use Rattle.ips_folder.proofs.Junks.{JunkSoFar, head_listed, junk_start, junk_next, junk_end}
use Rattle.ips_folder.proofs.log.junk.add_junk.Goals as goal

pub loop-name-init : goal.loop-name-init
loop-name-init c =
    let names = c.args.names.now in
    let t = tree_image c.args.tree.now in
    let start : names.keys ≡ c.into_iter-name-iterator.result = search rules in
    subst (λ (rest : List (Vec ℕ Global)). JunkSoFar (in_set names) t rest t) start (junk_start (in_set names) t names.keys (tree_formed c.args.tree.now) (λ q. refl))

pub add_to-requires : goal.add_to-requires
add_to-requires c =
    let names = c.args.names.now in
    let p = c.in-Some.name.now in
    let so_far = subst (λ (rest : List (Vec ℕ Global)). JunkSoFar (in_set names) (tree_image c.args.tree.now) rest (tree_image c.loop-name.tree)) c.in-Some.ensures.steps c.loop-name.invariant in
    subst IsPath (sym c.deref.ensures.value) (c.requires p.items (so_far.listed p.items (head_listed p c.next.new.self)))

pub loop-name-preserved : goal.loop-name-preserved
loop-name-preserved c =
    let names = c.args.names.now in
    let t = tree_image c.args.tree.now in
    let u = tree_image c.loop-name.tree in
    let v = tree_image c.add_to.new.tree in
    let p = c.in-Some.name.now in
    let so_far = subst (λ (rest : List (Vec ℕ Global)). JunkSoFar (in_set names) t rest u) c.in-Some.ensures.steps c.loop-name.invariant in
    junk_next (in_set names) t u v p c.next.new.self so_far (tree_formed c.loop-name.tree) (subst (λ (x : List ℕ). AddsJunk x u v) c.deref.ensures.value c.in_ok-add_to.ensures)

pub returns : goal.returns
returns c =
    let names = c.args.names.now in
    let t = tree_image c.args.tree.now in
    let u = tree_image c.loop-name.tree in
    junk_end (in_set names) t u (subst (λ (rest : List (Vec ℕ Global)). JunkSoFar (in_set names) t rest u) c.in-None.ensures.steps.0 c.loop-name.invariant)
