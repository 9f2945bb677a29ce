use Rattle.std.proofs.Common.{rules, ◌≡◌, true, ℕ, List, [], ◌∷◌, Vec, Global, None, refl, sym, ap, ◌∙◌, subst}
use Rattle.ips_text.specs.Path.{IsPath}
use Rattle.ips_outside.specs.Image.{Image}
use Rattle.ips_outside.specs.Tree.{tree_image, tree_formed}
use Rattle.ips_outside.specs.Tearing.{in_set}
use Rattle.ips_folder.specs.Junk.{with_dir}
use Rattle.ips_folder.proofs.Names.{by_bytes}
use Rattle.ips_folder.proofs.Junks.{DirsSoFar, in_list, head_listed, dirs_start, dirs_next, dirs_end}
use Rattle.ips_folder.proofs.log.junk.make_dirs.Goals as goal

pub loop-name-init : goal.loop-name-init
loop-name-init c =
    let names = c.args.names.now in
    let t = tree_image c.args.tree.now in
    let start : names.keys ≡ c.into_iter-name-iterator.result = search rules in
    subst (λ (rest : List (Vec ℕ Global)). DirsSoFar (in_set names) t rest t) start (dirs_start (in_set names) t names.keys c.iter-name-items.ensures.ordered (λ q. refl) c.requires.absent)

pub make_dir-requires : goal.make_dir-requires
make_dir-requires c =
    let names = c.args.names.now in
    let p = c.in-Some.name.now in
    let so_far = subst (λ (rest : List (Vec ℕ Global)). DirsSoFar (in_set names) (tree_image c.args.tree.now) rest (tree_image c.loop-name.tree)) c.in-Some.ensures.steps c.loop-name.invariant in
    let here = head_listed p c.next.new.self in
    record {
      path = subst IsPath (sym c.deref.ensures.value) (c.requires.paths p.items (so_far.listed p.items here));
      absent = ap (tree_image c.loop-name.tree).look c.deref.ensures.value ∙ so_far.todo p.items here;
    }

pub loop-name-preserved : goal.loop-name-preserved
loop-name-preserved c =
    let names = c.args.names.now in
    let t = tree_image c.args.tree.now in
    let u = tree_image c.loop-name.tree in
    let p = c.in-Some.name.now in
    let so_far = subst (λ (rest : List (Vec ℕ Global)). DirsSoFar (in_set names) t rest u) c.in-Some.ensures.steps c.loop-name.invariant in
    let made = c.in_ok-make_dir.ensures ∙ ap (λ (x : List ℕ). with_dir x u) c.deref.ensures.value in
    subst (λ (x : Image). DirsSoFar (in_set names) t c.next.new.self x) (sym made) (dirs_next (in_set names) t u p c.next.new.self so_far (tree_formed c.loop-name.tree))

pub returns : goal.returns
returns c =
    let names = c.args.names.now in
    let t = tree_image c.args.tree.now in
    let u = tree_image c.loop-name.tree in
    dirs_end (in_set names) t u (subst (λ (rest : List (Vec ℕ Global)). DirsSoFar (in_set names) t rest u) c.in-None.ensures.steps.0 c.loop-name.invariant)
