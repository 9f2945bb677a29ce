use Rattle.std.proofs.Common.{rules, ◌≡◌, ℕ, Bool, List, length, get_or, true, cond, subst}
use Rattle.ips_outside.specs.Tree.{tree_image}
use Rattle.ips_outside.specs.Table.{file_of}
use Rattle.ips_outside.specs.Tearing.{halved, in_set, AreKept}
use Rattle.ips_outside.proofs.Cuts.{torn_image}
use Rattle.ips_outside.proofs.tree.Tree.tear.Goals as goal

pub returns-clause-torn : goal.returns-clause-torn
unfolding tree_image
returns-clause-torn c =
    let t = c.args.self.now in
    let all : c.len.result ≡ length t.nodes.items = search rules in
    let kept = subst (λ (n : ℕ). AreKept t.paths.entries n (in_set c.args.names.now) c.in_ok-kept.kept.items) all c.in_ok-kept.ensures.kept in
    let cut = subst (λ (flags : List Bool). (n : ℕ) → file_of c.cut_others.new.nodes.items n ≡ cond (get_or flags n true) (file_of t.nodes.items n) (halved (file_of t.nodes.items n))) c.deref.ensures.value c.cut_others.ensures.cut in
    torn_image t.paths.entries t.nodes.items c.cut_others.new.nodes.items c.in_ok-kept.kept.items (in_set c.args.names.now) t.formed kept cut
