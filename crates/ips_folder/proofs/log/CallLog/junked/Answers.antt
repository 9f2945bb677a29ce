use Rattle.std.proofs.Common.{◌≡◌, ◌∙◌, ℕ, List, ap, sym}
use Rattle.ips_outside.specs.Image.{Image}
use Rattle.ips_outside.specs.Tree.{tree_image, tree_formed}
use Rattle.ips_outside.specs.Tearing.{in_set}
use Rattle.ips_folder.specs.History.{begun}
use Rattle.ips_folder.specs.Crash.{is_name}
use Rattle.ips_folder.specs.Memory.{first_moment, moment_of}
use Rattle.ips_folder.proofs.Kept.{begun_kept, replay_kept}
use Rattle.ips_folder.proofs.Crashes.{names_since, gone_name}
use Rattle.ips_folder.proofs.Junked.{junked_is}
use Rattle.ips_folder.proofs.Leavings.{name_touched}
use Rattle.ips_folder.proofs.log.CallLog.junked.Goals as goal

pub make_dirs-requires-clause-absent : goal.make_dirs-requires-clause-absent
make_dirs-requires-clause-absent c = λ q in_it.
    let f = c.args.self.now in
    let m = moment_of f in
    let e = c.since_sync.ensures in
    let kept = replay_kept f.calls.items (first_moment f) (begun_kept (tree_image f.first)) in
    let named = sym (c.in_ok-touched.ensures.names q ∙ names_since c.since_sync.result.now m.safe m e.changes e.now q) ∙ in_it in
    ap (λ (t : Image). t.look q) c.in_ok-tree.ensures ∙ gone_name m.state.whole m.zeroed q (name_touched m q kept named)

pub returns : goal.returns
returns c =
    let f = c.args.self.now in
    let m = moment_of f in
    let e = c.since_sync.ensures in
    let kept = replay_kept f.calls.items (first_moment f) (begun_kept (tree_image f.first)) in
    junked_is m kept (in_set c.in_ok-touched.touched) (λ q. c.in_ok-touched.ensures.names q ∙ names_since c.since_sync.result.now m.safe m e.changes e.now q)
    (tree_image c.in_ok-tree.tree) (tree_image c.make_dirs.new.tree) (tree_image c.add_junk.new.tree) c.in_ok-tree.ensures
    (tree_formed c.make_dirs.new.tree) (tree_formed c.add_junk.new.tree) c.in_ok-make_dirs.ensures c.in_ok-add_junk.ensures
