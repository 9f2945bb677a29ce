use Rattle.std.proofs.Common.{◌≡◌, ◌||◌, ◌&&◌, not, ℕ, List, sym, ◌∙◌}
use Rattle.ips_text.specs.Ancestry.{same_path}
use Rattle.ips_outside.specs.Tearing.{in_set}
use Rattle.ips_outside.proofs.Trees.{on_ok_to}
use Rattle.ips_rehearse.proofs.Keys.{none_added, some_added}
use Rattle.ips_rehearse.proofs.asking.add_but.Goals as goal

pub returns-then-has : goal.returns-then-has
returns-then-has c = λ q. none_added (in_set c.args.but.now) c.args.path.now q (in_set c.args.paths.now q) (sym c.has.ensures ∙ c.if-has.true)

pub returns : goal.returns
returns c =
    on_ok_to c.add.result ((q : List ℕ) → in_set c.add.new.paths q ≡ ((not (in_set c.args.but.now q) && same_path c.args.path.now q) || in_set c.args.paths.now q))
    (λ each q. each q ∙ some_added (in_set c.args.but.now) c.args.path.now q (in_set c.args.paths.now q) (sym c.has.ensures ∙ c.if-has.false)) c.add.ensures
