use Rattle.std.proofs.Common.{◌≡◌, ◌∙◌, ℕ, List, sym, subst}
use Rattle.ips_conflict.specs.declared.placed.Sort.{Sort}
use Rattle.ips_conflict.specs.declared.placed.Sort.TheVariants.{Path}
use Rattle.ips_conflict.specs.declared.clashing.Rule.TheVariants.{Below, Target}
use Rattle.ips_conflict.specs.Key.{Key}
use Rattle.ips_conflict.specs.Clash.{path_key}
use Rattle.ips_conflict.specs.Search.{IsFirstBelow, IsFirstBy}
use Rattle.ips_conflict.proofs.FirstOver.{same_sort, first_over, obstacle_over, lost_over}
use Rattle.ips_conflict.proofs.finding.first_of_key.Goals as goal

abbrev key : Sort → List ℕ → Key
key sort text = record { sort = sort; text = text }

pub returns-in-Some : goal.returns-in-Some
returns-in-Some c =
    let below = subst (IsFirstBelow c.args.placed.now (key c.args.sort c.args.text.now) 4) c.in-Some.is c.in_ok-found.ensures in
    first_over c.args.placed.now (key c.args.sort c.args.text.now) c.in-Some.found below.0 below.1

pub returns-in-Some-2 : goal.returns-in-Some-2
returns-in-Some-2 c =
    let path : c.args.sort ≡ Path = same_sort c.args.sort Path (sym c.rank.ensures ∙ c.if-rank-ne0.false) in
    let none = subst (IsFirstBelow c.args.placed.now (key c.args.sort c.args.text.now) 4) c.in_default.is c.in_ok-found.ensures in
    let by = subst (IsFirstBy c.args.placed.now (path_key c.args.text.now) Below) c.in-Some-2.is c.in_ok-first.ensures in
    obstacle_over c.args.placed.now c.args.sort c.args.text.now path none c.in-Some-2.first c.in-Some-2.second by

pub returns-in-Some-3 : goal.returns-in-Some-3
returns-in-Some-3 c =
    let path : c.args.sort ≡ Path = same_sort c.args.sort Path (sym c.rank.ensures ∙ c.if-rank-ne0.false) in
    let none = subst (IsFirstBelow c.args.placed.now (key c.args.sort c.args.text.now) 4) c.in_default.is c.in_ok-found.ensures in
    let free = subst (IsFirstBy c.args.placed.now (path_key c.args.text.now) Below) c.in_default-2.is c.in_ok-first.ensures in
    let by = subst (IsFirstBy c.args.placed.now (path_key c.args.text.now) Target) c.in-Some-3.is c.in_ok-first-2.ensures in
    lost_over c.args.placed.now c.args.sort c.args.text.now path none free c.in-Some-3.first c.in-Some-3.second by
