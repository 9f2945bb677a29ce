use Rattle.ips_search.proofs.Walks.{started}
use Rattle.ips_search.proofs.solving.start.Goals as goal

pub returns-clause-searching : goal.returns-clause-searching
returns-clause-searching g c =
    started (g.P.Puzzle.meaning c.args._puzzle.now) (g.met.P.Puzzle.lawful c.args._puzzle.now) (record { choice = c.new.result; pairs = c.new-2.result; levels = c.new-3.result; top = record { set = c.new-4.result; reasons = c.new-5.result }; nogoods = c.new-6.result })
    c.new.ensures.items c.new-2.ensures.items c.new-3.ensures.items c.new-4.ensures.items c.new-5.ensures.items c.new-6.ensures.items
