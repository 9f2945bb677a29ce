use Rattle.std.proofs.Common.{sym, refl}
use Rattle.ips_search.proofs.Walks.{Ascends-of, Within-of, union_of, reject_all, Ascends-as}
use Rattle.ips_search.proofs.steps.reject.Goals as goal

pub union-requires : goal.union-requires
union-requires g c =
    let s = c.args.state.now in
    let h = c.requires.searching in
    record {
      first = Ascends-as s.top.set.items c.deref.result.now (sym c.deref.ensures.value) h.top.ascends;
      second = c.requires.core.ascends;
    }

pub returns : goal.returns
returns g c =
    let s = c.args.state.now in
    let h = c.requires.searching in
    reject_all (g.P.Puzzle.meaning c.args._puzzle.now) (g.met.P.Puzzle.lawful c.args._puzzle.now) s (record { set = c.in_ok-set.set; reasons = c.push.new.self }) c.args.reason c.args.core.now
    c.requires.searching c.requires.room c.requires.offered c.requires.core
    (union_of s.pairs.items s.pairs.items c.deref.result.now s.top.set.items c.args.core.now c.args.core.now c.in_ok-set.set.items refl c.deref.ensures.value refl
    (c.in_ok-set.ensures s.pairs.items (Ascends-of s.choice.items s.pairs.items h.paired)
    (Within-of s.top.set.items c.deref.result.now _ s.pairs.items (sym c.deref.ensures.value) (sym h.paired) h.top.within) c.requires.core.inside))
    c.in_ok-push.ensures.items
