use Rattle.std.proofs.Common.{◌≡◌, ◌⊎◌, Bool, true, false, IsTrue, inl, refl, sym, ◌∙◌}
use Rattle.std.proofs.lemmas.Bool.{true≢false}
use Rattle.ips_request.proofs.Results.{bad_also}
use Rattle.ips_problem.specs.Asked.{tells_where}
use Rattle.ips_asked.specs.Requested.{kind_asked}
use Rattle.ips_next.specs.Decided.{MayCome, looks}
use Rattle.ips_next.specs.Next.{IsOldFormat}
use Rattle.ips_next.proofs.Recorded.{words_there}
use Rattle.ips_next.proofs.next.next_state.Goals as goal

-- what is looked at is told by a source that tells what it holds
told : (looked tells : Bool) → IsTrue tells → IsTrue (tells_where looked tells)
told true tells is = is
told false tells is = refl

-- and where nothing is
unread : (looked tells : Bool) → looked ≡ false → IsTrue (tells_where looked tells)
unread true tells none = absurd (true≢false none)
unread false tells none = refl

pub from_copy-requires-clause-can : goal.from_copy-requires-clause-can
from_copy-requires-clause-can g c = record {
  moment = c.requires.moment;
  lawful = c.requires.lawful;
  formed = c.requires.formed.formed;
  words = words_there c.args.command.now.what c.args.command.now.history (sym c.searches.ensures ∙ c.if-searches.false) c.requires.formed.line;
}

pub returns-clause-next : goal.returns-clause-next
returns-clause-next g c = λ tells. c.from_copy.ensures.next (told (looks (kind_asked c.args.command.now.what)) (g.S.Source.outside.tells c.args.source.now) tells)

pub returns-clause-refused : goal.returns-clause-refused
returns-clause-refused g c = λ tells. c.from_copy.ensures.refused (told (looks (kind_asked c.args.command.now.what)) (g.S.Source.outside.tells c.args.source.now) tells)

pub returns-clause-next_unread : goal.returns-clause-next_unread
returns-clause-next_unread g c = λ none. c.from_copy.ensures.next (unread (looks (kind_asked c.args.command.now.what)) (g.S.Source.outside.tells c.args.source.now) none)

pub returns-clause-refused_unread : goal.returns-clause-refused_unread
returns-clause-refused_unread g c = λ none. c.from_copy.ensures.refused (unread (looks (kind_asked c.args.command.now.what)) (g.S.Source.outside.tells c.args.source.now) none)

pub returns-clause-early : goal.returns-clause-early
returns-clause-early g c =
    let kind = kind_asked c.args.command.now.what in
    bad_also c.from_copy.result (MayCome kind) (λ why. MayCome kind why ⊎ IsOldFormat c.args.command.now.what c.args.old.now.format) c.from_copy.ensures.early (λ why may. inl may)
