use Rattle.std.proofs.Common.{Option}
use Rattle.std.specs.Prelude.{List}
use Rattle.ips_index.specs.Rows.{IndexedValue}
use Rattle.ips_image.specs.Fault.{IsSearchFault}
use Rattle.ips_showing.specs.Asked.{Search}
use Rattle.ips_showing.specs.Shows as shows
use Rattle.ips_showing.proofs.Told.{unread_by}
use Rattle.ips_showing.proofs.searching.searched.Goals as goal

pub returns-in-Ok-None-clause-decided : goal.returns-in-Ok-None-clause-decided
returns-in-Ok-None-clause-decided g c = λ tells. shows.NoIndex (c.in-Ok-None.ensures.image tells) (rw c.in-Ok-None.field-0-is at (c.in-Ok-None.ensures.found tells))

pub returns-in-Err-clause-decided : goal.returns-in-Err-clause-decided
returns-in-Err-clause-decided g c = λ tells.
    let t = (g.F.Source.outside.state c.args.folder.now).held in
    unread_by (Option (List IndexedValue)) t (Search c.args.pattern.now) (IsSearchFault t) c.in-Err.fault c.unread.result c.unread.ensures.told (c.in-Err.ensures.fault tells) (λ f h. h)
