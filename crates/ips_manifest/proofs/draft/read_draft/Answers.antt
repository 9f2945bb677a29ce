use Rattle.ips_action.specs.Draft.{IsFirstDraftFault}
use Rattle.ips_manifest.specs.Draft.{MeansDrafted, draft_at}
use Rattle.ips_manifest.proofs.Bounds.{where_bad}
use Rattle.ips_manifest.proofs.OnLine.{drafts_stand}
use Rattle.ips_manifest.proofs.draft.read_draft.Goals as goal

pub returns-clause-stand : goal.returns-clause-stand
returns-clause-stand c = drafts_stand (λ v. v.items) c.args.bytes.now c.read_drafts.result c.read_drafts.ensures.found

pub returns-clause-within : goal.returns-clause-within
returns-clause-within c = where_bad MeansDrafted draft_at IsFirstDraftFault c.read_drafts.result c.args.bytes.now c.read_drafts.ensures.fault
