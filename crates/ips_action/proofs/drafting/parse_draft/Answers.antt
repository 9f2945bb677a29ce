use Rattle.std.proofs.Common.{◌≡◌, subst, sym, rules}
use Rattle.ips_line.specs.Seen.{seen}
use Rattle.ips_action.specs.declared.fault.ActionFault.{ActionFault}
use Rattle.ips_action.specs.Meaning.{word_fault}
use Rattle.ips_action.specs.Draft.{IsFirstDraftFault}
use Rattle.ips_action.proofs.Lines.{keys_said}
use Rattle.ips_action.proofs.Drafts.{draft_found, draft_only, draft_first, no_draft, words_first}
use Rattle.ips_action.proofs.drafting.parse_draft.Goals as goal

pub draft_of-requires : goal.draft_of-requires
draft_of-requires c = keys_said (seen c.in-Ok.words) c.args.line.now c.in-Ok.ensures.found

pub returns-in-Ok-clause-found : goal.returns-in-Ok-clause-found
returns-in-Ok-clause-found c = draft_found (seen c.in-Ok.words) c.args.line.now c.draft_of.result c.in-Ok.ensures.found c.draft_of.ensures.found

pub returns-in-Ok-clause-only : goal.returns-in-Ok-clause-only
returns-in-Ok-clause-only c = draft_only (seen c.in-Ok.words) c.args.line.now c.draft_of.result c.in-Ok.ensures.found c.draft_of.ensures.found c.draft_of.ensures.first

pub returns-in-Ok-clause-first : goal.returns-in-Ok-clause-first
returns-in-Ok-clause-first c = draft_first (seen c.in-Ok.words) c.args.line.now c.draft_of.result c.in-Ok.ensures.found c.draft_of.ensures.first

pub returns-in-Err-Bad-clause-only : goal.returns-in-Err-Bad-clause-only
returns-in-Err-Bad-clause-only c = λ action word m.
    let told = rw c.in-Err-Bad.field-0-is at c.in-Err-Bad.ensures in
    absurd (no_draft c.args.line.now c.in-Err-Bad.fault told.fault action word m)

pub returns-in-Err-Bad-clause-first : goal.returns-in-Err-Bad-clause-first
returns-in-Err-Bad-clause-first c =
    let told = rw c.in-Err-Bad.field-0-is at c.in-Err-Bad.ensures in
    let made : c.fault_of.result ≡ word_fault c.in-Err-Bad.fault = search rules in
    subst (λ (f : ActionFault). IsFirstDraftFault c.args.line.now f) (sym made) (words_first c.args.line.now c.in-Err-Bad.fault told.fault)
