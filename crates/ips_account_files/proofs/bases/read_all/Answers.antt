use Rattle.std.proofs.Common.{false, subst, ap, ◌∙◌}
use Rattle.std.specs.Prelude.{codes}
use Rattle.ips_books.specs.Reading.{Texts}
use Rattle.ips_after.specs.Request.{Request}
use Rattle.ips_account_files.specs.declared.ledger.outdated.Modes.{Modes}
use Rattle.ips_account_files.proofs.ledger.Answered.{fault_as}
use Rattle.ips_account_files.specs.Around.{Around, IsSilentOver, around}
use Rattle.ips_account_files.specs.Finding.{IsFound, IsLost, mode_found, text_found}
use Rattle.ips_account_files.proofs.Arounds.{around_kept}
use Rattle.ips_account_files.proofs.Found.{are_bases, first_lost, second_lost, third_lost}
use Rattle.ips_account_files.proofs.bases.read_all.Goals as goal

pub returns-in-Err-clause-refused : goal.returns-in-Err-clause-refused
returns-in-Err-clause-refused g c =
    let o = g.F.Source.outside in
    let p = g.S.Source.outside in
    let publisher = c.args.surveyed.publisher.now in
    let rows = c.args.surveyed.rows.now in
    let s = c.args.surveyed.settled.now in
    let a = around o p c.args.folder.now c.args.source.now publisher rows s in
    let elsewhere = c.is_folder_blocked-taken.result in
    fault_as c.in-Err.fault (λ why. (r : Request) → IsSilentOver a rows s r → IsLost a r (codes "etc/passwd") elsewhere why) _
    (λ why lost. λ r silent. first_lost a r elsewhere why (c.is_folder_blocked-taken.ensures r silent.said silent.table) (lost r silent))
    c.in-Err.ensures.refused

pub returns-in-Err-find-clause-refused : goal.returns-in-Err-find-clause-refused
returns-in-Err-find-clause-refused g c =
    let o = g.F.Source.outside in
    let p = g.S.Source.outside in
    let publisher = c.args.surveyed.publisher.now in
    let rows = c.args.surveyed.rows.now in
    let s = c.args.surveyed.settled.now in
    let a = around o p c.args.folder.now c.args.source.now publisher rows s in
    let elsewhere = c.is_folder_blocked-taken.result in
    let f = c.find.ensures.reads in
    let h = c.find.ensures.reads_source in
    let one = around o p c.find.new.folder c.find.new.source publisher rows s in
    let same = around_kept o p c.args.folder.now c.find.new.folder c.args.source.now c.find.new.source publisher rows s f.call.same_kind f.kept h.call.same_kind h.kept in
    fault_as c.in-Err-find.fault (λ why. (r : Request) → IsSilentOver one rows s r → IsLost one r (codes "etc/shadow") false why) _
    (λ why lost. λ r silent. second_lost a r elsewhere c.in-Ok.found why (c.is_folder_blocked-taken.ensures r silent.said silent.table) (c.in-Ok.ensures.found r silent)
    (subst (λ (x : Around). IsSilentOver x rows s r → IsLost x r (codes "etc/shadow") false why) same (lost r) silent))
    c.in-Err-find.ensures.refused

pub returns-in-Err-find-2-clause-refused : goal.returns-in-Err-find-2-clause-refused
returns-in-Err-find-2-clause-refused g c =
    let o = g.F.Source.outside in
    let p = g.S.Source.outside in
    let publisher = c.args.surveyed.publisher.now in
    let rows = c.args.surveyed.rows.now in
    let s = c.args.surveyed.settled.now in
    let a = around o p c.args.folder.now c.args.source.now publisher rows s in
    let elsewhere = c.is_folder_blocked-taken.result in
    let f = c.find.ensures.reads in
    let h = c.find.ensures.reads_source in
    let one = around o p c.find.new.folder c.find.new.source publisher rows s in
    let same = around_kept o p c.args.folder.now c.find.new.folder c.args.source.now c.find.new.source publisher rows s f.call.same_kind f.kept h.call.same_kind h.kept in
    let f2 = c.find-2.ensures.reads in
    let h2 = c.find-2.ensures.reads_source in
    let two = around o p c.find-2.new.folder c.find-2.new.source publisher rows s in
    let same2 = around_kept o p c.args.folder.now c.find-2.new.folder c.args.source.now c.find-2.new.source publisher rows s (f2.call.same_kind ∙ f.call.same_kind) (f2.kept ∙ f.kept) (h2.call.same_kind ∙ h.call.same_kind) (h2.kept ∙ h.kept) in
    fault_as c.in-Err-find-2.fault (λ why. (r : Request) → IsSilentOver two rows s r → IsLost two r (codes "etc/group") false why) _
    (λ why lost. λ r silent. third_lost a r elsewhere c.in-Ok.found c.in-Ok-find.found why (c.is_folder_blocked-taken.ensures r silent.said silent.table) (c.in-Ok.ensures.found r silent)
    (subst (λ (x : Around). IsSilentOver x rows s r → IsFound x r (codes "etc/shadow") 256 false c.in-Ok-find.found) same (c.in-Ok-find.ensures.found r) silent)
    (subst (λ (x : Around). IsSilentOver x rows s r → IsLost x r (codes "etc/group") false why) same2 (lost r) silent))
    c.in-Err-find-2.ensures.refused

pub returns-clause-bases : goal.returns-clause-bases
returns-clause-bases g c = λ r silent.
    let o = g.F.Source.outside in
    let p = g.S.Source.outside in
    let publisher = c.args.surveyed.publisher.now in
    let rows = c.args.surveyed.rows.now in
    let s = c.args.surveyed.settled.now in
    let a = around o p c.args.folder.now c.args.source.now publisher rows s in
    let elsewhere = c.is_folder_blocked-taken.result in
    let f = c.find.ensures.reads in
    let h = c.find.ensures.reads_source in
    let one = around o p c.find.new.folder c.find.new.source publisher rows s in
    let same = around_kept o p c.args.folder.now c.find.new.folder c.args.source.now c.find.new.source publisher rows s f.call.same_kind f.kept h.call.same_kind h.kept in
    let f2 = c.find-2.ensures.reads in
    let h2 = c.find-2.ensures.reads_source in
    let two = around o p c.find-2.new.folder c.find-2.new.source publisher rows s in
    let same2 = around_kept o p c.args.folder.now c.find-2.new.folder c.args.source.now c.find-2.new.source publisher rows s (f2.call.same_kind ∙ f.call.same_kind) (f2.kept ∙ f.kept) (h2.call.same_kind ∙ h.call.same_kind) (h2.kept ∙ h.kept) in
    let x = c.in-Ok.found in
    let y = c.in-Ok-find.found in
    let z = c.in-Ok-find-2.found in
    are_bases a r elsewhere x y z c.keep.new.blocked c.keep-2.new.blocked c.keep-3.new.blocked c.keep.new.text.items c.keep-2.new.text.items c.keep-3.new.text.items c.keep.new.mode c.keep-2.new.mode c.keep-3.new.mode
    (c.is_folder_blocked-taken.ensures r silent.said silent.table)
    (c.in-Ok.ensures.found r silent)
    (subst (λ (x : Around). IsSilentOver x rows s r → IsFound x r (codes "etc/shadow") 256 false y) same (c.in-Ok-find.ensures.found r) silent)
    (subst (λ (x : Around). IsSilentOver x rows s r → IsFound x r (codes "etc/group") 420 false z) same2 (c.in-Ok-find-2.ensures.found r) silent)
    c.keep.ensures.blocked c.keep-2.ensures.blocked c.keep-3.ensures.blocked
    (c.keep.ensures.text ∙ ap (text_found x) (ap (λ (t : Texts). t.passwd) c.requires.texts))
    (c.keep-2.ensures.text ∙ ap (text_found y) (ap (λ (t : Texts). t.shadow) c.requires.texts))
    (c.keep-3.ensures.text ∙ ap (text_found z) (ap (λ (t : Texts). t.group) c.requires.texts))
    (c.keep.ensures.mode ∙ ap (mode_found x) (ap (λ (m : Modes). m.passwd) c.requires.modes))
    (c.keep-2.ensures.mode ∙ ap (mode_found y) (ap (λ (m : Modes). m.shadow) c.requires.modes))
    (c.keep-3.ensures.mode ∙ ap (mode_found z) (ap (λ (m : Modes). m.group) c.requires.modes))
