use Rattle.std.proofs.Common.{Bool, true, false, List, ℕ, cond, filter, Option, None, IsErr, sym, ◌∙◌, ap, subst, arith}
use Rattle.std.proofs.lemmas.Bool.{false≢true}
use Rattle.ips_outside.specs.Image.{Entry, Image}
use Rattle.ips_outside.specs.Outside.{IsSmall, readable}
use Rattle.ips_outside.specs.State.{State}
use Rattle.ips_outside.proofs.Reading.{answered, reads_as}
use Rattle.ips_after.specs.After.{ranks}
use Rattle.ips_after.specs.Change.{reached, replaces, with_given}
use Rattle.ips_change.specs.survey.Marks.{row_paths}
use Rattle.ips_account_files.specs.ledger.Left.{GivesMode, changes_by, only_file}
use Rattle.ips_account_files.proofs.ledger.Givings.{file_seen, given_both, none_left, not_seen, ranked, ranks_are}
use Rattle.ips_account_files.proofs.ledger.leaving.standing_at.Goals as goal

pub returns-in_default : goal.returns-in_default
returns-in_default g c = record {
  own = λ new. tt;
  small = λ r of few. omega arith;
  found = λ told r said good table silent are marks.
      let t = (g.F.Source.outside.state c.args.folder.now).held in
      let q = c.args.path.now.bytes in
      let change = changes_by r t c.args.rows.now c.args.settled.now in
      sym (ap (λ (b : Bool). only_file (cond b None (with_given change (ranks r) t q (t.look q)))) (ap (reached (λ p. replaces (change p))) (sym c.bytes.ensures.value) ∙ sym (c.is_reached.ensures (λ p. replaces (change p)) marks) ∙ c.if-is_reached.false)
      ∙ none_left change (ranks r) t q (t.look q) (not_seen c.in_ok-mode.field-0 (t.look q) (c.in_ok-mode.ensures.found told) c.in_default.not-File));
  reads = reads_as g.F.Source.outside c.args.folder.now c.look.new.self (IsErr c.look.result) _ c.look.ensures.reads (λ f. absurd (answered c.look.result c.in_ok-mode.field-0 c.in_ok-mode.was f)) (λ f. absurd (false≢true f));
}

pub returns-clause-small : goal.returns-clause-small
returns-clause-small g c = λ r of few. c.in_ok-mode-3.ensures.small (c.in_ok-mode-2.ensures.small (subst IsSmall c.in-File.is c.in_ok-mode.ensures.mode) r of few) r of few

pub returns-clause-found : goal.returns-clause-found
returns-clause-found g c = λ told r said good table silent are marks.
    let o = g.F.Source.outside in
    let t = (o.state c.args.folder.now).held in
    let rows = c.args.rows.now in
    let s = c.args.settled.now in
    let q = c.args.path.now.bytes in
    let e = t.look q in
    let body = readable e in
    let change = changes_by r t rows s in
    let m = c.in-File.mode in
    let m1 = c.in_ok-mode-2.mode in
    let m2 = c.in_ok-mode-3.mode in
    let looked = c.look.ensures.reads in
    let first = subst (λ (u : Image). GivesMode u rows s c.args.replaced.now q true m m1) (ap (λ (x : State). x.held) looked.kept) (c.in_ok-mode-2.ensures.found (looked.call.same_kind ∙ told)) in
    let second = subst (λ (u : Image). GivesMode u rows s c.args.replaced.now q false m1 m2) (ap (λ (x : State). x.held) (c.given.ensures.reads.kept ∙ looked.kept)) (c.in_ok-mode-3.ensures.found (c.given.ensures.reads.call.same_kind ∙ looked.call.same_kind ∙ told)) in
    let early = filter (ranked r true) (row_paths rows) in
    let late = filter (ranked r false) (row_paths rows) in
    sym (ap (λ (b : Bool). only_file (cond b None (with_given change (ranks r) t q e))) (ap (reached (λ p. replaces (change p))) (sym c.bytes.ensures.value) ∙ sym (c.is_reached.ensures (λ p. replaces (change p)) marks) ∙ c.if-is_reached.false)
    ∙ ap only_file
    (ap (λ (l : List (List ℕ)). with_given change l t q e) (ranks_are r rows said good table)
    ∙ given_both change early late t q e
    ∙ ap (λ (x : Option Entry). with_given change late t q (with_given change early t q x)) (file_seen e m c.in-File.size (sym c.in-File.is ∙ c.in_ok-mode.ensures.found told))
    ∙ ap (with_given change late t q) (sym (first r body table.entries silent are marks))
    ∙ sym (second r body table.entries silent are marks)))
