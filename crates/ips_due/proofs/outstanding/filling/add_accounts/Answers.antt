use Rattle.std.proofs.Common.{ℕ, List, [], ◌∷◌, Some, map, take, take_all, sym, subst, arith}
use Rattle.ips_text.proofs.Lists.{map_item}
use Rattle.ips_conflict.proofs.Places.{at_index}
use Rattle.ips_due.specs.Due.{account_at}
use Rattle.ips_due.specs.declared.outstanding.due.AccountFile.{AccountFile}
use Rattle.ips_due.specs.declared.outstanding.verdict.Verdict.TheVariants as verdict
use Rattle.ips_due.specs.outstanding.Noted.{Adds, account_said}
use Rattle.ips_due.specs.outstanding.Verdicts.{meant}
use Rattle.ips_due.proofs.outstanding.Meant.{account_own, account_path}
use Rattle.ips_due.proofs.outstanding.Noting.{adds_more}
use Rattle.ips_due.proofs.outstanding.filling.add_accounts.Goals as goal

pub loop-number-preserved : goal.loop-number-preserved
loop-number-preserved c =
    let accounts = c.args.accounts.now in
    let n = c.loop-number.number in
    let f = c.index-accounts-number.result in
    record {
      marked = c.in_ok-add.ensures.marked;
      noted = λ bytes due is.
          subst (λ (l : List (List ℕ)). Adds bytes due c.args.notes.now c.add.new.notes l (λ q. account_said (account_at due.accounts q))) (sym (map_item account_path accounts n f c.loop-number-test.true c.index-accounts-number.is))
          (adds_more bytes due c.args.notes.now c.loop-number.notes c.add.new.notes (map account_path (take n accounts)) f.path.bytes (λ q. account_said (account_at due.accounts q)) (meant bytes due (Some (verdict.Account n))) (c.loop-number.invariant.noted bytes due is)
          (subst (λ (x : AccountFile). Adds bytes due c.loop-number.notes c.add.new.notes (x.path.bytes ∷ []) (λ q. meant bytes due (Some (verdict.Account n)))) (sym c.index-accounts-number.is) (c.in_ok-add.ensures.noted bytes due)) (account_own bytes due accounts n f is (at_index accounts n f c.loop-number-test.true c.index-accounts-number.is)));
    }

pub returns-clause-noted : goal.returns-clause-noted
returns-clause-noted c = λ bytes due is.
    subst (λ (l : List AccountFile). Adds bytes due c.args.notes.now c.loop-number.notes (map account_path l) (λ q. account_said (account_at due.accounts q))) (take_all c.loop-number.number c.args.accounts.now (omega (arith, c.loop-number-test.false))) (c.loop-number.invariant.noted bytes due is)
