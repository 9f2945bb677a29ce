use Rattle.std.proofs.Common.{Bool, Err, refl, arith}
use Rattle.ips_text.specs.declared.refusal.Or.TheVariants.{OutOfMemory}
use Rattle.ips_outside.proofs.Faults.{no_cause}
use Rattle.ips_folder.proofs.Runs.{started, begun}
use Rattle.ips_steps.specs.Owed.{FolderOwes}
use Rattle.ips_journal.specs.Text.{journal_text}
use Rattle.ips_commit.specs.Pending.{is_swept}
use Rattle.ips_commit.proofs.Rolled.{starved_only}
use Rattle.ips_commit.proofs.recovering.recover.Goals as goal

pub returns-in_default : goal.returns-in_default
returns-in_default g c =
    let o = g.F.Source.outside in
    let old = c.args.folder.now in
    let now_alone = g.met.F.Source.sane.only_now old in record {
      recovers = record {
        owed = λ told b a due owes. started o old (FolderOwes journal_text b a due) now_alone owes;
        closed = λ told shut. begun o is_swept is_swept old now_alone;
        opened = λ told shut. tt;
        forward = λ told. tt;
        done = λ told gate. tt;
        cleared = λ told shut. tt;
        meant = λ told steps count a is_open. (tt, tt);
        refused = λ told. tt;
        starved = (refl, refl, refl);
        read_first = λ told none gate. (refl, refl, refl);
        cause = no_cause _ _ (starved_only {T = Bool} (Err OutOfMemory) refl);
        same_kind = refl;
        changes = omega arith;
        changed = λ is. cc;
        untouched = λ told gate is. refl;
        unlaid = λ is. refl;
        uncounted = λ told shut. refl;
        stopped = λ told steps count is. tt;
      };
    }
