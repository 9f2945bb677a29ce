use Rattle.std.proofs.Common.{◌++◌, map, sym, ◌∙◌, ap, subst}
use Rattle.std.proofs.lemmas.List.{map-append}
use Rattle.ips_conflict.specs.Index.{has_path}
use Rattle.ips_aside.specs.Lost.{AreFirstFree, is_taken, lost_seen, names_of}
use Rattle.ips_aside.proofs.FirstFree.{free_as, free_more, marked_names}
use Rattle.ips_aside.proofs.finding.name_one.Goals as goal

pub returns-clause-seen : goal.returns-clause-seen
returns-clause-seen c = ap (map lost_seen) c.in_ok-push.ensures.items ∙ map-append lost_seen c.args.names.now.items _

pub returns-clause-free : goal.returns-clause-free
returns-clause-free c = λ before marked are.
    subst (AreFirstFree c.args.root.now.bytes before) (sym c.in_ok-push.ensures.items)
    (free_more c.args.root.now.bytes before c.args.names.now.items _ are (free_as (has_path c.args.taken.now) (is_taken (before ++ names_of c.args.names.now.items)) _ _ _ marked c.in_ok-name.ensures))

pub returns-clause-marked : goal.returns-clause-marked
returns-clause-marked c = λ before marked.
    marked_names c.args.taken.now c.mark.new.keys before c.args.names.now.items c.push.new.self.items _ c.deref.result.now c.in_ok-push.ensures.items c.deref.ensures.value c.in_ok-mark.ensures marked
