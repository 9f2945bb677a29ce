use Rattle.std.proofs.Common.{Option, Some, sym, ◌∙◌, ap, Bor}
use Rattle.std.specs.Option.{option_map}
use Rattle.ips_meaning.specs.declared.entry.Entry.{Entry}
use Rattle.ips_after.specs.After as after
use Rattle.ips_change.specs.wanted.Named.{is_payload_of}
use Rattle.ips_change.specs.wanted.Wanted.{wanted_of}
use Rattle.ips_change.specs.Stands.{stands_of}
use Rattle.ips_change.specs.Told.{naming}
use Rattle.ips_change.proofs.Ruled.{changed_if}
use Rattle.ips_change.proofs.Seen.{asked}
use Rattle.ips_change.proofs.rules.itself.Goals as goal

pub returns-in-Some-clause-told : goal.returns-in-Some-clause-told
returns-in-Some-clause-told c = λ r e h.
    let was = option_map (λ (x : Bor Entry). wanted_of x.now) c.args.old in
    let w = wanted_of c.in-Some.new.now in
    let here = h ∙ ap (λ (o : Option (Bor Entry)). stands_of is_payload_of was (option_map (λ (x : Bor Entry). wanted_of x.now) o) e) c.in-Some.is in
    let both = asked is_payload_of was (Some w) e c.args.stands here c.in_default.not-Unasked in
    c.new_change.ensures.told r e both.1
    ∙ changed_if (naming r) was w e both.0
    ∙ sym (ap (λ (o : Option (Bor Entry)). after.by_itself (naming r) was (option_map (λ (x : Bor Entry). wanted_of x.now) o) e) c.in-Some.is)
