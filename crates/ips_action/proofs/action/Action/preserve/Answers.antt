use Rattle.std.specs.Prelude.{codes}
use Rattle.ips_action.specs.declared.kind.ActionKind.TheVariants.{File}
use Rattle.ips_action.specs.Attrs.{values_of}
use Rattle.ips_action.specs.Action.{payload_word}
use Rattle.ips_action.proofs.Tabled.{kept_as, preserve_single, preserve_each, one_word, one_preserve}
use Rattle.ips_action.proofs.action.Action.preserve.Goals as goal

pub returns-in-Some-clause-file : goal.returns-in-Some-clause-file
returns-in-Some-clause-file c = λ is. rw (← c.self.view_is) (
    let rows = kept_as c.self.inside.kind File (payload_word c.self.inside.payload) c.self.inside.attrs c.in-File.is c.self.invariant.rows in
    one_preserve (values_of (codes "preserve") c.self.inside.attrs) c.in-Some.word.now c.preserve_named.result (preserve_single (payload_word c.self.inside.payload) c.self.inside.attrs rows) c.in-Some.ensures.some c.preserve_named.ensures)

pub preserve_named-requires : goal.preserve_named-requires
preserve_named-requires c =
    let rows = kept_as c.self.inside.kind File (payload_word c.self.inside.payload) c.self.inside.attrs c.in-File.is c.self.invariant.rows in
    one_word (values_of (codes "preserve") c.self.inside.attrs) c.in-Some.word.now (preserve_each (payload_word c.self.inside.payload) c.self.inside.attrs rows) c.in-Some.ensures.some
