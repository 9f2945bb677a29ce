use Rattle.std.proofs.Common.{List, refl, sym, subst}
use Rattle.ips_line.specs.declared.words.Pair.{Pair}
use Rattle.ips_action.specs.Attrs.{Gathers}
use Rattle.ips_action.proofs.Lines.{texts, texts_taken, is_action}
use Rattle.ips_action.proofs.reading.judged.Goals as goal

pub invariant_of-result : goal.invariant_of-result
invariant_of-result c =
    let P : List Pair → Type 0 = λ l. Gathers l c.in_ok-attrs.attrs in
    is_action c.args.kind (texts c.args.payload) c.name_of.result c.args.pairs.items c.in_ok-attrs.attrs c.requires.keys (texts_taken c.args.kind c.args.payload c.requires.taken) c.in_ok-attrs.ensures.attrs
    (subst P c.in_ok-hold.ensures c.in_ok-attrs.ensures.gathers) c.in_ok-judge.ensures.kept c.name_of.ensures.word c.name_of.ensures.named

pub returns-clause-found : goal.returns-clause-found
returns-clause-found c =
    let P : List Pair → Type 0 = λ l. Gathers l c.in_ok-attrs.attrs in
    let gathers = subst P c.in_ok-hold.ensures c.in_ok-attrs.ensures.gathers in
    record {
      of_kind = refl;
      of_payload = sym c.name_of.ensures.word;
      of_attrs = gathers;
      action =
          is_action c.args.kind (texts c.args.payload) c.name_of.result c.args.pairs.items c.in_ok-attrs.attrs c.requires.keys (texts_taken c.args.kind c.args.payload c.requires.taken) c.in_ok-attrs.ensures.attrs
          gathers c.in_ok-judge.ensures.kept c.name_of.ensures.word c.name_of.ensures.named;
    }
