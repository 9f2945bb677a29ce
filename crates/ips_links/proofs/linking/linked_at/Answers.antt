use Rattle.std.proofs.Common.{◌≡◌, Some, None, sym, ◌∙◌, ap, Bor}
use Rattle.std.specs.Option.{option_map}
use Rattle.std.proofs.lemmas.Option.{same_Some}
use Rattle.ips_text.specs.declared.path.RelPath.{RelPath}
use Rattle.ips_after.specs.After as after
use Rattle.ips_change.specs.Told.{change_told, naming}
use Rattle.ips_change.specs.survey.Rows.{row_pair}
use Rattle.ips_links.proofs.Linked.{linked_is}
use Rattle.ips_links.proofs.linking.linked_at.Goals as goal
use Rattle.ips_links.proofs.linking.linked_at.Goals.{in-Some, in-None}

pub returns : goal.returns
returns c = record {
  told = λ r t of looked need mark.
      let row = c.args.row.now in
      let wanted = (row_pair row).wanted in
      c.linked.ensures.told r.bytes
      ∙ linked_is r t row.path.now.bytes wanted (change_told r.bytes c.itself.result) c.args.needed c.match-lead.led of.1 (c.itself.ensures.told r t of looked) need (λ to at.
      elim c.match-lead.branch [
        | in-Some w ↦
            let led : Some w.in-Some.to.now.bytes ≡ Some to = sym (ap (option_map (λ (x : Bor RelPath). x.now.bytes)) w.in-Some.is) ∙ c.lead.ensures ∙ at in
            w.led-is ∙ w.is_marked-led.ensures (after.has_laid (naming r) t) mark ∙ ap (after.has_laid (naming r) t) (w.bytes.ensures.value ∙ same_Some w.in-Some.to.now.bytes to led)
        | in-None w ↦
            let bad : None ≡ Some to = sym (ap (option_map (λ (x : Bor RelPath). x.now.bytes)) w.in-None.is) ∙ c.lead.ensures ∙ at in absurd cc
      ]);
  fits = c.linked.ensures.fits c.itself.ensures.fits;
}
