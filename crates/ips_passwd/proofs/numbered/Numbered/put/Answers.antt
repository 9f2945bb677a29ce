use Rattle.std.proofs.Common.{Bool, List, get_or, set, sym, ap, ◌∙◌}
use Rattle.std.specs.List.{position}
use Rattle.std.proofs.lemmas.Result.{on_ok_weaker}
use Rattle.ips_books.specs.Lines.{AccountLine}
use Rattle.ips_books.specs.Accounts.{is_of}
use Rattle.ips_books.proofs.Written.{put_first, put_none}
use Rattle.ips_passwd.proofs.numbered.Numbered.put.Goals as goal

pub returns-in-Some : goal.returns-in-Some
returns-in-Some c =
    let lines = c.args.self.now in
    let line = c.index-lines-place.result in
    let at = c.index-lines-place.is ∙ ap (λ (l : List AccountLine). get_or l c.in-Some.place line) (c.lines.ensures ∙ c.self.view_is) in
    on_ok_weaker c.replace.result (λ e.
    e ∙ ap (set lines c.in-Some.place) (c.new.ensures ∙ ap (λ (ended : Bool). let l : AccountLine = record { text = c.args.text.items; ended = ended } in l) c.is_ended-ended.ensures)
    ∙ sym (put_first c.args.name.now c.args.text.items lines c.in-Some.place line (sym (c.in-Some.ensures ∙ ap (position (is_of c.args.name.now)) c.self.view_is)) at)) c.replace.ensures

pub returns-in-None : goal.returns-in-None
returns-in-None c = on_ok_weaker c.add.result (λ e. e ∙ sym (put_none c.args.name.now c.args.text.items c.args.self.now (sym (c.in-None.ensures ∙ ap (position (is_of c.args.name.now)) c.self.view_is)))) c.add.ensures
