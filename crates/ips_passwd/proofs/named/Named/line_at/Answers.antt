use Rattle.std.proofs.Common.{List, get_or, sym, ap, ◌∙◌}
use Rattle.ips_books.specs.Lines.{AccountLine}
use Rattle.ips_books.specs.Accounts.{is_of}
use Rattle.ips_passwd.proofs.Firsts.{line_there, line_none}
use Rattle.ips_passwd.proofs.named.Named.line_at.Goals as goal

pub returns-in-Some : goal.returns-in-Some
returns-in-Some c =
    line_there (is_of c.args.name.now) c.args.self.now c.in-Some.place c.index.result.now (sym c.in-Some.ensures) (c.index.ensures ∙ ap (λ (l : List AccountLine). get_or l c.in-Some.place c.index.result.now) c.self.view_is)

pub returns-in-None : goal.returns-in-None
returns-in-None c = sym (line_none (is_of c.args.name.now) c.args.self.now (sym c.in-None.ensures))
