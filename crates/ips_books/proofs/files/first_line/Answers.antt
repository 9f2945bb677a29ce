use Rattle.std.proofs.Common.{List, ℕ, ◌+◌, ◌∷◌, ◌++◌, take, sym, ap, ◌∙◌}
use Rattle.std.proofs.lemmas.List.{take_rest}
use Rattle.ips_books.proofs.Read.{cut_at, before_cut, none_first}
use Rattle.ips_books.proofs.files.first_line.Goals as goal

pub returns-in-Some-clause-some : goal.returns-in-Some-clause-some
returns-in-Some-clause-some c =
    cut_at c.args.text.now c.in-Some.at (sym c.in-Some.ensures.place)
    ∙ ap (λ (l : List ℕ). take c.in-Some.at c.args.text.now ++ 10 ∷ l) (sym (take_rest c.args.text.now (c.in-Some.at + 1)))

pub returns-in-Some-clause-first : goal.returns-in-Some-clause-first
returns-in-Some-clause-first c = before_cut c.args.text.now c.in-Some.at (sym c.in-Some.ensures.place)

pub returns-in-None-clause-none : goal.returns-in-None-clause-none
returns-in-None-clause-none c = none_first _ c.args.text.now (sym c.in-None.ensures.place)
