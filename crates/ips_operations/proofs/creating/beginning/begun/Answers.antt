use Rattle.std.proofs.Common.{List, ℕ, subst}
use Rattle.ips_state.specs.State.{recorded}
use Rattle.ips_next.proofs.Recorded.{line_added}
use Rattle.ips_operations.proofs.creating.Founding.{founded_lawful, kept_words, blank}
use Rattle.ips_operations.proofs.creating.beginning.begun.Goals as goal

pub returns-clause-lawful : goal.returns-clause-lawful
returns-clause-lawful c =
    let what = c.args.command.now.what in
    let state = c.in_ok-state.state in
    let lawful = founded_lawful c.founded_is_lawful.ensures what (recorded state) c.requires.formed.formed c.in_ok-state.ensures.founded in
    line_added (recorded state) c.add_line.new.history.items lawful
    (c.in_ok-add_line.ensures.lawful (kept_words what c.args.command.now.history c.requires.makes c.requires.formed.line) lawful.history)

pub returns-clause-blank : goal.returns-clause-blank
returns-clause-blank c = let bare = blank c.args.command.now.what c.in_ok-state.state c.in_ok-state.ensures.founded in record { format = bare.format; none_installed = bare.none_installed; no_index = bare.no_index }
