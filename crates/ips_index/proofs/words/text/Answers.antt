use Rattle.std.proofs.Common.{◌≡◌, ℕ, List, sym, subst, ◌∙◌}
use Rattle.std.specs.Str.{IsUtf8}
use Rattle.ips_text.specs.Quote.{quoted}
use Rattle.ips_text.specs.declared.quoting.BadQuote.{BadQuote}
use Rattle.ips_text.proofs.Bytes.{text_bytes}
use Rattle.ips_records.proofs.Found.{found_none, gives_same}
use Rattle.ips_index.proofs.words.text.Goals as goal

pub returns-in-Ok-clause-none : goal.returns-in-Ok-clause-none
returns-in-Ok-clause-none c =
    found_none c.text_of.result (IsUtf8 c.deref.result.now → ⊥) ((text : List ℕ) → IsUtf8 text → c.args.bytes.now ≡ quoted text → ⊥)
    (λ never text u e. never (subst IsUtf8 (gives_same BadQuote (λ (v : _). v.items) c.in-Ok.plain text (c.in-Ok.ensures.only text (text_bytes text u) e) ∙ sym c.deref.ensures.value) u)) c.text_of.ensures.none

pub returns-in-Err-Bad-clause-none : goal.returns-in-Err-Bad-clause-none
returns-in-Err-Bad-clause-none c = λ text u e. (rw c.in-Err-Bad.field-0-is at c.in-Err-Bad.ensures.bad) text (text_bytes text u) e
