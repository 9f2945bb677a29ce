use Rattle.std.proofs.Common.{◌≡◌, ℕ, List, ap, sym, subst, ◌∙◌}
use Rattle.ips_text.specs.Quote.{quoted, AreBytes}
use Rattle.ips_text.specs.declared.quoting.BadQuote.{BadQuote}
use Rattle.ips_records.specs.Listed.{Sole}
use Rattle.ips_text.proofs.Bytes.{text_bytes}
use Rattle.ips_records.specs.Form.{IsWord}
use Rattle.ips_records.proofs.Found.{found_some, found_none, gives_same}
use Rattle.ips_records.proofs.WordForms.{word_sole}
use Rattle.ips_records.proofs.words.word.Goals as goal

pub returns-in-Ok-clause-sole : goal.returns-in-Ok-clause-sole
returns-in-Ok-clause-sole c = found_some c.text_of.result IsWord (Sole quoted IsWord) word_sole c.text_of.ensures.word

pub returns-in-Ok-clause-of_bytes : goal.returns-in-Ok-clause-of_bytes
returns-in-Ok-clause-of_bytes c =
    found_some c.text_of.result (λ (text : List ℕ). text ≡ c.deref.result.now) (λ (word : List ℕ). quoted word ≡ c.args.bytes.now)
    (λ text e. ap quoted (e ∙ c.deref.ensures.value) ∙ sym c.in-Ok.ensures.found) c.text_of.ensures.some

pub returns-in-Ok-clause-none : goal.returns-in-Ok-clause-none
returns-in-Ok-clause-none c =
    found_none c.text_of.result (IsWord c.deref.result.now → ⊥) ((word : List ℕ) → IsWord word → quoted word ≡ c.args.bytes.now → ⊥)
    (λ never word w e. never (subst IsWord (gives_same BadQuote (λ (v : _). v.items) c.in-Ok.word word (c.in-Ok.ensures.only word (text_bytes word w.text) (sym e)) ∙ sym c.deref.ensures.value) w))
    c.text_of.ensures.none

pub returns-in-Err-Bad-clause-none : goal.returns-in-Err-Bad-clause-none
returns-in-Err-Bad-clause-none c = λ word w e. (rw c.in-Err-Bad.field-0-is at c.in-Err-Bad.ensures.bad) word (text_bytes word w.text) (sym e)
