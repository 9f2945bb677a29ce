-- Words and their quoted forms.
use Rattle.std.proofs.Common.{◌≡◌, ℕ, List}
use Rattle.ips_text.specs.Quote.{quoted}
use Rattle.ips_text.proofs.Quotes.{quoted_apart}
use Rattle.ips_records.specs.Listed.{Sole}
use Rattle.ips_text.proofs.Bytes.{text_bytes}
use Rattle.ips_records.specs.Form.{IsWord}

-- no two words have one quoted form
pub word_one : (a b : List ℕ) → IsWord a → IsWord b → quoted a ≡ quoted b → a ≡ b
word_one a b wa wb e = quoted_apart a b (text_bytes a wa.text) (text_bytes b wb.text) e

pub word_sole : (word : List ℕ) → IsWord word → Sole quoted IsWord word
word_sole word w = record { fits = w; alone = λ other o e. word_one other word o w e }
