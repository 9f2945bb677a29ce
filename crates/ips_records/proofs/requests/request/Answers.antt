use Rattle.std.proofs.Common.{◌≡◌, ℕ, List, subst}
use Rattle.ips_records.specs.Form.{IsWord, IsRequestLine}
use Rattle.ips_records.proofs.Found.{found_none}
use Rattle.ips_records.proofs.RequestForms.{request_word}
use Rattle.ips_records.proofs.requests.request.Goals as goal

pub returns-then-branch-clause-none : goal.returns-then-branch-clause-none
returns-then-branch-clause-none c =
    found_none c.text_of.result (IsWord c.args.bytes.now → ⊥) ((line : List ℕ) → IsRequestLine line → line ≡ c.args.bytes.now → ⊥)
    (λ never line r e. never (request_word c.args.bytes.now (subst IsRequestLine e r))) c.text_of.ensures.none
