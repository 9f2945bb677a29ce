use Rattle.std.proofs.Common.{ℕ, List, ◌++◌, string_bytes, take_all, ap, ◌∙◌, arith}
use Rattle.std.specs.List.{flat_map}
use Rattle.ips_words.specs.History.{blank_and_word}
use Rattle.ips_words.proofs.Histories.{blanks}
use Rattle.ips_words.proofs.history.push_words.Goals as goal

pub returns : goal.returns
returns c =
    let words = c.args.words.now in
    let old = string_bytes c.args.out.now in
    c.loop-word.invariant
    ∙ ap (λ l. old ++ flat_map (λ w. blank_and_word (string_bytes w)) l) (take_all c.loop-word.word-index words (omega (arith, c.loop-word-test.false)))
    ∙ ap (λ (l : List ℕ). old ++ l) (blanks string_bytes words)
