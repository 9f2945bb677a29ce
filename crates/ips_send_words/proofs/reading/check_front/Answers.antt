use Rattle.std.proofs.Common.{◌≡◌, ℕ, List, [], ◌∷◌, map, string_bytes, Global, refl, arith}
use Rattle.ips_fmri.specs.Name.{IsPublisher}
use Rattle.ips_send_words.specs.Words.{Is}
use Rattle.ips_send_words.proofs.Faults.{front_wrong, create_front}
use Rattle.ips_send_words.proofs.reading.check_front.Goals as goal

pub returns-in-Err-clause-bad : goal.returns-in-Err-clause-bad
returns-in-Err-clause-bad c = λ moment.
    let words = map (string_bytes {Z = Global}) c.args.words.now in
    front_wrong words moment 0 _ c.in-Err.usage (omega arith) (create_front words 0 (omega arith) (λ lt. absurd (omega (arith, lt))) (λ lt. absurd (omega (arith, lt))) (λ lt. absurd (omega (arith, lt)))) (λ w is. is) (λ w is. is) c.in-Err.ensures.bad

pub returns-in-Err-check_word-clause-bad : goal.returns-in-Err-check_word-clause-bad
returns-in-Err-check_word-clause-bad c = λ moment.
    let words = map (string_bytes {Z = Global}) c.args.words.now in
    front_wrong words moment 1 _ c.in-Err-check_word.usage (omega arith) (create_front words 1 (omega arith) (λ lt. c.in-Ok.ensures.found) (λ lt. absurd (omega (arith, lt))) (λ lt. absurd (omega (arith, lt)))) (λ w is. is) (λ w is. is) c.in-Err-check_word.ensures.bad

pub returns-in-Err-check_word-2-clause-bad : goal.returns-in-Err-check_word-2-clause-bad
returns-in-Err-check_word-2-clause-bad c = λ moment.
    let words = map (string_bytes {Z = Global}) c.args.words.now in
    front_wrong words moment 3 _ c.in-Err-check_word-2.usage (omega arith) (create_front words 3 (omega arith) (λ lt. c.in-Ok.ensures.found) (λ lt. c.in-Ok-check_word.ensures.found) (λ lt. absurd (omega (arith, lt)))) (λ w is. is) (λ w is. is) c.in-Err-check_word-2.ensures.bad
