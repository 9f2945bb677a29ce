use Rattle.std.proofs.Common.{◌≡◌, ◌++◌, ℕ, List, codes, rules}
use Rattle.ips_fmri.specs.Name.{IsPublisher}
use Rattle.ips_load.proofs.HeadWords.{found_sole, found_written, found_none}
use Rattle.ips_load.proofs.head_words.named_publisher.Goals as goal

pub returns-clause-sole : goal.returns-clause-sole
returns-clause-sole c = found_sole (codes "publisher ") (λ (p : List ℕ). p) IsPublisher c.publisher.result c.publisher.ensures.sole

pub returns-clause-of_bytes : goal.returns-clause-of_bytes
returns-clause-of_bytes c =
    found_written (codes "publisher ") (λ (p : List ℕ). p) IsPublisher c.publisher.result c.args.bytes.now c.in-Some.rest.now c.in-Some.ensures.some c.publisher.ensures.of_bytes

pub returns-clause-none : goal.returns-clause-none
returns-clause-none c =
    found_none (codes "publisher ") (λ (p : List ℕ). p) IsPublisher c.publisher.result c.args.bytes.now c.in-Some.rest.now c.in-Some.ensures.some c.publisher.ensures.none
