-- What the words ask for is well formed.
use Rattle.std.proofs.Common.{ℕ, false, List, Option, subst, arith}
use Rattle.ips_fmri.specs.Name.{IsStem}
use Rattle.ips_fmri.specs.Fmri.{IfPublisher}
use Rattle.ips_send_words.specs.Words.{Asks, Names, create_form}
use Rattle.ips_send_words.specs.declared.request.Request.{Request}
use Rattle.ips_send_words.specs.declared.request.Request.TheVariants.{Create, Publish}
use Rattle.ips_send_words.proofs.Forms.{of_begin, begin_at}
use Rattle.ips_publish.specs.Sent.{IsFit}

pub asks_fit : (moment : ℕ) (words : List (List ℕ)) (request : Request) → Asks moment words request → IsFit request
asks_fit moment words (Create publisher) asks = begin_at create_form words 7 6 publisher (of_begin create_form words 7 asks.0) (omega arith) asks.1
asks_fit moment words (Publish publisher stem version path) asks =
    let names : Names moment asks.1.0 publisher stem version = asks.1.2 in
    (subst (λ (p : Option (List ℕ)). IfPublisher p) names.publisher_is names.is.publisher, subst (λ (s : List ℕ). IsStem false s) names.stem_is names.is.stem, names.is_version)
