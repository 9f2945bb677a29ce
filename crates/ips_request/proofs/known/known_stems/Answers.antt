use Rattle.std.proofs.Common.{◌||◌, ◌∙◌, List, ℕ, ap, map, option_map}
use Rattle.ips_state.specs.State.{installed}
use Rattle.ips_request.specs.Named.{installed_stems, listed_stems}
use Rattle.ips_request.specs.Listing.{listing_of}
use Rattle.ips_request.specs.Stems.{has}
use Rattle.ips_request.proofs.Inserted.{or_ends}
use Rattle.ips_request.proofs.Results.{ok_both}
use Rattle.ips_request.proofs.known.known_stems.Goals as goal

pub returns : goal.returns
returns c =
    let there = installed_stems (map installed c.args.packages.now) in
    let listed = listed_stems (listing_of (option_map (λ b. b.now) c.args.catalog)) in
    ok_both _ _ _ c.in_order.result c.in_order.ensures.stems c.in_order.ensures.order
    (λ v is ascend. record {
      each = λ x.
          ap (has x) is ∙ c.in_ok-add_installed.ensures x
          ∙ ap (λ b. has x there || b) (c.in_ok-add_listed.ensures x ∙ ap (λ (ks : List (List ℕ)). has x listed || has x ks) c.new-known.ensures.empty)
          ∙ or_ends (has x there) (has x listed);
      order = ascend;
    })
