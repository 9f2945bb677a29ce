use Rattle.std.proofs.Common.{◌∙◌, ap, subst, List, [], inl, inr}
use Rattle.std.specs.Prelude.{Contains}
use Rattle.std.specs.Option.{option_map_or}
use Rattle.ips_index.specs.Rows.{IndexedValue}
use Rattle.ips_index.specs.Entries.{listed_at}
use Rattle.ips_index.proofs.Listed.{gone_found}
use Rattle.ips_index.proofs.Growing.{none_there}
use Rattle.ips_index.proofs.keeping.gone_rows.Goals as goal

pub returns : goal.returns
returns c =
    gone_found c.absent.result c.deref.result.now (listed_at c.args.stems.now c.args.stem.now) c.add_all.new.set.keys c.args.list.now (c.deref.ensures.value ∙ ap (λ (o : _). option_map_or (λ rows. rows.items) o []) c.in-Some.ensures.value)
    (λ row h. elim (c.add_all.ensures.only row h) [ inl had ↦ absurd (none_there row (subst (λ (l : List IndexedValue). Contains l row) c.new-staying.ensures.empty had)) | inr one ↦ one ]) c.in_ok-add_all.ensures.all c.absent.ensures
