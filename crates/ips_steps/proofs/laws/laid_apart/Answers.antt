use Rattle.std.proofs.lemmas.Bool.{false_from_ne_true}
use Rattle.ips_steps.specs.Steps.{stage_name}
use Rattle.ips_text.proofs.Ancestry.{covers-self}
use Rattle.ips_steps.proofs.Apart.{list_alike}
use Rattle.ips_steps.proofs.Linked.{own_alike, marks_alike}
use Rattle.ips_steps.proofs.Lists.{clash}
use Rattle.ips_steps.proofs.Numbered.{content_covered}
use Rattle.ips_steps.proofs.laws.laid_apart.Goals as goal

pub returns : goal.returns
returns c = record {
  each = list_alike;
  own = λ apart steps t u may off h. own_alike apart (λ q a. (off q a).0)
      (λ n. false_from_ne_true _ (λ a. clash _ (content_covered n) (off _ a).1))
      (false_from_ne_true _ (λ a. clash _ (covers-self stage_name) (off _ a).1))
      steps t u may h;
  marks = marks_alike;
}
