-- The states between which a request goes, and what is around it.
use Rattle.ips_outside.specs.Outside.{Outside}
use Rattle.ips_plan.specs.image_plan.Accounts.{Given}
use Rattle.ips_plan.specs.image_plan.Meaning.{StateMeans}
use Rattle.ips_plan.specs.declared.image_plan.between.Between.{Between}

-- What is wanted is what the packages of both states mean.
pub record AreMeant (b : Between) : Type 0 where
  pub old : StateMeans b.old.now b.was.now
  pub new : StateMeans b.new.now b.is.now

-- What is given by a folder and a source, with the publisher of the new state.
abbrev pub given : {F S : Type 0} → Outside F → Outside S → F → S → Between → Given
given o p folder source b = record {
  told = o.tells folder;
  image = (o.state folder).held;
  tells = p.tells source;
  publisher = b.new.now.publisher;
  repository = (p.state source).held;
}
