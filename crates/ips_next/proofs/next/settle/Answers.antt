use Rattle.std.proofs.Common.{◌≡◌, ◌⊎◌, refl, subst}
use Rattle.ips_state.specs.State.{Recorded, recorded}
use Rattle.ips_state.specs.Lawful.{IsLawful}
use Rattle.ips_words.specs.declared.what.What.{What}
use Rattle.ips_words.specs.declared.what.What.TheVariants.{UpdateFormat}
use Rattle.ips_asked.specs.Formed.{IsFormed}
use Rattle.ips_asked.specs.Asked.{IsAskedBy}
use Rattle.ips_asked.proofs.Lawful.{asked_lawful}
use Rattle.ips_next.proofs.Recorded.{settled_lawful}
use Rattle.ips_next.proofs.next.settle.Goals as goal

asked_so : (what : What) (old copy new : Recorded) → IsFormed what → (old.format ≡ 2) ⊎ (what ≡ UpdateFormat) → IsLawful old → copy ≡ old → IsAskedBy what copy new → IsLawful new
asked_so what old copy new formed format lawful same asked = asked_lawful what old new formed format lawful (subst (λ (s : Recorded). IsAskedBy what s new) same asked)

pub decided-requires : goal.decided-requires
decided-requires g c =
    let asked = recorded c.ask.new.state in record {
      old = c.requires.lawful;
      asked = asked_so c.args.what.now (recorded c.args.old.now) (recorded c.args.next.now) asked c.requires.formed c.requires.format c.requires.lawful c.requires.copy c.in_ok-ask.ensures;
      asked_by = subst (λ (s : Recorded). IsAskedBy c.args.what.now s asked) c.requires.copy c.in_ok-ask.ensures;
    }

pub returns-clause-lawful : goal.returns-clause-lawful
returns-clause-lawful g c =
    let asked = recorded c.ask.new.state in
    let lawful = asked_so c.args.what.now (recorded c.args.old.now) (recorded c.args.next.now) asked c.requires.formed c.requires.format c.requires.lawful c.requires.copy c.in_ok-ask.ensures in
    settled_lawful asked _ lawful c.in_ok-packages.ensures.lawful.packages c.in_ok-packages.ensures.lawful.stems c.in_ok-index.ensures.rows refl
