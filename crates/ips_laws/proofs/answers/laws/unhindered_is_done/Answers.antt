use Rattle.std.proofs.Common.{◌≡◌, Bool, true, false, IsTrue, IsFalse, refl}
use Rattle.ips_tell.specs.told.Told.{claims_done, manner_of}
use Rattle.ips_laws.proofs.answers.laws.unhindered_is_done.Goals as goal

-- what isn't false is true
true_unless : (test b : Bool) → test ≡ b → (IsFalse test → ⊥) → IsTrue test
true_unless test true e never = e
true_unless test false e never = absurd (never e)

pub returns : goal.returns
returns g c = λ command moment old new told done tells reads free fixed.
    true_unless (claims_done (manner_of told)) _ refl (λ undone. free (record {
      told = told;
      fixed = fixed;
      undone = undone;
      stands = c.cause_is_answered.ensures.caused command moment old new told done tells reads;
    }))
