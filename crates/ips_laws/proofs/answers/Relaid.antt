-- A repair lays the same files whatever the bytes of payloads are.
use Rattle.std.proofs.Common.{◌≡◌, ℕ, Bool, true, false, cond, not, ◌&&◌, List, Option, Some, None, refl, sym, ◌∙◌, ap}
use Rattle.std.specs.List.{list_any}
use Rattle.ips_outside.specs.Image.{Entry, File, Image, is_file}
use Rattle.ips_action.specs.declared.action.Preserve.{Preserve}
use Rattle.ips_after.specs.After.{leads_to, over_or}
use Rattle.ips_after.specs.Change.{Laid, makes}
use Rattle.ips_after.specs.Findings.{Damage, Missing, NotSame, WrongContent, WrongKind, WrongMode, WrongTarget, finding_as, finding_of}
use Rattle.ips_after.specs.Repaired.{Repair, is_lacking, laying, mended_as, relinked_as, remedy, repairs}
use Rattle.ips_after.specs.Request.{Over, Want, WantDir, WantFile, WantHard, WantLink, Wanted}

laid_same : (bytes other : List ℕ → List ℕ) (w : Wanted) → makes (laying bytes w) ≡ makes (laying other w)
laid_same bytes other (WantDir m) = refl
laid_same bytes other (WantFile payload m preserve) = refl
laid_same bytes other (WantLink target) = refl
laid_same bytes other (WantHard to) = refl

made_same : (bytes other : List ℕ → List ℕ) (w : Option Wanted) (d : Option Damage) → makes (mended_as bytes w d) ≡ makes (mended_as other w d)
made_same bytes other None d = refl
made_same bytes other (Some w) None = refl
made_same bytes other (Some w) (Some Missing) = laid_same bytes other w
made_same bytes other (Some w) (Some WrongKind) = laid_same bytes other w
made_same bytes other (Some w) (Some WrongContent) = laid_same bytes other w
made_same bytes other (Some w) (Some WrongMode) = refl
made_same bytes other (Some w) (Some WrongTarget) = laid_same bytes other w
made_same bytes other (Some w) (Some NotSame) = laid_same bytes other w

-- a file that is laid for its finding, or because a hard link needs it
relaid_as : (bytes other : List ℕ → List ℕ) (payload : List ℕ) (m : ℕ) (preserve : Preserve) (lacking : Bool) (d : Option Damage)
    → cond lacking (Laid (File m (bytes payload))) (remedy bytes (WantFile payload m preserve) d) ≡ Laid (File m (bytes payload))
    → cond lacking (Laid (File m (other payload))) (remedy other (WantFile payload m preserve) d) ≡ Laid (File m (other payload))
relaid_as bytes other payload m preserve true d h = refl
relaid_as bytes other payload m preserve false None h = cc
relaid_as bytes other payload m preserve false (Some Missing) h = refl
relaid_as bytes other payload m preserve false (Some WrongKind) h = refl
relaid_as bytes other payload m preserve false (Some WrongContent) h = refl
relaid_as bytes other payload m preserve false (Some WrongMode) h = cc
relaid_as bytes other payload m preserve false (Some WrongTarget) h = refl
relaid_as bytes other payload m preserve false (Some NotSame) h = refl

module _ (want : Want) (holds : List ℕ → List ℕ → Bool) (over : Over) (t : Image) where
  abbrev f : (List ℕ → List ℕ) → Repair
  f bytes = record { want = want; bytes = bytes; holds = holds; over = over }

  lacking_same : (bytes other : List ℕ → List ℕ) (q : List ℕ) → is_lacking (f bytes) t q ≡ is_lacking (f other) t q
  lacking_same bytes other q = λ i. not (is_file (t.look q)) && list_any (λ h. leads_to q (want.at h) && made_same bytes other (want.at h) (finding_of holds t h (want.at h)) i) want.keys

  module _ (q payload : List ℕ) (m : ℕ) (preserve : Preserve) (at : want.at q ≡ Some (WantFile payload m preserve)) (silent : over.at q ≡ None) where
    relaid_is : (bytes : List ℕ → List ℕ)
        → repairs (f bytes) t q ≡ cond (is_lacking (f bytes) t q) (Laid (File m (bytes payload))) (remedy bytes (WantFile payload m preserve) (finding_as holds t q (WantFile payload m preserve)))
    relaid_is bytes =
        ap (λ (o : Option (Option Entry)). over_or o (relinked_as (f bytes) t q (want.at q))) silent
        ∙ ap (relinked_as (f bytes) t q) at
        ∙ ap (λ (w : Option Wanted). cond (is_lacking (f bytes) t q) (Laid (File m (bytes payload))) (mended_as bytes w (finding_of holds t q w))) at

    pub relaid : (bytes other : List ℕ → List ℕ) → repairs (f bytes) t q ≡ Laid (File m (bytes payload)) → repairs (f other) t q ≡ Laid (File m (other payload))
    relaid bytes other laid =
        relaid_is other
        ∙ relaid_as bytes other payload m preserve (is_lacking (f other) t q) (finding_as holds t q (WantFile payload m preserve))
        (ap (λ (b : Bool). cond b (Laid (File m (bytes payload))) (remedy bytes (WantFile payload m preserve) (finding_as holds t q (WantFile payload m preserve)))) (lacking_same other bytes q) ∙ sym (relaid_is bytes) ∙ laid)
