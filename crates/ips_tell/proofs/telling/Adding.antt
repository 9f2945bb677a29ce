-- Pieces that are told one behind the other.
use Rattle.std.proofs.Common.{◌≡◌, ℕ, Bool, true, false, List, [], ◌++◌, sym, subst}
use Rattle.std.proofs.lemmas.List.{append-nil, append_assoc}
use Rattle.ips_outside.specs.Taking.{Taking}
use Rattle.ips_files.specs.Telling.{Tells}
use Rattle.ips_tell.specs.telling.Finishing.{Adds}
use Rattle.ips_files.proofs.Tellings.{tells_then, tells_stop}

module _ {O : Type 0} (t : Taking O) where
  -- A piece that is told whole where all before it was, and else not at all.
  pub adds_told : (piece : List ℕ) (old new : O) (told : Bool) → Tells t piece old new told → Adds t piece old true new told
  adds_told piece old new told tells = λ o front was. tells_then t front piece o old new told was tells

  pub adds_untold : (piece : List ℕ) (old : O) → Adds t piece old false old false
  adds_untold piece old = λ o front was. tells_stop t front piece o old was

  pub adds_nothing : (old : O) (told : Bool) → Adds t [] old told old told
  adds_nothing old told = λ o front was. subst (λ (l : List ℕ). Tells t l o old told) (sym (append-nil front)) was

  -- A piece behind another.
  pub adds_then : (a b : List ℕ) (old mid new : O) (x y z : Bool) → Adds t a old x mid y → Adds t b mid y new z → Adds t (a ++ b) old x new z
  adds_then a b old mid new x y z first second = λ o front was. subst (λ (l : List ℕ). Tells t l o new z) (append_assoc front a b) (second o (front ++ a) (first o front was))
