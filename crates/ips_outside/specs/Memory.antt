-- What the sources in memory mean.
use Rattle.std.specs.Prelude.{◌≡◌, ℕ, true, refl}
use Rattle.ips_outside.specs.Image.{Image, IsImage}
use Rattle.ips_outside.specs.State.{untouched}
use Rattle.ips_outside.specs.Outside.{Outside, IsOutside}
use Rattle.ips_outside.specs.Tally.{Tally}
use Rattle.ips_outside.specs.Tree.{tree_image, tree_formed}
use Rattle.ips_outside.specs.declared.source.MemSource.{MemSource}
use Rattle.ips_outside.specs.declared.source.SureSource.{SureSource}

-- Something in memory that nothing changes: it tells its image, which is the same at every moment.
abbrev pub unchanging : {F : Type 0} → (F → Image) → (F → ℕ) → Outside F
unchanging image faults = record {
  tells = λ f. true;
  state = λ f. untouched (image f);
  clock = λ f. 0;
  states = λ f t s. s ≡ untouched (image f);
  faults = faults;
  changes = λ f. 0;
}

-- the calls on the source so far, and which of them fail
unfoldable pub tally_of : MemSource → Tally
tally_of s = s.calls

-- its count of faults is the number of its calls that failed
abbrev pub mem_outside : Outside MemSource
mem_outside = unchanging (λ s. tree_image s.tree) (λ s. (tally_of s).failed)

-- its count of faults is 0
abbrev pub sure_outside : Outside SureSource
sure_outside = unchanging (λ s. tree_image s.tree) (λ s. 0)

unchanging_sane : {F : Type 0} (image : F → Image) (faults : F → ℕ) → ((f : F) → IsImage (image f)) → IsOutside (unchanging image faults)
unchanging_sane image faults formed = record {
  formed = λ f told. formed f;
  only_now = λ f s is. is;
  counts_now = λ f t le. refl;
}

-- a source in memory is as each source has to be
pub mem_sane : IsOutside mem_outside
mem_sane = unchanging_sane _ _ (λ s. tree_formed s.tree)

-- so is one that never fails
pub sure_sane : IsOutside sure_outside
sure_sane = unchanging_sane _ _ (λ s. tree_formed s.tree)
