-- Causes that are equal are the same.
use Rattle.std.proofs.Common.{◌≡◌, refl, subst}
use Rattle.ips_next.specs.declared.fault.NextFault.{NextFault}
use Rattle.ips_next.specs.declared.fault.NextFault.TheVariants.{OldFormat, NoRepository, BadCatalog, NoMatch, Ambiguous, ManifestMissing, BadManifest, BadDepend, TooLarge, NoSolution, SearchSpent, NothingToDo, SourceFault}
use Rattle.ips_laws.specs.next_laws.Causes.{IsSameCause}

itself : (a : NextFault) → IsSameCause a a
itself OldFormat = tt
itself NoRepository = tt
itself (BadCatalog fault) = refl
itself (NoMatch pattern) = refl
itself (Ambiguous pattern stems) = (refl, refl)
itself (ManifestMissing fmri) = refl
itself (BadManifest fmri fault) = (refl, refl)
itself (BadDepend fmri line) = (refl, refl)
itself (TooLarge which count) = (refl, refl)
itself (NoSolution stems refutation) = refl
itself (SearchSpent limit) = refl
itself NothingToDo = tt
itself SourceFault = tt

pub same_cause : (a b : NextFault) → a ≡ b → IsSameCause a b
same_cause a b e = subst (IsSameCause a) e (itself a)
