-- What a dependency wants stands last among what it mentions.
use Rattle.std.proofs.Common.{◌≡◌, List, [], ◌∷◌, ◌++◌, refl, sym}
use Rattle.std.proofs.lemmas.List.{append-nil}
use Rattle.ips_fmri.specs.declared.fmri.Fmri.{Fmri}
use Rattle.ips_depend.specs.Dependency.{Dependency, Require, Optional, Incorporate, Exclude, Conditional, RequireAny, Group, GroupAny, Parent, Origin, mentions, wanted}

pub wanted_last : (d : Dependency) → (before : List Fmri) × (mentions d ≡ before ++ wanted d)
wanted_last (Require f) = ([], refl)
wanted_last (Optional f) = (f ∷ [], refl)
wanted_last (Incorporate f) = (f ∷ [], refl)
wanted_last (Exclude f) = (f ∷ [], refl)
wanted_last (Conditional p f) = (p ∷ [], refl)
wanted_last (RequireAny fs) = ([], refl)
wanted_last (Group f) = ([], refl)
wanted_last (GroupAny fs) = ([], refl)
wanted_last (Parent fs) = (fs, sym (append-nil fs))
wanted_last (Origin rooted f) = ([], refl)
