-- When a dependency holds: one sentence for each type (pkg(7), "Depend Actions").
use Rattle.std.specs.Prelude.{Bool, true, not, ◌||◌}
use Rattle.std.specs.List.{list_any, list_all}
use Rattle.ips_fmri.specs.declared.fmri.Fmri.{Fmri}
use Rattle.ips_depend.specs.Selection.{Selection, Spared, is_absent, is_selected, is_present, is_within, is_reached}
use Rattle.ips_depend.specs.Dependency.{Dependency, Require, Optional, Incorporate, Exclude, Conditional, RequireAny, Group, GroupAny, Parent, Origin}

-- The dependency holds in a selection that comes after an old one, where these stems are spared.
abbrev pub holds : Selection → Selection → Spared → Dependency → Bool
holds s old spared (Require f) = is_present s f
holds s old spared (Optional f) = is_absent s f || is_present s f
holds s old spared (Incorporate f) = is_absent s f || is_within s f
holds s old spared (Exclude f) = not (is_present s f)
holds s old spared (Conditional p f) = not (is_present s p) || is_present s f
holds s old spared (RequireAny fs) = list_any (is_present s) fs
holds s old spared (Group f) = is_selected s f || spared f.stem
holds s old spared (GroupAny fs) = list_any (is_present s) fs || list_all (λ (f : Fmri). spared f.stem) fs
holds s old spared (Parent fs) = true
holds s old spared (Origin rooted f) = rooted || is_reached old f
