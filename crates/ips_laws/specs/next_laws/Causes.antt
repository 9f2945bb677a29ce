-- When two causes are the same, and which two may come at once.
use Rattle.std.specs.Prelude.{◌≡◌, map}
use Rattle.ips_next.specs.Tried.{seen_tried}
use Rattle.ips_next.specs.declared.fault.NextFault.{NextFault}
use Rattle.ips_next.specs.declared.fault.NextFault.TheVariants.{OldFormat, NoRepository, BadCatalog, NoMatch, Ambiguous, ManifestMissing, BadManifest, BadDepend, TooLarge, NoSolution, SearchSpent, NothingToDo, SourceFault}

-- The cause is the same: each part is, and of a list its items are, whatever spare room it has. Where no selection is admissible the refutation
-- plays no part: any that is accepted will do.
abbrev pub IsSameCause : NextFault → NextFault → Type 0
IsSameCause OldFormat OldFormat = Unit {0}
IsSameCause NoRepository NoRepository = Unit {0}
IsSameCause (BadCatalog fault) (BadCatalog fault') = fault ≡ fault'
IsSameCause (NoMatch pattern) (NoMatch pattern') = pattern ≡ pattern'
IsSameCause (Ambiguous pattern stems) (Ambiguous pattern' stems') = (pattern ≡ pattern') × (stems.items ≡ stems'.items)
IsSameCause (ManifestMissing fmri) (ManifestMissing fmri') = fmri ≡ fmri'
IsSameCause (BadManifest fmri fault) (BadManifest fmri' fault') = (fmri ≡ fmri') × (fault ≡ fault')
IsSameCause (BadDepend fmri line) (BadDepend fmri' line') = (fmri ≡ fmri') × (line ≡ line')
IsSameCause (TooLarge which count) (TooLarge which' count') = (which ≡ which') × (count ≡ count')
IsSameCause (NoSolution stems refutation) (NoSolution stems' refutation') = map seen_tried stems.items ≡ map seen_tried stems'.items
IsSameCause (SearchSpent limit) (SearchSpent limit') = limit ≡ limit'
IsSameCause NothingToDo NothingToDo = Unit {0}
IsSameCause SourceFault SourceFault = Unit {0}
IsSameCause a b = ⊥

-- The one cause is that the search was spent, and the other is one to which a search came that wasn't. Both may come of one command: that the search
-- was spent says that the puzzle has more beginnings than the limit, and a search that learns reaches only some of them; so under the limit it may come
-- to its end all the same.
abbrev pub IsBesideSpent : NextFault → NextFault → Type 0
IsBesideSpent (SearchSpent limit) (NoSolution stems refutation) = Unit {0}
IsBesideSpent (SearchSpent limit) NothingToDo = Unit {0}
IsBesideSpent (NoSolution stems refutation) (SearchSpent limit) = Unit {0}
IsBesideSpent NothingToDo (SearchSpent limit) = Unit {0}
IsBesideSpent a b = ⊥
