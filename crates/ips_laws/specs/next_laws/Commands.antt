-- When two commands are the same.
use Rattle.std.specs.Prelude.{◌≡◌}
use Rattle.ips_words.specs.declared.what.What.{What}
use Rattle.ips_words.specs.declared.what.What.TheVariants as what
use Rattle.ips_words.specs.declared.command.Command.{Command}

-- The same is to be done: each part is the same, and of a list its items are, whatever spare room it has.
abbrev pub IsSameWhat : What → What → Type 0
IsSameWhat (what.ImageCreate publisher variants facets actuator) (what.ImageCreate publisher' variants' facets' actuator') =
    (publisher ≡ publisher') × (variants.items ≡ variants'.items) × (facets.items ≡ facets'.items) × (actuator ≡ actuator')
IsSameWhat (what.Install patterns reject accept limit) (what.Install patterns' reject' accept' limit') =
    (patterns.items ≡ patterns'.items) × (reject.items ≡ reject'.items) × (accept ≡ accept') × (limit ≡ limit')
IsSameWhat (what.Update patterns reject accept limit) (what.Update patterns' reject' accept' limit') =
    (patterns.items ≡ patterns'.items) × (reject.items ≡ reject'.items) × (accept ≡ accept') × (limit ≡ limit')
IsSameWhat (what.Uninstall patterns limit) (what.Uninstall patterns' limit') = (patterns.items ≡ patterns'.items) × (limit ≡ limit')
IsSameWhat (what.ChangeFacet facets accept) (what.ChangeFacet facets' accept') = (facets.items ≡ facets'.items) × (accept ≡ accept')
IsSameWhat (what.ChangeVariant name value accept) (what.ChangeVariant name' value' accept') = (name ≡ name') × (value ≡ value') × (accept ≡ accept')
IsSameWhat (what.SetMediator name version implementation) (what.SetMediator name' version' implementation') = (name ≡ name') × (version ≡ version') × (implementation ≡ implementation')
IsSameWhat (what.UnsetMediator name) (what.UnsetMediator name') = name ≡ name'
IsSameWhat (what.Avoid stems) (what.Avoid stems') = stems.items ≡ stems'.items
IsSameWhat (what.Unavoid stems) (what.Unavoid stems') = stems.items ≡ stems'.items
IsSameWhat (what.Freeze freezes) (what.Freeze freezes') = freezes.items ≡ freezes'.items
IsSameWhat (what.Unfreeze stems) (what.Unfreeze stems') = stems.items ≡ stems'.items
IsSameWhat (what.SetPublisher name first sticky) (what.SetPublisher name' first' sticky') = (name ≡ name') × (first ≡ first') × (sticky ≡ sticky')
IsSameWhat (what.UnsetPublisher name) (what.UnsetPublisher name') = name ≡ name'
IsSameWhat what.UpdateFormat what.UpdateFormat = Unit {0}
IsSameWhat what.RebuildIndex what.RebuildIndex = Unit {0}
IsSameWhat what.Fix what.Fix = Unit {0}
IsSameWhat what.Verify what.Verify = Unit {0}
IsSameWhat what.List what.List = Unit {0}
IsSameWhat what.History what.History = Unit {0}
IsSameWhat (what.Contents pattern manifest) (what.Contents pattern' manifest') = (pattern ≡ pattern') × (manifest ≡ manifest')
IsSameWhat (what.Search pattern) (what.Search pattern') = pattern ≡ pattern'
IsSameWhat (what.Gen number) (what.Gen number') = number ≡ number'
IsSameWhat (what.Help command) (what.Help command') = command ≡ command'
IsSameWhat what.Version what.Version = Unit {0}
IsSameWhat w v = ⊥

-- The commands ask for the same, and the history keeps the same words of them.
pub record IsSameCommand (c d : Command) : Type 0 where
  pub what : IsSameWhat c.what d.what
  pub history : c.history ≡ d.history
