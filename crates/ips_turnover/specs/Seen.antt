-- Sets of what actions say.
use Rattle.std.specs.Prelude.{ℕ, Bool, not, ◌&&◌, List}
use Rattle.std.specs.List.{list_any}
use Rattle.std.specs.BTreeSet.{BTreeSet}
use Rattle.std.specs.declared.alloc.Global.{Global}
use Rattle.std.specs.declared.vec.Vec.{Vec}
use Rattle.ips_action.specs.Attrs.{is_same}
use Rattle.ips_action.specs.Action.{Fields, line_text}
use Rattle.ips_turnover.specs.declared.gone.Gone.{Gone}
use Rattle.ips_turnover.specs.Turnover.{is_a}

-- The text is one of a set.
abbrev pub is_in : BTreeSet (Vec ℕ Global) → List ℕ → Bool
is_in set text = list_any (λ k. is_same text k.items) set.keys

-- The name is among the old ones and not among the new.
abbrev pub has_gone : Gone → List ℕ → Bool
has_gone gone name = is_in gone.old name && not (is_in gone.new name)

-- The action is of this kind, and its line none of these.
abbrev pub is_unlike : List ℕ → BTreeSet (Vec ℕ Global) → Fields → Bool
is_unlike kind lines a = is_a kind a && not (is_in lines (line_text a))
