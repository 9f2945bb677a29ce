-- How the program goes by one rule: action after action is marked by the kinds and by each criterion, and the marked ones are changed.
use Rattle.std.specs.Prelude.{ℕ, ◌&&◌, List, [], ◌∷◌, if◌then◌else◌}
use Rattle.std.specs.Option.{option_to_list}
use Rattle.ips_rule.specs.declared.selector.Selector.{Selector}
use Rattle.ips_rule.specs.declared.selector.Selector.TheVariants.{Kind, Criterion}
use Rattle.ips_rule.specs.declared.operation.Operation.{Operation}
use Rattle.ips_rule.specs.declared.operation.Operation.TheVariants as does
use Rattle.ips_transform.specs.declared.matching.Marked.{Marked}
use Rattle.ips_transform.specs.declared.changing.Changer.{Changer}
use Rattle.ips_transform.specs.declared.changing.Doing.{Doing}
use Rattle.ips_transform.specs.declared.changing.Doing.TheVariants as doing
use Rattle.ips_transform.specs.Transformed.{ActionParts, asks_for, has_match, changed}

-- the parts, with whether their kind is asked for
abbrev pub marked_by_kind : List Selector → ActionParts → Marked
marked_by_kind selectors parts = record { applies = asks_for parts.kind selectors; parts = parts }

-- the same, with whether the selector holds too
abbrev pub mark : Selector → Marked → Marked
mark (Kind named) m = m
mark (Criterion key pattern) m = record { applies = m.applies && has_match key pattern m.parts.pairs; parts = m.parts }

-- the same, selector after selector
abbrev pub marks : List Selector → Marked → Marked
marks [] m = m
marks (selector ∷ selectors) m = marks selectors (mark selector m)

-- what the operation leaves of parts that are marked; others stay
abbrev pub changed_where : Operation → Marked → List ActionParts
changed_where operation m = if m.applies then option_to_list (changed operation m.parts) else m.parts ∷ []

-- the operation that is done to the values of a key
abbrev pub done_to : List ℕ → Doing → Operation
done_to key doing.Drop = does.Drop
done_to key (doing.Add value) = does.Add key value.now
done_to key (doing.Default value) = does.Default key value.now
done_to key (doing.Set value) = does.Set key value.now
done_to key (doing.Delete finder) = does.Delete key finder
done_to key (doing.Edit editor) = does.Edit key editor.pattern editor.template

-- the operation that is done
abbrev pub operation_of : Changer → Operation
operation_of c = done_to c.key.now c.doing
