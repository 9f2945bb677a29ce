-- Rules keep the keys in the form of an action's, and the payload as it is.
use Rattle.std.proofs.Common.{◌≡◌, ℕ, Bool, true, false, cond, List, [], ◌∷◌, ◌++◌, map, Option, Some, None, refl, sym, ap, subst}
use Rattle.std.specs.Prelude.{filter, option_and_then}
use Rattle.std.specs.List.{flat_map, AllByRecursion}
use Rattle.std.specs.Option.{option_to_list}
use Rattle.ips_text.proofs.Lists.{all_append}
use Rattle.ips_line.specs.declared.words.Pair.{Pair}
use Rattle.ips_line.specs.Line.{IsRunOfBytes, in_key}
use Rattle.ips_action.specs.Attrs.{is_same}
use Rattle.ips_action.specs.Action.{IsAction}
use Rattle.ips_manifest.specs.declared.line.Line.{Line}
use Rattle.ips_pattern.specs.Pattern.{Replacement, replaced}
use Rattle.ips_rule.specs.declared.operation.Operation.{Operation}
use Rattle.ips_rule.specs.declared.operation.Operation.TheVariants as does
use Rattle.ips_rule.specs.Rules.{Rule, IsRule, IsOperation}
use Rattle.ips_transform.specs.Transformed.{ActionParts, parts_of, added, defaulted, has_key, without, put, edited_one, edited, with_pairs, changed, applies, after_rule, transformed}
use Rattle.ips_transform.specs.Output.{left_by, AreSoundParts}
use Rattle.ips_action.proofs.ReadBack.{keys_of}

abbrev Keys : List Pair → Type 0
Keys pairs = AllByRecursion (λ (p : Pair). IsRunOfBytes in_key p.key) pairs

abbrev IfSound : Option ActionParts → Type 0
IfSound None = Unit {0}
IfSound (Some parts) = AreSoundParts parts

added_keys : (key value : List ℕ) (pairs : List Pair) → IsRunOfBytes in_key key → Keys pairs → Keys (added key value pairs)
added_keys key value pairs run h = all_append (λ (p : Pair). IsRunOfBytes in_key p.key) pairs (record { key = key; value = value } ∷ []) h (run, tt)

filtered_keys : (test : Pair → Bool) (pairs : List Pair) → Keys pairs → Keys (filter test pairs)
filtered_keys test [] h = tt
filtered_keys test (p ∷ pairs) h = go (test p) (filtered_keys test pairs h.1)
  where
    go : (t : Bool) → Keys (filter test pairs) → Keys (cond t (p ∷ filter test pairs) (filter test pairs))
    go true rest = (h.0, rest)
    go false rest = rest

edited_keys : (key : List ℕ) (r : Replacement) (pairs : List Pair) → Keys pairs → Keys (edited key r pairs)
edited_keys key r [] h = tt
edited_keys key r (p ∷ pairs) h = (go (is_same p.key key), edited_keys key r pairs h.1)
  where
    go : (t : Bool) → IsRunOfBytes in_key (let q : Pair = cond t (record { key = p.key; value = replaced r p.value }) p in q).key
    go true = h.0
    go false = h.0

changed_sound : (operation : Operation) (parts : ActionParts) → IsOperation operation → AreSoundParts parts → IfSound (changed operation parts)
changed_sound does.Drop parts fits h = tt
changed_sound (does.Add key value) parts fits h = record { keys = added_keys key value parts.pairs fits h.keys; named = h.named }
changed_sound (does.Default key value) parts fits h = record { keys = go (has_key key parts.pairs); named = h.named }
  where
    go : (t : Bool) → Keys (cond t parts.pairs (added key value parts.pairs))
    go true = h.keys
    go false = added_keys key value parts.pairs fits h.keys
changed_sound (does.Set key value) parts fits h = record { keys = added_keys key value (without key parts.pairs) fits (filtered_keys _ parts.pairs h.keys); named = h.named }
changed_sound (does.Delete key pattern) parts fits h = record { keys = filtered_keys _ parts.pairs h.keys; named = h.named }
changed_sound (does.Edit key pattern template) parts fits h = record { keys = edited_keys key (record { pattern = pattern; template = template }) parts.pairs h.keys; named = h.named }

after_sound : (rule : Rule) (parts : ActionParts) → IsRule rule → AreSoundParts parts → IfSound (after_rule rule parts)
after_sound rule parts fits h = go (applies rule parts)
  where
    go : (t : Bool) → IfSound (cond t (changed rule.operation parts) (Some parts))
    go true = changed_sound rule.operation parts fits.operation h
    go false = h

transformed_sound : (rules : List Rule) (parts : ActionParts) → AllByRecursion IsRule rules → AreSoundParts parts → IfSound (transformed rules parts)
transformed_sound [] parts fits h = h
transformed_sound (rule ∷ rules) parts fits h = go (after_rule rule parts) (after_sound rule parts fits.0 h) (λ p s. transformed_sound rules p fits.1 s)
  where
    go : (o : Option ActionParts) → IfSound o → ((p : ActionParts) → AreSoundParts p → IfSound (transformed rules p)) → IfSound (option_and_then (transformed rules) o)
    go None s more = tt
    go (Some p) s more = more p s

left_sound : (o : Option ActionParts) → IfSound o → AllByRecursion AreSoundParts (option_to_list o)
left_sound None h = tt
left_sound (Some parts) h = (h, tt)

pub all_sound : (rules : List Rule) (lines : List Line) → AllByRecursion IsRule rules → AllByRecursion (λ (line : Line). IsAction line.action) lines → AllByRecursion AreSoundParts (flat_map (left_by rules) (map parts_of lines))
all_sound rules [] fits h = tt
all_sound rules (line ∷ lines) fits h =
    let start : AreSoundParts (parts_of line) = record { keys = keys_of line.action.attrs h.0.keys; named = h.0.named } in
    all_append AreSoundParts (left_by rules (parts_of line)) (flat_map (left_by rules) (map parts_of lines)) (left_sound (transformed rules (parts_of line)) (transformed_sound rules (parts_of line) fits start)) (all_sound rules lines fits h.1)
