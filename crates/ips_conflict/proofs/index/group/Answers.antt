use Rattle.std.proofs.Common.{◌≡◌, ◌∙◌, sym, ap, ◌++◌, ◌∷◌, [], Bool, cond, List, ℕ, Some}
use Rattle.std.specs.Option.{option_map_or}
use Rattle.std.specs.String.{string_bytes}
use Rattle.std.proofs.lemmas.Map.Text.{btree_map_updates_text}
use Rattle.ips_action.specs.Attrs.{is_same}
use Rattle.ips_conflict.specs.Index.{places_at}
use Rattle.ips_conflict.proofs.Indexed.{text_is, no_text, put_is, put_first}
use Rattle.ips_conflict.proofs.Kept.{once}
use Rattle.ips_conflict.proofs.index.group.Goals as goal

pub returns-in_default : goal.returns-in_default
returns-in_default c = λ q. sym (ap (λ (t : Bool). cond t (places_at c.args.groups.now q ++ c.args.i ∷ []) (places_at c.args.groups.now q)) (no_text c.args.item.now q (sym c.sort_of.ensures ∙ c.in_default.is)))

pub returns-in_default-2 : goal.returns-in_default-2
returns-in_default-2 c = λ q.
    let text = string_bytes c.in_ok-text.text in
    let none : places_at c.args.groups.now text ≡ [] = ap (λ (o : _). option_map_or (λ g. g.items) o []) (sym c.in_ok-others.ensures.old ∙ c.in_default-2.is) in
    put_is c.args.groups.now c.insert.new.self text (c.args.i ∷ []) c.in_ok-alone.field-0 c.in_ok-alone.ensures (btree_map_updates_text text c.args.groups.now c.insert.new.self (Some c.in_ok-alone.field-0) c.in_ok-others.ensures.updates) q
    ∙ put_first text q [] c.args.i c.args.groups.now none
    ∙ sym (ap (λ (t : Bool). cond t (places_at c.args.groups.now q ++ c.args.i ∷ []) (places_at c.args.groups.now q)) (text_is c.args.item.now c.in-Some.sort text q (sym c.sort_of.ensures ∙ c.in-Some.is) c.in_ok-text.ensures))

pub returns : goal.returns
returns c = λ q.
    let text = string_bytes c.in_ok-text.text in
    let again = string_bytes c.in_ok-text-2.text in
    let same : again ≡ text = c.in_ok-text-2.ensures ∙ sym c.in_ok-text.ensures in
    let others = c.in-Some-2.others.items in
    let some : places_at c.args.groups.now text ≡ others = ap (λ (o : _). option_map_or (λ g. g.items) o []) (sym c.in_ok-others.ensures.old ∙ c.in-Some-2.is) in
    c.in_ok-put.ensures q
    ∙ ap (λ (t : List ℕ). cond (is_same t q) (others ++ c.args.i ∷ []) (places_at c.insert.new.self q)) same
    ∙ ap (cond (is_same text q) (others ++ c.args.i ∷ [])) (put_is c.args.groups.now c.insert.new.self text (c.args.i ∷ []) c.in_ok-alone.field-0 c.in_ok-alone.ensures (btree_map_updates_text text c.args.groups.now c.insert.new.self (Some c.in_ok-alone.field-0) c.in_ok-others.ensures.updates) q)
    ∙ sym (once (is_same text q) (others ++ c.args.i ∷ []) (c.args.i ∷ []) (places_at c.args.groups.now q))
    ∙ put_first text q others c.args.i c.args.groups.now some
    ∙ sym (ap (λ (t : Bool). cond t (places_at c.args.groups.now q ++ c.args.i ∷ []) (places_at c.args.groups.now q)) (text_is c.args.item.now c.in-Some.sort text q (sym c.sort_of.ensures ∙ c.in-Some.is) c.in_ok-text.ensures))
