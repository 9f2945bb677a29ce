-- Rows that are judged one after the other.
use Rattle.std.proofs.Common.{◌≡◌, ℕ, Bool, true, false, cond, ◌||◌, List, [], ◌∷◌, ◌++◌, map, Option, refl, ap, subst}
use Rattle.std.specs.List.{AllByRecursion, list_any, flat_map}
use Rattle.ips_action.specs.declared.fault.ActionFault.{ActionFault}
use Rattle.ips_action.specs.Attrs.{Attr}
use Rattle.ips_action.specs.declared.check.Check.TheVariants.{FacetTag}
use Rattle.ips_action.specs.declared.table.Row as declared
use Rattle.ips_action.specs.Table.{AttributeRow, row_seen, any_times}
use Rattle.ips_action.specs.Judging.{KeepsRow, FindsFirst, facet_rows, is_facet}

-- what is left to be judged decides of the whole
pub record Decides (payload : Option (List ℕ)) (attrs : List Attr) (left whole : List AttributeRow) : Type 0 where
  pub kept : AllByRecursion (KeepsRow payload attrs) left → AllByRecursion (KeepsRow payload attrs) whole
  pub first : (fault : ActionFault) → FindsFirst payload attrs left fault → FindsFirst payload attrs whole fault

pub decides_self : (payload : Option (List ℕ)) (attrs : List Attr) (rows : List AttributeRow) → Decides payload attrs rows rows
decides_self payload attrs rows = record { kept = λ h. h; first = λ fault h. h }

-- rows that each thing of a list brings
abbrev pub brought : {X : Type 0} → (X → List AttributeRow) → List X → List AttributeRow
brought F xs = flat_map F xs

abbrev pub one_row : declared.Row → List AttributeRow
one_row row = row_seen row ∷ []

abbrev pub tag_row : Attr → List AttributeRow
tag_row attr = facet_rows (attr ∷ [])

tags_brought : (attrs : List Attr) → brought tag_row attrs ≡ facet_rows attrs
tags_brought [] = refl
tags_brought (attr ∷ attrs) = go (tags_brought attrs) (is_facet attr.key)
  where
    go : brought tag_row attrs ≡ facet_rows attrs → (t : Bool) → cond t (any_times attr.key FacetTag ∷ []) [] ++ brought tag_row attrs ≡ cond t (any_times attr.key FacetTag ∷ facet_rows attrs) (facet_rows attrs)
    go rest true = ap (λ (l : List AttributeRow). any_times attr.key FacetTag ∷ l) rest
    go rest false = rest

pub decides_tags : (payload : Option (List ℕ)) (attrs tags : List Attr) → Decides payload attrs (brought tag_row tags) (facet_rows tags)
decides_tags payload attrs tags = let P : List AttributeRow → Type 0 = λ l. Decides payload attrs (brought tag_row tags) l in subst P (tags_brought tags) (decides_self payload attrs (brought tag_row tags))

pub any_mapped : {X Y : Type 0} (f : X → Y) (p : Y → Bool) (xs : List X) → list_any p (map f xs) ≡ list_any (λ x. p (f x)) xs
any_mapped f p [] = refl
any_mapped f p (x ∷ xs) = ap (λ (t : Bool). p (f x) || t) (any_mapped f p xs)
