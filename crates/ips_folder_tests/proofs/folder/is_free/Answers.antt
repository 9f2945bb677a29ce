use Rattle.std.proofs.Common.{◌≡◌, ℕ, Bool, true, false, cond, List, Option, Some, None, is_some, Result, Ok, Err, is_ok, refl, sym, ◌∙◌, subst}
use Rattle.ips_text.specs.declared.refusal.Or.{Or}
use Rattle.ips_outside.specs.declared.refusal.TreeFault.{TreeFault}
use Rattle.ips_outside.specs.declared.refusal.TreeFault.TheVariants.{NoParent, Taken}
use Rattle.ips_outside.specs.Image.{Entry, Image, has_parent}
use Rattle.ips_outside.specs.Making.{fault_at, Refuses}
use Rattle.ips_folder.specs.Calls.{CanMake}
use Rattle.ips_folder_tests.proofs.folder.is_free.Goals as goal

made : {T E : Type 0} (r : Result T (Or E)) (fault : E) → Refuses (Some fault) r → is_ok r ≡ true → ⊥
made (Ok x) fault h ok = cc
made (Err e) fault h ok = cc

-- what was made could be made
free_at-made : {T : Type 0} (t : Image) (p : List ℕ) (r : Result T (Or TreeFault)) → Refuses (fault_at t p) r → is_ok r ≡ true → CanMake t p
free_at-made t p r refuses ok = go (has_parent t p) (t.look p) refl refl refuses
  where
    go : (has : Bool) (e : Option Entry) → has_parent t p ≡ has → t.look p ≡ e → Refuses (cond has (cond (is_some e) (Some Taken) None) (Some NoParent)) r → CanMake t p
    go true None up at h = record { absent = at; parent = up }
    go true (Some e) up at h = absurd (made r Taken h ok)
    go false e up at h = absurd (made r NoParent h ok)

pub returns-in-Ok : goal.returns-in-Ok
returns-in-Ok c = λ made. subst (λ (t : Image). CanMake t c.args.path.now.bytes) (c.in-Ok.ensures ∙ c.tree.ensures.held) (free_at-made _ _ c.dir.result c.dir.ensures.refused (sym c.is_ok.ensures.value ∙ made))
