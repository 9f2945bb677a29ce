-- The kinds of the program take each sort of step.
use Rattle.std.proofs.Common.{◌≡◌, ◌∙◌, ℕ, Bool, true, IsTrue, List, [], ◌∷◌, ◌++◌, sym, ap, subst}
use Rattle.std.proofs.lemmas.Bool.{or_left, or_right}
use Rattle.std.specs.DynBox.{dyn_box_with}
use Rattle.std.specs.declared.dyn_box.DynBox.{DynBox}
use Rattle.ips_steps.specs.declared.step.Sort.{Sort}
use Rattle.ips_steps.specs.declared.step.Sort.TheVariants as sort
use Rattle.ips_kinds.specs.Tallies.{seen_by, taken}

module _ {X Z : Type 0} {F : X → Type 0} (sorts : DynBox X Z F → Sort → Bool) (finished : DynBox X Z F → ℕ) where
  -- Under this vtable a kind takes the sort, whatever its value is.
  abbrev pub Always : DynBox X Z F → X → Sort → Type 0
  Always k i s = (w : F i) → sorts (dyn_box_with k i w) s ≡ true

  takes : (k : DynBox X Z F) (i : X) (s : Sort) → k.vtable ≡ i → Always k i s → sorts k s ≡ true
  takes k i s is always = subst (λ (j : X). (w : F j) → sorts (dyn_box_with k j w) s ≡ true) (sym is) always k.value

  here : (k : DynBox X Z F) (rest : List (DynBox X Z F)) (s : Sort) → sorts k s ≡ true → taken (seen_by sorts finished (k ∷ rest)) s ≡ true
  here k rest s is = or_left (sorts k s) (taken (seen_by sorts finished rest) s) is

  behind : (k : DynBox X Z F) (rest : List (DynBox X Z F)) (s : Sort) → taken (seen_by sorts finished rest) s ≡ true → taken (seen_by sorts finished (k ∷ rest)) s ≡ true
  behind k rest s is = or_right (sorts k s) (taken (seen_by sorts finished rest) s) is

  -- Six kinds, one behind another, of which each takes a sort of its own.
  pub all_taken : (k1 k2 k3 k4 k5 k6 : DynBox X Z F) (i1 i2 i3 i4 i5 i6 : X) (x0 x1 x2 x3 x4 x5 x6 : List (DynBox X Z F)) → x0 ≡ [] → x1 ≡ x0 ++ k1 ∷ [] → x2 ≡ x1 ++ k2 ∷ [] → x3 ≡ x2 ++ k3 ∷ [] → x4 ≡ x3 ++ k4 ∷ [] → x5 ≡ x4 ++ k5 ∷ [] → x6 ≡ x5 ++ k6 ∷ []
      → k1.vtable ≡ i1 → k2.vtable ≡ i2 → k3.vtable ≡ i3 → k4.vtable ≡ i4 → k5.vtable ≡ i5 → k6.vtable ≡ i6 → Always k1 i1 sort.Gone → Always k2 i2 sort.Fresh → Always k3 i3 sort.Mode → Always k4 i4 sort.Put → Always k5 i5 sort.Link → Always k6 i6 sort.Hard → (s : Sort) → IsTrue (taken (seen_by sorts finished x6) s)
  all_taken k1 k2 k3 k4 k5 k6 i1 i2 i3 i4 i5 i6 x0 x1 x2 x3 x4 x5 x6 e0 e1 e2 e3 e4 e5 e6 v1 v2 v3 v4 v5 v6 t1 t2 t3 t4 t5 t6 = λ s. subst (λ (xs : List (DynBox X Z F)). IsTrue (taken (seen_by sorts finished xs) s)) (sym (e6 ∙ ap (λ (xs : List (DynBox X Z F)). xs ++ k6 ∷ []) (e5 ∙ ap (λ (xs : List (DynBox X Z F)). xs ++ k5 ∷ []) (e4 ∙ ap (λ (xs : List (DynBox X Z F)). xs ++ k4 ∷ []) (e3 ∙ ap (λ (xs : List (DynBox X Z F)). xs ++ k3 ∷ []) (e2 ∙ ap (λ (xs : List (DynBox X Z F)). xs ++ k2 ∷ []) (e1 ∙ ap (λ (xs : List (DynBox X Z F)). xs ++ k1 ∷ []) e0))))))) (go s)
    where
      go : (s : Sort) → IsTrue (taken (seen_by sorts finished (k1 ∷ k2 ∷ k3 ∷ k4 ∷ k5 ∷ k6 ∷ [])) s)
      go sort.Gone = here k1 (k2 ∷ k3 ∷ k4 ∷ k5 ∷ k6 ∷ []) sort.Gone (takes k1 i1 sort.Gone v1 t1)
      go sort.Fresh = behind k1 (k2 ∷ k3 ∷ k4 ∷ k5 ∷ k6 ∷ []) sort.Fresh (here k2 (k3 ∷ k4 ∷ k5 ∷ k6 ∷ []) sort.Fresh (takes k2 i2 sort.Fresh v2 t2))
      go sort.Mode = behind k1 (k2 ∷ k3 ∷ k4 ∷ k5 ∷ k6 ∷ []) sort.Mode (behind k2 (k3 ∷ k4 ∷ k5 ∷ k6 ∷ []) sort.Mode (here k3 (k4 ∷ k5 ∷ k6 ∷ []) sort.Mode (takes k3 i3 sort.Mode v3 t3)))
      go sort.Put = behind k1 (k2 ∷ k3 ∷ k4 ∷ k5 ∷ k6 ∷ []) sort.Put (behind k2 (k3 ∷ k4 ∷ k5 ∷ k6 ∷ []) sort.Put (behind k3 (k4 ∷ k5 ∷ k6 ∷ []) sort.Put (here k4 (k5 ∷ k6 ∷ []) sort.Put (takes k4 i4 sort.Put v4 t4))))
      go sort.Link = behind k1 (k2 ∷ k3 ∷ k4 ∷ k5 ∷ k6 ∷ []) sort.Link (behind k2 (k3 ∷ k4 ∷ k5 ∷ k6 ∷ []) sort.Link (behind k3 (k4 ∷ k5 ∷ k6 ∷ []) sort.Link (behind k4 (k5 ∷ k6 ∷ []) sort.Link (here k5 (k6 ∷ []) sort.Link (takes k5 i5 sort.Link v5 t5)))))
      go sort.Hard = behind k1 (k2 ∷ k3 ∷ k4 ∷ k5 ∷ k6 ∷ []) sort.Hard (behind k2 (k3 ∷ k4 ∷ k5 ∷ k6 ∷ []) sort.Hard (behind k3 (k4 ∷ k5 ∷ k6 ∷ []) sort.Hard (behind k4 (k5 ∷ k6 ∷ []) sort.Hard (behind k5 (k6 ∷ []) sort.Hard (here k6 ([]) sort.Hard (takes k6 i6 sort.Hard v6 t6))))))
