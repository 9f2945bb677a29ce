-- One kind more takes no sort away.
use Rattle.std.proofs.Common.{◌≡◌, ◌⊎◌, inl, inr, ℕ, Bool, true, IsTrue, List, [], ◌∷◌, ◌++◌, sym, subst}
use Rattle.std.proofs.lemmas.Bool.{or_left, or_right, or_cases, false≢true}
use Rattle.std.specs.declared.dyn_box.DynBox.{DynBox}
use Rattle.ips_steps.specs.declared.step.Sort.{Sort}
use Rattle.ips_kinds.specs.Tallies.{seen_by, taken}

module _ {X Z : Type 0} {F : X → Type 0} (sorts : DynBox X Z F → Sort → Bool) (finished : DynBox X Z F → ℕ) where
  still : (kinds : List (DynBox X Z F)) (kind : DynBox X Z F) (s : Sort) → taken (seen_by sorts finished kinds) s ≡ true → taken (seen_by sorts finished (kinds ++ kind ∷ [])) s ≡ true
  still [] kind s is = absurd (false≢true is)
  still (k ∷ rest) kind s is = go (or_cases (sorts k s) (taken (seen_by sorts finished rest) s) is) (still rest kind s)
    where
      go : (sorts k s ≡ true) ⊎ (taken (seen_by sorts finished rest) s ≡ true) → (taken (seen_by sorts finished rest) s ≡ true → taken (seen_by sorts finished (rest ++ kind ∷ [])) s ≡ true)
          → taken (seen_by sorts finished (k ∷ rest ++ kind ∷ [])) s ≡ true
      go (inl here) more = or_left (sorts k s) (taken (seen_by sorts finished (rest ++ kind ∷ [])) s) here
      go (inr behind) more = or_right (sorts k s) (taken (seen_by sorts finished (rest ++ kind ∷ [])) s) (more behind)

  pub one_more : (kinds more : List (DynBox X Z F)) (kind : DynBox X Z F) → more ≡ kinds ++ kind ∷ [] → ((s : Sort) → IsTrue (taken (seen_by sorts finished kinds) s)) → (s : Sort) → IsTrue (taken (seen_by sorts finished more) s)
  one_more kinds more kind is all = λ s. subst (λ (xs : List (DynBox X Z F)). IsTrue (taken (seen_by sorts finished xs) s)) (sym is) (still kinds kind s (all s))
