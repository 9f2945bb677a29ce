-- Packages have one list of admitted actions.
use Rattle.std.proofs.Common.{◌≡◌, ◌∙◌, List, [], ◌∷◌, inl, inr, sym, ap}
use Rattle.ips_filter.specs.Admitted.{Admits}
use Rattle.ips_filter.specs.Settings.{Set}
use Rattle.ips_manifest.specs.declared.package.Package.{Package}
use Rattle.ips_conflict.specs.declared.placed.Placed.{Placed}
use Rattle.ips_meaning.specs.Taken.{AreAdmitted, Leaves, all_placed}

pub one_admitted : (settings : Set) (packages : List Package) (a b : List Placed) → AreAdmitted settings packages a → AreAdmitted settings packages b → a ≡ b
one_admitted settings packages a b x y = left (all_placed packages) a b x y
  where
    left : (all a b : List Placed) → Leaves (λ (p : Placed). Admits settings p.action.attrs) all a → Leaves (λ (p : Placed). Admits settings p.action.attrs) all b → a ≡ b
    left [] a b x y = x ∙ sym y
    left (one ∷ all) a b (inl x) (inl y) = x.1.2 ∙ ap (λ (l : List Placed). one ∷ l) (left all x.1.0 y.1.0 x.1.1 y.1.1) ∙ sym y.1.2
    left (one ∷ all) a b (inl x) (inr y) = absurd (y.0 x.0)
    left (one ∷ all) a b (inr x) (inl y) = absurd (x.0 y.0)
    left (one ∷ all) a b (inr x) (inr y) = left all a b x.1 y.1
