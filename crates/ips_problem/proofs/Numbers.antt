-- The numbers of the stems that are mentioned, by place, some of which aren't there.
use Rattle.std.proofs.Common.{◌≡◌, ◌∙◌, ℕ, zero, suc, ◌+◌, ◌<◌, Bool, ◌&&◌, List, [], ◌∷◌, ◌++◌, map, take, get_or, length, slice_get, filter_map, option_to_list, Option, Some, None, refl, sym, ap}
use Rattle.std.specs.List.{cons_option, list_all}
use Rattle.std.proofs.Math.Bool.{and-true}
use Rattle.std.proofs.lemmas.List.{map_push}
use Rattle.std.proofs.lemmas.Option.{none-some, same_Some}
use Rattle.ips_text.proofs.Lists.{map_item}
use Rattle.ips_fmri.specs.declared.fmri.Fmri.{Fmri}
use Rattle.ips_depend.specs.Dependency.{stems}

-- those that are there
abbrev pub present : List (Option ℕ) → List ℕ
present os = filter_map (λ (o : Option ℕ). o) os

pub present_mapped : {X : Type 0} (h : X → Option ℕ) (xs : List X) → present (map h xs) ≡ filter_map h xs
present_mapped h [] = refl
present_mapped h (x ∷ xs) = ap (cons_option (h x)) (present_mapped h xs)

-- a test that each one passes which is there
pub all_present : (p : ℕ → Bool) (os : List (Option ℕ)) → list_all (λ (o : Option ℕ). list_all p (option_to_list o)) os ≡ list_all p (present os)
all_present p [] = refl
all_present p (None ∷ os) = all_present p os
all_present p (Some i ∷ os) =
    ap (λ (b : Bool). b && list_all (λ (o : Option ℕ). list_all p (option_to_list o)) os) (and-true (p i)) ∙ ap (λ (b : Bool). p i && b) (all_present p os)

-- the number at the place of a stem is the stem's
pub number_at : (number : List ℕ → Option ℕ) (fs : List Fmri) (i : ℕ) (stem : List ℕ) (d : Option ℕ) → slice_get (stems fs) i ≡ Some stem → get_or (map (λ (f : Fmri). number f.stem) fs) i d ≡ number stem
number_at number [] i stem d e = absurd (none-some stem e)
number_at number (f ∷ fs) zero stem d e = ap number (same_Some f.stem stem e)
number_at number (f ∷ fs) (suc i) stem d e = number_at number fs i stem d e

-- what is read of one list is what is read of another, one more of each
pub mapped_more : {X Y Z : Type 0} (f : X → Z) (g : Y → Z) (xs : List X) (i : ℕ) (x : X) (old new : List Y) (y : Y) → i < length xs → x ≡ get_or xs i x
    → map g old ≡ map f (take i xs) → new ≡ old ++ y ∷ [] → g y ≡ f x → map g new ≡ map f (take (i + 1) xs)
mapped_more {Z = Z} f g xs i x old new y l at before added same =
    ap (map g) added ∙ map_push g old y ∙ ap (λ (zs : List Z). zs ++ g y ∷ []) before ∙ ap (λ (z : Z). map f (take i xs) ++ z ∷ []) same ∙ sym (map_item f xs i x l at)
