-- What is salvaged at rows, beside what has none.
use Rattle.std.proofs.Common.{◌≡◌, ℕ, Bool, true, false, not, ◌&&◌, ◌||◌, List, [], ◌∷◌, is_some, refl, sym, ◌∙◌, ap}
use Rattle.std.specs.List.{list_any}
use Rattle.ips_text.specs.Ancestry.{same_path}
use Rattle.ips_text.proofs.Ancestry.{same_path-true}
use Rattle.ips_outside.specs.Image.{Image}
use Rattle.ips_after.specs.After.{given_up, is_top}
use Rattle.ips_after.specs.Change.{reached}
use Rattle.ips_after.specs.Lists.{listed}
use Rattle.ips_after.specs.Request.{Request}
use Rattle.ips_after.specs.Salvage.{destroys, drops_edit_as, salvaged}
use Rattle.ips_strays.specs.Strays.{saved_at}

-- one of these at which a test holds is the path
any_same : (test : List ℕ → Bool) (paths : List (List ℕ)) (q : List ℕ) → list_any (λ p. test p && same_path p q) paths ≡ (test q && listed paths q)
any_same test [] q = sym (none (test q))
  where
    none : (b : Bool) → (b && false) ≡ false
    none true = refl
    none false = refl
any_same test (p ∷ paths) q = ap (λ (b : Bool). (test p && same_path p q) || b) (any_same test paths q) ∙ go (same_path p q) refl
  where
    here : (b l : Bool) → ((b && true) || (b && l)) ≡ (b && (true || l))
    here true l = refl
    here false l = refl

    there : (a b l : Bool) → ((a && false) || (b && l)) ≡ (b && (false || l))
    there true b l = refl
    there false b l = refl

    go : (s : Bool) → same_path p q ≡ s → ((test p && same_path p q) || (test q && listed paths q)) ≡ (test q && (same_path p q || listed paths q))
    go true same =
        ap (λ (s : Bool). (test p && s) || (test q && listed paths q)) same
        ∙ ap (λ (x : List ℕ). (test x && true) || (test q && listed paths q)) (same_path-true p q same)
        ∙ here (test q) (listed paths q)
        ∙ sym (ap (λ (s : Bool). test q && (s || listed paths q)) same)
    go false apart =
        ap (λ (s : Bool). (test p && s) || (test q && listed paths q)) apart
        ∙ there (test p) (test q) (listed paths q)
        ∙ sym (ap (λ (s : Bool). test q && (s || listed paths q)) apart)

-- what is salvaged stands
stands_saved : (r : Request) (t : Image) (paths : List (List ℕ)) (q : List ℕ) → (is_some (t.look q) && saved_at r t paths q) ≡ saved_at r t paths q
stands_saved r t paths q = go (is_some (t.look q)) (not (given_up r t q) && (reached (destroys r t) q || (reached (is_top r t) q || drops_edit_as r (r.old.at q) (r.new.at q) (t.look q)))) (listed paths q)
  where
    go : (a b l : Bool) → (a && ((a && b) && l)) ≡ ((a && b) && l)
    go true b l = refl
    go false b l = refl

pub saved_among : (r : Request) (t : Image) (paths : List (List ℕ)) (q : List ℕ) → (is_some (t.look q) && list_any (λ p. salvaged r t p && same_path p q) paths) ≡ saved_at r t paths q
saved_among r t paths q = ap (λ (b : Bool). is_some (t.look q) && b) (any_same (salvaged r t) paths q) ∙ stands_saved r t paths q

-- with a row or without one
pub either_way : (s l : Bool) → ((s && not l) || (s && l)) ≡ s
either_way true true = refl
either_way true false = refl
either_way false l = refl
