-- Entries that are wanted at one path say the same.
use Rattle.std.proofs.Common.{◌≡◌, ℕ, Bool, cond, List, Some, None, refl, sym, ap, subst, ◌∙◌, inl, inr, arith}
use Rattle.std.specs.Prelude.{slice_get, codes}
use Rattle.std.specs.Option.{option_eq}
use Rattle.std.proofs.lemmas.Option.{same_Some}
use Rattle.ips_action.specs.declared.action.Preserve.{Preserve}
use Rattle.ips_action.specs.declared.action.Preserve.TheVariants as preserve
use Rattle.ips_action.specs.Attrs.{is_same, values_of}
use Rattle.ips_action.specs.Action.{Fields, preserve_values}
use Rattle.ips_conflict.specs.declared.placed.Placed.{Placed}
use Rattle.ips_conflict.specs.Alike.{kind_place, mode_of}
use Rattle.ips_conflict.specs.Clash.{path_key}
use Rattle.ips_meaning.specs.declared.entry.Entry.{Entry}
use Rattle.ips_meaning.specs.declared.entry.Entry.TheVariants.{Dir, File, Link, Hard}
use Rattle.ips_meaning.specs.Want.{MeansEntry, GivesEntry, IsWanted, IsFreeOfClashes}
use Rattle.ips_laws.specs.Alike.{IsLike}
use Rattle.ips_laws.proofs.Pairs.{one_counts, one_kind, one_mode, one_target, one_end}

-- ---- what the values of `preserve` say

abbrev says : List (List ℕ) → List ℕ → Bool
says values word = option_eq is_same (slice_get values 0) (Some word)

preserve_of : List (List ℕ) → Preserve
preserve_of values =
    cond (says values (codes "true")) preserve.True
    (cond (says values (codes "renameold")) preserve.RenameOld
    (cond (says values (codes "renamenew")) preserve.RenameNew
    (cond (says values (codes "legacy")) preserve.Legacy
    (cond (says values (codes "abandon")) preserve.Abandon
    (cond (says values (codes "install-only")) preserve.InstallOnly preserve.None)))))

read_back : (p : Preserve) → preserve_of (preserve_values p) ≡ p
unfolding preserve_of
read_back preserve.None = refl
read_back preserve.True = refl
read_back preserve.RenameOld = refl
read_back preserve.RenameNew = refl
read_back preserve.Legacy = refl
read_back preserve.Abandon = refl
read_back preserve.InstallOnly = refl

one_preserve : (p q : Preserve) → preserve_values p ≡ preserve_values q → p ≡ q
one_preserve p q e = sym (read_back p) ∙ ap preserve_of e ∙ read_back q

-- ---- of which kind what means an entry is

abbrev place_of : Entry → ℕ
place_of (Dir mode) = 0
place_of (File payload mode preserve) = 1
place_of (Link target) = 2
place_of (Hard to) = 3

means_place : (a : Fields) (entry : Entry) → MeansEntry a entry → kind_place a.kind ≡ place_of entry
means_place a (Dir mode) m = ap kind_place m.0
means_place a (File payload mode preserve) m = ap kind_place m.0
means_place a (Link target) m = ap kind_place m.0
means_place a (Hard to) m = ap kind_place m.0

module _ (kept : List Placed) (free : IsFreeOfClashes kept) (path : List ℕ) where
  gives_like : (a b : Entry) → place_of a ≡ place_of b → GivesEntry kept path a → GivesEntry kept path b → IsLike a b
  gives_like (Dir mode) (Dir other) e x y = x.means.1 ∙ ap (λ (m : ℕ). Some m) (one_mode kept free (path_key path) x.i y.i x.p y.p x.at y.at x.means.0 y.means.0) ∙ sym y.means.1
  gives_like (File payload mode preserve) (File name bits way) e x y =
      let one : x.p ≡ y.p = one_counts kept path x.i y.i x.p y.p (x.counts x.means.0) (y.counts y.means.0) in (
        same_Some payload name (sym x.means.1 ∙ ap (λ (p : Placed). p.action.payload) one ∙ y.means.1),
        x.means.2 ∙ ap (λ (p : Placed). mode_of p.action) one ∙ sym y.means.2,
        one_preserve preserve way (sym x.means.3 ∙ ap (λ (p : Placed). values_of (codes "preserve") p.action.attrs) one ∙ y.means.3),
      )
  gives_like (Link target) (Link other) e x y = x.means.1 ∙ one_target kept free (path_key path) x.i y.i x.p y.p x.at y.at x.means.0 y.means.0 ∙ sym y.means.1
  gives_like (Hard to) (Hard other) e x y = same_Some to.bytes other.bytes (sym x.means.1 ∙ one_end kept free (path_key path) x.i y.i x.p y.p x.at y.at x.means.0 y.means.0 ∙ y.means.1)
  gives_like a b e x y = absurd (omega (arith, e))

  -- what is given at the path is of one kind
  one_place : (a b : Entry) → GivesEntry kept path a → GivesEntry kept path b → place_of a ≡ place_of b
  one_place a b x y = sym (means_place x.p.action a x.means) ∙ one_kind kept free (path_key path) x.i y.i x.p y.p x.at y.at ∙ means_place y.p.action b y.means

  pub wanted_like : (a b : Entry) → IsWanted kept path a → IsWanted kept path b → IsLike a b
  wanted_like a b (inl x) (inl y) = gives_like a b (one_place a b x y) x y
  wanted_like a b (inl x) (inr none) = absurd (none.0.not_given (x.i, x.p, x.at))
  wanted_like a b (inr none) (inl y) = absurd (none.0.not_given (y.i, y.p, y.at))
  wanted_like a b (inr x) (inr y) = subst (λ (e : Entry). IsLike e b) (sym x.1) (subst (λ (e : Entry). IsLike (Dir None) e) (sym y.1) refl)
