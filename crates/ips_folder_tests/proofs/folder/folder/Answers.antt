use Rattle.std.proofs.Common.{◌≡◌, ℕ, List, Some, sym, ◌∙◌, ap, subst}
use Rattle.ips_outside.specs.Image.{File, Image, is_file}
use Rattle.ips_outside.specs.Change.{with_entry_at}
use Rattle.ips_outside.proofs.Placed.{look_placed, placed_sole}
use Rattle.ips_folder.specs.Calls.{IsSole}
use Rattle.ips_folder.specs.History.{Moment}
use Rattle.ips_folder_tests.proofs.folder.folder.Goals as goal

-- a file that was made has one name
sole_at-placed : (p bytes : List ℕ) (mode : ℕ) (t u : Image) → u ≡ with_entry_at p (Some (File mode bytes)) t → IsSole u p
sole_at-placed p bytes mode t u is = subst (λ (v : Image). IsSole v p) (sym is) (record {
  file = ap is_file (look_placed p (Some (File mode bytes)) t);
  sole = λ q h. placed_sole p q (Some (File mode bytes)) t h;
})

pub returns : goal.returns
returns c = sole_at-placed _ _ _ _ _ (ap (λ (m : Moment). m.state.held) c.in_ok-new.ensures.begins.moment ∙ c.in_ok-file.ensures.made)
