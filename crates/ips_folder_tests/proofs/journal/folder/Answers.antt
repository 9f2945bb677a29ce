use Rattle.std.proofs.Common.{◌≡◌, ℕ, List, Some, sym, ◌∙◌, ap, subst}
use Rattle.ips_outside.specs.Image.{File, Image, is_file, file_bytes}
use Rattle.ips_outside.specs.Change.{with_entry_at}
use Rattle.ips_outside.proofs.Placed.{look_placed, placed_sole}
use Rattle.ips_folder.specs.Calls.{IsSole}
use Rattle.ips_folder.specs.History.{Moment}
use Rattle.ips_steps.specs.Private.{journal_name}
use Rattle.ips_folder_tests.proofs.journal.folder.Goals as goal

-- a file that was made has one name, and these bytes
module _ (p at bytes : List ℕ) (mode : ℕ) (t u : Image) (named : p ≡ at) (is : u ≡ with_entry_at p (Some (File mode bytes)) t) where
  here : u ≡ with_entry_at at (Some (File mode bytes)) t
  here = is ∙ ap (λ (q : List ℕ). with_entry_at q (Some (File mode bytes)) t) named

  sole_there : IsSole u at
  sole_there = subst (λ (v : Image). IsSole v at) (sym here) (record {
    file = ap is_file (look_placed at (Some (File mode bytes)) t);
    sole = λ q h. placed_sole at q (Some (File mode bytes)) t h;
  })

  held_there : file_bytes (u.look at) ≡ Some bytes
  held_there = ap (λ (v : Image). file_bytes (v.look at)) here ∙ ap file_bytes (look_placed at (Some (File mode bytes)) t)

pub returns-clause-sole : goal.returns-clause-sole
unfolding journal_name
returns-clause-sole g c = sole_there _ journal_name _ _ _ _ c.in-Ok.ensures.found (ap (λ (m : Moment). m.state.held) c.in-Ok-new.ensures.begins.moment ∙ c.in-Ok-file.ensures.made)

pub returns-clause-held : goal.returns-clause-held
unfolding journal_name
returns-clause-held g c = held_there _ journal_name _ _ _ _ c.in-Ok.ensures.found (ap (λ (m : Moment). m.state.held) c.in-Ok-new.ensures.begins.moment ∙ c.in-Ok-file.ensures.made)
