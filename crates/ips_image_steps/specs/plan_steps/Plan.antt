-- What a plan is: its steps and what is staged for them.
use Rattle.std.specs.Prelude.{◌≡◌, ℕ, List, IsFalse}
use Rattle.ips_text.specs.Path.{IsPath}
use Rattle.ips_outside.specs.Image.{Image}
use Rattle.ips_steps.specs.Steps.{Step}
use Rattle.ips_after.specs.Request.{Request}
use Rattle.ips_after.specs.Salvage.{Aside, HasSalvagedBytes, IsAside, IsAsides, IsRoot, is_unmovable, saving_contents, saving_steps}

-- The steps are those of a request over an image at that moment, with what is saved, which nothing hinders, and the contents are what is staged for them.
pub record IsPlan (moment : List ℕ) (r : Request) (t : Image) (steps : List Step) (contents : List (List ℕ)) : Type 0 where
  pub aside : Aside
  pub asides : List (List ℕ)
  pub is_root : IsRoot t moment aside.root
  pub root_path : IsPath aside.root
  pub is_aside : IsAside r t aside
  pub are_asides : IsAsides r t aside asides
  pub none_unmovable : (p : List ℕ) → IsFalse (is_unmovable r t aside p)
  pub targets : HasSalvagedBytes r t
  pub steps_are : steps ≡ saving_steps r t aside asides
  pub contents_are : contents ≡ saving_contents r t aside asides
