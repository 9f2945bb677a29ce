-- What bytes at the end of a file change.
use Rattle.std.proofs.Common.{◌≡◌, ℕ, Bool, false, cond, List, Option, refl, ap}
use Rattle.ips_text.specs.Ancestry.{same_path, covers}
use Rattle.ips_text.proofs.Ancestry.{uncovered}
use Rattle.ips_outside.specs.Image.{Entry, Image, Agrees, with_mode}
use Rattle.ips_outside.specs.Change.{appended, more_bytes}
use Rattle.ips_outside.specs.State.{nowhere}

apart : (s : Bool) (x y : Option Entry) → s ≡ false → cond s x y ≡ y
apart s x y off = rw off refl

pub appended_within : (p more : List ℕ) (t : Image) → Agrees (covers p) nowhere t (appended p more t)
appended_within p more t = record {
  look = λ q f l. apart (same_path p q) (more_bytes more (t.look q)) (t.look q) (uncovered p q f);
  but_mode = λ q f. ap (with_mode 0) (apart (same_path p q) (more_bytes more (t.look q)) (t.look q) (uncovered p q f));
  same = λ a b f g. refl;
}
