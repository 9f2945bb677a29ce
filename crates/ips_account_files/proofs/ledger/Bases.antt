-- The base of an account file, by what is left of it.
use Rattle.std.proofs.Common.{◌≡◌, ℕ, Bool, IsTrue, List, Option, sym, ◌∙◌, ap}
use Rattle.ips_outside.specs.Image.{Entry, Image}
use Rattle.ips_outside.specs.Outside.{readable}
use Rattle.ips_account_files.specs.ledger.Base.{ArePayloads, IsFileRead, mode_left, mode_or}
use Rattle.ips_account_files.specs.ledger.Left.{left_told}
use Rattle.ips_account_files.specs.ledger.Texts.{IsTextLeft}
use Rattle.ips_account_files.specs.declared.ledger.left.Left.{Left}
use Rattle.ips_account_files.specs.declared.ledger.left.Left.TheVariants.{Nothing, Standing, Laid}

pub base_is : (bytes : List ℕ → List ℕ) (e : Option Entry) (told tells : Bool) (publisher : List ℕ) (repository : Image) (default : ℕ) (file : Option Entry) (left : Left) (text : List ℕ) → IsTrue told → IsTrue tells
    → IsTextLeft told e tells publisher repository left text → ArePayloads tells publisher repository bytes → left_told bytes e left ≡ file → IsFileRead default file text (mode_left default left)
base_is bytes e told tells publisher repository default file Nothing text is tell has are left = (has ∙ ap readable left, ap (mode_or default) left)
base_is bytes e told tells publisher repository default file (Standing m) text is tell has are left = (has is ∙ ap readable left, ap (mode_or default) left)
base_is bytes e told tells publisher repository default file (Laid payload m) text is tell has are left = (sym (are tell payload text has) ∙ ap readable left, ap (mode_or default) left)
