-- The names that the updater keeps for itself, and the image without them.
use Rattle.std.specs.Prelude.{ℕ, Bool, true, false, cond, ◌&&◌, ◌||◌, ◌==◌, List, [], ◌∷◌, ◌++◌, None}
use Rattle.std.specs.Fmt.{decimal}
use lib.Chars.{codes}
use Rattle.ips_text.specs.Ancestry.{covers}
use Rattle.ips_outside.specs.Image.{Image}
use Rattle.ips_steps.specs.Steps.{stage_name}

-- the folder of the image's records
unfoldable pub records_name : List ℕ
records_name = codes "var/pkg"

-- the file that lists the steps
unfoldable pub journal_name : List ℕ
journal_name = codes "var/pkg/journal"

-- what stands there from the moment on at which the steps are to be laid, until they are
unfoldable pub gate_name : List ℕ
gate_name = codes "var/pkg/gate"

-- the front of the names of marks, which tell how many steps are laid
unfoldable pub mark_front : List ℕ
mark_front = codes "var/pkg/done."

-- the path of a numbered mark
abbrev pub mark_name : ℕ → List ℕ
mark_name n = mark_front ++ decimal n

-- the second list begins with the first
abbrev pub begins : List ℕ → List ℕ → Bool
begins [] q = true
begins (a ∷ p) [] = false
begins (a ∷ p) (b ∷ q) = (a == b) && begins p q

-- the path is at or below the stage, the journal or the gate, or begins as the names of marks do
abbrev pub is_private : List ℕ → Bool
is_private q = covers stage_name q || (covers journal_name q || (covers gate_name q || begins mark_front q))

-- the visible image: without what is private
abbrev pub visible : Image → Image
visible t = record {
  look = λ q. cond (is_private q) None (t.look q);
  same = λ a b. cond (is_private a || is_private b) false (t.same a b);
}
