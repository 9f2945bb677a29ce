-- No two kinds and names have one text.
use Rattle.std.proofs.Common.{◌≡◌, ℕ, true, ◌==◌, not, List, [], ◌∷◌, ◌++◌, length, Option, Some, None, refl, sym, ◌∙◌, ap, arith}
use Rattle.std.specs.List.{list_all}
use Rattle.ips_text.proofs.Runs.{Ends, run_again}
use Rattle.ips_text.specs.Reading.{run}
use Rattle.ips_action.specs.declared.kind.ActionKind.{ActionKind}
use Rattle.ips_action.specs.declared.kind.ActionKind.TheVariants.{Set, Depend, Dir, File, Link, Hardlink, User, Group, Driver, License, Legacy, Signature}
use Rattle.ips_action.specs.Kind.{kind_name}
use Rattle.ips_action.specs.Action.{Fields}
use Rattle.ips_action.proofs.One.{one_kind}
use Rattle.ips_actuate.specs.Actuators.{name_of}
use Rattle.ips_actuate.specs.Gathering.{name_text, key_text}

plain : (kind : ActionKind) → list_all (λ b. not (b == 32)) (kind_name kind) ≡ true
plain Set = refl
plain Depend = refl
plain Dir = refl
plain File = refl
plain Link = refl
plain Hardlink = refl
plain User = refl
plain Group = refl
plain Driver = refl
plain License = refl
plain Legacy = refl
plain Signature = refl

ends : (name : Option (List ℕ)) → Ends (λ b. not (b == 32)) (name_text name)
ends None = tt
ends (Some name) = refl

parted : (kind : ActionKind) (name : Option (List ℕ)) → run (λ b. not (b == 32)) (kind_name kind ++ name_text name) ≡ (kind_name kind, name_text name)
parted kind name = run_again (λ b. not (b == 32)) (kind_name kind) (name_text name) (plain kind) (ends name)

abbrev behind : List ℕ → List ℕ
behind [] = []
behind (b ∷ bytes) = bytes

one_name : (a b : Option (List ℕ)) → name_text a ≡ name_text b → a ≡ b
one_name None None e = refl
one_name None (Some b) e = absurd (omega (arith, ap length e))
one_name (Some a) None e = absurd (omega (arith, ap length e))
one_name (Some a) (Some b) e = ap (λ (name : List ℕ). Some name) (ap behind e)

pub one_key : (a b : Fields) → key_text a ≡ key_text b → (a.kind ≡ b.kind) × (name_of a ≡ name_of b)
one_key a b e =
    let both = sym (parted a.kind (name_of a)) ∙ ap (run (λ b. not (b == 32))) e ∙ parted b.kind (name_of b) in
    (one_kind a.kind b.kind (ap (λ (p : List ℕ × List ℕ). p.0) both), one_name (name_of a) (name_of b) (ap (λ (p : List ℕ × List ℕ). p.1) both))

pub same_key : (a b : Fields) → a.kind ≡ b.kind → name_of a ≡ name_of b → key_text a ≡ key_text b
same_key a b kind name = ap (λ (k : ActionKind). kind_name k ++ name_text (name_of a)) kind ∙ ap (λ (n : Option (List ℕ)). kind_name b.kind ++ name_text n) name
