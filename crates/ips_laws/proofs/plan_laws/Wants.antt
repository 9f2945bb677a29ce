-- Entries that differ in nothing but the room of a path are one Want, whose paths are listed, and which names nothing below the folder of the records.
use Rattle.std.proofs.Common.{◌≡◌, ℕ, true, cond, List, [], ◌∷◌, map, Some, None, is_some, refl, ap}
use Rattle.ips_text.specs.Ancestry.{is_below, same_path}
use Rattle.ips_steps.specs.Private.{records_name}
use Rattle.ips_digest.specs.Name.{spelling}
use Rattle.ips_meaning.specs.declared.entry.Entry.{Entry}
use Rattle.ips_meaning.specs.declared.entry.Entry.TheVariants.{Dir, File, Link, Hard}
use Rattle.ips_after.specs.Lists.{listed}
use Rattle.ips_after.specs.Request.{WantDir, WantFile, WantHard, WantLink}
use Rattle.ips_change.specs.wanted.Wanted.{want_of, wanted_among, wanted_of}
use Rattle.ips_change.proofs.wanted.Apart.{nothing_below}
use Rattle.ips_change.proofs.wanted.Found.{listed_at}
use Rattle.ips_state.specs.declared.state.State.{State}
use Rattle.ips_plan.specs.image_plan.Meaning.{StateMeans}
use Rattle.ips_laws.specs.Alike.{AreLike, IsLike}

wanted_like : (a b : Entry) → IsLike a b → wanted_of a ≡ wanted_of b
wanted_like (Dir m) (Dir n) h = ap WantDir h
wanted_like (File p m k) (File q n j) h = λ i. WantFile (spelling (h.0 i)) (h.1 i) (h.2 i)
wanted_like (Link g) (Link h) e = ap WantLink e
wanted_like (Hard p) (Hard q) h = ap WantHard h
wanted_like a b h = absurd h

at_like : (x y : List (List ℕ × Entry)) → AreLike x y → (q : List ℕ) → wanted_among x q ≡ wanted_among y q
at_like [] [] h q = refl
at_like [] (f ∷ y) h q = absurd h
at_like (e ∷ x) [] h q = absurd h
at_like (e ∷ x) (f ∷ y) h q = λ i. cond (same_path (h.0 i) q) (Some (wanted_like e.1 f.1 h.1 i)) (at_like x y h.2 q i)

keys_like : (x y : List (List ℕ × Entry)) → AreLike x y → map (λ (e : List ℕ × Entry). e.0) x ≡ map (λ (e : List ℕ × Entry). e.0) y
keys_like [] [] h = refl
keys_like [] (f ∷ y) h = absurd h
keys_like (e ∷ x) [] h = absurd h
keys_like (e ∷ x) (f ∷ y) h = λ i. h.0 i ∷ keys_like x y h.2 i

pub want_like : (x y : List (List ℕ × Entry)) → AreLike x y → want_of x ≡ want_of y
want_like x y h = λ i. record { at = λ q. at_like x y h q i; keys = keys_like x y h i }

pub want_keyed : (x : List (List ℕ × Entry)) (q : List ℕ) → is_some ((want_of x).at q) ≡ listed (want_of x).keys q
want_keyed x q = listed_at x q

pub want_bare : (s : State) (x : List (List ℕ × Entry)) → StateMeans s x → (q : List ℕ) → is_below records_name q ≡ true → (want_of x).at q ≡ None
want_bare s x h q below = nothing_below s.settings s.mediators.items s.installed.items x h.mean q below
