-- What is staged has the bytes that payloads have in the repository.
use Rattle.std.proofs.Common.{◌≡◌, ◌<◌, ◌+◌, ℕ, zero, suc, true, List, [], ◌∷◌, map, length, slice_get, Option, Some, None, is_some, refl, sym, ◌∙◌, ap, arith}
use Rattle.std.specs.Option.{option_or}
use Rattle.ips_outside.specs.Image.{Image}
use Rattle.ips_steps.specs.Steps.{Stage, content_bytes}
use Rattle.ips_journal.specs.declared.staged.Staged.{Staged}
use Rattle.ips_journal.specs.declared.staged.Staged.TheVariants.{Bytes, Payload, Standing}
use Rattle.ips_after.specs.Planned.{Staged as AreContents}
use Rattle.ips_contents.specs.Contents.{IsContent, StagedContents}
use Rattle.ips_emit.specs.Emitted.{staged_bytes}
use Rattle.ips_image_steps.specs.staged_plans.Payloads.{payload_bytes}

module _ (publisher : List ℕ) (repository t : Image) where
  abbrev bytes_of : Staged → List ℕ
  bytes_of s = staged_bytes (payload_bytes publisher repository) t s

  held : (s : Staged) (b : List ℕ) → IsContent true repository publisher t s b → b ≡ bytes_of s
  held (Payload name) b h = sym (ap content_bytes (h.held refl))
  held (Bytes given) b h = h
  held (Standing path) b h = sym (ap content_bytes h)

  from : (staged : List Staged) (k : ℕ) (contents : Stage)
      → ((n m : ℕ) (s : Staged) → slice_get staged n ≡ Some s → m ≡ k + n → (b : List ℕ) × (contents m ≡ Some b) × IsContent true repository publisher t s b)
      → AreContents contents k (map bytes_of staged)
  from [] k contents f = tt
  from (s ∷ staged) k contents f =
      let one = f zero k s refl (omega arith) in
      (one.1 ∙ ap Some (held s one.0 one.2), from staged (k + 1) contents (λ n m x at is. f (suc n) m x at (omega arith)))

  pub contents_are : (staged : List Staged) (contents : Stage) → StagedContents true repository publisher t staged contents → AreContents contents 0 (map bytes_of staged)
  contents_are staged contents h = from staged 0 contents (λ n m s at is. let one : m ≡ n = omega arith in rw one (h n s at))

-- ---- a stage that has these contents, and else what another has

abbrev pub stage_with : List (List ℕ) → Stage → Stage
stage_with contents other n = option_or (slice_get contents n) (other n)

with_from : (contents : List (List ℕ)) (k : ℕ) (stage : Stage) → ((n m : ℕ) (b : List ℕ) → slice_get contents n ≡ Some b → m ≡ k + n → stage m ≡ Some b) → AreContents stage k contents
with_from [] k stage f = tt
with_from (b ∷ contents) k stage f = (f zero k b refl (omega arith), with_from contents (k + 1) stage (λ n m x at is. f (suc n) m x at (omega arith)))

first_some : (o p : Option (List ℕ)) (b : List ℕ) → o ≡ Some b → option_or o p ≡ Some b
first_some (Some x) p b h = h
first_some None p b h = cc

pub contents_with : (contents : List (List ℕ)) (other : Stage) → AreContents (stage_with contents other) 0 contents
contents_with contents other = with_from contents 0 (stage_with contents other) (λ n m b at is. let one : m ≡ n = omega arith in rw one (first_some (slice_get contents n) (other n) b at))

some_with : (contents : List (List ℕ)) (n : ℕ) (o : Option (List ℕ)) → (n < length contents → is_some o ≡ true) → is_some (option_or (slice_get contents n) o) ≡ is_some o
some_with [] n o h = refl
some_with (b ∷ contents) zero o h = sym (h (omega arith))
some_with (b ∷ contents) (suc n) o h = some_with contents n o (λ less. h (omega arith))

-- it has something at each number at which the other has, where that has something at each of these contents' numbers
pub alike_with : (contents : List (List ℕ)) (other : Stage) → ((n : ℕ) → n < length contents → is_some (other n) ≡ true) → (n : ℕ) → is_some (stage_with contents other n) ≡ is_some (other n)
alike_with contents other all n = some_with contents n (other n) (all n)
