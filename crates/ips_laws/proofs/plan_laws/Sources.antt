-- Contents that are the same whatever the bytes of payloads come from like sources.
use Rattle.std.proofs.Common.{◌≡◌, ℕ, zero, suc, cond, nat_lt, List, [], ◌∷◌, ◌++◌, map, length, Option, Some, None, refl, sym, ap, ◌∙◌, arith}
use Rattle.std.specs.Prelude.{slice_get}
use Rattle.std.specs.List.{AllByRecursion}
use Rattle.std.specs.Option.{option_map}
use Rattle.ips_outside.specs.Image.{Image}
use Rattle.ips_text.specs.declared.limits.Which.TheVariants.{Names, Steps}
use Rattle.ips_journal.specs.declared.staged.Staged.{Staged}
use Rattle.ips_journal.specs.declared.staged.Staged.TheVariants.{Payload, Bytes, Standing}
use Rattle.ips_steps.specs.Steps.{Step, Gone, Fresh, Mode, Put, Symlink, Hard}
use Rattle.ips_emit.specs.Emitted.{FromFile, FromPayload, OwnBytes, Provenance, bytes_at, provenance_of, staged_bytes}
use Rattle.ips_image_steps.specs.Sources.{IsNoCopy}
use Rattle.ips_plan_limits.specs.Names.{most_names}
use Rattle.ips_plan_limits.specs.Limits.{first_excess, large_at, large_of, least_large, lesser_large, own_count, which_at}
use Rattle.ips_plan_limits.specs.declared.limits.Excess.{Excess}
use Rattle.ips_laws.specs.plan_laws.Alike.{AreLikeSources, IsLikeSource}

-- the bytes of what comes from there
abbrev pub bytes_from : (List ℕ → List ℕ) → Image → Provenance → List ℕ
bytes_from bytes t (FromPayload payload) = bytes payload
bytes_from bytes t (OwnBytes b) = b
bytes_from bytes t (FromFile p) = bytes_at t p

from_staged : (bytes : List ℕ → List ℕ) (t : Image) (s : Staged) → staged_bytes bytes t s ≡ bytes_from bytes t (provenance_of s)
from_staged bytes t (Payload name) = refl
from_staged bytes t (Bytes given) = refl
from_staged bytes t (Standing path) = refl

pub all_from : (bytes : List ℕ → List ℕ) (t : Image) (xs : List Staged) → map (staged_bytes bytes t) xs ≡ map (bytes_from bytes t) (map provenance_of xs)
all_from bytes t [] = refl
all_from bytes t (x ∷ xs) = λ i. from_staged bytes t x i ∷ all_from bytes t xs i

-- what is beyond its limit, by the first file that is too large
abbrev excess_by : List Step → Option (List ℕ × ℕ) → Option Excess
excess_by steps large = cond (nat_lt 4000000 (length steps)) (Some (record { which = Steps; count = length steps }))
    (cond (nat_lt 32000 (most_names steps)) (Some (record { which = Names; count = most_names steps })) (option_map (λ (f : List ℕ × ℕ). record { which = which_at f.0; count = f.1 }) large))

-- A content isn't bytes of its own.
abbrev pub IsTaken : Provenance → Type 0
IsTaken (FromPayload payload) = Unit {0}
IsTaken (OwnBytes b) = ⊥
IsTaken (FromFile p) = Unit {0}

-- The contents have the same bytes, whatever those of payloads are.
abbrev HaveOneContent : Image → Provenance → Provenance → Type 0
HaveOneContent t x y = (bytes : List ℕ → List ℕ) → bytes_from bytes t x ≡ bytes_from bytes t y

abbrev pub HaveOneContents : Image → List Provenance → List Provenance → Type 0
HaveOneContents t xs ys = (bytes : List ℕ → List ℕ) → map (bytes_from bytes t) xs ≡ map (bytes_from bytes t) ys

-- the bytes of each payload: its name, none, and one
abbrev named : List ℕ → List ℕ
named payload = payload

abbrev none_of : List ℕ → List ℕ
none_of payload = []

abbrev one_of : List ℕ → List ℕ
one_of payload = 0 ∷ []

-- no bytes are those of each payload, whatever these are
no_bytes : (b : List ℕ) → [] ≡ b → 0 ∷ [] ≡ b → ⊥
no_bytes b h k = cc

module _ (t : Image) where
  taken_like : (x y : Provenance) → IsTaken x → IsTaken y → HaveOneContent t x y → IsLikeSource t x y
  taken_like (FromPayload p) (FromPayload q) h k same = same named
  taken_like (FromPayload p) (FromFile q) h k same = no_bytes (bytes_at t q) (same none_of) (same one_of)
  taken_like (FromFile p) (FromPayload q) h k same = no_bytes (bytes_at t p) (sym (same none_of)) (sym (same one_of))
  taken_like (FromFile p) (FromFile q) h k same = same named
  taken_like (OwnBytes b) y h k same = absurd h
  taken_like (FromPayload p) (OwnBytes c) h k same = absurd k
  taken_like (FromFile p) (OwnBytes c) h k same = absurd k

  uncopied_like : (x y : Provenance) → IsNoCopy x → IsNoCopy y → HaveOneContent t x y → IsLikeSource t x y
  uncopied_like (FromPayload p) (FromPayload q) h k same = same named
  uncopied_like (FromPayload p) (OwnBytes c) h k same = no_bytes c (same none_of) (same one_of)
  uncopied_like (OwnBytes b) (FromPayload q) h k same = no_bytes b (sym (same none_of)) (sym (same one_of))
  uncopied_like (OwnBytes b) (OwnBytes c) h k same = same named
  uncopied_like (FromFile p) y h k same = absurd h
  uncopied_like (FromPayload p) (FromFile q) h k same = absurd k
  uncopied_like (OwnBytes b) (FromFile q) h k same = absurd k

  -- the first contents, and those behind them
  split_one : (x y : Provenance) (xs ys : List Provenance) → HaveOneContents t (x ∷ xs) (y ∷ ys) → HaveOneContent t x y × HaveOneContents t xs ys
  split_one x y xs ys same = (
    λ bytes. let all : bytes_from bytes t x ∷ map (bytes_from bytes t) xs ≡ bytes_from bytes t y ∷ map (bytes_from bytes t) ys = same bytes in cc,
    λ bytes. let all : bytes_from bytes t x ∷ map (bytes_from bytes t) xs ≡ bytes_from bytes t y ∷ map (bytes_from bytes t) ys = same bytes in cc,
  )

  laid_like : (xs ys : List Provenance) → AllByRecursion IsNoCopy xs → AllByRecursion IsNoCopy ys → HaveOneContents t xs ys → AreLikeSources t xs ys
  laid_like [] [] h k same = tt
  laid_like [] (y ∷ ys) h k same = let one : [] ≡ bytes_from named t y ∷ map (bytes_from named t) ys = same named in cc
  laid_like (x ∷ xs) [] h k same = let one : bytes_from named t x ∷ map (bytes_from named t) xs ≡ [] = same named in cc
  laid_like (x ∷ xs) (y ∷ ys) h k same =
      let parts = split_one x y xs ys same in
      (uncopied_like x y h.0 k.0 parts.0, laid_like xs ys h.1 k.1 parts.1)

  -- what is saved comes first, as much in both, and what is laid behind it
  pub sources_like : (saved other laid more : List Provenance) → length saved ≡ length other → AllByRecursion IsTaken saved → AllByRecursion IsTaken other → AllByRecursion IsNoCopy laid → AllByRecursion IsNoCopy more
      → HaveOneContents t (saved ++ laid) (other ++ more) → AreLikeSources t (saved ++ laid) (other ++ more)
  sources_like [] [] laid more many h k hl kl same = laid_like laid more hl kl same
  sources_like [] (y ∷ other) laid more many h k hl kl same = absurd (omega (arith, many))
  sources_like (x ∷ saved) [] laid more many h k hl kl same = absurd (omega (arith, many))
  sources_like (x ∷ saved) (y ∷ other) laid more many h k hl kl same =
      let rest : length saved ≡ length other = omega (arith, many) in
      let parts = split_one x y (saved ++ laid) (other ++ more) same in
      (taken_like x y h.0 k.0 parts.0, sources_like saved other laid more rest h.1 k.1 hl kl parts.1)

  -- ---- like sources have the same counts of their own bytes, and so the same first excess

  own_like : (x y : Staged) → IsLikeSource t (provenance_of x) (provenance_of y) → own_count (Some x) ≡ own_count (Some y)
  own_like (Payload n) (Payload m) h = refl
  own_like (Bytes b) (Bytes c) h = ap (λ (l : List ℕ). Some (length l)) h
  own_like (Standing p) (Standing q) h = refl
  own_like (Payload n) (Bytes c) h = absurd h
  own_like (Payload n) (Standing q) h = absurd h
  own_like (Bytes b) (Payload m) h = absurd h
  own_like (Bytes b) (Standing q) h = absurd h
  own_like (Standing p) (Payload m) h = absurd h
  own_like (Standing p) (Bytes c) h = absurd h

  abbrev AreLikeStaged : List Staged → List Staged → Type 0
  AreLikeStaged xs ys = AreLikeSources t (map provenance_of xs) (map provenance_of ys)

  owns_like : (xs ys : List Staged) → AreLikeStaged xs ys → (n : ℕ) → own_count (slice_get xs n) ≡ own_count (slice_get ys n)
  owns_like [] [] h n = refl
  owns_like [] (y ∷ ys) h n = absurd h
  owns_like (x ∷ xs) [] h n = absurd h
  owns_like (x ∷ xs) (y ∷ ys) h zero = own_like x y h.0
  owns_like (x ∷ xs) (y ∷ ys) h (suc n) = owns_like xs ys h.1 n

  module _ (xs ys : List Staged) (h : AreLikeStaged xs ys) where
    large_like : (s : Step) → large_of xs s ≡ large_of ys s
    large_like (Gone p) = refl
    large_like (Fresh m p) = refl
    large_like (Mode m p) = refl
    large_like (Put n m p) = ap (large_at p) (owns_like xs ys h n)
    large_like (Symlink p target) = refl
    large_like (Hard p to) = refl

    least_like : (found : Option (List ℕ × ℕ)) (steps : List Step) → least_large xs found steps ≡ least_large ys found steps
    least_like found [] = refl
    least_like found (s ∷ later) = ap (λ (o : Option (List ℕ × ℕ)). least_large xs (lesser_large found o) later) (large_like s) ∙ least_like (lesser_large found (large_of ys s)) later

    pub excess_like : (steps : List Step) → first_excess steps xs ≡ first_excess steps ys
    excess_like steps = ap (excess_by steps) (least_like None steps)
