-- One path more: its step behind the steps, and its content behind the contents.
use Rattle.std.proofs.Common.{◌≡◌, ℕ, ◌+◌, List, [], ◌∷◌, ◌++◌, map, length, refl, sym, ap, ◌∙◌, arith}
use Rattle.std.proofs.lemmas.List.{length-map, map-append}
use Rattle.ips_outside.specs.Image.{Dir, File, Image, Link, Other}
use Rattle.ips_steps.specs.Steps.{Step, Fresh, Gone, Hard, Mode, Put, Symlink}
use Rattle.ips_steps.specs.View.{step_of}
use Rattle.ips_journal.specs.Reading.{puts_in}
use Rattle.ips_journal.specs.declared.staged.Staged.{Staged}
use Rattle.ips_after.specs.Change.{Change, Changes, Given, Joined, Kept, Laid, Removed}
use Rattle.ips_after.specs.Planned.{contents_of, next_step, steps_of, with_content}
use Rattle.ips_emit.specs.declared.emitting.Emitted.{Emitted}
use Rattle.ips_emit.specs.Emitted.{IsEmitted, Provenance, Turn, contents_in, provenance_of, staged_bytes, steps_in}

-- the step of a path alone
abbrev last_step : Turn → ℕ → List Step
last_step x k = next_step x.1 k x.0 (λ n. [])

steps_more : (k : ℕ) (xs : List Turn) (x : Turn) → steps_in k (xs ++ x ∷ []) ≡ steps_in k xs ++ last_step x (k + length (contents_in xs))
steps_more k [] x = ap (last_step x) (omega arith)
steps_more k (y ∷ xs) x = go y.1 (steps_more k xs x) (steps_more (k + 1) xs x)
  where
    go : (c : Change) → steps_in k (xs ++ x ∷ []) ≡ steps_in k xs ++ last_step x (k + length (contents_in xs)) → steps_in (k + 1) (xs ++ x ∷ []) ≡ steps_in (k + 1) xs ++ last_step x (k + 1 + length (contents_in xs))
        → next_step c k y.0 (λ n. steps_in n (xs ++ x ∷ [])) ≡ next_step c k y.0 (λ n. steps_in n xs) ++ last_step x (k + length (with_content c (contents_in xs)))
    go Kept same put = same
    go Removed same put = ap (λ (l : List Step). Gone y.0 ∷ l) same
    go (Laid (Dir m f)) same put = ap (λ (l : List Step). Fresh m y.0 ∷ l) same
    go (Laid (File m b)) same put =
        let count : k + 1 + length (contents_in xs) ≡ k + length (b ∷ contents_in xs) = omega arith in
        ap (λ (l : List Step). Put k m y.0 ∷ l) (put ∙ ap (λ (n : ℕ). steps_in (k + 1) xs ++ last_step x n) count)
    go (Laid (Link g)) same put = ap (λ (l : List Step). Symlink y.0 g ∷ l) same
    go (Laid Other) same put = same
    go (Joined to) same put = ap (λ (l : List Step). Hard y.0 to ∷ l) same
    go (Given m) same put = ap (λ (l : List Step). Mode m y.0 ∷ l) same

contents_more : (xs : List Turn) (x : Turn) → contents_in (xs ++ x ∷ []) ≡ contents_in xs ++ with_content x.1 []
contents_more [] x = refl
contents_more (y ∷ xs) x = go y.1 (contents_more xs x)
  where
    go : (c : Change) → contents_in (xs ++ x ∷ []) ≡ contents_in xs ++ with_content x.1 [] → with_content c (contents_in (xs ++ x ∷ [])) ≡ with_content c (contents_in xs) ++ with_content x.1 []
    go Kept same = same
    go Removed same = same
    go (Laid (Dir m f)) same = same
    go (Laid (File m b)) same = ap (λ (l : List (List ℕ)). b ∷ l) same
    go (Laid (Link g)) same = same
    go (Laid Other) same = same
    go (Joined to) same = same
    go (Given m) same = same

-- the steps of paths by what becomes of each
pub steps_by : (change : Changes) (k : ℕ) (paths : List (List ℕ)) → steps_in k (map (λ p. (p, change p)) paths) ≡ steps_of change k paths
steps_by change k [] = refl
steps_by change k (p ∷ paths) = go (change p) (steps_by change k paths) (steps_by change (k + 1) paths)
  where
    go : (c : Change) → steps_in k (map (λ q. (q, change q)) paths) ≡ steps_of change k paths → steps_in (k + 1) (map (λ q. (q, change q)) paths) ≡ steps_of change (k + 1) paths
        → next_step c k p (λ n. steps_in n (map (λ q. (q, change q)) paths)) ≡ next_step c k p (λ n. steps_of change n paths)
    go Kept same put = same
    go Removed same put = ap (λ (l : List Step). Gone p ∷ l) same
    go (Laid (Dir m f)) same put = ap (λ (l : List Step). Fresh m p ∷ l) same
    go (Laid (File m b)) same put = ap (λ (l : List Step). Put k m p ∷ l) put
    go (Laid (Link g)) same put = ap (λ (l : List Step). Symlink p g ∷ l) same
    go (Laid Other) same put = same
    go (Joined to) same put = ap (λ (l : List Step). Hard p to ∷ l) same
    go (Given m) same put = ap (λ (l : List Step). Mode m p ∷ l) same

pub contents_by : (change : Changes) (paths : List (List ℕ)) → contents_in (map (λ p. (p, change p)) paths) ≡ contents_of change paths
contents_by change [] = refl
contents_by change (p ∷ paths) = ap (with_content (change p)) (contents_by change paths)

-- the steps put as much as is to be staged
pub puts_counted : (k : ℕ) (turns : List Turn) → puts_in (steps_in k turns) ≡ length (contents_in turns)
puts_counted k [] = refl
puts_counted k (x ∷ rest) = go x.1 (puts_counted k rest) (puts_counted (k + 1) rest)
  where
    go : (c : Change) → puts_in (steps_in k rest) ≡ length (contents_in rest) → puts_in (steps_in (k + 1) rest) ≡ length (contents_in rest) → puts_in (next_step c k x.0 (λ n. steps_in n rest)) ≡ length (with_content c (contents_in rest))
    go Kept same put = same
    go Removed same put = same
    go (Laid (Dir m f)) same put = same
    go (Laid (File m b)) same put = omega (arith, put)
    go (Laid (Link g)) same put = same
    go (Laid Other) same put = same
    go (Joined to) same put = same
    go (Given m) same put = same

append_none : {A : Type 0} (xs : List A) → xs ≡ xs ++ []
append_none {A = A} [] = refl
append_none {A = A} (x ∷ xs) = ap (λ (l : List A). x ∷ l) (append_none xs)

module _ (bytes : List ℕ → List ℕ) (t : Image) (turns : List Turn) (provenances : List Provenance) (old new : Emitted) (is : IsEmitted bytes t turns provenances old) where
  counted : length old.staged.items ≡ 0 + length (contents_in turns)
  counted = sym (length-map old.staged.items (staged_bytes bytes t)) ∙ ap length is.staged ∙ omega arith

  -- nothing becomes of the path
  pub kept_on : (p : List ℕ) → IsEmitted bytes t (turns ++ (p, Kept) ∷ []) (provenances ++ []) old
  kept_on p = record {
    steps = is.steps ∙ append_none (steps_in 0 turns) ∙ sym (steps_more 0 turns (p, Kept));
    staged = is.staged ∙ append_none (contents_in turns) ∙ sym (contents_more turns (p, Kept));
    provenances_are = is.provenances_are ∙ append_none provenances;
  }

  -- a step that puts no file
  pub step_on : (x : Turn) (s : Step) → last_step x (0 + length (contents_in turns)) ≡ s ∷ [] → with_content x.1 [] ≡ [] → map step_of new.steps.items ≡ map step_of old.steps.items ++ s ∷ [] → new.staged.items ≡ old.staged.items → IsEmitted bytes t (turns ++ x ∷ []) (provenances ++ []) new
  step_on x s last none more same = record {
    steps = more ∙ ap (λ (l : List Step). l ++ s ∷ []) is.steps ∙ ap (λ (l : List Step). steps_in 0 turns ++ l) (sym last) ∙ sym (steps_more 0 turns x);
    staged = ap (λ (l : List Staged). map (staged_bytes bytes t) l) same ∙ is.staged ∙ append_none (contents_in turns) ∙ ap (λ (l : List (List ℕ)). contents_in turns ++ l) (sym none) ∙ sym (contents_more turns x);
    provenances_are = ap (λ (l : List Staged). map provenance_of l) same ∙ is.provenances_are ∙ append_none provenances;
  }

  -- a step that puts a file with this content
  pub put_on : (p : List ℕ) (m : ℕ) (b : List ℕ) (content : Staged) → staged_bytes bytes t content ≡ b → map step_of new.steps.items ≡ map step_of old.steps.items ++ Put (length old.staged.items) m p ∷ [] → new.staged.items ≡ old.staged.items ++ content ∷ [] → IsEmitted bytes t (turns ++ (p, Laid (File m b)) ∷ []) (provenances ++ provenance_of content ∷ []) new
  put_on p m b content of more and_content = record {
    steps = more ∙ ap (λ (l : List Step). l ++ Put (length old.staged.items) m p ∷ []) is.steps ∙ ap (λ (n : ℕ). steps_in 0 turns ++ Put n m p ∷ []) counted ∙ sym (steps_more 0 turns (p, Laid (File m b)));
    staged = ap (λ (l : List Staged). map (staged_bytes bytes t) l) and_content ∙ map-append (staged_bytes bytes t) old.staged.items (content ∷ []) ∙ ap (λ (l : List (List ℕ)). l ++ staged_bytes bytes t content ∷ []) is.staged ∙ ap (λ (c : List ℕ). contents_in turns ++ c ∷ []) of ∙ sym (contents_more turns (p, Laid (File m b)));
    provenances_are = ap (λ (l : List Staged). map provenance_of l) and_content ∙ map-append provenance_of old.staged.items (content ∷ []) ∙ ap (λ (l : List Provenance). l ++ provenance_of content ∷ []) is.provenances_are;
  }

-- nothing more is staged
pub no_more : (bytes : List ℕ → List ℕ) (t : Image) (turns : List Turn) (provenances : List Provenance) (e : Emitted) → IsEmitted bytes t turns (provenances ++ []) e → IsEmitted bytes t turns provenances e
no_more bytes t turns provenances e is = record { steps = is.steps; staged = is.staged; provenances_are = is.provenances_are ∙ sym (append_none provenances) }
