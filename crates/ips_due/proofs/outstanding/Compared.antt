-- Bytes of a file, compared part by part.
use Rattle.std.proofs.Common.{◌≡◌, ℕ, ◌+◌, ◌≤◌, true, false, List, [], ◌++◌, length, take, drop, take-add, take_all, Option, Some, None, sym, ap, ap₂, ◌∙◌}
use Rattle.std.specs.Option.{unwrap_or}
use Rattle.std.proofs.lemmas.Bool.{false_from_ne_true, true≢false}
use Rattle.ips_text.specs.Ancestry.{same_path}
use Rattle.ips_text.proofs.Ancestry.{same_path-true, same_path-self}
use Rattle.ips_files.specs.Files.{HasSize}

pub size_of : (file : Option (List ℕ)) (size : ℕ) → HasSize file size → length (unwrap_or file []) ≡ size
size_of None size is = absurd is
size_of (Some bytes) size is = is

module _ (bytes file : List ℕ) where
  pub other_size : (length file ≡ length bytes → ⊥) → false ≡ same_path bytes file
  other_size apart = sym (false_from_ne_true (same_path bytes file) (λ same. apart (sym (ap length (same_path-true bytes file same)))))

  pub all_same : (at : ℕ) → take at bytes ≡ take at file → length bytes ≤ at → length file ≤ at → true ≡ same_path bytes file
  all_same at same long enough =
      let is : bytes ≡ file = sym (take_all at bytes long) ∙ same ∙ take_all at file enough in
      sym (ap (same_path bytes) (sym is) ∙ same_path-self bytes)

  module _ (at count : ℕ) (part buffer : List ℕ) (is : part ≡ take count (drop at bytes)) (read : take count buffer ≡ take count (drop at file)) where
    pub other_part : same_path part (take count buffer) ≡ false → false ≡ same_path bytes file
    other_part apart = sym (false_from_ne_true (same_path bytes file) (λ same.
        let one = same_path-true bytes file same in
        let parts : part ≡ take count buffer = is ∙ ap (λ (l : List ℕ). take count (drop at l)) one ∙ sym read in
        true≢false (sym (same_path-self part) ∙ ap (same_path part) parts ∙ apart)))

    pub same_part : take at bytes ≡ take at file → same_path part (take count buffer) ≡ true → take (at + count) bytes ≡ take (at + count) file
    same_part so_far same =
        take-add at count bytes ∙ ap₂ (λ (a b : List ℕ). a ++ b) so_far (sym is ∙ same_path-true part (take count buffer) same ∙ read) ∙ sym (take-add at count file)
