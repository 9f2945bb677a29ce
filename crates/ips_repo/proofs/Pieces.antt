-- A payload, piece by piece.
use Rattle.std.proofs.Common.{◌≡◌, ◌+◌, ◌-◌, ◌<◌, ◌≤◌, ℕ, List, [], length, take, drop, take_all, Option, unwrap_or, refl, sym, ◌∙◌, ap, subst, arith, length-take, length-drop, length-take-le}
use Rattle.std.proofs.lemmas.Bool.{eqb-true}
use Rattle.std.proofs.lemmas.List.{drop-take, take-take}
use Rattle.ips_outside.specs.Image.{Image}
use Rattle.ips_outside.specs.Outside.{readable, IsRead}
use Rattle.ips_repo.specs.Payload.{PayloadReading, from_start, with_piece, IsFrontOf}
use Rattle.ips_files.proofs.Parts.{part_more, part_end}

-- a file cut at a size, behind a place before it
cut_behind : (file : List ℕ) (at size : ℕ) → at ≤ size → drop at (take size file) ≡ take (size - at) (drop at file)
cut_behind file at size le = let whole : size ≡ at + (size - at) = omega arith in ap (λ (n : ℕ). drop at (take n file)) whole ∙ drop-take at (size - at) file

module _ (file buffer : List ℕ) (size at count : ℕ) where
  -- a part of a file is one of the file cut at a size, where it ends before that
  pub part_of_cut : at + count ≤ size → IsRead file at buffer count → IsRead (take size file) at buffer count
  part_of_cut le read = record {
    bytes = read.bytes ∙ sym (ap (take count) (cut_behind file at size (omega arith)) ∙ take-take count (size - at) (drop at file) (omega arith));
    within = rw (cut_behind file at size (omega arith)) (simp length-take (omega (arith, read.within)));
    some = λ room more. read.some room (omega (arith, length-take size file));
  }

  -- nothing is behind the size
  pub none_past : size ≤ at → IsRead (take size file) at buffer 0
  none_past past = record { bytes = refl; within = omega arith; some = λ room more. absurd (omega (arith, length-take size file)) }

-- so many bytes of a file have that length
front_long : (file bytes : List ℕ) (n : ℕ) → bytes ≡ take n file → n ≤ length file → length bytes ≡ n
front_long file bytes n is le = ap length is ∙ length-take-le n file le

-- one more piece of the file
pub front_more : (t : Image) (r : PayloadReading) (buffer : List ℕ) (count : ℕ) → 0 < length buffer → IsFrontOf t r → IsRead (take r.size (readable (t.look r.place))) (length r.bytes) buffer count → IsFrontOf t (with_piece count buffer r)
front_more t r buffer count room front read =
    let same : take r.size (readable (t.look r.place)) ≡ front.file = ap (λ (o : Option (List ℕ)). take r.size (unwrap_or o [])) front.stands ∙ take_all r.size front.file (omega (arith, front.sized)) in
    let mine = subst (λ (file : List ℕ). IsRead file (length r.bytes) buffer count) same read in
    let more = part_more front.file buffer (length r.bytes) count mine r.bytes front.front in
    let fits : length r.bytes + count ≤ length front.file = omega (arith, mine.within, length-drop (length r.bytes) front.file, ap length front.front, length-take (length r.bytes) front.file) in
    record {
      file = front.file;
      stands = front.stands;
      sized = front.sized;
      front = more ∙ ap (λ (n : ℕ). take n front.file) (sym (front_long front.file _ _ more fits));
      whole = λ ended.
          let none = eqb-true count 0 ended in
          more ∙ take_all _ front.file (omega (arith, part_end front.file buffer (length r.bytes) count mine room none));
    }

-- none of it given yet
pub front_again : (t : Image) (r : PayloadReading) → IsFrontOf t r → IsFrontOf t (from_start r)
front_again t r front = record { file = front.file; stands = front.stands; sized = front.sized; front = refl; whole = λ ended. cc }
