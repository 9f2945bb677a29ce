-- Bytes have the name of a payload just where their digest is that name.
use Rattle.std.proofs.Common.{◌≡◌, ◌*◌, ℕ, true, List, length, refl, sym, ◌∙◌, ap, arith}
use Rattle.std.specs.Prelude.{◌↔◌}
use Rattle.hex.specs.Hex.{encode_lower, lower_digits}
use Rattle.hex.proofs.HexLemmas.{length-encode_with}
use Rattle.ips_text.proofs.Ancestry.{same_path-true, same_path-self}
use Rattle.ips_text.specs.Ancestry.{same_path}
use Rattle.ips_digest.specs.Digest.{Algorithm, algorithm_of, digest_of}
use Rattle.ips_digest.specs.Name.{IsName, spelling}
use Rattle.ips_digest.specs.declared.name.PayloadName.{PayloadName}
use Rattle.ips_digest.specs.declared.name.PayloadName.TheVariants.{Sha1, Sha256}
use Rattle.ips_digest.proofs.Names.{spelled_once}
use Rattle.ips_change.specs.wanted.Named.{algorithm_by, is_payload_of}

algorithm_is : (name : PayloadName) → IsName name → algorithm_by (length (spelling name)) ≡ algorithm_of name
unfolding spelling
algorithm_is (Sha1 bytes) h = let long : length (encode_lower bytes) ≡ 40 = omega (arith, length-encode_with lower_digits bytes, h.0) in ap algorithm_by long
algorithm_is (Sha256 bytes) h = let long : length (encode_lower bytes) ≡ 64 = omega (arith, length-encode_with lower_digits bytes, h.0) in ap algorithm_by long

module _ (name : PayloadName) (bytes : List ℕ) (h : IsName name) (d : IsName (digest_of (algorithm_of name) bytes)) where
  told : is_payload_of (spelling name) bytes ≡ same_path (spelling name) (spelling (digest_of (algorithm_of name) bytes))
  told = ap (λ (a : Algorithm). same_path (spelling name) (spelling (digest_of a bytes))) (algorithm_is name h)

  pub is_digest : is_payload_of (spelling name) bytes ≡ true → digest_of (algorithm_of name) bytes ≡ name
  is_digest is = spelled_once _ _ d h (sym (same_path-true (spelling name) (spelling (digest_of (algorithm_of name) bytes)) (sym told ∙ is)))

  pub digest_is : digest_of (algorithm_of name) bytes ≡ name → is_payload_of (spelling name) bytes ≡ true
  digest_is is = told ∙ ap (λ (n : PayloadName). same_path (spelling name) (spelling n)) is ∙ same_path-self (spelling name)
