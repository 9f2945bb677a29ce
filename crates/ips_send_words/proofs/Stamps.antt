-- Versions with the timestamp of a moment.
use Rattle.std.proofs.Common.{◌≡◌, ℕ, ◌+◌, ◌*◌, true, List, [], ◌∷◌, ◌++◌, None, sym, ap, subst, ◌∙◌, append_assoc}
use Rattle.std.specs.Prelude.{unsigned_abs}
use Rattle.jiff_core.proofs.DateLemmas.{epoch_day_injective}
use Rattle.jiff_core.proofs.DateTimeLemmas.{civil_nanos_injective, time_nanos_injective}
use Rattle.ips_text.specs.Quote.{fits_name}
use Rattle.ips_fmri.specs.Version.{Parts, AreParts, IsStamp, IsVersion, stamp_text, version_text}
use Rattle.ips_fmri.proofs.Versions.{judges_version, written_one}
use Rattle.ips_send_words.specs.Words.{IsStampOf, IsStampedAs, with_stamp}

-- the timestamp of a moment is one
pub stamp_one : (moment a b : ℕ) → IsStampOf moment a → IsStampOf moment b → a ≡ b
stamp_one moment a b x y =
    let parts = civil_nanos_injective x.0 y.0 (x.1 ∙ sym y.1) in
    let date = epoch_day_injective x.0.date y.0.date parts.0 in
    let time = time_nanos_injective x.0.time y.0.time parts.1 in
    x.2 ∙ (λ i. (unsigned_abs (date.0 i) * 10_000 + date.1 i * 100 + date.2 i) * 1_000_000 + (time.0 i * 10_000 + time.1 i * 100 + time.2 i)) ∙ sym y.2

-- a version without a timestamp, with one written behind it
pub stamp_behind : (v : Parts) (stamp : ℕ) → v.stamp ≡ None → (version_text v ++ 58 ∷ []) ++ stamp_text stamp ≡ version_text (with_stamp v stamp)
stamp_behind v stamp none = rw none (simp append_assoc)

parts_with : (v : Parts) (stamp : ℕ) → IsVersion v → IsStamp stamp → AreParts (with_stamp v stamp)
parts_with v stamp is_v is = record { release = is_v.parts.release; build = is_v.parts.build; branch = is_v.parts.branch; stamp = is }

module _ (moment : ℕ) (given : Parts) (text : List ℕ) (stamp : ℕ) (of : IsStampOf moment stamp) (written : text ≡ version_text (with_stamp given stamp)) where
  pub stamped_some : (v : Parts) → IsVersion given → IsStamp stamp → IsVersion v → text ≡ version_text v → IsStampedAs None moment given v
  stamped_some v is_given is is_v reads =
      let short : fits_name (version_text (with_stamp given stamp)) ≡ true = subst (λ (l : List ℕ). fits_name l ≡ true) (sym reads ∙ written) is_v.short in
      let is_with : IsVersion (with_stamp given stamp) = record { parts = parts_with given stamp is_given is; short = short } in
      (stamp, of, written_one judges_version text v (with_stamp given stamp) (is_v, reads) (is_with, written))

  pub stamped_none : ((v : Parts) → IsVersion v → text ≡ version_text v → ⊥) → (v : Parts) → IsStampedAs None moment given v → IsVersion v → ⊥
  stamped_none unread v is is_v = unread v is_v (written ∙ ap (λ (n : ℕ). version_text (with_stamp given n)) (stamp_one moment stamp is.0 of is.1) ∙ sym (ap version_text is.2))
