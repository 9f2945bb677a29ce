use Rattle.std.proofs.Common.{◌≡◌, ◌↔◌, ℕ, List, ◌∷◌, length, IsTrue, refl, sym, subst, arith, rules}
use Rattle.std.proofs.lemmas.Result.{IfOk-weaker}
use Rattle.ips_records.specs.Form.{IsMoment, HasStamp}
use Rattle.ips_records.proofs.RequestForms.{moment_stamp, stamp_moment}
use Rattle.ips_records.proofs.requests.is_moment.Goals as goal

pub returns : goal.returns
returns c =
    let bytes = c.args.bytes.now in
    let spelled : c.deref.result.now ≡ 48 ∷ 58 ∷ bytes = rw (c.deref.ensures.value, c.in_ok-extend_from_slice.ensures.items, c.in_ok-spelled.ensures.items) refl in
    let long : length bytes ≡ 16 = search rules in
    IfOk-weaker c.has_moment.result _ _ (λ is h. (λ yes. moment_stamp bytes long (subst HasStamp spelled (h.0 yes)), λ m. h.1 (subst HasStamp (sym spelled) (stamp_moment bytes m)))) c.has_moment.ensures
