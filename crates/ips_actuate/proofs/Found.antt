-- The services that are gathered are those that the change is about.
use Rattle.std.proofs.Common.{◌≡◌, ◌⊎◌, inl, inr, ℕ, List, []}
use Rattle.ips_action.specs.Action.{Fields, line_text}
use Rattle.ips_actuate.specs.Actuators.{HasLine, IsDropped, IsDisabled, IsAskedFor}
use Rattle.ips_actuate.specs.Gathering.{TextSet, Gives, IsSetOf, IsGrown, HasKey, Disables, Asks, key_text}
use Rattle.ips_actuate.proofs.Gathered.{empty_lacks}
use Rattle.ips_actuate.proofs.Keys.{one_key, same_key}

pub disabled_are : (old new : List Fields) (lines keys set : TextSet) → IsSetOf (HasLine new) lines → IsSetOf (HasKey new) keys → IsSetOf (Gives (Disables lines keys) old) set → IsSetOf (IsDisabled old new) set
disabled_are old new lines keys set of_lines of_keys given service = (
  λ h.
      let w = (given service).0 h in
      let a : Fields = w.0 in
      record {
        action = a;
        dropped = record { stood = w.1; gone = λ has. w.2.0 ((of_lines (line_text a)).1 has) };
        alone = λ b in_new kind name. w.2.1 ((of_keys (key_text a)).1 (b, in_new, same_key b a kind name));
        has = w.2.2;
      },
  λ d.
      let a : Fields = d.action in
      (given service).1 (
        a,
        d.dropped.stood,
        (
          λ has. d.dropped.gone ((of_lines (line_text a)).0 has),
          λ has. let w = (of_keys (key_text a)).0 has in let same = one_key w.0 a w.2 in d.alone w.0 w.1 same.0 same.1,
          d.has,
        ),
      ),
)

module _ (key : List ℕ) (old new : List Fields) (disabled : TextSet) (of_disabled : IsSetOf (IsDisabled old new) disabled) where
  -- what actions of one side give, where these are the lines of the other
  to_asked : (here there : List Fields) (lines : TextSet) → IsSetOf (HasLine there) lines → ((a : Fields) → IsDropped here there a → IsDropped old new a ⊎ IsDropped new old a) → (service : List ℕ)
      → Gives (Asks key lines disabled) here service → IsAskedFor key old new service
  to_asked here there lines of_lines side service w = record {
    action = w.0;
    changed = side w.0 (record { stood = w.1; gone = λ has. w.2.0 ((of_lines (line_text w.0)).1 has) });
    has = w.2.1;
    stays = λ d. w.2.2 ((of_disabled service).1 d);
  }

  from_asked : (here there : List Fields) (lines : TextSet) → IsSetOf (HasLine there) lines → (service : List ℕ) (asked : IsAskedFor key old new service) → IsDropped here there asked.action → Gives (Asks key lines disabled) here service
  from_asked here there lines of_lines service asked dropped = (
    asked.action,
    dropped.stood,
    (λ has. dropped.gone ((of_lines (line_text asked.action)).0 has), asked.has, λ has. asked.stays ((of_disabled service).0 has)),
  )

  pub asked_are : (old_lines new_lines none mid set : TextSet) → IsSetOf (HasLine old) old_lines → IsSetOf (HasLine new) new_lines → none.keys ≡ [] → IsGrown (Gives (Asks key new_lines disabled) old) none mid
      → IsGrown (Gives (Asks key old_lines disabled) new) mid set → IsSetOf (IsAskedFor key old new) set
  asked_are old_lines new_lines none mid set of_old of_new e first second service = (
    λ h. elim ((second service).0 h) [
      | inl had ↦ elim ((first service).0 had) [ inl never ↦ absurd (empty_lacks none service e never) | inr g ↦ to_asked old new new_lines of_new (λ a d. inl d) service g ]
      | inr g ↦ to_asked new old old_lines of_old (λ a d. inr d) service g
    ],
    λ w. elim w.changed [
      | inl d ↦ (second service).1 (inl ((first service).1 (inr (from_asked old new new_lines of_new service w d))))
      | inr d ↦ (second service).1 (inr (from_asked new old old_lines of_old service w d))
    ],
  )
