-- What is said by what is due is the same of the whole image and of the visible one.
use Rattle.std.proofs.Common.{◌≡◌, inl, inr, ℕ, Bool, true, false, cond, List, Option, Some, None, is_some, refl, sym, ap}
use Rattle.std.specs.Prelude.{codes}
use Rattle.std.proofs.lemmas.Bool.{false_from_ne_true, or_cases, or_parts}
use Rattle.ips_text.specs.Ancestry.{same_path}
use Rattle.ips_text.proofs.Ancestry.{same_path-true}
use Rattle.ips_outside.specs.Image.{Entry, Image}
use Rattle.ips_steps.specs.Steps.{stage_name}
use Rattle.ips_steps.specs.Private.{gate_name, is_private, journal_name, mark_front, visible}
use Rattle.ips_steps.proofs.Lists.{clash}
use Rattle.ips_after.specs.Findings.{is_account_path}
use Rattle.ips_after.specs.Lists.{listed}
use Rattle.ips_due.specs.Due.{Content, Due, IsDue, account_at, goes_with, record_at, said, said_by, said_rest}

-- no account file is private
account_seen : (q : List ℕ) → is_account_path q ≡ true → is_private q ≡ false
unfolding stage_name journal_name gate_name mark_front
account_seen q h = elim (or_cases (same_path (codes "etc/passwd") q) _ h) [
  | inl one ↦ ap is_private (sym (same_path-true (codes "etc/passwd") q one))
  | inr more ↦ elim (or_cases (same_path (codes "etc/shadow") q) _ more) [
    | inl two ↦ ap is_private (sym (same_path-true (codes "etc/shadow") q two))
    | inr three ↦ ap is_private (sym (same_path-true (codes "etc/group") q three))
  ]
]

module _ (bytes : List ℕ → List ℕ) (holds : List ℕ → List ℕ → Bool) (due : Due) (t : Image) (is : IsDue due) (q : List ℕ) where
  -- where nothing is due it doesn't count what stands
  quiet : (a : Option Entry) (r : Option Content) (n f g goes : Bool) (e other : Option Entry) → is_some a ≡ false → is_some r ≡ false → n ≡ false → f ≡ false → g ≡ false
      → said_by bytes holds a r goes (said_rest n f g e) e ≡ said_by bytes holds a r goes (said_rest n f g other) other
  quiet None None false false false goes e other a r n f g = refl
  quiet (Some x) c n f g goes e other a r nn ff gg = cc
  quiet None (Some c) n f g goes e other a r nn ff gg = cc
  quiet None None true f g goes e other a r nn ff gg = cc
  quiet None None false true g goes e other a r nn ff gg = cc
  quiet None None false false true goes e other a r nn ff gg = cc

  turn : (b : Bool) → is_private q ≡ b → said bytes holds due (visible t) q ≡ said bytes holds due t q
  turn false off =
      ap (λ (e : Option Entry). said_by bytes holds (account_at due.accounts q) (record_at due.records q) (goes_with due q) (said_rest (listed due.renewed q) (listed due.folders q) (listed due.gone q) e) e) (ap (λ (b : Bool). cond b None (t.look q)) off)
  turn true on =
      let account = false_from_ne_true (is_some (account_at due.accounts q)) (λ h. clash (is_private q) on (account_seen q (is.accounts q h))) in
      let rest = or_parts (is_some (record_at due.records q)) _ (false_from_ne_true _ (λ h. clash (is_private q) on (is.own q h).1)) in
      let more = or_parts (listed due.renewed q) _ rest.1 in
      let last = or_parts (listed due.folders q) _ more.1 in
      quiet (account_at due.accounts q) (record_at due.records q) (listed due.renewed q) (listed due.folders q) (listed due.gone q) (goes_with due q) _ (t.look q) account rest.0 more.0 last.0 last.1

  pub said_seen : said bytes holds due (visible t) q ≡ said bytes holds due t q
  said_seen = turn (is_private q) refl
