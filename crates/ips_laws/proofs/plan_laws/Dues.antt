-- What a request makes due is one, and so is what is said of an image by it.
use Rattle.std.proofs.Common.{◌≡◌, ℕ, Bool, true, not, List, Option, is_some, sym, ap, subst, ◌∙◌, inl, inr}
use Rattle.std.proofs.lemmas.Bool.{and_from, cases_Bool, not_from_false}
use Rattle.ips_text.specs.Ancestry.{covers, same_path}
use Rattle.ips_text.proofs.Ancestry.{same_path-true}
use Rattle.ips_outside.specs.Image.{Entry, Image}
use Rattle.ips_books.specs.Accounts.{Accounts}
use Rattle.ips_state.specs.declared.state.State.{State}
use Rattle.ips_state.specs.State.{Recorded, recorded}
use Rattle.ips_after.specs.Lists.{listed}
use Rattle.ips_after.specs.Request.{Over}
use Rattle.ips_due.specs.Delivered.{Delivered, request_due}
use Rattle.ips_due.specs.Due.{Due, DueFile, IsOverOf, MeansSame}
use Rattle.ips_due.proofs.Same.{over_same}
use Rattle.ips_due.proofs.outstanding.Answered.{one_order}
use Rattle.ips_request_due.specs.RequestDue.{IsRequestDue}
use Rattle.ips_laws.proofs.plan_laws.Deliveries.{deliveries_one, names_one}

-- what means the same as one thing means the same
pub means_both : (a b c : Due) → MeansSame a c → MeansSame b c → MeansSame a b
means_both a b c h k = record {
  accounts = λ q. h.accounts q ∙ sym (k.accounts q);
  records = λ q. h.records q ∙ sym (k.records q);
  renewed = λ q. h.renewed q ∙ sym (k.renewed q);
  folders = λ q. h.folders q ∙ sym (k.folders q);
  gone = λ q. h.gone q ∙ sym (k.gone q);
}

-- of what the old packages deliver just licenses and legacy packages matter
pub names_matter : (files : List DueFile) (old new : Recorded) (was other is : Delivered) → was.licenses ≡ other.licenses → was.legacy ≡ other.legacy → request_due files old new was is ≡ request_due files old new other is
names_matter files old new was other is licenses legacy = λ i. request_due files old new (record { owners = was.owners; drivers = was.drivers; licenses = licenses i; legacy = legacy i }) is

module _ (old other new next : State) (was_same : recorded old ≡ recorded other) (is_same : recorded new ≡ recorded next) where
  -- the same is due between states with the same records, with the same account files and accounts
  pub due_one : (files : List DueFile) (books : Accounts) (a b : Due) → IsRequestDue files books old new a → IsRequestDue files books other next b → MeansSame a b
  due_one files books a b h k =
      let names = names_one old other h.was k.was was_same h.was_delivered k.was_delivered in
      let is : h.is ≡ k.is = deliveries_one books new next h.is k.is is_same h.is_delivered k.is_delivered in
      let one : request_due files (recorded old) (recorded new) h.was h.is ≡ request_due files (recorded other) (recorded next) k.was k.is =
      (λ i. request_due files (was_same i) (is_same i) h.was (is i)) ∙ names_matter files (recorded other) (recorded next) h.was k.was k.is names.0 names.1 in
      means_both a b (request_due files (recorded other) (recorded next) k.was k.is) (subst (MeansSame a) one h.means) k.means

-- ---- what is said

module _ (bytes : List ℕ → List ℕ) (holds : List ℕ → List ℕ → Bool) (due : Due) (t : Image) where
  keys_in : (x y : Over) → IsOverOf bytes holds due t x → IsOverOf bytes holds due t y → (q : List ℕ) → listed x.keys q ≡ true → listed y.keys q ≡ true
  keys_in x y h k q there =
      let w = h.only q there in
      let key : listed y.keys w.0 ≡ true = k.keyed w.0 (ap (λ (s : Option (Option Entry)). is_some s) (k.at w.0 ∙ sym (h.at w.0)) ∙ w.2) in
      elim (cases_Bool (same_path q w.0)) [
        | inl same ↦ ap (listed y.keys) (same_path-true q w.0 same) ∙ key
        | inr apart ↦ k.closed q w.0 (and_from (covers q w.0) (not (same_path q w.0)) w.1 (not_from_false (same_path q w.0) apart)) key
      ]

  pub over_alike : (x y : Over) → IsOverOf bytes holds due t x → IsOverOf bytes holds due t y → x ≡ y
  over_alike x y h k =
      let keys = one_order x.keys y.keys h.by_bytes k.by_bytes (keys_in x y h k) (keys_in y x k h) in
      λ i. record { at = λ q. (h.at q ∙ sym (k.at q)) i; is_account = λ q. (h.accounts q ∙ sym (k.accounts q)) i; keys = keys i }

-- the same is said of an image where what is due means the same
pub over_one : (bytes : List ℕ → List ℕ) (holds : List ℕ → List ℕ → Bool) (a b : Due) (t : Image) (x y : Over) → MeansSame a b → IsOverOf bytes holds a t x → IsOverOf bytes holds b t y → x ≡ y
over_one bytes holds a b t x y same h k = over_alike bytes holds b t x y (over_same a b same bytes holds t x h) k
