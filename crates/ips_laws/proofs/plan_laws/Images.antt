-- The image after a request is one.
use Rattle.std.proofs.Common.{◌≡◌, ℕ, true, List, None, Ok, refl, sym, ap, subst, ◌∙◌, is_some}
use Rattle.ips_text.specs.Ancestry.{is_below}
use Rattle.ips_outside.specs.Image.{Image}
use Rattle.ips_steps.specs.Private.{records_name, visible}
use Rattle.ips_state.specs.declared.state.State.{State}
use Rattle.ips_state.specs.State.{recorded}
use Rattle.ips_after.specs.After.{ranks}
use Rattle.ips_after.specs.Change.{Changes, changed}
use Rattle.ips_after.specs.Lists.{listed}
use Rattle.ips_after.specs.Request.{Request}
use Rattle.ips_after.specs.Salvage.{IsImageAfter}
use Rattle.ips_after.proofs.Names.{root_one, root_under}
use Rattle.ips_change.specs.wanted.Named.{is_payload_of}
use Rattle.ips_change.specs.wanted.Wanted.{want_of}
use Rattle.ips_due.specs.Asked.{request_between}
use Rattle.ips_due.specs.Due.{IsOverOf}
use Rattle.ips_image_steps.specs.staged_plans.Payloads.{payload_bytes}
use Rattle.ips_account_files.specs.Behind.{Files}
use Rattle.ips_plan.specs.image_plan.Accounts.{Given, IsLedger}
use Rattle.ips_request_due.specs.RequestDue.{IsRequestDue}
use Rattle.ips_plan.specs.requested.Meant.{IsMeant, accounts_in, given_telling}
use Rattle.ips_laws.proofs.plan_laws.Dues.{due_one, over_one}
use Rattle.ips_laws.proofs.plan_laws.Ledgers.{AnswersAreOne, files_one}
use Rattle.ips_next.proofs.OneNext.{moment_one}
use Rattle.ips_laws.proofs.plan_laws.Searches.{changes_same}
use Rattle.ips_laws.proofs.plan_laws.States.{meaning_same, publisher_same}
use Rattle.ips_laws.proofs.plan_laws.Wants.{want_bare, want_keyed, want_like}

-- there is one image after a request whose wanted paths are listed, and that wants nothing below the folder of the records
pub image_one : (moment : List ℕ) (r : Request) (t u v : Image) → ((q : List ℕ) → is_some (r.new.at q) ≡ listed r.new.keys q) → ((q : List ℕ) → is_below records_name q ≡ true → r.new.at q ≡ None) → IsImageAfter moment r t u → IsImageAfter moment r t v → u ≡ v
image_one moment r t u v keyed bare h k =
    let under = ap (is_below records_name) h.is_root.name ∙ root_under moment h.is_root.times in
    let root = root_one t moment k.aside.root h.aside.root k.is_root h.is_root in
    h.means ∙ ap (λ (c : Changes). changed c (ranks r) t) (changes_same r t h.aside k.aside keyed bare under root h.is_aside k.is_aside) ∙ sym k.means

-- the given repository of another publisher
abbrev given_by : List ℕ → Image → Image → Given
given_by publisher repository t = record { told = true; image = t; tells = true; publisher = publisher; repository = repository }

module _ (one : AnswersAreOne) (moment : ℕ) (old other new next : State) (repository t a b : Image) (was_same : recorded old ≡ recorded other) (is_same : recorded new ≡ recorded next)
    (x : IsMeant moment old new repository t a) (y : IsMeant moment other next repository t b) where
  abbrev bytes : List ℕ → List ℕ
  bytes = payload_bytes new.publisher repository

  publishers : next.publisher ≡ new.publisher
  publishers = sym (publisher_same new next is_same)

  was : want_of x.was ≡ want_of y.was
  was = want_like x.was y.was (meaning_same old other was_same x.was y.was x.old_means y.old_means)

  is : want_of x.is ≡ want_of y.is
  is = want_like x.is y.is (meaning_same new next is_same x.is y.is x.new_means y.new_means)

  their_files : IsLedger (given_telling new repository t) other next y.was y.is bytes (Ok y.files)
  their_files = subst (λ (p : List ℕ). IsLedger (given_by p repository t) other next y.was y.is (payload_bytes p repository) (Ok y.files)) publishers y.are_files

  files : x.files ≡ y.files
  files = files_one one (given_telling new repository t) refl refl old other new next was_same is_same x.was x.is y.was y.is bytes was is x.files y.files x.are_files their_files

  their_over : IsOverOf bytes is_payload_of y.due t y.over
  their_over = subst (λ (p : List ℕ). IsOverOf (payload_bytes p repository) is_payload_of y.due t y.over) publishers y.is_over

  our_due : IsRequestDue y.files.due (accounts_in y.files.books) old new x.due
  our_due = subst (λ (f : Files). IsRequestDue f.due (accounts_in f.books) old new x.due) files x.is_due

  over : x.over ≡ y.over
  over = over_one bytes is_payload_of x.due y.due t x.over y.over (due_one old other new next was_same is_same y.files.due (accounts_in y.files.books) x.due y.due our_due y.is_due) x.is_over their_over

  request : request_between y.was y.is (payload_bytes next.publisher repository) is_payload_of y.over ≡ request_between x.was x.is bytes is_payload_of x.over
  request = λ i. record { old = sym was i; new = sym is i; bytes = payload_bytes (publishers i) repository; holds = is_payload_of; over = sym over i }

  their_image : IsImageAfter x.text (request_between x.was x.is bytes is_payload_of x.over) (visible t) b
  their_image =
      subst (λ (text : List ℕ). IsImageAfter text (request_between x.was x.is bytes is_payload_of x.over) (visible t) b) (moment_one moment y.text x.text y.is_text x.is_text)
      (subst (λ (r : Request). IsImageAfter y.text r (visible t) b) request y.image)

  pub meant_one : a ≡ b
  meant_one = image_one x.text (request_between x.was x.is bytes is_payload_of x.over) (visible t) a b (want_keyed x.is) (want_bare new x.is x.new_means) x.image their_image
