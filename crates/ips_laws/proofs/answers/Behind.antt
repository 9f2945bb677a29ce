-- What is seen behind a command is one, by what was seen before it.
use Rattle.std.proofs.Common.{◌≡◌, ℕ, Bool, true, false, cond, ◌||◌, List, map, Option, None, refl, sym, ◌∙◌, ap, subst}
use Rattle.ips_text.specs.Ancestry.{covers, same_path}
use Rattle.ips_text.proofs.Ancestry.{same_path-true}
use Rattle.ips_outside.specs.Image.{Entry, Image}
use Rattle.ips_steps.specs.Private.{is_private, records_name, visible}
use Rattle.ips_meaning.specs.declared.entry.Entry as meaning
use Rattle.ips_state.specs.State.{Recorded, recorded}
use Rattle.ips_state.specs.declared.state.State.{State}
use Rattle.ips_after.specs.Request.{is_dir_wanted}
use Rattle.ips_after.specs.Salvage.{IsImageAfter}
use Rattle.ips_after.proofs.Fits.{below_of, dir_of_wanted}
use Rattle.ips_after.proofs.Sorted.{sorted_once}
use Rattle.ips_change.specs.wanted.Named.{is_payload_of}
use Rattle.ips_change.specs.wanted.Wanted.{want_of}
use Rattle.ips_change.proofs.wanted.Apart.{own_wanted}
use Rattle.ips_change.proofs.wanted.Found.{is_want, led_to_file}
use Rattle.ips_due.specs.Asked.{request_between}
use Rattle.ips_image_steps.specs.staged_plans.Payloads.{payload_bytes}
use Rattle.ips_plan.specs.image_plan.Meaning.{StateMeans}
use Rattle.ips_plan.specs.requested.Meant.{IsMeant}
use Rattle.ips_repair.specs.Meant.{IsRepairedImage}
use Rattle.ips_words.specs.declared.command.Command.{Command}
use Rattle.ips_next.specs.Next.{IsNext, given}
use Rattle.ips_next.proofs.OneNext.{next_one}
use Rattle.ips_operations.specs.changing.Leads.{Leads}
use Rattle.ips_operations.specs.creating.Creations.{Creation}
use Rattle.ips_operations.specs.creating.Decides as creating
use Rattle.ips_plan.specs.created.Made.{image_made}
use Rattle.ips_operations.specs.fixing.Fixes.{Repairing}
use Rattle.ips_operations.specs.fixing.Decides.{RepairsImage}
use Rattle.ips_laws.proofs.plan_laws.Wants.{want_bare}
use Rattle.ips_laws.proofs.answers.Creating.{begun_one}
use Rattle.ips_laws.proofs.answers.Ledger.{FilesAreAccounts, ledger_accounts, ledger_seen, over_seen}
use Rattle.ips_laws.proofs.answers.Quiet.{IsBetween}
use Rattle.ips_laws.proofs.answers.Visible.{noted_once, same_records}

-- ---- what packages meant and mean

module _ (old new : State) (was is : List (List ℕ × meaning.Entry)) (old_means : StateMeans old was) (new_means : StateMeans new is) where
  -- the folder of the records is wanted, and so is what is above it
  wanted_above : (z : List ℕ) → covers z records_name ≡ true → is_dir_wanted ((want_of is).at z) ≡ true
  wanted_above z over = go (same_path z records_name) refl
    where
      folder : is_dir_wanted ((want_of is).at records_name) ≡ true
      folder = own_wanted new.settings new.mediators.items new.installed.items is new_means.mean

      go : (b : Bool) → same_path z records_name ≡ b → is_dir_wanted ((want_of is).at z) ≡ true
      go true same = ap (λ (x : List ℕ). is_dir_wanted ((want_of is).at x)) (same_path-true z records_name same) ∙ folder
      go false apart = (is_want is new_means.mean.want.in_order new_means.together).dirs z records_name (below_of z records_name over apart) (dir_of_wanted ((want_of is).at records_name) folder)

  between : IsBetween (want_of was) (want_of is)
  between = record {
    none_old = want_bare old was old_means;
    none_new = want_bare new is new_means;
    hards = λ x to at. led_to_file is x to (sorted_once (map (λ (e : List ℕ × meaning.Entry). e.0) is) new_means.mean.want.in_order) new_means.together at;
    above = wanted_above;
  }

-- ---- the visible image is its own

nothing_twice : (b : Bool) (e : Option Entry) → cond b None (cond b None e) ≡ cond b None e
nothing_twice true e = refl
nothing_twice false e = refl

apart_twice : (b same : Bool) → cond b false (cond b false same) ≡ cond b false same
apart_twice true same = refl
apart_twice false same = refl

visible_again : (t : Image) → visible (visible t) ≡ visible t
visible_again t = λ i. record {
  look = λ q. nothing_twice (is_private q) (t.look q) i;
  same = λ a b. apart_twice (is_private a || is_private b) (t.same a b) i;
}

-- ---- requests

-- There is one image after a request.
abbrev pub ImageAfterIsOne : Type 0
ImageAfterIsOne = (moment : ℕ) (old other new next : State) (repository t a b : Image) → recorded old ≡ recorded other → recorded new ≡ recorded next
    → IsMeant moment old new repository t a → IsMeant moment other next repository t b → a ≡ b

-- what a request means over the whole image it means over the visible one
meant_seen : FilesAreAccounts → (moment : ℕ) (old new : State) (repository t after : Image) → IsMeant moment old new repository t after → IsMeant moment old new repository (visible t) after
meant_seen accounts moment old new repository t after x =
    let bytes = payload_bytes new.publisher repository in
    let files = ledger_accounts accounts _ old new x.was x.is bytes x.files x.are_files in
    record {
      text = x.text;
      is_text = x.is_text;
      was = x.was;
      old_means = x.old_means;
      is = x.is;
      new_means = x.new_means;
      files = x.files;
      are_files = ledger_seen x.was x.is bytes (between old new x.was x.is x.old_means x.new_means) t true new.publisher repository old new x.files x.are_files;
      due = x.due;
      is_due = x.is_due;
      over = x.over;
      is_over = over_seen x.files.due (recorded old) (recorded new) x.is_due.was x.is_due.is files bytes is_payload_of t x.due x.over x.is_due.means x.is_over;
      image = subst (λ (u : Image). IsImageAfter x.text (request_between x.was x.is bytes is_payload_of x.over) u after) (sym (visible_again t)) x.image;
    }

pub led_once : ImageAfterIsOne → FilesAreAccounts → (c : Command) (moment : ℕ) (repository before a b : Image) → Leads c moment repository before a → Leads c moment repository before b → a ≡ b
led_once one accounts c moment repository before a b x y =
    let seen : visible x.whole ≡ visible y.whole = sym x.seen ∙ y.seen in
    let olds : recorded x.old ≡ recorded y.old = same_records x.whole y.whole (recorded x.old) (recorded y.old) seen x.holds y.holds in
    let news : recorded x.new ≡ recorded y.new =
    next_one (given (recorded y.old) c moment repository) (recorded x.new) (recorded y.new) (subst (λ (r : Recorded). IsNext (given r c moment repository) (recorded x.new)) olds x.next) y.next in
    let first = subst (λ (t : Image). IsMeant moment x.old x.new repository t a) seen (meant_seen accounts moment x.old x.new repository x.whole a x.meant) in
    one moment x.old y.old x.new y.new repository (visible y.whole) a b olds news first (meant_seen accounts moment y.old y.new repository y.whole b y.meant)

-- ---- repairs

-- There is one repaired image.
abbrev pub RepairedImageIsOne : Type 0
RepairedImageIsOne = (moment : ℕ) (new next : State) (repository t a b : Image) → recorded new ≡ recorded next → IsRepairedImage moment new repository t a → IsRepairedImage moment next repository t b → a ≡ b

pub repaired_once : RepairedImageIsOne → (a : Repairing) (repository before x y : Image) → RepairsImage a repository before x → RepairsImage a repository before y → x ≡ y
repaired_once one a repository before x y p q =
    one a.moment p.new q.new repository before x y (noted_once a p.whole q.whole p.new q.new (sym p.seen ∙ q.seen) p.is_new q.is_new) p.is q.is

-- ---- new images

pub made_once : (a : Creation) (before x y : Image) → creating.MakesImage a before x → creating.MakesImage a before y → x ≡ y
made_once a before x y p q = p.is ∙ ap (λ (r : Recorded). image_made r before) (begun_one a p.state q.state p.begun q.begun) ∙ sym q.is
