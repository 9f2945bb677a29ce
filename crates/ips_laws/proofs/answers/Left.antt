-- Runs of one command that tell a change as done leave images that are seen the same, where what was seen before was.
use Rattle.std.proofs.Common.{◌≡◌, ℕ, Bool, true, false, cond, ◌&&◌, ◌||◌, IfSome, IsTrue, List, Option, Some, None, is_none, refl, sym, ◌∙◌, ap, subst, arith}
use Rattle.std.proofs.lemmas.Bool.{false_from_ne_true}
use Rattle.std.proofs.lemmas.Option.{cond_some}
use Rattle.ips_text.specs.Ancestry.{covers, same_path}
use Rattle.ips_text.proofs.Ancestry.{covers-self, same_path-true}
use Rattle.ips_outside.specs.Change.{with_entry_at}
use Rattle.ips_outside.specs.Image.{Dir, Entry, Image}
use Rattle.ips_outside.specs.Outside.{Outside}
use Rattle.ips_outside.specs.Running.{Running}
use Rattle.ips_outside.specs.State as folder
use Rattle.ips_steps.specs.Steps.{stage_name}
use Rattle.ips_steps.specs.Private.{gate_name, is_private, journal_name, mark_front, records_name, visible}
use Rattle.ips_steps.proofs.Lists.{clash}
use Rattle.ips_kinds.specs.Tallies.{Carrier}
use Rattle.ips_after.proofs.Naming.{seen_above}
use Rattle.ips_history.specs.Directories.{image_for, var_name, with_dir, with_directories}
use Rattle.ips_history.specs.Transition.{Transition, Asked, Created, CreatedInPart, Kept}
use Rattle.ips_history.specs.declared.effect.Effect.{Effect}
use Rattle.ips_history.specs.declared.effect.Effect.TheVariants as effect
use Rattle.ips_report.specs.declared.outcome.Outcome.{Outcome}
use Rattle.ips_run.specs.declared.operation.Decision.{Decision}
use Rattle.ips_tell.specs.told.Told.{claims_done, manner_of}
use Rattle.ips_words.specs.declared.command.Command.{Command}
use Rattle.ips_operations.specs.changing.Decides as changing
use Rattle.ips_operations.specs.changing.Leads.{Leads, LeadsWhere}
use Rattle.ips_operations.specs.creating.Creations.{Creation, creating_at, makes_image}
use Rattle.ips_operations.specs.creating.Decides as creating
use Rattle.ips_operations.specs.fixing.Fixes.{Repairing, fixing_at, repairs}
use Rattle.ips_operations.specs.fixing.Decides as fixing
use Rattle.ips_trial.specs.Generated.{IsTried, Starved, Summed}
use Rattle.ips_tell.specs.performing.Performed.{At, IsPerformed}
use Rattle.ips_top.specs.Runs.{Does, Answers, Changes, Creates, Fixes, Shows, Tries}
use Rattle.ips_laws.proofs.answers.Answers.{apart, group_of, of_changing, of_creating, of_fixing}
use Rattle.ips_laws.proofs.answers.Mending.{Claims, not_answered}
use Rattle.ips_laws.proofs.answers.Runs.{some_one}

-- ---- the directories of the records are seen

var_seen : is_private var_name ≡ false
unfolding var_name stage_name journal_name gate_name mark_front
var_seen = refl

look_turned : (own same over : Bool) (x e : Option Entry) → (own ≡ true → same ≡ false) → cond own None (cond same e (cond over None x)) ≡ cond same e (cond over None (cond own None x))
look_turned false same over x e apart = refl
look_turned true true over x e apart = let no : true ≡ false = apart refl in cc
look_turned true false true x e apart = refl
look_turned true false false x e apart = refl

none_last : (a b : Bool) → false ≡ (a && (b && false))
none_last true true = refl
none_last true false = refl
none_last false b = refl

same_turned : (own over a b x : Bool) → cond own false (cond over (a && (b && false)) x) ≡ cond over (a && (b && false)) (cond own false x)
same_turned false over a b x = refl
same_turned true true a b x = none_last a b
same_turned true false a b x = refl

-- a directory at a path that isn't private is seen
dir_seen : (p : List ℕ) → is_private p ≡ false → (t : Image) → visible (with_entry_at p (Some (Dir 493 false)) t) ≡ with_entry_at p (Some (Dir 493 false)) (visible t)
dir_seen p s t = λ i. record {
  look = λ q. look_turned (is_private q) (same_path p q) (covers p q) (t.look q) (Some (Dir 493 false)) (apart q) i;
  same = λ a b. same_turned (is_private a || is_private b) (covers p a || covers p b) (same_path p a) (same_path p b) (t.same a b) i;
}
  where
    apart : (q : List ℕ) → is_private q ≡ true → same_path p q ≡ false
    apart q own = false_from_ne_true _ (λ same. clash (is_private q) own (subst (λ (x : List ℕ). is_private x ≡ false) (same_path-true p q same) s))

with_dir_seen : (p : List ℕ) → is_private p ≡ false → (t : Image) → visible (with_dir p t) ≡ with_dir p (visible t)
with_dir_seen p s t =
    either (is_none (t.look p)) (with_entry_at p (Some (Dir 493 false)) t)
    ∙ ap (λ (b : Bool). cond b (visible (with_entry_at p (Some (Dir 493 false)) t)) (visible t)) (ap is_none (sym shown))
    ∙ ap (λ (u : Image). cond (is_none ((visible t).look p)) u (visible t)) (dir_seen p s t)
  where
    shown : (visible t).look p ≡ t.look p
    shown = ap (λ (b : Bool). cond b None (t.look p)) s

    either : (b : Bool) (u : Image) → visible (cond b u t) ≡ cond b (visible u) (visible t)
    either true u = refl
    either false u = refl

directories_seen : (t u : Image) → visible t ≡ visible u → visible (with_directories t) ≡ visible (with_directories u)
directories_seen t u seen = turned t ∙ ap with_directories seen ∙ sym (turned u)
  where
    turned : (x : Image) → visible (with_directories x) ≡ with_directories (visible x)
    turned x = with_dir_seen records_name (seen_above records_name (covers-self records_name)) (with_dir var_name x) ∙ ap (with_dir records_name) (with_dir_seen var_name var_seen x)

-- ---- what is done is meant

module _ {F : Type 0} (o : Outside F) (means : Image → Image → Type 0) where
  meant_at : (b : Image) (a : Option Image) (t : Image) → IfSome a (means b) → a ≡ Some t → means b t
  meant_at b None t so is = cc
  meant_at b (Some a) t so is = let same : a ≡ t = cc in subst (means b) same so

  reached : (e : Effect) (done : Bool) (old new : F) → done ≡ true → Transition o means e done old new → means (visible (image_for e (o.state old).held)) (visible (o.state new).held)
  reached e done old new is (Kept none request still) = clash done is none
  reached e done old new is (Asked at later changes synced same still request) =
      let here = meant_at (visible (o.state at).held) request.after (visible (o.state new).held) request.is_meant (request.done is).seen in
      let since = subst (λ (s : folder.State). means (visible s.held) (visible (o.state new).held)) synced here in
      subst (λ (t : Image). means (visible t) (visible (o.state new).held)) (sym (same is)) since
  reached e done old new is (Created at creates x made request) =
      let here = meant_at (visible (o.state at).held) request.after (visible (o.state new).held) request.is_meant (request.done is).seen in
      let since = subst (λ (s : folder.State). means (visible s.held) (visible (o.state new).held)) made here in
      subst (λ (b : Bool). means (visible (cond b (with_directories (o.state old).held) (o.state old).held)) (visible (o.state new).held)) (sym creates) since
  reached e done old new is (CreatedInPart creates none x) = clash done is none

  -- nothing is done where something is shown
  none_shown : (done : Bool) (old new : F) → done ≡ true → Transition o means effect.Shows done old new → ⊥
  none_shown done old new is (Kept none request still) = clash done is none
  none_shown done old new is (Asked at later changes synced same still request) = cc
  none_shown done old new is (Created at creates x made request) = cc
  none_shown done old new is (CreatedInPart creates none x) = clash done is none

not_tried : (number : ℕ) (before now : List Carrier) (told : Outcome) → Claims told → IsTried number before now told → ⊥
not_tried number before now told claims (Summed finished) = cc
not_tried number before now told claims Starved = cc

-- ---- two runs

-- What is seen behind a command is one.
pub record IsOneImage : Type 0 where
  pub led : (c : Command) (moment : ℕ) (repository before a b : Image) → Leads c moment repository before a → Leads c moment repository before b → a ≡ b
  pub made : (a : Creation) (before u v : Image) → creating.MakesImage a before u → creating.MakesImage a before v → u ≡ v
  pub repaired : (a : Repairing) (repository before u v : Image) → fixing.RepairsImage a repository before u → fixing.RepairsImage a repository before v → u ≡ v

module _ {F S P : Type 0} (o : Outside F) (q : Outside S) (r : Running P) (old new : At F S P) (told : Outcome) (claims : Claims told) (tells : IsTrue (o.tells old.folder)) where
  -- what an operation means that claims to be done
  means_then : (e : Effect) (decides : Bool → Image → Image → Decision Outcome → Type 0) (means : Bool → Image → Image → Image → Type 0) → IsPerformed o q r e decides means old new told
      → means (q.tells old.source) (q.state old.source).held (visible (image_for e (o.state old.folder).held)) (visible (o.state new.folder).held)
  means_then e decides means x = reached o (means (q.tells old.source) (q.state old.source).held) e (claims_done (manner_of told)) old.folder new.folder claims (x.run tells).transition

  not_shown : (X : Type 0) (decides : Bool → Image → Image → Decision Outcome → Type 0) (means : Bool → Image → Image → Image → Type 0) → IsPerformed o q r effect.Shows decides means old new told → X
  not_shown X decides means x = absurd (none_shown o (means (q.tells old.source) (q.state old.source).held) (claims_done (manner_of told)) old.folder new.folder claims (x.run tells).transition)

module _ {F S P : Type 0} (o : Outside F) (q : Outside S) (r : Running P) (c : Command) (moment : ℕ) (old new other next : At F S P) (told said : Outcome)
    (one : IsOneImage) (claims : Claims told) (also : Claims said) (tells : IsTrue (o.tells old.folder)) (tell : IsTrue (o.tells other.folder)) (reads : IsTrue (q.tells old.source)) (read : IsTrue (q.tells other.source))
    (seen : visible (o.state old.folder).held ≡ visible (o.state other.folder).held) (holds : (q.state old.source).held ≡ (q.state other.source).held) where
  -- the two runs leave images that are seen the same
  abbrev SeenTheSame : Type 0
  SeenTheSame = visible (o.state new.folder).held ≡ visible (o.state next.folder).held

  changed_same : (x : IsPerformed o q r effect.Changes (λ tells repository t d. changing.Decides (changing.asked_of c moment tells repository t) d) (LeadsWhere c moment) old new told)
      → (y : IsPerformed o q r effect.Changes (λ tells repository t d. changing.Decides (changing.asked_of c moment tells repository t) d) (LeadsWhere c moment) other next said) → SeenTheSame
  changed_same x y =
      let first : Leads c moment (q.state old.source).held (visible (o.state old.folder).held) (visible (o.state new.folder).held) = means_then o q r old new told claims tells effect.Changes _ (LeadsWhere c moment) x reads in
      let second : Leads c moment (q.state other.source).held (visible (o.state other.folder).held) (visible (o.state next.folder).held) = means_then o q r other next said also tell effect.Changes _ (LeadsWhere c moment) y read in
      one.led c moment (q.state other.source).held (visible (o.state other.folder).held) (visible (o.state new.folder).held) (visible (o.state next.folder).held)
      (subst (λ (t : Image). Leads c moment (q.state other.source).held t (visible (o.state new.folder).held)) seen (subst (λ (s : Image). Leads c moment s (visible (o.state old.folder).held) (visible (o.state new.folder).held)) holds first)) second

  made_same : (a : Creation) (x : IsPerformed o q r effect.Creates (λ tells repository t d. creating.Decides a t d) (creating.makes_of a) old new told)
      → (y : IsPerformed o q r effect.Creates (λ tells repository t d. creating.Decides a t d) (creating.makes_of a) other next said) → SeenTheSame
  made_same a x y =
      let first : creating.MakesImage a (visible (with_directories (o.state old.folder).held)) (visible (o.state new.folder).held) = means_then o q r old new told claims tells effect.Creates _ (creating.makes_of a) x reads in
      let second : creating.MakesImage a (visible (with_directories (o.state other.folder).held)) (visible (o.state next.folder).held) = means_then o q r other next said also tell effect.Creates _ (creating.makes_of a) y read in
      one.made a (visible (with_directories (o.state other.folder).held)) (visible (o.state new.folder).held) (visible (o.state next.folder).held)
      (subst (λ (t : Image). creating.MakesImage a t (visible (o.state new.folder).held)) (directories_seen (o.state old.folder).held (o.state other.folder).held seen) first) second

  repaired_same : (a : Repairing) (x : IsPerformed o q r effect.Fixes (λ tells repository t d. fixing.Decides a t d) (fixing.repairs_of a) old new told)
      → (y : IsPerformed o q r effect.Fixes (λ tells repository t d. fixing.Decides a t d) (fixing.repairs_of a) other next said) → SeenTheSame
  repaired_same a x y =
      let first : fixing.RepairsImage a (q.state old.source).held (visible (o.state old.folder).held) (visible (o.state new.folder).held) = means_then o q r old new told claims tells effect.Fixes _ (fixing.repairs_of a) x reads in
      let second : fixing.RepairsImage a (q.state other.source).held (visible (o.state other.folder).held) (visible (o.state next.folder).held) = means_then o q r other next said also tell effect.Fixes _ (fixing.repairs_of a) y read in
      one.repaired a (q.state other.source).held (visible (o.state other.folder).held) (visible (o.state new.folder).held) (visible (o.state next.folder).held)
      (subst (λ (t : Image). fixing.RepairsImage a (q.state other.source).held t (visible (o.state new.folder).held)) seen (subst (λ (s : Image). fixing.RepairsImage a s (visible (o.state old.folder).held) (visible (o.state new.folder).held)) holds first)) second

  made : (a : Creation) → creating_at c moment ≡ Some a → group_of c.what ≡ 2
  made a is = of_creating c.what (cond_some (makes_image c.what) _ a is).0

  mended : (a : Repairing) → fixing_at c moment ≡ Some a → group_of c.what ≡ 3
  mended a is = of_fixing c.what (cond_some (repairs c.what) _ a is).0

  pub left_same : Does o q r c moment old new told → Does o q r c moment other next said → SeenTheSame
  left_same (Shows a is x) y = not_shown o q r old new told claims tells SeenTheSame _ _ x
  left_same (Tries number is x left) y = absurd (not_tried number old.counted new.counted told claims x)
  left_same (Answers x left) y = absurd (not_answered c.what told claims x)
  left_same (Changes is x) (Shows b was y) = not_shown o q r other next said also tell SeenTheSame _ _ y
  left_same (Changes is x) (Tries number was y left) = absurd (not_tried number other.counted next.counted said also y)
  left_same (Changes is x) (Answers y left) = absurd (not_answered c.what said also y)
  left_same (Changes is x) (Changes was y) = changed_same x y
  left_same (Changes is x) (Creates b was y) = apart SeenTheSame c.what 1 2 (λ e. omega (arith, e)) (of_changing c.what is) (made b was)
  left_same (Changes is x) (Fixes b was y) = apart SeenTheSame c.what 1 3 (λ e. omega (arith, e)) (of_changing c.what is) (mended b was)
  left_same (Creates a is x) (Shows b was y) = not_shown o q r other next said also tell SeenTheSame _ _ y
  left_same (Creates a is x) (Tries number was y left) = absurd (not_tried number other.counted next.counted said also y)
  left_same (Creates a is x) (Answers y left) = absurd (not_answered c.what said also y)
  left_same (Creates a is x) (Changes was y) = apart SeenTheSame c.what 2 1 (λ e. omega (arith, e)) (made a is) (of_changing c.what was)
  left_same (Creates a is x) (Creates b was y) = made_same b
      (subst (λ (z : Creation). IsPerformed o q r effect.Creates (λ tells repository t d. creating.Decides z t d) (creating.makes_of z) old new told) (some_one (creating_at c moment) a b is was) x) y
  left_same (Creates a is x) (Fixes b was y) = apart SeenTheSame c.what 2 3 (λ e. omega (arith, e)) (made a is) (mended b was)
  left_same (Fixes a is x) (Shows b was y) = not_shown o q r other next said also tell SeenTheSame _ _ y
  left_same (Fixes a is x) (Tries number was y left) = absurd (not_tried number other.counted next.counted said also y)
  left_same (Fixes a is x) (Answers y left) = absurd (not_answered c.what said also y)
  left_same (Fixes a is x) (Changes was y) = apart SeenTheSame c.what 3 1 (λ e. omega (arith, e)) (mended a is) (of_changing c.what was)
  left_same (Fixes a is x) (Creates b was y) = apart SeenTheSame c.what 3 2 (λ e. omega (arith, e)) (mended a is) (made b was)
  left_same (Fixes a is x) (Fixes b was y) = repaired_same b
      (subst (λ (z : Repairing). IsPerformed o q r effect.Fixes (λ tells repository t d. fixing.Decides z t d) (fixing.repairs_of z) old new told) (some_one (fixing_at c moment) a b is was) x) y
