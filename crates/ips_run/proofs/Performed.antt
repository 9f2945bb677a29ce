-- A run, by what comes behind the look at the gate.
use Rattle.std.proofs.Common.{◌≡◌, Bool, true, false, List, refl, sym, ◌∙◌, ap, subst}
use Rattle.ips_outside.specs.Image.{Image}
use Rattle.ips_outside.specs.Running.{Run, Running}
use Rattle.ips_steps.specs.Private.{gate_name}
use Rattle.ips_kinds.specs.Tallies.{Carrier}
use Rattle.ips_commit.specs.Pending.{IsPending}
use Rattle.ips_commit.specs.declared.found.Pending.{Pending}
use Rattle.ips_history.specs.Directories.{creates, with_directories, image_for}
use Rattle.ips_history.specs.declared.effect.Effect.{Effect}
use Rattle.ips_run.specs.declared.operation.Decision.{Decision}
use Rattle.ips_run.specs.declared.ending.Ending.{Ending}
use Rattle.ips_run.specs.declared.ending.Ending.TheVariants as ending
use Rattle.ips_run.specs.declared.next.Next.{Next}
use Rattle.ips_run.specs.declared.next.Next.TheVariants as next
use Rattle.ips_run.specs.Ending.{is_left, is_folder_fault, IsEarly}
use Rattle.ips_run.specs.Comes.{HasRun, IsStopped, IsToDecide, IsUnopened, IsUnready, IsBackTo, Leaves, Comes, Unopened, Unfinished, Back, Unready}
use Rattle.ips_run.specs.Phases.{next_of}
use Rattle.ips_run.proofs.Told.{none_run}
use Rattle.ips_run.proofs.Nexts.{refused_of, stopped_of, shown_of, changed_of, show_is, change_is, create_is}

-- ---- endings before the gate was looked at, and of a refusal there

pub early_fault : {T : Type 0} → IsEarly {T = T} (ending.FolderFault false)
early_fault = record { refused = refl; undone = refl; unrecovered = refl; finished = refl; readable = refl; unspawned = refl; payload = tt }

pub early_out_of_memory : {T : Type 0} → IsEarly {T = T} ending.OutOfMemory
early_out_of_memory = record { refused = refl; undone = refl; unrecovered = refl; finished = refl; readable = refl; unspawned = refl; payload = tt }

pub early_unfinished : {T : Type 0} → IsEarly {T = T} ending.Unfinished
early_unfinished = record { refused = refl; undone = refl; unrecovered = refl; finished = refl; readable = refl; unspawned = refl; payload = tt }

-- these endings, of what an operation decides
abbrev pub fault_of : {T : Type 0} → (Image → Decision T → Type 0) → Ending T
fault_of decides = ending.FolderFault false

abbrev pub out_of_memory_of : {T : Type 0} → (Image → Decision T → Type 0) → Ending T
out_of_memory_of decides = ending.OutOfMemory

abbrev pub unfinished_of : {T : Type 0} → (Image → Decision T → Type 0) → Ending T
unfinished_of decides = ending.Unfinished

-- what is left is told as the folder's fault
pub left_fault : {T : Type 0} (x : Ending T) → is_left x ≡ true → is_folder_fault x ≡ true
left_fault (ending.FolderFault unfinished) left = refl
left_fault (ending.Done told) left = cc
left_fault (ending.Shown told) left = cc
left_fault (ending.Refused told) left = cc
left_fault ending.NothingToDo left = cc
left_fault ending.Unfinished left = cc
left_fault (ending.BadJournal line) left = cc
left_fault (ending.Recovered forward) left = cc
left_fault (ending.BadPayload name fault) left = cc
left_fault (ending.NotDirectory path) left = cc
left_fault (ending.ActuatorFailed after words status) left = cc
left_fault (ending.SpawnFault after) left = cc
left_fault ending.SourceFault left = cc
left_fault ending.OutOfMemory left = cc

-- ---- causes

-- a command that makes no image goes by what is held
pub image_same : (n : Effect) (t : Image) → creates n ≡ false → image_for n t ≡ t
image_same n t is = rw is refl

pub image_with : (n : Effect) (t : Image) → creates n ≡ true → image_for n t ≡ with_directories t
image_with n t is = rw is refl

module _ {T P : Type 0} (r : Running P) (p : P) (n : Effect) (D : Image → Decision T → Type 0) (tells : Bool) (repository held : Image) (old : List Carrier) where
  abbrev ComesHere : Image → List Carrier → (List Run → Type 0) → Ending T → Type 0
  ComesHere left now Ran x = Comes n (D (image_for n held)) tells repository held left old now Ran x

  pub comes_unopened : (left : Image) (x : Ending T) → IsUnopened x → Leaves n held left x → ComesHere left old (HasRun r p p) x
  comes_unopened left x is leaves = Unopened is leaves refl (none_run r p)

  module _ (t left : Image) (same : t ≡ held) (found : Pending) (pending : IsPending t found) where
    pub comes_refused : next_of n found ≡ next.Refuse → left ≡ held → ComesHere left old (HasRun r p p) ending.Unfinished
    comes_refused is kept =
        let (unfixed, there) = refused_of t n found pending is in
        Unfinished unfixed (λ none. there (ap (λ (u : Image). u.look gate_name) same ∙ none)) kept refl (none_run r p)

    pub comes_back : (now : List Carrier) (x : Ending T) → next_of n found ≡ next.Recover → IsBackTo t left old now x → ComesHere left now (HasRun r p p) x
    comes_back now x is back =
        let (fixing, stopped) = stopped_of t n found pending is in
        Back fixing (subst IsStopped same stopped) (subst (λ (u : Image). IsBackTo u left old now x) same back) (none_run r p)

    -- for a command that makes no image
    as_held : creates n ≡ false → (now : List Carrier) (Ran : List Run → Type 0) (x : Ending T) → Comes n (D t) tells repository t left old now Ran x → ComesHere left now Ran x
    as_held other now Ran x comes =
        let here : Comes n (D held) tells repository held left old now Ran x = subst (λ (u : Image). Comes n (D u) tells repository u left old now Ran x) same comes in
        subst (λ (u : Image). Comes n (D u) tells repository held left old now Ran x) (sym (image_same n held other)) here

    pub comes_shown : (x : Ending T) → next_of n found ≡ next.Show → IsUnready n (D t) tells repository x → Leaves n t left x → ComesHere left old (HasRun r p p) x
    comes_shown x is unready leaves = as_held (show_is n found is).1 old (HasRun r p p) x (Unready (shown_of t n found pending is) unready leaves refl (none_run r p))

    pub comes_asked : (now : List Carrier) (Ran : List Run → Type 0) (x : Ending T) → next_of n found ≡ next.Change → (IsToDecide n t → Comes n (D t) tells repository t left old now Ran x)
        → ComesHere left now Ran x
    comes_asked now Ran x is comes = as_held (change_is n found is).1 now Ran x (comes (changed_of t n found pending is))

    pub comes_created : (now : List Carrier) (Ran : List Run → Type 0) (x : Ending T) → next_of n found ≡ next.Create → Comes n (D (with_directories t)) tells repository t left old now Ran x
        → ComesHere left now Ran x
    comes_created now Ran x is comes =
        let here : Comes n (D (with_directories held)) tells repository held left old now Ran x = subst (λ (u : Image). Comes n (D (with_directories u)) tells repository u left old now Ran x) same comes in
        subst (λ (u : Image). Comes n (D u) tells repository held left old now Ran x) (sym (image_with n held (create_is n found is).0)) here

-- the same of what was looked up
pub next_as : (n m : Effect) (found : Pending) (x y : Next) → m ≡ n → y ≡ next_of m found → y ≡ x → next_of n found ≡ x
next_as n m found x y same is at = ap (λ (k : Effect). next_of k found) (sym same) ∙ sym is ∙ at
