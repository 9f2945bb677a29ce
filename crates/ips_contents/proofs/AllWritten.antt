-- Contents written one by one into the stage.
use Rattle.std.proofs.Common.{◌≡◌, ◌⊎◌, inl, inr, ⊎_elim, ℕ, ◌+◌, ◌<◌, ◌≤◌, ◌^◌, Bool, true, false, List, length, get_or, slice_get, Option, Some, None, is_none, is_some, Err, refl, sym, ◌∙◌, ap, subst, arith}
use Rattle.std.proofs.lemmas.Bool.{or_parts, or_cases, false_from_ne_true, cases_lt}
use Rattle.std.proofs.lemmas.Option.{slice_get_read, slice_get_cases}
use Rattle.ips_text.specs.Ancestry.{same_path, covers, is_below}
use Rattle.ips_text.specs.Reading.{IfBad}
use Rattle.ips_text.specs.declared.refusal.Or.{Or}
use Rattle.ips_text.specs.declared.refusal.Or.TheVariants.{Bad, OutOfMemory}
use Rattle.ips_text.proofs.Ancestry.{same_path-true, covers-self, covers_trans}
use Rattle.ips_outside.specs.Image.{Entry, File, Image, IsImage, Agrees, is_file, is_dir, file_bytes, has_parent, dir_or_none}
use Rattle.ips_outside.specs.State.{nowhere}
use Rattle.ips_outside.specs.Outside.{HasCause}
use Rattle.ips_folder.specs.Calls.{CanMake}
use Rattle.ips_steps.specs.Steps.{stage_name, stage_path, stage_of}
use Rattle.ips_steps.specs.Private.{is_private}
use Rattle.ips_steps.proofs.Lists.{clash}
use Rattle.ips_steps.proofs.Numbered.{contents_apart, content_parent, content_covered}
use Rattle.ips_digest.specs.declared.name.PayloadName.{PayloadName}
use Rattle.ips_repo.specs.Files.{file_at}
use Rattle.ips_repo.specs.Places.{payload_place}
use Rattle.ips_journal.specs.declared.staged.Staged.{Staged}
use Rattle.ips_journal.specs.declared.staged.Staged.TheVariants.{Payload, Bytes, Standing}
use Rattle.ips_contents.specs.Contents.{IsContent, IsStanding, IsApart, IsSeen, IsIntactContent, IsPayloadFault, IsPayloadFileFault, SaysOfContent, SaysOfStage, StagedContents, HoldsAlone, AreAlone, HoldsOnly}
use Rattle.ips_contents.specs.declared.fault.StageFault.{StageFault}
use Rattle.ips_contents.specs.declared.fault.StageFault.TheVariants as stage
use Rattle.ips_contents.proofs.Written.{own_modes}

-- ---- the places of the contents

-- what isn't in the stage is not at or below a content's place
pub content_within : (n : ℕ) (q : List ℕ) → covers stage_name q ≡ false → covers (stage_path n) q ≡ false
content_within n q off = false_from_ne_true _ (λ c. clash (covers stage_name q) (covers_trans stage_name (stage_path n) q (content_covered n) c) off)

pub content_in_stage : (n : ℕ) (p : List ℕ) → p ≡ stage_path n → (q : List ℕ) → covers stage_name q ≡ false → covers p q ≡ false
content_in_stage n p at q off = ap (λ (x : List ℕ). covers x q) at ∙ content_within n q off

-- what was written at a content's place, and set in its mode
pub wrote_at : (n : ℕ) (p : List ℕ) → p ≡ stage_path n → (t u : Image) → Agrees (covers p) (covers p) t u → Agrees (covers (stage_path n)) nowhere t u
wrote_at n p at t u h = subst (λ (x : List ℕ). Agrees (covers x) nowhere t u) at (own_modes (covers p) t u h)

-- a content stands below the stage
pub content_below : (n : ℕ) → is_below stage_name (stage_path n) ≡ true
unfolding stage_name
content_below n = refl

none_there : (e : Option Entry) → is_none e ≡ true → e ≡ None
none_there None is = refl
none_there (Some x) is = cc

-- one content more stands there, and nothing else
pub only_more : (i : ℕ) (u v : Image) → Agrees (covers (stage_path i)) nowhere u v → IsImage v → (mode : ℕ) (bytes : List ℕ) → v.look (stage_path i) ≡ Some (File mode bytes) → HoldsOnly i u → HoldsOnly (i + 1) v
only_more i u v wrote formed mode bytes file before q below there = at (covers (stage_path i) q) refl (same_path (stage_path i) q) refl
  where
    place : List ℕ
    place = stage_path i

    at : (c : Bool) → covers place q ≡ c → (s : Bool) → same_path place q ≡ s → (n : ℕ) × (n < i + 1) × (q ≡ stage_path n)
    at false off s is_s = let old = before q below (λ none. there (wrote.look q off refl ∙ none)) in (old.0, omega (arith, old.1), old.2)
    at true covered true same = (i, omega arith, sym (same_path-true place q same))
    at true covered false apart = elim (or_cases (is_none (v.look q)) (is_dir (v.look place)) (formed.below_dirs place q covered apart)) [
      | inl none ↦ absurd (there (none_there (v.look q) none))
      | inr dir ↦ absurd (let bad : is_dir (Some (File mode bytes)) ≡ true = ap is_dir (sym file) ∙ dir in cc)
    ]

pub can_put : (t : Image) (n : ℕ) (p : List ℕ) → p ≡ stage_path n → t.look (stage_path n) ≡ None → is_dir (t.look stage_name) ≡ true → CanMake t p
can_put t n p at none dir = record {
  absent = ap t.look at ∙ none;
  parent = ap (has_parent t) at ∙ ap (dir_or_none t) (content_parent n) ∙ dir;
}

-- ---- no content has a further name

-- where nothing stands in the stage
pub none_alone : (t : Image) → IsImage t → ((q : List ℕ) → is_below stage_name q ≡ true → t.look q ≡ None) → AreAlone t
none_alone t formed none n q small same =
    let file : is_file (t.look (stage_path n)) ≡ true = (formed.files (stage_path n) q same).0 in
    let bad : is_file None ≡ true = ap is_file (sym (none (stage_path n) (content_below n))) ∙ file in
    cc

-- one content more, a file of its own
module _ (i mode : ℕ) (few : i < 2 ^ 64) (bytes : List ℕ) (u v : Image) (wrote : Agrees (covers (stage_path i)) nowhere u v) (formed : IsImage v) (made : HoldsAlone (stage_path i) mode bytes v) where
  -- nothing below it is a file
  at_place : (q : List ℕ) → covers (stage_path i) q ≡ true → is_file (v.look q) ≡ true → q ≡ stage_path i
  at_place q covered file = go (same_path (stage_path i) q) refl
    where
      go : (s : Bool) → same_path (stage_path i) q ≡ s → q ≡ stage_path i
      go true same = sym (same_path-true (stage_path i) q same)
      go false apart = elim (or_cases (is_none (v.look q)) (is_dir (v.look (stage_path i))) (formed.below_dirs (stage_path i) q covered apart)) [
        | inl none ↦ absurd (let bad : is_file None ≡ true = ap is_file (sym (none_there (v.look q) none)) ∙ file in cc)
        | inr dir ↦ absurd (let bad : is_dir (Some (File mode bytes)) ≡ true = ap is_dir (sym made.file) ∙ dir in cc)
      ]

  other_alone : AreAlone u → (n : ℕ) (q : List ℕ) → n < 2 ^ 64 → (n ≡ i → ⊥) → v.same (stage_path n) q ≡ true → q ≡ stage_path n
  other_alone before n q small other same = go (covers (stage_path i) q) refl
    where
      apart : covers (stage_path i) (stage_path n) ≡ false
      apart = contents_apart i n few small (λ e. other (sym e))

      go : (c : Bool) → covers (stage_path i) q ≡ c → q ≡ stage_path n
      go false off = before n q small (sym (wrote.same (stage_path n) q apart off) ∙ same)
      go true covered =
          let files = formed.files (stage_path n) q same in
          let here : q ≡ stage_path i = at_place q covered (ap is_file (sym files.1) ∙ files.0) in
          let back : v.same (stage_path i) (stage_path n) ≡ true = formed.sym (stage_path i) (stage_path n) ∙ ap (v.same (stage_path n)) (sym here) ∙ same in
          let one : stage_path n ≡ stage_path i = made.sole (stage_path n) back in
          clash (covers (stage_path i) (stage_path n)) (ap (covers (stage_path i)) one ∙ covers-self (stage_path i)) apart

  pub alone_more : AreAlone u → AreAlone v
  alone_more before n q small same = elim (cases_lt n i) [
    | inl less ↦ other_alone before n q small (λ e. omega (arith, less, e)) same
    | inr over ↦ elim (cases_lt i n) [
      | inl more ↦ other_alone before n q small (λ e. omega (arith, more, e)) same
      | inr within ↦
          let here : n ≡ i = omega (arith, over, within) in
          made.sole q (ap (λ (k : ℕ). v.same (stage_path k) q) (sym here) ∙ same) ∙ ap stage_path (sym here)
    ]
  ]

-- ---- what is seen stays while the stage is filled

unstaged : (q : List ℕ) → is_private q ≡ false → covers stage_name q ≡ false
unstaged q seen = (or_parts (covers stage_name q) _ seen).0

pub standing_kept : (free : List ℕ → Bool) → ((q : List ℕ) → is_private q ≡ false → free q ≡ false) → (t u : Image) → Agrees free nowhere t u → (s : Staged) → IsSeen s → IsStanding t s → IsStanding u s
standing_kept free off t u h (Payload name) seen there = tt
standing_kept free off t u h (Bytes given) seen there = tt
standing_kept free off t u h (Standing from) seen there = ap is_file (h.look from.bytes (off from.bytes seen) refl) ∙ there

pub content_kept : (free : List ℕ → Bool) → ((q : List ℕ) → is_private q ≡ false → free q ≡ false) → (tells : Bool) (repository : Image) (publisher : List ℕ) (t u : Image) → Agrees free nowhere t u
    → (s : Staged) → IsSeen s → (bytes : List ℕ) → IsContent tells repository publisher u s bytes → IsContent tells repository publisher t s bytes
content_kept free off tells repository publisher t u h (Payload name) seen bytes is = is
content_kept free off tells repository publisher t u h (Bytes given) seen bytes is = is
content_kept free off tells repository publisher t u h (Standing from) seen bytes is = ap file_bytes (sym (h.look from.bytes (off from.bytes seen) refl)) ∙ is

pub standing_in_stage : (t u : Image) → Agrees (covers stage_name) nowhere t u → (s : Staged) → IsSeen s → IsStanding t s → IsStanding u s
standing_in_stage t u h s seen there = standing_kept (covers stage_name) unstaged t u h s seen there

-- a content of the image as it is now, told by what stood before, and by what the repository held before
pub content_then : (t u : Image) → Agrees (covers stage_name) nowhere t u → (s : Staged) → IsSeen s → (tells_now tells : Bool) (repository_now repository : Image) (publisher : List ℕ) → tells_now ≡ tells → repository_now ≡ repository
    → (bytes : List ℕ) → IsContent tells_now repository_now publisher u s bytes → IsContent tells repository publisher t s bytes
content_then t u h s seen tells_now tells repository_now repository publisher kind same bytes is = content_kept (covers stage_name) unstaged tells repository publisher t u h s seen bytes
    (subst (λ (b : Bool). IsContent b repository publisher u s bytes) kind (subst (λ (r : Image). IsContent tells_now r publisher u s bytes) same is))

pub content_apart : (n : ℕ) (p : List ℕ) → p ≡ stage_path n → (s : Staged) → IsSeen s → IsApart p s
content_apart n p at (Payload name) seen = tt
content_apart n p at (Bytes given) seen = tt
content_apart n p at (Standing from) seen = ap (λ (x : List ℕ). covers x from.bytes) at ∙ content_within n from.bytes (unstaged from.bytes seen)

-- ---- one content more

-- The content has the bytes of what is to be staged there.
abbrev pub IsWritten : Bool → Image → List ℕ → Image → Image → ℕ → Staged → Type 0
IsWritten tells repository publisher t u n s = (bytes : List ℕ) × (stage_of u n ≡ Some bytes) × IsContent tells repository publisher t s bytes

-- What is to be staged there is intact, where it is a payload.
abbrev pub IsIntactAt : Image → List ℕ → ℕ → Staged → Type 0
IsIntactAt repository publisher n s = IsIntactContent repository publisher s

module _ (staged : List Staged) (i : ℕ) (s : Staged) (lt : i < length staged) (is : s ≡ get_or staged i s) where
  pub here : slice_get staged i ≡ Some s
  here = slice_get_read staged (length staged) i s refl lt is

  -- before the next, or this one
  up_to : (n : ℕ) → n < i + 1 → (n < i) ⊎ (n ≡ i)
  up_to n small = elim (cases_lt n i) [ inl less ↦ inl less | inr more ↦ inr (omega arith) ]

  pub each_more : (P : ℕ → Staged → Type 0) → P i s → ((n : ℕ) (x : Staged) → n < i → slice_get staged n ≡ Some x → P n x) → (n : ℕ) (x : Staged) → n < i + 1 → slice_get staged n ≡ Some x → P n x
  each_more P now before n x small at = ⊎_elim
      (λ less. before n x less at)
      (λ same.
      let both : Some s ≡ Some x = sym here ∙ ap (slice_get staged) (sym same) ∙ at in
      let this : s ≡ x = cc in
      subst (λ (k : ℕ). P k x) (sym same) (subst (P i) this now))
      (up_to n small)

  module _ (tells : Bool) (repository : Image) (publisher : List ℕ) (t u v : Image) (few : i < 2 ^ 64) (wrote : Agrees (covers (stage_path i)) nowhere u v) where
    pub written_more : (mode : ℕ) (bytes : List ℕ) → v.look (stage_path i) ≡ Some (File mode bytes) → IsContent tells repository publisher t s bytes
        → ((n : ℕ) (x : Staged) → n < i → slice_get staged n ≡ Some x → IsWritten tells repository publisher t u n x) → (n : ℕ) (x : Staged) → n < i + 1 → slice_get staged n ≡ Some x → IsWritten tells repository publisher t v n x
    written_more mode bytes file content before = each_more (IsWritten tells repository publisher t v) (bytes, ap file_bytes file, content)
        (λ n x less at. let old = before n x less at in (old.0, ap file_bytes (wrote.look (stage_path n) (contents_apart i n (omega arith) (omega arith) (λ same. omega (arith, same))) refl) ∙ old.1, old.2))

    pub empty_more : ((n : ℕ) → i ≤ n → n < 2 ^ 64 → u.look (stage_path n) ≡ None) → (n : ℕ) → i + 1 ≤ n → n < 2 ^ 64 → v.look (stage_path n) ≡ None
    empty_more before n le small = wrote.look (stage_path n) (contents_apart i n (omega arith) small (λ same. omega (arith, same))) refl ∙ before n (omega arith) small

-- ---- a fault of one content is one of staging

-- a cause, behind calls that didn't fail
pub cause_since : (a b c : ℕ) (R : Type 0) → b ≡ a → HasCause b c R → HasCause a c R
cause_since a b c R same cause = subst (λ (x : ℕ). HasCause x c R) same cause

pub as_bad : (T : Type 0) {E : Type 0} (e : Or E) (P Q : E → Type 0) → ((why : E) → P why → Q why) → IfBad {X = T} (Err e) P → IfBad {X = T} (Err e) Q
as_bad T (Bad why) P Q change p = change why p
as_bad T OutOfMemory P Q change p = tt

pub says_of_stage : (tells : Bool) (repository : Image) (publisher : List ℕ) (staged : List Staged) (i : ℕ) (s : Staged) → slice_get staged i ≡ Some s
    → (tells ≡ true → (n : ℕ) (x : Staged) → n < i → slice_get staged n ≡ Some x → IsIntactContent repository publisher x)
    → (why : StageFault) → SaysOfContent tells repository publisher s why → SaysOfStage tells repository publisher staged why
says_of_stage tells repository publisher staged i (Payload name) at before (stage.Payload other why) says =
    let same = says.0 in (
      subst (λ (n : PayloadName). IsPayloadFault n why) (sym same) says.1,
      λ told. record {
        at = i;
        stands = at ∙ ap (λ (n : PayloadName). Some (Payload n)) (sym same);
        before = before told;
        is = subst (λ (n : PayloadName). IsPayloadFileFault n (file_at repository (payload_place publisher n)) why) (sym same) (says.2 told);
      },
    )
says_of_stage tells repository publisher staged i (Payload name) at before stage.SourceFault says = tt
says_of_stage tells repository publisher staged i (Payload name) at before stage.FolderFault says = tt
says_of_stage tells repository publisher staged i (Bytes given) at before (stage.Payload other why) says = cc
says_of_stage tells repository publisher staged i (Bytes given) at before stage.SourceFault says = tt
says_of_stage tells repository publisher staged i (Bytes given) at before stage.FolderFault says = tt
says_of_stage tells repository publisher staged i (Standing from) at before (stage.Payload other why) says = cc
says_of_stage tells repository publisher staged i (Standing from) at before stage.SourceFault says = tt
says_of_stage tells repository publisher staged i (Standing from) at before stage.FolderFault says = tt

-- a fault of the folder is one of any content
pub folder_said : (tells : Bool) (repository : Image) (publisher : List ℕ) (s : Staged) → SaysOfContent tells repository publisher s stage.FolderFault
folder_said tells repository publisher (Payload name) = tt
folder_said tells repository publisher (Bytes given) = refl
folder_said tells repository publisher (Standing from) = refl

-- each content of a list that is staged is there
pub some_content : (tells : Bool) (repository : Image) (publisher : List ℕ) (t : Image) (staged : List Staged) (contents : ℕ → Option (List ℕ)) → StagedContents tells repository publisher t staged contents
    → (n : ℕ) → n < length staged → is_some (contents n) ≡ true
some_content tells repository publisher t staged contents are n lt = elim (slice_get_cases staged n).1 [
  | inl there ↦ let content = are n there.0 there.2 in ap is_some content.1
  | inr past ↦ absurd (omega (arith, past.0))
]
