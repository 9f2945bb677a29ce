-- The steps of one request are one, whatever the bytes of payloads, and exclude that it can't be carried out; so is the first path at which it can't.
use Rattle.std.proofs.Common.{◌≡◌, ℕ, true, false, List, [], ◌∷◌, ◌++◌, map, length, None, is_some, sym, ap, subst, ◌∙◌, inl, inr}
use Rattle.std.specs.List.{AllByRecursion}
use Rattle.std.proofs.lemmas.Bool.{true≢false}
use Rattle.ips_text.specs.Ancestry.{is_below}
use Rattle.ips_outside.specs.Image.{Image}
use Rattle.ips_steps.specs.Private.{records_name}
use Rattle.ips_steps.specs.Steps.{Step}
use Rattle.ips_steps.specs.View.{step_of}
use Rattle.ips_after.specs.Lists.{listed}
use Rattle.ips_after.specs.Planned.{contents_of, plan_order, steps_of}
use Rattle.ips_after.specs.Request.{Request}
use Rattle.ips_after.specs.Salvage.{Aside, IsAside, IsRoot, change_saving, is_unmovable, lesser}
use Rattle.ips_after.proofs.Names.{root_one, root_under}
use Rattle.ips_aside.proofs.Ordered.{less_or}
use Rattle.ips_change.specs.Told.{naming}
use Rattle.ips_emit.specs.declared.emitting.Emitted.{Emitted}
use Rattle.ips_emit.specs.Emitted.{FromFile, FromPayload, OwnBytes, Provenance, Turn, contents_in, provenance_of, staged_bytes}
use Rattle.ips_image_steps.specs.draft.Drafting.{turns_saving}
use Rattle.ips_image_steps.specs.saving.Saving.{IsSavedFrom}
use Rattle.ips_image_steps.specs.Answers.{HasSteps, IsHindered}
use Rattle.ips_plan_limits.specs.Limits.{first_excess}
use Rattle.ips_laws.specs.plan_laws.Alike.{AreLikeSources, AreLikeSteps}
use Rattle.ips_laws.proofs.plan_laws.Searches.{asides_same, changes_same, unmovable_same}
use Rattle.ips_laws.proofs.plan_laws.Sources.{HaveOneContents, IsTaken, all_from, bytes_from, excess_like, sources_like}

-- the bytes of each payload, where none are known
abbrev pub no_bytes : List ℕ → List ℕ
no_bytes payload = payload

-- The wanted paths of the request are listed, and it wants nothing below the folder of the records.
pub record IsPlain (r : Request) : Type 0 where
  pub keyed : (q : List ℕ) → is_some (r.new.at q) ≡ listed r.new.keys q
  pub bare : (q : List ℕ) → is_below records_name q ≡ true → r.new.at q ≡ None

-- ---- one request

taken_of : (r : Request) (t : Image) (x : Provenance) → IsSavedFrom r t x → IsTaken x
taken_of r t (FromPayload payload) h = tt
taken_of r t (OwnBytes b) h = absurd h
taken_of r t (FromFile p) h = tt

all_taken : (r : Request) (t : Image) (xs : List Provenance) → AllByRecursion (IsSavedFrom r t) xs → AllByRecursion IsTaken xs
all_taken r t [] h = tt
all_taken r t (x ∷ xs) h = (taken_of r t x h.0, all_taken r t xs h.1)

module _ (text : List ℕ) (r : Request) (t : Image) (plain : IsPlain r) where
  under_of : (a : Aside) → IsRoot t text a.root → is_below records_name a.root ≡ true
  under_of a h = ap (is_below records_name) h.name ∙ root_under text h.times

  changes_one : (a b : Aside) → IsRoot t text a.root → IsRoot t text b.root → IsAside (naming r) t a → IsAside (naming r) t b → change_saving (naming r) t a ≡ change_saving (naming r) t b
  changes_one a b ra rb ha hb = changes_same (naming r) t a b plain.keyed plain.bare (under_of a ra) (root_one t text b.root a.root rb ra) ha hb

  unmovable_one : (a b : Aside) → IsRoot t text a.root → IsRoot t text b.root → IsAside (naming r) t a → IsAside (naming r) t b → (p : List ℕ) → is_unmovable (naming r) t a p ≡ is_unmovable (naming r) t b p
  unmovable_one a b ra rb ha hb p = unmovable_same (naming r) t a b plain.keyed plain.bare (under_of a ra) (root_one t text b.root a.root rb ra) ha hb p

  module _ (d e : Emitted) (x : HasSteps text r t d) (y : HasSteps text r t e) where
    changes : change_saving (naming r) t x.plan.aside ≡ change_saving (naming r) t y.plan.aside
    changes = changes_one x.plan.aside y.plan.aside x.plan.is_root y.plan.is_root x.plan.is_aside y.plan.is_aside

    asides : x.plan.asides ≡ y.plan.asides
    asides = asides_same (naming r) t x.plan.aside y.plan.aside plain.keyed plain.bare (under_of x.plan.aside x.plan.is_root) (root_one t text y.plan.aside.root x.plan.aside.root y.plan.is_root x.plan.is_root) x.plan.is_aside y.plan.is_aside
        x.plan.asides y.plan.asides x.plan.are_asides y.plan.are_asides

    pub steps_one : map step_of d.steps.items ≡ map step_of e.steps.items
    steps_one = x.plan.steps_are ∙ (λ i. steps_of (changes i) 0 (asides i ++ plan_order (naming r) t)) ∙ sym y.plan.steps_are

    pub contents_one : map (staged_bytes r.bytes t) d.staged.items ≡ map (staged_bytes r.bytes t) e.staged.items
    contents_one = x.plan.contents_are ∙ (λ i. contents_of (changes i) (asides i ++ plan_order (naming r) t)) ∙ sym y.plan.contents_are

    turns_one : turns_saving r t x.plan.aside x.plan.asides ≡ turns_saving r t y.plan.aside y.plan.asides
    turns_one = λ i. map (λ p. (p, changes i p)) (asides i)

    pub sources_one : HaveOneContents t (map provenance_of d.staged.items) (map provenance_of e.staged.items) → AreLikeSources t (map provenance_of d.staged.items) (map provenance_of e.staged.items)
    sources_one same =
        let h = x.sources in
        let k = y.sources in
        let many : length h.saved ≡ length k.saved = h.counted ∙ ap (λ (turns : List Turn). length (contents_in turns)) turns_one ∙ sym k.counted in
        let moved : HaveOneContents t (h.saved ++ h.laid) (k.saved ++ k.laid) = λ bytes. ap (map (bytes_from bytes t)) (sym h.are) ∙ same bytes ∙ ap (map (bytes_from bytes t)) k.are in
        let like = sources_like t h.saved k.saved h.laid k.laid many (all_taken (naming r) t h.saved h.copied) (all_taken (naming r) t k.saved k.copied) h.uncopied k.uncopied moved in
        subst (λ (l : List Provenance). AreLikeSources t l (map provenance_of e.staged.items)) (sym h.are) (subst (AreLikeSources t (h.saved ++ h.laid)) (sym k.are) like)

  -- where there are steps no path hinders
  pub steps_or_hindered : (d : Emitted) (p : List ℕ) → HasSteps text r t d → IsHindered text r t p → ⊥
  steps_or_hindered d p x h =
      let none : is_unmovable (naming r) t h.aside p ≡ false = unmovable_one h.aside x.plan.aside h.is_root x.plan.is_root h.is_aside x.plan.is_aside p ∙ x.plan.none_unmovable p in
      true≢false (sym h.first.there ∙ none)

  -- no path before the first that hinders is a first one
  none_before : (p q : List ℕ) → lesser p q ≡ true → IsHindered text r t p → IsHindered text r t q → ⊥
  none_before p q less h k =
      let none : is_unmovable (naming r) t h.aside p ≡ false = unmovable_one h.aside k.aside h.is_root k.is_root h.is_aside k.is_aside p ∙ k.first.first p less in
      true≢false (sym h.first.there ∙ none)

  -- one path is the first that hinders
  pub hindered_one : (p q : List ℕ) → IsHindered text r t p → IsHindered text r t q → p ≡ q
  hindered_one p q h k = elim (less_or p q) [
    | inl less ↦ absurd (none_before p q less h k)
    | inr rest ↦ elim rest [ inl more ↦ absurd (none_before q p more k h) | inr same ↦ same ]
  ]

-- ---- one request with each bytes of payloads

module _ (text : List ℕ) (r : (List ℕ → List ℕ) → Request) (t : Image) (gives : (bytes : List ℕ → List ℕ) → (r bytes).bytes ≡ bytes) (plain : (bytes : List ℕ → List ℕ) → IsPlain (r bytes))
    (d e : Emitted) (x : (bytes : List ℕ → List ℕ) → HasSteps text (r bytes) t d) (y : (bytes : List ℕ → List ℕ) → HasSteps text (r bytes) t e) where
  same_contents : HaveOneContents t (map provenance_of d.staged.items) (map provenance_of e.staged.items)
  same_contents bytes =
      let with_these : map (staged_bytes bytes t) d.staged.items ≡ map (staged_bytes bytes t) e.staged.items =
      subst (λ (f : List ℕ → List ℕ). map (staged_bytes f t) d.staged.items ≡ map (staged_bytes f t) e.staged.items) (gives bytes) (contents_one text (r bytes) t (plain bytes) d e (x bytes) (y bytes)) in
      sym (all_from bytes t d.staged.items) ∙ with_these ∙ all_from bytes t e.staged.items

  -- the steps are the same, and what is staged for them comes from like sources
  pub like_steps : AreLikeSteps t d e
  like_steps = record {
    steps = steps_one text (r no_bytes) t (plain no_bytes) d e (x no_bytes) (y no_bytes);
    sources = sources_one text (r no_bytes) t (plain no_bytes) d e (x no_bytes) (y no_bytes) same_contents;
  }

  -- and the same of them is beyond its limit
  pub excess_one : first_excess (map step_of d.steps.items) d.staged.items ≡ first_excess (map step_of e.steps.items) e.staged.items
  excess_one = ap (λ (steps : List Step). first_excess steps d.staged.items) like_steps.steps ∙ excess_like t d.staged.items e.staged.items like_steps.sources (map step_of e.steps.items)
