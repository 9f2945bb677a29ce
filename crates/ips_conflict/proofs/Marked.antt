-- Which paths stand above a path: its parent, and what stands above that.
use Rattle.std.proofs.Common.{◌≡◌, ℕ, suc, ◌<◌, ◌⊎◌, Bool, true, false, not, ◌||◌, List, length, ◌≤◌, Option, Some, None, Bor, sym, ap, subst, ◌∙◌, inl, inr, arith}
use Rattle.std.specs.Prelude.{◌↔◌, IfNone, IfSome}
use Rattle.std.proofs.lemmas.Bool.{true≢false, and_parts, and_from, or_cases, or_left, or_right, false_from_ne_true, cases_Bool, not-true, not_from_false}
use Rattle.ips_text.specs.Ancestry.{same_path, covers, is_below, parent}
use Rattle.ips_text.proofs.Ancestry.{same_path-true, above, covers_trans, covers_length, parent_length, at_parent_of, parent_covers}
use Rattle.ips_action.specs.Attrs.{is_same}
use Rattle.ips_conflict.proofs.Kept.{is_same_self}
use Rattle.ips_action.proofs.KeyOrder.{same_true}

-- covered by something shorter is below it
below_from : (p q : List ℕ) → covers p q ≡ true → length p < length q → is_below p q ≡ true
below_from p q c lt = and_from (covers p q) (not (same_path p q)) c (not_from_false (same_path p q) (false_from_ne_true (same_path p q) (λ same. absurd (omega (arith, ap length (same_path-true p q same))))))

below_parts : (p q : List ℕ) → is_below p q ≡ true → (covers p q ≡ true) × (same_path p q ≡ false)
below_parts p q h = let w = and_parts (covers p q) (not (same_path p q)) h in (w.0, not-true (same_path p q) w.1)

-- what is above a path is above what that covers
pub below_covers : (d p q : List ℕ) → is_below d p ≡ true → covers p q ≡ true → is_below d q ≡ true
below_covers d p q below c =
    let w = below_parts d p below in
    let apart : same_path d q ≡ false = false_from_ne_true (same_path d q) (λ same.
    let back : covers p d ≡ true = subst (λ (x : List ℕ). covers p x ≡ true) (sym (same_path-true d q same)) c in
    true≢false (sym back ∙ above d p w.0 w.1)) in
    and_from (covers d q) (not (same_path d q)) (covers_trans d p q w.0 c) (not_from_false (same_path d q) apart)

-- below a path is its parent, or below that
pub up_one : (p q d : List ℕ) → parent q ≡ Some d → is_below p q ≡ true → (p ≡ d) ⊎ (is_below p d ≡ true)
up_one p q d e h =
    let w = below_parts p q h in
    let at = at_parent_of p q w.0 w.1 in
    let same : at.dir ≡ d = let o : (let v : Option (List ℕ) = Some at.dir in v) ≡ Some d = sym at.is ∙ e in cc in
    let up : covers p d ≡ true = subst (λ (x : List ℕ). covers p x ≡ true) same at.up in
    elim (cases_Bool (same_path p d)) [
      | inl s ↦ inl (same_path-true p d s)
      | inr s ↦ inr (and_from (covers p d) (not (same_path p d)) up (not_from_false (same_path p d) s))
    ]

pub down_one : (p q d : List ℕ) → parent q ≡ Some d → (p ≡ d) ⊎ (is_below p d ≡ true) → is_below p q ≡ true
down_one p q d e h =
    let here : covers d q ≡ true = parent_covers q d e in
    let short : length d < length q = parent_length q d e in
    elim h [
      | inl same ↦ below_from p q (subst (λ (x : List ℕ). covers x q ≡ true) (sym same) here) (omega (arith, ap length same, short))
      | inr below ↦ let w = below_parts p d below in below_from p q (covers_trans p d q w.0 here) (omega (arith, covers_length p d w.0, short))
    ]

pub no_parent : (p q : List ℕ) → parent q ≡ None → is_below p q ≡ true → ⊥
no_parent p q e h = let w = below_parts p q h in let at = at_parent_of p q w.0 w.1 in let o : (let v : Option (List ℕ) = None in v) ≡ Some at.dir = sym e ∙ at.is in cc

-- ---- the paths that are still to be marked

-- the path is the directory that is next, or above it
abbrev pub IsLeft : List ℕ → Option (Bor (List ℕ)) → Type 0
IsLeft p None = ⊥
IsLeft p (Some d) = (p ≡ d.now) ⊎ (is_below p d.now ≡ true)

-- what the call for the parent says
abbrev pub IsParent : List ℕ → Option (Bor (List ℕ)) → Type 0
IsParent q o = IfNone o (parent q ≡ None) × IfSome o (λ d. parent q ≡ Some d.now)

pub left_up : (p q : List ℕ) (o : Option (Bor (List ℕ))) → IsParent q o → is_below p q ≡ true → IsLeft p o
left_up p q None h below = no_parent p q h.0 below
left_up p q (Some d) h below = up_one p q d.now h.1 below

pub left_down : (p q : List ℕ) (o : Option (Bor (List ℕ))) → IsParent q o → IsLeft p o → is_below p q ≡ true
left_down p q None h left = absurd left
left_down p q (Some d) h left = down_one p q d.now h.1 left

-- marked, or still to be: all that stand above the path, and what was marked before
abbrev pub MarksTo : (List ℕ → Bool) → (List ℕ → Bool) → List ℕ → Option (Bor (List ℕ)) → Type 0
MarksTo before now path at = (p : List ℕ) → ((now p ≡ true) ⊎ IsLeft p at) ↔ ((before p ≡ true) ⊎ (is_below p path ≡ true))

pub marks_begin : (before : List ℕ → Bool) (path : List ℕ) (at : Option (Bor (List ℕ))) → IsParent path at → MarksTo before before path at
marks_begin before path at h p = (
  λ w. elim w [ inl had ↦ inl had | inr left ↦ inr (left_down p path at h left) ],
  λ w. elim w [ inl had ↦ inl had | inr below ↦ inr (left_up p path at h below) ],
)

pub marks_more : (before now next : List ℕ → Bool) (path : List ℕ) (d : Bor (List ℕ)) (at : Option (Bor (List ℕ))) → MarksTo before now path (Some d) → IsParent d.now at → ((p : List ℕ) → next p ≡ (is_same p d.now || now p)) → MarksTo before next path at
marks_more before now next path d at so_far h adds p = (
  λ w.
      (so_far p).0
      (elim w [
        | inl marked ↦ elim (or_cases (is_same p d.now) (now p) (sym (adds p) ∙ marked)) [ inl here ↦ inr (inl (same_true p d.now here)) | inr had ↦ inl had ]
        | inr left ↦ inr (inr (left_down p d.now at h left))
      ]),
  λ w.
      elim ((so_far p).1 w) [
        | inl had ↦ inl (adds p ∙ or_right (is_same p d.now) (now p) had)
        | inr left ↦
            elim left [
              | inl here ↦ inl (adds p ∙ or_left (is_same p d.now) (now p) (subst (λ (x : List ℕ). is_same p x ≡ true) here (is_same_self p)))
              | inr below ↦ inr (left_up p d.now at h below)
            ]
      ],
)

pub marks_end : (before now : List ℕ → Bool) (path p : List ℕ) → MarksTo before now path None → (now p ≡ true) ↔ ((before p ≡ true) ⊎ (is_below p path ≡ true))
marks_end before now path p all = (λ marked. (all p).0 (inl marked), λ w. elim ((all p).1 w) [ inl marked ↦ marked | inr left ↦ absurd left ])

-- how far it is to the root
abbrev pub height : Option (Bor (List ℕ)) → ℕ
height None = 0
height (Some d) = suc (length d.now)

pub height_falls : (d : Bor (List ℕ)) (at : Option (Bor (List ℕ))) → IsParent d.now at → height at < height (Some d)
height_falls d None h = omega arith
height_falls d (Some e) h = omega (arith, parent_length d.now e.now h.1)

-- ---- marking up to a path that was marked before

-- what was marked before stays, and what was marked since is longer than what is next
pub record MarkingTo (before now : List ℕ → Bool) (path : List ℕ) (at : Option (Bor (List ℕ))) : Type 0 where
  pub marks : MarksTo before now path at
  pub grows : (p : List ℕ) → before p ≡ true → now p ≡ true
  pub longer : (p : List ℕ) → now p ≡ true → (before p ≡ true) ⊎ (height at ≤ length p)

pub marking_begins : (before : List ℕ → Bool) (path : List ℕ) (at : Option (Bor (List ℕ))) → IsParent path at → MarkingTo before before path at
marking_begins before path at h = record { marks = marks_begin before path at h; grows = λ p had. had; longer = λ p had. inl had }

pub marking_goes_on : (before now next : List ℕ → Bool) (path : List ℕ) (d : Bor (List ℕ)) (at : Option (Bor (List ℕ))) → MarkingTo before now path (Some d) → IsParent d.now at → ((p : List ℕ) → next p ≡ (is_same p d.now || now p)) → MarkingTo before next path at
marking_goes_on before now next path d at so_far h adds = record {
  marks = marks_more before now next path d at so_far.marks h adds;
  grows = λ p had. adds p ∙ or_right (is_same p d.now) (now p) (so_far.grows p had);
  longer = λ p marked. elim (or_cases (is_same p d.now) (now p) (sym (adds p) ∙ marked)) [
    | inl here ↦ inr (omega (arith, ap length (same_true p d.now here), height_falls d at h))
    | inr had ↦ elim (so_far.longer p had) [ inl old ↦ inl old | inr le ↦ inr (omega (arith, le, height_falls d at h)) ]
  ];
}

-- what is next was marked, so all above it were
pub marking_stops : (before now : List ℕ → Bool) (path : List ℕ) (d : Bor (List ℕ)) → ((p q : List ℕ) → before q ≡ true → is_below p q ≡ true → before p ≡ true) → MarkingTo before now path (Some d) → now d.now ≡ true
    → (p : List ℕ) → (now p ≡ true) ↔ ((before p ≡ true) ⊎ (is_below p path ≡ true))
marking_stops before now path d holds so_far had p =
    let old : before d.now ≡ true = elim (so_far.longer d.now had) [ inl old ↦ old | inr le ↦ absurd (omega (arith, le)) ] in (
      λ marked. (so_far.marks p).0 (inl marked),
      λ w. elim ((so_far.marks p).1 w) [
        | inl marked ↦ marked
        | inr left ↦ elim left [ inl here ↦ subst (λ (x : List ℕ). now x ≡ true) (sym here) had | inr below ↦ so_far.grows p (holds p d.now old below) ]
      ],
    )
