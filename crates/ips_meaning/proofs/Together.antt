-- What is wanted hangs together where nothing clashes.
use Rattle.std.proofs.Common.{◌≡◌, ◌==◌, ℕ, zero, suc, ◌<◌, Bool, true, false, cond, not, ◌&&◌, ◌||◌, List, [], ◌∷◌, map, length, get_or, Option, Some, None, refl, sym, ap, subst, ◌∙◌, ◌⊎◌, inl, inr, arith}
use Rattle.std.specs.Prelude.{codes, slice_get}
use Rattle.std.specs.List.{Contains, list_any}
use Rattle.std.specs.Option.{option_eq}
use Rattle.std.specs.Ordering.{ordering_reverse}
use Rattle.std.specs.declared.cmp.Ordering.{Ordering}
use Rattle.std.specs.declared.cmp.Ordering.TheVariants.{Less, Equal, Greater}
use Rattle.std.proofs.lemmas.Bool.{and_parts, and_from, or_cases, or_left, or_right, cases_Bool, true≢false, false_from_ne_true, eqb-true}
use Rattle.std.proofs.lemmas.Cmp.{nat_list_eq_equiv}
use Rattle.std.proofs.lemmas.Option.{same_Some}
use Rattle.std.proofs.lemmas.List.Elements.{All-contains, All-weaker, Contains-append_right}
use Rattle.std.proofs.lemmas.Map.Views.{Contains-from_any, list_any-from_Contains}
use Rattle.ips_text.specs.Ancestry.{covers, is_below, same_path, parent}
use Rattle.ips_text.proofs.Ancestry.{covers-self, covers_trans}
use Rattle.ips_action.specs.Attrs.{is_same, values_of}
use Rattle.ips_action.specs.Action.{Fields, preserve_values}
use Rattle.ips_action.specs.declared.action.Preserve.{Preserve}
use Rattle.ips_action.specs.declared.action.Preserve.TheVariants as preserve
use Rattle.ips_conflict.specs.declared.placed.Placed.{Placed}
use Rattle.ips_conflict.specs.declared.clashing.Rule.TheVariants as rule
use Rattle.ips_conflict.specs.Key.{Key, is_dir}
use Rattle.ips_conflict.specs.Order.{place_cmp}
use Rattle.ips_conflict.specs.Alike.{kind_place, alike, overlaid}
use Rattle.ips_conflict.specs.Verdict.{breaks, decision}
use Rattle.ips_conflict.specs.Clash.{HasKey, Counts, HasSureFile, path_key, has_legacy, is_held, is_held_by, may_be_missing}
use Rattle.ips_conflict.proofs.Places.{one_there}
use Rattle.ips_conflict.proofs.Ordered.{place_total}
use Rattle.ips_conflict.proofs.FirstPair.{place_tie}
use Rattle.ips_conflict.proofs.Marked.{below_covers, up_one, down_one, no_parent}
use Rattle.ips_meaning.specs.declared.entry.Entry.{Entry}
use Rattle.ips_meaning.specs.declared.entry.Entry.TheVariants.{Dir, File, Link, Hard}
use Rattle.ips_meaning.specs.Want.{MeansEntry, GivesEntry, IsWanted, IsWantOf, IsFreeOfClashes, is_needed}
use Rattle.ips_meaning.specs.Places.{IsWantedPath}
use Rattle.ips_meaning.specs.Together.{IsDirWanted, IsFileWanted, LeadsToWanted, HangTogether, is_sure}
use Rattle.ips_meaning.proofs.Wants.{wanted_path}
use Rattle.ips_action.proofs.KeyOrder.{same_true}
use Rattle.ips_conflict.proofs.Found.{one_counts}

-- ---- what stands above a path

over_records : (d : List ℕ) → is_below d (codes "var/pkg") ≡ true → d ≡ codes "var"
over_records d below = elim (up_one d (codes "var/pkg") (codes "var") refl below) [ inl one ↦ one | inr more ↦ absurd (no_parent d (codes "var") refl more) ]

over_legacy : (d : List ℕ) → is_below d (codes "var/sadm/pkg") ≡ true → (d ≡ codes "var/sadm") ⊎ (d ≡ codes "var")
over_legacy d below = elim (up_one d (codes "var/sadm/pkg") (codes "var/sadm") refl below) [
  | inl one ↦ inl one
  | inr more ↦ elim (up_one d (codes "var/sadm") (codes "var") refl more) [ inl two ↦ inr two | inr none ↦ absurd (no_parent d (codes "var") refl none) ]
]

held_var : (legacy : Bool) (d : List ℕ) → d ≡ codes "var" → is_held_by legacy d ≡ true
held_var legacy d e = subst (λ (x : List ℕ). is_held_by legacy x ≡ true) (sym e) refl

held_legacy : (legacy : Bool) (d : List ℕ) → legacy ≡ true → d ≡ codes "var/sadm" → is_held_by legacy d ≡ true
held_legacy legacy d l e = subst (λ (x : List ℕ). is_held_by legacy x ≡ true) (sym e) (subst (λ (t : Bool). is_held_by t (codes "var/sadm") ≡ true) (sym l) refl)

-- what is above a path that the image itself needs is held
needed_held : (kept : List Placed) (d p : List ℕ) → is_below d p ≡ true → is_needed kept p ≡ true → is_held kept d ≡ true
needed_held kept d p below need = elim (or_cases (covers p (codes "var/pkg")) (has_legacy kept && covers p (codes "var/sadm/pkg")) need) [
  | inl records ↦ held_var (has_legacy kept) d (over_records d (below_covers d p (codes "var/pkg") below records))
  | inr legacy ↦
      let w = and_parts (has_legacy kept) (covers p (codes "var/sadm/pkg")) legacy in
      elim (over_legacy d (below_covers d p (codes "var/sadm/pkg") below w.1)) [ inl one ↦ held_legacy (has_legacy kept) d w.0 one | inr two ↦ held_var (has_legacy kept) d two ]
]

-- what is above a wanted path is wanted
above_wanted : (kept : List Placed) (d p : List ℕ) → is_below d p ≡ true → IsWantedPath kept p → IsWantedPath kept d
above_wanted kept d p below w =
    let up : covers d p ≡ true = (and_parts (covers d p) (not (same_path d p)) below).0 in
    elim w [
      | inl need ↦ inl (elim (or_cases (covers p (codes "var/pkg")) (has_legacy kept && covers p (codes "var/sadm/pkg")) need) [
        | inl records ↦ or_left (covers d (codes "var/pkg")) (has_legacy kept && covers d (codes "var/sadm/pkg")) (covers_trans d p (codes "var/pkg") up records)
        | inr legacy ↦
            let v = and_parts (has_legacy kept) (covers p (codes "var/sadm/pkg")) legacy in
            or_right (covers d (codes "var/pkg")) (has_legacy kept && covers d (codes "var/sadm/pkg")) (and_from (has_legacy kept) (covers d (codes "var/sadm/pkg")) v.0 (covers_trans d p (codes "var/sadm/pkg") up v.1))
      ])
      | inr lower ↦ inr (lower.0, lower.1, covers_trans d p lower.0 up lower.2)
    ]

-- ---- entries and their paths

pub entry_there : (entries : List (List ℕ × Entry)) (path : List ℕ) → Contains (map (λ e. e.0) entries) path → (entry : Entry) × Contains entries (path, entry)
entry_there entries path there = go entries there.0 there.1 there.2
  where
    go : (es : List (List ℕ × Entry)) (k : ℕ) → k < length (map (λ (e : List ℕ × Entry). e.0) es) → get_or (map (λ (e : List ℕ × Entry). e.0) es) k path ≡ path → (entry : Entry) × Contains es (path, entry)
    go [] k lt is = absurd (omega arith)
    go (e ∷ es) zero lt is = let pair : List ℕ → List ℕ × Entry = λ p. (p, e.1) in (e.1, (0, omega arith, ap pair is))
    go (e ∷ es) (suc k) lt is = let rest = go es k (omega arith) is in (rest.0, Contains-append_right (e ∷ []) es (path, rest.0) rest.1)

-- ---- two actions at one path

by_apart : (k l : ℕ) (x o : Bool) → (k ≡ l → ⊥) → (decision k l x o == 1) ≡ true
by_apart k l x o apart = subst (λ (t : Bool). (cond t (cond (k == 1) (cond o 0 3) (cond x 0 2)) 1 == 1) ≡ true) (sym (false_from_ne_true (k == l) (λ same. apart (eqb-true k l same)))) refl

kinds_broken : (a b : Fields) → (kind_place a.kind ≡ kind_place b.kind → ⊥) → breaks rule.Kinds a b ≡ true
kinds_broken a b apart = by_apart (kind_place a.kind) (kind_place b.kind) (alike a b) (overlaid a b) apart

-- the values of `preserve` are those of a file that may be missing
abbrev missing_in : List (List ℕ) → Bool
missing_in values = option_eq is_same (slice_get values 0) (Some (codes "legacy")) || option_eq is_same (slice_get values 0) (Some (codes "abandon")) || option_eq is_same (slice_get values 0) (Some (codes "install-only"))

missing_by : (preserve : Preserve) → is_sure preserve ≡ false → missing_in (preserve_values preserve) ≡ true
missing_by preserve.None e = absurd (true≢false e)
missing_by preserve.True e = absurd (true≢false e)
missing_by preserve.RenameOld e = absurd (true≢false e)
missing_by preserve.RenameNew e = absurd (true≢false e)
missing_by preserve.Legacy e = refl
missing_by preserve.Abandon e = refl
missing_by preserve.InstallOnly e = refl

may_miss : (preserve : Preserve) (a : Fields) → values_of (codes "preserve") a.attrs ≡ preserve_values preserve → is_sure preserve ≡ false → may_be_missing a ≡ true
may_miss preserve a values e = ap missing_in values ∙ missing_by preserve e

means_dir : (a : Fields) (entry : Entry) → is_dir a.kind ≡ true → MeansEntry a entry → (mode : Option ℕ) × (entry ≡ Dir mode)
means_dir a (Dir mode) is means = (mode, refl)
means_dir a (File payload mode preserve) is means = absurd (true≢false (sym is ∙ ap is_dir means.0))
means_dir a (Link target) is means = absurd (true≢false (sym is ∙ ap is_dir means.0))
means_dir a (Hard to) is means = absurd (true≢false (sym is ∙ ap is_dir means.0))

module _ (kept : List Placed) (free : IsFreeOfClashes kept) where
  -- actions at one path are of one kind
  one_kind : (key : Key) (i j : ℕ) (p q : Placed) → HasKey kept key i p → HasKey kept key j q → (kind_place p.action.kind ≡ kind_place q.action.kind → ⊥) → ⊥
  one_kind key i j p q at there apart = go (place_cmp kept i j) refl
    where
      go : (o : Ordering) → place_cmp kept i j ≡ o → ⊥
      go Less is =
          free (record { key = key; rule = rule.Kinds; first = i; second = Some j })
          (record { other = j; a = p; b = q; second = refl; a_key = at; b_key = there; earlier = is; broken = kinds_broken p.action q.action apart })
      go Equal is = apart (ap (λ (x : Placed). kind_place x.action.kind) (one_there kept i p q at.here (subst (λ (k : ℕ). slice_get kept k ≡ Some q) (sym (place_tie kept i j is)) there.here)))
      go Greater is =
          free (record { key = key; rule = rule.Kinds; first = j; second = Some i })
          (record { other = i; a = q; b = p; second = refl; a_key = there; b_key = at; earlier = (place_total kept).antisymm j i ∙ ap ordering_reverse is; broken = kinds_broken q.action p.action (λ same. apart (sym same)) })

  -- what gives a path above a wanted one is a directory
  dir_given : (d p : List ℕ) → is_below d p ≡ true → IsWantedPath kept p → (i : ℕ) (a : Placed) → HasKey kept (path_key d) i a → is_dir a.action.kind ≡ true
  dir_given d p below w i a at = elim (cases_Bool (is_dir a.action.kind)) [ inl is ↦ is | inr other ↦ absurd (blocked other) ]
    where
      blocked : is_dir a.action.kind ≡ false → ⊥
      blocked other = elim (cases_Bool (is_held kept d)) [
        | inl held ↦
            free (record { key = path_key d; rule = rule.Below; first = i; second = None })
            (record { path = d; a = a; of_path = refl; a_key = at; other = other; above = held })
        | inr bare ↦ elim w [
          | inl need ↦ true≢false (sym (needed_held kept d p below need) ∙ bare)
          | inr lower ↦
              free (record { key = path_key d; rule = rule.Below; first = i; second = Some lower.1.0 })
              (record { path = d; a = a; of_path = refl; a_key = at; other = other; above = (bare, lower.0, lower.1.1, lower.1.2, below_covers d p lower.0 below lower.2) })
        ]
      ]

  -- and so is what is wanted there
  dir_wanted : (d p : List ℕ) → is_below d p ≡ true → IsWantedPath kept p → (entry : Entry) → IsWanted kept d entry → (mode : Option ℕ) × (entry ≡ Dir mode)
  dir_wanted d p below w entry at = elim at [
    | inl gives ↦ means_dir gives.p.action entry (dir_given d p below w gives.i gives.p gives.at) gives.means
    | inr implicit ↦ (None, implicit.1)
  ]

  -- where a sure file counts, what is wanted is given
  given_there : (path : List ℕ) (entry : Entry) → HasSureFile kept path → IsWanted kept path entry → GivesEntry kept path entry
  given_there path entry sure at = elim at [ inl gives ↦ gives | inr implicit ↦ absurd (implicit.0.not_given (sure.i, sure.p, sure.counts.at.at)) ]

  -- and no other kind
  file_alone : (path : List ℕ) (sure : HasSureFile kept path) (i : ℕ) (p : Placed) → HasKey kept (path_key path) i p → (kind_place p.action.kind ≡ 1 → ⊥) → ⊥
  file_alone path sure i p at apart = one_kind (path_key path) i sure.i p sure.p at sure.counts.at.at (λ same. apart (same ∙ ap kind_place sure.counts.at.file))

  -- and the file that is wanted is that one
  file_sure : (path : List ℕ) (p : Placed) (i : ℕ) (preserve : Preserve) → HasSureFile kept path → Counts kept path i p → values_of (codes "preserve") p.action.attrs ≡ preserve_values preserve → is_sure preserve ≡ false → ⊥
  file_sure path p i preserve sure counts values e =
      let same : i ≡ sure.i = one_counts kept path i sure.i p sure.p counts sure.counts in
      let one : p ≡ sure.p = one_there kept i p sure.p counts.at.at.here (subst (λ (k : ℕ). slice_get kept k ≡ Some sure.p) (sym same) sure.counts.at.at.here) in
      true≢false (sym (may_miss preserve p.action values e) ∙ ap (λ (x : Placed). may_be_missing x.action) one ∙ sure.sure)

  module _ (entries : List (List ℕ × Entry)) (want : IsWantOf kept entries) (whole : (path : List ℕ) → IsWantedPath kept path → Contains (map (λ e. e.0) entries) path) where
    wanted_there : (path : List ℕ) (entry : Entry) → Contains entries (path, entry) → IsWanted kept path entry
    wanted_there path entry there = All-contains (λ (e : List ℕ × Entry). IsWanted kept e.0 e.1) entries (path, entry) want.each there

    held : (path : List ℕ) (entry : Entry) → Contains entries (path, entry) → IsDirWanted entries (parent path)
    held path entry there = go (parent path) refl
      where
        go : (o : Option (List ℕ)) → parent path ≡ o → IsDirWanted entries o
        go None is = tt
        go (Some d) is =
            let below : is_below d path ≡ true = down_one d path d is (inl refl) in
            let w : IsWantedPath kept path = wanted_path kept path entry (wanted_there path entry there) in
            let found = entry_there entries d (whole d (above_wanted kept d path below w)) in
            let dir = dir_wanted d path below w found.0 (wanted_there d found.0 found.1) in
            (dir.0, subst (λ (x : Entry). Contains entries (d, x)) dir.1 found.1)

    module _ (end : List ℕ) (sure : (HasSureFile kept end → ⊥) → ⊥) where
      file_at : (entry : Entry) → Contains entries (end, entry) → IsWanted kept end entry → IsFileWanted entries end
      file_at (Dir mode) there w = absurd (sure (λ s. let g = given_there end (Dir mode) s w in file_alone end s g.i g.p g.at (λ one. let k : kind_place g.p.action.kind ≡ 0 = ap kind_place g.means.0 in omega (arith, k, one))))
      file_at (Link target) there w = absurd (sure (λ s. let g = given_there end (Link target) s w in file_alone end s g.i g.p g.at (λ one. let k : kind_place g.p.action.kind ≡ 2 = ap kind_place g.means.0 in omega (arith, k, one))))
      file_at (Hard to) there w = absurd (sure (λ s. let g = given_there end (Hard to) s w in file_alone end s g.i g.p g.at (λ one. let k : kind_place g.p.action.kind ≡ 3 = ap kind_place g.means.0 in omega (arith, k, one))))
      file_at (File payload mode preserve) there w = (
        payload,
        mode,
        preserve,
        there,
        elim (cases_Bool (is_sure preserve)) [
          | inl is ↦ is
          | inr other ↦ absurd (sure (λ s. let g = given_there end (File payload mode preserve) s w in file_sure end g.p g.i preserve s (g.counts g.means.0) g.means.3 other))
        ],
      )

      file_there : IsFileWanted entries end
      file_there = elim (cases_Bool (list_any (is_same end) (map (λ (e : List ℕ × Entry). e.0) entries))) [
        | inl some ↦
            let found = entry_there entries end (Contains-from_any {eq = is_same} same_true end (map (λ (e : List ℕ × Entry). e.0) entries) some) in
            file_at found.0 found.1 (wanted_there end found.0 found.1)
        | inr none ↦ absurd (sure (λ s.
            let path : IsWantedPath kept end = inr (end, (s.i, s.p, s.counts.at.at), covers-self end) in
            true≢false (sym (list_any-from_Contains {eq = is_same} nat_list_eq_equiv end (map (λ (e : List ℕ × Entry). e.0) entries) (whole end path)) ∙ none)))
      ]

    leads : (path : List ℕ) (entry : Entry) → IsWanted kept path entry → LeadsToWanted entries entry
    leads path (Dir mode) w = tt
    leads path (File payload mode preserve) w = tt
    leads path (Link target) w = tt
    leads path (Hard to) w = elim w [
      | inl gives ↦ file_there to.bytes (λ none.
          free (record { key = path_key path; rule = rule.Target; first = gives.i; second = Some gives.i }) (record {
            a = gives.p;
            a_key = gives.at;
            second = refl;
            hard = gives.means.0;
            lost = λ led. none (subst (HasSureFile kept) (same_Some led.path to.bytes (sym led.led ∙ gives.means.1)) led.file);
          }))
      | inr implicit ↦ let other : Hard to ≡ Dir None = implicit.1 in absurd cc
    ]

    -- what is wanted hangs together
    pub together : HangTogether entries
    together = record { held = held; led = All-weaker (λ (e : List ℕ × Entry). IsWanted kept e.0 e.1) (λ (e : List ℕ × Entry). LeadsToWanted entries e.1) (λ e w. leads e.0 e.1 w) entries want.each }
