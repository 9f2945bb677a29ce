-- The wanted paths in a map.
use Rattle.std.proofs.Common.{◌≡◌, ◌⊎◌, ◌&&◌, ◌||◌, ℕ, ◌+◌, ◌<◌, ◌≤◌, Bool, true, false, not, List, [], length, Some, None, sym, ap, subst, ◌∙◌, inl, inr, arith}
use Rattle.std.specs.Prelude.{◌↔◌, is_some, slice_get, codes}
use Rattle.std.specs.Map.{lookup}
use Rattle.std.specs.Option.{unwrap_or}
use Rattle.std.proofs.lemmas.Bool.{true≢false, or_cases, or_left, or_right, and_parts, and_from}
use Rattle.std.proofs.lemmas.Option.{slice_get_within, none-some, same_Some}
use Rattle.ips_text.specs.Path.{IsPath}
use Rattle.ips_text.specs.Ancestry.{same_path, covers, is_below}
use Rattle.ips_action.specs.Attrs.{is_same}
use Rattle.ips_conflict.specs.declared.placed.Placed.{Placed}
use Rattle.ips_conflict.specs.Clash.{HasKey, path_key, has_legacy}
use Rattle.ips_conflict.proofs.Marked.{below_covers}
use Rattle.ips_conflict.proofs.Places.{one_there, below_or_last}
use Rattle.ips_meaning.specs.Want.{is_needed}
use Rattle.ips_meaning.specs.Places.{given_path, PathMap, HoldsAbove, has_path, place_of, AreWanted}
use Rattle.ips_meaning.proofs.Given.{given_is, given_from}
use Rattle.ips_meaning.proofs.Fronts.{covered, covers_path, legacy_path}
use Rattle.ips_text.proofs.Fronts.{records_path}

-- a path is added with what stands above it
pub added : (path p : List ℕ) (old mid new : Bool) → (mid ≡ true) ↔ ((old ≡ true) ⊎ (is_below p path ≡ true)) → new ≡ (is_same p path || mid) → (new ≡ true) ↔ ((old ≡ true) ⊎ (covers p path ≡ true))
added path p old mid new above one = (
  λ h. elim (or_cases (is_same p path) mid (sym one ∙ h)) [
    | inl same ↦ inr ((covered p path).1 (inl same))
    | inr marked ↦ elim (above.0 marked) [ inl had ↦ inl had | inr below ↦ inr ((covered p path).1 (inr below)) ]
  ],
  λ w. elim w [
    | inl had ↦ one ∙ or_right (is_same p path) mid (above.1 (inl had))
    | inr cover ↦ elim ((covered p path).0 cover) [ inl same ↦ one ∙ or_left (is_same p path) mid same | inr below ↦ one ∙ or_right (is_same p path) mid (above.1 (inr below)) ]
  ],
)

-- ---- what the image itself needs

nothing : (set : PathMap) (p : List ℕ) → set.entries ≡ [] → has_path set p ≡ true → ⊥
nothing set p e h = true≢false (sym h ∙ ap (λ (es : _). is_some (lookup (λ k. is_same p k.items) es)) e)

pub no_place : (map : PathMap) (p : List ℕ) → map.entries ≡ [] → place_of map p ≡ None
no_place map p e = ap (λ (es : _). unwrap_or (lookup (λ k. is_same p k.items) es) None) e

pub needed_plain : (kept : List Placed) (none set : PathMap) (p : List ℕ) → none.entries ≡ [] → has_legacy kept ≡ false → (has_path set p ≡ true) ↔ ((has_path none p ≡ true) ⊎ (covers p (codes "var/pkg") ≡ true)) → (has_path set p ≡ true) ↔ (is_needed kept p ≡ true)
needed_plain kept none set p e plain adds = (
  λ h. elim (adds.0 h) [ inl had ↦ absurd (nothing none p e had) | inr cover ↦ or_left (covers p (codes "var/pkg")) (has_legacy kept && covers p (codes "var/sadm/pkg")) cover ],
  λ h. adds.1 (elim (or_cases (covers p (codes "var/pkg")) (has_legacy kept && covers p (codes "var/sadm/pkg")) h) [
    | inl cover ↦ inr cover
    | inr legacy ↦ absurd (true≢false (sym (and_parts (has_legacy kept) (covers p (codes "var/sadm/pkg")) legacy).0 ∙ plain))
  ]),
)

pub needed_legacy : (kept : List Placed) (none mid set : PathMap) (p : List ℕ) → none.entries ≡ [] → has_legacy kept ≡ true → (has_path mid p ≡ true) ↔ ((has_path none p ≡ true) ⊎ (covers p (codes "var/pkg") ≡ true))
    → (has_path set p ≡ true) ↔ ((has_path mid p ≡ true) ⊎ (covers p (codes "var/sadm/pkg") ≡ true)) → (has_path set p ≡ true) ↔ (is_needed kept p ≡ true)
needed_legacy kept none mid set p e legacy first second =
    let own = covers p (codes "var/pkg") in
    let entries = has_legacy kept && covers p (codes "var/sadm/pkg") in (
      λ h. elim (second.0 h) [
        | inl had ↦ elim (first.0 had) [ inl never ↦ absurd (nothing none p e never) | inr cover ↦ or_left own entries cover ]
        | inr cover ↦ or_right own entries (and_from (has_legacy kept) (covers p (codes "var/sadm/pkg")) legacy cover)
      ],
      λ h. second.1 (elim (or_cases own entries h) [
        | inl cover ↦ inl (first.1 (inr cover))
        | inr both ↦ inr (and_parts (has_legacy kept) (covers p (codes "var/sadm/pkg")) both).1
      ]),
    )

-- ---- what stands above something in the map

above_cover : (p q below : List ℕ) → is_below p q ≡ true → covers q below ≡ true → covers p below ≡ true
above_cover p q below upper cover = (and_parts (covers p below) (not (same_path p below)) (below_covers p q below upper cover)).0

pub first_holds : (none set : PathMap) (path : List ℕ) → none.entries ≡ [] → ((p : List ℕ) → (has_path set p ≡ true) ↔ ((has_path none p ≡ true) ⊎ (covers p path ≡ true))) → HoldsAbove set
first_holds none set path e adds p q had upper = (adds p).1 (elim ((adds q).0 had) [ inl never ↦ absurd (nothing none q e never) | inr cover ↦ inr (above_cover p q path upper cover) ])

-- what is needed is a path
pub needed_proper : (kept : List Placed) (p : List ℕ) → is_needed kept p ≡ true → IsPath p
needed_proper kept p h = elim (or_cases (covers p (codes "var/pkg")) (has_legacy kept && covers p (codes "var/sadm/pkg")) h) [
  | inl cover ↦ covers_path p (codes "var/pkg") records_path cover
  | inr both ↦ covers_path p (codes "var/sadm/pkg") legacy_path (and_parts (has_legacy kept) (covers p (codes "var/sadm/pkg")) both).1
]

-- ---- what actions give

abbrev pub IsGivenTo : List Placed → ℕ → List ℕ → Type 0
IsGivenTo kept k path = (i : ℕ) × (q : Placed) × (i < k) × HasKey kept (path_key path) i q

pub record WantedTo (kept : List Placed) (k : ℕ) (set : PathMap) : Type 0 where
  pub paths : (p : List ℕ) → (has_path set p ≡ true) ↔ ((is_needed kept p ≡ true) ⊎ ((below : List ℕ) × IsGivenTo kept k below × (covers p below ≡ true)))
  pub proper : (p : List ℕ) → has_path set p ≡ true → IsPath p

pub wanted_none : (kept : List Placed) (set : PathMap) → ((p : List ℕ) → (has_path set p ≡ true) ↔ (is_needed kept p ≡ true)) → ((p : List ℕ) → has_path set p ≡ true → IsPath p) → WantedTo kept 0 set
wanted_none kept set needs proper = record {
  paths = λ p. (λ h. inl ((needs p).0 h), λ w. elim w [ inl h ↦ (needs p).1 h | inr given ↦ absurd (omega (arith, given.1.2)) ]);
  proper = proper;
}

pub wanted_holds : (kept : List Placed) (k : ℕ) (set : PathMap) → WantedTo kept k set → HoldsAbove set
wanted_holds kept k set all p q had upper = (all.paths p).1 (elim ((all.paths q).0 had) [
  | inl need ↦ inl (elim (or_cases (covers q (codes "var/pkg")) (has_legacy kept && covers q (codes "var/sadm/pkg")) need) [
    | inl cover ↦ or_left (covers p (codes "var/pkg")) (has_legacy kept && covers p (codes "var/sadm/pkg")) (above_cover p q (codes "var/pkg") upper cover)
    | inr both ↦
        let w = and_parts (has_legacy kept) (covers q (codes "var/sadm/pkg")) both in
        or_right (covers p (codes "var/pkg")) (has_legacy kept && covers p (codes "var/sadm/pkg")) (and_from (has_legacy kept) (covers p (codes "var/sadm/pkg")) w.0 (above_cover p q (codes "var/sadm/pkg") upper w.1))
  ])
  | inr given ↦ inr (given.0, given.1, above_cover p q given.0 upper given.2)
])

pub wanted_more : (kept : List Placed) (k : ℕ) (q : Placed) (path : List ℕ) (old new : PathMap) → slice_get kept k ≡ Some q → given_path q ≡ Some path → IsPath path → WantedTo kept k old
    → ((p : List ℕ) → (has_path new p ≡ true) ↔ ((has_path old p ≡ true) ⊎ (covers p path ≡ true))) → WantedTo kept (k + 1) new
wanted_more kept k q path old new here gives proper so_far adds = record {
  paths = λ p. (
    λ h. elim ((adds p).0 h) [
      | inl had ↦ elim ((so_far.paths p).0 had) [ inl need ↦ inl need | inr w ↦ inr (w.0, (w.1.0, w.1.1, omega (arith, w.1.2), w.1.3), w.2) ]
      | inr cover ↦ inr (path, (k, q, omega arith, record { here = here; key_is = given_is q path gives }), cover)
    ],
    λ w. (adds p).1 (elim w [
      | inl need ↦ inl ((so_far.paths p).1 (inl need))
      | inr given ↦ elim (below_or_last given.1.0 k given.1.2) [
        | inl lt ↦ inl ((so_far.paths p).1 (inr (given.0, (given.1.0, given.1.1, lt, given.1.3), given.2)))
        | inr same ↦
            let one : given.1.1 ≡ q = one_there kept k given.1.1 q (subst (λ (j : ℕ). slice_get kept j ≡ Some given.1.1) same given.1.3.here) here in
            let at : given.0 ≡ path = same_Some given.0 path (sym (given_from given.1.1 given.0 given.1.3.key_is) ∙ ap given_path one ∙ gives) in
            inr (subst (λ (x : List ℕ). covers p x ≡ true) at given.2)
      ]
    ]),
  );
  proper = λ p h. elim ((adds p).0 h) [ inl had ↦ so_far.proper p had | inr cover ↦ covers_path p path proper cover ];
}

pub wanted_same : (kept : List Placed) (k : ℕ) (q : Placed) (set : PathMap) → slice_get kept k ≡ Some q → given_path q ≡ None → WantedTo kept k set → WantedTo kept (k + 1) set
wanted_same kept k q set here gives so_far = record {
  paths = λ p. (
    λ h. elim ((so_far.paths p).0 h) [ inl need ↦ inl need | inr w ↦ inr (w.0, (w.1.0, w.1.1, omega (arith, w.1.2), w.1.3), w.2) ],
    λ w. (so_far.paths p).1 (elim w [
      | inl need ↦ inl need
      | inr given ↦ elim (below_or_last given.1.0 k given.1.2) [
        | inl lt ↦ inr (given.0, (given.1.0, given.1.1, lt, given.1.3), given.2)
        | inr same ↦
            let one : given.1.1 ≡ q = one_there kept k given.1.1 q (subst (λ (j : ℕ). slice_get kept j ≡ Some given.1.1) same given.1.3.here) here in
            absurd (none-some given.0 (sym gives ∙ sym (ap given_path one) ∙ given_from given.1.1 given.0 given.1.3.key_is))
      ]
    ]),
  );
  proper = so_far.proper;
}

pub wanted_done : (kept : List Placed) (k : ℕ) (set : PathMap) → length kept ≤ k → WantedTo kept k set → AreWanted kept set
wanted_done kept k set le all = record {
  paths = λ p. (
    λ h. elim ((all.paths p).0 h) [ inl need ↦ inl need | inr w ↦ inr (w.0, (w.1.0, w.1.1, w.1.3), w.2) ],
    λ w. (all.paths p).1 (elim w [ inl need ↦ inl need | inr given ↦ inr (given.0, (given.1.0, given.1.1, omega (arith, slice_get_within kept given.1.0 given.1.1 given.1.2.here), given.1.2), given.2) ]),
  );
  proper = all.proper;
}
