-- What is changed while contents are laid, and that intact ones stay.
use Rattle.std.proofs.Common.{◌≡◌, ℕ, zero, suc, ◌+◌, ◌<◌, Bool, true, false, ◌||◌, ◌⊎◌, List, [], ◌∷◌, length, take, get_or, Option, Some, None, refl, sym, ap, subst, ◌∙◌, inl, inr, arith}
use Rattle.std.specs.List.{Contains}
use Rattle.std.proofs.lemmas.Bool.{cases_Bool, or_cases}
use Rattle.ips_text.specs.Ancestry.{covers, parent}
use Rattle.ips_text.proofs.Ancestry.{covers_trans, covers-parent, parent_covers}
use Rattle.ips_outside.specs.Image.{Image, file_bytes, is_dir, has_parent, dir_or_none}
use Rattle.ips_outside.specs.State.{State, nowhere}
use Rattle.ips_outside.specs.Outside.{Outside, IsOutside, Reads}
use Rattle.ips_folder.specs.Calls.{ChangesOnly}
use Rattle.ips_folder.proofs.Runs.{begun, keeps_then, keeps_wider, one_read}
use Rattle.ips_digest.specs.Name.{IsName, spelling}
use Rattle.ips_digest.specs.declared.name.PayloadName.{PayloadName}
use Rattle.ips_digest.proofs.Names.{spelled_once}
use Rattle.ips_fmri.specs.Name.{IsPublisher}
use Rattle.ips_repo.specs.Places.{payload_place}
use Rattle.ips_repo.specs.Payload.{HasIntact}
use Rattle.ips_sends.proofs.Apart.{payload_covers}
use Rattle.ips_sends.proofs.Free.{component_free, spelled_free, front_free}
use Rattle.std.specs.Prelude.{slice_get}
use Rattle.std.proofs.lemmas.List.{get_or-map, length-map}
use Rattle.std.proofs.lemmas.Option.{slice_get_within, get_or_from_slice_get}
use Rattle.ips_lay.specs.declared.content.Content.{Content}
use Rattle.ips_lay.specs.Laid.{LaysBeside, IsAtUnlaid}
use Rattle.ips_lay.specs.Lists.{AreNames, names_of}

left_off : (a b : Bool) → (a || b) ≡ false → a ≡ false
left_off true b e = cc
left_off false b e = refl

right_off : (a b : Bool) → (a || b) ≡ false → b ≡ false
right_off true b e = cc
right_off false b e = e

only_member : (name other : PayloadName) → Contains (name ∷ []) other → name ≡ other
only_member name other (zero, within, is) = is
only_member name other (suc k, within, is) = absurd (omega (arith, within))

pub one_member : (name : PayloadName) → Contains (name ∷ []) name
one_member name = (zero, omega arith, refl)

module _ (publisher : List ℕ) (is : IsPublisher publisher) where
  same_name : (m n : PayloadName) → IsName m → IsName n → covers (payload_place publisher m) (payload_place publisher n) ≡ true → m ≡ n
  same_name m n is_m is_n over =
      let free = component_free publisher is.form in
      let free_m = spelled_free m is_m in
      let free_n = spelled_free n is_n in
      spelled_once m n is_m is_n (payload_covers publisher publisher m n free free free_m free_n (front_free 2 (spelling m) free_m) (front_free 2 (spelling n) free_n) over).1

  module _ {F : Type 0} (o : Outside F) where
    -- what is intact stays so
    pub stays_intact : (names : List PayloadName) (old new : F) → ((n : PayloadName) → Contains names n → IsName n) → LaysBeside o publisher names old new → (m : PayloadName) → IsName m
        → HasIntact publisher (o.state old).held m → HasIntact publisher (o.state new).held m
    stays_intact names old new are lays m is_m has = elim (cases_Bool (lays.free (payload_place publisher m))) [
      | inl free ↦
          let at = lays.unlaid (payload_place publisher m) free in
          absurd (at.2 (subst (HasIntact publisher (o.state old).held) (sym (same_name at.0 m (are at.0 at.1) is_m at.3)) has))
      | inr off ↦
          let same = lays.only.now.agrees.look (payload_place publisher m) off off in
          (has.0, record { stands = ap file_bytes same ∙ has.1.stands; within = has.1.within; named = has.1.named })
    ]

    -- the directory that a payload is in stays one
    pub parent_stays : (names : List PayloadName) (old new : F) → ((n : PayloadName) → Contains names n → IsName n) → LaysBeside o publisher names old new → (m : PayloadName) → IsName m → (place : List ℕ) → place ≡ payload_place publisher m
        → has_parent (o.state old).held place ≡ true → has_parent (o.state new).held place ≡ true
    parent_stays names old new are lays m is_m place at has = go (parent place) refl has
      where
        go : (q : Option (List ℕ)) → parent place ≡ q → dir_or_none (o.state old).held q ≡ true → dir_or_none (o.state new).held (parent place) ≡ true
        go None none h = rw none refl
        go (Some q) some h = elim (cases_Bool (lays.free q)) [
          | inl free ↦
              let u = lays.unlaid q free in
              let over : covers (payload_place publisher u.0) place ≡ true = covers_trans (payload_place publisher u.0) q place u.3 (parent_covers place q some) in
              let same = same_name u.0 m (are u.0 u.1) is_m (subst (λ (p : List ℕ). covers (payload_place publisher u.0) p ≡ true) at over) in
              let self : covers place q ≡ true = subst (λ (p : List ℕ). covers p q ≡ true) (sym at) (subst (λ (n : PayloadName). covers (payload_place publisher n) q ≡ true) same u.3) in
              let bad : true ≡ false = sym self ∙ covers-parent place q some in cc
          | inr off ↦ rw some (ap is_dir (lays.only.now.agrees.look q off off) ∙ h)
        ]

    pub lays_none : (names : List PayloadName) (old : F) → ((s : State) → o.states old (o.clock old) s → s ≡ o.state old) → LaysBeside o publisher names old old
    lays_none names old now = record { free = nowhere; unlaid = λ q h. absurd (let bad : false ≡ true = h in cc); only = begun o nowhere nowhere old now }

    pub lays_then : (names : List PayloadName) (name : PayloadName) (old mid new : F) → ((n : PayloadName) → Contains names n → IsName n) → Contains names name → LaysBeside o publisher names old mid
        → LaysBeside o publisher (name ∷ []) mid new → LaysBeside o publisher names old new
    lays_then names name old mid new are has a b =
        let free : List ℕ → Bool = λ q. a.free q || b.free q in record {
          free = free;
          unlaid = λ q h. elim (or_cases (a.free q) (b.free q) h) [
            | inl first ↦ a.unlaid q first
            | inr second ↦
                let at = b.unlaid q second in
                let one = only_member name at.0 at.1 in
                (name, has, (λ intact. at.2 (subst (HasIntact publisher (o.state mid).held) one (stays_intact names old mid are a name (are name has) intact))), subst (λ (n : PayloadName). covers (payload_place publisher n) q ≡ true) (sym one) at.3)
          ];
          only = keeps_then o free free old mid new (keeps_wider o a.free a.free free free old mid (λ q off. left_off (a.free q) (b.free q) off) (λ q off. left_off (a.free q) (b.free q) off) a.only)
              (keeps_wider o b.free b.free free free mid new (λ q off. right_off (a.free q) (b.free q) off) (λ q off. right_off (a.free q) (b.free q) off) b.only);
        }

-- a call that only reads lays nothing
pub lays_read : {F : Type 0} (o : Outside F) (sane : IsOutside o) (publisher : List ℕ) (names : List PayloadName) (old new : F) (failure : Type 0) → Reads o old new failure → LaysBeside o publisher names old new
lays_read o sane publisher names old new failure reads = record { free = nowhere; unlaid = λ q h. absurd (let bad : false ≡ true = h in cc); only = one_read o sane nowhere nowhere old new failure reads }

-- a content is laid that wasn't intact
pub lays_written : {F : Type 0} (o : Outside F) (sane : IsOutside o) (publisher : List ℕ) (name : PayloadName) (place : List ℕ) (old mid new : F) (failure : Type 0) → place ≡ payload_place publisher name → (HasIntact publisher (o.state old).held name → ⊥)
    → Reads o old mid failure → ChangesOnly o (covers place) (covers place) mid new → LaysBeside o publisher (name ∷ []) old new
lays_written o sane publisher name place old mid new failure is not reads only = record {
  free = covers place;
  unlaid = λ q h. (name, one_member name, not, subst (λ (p : List ℕ). covers p q ≡ true) is h);
  only = keeps_then o (covers place) (covers place) old mid new (one_read o sane (covers place) (covers place) old mid failure reads) only;
}

-- what isn't intact, as it was found
pub not_intact : {P : Type 0} (b : Bool) → (b ≡ true → P) × (P → b ≡ true) → b ≡ false → P → ⊥
not_intact b found is has = let bad : true ≡ false = sym (found.1 has) ∙ is in cc

-- ---- lists of contents

pub name_in : (contents : List Content) (n : ℕ) (c : Content) → slice_get contents n ≡ Some c → Contains (names_of contents) c.name
name_in contents n c at =
    let lt = slice_get_within contents n c at in
    let here : get_or (names_of contents) n c.name ≡ c.name = get_or-map (λ (x : Content). x.name) contents n c c.name lt ∙ ap (λ (x : Content). x.name) (get_or_from_slice_get contents n c c at) in
    (n, omega (arith, lt, length-map contents (λ (x : Content). x.name)), here)

-- what is said of each content's name is said of each name
by_member : (P : PayloadName → Type 0) (contents : List Content) → ((n : ℕ) (c : Content) → slice_get contents n ≡ Some c → P c.name) → (m : PayloadName) → Contains (names_of contents) m → P m
by_member P [] each m (k, within, is) = absurd (omega (arith, within))
by_member P (x ∷ contents) each m (zero, within, is) = subst P is (each 0 x refl)
by_member P (x ∷ contents) each m (suc k, within, is) = by_member P contents (λ n c at. each (suc n) c at) m (k, omega (arith, within), is)

pub names_are : (contents : List Content) → AreNames contents → (m : PayloadName) → Contains (names_of contents) m → IsName m
names_are contents are m has = by_member IsName contents are m has

pub all_intact : (publisher : List ℕ) (t : Image) (contents : List Content) → ((n : ℕ) (c : Content) → slice_get contents n ≡ Some c → HasIntact publisher t c.name) → (m : PayloadName) → Contains (names_of contents) m → HasIntact publisher t m
all_intact publisher t contents each m has = by_member (HasIntact publisher t) contents each m has

before_or : (n i : ℕ) → n < i + 1 → (n < i) ⊎ (n ≡ i)
before_or zero zero lt = inr refl
before_or zero (suc i) lt = inl (omega arith)
before_or (suc n) zero lt = absurd (omega (arith, lt))
before_or (suc n) (suc i) lt = elim (before_or n i (omega (arith, lt))) [ inl l ↦ inl (omega (arith, l)) | inr e ↦ inr (ap suc e) ]

-- the first contents are intact, with one more
pub members_stay : (publisher : List ℕ) → IsPublisher publisher → {F : Type 0} (o : Outside F) (contents : List Content) → AreNames contents → (i : ℕ) (x : Content) → slice_get contents i ≡ Some x → (mid new : F)
    → ((n : ℕ) (c : Content) → n < i → slice_get contents n ≡ Some c → HasIntact publisher (o.state mid).held c.name) → LaysBeside o publisher (x.name ∷ []) mid new → HasIntact publisher (o.state new).held x.name
    → (n : ℕ) (c : Content) → n < i + 1 → slice_get contents n ≡ Some c → HasIntact publisher (o.state new).held c.name
members_stay publisher is o contents are i x at mid new before lays here n c lt there = elim (before_or n i lt) [
  | inl l ↦ stays_intact publisher is o (x.name ∷ []) mid new (λ m has. subst IsName (only_member x.name m has) (are i x at)) lays c.name (are n c there) (before n c l there)
  | inr e ↦ subst (λ (k : Content). HasIntact publisher (o.state new).held k.name) (same x c (sym at ∙ sym (ap (slice_get contents) e) ∙ there)) here
]
  where
    same : (x c : Content) → (let o : Option Content = Some x in o) ≡ Some c → x ≡ c
    same x c e = cc
