-- Packages deliver one thing, and license newly one list of texts.
use Rattle.std.proofs.Common.{◌≡◌, ℕ, true, List, [], ◌∷◌, map, Option, Result, Ok, is_some, refl, sym, ap, subst, ◌∙◌, inl, inr, arith, Contains}
use Rattle.std.specs.List.{All, join_with_byte}
use Rattle.std.specs.Fmt.{decimal}
use Rattle.std.proofs.lemmas.List.Elements.{All-head, All-tail}
use Rattle.std.proofs.lemmas.Option.{same_Some}
use Rattle.ips_action.specs.Action.{Fields}
use Rattle.ips_conflict.specs.declared.placed.Placed.{Placed}
use Rattle.ips_books.specs.declared.fault.Unknown.{Unknown}
use Rattle.ips_books.specs.Accounts.{Accounts, resolved}
use Rattle.ips_metafiles.specs.declared.owner.OwnerRow.{OwnerRow}
use Rattle.ips_metafiles.specs.Records.{IsDrivers, lines_text, owner_line, owners_text}
use Rattle.ips_text.specs.Quote.{shown}
use Rattle.ips_due.specs.Delivered.{Delivered}
use Rattle.ips_delivered.specs.delivered.Delivering.{AreOwnerRows, IsOwnerRow, PackagesDeliver, group_name, legacies_of, licenses_of, owner_name, owning}
use Rattle.ips_delivered.specs.withdrawn.Withdrawn.{IsDeliveredBy}
use Rattle.ips_state.specs.declared.state.State.{State}
use Rattle.ips_state.specs.State.{recorded}
use Rattle.ips_laws.proofs.Elements.{here_or_later}
use Rattle.ips_laws.proofs.InOrder.{same_paths}
use Rattle.ips_laws.proofs.plan_laws.States.{admitted_same}

-- ---- owners

-- what stands before the path in the line of an owner
abbrev owner_text : ℕ × ℕ → List ℕ → List ℕ → List ℕ → List ℕ
owner_text numbers owner group path = join_with_byte 32 (decimal numbers.0 ∷ decimal numbers.1 ∷ owner ∷ group ∷ shown path ∷ [])

abbrev paths_in : List OwnerRow → List (List ℕ)
paths_in rows = map (λ (r : OwnerRow). r.path.bytes) rows

module _ (books : Accounts) (admitted : List Placed) where
  numbers_one : (x y : ℕ × ℕ) (r : Result (ℕ × ℕ) Unknown) → r ≡ Ok x → r ≡ Ok y → x ≡ y
  numbers_one x y r h k = cc

  -- the owner of a path is told in one way
  row_one : (r s : OwnerRow) → r.path.bytes ≡ s.path.bytes → IsOwnerRow books admitted r → IsOwnerRow books admitted s → owner_line r ≡ owner_line s
  row_one r s path h k =
      let action : h.action ≡ k.action = same_Some h.action k.action (sym h.owning ∙ ap (owning admitted) path ∙ k.owning) in
      let owner : r.owner ≡ s.owner = h.owner ∙ ap owner_name action ∙ sym k.owner in
      let group : r.group ≡ s.group = h.group ∙ ap group_name action ∙ sym k.group in
      let numbers : (r.uid, r.gid) ≡ (s.uid, s.gid) = numbers_one (r.uid, r.gid) (s.uid, s.gid) (resolved books s.owner s.group) (sym (λ i. resolved books (owner i) (group i)) ∙ h.numbers) k.numbers in
      λ i. owner_text (numbers i) (owner i) (group i) (path i)

  rows_one : (xs ys : List OwnerRow) → paths_in xs ≡ paths_in ys → All (IsOwnerRow books admitted) xs → All (IsOwnerRow books admitted) ys → map owner_line xs ≡ map owner_line ys
  rows_one [] [] same h k = refl
  rows_one [] (y ∷ ys) same h k = cc
  rows_one (x ∷ xs) [] same h k = cc
  rows_one (x ∷ xs) (y ∷ ys) same h k =
      let first : x.path.bytes ≡ y.path.bytes = cc in
      let rest : paths_in xs ≡ paths_in ys = cc in
      let line = row_one x y first (All-head (IsOwnerRow books admitted) x xs h) (All-head (IsOwnerRow books admitted) y ys k) in
      let lines = rows_one xs ys rest (All-tail (IsOwnerRow books admitted) x xs h) (All-tail (IsOwnerRow books admitted) y ys k) in
      λ i. line i ∷ lines i

  -- a path that one list of rows tells of has an owner, so that the other tells of it
  tells_too : (xs ys : List OwnerRow) → AreOwnerRows books admitted xs → AreOwnerRows books admitted ys → (p : List ℕ) → Contains (paths_in xs) p → Contains (paths_in ys) p
  tells_too xs ys h k p there = k.whole p (owned xs h.each p there)
    where
      owned : (rows : List OwnerRow) → All (IsOwnerRow books admitted) rows → (p : List ℕ) → Contains (paths_in rows) p → is_some (owning admitted p) ≡ true
      owned [] each p there = absurd (omega (arith, there.1))
      owned (r ∷ rows) each p there = elim (here_or_later r.path.bytes (paths_in rows) p there) [
        | inl is ↦ ap (λ (q : List ℕ). is_some (owning admitted q)) (sym is) ∙ ap (λ (o : Option Placed). is_some o) (All-head (IsOwnerRow books admitted) r rows each).owning
        | inr later ↦ owned rows (All-tail (IsOwnerRow books admitted) r rows each) p later
      ]

  owners_one : (xs ys : List OwnerRow) → AreOwnerRows books admitted xs → AreOwnerRows books admitted ys → owners_text xs ≡ owners_text ys
  owners_one xs ys h k =
      let paths = same_paths (paths_in xs) (paths_in ys) h.in_order k.in_order (tells_too xs ys h k) (tells_too ys xs k h) in
      ap lines_text (rows_one xs ys paths h.each k.each)

-- ---- drivers

drivers_one : (actions : List Fields) (x y : List ℕ) → IsDrivers actions x → IsDrivers actions y → x ≡ y
drivers_one actions x y h k =
    let lines = same_paths h.lines k.lines h.ascend k.ascend (λ p there. (k.each p).1 ((h.each p).0 there)) (λ p there. (h.each p).1 ((k.each p).0 there)) in
    h.written ∙ ap lines_text lines ∙ sym k.written

-- ---- all of it

-- packages with the same records deliver one thing, where owners have the numbers of the same accounts
pub deliveries_one : (books : Accounts) (a b : State) (x y : Delivered) → recorded a ≡ recorded b → PackagesDeliver books a.settings a.installed.items x → PackagesDeliver books b.settings b.installed.items y → x ≡ y
deliveries_one books a b x y same h k =
    let admitted : h.admitted ≡ k.admitted = admitted_same a b same h.admitted k.admitted h.are_admitted k.are_admitted in
    let rows : owners_text h.rows ≡ owners_text k.rows = owners_one books k.admitted h.rows k.rows (subst (λ (l : List Placed). AreOwnerRows books l h.rows) admitted h.are_rows) k.are_rows in
    let drivers : h.drivers ≡ k.drivers = drivers_one (map (λ (p : Placed). p.action) k.admitted) h.drivers k.drivers (subst (λ (l : List Placed). IsDrivers (map (λ (p : Placed). p.action) l) h.drivers) admitted h.are_drivers) k.are_drivers in
    h.is ∙ (λ i. record { owners = rows i; drivers = drivers i; licenses = licenses_of (admitted i); legacy = legacies_of (admitted i) }) ∙ sym k.is

-- and one list of licenses and one of legacy packages, whoever owns their files
pub names_one : (a b : State) (x y : Delivered) → recorded a ≡ recorded b → IsDeliveredBy a x → IsDeliveredBy b y → (x.licenses ≡ y.licenses) × (x.legacy ≡ y.legacy)
names_one a b x y same h k =
    let admitted : h.admitted ≡ k.admitted = admitted_same a b same h.admitted k.admitted h.are_admitted k.are_admitted in
    (h.licenses_are ∙ ap licenses_of admitted ∙ sym k.licenses_are, h.legacy_are ∙ ap legacies_of admitted ∙ sym k.legacy_are)
