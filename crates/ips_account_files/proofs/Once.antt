-- Where folder and repository tell what they hold, just one answer is right.
use Rattle.std.proofs.Common.{◌≡◌, ◌≢◌, ◌⊎◌, inl, inr, ⊎_elim, ℕ, ◌<◌, ◌≤◌, Bool, true, false, if◌then◌else◌, nat_lt, IsTrue, List, length, Option, Some, None, Result, Ok, Err, refl, sym, ◌∙◌, ap, subst, arith}
use Rattle.std.proofs.lemmas.Option.{none-some, same_Some}
use Rattle.std.proofs.lemmas.Bool.{le-ltb}
use Rattle.ips_digest.specs.declared.name.PayloadName.{PayloadName}
use Rattle.ips_digest.specs.Name.{spelling}
use Rattle.ips_digest.proofs.Names.{spelled_once}
use Rattle.ips_outside.specs.Image.{Entry, File, Image}
use Rattle.ips_outside.specs.Outside.{readable}
use Rattle.ips_steps.proofs.Lists.{clash}
use Rattle.ips_files.specs.Files.{HasSize, file_at}
use Rattle.ips_repo.specs.declared.fault.RepoFault.{RepoFault}
use Rattle.ips_repo.specs.declared.fault.RepoFault.TheVariants as faults
use Rattle.ips_repo.specs.Payload.{IsDamage, IsPayload, PayloadReading, digest_by, is_gzip, payload_in, payload_limit, payload_opening}
use Rattle.ips_repo.specs.Places.{payload_place}
use Rattle.ips_action.specs.Action.{Fields}
use Rattle.ips_books.specs.declared.fault.AccountFault.{AccountFault}
use Rattle.ips_books.specs.Reading.{Texts}
use Rattle.ips_after.specs.Request.{Request}
use Rattle.ips_due.specs.Due.{DueFile}
use Rattle.ips_due.proofs.outstanding.Compared.{size_of}
use Rattle.ips_account_files.specs.declared.ledger.blocked.Blocked.{Blocked}
use Rattle.ips_account_files.specs.declared.ledger.fault.LedgerFault.{LedgerFault}
use Rattle.ips_account_files.specs.declared.ledger.fault.LedgerFault.TheVariants as fault
use Rattle.ips_account_files.specs.declared.ledger.left.Left.{Left}
use Rattle.ips_account_files.specs.declared.ledger.left.Left.TheVariants.{Nothing, Standing, Laid}
use Rattle.ips_account_files.specs.declared.ledger.outdated.Modes.{Modes}
use Rattle.ips_account_files.specs.ledger.Base.{mode_left}
use Rattle.ips_account_files.specs.ledger.Editing.{due_books, edited_where}
use Rattle.ips_account_files.specs.ledger.Left.{IsLeftOf}
use Rattle.ips_account_files.specs.ledger.Texts.{IsPayloadFault, IsStandingUnread, IsTextLeft, IsTextUnread, IsUnread, account_limit}
use Rattle.ips_account_files.specs.Around.{Around, has_accounts}
use Rattle.ips_account_files.specs.Bases.{AreBases, AreBlocked, IsBaseOf, IsBaseWhere, IsFirstUnread, IsFirstUnreadWhere, IsGivenWhere, IsUnreadWhere}
use Rattle.ips_account_files.proofs.Due.{ok_err}
use Rattle.ips_account_files.proofs.Found.{modes_of, texts_of, three}
use Rattle.ips_account_files.specs.Behind.{AreEdited, Behind, BehindWhere, Files, IsRefused, IsTold, IsUnedited}

abbrev files_of : Texts → List DueFile → Files
files_of books due = record { books = books; due = due }

ok_one : (x y : Texts) → (let z : Result Texts AccountFault = Ok x in z) ≡ Ok y → x ≡ y
ok_one x y h = cc

err_one : (x y : AccountFault) → (let z : Result Texts AccountFault = Err x in z) ≡ Err y → x ≡ y
err_one x y h = cc

same_err : {A E : Type 0} (x y : E) (r : Result A E) → r ≡ Err x → r ≡ Err y → x ≡ y
same_err x y r a b = cc

-- ---- what is left

same_mode : (m n : ℕ) (b : List ℕ) → Some (File m b) ≡ Some (File n b) → m ≡ n
same_mode m n b h = cc

left_one : (r : Request) (t : Image) (emptied : List ℕ → Bool) (path : List ℕ) (x y : Left) → IsLeftOf r t emptied path x → IsLeftOf r t emptied path y → x ≡ y
left_one r t emptied path Nothing Nothing hx hy = refl
left_one r t emptied path Nothing (Standing m) hx hy = absurd (none-some _ (hx.is ∙ sym hy.is))
left_one r t emptied path Nothing (Laid n m) hx hy = absurd (none-some _ (hx.is ∙ sym hy.is))
left_one r t emptied path (Standing m) Nothing hx hy = absurd (none-some _ (hy.is ∙ sym hx.is))
left_one r t emptied path (Standing m) (Standing k) hx hy = ap Standing (same_mode m k (readable (t.look path)) (hx.is ∙ sym hy.is))
left_one r t emptied path (Standing m) (Laid n k) hx hy = absurd (clash _ hy.own.0 hx.own)
left_one r t emptied path (Laid n m) Nothing hx hy = absurd (none-some _ (hy.is ∙ sym hx.is))
left_one r t emptied path (Laid n m) (Standing k) hx hy = absurd (clash _ hx.own.0 hy.own)
left_one r t emptied path (Laid n m) (Laid o k) hx hy =
    let same = same_Some (spelling n, m) (spelling o, k) (sym hx.own.1 ∙ hy.own.1) in
    ap (λ (p : PayloadName). Laid p m) (spelled_once n o hx.own.2 hy.own.2 (ap (λ (x : List ℕ × ℕ). x.0) same)) ∙ ap (Laid o) (ap (λ (x : List ℕ × ℕ). x.1) same)

-- ---- payloads

opens : (b : Bool) (e w : RepoFault) (x : PayloadReading) → b ≡ false → (if b then Err e else Ok x) ≡ Err w → ⊥
opens true e w x h is = absurd (clash true refl h)
opens false e w x h is = ok_err x w (sym is)

-- a payload with a file that isn't too large is opened
opened : (publisher : List ℕ) (t : Image) (name : PayloadName) (bytes : List ℕ) (w : RepoFault) → file_at t (payload_place publisher name) ≡ Some bytes → length bytes ≤ payload_limit → payload_opening publisher name t ≡ Err w → ⊥
opened publisher t name bytes w stands few is =
    opens (nat_lt payload_limit (length bytes)) _ w _ (le-ltb payload_limit (length bytes) few) (ap (payload_in name (payload_place publisher name)) (sym stands) ∙ is)

damage_is : (name : PayloadName) (bytes : List ℕ) (w : RepoFault) → IsDamage name bytes w
    → ((w ≡ faults.PayloadDamaged (digest_by name bytes)) × (is_gzip bytes ≡ false) × (digest_by name bytes ≡ name → ⊥)) ⊎ ((w ≡ faults.Compressed (digest_by name bytes)) × (is_gzip bytes ≡ true) × (digest_by name bytes ≡ name → ⊥))
damage_is name bytes faults.NoRepository h = absurd h
damage_is name bytes (faults.BadCatalog why) h = absurd h
damage_is name bytes faults.ManifestMissing h = absurd h
damage_is name bytes (faults.BadManifest why) h = absurd h
damage_is name bytes faults.PayloadMissing h = absurd h
damage_is name bytes (faults.PayloadDamaged found) h = inl (ap faults.PayloadDamaged h.0, h.2, λ e. h.1 (h.0 ∙ e))
damage_is name bytes (faults.Compressed found) h = inr (ap faults.Compressed h.0, h.2, λ e. h.1 (h.0 ∙ e))
damage_is name bytes (faults.TooLarge which count) h = absurd h
damage_is name bytes faults.SourceFault h = absurd h

damage_one : (name : PayloadName) (bytes : List ℕ) (v w : RepoFault) → IsDamage name bytes v → IsDamage name bytes w → v ≡ w
damage_one name bytes v w hv hw =
    ⊎_elim
    (λ x. ⊎_elim (λ y. x.0 ∙ sym y.0) (λ y. clash (is_gzip bytes) y.1 x.1) (damage_is name bytes w hw))
    (λ x. ⊎_elim (λ y. clash (is_gzip bytes) x.1 y.1) (λ y. x.0 ∙ sym y.0) (damage_is name bytes w hw))
    (damage_is name bytes v hv)

not_damaged : (name : PayloadName) (bytes : List ℕ) (w : RepoFault) → digest_by name bytes ≡ name → IsDamage name bytes w → ⊥
not_damaged name bytes w named h = ⊎_elim (λ x. x.2 named) (λ x. x.2 named) (damage_is name bytes w h)

module _ (tells : Bool) (publisher : List ℕ) (t : Image) (tell : IsTrue tells) where
  -- a payload that can be taken has no fault
  no_payload_fault : (name : PayloadName) (bytes : List ℕ) (w : RepoFault) → IsPayload tells publisher t name bytes → length bytes ≤ payload_limit → IsPayloadFault tells publisher t name w → ⊥
  no_payload_fault name bytes w is few (inl shut) = opened publisher t name bytes w (is.held tell) few (shut.held tell)
  no_payload_fault name bytes w is few (inr bad) =
      not_damaged name bytes w is.named (subst (λ (b : List ℕ). IsDamage name b w) (same_Some bad.bytes bytes (sym (bad.held tell) ∙ is.held tell)) bad.damage)

  payload_fault_one : (name : PayloadName) (v w : RepoFault) → IsPayloadFault tells publisher t name v → IsPayloadFault tells publisher t name w → v ≡ w
  payload_fault_one name v w (inl x) (inl y) = same_err v w (payload_opening publisher name t) (x.held tell) (y.held tell)
  payload_fault_one name v w (inl x) (inr y) = absurd (opened publisher t name y.bytes v (y.held tell) y.within (x.held tell))
  payload_fault_one name v w (inr x) (inl y) = absurd (opened publisher t name x.bytes w (x.held tell) x.within (y.held tell))
  payload_fault_one name v w (inr x) (inr y) = damage_one name y.bytes v w (subst (λ (b : List ℕ). IsDamage name b v) (same_Some x.bytes y.bytes (sym (x.held tell) ∙ y.held tell)) x.damage) y.damage

  -- why a payload isn't read: a fault, or it is too long
  payload_unread : (name : PayloadName) (why : LedgerFault) → IsUnread tells publisher t name why → why ≢ fault.SourceFault
      → ((w : RepoFault) × (why ≡ fault.Payload name w) × IsPayloadFault tells publisher t name w) ⊎ ((bytes : List ℕ) × (why ≡ fault.TooLarge (length bytes)) × IsPayload tells publisher t name bytes × (account_limit < length bytes) × (length bytes ≤ payload_limit))
  payload_unread name (fault.Payload other w) h never = inl (w, ap (λ (n : PayloadName). fault.Payload n w) h.0, h.1)
  payload_unread name (fault.TooLarge count) h never =
      let bytes = h.2.0 in
      inr (bytes, ap fault.TooLarge (sym h.2.1), h.2.2, subst (λ (n : ℕ). account_limit < n) (sym h.2.1) h.0, subst (λ (n : ℕ). n ≤ payload_limit) (sym h.2.1) h.1)
  payload_unread name (fault.Account why) h never = absurd h
  payload_unread name fault.SourceFault h never = absurd (never refl)
  payload_unread name fault.FolderFault h never = absurd h

-- ---- files that stand

size_one : (o : Option (List ℕ)) (m n : ℕ) → HasSize o m → HasSize o n → m ≡ n
size_one (Some b) m n h k = sym h ∙ k
size_one None m n h k = absurd h

standing_unread : (told : Bool) (file : Option (List ℕ)) (why : LedgerFault) → IsTrue told → IsStandingUnread told file why → why ≢ fault.FolderFault → (count : ℕ) × (why ≡ fault.TooLarge count) × HasSize file count × (account_limit < count)
standing_unread told file (fault.Payload other w) tell h never = absurd h
standing_unread told file (fault.TooLarge count) tell h never = (count, refl, h.1 tell, h.0)
standing_unread told file (fault.Account why) tell h never = absurd h
standing_unread told file fault.SourceFault tell h never = absurd h
standing_unread told file fault.FolderFault tell h never = absurd (never refl)

-- ---- one file

module _ (a : Around) (r : Request) (told : IsTrue a.told) (tells : IsTrue a.tells) where
  abbrev IsKnown : LedgerFault → Type 0
  IsKnown why = (why ≢ fault.FolderFault) × (why ≢ fault.SourceFault)

  text_one : (e : Option Entry) (left : Left) (x y : List ℕ) → IsTextLeft a.told e a.tells a.publisher a.repository left x → IsTextLeft a.told e a.tells a.publisher a.repository left y → x ≡ y
  text_one e Nothing x y h k = h ∙ sym k
  text_one e (Standing m) x y h k = h told ∙ sym (k told)
  text_one e (Laid n m) x y h k = same_Some x y (sym (h.held tells) ∙ k.held tells)

  unread_one : (file : Option (List ℕ)) (left : Left) (v w : LedgerFault) → IsTextUnread a.told file a.tells a.publisher a.repository left v → IsTextUnread a.told file a.tells a.publisher a.repository left w → IsKnown v → IsKnown w → v ≡ w
  unread_one file Nothing v w h k kv kw = absurd h
  unread_one file (Standing m) v w h k kv kw =
      let x = standing_unread a.told file v told h kv.0 in
      let y = standing_unread a.told file w told k kw.0 in
      x.1 ∙ ap fault.TooLarge (size_one file x.0 y.0 x.2 y.2) ∙ sym y.1
  unread_one file (Laid n m) v w h k kv kw =
      ⊎_elim
      (λ x. ⊎_elim (λ y. x.1 ∙ ap (fault.Payload n) (payload_fault_one a.tells a.publisher a.repository tells n x.0 y.0 x.2 y.2) ∙ sym y.1)
      (λ y. absurd (no_payload_fault a.tells a.publisher a.repository tells n y.0 x.0 y.2 y.4 x.2)) (payload_unread a.tells a.publisher a.repository tells n w k kw.1))
      (λ x. ⊎_elim (λ y. absurd (no_payload_fault a.tells a.publisher a.repository tells n x.0 y.0 x.2 x.4 y.2))
      (λ y. x.1 ∙ ap (λ (b : List ℕ). fault.TooLarge (length b)) (same_Some x.0 y.0 (sym (x.2.held tells) ∙ y.2.held tells)) ∙ sym y.1) (payload_unread a.tells a.publisher a.repository tells n w k kw.1))
      (payload_unread a.tells a.publisher a.repository tells n v h kv.1)

  -- a text that is read has no more bytes than an account file may have
  read_or_not : (path : List ℕ) (left : Left) (x : List ℕ) (w : LedgerFault) → IsTextLeft a.told (a.image.look path) a.tells a.publisher a.repository left x → length x ≤ account_limit
      → IsTextUnread a.told (file_at a.image path) a.tells a.publisher a.repository left w → IsKnown w → ⊥
  read_or_not path Nothing x w h few k known = k
  read_or_not path (Standing m) x w h few k known =
      let y = standing_unread a.told (file_at a.image path) w told k known.0 in
      let long = ap length (h told) ∙ size_of (file_at a.image path) y.0 y.2 in
      absurd (omega (arith, few, y.3, long))
  read_or_not path (Laid n m) x w h few k known =
      ⊎_elim (λ y. no_payload_fault a.tells a.publisher a.repository tells n x y.0 h (omega (arith, few)) y.2)
      (λ y. let same = ap length (same_Some x y.0 (sym (h.held tells) ∙ y.2.held tells)) in absurd (omega (arith, few, y.3, same)))
      (payload_unread a.tells a.publisher a.repository tells n w k known.1)

  base_one : (path : List ℕ) (default : ℕ) (x y : List ℕ) (m n : ℕ) → IsBaseOf a r path default x m → IsBaseOf a r path default y n → (x ≡ y) × (m ≡ n)
  base_one path default x y m n h k =
      let same = left_one r a.image a.emptied path h.left k.left (h.leaves told) (k.leaves told) in (
        text_one (a.image.look path) k.left x y (subst (λ (l : Left). IsTextLeft a.told (a.image.look path) a.tells a.publisher a.repository l x) same h.reads) k.reads,
        h.gives ∙ ap (mode_left default) same ∙ sym k.gives,
      )

  where_one : (b : Bool) (path : List ℕ) (default : ℕ) (x y : List ℕ) (m n : ℕ) → IsBaseWhere b a r path default x m → IsBaseWhere b a r path default y n → (x ≡ y) × (m ≡ n)
  where_one true path default x y m n h k = (h.0 ∙ sym k.0, h.1 ∙ sym k.1)
  where_one false path default x y m n h k = base_one path default x y m n h k

  not_both : (b : Bool) (path : List ℕ) (default : ℕ) (w : LedgerFault) → IsGivenWhere b a r path default → IsUnreadWhere b a r path w → IsKnown w → ⊥
  not_both true path default w h k known = k
  not_both false path default w h k known =
      let base = h.2 in
      let same = left_one r a.image a.emptied path base.left k.0 (base.leaves told) (k.1 told) in
      read_or_not path k.0 h.0 w (subst (λ (l : Left). IsTextLeft a.told (a.image.look path) a.tells a.publisher a.repository l h.0) same base.reads) base.within k.2 known

  lost_one : (b : Bool) (path : List ℕ) (v w : LedgerFault) → IsUnreadWhere b a r path v → IsUnreadWhere b a r path w → IsKnown v → IsKnown w → v ≡ w
  lost_one true path v w h k kv kw = absurd h
  lost_one false path v w h k kv kw =
      let same = left_one r a.image a.emptied path h.0 k.0 (h.1 told) (k.1 told) in
      unread_one (file_at a.image path) k.0 v w (subst (λ (l : Left). IsTextUnread a.told (file_at a.image path) a.tells a.publisher a.repository l v) same h.2) k.2 kv kw

  -- ---- all three

  blocked_one : (x y : Blocked) → AreBlocked a r x → AreBlocked a r y → x ≡ y
  blocked_one x y h k = h.seen told ∙ sym (k.seen told)

  first_one_where : (x : Blocked) (v w : LedgerFault) → IsFirstUnreadWhere x a r v → IsFirstUnreadWhere x a r w → IsKnown v → IsKnown w → v ≡ w
  first_one_where x v w (inl h) (inl k) kv kw = lost_one x.passwd _ v w h k kv kw
  first_one_where x v w (inl h) (inr (inl k)) kv kw = absurd (not_both x.passwd _ _ v k.0 h kv)
  first_one_where x v w (inl h) (inr (inr k)) kv kw = absurd (not_both x.passwd _ _ v k.0 h kv)
  first_one_where x v w (inr (inl h)) (inl k) kv kw = absurd (not_both x.passwd _ _ w h.0 k kw)
  first_one_where x v w (inr (inl h)) (inr (inl k)) kv kw = lost_one x.shadow _ v w h.1 k.1 kv kw
  first_one_where x v w (inr (inl h)) (inr (inr k)) kv kw = absurd (not_both x.shadow _ _ v k.1 h.1 kv)
  first_one_where x v w (inr (inr h)) (inl k) kv kw = absurd (not_both x.passwd _ _ w h.0 k kw)
  first_one_where x v w (inr (inr h)) (inr (inl k)) kv kw = absurd (not_both x.shadow _ _ w h.1 k.1 kw)
  first_one_where x v w (inr (inr h)) (inr (inr k)) kv kw = lost_one x.group _ v w h.2 k.2 kv kw

  first_one : (v w : LedgerFault) → IsFirstUnread a r v → IsFirstUnread a r w → IsKnown v → IsKnown w → v ≡ w
  first_one v w h k kv kw = first_one_where k.0 v w (subst (λ (x : Blocked). IsFirstUnreadWhere x a r v) (blocked_one h.0 k.0 h.1 k.1) h.2) k.2 kv kw

  -- where all three are read, none isn't
  none_unread_where : (x : Blocked) (base : Texts) (modes : Modes) (w : LedgerFault) → AreBases a r x base modes → IsFirstUnreadWhere x a r w → IsKnown w → ⊥
  none_unread_where x base modes w h (inl k) known = not_both x.passwd _ 420 w (base.passwd, modes.passwd, h.passwd) k known
  none_unread_where x base modes w h (inr (inl k)) known = not_both x.shadow _ 256 w (base.shadow, modes.shadow, h.shadow) k.1 known
  none_unread_where x base modes w h (inr (inr k)) known = not_both x.group _ 420 w (base.group, modes.group, h.group) k.2 known

  none_unread : (x : Blocked) (base : Texts) (modes : Modes) (w : LedgerFault) → AreBases a r x base modes → IsFirstUnread a r w → IsKnown w → ⊥
  none_unread x base modes w h k known = none_unread_where x base modes w h (subst (λ (y : Blocked). IsFirstUnreadWhere y a r w) (blocked_one k.0 x k.1 h.blocks) k.2) known

  bases_one_where : (x : Blocked) (b c : Texts) (m n : Modes) → AreBases a r x b m → AreBases a r x c n → (b ≡ c) × (m ≡ n)
  bases_one_where x b c m n h k =
      let p = where_one x.passwd _ 420 b.passwd c.passwd m.passwd n.passwd h.passwd k.passwd in
      let s = where_one x.shadow _ 256 b.shadow c.shadow m.shadow n.shadow h.shadow k.shadow in
      let g = where_one x.group _ 420 b.group c.group m.group n.group h.group k.group in
      (three texts_of c.passwd c.shadow c.group b.passwd b.shadow b.group (sym p.0) (sym s.0) (sym g.0), three modes_of n.passwd n.shadow n.group m.passwd m.shadow m.group (sym p.1) (sym s.1) (sym g.1))

  bases_one : (x y : Blocked) (b c : Texts) (m n : Modes) → AreBases a r x b m → AreBases a r y c n → (x ≡ y) × (b ≡ c) × (m ≡ n)
  bases_one x y b c m n h k =
      let same = blocked_one x y h.blocks k.blocks in
      let rest = bases_one_where y b c m n (subst (λ (z : Blocked). AreBases a r z b m) same h) k in
      (same, rest.0, rest.1)

  -- ---- the answer

  edit_one : (old new : List Fields) (x y : Blocked) (b c : Texts) (m n : Modes) → AreBases a r x b m → AreBases a r y c n → edited_where x b old new ≡ edited_where y c old new
  edit_one old new x y b c m n h k =
      let same = bases_one x y b c m n h k in
      ap (λ (z : Blocked). edited_where z b old new) same.0 ∙ ap (λ (t : Texts). edited_where y t old new) same.1

  edited_one : (old new : List Fields) (f g : Files) → AreEdited a r old new f → AreEdited a r old new g → f ≡ g
  edited_one old new f g h k =
      let same = bases_one h.blocked k.blocked h.base k.base h.modes k.modes h.bases k.bases in
      let books = ok_one f.books g.books (sym h.edit ∙ edit_one old new h.blocked k.blocked h.base k.base h.modes k.modes h.bases k.bases ∙ k.edit) in
      let due = h.due ∙ ap (λ (m : Modes). due_books m h.base f.books) same.2 ∙ ap (λ (t : Texts). due_books k.modes t f.books) same.1 ∙ ap (due_books k.modes k.base) books ∙ sym k.due in
      ap (λ (t : Texts). files_of t f.due) books ∙ ap (files_of g.books) due

  unedited_one : (old new : List Fields) (v w : AccountFault) → IsUnedited a r old new v → IsUnedited a r old new w → v ≡ w
  unedited_one old new v w h k = err_one v w (sym h.edit ∙ edit_one old new h.blocked k.blocked h.base k.base h.modes k.modes h.bases k.bases ∙ k.edit)

  -- why the files are refused
  refused_is : (old new : List Fields) (why : LedgerFault) → IsRefused a r old new why → IsKnown why → ((w : AccountFault) × (why ≡ fault.Account w) × IsUnedited a r old new w) ⊎ IsFirstUnread a r why
  refused_is old new fault.FolderFault h known = absurd (known.0 refl)
  refused_is old new (fault.Account w) h known = inl (w, refl, h)
  refused_is old new (fault.Payload name w) h known = inr h
  refused_is old new (fault.TooLarge count) h known = inr h
  refused_is old new fault.SourceFault h known = inr h

  refused_one : (old new : List Fields) (v w : LedgerFault) → IsRefused a r old new v → IsRefused a r old new w → IsKnown v → IsKnown w → v ≡ w
  refused_one old new v w h k kv kw =
      ⊎_elim
      (λ x. ⊎_elim (λ y. x.1 ∙ ap fault.Account (unedited_one old new x.0 y.0 x.2 y.2) ∙ sym y.1) (λ y. absurd (none_unread x.2.blocked x.2.base x.2.modes w x.2.bases y kw)) (refused_is old new w k kw))
      (λ x. ⊎_elim (λ y. absurd (none_unread y.2.blocked y.2.base y.2.modes v y.2.bases x kv)) (λ y. first_one v w x y kv kw) (refused_is old new w k kw))
      (refused_is old new v h kv)

  edited_or_refused : (old new : List Fields) (f : Files) (w : LedgerFault) → AreEdited a r old new f → IsRefused a r old new w → IsKnown w → ⊥
  edited_or_refused old new f w h k known =
      ⊎_elim
      (λ y. ok_err f.books y.0 (sym y.2.edit ∙ edit_one old new y.2.blocked h.blocked y.2.base h.base y.2.modes h.modes y.2.bases h.bases ∙ h.edit))
      (λ y. none_unread h.blocked h.base h.modes w h.bases y known)
      (refused_is old new w k known)

  known_of : (w : LedgerFault) → IsTold (Err w) → IsKnown w
  known_of w h = (λ e. h.0 (ap (λ (x : LedgerFault). Err x) e), λ e. h.1 (ap (λ (x : LedgerFault). Err x) e))

  one_where : (b : Bool) (old new : List Fields) (x y : Result Files LedgerFault) → BehindWhere b a r old new x → BehindWhere b a r old new y → IsTold x → IsTold y → x ≡ y
  one_where true old new (Ok f) (Ok g) h k tx ty = ap (λ (z : Files). Ok z) (edited_one old new f g h k)
  one_where true old new (Ok f) (Err w) h k tx ty = absurd (edited_or_refused old new f w h k (known_of w ty))
  one_where true old new (Err v) (Ok g) h k tx ty = absurd (edited_or_refused old new g v k h (known_of v tx))
  one_where true old new (Err v) (Err w) h k tx ty = ap (λ (z : LedgerFault). Err z) (refused_one old new v w h k (known_of v tx) (known_of w ty))
  one_where false old new (Ok f) (Ok g) h k tx ty = ap (λ (z : Files). Ok z) (h ∙ sym k)
  one_where false old new (Ok f) (Err w) h k tx ty = absurd k
  one_where false old new (Err v) (Ok g) h k tx ty = absurd h
  one_where false old new (Err v) (Err w) h k tx ty = absurd h

pub one_answer : (a : Around) (r : Request) (old new : List Fields) (x y : Result Files LedgerFault) → IsTrue a.told → IsTrue a.tells → Behind a r old new x → Behind a r old new y → IsTold x → IsTold y → x ≡ y
one_answer a r old new x y told tells h k tx ty = one_where a r told tells (has_accounts old new) old new x y h k tx ty
