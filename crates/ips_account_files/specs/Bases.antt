-- The account files before they are edited.
use Rattle.std.specs.Prelude.{◌≡◌, ◌⊎◌, ℕ, ◌<◌, ◌≤◌, Bool, true, false, ◌||◌, IsTrue, List, [], length, codes}
use Rattle.ips_outside.specs.Image.{Image}
use Rattle.ips_files.specs.Files.{file_at}
use Rattle.ips_books.specs.Reading.{Texts}
use Rattle.ips_after.specs.Request.{Request}
use Rattle.ips_account_files.specs.declared.ledger.blocked.Blocked.{Blocked}
use Rattle.ips_account_files.specs.declared.ledger.fault.LedgerFault.{LedgerFault}
use Rattle.ips_account_files.specs.declared.ledger.left.Left.{Left}
use Rattle.ips_account_files.specs.declared.ledger.outdated.Modes.{Modes}
use Rattle.ips_account_files.specs.ledger.Base.{mode_left}
use Rattle.ips_account_files.specs.ledger.Blocking.{is_blocked, is_folder_blocked, wants_other_than_file}
use Rattle.ips_account_files.specs.ledger.Left.{AreSmallWanted, IsLeftOf}
use Rattle.ips_account_files.specs.ledger.Texts.{IsTextLeft, IsTextUnread, account_limit}
use Rattle.ips_account_files.specs.Around.{Around}

-- No text.
abbrev pub no_texts : Texts
no_texts = record { passwd = []; shadow = []; group = [] }

-- The modes of new account files.
abbrev pub new_modes : Modes
new_modes = record { passwd = 420; shadow = 256; group = 420 }

-- Whether each account file can't be edited, by what stands and what is wanted at its path, and for the first by what is wanted at their folder.
abbrev pub blocked_by : Request → Image → Blocked
blocked_by r t = record {
  passwd = is_folder_blocked r || is_blocked r t (codes "etc/passwd");
  shadow = is_blocked r t (codes "etc/shadow");
  group = is_blocked r t (codes "etc/group");
}

-- These are those that can't be edited, where the folder tells what it holds; and wherever one can, nothing else is wanted there.
pub record AreBlocked (a : Around) (r : Request) (blocked : Blocked) : Type 0 where
  pub seen : IsTrue a.told → blocked ≡ blocked_by r a.image
  pub folder : blocked.passwd ≡ false → is_folder_blocked r ≡ false
  pub passwd : blocked.passwd ≡ false → wants_other_than_file (r.new.at (codes "etc/passwd")) ≡ false
  pub shadow : blocked.shadow ≡ false → wants_other_than_file (r.new.at (codes "etc/shadow")) ≡ false
  pub group : blocked.group ≡ false → wants_other_than_file (r.new.at (codes "etc/group")) ≡ false

-- The text and the mode are those of what the request leaves at the path, where account files and records say nothing, or none and this mode where it leaves
-- nothing.
pub record IsBaseOf (a : Around) (r : Request) (path : List ℕ) (default : ℕ) (text : List ℕ) (mode : ℕ) : Type 0 where
  pub left : Left
  pub leaves : IsTrue a.told → IsLeftOf r a.image a.emptied path left
  pub reads : IsTextLeft a.told (a.image.look path) a.tells a.publisher a.repository left text
  pub gives : mode ≡ mode_left default left
  pub within : length text ≤ account_limit
  pub small : AreSmallWanted r.new → mode < 4096

-- The same, or none and this mode where the path is blocked.
abbrev pub IsBaseWhere : Bool → Around → Request → List ℕ → ℕ → List ℕ → ℕ → Type 0
IsBaseWhere true a r path default text mode = (text ≡ []) × (mode ≡ default)
IsBaseWhere false a r path default text mode = IsBaseOf a r path default text mode

-- Why the text of what the request leaves at the path isn't read.
abbrev pub IsUnreadOf : Around → Request → List ℕ → LedgerFault → Type 0
IsUnreadOf a r path why = (left : Left) × (IsTrue a.told → IsLeftOf r a.image a.emptied path left) × IsTextUnread a.told (file_at a.image path) a.tells a.publisher a.repository left why

-- The same; where the path is blocked nothing is read.
abbrev pub IsUnreadWhere : Bool → Around → Request → List ℕ → LedgerFault → Type 0
IsUnreadWhere true a r path why = ⊥
IsUnreadWhere false a r path why = IsUnreadOf a r path why

-- The text is read.
abbrev pub IsGivenWhere : Bool → Around → Request → List ℕ → ℕ → Type 0
IsGivenWhere blocked a r path default = (text : List ℕ) × (mode : ℕ) × IsBaseWhere blocked a r path default text mode

-- The texts and modes of the three files before they are edited, and which of them can't be; new ones have modes 0644, 0400 and 0644.
pub record AreBases (a : Around) (r : Request) (blocked : Blocked) (base : Texts) (modes : Modes) : Type 0 where
  pub blocks : AreBlocked a r blocked
  pub passwd : IsBaseWhere blocked.passwd a r (codes "etc/passwd") 420 base.passwd modes.passwd
  pub shadow : IsBaseWhere blocked.shadow a r (codes "etc/shadow") 256 base.shadow modes.shadow
  pub group : IsBaseWhere blocked.group a r (codes "etc/group") 420 base.group modes.group

-- Why the first text isn't read that isn't, by which can't be edited.
abbrev pub IsFirstUnreadWhere : Blocked → Around → Request → LedgerFault → Type 0
IsFirstUnreadWhere blocked a r why = IsUnreadWhere blocked.passwd a r (codes "etc/passwd") why
    ⊎ (IsGivenWhere blocked.passwd a r (codes "etc/passwd") 420 × IsUnreadWhere blocked.shadow a r (codes "etc/shadow") why)
    ⊎ (IsGivenWhere blocked.passwd a r (codes "etc/passwd") 420 × IsGivenWhere blocked.shadow a r (codes "etc/shadow") 256 × IsUnreadWhere blocked.group a r (codes "etc/group") why)

-- Why the first text isn't read that isn't: passwd before shadow before group.
abbrev pub IsFirstUnread : Around → Request → LedgerFault → Type 0
IsFirstUnread a r why = (blocked : Blocked) × AreBlocked a r blocked × IsFirstUnreadWhere blocked a r why
