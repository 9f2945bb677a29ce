-- Which account files and records are due, and what a request says of them.
use Rattle.std.specs.Prelude.{◌≡◌, ℕ, ◌<◌, Bool, false, cond, not, ◌&&◌, ◌||◌, IsTrue, IsFalse, List, [], ◌∷◌, map, Option, Some, None, is_some, codes}
use Rattle.std.specs.List.{list_any}
use Rattle.std.specs.List.Sorted.{IsStrictlySortedBy}
use Rattle.std.specs.Ordering.{nat_cmp}
use Rattle.std.specs.Cmp.Lexicographic.{slice_cmp}
use Rattle.ips_text.specs.Path.{IsPath}
use Rattle.ips_text.specs.Ancestry.{same_path, covers, is_below}
use Rattle.ips_outside.specs.Image.{Entry, Dir, File, Link, Other, Image, is_dir}
use Rattle.ips_steps.specs.Private.{records_name, is_private}
use Rattle.ips_after.specs.Findings.{is_account_path}
use Rattle.ips_after.specs.Lists.{listed}
use Rattle.ips_after.specs.Request.{Over, Want, is_dir_wanted, is_file_wanted}

-- A file by its path: its mode and its bytes.
pub record DueFile : Type 0 where
  pub path : List ℕ
  pub mode : ℕ
  pub bytes : List ℕ

-- The content of a record: bytes of its own, or those of a payload, which is told by the spelling of its name.
pub data Content : Type 0 where
  Own : List ℕ → Content
  OfPayload : List ℕ → Content

-- What is due behind a request: the account files whose text changes, each with the mode that is left there; the records, each with
-- its content; the folders that are made anew, whatever stands there; those that are made where no directory stands; and what goes,
-- with all below it.
pub record Due : Type 0 where
  pub accounts : List DueFile
  pub records : List (List ℕ × Content)
  pub renewed : List (List ℕ)
  pub folders : List (List ℕ)
  pub gone : List (List ℕ)

-- the account file that is due at a path
abbrev pub account_at : List DueFile → List ℕ → Option Entry
account_at [] q = None
account_at (f ∷ files) q = cond (same_path f.path q) (Some (File f.mode f.bytes)) (account_at files q)

-- the content of the record that is due at a path
abbrev pub record_at : List (List ℕ × Content) → List ℕ → Option Content
record_at [] q = None
record_at (r ∷ records) q = cond (same_path r.0 q) (Some r.1) (record_at records q)

-- the records that have these bytes of their own
abbrev pub own_records : List (List ℕ × List ℕ) → List (List ℕ × Content)
own_records files = map (λ r. (r.0, Own r.1)) files

-- the bytes of a content, with those of each payload
abbrev pub bytes_of_content : (List ℕ → List ℕ) → Content → List ℕ
bytes_of_content bytes (Own own) = own
bytes_of_content bytes (OfPayload payload) = bytes payload

-- bytes are this content: they equal its own, or are the payload's, as is told of payloads and bytes
abbrev pub is_content : (List ℕ → List ℕ → Bool) → Content → List ℕ → Bool
is_content holds (Own own) b = same_path own b
is_content holds (OfPayload payload) b = holds payload b

-- a file stands there whose bytes are such
abbrev pub is_file_of : (List ℕ → Bool) → Option Entry → Bool
is_file_of test (Some (Dir m f)) = false
is_file_of test (Some (File m b)) = test b
is_file_of test (Some (Link g)) = false
is_file_of test (Some Other) = false
is_file_of test None = false

-- a file with this content stands there
abbrev pub holds_content : (List ℕ → List ℕ → Bool) → Content → Option Entry → Bool
holds_content holds content e = is_file_of (is_content holds content) e

-- what stands there goes with a folder that is made anew, or with what is taken away
abbrev pub goes_with : Due → List ℕ → Bool
goes_with due q = list_any (λ p. covers p q) due.renewed || list_any (λ p. covers p q) due.gone

-- what is said of a path where a record is due: nothing where it stands as it should and stays, else it is laid with mode 0644
abbrev pub said_record : (List ℕ → List ℕ) → (List ℕ → List ℕ → Bool) → Content → Bool → Option Entry → Option (Option Entry)
said_record bytes holds content goes e = cond (holds_content holds content e && not goes) None (Some (Some (File 420 (bytes_of_content bytes content))))

-- what is said of a folder that is made where no directory stands
abbrev pub said_folder : Option Entry → Option (Option Entry)
said_folder e = cond (is_dir e) None (Some (Some (Dir 493 false)))

-- what is said of a path that is taken away: nothing where nothing stands
abbrev pub said_gone : Option Entry → Option (Option Entry)
said_gone e = cond (is_some e) (Some None) None

-- what is said of a path at which no file is due
abbrev pub said_rest : Bool → Bool → Bool → Option Entry → Option (Option Entry)
said_rest renewed folder gone e = cond renewed (Some (Some (Dir 493 false))) (cond folder (said_folder e) (cond gone (said_gone e) None))

-- what is said of a path by what is due there
abbrev pub said_by : (List ℕ → List ℕ) → (List ℕ → List ℕ → Bool) → Option Entry → Option Content → Bool → Option (Option Entry) → Option Entry → Option (Option Entry)
said_by bytes holds (Some file) content goes rest e = Some (Some file)
said_by bytes holds None (Some content) goes rest e = said_record bytes holds content goes e
said_by bytes holds None None goes rest e = rest

-- What account files and records say of a path, with the bytes of each payload, and whether bytes are a payload's.
abbrev pub said : (List ℕ → List ℕ) → (List ℕ → List ℕ → Bool) → Due → Image → List ℕ → Option (Option Entry)
said bytes holds due t q = said_by bytes holds (account_at due.accounts q) (record_at due.records q) (goes_with due q) (said_rest (listed due.renewed q) (listed due.folders q) (listed due.gone q) (t.look q)) (t.look q)

-- An account file or a record is due there, or a folder is.
abbrev pub is_due : Due → List ℕ → Bool
is_due due q = is_some (account_at due.accounts q) || (is_some (record_at due.records q) || (listed due.renewed q || listed due.folders q))

-- The path is below the folder of the image's records, or below that of the records of legacy packages.
abbrev pub is_own : List ℕ → Bool
is_own q = is_below records_name q || is_below (codes "var/sadm/pkg") q

-- What is due hangs together: account files are due at their paths, all else is the image's own and no private name, and above what is due nothing
-- but folders is due and nothing goes.
pub record IsDue (due : Due) : Type 0 where
  pub accounts : (q : List ℕ) → IsTrue (is_some (account_at due.accounts q)) → IsTrue (is_account_path q)
  pub own : (q : List ℕ) → IsTrue (is_some (record_at due.records q) || (listed due.renewed q || (listed due.folders q || listed due.gone q))) → IsTrue (is_own q) × IsFalse (is_private q)
  pub flat : (p q : List ℕ) → IsTrue (is_below p q) → IsTrue (is_due due q) → IsFalse (is_some (account_at due.accounts p) || (is_some (record_at due.records p) || listed due.gone p))

-- What is due means the same in both: at each path the same account file and the same record, and the same folders and what goes.
pub record MeansSame (a b : Due) : Type 0 where
  pub accounts : (q : List ℕ) → account_at a.accounts q ≡ account_at b.accounts q
  pub records : (q : List ℕ) → record_at a.records q ≡ record_at b.records q
  pub renewed : (q : List ℕ) → listed a.renewed q ≡ listed b.renewed q
  pub folders : (q : List ℕ) → listed a.folders q ≡ listed b.folders q
  pub gone : (q : List ℕ) → listed a.gone q ≡ listed b.gone q

-- What is due has proper parts: its paths are paths, and the modes of account files are permission bits.
pub record HasProperDue (due : Due) : Type 0 where
  pub paths : (q : List ℕ) → IsTrue (is_due due q || listed due.gone q) → IsPath q
  pub modes : (q : List ℕ) (m : ℕ) (b : List ℕ) → account_at due.accounts q ≡ Some (File m b) → m < 4096

-- This is what account files and records say where this is due, with these bytes of payloads: the keys are the paths of which they speak
-- and those above, by their bytes.
pub record IsOverOf (bytes : List ℕ → List ℕ) (holds : List ℕ → List ℕ → Bool) (due : Due) (t : Image) (o : Over) : Type 0 where
  pub at : (q : List ℕ) → o.at q ≡ said bytes holds due t q
  pub accounts : (q : List ℕ) → o.is_account q ≡ is_account_path q
  pub keyed : (q : List ℕ) → IsTrue (is_some (o.at q)) → IsTrue (listed o.keys q)
  pub closed : (p q : List ℕ) → IsTrue (is_below p q) → IsTrue (listed o.keys q) → IsTrue (listed o.keys p)
  pub only : (p : List ℕ) → IsTrue (listed o.keys p) → (q : List ℕ) × IsTrue (covers p q) × IsTrue (is_some (o.at q))
  pub by_bytes : IsStrictlySortedBy (slice_cmp nat_cmp) o.keys

-- What is wanted fits the account files that are due: where one is, a file is wanted if anything is, and above it nothing but directories.
pub record FitsAccounts (due : Due) (new : Want) : Type 0 where
  pub files : (q : List ℕ) → IsTrue (is_some (account_at due.accounts q)) → IsTrue (is_some (new.at q)) → IsTrue (is_file_wanted (new.at q))
  pub above : (p q : List ℕ) → IsTrue (is_some (account_at due.accounts q)) → IsTrue (is_below p q) → IsTrue (is_some (new.at p)) → IsTrue (is_dir_wanted (new.at p))

-- What is wanted leaves the image's own folders to it: nothing in them is wanted, the folder of the records is wanted as a directory, and
-- so is that of the records of legacy packages where one is due in it.
pub record LeavesOwn (due : Due) (new : Want) : Type 0 where
  pub none : (q : List ℕ) → IsTrue (is_own q) → new.at q ≡ None
  pub folder : IsTrue (is_dir_wanted (new.at records_name))
  pub legacy : (q : List ℕ) → IsTrue (is_below (codes "var/sadm/pkg") q) → IsTrue (is_due due q) → IsTrue (is_dir_wanted (new.at (codes "var/sadm/pkg")))
