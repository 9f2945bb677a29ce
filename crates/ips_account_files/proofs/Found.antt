-- What is found of each account file, joined.
use Rattle.std.proofs.Common.{◌≡◌, ◌⊎◌, inl, inr, ℕ, Bool, true, false, ◌||◌, IsTrue, List, [], Option, Some, None, is_none, refl, sym, ◌∙◌, ap, subst}
use Rattle.std.specs.Prelude.{codes}
use Rattle.std.proofs.lemmas.Bool.{or_parts}
use Rattle.ips_steps.proofs.Lists.{clash}
use Rattle.ips_books.specs.Reading.{Texts}
use Rattle.ips_after.specs.Request.{Request}
use Rattle.ips_account_files.specs.declared.ledger.base.BaseFile.{BaseFile}
use Rattle.ips_account_files.specs.declared.ledger.blocked.Blocked.{Blocked}
use Rattle.ips_account_files.specs.declared.ledger.fault.LedgerFault.{LedgerFault}
use Rattle.ips_account_files.specs.declared.ledger.fault.LedgerFault.TheVariants as fault
use Rattle.ips_account_files.specs.declared.ledger.outdated.Modes.{Modes}
use Rattle.ips_account_files.specs.ledger.Blocking.{is_blocked, is_folder_blocked, is_in_way, wants_other_than_file}
use Rattle.ips_account_files.specs.Around.{Around}
use Rattle.ips_account_files.specs.Bases.{AreBases, AreBlocked, IsBaseWhere, IsFirstUnread, IsGivenWhere}
use Rattle.ips_account_files.specs.Finding.{IsFound, IsFree, IsLost, mode_found, text_found}

-- ---- flags

-- the flag tells of the path, as far as the folder tells; where it isn't set, nothing else is wanted
abbrev IsFlag : Around → Request → List ℕ → Bool → Bool → Type 0
IsFlag a r path elsewhere b = (IsTrue a.told → b ≡ (elsewhere || is_blocked r a.image path)) × (b ≡ false → (elsewhere ≡ false) × (wants_other_than_file (r.new.at path) ≡ false))

free_flag : (a : Around) (r : Request) (path : List ℕ) (elsewhere : Bool) → IsFree a r path elsewhere → IsFlag a r path elsewhere false
free_flag a r path elsewhere free = (λ told. sym (ap (λ (b : Bool). b || is_blocked r a.image path) free.free ∙ free.seen told), λ h. (free.free, free.wanted))

found_flag : (a : Around) (r : Request) (path : List ℕ) (default : ℕ) (elsewhere : Bool) (found : Option BaseFile) → IsFound a r path default elsewhere found → IsFlag a r path elsewhere (is_none found)
found_flag a r path default elsewhere None h = (λ told. sym (h told), λ none. absurd (clash true refl none))
found_flag a r path default elsewhere (Some base) h = free_flag a r path elsewhere h.0

own_flag : (a : Around) (r : Request) (path : List ℕ) (elsewhere : Bool) → IsFlag a r path elsewhere (elsewhere || is_blocked r a.image path)
own_flag a r path elsewhere = (
  λ told. refl,
  λ none.
      let both = or_parts elsewhere (is_blocked r a.image path) none in
      (both.0, (or_parts (wants_other_than_file (r.new.at path)) (is_in_way (a.image.look path)) both.1).0),
)

are_blocked : (a : Around) (r : Request) (elsewhere x y z : Bool) → elsewhere ≡ is_folder_blocked r
    → IsFlag a r (codes "etc/passwd") elsewhere x → IsFlag a r (codes "etc/shadow") false y → IsFlag a r (codes "etc/group") false z
    → AreBlocked a r (record { passwd = x; shadow = y; group = z })
are_blocked a r elsewhere x y z is p s g = record {
  seen = λ told.
      let one = p.0 told ∙ ap (λ (b : Bool). b || is_blocked r a.image (codes "etc/passwd")) is in
      let two = s.0 told in
      let three = g.0 told in
      cc;
  folder = λ none. sym is ∙ (p.1 none).0;
  passwd = λ none. (p.1 none).1;
  shadow = λ none. (s.1 none).1;
  group = λ none. (g.1 none).1;
}

-- ---- texts and modes

found_base : (a : Around) (r : Request) (path : List ℕ) (default : ℕ) (elsewhere : Bool) (found : Option BaseFile) → IsFound a r path default elsewhere found
    → IsBaseWhere (is_none found) a r path default (text_found found []) (mode_found found default)
found_base a r path default elsewhere None h = (refl, refl)
found_base a r path default elsewhere (Some base) h = h.1

given_base : (a : Around) (r : Request) (path : List ℕ) (default : ℕ) (elsewhere : Bool) (found : Option BaseFile) → IsFound a r path default elsewhere found → IsGivenWhere (is_none found) a r path default
given_base a r path default elsewhere found h = (text_found found [], mode_found found default, found_base a r path default elsewhere found h)

pub three : {A D : Type 0} (f : A → A → A → D) (x y z u v w : A) → x ≡ u → y ≡ v → z ≡ w → f u v w ≡ f x y z
three f x y z u v w one two last = sym (ap (λ a. f a y z) one ∙ ap (λ a. f u a z) two ∙ ap (λ a. f u v a) last)

abbrev flags_of : Bool → Bool → Bool → Blocked
flags_of x y z = record { passwd = x; shadow = y; group = z }

abbrev pub modes_of : ℕ → ℕ → ℕ → Modes
modes_of x y z = record { passwd = x; shadow = y; group = z }

abbrev pub texts_of : List ℕ → List ℕ → List ℕ → Texts
texts_of x y z = record { passwd = x; shadow = y; group = z }

-- all three
pub are_bases : (a : Around) (r : Request) (elsewhere : Bool) (x y z : Option BaseFile) (bp bs bg : Bool) (tp ts tg : List ℕ) (mp ms mg : ℕ) → elsewhere ≡ is_folder_blocked r
    → IsFound a r (codes "etc/passwd") 420 elsewhere x → IsFound a r (codes "etc/shadow") 256 false y → IsFound a r (codes "etc/group") 420 false z
    → bp ≡ is_none x → bs ≡ is_none y → bg ≡ is_none z → tp ≡ text_found x [] → ts ≡ text_found y [] → tg ≡ text_found z []
    → mp ≡ mode_found x 420 → ms ≡ mode_found y 256 → mg ≡ mode_found z 420
    → AreBases a r (record { passwd = bp; shadow = bs; group = bg }) (record { passwd = tp; shadow = ts; group = tg }) (record { passwd = mp; shadow = ms; group = mg })
are_bases a r elsewhere x y z bp bs bg tp ts tg mp ms mg is p s g b1 b2 b3 t1 t2 t3 m1 m2 m3 =
    subst (λ (b : Blocked). AreBases a r b (texts_of tp ts tg) (modes_of mp ms mg)) (three flags_of bp bs bg (is_none x) (is_none y) (is_none z) b1 b2 b3)
    (subst (λ (t : Texts). AreBases a r (flags_of (is_none x) (is_none y) (is_none z)) t (modes_of mp ms mg)) (three texts_of tp ts tg (text_found x []) (text_found y []) (text_found z []) t1 t2 t3)
    (subst (λ (m : Modes). AreBases a r (flags_of (is_none x) (is_none y) (is_none z)) (texts_of (text_found x []) (text_found y []) (text_found z [])) m) (three modes_of mp ms mg (mode_found x 420) (mode_found y 256) (mode_found z 420) m1 m2 m3)
    (record {
      blocks = are_blocked a r elsewhere (is_none x) (is_none y) (is_none z) is (found_flag a r (codes "etc/passwd") 420 elsewhere x p) (found_flag a r (codes "etc/shadow") 256 false y s) (found_flag a r (codes "etc/group") 420 false z g);
      passwd = found_base a r (codes "etc/passwd") 420 elsewhere x p;
      shadow = found_base a r (codes "etc/shadow") 256 false y s;
      group = found_base a r (codes "etc/group") 420 false z g;
    })))

-- ---- what isn't read

pub first_lost : (a : Around) (r : Request) (elsewhere : Bool) (why : LedgerFault) → elsewhere ≡ is_folder_blocked r → IsLost a r (codes "etc/passwd") elsewhere why → (why ≡ fault.FolderFault) ⊎ IsFirstUnread a r why
first_lost a r elsewhere why is (inl failed) = inl failed
first_lost a r elsewhere why is (inr lost) = inr (
  record { passwd = false; shadow = is_blocked r a.image (codes "etc/shadow"); group = is_blocked r a.image (codes "etc/group") },
  are_blocked a r elsewhere false (is_blocked r a.image (codes "etc/shadow")) (is_blocked r a.image (codes "etc/group")) is (free_flag a r (codes "etc/passwd") elsewhere lost.0) (own_flag a r (codes "etc/shadow") false) (own_flag a r (codes "etc/group") false),
  inl lost.1,
)

pub second_lost : (a : Around) (r : Request) (elsewhere : Bool) (x : Option BaseFile) (why : LedgerFault) → elsewhere ≡ is_folder_blocked r → IsFound a r (codes "etc/passwd") 420 elsewhere x → IsLost a r (codes "etc/shadow") false why
    → (why ≡ fault.FolderFault) ⊎ IsFirstUnread a r why
second_lost a r elsewhere x why is p (inl failed) = inl failed
second_lost a r elsewhere x why is p (inr lost) = inr (
  record { passwd = is_none x; shadow = false; group = is_blocked r a.image (codes "etc/group") },
  are_blocked a r elsewhere (is_none x) false (is_blocked r a.image (codes "etc/group")) is (found_flag a r (codes "etc/passwd") 420 elsewhere x p) (free_flag a r (codes "etc/shadow") false lost.0) (own_flag a r (codes "etc/group") false),
  inr (inl (given_base a r (codes "etc/passwd") 420 elsewhere x p, lost.1)),
)

pub third_lost : (a : Around) (r : Request) (elsewhere : Bool) (x y : Option BaseFile) (why : LedgerFault) → elsewhere ≡ is_folder_blocked r → IsFound a r (codes "etc/passwd") 420 elsewhere x → IsFound a r (codes "etc/shadow") 256 false y
    → IsLost a r (codes "etc/group") false why → (why ≡ fault.FolderFault) ⊎ IsFirstUnread a r why
third_lost a r elsewhere x y why is p s (inl failed) = inl failed
third_lost a r elsewhere x y why is p s (inr lost) = inr (
  record { passwd = is_none x; shadow = is_none y; group = false },
  are_blocked a r elsewhere (is_none x) (is_none y) false is (found_flag a r (codes "etc/passwd") 420 elsewhere x p) (found_flag a r (codes "etc/shadow") 256 false y s) (free_flag a r (codes "etc/group") false lost.0),
  inr (inr (given_base a r (codes "etc/passwd") 420 elsewhere x p, given_base a r (codes "etc/shadow") 256 false y s, lost.1)),
)
