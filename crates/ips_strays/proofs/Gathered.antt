-- Things added one after another.
use Rattle.std.proofs.Common.{◌≡◌, ℕ, ◌+◌, ◌<◌, Bool, true, false, not, ◌&&◌, ◌||◌, List, [], ◌∷◌, ◌++◌, Option, Some, None, length, get_or, map, take, is_some, refl, sym, ◌∙◌, ap, subst}
use Rattle.std.specs.Prelude.{nat_lt}
use Rattle.std.specs.List.{AllByRecursion, list_any}
use Rattle.std.specs.Option.{option_map}
use Rattle.std.proofs.lemmas.Bool.{and_parts, false_from_ne_true, lt-ltb, not-true}
use Rattle.std.proofs.lemmas.List.Folds.{list_any-append}
use Rattle.ips_text.specs.Ancestry.{covers, is_below, same_path}
use Rattle.ips_text.specs.Kept.{Kept}
use Rattle.ips_text.proofs.Ancestry.{parent_length, same_covers, same_path-true}
use Rattle.ips_text.proofs.Lists.{all_append, take_item}
use Rattle.ips_text.proofs.Truths.{or_assoc, or_false}
use Rattle.ips_outside.specs.Children.{AreChildren, path_bytes, is_foreign}
use Rattle.ips_outside.specs.Image.{Dir, Entry, File, Image, IsImage, Link, Other, is_dir}
use Rattle.ips_outside.specs.Outside.{look_of}
use Rattle.ips_outside.specs.declared.outside.Look.{Look}
use Rattle.ips_outside.specs.declared.outside.Look.TheVariants as look
use Rattle.ips_after.specs.Lists.{listed}
use Rattle.ips_after.proofs.Fits.{below_of}
use Rattle.ips_after.proofs.Order.{listed_last}
use Rattle.ips_steps.proofs.Lists.{clash}
use Rattle.ips_found.specs.declared.found.Thing.{Thing}
use Rattle.ips_found.specs.Found.{AreThings, Found, FoundFile, FoundOther, found_of, found_told, thing_paths}
use Rattle.ips_found.specs.declared.found.Found.{Found as Told}
use Rattle.ips_strays.specs.Strays.{Adds, branch, hangs, seen}
use Rattle.ips_strays.proofs.Branches.{among_children, branch_parent, dir_above}

abbrev pub Test : Type 0
Test = List ℕ → Bool

-- ---- in general

-- nothing is added
pub adds_none : (t : Image) (test : Test) (old : List Thing) → ((q : List ℕ) → is_some (t.look q) ≡ true → test q ≡ false) → Adds t test old old
adds_none t test old none = record {
  paths = λ q. or_false (listed (thing_paths old) q) ∙ ap (λ (b : Bool). listed (thing_paths old) q || b) (sym (go q (is_some (t.look q)) refl));
  things = λ all. all;
}
  where
    go : (q : List ℕ) (b : Bool) → is_some (t.look q) ≡ b → (is_some (t.look q) && test q) ≡ false
    go q true is = ap (λ (b : Bool). b && test q) is ∙ none q is
    go q false is = ap (λ (b : Bool). b && test q) is

-- the same by another test that holds alike where something stands
pub adds_as : (t : Image) (f g : Test) (old new : List Thing) → Adds t f old new → ((q : List ℕ) → is_some (t.look q) ≡ true → f q ≡ g q) → Adds t g old new
adds_as t f g old new adds same = record {
  paths = λ q. adds.paths q ∙ ap (λ (b : Bool). listed (thing_paths old) q || b) (go q (is_some (t.look q)) refl);
  things = adds.things;
}
  where
    go : (q : List ℕ) (b : Bool) → is_some (t.look q) ≡ b → (is_some (t.look q) && f q) ≡ (is_some (t.look q) && g q)
    go q true is = ap (λ (b : Bool). b && f q) is ∙ same q is ∙ sym (ap (λ (b : Bool). b && g q) is)
    go q false is = ap (λ (b : Bool). b && f q) is ∙ sym (ap (λ (b : Bool). b && g q) is)

both : (l s f g : Bool) → ((l || (s && f)) || (s && g)) ≡ (l || (s && (f || g)))
both true s f g = refl
both false true f g = refl
both false false f g = refl

-- one after another
pub adds_then : (t : Image) (f g : Test) (old mid new : List Thing) → Adds t f old mid → Adds t g mid new → Adds t (λ q. f q || g q) old new
adds_then t f g old mid new first last = record {
  paths = λ q. last.paths q ∙ ap (λ (b : Bool). b || (is_some (t.look q) && g q)) (first.paths q) ∙ both (listed (thing_paths old) q) (is_some (t.look q)) (f q) (g q);
  things = λ all. last.things (first.things all);
}

-- ---- one path

abbrev path_of : List ℕ × Found → List ℕ
path_of x = x.0

paths_seen : (strays : List Thing) → map path_of (map seen strays) ≡ thing_paths strays
paths_seen [] = refl
paths_seen (s ∷ strays) = ap (λ (l : List (List ℕ)). s.path.bytes ∷ l) (paths_seen strays)

map_on : (xs : List (List ℕ × Found)) (x : List ℕ × Found) → map path_of (xs ++ x ∷ []) ≡ map path_of xs ++ path_of x ∷ []
map_on [] x = refl
map_on (y ∷ xs) x = ap (λ (l : List (List ℕ)). path_of y ∷ l) (map_on xs x)

abbrev IsSeen : Image → List ℕ × Found → Type 0
IsSeen t x = Some x.1 ≡ found_of (t.look x.0)

to_seen : (t : Image) (strays : List Thing) → AreThings t strays → AllByRecursion (IsSeen t) (map seen strays)
to_seen t [] all = all
to_seen t (s ∷ strays) all = (all.0, to_seen t strays all.1)

from_seen : (t : Image) (strays : List Thing) → AllByRecursion (IsSeen t) (map seen strays) → AreThings t strays
from_seen t [] all = all
from_seen t (s ∷ strays) all = (all.0, from_seen t strays all.1)

found_there : (e : Option Entry) (f : Found) → Some f ≡ found_of e → is_some e ≡ true
found_there (Some e) f h = refl
found_there None f h = cc

pub adds_one : (t : Image) (p : List ℕ) (f : Found) (old new : List Thing) → map seen new ≡ map seen old ++ (p, f) ∷ [] → Some f ≡ found_of (t.look p) → Adds t (same_path p) old new
adds_one t p f old new is there = record {
  paths = λ q. ap (λ (l : List (List ℕ)). listed l q) (sym (paths_seen new) ∙ ap (map path_of) is ∙ map_on (map seen old) (p, f) ∙ ap (λ (l : List (List ℕ)). l ++ p ∷ []) (paths_seen old))
      ∙ listed_last (thing_paths old) p q ∙ ap (λ (b : Bool). listed (thing_paths old) q || b) (sym (go q (same_path p q) refl));
  things = λ all. from_seen t new (subst (AllByRecursion (IsSeen t)) (sym is) (all_append (IsSeen t) (map seen old) ((p, f) ∷ []) (to_seen t old all) (there, tt)));
}
  where
    go : (q : List ℕ) (b : Bool) → same_path p q ≡ b → (is_some (t.look q) && same_path p q) ≡ same_path p q
    go q true same = ap (λ (x : List ℕ). is_some (t.look x) && same_path p q) (sym (same_path-true p q same)) ∙ ap (λ (b : Bool). b && same_path p q) (found_there (t.look p) f there)
    go q false apart = ap (λ (b : Bool). is_some (t.look q) && b) apart ∙ none (is_some (t.look q)) ∙ sym apart
      where
        none : (b : Bool) → (b && false) ≡ false
        none true = refl
        none false = refl

-- what was found there, if anything was
pub adds_found : (t : Image) (p : List ℕ) (o : Option Told) (f : Told) (old new : List Thing) → o ≡ Some f → option_map found_told o ≡ found_of (t.look p) → map seen new ≡ map seen old ++ (p, found_told f) ∷ [] → Adds t (same_path p) old new
adds_found t p o f old new some is on = adds_one t p (found_told f) old new on (sym (ap (option_map found_told) some) ∙ is)

pub adds_unfound : (t : Image) (p : List ℕ) (o : Option Told) (old : List Thing) → o ≡ None → option_map found_told o ≡ found_of (t.look p) → Adds t (same_path p) old old
adds_unfound t p o old none is = adds_none t (same_path p) old (λ q there. false_from_ne_true _ (λ same.
    clash (is_some (t.look p)) (ap (λ (x : List ℕ). is_some (t.look x)) (same_path-true p q same) ∙ there) (absent (t.look p) (sym is ∙ ap (option_map found_told) none))))
  where
    absent : (e : Option Entry) → found_of e ≡ None → is_some e ≡ false
    absent (Some (Dir m f)) h = cc
    absent (Some (File m b)) h = cc
    absent (Some (Link g)) h = cc
    absent (Some Other) h = cc
    absent None h = refl

-- ---- what is no directory

-- nothing stands below it
pub alone : (t : Image) (p q : List ℕ) → IsImage t → is_dir (t.look p) ≡ false → is_some (t.look q) ≡ true → is_below p q ≡ false
alone t p q formed other there = false_from_ne_true _ (λ below.
    let parts = and_parts (covers p q) (not (same_path p q)) below in
    clash (is_dir (t.look p)) (dir_above t p q formed there parts.0 (not-true _ parts.1)) other)

-- what is at or below it is it
covers_alone : (p q : List ℕ) → is_below p q ≡ false → same_path p q ≡ covers p q
covers_alone p q none = go (same_path p q) refl (covers p q) refl
  where
    go : (s : Bool) → same_path p q ≡ s → (c : Bool) → covers p q ≡ c → same_path p q ≡ covers p q
    go true same c is = same ∙ sym (same_covers p q same)
    go false apart true over = clash (is_below p q) (below_of p q over apart) none
    go false apart false over = apart ∙ sym over

pub adds_alone : (t : Image) (p : List ℕ) (old new : List Thing) → IsImage t → is_dir (t.look p) ≡ false → Adds t (same_path p) old new → Adds t (covers p) old new
adds_alone t p old new formed other adds = adds_as t (same_path p) (covers p) old new adds (λ q there. covers_alone p q (alone t p q formed other there))

pub adds_absent : (t : Image) (p : List ℕ) (old : List Thing) → IsImage t → t.look p ≡ None → Adds t (covers p) old old
adds_absent t p old formed none = adds_none t (covers p) old (λ q there. sym (covers_alone p q (alone t p q formed (ap is_dir none) there)) ∙ false_from_ne_true _ (λ same.
    clash (is_some (t.look p)) (ap (λ (x : List ℕ). is_some (t.look x)) (same_path-true p q same) ∙ there) (ap is_some none)))

-- ---- what a look finds

pub absent_looked : (e : Option Entry) (l : Look) → l ≡ look_of e → l ≡ look.Absent → e ≡ None
absent_looked None l h k = refl
absent_looked (Some (Dir m f)) l h k = absurd (let bad : look.Absent ≡ look.Dir m = sym k ∙ h in cc)
absent_looked (Some (File m b)) l h k = absurd (let bad : look.Absent ≡ look.File m (length b) = sym k ∙ h in cc)
absent_looked (Some (Link g)) l h k = absurd (let bad : look.Absent ≡ look.Link = sym k ∙ h in cc)
absent_looked (Some Other) l h k = absurd (let bad : look.Absent ≡ look.Other = sym k ∙ h in cc)

pub dir_looked : (e : Option Entry) (m : ℕ) → look.Dir m ≡ look_of e → e ≡ Some (Dir m (is_foreign e))
dir_looked None m h = absurd (cc)
dir_looked (Some (Dir n f)) m h = ap (λ (x : ℕ). Some (Dir x f)) (go h)
  where
    go : look.Dir m ≡ look.Dir n → n ≡ m
    go e = cc
dir_looked (Some (File n b)) m h = absurd (cc)
dir_looked (Some (Link g)) m h = absurd (cc)
dir_looked (Some Other) m h = absurd (cc)

-- ---- the children of a directory

-- the child's path is longer
abbrev pub longer : List ℕ → List ℕ → Bool
longer dir c = nat_lt (length dir) (length c)

-- the directory itself, or what is at or below one of these whose path is longer
abbrev pub self_or_among : List ℕ → List (List ℕ) → Test
self_or_among dir paths q = same_path dir q || list_any (λ c. longer dir c && covers c q) paths

split : (p q : List ℕ) → (same_path p q || is_below p q) ≡ covers p q
split p q = go (same_path p q) (covers p q) (same_covers p q)
  where
    go : (s b : Bool) → (s ≡ true → b ≡ true) → (s || (b && not s)) ≡ b
    go true b h = sym (h refl)
    go false true h = refl
    go false false h = refl

under : (b c : Bool) → (b ≡ true → c ≡ true) → (b && c) ≡ b
under true c h = h refl
under false c h = refl

pub adds_children : (t : Image) (dir : List ℕ) (paths : List (List ℕ)) (old new : List Thing) → IsImage t → AreChildren t dir paths → Adds t (self_or_among dir paths) old new → Adds t (covers dir) old new
adds_children t dir paths old new formed are adds = adds_as t (self_or_among dir paths) (covers dir) old new adds (λ q there.
    ap (λ (b : Bool). same_path dir q || b) (among_children t dir q (longer dir) paths formed are there ∙ under (is_below dir q) (longer dir (branch dir q)) (λ below. lt-ltb _ _ (parent_length (branch dir q) dir (branch_parent dir q below))))
    ∙ split dir q)

pub adds_hanging : (t : Image) (rows paths : List (List ℕ)) (dir : List ℕ) (old new : List Thing) → IsImage t → AreChildren t dir paths → Adds t (λ q. list_any (λ c. not (listed rows c) && covers c q) paths) old new → Adds t (hangs rows dir) old new
adds_hanging t rows paths dir old new formed are adds = adds_as t (λ q. list_any (λ c. not (listed rows c) && covers c q) paths) (hangs rows dir) old new adds (λ q there. among_children t dir q (λ c. not (listed rows c)) paths formed are there)

pub adds_undirected : (t : Image) (rows : List (List ℕ)) (p : List ℕ) (old : List Thing) → IsImage t → is_dir (t.look p) ≡ false → Adds t (hangs rows p) old old
adds_undirected t rows p old formed other = adds_none t (hangs rows p) old (λ q there. ap (λ (b : Bool). b && not (listed rows (branch p q))) (alone t p q formed other there))

-- ---- one path of a list after another

-- the first so many of them
abbrev pub first_of : List Kept → ℕ → List (List ℕ)
first_of paths i = path_bytes (take i paths)

bytes_on : (xs : List Kept) (x : Kept) → path_bytes (xs ++ x ∷ []) ≡ path_bytes xs ++ x.bytes ∷ []
bytes_on [] x = refl
bytes_on (y ∷ xs) x = ap (λ (l : List (List ℕ)). y.bytes ∷ l) (bytes_on xs x)

pub any_next : (f : Test) (paths : List Kept) (i : ℕ) (path : Kept) → i < length paths → path ≡ get_or paths i path → list_any f (first_of paths (i + 1)) ≡ (list_any f (first_of paths i) || f path.bytes)
any_next f paths i path lt is = ap (λ (l : List Kept). list_any f (path_bytes l)) (take_item paths i path lt is) ∙ ap (list_any f) (bytes_on (take i paths) path) ∙ list_any-append f (path_bytes (take i paths)) (path.bytes ∷ [])
    ∙ ap (λ (b : Bool). list_any f (path_bytes (take i paths)) || b) (sym (or_false (f path.bytes)))

-- one more path of a list, where a flag holds
pub adds_next : (t : Image) (first : Test) (f : List ℕ → Test) (paths : List Kept) (i : ℕ) (path : Kept) (old mid new : List Thing) → i < length paths → path ≡ get_or paths i path
    → Adds t (λ q. first q || list_any (λ c. f c q) (first_of paths i)) old mid → Adds t (f path.bytes) mid new → Adds t (λ q. first q || list_any (λ c. f c q) (first_of paths (i + 1))) old new
adds_next t first f paths i path old mid new lt is before one =
    adds_as t (λ q. (first q || list_any (λ c. f c q) (first_of paths i)) || f path.bytes q) (λ q. first q || list_any (λ c. f c q) (first_of paths (i + 1))) old new
    (adds_then t (λ q. first q || list_any (λ c. f c q) (first_of paths i)) (f path.bytes) old mid new before one)
    (λ q there. or_assoc (first q) (list_any (λ c. f c q) (first_of paths i)) (f path.bytes q) ∙ ap (λ (b : Bool). first q || b) (sym (any_next (λ c. f c q) paths i path lt is)))

-- where the flag holds, and where it doesn't
pub adds_flagged : (t : Image) (flag : Bool) (test : Test) (old new : List Thing) → flag ≡ true → Adds t test old new → Adds t (λ q. flag && test q) old new
adds_flagged t flag test old new is adds = adds_as t test (λ q. flag && test q) old new adds (λ q there. sym (ap (λ (b : Bool). b && test q) is))

pub adds_unflagged : (t : Image) (flag : Bool) (test : Test) (old : List Thing) → flag ≡ false → Adds t (λ q. flag && test q) old old
adds_unflagged t flag test old is = adds_none t (λ q. flag && test q) old (λ q there. ap (λ (b : Bool). b && test q) is)

-- the directory itself comes first
pub adds_self : (t : Image) (dir : List ℕ) (old new : List Thing) → Adds t (same_path dir) old new → Adds t (self_or_among dir []) old new
adds_self t dir old new adds = adds_as t (same_path dir) (self_or_among dir []) old new adds (λ q there. or_false (same_path dir q))

-- What is found that is no directory.
pub record IsAlone (e : Option Entry) (f : Found) : Type 0 where
  pub found : Some f ≡ found_of e
  pub other : is_dir e ≡ false

pub file_looked : (e : Option Entry) (m n : ℕ) → look.File m n ≡ look_of e → IsAlone e (FoundFile m)
file_looked None m n h = absurd (cc)
file_looked (Some (Dir k f)) m n h = absurd (cc)
file_looked (Some (File k b)) m n h = record { found = ap (λ (x : ℕ). Some (FoundFile x)) (go h); other = refl }
  where
    go : look.File m n ≡ look.File k (length b) → m ≡ k
    go e = cc
file_looked (Some (Link g)) m n h = absurd (cc)
file_looked (Some Other) m n h = absurd (cc)

pub link_looked : (e : Option Entry) (f : Found) → look.Link ≡ look_of e → Some f ≡ found_of e → IsAlone e f
link_looked None f h is = absurd (cc)
link_looked (Some (Dir k g)) f h is = absurd (cc)
link_looked (Some (File k b)) f h is = absurd (cc)
link_looked (Some (Link g)) f h is = record { found = is; other = refl }
link_looked (Some Other) f h is = absurd (cc)

pub other_looked : (e : Option Entry) → look.Other ≡ look_of e → IsAlone e FoundOther
other_looked None h = absurd (cc)
other_looked (Some (Dir k f)) h = absurd (cc)
other_looked (Some (File k b)) h = absurd (cc)
other_looked (Some (Link g)) h = absurd (cc)
other_looked (Some Other) h = record { found = refl; other = refl }

pub adds_looked : (t : Image) (p : List ℕ) (f : Found) (old new : List Thing) → IsImage t → IsAlone (t.look p) f → map seen new ≡ map seen old ++ (p, f) ∷ [] → Adds t (covers p) old new
adds_looked t p f old new formed one is = adds_alone t p old new formed one.other (adds_one t p f old new is one.found)
