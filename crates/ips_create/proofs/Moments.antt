-- What is so at a moment, and what is kept then.
use Rattle.std.proofs.Common.{◌≡◌, inl, inr, ℕ, Bool, true, false, cond, ◌&&◌, ◌||◌, List, [], ◌∷◌, Option, Some, None, refl, ap, subst, ◌∙◌}
use Rattle.std.specs.List.{Contains}
use Rattle.std.proofs.lemmas.Bool.{and_right, or_parts, or_from}
use Rattle.ips_text.specs.Ancestry.{covers}
use Rattle.ips_outside.specs.Image.{Entry, Image, is_dir, file_bytes}
use Rattle.ips_outside.specs.State.{State, MayLeave, IsSettled, ChangedWithin}
use Rattle.ips_outside.proofs.Moments.{within_crash}
use Rattle.ips_steps.specs.Steps.{stage_name}
use Rattle.ips_steps.specs.Private.{journal_name, gate_name, mark_front, is_private, visible}
use Rattle.ips_steps.proofs.Lists.{clash}
use Rattle.ips_journal.specs.Text.{journal_text}
use Rattle.ips_repo.specs.Places.{mark_place}
use Rattle.ips_repo.specs.Mark.{is_repository, is_mark_file}
use Rattle.ips_ways.specs.Ways.{gives_way, is_missing}
use Rattle.ips_ways.proofs.Stand.{In, contains_of}
use Rattle.ips_lay.specs.Records.{record_dirs}
use Rattle.ips_sends.specs.Keeps.{Keeps, Shut}
use Rattle.ips_sends.specs.Whole.{Attempt, AreWholeOrOut}
use Rattle.ips_sends.proofs.Stops.{seen}
use Rattle.ips_create.specs.Created.{Layout, all_dirs}
use Rattle.ips_create.specs.Making.{StandsBut, StandsIfMarked, IsMarkedLast, is_laid}
use Rattle.ips_create.specs.Ready.{IsLayout, is_put}

abbrev Path : Type 0
Path = List ℕ

abbrev PathTest : Type 0
PathTest = List ℕ → Bool

-- ---- which paths are changed

less_missing : (a b c : Bool) → (a ≡ true → b ≡ true) → (b && c) ≡ false → (a && c) ≡ false
less_missing true b c older off = subst (λ (x : Bool). (x && c) ≡ false) (older refl) off
less_missing false b c older off = refl

-- a path that is below none of them
pub not_missing : (t : Image) (paths : List Path) (q : Path) → ((d : Path) → In paths d → covers d q ≡ false) → is_missing t paths q ≡ false
not_missing t [] q off = refl
not_missing t (p ∷ paths) q off = or_from (gives_way p (t.look p) && covers p q) (is_missing t paths q) (and_right (gives_way p (t.look p)) (covers p q) (off p (inl refl))) (not_missing t paths q (λ d has. off d (inr has)))

-- less is missing where less gives way
pub missing_less : (t u : Image) (paths : List Path) (q : Path) → ((r : Path) → gives_way r (u.look r) ≡ true → gives_way r (t.look r) ≡ true) → is_missing t paths q ≡ false → is_missing u paths q ≡ false
missing_less t u [] q older off = refl
missing_less t u (p ∷ paths) q older off =
    let parts = or_parts (gives_way p (t.look p) && covers p q) (is_missing t paths q) off in
    or_from (gives_way p (u.look p) && covers p q) (is_missing u paths q)
    (less_missing (gives_way p (u.look p)) (gives_way p (t.look p)) (covers p q) (older p) parts.0)
    (missing_less t u paths q older parts.1)

pub of_records : (l : Layout) (d : Path) → In record_dirs d → Contains (all_dirs l) d
of_records l d (inl is) = contains_of (all_dirs l) d (inl is)
of_records l d (inr (inl is)) = contains_of (all_dirs l) d (inr (inl is))
of_records l d (inr (inr never)) = absurd never

pub of_places : (l : Layout) (d : Path) → In l.dirs d → Contains (all_dirs l) d
of_places l d has = contains_of (all_dirs l) d (inr (inr has))

-- none of these is the mark's, nor the gate's
module _ (l : Layout) (is : IsLayout l) (t : Image) where
  pub records_off_mark : is_missing t record_dirs mark_place ≡ false
  records_off_mark = not_missing t record_dirs mark_place (λ d has. is.dirs_marked d (of_records l d has))

  pub put_off_mark : is_put l.catalog l.dirs t mark_place ≡ false
  put_off_mark = or_from (covers l.catalog mark_place) (is_missing t l.dirs mark_place) is.catalog_marked (not_missing t l.dirs mark_place (λ d has. is.dirs_marked d (of_places l d has)))

  pub laid_off_gate : is_laid l t gate_name ≡ false
  laid_off_gate = or_from (covers mark_place gate_name) (covers l.catalog gate_name || is_missing t l.dirs gate_name) is.mark_shut
      (or_from (covers l.catalog gate_name) (is_missing t l.dirs gate_name) is.catalog_shut (not_missing t l.dirs gate_name (λ d has. is.dirs_shut d (contains_of l.dirs d has))))

-- the rest is among all that is laid
pub put_laid : (l : Layout) (t u : Image) → ((r : Path) → gives_way r (u.look r) ≡ true → gives_way r (t.look r) ≡ true) → (q : Path) → is_laid l t q ≡ false → is_put l.catalog l.dirs u q ≡ false
put_laid l t u older q off =
    let parts = or_parts (covers mark_place q) (covers l.catalog q || is_missing t l.dirs q) off in
    let rest = or_parts (covers l.catalog q) (is_missing t l.dirs q) parts.1 in
    or_from (covers l.catalog q) (is_missing u l.dirs q) rest.0 (missing_less t u l.dirs q older rest.1)

-- so is the mark
pub mark_laid : (l : Layout) (t : Image) (q : Path) → is_laid l t q ≡ false → covers mark_place q ≡ false
mark_laid l t q off = (or_parts (covers mark_place q) (covers l.catalog q || is_missing t l.dirs q) off).0

-- ---- what a crash leaves of a state that was reached from a safe one

pub left_look : (free loose : PathTest) (old s : State) → IsSettled old → ChangedWithin free loose old s → (c : Image) → MayLeave s c → (q : Path) → free q ≡ false → loose q ≡ false → c.look q ≡ old.held.look q
left_look free loose old s clean w c may q f g = (within_crash free loose old s c w may).look q (or_from (free q) (old.whole q) f (clean.whole q)) (or_from (loose q) (old.modes q) g (clean.modes q))

-- ---- the mark

pub marked_by : (t c : Image) → c.look mark_place ≡ t.look mark_place → is_repository c ≡ is_repository t
marked_by t c same = ap (λ (e : Option Entry). is_mark_file (file_bytes e)) same

vacuous : (l : Layout) (t c : Image) → c.look mark_place ≡ t.look mark_place → is_repository t ≡ false → StandsIfMarked l c
vacuous l t c same unmarked valid = clash (is_repository c) valid (marked_by t c same ∙ unmarked)

-- it isn't touched, and isn't valid
pub unmarked_last : (l : Layout) (free loose : PathTest) (old s : State) → IsSettled old → ChangedWithin free loose old s → free mark_place ≡ false → loose mark_place ≡ false → is_repository old.held ≡ false → IsMarkedLast l s
unmarked_last l free loose old s clean w f g unmarked = record {
  now = vacuous l old.held s.held (w.agrees.look mark_place f g) unmarked;
  left = λ c may. vacuous l old.held c (left_look free loose old s clean w c may mark_place f g) unmarked;
}

stands_on : (l : Layout) → IsLayout l → (t c : Image) → ((q : Path) → covers mark_place q ≡ false → c.look q ≡ t.look q) → StandsBut l t → StandsBut l c
stands_on l is t c same stands = (ap file_bytes (same l.catalog is.mark_listed) ∙ stands.0, λ d has. ap is_dir (same d (is.mark_dirs d has)) ∙ stands.1 d has)

-- it alone is touched, and the rest stands
pub stands_last : (l : Layout) → IsLayout l → (old s : State) → IsSettled old → ChangedWithin (covers mark_place) (covers mark_place) old s → StandsBut l old.held → IsMarkedLast l s
stands_last l is old s clean w stands = record {
  now = λ valid. stands_on l is old.held s.held (λ q off. w.agrees.look q off off) stands;
  left = λ c may valid. stands_on l is old.held c (λ q off. left_look (covers mark_place) (covers mark_place) old s clean w c may q off off) stands;
}

-- ---- attempts at publications

mark_shown : is_private mark_place ≡ false
unfolding stage_name journal_name gate_name mark_front
mark_shown = refl

-- nothing was attempted where there is no mark
none_attempted : (xs : List Attempt) (t : Image) → is_repository t ≡ false → AreWholeOrOut xs (visible t) → (x : Attempt) → Contains xs x → ⊥
none_attempted xs t unmarked are x has =
    clash (is_repository (visible t)) (are.mark x has) (ap (λ (b : Bool). is_mark_file (file_bytes (cond b None (t.look mark_place)))) mark_shown ∙ unmarked)

none_said : (xs : List Attempt) → ((x : Attempt) → Contains xs x → ⊥) → (t : Image) → AreWholeOrOut xs t
none_said xs none t = record { mark = λ x has. absurd (none x has); each = λ x has listed. absurd (none x has); answered = λ x has is. absurd (none x has) }

-- whatever was said of attempts is said still
pub kept_within : (xs : List Attempt) (first old s : State) (free loose : PathTest) → Keeps journal_text (AreWholeOrOut xs) first → first.held.look gate_name ≡ None → is_repository first.held ≡ false
    → IsSettled old → old.held.look gate_name ≡ None → ChangedWithin free loose old s → free gate_name ≡ false → loose gate_name ≡ false → Keeps journal_text (AreWholeOrOut xs) s
kept_within xs first old s free loose was shut_first unmarked clean shut w f g =
    let none = none_attempted xs first.held unmarked (seen journal_text (AreWholeOrOut xs) first was shut_first) in
    record {
      now = (visible s.held, Shut (w.agrees.look gate_name f g ∙ shut) refl, none_said xs none (visible s.held));
      left = λ c may. (visible c, Shut (left_look free loose old s clean w c may gate_name f g ∙ shut) refl, none_said xs none (visible c));
    }
