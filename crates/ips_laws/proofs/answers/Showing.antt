-- A command that shows decides once.
use Rattle.std.proofs.Common.{◌≡◌, ◌≢◌, ◌⊎◌, inl, inr, ℕ, suc, ◌<◌, Bool, true, false, List, [], ◌∷◌, ◌++◌, flat_map, map, length, Contains, Some, None, Ok, codes, refl, sym, ◌∙◌, ap, subst, arith}
use Rattle.std.specs.Fmt.{decimal}
use Rattle.std.specs.declared.vec.Vec.{Vec}
use Rattle.std.specs.declared.alloc.Global.{Global}
use Rattle.std.specs.List.{AllByRecursion}
use Rattle.std.specs.Ordering.{nat_cmp}
use Rattle.std.specs.Cmp.Lexicographic.{slice_cmp}
use Rattle.std.specs.declared.cmp.Ordering.TheVariants.{Less}
use Rattle.std.proofs.lemmas.Map.Keys.{sorted_head, sorted_tail}
use Rattle.ips_text.specs.Quote.{shown}
use Rattle.ips_text.specs.declared.refusal.Or.TheVariants.{Bad}
use Rattle.ips_fmri.specs.Fmri.{fmri_text}
use Rattle.ips_fmri.specs.declared.pattern.Pattern.{Pattern}
use Rattle.ips_outside.specs.Image.{Image}
use Rattle.ips_filter.specs.Settings.{Set}
use Rattle.ips_index.specs.Rows.{IndexedValue, index_text}
use Rattle.ips_index.specs.Scan.{AreFound}
use Rattle.ips_index.proofs.InSets.{same_rows}
use Rattle.ips_index.proofs.IndexFiles.{rows_one}
use Rattle.ips_manifest.specs.Manifest.{manifest_text}
use Rattle.ips_manifest.specs.declared.line.Line.{Line}
use Rattle.ips_manifest.specs.declared.package.Package.{Package}
use Rattle.ips_records.specs.Lines.{ended, lines_text}
use Rattle.ips_state.specs.State.{Ascend, Installed, Recorded, installed, recorded}
use Rattle.ips_state.specs.Text.{versioned_stem}
use Rattle.ips_state.specs.Records.{image_path, index_path}
use Rattle.ips_state.specs.declared.state.State.{State}
use Rattle.ips_load.specs.Fault.{IsHeadFile, StandsAs}
use Rattle.ips_load.specs.Held.{HoldsIndex}
use Rattle.ips_load.specs.declared.fault.StateFault.{StateFault}
use Rattle.ips_load.specs.declared.fault.StateFault.TheVariants as unread
use Rattle.ips_entries.proofs.HeldOnce.{file_one, held_once, none_stands}
use Rattle.ips_laws.proofs.recorded.NoFault.{no_fault}
use Rattle.ips_laws.proofs.recorded.OneFault.{search_fault_one, searched_good, state_fault_one}
use Rattle.ips_laws.specs.recorded.Same.{IsOfRecord, IsSameFault}
use Rattle.ips_meaning.specs.Want.{PackagesMean}
use Rattle.ips_meaning.specs.declared.entry.Entry.{Entry}
use Rattle.ips_meaning.specs.declared.fault.WantFault.{WantFault}
use Rattle.ips_meaning.specs.declared.fault.WantFault.TheVariants as unwanted
use Rattle.ips_meaning.specs.declared.finding.Finding.{Finding}
use Rattle.ips_after.specs.Findings as after
use Rattle.ips_after.specs.Findings.{findings}
use Rattle.ips_after.specs.Request.{Want}
use Rattle.ips_change.specs.wanted.Wanted.{want_of}
use Rattle.ips_change.specs.wanted.Named.{is_payload_of}
use Rattle.ips_verify.specs.Verified.{damage_told, finding_told}
use Rattle.ips_entries.proofs.OneState.{not_less_itself}
use Rattle.ips_laws.proofs.Elements.{first_of, here_or_later, later_of}
use Rattle.ips_laws.proofs.InOrder.{same_paths}
use Rattle.ips_next.proofs.OneDecided.{one_matched}
use Rattle.ips_request.specs.Named.{AreMatched, named_among}
use Rattle.ips_shown.specs.Shown.{IsContentsText, found_text, list_text}
use Rattle.ips_shown.specs.Naming.{IsUnnamed, stems_of}
use Rattle.ips_shown.specs.declared.naming.NamingFault.{NamingFault}
use Rattle.ips_shown.specs.declared.naming.NamingFault.TheVariants as naming
use Rattle.ips_meaning.specs.declared.finding.Damage.{Damage}
use Rattle.ips_meaning.specs.declared.finding.Damage.TheVariants as damage
use Rattle.ips_report.specs.Report.{behind_blanks, damage_text, finding_text, line}
use Rattle.ips_report.specs.declared.outcome.Outcome.{Outcome}
use Rattle.ips_report.specs.declared.outcome.Outcome.TheVariants as outcome
use Rattle.ips_run.specs.declared.operation.Decision.{Decision}
use Rattle.ips_run.specs.declared.operation.Decision.TheVariants as decision
use Rattle.ips_tell.specs.refusals.Told.{unmeant_told, unread_told}
use Rattle.ips_showing.specs.Asked as asked
use Rattle.ips_showing.specs.Asked.{Asked}
use Rattle.ips_showing.specs.Shows as shows
use Rattle.ips_showing.specs.Shows.{AreCompared, AreFoundIn, AreUnmeant, HasIndex, IsNamed, IsNotNamed, IsPackageText, IsUnread, Loaded, Shows}
use Rattle.ips_laws.specs.plan_laws.Alike as alike
use Rattle.ips_laws.specs.answers.Decided.{DecideTheSame, DecidesOnce}
use Rattle.ips_laws.specs.answers.Same.{SayTheSame}
use Rattle.ips_laws.proofs.answers.Told.{by_field, of_record, unmeant_same, unread_same}

-- ---- the laws of what it rests on

abbrev pub MeansOnce : Type 0
MeansOnce = (a b : State) (x y : List (List ℕ × Entry)) → recorded a ≡ recorded b → PackagesMean a.settings a.mediators.items a.installed.items x → PackagesMean b.settings b.mediators.items b.installed.items y → want_of x ≡ want_of y

abbrev pub FailsOnce : Type 0
FailsOnce = (a b : State) (why other : WantFault) → recorded a ≡ recorded b → AreUnmeant a why → AreUnmeant b other → alike.IsSameUnmeant why other

abbrev pub MeansOrFails : Type 0
MeansOrFails = (a b : State) (why : WantFault) (y : List (List ℕ × Entry)) → recorded a ≡ recorded b → AreUnmeant a why → PackagesMean b.settings b.mediators.items b.installed.items y → ⊥

-- ---- by what is read

-- What is shown of a text.
abbrev showing : List ℕ → Decision Outcome
showing text = decision.Shown (outcome.Shown text)

-- How it is told that a pattern names no one package.
abbrev naming_told : NamingFault → Decision Outcome
naming_told (naming.NoMatch text) = decision.Refused (outcome.NoMatch text)
naming_told (naming.Ambiguous text stems) = decision.Refused (outcome.Ambiguous text stems)

record IsDelivered (s : State) (pattern : Pattern) (manifest : Bool) (d : Decision Outcome) : Type 0 where
  delivered : Package
  text : List ℕ
  named : IsNamed s pattern delivered
  is_text : IsPackageText manifest s.settings delivered text
  is : d ≡ showing text

record IsMisnamed (s : State) (pattern : Pattern) (d : Decision Outcome) : Type 0 where
  why : NamingFault
  misnamed : IsNotNamed s pattern why
  is : d ≡ naming_told why

record FailsToMean (s : State) (d : Decision Outcome) : Type 0 where
  why : WantFault
  unmeant : AreUnmeant s why
  is : d ≡ unmeant_told why

-- What is told of findings.
abbrev AreTold : List Finding → Decision Outcome → Type 0
AreTold found d = ((v : Vec Finding Global) × (v.items ≡ found) × (found ≢ []) × (d ≡ decision.Refused (outcome.Damaged v))) ⊎ ((found ≡ []) × (d ≡ showing (ended (codes "ok"))))

record IsCompared (t : Image) (s : State) (d : Decision Outcome) : Type 0 where
  found : List Finding
  compared : AreCompared t s found
  told : AreTold found d

record HasNoIndex (t : Image) (d : Decision Outcome) : Type 0 where
  head : StandsAs IsHeadFile t image_path
  none : HoldsIndex t None
  is : d ≡ decision.Refused outcome.NoIndex

-- What is told of rows that were found.
abbrev AreListed : List ℕ → List IndexedValue → Decision Outcome → Type 0
AreListed pattern found d = ((found ≡ []) × (d ≡ decision.Refused (outcome.NoMatch pattern))) ⊎ ((found ≢ []) × (d ≡ showing (found_text found)))

record IsSearched (t : Image) (pattern : List ℕ) (d : Decision Outcome) : Type 0 where
  found : List IndexedValue
  are_found : AreFoundIn t pattern found
  told : AreListed pattern found d

-- What is decided where the records that are asked for are read.
abbrev Reads : Image → Asked → Decision Outcome → Type 0
Reads t asked.Listing d = (l : Loaded t) × (d ≡ showing (list_text l.state.installed.items))
Reads t asked.History d = (l : Loaded t) × (d ≡ showing (lines_text l.state.history.items))
Reads t (asked.Contents pattern manifest) d = (l : Loaded t) × (IsDelivered l.state pattern manifest d ⊎ IsMisnamed l.state pattern d)
Reads t asked.Verify d = (l : Loaded t) × (FailsToMean l.state d ⊎ IsCompared t l.state d)
Reads t (asked.Search pattern) d = HasNoIndex t d ⊎ IsSearched t pattern d

record IsFault (t : Image) (a : Asked) (d : Decision Outcome) : Type 0 where
  why : StateFault
  unread : IsUnread a t why
  told : unread_told (Bad why) ≡ Ok d

split : (t : Image) (a : Asked) (d : Decision Outcome) → Shows t a d → IsFault t a d ⊎ Reads t a d
split t a d (shows.NoImage bad) = inl (record { why = unread.NoImage; unread = bad; told = refl })
split t a d (shows.BadImage {file = file} {line = number} bad) = inl (record { why = unread.BadImage file number; unread = bad; told = refl })
split t a d (shows.TooLarge {which = which} {count = count} bad) = inl (record { why = unread.TooLarge which count; unread = bad; told = refl })
split t a d (shows.Listed l) = inr (l, refl)
split t a d (shows.Remembered l) = inr (l, refl)
split t a d (shows.Delivered {text = text} l p named is) = inr (l, inl (record { delivered = p; text = text; named = named; is_text = is; is = refl }))
split t a d (shows.NoMatch {text = text} l bad) = inr (l, inr (record { why = naming.NoMatch text; misnamed = bad; is = refl }))
split t a d (shows.Ambiguous {text = text} {stems = stems} l bad) = inr (l, inr (record { why = naming.Ambiguous text stems; misnamed = bad; is = refl }))
split t a d (shows.Reserved {path = path} l bad) = inr (l, inl (record { why = unwanted.Reserved path; unmeant = bad; is = refl }))
split t a d (shows.Clash {clash = clash} l bad) = inr (l, inl (record { why = unwanted.Clash clash; unmeant = bad; is = refl }))
split t a d (shows.Damaged {found = found} l compared some) = inr (l, inr (record { found = found.items; compared = compared; told = inl (found, refl, some, refl) }))
split t a d (shows.Sound l compared) = inr (l, inr (record { found = []; compared = compared; told = inr (refl, refl) }))
split t a d (shows.NoIndex head none) = inr (inl (record { head = head; none = none; is = refl }))
split t a d (shows.NotFound found) = inr (inr (record { found = []; are_found = found; told = inl (refl, refl) }))
split t a d (shows.Found {found = found} are some) = inr (inr (record { found = found; are_found = are; told = inr (some, refl) }))

-- two decisions that are these are the same where these are
same_where : (d e x y : Decision Outcome) → d ≡ x → e ≡ y → DecideTheSame x y → DecideTheSame d e
same_where d e x y is was same = subst (λ (z : Decision Outcome). DecideTheSame z e) (sym is) (subst (DecideTheSame x) (sym was) same)

shown_same : (d e : Decision Outcome) (a b : List ℕ) → d ≡ showing a → e ≡ showing b → a ≡ b → DecideTheSame d e
shown_same d e a b is was same = same_where d e (showing a) (showing b) is was (by_field outcome.Shown a b same)

-- ---- packages

listed_text : (ps : List Package) → list_text ps ≡ flat_map (λ (p : Installed). ended (fmri_text (versioned_stem p))) (map installed ps)
listed_text [] = refl
listed_text (p ∷ ps) = ap (λ (rest : List ℕ). ended (fmri_text (versioned_stem (installed p))) ++ rest) (listed_text ps)

stems_listed : (ps : List Package) → stems_of ps ≡ map (λ (p : Installed). p.stem) (map installed ps)
stems_listed [] = refl
stems_listed (p ∷ ps) = ap (λ (rest : List (List ℕ)). p.stem ∷ rest) (stems_listed ps)

contained_installed : (ps : List Package) (p : Package) → Contains ps p → Contains (map installed ps) (installed p)
contained_installed [] p c = let within = c.1 in absurd (omega (arith, within))
contained_installed (q ∷ ps) p c = elim (here_or_later q ps p c) [
  | inl here ↦ first_of (installed q) (map installed ps) (installed p) (ap installed here)
  | inr later ↦ later_of (installed q) (map installed ps) (installed p) (contained_installed ps p later)
]

less_than : (z : List ℕ) (l : List Installed) (y : Installed) → AllByRecursion (λ (k : List ℕ). slice_cmp nat_cmp z k ≡ Less) (map (λ (p : Installed). p.stem) l) → Contains l y → slice_cmp nat_cmp z y.stem ≡ Less
less_than z [] y all c = let within = c.1 in absurd (omega (arith, within))
less_than z (x ∷ l) y all c = elim (here_or_later x l y c) [
  | inl here ↦ subst (λ (p : Installed). slice_cmp nat_cmp z p.stem ≡ Less) here all.0
  | inr later ↦ less_than z l y all.1 later
]

one_package : (l : List Installed) (x y : Installed) → Ascend (map (λ (p : Installed). p.stem) l) → Contains l x → Contains l y → x.stem ≡ y.stem → x ≡ y
one_package [] x y up c k same = let within = c.1 in absurd (omega (arith, within))
one_package (z ∷ l) x y up c k same = elim (here_or_later z l x c) [
  | inl here ↦ elim (here_or_later z l y k) [
    | inl there ↦ sym here ∙ there
    | inr later ↦ absurd (not_less_itself z.stem y.stem (ap (λ (p : Installed). p.stem) here ∙ same) (less_than z.stem l y above later))
  ]
  | inr later ↦ elim (here_or_later z l y k) [
    | inl there ↦ absurd (not_less_itself z.stem x.stem (ap (λ (p : Installed). p.stem) there ∙ sym same) (less_than z.stem l x above later))
    | inr behind ↦ one_package l x y (sorted_tail (slice_cmp nat_cmp) z.stem (map (λ (p : Installed). p.stem) l) up) later behind same
  ]
]
  where
    above : AllByRecursion (λ (k : List ℕ). slice_cmp nat_cmp z.stem k ≡ Less) (map (λ (p : Installed). p.stem) l)
    above = sorted_head (slice_cmp nat_cmp) z.stem (map (λ (p : Installed). p.stem) l) up

-- ---- the package that a pattern names

few : (xs : List (List ℕ)) → xs ≡ [] → 1 < length xs → ⊥
few xs none some = let e : length xs ≡ 0 = ap length none in omega (arith, e, some)

none_named : (p : Pattern) (matched : List (List ℕ)) (stem : List ℕ) → matched ≡ [] → named_among p matched ≡ Some (stem ∷ []) → ⊥
none_named p matched stem none is = let e : None ≡ Some (stem ∷ []) = sym (ap (named_among p) none) ∙ is in cc

unnamed_same : (p : Pattern) (xs ys : List (List ℕ)) (f g : NamingFault) → xs ≡ ys → IsUnnamed p xs f → IsUnnamed p ys g → DecideTheSame (naming_told f) (naming_told g)
unnamed_same p xs ys (naming.NoMatch text) (naming.NoMatch other) same h k = by_field outcome.NoMatch text other (h.1 ∙ sym k.1)
unnamed_same p xs ys (naming.NoMatch text) (naming.Ambiguous other stems) same h k = absurd (few ys (sym same ∙ h.0) k.0)
unnamed_same p xs ys (naming.Ambiguous text stems) (naming.NoMatch other) same h k = absurd (few xs (same ∙ k.0) h.0)
unnamed_same p xs ys (naming.Ambiguous text stems) (naming.Ambiguous other names) same h k =
    record { number = refl; text = λ i. line (codes "ambiguous " ++ (h.2 ∙ sym k.2) i ++ codes ":" ++ behind_blanks ((h.3 ∙ same ∙ sym k.3) i)) }

named_not_unnamed : (p : Pattern) (xs ys : List (List ℕ)) (stem : List ℕ) (f : NamingFault) → xs ≡ ys → named_among p xs ≡ Some (stem ∷ []) → IsUnnamed p ys f → ⊥
named_not_unnamed p xs ys stem (naming.NoMatch text) same is h = none_named p xs stem (same ∙ h.0) is
named_not_unnamed p xs ys stem (naming.Ambiguous text stems) same is h = h.1 stem (sym (ap (named_among p) same) ∙ is)

contents_one : (s : Set) (lines : List Line) (a b : List ℕ) → IsContentsText s lines a → IsContentsText s lines b → a ≡ b
contents_one s lines a b x y =
    let paths = same_paths x.paths y.paths x.are.order y.are.order (λ p c. (y.are.each p).1 ((x.are.each p).0 c)) (λ p c. (x.are.each p).1 ((y.are.each p).0 c)) in
    x.is ∙ ap (flat_map (λ (path : List ℕ). ended (shown path))) paths ∙ sym y.is

package_text_one : (manifest : Bool) (s r : Set) (p q : Package) (a b : List ℕ) → s ≡ r → installed p ≡ installed q → IsPackageText manifest s p a → IsPackageText manifest r q b → a ≡ b
package_text_one true s r p q a b same one x y = x ∙ ap (λ (i : Installed). manifest_text i.lines) one ∙ sym y
package_text_one false s r p q a b same one x y =
    let lines : p.manifest.lines.items ≡ q.manifest.lines.items = ap (λ (i : Installed). i.lines) one in
    contents_one r q.manifest.lines.items a b (subst (λ (l : List Line). IsContentsText r l a) lines (subst (λ (z : Set). IsContentsText z p.manifest.lines.items a) same x)) y

-- ---- findings

abbrev damage_said : after.Damage → List ℕ
damage_said after.Missing = codes "missing"
damage_said after.WrongKind = codes "wrong kind"
damage_said after.WrongContent = codes "wrong content"
damage_said after.WrongMode = codes "wrong mode"
damage_said after.WrongTarget = codes "wrong target"
damage_said after.NotSame = codes "not same"

damage_as : (d : Damage) → damage_text d ≡ damage_said (damage_told d)
damage_as damage.Missing = refl
damage_as damage.WrongKind = refl
damage_as damage.WrongContent = refl
damage_as damage.WrongMode = refl
damage_as damage.WrongTarget = refl
damage_as damage.NotSame = refl

abbrev line_of : after.Finding → List ℕ
line_of f = line (damage_said f.damage ++ 32 ∷ shown f.path)

finding_as : (f : Finding) → finding_text f ≡ line_of (finding_told f)
finding_as f = ap (λ (said : List ℕ). line (said ++ 32 ∷ shown f.path.bytes)) (damage_as f.damage)

findings_as : (xs : List Finding) → flat_map finding_text xs ≡ flat_map line_of (map finding_told xs)
findings_as [] = refl
findings_as (x ∷ xs) = λ i. finding_as x i ++ findings_as xs i

as_many : (xs : List Finding) → length xs ≡ length (map finding_told xs)
as_many [] = refl
as_many (x ∷ xs) = ap suc (as_many xs)

-- findings that are told the same are reported the same
damaged_same : (v w : Vec Finding Global) → map finding_told v.items ≡ map finding_told w.items → SayTheSame (outcome.Damaged v) (outcome.Damaged w)
damaged_same v w same = record {
  number = refl;
  text = λ i. (findings_as v.items ∙ ap (flat_map line_of) same ∙ sym (findings_as w.items)) i ++ line (codes "damaged " ++ decimal ((as_many v.items ∙ ap length same ∙ sym (as_many w.items)) i));
}

none_told : (xs ys : List Finding) → map finding_told xs ≡ map finding_told ys → xs ≡ [] → ys ≡ []
none_told xs [] same none = refl
none_told xs (y ∷ ys) same none = let e : [] ≡ map finding_told (y ∷ ys) = sym (ap (map finding_told) none) ∙ same in absurd cc

compared_same : (found more : List Finding) (d e : Decision Outcome) → map finding_told found ≡ map finding_told more → AreTold found d → AreTold more e → DecideTheSame d e
compared_same found more d e same (inl x) (inl y) =
    same_where d e (decision.Refused (outcome.Damaged x.0)) (decision.Refused (outcome.Damaged y.0)) x.3 y.3 (damaged_same x.0 y.0 (ap (map finding_told) x.1 ∙ same ∙ sym (ap (map finding_told) y.1)))
compared_same found more d e same (inl x) (inr y) = absurd (x.2 (none_told more found (sym same) y.0))
compared_same found more d e same (inr x) (inl y) = absurd (y.2 (none_told found more same x.0))
compared_same found more d e same (inr x) (inr y) = shown_same d e _ _ x.1 y.1 refl

-- ---- rows

listed_same : (pattern : List ℕ) (found more : List IndexedValue) (d e : Decision Outcome) → found ≡ more → AreListed pattern found d → AreListed pattern more e → DecideTheSame d e
listed_same pattern found more d e same (inl x) (inl y) = same_where d e (decision.Refused (outcome.NoMatch pattern)) (decision.Refused (outcome.NoMatch pattern)) x.1 y.1 (record { number = refl; text = refl })
listed_same pattern found more d e same (inl x) (inr y) = absurd (y.0 (sym same ∙ x.0))
listed_same pattern found more d e same (inr x) (inl y) = absurd (x.0 (same ∙ y.0))
listed_same pattern found more d e same (inr x) (inr y) = shown_same d e (found_text found) (found_text more) x.1 y.1 (ap found_text same)

found_one : (pattern : List ℕ) (rows others found more : List IndexedValue) → rows ≡ others → AreFound pattern rows found → AreFound pattern others more → found ≡ more
found_one pattern rows others found more same x y =
    let z = subst (λ (r : List IndexedValue). AreFound pattern r found) same x in
    same_rows (record { keys = found }) (record { keys = more }) z.ascend y.ascend (λ row. (λ h. (y.each row).1 ((z.each row).0 h), λ h. (z.each row).1 ((y.each row).0 h)))

module _ (means_once : MeansOnce) (fails_once : FailsOnce) (means_or_fails : MeansOrFails) (t : Image) where
  state_one : (x y : Loaded t) → recorded x.state ≡ recorded y.state
  state_one x y = held_once t (recorded x.state) (recorded y.state) x.holds y.holds

  rows_same : (a b : List IndexedValue) → HasIndex t a → HasIndex t b → a ≡ b
  rows_same a b x y = rows_one a b x.rows_are y.rows_are (file_one t index_path (index_text a) (index_text b) x.stands.file y.stands.file)

  -- ---- of a package

  stems_same : (x y : State) → recorded x ≡ recorded y → stems_of x.installed.items ≡ stems_of y.installed.items
  stems_same x y same = stems_listed x.installed.items ∙ ap (λ (r : Recorded). map (λ (p : Installed). p.stem) r.installed) same ∙ sym (stems_listed y.installed.items)

  matched_same : (x y : State) → recorded x ≡ recorded y → (p : Pattern) (a b : List (List ℕ)) → AreMatched x.publisher p (stems_of x.installed.items) a → AreMatched y.publisher p (stems_of y.installed.items) b → a ≡ b
  matched_same x y same p a b h g =
      one_matched y.publisher p (stems_of y.installed.items) a b
      (subst (λ (known : List (List ℕ)). AreMatched y.publisher p known a) (stems_same x y same) (subst (λ (n : List ℕ). AreMatched n p (stems_of x.installed.items) a) (ap (λ (r : Recorded). r.publisher) same) h)) g

  same_package : (x y : Loaded t) (pattern : Pattern) (p q : Package) → IsNamed x.state pattern p → IsNamed y.state pattern q → installed p ≡ installed q
  same_package x y pattern p q h k =
      let same = state_one x y in
      let matched = matched_same x.state y.state same pattern h.named.0 k.named.0 h.named.1 k.named.1 in
      let e : Some (p.stem ∷ []) ≡ Some (q.stem ∷ []) = sym h.named.2 ∙ ap (named_among pattern) matched ∙ k.named.2 in
      let stem : p.stem ≡ q.stem = cc in
      one_package (recorded y.state).installed (installed p) (installed q) y.holds.lawful.installed.order
      (subst (λ (r : Recorded). Contains r.installed (installed p)) same (contained_installed x.state.installed.items p h.stands)) (contained_installed y.state.installed.items q k.stands) stem

  contents_once : (x y : Loaded t) (pattern : Pattern) (manifest : Bool) (d e : Decision Outcome) → IsDelivered x.state pattern manifest d ⊎ IsMisnamed x.state pattern d → IsDelivered y.state pattern manifest e ⊎ IsMisnamed y.state pattern e → DecideTheSame d e
  contents_once x y pattern manifest d e (inl h) (inl k) =
      shown_same d e h.text k.text h.is k.is (package_text_one manifest x.state.settings y.state.settings h.delivered k.delivered h.text k.text (ap (λ (r : Recorded). r.settings) (state_one x y)) (same_package x y pattern h.delivered k.delivered h.named k.named) h.is_text k.is_text)
  contents_once x y pattern manifest d e (inl h) (inr k) =
      absurd (named_not_unnamed pattern h.named.named.0 k.misnamed.0 h.delivered.stem k.why (matched_same x.state y.state (state_one x y) pattern h.named.named.0 k.misnamed.0 h.named.named.1 k.misnamed.1) h.named.named.2 k.misnamed.2)
  contents_once x y pattern manifest d e (inr h) (inl k) =
      absurd (named_not_unnamed pattern k.named.named.0 h.misnamed.0 k.delivered.stem h.why (matched_same y.state x.state (state_one y x) pattern k.named.named.0 h.misnamed.0 k.named.named.1 h.misnamed.1) k.named.named.2 h.misnamed.2)
  contents_once x y pattern manifest d e (inr h) (inr k) =
      same_where d e (naming_told h.why) (naming_told k.why) h.is k.is
      (unnamed_same pattern h.misnamed.0 k.misnamed.0 h.why k.why (matched_same x.state y.state (state_one x y) pattern h.misnamed.0 k.misnamed.0 h.misnamed.1 k.misnamed.1) h.misnamed.2 k.misnamed.2)

  -- ---- of what is found

  verify_once : (x y : Loaded t) (d e : Decision Outcome) → FailsToMean x.state d ⊎ IsCompared t x.state d → FailsToMean y.state e ⊎ IsCompared t y.state e → DecideTheSame d e
  verify_once x y d e (inl h) (inl k) = same_where d e (unmeant_told h.why) (unmeant_told k.why) h.is k.is (unmeant_same h.why k.why (fails_once x.state y.state h.why k.why (state_one x y) h.unmeant k.unmeant))
  verify_once x y d e (inl h) (inr k) = absurd (means_or_fails x.state y.state h.why k.compared.entries (state_one x y) h.unmeant k.compared.mean)
  verify_once x y d e (inr h) (inl k) = absurd (means_or_fails y.state x.state k.why h.compared.entries (state_one y x) k.unmeant h.compared.mean)
  verify_once x y d e (inr h) (inr k) =
      let want = means_once x.state y.state h.compared.entries k.compared.entries (state_one x y) h.compared.mean k.compared.mean in
      compared_same h.found k.found d e (h.compared.found_are ∙ ap (λ (w : Want). findings is_payload_of w t) want ∙ sym k.compared.found_are) h.told k.told

  search_once : (pattern : List ℕ) (d e : Decision Outcome) → HasNoIndex t d ⊎ IsSearched t pattern d → HasNoIndex t e ⊎ IsSearched t pattern e → DecideTheSame d e
  search_once pattern d e (inl h) (inl k) = same_where d e (decision.Refused outcome.NoIndex) (decision.Refused outcome.NoIndex) h.is k.is (record { number = refl; text = refl })
  search_once pattern d e (inl h) (inr k) = absurd (none_stands t index_path (index_text k.are_found.rows) h.none k.are_found.index.stands.file)
  search_once pattern d e (inr h) (inl k) = absurd (none_stands t index_path (index_text h.are_found.rows) k.none h.are_found.index.stands.file)
  search_once pattern d e (inr h) (inr k) =
      listed_same pattern h.found k.found d e (found_one pattern h.are_found.rows k.are_found.rows h.found k.found (rows_same h.are_found.rows k.are_found.rows h.are_found.index k.are_found.index) h.are_found.found_are k.are_found.found_are) h.told k.told

  -- ---- all of it

  reads_once : (a : Asked) (d e : Decision Outcome) → Reads t a d → Reads t a e → DecideTheSame d e
  reads_once asked.Listing d e x y =
      shown_same d e _ _ x.1 y.1 (listed_text x.0.state.installed.items ∙ ap (λ (r : Recorded). flat_map (λ (p : Installed). ended (fmri_text (versioned_stem p))) r.installed) (state_one x.0 y.0) ∙ sym (listed_text y.0.state.installed.items))
  reads_once asked.History d e x y = shown_same d e _ _ x.1 y.1 (ap (λ (r : Recorded). lines_text r.history) (state_one x.0 y.0))
  reads_once (asked.Contents pattern manifest) d e x y = contents_once x.0 y.0 pattern manifest d e x.1 y.1
  reads_once asked.Verify d e x y = verify_once x.0 y.0 d e x.1 y.1
  reads_once (asked.Search pattern) d e x y = search_once pattern d e x y

  good : (a : Asked) (d : Decision Outcome) → Reads t a d → (f : StateFault) → IsUnread a t f → f ≡ unread.FolderFault
  good asked.Listing d x f bad = no_fault t (recorded x.0.state) x.0.holds f bad
  good asked.History d x f bad = no_fault t (recorded x.0.state) x.0.holds f bad
  good (asked.Contents pattern manifest) d x f bad = no_fault t (recorded x.0.state) x.0.holds f bad
  good asked.Verify d x f bad = no_fault t (recorded x.0.state) x.0.holds f bad
  good (asked.Search pattern) d (inl x) f bad = searched_good t None x.head tt x.none f bad
  good (asked.Search pattern) d (inr x) f bad = searched_good t (Some x.are_found.rows) x.are_found.index.head x.are_found.index.rows_are x.are_found.index.stands f bad

  fault_one : (a : Asked) (f g : StateFault) → IsUnread a t f → IsUnread a t g → IsOfRecord f → IsOfRecord g → IsSameFault f g
  fault_one asked.Listing f g x y = state_fault_one t f g x y
  fault_one asked.History f g x y = state_fault_one t f g x y
  fault_one (asked.Contents pattern manifest) f g x y = state_fault_one t f g x y
  fault_one asked.Verify f g x y = state_fault_one t f g x y
  fault_one (asked.Search pattern) f g x y = search_fault_one t f g x y

  decided_once : (a : Asked) (d e : Decision Outcome) → IsFault t a d ⊎ Reads t a d → IsFault t a e ⊎ Reads t a e → DecideTheSame d e
  decided_once a d e (inl x) (inl y) = unread_same x.why y.why d e (fault_one a x.why y.why x.unread y.unread (of_record x.why d x.told) (of_record y.why e y.told)) x.told y.told
  decided_once a d e (inl x) (inr y) = absurd (of_record x.why d x.told (good a e y x.why x.unread))
  decided_once a d e (inr x) (inl y) = absurd (of_record y.why e y.told (good a d x y.why y.unread))
  decided_once a d e (inr x) (inr y) = reads_once a d e x y

  pub showing_once : (a : Asked) → DecidesOnce (Shows t a)
  showing_once a d e x y fixed firm = decided_once a d e (split t a d x) (split t a e y)
