-- What is answered of texts and faults is shown by the image.
use Rattle.std.proofs.Common.{◌≡◌, ℕ, Bool, true, false, List, [], ◌∷◌, length, map, Result, Ok, Err, sym, ap, subst, ◌∙◌}
use Rattle.std.specs.Prelude.{◌==◌, Contains, IfOk}
use Rattle.std.proofs.lemmas.Bool.{both_ways, eqb-true, eq-eqb}
use Rattle.std.proofs.lemmas.List.{length-map, nil_from_length}
use Rattle.std.specs.declared.alloc.AllocError.{AllocError}
use Rattle.ips_text.specs.Reading.{IfBad}
use Rattle.ips_text.specs.declared.refusal.Or.{Or}
use Rattle.ips_text.specs.declared.refusal.Or.TheVariants.{Bad, OutOfMemory}
use Rattle.ips_text.specs.declared.text.Text.{Text}
use Rattle.ips_outside.specs.Image.{Image}
use Rattle.ips_fmri.specs.declared.pattern.Pattern.{Pattern}
use Rattle.ips_load.specs.declared.fault.StateFault.{StateFault}
use Rattle.ips_load.specs.declared.fault.StateFault.TheVariants as state
use Rattle.ips_meaning.specs.declared.fault.WantFault.{WantFault}
use Rattle.ips_meaning.specs.declared.fault.WantFault.TheVariants as want
use Rattle.ips_shown.specs.declared.naming.NamingFault.{NamingFault}
use Rattle.ips_shown.specs.declared.naming.NamingFault.TheVariants as naming
use Rattle.ips_manifest.specs.declared.package.Package.{Package}
use Rattle.ips_mediate.specs.declared.set.SetMediator.{SetMediator}
use Rattle.ips_meaning.specs.Want.{PackagesFail}
use Rattle.ips_request.specs.Named.{AreMatched, Names}
use Rattle.ips_shown.specs.Naming.{IsUnnamed, stems_of}
use Rattle.ips_state.specs.declared.state.State.{State}
use Rattle.ips_image.specs.Whole.{IsStateFault}
use Rattle.ips_report.specs.declared.outcome.Outcome.{Outcome}
use Rattle.ips_report.specs.declared.outcome.Outcome.TheVariants as outcome
use Rattle.ips_run.specs.declared.operation.Decision.{Decision}
use Rattle.ips_run.specs.declared.operation.Decision.TheVariants.{Shown}
use Rattle.ips_showing.specs.Asked.{Asked, Listing, History, Contents, Verify, Search, IsOfRecords}
use Rattle.ips_tell.specs.refusals.Told.{Answer, unread_told, unmeant_told}
use Rattle.ips_showing.specs.Answers.{text_told, unnamed_told}
use Rattle.ips_showing.specs.Shows as shows
use Rattle.ips_showing.specs.Shows.{AreUnmeant, IsNamed, IsNotNamed, IsUnread, Loaded, Shows}

pub text_by : (t : Image) (a : Asked) (P : Text → Type 0) (text : Result Text AllocError) (r : Answer) → r ≡ text_told text → IfOk text P
    → ((x : Text) → P x → Shows t a (Shown (outcome.Shown x))) → IfOk r (Shows t a)
text_by t a P text r is h by = subst (λ (x : Answer). IfOk x (Shows t a)) (sym is) (go text h)
  where
    go : (text : Result Text AllocError) → IfOk text P → IfOk (text_told text) (Shows t a)
    go (Ok x) p = by x p
    go (Err e) p = tt

pub unread_by : (X : Type 0) (t : Image) (a : Asked) (P : StateFault → Type 0) (e : Or StateFault) (r : Answer) → r ≡ unread_told e → IfBad {X = X} {E = StateFault} (Err e) P
    → ((f : StateFault) → P f → IsUnread a t f) → IfOk r (Shows t a)
unread_by X t a P e r is h by = subst (λ (x : Answer). IfOk x (Shows t a)) (sym is) (go e h)
  where
    go : (e : Or StateFault) → IfBad {X = X} {E = StateFault} (Err e) P → IfOk (unread_told e) (Shows t a)
    go (Bad state.NoImage) p = shows.NoImage (by state.NoImage p)
    go (Bad (state.BadImage file line)) p = shows.BadImage (by (state.BadImage file line) p)
    go (Bad (state.TooLarge which count)) p = shows.TooLarge (by (state.TooLarge which count) p)
    go (Bad state.FolderFault) p = tt
    go OutOfMemory p = tt

pub unread_of : (t : Image) (a : Asked) (f : StateFault) → IsOfRecords a → IsStateFault t f → IsUnread a t f
unread_of t Listing f all h = h
unread_of t History f all h = h
unread_of t (Contents pattern manifest) f all h = h
unread_of t Verify f all h = h
unread_of t (Search pattern) f all h = absurd all

pub unnamed_by : (t : Image) (pattern : Pattern) (manifest : Bool) (l : Loaded t) (why : NamingFault) (d : Decision Outcome) → d ≡ unnamed_told why → IsNotNamed l.state pattern why → Shows t (Contents pattern manifest) d
unnamed_by t pattern manifest l why d is h = subst (Shows t (Contents pattern manifest)) (sym is) (go why h)
  where
    go : (why : NamingFault) → IsNotNamed l.state pattern why → Shows t (Contents pattern manifest) (unnamed_told why)
    go (naming.NoMatch text) p = shows.NoMatch l p
    go (naming.Ambiguous text stems) p = shows.Ambiguous l p

pub unmeant_by : (t : Image) (l : Loaded t) (why : WantFault) (d : Decision Outcome) → d ≡ unmeant_told why → AreUnmeant l.state why → Shows t Verify d
unmeant_by t l why d is h = subst (Shows t Verify) (sym is) (go why h)
  where
    go : (why : WantFault) → AreUnmeant l.state why → Shows t Verify (unmeant_told why)
    go (want.Reserved path) p = shows.Reserved l p
    go (want.Clash clash) p = shows.Clash l p

-- ---- whether a list is empty

pub none_in : {X : Type 0} (xs : List X) (b : Bool) → b ≡ (length xs == 0) → b ≡ true → xs ≡ []
none_in xs b is h = nil_from_length xs (eqb-true (length xs) 0 (sym is ∙ h))

pub some_in : {X : Type 0} (xs : List X) (b : Bool) → b ≡ (length xs == 0) → b ≡ false → xs ≡ [] → ⊥
some_in xs b is h none = both_ways (length xs == 0) (sym is ∙ h) (eq-eqb (length xs) 0 (ap length none))

pub some_mapped : {X Y : Type 0} (f : X → Y) (xs : List X) (b : Bool) → b ≡ (length xs == 0) → b ≡ false → map f xs ≡ [] → ⊥
some_mapped f xs b is h none = some_in xs b is h (nil_from_length xs (sym (length-map xs f) ∙ ap length none))

-- ---- the package that a pattern names, by the parts of the state

pub named_in : (s : State) (pattern : Pattern) (p : Package) (publisher : List ℕ) (packages : List Package) → publisher ≡ s.publisher → packages ≡ s.installed.items
    → Contains packages p → Names publisher (stems_of packages) pattern (p.stem ∷ []) → IsNamed s pattern p
named_in s pattern p publisher packages same all stands named = record {
  stands = subst (λ (ps : List Package). Contains ps p) all stands;
  named = subst (λ (x : List ℕ). Names x (stems_of s.installed.items) pattern (p.stem ∷ [])) same (subst (λ (ps : List Package). Names publisher (stems_of ps) pattern (p.stem ∷ [])) all named);
}

pub not_named_in : (s : State) (pattern : Pattern) (why : NamingFault) (publisher : List ℕ) (packages : List Package) → publisher ≡ s.publisher → packages ≡ s.installed.items
    → ((matched : List (List ℕ)) × AreMatched publisher pattern (stems_of packages) matched × IsUnnamed pattern matched why) → IsNotNamed s pattern why
not_named_in s pattern why publisher packages same all (matched, are, un) =
    (matched, subst (λ (x : List ℕ). AreMatched x pattern (stems_of s.installed.items) matched) same (subst (λ (ps : List Package). AreMatched publisher pattern (stems_of ps) matched) all are), un)

-- ---- what the packages mean, by the parts of the state

pub unmeant_in : (s : State) (why : WantFault) (packages : List Package) (mediators : List SetMediator) → packages ≡ s.installed.items → mediators ≡ s.mediators.items
    → PackagesFail s.settings mediators packages why → AreUnmeant s why
unmeant_in s why packages mediators all set fail =
    subst (λ (ps : List Package). PackagesFail s.settings s.mediators.items ps why) all (subst (λ (ms : List SetMediator). PackagesFail s.settings ms packages why) set fail)
