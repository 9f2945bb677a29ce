-- What is answered of what is put, as the judging of publications has it.
use Rattle.std.proofs.Common.{◌≡◌, ℕ, List, Result, Ok, Err, refl, sym, ap, subst, ◌∙◌}
use Rattle.std.specs.Prelude.{IfOk}
use Rattle.std.specs.List.{AllByRecursion, flat_map}
use Rattle.ips_text.specs.Kept.{Kept}
use Rattle.ips_text.specs.declared.limits.Which.{Which}
use Rattle.ips_text.specs.declared.refusal.Or.{Or}
use Rattle.ips_text.specs.declared.refusal.Or.TheVariants.{Bad, OutOfMemory}
use Rattle.ips_text.specs.Reading.{IfBad}
use Rattle.ips_outside.specs.Image.{Image}
use Rattle.ips_outside.specs.Children.{path_bytes}
use Rattle.ips_digest.specs.declared.name.PayloadName.{PayloadName}
use Rattle.ips_action.specs.Action.{Fields}
use Rattle.ips_catalog.specs.Listed.{Listed}
use Rattle.ips_manifest.specs.declared.draft.Draft.{Draft}
use Rattle.ips_ways.specs.Ways.{IsFirstInTheWay, IsFree}
use Rattle.ips_listing.specs.Text.{with_version}
use Rattle.ips_filling.specs.declared.filled.Filled.{Filled}
use Rattle.ips_filling.proofs.Drafts.{all_fit, all_filled}
use Rattle.ips_sends.specs.Whole.{content_of}
use Rattle.ips_sends.specs.Published.{fmri_text, named_actions}
use Rattle.ips_sends.specs.Judged as judged
use Rattle.ips_sends.specs.Judged.{Put, ways, CanPut, Judges, Publish, HasLargeContent, IsBlocked, IsTooLarge, CanBePublished, IsOverPut}
use Rattle.ips_prepare.specs.declared.prepared.Prepared.{Prepared}
use Rattle.ips_prepare.specs.Prepared.{HasName, IsEntry, IsSourced, actions_filled, contents_in}
use Rattle.ips_judged.specs.declared.verdict.Asked.{Asked}
use Rattle.ips_judged.specs.declared.verdict.Publication.{Publication}
use Rattle.ips_judged.specs.declared.verdict.Refusal.{Refusal}
use Rattle.ips_judged.specs.declared.verdict.Refusal.TheVariants.{Unopened, ManifestMissing, BadManifest, ContentMissing, Exists, Blocked, TooLarge}
use Rattle.ips_judged.specs.declared.verdict.JudgeFault.{JudgeFault}
use Rattle.ips_judged.specs.declared.verdict.JudgeFault.TheVariants.{Refused, SourceFault, FolderFault}
use Rattle.ips_judged.specs.Steps.{IsWhy, IsBarred, SaysBarred, AreNotTaken, AreOver, IsWithin, IsOfTarget, IsRefused, put_with}
use Rattle.ips_judged.specs.Answers.{HasPassed, AreTaken, ArePrepared, SaysOfJudging, asked_of, put_of, refusal_of}
use Rattle.ips_judged.proofs.Dues.{is_new}
use Rattle.ips_judged.proofs.Assembled.{names_all, content_named}

-- ---- what was filled

-- drafts that have passed, and aren't all taken in
module _ (proto t : Image) (a : Asked) (catalog : List Listed) (drafts : List Draft) (passed : HasPassed proto t a catalog drafts) where
  untaken_due : (r : Refusal) → AreNotTaken proto drafts r → Judges proto t (asked_of a) (judged.Refused (refusal_of r))
  untaken_due (Unopened why) h = absurd h
  untaken_due ManifestMissing h = absurd h
  untaken_due (BadManifest f) h = absurd h
  untaken_due (ContentMissing text) h = absurd (h passed.sources)
  untaken_due Exists h = absurd h
  untaken_due (Blocked path) h = absurd h
  untaken_due (TooLarge which count) h =
      subst (λ (w : Which). Judges proto t (asked_of a) (judged.Refused (judged.TooLarge w count))) (sym h.0) (HasLargeContent (is_new proto t a catalog drafts passed) count h.1)

  pub untaken_says : (X Y : Type 0) (e : Or JudgeFault) → IfBad {X = X} (Err e) (IsWhy (AreNotTaken proto drafts)) → IfBad {X = Y} (Err e) (SaysOfJudging proto t a)
  untaken_says X Y OutOfMemory h = tt
  untaken_says X Y (Bad (Refused r)) h = untaken_due r h
  untaken_says X Y (Bad SourceFault) h = tt
  untaken_says X Y (Bad FolderFault) h = tt

-- what was filled, with the name of the package
pub prepared_of : (proto t : Image) (a : Asked) (catalog : List Listed) (filled : List Filled) (actions : List Fields) → actions ≡ named_actions (fmri_text a.publisher a.stem a.version) (actions_filled filled) → AreTaken proto t a catalog filled
    → ArePrepared proto t a catalog actions
prepared_of proto t a catalog filled actions is taken = record {
  drafts = taken.drafts;
  passed = taken.passed;
  fit = all_fit proto taken.drafts filled taken.filling;
  filled = actions_filled filled;
  are = all_filled proto taken.drafts filled taken.filling;
  named = is;
}

-- ---- what is put

module _ (proto t : Image) (a : Asked) (catalog : List Listed) (actions : List Fields) (are : ArePrepared proto t a catalog actions) (names : List PayloadName) (listed : names ≡ flat_map content_of actions) where
  abbrev more : List Listed
  more = with_version a.stem a.version catalog

  abbrev put : Put
  put = put_with a.publisher more actions

  abbrev can_put : IsFree t (ways a.publisher a.stem names) → CanPut proto t (asked_of a) put
  can_put free = record {
    new = is_new proto t a catalog are.drafts are.passed;
    fit = are.fit;
    is = record { filled = are.filled; are_filled = are.are; named = are.named; manifest_is = refl; catalog_is = refl };
    free = subst (λ (l : List PayloadName). IsFree t (ways a.publisher a.stem l)) listed free;
  }

  pub publishes : (r : Result Publication (Or JudgeFault)) → IsFree t (ways a.publisher a.stem names) → IfOk r (λ p. put_of p ≡ put) → IfOk r (λ p. IsWithin a.publisher more actions)
      → IfOk r (λ p. Judges proto t (asked_of a) (Publish (put_of p)))
  publishes (Ok p) free is within = subst (λ (x : Put). Judges proto t (asked_of a) (Publish x)) (sym is) (CanBePublished put (can_put free) within)
  publishes (Err e) free is within = tt

  over_due : IsFree t (ways a.publisher a.stem names) → (r : Refusal) → AreOver a.publisher more actions r → Judges proto t (asked_of a) (judged.Refused (refusal_of r))
  over_due free (Unopened why) h = absurd h
  over_due free ManifestMissing h = absurd h
  over_due free (BadManifest f) h = absurd h
  over_due free (ContentMissing text) h = absurd h
  over_due free Exists h = absurd h
  over_due free (Blocked path) h = absurd h
  over_due free (TooLarge which count) h = IsTooLarge put (can_put free) which count h

  pub over_says : (r : Result Publication (Or JudgeFault)) → IsFree t (ways a.publisher a.stem names) → IfBad r (IsWhy (AreOver a.publisher more actions)) → IfBad r (SaysOfJudging proto t a)
  over_says (Ok p) free h = tt
  over_says (Err OutOfMemory) free h = tt
  over_says (Err (Bad (Refused r))) free h = over_due free r h
  over_says (Err (Bad SourceFault)) free h = tt
  over_says (Err (Bad FolderFault)) free h = tt

  names_filled : names ≡ flat_map content_of are.filled
  names_filled = listed ∙ ap (flat_map content_of) are.named ∙ content_named (fmri_text a.publisher a.stem a.version) are.filled

  barred_due : (r : Refusal) → IsBarred t (ways a.publisher a.stem names) r → Judges proto t (asked_of a) (judged.Refused (refusal_of r))
  barred_due (Unopened why) h = absurd h
  barred_due ManifestMissing h = absurd h
  barred_due (BadManifest f) h = absurd h
  barred_due (ContentMissing text) h = absurd h
  barred_due Exists h = absurd h
  barred_due (Blocked path) h =
      IsBlocked (is_new proto t a catalog are.drafts are.passed) are.filled path.bytes are.fit are.are (subst (λ (l : List PayloadName). IsFirstInTheWay t (ways a.publisher a.stem l) path.bytes) names_filled h)
  barred_due (TooLarge which count) h = absurd h

  pub barred_says : (X Y : Type 0) (e : Or JudgeFault) → IfBad {X = X} (Err e) (IsWhy (IsBarred t (ways a.publisher a.stem names))) → IfBad {X = Y} (Err e) (SaysOfJudging proto t a)
  barred_says X Y OutOfMemory h = tt
  barred_says X Y (Bad (Refused r)) h = barred_due r h
  barred_says X Y (Bad SourceFault) h = tt
  barred_says X Y (Bad FolderFault) h = tt

-- ---- what is answered of it

-- so of what was prepared, as it is answered
pub of_prepared : (P : Publication → Prepared → Type 0) (r : Result Publication (Or JudgeFault)) (prepared : Prepared) → IfOk r (λ p. p.prepared ≡ prepared) → IfOk r (λ p. P p prepared) → IfOk r (λ p. P p p.prepared)
of_prepared P (Ok p) prepared same holds = subst (P p) (sym same) holds
of_prepared P (Err e) prepared same holds = tt

-- so in any case
pub in_any : (Q : Type 0) (r : Result Publication (Or JudgeFault)) → Q → IfOk r (λ p. Q)
in_any Q (Ok p) holds = holds
in_any Q (Err e) holds = tt

-- so of the directories, as they are answered
pub of_ways : (P : List (List ℕ) → Type 0) (r : Result Publication (Or JudgeFault)) (ways : List Kept) → IfOk r (λ p. p.ways.items ≡ ways) → P (path_bytes ways) → IfOk r (λ p. P (path_bytes p.ways.items))
of_ways P (Ok p) ways same holds = subst (λ (l : List Kept). P (path_bytes l)) (sym same) holds
of_ways P (Err e) ways same holds = tt

-- so of the contents, as they are answered
pub of_contents : (r : Result Publication (Or JudgeFault)) (filled : List Filled) → IfOk r (λ p. p.prepared.contents.items ≡ flat_map contents_in filled) → AllByRecursion IsEntry filled → IfOk r (λ p. AllByRecursion HasName p.prepared.contents.items)
of_contents (Ok p) filled same all = subst (AllByRecursion HasName) (sym same) (names_all filled all)
of_contents (Err e) filled same all = tt

pub of_sources : (proto : Image) (r : Result Publication (Or JudgeFault)) (filled : List Filled) → IfOk r (λ p. p.prepared.contents.items ≡ flat_map contents_in filled) → AllByRecursion (IsSourced proto) (flat_map contents_in filled)
    → IfOk r (λ p. AllByRecursion (IsSourced proto) p.prepared.contents.items)
of_sources proto (Ok p) filled same all = subst (AllByRecursion (IsSourced proto)) (sym same) all
of_sources proto (Err e) filled same all = tt

-- ---- what is in the way

pub barred_is : (X : Type 0) (t : Image) (paths : List (List ℕ)) (path : List ℕ) (e : Or JudgeFault) → SaysBarred path e → IsFirstInTheWay t paths path → IfBad {X = X} (Err e) (IsWhy (IsBarred t paths))
barred_is X t paths path OutOfMemory says first = tt
barred_is X t paths path (Bad SourceFault) says first = tt
barred_is X t paths path (Bad FolderFault) says first = tt
barred_is X t paths path (Bad (Refused (Unopened why))) says first = absurd says
barred_is X t paths path (Bad (Refused ManifestMissing)) says first = absurd says
barred_is X t paths path (Bad (Refused (BadManifest f))) says first = absurd says
barred_is X t paths path (Bad (Refused (ContentMissing text))) says first = absurd says
barred_is X t paths path (Bad (Refused Exists)) says first = absurd says
barred_is X t paths path (Bad (Refused (Blocked at))) says first = subst (IsFirstInTheWay t paths) (sym says) first
barred_is X t paths path (Bad (Refused (TooLarge which count))) says first = absurd says

-- ---- whose fault it is

pub none_of_proto : (X : Type 0) (r : Result X (Or JudgeFault)) → IfBad r IsOfTarget → r ≡ Err (Bad SourceFault) → ⊥
none_of_proto X (Ok x) h is = cc
none_of_proto X (Err OutOfMemory) h is = cc
none_of_proto X (Err (Bad (Refused r))) h is = cc
none_of_proto X (Err (Bad SourceFault)) h is = h
none_of_proto X (Err (Bad FolderFault)) h is = cc

pub none_of_folder : (X : Type 0) (r : Result X (Or JudgeFault)) → IfBad r IsRefused → r ≡ Err (Bad FolderFault) → ⊥
none_of_folder X (Ok x) h is = cc
none_of_folder X (Err OutOfMemory) h is = cc
none_of_folder X (Err (Bad (Refused r))) h is = cc
none_of_folder X (Err (Bad SourceFault)) h is = h
none_of_folder X (Err (Bad FolderFault)) h is = h

pub own_refusal : (X : Type 0) (r : Result X (Or JudgeFault)) → IfBad r IsRefused → IfBad r IsOfTarget
own_refusal X (Ok x) h = tt
own_refusal X (Err OutOfMemory) h = tt
own_refusal X (Err (Bad (Refused r))) h = tt
own_refusal X (Err (Bad SourceFault)) h = h
own_refusal X (Err (Bad FolderFault)) h = tt

-- ---- the name of the package

pub named_as : (a : Asked) (p s : List ℕ) (actions filled : List Fields) → p ≡ a.publisher → s ≡ a.stem → actions ≡ named_actions (fmri_text p s a.version) filled → actions ≡ named_actions (fmri_text a.publisher a.stem a.version) filled
named_as a p s actions filled is_p is_s named =
    named ∙ ap (λ (x : List ℕ). named_actions (fmri_text x s a.version) filled) is_p ∙ ap (λ (x : List ℕ). named_actions (fmri_text a.publisher x a.version) filled) is_s
