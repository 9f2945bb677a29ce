-- Where what is staged comes from.
use Rattle.std.proofs.Common.{◌≡◌, ℕ, zero, suc, Bool, true, false, List, [], ◌∷◌, ◌++◌, map, Option, Some, None, sym, subst}
use Rattle.std.specs.Prelude.{IsTrue}
use Rattle.std.specs.List.{AllByRecursion}
use Rattle.ips_text.proofs.Lists.{all_append}
use Rattle.ips_outside.specs.Image.{Image, is_file}
use Rattle.ips_journal.specs.declared.staged.Staged.{Staged}
use Rattle.ips_journal.specs.declared.staged.Staged.TheVariants.{Bytes, Payload, Standing}
use Rattle.ips_contents.specs.Contents.{AreStanding, IsStanding}
use Rattle.ips_after.specs.Request.{Request}
use Rattle.ips_change.specs.declared.change.Change.{Change as Told}
use Rattle.ips_change.specs.declared.change.Change.TheVariants as told
use Rattle.ips_change.specs.declared.survey.said.Said.{Said}
use Rattle.ips_change.specs.declared.survey.said.Said.TheVariants.{Lays, Takes}
use Rattle.ips_laying.specs.Laying.{Laid, LaidDir, LaidFile, LaidPayload}
use Rattle.ips_emit.specs.Emitted.{FromFile, FromPayload, OwnBytes, Provenance, provenance_of, provenances_told}
use Rattle.ips_image_steps.specs.draft.Drafting.{provenances_at, provenances_in, provenances_laid, provenances_of}
use Rattle.ips_image_steps.specs.saving.Saving.{IsSavedFrom}
use Rattle.ips_image_steps.specs.Sources.{IsNoCopy}

-- a content that is copied is that of a file which stands
abbrev IsFileThere : Image → Provenance → Type 0
IsFileThere t (FromPayload payload) = Unit {0}
IsFileThere t (OwnBytes b) = Unit {0}
IsFileThere t (FromFile p) = IsTrue (is_file (t.look p))

-- what is copied to be saved stands
saved_there : (r : Request) (t : Image) (from : List Provenance) → AllByRecursion (IsSavedFrom r t) from → AllByRecursion (IsFileThere t) from
saved_there r t [] all = tt
saved_there r t (FromPayload payload ∷ from) all = (tt, saved_there r t from all.1)
saved_there r t (OwnBytes b ∷ from) all = (tt, saved_there r t from all.1)
saved_there r t (FromFile p ∷ from) all = (all.0.0, saved_there r t from all.1)

-- ---- nothing is copied for the rows of a plan

pub none_told : (c : Told) → AllByRecursion IsNoCopy (provenances_told c)
none_told told.Kept = tt
none_told told.Removed = tt
none_told (told.Dir m) = tt
none_told (told.File payload m) = (tt, tt)
none_told (told.Link target) = tt
none_told (told.Hard to) = tt
none_told (told.Mode m) = tt

none_laid : (o : Option Laid) → AllByRecursion IsNoCopy (provenances_laid o)
none_laid (Some (LaidDir m)) = tt
none_laid (Some (LaidFile m b)) = (tt, tt)
none_laid (Some (LaidPayload m payload)) = (tt, tt)
none_laid None = tt

none_at : (gone : Bool) (said : Option Said) (laid : Option Laid) (c : Told) → AllByRecursion IsNoCopy (provenances_at gone said laid c)
none_at true said laid c = tt
none_at false (Some Takes) laid c = tt
none_at false (Some Lays) laid c = none_laid laid
none_at false None laid c = none_told c

pub none_copied : (laid : List ℕ → Option Laid) (paths : List (List ℕ)) (said : List (Option Said)) (changes : List Told) (emptied : List Bool) (order : List ℕ) → AllByRecursion IsNoCopy (provenances_in laid paths said changes emptied order)
none_copied laid paths said changes emptied [] = tt
none_copied laid paths said changes emptied (i ∷ order) =
    all_append IsNoCopy (provenances_of laid paths said changes emptied i) (provenances_in laid paths said changes emptied order) (none_at _ _ _ _) (none_copied laid paths said changes emptied order)

-- ---- so what is copied stands

laid_there : (t : Image) (from : List Provenance) → AllByRecursion IsNoCopy from → AllByRecursion (IsFileThere t) from
laid_there t [] all = tt
laid_there t (FromPayload payload ∷ from) all = (tt, laid_there t from all.1)
laid_there t (OwnBytes b ∷ from) all = (tt, laid_there t from all.1)
laid_there t (FromFile p ∷ from) all = absurd all.0

module _ (t : Image) where
  stands_at : (s : Staged) → IsFileThere t (provenance_of s) → IsStanding t s
  stands_at (Payload name) h = tt
  stands_at (Bytes given) h = tt
  stands_at (Standing from) h = h

  stand_all : (staged : List Staged) → AllByRecursion (IsFileThere t) (map provenance_of staged) → AreStanding t staged
  stand_all [] all n s at = cc
  stand_all (x ∷ staged) all zero s at = let one : x ≡ s = cc in subst (IsStanding t) one (stands_at x all.0)
  stand_all (x ∷ staged) all (suc n) s at = stand_all staged all.1 n s at

  pub staged_stand : (r : Request) (staged : List Staged) (saved laid : List Provenance) → map provenance_of staged ≡ saved ++ laid → AllByRecursion (IsSavedFrom r t) saved → AllByRecursion IsNoCopy laid → AreStanding t staged
  staged_stand r staged saved laid is copied uncopied = stand_all staged (subst (AllByRecursion (IsFileThere t)) (sym is) (all_append (IsFileThere t) saved laid (saved_there r t saved copied) (laid_there t laid uncopied)))
