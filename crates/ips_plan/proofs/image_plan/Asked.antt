-- The requests of a table between two states.
use Rattle.std.proofs.Common.{ℕ, List, Option, inl, inr, Result, Ok, Err}
use Rattle.std.proofs.lemmas.Bool.{or_cases}
use Rattle.std.specs.Prelude.{OnOk, codes}
use Rattle.std.specs.List.{AllByRecursion}
use Rattle.std.specs.List.Sorted.{IsStrictlySortedBy}
use Rattle.std.specs.Ordering.{nat_cmp}
use Rattle.std.specs.Cmp.Lexicographic.{slice_cmp}
use Rattle.ips_text.specs.Path.{IsPath}
use Rattle.ips_text.specs.Ancestry.{is_below}
use Rattle.ips_outside.specs.Image.{Image}
use Rattle.ips_steps.specs.Private.{records_name}
use Rattle.ips_after.specs.Request.{Over}
use Rattle.ips_change.specs.declared.survey.row.Row.{Row}
use Rattle.ips_change.specs.declared.survey.said.Said.{Said}
use Rattle.ips_change.specs.declared.survey.said.Spoken.{Spoken}
use Rattle.ips_change.specs.survey.Tables.{AreSpoken, IsTable, spoken_paths}
use Rattle.ips_change.proofs.wanted.Apart.{nothing_below, nothing_legacy, own_wanted}
use Rattle.ips_change.proofs.wanted.Found.{proper_at, some_there}
use Rattle.ips_change.specs.wanted.Wanted.{wanted_among}
use Rattle.ips_due.specs.Due.{Due, HasProperDue, IsDue}
use Rattle.ips_due.proofs.Asking as asking
use Rattle.ips_laying.specs.Laying.{Laid, LaysFor}
use Rattle.ips_image_steps.specs.Asked.{HasOwnFolder, HasRequest, IsAsked}
use Rattle.ips_image_steps.specs.Answers.{IfUnmovable}
use Rattle.ips_image_steps.specs.declared.fault.StepsFault.{StepsFault}
use Rattle.ips_image_steps.specs.declared.fault.StepsFault.TheVariants.{FolderFault, Unmovable}
use Rattle.ips_emit.specs.declared.emitting.Emitted.{Emitted}
use Rattle.ips_text.specs.declared.refusal.Or.{Or}
use Rattle.ips_text.specs.declared.refusal.Or.TheVariants.{Bad, OutOfMemory}
use Rattle.ips_plan.specs.image_plan.Between.{AreMeant}
use Rattle.ips_plan.specs.image_plan.Steps.{IsSaidBetween, said_between}
use Rattle.ips_plan.specs.declared.image_plan.between.Between.{Between}
use Rattle.ips_plan.proofs.image_plan.Spoken.{are_spoken, over_spoken, spoken_parts, spoken_path}

-- what is known of a path at which a request can't be carried out is known of it so too
pub unmovable_weaker : (x : Result Emitted (Or StepsFault)) (P Q : List ℕ → Type 0) → ((p : List ℕ) → P p → Q p) → IfUnmovable x P → IfUnmovable x Q
unmovable_weaker (Ok e) P Q f h = h
unmovable_weaker (Err (Bad (Unmovable p))) P Q f h = f p.bytes h
unmovable_weaker (Err (Bad FolderFault)) P Q f h = h
unmovable_weaker (Err OutOfMemory) P Q f h = h

-- what holds anyway holds where there is an answer
pub ok_holds : {T E : Type 0} (x : Result T E) (P : Type 0) → P → OnOk x P
ok_holds (Ok t) P h = h
ok_holds (Err e) P h = tt

-- the bytes of each payload, where none are known
pub no_bytes : List ℕ → List ℕ
no_bytes payload = payload

module _ (b : Between) (m : AreMeant b) where
  pub has_request : (rows : List Row) (told : List (Option Said)) (spoken : List Spoken) → IsStrictlySortedBy (slice_cmp nat_cmp) (spoken_paths spoken) → AllByRecursion (λ s. IsPath s.path.now.bytes) spoken
      → ((over : Over) → AreSpoken over spoken → IsTable (said_between b no_bytes over) rows told) → HasRequest rows told
  has_request rows told spoken order paths table = record {
    request = said_between b no_bytes (over_spoken spoken);
    proper = record {
      news = λ q w at. proper_at b.is.now q w m.new.proper m.new.bytes at;
      olds = λ q there. let w = some_there (wanted_among b.was.now q) there in (proper_at b.was.now q w.0 m.old.proper m.old.bytes w.1).0;
      keys = spoken_path spoken paths;
      overs = spoken_parts spoken;
    };
    table = table (over_spoken spoken) (are_spoken spoken order);
  }

  module _ (due : Due) (t : Image) (bytes : List ℕ → List ℕ) (over : Over) (said : IsSaidBetween b due t bytes over) where
    pub asked : (laid : List ℕ → Option Laid) (rows : List Row) (told : List (Option Said)) → IsDue due → HasProperDue due → IsTable (said_between b bytes over) rows told → LaysFor bytes laid over → IsAsked laid rows told (said_between b bytes over)
    asked laid rows told together proper table lays = record {
      good = said.good;
      proper = asking.is_proper _ _ _ _ _ _ b.was.now b.is.now m.old m.new bytes _ due t over together said.is_over proper;
      table = table;
      lays = lays;
      accounts = said.is_over.accounts;
    }

    pub own_folder : HasOwnFolder (said_between b bytes over) t
    own_folder = record {
      stands = said.stands;
      wanted = own_wanted _ _ _ b.is.now m.new.mean;
      none_old = λ q own. elim (or_cases (is_below records_name q) (is_below (codes "var/sadm/pkg") q) own) [
        | inl h ↦ nothing_below _ _ _ b.was.now m.old.mean q h
        | inr h ↦ nothing_legacy _ _ _ b.was.now m.old.mean q h
      ];
      none_new = λ q own. elim (or_cases (is_below records_name q) (is_below (codes "var/sadm/pkg") q) own) [
        | inl h ↦ nothing_below _ _ _ b.is.now m.new.mean q h
        | inr h ↦ nothing_legacy _ _ _ b.is.now m.new.mean q h
      ];
      leaves = said.leaves;
    }
