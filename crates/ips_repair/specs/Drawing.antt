-- The steps of a repair, with where their contents come from.
use Rattle.std.specs.Prelude.{◌≡◌, ℕ, List, [], ◌∷◌, ◌++◌, map, Option, Some, None}
use Rattle.ips_outside.specs.Image.{File, Image}
use Rattle.ips_steps.specs.View.{step_of}
use Rattle.ips_state.specs.Records.{history_path}
use Rattle.ips_after.specs.Change.{Laid}
use Rattle.ips_after.specs.Repaired.{Repair, request_of}
use Rattle.ips_after.specs.Salvage.{Aside, IsAsides}
use Rattle.ips_change.specs.Told.{naming}
use Rattle.ips_emit.specs.declared.emitting.Emitted.{Emitted}
use Rattle.ips_emit.specs.Emitted.{IsEmitted, OwnBytes, Provenance, Turn}
use Rattle.ips_image_steps.specs.draft.Drafting.{turns_saving}
use Rattle.ips_mend.specs.mended.Drafting.{turns_mended}
use Rattle.ips_mend.specs.mended.Ordering.{wanted_order}
use Rattle.ips_image_steps.specs.Answers.{CanBeListed}
use Rattle.ips_image_steps.specs.Sources.{HasSources}
use Rattle.ips_plan_limits.specs.Limits.{first_excess}
use Rattle.ips_repair.specs.declared.fault.RepairFault.{RepairFault}
use Rattle.ips_repair.specs.declared.fault.RepairFault.TheVariants as fault

-- The path of the history with what becomes of it, where its text is put.
abbrev pub history_turns : Option (List ℕ) → List Turn
history_turns (Some text) = (history_path, Laid (File 420 text)) ∷ []
history_turns None = []

-- Where the content comes from.
abbrev pub history_sources : Option (List ℕ) → List Provenance
history_sources (Some text) = OwnBytes text ∷ []
history_sources None = []

-- The steps are those of what is saved, behind them those of the wanted paths, and then that of the history, where its text is put; their contents come from where they should.
pub record AddsRepair (f : Repair) (t : Image) (a : Aside) (put : Option (List ℕ)) (e : Emitted) : Type 0 where
  pub asides : List (List ℕ)
  pub are_asides : IsAsides (naming (request_of f t)) t a asides
  pub sources : List Provenance
  pub steps : IsEmitted f.bytes t ((turns_saving (request_of f t) t a asides ++ turns_mended f t (wanted_order f.want)) ++ history_turns put) sources e
  pub come : HasSources (request_of f t) t a asides sources

-- The fault tells what of the steps, or of the bytes that they write, is beyond its limit; a journal can list them.
abbrev pub IsBeyond : Emitted → RepairFault → Type 0
IsBeyond emitted (fault.TooLarge excess) = CanBeListed emitted × (first_excess (map step_of emitted.steps.items) emitted.staged.items ≡ Some excess)
IsBeyond emitted (fault.Unmovable path) = ⊥
IsBeyond emitted fault.FolderFault = ⊥
