-- When plans, and causes for which there are none, say the same.
use Rattle.std.specs.Prelude.{◌≡◌, ◌≢◌, List, [], ◌∷◌, map}
use Rattle.ips_outside.specs.Image.{Image}
use Rattle.ips_steps.specs.View.{step_of}
use Rattle.ips_emit.specs.declared.emitting.Emitted.{Emitted}
use Rattle.ips_emit.specs.Emitted.{FromFile, FromPayload, OwnBytes, Provenance, bytes_at, provenance_of}
use Rattle.ips_meaning.specs.declared.fault.WantFault.{WantFault}
use Rattle.ips_meaning.specs.declared.fault.WantFault.TheVariants as want
use Rattle.ips_plan.specs.declared.request_plan.fault.PlanFault.{PlanFault}
use Rattle.ips_plan.specs.declared.request_plan.fault.PlanFault.TheVariants as fault
use Rattle.ips_plan.specs.declared.request_plan.planning.Plan.{Plan}
use Rattle.ips_repair.specs.declared.fault.RepairFault.{RepairFault}
use Rattle.ips_repair.specs.declared.fault.RepairFault.TheVariants as repair
use Rattle.ips_plan.specs.declared.created.fault.CreateFault.{CreateFault}
use Rattle.ips_plan.specs.declared.created.fault.CreateFault.TheVariants as create

-- Contents come from the same payload, are the same bytes, or are copied from files of the image that have the same bytes.
abbrev pub IsLikeSource : Image → Provenance → Provenance → Type 0
IsLikeSource t (FromPayload payload) (FromPayload other) = payload ≡ other
IsLikeSource t (OwnBytes b) (OwnBytes other) = b ≡ other
IsLikeSource t (FromFile p) (FromFile other) = bytes_at t p ≡ bytes_at t other
IsLikeSource t one other = ⊥

-- So do the contents of two lists, one after another.
abbrev pub AreLikeSources : Image → List Provenance → List Provenance → Type 0
AreLikeSources t [] [] = Unit {0}
AreLikeSources t [] (y ∷ ys) = ⊥
AreLikeSources t (x ∷ xs) [] = ⊥
AreLikeSources t (x ∷ xs) (y ∷ ys) = IsLikeSource t x y × AreLikeSources t xs ys

-- The steps are the same over the image, and what is staged for them comes from like sources.
pub record AreLikeSteps (t : Image) (a b : Emitted) : Type 0 where
  pub steps : map step_of a.steps.items ≡ map step_of b.steps.items
  pub sources : AreLikeSources t (map provenance_of a.staged.items) (map provenance_of b.staged.items)

-- The plans have like steps over the image, and the same licenses, words and counts.
pub record AreLikePlans (t : Image) (p q : Plan) : Type 0 where
  pub steps : AreLikeSteps t p.planned.emitted q.planned.emitted
  pub licenses : p.planned.licenses.items ≡ q.planned.licenses.items
  pub before : p.before.items ≡ q.before.items
  pub after : p.after.items ≡ q.after.items
  pub counts : p.counts ≡ q.counts

-- The faults of packages that mean no image are of one kind and tell the same; the room of a path doesn't count.
abbrev pub IsSameUnmeant : WantFault → WantFault → Type 0
IsSameUnmeant (want.Reserved path) (want.Reserved other) = path.bytes ≡ other.bytes
IsSameUnmeant (want.Clash clash) (want.Clash other) = clash ≡ other
IsSameUnmeant why other = ⊥

-- The causes are of one kind and tell the same; the room of paths and lists doesn't count.
abbrev pub IsSameCause : PlanFault → PlanFault → Type 0
IsSameCause (fault.Reserved path) (fault.Reserved other) = path.bytes ≡ other.bytes
IsSameCause (fault.Clash clash) (fault.Clash other) = clash ≡ other
IsSameCause (fault.BadAccountLine book line) (fault.BadAccountLine other at) = (book ≡ other) × (line ≡ at)
IsSameCause (fault.IdTaken id) (fault.IdTaken other) = id ≡ other
IsSameCause (fault.UnknownOwner path name) (fault.UnknownOwner place other) = (path.bytes ≡ place.bytes) × (name ≡ other)
IsSameCause (fault.LicenseNeeded list) (fault.LicenseNeeded others) = list.items ≡ others.items
IsSameCause (fault.Unmovable path) (fault.Unmovable other) = path.bytes ≡ other.bytes
IsSameCause (fault.Payload name why) (fault.Payload other cause) = (name ≡ other) × (why ≡ cause)
IsSameCause (fault.TooLarge which count) (fault.TooLarge other number) = (which ≡ other) × (count ≡ number)
IsSameCause fault.SourceFault fault.SourceFault = Unit {0}
IsSameCause fault.FolderFault fault.FolderFault = Unit {0}
IsSameCause why other = ⊥

-- No call on the repository or the folder failed.
abbrev pub IsOfNoCall : PlanFault → Type 0
IsOfNoCall why = (why ≢ fault.SourceFault) × (why ≢ fault.FolderFault)

-- The causes for which an image isn't repaired are of one kind and tell the same; the room of a path doesn't count.
abbrev pub IsSameRepairFault : RepairFault → RepairFault → Type 0
IsSameRepairFault (repair.Unmovable path) (repair.Unmovable other) = path.bytes ≡ other.bytes
IsSameRepairFault (repair.TooLarge excess) (repair.TooLarge other) = excess ≡ other
IsSameRepairFault repair.FolderFault repair.FolderFault = Unit {0}
IsSameRepairFault why other = ⊥

-- The causes for which an image isn't made are of one kind and tell the same; the room of a path doesn't count.
abbrev pub IsSameCreateFault : CreateFault → CreateFault → Type 0
IsSameCreateFault (create.Unmovable path) (create.Unmovable other) = path.bytes ≡ other.bytes
IsSameCreateFault (create.TooLarge excess) (create.TooLarge other) = excess ≡ other
IsSameCreateFault create.FolderFault create.FolderFault = Unit {0}
IsSameCreateFault why other = ⊥
