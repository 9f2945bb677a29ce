-- What is written of a publication, ready.
use Rattle.std.specs.Prelude.{◌≡◌, ℕ, List, length, map, slice_get, Some, Vec}
use Rattle.std.specs.declared.alloc.Global.{Global}
use Rattle.std.specs.List.{AllByRecursion, flat_map}
use Rattle.std.specs.Str.{IsUtf8}
use Rattle.ips_text.specs.Path.{IsPath}
use Rattle.ips_outside.specs.Children.{path_bytes}
use Rattle.ips_digest.specs.Name.{IsName}
use Rattle.ips_digest.specs.declared.name.PayloadName.{PayloadName}
use Rattle.ips_manifest.specs.Manifest.{StandsOnLine}
use Rattle.ips_manifest.specs.declared.line.Line.{Line}
use Rattle.ips_steps.specs.View.{step_of}
use Rattle.ips_journal.specs.declared.staged.Staged.{Staged}
use Rattle.ips_journal.specs.declared.staged.Staged.TheVariants.{Bytes}
use Rattle.ips_repo.specs.Places.{catalog_place, manifest_place, payload_place}
use Rattle.ips_lay.specs.declared.content.Content.{Content}
use Rattle.ips_put.specs.Two.{two_puts}
use Rattle.ips_sends.specs.Whole.{content_of}
use Rattle.ips_sends.specs.Judged.{Put, ways}
use Rattle.ips_prepare.specs.declared.prepared.Content as prepare
use Rattle.ips_prepare.specs.Prepared.{actions_of}
use Rattle.ips_judged.specs.declared.verdict.Asked.{Asked}
use Rattle.ips_ready.specs.declared.planning.Plan.{Plan}

-- the names of the contents that are put
abbrev pub names_put : Put → List PayloadName
names_put put = flat_map content_of put.actions

-- where the manifest of what is asked is put
abbrev pub manifest_at : Asked → List ℕ
manifest_at a = manifest_place a.publisher a.stem a.version

-- where its catalog is
abbrev pub catalog_at : Asked → List ℕ
catalog_at a = catalog_place a.publisher

-- two texts are to be put
pub record AreTwo (manifest catalog : List ℕ) (staged : List Staged) : Type 0 where
  pub first : Vec ℕ Global
  pub second : Vec ℕ Global
  pub first_at : slice_get staged 0 ≡ Some (Bytes first)
  pub second_at : slice_get staged 1 ≡ Some (Bytes second)
  pub first_is : first.items ≡ manifest
  pub second_is : second.items ≡ catalog
  pub two : length staged ≡ 2

-- a path in the folder of what is published, and the name of the content there
abbrev pub Source : Type 0
Source = List ℕ × PayloadName

-- those of contents
abbrev pub sources_prepared : List prepare.Content → List Source
sources_prepared contents = map (λ (c : prepare.Content). (c.path.bytes, c.name)) contents

-- and of contents that have their places
abbrev pub sources_placed : List Content → List Source
sources_placed contents = map (λ (c : Content). (c.path.bytes, c.name)) contents

-- The content is to stand at the place of its name, which is one.
pub record IsPlaced (publisher : List ℕ) (c : Content) : Type 0 where
  pub name : IsName c.name
  pub place : c.place.bytes ≡ payload_place publisher c.name

-- What is written is this: the directories on the way, the contents, and the two texts, at the places of the manifest and the catalog. The text of the
-- manifest is that of lines.
pub record IsPlan (a : Asked) (put : Put) (plan : Plan) : Type 0 where
  pub lines : List Line
  pub stand : AllByRecursion StandsOnLine lines
  pub are : actions_of lines ≡ put.actions
  pub utf8 : IsUtf8 put.catalog
  pub ways : path_bytes plan.ways.items ≡ ways a.publisher a.stem (names_put put)
  pub names : map (λ (c : Content). c.name) plan.contents.items ≡ names_put put
  pub placed : AllByRecursion (IsPlaced a.publisher) plan.contents.items
  pub first : IsPath (manifest_at a)
  pub second : IsPath (catalog_at a)
  pub steps : map step_of plan.steps.items ≡ two_puts (manifest_at a) (catalog_at a)
  pub texts : AreTwo put.manifest put.catalog plan.staged.items

-- this is so for something that is put
abbrev pub IsPlanned : Asked → Plan → Type 0
IsPlanned a plan = (put : Put) × IsPlan a put plan
