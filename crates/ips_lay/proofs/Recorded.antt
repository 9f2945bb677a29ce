-- Which directory of the records is missing.
use Rattle.std.proofs.Common.{◌≡◌, Bool, true, false, ◌||◌, Option, Some, None, inl, inr, refl}
use Rattle.std.specs.Prelude.{codes, is_none}
use Rattle.std.proofs.lemmas.Bool.{or_cases}
use Rattle.ips_outside.specs.Image.{Entry}
use Rattle.ips_outside.specs.Outside.{Outside}
use Rattle.ips_steps.specs.Private.{records_name}
use Rattle.ips_sends.specs.Sends.{MakesRecords}
use Rattle.ips_ways.specs.Ways.{any_missing}
use Rattle.ips_lay.specs.Records.{record_dirs}

none_of : (e : Option Entry) → is_none e ≡ true → e ≡ None
none_of None h = refl
none_of (Some x) h = cc

records_are : codes "var/pkg" ≡ records_name
unfolding records_name
records_are = refl

last_of : (a : Bool) → (a || false) ≡ true → a ≡ true
last_of true h = refl
last_of false h = h

pub makes_records : {F : Type 0} (o : Outside F) (old new : F) → any_missing (o.state old).held record_dirs ≡ true → MakesRecords o old new
makes_records o old new some = elim (or_cases (is_none ((o.state old).held.look (codes "var"))) (is_none ((o.state old).held.look (codes "var/pkg")) || false) some) [
  | inl first ↦ record { dir = codes "var"; is = inl refl; absent = none_of ((o.state old).held.look (codes "var")) first }
  | inr rest ↦ record { dir = codes "var/pkg"; is = inr records_are; absent = none_of ((o.state old).held.look (codes "var/pkg")) (last_of (is_none ((o.state old).held.look (codes "var/pkg"))) rest) }
]
