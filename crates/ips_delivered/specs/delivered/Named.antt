-- What packages deliver under names: licenses and legacy packages.
use Rattle.std.specs.Prelude.{◌≡◌, ℕ, List, [], map}
use Rattle.ips_digest.specs.Name.{spelling}
use Rattle.ips_manifest.specs.declared.package.Package.{Package}
use Rattle.ips_filter.specs.Settings.{Set}
use Rattle.ips_conflict.specs.declared.placed.Placed.{Placed}
use Rattle.ips_meaning.specs.Taken.{AreAdmitted}
use Rattle.ips_metafiles.specs.declared.owner.OwnerRow.{OwnerRow}
use Rattle.ips_metafiles.specs.Records.{info_text, owners_text}
use Rattle.ips_due.specs.Due.{Content}
use Rattle.ips_due.specs.Delivered.{CanName, Delivered, Legacy, License, delivered_records}
use Rattle.ips_delivered.specs.declared.delivered.named.Legacy.{Legacy as LentLegacy}
use Rattle.ips_delivered.specs.declared.delivered.named.License.{License as LentLicense}
use Rattle.ips_delivered.specs.declared.delivered.named.Named.{Named}
use Rattle.ips_delivered.specs.delivered.Delivering.{legacies_of, licenses_of}

-- The packages deliver these licenses and legacy packages where these are the settings, whoever owns their files.
pub record DeliverNamed (settings : Set) (packages : List Package) (licenses : List License) (legacy : List Legacy) : Type 0 where
  pub admitted : List Placed
  pub are_admitted : AreAdmitted settings packages admitted
  pub licenses_are : licenses ≡ licenses_of admitted
  pub legacy_are : legacy ≡ legacies_of admitted

-- The stem and the name of the license can be names of files in their quoted form.
abbrev pub NamesLicense : License → Type 0
NamesLicense l = CanName l.stem × CanName l.name

-- The name of the legacy package can be the name of a file in its quoted form.
abbrev pub NamesLegacy : Legacy → Type 0
NamesLegacy g = CanName g.pkg

-- The license that is lent.
abbrev pub license_told : LentLicense → License
license_told l = record { stem = l.stem.now; name = l.name.now; payload = spelling l.payload }

-- The legacy package that is lent.
abbrev pub legacy_told : LentLegacy → Legacy
legacy_told g = record { pkg = g.pkg.now; text = info_text g.action.now }

-- What is delivered under names, as it is lent: neither owners nor drivers.
abbrev pub names_told : Named → Delivered
names_told n = record { owners = []; drivers = []; licenses = map license_told n.licenses.items; legacy = map legacy_told n.legacy.items }

-- The records with these rows of owners, this text of the drivers, these licenses and these legacy packages.
abbrev pub records_with : List OwnerRow → List ℕ → List License → List Legacy → List (List ℕ × Content)
records_with rows drivers licenses legacy = delivered_records (record { owners = owners_text rows; drivers = drivers; licenses = licenses; legacy = legacy })
