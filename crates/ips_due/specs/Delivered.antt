-- What packages deliver besides what is wanted, as an image records it: owners, drivers, licenses and legacy packages.
use Rattle.std.specs.Prelude.{ℕ, Bool, cond, not, ◌&&◌, ◌==◌, List, [], ◌∷◌, ◌++◌, map, filter, codes}
use Rattle.std.specs.List.{list_any, AllByRecursion}
use Rattle.ips_text.specs.Ancestry.{same_path}
use Rattle.ips_text.specs.Quote.{quoted, AreBytes}
use Rattle.ips_metafiles.specs.Records.{IsQuotedName, license_path}
use Rattle.ips_state.specs.State.{Recorded}
use Rattle.ips_state.specs.Records.{index_path, packages_path, records_of, taken_away}
use Rattle.ips_due.specs.Due.{Content, Due, DueFile, OfPayload, Own, own_records}
use Rattle.ips_due.specs.State.{renewed_by}

-- A license of an installed package: the package's stem, the license's name, and its payload, by the spelling of that name.
pub record License : Type 0 where
  pub stem : List ℕ
  pub name : List ℕ
  pub payload : List ℕ

-- A legacy package of an installed one: its name, and the text of its record.
pub record Legacy : Type 0 where
  pub pkg : List ℕ
  pub text : List ℕ

-- What the installed packages deliver: the texts of the records of owners and drivers, the licenses, and the legacy packages.
pub record Delivered : Type 0 where
  pub owners : List ℕ
  pub drivers : List ℕ
  pub licenses : List License
  pub legacy : List Legacy

-- ---- where it is recorded

-- The record of owners.
abbrev pub owners_path : List ℕ
owners_path = codes "var/pkg/owners"

-- The record of drivers.
abbrev pub drivers_path : List ℕ
drivers_path = codes "var/pkg/drivers"

-- The folder of the licenses.
abbrev pub licenses_path : List ℕ
licenses_path = codes "var/pkg/license"

-- The folder of a stem's licenses.
abbrev pub license_folder : List ℕ → List ℕ
license_folder stem = licenses_path ++ 47 ∷ quoted stem

-- The folder of the legacy packages' records.
abbrev pub legacy_path : List ℕ
legacy_path = codes "var/sadm/pkg"

-- The folder of a legacy package.
abbrev pub legacy_folder : List ℕ → List ℕ
legacy_folder pkg = legacy_path ++ 47 ∷ quoted pkg

-- The record of a legacy package.
abbrev pub info_path : List ℕ → List ℕ
info_path pkg = legacy_folder pkg ++ 47 ∷ codes "pkginfo"

-- The record of a license: its payload.
abbrev pub license_record : License → List ℕ × Content
license_record l = (license_path l.stem l.name, OfPayload l.payload)

-- The record of a legacy package: its text.
abbrev pub legacy_record : Legacy → List ℕ × Content
legacy_record g = (info_path g.pkg, Own g.text)

-- The records of what is delivered, in no order.
abbrev pub delivered_records : Delivered → List (List ℕ × Content)
delivered_records d = (owners_path, Own d.owners) ∷ (drivers_path, Own d.drivers) ∷ (map license_record d.licenses ++ map legacy_record d.legacy)

-- ---- what goes

-- One of the licenses is of the stem.
abbrev pub has_stem : List License → List ℕ → Bool
has_stem licenses stem = list_any (λ (l : License). same_path l.stem stem) licenses

-- One of the licenses is the stem's, of this name.
abbrev pub has_license : List License → License → Bool
has_license licenses one = list_any (λ (l : License). same_path l.stem one.stem && same_path l.name one.name) licenses

-- One of the legacy packages has this name.
abbrev pub has_legacy_package : List Legacy → List ℕ → Bool
has_legacy_package legacy pkg = list_any (λ (g : Legacy). same_path g.pkg pkg) legacy

-- Where a license goes that isn't delivered any more: alone, where others of its stem stay, else with the folder of its stem.
abbrev pub gone_license : List License → License → List ℕ
gone_license new l = cond (has_stem new l.stem) (license_path l.stem l.name) (license_folder l.stem)

-- What goes with what isn't delivered any more: licenses, and the folders of legacy packages.
abbrev pub delivered_gone : Delivered → Delivered → List (List ℕ)
delivered_gone old new = map (gone_license new.licenses) (filter (λ (l : License). not (has_license new.licenses l)) old.licenses)
    ++ map (λ (g : Legacy). legacy_folder g.pkg) (filter (λ (g : Legacy). not (has_legacy_package new.legacy g.pkg)) old.legacy)

-- The bytes can name a file in their quoted form.
abbrev pub CanName : List ℕ → Type 0
CanName bytes = AreBytes bytes × IsQuotedName bytes

-- The quoted forms of stems, of licenses' names and of legacy packages' names can be names of files.
pub record CanBeNamed (d : Delivered) : Type 0 where
  pub licenses : AllByRecursion (λ (l : License). CanName l.stem × CanName l.name) d.licenses
  pub packages : AllByRecursion (λ (g : Legacy). CanName g.pkg) d.legacy

-- Stems of licenses and names of legacy packages are bytes.
pub record AreNamedByBytes (d : Delivered) : Type 0 where
  pub stems : AllByRecursion (λ (l : License). AreBytes l.stem) d.licenses
  pub packages : AllByRecursion (λ (g : Legacy). AreBytes g.pkg) d.legacy

-- ---- what a request makes due

-- What is due behind a request from the old state to the new one, with these account files: all records of the new state and of what its packages
-- deliver; what is recorded of neither any more goes.
abbrev pub request_due : List DueFile → Recorded → Recorded → Delivered → Delivered → Due
request_due accounts old new was is = record {
  accounts = accounts;
  records = own_records (records_of new) ++ delivered_records is;
  renewed = renewed_by (old.format == 1) (new.format == 1);
  folders = [];
  gone = taken_away old new ++ delivered_gone was is;
}

-- The folders that an image is made with where no directory stands: that of licenses, and that of what was salvaged.
abbrev pub first_folders : List (List ℕ)
first_folders = licenses_path ∷ codes "var/pkg/lost+found" ∷ []

-- What is due where an image is made in this state, of format 2, in which nothing is installed: its folder of packages is made anew, whatever stands
-- there, and what stands at the path of an index goes.
abbrev pub creation_due : Recorded → Due
creation_due new = record {
  accounts = [];
  records = own_records (records_of new) ++ delivered_records (record { owners = []; drivers = []; licenses = []; legacy = [] });
  renewed = packages_path ∷ [];
  folders = first_folders;
  gone = index_path ∷ [];
}
