-- What is due, told the other way round, and names that are bytes.
use Rattle.std.proofs.Common.{List, [], ◌∷◌, sym}
use Rattle.std.specs.List.{AllByRecursion}
use Rattle.ips_text.specs.Quote.{AreBytes}
use Rattle.ips_due.specs.Due.{Due, MeansSame}
use Rattle.ips_due.specs.Delivered.{AreNamedByBytes, CanBeNamed, CanName, Delivered, Legacy, License}

pub turned : (a b : Due) → MeansSame a b → MeansSame b a
turned a b same = record {
  accounts = λ q. sym (same.accounts q);
  records = λ q. sym (same.records q);
  renewed = λ q. sym (same.renewed q);
  folders = λ q. sym (same.folders q);
  gone = λ q. sym (same.gone q);
}

stems : (licenses : List License) → AllByRecursion (λ (l : License). CanName l.stem × CanName l.name) licenses → AllByRecursion (λ (l : License). AreBytes l.stem) licenses
stems [] all = tt
stems (l ∷ licenses) all = (all.0.0.0, stems licenses all.1)

packages : (legacy : List Legacy) → AllByRecursion (λ (g : Legacy). CanName g.pkg) legacy → AllByRecursion (λ (g : Legacy). AreBytes g.pkg) legacy
packages [] all = tt
packages (g ∷ legacy) all = (all.0.0, packages legacy all.1)

pub by_bytes : (d : Delivered) → CanBeNamed d → AreNamedByBytes d
by_bytes d named = record { stems = stems d.licenses named.licenses; packages = packages d.legacy named.packages }
