-- Examples of what is said of records that are due.
use Rattle.std.proofs.Common.{◌≡◌, ℕ, Bool, false, cond, List, [], ◌∷◌, Option, Some, None, refl}
use Rattle.std.specs.Prelude.{codes}
use Rattle.ips_text.specs.Ancestry.{same_path}
use Rattle.ips_outside.specs.Image.{Entry, Dir, File, Image}
use Rattle.ips_text.specs.Quote.{quoted}
use Rattle.ips_due.specs.Due.{Due, OfPayload, Own, said}
use Rattle.ips_due.specs.Delivered.{Delivered, License, delivered_gone, delivered_records, first_folders}

abbrev look_in : List (List ℕ × Entry) → List ℕ → Option Entry
look_in [] q = None
look_in (x ∷ rest) q = cond (same_path x.0 q) (Some x.1) (look_in rest q)

-- the bytes of a payload, and whether bytes are its
abbrev bytes : List ℕ → List ℕ
bytes payload = 9 ∷ payload

abbrev holds : List ℕ → List ℕ → Bool
holds payload b = same_path (bytes payload) b

-- two records that stand, one of them with a mode of its own, in a folder
abbrev tree : Image
tree = record {
  look = look_in ((codes "var/pkg/image", File 420 (1 ∷ [])) ∷ (codes "var/pkg/packages", Dir 493 false) ∷ (codes "var/pkg/packages/a", File 384 (2 ∷ [])) ∷ []);
  same = λ a b. same_path a b;
}

-- they are due as they stand, and a third one, and what an old package recorded goes
abbrev due : Due
due = record {
  accounts = [];
  records = (codes "var/pkg/image", Own (1 ∷ [])) ∷ (codes "var/pkg/history", Own (3 ∷ [])) ∷ (codes "var/pkg/packages/a", Own (2 ∷ [])) ∷ [];
  renewed = [];
  folders = codes "var/pkg/license" ∷ codes "var/pkg/packages" ∷ [];
  gone = codes "var/pkg/packages/b" ∷ [];
}

-- what stands as it should isn't spoken of, whatever its mode
stands_image : said bytes holds due tree (codes "var/pkg/image") ≡ None
stands_image = refl

stands_package : said bytes holds due tree (codes "var/pkg/packages/a") ≡ None
stands_package = refl

-- what is missing is laid
missing_history : said bytes holds due tree (codes "var/pkg/history") ≡ Some (Some (File 420 (3 ∷ [])))
missing_history = refl

-- nor is what goes where nothing stands
missing_gone : said bytes holds due tree (codes "var/pkg/packages/b") ≡ None
missing_gone = refl

-- a folder is made where none stands
missing_folder : said bytes holds due tree (codes "var/pkg/license") ≡ Some (Some (Dir 493 false))
missing_folder = refl

standing_folder : said bytes holds due tree (codes "var/pkg/packages") ≡ None
standing_folder = refl

-- a folder that is made anew takes its records with it, so they are laid again
abbrev renewing : Due
renewing = record {
  accounts = [];
  records = (codes "var/pkg/image", Own (4 ∷ [])) ∷ (codes "var/pkg/packages/a", Own (2 ∷ [])) ∷ [];
  renewed = codes "var/pkg/packages" ∷ [];
  folders = [];
  gone = codes "var/pkg/image" ∷ codes "var/pkg/packages/a" ∷ [];
}

renewed_folder : said bytes holds renewing tree (codes "var/pkg/packages") ≡ Some (Some (Dir 493 false))
renewed_folder = refl

renewed_record : said bytes holds renewing tree (codes "var/pkg/packages/a") ≡ Some (Some (File 420 (2 ∷ [])))
renewed_record = refl

-- other bytes are laid over what stands
other_image : said bytes holds renewing tree (codes "var/pkg/image") ≡ Some (Some (File 420 (4 ∷ [])))
other_image = refl

-- what stands and isn't due any more is taken away
going : said bytes holds (record { accounts = []; records = []; renewed = []; folders = []; gone = codes "var/pkg/packages/a" ∷ [] }) tree (codes "var/pkg/packages/a") ≡ Some None
going = refl

-- a license that stands with its payload isn't spoken of, whatever its mode; where other bytes stand, its payload is laid
abbrev licensed : Due
licensed = record {
  accounts = [];
  records = (codes "var/pkg/image", OfPayload (1 ∷ [])) ∷ (codes "var/pkg/packages/a", OfPayload (2 ∷ [])) ∷ [];
  renewed = [];
  folders = [];
  gone = [];
}

abbrev with_payload : Image
with_payload = record {
  look = look_in ((codes "var/pkg/image", File 256 (9 ∷ 1 ∷ [])) ∷ (codes "var/pkg/packages", Dir 493 false) ∷ (codes "var/pkg/packages/a", File 420 (2 ∷ [])) ∷ []);
  same = λ a b. same_path a b;
}

standing_payload : said bytes holds licensed with_payload (codes "var/pkg/image") ≡ None
standing_payload = refl

other_payload : said bytes holds licensed with_payload (codes "var/pkg/packages/a") ≡ Some (Some (File 420 (9 ∷ 2 ∷ [])))
other_payload = refl

-- ---- what packages deliver

abbrev mit : License
mit = record { stem = codes "a/b"; name = codes "MIT"; payload = 7 ∷ [] }

abbrev lgpl : License
lgpl = record { stem = codes "a/b"; name = codes "L GPL"; payload = 8 ∷ [] }

abbrev was : Delivered
was = record { owners = []; drivers = []; licenses = mit ∷ lgpl ∷ []; legacy = record { pkg = codes "SUNWa"; text = [] } ∷ record { pkg = codes "SUNWb"; text = [] } ∷ [] }

abbrev is : Delivered
is = record { owners = 1 ∷ []; drivers = []; licenses = mit ∷ []; legacy = record { pkg = codes "SUNWb"; text = 2 ∷ [] } ∷ [] }

-- each record stands at its place
delivered_places : delivered_records is ≡ (codes "var/pkg/owners", Own (1 ∷ [])) ∷ (codes "var/pkg/drivers", Own []) ∷ (codes "var/pkg/license/a%2Fb/MIT", OfPayload (7 ∷ [])) ∷ (codes "var/sadm/pkg/SUNWb/pkginfo", Own (2 ∷ [])) ∷ []
unfolding quoted
delivered_places = refl

-- a license goes alone where another of its stem stays, and a legacy package goes with its folder
some_go : delivered_gone was is ≡ codes "var/pkg/license/a%2Fb/L%20GPL" ∷ codes "var/sadm/pkg/SUNWa" ∷ []
unfolding quoted
some_go = refl

-- where none of its stem stays, the folder goes with each
all_go : delivered_gone was (record { owners = []; drivers = []; licenses = []; legacy = is.legacy }) ≡ codes "var/pkg/license/a%2Fb" ∷ codes "var/pkg/license/a%2Fb" ∷ codes "var/sadm/pkg/SUNWa" ∷ []
unfolding quoted
all_go = refl

-- an image is made with an empty folder of packages, whatever stands there, and without an index
abbrev made_due : Due
made_due = record { accounts = []; records = []; renewed = codes "var/pkg/packages" ∷ []; folders = first_folders; gone = codes "var/pkg/index" ∷ [] }

renewed_packages : said bytes holds made_due tree (codes "var/pkg/packages") ≡ Some (Some (Dir 493 false))
renewed_packages = refl

made_licenses : said bytes holds made_due tree (codes "var/pkg/license") ≡ Some (Some (Dir 493 false))
made_licenses = refl

-- what stands at the path of an index goes; where nothing stands there, nothing is said
abbrev with_index : Image
with_index = record {
  look = look_in ((codes "var/pkg/index", File 420 (1 ∷ [])) ∷ []);
  same = λ a b. same_path a b;
}

index_goes : said bytes holds made_due with_index (codes "var/pkg/index") ≡ Some None
index_goes = refl

no_index : said bytes holds made_due tree (codes "var/pkg/index") ≡ None
no_index = refl
