-- The repository that `gen` makes.
use Rattle.std.specs.Prelude.{ℕ, zero, suc, ◌*◌, ◌/◌, ◌^◌, ◌%◌, false, cond, List, [], ◌∷◌, ◌++◌, take, Some, is_some, codes}
use Rattle.std.specs.Fmt.{decimal}
use Rattle.ips_digest.specs.Digest.{SHA1, digest_of}
use Rattle.ips_digest.specs.Name.{spelling}
use Rattle.ips_digest.specs.declared.name.PayloadName.{PayloadName}
use Rattle.ips_outside.specs.Image.{Entry, Dir, File, Image, nothing}
use Rattle.ips_outside.specs.Change.{with_entry_at}
use Rattle.ips_outside.specs.Making.{fault_at}

-- Every package has the version `1.0,1-1:20240101T000000Z`, and a package with a number has the stem `pkg/p` and that number.

-- the content of its file: a number of its own and a newline
abbrev pub content : ℕ → List ℕ
content i = decimal ((i * 2654435761) % (2 ^ 32)) ++ 10 ∷ []

-- the name of that content
abbrev pub payload : ℕ → PayloadName
payload i = digest_of SHA1 (content i)

-- ---- manifests, by their canonical lines

-- the directory of all packages is delivered
abbrev pub opt_line : List ℕ
opt_line = codes "dir group=bin mode=0755 owner=root path=opt\n"

-- the directory of a package is delivered
abbrev pub own_line : ℕ → List ℕ
own_line i = codes "dir group=bin mode=0755 owner=root path=opt/p" ++ decimal i ++ 10 ∷ []

-- the file of a package is delivered
abbrev pub file_line : ℕ → List ℕ
file_line i = codes "file " ++ spelling (payload i) ++ codes " group=bin mode=0644 owner=root path=opt/p" ++ decimal i ++ codes "/data\n"

-- a package is required
abbrev pub require_line : ℕ → List ℕ
require_line i = codes "depend fmri=pkg/p" ++ decimal i ++ codes " type=require\n"

-- each package but the first requires one with a smaller number: together they are a binary tree
abbrev pub above_lines : ℕ → List ℕ
above_lines zero = []
above_lines (suc i) = require_line (i / 2)

-- the manifest of a package with a number: a directory of all packages, one of its own with its file, and what it requires
abbrev pub manifest : ℕ → List ℕ
manifest i = opt_line ++ own_line i ++ file_line i ++ above_lines i

-- the manifest of the package `all`: it requires each of the first so many packages
abbrev pub all_manifest : ℕ → List ℕ
all_manifest zero = []
all_manifest (suc i) = all_manifest i ++ require_line i

-- ---- the catalog

-- what stands behind a stem: the end of its text, and its one version
abbrev pub its_version : List ℕ
its_version = codes "\":[{\"version\":\"1.0,1-1:20240101T000000Z\"}]"

-- a package with a number, behind a comma
abbrev pub offer : ℕ → List ℕ
offer i = codes ",\"pkg/p" ++ decimal i ++ its_version

-- the first so many packages
abbrev pub offers : ℕ → List ℕ
offers zero = []
offers (suc i) = offers i ++ offer i

-- the catalog of publisher `gen`: the package `all` and the first so many others
abbrev pub catalog : ℕ → List ℕ
catalog n = codes "{\"gen\":{\"all" ++ its_version ++ offers n ++ codes "}}\n"

-- ---- the files

-- the entry is made at the path, where its parent is a directory and nothing stands
unfoldable pub with_entry : List ℕ → Entry → Image → Image
with_entry path entry t = cond (is_some (fault_at t path)) t (with_entry_at path (Some entry) t)

-- a directory, where nothing stands yet
abbrev pub with_dir : List ℕ → Image → Image
with_dir path t = with_entry path (Dir 493 false) t

-- a file of a directory, which is made where nothing stands yet
abbrev pub with_file : List ℕ → List ℕ → List ℕ → Image → Image
with_file dir last bytes t = with_entry (dir ++ 47 ∷ last) (File 420 bytes) (with_dir dir t)

-- the quoted version
abbrev pub quoted_version : List ℕ
quoted_version = codes "1.0%2C1-1%3A20240101T000000Z"

-- where the manifests of a quoted stem stand
abbrev pub manifest_dir : List ℕ → List ℕ
manifest_dir name = codes "publisher/gen/pkg/" ++ name

-- where the manifest of a quoted stem stands
abbrev pub manifest_place : List ℕ → List ℕ
manifest_place name = manifest_dir name ++ 47 ∷ quoted_version

-- a manifest at the place of its quoted stem and quoted version
abbrev pub with_manifest : List ℕ → List ℕ → Image → Image
with_manifest name bytes t = with_file (manifest_dir name) quoted_version bytes t

-- the quoted stem of a package with a number
abbrev pub quoted_stem : ℕ → List ℕ
quoted_stem i = codes "pkg%2Fp" ++ decimal i

-- where the payloads stand whose digits begin as these do
abbrev pub payload_dir : List ℕ → List ℕ
payload_dir digits = codes "publisher/gen/file/" ++ take 2 digits

-- where the payload of these digits stands
abbrev pub payload_place : List ℕ → List ℕ
payload_place digits = payload_dir digits ++ 47 ∷ digits

-- a content at the place of these digits
abbrev pub with_content : List ℕ → List ℕ → Image → Image
with_content digits bytes t = with_file (payload_dir digits) digits bytes t

-- a content at the place of its name
abbrev pub with_payload : PayloadName → List ℕ → Image → Image
with_payload name bytes t = with_content (spelling name) bytes t

-- a package with a number: its manifest and its payload
abbrev pub with_package : ℕ → Image → Image
with_package i t = with_payload (payload i) (content i) (with_manifest (quoted_stem i) (manifest i) t)

-- the first so many packages
abbrev pub with_packages : ℕ → Image → Image
with_packages zero t = t
with_packages (suc i) t = with_package i (with_packages i t)

-- the mark of the repository
abbrev pub mark : List ℕ
mark = codes "[repository]\nversion = 4\n"

-- the mark, the folders of the publisher and its catalog, before any manifest
abbrev pub with_frame : ℕ → Image → Image
with_frame n t = with_dir (codes "publisher/gen/file") (with_dir (codes "publisher/gen/pkg") (with_file (codes "publisher/gen/catalog") (codes "catalog.base.C") (catalog n)
    (with_dir (codes "publisher/gen") (with_dir (codes "publisher") (with_entry (codes "pkg5.repository") (File 420 mark) t)))))

-- the manifest of the package that requires the first so many
abbrev pub with_all : ℕ → Image → Image
with_all n t = with_manifest (codes "all") (all_manifest n) t

-- The repository of so many packages: of publisher `gen`, with the package `all`, which requires the others.
abbrev pub generated : ℕ → Image
generated n = with_packages n (with_all n (with_frame n nothing))
