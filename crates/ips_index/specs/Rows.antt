-- The rows of an index: by what the actions of packages are found.
use Rattle.std.specs.Prelude.{ℕ, Bool, ◌&&◌, ◌==◌, if◌then◌else◌, List, [], ◌∷◌, ◌++◌, map, Option, Some, None, codes}
use Rattle.std.specs.declared.cmp.Ordering.{Ordering}
use Rattle.std.specs.Ordering.{nat_cmp, on, then_cmp}
use Rattle.std.specs.Cmp.{IsTotalOrder, then_total, on_total, nat_cmp_total}
use Rattle.std.specs.Cmp.Lexicographic.{slice_cmp, lists_total}
use Rattle.std.specs.List.{list_any, flat_map, join_with_byte}
use Rattle.std.specs.Option.{option_to_list}
use Rattle.ips_text.specs.Path.{parts}
use Rattle.ips_text.specs.Quote.{quoted}
use Rattle.ips_action.specs.declared.kind.ActionKind.{ActionKind}
use Rattle.ips_action.specs.declared.kind.ActionKind.TheVariants as kind
use Rattle.ips_action.specs.Kind.{kind_name}
use Rattle.ips_action.specs.Attrs.{values_of, is_same}
use Rattle.ips_action.specs.Check.{last_of}
use Rattle.ips_action.specs.Action.{Fields, naming_key, payload_word}
use Rattle.ips_index.specs.declared.row.IndexRow.{IndexRow}

-- A row: a value of an action of a package, the index in which it stands, and the token by which it is found there.
pub record IndexedValue : Type 0 where
  pub token : List ℕ
  pub index : List ℕ
  pub kind : ActionKind
  pub value : List ℕ
  pub stem : List ℕ

-- what a row in memory says
abbrev pub row_seen : IndexRow → IndexedValue
row_seen r = record { token = r.token; index = r.index; kind = r.kind; value = r.value; stem = r.stem }

-- the order of rows of one token: by the bytes of their index, then the name of their kind, their value, and their stem
abbrev pub rest_cmp : IndexedValue → IndexedValue → Ordering
rest_cmp =
    then_cmp (on (λ r. r.index) (slice_cmp nat_cmp))
    (then_cmp (on (λ r. kind_name r.kind) (slice_cmp nat_cmp)) (then_cmp (on (λ r. r.value) (slice_cmp nat_cmp)) (on (λ r. r.stem) (slice_cmp nat_cmp))))

-- rows stand by the bytes of their token, and then by that order
abbrev pub row_cmp : IndexedValue → IndexedValue → Ordering
row_cmp = then_cmp (on (λ r. r.token) (slice_cmp nat_cmp)) rest_cmp

-- that order is total
pub row_total : IsTotalOrder row_cmp
row_total =
    then_total (on_total (λ r. r.token) (lists_total nat_cmp_total))
    (then_total (on_total (λ r. r.index) (lists_total nat_cmp_total))
    (then_total (on_total (λ r. kind_name r.kind) (lists_total nat_cmp_total)) (then_total (on_total (λ r. r.value) (lists_total nat_cmp_total)) (on_total (λ r. r.stem) (lists_total nat_cmp_total)))))

-- the bytes have a `/`
abbrev pub has_slash : List ℕ → Bool
has_slash bytes = list_any (λ b. b == 47) bytes

-- a value in an index is found by itself, and a path with a `/` also by its last part
abbrev pub tokens : List ℕ → List ℕ → List (List ℕ)
tokens index value = value ∷ (if is_same index (codes "path") && has_slash value then last_of (parts value) ∷ [] else [])

-- the rows of a value of a stem's action in an index
abbrev pub rows_at : List ℕ → ActionKind → List ℕ → List ℕ → List IndexedValue
rows_at stem kind index value = map (λ token. record { token = token; index = index; kind = kind; value = value; stem = stem }) (tokens index value)

-- the rows of several values
abbrev pub rows_in : List ℕ → ActionKind → List ℕ → List (List ℕ) → List IndexedValue
rows_in stem kind index values = flat_map (rows_at stem kind index) values

-- the rows of the attribute that names an action, in the index of that name
abbrev pub key_rows : List ℕ → Fields → Option (List ℕ) → List IndexedValue
key_rows stem a None = []
key_rows stem a (Some key) = rows_in stem a.kind key (values_of key a.attrs)

-- the values that a description says of its name
abbrev pub values_said : Fields → ActionKind → List (List ℕ)
values_said a kind.Set = values_of (codes "value") a.attrs
values_said a kind.Depend = []
values_said a kind.Dir = []
values_said a kind.File = []
values_said a kind.Link = []
values_said a kind.Hardlink = []
values_said a kind.User = []
values_said a kind.Group = []
values_said a kind.Driver = []
values_said a kind.License = []
values_said a kind.Legacy = []
values_said a kind.Signature = []

-- The rows of an action of a stem: of each value of the attribute that names it; of each value of a `set`; and of its payload.
abbrev pub rows_of : List ℕ → Fields → List IndexedValue
rows_of stem a =
    key_rows stem a (naming_key a.kind)
    ++ rows_in stem a.kind (codes "value") (values_said a a.kind)
    ++ rows_in stem a.kind (codes "payload") (option_to_list (payload_word a.payload))

-- the rows of all actions of a stem
abbrev pub scanned : List ℕ → List Fields → List IndexedValue
scanned stem actions = flat_map (rows_of stem) actions

-- the line of a row: its token, its index, its kind, its value and its stem, with blanks between; token and value are quoted
abbrev pub row_line : IndexedValue → List ℕ
row_line r = join_with_byte 32 (quoted r.token ∷ r.index ∷ kind_name r.kind ∷ quoted r.value ∷ r.stem ∷ [])

-- The text of an index: a line that tells its form, and a line for each row.
abbrev pub index_text : List IndexedValue → List ℕ
index_text rows = codes "index 1" ++ 10 ∷ flat_map (λ r. row_line r ++ 10 ∷ []) rows
