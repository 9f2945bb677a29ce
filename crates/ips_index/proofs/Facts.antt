-- What holds of every row of a stem's actions, and of every row of an index.
use Rattle.std.proofs.Common.{◌≡◌, inl, inr, ℕ, Bool, true, false, cond, ◌&&◌, List, [], ◌∷◌, ◌++◌, drop, map, refl, sym, subst, Option, Some, None, codes, arith}
use Rattle.std.specs.Prelude.{◌≢◌, Contains}
use Rattle.std.specs.List.{AllByRecursion}
use Rattle.std.specs.Option.{option_to_list, unwrap_or}
use Rattle.std.specs.Str.{IsUtf8, IsCharBoundary}
use Rattle.std.proofs.lemmas.Str.{IsUtf8-drop}
use Rattle.ips_text.specs.Path.{parts}
use Rattle.ips_text.proofs.Lists.{all_append}
use Rattle.ips_fmri.specs.Name.{IsStem}
use Rattle.ips_digest.specs.declared.name.PayloadName.{PayloadName}
use Rattle.ips_action.specs.declared.kind.ActionKind.{ActionKind}
use Rattle.ips_action.specs.declared.kind.ActionKind.TheVariants.{Set, Depend, Dir, File, Link, Hardlink, User, Group, Driver, License, Legacy, Signature}
use Rattle.ips_action.specs.Attrs.{is_same, values_of}
use Rattle.ips_action.specs.Check.{last_of}
use Rattle.ips_action.specs.Action.{Fields, naming_key, payload_word, IfTaken}
use Rattle.ips_index.specs.declared.entry.Field.TheVariants.{Key}
use Rattle.ips_index.specs.Rows.{IndexedValue, has_slash, tokens, rows_at, rows_in, key_rows, values_said, rows_of, scanned}
use Rattle.ips_index.specs.Text.{HasIndex, IsRow, AreIndexRows}
use Rattle.ips_index.specs.Entries.{AreFit, AreNamed, AreOf, index_name}
use Rattle.ips_index.proofs.Picked.{one_or_rest, head_in, tail_in}

-- the row is of the stem
Is : List ℕ → IndexedValue → Type 0
Is stem row = row.stem ≡ stem

at_is : (stem : List ℕ) (kind : ActionKind) (index value : List ℕ) → AllByRecursion (Is stem) (rows_at stem kind index value)
unfolding Is
at_is stem kind index value = (refl, go (is_same index (codes "path") && has_slash value))
  where
    go : (t : Bool) → AllByRecursion (Is stem) (map (λ token. record { token = token; index = index; kind = kind; value = value; stem = stem }) (cond t (last_of (parts value) ∷ []) []))
    go true = (refl, tt)
    go false = tt

in_is : (stem : List ℕ) (kind : ActionKind) (index : List ℕ) (values : List (List ℕ)) → AllByRecursion (Is stem) (rows_in stem kind index values)
in_is stem kind index [] = tt
in_is stem kind index (v ∷ values) = all_append (Is stem) (rows_at stem kind index v) (rows_in stem kind index values) (at_is stem kind index v) (in_is stem kind index values)

key_rows_are : (stem : List ℕ) (a : Fields) (key : Option (List ℕ)) → AllByRecursion (Is stem) (key_rows stem a key)
key_rows_are stem a None = tt
key_rows_are stem a (Some key) = in_is stem a.kind key (values_of key a.attrs)

of_is : (stem : List ℕ) (a : Fields) → AllByRecursion (Is stem) (rows_of stem a)
of_is stem a =
    all_append (Is stem) (key_rows stem a (naming_key a.kind) ++ rows_in stem a.kind (codes "value") (values_said a a.kind)) (rows_in stem a.kind (codes "payload") (option_to_list (payload_word a.payload)))
    (all_append (Is stem) (key_rows stem a (naming_key a.kind)) (rows_in stem a.kind (codes "value") (values_said a a.kind)) (key_rows_are stem a (naming_key a.kind)) (in_is stem a.kind (codes "value") (values_said a a.kind)))
    (in_is stem a.kind (codes "payload") (option_to_list (payload_word a.payload)))

scanned_is : (stem : List ℕ) (actions : List Fields) → AllByRecursion (Is stem) (scanned stem actions)
scanned_is stem [] = tt
scanned_is stem (a ∷ actions) = all_append (Is stem) (rows_of stem a) (scanned stem actions) (of_is stem a) (scanned_is stem actions)

-- what holds of all rows of a list
pub each_of : (P : IndexedValue → Type 0) (rows : List IndexedValue) → AllByRecursion P rows → (row : IndexedValue) → Contains rows row → P row
each_of P [] all row h = absurd (omega (arith, h.1))
each_of P (r ∷ rows) all row h = elim (one_or_rest r row rows h) [ inl one ↦ subst P one all.0 | inr later ↦ each_of P rows all.1 row later ]

pub all_of : (P : IndexedValue → Type 0) (rows : List IndexedValue) → ((row : IndexedValue) → Contains rows row → P row) → AllByRecursion P rows
all_of P [] each = tt
all_of P (r ∷ rows) each = (each r (head_in r rows), all_of P rows (λ row h. each row (tail_in r row rows h)))

pub of_stem : (stem : List ℕ) (actions : List Fields) (row : IndexedValue) → Contains (scanned stem actions) row → row.stem ≡ stem
unfolding Is
of_stem stem actions row h = each_of (Is stem) (scanned stem actions) (scanned_is stem actions) row h

pub are_of : (stem : List ℕ) (actions : List Fields) (rows : List IndexedValue) → rows ≡ scanned stem actions → AreFit rows → AreOf stem rows
are_of stem actions rows e fit = record {
  of_stem = λ row h. of_stem stem actions row (subst (λ (l : List IndexedValue). Contains l row) e h);
  each = each_of IsRow rows fit;
}

-- ---- indexes

IfKey : Option (List ℕ) → Type 0
IfKey None = Unit {0}
IfKey (Some key) = key ≢ []

key_is : (kind : ActionKind) → IfKey (naming_key kind)
unfolding IfKey
key_is Set = λ e. cc
key_is Depend = λ e. cc
key_is Dir = λ e. cc
key_is File = λ e. cc
key_is Link = λ e. cc
key_is Hardlink = λ e. cc
key_is User = λ e. cc
key_is Group = λ e. cc
key_is Driver = λ e. cc
key_is License = λ e. cc
key_is Legacy = λ e. cc
key_is Signature = tt

some_index : (kind : ActionKind) (index : List ℕ) → HasIndex kind index → index ≢ []
unfolding IfKey
some_index kind index h = elim h [
  | inl key ↦ subst IfKey key (key_is kind)
  | inr w ↦ elim w [
    | inl value ↦ λ e. absurd (no_value (sym value.1) e)
    | inr payload ↦ λ e. absurd (no_payload (sym payload.1) e)
  ]
]
  where
    no_value : codes "value" ≡ index → index ≡ [] → ⊥
    no_value e n = cc

    no_payload : codes "payload" ≡ index → index ≡ [] → ⊥
    no_payload e n = cc

-- each row of an index is found by a text
pub are_named : (rows : List IndexedValue) → AreIndexRows rows → AreNamed rows
are_named rows are row h = let is = are.each row h in (some_index row.kind row.index is.index, is.token)

-- the index of the attribute that names an action
pub key_index : (kind : ActionKind) (key : List ℕ) → naming_key kind ≡ Some key → HasIndex kind (index_name kind Key)
key_index kind key e = inl (go (naming_key kind) e)
  where
    go : (o : Option (List ℕ)) → o ≡ Some key → o ≡ Some (unwrap_or o [])
    go None h = cc
    go (Some k) h = refl

-- the index of payloads, at an action that has one
pub payload_index : (kind : ActionKind) (payload : Option PayloadName) (name : PayloadName) → IfTaken kind payload → payload ≡ Some name → HasIndex kind (codes "payload")
payload_index kind payload name taken e = inr (inr (subst (IfTaken kind) e taken, refl))

-- ---- rows of one value

-- a value is found by what begins at a place of it
pub row_is : (stem : List ℕ) (kind : ActionKind) (index value : List ℕ) (token : ℕ) → IsStem false stem → HasIndex kind index → IsUtf8 value → IsCharBoundary value token → Contains (tokens index value) (drop token value)
    → IsRow (record { token = drop token value; index = index; kind = kind; value = value; stem = stem })
row_is stem kind index value token of_stem has text cut found = record {
  index = has;
  value = text;
  token = IsUtf8-drop value token text cut;
  found = found;
  stem = of_stem;
}

-- it is found by itself
pub whole_found : (index value : List ℕ) → Contains (tokens index value) value
whole_found index value = (0, omega arith, refl)

-- a path with a `/` is found by its last part
pub last_found : (index value : List ℕ) (token : ℕ) → (is_same index (codes "path") && has_slash value) ≡ true → drop token value ≡ last_of (parts value) → Contains (tokens index value) (drop token value)
last_found index value token slash e = go (is_same index (codes "path") && has_slash value) slash
  where
    go : (t : Bool) → t ≡ true → Contains (value ∷ cond t (last_of (parts value) ∷ []) []) (drop token value)
    go true h = (1, omega arith, sym e)
    go false h = cc
