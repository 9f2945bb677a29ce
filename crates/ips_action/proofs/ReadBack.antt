-- The canonical line of an action says that action.
use Rattle.std.proofs.Common.{◌≡◌, ℕ, ◌<◌, Bool, true, false, cond, ◌||◌, ◌&&◌, List, [], ◌∷◌, ◌++◌, map, length, get_or, Option, Some, None, refl, sym, ◌∙◌, ap, subst}
use Rattle.std.specs.Prelude.{filter}
use Rattle.std.specs.List.{AllByRecursion, list_any}
use Rattle.std.proofs.lemmas.Bool.{and_parts}
use Rattle.std.proofs.lemmas.List.{append-nil}
use Rattle.std.proofs.lemmas.List.Elements.{recursion_from_All}
use Rattle.ips_text.specs.declared.path.PathFault.TheVariants.{Absolute}
use Rattle.ips_text.specs.Path.{begins_at_root}
use Rattle.ips_digest.specs.declared.name.PayloadName.{PayloadName}
use Rattle.ips_line.specs.declared.words.Pair.{Pair}
use Rattle.ips_line.specs.Line.{IsRunOfBytes, in_word, in_key}
use Rattle.ips_line.specs.Canonical.{AreWords, IfPayload, payload_placed, canonical_words}
use Rattle.ips_action.specs.declared.kind.ActionKind.{ActionKind}
use Rattle.ips_action.specs.declared.kind.ActionKind.TheVariants.{Set, Depend, Dir, File, Link, Hardlink, User, Group, Driver, License, Legacy, Signature}
use Rattle.ips_action.specs.declared.check.Check.{Check}
use Rattle.ips_action.specs.declared.check.Check.TheVariants.{Anything, Path, Mode, Payload, Preserve, Overlay, LinkTarget, HardlinkTarget, Numbers, Priority, Account, Id, Field, FileName, Flag, FacetTag}
use Rattle.ips_action.specs.Attrs.{Attr}
use Rattle.ips_action.specs.Kind.{kind_name}
use Rattle.ips_action.specs.Table.{AttributeRow, table}
use Rattle.ips_action.specs.Check.{Meets, IsActionPath}
use Rattle.ips_action.specs.Attrs.{is_same, IsBefore, AreAttrs, values_of, values_in}
use Rattle.ips_action.specs.Judging.{KeepsRow, is_payload, path_of, facet_rows}
use Rattle.ips_action.specs.Action.{Fields, IsAction, IfName, payload_word, pairs_of, pairs_of_one}
use Rattle.ips_action.specs.Meaning.{is_path, is_path_key, without_slashes, held, word_of, IsSaid}
use Rattle.ips_action.proofs.KeyOrder.{same_true, self_equal}
use Rattle.ips_action.proofs.Found.{found_at}
use Rattle.ips_action.proofs.Slashes.{bare_already}
use Rattle.ips_action.proofs.Spelled.{name_runs}
use Rattle.ips_action.proofs.Gathered.{later_none}
use Rattle.ips_action.proofs.One.{one_kind, one_payload, one_list}
use Rattle.ips_text.proofs.Lists.{all_append}

-- ---- the words of a canonical line

pub name_run : (kind : ActionKind) → IsRunOfBytes in_word (kind_name kind)
name_run Set = refl
name_run Depend = refl
name_run Dir = refl
name_run File = refl
name_run Link = refl
name_run Hardlink = refl
name_run User = refl
name_run Group = refl
name_run Driver = refl
name_run License = refl
name_run Legacy = refl
name_run Signature = refl

pub word_runs : (payload : Option PayloadName) → IfName payload → IfPayload (payload_word payload)
word_runs None h = tt
word_runs (Some name) h = name_runs name h

keys_of_one : (key : List ℕ) (values : List (List ℕ)) → IsRunOfBytes in_key key → AllByRecursion (λ (p : Pair). IsRunOfBytes in_key p.key) (map (λ value. record { key = key; value = value }) values)
keys_of_one key [] h = tt
keys_of_one key (value ∷ values) h = (h, keys_of_one key values h)

pub keys_of : (attrs : List Attr) → AllByRecursion (λ (a : Attr). IsRunOfBytes in_key a.key) attrs → AllByRecursion (λ (p : Pair). IsRunOfBytes in_key p.key) (pairs_of attrs)
keys_of [] h = tt
keys_of (attr ∷ attrs) h = all_append (λ (p : Pair). IsRunOfBytes in_key p.key) (pairs_of_one attr) (pairs_of attrs) (keys_of_one attr.key attr.values h.0) (keys_of attrs h.1)

pub are_words : (a : Fields) → IsAction a → AreWords (kind_name a.kind) (payload_word a.payload) (pairs_of a.attrs)
are_words a h = record { is_name = name_run a.kind; is_payload = word_runs a.payload h.named; are_keys = keys_of a.attrs h.keys }

-- ---- the values of the canonical `key=value`

filter_joined : (key : List ℕ) (xs ys : List Pair) → values_in key (xs ++ ys) ≡ values_in key xs ++ values_in key ys
filter_joined key [] ys = refl
filter_joined key (x ∷ xs) ys = go (filter_joined key xs ys) (is_same x.key key)
  where
    go : values_in key (xs ++ ys) ≡ values_in key xs ++ values_in key ys → (t : Bool)
        → map (λ (q : Pair). q.value) (cond t (x ∷ filter (λ (q : Pair). is_same q.key key) (xs ++ ys)) (filter (λ (q : Pair). is_same q.key key) (xs ++ ys)))
        ≡ map (λ (q : Pair). q.value) (cond t (x ∷ filter (λ (q : Pair). is_same q.key key) xs) (filter (λ (q : Pair). is_same q.key key) xs)) ++ values_in key ys
    go rest true = ap (λ (l : List (List ℕ)). x.value ∷ l) rest
    go rest false = rest

values_of_one : (name key : List ℕ) (values : List (List ℕ)) (t : Bool) → is_same name key ≡ t → values_in key (map (λ value. record { key = name; value = value }) values) ≡ cond t values []
values_of_one name key [] true e = refl
values_of_one name key [] false e = refl
values_of_one name key (value ∷ values) true e = rw e (ap (λ (l : List (List ℕ)). value ∷ l) (values_of_one name key values true e))
values_of_one name key (value ∷ values) false e = rw e (values_of_one name key values false e)

pub values_back : (attrs : List Attr) → AreAttrs attrs → (key : List ℕ) → values_in key (pairs_of attrs) ≡ values_of key attrs
values_back [] h key = refl
values_back (attr ∷ attrs) h key =
    filter_joined key (pairs_of_one attr) (pairs_of attrs)
    ∙ ap (λ (l : List (List ℕ)). l ++ values_in key (pairs_of attrs)) (values_of_one attr.key key attr.values (is_same attr.key key) refl)
    ∙ ap (λ (l : List (List ℕ)). cond (is_same attr.key key) attr.values [] ++ l) (values_back attrs h.2 key)
    ∙ go (is_same attr.key key) refl
  where
    go : (t : Bool) → is_same attr.key key ≡ t → cond t attr.values [] ++ values_of key attrs ≡ cond t attr.values (values_of key attrs)
    go true e =
        let P : List ℕ → Type 0 = λ k. AllByRecursion (λ (x : Attr). IsBefore k x.key) attrs in
        ap (λ (l : List (List ℕ)). attr.values ++ l) (later_none attrs key (subst P (same_true attr.key key e) h.1)) ∙ append-nil attr.values
    go false e = refl

-- ---- paths are held as they stand

path_met : (check : Check) (path value : List ℕ) → is_path check ≡ true → Meets check path value → IsActionPath value
path_met Anything path value e m = absurd cc
path_met Path path value e m = m
path_met Mode path value e m = absurd cc
path_met Payload path value e m = absurd cc
path_met Preserve path value e m = absurd cc
path_met Overlay path value e m = absurd cc
path_met LinkTarget path value e m = absurd cc
path_met HardlinkTarget path value e m = absurd cc
path_met Numbers path value e m = absurd cc
path_met Priority path value e m = absurd cc
path_met Account path value e m = absurd cc
path_met Id path value e m = absurd cc
path_met Field path value e m = absurd cc
path_met FileName path value e m = absurd cc
path_met Flag path value e m = absurd cc
path_met FacetTag path value e m = absurd cc

all_paths : (check : Check) (path : List ℕ) (values : List (List ℕ)) → is_path check ≡ true → AllByRecursion (Meets check path) values → AllByRecursion IsActionPath values
all_paths check path [] e h = tt
all_paths check path (value ∷ values) e h = (path_met check path value e h.0, all_paths check path values e h.1)

no_payload : (check : Check) → is_path check ≡ true → is_payload check ≡ false
no_payload Anything e = refl
no_payload Path e = refl
no_payload Mode e = refl
no_payload Payload e = absurd cc
no_payload Preserve e = refl
no_payload Overlay e = refl
no_payload LinkTarget e = refl
no_payload HardlinkTarget e = refl
no_payload Numbers e = refl
no_payload Priority e = refl
no_payload Account e = refl
no_payload Id e = refl
no_payload Field e = refl
no_payload FileName e = refl
no_payload Flag e = refl
no_payload FacetTag e = refl

row_paths : (payload : Option (List ℕ)) (attrs : List Attr) (row : AttributeRow) (key : List ℕ) → (is_path row.check && is_same row.name key) ≡ true → KeepsRow payload attrs row → AllByRecursion IsActionPath (values_of key attrs)
row_paths payload attrs row key e h =
    let parts = and_parts (is_path row.check) (is_same row.name key) e in
    let P : List ℕ → Type 0 = λ k. AllByRecursion IsActionPath (values_of k attrs) in
    let none = no_payload row.check parts.0 in
    subst P (same_true row.name key parts.1) (all_paths row.check (path_of attrs) (values_of row.name attrs) parts.0 (rw none at h.each))

kept_paths : (payload : Option (List ℕ)) (attrs : List Attr) (rows more : List AttributeRow) (key : List ℕ) → list_any (λ (row : AttributeRow). is_path row.check && is_same row.name key) rows ≡ true → AllByRecursion (KeepsRow payload attrs) (rows ++ more) → AllByRecursion IsActionPath (values_of key attrs)
kept_paths payload attrs [] more key e h = absurd cc
kept_paths payload attrs (row ∷ rows) more key e h = go (is_path row.check && is_same row.name key) refl e (λ f. kept_paths payload attrs rows more key f h.1)
  where
    go : (t : Bool) → (is_path row.check && is_same row.name key) ≡ t → (t || list_any (λ (r : AttributeRow). is_path r.check && is_same r.name key) rows) ≡ true
        → (list_any (λ (r : AttributeRow). is_path r.check && is_same r.name key) rows ≡ true → AllByRecursion IsActionPath (values_of key attrs)) → AllByRecursion IsActionPath (values_of key attrs)
    go true f g rest = row_paths payload attrs row key f h.0
    go false f g rest = rest g

-- an attribute of a path has values that are paths
abbrev Bare : ActionKind → Attr → Type 0
Bare kind attr = is_path_key kind attr.key ≡ true → AllByRecursion IsActionPath attr.values

bare_at : (a : Fields) → IsAction a → (k : ℕ) (d : Attr) → k < length a.attrs → Bare a.kind (get_or a.attrs k d)
bare_at a h k d lt e =
    let there = found_at a.attrs (get_or a.attrs k d).key k d h.ordered lt (self_equal (get_or a.attrs k d).key) in
    subst (AllByRecursion IsActionPath) there (kept_paths (payload_word a.payload) a.attrs (table a.kind) (facet_rows a.attrs) (get_or a.attrs k d).key e h.rows)

all_bare : (a : Fields) → IsAction a → AllByRecursion (Bare a.kind) a.attrs
all_bare a h = recursion_from_All (Bare a.kind) a.attrs (bare_at a h)

not_absolute : (path : List ℕ) (t : Bool) → begins_at_root path ≡ t → IsActionPath path → t ≡ false
not_absolute path true e h = absurd (h.proper Absolute e)
not_absolute path false e h = refl

path_stays : (path : List ℕ) → IsActionPath path → without_slashes path ≡ path
path_stays path h = sym (bare_already path (not_absolute path (begins_at_root path) refl h))

held_one : (kind : ActionKind) (key : List ℕ) (values : List (List ℕ)) (t : Bool) → is_path_key kind key ≡ t → (t ≡ true → AllByRecursion IsActionPath values)
    → map (held kind) (map (λ value. record { key = key; value = value }) values) ≡ map (λ value. record { key = key; value = value }) values
held_one kind key [] t e h = refl
held_one kind key (value ∷ values) true e h =
    let p : Pair = record { key = key; value = value } in
    let same : held kind p ≡ p = rw e (let Q : List ℕ → Pair = λ v. record { key = key; value = v } in ap Q (path_stays value (h refl).0)) in
    ap (λ (x : Pair). x ∷ map (held kind) (map (λ v. record { key = key; value = v }) values)) same ∙ ap (λ (l : List Pair). p ∷ l) (held_one kind key values true e (λ f. (h f).1))
held_one kind key (value ∷ values) false e h =
    let p : Pair = record { key = key; value = value } in
    let same : held kind p ≡ p = rw e refl in
    ap (λ (x : Pair). x ∷ map (held kind) (map (λ v. record { key = key; value = v }) values)) same ∙ ap (λ (l : List Pair). p ∷ l) (held_one kind key values false e (λ f. absurd cc))

map_joined : (f : Pair → Pair) (xs ys : List Pair) → map f (xs ++ ys) ≡ map f xs ++ map f ys
map_joined f [] ys = refl
map_joined f (x ∷ xs) ys = ap (λ (l : List Pair). f x ∷ l) (map_joined f xs ys)

held_all : (kind : ActionKind) (attrs : List Attr) → AllByRecursion (Bare kind) attrs → map (held kind) (pairs_of attrs) ≡ pairs_of attrs
held_all kind [] h = refl
held_all kind (attr ∷ attrs) h =
    map_joined (held kind) (pairs_of_one attr) (pairs_of attrs)
    ∙ ap (λ (l : List Pair). l ++ map (held kind) (pairs_of attrs)) (held_one kind attr.key attr.values (is_path_key kind attr.key) refl h.0)
    ∙ ap (λ (l : List Pair). pairs_of_one attr ++ l) (held_all kind attrs h.1)

-- ---- the law

word_placed : (name : List ℕ) (payload : Option (List ℕ)) → word_of (payload_placed name payload) ≡ payload
word_placed name None = refl
word_placed name (Some word) = refl

-- what the canonical line says is the action
pub said_back : (a : Fields) → IsAction a → IsSaid (canonical_words (kind_name a.kind) (payload_word a.payload) (pairs_of a.attrs)) a
said_back a h = record {
  kind = refl;
  payload = word_placed (kind_name a.kind) (payload_word a.payload);
  attrs = λ key. sym (values_back a.attrs h.ordered key) ∙ ap (values_in key) (sym (held_all a.kind a.attrs (all_bare a h)));
  action = h;
}

-- two actions of which all words are the same
pub one_action : (a b : Fields) → IsAction a → IsAction b → kind_name a.kind ≡ kind_name b.kind → payload_word a.payload ≡ payload_word b.payload → pairs_of a.attrs ≡ pairs_of b.attrs → a ≡ b
one_action a b ha hb name word pairs =
    let kind = one_kind a.kind b.kind name in
    let payload = one_payload a.payload b.payload ha.named hb.named word in
    let attrs = one_list a.attrs b.attrs ha.ordered hb.ordered (λ key. sym (values_back a.attrs ha.ordered key) ∙ ap (values_in key) pairs ∙ values_back b.attrs hb.ordered key) in
    λ i. record { kind = kind i; payload = payload i; attrs = attrs i }
