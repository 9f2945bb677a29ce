-- What is put, of contents that were taken in.
use Rattle.std.proofs.Common.{◌≡◌, ℕ, zero, suc, ◌<◌, ◌≤◌, Bool, true, false, cond, List, [], ◌∷◌, ◌++◌, length, get_or, Option, Some, None, slice_get, refl, sym, ap, subst, ◌∙◌, arith, ⊎_elim}
use Rattle.std.specs.Prelude.{IsSome}
use Rattle.std.specs.List.{AllByRecursion, flat_map, list_any}
use Rattle.std.specs.Option.{option_map, option_to_list}
use Rattle.std.proofs.lemmas.Bool.{cases_lt}
use Rattle.std.proofs.lemmas.List.{map-append}
use Rattle.ips_text.specs.Kept.{Kept}
use Rattle.ips_text.proofs.Lists.{all_append}
use Rattle.ips_outside.specs.Image.{Image}
use Rattle.ips_outside.specs.Children.{path_bytes}
use Rattle.ips_files.specs.Files.{file_at}
use Rattle.ips_digest.specs.declared.name.PayloadName.{PayloadName}
use Rattle.ips_digest.specs.Digest.{SHA1, digest_of}
use Rattle.ips_digest.specs.Name.{IsName}
use Rattle.ips_action.specs.Action.{Fields, IfName}
use Rattle.ips_repo.specs.Payload.{payload_limit}
use Rattle.ips_manifest.specs.declared.draft.Draft.{Draft}
use Rattle.ips_filling.specs.declared.filled.Filled.{Filled}
use Rattle.ips_filling.specs.Filled.{IsFilling, IsPlaced, Pairwise}
use Rattle.ips_sends.specs.Whole.{has_content, content_of}
use Rattle.ips_sends.specs.Published.{content_text, FillsAs, tells_name, name_action, named_actions}
use Rattle.ips_sends.specs.Judged.{Fits}
use Rattle.ips_prepare.specs.declared.prepared.Content.{Content}
use Rattle.ips_prepare.specs.Prepared.{HasName, HasItsContent, IsEntry, IsSourced, actions_filled, content_with, contents_in, names_of}

-- ---- entries

some_path : (o : Option Kept) (text : List ℕ) → option_map (λ (p : Kept). p.bytes) o ≡ Some text → (path : Kept) × (o ≡ Some path) × (path.bytes ≡ text)
some_path None text e = absurd cc
some_path (Some p) text e = let at : p.bytes ≡ text = cc in (p, refl, at)

no_path : (o : Option Kept) → option_map (λ (p : Kept). p.bytes) o ≡ None → o ≡ None
no_path None e = refl
no_path (Some p) e = absurd cc

some_name : (o : Option PayloadName) → IsSome o → IfName o → (name : PayloadName) × (o ≡ Some name) × IsName name
some_name None h named = absurd cc
some_name (Some name) h named = (name, refl, named)

abbrev path_if : Draft → Bool → Option (List ℕ)
path_if d t = cond t (Some (content_text d)) None

content_placed : (b : Bool) (d : Draft) (f : Filled) → has_content d.line.action.kind ≡ b → IsPlaced d f → HasItsContent b f
content_placed true d f e p =
    let path = some_path f.path (content_text d) (p.path ∙ ap (path_if d) e) in
    let name = some_name f.line.action.payload (p.named e) p.stands.action.named in
    (path.0, name.0, path.1, name.1, name.2)
content_placed false d f e p = no_path f.path (p.path ∙ ap (path_if d) e)

entry_of : (d : Draft) (f : Filled) → IsPlaced d f → IsEntry f
entry_of d f p = record { stands = p.stands; content = content_placed (has_content f.line.action.kind) d f (ap has_content (sym p.kind)) p }

-- what is placed can be prepared
pub entries_of : (drafts : List Draft) (filled : List Filled) → Pairwise IsPlaced drafts filled → AllByRecursion IsEntry filled
entries_of [] [] all = tt
entries_of [] (f ∷ filled) all = absurd all
entries_of (d ∷ drafts) [] all = absurd all
entries_of (d ∷ drafts) (f ∷ filled) all = (entry_of d f all.0, entries_of drafts filled all.1)

-- ---- contents

abbrev one_content : Kept → PayloadName → Content
one_content path name = record { path = path; name = name }

both_given : (f : Filled) (path : Kept) (name : PayloadName) → f.path ≡ Some path → f.line.action.payload ≡ Some name → contents_in f ≡ one_content path name ∷ []
both_given f path name at is = ap (λ (o : Option Kept). content_with o f.line.action.payload) at ∙ ap (content_with (Some path)) is

none_given : (f : Filled) → f.path ≡ None → contents_in f ≡ []
none_given f none = ap (λ (o : Option Kept). content_with o f.line.action.payload) none

content_names : (b : Bool) (f : Filled) → HasItsContent b f → AllByRecursion HasName (contents_in f)
content_names true f (path, name, at, is, named) = subst (AllByRecursion HasName) (sym (both_given f path name at is)) (named, tt)
content_names false f none = subst (AllByRecursion HasName) (sym (none_given f none)) tt

content_listed : (b : Bool) (f : Filled) → has_content f.line.action.kind ≡ b → HasItsContent b f → names_of (contents_in f) ≡ content_of f.line.action
content_listed true f e (path, name, at, is, named) =
    ap names_of (both_given f path name at is) ∙ sym (ap (λ (t : Bool). cond t (option_to_list f.line.action.payload) []) e ∙ ap (λ (o : Option PayloadName). option_to_list o) is)
content_listed false f e none = ap names_of (none_given f none) ∙ sym (ap (λ (t : Bool). cond t (option_to_list f.line.action.payload) []) e)

-- each has its name
pub names_all : (filled : List Filled) → AllByRecursion IsEntry filled → AllByRecursion HasName (flat_map contents_in filled)
names_all [] all = tt
names_all (f ∷ filled) all = all_append HasName (contents_in f) (flat_map contents_in filled) (content_names (has_content f.line.action.kind) f all.0.content) (names_all filled all.1)

-- their names are those of the actions
pub names_are : (filled : List Filled) → AllByRecursion IsEntry filled → names_of (flat_map contents_in filled) ≡ flat_map content_of (actions_filled filled)
names_are [] all = refl
names_are (f ∷ filled) all =
    map-append (λ (c : Content). c.name) (contents_in f) (flat_map contents_in filled)
    ∙ ap (λ (l : List PayloadName). l ++ names_of (flat_map contents_in filled)) (content_listed (has_content f.line.action.kind) f refl all.0.content)
    ∙ ap (λ (l : List PayloadName). content_of f.line.action ++ l) (names_are filled all.1)

-- the line that tells the name has none
pub content_named : (fmri : List ℕ) (actions : List Fields) → flat_map content_of (named_actions fmri actions) ≡ flat_map content_of actions
content_named fmri actions = go (list_any tells_name actions)
  where
    go : (t : Bool) → flat_map content_of (cond t actions (name_action fmri ∷ actions)) ≡ flat_map content_of actions
    go true = refl
    go false = refl

within_limit : (proto : Image) (d : Draft) (bytes : List ℕ) → has_content d.line.action.kind ≡ true → file_at proto (content_text d) ≡ Some bytes → Fits proto d → length bytes ≤ payload_limit
within_limit proto d bytes e stands fits =
    ⊎_elim (λ over. absurd (fits (length bytes) (e, (bytes, stands, refl, over)))) (λ le. le) (cases_lt payload_limit (length bytes))

content_sourced : (proto : Image) (b : Bool) (d : Draft) (f : Filled) → has_content d.line.action.kind ≡ b → IsFilling proto d f → IsPlaced d f → AllByRecursion (IsSourced proto) (contents_in f)
content_sourced proto true d f e filling placed =
    let fills : FillsAs true proto d f.line.action = subst (λ (t : Bool). FillsAs t proto d f.line.action) e filling.fills in
    let path = some_path f.path (content_text d) (placed.path ∙ ap (path_if d) e) in
    let name : PayloadName = digest_of SHA1 fills.0 in
    let is : f.line.action.payload ≡ Some name = ap (λ (a : Fields). a.payload) fills.2 in
    let sourced : IsSourced proto (one_content path.0 name) = record {
      bytes = fills.0;
      stands = subst (λ (p : List ℕ). file_at proto p ≡ Some fills.0) (sym path.2) fills.1;
      within = within_limit proto d fills.0 e fills.1 filling.fits;
      named = refl;
    } in
    subst (AllByRecursion (IsSourced proto)) (sym (both_given f path.0 name path.1 is)) (sourced, tt)
content_sourced proto false d f e filling placed =
    subst (AllByRecursion (IsSourced proto)) (sym (none_given f (no_path f.path (placed.path ∙ ap (path_if d) e)))) tt

-- each stands under its name
pub sourced_all : (proto : Image) (drafts : List Draft) (filled : List Filled) → Pairwise (IsFilling proto) drafts filled → Pairwise IsPlaced drafts filled → AllByRecursion (IsSourced proto) (flat_map contents_in filled)
sourced_all proto [] [] filling placed = tt
sourced_all proto [] (f ∷ filled) filling placed = absurd filling
sourced_all proto (d ∷ drafts) [] filling placed = absurd filling
sourced_all proto (d ∷ drafts) (f ∷ filled) filling placed =
    all_append (IsSourced proto) (contents_in f) (flat_map contents_in filled) (content_sourced proto (has_content d.line.action.kind) d f refl filling.0 placed.0) (sourced_all proto drafts filled filling.1 placed.1)

-- ---- the path at a place

pub path_there : (ways : List Kept) (at : ℕ) (k : Kept) (path : List ℕ) → slice_get (path_bytes ways) at ≡ Some path → at < length ways → k ≡ get_or ways at k → k.bytes ≡ path
path_there [] at k path e lt is = absurd (omega arith)
path_there (w ∷ ways) zero k path e lt is = let here : w.bytes ≡ path = cc in ap (λ (x : Kept). x.bytes) is ∙ here
path_there (w ∷ ways) (suc at) k path e lt is = path_there ways at k path e (omega arith) is
