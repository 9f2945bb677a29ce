-- Actions that are read from the words of a line.
use Rattle.std.proofs.Common.{◌≡◌, ℕ, ◌<◌, Bool, true, false, cond, List, [], ◌∷◌, map, length, Option, Some, None, Result, Ok, Err, Bor, refl, sym, ◌∙◌, ap, subst, arith, inl, inr}
use Rattle.std.specs.Prelude.{filter, IfOk}
use Rattle.std.specs.List.{AllByRecursion}
use Rattle.std.specs.Option.{option_map}
use Rattle.ips_text.specs.declared.refusal.Or.{Or}
use Rattle.ips_text.specs.declared.refusal.Or.TheVariants.{Bad, OutOfMemory}
use Rattle.ips_text.specs.Reading.{Gives, IfBad}
use Rattle.ips_digest.specs.declared.name.PayloadName.{PayloadName}
use Rattle.ips_line.specs.declared.words.Pair.{Pair}
use Rattle.ips_line.specs.declared.words.Word.{Word}
use Rattle.ips_line.specs.declared.words.Words.{Words}
use Rattle.ips_line.specs.declared.fault.WordFault.{WordFault}
use Rattle.ips_line.specs.Line.{Line, Attribute, IsAttribute, IsWrittenLine, line_written, words_of, pair_of, Said, Says, IsRunOfBytes, in_key}
use Rattle.ips_line.specs.Reading.{read_words}
use Rattle.ips_line.specs.Seen.{seen, seen_payload}
use Rattle.ips_action.specs.declared.kind.ActionKind.{ActionKind}
use Rattle.ips_action.specs.declared.fault.ActionFault.{ActionFault}
use Rattle.ips_action.specs.declared.fault.ActionFault.TheVariants.{UnknownAction, BadWord, OpenQuote, MissingKey, BadValue}
use Rattle.ips_action.specs.Attrs.{Attr}
use Rattle.ips_action.specs.Kind.{kind_name}
use Rattle.ips_action.specs.Table.{AttributeRow}
use Rattle.ips_action.specs.Attrs.{is_same, AreAttrs, values_of, values_in, Gathers}
use Rattle.ips_action.specs.Judging.{KeepsRow, Finds, FindsFirst, standing, path_of, rows_of, takes_payload}
use Rattle.ips_action.specs.Action.{Fields, IsAction, IfName, IfTaken, payload_word}
use Rattle.ips_action.specs.Meaning.{held, word_of, Means, IsSaid, IsRefusedAs, IsJudged, FaultOf, IsFirstFault}
use Rattle.ips_action.proofs.KeyOrder.{same_true, same_self}
use Rattle.ips_action.proofs.One.{one_said, fault_not_said, one_fault}

-- ---- keys

abbrev pub KeysRun : List Pair → Type 0
KeysRun pairs = AllByRecursion (λ (p : Pair). IsRunOfBytes in_key p.key) pairs

keys_written : (attributes : List Attribute) → AllByRecursion IsAttribute attributes → KeysRun (map pair_of attributes)
keys_written [] h = tt
keys_written (a ∷ attributes) h = (h.0.key, keys_written attributes h.1)

pub keys_said : (said : Said) (text : List ℕ) → Says said text → KeysRun said.pairs
keys_said said text h = let P : Said → Type 0 = λ s. KeysRun s.pairs in subst P h.2 (keys_written h.0.attributes h.1.attributes)

keys_held : (kind : ActionKind) (pairs : List Pair) → KeysRun pairs → KeysRun (map (held kind) pairs)
keys_held kind [] h = tt
keys_held kind (p ∷ pairs) h = (h.0, keys_held kind pairs h.1)

key_given : (P : List ℕ → Type 0) (pairs : List Pair) (key : List ℕ) → AllByRecursion (λ (p : Pair). P p.key) pairs → 0 < length (values_in key pairs) → P key
key_given P [] key h some = absurd (omega arith)
key_given P (p ∷ pairs) key h some = go (key_given P pairs key h.1) (is_same p.key key) refl some
  where
    go : (0 < length (values_in key pairs) → P key) → (t : Bool) → is_same p.key key ≡ t
        → 0 < length (map (λ (q : Pair). q.value) (cond t (p ∷ filter (λ (q : Pair). is_same q.key key) pairs) (filter (λ (q : Pair). is_same q.key key) pairs))) → P key
    go rest true e s = subst P (same_true p.key key e) h.0
    go rest false e s = rest s

keys_stand : (P : List ℕ → Type 0) (attrs : List Attr) → AreAttrs attrs → ((key : List ℕ) → 0 < length (values_of key attrs) → P key) → AllByRecursion (λ (a : Attr). P a.key) attrs
keys_stand P [] h f = tt
keys_stand P (a ∷ attrs) h f =
    (f a.key (let e : is_same a.key a.key ≡ true = same_self a.key a.key refl in rw e h.0), keys_stand P attrs h.2 (λ key some. f key (go key some (is_same a.key key))))
  where
    go : (key : List ℕ) → 0 < length (values_of key attrs) → (t : Bool) → 0 < length (cond t a.values (values_of key attrs))
    go key some true = h.0
    go key some false = some

pub keys_gathered : (pairs : List Pair) (attrs : List Attr) → KeysRun pairs → AreAttrs attrs → Gathers pairs attrs → AllByRecursion (λ (a : Attr). IsRunOfBytes in_key a.key) attrs
keys_gathered pairs attrs h a g = keys_stand (IsRunOfBytes in_key) attrs a (λ key some. key_given (IsRunOfBytes in_key) pairs key h (let P : List (List ℕ) → Type 0 = λ l. 0 < length l in subst P (g key) some))

-- ---- payloads

abbrev pub texts : Option (Bor (List ℕ)) → Option (List ℕ)
texts payload = option_map (λ (w : Bor (List ℕ)). w.now) payload

pub texts_taken : (kind : ActionKind) (payload : Option (Bor (List ℕ))) → IfTaken kind payload → IfTaken kind (texts payload)
texts_taken kind None h = tt
texts_taken kind (Some w) h = h

name_taken : (kind : ActionKind) (payload : Option (List ℕ)) (name : Option PayloadName) → IfTaken kind payload → payload_word name ≡ payload → IfTaken kind name
name_taken kind payload None t e = tt
name_taken kind None (Some n) t e = absurd cc
name_taken kind (Some w) (Some n) t e = t

-- ---- the action

pub is_action : (kind : ActionKind) (payload : Option (List ℕ)) (name : Option PayloadName) (pairs : List Pair) (attrs : List Attr)
    → KeysRun pairs → IfTaken kind payload → AreAttrs attrs → Gathers (map (held kind) pairs) attrs → AllByRecursion (KeepsRow payload attrs) (rows_of kind attrs) → payload_word name ≡ payload → IfName name
    → IsAction (record { kind = kind; payload = name; attrs = attrs })
is_action kind payload name pairs attrs keys taken ordered gathers rows word named = record {
  ordered = ordered;
  keys = keys_gathered (map (held kind) pairs) attrs (keys_held kind pairs keys) ordered gathers;
  named = named;
  taken = name_taken kind payload name taken word;
  rows = (let P : Option (List ℕ) → Type 0 = λ w. AllByRecursion (KeepsRow w attrs) (rows_of kind attrs) in subst P (sym word) rows);
}

-- ---- from the words of a line

none_first : (payload : Option (List ℕ)) (attrs : List Attr) (rows : List AttributeRow) (fault : ActionFault) → ((path : List ℕ) (values : List (List ℕ)) (row : AttributeRow) → Finds path values row fault → ⊥) → FindsFirst payload attrs rows fault → ⊥
none_first payload attrs [] fault f h = h
none_first payload attrs (row ∷ rows) fault f (inl h) = f (path_of attrs) (standing payload attrs row) row h
none_first payload attrs (row ∷ rows) fault f (inr h) = none_first payload attrs rows fault f h.1

pub refused : (said : Said) (kind : ActionKind) (payload : Option (List ℕ)) (fault : ActionFault) → said.name.text ≡ kind_name kind → IfTaken kind said.payload → payload ≡ word_of said.payload → IsRefusedAs kind payload said.pairs fault → FaultOf said fault
refused said kind payload fault name taken word r = go fault r
  where
    first : (fault : ActionFault) → IsRefusedAs kind payload said.pairs fault → IsJudged said fault
    first fault r = record { kind = kind; attrs = r.attrs; name = name; taken = taken; ordered = r.ordered; gathers = r.gathers; first = (let P : Option (List ℕ) → Type 0 = λ w. FindsFirst w r.attrs (rows_of kind r.attrs) fault in subst P word r.first) }

    go : (fault : ActionFault) → IsRefusedAs kind payload said.pairs fault → FaultOf said fault
    go (UnknownAction place) r = absurd (none_first payload r.attrs (rows_of kind r.attrs) (UnknownAction place) (λ path values row h. h) r.first)
    go (BadWord place) r = absurd (none_first payload r.attrs (rows_of kind r.attrs) (BadWord place) (λ path values row h. h) r.first)
    go (OpenQuote place) r = absurd (none_first payload r.attrs (rows_of kind r.attrs) (OpenQuote place) (λ path values row h. h) r.first)
    go (MissingKey name) r = first (MissingKey name) r
    go (BadValue name) r = first (BadValue name) r

-- ---- from a line

abbrev pub Only : Said → List ℕ → Type 0
Only said text = (written : Line) → IsWrittenLine written → text ≡ line_written written → words_of written ≡ said

says_one : (said other : Said) (text : List ℕ) → Only said text → Says other text → other ≡ said
says_one said other text only says = sym says.2 ∙ only says.0 says.1 says.3

means_said : (said : Said) (text : List ℕ) (a : Fields) → Only said text → Means text a → IsSaid said a
means_said said text a only m = let P : Said → Type 0 = λ s. IsSaid s a in subst P (says_one said m.0 text only m.1) m.2

pub only_said : (said : Said) (text : List ℕ) (r : Result Fields (Or ActionFault)) → Only said text → IfOk r (λ a. IsSaid said a) → IfBad r (λ f. FaultOf said f) → (a : Fields) → Means text a → Gives (λ x. x) r (Ok a)
only_said said text (Ok b) only found first a m = ap (λ (x : Fields). Ok x) (one_said said a b (means_said said text a only m) found)
only_said said text (Err (Bad f)) only found first a m = absurd (fault_not_said said f a first (means_said said text a only m))
only_said said text (Err OutOfMemory) only found first a m = tt

pub faults_said : (said : Said) (text : List ℕ) (r : Result Fields (Or ActionFault)) → Only said text → IfOk r (λ a. IsSaid said a) → IfBad r (λ f. FaultOf said f)
    → (other : Said) (fault : ActionFault) → Says other text → FaultOf other fault → Gives (λ x. x) r (Err fault)
faults_said said text r only found first other fault says h = go r found first
  where
    here : FaultOf said fault
    here = let P : Said → Type 0 = λ s. FaultOf s fault in subst P (says_one said other text only says) h

    go : (r : Result Fields (Or ActionFault)) → IfOk r (λ a. IsSaid said a) → IfBad r (λ f. FaultOf said f) → Gives (λ x. x) r (Err fault)
    go (Ok b) found first = absurd (fault_not_said said fault b here found)
    go (Err (Bad f)) found first = ap (λ (x : ActionFault). Err x) (one_fault said fault f here first)
    go (Err OutOfMemory) found first = tt

pub first_said : (said : Said) (text : List ℕ) (r : Result Fields (Or ActionFault)) → Says said text → IfBad r (λ f. FaultOf said f) → IfBad r (λ f. IsFirstFault text f)
first_said said text (Ok b) says first = tt
first_said said text (Err OutOfMemory) says first = tt
first_said said text (Err (Bad f)) says first = go f first
  where
    go : (f : ActionFault) → FaultOf said f → IsFirstFault text f
    go (UnknownAction place) h = (said, says, h)
    go (BadWord place) h = inr (said, says, h)
    go (OpenQuote place) h = absurd h
    go (MissingKey name) h = (said, says, h)
    go (BadValue name) h = (said, says, h)

pub same_fault : (text : List ℕ) (fault other : WordFault) → read_words text ≡ Err fault → read_words text ≡ Err other → other ≡ fault
same_fault text fault other e f = let both : Err fault ≡ Err other = sym e ∙ f in cc

-- ---- what the calls say

abbrev done : Said → Result Said WordFault
done x = Ok x

ok_same : (x y : Said) → done x ≡ done y → x ≡ y
ok_same x y e = cc

pub only_from : (w : Words) (text : List ℕ) → ((written : Line) → IsWrittenLine written → text ≡ line_written written → Gives {X = Words} {Y = Said} {E = WordFault} seen (Ok w) (Ok (words_of written))) → Only (seen w) text
only_from w text h written is e = ok_same (words_of written) (seen w) (h written is e)

refused_some : (w : Words) (kind : ActionKind) (word : Word) (fault : ActionFault) → w.payload ≡ Some word → w.name.text.now ≡ kind_name kind → takes_payload kind ≡ true → IsRefusedAs kind (Some word.text.now) w.pairs.items fault → FaultOf (seen w) fault
refused_some w kind word fault e name taken r =
    let P : Option Word → Type 0 = λ p. IfTaken kind (seen_payload p) in
    refused (seen w) kind (Some word.text.now) fault name (subst P (sym e) taken) (ap (λ (p : Option Word). word_of (seen_payload p)) (sym e)) r

refused_none : (w : Words) (kind : ActionKind) (fault : ActionFault) → w.payload ≡ None → w.name.text.now ≡ kind_name kind → IsRefusedAs kind None w.pairs.items fault → FaultOf (seen w) fault
refused_none w kind fault e name r =
    let P : Option Word → Type 0 = λ p. IfTaken kind (seen_payload p) in
    refused (seen w) kind None fault name (subst P (sym e) tt) (ap (λ (p : Option Word). word_of (seen_payload p)) (sym e)) r

pub first_some : (w : Words) (kind : ActionKind) (word : Word) (r : Result Fields (Or ActionFault)) → w.payload ≡ Some word → w.name.text.now ≡ kind_name kind → takes_payload kind ≡ true
    → IfBad r (λ f. IsRefusedAs kind (Some word.text.now) w.pairs.items f) → IfBad r (λ f. FaultOf (seen w) f)
first_some w kind word (Ok a) e name taken h = tt
first_some w kind word (Err OutOfMemory) e name taken h = tt
first_some w kind word (Err (Bad f)) e name taken h = refused_some w kind word f e name taken h

pub first_none : (w : Words) (kind : ActionKind) (r : Result Fields (Or ActionFault)) → w.payload ≡ None → w.name.text.now ≡ kind_name kind
    → IfBad r (λ f. IsRefusedAs kind None w.pairs.items f) → IfBad r (λ f. FaultOf (seen w) f)
first_none w kind (Ok a) e name h = tt
first_none w kind (Err OutOfMemory) e name h = tt
first_none w kind (Err (Bad f)) e name h = refused_none w kind f e name h
