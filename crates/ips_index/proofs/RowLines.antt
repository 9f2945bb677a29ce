-- The line of a row, and its words.
use Rattle.std.proofs.Common.{◌≡◌, inl, inr, ℕ, true, false, List, [], ◌∷◌, ◌++◌, refl, sym, ◌∙◌, ap, subst, Option, Some, None, arith}
use Rattle.std.specs.Prelude.{Contains}
use Rattle.ips_text.specs.Quote.{quoted}
use Rattle.ips_text.proofs.Quotes.{quoted_apart}
use Rattle.ips_action.specs.declared.kind.ActionKind.{ActionKind}
use Rattle.ips_action.specs.declared.kind.ActionKind.TheVariants.{Set, Depend, Dir, File, Link, Hardlink, User, Group, Driver, License, Legacy, Signature}
use Rattle.ips_action.specs.Kind.{kind_name}
use Rattle.ips_action.specs.Action.{naming_key}
use Rattle.ips_action.proofs.One.{one_kind}
use Rattle.std.specs.List.{list_all}
use Rattle.std.proofs.lemmas.List.{append_assoc}
use Rattle.std.specs.Str.{IsUtf8}
use Rattle.ips_text.specs.Cut.{has_byte, IsCut}
use Rattle.ips_records.specs.Listed.{Sole}
use Rattle.ips_text.proofs.Bytes.{text_bytes}
use Rattle.ips_records.proofs.Clear.{is_clear, clear_lacks, quoted_clear}
use Rattle.ips_records.proofs.ClearNames.{stem_clear}
use Rattle.ips_text.proofs.Cuts.{cut_once, not_cut, newline_in}
use Rattle.ips_records.proofs.FileNames.{is_low, low_text}
use Rattle.ips_index.specs.Rows.{IndexedValue, row_line, tokens}
use Rattle.ips_index.specs.Text.{HasIndex, IsRow, AreWords, Spell}
use Rattle.ips_index.proofs.Order.{same}

-- ---- no word has a blank or a newline

IfClear : Option (List ℕ) → Type 0
IfClear None = Unit {0}
IfClear (Some key) = is_clear key ≡ true

key_clear : (kind : ActionKind) → IfClear (naming_key kind)
unfolding IfClear
key_clear Set = refl
key_clear Depend = refl
key_clear Dir = refl
key_clear File = refl
key_clear Link = refl
key_clear Hardlink = refl
key_clear User = refl
key_clear Group = refl
key_clear Driver = refl
key_clear License = refl
key_clear Legacy = refl
key_clear Signature = tt

index_clear : (kind : ActionKind) (index : List ℕ) → HasIndex kind index → is_clear index ≡ true
unfolding IfClear
index_clear kind index h = elim h [
  | inl key ↦ subst IfClear key (key_clear kind)
  | inr w ↦ elim w [
    | inl value ↦ ap is_clear value.1
    | inr payload ↦ ap is_clear payload.1
  ]
]

kind_clear : (kind : ActionKind) → is_clear (kind_name kind) ≡ true
kind_clear Set = refl
kind_clear Depend = refl
kind_clear Dir = refl
kind_clear File = refl
kind_clear Link = refl
kind_clear Hardlink = refl
kind_clear User = refl
kind_clear Group = refl
kind_clear Driver = refl
kind_clear License = refl
kind_clear Legacy = refl
kind_clear Signature = refl

-- ---- a line has its words in one way

-- the words are the same
pub record SameWords (a b c d e v w x y z : List ℕ) : Type 0 where
  pub token : a ≡ v
  pub index : b ≡ w
  pub kind : c ≡ x
  pub value : d ≡ y
  pub stem : e ≡ z

words_once : (line a b c d e v w x y z : List ℕ) → AreWords line a b c d e → AreWords line v w x y z → SameWords a b c d e v w x y z
words_once line a b c d e v w x y z one other =
    let first = cut_once 32 a (b ++ 32 ∷ (c ++ 32 ∷ (d ++ 32 ∷ e))) v (w ++ 32 ∷ (x ++ 32 ∷ (y ++ 32 ∷ z))) one.in_token other.in_token (sym one.is ∙ other.is) in
    let second = cut_once 32 b (c ++ 32 ∷ (d ++ 32 ∷ e)) w (x ++ 32 ∷ (y ++ 32 ∷ z)) one.in_index other.in_index first.1 in
    let third = cut_once 32 c (d ++ 32 ∷ e) x (y ++ 32 ∷ z) one.in_kind other.in_kind second.1 in
    let fourth = cut_once 32 d e y z one.in_value other.in_value third.1 in
    record { token = first.0; index = second.0; kind = third.0; value = fourth.0; stem = fourth.1 }

pub row_words : (r : IndexedValue) → IsRow r → AreWords (row_line r) (quoted r.token) r.index (kind_name r.kind) (quoted r.value) r.stem
row_words r is = record {
  is = refl;
  in_token = clear_lacks 32 (quoted r.token) (omega arith) (quoted_clear r.token (text_bytes r.token is.token));
  in_index = clear_lacks 32 r.index (omega arith) (index_clear r.kind r.index is.index);
  in_kind = clear_lacks 32 (kind_name r.kind) (omega arith) (kind_clear r.kind);
  in_value = clear_lacks 32 (quoted r.value) (omega arith) (quoted_clear r.value (text_bytes r.value is.value));
}

-- the words of a line are those of the row whose line it is
pub spelled_by : (line a b c d e : List ℕ) → AreWords line a b c d e → (r : IndexedValue) → IsRow r → row_line r ≡ line → Spell a b c d e r
spelled_by line a b c d e words r is at =
    let s = words_once line a b c d e (quoted r.token) r.index (kind_name r.kind) (quoted r.value) r.stem words (subst (λ (l : List ℕ). AreWords l (quoted r.token) r.index (kind_name r.kind) (quoted r.value) r.stem) at (row_words r is)) in
    record { token = s.token; index = s.index; kind = s.kind; value = s.value; stem = s.stem }

five : List ℕ → List ℕ → List ℕ → List ℕ → List ℕ → List ℕ
five a b c d e = a ++ 32 ∷ (b ++ 32 ∷ (c ++ 32 ∷ (d ++ 32 ∷ e)))

-- the line of a row that its words spell
pub line_spelled : (line a b c d e : List ℕ) → AreWords line a b c d e → (r : IndexedValue) → Spell a b c d e r → row_line r ≡ line
unfolding five
line_spelled line a b c d e words r s =
    sym (words.is ∙ ap (λ t. five t b c d e) s.token ∙ ap (λ i. five (quoted r.token) i c d e) s.index ∙ ap (λ k. five (quoted r.token) r.index k d e) s.kind ∙ ap (λ v. five (quoted r.token) r.index (kind_name r.kind) v e) s.value
    ∙ ap (λ m. five (quoted r.token) r.index (kind_name r.kind) (quoted r.value) m) s.stem)

-- no two rows have one line
pub row_one : (a b : IndexedValue) → IsRow a → IsRow b → row_line a ≡ row_line b → a ≡ b
row_one a b ia ib e =
    let s = spelled_by (row_line b) (quoted b.token) b.index (kind_name b.kind) (quoted b.value) b.stem (row_words b ib) a ia e in
    sym (same b a (quoted_apart b.token a.token (text_bytes b.token ib.token) (text_bytes a.token ia.token) s.token) s.index (one_kind b.kind a.kind s.kind) (quoted_apart b.value a.value (text_bytes b.value ib.value) (text_bytes a.value ia.value) s.value) s.stem)

pub row_sole : (r : IndexedValue) → IsRow r → Sole row_line IsRow r
row_sole r is = record { fits = is; alone = λ other fits e. row_one other r fits is e }

-- a row's line is one line
pub row_single : (r : IndexedValue) → IsRow r → has_byte 10 (row_line r) ≡ false
row_single r is =
    newline_in (quoted r.token) (r.index ++ 32 ∷ (kind_name r.kind ++ 32 ∷ (quoted r.value ++ 32 ∷ r.stem))) (clear_lacks 10 (quoted r.token) (omega arith) (quoted_clear r.token (text_bytes r.token is.token)))
    (newline_in r.index (kind_name r.kind ++ 32 ∷ (quoted r.value ++ 32 ∷ r.stem)) (clear_lacks 10 r.index (omega arith) (index_clear r.kind r.index is.index))
    (newline_in (kind_name r.kind) (quoted r.value ++ 32 ∷ r.stem) (clear_lacks 10 (kind_name r.kind) (omega arith) (kind_clear r.kind))
    (newline_in (quoted r.value) r.stem (clear_lacks 10 (quoted r.value) (omega arith) (quoted_clear r.value (text_bytes r.value is.value))) (clear_lacks 10 r.stem (omega arith) (stem_clear r.stem is.stem)))))

-- ---- lines that lack a word

pub none_first : (line a b c d e : List ℕ) → has_byte 32 line ≡ false → AreWords line a b c d e → ⊥
none_first line a b c d e none words = not_cut 32 line a (b ++ 32 ∷ (c ++ 32 ∷ (d ++ 32 ∷ e))) none words.is

pub none_second : (line token rest : List ℕ) → IsCut 32 line token rest → has_byte 32 rest ≡ false → (a b c d e : List ℕ) → AreWords line a b c d e → ⊥
none_second line token rest one none a b c d e words =
    let at = cut_once 32 token rest a (b ++ 32 ∷ (c ++ 32 ∷ (d ++ 32 ∷ e))) one.first_lacks words.in_token (sym one.parts ∙ words.is) in
    not_cut 32 rest b (c ++ 32 ∷ (d ++ 32 ∷ e)) none at.1

pub none_third : (line token first index rest : List ℕ) → IsCut 32 line token first → IsCut 32 first index rest → has_byte 32 rest ≡ false → (a b c d e : List ℕ) → AreWords line a b c d e → ⊥
none_third line token first index rest one two none a b c d e words =
    let at = cut_once 32 token first a (b ++ 32 ∷ (c ++ 32 ∷ (d ++ 32 ∷ e))) one.first_lacks words.in_token (sym one.parts ∙ words.is) in
    let behind = cut_once 32 index rest b (c ++ 32 ∷ (d ++ 32 ∷ e)) two.first_lacks words.in_index (sym two.parts ∙ at.1) in
    not_cut 32 rest c (d ++ 32 ∷ e) none behind.1

pub none_fourth : (line token first index second kind rest : List ℕ) → IsCut 32 line token first → IsCut 32 first index second → IsCut 32 second kind rest → has_byte 32 rest ≡ false → (a b c d e : List ℕ) → AreWords line a b c d e → ⊥
none_fourth line token first index second kind rest one two three none a b c d e words =
    let at = cut_once 32 token first a (b ++ 32 ∷ (c ++ 32 ∷ (d ++ 32 ∷ e))) one.first_lacks words.in_token (sym one.parts ∙ words.is) in
    let behind = cut_once 32 index second b (c ++ 32 ∷ (d ++ 32 ∷ e)) two.first_lacks words.in_index (sym two.parts ∙ at.1) in
    let last = cut_once 32 kind rest c (d ++ 32 ∷ e) three.first_lacks words.in_kind (sym three.parts ∙ behind.1) in
    not_cut 32 rest d e none last.1

-- ---- names of kinds are texts

pub kind_text : (kind : ActionKind) → IsUtf8 (kind_name kind)
kind_text kind = low_text (kind_name kind) (low kind)
  where
    low : (k : ActionKind) → list_all is_low (kind_name k) ≡ true
    low Set = refl
    low Depend = refl
    low Dir = refl
    low File = refl
    low Link = refl
    low Hardlink = refl
    low User = refl
    low Group = refl
    low Driver = refl
    low License = refl
    low Legacy = refl
    low Signature = refl

-- a token by which no value of the index is found
pub no_token : (index value token : List ℕ) (r : IndexedValue) → IsRow r → r.index ≡ index → quoted r.value ≡ quoted value → IsUtf8 value → token ≡ quoted r.token → ((t : List ℕ) → Contains (tokens index value) t → token ≡ quoted t → ⊥) → ⊥
no_token index value token r is same_index same_value text same_token never =
    never r.token
    (subst (λ (v : List ℕ). Contains (tokens index v) r.token) (quoted_apart r.value value (text_bytes r.value is.value) (text_bytes value text) same_value) (subst (λ (i : List ℕ). Contains (tokens i r.value) r.token) same_index is.found))
    same_token

-- ---- a line, written piece by piece

pub line_written : (out token index kind value stem : List ℕ) → out ++ token ++ 32 ∷ index ++ 32 ∷ kind ++ 32 ∷ [] ++ value ++ 32 ∷ stem ++ 10 ∷ [] ≡ out ++ (token ++ 32 ∷ (index ++ 32 ∷ (kind ++ 32 ∷ (value ++ 32 ∷ stem)))) ++ 10 ∷ []
line_written out token index kind value stem = ap (λ (l : List ℕ). l ++ 10 ∷ [])
    (append_assoc (out ++ token ++ 32 ∷ index ++ 32 ∷ kind ++ 32 ∷ []) value (32 ∷ stem) ∙ append_assoc (out ++ token ++ 32 ∷ index ++ 32 ∷ kind) (32 ∷ []) (value ++ 32 ∷ stem)
    ∙ append_assoc (out ++ token ++ 32 ∷ index) (32 ∷ kind) (32 ∷ (value ++ 32 ∷ stem)) ∙ append_assoc (out ++ token) (32 ∷ index) (32 ∷ kind ++ 32 ∷ (value ++ 32 ∷ stem))
    ∙ append_assoc out token (32 ∷ index ++ (32 ∷ kind ++ 32 ∷ (value ++ 32 ∷ stem))))
