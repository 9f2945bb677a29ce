-- What attributes and lines ask for is decided.
use Rattle.std.proofs.Common.{◌≡◌, ◌⊎◌, inl, inr, ℕ, List, [], ◌∷◌, ◌++◌, Result, Ok, Err, refl, ap}
use Rattle.std.specs.Prelude.{codes, Option, Some, None}
use Rattle.std.specs.List.{AllByRecursion}
use Rattle.ips_text.specs.declared.refusal.Stop.{Stop}
use Rattle.ips_fmri.specs.declared.fault.Part.{Part}
use Rattle.ips_fmri.specs.declared.fmri.Fmri.{Fmri}
use Rattle.ips_fmri.specs.Reading.{read_fmri}
use Rattle.ips_fmri.proofs.Versions.{read_none}
use Rattle.ips_fmri.proofs.Readings.{WritesName, judges_fmri}
use Rattle.ips_action.specs.declared.kind.ActionKind.TheVariants as kind
use Rattle.ips_action.specs.Attrs.{Attr}
use Rattle.ips_action.specs.Kind.{kind_name}
use Rattle.ips_action.specs.Attrs.{values_of}
use Rattle.ips_action.proofs.One.{one_kind}
use Rattle.ips_manifest.specs.declared.line.Line.{Line}
use Rattle.ips_filter.specs.Settings.{Set}
use Rattle.ips_depend.specs.declared.dependency_type.DependencyType.{DependencyType}
use Rattle.ips_depend.specs.declared.dependency_type.DependencyType.TheVariants.{Require, Optional, Incorporate, Exclude, Conditional, RequireAny, Group, GroupAny, Parent, Origin}
use Rattle.ips_depend.specs.Dependency.{Dependency, type_name}
use Rattle.ips_depend.specs.Kept.{made_of}
use Rattle.ips_depend.specs.Read.{IsAskedFor}
use Rattle.ips_depend.specs.Asking.{AreWritten, Asks, IsJudged, LineAsks, LinesAsk, marks_root}
use Rattle.ips_depend.proofs.Made.{asked_made, asked_untyped, asked_unpredicated, asked_unread}
use Rattle.ips_grammar.proofs.Decided.{Decided, with_it, both, same_bytes, one_of}
use Rattle.ips_grammar.proofs.Tags.{admits}

-- ---- FMRIs

abbrev Written : List ℕ → Type 0
Written text = (f : Fmri) × WritesName f text

written : (text : List ℕ) → Decided (Written text)
written text = go (read_fmri text) refl
  where
    go : (r : Result Fmri (Stop Part)) → read_fmri text ≡ r → Decided (Written text)
    go (Ok f) e = inl (f, judges_fmri.found text f e)
    go (Err s) e = inr (λ w. read_none judges_fmri text s w.0 e w.1)

all_on : (text : List ℕ) (texts : List (List ℕ)) → Written text × ((fs : List Fmri) × AreWritten texts fs) → (fs : List Fmri) × AreWritten (text ∷ texts) fs
all_on text texts h = (h.0.0 ∷ h.1.0, (h.0.1.0, h.0.1.1, h.1.1))

all_back : (text : List ℕ) (texts : List (List ℕ)) (fs : List Fmri) → AreWritten (text ∷ texts) fs → Written text × ((fs : List Fmri) × AreWritten texts fs)
all_back text texts [] h = absurd h
all_back text texts (f ∷ fs) h = ((f, (h.0, h.1)), (fs, h.2))

all_written : (texts : List (List ℕ)) → Decided ((fs : List Fmri) × AreWritten texts fs)
all_written [] = inl ([], tt)
all_written (text ∷ texts) =
    with_it (Written text × ((fs : List Fmri) × AreWritten texts fs)) ((fs : List Fmri) × AreWritten (text ∷ texts) fs) (all_on text texts) (λ w. all_back text texts w.0 w.1) (both (written text) (all_written texts))

-- ---- types

abbrev types : List DependencyType
types = Require ∷ Optional ∷ Incorporate ∷ Exclude ∷ Conditional ∷ RequireAny ∷ Group ∷ GroupAny ∷ Parent ∷ Origin ∷ []

type_stands : (P : DependencyType → Type 0) → AllByRecursion P types → (t : DependencyType) → P t
type_stands P h Require = h.0
type_stands P h Optional = h.1.0
type_stands P h Incorporate = h.1.1.0
type_stands P h Exclude = h.1.1.1.0
type_stands P h Conditional = h.1.1.1.1.0
type_stands P h RequireAny = h.1.1.1.1.1.0
type_stands P h Group = h.1.1.1.1.1.1.0
type_stands P h GroupAny = h.1.1.1.1.1.1.1.0
type_stands P h Parent = h.1.1.1.1.1.1.1.1.0
type_stands P h Origin = h.1.1.1.1.1.1.1.1.1.0

same_word : (values : List (List ℕ)) (word : List ℕ) → Decided (values ≡ word ∷ [])
same_word [] word = inr (λ e. absurd cc)
same_word (v ∷ []) word = with_it (v ≡ word) (v ∷ [] ≡ word ∷ []) (λ e. ap (λ (w : List ℕ). w ∷ []) e) (λ e. cc) (same_bytes v word)
same_word (v ∷ w ∷ values) word = inr (λ e. absurd cc)

abbrev Typed : List (List ℕ) → Type 0
Typed values = (t : DependencyType) × (values ≡ type_name t ∷ [])

typed : (values : List (List ℕ)) → Decided (Typed values)
typed values = go (one_of (λ t. values ≡ type_name t ∷ []) (λ t. same_word values (type_name t)) types)
  where
    go : Typed values ⊎ AllByRecursion (λ t. values ≡ type_name t ∷ [] → ⊥) types → Decided (Typed values)
    go (inl found) = inl found
    go (inr none) = inr (λ w. type_stands (λ t. values ≡ type_name t ∷ [] → ⊥) none w.0 w.1)

-- ---- attributes

abbrev Asked : List Attr → Type 0
Asked attrs = (d : Dependency) × Asks attrs d

asked_for : (attrs : List Attr) (o : Option Dependency) → IsAskedFor attrs o → Decided (Asked attrs)
asked_for attrs None none = inr (λ w. none w.0 w.1)
asked_for attrs (Some d) asks = inl (d, asks)

asked : (attrs : List Attr) → Decided (Asked attrs)
asked attrs = go (typed (values_of (codes "type") attrs)) (all_written (values_of (codes "predicate") attrs)) (all_written (values_of (codes "fmri") attrs))
  where
    go : Decided (Typed (values_of (codes "type") attrs)) → Decided ((fs : List Fmri) × AreWritten (values_of (codes "predicate") attrs) fs) → Decided ((fs : List Fmri) × AreWritten (values_of (codes "fmri") attrs) fs) → Decided (Asked attrs)
    go (inr none) ps os = asked_for attrs None (asked_untyped attrs (λ t e. none (t, e)))
    go (inl t) (inr none) os = asked_for attrs None (asked_unpredicated attrs (λ fs w. none (fs, w)))
    go (inl t) (inl ps) (inr none) = asked_for attrs None (asked_unread attrs (λ fs w. none (fs, w)))
    go (inl t) (inl ps) (inl os) =
        let rooted = marks_root (values_of (codes "root-image") attrs) in
        asked_for attrs (made_of rooted t.0 ps.0 os.0) (asked_made attrs rooted t.0 ps.0 os.0 (made_of rooted t.0 ps.0 os.0) refl t.1 ps.1 os.1 refl)

-- ---- lines

judged : (s : Set) (line : Line) → Decided (IsJudged s line)
judged s line =
    both (with_it (kind_name line.action.kind ≡ kind_name kind.Depend) (line.action.kind ≡ kind.Depend) (one_kind line.action.kind kind.Depend) (ap kind_name) (same_bytes (kind_name line.action.kind) (kind_name kind.Depend)))
    (admits s line.action.attrs)

not_asked : (s : Set) (line : Line) (ds : List Dependency) → IsJudged s line → (Asked line.action.attrs → ⊥) → LineAsks s line ds → ⊥
not_asked s line ds is none (inl h) = h.0 is
not_asked s line ds is none (inr h) = none (h.1.0, h.1.1)

line_asks : (s : Set) (line : Line) → Decided ((ds : List Dependency) × LineAsks s line ds)
line_asks s line = go (judged s line) (asked line.action.attrs)
  where
    go : Decided (IsJudged s line) → Decided (Asked line.action.attrs) → Decided ((ds : List Dependency) × LineAsks s line ds)
    go (inr none) a = inl ([], inl (none, refl))
    go (inl is) (inl a) = inl (a.0 ∷ [], inr (is, (a.0, a.1, refl)))
    go (inl is) (inr none) = inr (λ w. not_asked s line w.0 is none w.1)

pub lines_ask : (s : Set) (lines : List Line) → Decided ((ds : List Dependency) × LinesAsk s lines ds)
lines_ask s [] = inl ([], refl)
lines_ask s (line ∷ lines) =
    with_it (((ds : List Dependency) × LineAsks s line ds) × ((ds : List Dependency) × LinesAsk s lines ds)) ((ds : List Dependency) × LinesAsk s (line ∷ lines) ds)
    (λ h. (h.0.0 ++ h.1.0, (h.0.0, h.1.0, h.0.1, h.1.1, refl))) (λ w. ((w.1.0, w.1.2), (w.1.1, w.1.3)))
    (both (line_asks s line) (lines_ask s lines))
