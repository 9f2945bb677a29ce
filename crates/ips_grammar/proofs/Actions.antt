-- Which action a text means, or that it means none, is decided.
use Rattle.std.proofs.Common.{◌≡◌, inl, inr, ℕ, ◌≤◌, true, List, map, length, Option, Result, Ok, Err, refl, sym, ◌∙◌, subst}
use Rattle.std.specs.List.{AllByRecursion}
use Rattle.ips_text.specs.declared.refusal.Stop.{Stop}
use Rattle.ips_line.specs.declared.fault.Part.{Part}
use Rattle.ips_line.specs.Line.{Said, Says}
use Rattle.ips_line.specs.Reading.{read_line, said_line}
use Rattle.ips_line.proofs.Answered.{words_found, words_only, stopped_only}
use Rattle.ips_action.specs.declared.kind.ActionKind.{ActionKind}
use Rattle.ips_action.specs.Attrs.{Attr}
use Rattle.ips_action.specs.Kind.{kind_name}
use Rattle.ips_action.specs.Table.{AttributeRow}
use Rattle.ips_action.specs.Attrs.{Gathers}
use Rattle.ips_action.specs.Check.{Meets}
use Rattle.ips_action.specs.Judging.{least, is_single, MeetsRow, KeepsRow, path_of, standing, rows_of}
use Rattle.ips_action.specs.Action.{Fields, IfTaken}
use Rattle.ips_action.specs.Meaning.{held, word_of, Means, IsSaid}
use Rattle.ips_action.proofs.One.{one_kind, one_gathered}
use Rattle.ips_action.proofs.Lines.{keys_said, is_action}
use Rattle.ips_grammar.proofs.Decided.{Decided, with_it, both, where_so, each, is_true, is_up_to}
use Rattle.ips_grammar.proofs.Checks.{meets}
use Rattle.ips_grammar.proofs.Gathering.{gather, gather_attrs, gather_gathers}
use Rattle.ips_grammar.proofs.Words.{Named, named, Payload, payload, taken, word_taken}

-- ---- rows

keeps : (path : List ℕ) (values : List (List ℕ)) (row : AttributeRow) → Decided (MeetsRow path values row)
keeps path values row =
    with_it ((least row.times ≤ length values) × ((is_single row.times ≡ true → length values ≤ 1) × AllByRecursion (Meets row.check path) values)) (MeetsRow path values row)
    (λ h. record { enough = h.0; single = h.1.0; each = h.1.1 }) (λ k. (k.enough, (k.single, k.each)))
    (both (is_up_to (least row.times) (length values)) (both (where_so (is_true (is_single row.times)) (is_up_to (length values) 1)) (each (Meets row.check path) (meets row.check path) values)))

abbrev AllKept : ActionKind → Option (List ℕ) → List Attr → Type 0
AllKept kind word attrs = AllByRecursion (KeepsRow word attrs) (rows_of kind attrs)

all_kept : (kind : ActionKind) (word : Option (List ℕ)) (attrs : List Attr) → Decided (AllKept kind word attrs)
all_kept kind word attrs = each (KeepsRow word attrs) (λ row. keeps (path_of attrs) (standing word attrs row) row) (rows_of kind attrs)

-- ---- what words say

abbrev attrs_of : ActionKind → Said → List Attr
attrs_of kind said = gather (map (held kind) said.pairs)

-- the parts of an action that the words say
abbrev Parts : Said → ActionKind → Type 0
Parts said kind = Payload (word_of said.payload) × (IfTaken kind (word_of said.payload) × AllKept kind (word_of said.payload) (attrs_of kind said))

parts : (said : Said) (kind : ActionKind) → Decided (Parts said kind)
parts said kind = both (payload (word_of said.payload)) (both (taken kind (word_of said.payload)) (all_kept kind (word_of said.payload) (attrs_of kind said)))

made : (said : Said) (text : List ℕ) (kind : ActionKind) → Says said text → said.name.text ≡ kind_name kind → Parts said kind → (a : Fields) × IsSaid said a
made said text kind says name p =
    let attrs = attrs_of kind said in
    let pairs = map (held kind) said.pairs in
    let a : Fields = record { kind = kind; payload = p.0.0; attrs = attrs } in (
      a,
      record {
        kind = name;
        payload = sym p.0.1.1;
        attrs = gather_gathers pairs;
        action = is_action kind (word_of said.payload) p.0.0 said.pairs attrs (keys_said said text says) p.1.0 (gather_attrs pairs) (gather_gathers pairs) p.1.1 p.0.1.1 p.0.1.0;
      },
    )

unmade : (said : Said) (kind : ActionKind) (a : Fields) → said.name.text ≡ kind_name kind → IsSaid said a → Parts said kind
unmade said kind a name s =
    let same : a.kind ≡ kind = one_kind a.kind kind (sym s.kind ∙ name) in
    let G : ActionKind → Type 0 = λ k. Gathers (map (held k) said.pairs) a.attrs in
    let alike : a.attrs ≡ attrs_of kind said = one_gathered (map (held kind) said.pairs) a.attrs (attrs_of kind said) s.action.ordered (gather_attrs (map (held kind) said.pairs)) (subst G same s.attrs) (gather_gathers (map (held kind) said.pairs)) in
    let word = word_of said.payload in
    let T : ActionKind → Type 0 = λ k. IfTaken k word in
    let K : ActionKind → Type 0 = λ k. AllKept k word a.attrs in
    let L : List Attr → Type 0 = λ l. AllKept kind word l in
    let W : Option (List ℕ) → Type 0 = λ w. AllKept a.kind w a.attrs in (
      (a.payload, (s.action.named, sym s.payload)),
      (subst T same (word_taken a.kind a.payload word (sym s.payload) s.action.taken), subst L alike (subst K same (subst W (sym s.payload) s.action.rows))),
    )

said_action : (said : Said) (text : List ℕ) → Says said text → Decided ((a : Fields) × IsSaid said a)
said_action said text says = go (named said.name.text)
  where
    go : Decided (Named said.name.text) → Decided ((a : Fields) × IsSaid said a)
    go (inl k) = with_it (Parts said k.0) ((a : Fields) × IsSaid said a) (made said text k.0 says k.1) (λ w. unmade said k.0 w.0 k.1 w.1) (parts said k.0)
    go (inr none) = inr (λ w. none (w.0.kind, w.1.kind))

-- ---- what a text means

same_said : (text : List ℕ) (said other : Said) (a : Fields) → said_line (read_line text) ≡ Ok said → Says other text → IsSaid other a → IsSaid said a
same_said text said other a e says is =
    let P : Said → Type 0 = λ s. IsSaid s a in subst P (sym says.2 ∙ words_only text says.0 said e says.1 says.3) is

pub means : (text : List ℕ) → Decided ((a : Fields) × Means text a)
means text = go (said_line (read_line text)) refl
  where
    go : (r : Result Said (Stop Part)) → said_line (read_line text) ≡ r → Decided ((a : Fields) × Means text a)
    go (Ok said) e =
        let says = words_found text said e in
        with_it ((a : Fields) × IsSaid said a) ((a : Fields) × Means text a)
        (λ w. (w.0, (said, says, w.1))) (λ w. (w.0, same_said text said w.1.0 w.0 e w.1.1 w.1.2)) (said_action said text says)
    go (Err s) e = inr (λ w. stopped_only text w.1.1.0 s e w.1.1.1 w.1.1.3)
