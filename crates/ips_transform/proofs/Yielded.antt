-- Parts that are an action still, and the lines of the manifest that they make up.
use Rattle.std.proofs.Common.{◌≡◌, ℕ, Bool, true, false, List, [], ◌∷◌, ◌++◌, map, Option, Some, None, refl, sym, ◌∙◌, ap, subst, inl, inr, ◌⊎◌}
use Rattle.std.specs.Prelude.{not, ◌==◌, IfOk, IfSome, IfNone, Result, Ok, Err}
use Rattle.std.specs.List.{list_all, AllByRecursion}
use Rattle.std.specs.Str.{IsUtf8}
use Rattle.std.proofs.lemmas.Bool.{true≢false}
use Rattle.ips_action.specs.Attrs.{Attr, AreAttrs, Gathers}
use Rattle.ips_action.specs.Action.{Fields, IsAction, line_text}
use Rattle.ips_action.specs.Meaning.{Means}
use Rattle.ips_manifest.specs.declared.line.Line.{Line}
use Rattle.ips_manifest.specs.Manifest.{StandsOnLine}
use Rattle.ips_transform.specs.Transformed.{ActionParts}
use Rattle.ips_transform.specs.Output.{IsFieldsOf, IsOwnLine, Yields, IsNoAction, Become, IsFirstBadResult, AreSoundParts}
use Rattle.ips_action.proofs.Lines.{keys_gathered}
use Rattle.ips_transform.proofs.Printed.{ArePrinted, one_printed}

abbrev pub fields_of : ActionParts → List Attr → Fields
fields_of parts attrs = record { kind = parts.kind; payload = parts.payload; attrs = attrs }

pub is_of : (parts : ActionParts) (attrs : List Attr) → AreAttrs attrs → Gathers parts.pairs attrs → IsFieldsOf parts (fields_of parts attrs)
is_of parts attrs ordered gathers = record { kind = refl; payload = refl; ordered = ordered; gathers = gathers }

printed_parts : (parts : ActionParts) (attrs : List Attr) → AreSoundParts parts → AreAttrs attrs → Gathers parts.pairs attrs → ArePrinted (fields_of parts attrs)
printed_parts parts attrs sound ordered gathers = record { ordered = ordered; keys = keys_gathered parts.pairs attrs sound.keys ordered gathers; named = sound.named }

printed_action : (a : Fields) → IsAction a → ArePrinted a
printed_action a h = record { ordered = h.ordered; keys = h.keys; named = h.named }

pub yields : (parts : ActionParts) (attrs : List Attr) (a : Fields) (text : List ℕ) → AreSoundParts parts → AreAttrs attrs → Gathers parts.pairs attrs → text ≡ line_text (fields_of parts attrs) → IsUtf8 text → list_all (λ b. not (b == 10)) text ≡ true
    → Means text a → line_text a ≡ text → Yields parts a
yields parts attrs a text sound ordered gathers printed utf8 single means again =
    let same : fields_of parts attrs ≡ a = one_printed (fields_of parts attrs) a (printed_parts parts attrs sound ordered gathers) (printed_action a means.2.action) (sym printed ∙ sym again) in
    record {
      of = subst (IsFieldsOf parts) same (is_of parts attrs ordered gathers);
      line = record { single = subst (λ (t : List ℕ). list_all (λ b. not (b == 10)) t ≡ true) (sym again) single; means = subst (λ (t : List ℕ). Means t a) (sym again) means };
      text = subst IsUtf8 (sym again) utf8;
    }

pub no_action : (parts : ActionParts) (attrs : List Attr) (text : List ℕ) → AreAttrs attrs → Gathers parts.pairs attrs → text ≡ line_text (fields_of parts attrs) → ((a : Fields) → Means text a → line_text a ≡ text → ⊥) → IsNoAction parts
no_action parts attrs text ordered gathers printed none =
    let b = fields_of parts attrs in
    (b, is_of parts attrs ordered gathers, λ line. none b (subst (λ (t : List ℕ). Means t b) (sym printed) line.means) (sym printed))

pub no_single : (parts : ActionParts) (attrs : List Attr) (text : List ℕ) → AreAttrs attrs → Gathers parts.pairs attrs → text ≡ line_text (fields_of parts attrs) → list_all (λ b. not (b == 10)) text ≡ false → IsNoAction parts
no_single parts attrs text ordered gathers printed broken =
    let b = fields_of parts attrs in
    (b, is_of parts attrs ordered gathers, λ line. true≢false (sym line.single ∙ ap (list_all (λ b. not (b == 10))) (sym printed) ∙ broken))

-- ---- lines

pub become_more : (done : List ActionParts) (parts : ActionParts) (lines : List Line) (a : Fields) → Become done lines → Yields parts a → Become (done ++ parts ∷ []) (lines ++ record { number = parts.number; action = a } ∷ [])
become_more [] parts lines a h y = (a, [], y, refl, ap (λ (l : List Line). l ++ record { number = parts.number; action = a } ∷ []) h)
become_more (first ∷ done) parts lines a h y =
    (h.0, h.1 ++ record { number = parts.number; action = a } ∷ [], h.2, become_more done parts h.1 a h.3 y, ap (λ (l : List Line). l ++ record { number = parts.number; action = a } ∷ []) h.4)

pub bad_behind : (done : List ActionParts) (parts : ActionParts) (others : List ActionParts) (lines : List Line) (number : ℕ) → Become done lines → number ≡ parts.number → IsNoAction parts → IsFirstBadResult (done ++ parts ∷ others) number
bad_behind [] parts others lines number h at none = inl (at, none)
bad_behind (first ∷ done) parts others lines number h at none = inr ((h.0, h.2), bad_behind done parts others h.1 number h.3 at none)

pub all_stand : (parts : List ActionParts) (lines : List Line) → Become parts lines → AllByRecursion StandsOnLine lines
all_stand [] lines h = subst (AllByRecursion StandsOnLine) (sym h) tt
all_stand (first ∷ others) lines h =
    let stands : StandsOnLine (record { number = first.number; action = h.0 }) = record { action = h.2.line.means.2.action; text = h.2.text; single = h.2.line.single } in
    subst (AllByRecursion StandsOnLine) (sym h.4) (stands, all_stand others h.1 h.3)

-- ---- as the program asks

pub some_yields : {E : Type 0} (r : Result (Option Fields) E) (parts : ActionParts) (attrs : List Attr) (text : List ℕ) → AreSoundParts parts → AreAttrs attrs → Gathers parts.pairs attrs → text ≡ line_text (fields_of parts attrs) → IsUtf8 text → list_all (λ b. not (b == 10)) text ≡ true
    → IfOk r (λ found. IfSome found (λ a. Means text a × (line_text a ≡ text))) → IfOk r (λ found. IfSome found (λ a. Yields parts a))
some_yields (Err e) parts attrs text sound ordered gathers printed utf8 single h = tt
some_yields (Ok None) parts attrs text sound ordered gathers printed utf8 single h = tt
some_yields (Ok (Some a)) parts attrs text sound ordered gathers printed utf8 single h = yields parts attrs a text sound ordered gathers printed utf8 single h.0 h.1

pub none_yields : {E : Type 0} (r : Result (Option Fields) E) (parts : ActionParts) (attrs : List Attr) (text : List ℕ) → AreAttrs attrs → Gathers parts.pairs attrs → text ≡ line_text (fields_of parts attrs)
    → IfOk r (λ found. IfNone found ((a : Fields) → Means text a → line_text a ≡ text → ⊥)) → IfOk r (λ found. IfNone found (IsNoAction parts))
none_yields (Err e) parts attrs text ordered gathers printed h = tt
none_yields (Ok None) parts attrs text ordered gathers printed h = no_action parts attrs text ordered gathers printed h
none_yields (Ok (Some a)) parts attrs text ordered gathers printed h = tt
