-- Names are read as they are written, and go wrong at the first place that no name continues.
use Rattle.std.proofs.Common.{◌≡◌, ℕ, ◌<◌, Bool, true, false, eqb, List, [], ◌∷◌, ◌++◌, length, Option, Some, None, Result, Ok, Err, refl, sym, ap, subst, ◌∙◌, append_assoc, arith, inl, inr, ◌⊎◌}
use Rattle.std.specs.Prelude.{codes}
use Rattle.std.proofs.lemmas.List.{append-nil, length-append, nil_from_length}
use Rattle.std.proofs.lemmas.Bool.{eqb-true, eqb-false, true≢false}
use Rattle.ips_text.specs.declared.refusal.Stop.{Stop}
use Rattle.ips_text.specs.Reading.{◌>>=◌, next_is, Begins, separated}
use Rattle.ips_text.specs.Quote.{fits_name}
use Rattle.ips_text.proofs.Readers.{bind_ok, bind_err, chosen, ok_is, ok_not_err}
use Rattle.ips_fmri.specs.declared.fault.Part.{Part}
use Rattle.ips_fmri.specs.declared.fault.Part.TheVariants as part
use Rattle.ips_fmri.specs.declared.fmri.Fmri.{Fmri}
use Rattle.ips_fmri.specs.declared.pattern.Pattern.{Pattern}
use Rattle.ips_fmri.specs.Version.{Parts, version_text, IfVersion, HasVersionForm}
use Rattle.ips_fmri.specs.Name.{may_go_on, IsComponent, HasStemForm, IsStem, IsPublisher}
use Rattle.ips_fmri.specs.Fmri.{version_part_text, lead_text, IsLead, IfPublisher, IsName, Writes, as_name, IsFmri, WritesFmri, fmri_text, MayFollow, EndsWithName, EndsWithPart}
use Rattle.ips_fmri.specs.Pattern.{IfAnchored, IsPattern, pattern_text}
use Rattle.ips_fmri.specs.Reading.{read_version, read_version_part, stem_at, component_at, limited, expected, read_stem, read_publisher, read_anchored, read_plain, read_name, read_fmri}
use Rattle.ips_fmri.proofs.Judges.{GoesWrong, Judges, Behind, BehindIn, MadeOf, Marked, UnlessLong, EitherWay, Literal, judges_behind, judges_made, judges_like, judges_expected, judges_limited, judges_either, judges_literal, behind_mark, not_nothing, left_of, overlap}
use Rattle.ips_fmri.proofs.Versions.{judges_version}
use Rattle.ips_fmri.proofs.Stems.{itself, ComponentFollows, StemFollows, EndsStem, Reads-component, Reads-stem, stem_follows, stem_first, begins_no_slash, letter_begins}

-- ---- behind a stem

abbrev PartLang : List ℕ → Type 0
PartLang text = (text ≡ []) ⊎ Marked 64 HasVersionForm text

abbrev WritesPart : Option Parts → List ℕ → Type 0
WritesPart v text = IfVersion v × (text ≡ version_part_text v)

part_wrong : (bytes : List ℕ) (left : ℕ) → GoesWrong HasVersionForm bytes left → GoesWrong PartLang (64 ∷ bytes) left
part_wrong bytes left h =
    let m = behind_mark 64 HasVersionForm bytes left h in
    record {
      front = m.front;
      tail = m.tail;
      parts = m.parts;
      left_is = m.left_is;
      begins = (m.begins.0, inr m.begins.1);
      no_further = λ c rest more is w. elim w [ inl none ↦ not_nothing m.front c more none | inr v ↦ m.no_further c rest more is v ];
    }

no_part : (b : ℕ) (bytes : List ℕ) → eqb b 64 ≡ false → GoesWrong PartLang (b ∷ bytes) (length (b ∷ bytes))
no_part b bytes ne = record {
  front = [];
  tail = b ∷ bytes;
  parts = refl;
  left_is = refl;
  begins = ([], inl refl);
  no_further = λ c rest more is w.
      elim w [
        | inl none ↦ absurd cc
        | inr v ↦ let same : c ≡ 64 = cc (v.1) in let first : b ≡ c = cc (is) in eqb-false b 64 ne (first ∙ same)
      ];
}

judges_part : Judges WritesPart PartLang read_version_part
unfolding read_version_part
judges_part = record {
  found = found;
  only = only;
  wrong = wrong;
  inside = inside;
  word = [];
  some = inl refl;
}
  where
    found : (text : List ℕ) (x : Option Parts) → read_version_part text ≡ Ok x → WritesPart x text
    found [] x e = subst (λ (o : Option Parts). WritesPart o []) (ok_is {E = Stop Part} None x e) (tt, refl)
    found (b ∷ bytes) x e =
        elim (chosen (eqb b 64) (read_version bytes >>= λ v. Ok (Some v)) (Err (record { kind = part.Stem; left = length (b ∷ bytes) })) (Ok x) e) [
          | inl w ↦
              let a = bind_ok (read_version bytes) (λ v. Ok (Some v)) x w.1 in
              let t = judges_version.found bytes a.0 a.1 in
              let first : b ≡ 64 = eqb-true b 64 w.0 in
              subst (λ (o : Option Parts). WritesPart o (b ∷ bytes)) (ok_is {E = Stop Part} (Some a.0) x a.2) (t.0, ap (λ (c : ℕ). c ∷ bytes) first ∙ ap (λ (l : List ℕ). 64 ∷ l) t.1)
          | inr w ↦ absurd (ok_not_err x (record { kind = part.Stem; left = length (b ∷ bytes) }) (sym w.1))
        ]

    only : (text : List ℕ) (x : Option Parts) → WritesPart x text → read_version_part text ≡ Ok x
    only text None w = ap read_version_part w.1
    only text (Some v) w = ap read_version_part w.1 ∙ ap (λ (r : Result Parts (Stop Part)). r >>= λ v. Ok (Some v)) (judges_version.only (version_text v) v (w.0, refl))

    wrong : (text : List ℕ) (s : Stop Part) → read_version_part text ≡ Err s → GoesWrong PartLang text s.left
    wrong [] s e = absurd (ok_not_err {A = Option Parts} None s e)
    wrong (b ∷ bytes) s e =
        elim (chosen (eqb b 64) (read_version bytes >>= λ v. Ok (Some v)) (Err (record { kind = part.Stem; left = length (b ∷ bytes) })) (Err s) e) [
          | inl w ↦
              elim (bind_err (read_version bytes) (λ v. Ok (Some v)) s w.1) [
                | inl e1 ↦ subst (λ (c : ℕ). GoesWrong PartLang (c ∷ bytes) s.left) (sym (eqb-true b 64 w.0)) (part_wrong bytes s.left (judges_version.wrong bytes s e1))
                | inr v ↦ absurd (ok_not_err {A = Option Parts} (Some v.0) s v.2)
              ]
          | inr w ↦ subst (GoesWrong PartLang (b ∷ bytes)) (left_of {A = Option Parts} part.Stem (length (b ∷ bytes)) s w.1) (no_part b bytes w.0)
        ]

    inside : (text : List ℕ) (x : Option Parts) → WritesPart x text → PartLang text
    inside text None w = inl w.1
    inside text (Some v) w = inr (version_text v, w.1, (v, w.0.parts, refl))

-- ---- a stem, to the end of the text

abbrev made_name : Option (List ℕ) → Bool → List ℕ → Option Parts → Pattern
made_name publisher anchored stem version = record { publisher = publisher; anchored = anchored; stem = stem; version = version }

record StemWrites (wild : Bool) (publisher : Option (List ℕ)) (anchored : Bool) (name : Pattern) (text : List ℕ) : Type 0 where
  published : name.publisher ≡ publisher
  anchors : name.anchored ≡ anchored
  stem : IsStem wild name.stem
  version : IfVersion name.version
  written : text ≡ name.stem ++ version_part_text name.version

record StemLang (wild : Bool) (text : List ℕ) : Type 0 where
  stem : List ℕ
  version : Option Parts
  form : HasStemForm wild stem
  followed : MayFollow stem version
  written : text ≡ stem ++ version_part_text version

at_ends : (wild : Bool) (rest : List ℕ) → EndsStem wild (64 ∷ rest)
at_ends false rest = record { run = refl; slash = refl }
at_ends true rest = record { run = refl; slash = refl }

part_follows : (wild : Bool) (stem text : List ℕ) → HasStemForm wild stem → UnlessLong stem PartLang text → StemFollows wild stem text
part_follows wild stem text h w =
    elim w [
      | inl none ↦ stem_follows wild stem text h (subst (EndsStem wild) (sym none) (record { run = tt; slash = refl }))
      | inr v ↦
          elim v.1 [
            | inl none ↦ stem_follows wild stem text h (subst (EndsStem wild) (sym none) (record { run = tt; slash = refl }))
            | inr m ↦ stem_follows wild stem text h (subst (EndsStem wild) (sym m.1) (at_ends wild m.0))
          ]
    ]

abbrev StemBehind : Bool → Option (List ℕ) → Bool → Pattern → List ℕ → Type 0
StemBehind wild publisher anchored = Behind itself (HasStemForm wild) (λ stem. MadeOf (made_name publisher anchored stem) (λ v text. (fits_name stem ≡ true) × WritesPart v text))

stem_to : (wild : Bool) (publisher : Option (List ℕ)) (anchored : Bool) (name : Pattern) (text : List ℕ) → StemBehind wild publisher anchored name text → StemWrites wild publisher anchored name text
stem_to wild publisher anchored name text w =
    subst (λ (n : Pattern). StemWrites wild publisher anchored n text) w.4.1
    (record { published = refl; anchors = refl; stem = record { form = w.1; short = w.4.2.0 }; version = w.4.2.1.0; written = w.3 ∙ ap (λ (l : List ℕ). w.0 ++ l) w.4.2.1.1 })

stem_from : (wild : Bool) (publisher : Option (List ℕ)) (anchored : Bool) (name : Pattern) (text : List ℕ) → StemWrites wild publisher anchored name text → StemBehind wild publisher anchored name text
stem_from wild publisher anchored name text w =
    let made : made_name publisher anchored name.stem name.version ≡ name = rw (← w.published, ← w.anchors) refl in
    (name.stem, w.stem.form, version_part_text name.version, w.written, (name.version, made, (w.stem.short, (w.version, refl))))

stem_into : (wild : Bool) (text : List ℕ) → BehindIn itself (HasStemForm wild) (λ stem. UnlessLong stem PartLang) text → StemLang wild text
stem_into wild text w =
    elim w.4 [
      | inl none ↦ record { stem = w.0; version = None; form = w.1; followed = tt; written = w.3 ∙ ap (λ (l : List ℕ). w.0 ++ l) none }
      | inr v ↦
          elim v.1 [
            | inl none ↦ record { stem = w.0; version = None; form = w.1; followed = tt; written = w.3 ∙ ap (λ (l : List ℕ). w.0 ++ l) none }
            | inr m ↦ record { stem = w.0; version = Some m.2.0; form = w.1; followed = (v.0, m.2.1); written = w.3 ∙ ap (λ (l : List ℕ). w.0 ++ l) (m.1 ∙ ap (λ (l : List ℕ). 64 ∷ l) m.2.2) }
          ]
    ]

stem_out : (wild : Bool) (text : List ℕ) → StemLang wild text → BehindIn itself (HasStemForm wild) (λ stem. UnlessLong stem PartLang) text
stem_out wild text w = go w.version w.followed w.written
  where
    go : (v : Option Parts) → MayFollow w.stem v → text ≡ w.stem ++ version_part_text v → BehindIn itself (HasStemForm wild) (λ stem. UnlessLong stem PartLang) text
    go None f e = (w.stem, w.form, [], e, inl refl)
    go (Some v) f e = (w.stem, w.form, 64 ∷ version_text v, e, inr (f.0, inr (version_text v, refl, (v, f.1, refl))))

letter_stem : (wild : Bool) → HasStemForm wild (97 ∷ [])
letter_stem wild = (letter_begins wild, refl)

judges_stem : (wild : Bool) (publisher : Option (List ℕ)) (anchored : Bool) → Judges (StemWrites wild publisher anchored) (StemLang wild) (read_stem wild publisher anchored)
unfolding read_stem
judges_stem wild publisher anchored =
    judges_like (StemWrites wild publisher anchored) (StemLang wild)
    (judges_behind itself (HasStemForm wild) (StemFollows wild) (stem_at wild)
    (λ stem. MadeOf (made_name publisher anchored stem) (λ v text. (fits_name stem ≡ true) × WritesPart v text)) (λ stem. UnlessLong stem PartLang)
    (λ stem rest. limited part.Stem stem read_version_part rest >>= λ v. Ok (made_name publisher anchored stem v))
    (Reads-stem wild)
    (λ stem h. judges_made (made_name publisher anchored stem) (λ v text. (fits_name stem ≡ true) × WritesPart v text) (UnlessLong stem PartLang) (limited part.Stem stem read_version_part) (judges_limited part.Stem stem WritesPart PartLang read_version_part judges_part))
    (part_follows wild) (97 ∷ []) (letter_stem wild))
    (stem_to wild publisher anchored) (stem_from wild publisher anchored) (stem_into wild) (stem_out wild)

-- a stem doesn't begin with `/`
no_slash_first : (wild : Bool) (text : List ℕ) → StemLang wild text → next_is 47 text ≡ false
no_slash_first wild text w =
    let f = stem_first wild w.stem w.form in
    ap (next_is 47) (w.written ∙ ap (λ (l : List ℕ). l ++ version_part_text w.version) f.2) ∙ begins_no_slash wild f.0 f.3

-- ---- behind `pkg://`

abbrev PublisherWrites : Bool → Pattern → List ℕ → Type 0
PublisherWrites wild name text = (publisher : List ℕ) × IsPublisher publisher × (rest : List ℕ) × (text ≡ publisher ++ (47 ∷ rest)) × StemWrites wild (Some publisher) true name rest

abbrev PublisherLang : Bool → List ℕ → Type 0
PublisherLang wild text = (publisher : List ℕ) × IsComponent false publisher × ((text ≡ publisher) ⊎ ((fits_name publisher ≡ true) × (rest : List ℕ) × (text ≡ publisher ++ (47 ∷ rest)) × StemLang wild rest))

slash_follows : (wild : Bool) (publisher text : List ℕ) → IsComponent false publisher → UnlessLong publisher (Marked 47 (StemLang wild)) text → ComponentFollows false publisher text
slash_follows wild publisher text h w =
    elim w [
      | inl none ↦ subst (ComponentFollows false publisher) (sym none) tt
      | inr v ↦ subst (ComponentFollows false publisher) (sym v.1.1) refl
    ]

abbrev PublisherBehind : Bool → Pattern → List ℕ → Type 0
PublisherBehind wild = Behind itself (IsComponent false) (λ publisher name text. (fits_name publisher ≡ true) × Marked 47 (StemWrites wild (Some publisher) true name) text)

publisher_to : (wild : Bool) (name : Pattern) (text : List ℕ) → PublisherBehind wild name text → PublisherWrites wild name text
publisher_to wild name text w = (w.0, record { form = w.1; short = w.4.0 }, w.4.1.0, w.3 ∙ ap (λ (l : List ℕ). w.0 ++ l) w.4.1.1, w.4.1.2)

publisher_from : (wild : Bool) (name : Pattern) (text : List ℕ) → PublisherWrites wild name text → PublisherBehind wild name text
publisher_from wild name text w = (w.0, w.1.form, 47 ∷ w.2, w.3, (w.1.short, (w.2, refl, w.4)))

publisher_into : (wild : Bool) (text : List ℕ) → BehindIn itself (IsComponent false) (λ publisher. UnlessLong publisher (Marked 47 (StemLang wild))) text → PublisherLang wild text
publisher_into wild text w =
    elim w.4 [
      | inl none ↦ (w.0, w.1, inl (w.3 ∙ ap (λ (l : List ℕ). w.0 ++ l) none ∙ append-nil w.0))
      | inr v ↦ (w.0, w.1, inr (v.0, v.1.0, w.3 ∙ ap (λ (l : List ℕ). w.0 ++ l) v.1.1, v.1.2))
    ]

publisher_out : (wild : Bool) (text : List ℕ) → PublisherLang wild text → BehindIn itself (IsComponent false) (λ publisher. UnlessLong publisher (Marked 47 (StemLang wild))) text
publisher_out wild text w =
    elim w.2 [
      | inl all ↦ (w.0, w.1, [], all ∙ sym (append-nil w.0), inl refl)
      | inr v ↦ (w.0, w.1, 47 ∷ v.1, v.2, inr (v.0, (v.1, refl, v.3)))
    ]

judges_publisher : (wild : Bool) → Judges (PublisherWrites wild) (PublisherLang wild) (read_publisher wild)
unfolding read_publisher
judges_publisher wild =
    judges_like (PublisherWrites wild) (PublisherLang wild)
    (judges_behind itself (IsComponent false) (ComponentFollows false) (component_at part.Publisher false)
    (λ publisher name text. (fits_name publisher ≡ true) × Marked 47 (StemWrites wild (Some publisher) true name) text) (λ publisher. UnlessLong publisher (Marked 47 (StemLang wild)))
    (λ publisher. limited part.Publisher publisher (expected part.Publisher 47 (read_stem wild (Some publisher) true)))
    (Reads-component part.Publisher false)
    (λ publisher h.
    judges_limited part.Publisher publisher (λ name. Marked 47 (StemWrites wild (Some publisher) true name)) (Marked 47 (StemLang wild)) (expected part.Publisher 47 (read_stem wild (Some publisher) true))
    (judges_expected part.Publisher 47 (StemWrites wild (Some publisher) true) (StemLang wild) (read_stem wild (Some publisher) true) (judges_stem wild (Some publisher) true)))
    (slash_follows wild) (97 ∷ []) (refl, refl))
    (publisher_to wild) (publisher_from wild) (publisher_into wild) (publisher_out wild)

-- ---- with and without `pkg:`

judges_anchored : (wild : Bool) → Judges (λ name. EitherWay 47 (PublisherWrites wild name) (StemWrites wild None true name)) (EitherWay 47 (PublisherLang wild) (StemLang wild)) (read_anchored wild)
unfolding read_anchored
judges_anchored wild =
    judges_either 47 (PublisherWrites wild) (StemWrites wild None true) (PublisherLang wild) (StemLang wild) (read_publisher wild) (read_stem wild None true) (judges_publisher wild) (judges_stem wild None true) (no_slash_first wild)

abbrev PlainWrites : Bool → Pattern → List ℕ → Type 0
PlainWrites wild name text = ((wild ≡ true) × Marked 47 (StemWrites wild None true name) text) ⊎ StemWrites wild None false name text

abbrev PlainLang : Bool → List ℕ → Type 0
PlainLang wild text = ((wild ≡ true) × Marked 47 (StemLang wild) text) ⊎ StemLang wild text

judges_plain : (wild : Bool) → Judges (PlainWrites wild) (PlainLang wild) (read_plain wild)
unfolding read_plain
judges_plain false =
    judges_like (PlainWrites false) (PlainLang false) (judges_stem false None false)
    (λ name text w. inr w) (λ name text w. elim w [ inl v ↦ absurd (true≢false (sym v.0)) | inr v ↦ v ])
    (λ text w. inr w) (λ text w. elim w [ inl v ↦ absurd (true≢false (sym v.0)) | inr v ↦ v ])
judges_plain true =
    judges_like (PlainWrites true) (PlainLang true)
    (judges_either 47 (StemWrites true None true) (StemWrites true None false) (StemLang true) (StemLang true) (read_stem true None true) (read_stem true None false) (judges_stem true None true) (judges_stem true None false) (no_slash_first true))
    (λ name text w. elim w [ inl v ↦ inl (refl, v) | inr v ↦ inr v ]) (λ name text w. elim w [ inl v ↦ inl v.1 | inr v ↦ inr v ])
    (λ text w. elim w [ inl v ↦ inl (refl, v) | inr v ↦ inr v ]) (λ text w. elim w [ inl v ↦ inl v.1 | inr v ↦ inr v ])

-- ---- the whole name

abbrev scheme : List ℕ
scheme = codes "pkg:"

colon_ends : (wild : Bool) → may_go_on wild 58 ≡ false
colon_ends false = refl
colon_ends true = refl

-- the stem at the front of `pkg:` is `pkg`
scheme_stem : (wild : Bool) (rest : List ℕ) → stem_at wild (scheme ++ rest) ≡ Ok (codes "pkg", 58 ∷ rest)
unfolding stem_at component_at separated
scheme_stem false rest = refl
scheme_stem true rest = refl

stem_apart : (wild : Bool) (stem : List ℕ) (v : Option Parts) (rest : List ℕ) → HasStemForm wild stem → stem ++ version_part_text v ≡ scheme ++ rest → ⊥
stem_apart wild stem None rest h e =
    let one : stem_at wild (stem ++ []) ≡ Ok (stem, []) = (Reads-stem wild).again stem [] h (stem_follows wild stem [] h (record { run = tt; slash = refl })) in
    let same : (let p : List ℕ × List ℕ = (stem, []) in p) ≡ (codes "pkg", 58 ∷ rest) = ok_is {E = Stop Part} (stem, []) (codes "pkg", 58 ∷ rest) (sym one ∙ ap (stem_at wild) e ∙ scheme_stem wild rest) in
    let none : (let l : List ℕ = [] in l) ≡ 58 ∷ rest = ap (λ (p : List ℕ × List ℕ). p.1) same in
    absurd cc
stem_apart wild stem (Some v) rest h e =
    let behind : List ℕ = 64 ∷ version_text v in
    let one : stem_at wild (stem ++ behind) ≡ Ok (stem, behind) = (Reads-stem wild).again stem behind h (stem_follows wild stem behind h (at_ends wild (version_text v))) in
    let same : (let p : List ℕ × List ℕ = (stem, behind) in p) ≡ (codes "pkg", 58 ∷ rest) = ok_is {E = Stop Part} (stem, behind) (codes "pkg", 58 ∷ rest) (sym one ∙ ap (stem_at wild) e ∙ scheme_stem wild rest) in
    let none : behind ≡ 58 ∷ rest = ap (λ (p : List ℕ × List ℕ). p.1) same in
    true≢false (ap (next_is 64) none)

plain_apart : (wild : Bool) (text rest : List ℕ) → PlainLang wild text → text ≡ scheme ++ rest → ⊥
plain_apart wild text rest w e =
    elim w [
      | inl v ↦ let same : 47 ∷ v.1.0 ≡ scheme ++ rest = sym v.1.1 ∙ e in absurd cc
      | inr v ↦ stem_apart wild v.stem v.version rest v.form (sym v.written ∙ e)
    ]

short_stem : (wild : Bool) → StemLang wild (codes "pkg")
short_stem wild = record { stem = codes "pkg"; version = None; form = (refl, refl); followed = tt; written = refl }

-- what begins `pkg:` and isn't all of it begins `pkg`, which is a stem
scheme_begun : (wild : Bool) (front rest : List ℕ) → scheme ≡ front ++ rest → 0 < length rest → Begins (PlainLang wild) front
scheme_begun wild front rest e some =
    elim (overlap front rest (codes "pkg") (58 ∷ []) (sym e)) [
      | inl w ↦
          let few : length (front ++ rest) ≡ 4 = ap length (sym e) in
          let none : w.0 ≡ [] = nil_from_length w.0 (omega (arith, few, length-append front rest, ap length w.1, length-append (codes "pkg") w.0)) in
          ([], inr (subst (StemLang wild) (sym (append-nil front ∙ w.1 ∙ ap (λ (l : List ℕ). codes "pkg" ++ l) none)) (short_stem wild)))
      | inr w ↦ (w.0, inr (subst (StemLang wild) w.1 (short_stem wild)))
    ]

abbrev NameWrites : Bool → Pattern → List ℕ → Type 0
NameWrites wild name text = Literal scheme (Marked 47 (EitherWay 47 (PublisherWrites wild name) (StemWrites wild None true name))) text ⊎ PlainWrites wild name text

abbrev NameLang : Bool → List ℕ → Type 0
NameLang wild text = Literal scheme (Marked 47 (EitherWay 47 (PublisherLang wild) (StemLang wild))) text ⊎ PlainLang wild text

judges_steps : (wild : Bool) → Judges (NameWrites wild) (NameLang wild) (read_name wild)
unfolding read_name
judges_steps wild =
    judges_literal scheme (λ name. Marked 47 (EitherWay 47 (PublisherWrites wild name) (StemWrites wild None true name))) (PlainWrites wild)
    (Marked 47 (EitherWay 47 (PublisherLang wild) (StemLang wild))) (PlainLang wild)
    (expected part.Stem 47 (read_anchored wild)) (read_plain wild)
    (judges_expected part.Stem 47 (λ name. EitherWay 47 (PublisherWrites wild name) (StemWrites wild None true name)) (EitherWay 47 (PublisherLang wild) (StemLang wild)) (read_anchored wild) (judges_anchored wild))
    (judges_plain wild) (plain_apart wild) (scheme_begun wild)

-- ---- in the words of the specification

abbrev Named : Bool → Pattern → List ℕ → Type 0
Named wild name text = IsName wild name × Writes wild name text

behind_lead : (lead stem version text rest : List ℕ) → text ≡ lead ++ rest → rest ≡ stem ++ version → text ≡ (lead ++ stem) ++ version
behind_lead lead stem version text rest e f = e ∙ ap (λ (l : List ℕ). lead ++ l) f ∙ sym (append_assoc lead stem version)

before_rest : (lead stem version text : List ℕ) → text ≡ (lead ++ stem) ++ version → text ≡ lead ++ (stem ++ version)
before_rest lead stem version text e = e ∙ append_assoc lead stem version

-- a name with a stem behind this lead
stem_named : (wild : Bool) (publisher : Option (List ℕ)) (anchored : Bool) (lead rest text : List ℕ) (name : Pattern) → IfPublisher publisher → IsLead wild publisher anchored lead → text ≡ lead ++ rest → StemWrites wild publisher anchored name rest → Named wild name text
stem_named wild publisher anchored lead rest text name p led e w = (
  record { publisher = subst IfPublisher (sym w.published) p; stem = w.stem; version = w.version },
  (
    lead,
    subst (λ (o : Option (List ℕ)). IsLead wild o name.anchored lead) (sym w.published) (subst (λ (b : Bool). IsLead wild publisher b lead) (sym w.anchors) led),
    behind_lead lead name.stem (version_part_text name.version) text rest e w.written,
  ),
)

publisher_lead : (publisher : List ℕ) (text rest : List ℕ) → text ≡ codes "pkg://" ++ (publisher ++ (47 ∷ rest)) → text ≡ (codes "pkg://" ++ publisher ++ 47 ∷ []) ++ rest
publisher_lead publisher text rest e =
    e ∙ ap (λ (l : List ℕ). codes "pkg://" ++ l) (sym (append_assoc publisher (47 ∷ []) rest)) ∙ sym (append_assoc (codes "pkg://") (publisher ++ (47 ∷ [])) rest)
    ∙ ap (λ (l : List ℕ). l ++ rest) (sym (append_assoc (codes "pkg://") publisher (47 ∷ [])))

behind_marks : (text r1 r2 r3 : List ℕ) → text ≡ scheme ++ r1 → r1 ≡ 47 ∷ r2 → r2 ≡ 47 ∷ r3 → text ≡ codes "pkg://" ++ r3
behind_marks text r1 r2 r3 e f g = e ∙ ap (λ (l : List ℕ). scheme ++ l) (f ∙ ap (λ (l : List ℕ). 47 ∷ l) g)

name_to : (wild : Bool) (name : Pattern) (text : List ℕ) → NameWrites wild name text → Named wild name text
name_to wild name text w =
    elim w [
      | inl v ↦
          elim v.2.2 [
            | inl u ↦
                let p = u.2 in
                stem_named wild (Some p.0) true (codes "pkg://" ++ p.0 ++ 47 ∷ []) p.2 text name p.1 (refl, refl) (publisher_lead p.0 text p.2 (behind_marks text v.0 v.2.0 u.0 v.1 v.2.1 u.1 ∙ ap (λ (l : List ℕ). codes "pkg://" ++ l) p.3)) p.4
            | inr u ↦ stem_named wild None true (codes "pkg:/") v.2.0 text name tt (inl refl) (v.1 ∙ ap (λ (l : List ℕ). scheme ++ l) v.2.1) u
          ]
      | inr v ↦
          elim v [
            | inl u ↦ stem_named wild None true (codes "/") u.1.0 text name tt (inr (u.0, refl)) u.1.1 u.1.2
            | inr u ↦ stem_named wild None false [] text text name tt refl refl u
          ]
    ]

-- the stem and the version of a name, behind its lead
named_stem : (wild : Bool) (publisher : Option (List ℕ)) (anchored : Bool) (name : Pattern) → name.publisher ≡ publisher → name.anchored ≡ anchored → IsName wild name → StemWrites wild publisher anchored name (name.stem ++ version_part_text name.version)
named_stem wild publisher anchored name p a h = record { published = p; anchors = a; stem = h.stem; version = h.version; written = refl }

name_from : (wild : Bool) (name : Pattern) (text : List ℕ) → Named wild name text → NameWrites wild name text
name_from wild name text w = go name.publisher name.anchored refl refl w.0.publisher w.1.1
  where
    go : (publisher : Option (List ℕ)) (anchored : Bool) → name.publisher ≡ publisher → name.anchored ≡ anchored → IfPublisher publisher → IsLead wild publisher anchored w.1.0 → NameWrites wild name text
    go None false p a h led =
        inr (inr (subst (StemWrites wild None false name) (sym (w.1.2 ∙ ap (λ (l : List ℕ). (l ++ name.stem) ++ version_part_text name.version) led)) (named_stem wild None false name p a w.0)))
    go None true p a h led =
        elim led [
          | inl is ↦
              inl (
                47 ∷ (name.stem ++ version_part_text name.version),
                before_rest (codes "pkg:/") name.stem (version_part_text name.version) text (w.1.2 ∙ ap (λ (l : List ℕ). (l ++ name.stem) ++ version_part_text name.version) is),
                (name.stem ++ version_part_text name.version, refl, inr (named_stem wild None true name p a w.0)),
              )
          | inr is ↦
              inr (
              inl (
                is.0,
                (
                  name.stem ++ version_part_text name.version,
                  before_rest (codes "/") name.stem (version_part_text name.version) text (w.1.2 ∙ ap (λ (l : List ℕ). (l ++ name.stem) ++ version_part_text name.version) is.1),
                  named_stem wild None true name p a w.0,
                ),
              )
              )
        ]
    go (Some publisher) anchored p a h led =
        let behind : List ℕ = name.stem ++ version_part_text name.version in
        let cut : text ≡ codes "pkg://" ++ (publisher ++ (47 ∷ behind))
        = before_rest (codes "pkg://" ++ publisher ++ 47 ∷ []) name.stem (version_part_text name.version) text (w.1.2 ∙ ap (λ (l : List ℕ). (l ++ name.stem) ++ version_part_text name.version) led.1)
        ∙ ap (λ (l : List ℕ). l ++ behind) (append_assoc (codes "pkg://") publisher (47 ∷ []))
        ∙ append_assoc (codes "pkg://") (publisher ++ (47 ∷ [])) behind ∙ ap (λ (l : List ℕ). codes "pkg://" ++ l) (append_assoc publisher (47 ∷ []) behind) in
        inl (
          47 ∷ (47 ∷ (publisher ++ (47 ∷ behind))),
          cut,
          (47 ∷ (publisher ++ (47 ∷ behind)), refl, inl (publisher ++ (47 ∷ behind), refl, (publisher, h, behind, refl, named_stem wild (Some publisher) true name p (a ∙ led.0) w.0))),
        )

stem_ended : (wild : Bool) (publisher : Option (List ℕ)) (anchored : Bool) (lead rest text : List ℕ) → IfPublisher publisher → IsLead wild publisher anchored lead → text ≡ lead ++ rest → StemLang wild rest → EndsWithName wild text
stem_ended wild publisher anchored lead rest text p led e w = record {
  publisher = publisher;
  anchored = anchored;
  lead = lead;
  stem = w.stem;
  version = w.version;
  published = p;
  led = led;
  form = w.form;
  followed = w.followed;
  written = behind_lead lead w.stem (version_part_text w.version) text rest e w.written;
}

name_into : (wild : Bool) (text : List ℕ) → NameLang wild text → EndsWithPart wild text
name_into wild text w =
    elim w [
      | inl v ↦
          elim v.2.2 [
            | inl u ↦
                let p = u.2 in
                let cut = behind_marks text v.0 v.2.0 u.0 v.1 v.2.1 u.1 in
                elim p.2 [
                  | inl all ↦ inl (p.0, p.1, cut ∙ ap (λ (l : List ℕ). codes "pkg://" ++ l) all)
                  | inr more ↦
                      inr (stem_ended wild (Some p.0) true (codes "pkg://" ++ p.0 ++ 47 ∷ []) more.1 text (record { form = p.1; short = more.0 }) (refl, refl) (publisher_lead p.0 text more.1 (cut ∙ ap (λ (l : List ℕ). codes "pkg://" ++ l) more.2)) more.3)
                ]
            | inr u ↦ inr (stem_ended wild None true (codes "pkg:/") v.2.0 text tt (inl refl) (v.1 ∙ ap (λ (l : List ℕ). scheme ++ l) v.2.1) u)
          ]
      | inr v ↦
          elim v [
            | inl u ↦ inr (stem_ended wild None true (codes "/") u.1.0 text tt (inr (u.0, refl)) u.1.1 u.1.2)
            | inr u ↦ inr (stem_ended wild None false [] text text tt refl refl u)
          ]
    ]

ended_stem : (wild : Bool) (text : List ℕ) (w : EndsWithName wild text) → StemLang wild (w.stem ++ version_part_text w.version)
ended_stem wild text w = record { stem = w.stem; version = w.version; form = w.form; followed = w.followed; written = refl }

ended_name : (wild : Bool) (text : List ℕ) (w : EndsWithName wild text) (publisher : Option (List ℕ)) (anchored : Bool) → IfPublisher publisher → IsLead wild publisher anchored w.lead → NameLang wild text
ended_name wild text w None false h led = inr (inr (subst (StemLang wild) (sym (w.written ∙ ap (λ (l : List ℕ). (l ++ w.stem) ++ version_part_text w.version) led)) (ended_stem wild text w)))
ended_name wild text w None true h led =
    elim led [
      | inl is ↦
          inl (
            47 ∷ (w.stem ++ version_part_text w.version),
            before_rest (codes "pkg:/") w.stem (version_part_text w.version) text (w.written ∙ ap (λ (l : List ℕ). (l ++ w.stem) ++ version_part_text w.version) is),
            (w.stem ++ version_part_text w.version, refl, inr (ended_stem wild text w)),
          )
      | inr is ↦
          inr (
          inl (
            is.0,
            (
              w.stem ++ version_part_text w.version,
              before_rest (codes "/") w.stem (version_part_text w.version) text (w.written ∙ ap (λ (l : List ℕ). (l ++ w.stem) ++ version_part_text w.version) is.1),
              ended_stem wild text w,
            ),
          )
          )
    ]
ended_name wild text w (Some publisher) anchored h led =
    let behind : List ℕ = w.stem ++ version_part_text w.version in
    let cut : text ≡ codes "pkg://" ++ (publisher ++ (47 ∷ behind))
    = before_rest (codes "pkg://" ++ publisher ++ 47 ∷ []) w.stem (version_part_text w.version) text (w.written ∙ ap (λ (l : List ℕ). (l ++ w.stem) ++ version_part_text w.version) led.1)
    ∙ ap (λ (l : List ℕ). l ++ behind) (append_assoc (codes "pkg://") publisher (47 ∷ []))
    ∙ append_assoc (codes "pkg://") (publisher ++ (47 ∷ [])) behind ∙ ap (λ (l : List ℕ). codes "pkg://" ++ l) (append_assoc publisher (47 ∷ []) behind) in
    inl (
      47 ∷ (47 ∷ (publisher ++ (47 ∷ behind))),
      cut,
      (47 ∷ (publisher ++ (47 ∷ behind)), refl, inl (publisher ++ (47 ∷ behind), refl, (publisher, h.form, inr (h.short, behind, refl, ended_stem wild text w)))),
    )

name_out : (wild : Bool) (text : List ℕ) → EndsWithPart wild text → NameLang wild text
name_out wild text ends =
    elim ends [
      | inl w ↦ inl (47 ∷ (47 ∷ w.0), w.2, (47 ∷ w.0, refl, inl (w.0, refl, (w.0, w.1, inl refl))))
      | inr w ↦ ended_name wild text w w.publisher w.anchored w.published w.led
    ]

pub judges_name : (wild : Bool) → Judges (Named wild) (EndsWithPart wild) (read_name wild)
judges_name wild = judges_like (Named wild) (EndsWithPart wild) (judges_steps wild) (name_to wild) (name_from wild) (name_into wild) (name_out wild)

-- ---- patterns

abbrev pub WritesPattern : Pattern → List ℕ → Type 0
WritesPattern p text = IsPattern p × Writes true p text

lead_anchors : (wild : Bool) (publisher : Option (List ℕ)) (anchored : Bool) (lead : List ℕ) → IsLead wild publisher anchored lead → IfAnchored publisher anchored
lead_anchors wild None anchored lead led = tt
lead_anchors wild (Some publisher) anchored lead led = led.0

pub judges_pattern : Judges WritesPattern (EndsWithPart true) (read_name true)
judges_pattern =
    judges_like WritesPattern (EndsWithPart true) (judges_name true)
    (λ p text w. (record { name = w.0; anchored = lead_anchors true p.publisher p.anchored w.1.0 w.1.1 }, w.1)) (λ p text w. (w.0.name, w.1)) (λ text w. w) (λ text w. w)

canonical_lead : (publisher : Option (List ℕ)) (anchored : Bool) → IfAnchored publisher anchored → IsLead true publisher anchored (lead_text publisher anchored)
canonical_lead None false h = refl
canonical_lead None true h = inl refl
canonical_lead (Some publisher) anchored h = (h, refl)

pub pattern_written : (p : Pattern) → IsPattern p → WritesPattern p (pattern_text p)
pattern_written p h = (h, (lead_text p.publisher p.anchored, canonical_lead p.publisher p.anchored h.anchored, refl))

-- ---- FMRIs

abbrev pub WritesName : Fmri → List ℕ → Type 0
WritesName f text = IsFmri f × WritesFmri f text

abbrev without_anchor : Pattern → Fmri
without_anchor name = record { publisher = name.publisher; stem = name.stem; version = name.version }

fmri_to : (f : Fmri) (text : List ℕ) → MadeOf without_anchor (Named false) f text → WritesName f text
fmri_to f text w = subst (λ (g : Fmri). WritesName g text) w.1 (record { publisher = w.2.0.publisher; stem = w.2.0.stem; version = w.2.0.version }, (w.0.anchored, w.2.1))

fmri_from : (f : Fmri) (text : List ℕ) → WritesName f text → MadeOf without_anchor (Named false) f text
fmri_from f text w = (as_name w.1.0 f, refl, (record { publisher = w.0.publisher; stem = w.0.stem; version = w.0.version }, w.1.1))

pub judges_fmri : Judges WritesName (EndsWithPart false) read_fmri
unfolding read_fmri
judges_fmri = judges_like WritesName (EndsWithPart false) (judges_made without_anchor (Named false) (EndsWithPart false) (read_name false) (judges_name false)) fmri_to fmri_from (λ text w. w) (λ text w. w)

plain_lead : (publisher : Option (List ℕ)) → (anchored : Bool) × IsLead false publisher anchored (lead_text publisher false)
plain_lead None = (false, refl)
plain_lead (Some publisher) = (true, (refl, refl))

pub fmri_written : (f : Fmri) → IsFmri f → WritesName f (fmri_text f)
fmri_written f h = let l = plain_lead f.publisher in (h, (l.0, (lead_text f.publisher false, l.1, refl)))
