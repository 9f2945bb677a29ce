-- The lines of the file `image`, each by its words.
use denote.Ref.{Bor}
use Rattle.std.proofs.Common.{Result, Ok, Err, IfOk, is_some, Option, Some, None, MatchOption, IfSome, IfNone, ◌≡◌, ◌⊎◌, inl, inr, ℕ, ◌+◌, ◌≤◌, ◌<◌, ◌^◌, Bool, true, false, cond, ◌||◌, eqb, List, [], ◌∷◌, ◌++◌, length, take, drop, refl, sym, ◌∙◌, ap, ap₂, subst, arith, ⊎_elim}
use Rattle.std.specs.Prelude.{codes, IsFalse, if◌then◌else◌}
use Rattle.std.specs.List.{list_all}
use Rattle.std.specs.Fmt.{decimal}
use Rattle.std.specs.Cmp.Lexicographic.{pointwise}
use Rattle.std.proofs.lemmas.Bool.{and_parts, or_parts, true≢false, false≢true}
use Rattle.std.proofs.lemmas.Bool.Decides.{nat_tests}
use Rattle.std.proofs.lemmas.Fmt.{decimal_digit, decimal_injective}
use Rattle.std.proofs.lemmas.List.{append_cancel_left, take-append-drop}
use Rattle.std.proofs.Math.Seq.{take-append_seam}
use Rattle.ips_text.specs.Path.{parts}
use Rattle.ips_text.specs.Quote.{quoted}
use Rattle.ips_text.specs.Cut.{has_byte, IsCut}
use Rattle.ips_text.specs.Reading.{OneOrMore}
use Rattle.ips_text.proofs.Cuts.{cut_once, not_cut}
use Rattle.ips_fmri.specs.Name.{IsComponent, IsStem, IsPublisher}
use Rattle.ips_index.proofs.IndexFiles.{same_line, other_line}
use Rattle.ips_records.specs.Listed.{Sole}
use Rattle.ips_records.specs.Form.{IsWord}
use Rattle.ips_records.proofs.Clear.{clear_lacks, word_clear}
use Rattle.ips_records.proofs.FileNames.{publisher_name}
use Rattle.ips_records.proofs.Joined.{is_name_byte}
use Rattle.ips_records.proofs.WordForms.{word_one}
use Rattle.ips_state.specs.declared.state.Origin.{Origin}
use Rattle.ips_state.specs.Text.{format_line, publisher_line, origin_line, variant_line, facet_line}
use Rattle.ips_load.specs.HeadLines.{actuator_line, IsFormat, IsOrigin, IsVariant, IsFacet}

-- ---- the front of a line

pub behind_front : (front bytes rest : List ℕ) → pointwise eqb (take (length front) bytes) front ≡ true → rest ≡ drop (length front) bytes → bytes ≡ front ++ rest
behind_front front bytes rest same is =
    sym (take-append-drop (length front) bytes) ∙ ap₂ (λ (a b : List ℕ). a ++ b) (same_line true (take (length front) bytes) front (sym same) refl) (sym is)

pub no_front : (front bytes : List ℕ) → pointwise eqb (take (length front) bytes) front ≡ false → (rest : List ℕ) → bytes ≡ front ++ rest → ⊥
no_front front bytes other rest e = other_line false (take (length front) bytes) front (sym other) refl (ap (take (length front)) e ∙ take-append_seam front rest)

-- what is found behind the front, and what where nothing is
pub found_behind : (r : Option (Bor (List ℕ))) (front bytes : List ℕ)
    → MatchOption r (pointwise eqb (take (length front) bytes) front ≡ false) (λ x. (pointwise eqb (take (length front) bytes) front ≡ true) × (x.now ≡ drop (length front) bytes) × (length x.now + length front ≡ length bytes))
    → IfSome r (λ x. bytes ≡ front ++ x.now)
found_behind None front bytes h = tt
found_behind (Some x) front bytes h = behind_front front bytes x.now h.0 h.1

pub none_behind : (r : Option (Bor (List ℕ))) (front bytes : List ℕ)
    → MatchOption r (pointwise eqb (take (length front) bytes) front ≡ false) (λ x. (pointwise eqb (take (length front) bytes) front ≡ true) × (x.now ≡ drop (length front) bytes) × (length x.now + length front ≡ length bytes))
    → IfNone r ((rest : List ℕ) → bytes ≡ front ++ rest → ⊥)
none_behind None front bytes h = no_front front bytes h
none_behind (Some x) front bytes h = tt

-- ---- publishers

lacks_name : (c b : ℕ) → (c ≡ 47) ⊎ (c < 37) → is_name_byte b ≡ true → eqb b c ≡ false
lacks_name c b (inl e) h = grind (arith, nat_tests)
lacks_name c b (inr lt) h = grind (arith, nat_tests)

names_lack : (c : ℕ) (bytes : List ℕ) → (c ≡ 47) ⊎ (c < 37) → list_all is_name_byte bytes ≡ true → has_byte c bytes ≡ false
names_lack c [] which h = refl
names_lack c (b ∷ bytes) which h = let w = and_parts (is_name_byte b) (list_all is_name_byte bytes) h in rw (lacks_name c b which w.0, names_lack c bytes which w.1) refl

pub publisher_lacks : (c : ℕ) (p : List ℕ) → (c ≡ 47) ⊎ (c < 37) → IsPublisher p → has_byte c p ≡ false
publisher_lacks c p which h = names_lack c p which (publisher_name p h).bytes

one_part : (s : List ℕ) → has_byte 47 s ≡ false → parts s ≡ s ∷ []
one_part [] h = refl
one_part (b ∷ s) h = let w = or_parts (eqb b 47) (has_byte 47 s) h in rw (w.0, one_part s w.1) refl

-- a stem of one part is a publisher, and a publisher is one
pub stem_publisher : (s : List ℕ) → IsStem false s → has_byte 47 s ≡ false → IsPublisher s
stem_publisher s h lacks = record { form = subst (OneOrMore (IsComponent false)) (one_part s lacks) h.form; short = h.short }

pub publisher_stem : (p : List ℕ) → IsPublisher p → IsStem false p
publisher_stem p h = record { form = subst (OneOrMore (IsComponent false)) (sym (one_part p (publisher_lacks 47 p (inl refl) h))) h.form; short = h.short }

pub no_slash : (bytes first rest : List ℕ) → IsCut 47 bytes first rest → IsPublisher bytes → ⊥
no_slash bytes first rest c h = not_cut 47 bytes first rest (publisher_lacks 47 bytes (inl refl) h) c.parts

-- ---- what one front gives

module _ {A : Type 0} (front : List ℕ) (value : A → List ℕ) (Fits : A → Type 0) where
  -- the one value behind the front is that of the line
  pub front_sole : (x : A) → ((y : A) → Fits y → value y ≡ value x → y ≡ x) → Fits x → Sole (λ (y : A). front ++ value y) Fits x
  front_sole x one fits = record { fits = fits; alone = λ y h e. one y h (append_cancel_left front (value y) (value x) e) }

  pub front_none : (bytes : List ℕ) → ((rest : List ℕ) → bytes ≡ front ++ rest → ⊥) → (y : A) → Fits y → front ++ value y ≡ bytes → ⊥
  front_none bytes none y h e = none (value y) (sym e)

  -- what is not the value of the rest is not that of the line
  pub rest_none : (bytes rest : List ℕ) → bytes ≡ front ++ rest → ((y : A) → Fits y → value y ≡ rest → ⊥) → (y : A) → Fits y → front ++ value y ≡ bytes → ⊥
  rest_none bytes rest is none y h e = none y h (append_cancel_left front (value y) rest (e ∙ is))

-- ---- formats

format_small : (n : ℕ) → IsFormat n → n < 2 ^ 64
format_small n (inl e) = rw e (omega arith)
format_small n (inr e) = rw e (omega arith)

pub format_one : (n m : ℕ) → IsFormat n → IsFormat m → format_line n ≡ format_line m → n ≡ m
format_one n m hn hm e = decimal_injective n m (format_small n hn) (format_small m hm) (append_cancel_left (codes "image ") (decimal n) (decimal m) e)

pub first_text : codes "image 1" ≡ format_line 1
first_text = sym (ap (λ (d : List ℕ). codes "image " ++ d) (decimal_digit 1 (omega arith)))

pub second_text : codes "image 2" ≡ format_line 2
second_text = sym (ap (λ (d : List ℕ). codes "image " ++ d) (decimal_digit 2 (omega arith)))

pub no_format : (bytes : List ℕ) → (bytes ≡ codes "image 1" → ⊥) → (bytes ≡ codes "image 2" → ⊥) → (n : ℕ) → IsFormat n → format_line n ≡ bytes → ⊥
no_format bytes one two n (inl is) e = one (sym (first_text ∙ ap format_line (sym is) ∙ e))
no_format bytes one two n (inr is) e = two (sym (second_text ∙ ap format_line (sym is) ∙ e))

-- ---- origins

-- what stands behind the name of an origin
abbrev pub bound : Bool → List ℕ
bound sticky = if sticky then codes "sticky" else codes "free"

-- what stands behind the front of its line
abbrev pub origin_value : Origin → List ℕ
origin_value o = o.name ++ 32 ∷ bound o.sticky

bound_one : (a b : Bool) → bound a ≡ bound b → a ≡ b
bound_one true true e = refl
bound_one true false e = absurd cc
bound_one false true e = absurd cc
bound_one false false e = refl

origin_same : (a b : List ℕ) (s t : Bool) → a ≡ b → s ≡ t → (let o : Origin = record { name = a; sticky = s } in o) ≡ (let o : Origin = record { name = b; sticky = t } in o)
origin_same a b s t ea es = rw (ea, es) refl

pub origin_cut : (o : Origin) (rest first second : List ℕ) → IsOrigin o → IsCut 32 rest first second → origin_value o ≡ rest → (o.name ≡ first) × (bound o.sticky ≡ second)
origin_cut o rest first second h c e = cut_once 32 o.name (bound o.sticky) first second (publisher_lacks 32 o.name (inr (omega arith)) h) c.first_lacks (e ∙ c.parts)

pub origin_one : (o p : Origin) → IsOrigin o → IsOrigin p → origin_value o ≡ origin_value p → o ≡ p
origin_one o p ho hp e =
    let w = cut_once 32 o.name (bound o.sticky) p.name (bound p.sticky) (publisher_lacks 32 o.name (inr (omega arith)) ho) (publisher_lacks 32 p.name (inr (omega arith)) hp) e in
    origin_same o.name p.name o.sticky p.sticky w.0 (bound_one o.sticky p.sticky w.1)

pub unbound : (second : List ℕ) → (second ≡ codes "sticky" → ⊥) → (second ≡ codes "free" → ⊥) → (b : Bool) → bound b ≡ second → ⊥
unbound second stays leaves true e = stays (sym e)
unbound second stays leaves false e = leaves (sym e)

-- ---- variants and facets

abbrev pub variant_value : List ℕ × List ℕ → List ℕ
variant_value v = quoted v.0 ++ 32 ∷ quoted v.1

abbrev pub switch : Bool → List ℕ
switch on = if on then codes "true" else codes "false"

abbrev pub facet_value : List ℕ × Bool → List ℕ
facet_value f = quoted f.0 ++ 32 ∷ switch f.1

switch_one : (a b : Bool) → switch a ≡ switch b → a ≡ b
switch_one true true e = refl
switch_one true false e = absurd cc
switch_one false true e = absurd cc
switch_one false false e = refl

pub unswitched : (second : List ℕ) → (second ≡ codes "true" → ⊥) → (second ≡ codes "false" → ⊥) → (b : Bool) → switch b ≡ second → ⊥
unswitched second up down true e = up (sym e)
unswitched second up down false e = down (sym e)

-- a quoted word and what stands behind the blank
pub word_cut : (w behind rest first second : List ℕ) → IsWord w → IsCut 32 rest first second → quoted w ++ 32 ∷ behind ≡ rest → (quoted w ≡ first) × (behind ≡ second)
word_cut w behind rest first second h c e = cut_once 32 (quoted w) behind first second (clear_lacks 32 (quoted w) (omega arith) (word_clear w h)) c.first_lacks (e ∙ c.parts)

pub variant_one : (v w : List ℕ × List ℕ) → IsVariant v → IsVariant w → variant_value v ≡ variant_value w → v ≡ w
variant_one v w hv hw e =
    let c = cut_once 32 (quoted v.0) (quoted v.1) (quoted w.0) (quoted w.1) (clear_lacks 32 (quoted v.0) (omega arith) (word_clear v.0 hv.0)) (clear_lacks 32 (quoted w.0) (omega arith) (word_clear w.0 hw.0)) e in
    ap₂ (λ (a b : List ℕ). (a, b)) (word_one v.0 w.0 hv.0 hw.0 c.0) (word_one v.1 w.1 hv.1 hw.1 c.1)

pub facet_one : (f g : List ℕ × Bool) → IsFacet f → IsFacet g → facet_value f ≡ facet_value g → f ≡ g
facet_one f g hf hg e =
    let c = cut_once 32 (quoted f.0) (switch f.1) (quoted g.0) (switch g.1) (clear_lacks 32 (quoted f.0) (omega arith) (word_clear f.0 hf)) (clear_lacks 32 (quoted g.0) (omega arith) (word_clear g.0 hg)) e in
    ap₂ (λ (a : List ℕ) (b : Bool). (a, b)) (word_one f.0 g.0 hf hg c.0) (switch_one f.1 g.1 c.1)

-- a line of two parts is written again
pub two_parts : (front bytes rest first second : List ℕ) → bytes ≡ front ++ rest → IsCut 32 rest first second → front ++ (first ++ 32 ∷ second) ≡ bytes
two_parts front bytes rest first second is c = sym (is ∙ ap (λ (l : List ℕ). front ++ l) c.parts)

-- ---- publishers, found

pub cut_no_publisher : (r : Option (Bor (List ℕ) × Bor (List ℕ))) (bytes : List ℕ) → is_some r ≡ true → IfSome r (λ x. IsCut 47 bytes x.0.now x.1.now) → (p : List ℕ) → IsPublisher p → p ≡ bytes → ⊥
cut_no_publisher None bytes some cut p h e = false≢true some
cut_no_publisher (Some x) bytes some cut p h e = no_slash bytes x.0.now x.1.now cut (subst IsPublisher e h)

uncut : (r : Option (Bor (List ℕ) × Bor (List ℕ))) (bytes : List ℕ) → is_some r ≡ false → IfNone r (IsFalse (has_byte 47 bytes)) → has_byte 47 bytes ≡ false
uncut None bytes none lacks = lacks
uncut (Some x) bytes none lacks = absurd (true≢false none)

pub stems_publish : {E : Type 0} (r : Option (Bor (List ℕ) × Bor (List ℕ))) (found : Result (Option (List ℕ)) E) (bytes : List ℕ) → is_some r ≡ false → IfNone r (IsFalse (has_byte 47 bytes))
    → IfOk found (λ o. IfSome o (Sole (λ (s : List ℕ). s) (IsStem false))) → IfOk found (λ o. IfSome o (λ s. s ≡ bytes)) → IfOk found (λ o. IfSome o (Sole (λ (p : List ℕ). p) IsPublisher))
stems_publish r (Err e) bytes none lacks sole is = tt
stems_publish r (Ok None) bytes none lacks sole is = tt
stems_publish r (Ok (Some s)) bytes none lacks sole is = record { fits = stem_publisher s sole.fits (ap (has_byte 47) is ∙ uncut r bytes none lacks); alone = λ other o e. e }

pub no_stem_publishes : {E : Type 0} (found : Result (Option (List ℕ)) E) (bytes : List ℕ) → IfOk found (λ o. IfNone o ((s : List ℕ) → IsStem false s → s ≡ bytes → ⊥))
    → IfOk found (λ o. IfNone o ((p : List ℕ) → IsPublisher p → p ≡ bytes → ⊥))
no_stem_publishes (Err e) bytes none = tt
no_stem_publishes (Ok None) bytes none = λ p h e. none p (publisher_stem p h) e
no_stem_publishes (Ok (Some s)) bytes none = tt

-- ---- what was found behind a front

module _ {E : Type 0} (front : List ℕ) (value : List ℕ → List ℕ) (Fits : List ℕ → Type 0) where
  pub found_sole : (r : Result (Option (List ℕ)) E) → IfOk r (λ o. IfSome o (Sole value Fits)) → IfOk r (λ o. IfSome o (Sole (λ (y : List ℕ). front ++ value y) Fits))
  found_sole (Err e) sole = tt
  found_sole (Ok None) sole = tt
  found_sole (Ok (Some x)) sole = front_sole front value Fits x sole.alone sole.fits

  pub found_written : (r : Result (Option (List ℕ)) E) (bytes rest : List ℕ) → bytes ≡ front ++ rest → IfOk r (λ o. IfSome o (λ x. value x ≡ rest)) → IfOk r (λ o. IfSome o (λ x. front ++ value x ≡ bytes))
  found_written (Err e) bytes rest is written = tt
  found_written (Ok None) bytes rest is written = tt
  found_written (Ok (Some x)) bytes rest is written = ap (λ (l : List ℕ). front ++ l) written ∙ sym is

  pub found_none : (r : Result (Option (List ℕ)) E) (bytes rest : List ℕ) → bytes ≡ front ++ rest → IfOk r (λ o. IfNone o ((x : List ℕ) → Fits x → value x ≡ rest → ⊥)) → IfOk r (λ o. IfNone o ((x : List ℕ) → Fits x → front ++ value x ≡ bytes → ⊥))
  found_none (Err e) bytes rest is none = tt
  found_none (Ok None) bytes rest is none = rest_none front value Fits bytes rest is none
  found_none (Ok (Some x)) bytes rest is none = tt
