-- The file `image` and the history have one text each.
use Rattle.std.proofs.Common.{◌≡◌, inl, inr, ℕ, Bool, true, false, eqb, List, [], ◌∷◌, ◌++◌, map, Option, Some, None, refl, sym, ◌∙◌, ap, arith}
use Rattle.std.specs.Prelude.{codes}
use Rattle.std.specs.List.{AllByRecursion, flat_map}
use Rattle.std.proofs.lemmas.Bool.{eqb-false}
use Rattle.std.proofs.lemmas.Grind.{flat_map-append}
use Rattle.std.proofs.lemmas.List.{append_cancel_left, append-nil}
use Rattle.std.proofs.lemmas.List.Concat.{flat_map-cons}
use Rattle.ips_text.specs.Cut.{has_byte}
use Rattle.ips_text.specs.Quote.{quoted}
use Rattle.ips_text.proofs.Cuts.{lacks_append}
use Rattle.ips_records.specs.Form.{IsWord, IsRequestLine}
use Rattle.ips_records.specs.Lines.{lines_text}
use Rattle.ips_records.proofs.Apart.{texts_apart}
use Rattle.ips_records.proofs.Clear.{clear_lacks, stamp_clear, word_clear}
use Rattle.ips_records.proofs.WordForms.{word_one}
use Rattle.ips_fmri.specs.Version.{stamp_text}
use Rattle.ips_state.specs.declared.state.Origin.{Origin}
use Rattle.ips_state.specs.State.{Head}
use Rattle.ips_state.specs.Text.{head_lines}
use Rattle.ips_state.specs.Lawful.{IsHead}
use Rattle.ips_load.specs.declared.head_lines.HeadLine.{HeadLine}
use Rattle.ips_load.specs.declared.head_lines.HeadLine.TheVariants as line
use Rattle.ips_load.specs.HeadLines.{actuator_in, actuator_items, facet_in, facet_item, first_word, head_items, head_line_text, IsFormat, IsHeadLine, origin_in, tail_items, variant_in, variant_item}
use Rattle.ips_load.proofs.FileKinds.{same_list}
use Rattle.ips_load.proofs.HeadSections.{heading_fits, heading_text}
use Rattle.ips_load.proofs.HeadWords.{facet_one, facet_value, first_text, format_one, origin_one, origin_value, publisher_lacks, second_text, switch, variant_one, variant_value}

-- ---- a line has one meaning

abbrev first : List ℕ → ℕ
first [] = 0
first (b ∷ bytes) = b

apart : (x y : HeadLine) → eqb (first (head_line_text x)) (first (head_line_text y)) ≡ false → head_line_text x ≡ head_line_text y → ⊥
apart x y off e = eqb-false (first (head_line_text x)) (first (head_line_text y)) off (ap first e)

line_one : (x y : HeadLine) → IsHeadLine x → IsHeadLine y → head_line_text x ≡ head_line_text y → x ≡ y
line_one (line.Format n) (line.Format m) hx hy e = ap (λ (k : ℕ). line.Format k) (format_one n m hx hy e)
line_one (line.Format n) y hx hy e = absurd (apart (line.Format n) y refl e)
line_one (line.Publisher p) (line.Publisher q) hx hy e = ap (λ (k : List ℕ). line.Publisher k) (append_cancel_left (codes "publisher ") p q e)
line_one (line.Publisher p) y hx hy e = absurd (apart (line.Publisher p) y refl e)
line_one (line.Origin o) (line.Origin p) hx hy e = ap (λ (k : Origin). line.Origin k) (origin_one o p hx hy (append_cancel_left (codes "origin ") (origin_value o) (origin_value p) e))
line_one (line.Origin o) y hx hy e = absurd (apart (line.Origin o) y refl e)
line_one (line.Actuator v) (line.Actuator w) hx hy e = ap (λ (k : List ℕ). line.Actuator k) (word_one v w hx hy (append_cancel_left (codes "actuator ") (quoted v) (quoted w) e))
line_one (line.Actuator v) y hx hy e = absurd (apart (line.Actuator v) y refl e)
line_one (line.Variant n v) (line.Variant m w) hx hy e =
    ap (λ (p : List ℕ × List ℕ). line.Variant p.0 p.1) (variant_one (n, v) (m, w) hx hy (append_cancel_left (codes "variant ") (variant_value (n, v)) (variant_value (m, w)) e))
line_one (line.Variant n v) y hx hy e = absurd (apart (line.Variant n v) y refl e)
line_one (line.Facet p on) (line.Facet q off) hx hy e =
    ap (λ (f : List ℕ × Bool). line.Facet f.0 f.1) (facet_one (p, on) (q, off) hx hy (append_cancel_left (codes "facet ") (facet_value (p, on)) (facet_value (q, off)) e))
line_one (line.Facet p on) y hx hy e = absurd (apart (line.Facet p on) y refl e)

-- ---- it is one line

word_single : (w : List ℕ) → IsWord w → has_byte 10 (quoted w) ≡ false
word_single w h = clear_lacks 10 (quoted w) (omega arith) (word_clear w h)

format_single : (n : ℕ) → IsFormat n → has_byte 10 (head_line_text (line.Format n)) ≡ false
format_single n (inl e) = ap (λ (k : ℕ). has_byte 10 (head_line_text (line.Format k))) e ∙ ap (has_byte 10) (sym first_text)
format_single n (inr e) = ap (λ (k : ℕ). has_byte 10 (head_line_text (line.Format k))) e ∙ ap (has_byte 10) (sym second_text)

origin_single : (name : List ℕ) (sticky : Bool) → has_byte 10 name ≡ false → has_byte 10 (origin_value (record { name = name; sticky = sticky })) ≡ false
origin_single name true h = lacks_append 10 name (32 ∷ codes "sticky") h refl
origin_single name false h = lacks_append 10 name (32 ∷ codes "free") h refl

switch_single : (on : Bool) → has_byte 10 (switch on) ≡ false
switch_single true = refl
switch_single false = refl

pub line_single : (x : HeadLine) → IsHeadLine x → has_byte 10 (head_line_text x) ≡ false
line_single (line.Format n) h = format_single n h
line_single (line.Publisher p) h = lacks_append 10 (codes "publisher ") p refl (publisher_lacks 10 p (inr (omega arith)) h)
line_single (line.Origin o) h = lacks_append 10 (codes "origin ") (origin_value o) refl (origin_single o.name o.sticky (publisher_lacks 10 o.name (inr (omega arith)) h))
line_single (line.Actuator w) h = lacks_append 10 (codes "actuator ") (quoted w) refl (word_single w h)
line_single (line.Variant n v) h = lacks_append 10 (codes "variant ") (variant_value (n, v)) refl (lacks_append 10 (quoted n) (32 ∷ quoted v) (word_single n h.0) (word_single v h.1))
line_single (line.Facet p on) h = lacks_append 10 (codes "facet ") (facet_value (p, on)) refl (lacks_append 10 (quoted p) (32 ∷ switch on) (word_single p h) (switch_single on))

-- ---- what the lines say

kept_all : {A : Type 0} (f : A → HeadLine) (g : HeadLine → List A) → ((x : A) → g (f x) ≡ x ∷ []) → (xs : List A) → flat_map g (map f xs) ≡ xs
kept_all f g one [] = refl
kept_all f g one (x ∷ xs) = flat_map-cons g (f x) (map f xs) ∙ rw (one x, kept_all f g one xs) refl

none_of : {A B : Type 0} (f : A → HeadLine) (g : HeadLine → List B) → ((x : A) → g (f x) ≡ []) → (xs : List A) → flat_map g (map f xs) ≡ []
none_of f g none [] = refl
none_of f g none (x ∷ xs) = flat_map-cons g (f x) (map f xs) ∙ rw (none x, none_of f g none xs) refl

abbrev words_in : Option (List ℕ) → List (List ℕ)
words_in None = []
words_in (Some w) = w ∷ []

actuator_mapped : (w : Option (List ℕ)) → actuator_items w ≡ map (λ (v : List ℕ). line.Actuator v) (words_in w)
actuator_mapped None = refl
actuator_mapped (Some w) = refl

word_kept : (w : Option (List ℕ)) → first_word (words_in w) ≡ w
word_kept None = refl
word_kept (Some w) = refl

-- what is told of the sections of a heading, one after another
by_sections : {B : Type 0} (g : HeadLine → List B) (h : Head) → flat_map g (tail_items h)
    ≡ flat_map g (map line.Origin h.origins) ++ flat_map g (map (λ (v : List ℕ). line.Actuator v) (words_in h.actuator)) ++ flat_map g (map variant_item h.settings.variants) ++ flat_map g (map facet_item h.settings.facets)
by_sections {B = B} g h =
    let os = map line.Origin h.origins in
    let ws = actuator_items h.actuator in
    let vs = map variant_item h.settings.variants in
    let fs = map facet_item h.settings.facets in
    flat_map-append g (os ++ ws ++ vs) fs ∙ ap (λ (l : List B). l ++ flat_map g fs) (flat_map-append g (os ++ ws) vs) ∙ ap (λ (l : List B). l ++ flat_map g vs ++ flat_map g fs) (flat_map-append g os ws)
    ∙ ap (λ (l : List HeadLine). flat_map g os ++ flat_map g l ++ flat_map g vs ++ flat_map g fs) (actuator_mapped h.actuator)

words_said : (h : Head) → flat_map actuator_in (tail_items h) ≡ words_in h.actuator
words_said h =
    by_sections actuator_in h ∙ rw (none_of line.Origin actuator_in (λ o. refl) h.origins, kept_all (λ (v : List ℕ). line.Actuator v) actuator_in (λ w. refl) (words_in h.actuator), none_of variant_item actuator_in (λ v. refl) h.settings.variants, none_of facet_item actuator_in (λ f. refl) h.settings.facets)
    (append-nil (words_in h.actuator ++ []) ∙ append-nil (words_in h.actuator))

variants_said : (h : Head) → flat_map variant_in (tail_items h) ≡ h.settings.variants
variants_said h =
    by_sections variant_in h ∙ rw (none_of line.Origin variant_in (λ o. refl) h.origins, none_of (λ (v : List ℕ). line.Actuator v) variant_in (λ w. refl) (words_in h.actuator), kept_all variant_item variant_in (λ v. refl) h.settings.variants, none_of facet_item variant_in (λ f. refl) h.settings.facets)
    (append-nil h.settings.variants)

facets_said : (h : Head) → flat_map facet_in (tail_items h) ≡ h.settings.facets
facets_said h =
    by_sections facet_in h ∙ rw (none_of line.Origin facet_in (λ o. refl) h.origins, none_of (λ (v : List ℕ). line.Actuator v) facet_in (λ w. refl) (words_in h.actuator), none_of variant_item facet_in (λ v. refl) h.settings.variants, kept_all facet_item facet_in (λ f. refl) h.settings.facets) refl

same_head : (a b : Head) → a.format ≡ b.format → a.publisher ≡ b.publisher → a.origins ≡ b.origins → a.actuator ≡ b.actuator → a.settings.variants ≡ b.settings.variants → a.settings.facets ≡ b.settings.facets → a ≡ b
same_head a b f p o w v c = λ j. record { format = f j; publisher = p j; origins = o j; actuator = w j; settings = record { variants = v j; facets = c j } }

tails_said : (a b : Head) → a.format ≡ b.format → a.publisher ≡ b.publisher → tail_items a ≡ tail_items b → a ≡ b
tails_said a b f p e =
    same_head a b f p (sym (origins_said a) ∙ ap (flat_map origin_in) e ∙ origins_said b) (sym (word_kept a.actuator) ∙ ap first_word (sym (words_said a) ∙ ap (flat_map actuator_in) e ∙ words_said b) ∙ word_kept b.actuator)
    (sym (variants_said a) ∙ ap (flat_map variant_in) e ∙ variants_said b) (sym (facets_said a) ∙ ap (flat_map facet_in) e ∙ facets_said b)
  where
    origins_said : (h : Head) → flat_map origin_in (tail_items h) ≡ h.origins
    origins_said h =
        by_sections origin_in h ∙ rw (kept_all line.Origin origin_in (λ o. refl) h.origins, none_of (λ (v : List ℕ). line.Actuator v) origin_in (λ w. refl) (words_in h.actuator), none_of variant_item origin_in (λ v. refl) h.settings.variants, none_of facet_item origin_in (λ f. refl) h.settings.facets)
        (append-nil ((h.origins ++ []) ++ []) ∙ append-nil (h.origins ++ []) ∙ append-nil h.origins)

abbrev format_in : List HeadLine → ℕ
format_in (line.Format n ∷ xs) = n
format_in xs = 0

abbrev publisher_in : List HeadLine → List ℕ
publisher_in (f ∷ line.Publisher p ∷ xs) = p
publisher_in xs = []

abbrev behind_two : List HeadLine → List HeadLine
behind_two (f ∷ p ∷ xs) = xs
behind_two xs = xs

pub head_one : (a b : Head) → IsHead a → IsHead b → lines_text (head_lines a) ≡ lines_text (head_lines b) → a ≡ b
head_one a b ha hb e =
    let same = texts_apart head_line_text IsHeadLine line_one line_single (head_items a) (head_items b) (heading_fits a ha) (heading_fits b hb) (ap lines_text (heading_text a) ∙ e ∙ sym (ap lines_text (heading_text b))) in
    tails_said a b (ap format_in same) (ap publisher_in same) (ap behind_two same)

-- ---- requests

-- words, each behind a blank
abbrev behind_blanks : List (List ℕ) → List ℕ
behind_blanks ws = flat_map (λ (word : List ℕ). 32 ∷ quoted word) ws

words_single : (ws : List (List ℕ)) → AllByRecursion IsWord ws → has_byte 10 (behind_blanks ws) ≡ false
words_single [] all = refl
words_single (w ∷ ws) all =
    ap (has_byte 10) (flat_map-cons (λ (word : List ℕ). 32 ∷ quoted word) w ws) ∙ lacks_append 10 (32 ∷ quoted w) (behind_blanks ws) (word_single w all.0) (words_single ws all.1)

pub request_single : (s : List ℕ) → IsRequestLine s → has_byte 10 s ≡ false
request_single s h = ap (has_byte 10) h.written ∙ lacks_append 10 (stamp_text h.moment) (behind_blanks h.words) (clear_lacks 10 (stamp_text h.moment) (omega arith) (stamp_clear h.moment)) (words_single h.words h.each)

pub history_one : (a b : List (List ℕ)) → AllByRecursion IsRequestLine a → AllByRecursion IsRequestLine b → lines_text a ≡ lines_text b → a ≡ b
history_one a b ha hb e = texts_apart (λ (s : List ℕ). s) IsRequestLine (λ x y hx hy same. same) request_single a b ha hb (ap lines_text (same_list a) ∙ e ∙ sym (ap lines_text (same_list b)))
