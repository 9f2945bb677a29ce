-- The text of a refutation is read as it is spelled.
use Rattle.std.proofs.Common.{◌≡◌, ℕ, suc, ◌+◌, ◌<◌, Bool, true, false, List, [], ◌∷◌, ◌++◌, length, map, get_or, All, Result, Ok, Err, refl, sym, ap, subst, ◌∙◌, append_assoc, arith, eqb, eqb-true, true≢false}
use Rattle.std.proofs.lemmas.List.{append-nil, length-append, append_cancel_left, nil_from_length, map-append, length-map}
use Rattle.std.proofs.lemmas.List.Elements.{All-cons, All-append, All-tail}
use Rattle.std.proofs.lemmas.List.Concat.{flat_map-cons}
use Rattle.std.proofs.lemmas.Grind.{flat_map-append}
use Rattle.std.specs.List.{flat_map}
use Rattle.ips_text.specs.declared.refusal.Or.{Or}
use Rattle.ips_text.specs.declared.refusal.Or.TheVariants.{Bad, OutOfMemory}
use Rattle.ips_text.specs.Reading.{Fails, IfBad, via}
use Rattle.ips_text.proofs.Readers.{ok_is, ok_not_err, err_same}
use Rattle.ips_refute.specs.declared.nogoods.Nogood.{Nogood}
use Rattle.ips_refute.specs.declared.reading.BadLine.{BadLine}
use Rattle.ips_refute.specs.Text.{RefutationEntry, Written, IsEntry, IsWritten, IsTextOf, IsBadEntry, IsBadLine, entry_of, entries, entry_text, header, line_text, meant, refutation_text, runs_text, set_text, bar, written, written_text}
use Rattle.std.specs.Fmt.{decimal}
use Rattle.ips_refute.specs.Reading.{entry_at, fields_at, line_at, numbered, written_from}
use Rattle.ips_refute.proofs.Scanners.{Stopped}
use Rattle.ips_refute.proofs.Lines.{Scans-line, line_read, line_again}
use Rattle.ips_refute.proofs.InRuns.{meant_good, written_back, written_good}

abbrev LineRead : Type 0
LineRead = Written × List ℕ

-- a line has a byte
line_some : (w : Written) → 0 < length (line_text w)
line_some w = omega (arith, length-append (set_text w.set ++ bar ++ decimal w.stem ++ bar ++ runs_text w.runs) (10 ∷ []))

module _ (counts : Bool) where
  -- two lines in front of the same bytes are one
  one_line : (v w : Written) (x y : List ℕ) → IsWritten counts v → IsWritten counts w → line_text v ++ x ≡ line_text w ++ y → (v ≡ w) × (x ≡ y)
  one_line v w x y hv hw eq =
      let read = via written_from (fields_at counts) in
      let a : read (line_text v ++ x) ≡ Ok (v, x) = (Scans-line counts).again v x hv tt in
      let b : read (line_text w ++ y) ≡ Ok (w, y) = (Scans-line counts).again w y hw tt in
      let left : LineRead = (v, x) in
      let right : LineRead = (w, y) in
      let same : left ≡ right = ok_is {E = Stopped} left right (sym a ∙ ap read eq ∙ b) in
      (ap (λ (p : LineRead). p.0) same, ap (λ (p : LineRead). p.1) same)

  -- all lines of a text that begins with some are these and more
  behind_lines : (front ws : List Written) (rest : List ℕ) → All (IsWritten counts) front → All (IsWritten counts) ws → flat_map line_text ws ≡ flat_map line_text front ++ rest
      → (more : List Written) × (ws ≡ front ++ more) × All (IsWritten counts) more × (rest ≡ flat_map line_text more)
  behind_lines [] ws rest hf hw eq = (ws, refl, hw, sym eq)
  behind_lines (f ∷ front) [] rest hf hw eq =
      absurd (omega (arith, ap length eq, ap length (flat_map-cons line_text f front), line_some f, length-append (flat_map line_text (f ∷ front)) rest, length-append (line_text f) (flat_map line_text front)))
  behind_lines (f ∷ front) (w ∷ ws) rest hf hw eq =
      let whole : line_text w ++ flat_map line_text ws ≡ line_text f ++ (flat_map line_text front ++ rest) =
      sym (flat_map-cons line_text w ws) ∙ eq ∙ ap (λ (l : List ℕ). l ++ rest) (flat_map-cons line_text f front) ∙ append_assoc (line_text f) (flat_map line_text front) rest in
      let one = one_line w f (flat_map line_text ws) (flat_map line_text front ++ rest) (hw 0 w (omega arith)) (hf 0 f (omega arith)) whole in
      let r = behind_lines front ws rest (All-tail (IsWritten counts) f front hf) (All-tail (IsWritten counts) w ws hw) one.1 in
      (r.0, ap (λ (x : Written). x ∷ ws) one.0 ∙ ap (λ (l : List Written). f ∷ l) r.1, r.2, r.3)

  -- no lines give no bytes, and they alone
  no_lines : (ws : List Written) → flat_map line_text ws ≡ [] → ws ≡ []
  no_lines [] e = refl
  no_lines (f ∷ ws) e = absurd (omega (arith, ap length e, ap length (flat_map-cons line_text f ws), line_some f, length-append (line_text f) (flat_map line_text ws)))

  -- two lists of lines with one text are one
  one_list : (vs ws : List Written) → All (IsWritten counts) vs → All (IsWritten counts) ws → written_text counts vs ≡ written_text counts ws → vs ≡ ws
  one_list vs ws hv hw eq =
      let same = append_cancel_left (header counts) (flat_map line_text vs) (flat_map line_text ws) eq in
      let r = behind_lines ws vs [] hw hv (same ∙ sym (append-nil (flat_map line_text ws))) in
      r.1 ∙ ap (λ (l : List Written). ws ++ l) (no_lines r.0 (sym r.3)) ∙ append-nil ws

  -- where a line is there, it is of the grammar
  no_more : (more : List Written) (rest : List ℕ) → 0 < length rest → All (IsWritten counts) more → rest ≡ flat_map line_text more → ((w : Written) (after : List ℕ) → IsWritten counts w → rest ≡ line_text w ++ after → ⊥) → ⊥
  no_more [] rest some h e wrong = omega (arith, ap length e)
  no_more (x ∷ more) rest some h e wrong = wrong x (flat_map line_text more) (h 0 x (omega arith)) (e ∙ flat_map-cons line_text x more)

-- the two first lines are apart
apart : (x y : List ℕ) → header true ++ x ≡ header false ++ y → ⊥
apart x y e = true≢false (ap (λ (l : List ℕ). eqb (get_or l 11 0) 50) e)

one_header : (a b : Bool) (x y : List ℕ) → header a ++ x ≡ header b ++ y → a ≡ b
one_header true true x y e = refl
one_header true false x y e = absurd (apart x y e)
one_header false true x y e = absurd (apart y x (sym e))
one_header false false x y e = refl

-- no text is one of two refutations
pub one_text : (es fs : List RefutationEntry) (text : List ℕ) → IsTextOf es text → IsTextOf fs text → es ≡ fs
one_text es fs text a b =
    let counts = one_header b.counts a.counts (flat_map line_text b.lines) (flat_map line_text a.lines) (sym b.spelled ∙ a.spelled) in
    let good = subst (λ (c : Bool). All (IsWritten c) b.lines) counts b.good in
    let spelled = subst (λ (c : Bool). text ≡ written_text c b.lines) counts b.spelled in
    let same = one_list a.counts a.lines b.lines a.good good (sym a.spelled ∙ spelled) in
    sym a.means ∙ ap (map meant) same ∙ b.means

-- what is printed is a text
all_back : (es : List RefutationEntry) → map meant (map written es) ≡ es
all_back [] = refl
all_back (e ∷ es) = λ i. written_back e i ∷ all_back es i

all_good : (es : List RefutationEntry) → All IsEntry es → All (IsWritten true) (map written es)
all_good [] h = λ k d l. absurd (omega arith)
all_good (e ∷ es) h = All-cons (IsWritten true) (written e) (map written es) (written_good e (h 0 e (omega arith))) (all_good es (All-tail IsEntry e es h))

all_spelled : (es : List RefutationEntry) → flat_map entry_text es ≡ flat_map line_text (map written es)
all_spelled [] = refl
all_spelled (e ∷ es) = ap (λ (l : List ℕ). entry_text e ++ l) (all_spelled es)

pub printed : (es : List RefutationEntry) → All IsEntry es → IsTextOf es (refutation_text es)
printed es h = record { counts = true; lines = map written es; good = all_good es h; means = all_back es; spelled = ap (λ (l : List ℕ). header true ++ l) (all_spelled es) }

-- ---- the loop

abbrev pub read_as : List RefutationEntry → Result (List RefutationEntry) BadLine
read_as es = Ok es

abbrev failed : Or BadLine → Result (List RefutationEntry) (Or BadLine)
failed e = Err e

-- the lines so far, and the rest
pub record HasRead (counts : Bool) (bytes : List ℕ) (ns : List Nogood) (rest : List ℕ) : Type 0 where
  pub lines : List Written
  pub good : All (IsWritten counts) lines
  pub means : map meant lines ≡ entries ns
  pub parts : bytes ≡ written_text counts lines ++ rest

pub read_none : (counts : Bool) (bytes rest : List ℕ) (ns : List Nogood) → ns ≡ [] → bytes ≡ header counts ++ rest → HasRead counts bytes ns rest
read_none counts bytes rest ns e parts =
    subst (λ (l : List Nogood). HasRead counts bytes l rest) (sym e) (record { lines = []; good = λ k d l. absurd (omega arith); means = refl; parts = parts ∙ ap (λ (l : List ℕ). l ++ rest) (sym (append-nil (header counts))) })

push_text : (counts : Bool) (ws : List Written) (w : Written) → written_text counts (ws ++ w ∷ []) ≡ written_text counts ws ++ line_text w
push_text counts ws w =
    ap (λ (l : List ℕ). header counts ++ l) (flat_map-append line_text ws (w ∷ []) ∙ ap (λ (l : List ℕ). flat_map line_text ws ++ l) (flat_map-cons line_text w [] ∙ append-nil (line_text w)))
    ∙ sym (append_assoc (header counts) (flat_map line_text ws) (line_text w))

numbered_ok : {A : Type 0} (count : ℕ) (r : Result A Stopped) (x : A) → numbered count r ≡ Ok x → r ≡ Ok x
numbered_ok {A} count (Ok y) x e = ap (λ (v : A). Ok v) (ok_is {E = BadLine} y x e)
numbered_ok count (Err s) x e = absurd (ok_not_err x (record { line = count + 2 }) (sym e))

numbered_err : {A : Type 0} (count : ℕ) (r : Result A Stopped) (bad : BadLine) → numbered count r ≡ Err bad → (s : Stopped) × (r ≡ Err s) × (bad.line ≡ count + 2)
numbered_err count (Ok y) bad e = absurd (ok_not_err y bad e)
numbered_err {A} count (Err s) bad e =
    let made : BadLine = record { line = count + 2 } in
    (s, refl, sym (ap (λ (b : BadLine). b.line) (err_same {A = A} made bad e)))

pub read_more : (counts : Bool) (bytes rest : List ℕ) (ns : List Nogood) (g : Nogood) (count : ℕ) (after : List ℕ) → HasRead counts bytes ns rest → line_at counts count rest ≡ Ok (entry_of g, after) → HasRead counts bytes (ns ++ g ∷ []) after
read_more counts bytes rest ns g count after h e =
    let (w, is, text, good) = line_read counts rest (entry_of g) after (numbered_ok count (entry_at counts rest) (entry_of g, after) e) in
    record {
      lines = h.lines ++ w ∷ [];
      good = All-append (IsWritten counts) h.lines (w ∷ []) h.good (All-cons (IsWritten counts) w [] good (λ k d l. absurd (omega arith)));
      means = map-append meant h.lines (w ∷ []) ∙ (λ i. h.means i ++ is i ∷ []) ∙ sym (map-append entry_of ns (g ∷ []));
      parts = h.parts ∙ ap (λ (l : List ℕ). written_text counts h.lines ++ l) text ∙ sym (append_assoc (written_text counts h.lines) (line_text w) after)
          ∙ ap (λ (l : List ℕ). l ++ after) (sym (push_text counts h.lines w));
    }

pub read_shorter : (counts : Bool) (count : ℕ) (rest : List ℕ) (e : RefutationEntry) (after : List ℕ) → line_at counts count rest ≡ Ok (e, after) → length after < length rest
read_shorter counts count rest e after h =
    let (w, is, text, good) = line_read counts rest e after (numbered_ok count (entry_at counts rest) (e, after) h) in
    omega (arith, ap length text, length-append (line_text w) after, line_some w)

-- the lines are all of the text
pub read_all : (counts : Bool) (bytes rest : List ℕ) (ns : List Nogood) → HasRead counts bytes ns rest → eqb (length rest) 0 ≡ true → All IsEntry (entries ns) × IsTextOf (entries ns) bytes
read_all counts bytes rest ns h none = (
  subst (All IsEntry) h.means (all_meant counts h.lines h.good),
  record {
    counts = counts;
    lines = h.lines;
    good = h.good;
    means = h.means;
    spelled = h.parts ∙ ap (λ (l : List ℕ). written_text counts h.lines ++ l) (nil_from_length rest (eqb-true (length rest) 0 none)) ∙ append-nil (written_text counts h.lines);
  },
)
  where
    all_meant : (counts : Bool) (ws : List Written) → All (IsWritten counts) ws → All IsEntry (map meant ws)
    all_meant counts [] h = λ k d l. absurd (omega arith)
    all_meant counts (w ∷ ws) h = All-cons IsEntry (meant w) (map meant ws) (meant_good counts w (h 0 w (omega arith))) (all_meant counts ws (All-tail (IsWritten counts) w ws h))

pub read_bad : (counts : Bool) (e : Or BadLine) (bytes rest : List ℕ) (ns : List Nogood) (count : ℕ) → HasRead counts bytes ns rest → 0 < length rest → count ≡ length ns → Fails e (line_at counts count rest)
    → ((es : List RefutationEntry) → IsTextOf es bytes → Fails e (read_as es)) × IfBad (failed e) (λ bad. IsBadLine bytes bad.line)
read_bad counts OutOfMemory bytes rest ns count h some at fails = (λ es eq. tt, tt)
read_bad counts (Bad x) bytes rest ns count h some at fails =
    let (s, stops, line) = numbered_err count (entry_at counts rest) x fails in
    let wrong : (w : Written) (more : List ℕ) → IsWritten counts w → rest ≡ line_text w ++ more → ⊥ =
    λ w more is eq. ok_not_err (meant w, more) s (sym (ap (entry_at counts) eq ∙ line_again counts w more is) ∙ stops) in
    let long : length h.lines ≡ length ns = sym (length-map h.lines meant) ∙ ap length h.means ∙ length-map ns entry_of in (
      λ es t.
          let front = h.parts ∙ append_assoc (header counts) (flat_map line_text h.lines) rest in
          let same = one_header t.counts counts (flat_map line_text t.lines) (flat_map line_text h.lines ++ rest) (sym t.spelled ∙ front) in
          let good = subst (λ (c : Bool). All (IsWritten c) t.lines) same t.good in
          let spelled = subst (λ (c : Bool). bytes ≡ written_text c t.lines) same t.spelled in
          let cut = append_cancel_left (header counts) (flat_map line_text t.lines) (flat_map line_text h.lines ++ rest) (sym spelled ∙ front) in
          let (more, is, hm, text) = behind_lines counts h.lines t.lines rest h.good good cut in
          absurd (no_more counts more rest some hm text wrong),
      let bad : IsBadEntry bytes count = record { counts = counts; before = h.lines; rest = rest; good = h.good; counted = long ∙ sym at; parts = h.parts; there = some; bad = wrong } in
          let number : suc (suc count) ≡ x.line = omega (arith, line) in
          subst (λ (n : ℕ). IsBadLine bytes n) number bad,
    )

pub something : (b : Bool) (rest : List ℕ) → b ≡ eqb (length rest) 0 → b ≡ false → 0 < length rest
something b [] e f = absurd (true≢false (sym e ∙ f))
something b (c ∷ rest) e f = omega arith
