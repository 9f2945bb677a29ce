-- Components and stems are read as they are written.
use Rattle.std.proofs.Common.{◌≡◌, ℕ, ◌-◌, ◌<◌, ◌≤◌, Bool, true, false, eqb, List, [], ◌∷◌, ◌++◌, length, take, drop, Result, Ok, Err, refl, sym, ap, subst, ◌∙◌, append_assoc, arith, inl, inr}
use Rattle.std.specs.Prelude.{map}
use Rattle.std.specs.List.{All, AllByRecursion, list_all, join_with_byte}
use Rattle.std.proofs.lemmas.Bool.{eqb-true, and_parts, false_from_ne_true, true≢false}
use Rattle.std.proofs.lemmas.List.{length-append}
use Rattle.std.proofs.Math.Seq.{take-append_seam, drop-append_seam}
use Rattle.std.specs.Str.{IsAscii, IsUtf8}
use Rattle.std.proofs.lemmas.Str.{IsUtf8-from_ascii, IsAscii-append}
use Rattle.std.proofs.lemmas.Str.Ascii.{IsAscii-nil, IsAscii-cons}
use Rattle.std.proofs.lemmas.List.Splits.{join_with_byte-slice_split, slice_split_none, slice_split_at}
use Rattle.std.proofs.lemmas.List.Elements.{All-from_recursion}
use Rattle.ips_text.specs.declared.refusal.Stop.{Stop}
use Rattle.ips_text.specs.Reading.{◌>>=◌, next_is, OneOrMore, one_or_more, run}
use Rattle.ips_text.specs.Path.{parts}
use Rattle.ips_text.proofs.Readers.{Stops, Reads, SameBefore, AllFollow, Reads-one_or_more, Reads-via, chosen, ok_is, ok_not_err, err_same}
use Rattle.ips_text.proofs.Loops.{with_front, reads_on, reads_stop, reads_end}
use Rattle.ips_fmri.specs.declared.fault.Part.{Part}
use Rattle.ips_fmri.specs.declared.fault.Part.TheVariants as part
use Rattle.ips_fmri.specs.Name.{may_begin, may_go_on, IsComponent, HasStemForm}
use Rattle.ips_fmri.specs.Reading.{component_at, stem_at}
use Rattle.ips_text.proofs.Runs.{run_is, run_again, Ends}

-- ---- a component

abbrev pub ComponentFollows : Bool → List ℕ → List ℕ → Type 0
ComponentFollows wild x rest = Ends (may_go_on wild) rest

abbrev pub itself : List ℕ → List ℕ
itself x = x

abbrev failed_at : Part → ℕ → Result (List ℕ × List ℕ) (Stop Part)
failed_at kind left = Err (record { kind = kind; left = left })

component_takes : (kind : Part) (wild : Bool) (bytes : List ℕ) (z : List ℕ × List ℕ) → component_at kind wild bytes ≡ Ok z → (bytes ≡ z.0 ++ z.1) × IsComponent wild z.0 × ComponentFollows wild z.0 z.1
unfolding component_at
component_takes kind wild [] z e = absurd (ok_not_err z (record { kind = kind; left = 0 }) (sym e))
component_takes kind wild (b ∷ bytes) z e =
    let r = run_is (may_go_on wild) bytes in
    let made : List ℕ × List ℕ = (b ∷ (run (may_go_on wild) bytes).0, (run (may_go_on wild) bytes).1) in
    elim (chosen (may_begin wild b) (Ok made) (Err (record { kind = kind; left = length (b ∷ bytes) })) (Ok z) e) [
      | inl w ↦
          subst (λ (p : List ℕ × List ℕ). (b ∷ bytes ≡ p.0 ++ p.1) × IsComponent wild p.0 × ComponentFollows wild p.0 p.1) (ok_is {E = Stop Part} made z w.1)
          (ap (λ (l : List ℕ). b ∷ l) r.parts, (w.0, r.all), r.ends)
      | inr w ↦ absurd (ok_not_err z (record { kind = kind; left = length (b ∷ bytes) }) (sym w.1))
    ]

component_again : (kind : Part) (wild : Bool) (x rest : List ℕ) → IsComponent wild x → ComponentFollows wild x rest → component_at kind wild (x ++ rest) ≡ Ok (x, rest)
unfolding component_at
component_again kind wild [] rest fits fol = absurd fits
component_again kind wild (b ∷ x) rest fits fol = let more = run_again (may_go_on wild) x rest fits.1 fol in rw (fits.0, more) refl

component_head : (wild : Bool) (x : List ℕ) (c : ℕ) (tail more : List ℕ) → ComponentFollows wild x (c ∷ tail) → ComponentFollows wild x (c ∷ more)
component_head wild x c tail more h = h

pub letter_begins : (wild : Bool) → may_begin wild 97 ≡ true
letter_begins false = refl
letter_begins true = refl

component_stops : (kind : Part) (wild : Bool) (bytes : List ℕ) (s : Stop Part) → component_at kind wild bytes ≡ Err s → Stops itself (IsComponent wild) (λ front tail. SameBefore (component_at kind wild) front tail s.kind) bytes s
unfolding component_at
component_stops kind wild [] s e =
    let same : (let d : Stop Part = record { kind = kind; left = 0 } in d) ≡ s = err_same {A = List ℕ × List ℕ} (record { kind = kind; left = 0 }) s e in
    record { front = []; tail = []; parts = refl; left = ap (λ (d : Stop Part). d.left) same; value = 97 ∷ []; more = 97 ∷ []; fits = (letter_begins wild, refl); begins = refl; local = tt }
component_stops kind wild (b ∷ bytes) s e =
    let made : List ℕ × List ℕ = (b ∷ (run (may_go_on wild) bytes).0, (run (may_go_on wild) bytes).1) in
    elim (chosen (may_begin wild b) (Ok made) (Err (record { kind = kind; left = length (b ∷ bytes) })) (Err s) e) [
      | inl w ↦ absurd (ok_not_err made s w.1)
      | inr w ↦
          let same : (let d : Stop Part = record { kind = kind; left = length (b ∷ bytes) } in d) ≡ s = err_same {A = List ℕ × List ℕ} (record { kind = kind; left = length (b ∷ bytes) }) s w.1 in
          record {
            front = [];
            tail = b ∷ bytes;
            parts = refl;
            left = ap (λ (d : Stop Part). d.left) same;
            value = 97 ∷ [];
            more = 97 ∷ [];
            fits = (letter_begins wild, refl);
            begins = refl;
            local = λ more. rw w.0 (ap (λ (d : Stop Part). failed_at d.kind (length (b ∷ more))) same);
          }
    ]

pub Reads-component : (kind : Part) (wild : Bool) → Reads itself (IsComponent wild) (ComponentFollows wild) (component_at kind wild)
Reads-component kind wild = record {
  takes = component_takes kind wild;
  again = component_again kind wild;
  head = component_head wild;
  stops = component_stops kind wild;
}

-- ---- a stem

slash_ends : (wild : Bool) → may_go_on wild 47 ≡ false
slash_ends false = refl
slash_ends true = refl

slash_begins_none : (wild : Bool) → may_begin wild 47 ≡ false
slash_begins_none false = refl
slash_begins_none true = refl

no_slash : (wild : Bool) (b : ℕ) → may_go_on wild b ≡ true → eqb b 47 ≡ false
no_slash wild b e = false_from_ne_true _ (λ is. true≢false (sym e ∙ ap (may_go_on wild) (eqb-true b 47 is) ∙ slash_ends wild))

pub begins_no_slash : (wild : Bool) (b : ℕ) → may_begin wild b ≡ true → eqb b 47 ≡ false
begins_no_slash wild b e = false_from_ne_true _ (λ is. true≢false (sym e ∙ ap (may_begin wild) (eqb-true b 47 is) ∙ slash_begins_none wild))

run_no_slash : (wild : Bool) (x : List ℕ) → list_all (may_go_on wild) x ≡ true → AllByRecursion (λ b. eqb b 47 ≡ false) x
run_no_slash wild [] all = tt
run_no_slash wild (b ∷ x) all = let h = and_parts (may_go_on wild b) (list_all (may_go_on wild) x) all in (no_slash wild b h.0, run_no_slash wild x h.1)

component_no_slash : (wild : Bool) (x : List ℕ) → IsComponent wild x → All (λ b. eqb b 47 ≡ false) x
component_no_slash wild [] h = absurd h
component_no_slash wild (b ∷ x) h = All-from_recursion (λ b. eqb b 47 ≡ false) (b ∷ x) (begins_no_slash wild b h.0, run_no_slash wild x h.1)

parts_joined : (wild : Bool) (xs : List (List ℕ)) → OneOrMore (IsComponent wild) xs → parts (join_with_byte 47 xs) ≡ xs
parts_joined wild [] h = absurd h
parts_joined wild (x ∷ []) h = slice_split_none (λ b. eqb b 47) x (component_no_slash wild x h)
parts_joined wild (x ∷ y ∷ xs) h =
    slice_split_at (λ b. eqb b 47) x 47 (join_with_byte 47 (y ∷ xs)) (component_no_slash wild x h.0) refl ∙ ap (λ (l : List (List ℕ)). x ∷ l) (parts_joined wild (y ∷ xs) h.1)

abbrev pub StemFollows : Bool → List ℕ → List ℕ → Type 0
StemFollows wild s rest = AllFollow 47 itself (ComponentFollows wild) (parts s) rest

map_itself : (xs : List (List ℕ)) → map itself xs ≡ xs
map_itself [] = refl
map_itself (x ∷ xs) = ap (λ (l : List (List ℕ)). x ∷ l) (map_itself xs)

join_fits : (wild : Bool) (xs : List (List ℕ)) → OneOrMore (IsComponent wild) xs → (parts (join_with_byte 47 xs) ≡ xs) × HasStemForm wild (join_with_byte 47 xs)
join_fits wild xs h = let e = parts_joined wild xs h in (e, subst (OneOrMore (IsComponent wild)) (sym e) h)

pub Reads-stem : (wild : Bool) → Reads itself (HasStemForm wild) (StemFollows wild) (stem_at wild)
unfolding stem_at
Reads-stem wild =
    Reads-via (λ (xs : List (List ℕ)). join_with_byte 47 (map itself xs)) (OneOrMore (IsComponent wild)) (AllFollow 47 itself (ComponentFollows wild)) (one_or_more 47 (component_at part.Stem wild))
    itself (HasStemForm wild) (join_with_byte 47) parts
    (Reads-one_or_more 47 itself (IsComponent wild) (ComponentFollows wild) (component_at part.Stem wild) (Reads-component part.Stem wild))
    (join_fits wild)
    (λ s h. (join_with_byte-slice_split 47 s, h))
    (λ s. sym (ap (join_with_byte 47) (map_itself (parts s)) ∙ join_with_byte-slice_split 47 s))

-- ---- what may follow a stem

-- neither a byte of a component nor `/`
pub record EndsStem (wild : Bool) (rest : List ℕ) : Type 0 where
  pub run : Ends (may_go_on wild) rest
  pub slash : next_is 47 rest ≡ false

parts_follow : (wild : Bool) (xs : List (List ℕ)) (rest : List ℕ) → OneOrMore (IsComponent wild) xs → EndsStem wild rest → AllFollow 47 itself (ComponentFollows wild) xs rest
parts_follow wild [] rest h ends = absurd h
parts_follow wild (x ∷ []) rest h ends = (ends.run, ends.slash)
parts_follow wild (x ∷ y ∷ xs) rest h ends = (slash_ends wild, parts_follow wild (y ∷ xs) rest h.1 ends)

pub stem_follows : (wild : Bool) (s rest : List ℕ) → HasStemForm wild s → EndsStem wild rest → StemFollows wild s rest
stem_follows wild s rest h ends = parts_follow wild (parts s) rest h ends

-- a stem begins with a byte that may begin one
pub stem_first : (wild : Bool) (s : List ℕ) → HasStemForm wild s → (b : ℕ) × (more : List ℕ) × (s ≡ b ∷ more) × (may_begin wild b ≡ true)
stem_first wild s h = go (parts s) h (join_with_byte-slice_split 47 s)
  where
    go : (xs : List (List ℕ)) → OneOrMore (IsComponent wild) xs → join_with_byte 47 xs ≡ s → (b : ℕ) × (more : List ℕ) × (s ≡ b ∷ more) × (may_begin wild b ≡ true)
    go [] h e = absurd h
    go ([] ∷ []) h e = absurd h
    go ((b ∷ x) ∷ []) h e = (b, x, sym e, h.0)
    go ([] ∷ y ∷ xs) h e = absurd h.0
    go ((b ∷ x) ∷ y ∷ xs) h e = (b, x ++ (47 ∷ join_with_byte 47 (y ∷ xs)), sym e, h.0.0)

-- ---- component after component

abbrev words_at : Bool → List ℕ → Result (List (List ℕ) × List ℕ) (Stop Part)
words_at wild = one_or_more 47 (component_at part.Stem wild)

abbrev marked : List (List ℕ) → List ℕ
marked [] = []
marked (x ∷ xs) = x ++ (47 ∷ marked xs)

-- the components that were read, and what is left
pub record StemSoFar (wild : Bool) (bytes rest : List ℕ) : Type 0 where
  front : List (List ℕ)
  reads : with_front front (words_at wild rest) ≡ words_at wild bytes
  taken : bytes ≡ marked front ++ rest

no_front : (read : Result (List (List ℕ) × List ℕ) (Stop Part)) → with_front [] read ≡ read
no_front (Ok x) = refl
no_front (Err s) = refl

pub so_far_begin : (wild : Bool) (bytes : List ℕ) → StemSoFar wild bytes bytes
so_far_begin wild bytes = record { front = []; reads = no_front (words_at wild bytes); taken = refl }

marked_more : (front : List (List ℕ)) (x : List ℕ) → marked (front ++ x ∷ []) ≡ marked front ++ (x ++ (47 ∷ []))
marked_more [] x = refl
marked_more (y ∷ front) x = ap (λ (l : List ℕ). y ++ (47 ∷ l)) (marked_more front x) ∙ sym (append_assoc y (47 ∷ marked front) (x ++ (47 ∷ [])))

pub so_far_on : (wild : Bool) (bytes rest x after more : List ℕ) → StemSoFar wild bytes rest → component_at part.Stem wild rest ≡ Ok (x, after) → after ≡ 47 ∷ more → StemSoFar wild bytes more
so_far_on wild bytes rest x after more h e cut =
    let t = (Reads-component part.Stem wild).takes rest (x, after) e in
    record {
      front = h.front ++ x ∷ [];
      reads = reads_on 47 itself (IsComponent wild) (ComponentFollows wild) (component_at part.Stem wild) (Reads-component part.Stem wild) h.front rest x more (words_at wild bytes) (e ∙ ap (λ (l : List ℕ). Ok (x, l)) cut) h.reads;
      taken =
          h.taken ∙ ap (λ (l : List ℕ). marked h.front ++ l) (t.0 ∙ ap (λ (l : List ℕ). x ++ l) cut ∙ sym (append_assoc x (47 ∷ []) more))
          ∙ sym (append_assoc (marked h.front) (x ++ (47 ∷ [])) more) ∙ ap (λ (l : List ℕ). l ++ more) (sym (marked_more h.front x));
    }

pub so_far_shorter : (wild : Bool) (rest x after more : List ℕ) → component_at part.Stem wild rest ≡ Ok (x, after) → after ≡ 47 ∷ more → length more < length rest
so_far_shorter wild rest x after more e cut =
    let t = (Reads-component part.Stem wild).takes rest (x, after) e in
    omega (arith, ap length t.0, ap length cut, length-append x after)

pub so_far_stop : (wild : Bool) (bytes rest : List ℕ) (s : Stop Part) → StemSoFar wild bytes rest → component_at part.Stem wild rest ≡ Err s → stem_at wild bytes ≡ Err s
unfolding stem_at
so_far_stop wild bytes rest s h e =
    ap (λ (v : Result (List (List ℕ) × List ℕ) (Stop Part)). v >>= λ x. Ok (join_with_byte 47 x.0, x.1)) (reads_stop 47 (component_at part.Stem wild) h.front rest s (words_at wild bytes) e h.reads)

joined_marked : (front : List (List ℕ)) (x : List ℕ) → join_with_byte 47 (front ++ x ∷ []) ≡ marked front ++ x
joined_marked [] x = refl
joined_marked (y ∷ []) x = sym (append_assoc y (47 ∷ []) x)
joined_marked (y ∷ z ∷ front) x = ap (λ (l : List ℕ). y ++ (47 ∷ l)) (joined_marked (z ∷ front) x) ∙ sym (append_assoc y (47 ∷ marked (z ∷ front)) x)

-- a list is cut by the length of what is left
cut_by_left : (front after : List ℕ) → (take (length (front ++ after) - length after) (front ++ after) ≡ front) × (drop (length (front ++ after) - length after) (front ++ after) ≡ after)
cut_by_left front after =
    let place : length (front ++ after) - length after ≡ length front = omega (arith, length-append front after) in
    (ap (λ (n : ℕ). take n (front ++ after)) place ∙ take-append_seam front after, ap (λ (n : ℕ). drop n (front ++ after)) place ∙ drop-append_seam front after)

cut_as : (bytes front after : List ℕ) → bytes ≡ front ++ after → (let p : List ℕ × List ℕ = (front, after) in p) ≡ (take (length bytes - length after) bytes, drop (length bytes - length after) bytes)
cut_as bytes front after is = let c = cut_by_left front after in rw (is, c.0, c.1) refl

pub so_far_end : (wild : Bool) (bytes rest x after : List ℕ) → StemSoFar wild bytes rest → component_at part.Stem wild rest ≡ Ok (x, after) → next_is 47 after ≡ false → stem_at wild bytes ≡ Ok (take (length bytes - length after) bytes, drop (length bytes - length after) bytes)
unfolding stem_at
so_far_end wild bytes rest x after h e none =
    let t = (Reads-component part.Stem wild).takes rest (x, after) e in
    let taken : bytes ≡ join_with_byte 47 (h.front ++ x ∷ []) ++ after
    = h.taken ∙ ap (λ (l : List ℕ). marked h.front ++ l) t.0 ∙ sym (append_assoc (marked h.front) x after) ∙ ap (λ (l : List ℕ). l ++ after) (sym (joined_marked h.front x)) in
    ap (λ (v : Result (List (List ℕ) × List ℕ) (Stop Part)). v >>= λ x. Ok (join_with_byte 47 x.0, x.1)) (reads_end 47 (component_at part.Stem wild) h.front rest x after (words_at wild bytes) e none h.reads)
    ∙ ap (λ (p : List ℕ × List ℕ). Ok p) (cut_as bytes (join_with_byte 47 (h.front ++ x ∷ [])) after taken)

pub so_far_room : (wild : Bool) (bytes rest x after : List ℕ) → StemSoFar wild bytes rest → component_at part.Stem wild rest ≡ Ok (x, after) → length after ≤ length bytes
so_far_room wild bytes rest x after h e =
    let t = (Reads-component part.Stem wild).takes rest (x, after) e in
    omega (arith, ap length h.taken, length-append (marked h.front) rest, ap length t.0, length-append x after)

-- ---- stems and publishers are ASCII

low_byte : (wild : Bool) (b : ℕ) → may_go_on wild b ≡ true → b < 128
low_byte false b e = grind arith
low_byte true b e = grind arith

low_first : (wild : Bool) (b : ℕ) → may_begin wild b ≡ true → b < 128
low_first wild b e = low_byte wild b (rw e refl)

run_ascii : (wild : Bool) (x : List ℕ) → list_all (may_go_on wild) x ≡ true → IsAscii x
run_ascii wild [] all = IsAscii-nil
run_ascii wild (b ∷ x) all = let h = and_parts (may_go_on wild b) (list_all (may_go_on wild) x) all in IsAscii-cons b x (low_byte wild b h.0) (run_ascii wild x h.1)

component_ascii : (wild : Bool) (x : List ℕ) → IsComponent wild x → IsAscii x
component_ascii wild [] h = absurd h
component_ascii wild (b ∷ x) h = IsAscii-cons b x (low_first wild b h.0) (run_ascii wild x h.1)

joined_ascii : (wild : Bool) (xs : List (List ℕ)) → OneOrMore (IsComponent wild) xs → IsAscii (join_with_byte 47 xs)
joined_ascii wild [] h = absurd h
joined_ascii wild (x ∷ []) h = component_ascii wild x h
joined_ascii wild (x ∷ y ∷ xs) h = IsAscii-append x (47 ∷ join_with_byte 47 (y ∷ xs)) (component_ascii wild x h.0) (IsAscii-cons 47 (join_with_byte 47 (y ∷ xs)) (omega arith) (joined_ascii wild (y ∷ xs) h.1))

pub component_text : (kind : Part) (wild : Bool) (bytes x rest : List ℕ) → component_at kind wild bytes ≡ Ok (x, rest) → IsUtf8 x
component_text kind wild bytes x rest e = IsUtf8-from_ascii x (component_ascii wild x ((Reads-component kind wild).takes bytes (x, rest) e).1)

pub stem_text : (wild : Bool) (bytes s rest : List ℕ) → stem_at wild bytes ≡ Ok (s, rest) → IsUtf8 s
stem_text wild bytes s rest e =
    let h = ((Reads-stem wild).takes bytes (s, rest) e).1 in
    IsUtf8-from_ascii s (subst IsAscii (join_with_byte-slice_split 47 s) (joined_ascii wild (parts s) h))
