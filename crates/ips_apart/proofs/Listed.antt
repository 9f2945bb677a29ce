-- Reports of several lines: findings, and what was changed.
use lib.Chars.{codes}
use Rattle.std.proofs.Common.{◌≡◌, ℕ, cond, ◌<◌, ◌^◌, true, false, List, [], ◌∷◌, ◌++◌, map, refl, sym, ap, ◌∙◌, arith, ◌+◌, ◌==◌, Option, Some, None}
use Rattle.std.proofs.lemmas.Bool.{false≢true, or_from}
use Rattle.std.specs.Fmt.{decimal}
use Rattle.std.specs.List.{flat_map, AllByRecursion}
use Rattle.std.proofs.lemmas.List.{append_assoc, append_cancel_left, append_cancel_right}
use Rattle.ips_text.specs.Cut.{has_byte}
use Rattle.ips_text.specs.Path.{IsPath}
use Rattle.ips_text.specs.Quote.{shown}
use Rattle.ips_text.proofs.Cuts.{clear_lacks, cut_once, lacks_append, newline_in}
use Rattle.ips_steps.specs.Private.{begins}
use Rattle.ips_journal.proofs.FieldForms.{path_apart, path_clear}
use Rattle.ips_journal.proofs.StepLines.{path_whole}
use Rattle.ips_counts.specs.declared.counts.Counts.{Counts}
use Rattle.ips_counts.specs.declared.sorts.Sorts.{Sorts}
use Rattle.ips_meaning.specs.declared.finding.Finding.{Finding}
use Rattle.ips_meaning.specs.declared.finding.Damage.{Damage}
use Rattle.ips_meaning.specs.declared.finding.Damage.TheVariants.{Missing, WrongKind, WrongContent, WrongMode, WrongTarget, NotSame}
use Rattle.ips_report.specs.Report.{behind_blanks, candidate_text, counts_text, damage_text, done_text, finding_text, line, prefixed_lines, sorts_text, three, tried_text, tried_texts}
use Rattle.ips_report.specs.declared.unsolved.Tried.{Tried}
use Rattle.ips_fmri.specs.Version.{Parts, version_text}
use Rattle.ips_refute.specs.Text.{RefutationEntry, entry_text, refutation_text}
use Rattle.ips_apart.specs.Kind.{AllLack, AreSmallCounts, AreSmallSorts, HasPath, HasWords, candidate_word, found, tried_words}
use Rattle.ips_apart.proofs.Pieces.{comma, cut_last, is_no_digit, line_before, newline, number_before, words_apart}

-- ---- findings

-- the damage that a word tells
abbrev damage_read : List ℕ → Damage
damage_read text = cond (begins (codes "mi") text) Missing (cond (begins (codes "n") text) NotSame (cond (begins (codes "wrong k") text) WrongKind (cond (begins (codes "wrong c") text) WrongContent (cond (begins (codes "wrong m") text) WrongMode WrongTarget))))

damage_back : (x : Damage) → damage_read (damage_text x) ≡ x
damage_back Missing = refl
damage_back WrongKind = refl
damage_back WrongContent = refl
damage_back WrongMode = refl
damage_back WrongTarget = refl
damage_back NotSame = refl

damage_apart : (x y : Damage) → damage_text x ≡ damage_text y → x ≡ y
damage_apart x y e = sym (damage_back x) ∙ ap damage_read e ∙ damage_back y

damage_lacks : (x : Damage) → has_byte 10 (damage_text x) ≡ false
damage_lacks Missing = refl
damage_lacks WrongKind = refl
damage_lacks WrongContent = refl
damage_lacks WrongMode = refl
damage_lacks WrongTarget = refl
damage_lacks NotSame = refl

-- a finding isn't the line behind all findings
no_end : (d : Damage) (path more rest : List ℕ) → begins (codes "d") ((line (damage_text d ++ 32 ∷ path) ++ more) ++ rest) ≡ false
no_end Missing path more rest = refl
no_end WrongKind path more rest = refl
no_end WrongContent path more rest = refl
no_end WrongMode path more rest = refl
no_end WrongTarget path more rest = refl
no_end NotSame path more rest = refl

pub findings_apart : (xs ys : List Finding) (a b : List ℕ) → AllByRecursion HasPath xs → AllByRecursion HasPath ys
    → flat_map finding_text xs ++ line (codes "damaged " ++ a) ≡ flat_map finding_text ys ++ line (codes "damaged " ++ b) → map found xs ≡ map found ys
findings_apart [] [] a b hx hy e = refl
findings_apart [] (y ∷ ys) a b hx hy e =
    let there : true ≡ false = ap (begins (codes "d")) e ∙ no_end y.damage (shown y.path.bytes) (flat_map finding_text ys) (line (codes "damaged " ++ b)) in
    cc
findings_apart (x ∷ xs) [] a b hx hy e =
    let there : true ≡ false = ap (begins (codes "d")) (sym e) ∙ no_end x.damage (shown x.path.bytes) (flat_map finding_text xs) (line (codes "damaged " ++ a)) in
    cc
findings_apart (x ∷ xs) (y ∷ ys) a b hx hy e =
    let behind_x = flat_map finding_text xs ++ line (codes "damaged " ++ a) in
    let behind_y = flat_map finding_text ys ++ line (codes "damaged " ++ b) in
    let open_x = damage_text x.damage ++ 32 ∷ shown x.path.bytes in
    let open_y = damage_text y.damage ++ 32 ∷ shown y.path.bytes in
    let whole = sym (append_assoc (line open_x) (flat_map finding_text xs) (line (codes "damaged " ++ a))) ∙ e ∙ append_assoc (line open_y) (flat_map finding_text ys) (line (codes "damaged " ++ b)) in
    let first = line_before open_x behind_x open_y behind_y (one_line x hx.0) (one_line y hy.0) whole in
    let parts = cut_last 32 (damage_text x.damage) (shown x.path.bytes) (damage_text y.damage) (shown y.path.bytes) (path_whole x.path.bytes hx.0) (path_whole y.path.bytes hy.0) first.0 in
    let rest = findings_apart xs ys a b hx.1 hy.1 first.1 in
    let damages = damage_apart x.damage y.damage parts.0 in
    let paths = path_apart x.path.bytes y.path.bytes hx.0 hy.0 parts.1 in
    rw (damages, paths, rest) refl
  where
    one_line : (x : Finding) → IsPath x.path.bytes → has_byte 10 (damage_text x.damage ++ 32 ∷ shown x.path.bytes) ≡ false
    one_line x h = newline_in (damage_text x.damage) (shown x.path.bytes) (damage_lacks x.damage) (clear_lacks 10 (shown x.path.bytes) (omega arith) (path_clear x.path.bytes h))

-- ---- what was changed

-- lines in front of a text that begins otherwise
licenses_apart : (xs ys : List (List ℕ)) (a b : List ℕ) → AllLack 10 xs → AllLack 10 ys
    → prefixed_lines (codes "license: ") xs ++ (105 ∷ a) ≡ prefixed_lines (codes "license: ") ys ++ (105 ∷ b) → (xs ≡ ys) × (a ≡ b)
licenses_apart [] [] a b hx hy e = (refl, cc)
licenses_apart [] (y ∷ ys) a b hx hy e = absurd (false≢true (ap (begins (codes "l")) e))
licenses_apart (x ∷ xs) [] a b hx hy e = absurd (false≢true (ap (begins (codes "l")) (sym e)))
licenses_apart (x ∷ xs) (y ∷ ys) a b hx hy e =
    let front = codes "license: " in
    let whole = sym (append_assoc (line (front ++ x)) (prefixed_lines front xs) (105 ∷ a)) ∙ e ∙ append_assoc (line (front ++ y)) (prefixed_lines front ys) (105 ∷ b) in
    let first = line_before (front ++ x) (prefixed_lines front xs ++ (105 ∷ a)) (front ++ y) (prefixed_lines front ys ++ (105 ∷ b)) (lacks_append 10 front x refl hx.0) (lacks_append 10 front y refl hy.0) whole in
    let rest = licenses_apart xs ys a b hx.1 hy.1 first.1 in
    (rw (append_cancel_left front x y first.0, rest.0) refl, rest.1)

-- three numbers, each behind a text, and what stands behind them
three_flat : (a : List ℕ) (x : ℕ) (b : List ℕ) (y : ℕ) (c : List ℕ) (z : ℕ) (rest : List ℕ) → three a x b y c z ++ rest ≡ a ++ (decimal x ++ (b ++ (decimal y ++ (c ++ (decimal z ++ rest)))))
three_flat a x b y c z rest =
    append_assoc (a ++ decimal x ++ b ++ decimal y ++ c) (decimal z) rest ∙ append_assoc (a ++ decimal x ++ b ++ decimal y) c (decimal z ++ rest) ∙ append_assoc (a ++ decimal x ++ b) (decimal y) (c ++ (decimal z ++ rest))
    ∙ append_assoc (a ++ decimal x) b (decimal y ++ (c ++ (decimal z ++ rest))) ∙ append_assoc a (decimal x) (b ++ (decimal y ++ (c ++ (decimal z ++ rest))))

-- the numbers are told, where a comma or a newline stands behind each
three_apart : (k : ℕ) (is : is_no_digit k) (a b c : List ℕ) (x y z x' y' z' : ℕ) (r r' : List ℕ) → x < 2 ^ 64 → y < 2 ^ 64 → z < 2 ^ 64 → x' < 2 ^ 64 → y' < 2 ^ 64 → z' < 2 ^ 64
    → three a x (44 ∷ b) y (44 ∷ c) z ++ (k ∷ r) ≡ three a x' (44 ∷ b) y' (44 ∷ c) z' ++ (k ∷ r') → (x ≡ x') × (y ≡ y') × (z ≡ z') × (r ≡ r')
three_apart k is a b c x y z x' y' z' r r' hx hy hz hx' hy' hz' e =
    let behind = λ (y z : ℕ) (r : List ℕ). b ++ (decimal y ++ (44 ∷ (c ++ (decimal z ++ (k ∷ r))))) in
    let whole = append_cancel_left a (decimal x ++ (44 ∷ behind y z r)) (decimal x' ++ (44 ∷ behind y' z' r')) (sym (three_flat a x (44 ∷ b) y (44 ∷ c) z (k ∷ r)) ∙ e ∙ three_flat a x' (44 ∷ b) y' (44 ∷ c) z' (k ∷ r')) in
    let first = number_before 44 x x' (behind y z r) (behind y' z' r') comma hx hx' whole in
    let second = number_before 44 y y' (c ++ (decimal z ++ (k ∷ r))) (c ++ (decimal z' ++ (k ∷ r'))) comma hy hy' (append_cancel_left b (decimal y ++ (44 ∷ (c ++ (decimal z ++ (k ∷ r))))) (decimal y' ++ (44 ∷ (c ++ (decimal z' ++ (k ∷ r'))))) first.1) in
    let third = number_before k z z' r r' is hz hz' (append_cancel_left c (decimal z ++ (k ∷ r)) (decimal z' ++ (k ∷ r')) second.1) in
    (first.0, second.0, third.0, third.1)

-- the text behind the licenses
abbrev behind_licenses : Counts → Sorts → List ℕ
behind_licenses c s = counts_text c ++ (sorts_text s ++ line (codes "done"))

done_flat : (c : Counts) (s : Sorts) (licenses : List (List ℕ)) → done_text c s licenses ≡ prefixed_lines (codes "license: ") licenses ++ behind_licenses c s
done_flat c s licenses = append_assoc (prefixed_lines (codes "license: ") licenses ++ counts_text c) (sorts_text s) (line (codes "done")) ∙ append_assoc (prefixed_lines (codes "license: ") licenses) (counts_text c) (sorts_text s ++ line (codes "done"))

counts_apart : (c d : Counts) (a b : List ℕ) → AreSmallCounts c → AreSmallCounts d → counts_text c ++ a ≡ counts_text d ++ b → (c ≡ d) × (a ≡ b)
counts_apart c d a b hc hd e =
    let whole = sym (append_assoc (three (codes "install ") c.installs (codes ", update ") c.updates (codes ", remove ") c.removes) (10 ∷ []) a) ∙ e ∙ append_assoc (three (codes "install ") d.installs (codes ", update ") d.updates (codes ", remove ") d.removes) (10 ∷ []) b in
    let parts = three_apart 10 newline (codes "install ") (codes " update ") (codes " remove ") c.installs c.updates c.removes d.installs d.updates d.removes a b hc.installs hc.updates hc.removes hd.installs hd.updates hd.removes whole in
    (rw (parts.0, parts.1, parts.2) refl, parts.3)

sorts_apart : (s u : Sorts) (a b : List ℕ) → AreSmallSorts s → AreSmallSorts u → sorts_text s ++ a ≡ sorts_text u ++ b → s ≡ u
sorts_apart s u a b hs hu e =
    let whole = sym (flat s a) ∙ e ∙ flat u b in
    let first = three_apart 44 comma (codes "steps: gone ") (codes " fresh ") (codes " mode ") s.gone s.fresh s.mode u.gone u.fresh u.mode (behind s a) (behind u b) hs.gone hs.fresh hs.mode hu.gone hu.fresh hu.mode whole in
    let second = three_apart 10 newline (codes ", put ") (codes " link ") (codes " hard ") s.put s.link s.hard u.put u.link u.hard a b hs.put hs.link hs.hard hu.put hu.link hu.hard (ap (λ (l : List ℕ). 44 ∷ l) first.3) in
    rw (first.0, first.1, first.2, second.0, second.1, second.2) refl
  where
    behind : Sorts → List ℕ → List ℕ
    behind s a = three (codes " put ") s.put (codes ", link ") s.link (codes ", hard ") s.hard ++ (10 ∷ a)

    flat : (s : Sorts) (a : List ℕ) → sorts_text s ++ a ≡ three (codes "steps: gone ") s.gone (codes ", fresh ") s.fresh (codes ", mode ") s.mode ++ (44 ∷ (three (codes " put ") s.put (codes ", link ") s.link (codes ", hard ") s.hard ++ (10 ∷ a)))
    flat s a = append_assoc (three (codes "steps: gone ") s.gone (codes ", fresh ") s.fresh (codes ", mode ") s.mode ++ three (codes ", put ") s.put (codes ", link ") s.link (codes ", hard ") s.hard) (10 ∷ []) a
        ∙ append_assoc (three (codes "steps: gone ") s.gone (codes ", fresh ") s.fresh (codes ", mode ") s.mode) (three (codes ", put ") s.put (codes ", link ") s.link (codes ", hard ") s.hard) (10 ∷ a)

pub changes_apart : (c d : Counts) (s u : Sorts) (xs ys : List (List ℕ)) → AreSmallCounts c → AreSmallCounts d → AreSmallSorts s → AreSmallSorts u → AllLack 10 xs → AllLack 10 ys
    → done_text c s xs ≡ done_text d u ys → (c ≡ d) × (s ≡ u) × (xs ≡ ys)
changes_apart c d s u xs ys hc hd hs hu hx hy e =
    let first = licenses_apart xs ys (rest c s) (rest d u) hx hy (sym (done_flat c s xs) ∙ e ∙ done_flat d u ys) in
    let second = counts_apart c d (sorts_text s ++ line (codes "done")) (sorts_text u ++ line (codes "done")) hc hd (ap (λ (l : List ℕ). 105 ∷ l) first.1) in
    (second.0, sorts_apart s u (line (codes "done")) (line (codes "done")) hs hu second.1, first.0)
  where
    rest : Counts → Sorts → List ℕ
    rest c s = line (three (codes "nstall ") c.installs (codes ", update ") c.updates (codes ", remove ") c.removes) ++ (sorts_text s ++ line (codes "done"))

-- ---- a conflict

pub clashes_apart : (k f s k' f' s' : List ℕ) → AllLack 32 (f ∷ s ∷ []) → AllLack 32 (f' ∷ s' ∷ [])
    → line (codes "clash " ++ k ++ codes " " ++ f ++ codes " " ++ s) ≡ line (codes "clash " ++ k' ++ codes " " ++ f' ++ codes " " ++ s') → (k ≡ k') × (f ≡ f') × (s ≡ s')
clashes_apart k f s k' f' s' h h' e =
    let front = codes "clash " in
    let inner = append_cancel_right (front ++ k ++ codes " " ++ f ++ codes " " ++ s) (front ++ k' ++ codes " " ++ f' ++ codes " " ++ s') (10 ∷ []) e in
    let last = cut_last 32 (front ++ k ++ codes " " ++ f) s (front ++ k' ++ codes " " ++ f') s' h.1.0 h'.1.0 (gathered (front ++ k ++ codes " " ++ f) s ∙ inner ∙ sym (gathered (front ++ k' ++ codes " " ++ f') s')) in
    let first = cut_last 32 (front ++ k) f (front ++ k') f' h.0 h'.0 (gathered (front ++ k) f ∙ last.0 ∙ sym (gathered (front ++ k') f')) in
    (append_cancel_left front k k' first.0, first.1, last.1)
  where
    gathered : (a b : List ℕ) → a ++ 32 ∷ b ≡ a ++ codes " " ++ b
    gathered a b = sym (append_assoc a (codes " ") b)

-- ---- no solution

-- the words of a stem's line behind its number are those that are told
words_of_tried : (cs : List (Option Parts)) → flat_map candidate_text cs ≡ behind_blanks (map candidate_word cs)
words_of_tried [] = refl
words_of_tried (None ∷ cs) = ap (λ (l : List ℕ). 32 ∷ 45 ∷ l) (words_of_tried cs)
words_of_tried (Some v ∷ cs) = ap (λ (l : List ℕ). 32 ∷ (version_text v ++ l)) (words_of_tried cs)

words_lack : (c : ℕ) (ws : List (List ℕ)) → (32 == c) ≡ false → AllLack c ws → has_byte c (behind_blanks ws) ≡ false
words_lack c [] apart h = refl
words_lack c (w ∷ ws) apart h = or_from (32 == c) (has_byte c (w ++ behind_blanks ws)) apart (lacks_append c w (behind_blanks ws) h.0 (words_lack c ws apart h.1))

-- a stem's line, with what stands behind it
tried_flat : (i : ℕ) (t : Tried) (rest : List ℕ) → tried_text i t ++ rest ≡ codes "stem " ++ decimal i ++ (behind_blanks (tried_words t) ++ 10 ∷ rest)
tried_flat i t rest =
    append_assoc (codes "stem " ++ decimal i ++ 32 ∷ t.stem ++ flat_map candidate_text t.candidates.items) (10 ∷ []) rest
    ∙ append_assoc (codes "stem " ++ decimal i ++ 32 ∷ t.stem) (flat_map candidate_text t.candidates.items) (10 ∷ rest)
    ∙ append_assoc (codes "stem " ++ decimal i) (32 ∷ t.stem) (flat_map candidate_text t.candidates.items ++ 10 ∷ rest)
    ∙ ap (λ (l : List ℕ). codes "stem " ++ decimal i ++ l) (sym (append_assoc (32 ∷ t.stem) (flat_map candidate_text t.candidates.items) (10 ∷ rest)) ∙ ap (λ (l : List ℕ). 32 ∷ (t.stem ++ l) ++ 10 ∷ rest) (words_of_tried t.candidates.items))

unsolved_apart : (i : ℕ) (xs ys : List Tried) (a b : List ℕ) → AllByRecursion HasWords xs → AllByRecursion HasWords ys
    → tried_texts i xs ++ (114 ∷ a) ≡ tried_texts i ys ++ (114 ∷ b) → (map tried_words xs ≡ map tried_words ys) × (a ≡ b)
unsolved_apart i [] [] a b hx hy e = (refl, cc)
unsolved_apart i [] (y ∷ ys) a b hx hy e = absurd (false≢true (ap (begins (codes "s")) e))
unsolved_apart i (x ∷ xs) [] a b hx hy e = absurd (false≢true (ap (begins (codes "s")) (sym e)))
unsolved_apart i (x ∷ xs) (y ∷ ys) a b hx hy e =
    let behind_x = tried_texts (i + 1) xs ++ (114 ∷ a) in
    let behind_y = tried_texts (i + 1) ys ++ (114 ∷ b) in
    let whole = sym (append_assoc (tried_text i x) (tried_texts (i + 1) xs) (114 ∷ a)) ∙ e ∙ append_assoc (tried_text i y) (tried_texts (i + 1) ys) (114 ∷ b) in
    let right = append_cancel_left (codes "stem " ++ decimal i) (behind_blanks (tried_words x) ++ 10 ∷ behind_x) (behind_blanks (tried_words y) ++ 10 ∷ behind_y) (sym (tried_flat i x behind_x) ∙ whole ∙ tried_flat i y behind_y) in
    let first = cut_once 10 (behind_blanks (tried_words x)) behind_x (behind_blanks (tried_words y)) behind_y (words_lack 10 (tried_words x) refl hx.0.1) (words_lack 10 (tried_words y) refl hy.0.1) right in
    let words = words_apart (tried_words x) (tried_words y) hx.0.0 hy.0.0 first.0 in
    let rest = unsolved_apart (i + 1) xs ys a b hx.1 hy.1 first.1 in
    (rw (words, rest.0) refl, rest.1)

pub refuted_apart : (xs ys : List Tried) (es fs : List RefutationEntry) → AllByRecursion HasWords xs → AllByRecursion HasWords ys
    → tried_texts 0 xs ++ refutation_text es ≡ tried_texts 0 ys ++ refutation_text fs → (map tried_words xs ≡ map tried_words ys) × (refutation_text es ≡ refutation_text fs)
refuted_apart xs ys es fs hx hy e =
    let parts = unsolved_apart 0 xs ys (codes "efutation 2\n" ++ flat_map entry_text es) (codes "efutation 2\n" ++ flat_map entry_text fs) hx hy e in
    (parts.0, ap (λ (l : List ℕ). 114 ∷ l) parts.1)
