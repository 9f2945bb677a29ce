-- What the program answers of a line is what the line says.
use Rattle.std.proofs.Common.{◌≡◌, ℕ, ◌+◌, ◌<◌, ◌^◌, List, ◌++◌, length, Option, Some, None, Result, Ok, Err, refl, sym, ap, ◌∙◌, arith}
use Rattle.std.proofs.lemmas.List.{length-append}
use Rattle.ips_text.specs.declared.refusal.Stop.{Stop}
use Rattle.ips_text.proofs.Readers.{ok_is, ok_not_err, err_same}
use Rattle.ips_line.specs.declared.fault.Part.{Part}
use Rattle.ips_line.specs.Line.{is_blank, in_word, Payload, payload_written, Line, line_written, IsWrittenLine, Said, words_of, Says}
use Rattle.ips_line.specs.Reading.{some_at, payload_at, read_line, said_line, placed, fault_of, read_words}
use Rattle.ips_line.specs.Seen.{FitsBehind}
use Rattle.ips_line.proofs.Runs.{Reads-some}
use Rattle.ips_line.proofs.Heads.{PayloadRead, payload_seen}
use Rattle.ips_line.proofs.Whole.{line_found, line_only}
use Rattle.ips_line.proofs.Opened.{payload_takes}
use Rattle.ips_text.proofs.Runs.{run_is}
use Rattle.ips_text.specs.Reading.{run}

-- the line that was read
abbrev ReadLine : List ℕ → Said → Type 0
ReadLine text said = (line : Line) × (read_line text ≡ Ok line) × (words_of line ≡ said)

line_read : (text : List ℕ) (said : Said) → said_line (read_line text) ≡ Ok said → ReadLine text said
line_read text said e = go (read_line text) refl e
  where
    go : (r : Result Line (Stop Part)) → read_line text ≡ r → said_line r ≡ Ok said → ReadLine text said
    go (Ok line) h e = (line, h, ok_is {E = Stop Part} (words_of line) said e)
    go (Err s) h e = absurd (ok_not_err said s (sym e))

pub stopped_line : (text : List ℕ) (s : Stop Part) → said_line (read_line text) ≡ Err s → read_line text ≡ Err s
stopped_line text s e = go (read_line text) refl e
  where
    go : (r : Result Line (Stop Part)) → read_line text ≡ r → said_line r ≡ Err s → read_line text ≡ Err s
    go (Ok line) h e = absurd (ok_not_err (words_of line) s e)
    go (Err d) h e = h ∙ ap (λ (x : Stop Part). Err x) (err_same {A = Said} d s e)

pub words_found : (text : List ℕ) (said : Said) → said_line (read_line text) ≡ Ok said → Says said text
words_found text said e =
    let r = line_read text said e in
    let f = line_found text r.0 r.1 in
    (r.0, f.0, r.2, f.1)

pub words_only : (text : List ℕ) (line : Line) (said : Said) → said_line (read_line text) ≡ Ok said → IsWrittenLine line → text ≡ line_written line → words_of line ≡ said
words_only text line said e h spelled = ok_is {E = Stop Part} (words_of line) said (sym (ap said_line (ap read_line spelled ∙ line_only line h)) ∙ e)

pub words_exact : (text : List ℕ) (said : Said) → said_line (read_line text) ≡ Ok said → read_words text ≡ Ok said
unfolding read_words
words_exact text said e = let r = line_read text said e in ap (placed text) r.1 ∙ ap (λ (s : Said). Ok s) r.2

pub stopped_only : (text : List ℕ) (line : Line) (s : Stop Part) → said_line (read_line text) ≡ Err s → IsWrittenLine line → text ≡ line_written line → ⊥
stopped_only text line s e h spelled = ok_not_err (words_of line) s (sym (ap said_line (ap read_line spelled ∙ line_only line h)) ∙ e)

pub stopped_exact : (text : List ℕ) (s : Stop Part) → said_line (read_line text) ≡ Err s → read_words text ≡ Err (fault_of (length text) s.kind s.left)
unfolding read_words
stopped_exact text s e = ap (placed text) (stopped_line text s e)

-- ---- places can be counted

pub head_fits : (text before rest name behind : List ℕ) (p : PayloadRead) → run is_blank text ≡ (before, rest) → some_at in_word rest ≡ Ok (name, behind) → payload_at behind ≡ Ok p → length text < 2 ^ 64 → FitsBehind (length before + length name) p.0
head_fits text before rest name behind p blanks word next small =
    let b = run_is is_blank text in
    let first : text ≡ before ++ rest = b.parts ∙ ap (λ (x : List ℕ × List ℕ). x.0 ++ x.1) blanks in
    let t = (Reads-some in_word 97 refl).takes rest (name, behind) word in
    let q = payload_takes behind (payload_at behind) p (payload_seen behind) next in
    go p.0 q.0 (omega (arith, ap length first, length-append before rest, ap length t.0, length-append name behind))
  where
    go : (payload : Option Payload) → behind ≡ payload_written payload ++ p.1 → length before + length name + length behind < 2 ^ 64 → FitsBehind (length before + length name) payload
    go None parts lt = tt
    go (Some w) parts lt = omega (arith, ap length parts, length-append (w.gap ++ w.word) p.1, length-append w.gap w.word)
