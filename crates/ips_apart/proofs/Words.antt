-- Words that reports have, and how an actuator that failed is told.
use lib.Chars.{codes}
use Rattle.std.proofs.Common.{◌≡◌, ℕ, suc, cond, ◌<◌, ◌/◌, ◌%◌, ◌^◌, Bool, true, false, eqb, List, [], ◌∷◌, ◌++◌, refl, sym, ap, ◌∙◌, arith}
use Rattle.std.specs.Fmt.{decimal}
use Rattle.std.specs.List.{slice_index}
use Rattle.std.proofs.lemmas.Bool.{agree_below_at}
use Rattle.std.proofs.lemmas.List.{append_assoc, append_cancel_left, append_cancel_right}
use Rattle.hex.specs.Hex.{IsBytes, encode_lower, encode_with, lower_digits}
use Rattle.ips_text.specs.Cut.{has_byte}
use Rattle.ips_text.proofs.Cuts.{cut_once, lacks_append}
use Rattle.ips_steps.specs.Private.{begins}
use Rattle.ips_digest.specs.Name.{IsName, spelling}
use Rattle.ips_digest.specs.declared.name.PayloadName.{PayloadName}
use Rattle.ips_digest.specs.declared.name.PayloadName.TheVariants.{Sha1, Sha256}
use Rattle.ips_books.specs.declared.books.Book.{Book}
use Rattle.ips_books.specs.declared.books.Book.TheVariants.{Passwd, Shadow, Group}
use Rattle.ips_syntax.specs.declared.table.Why.{Why}
use Rattle.ips_syntax.specs.declared.table.Why.TheVariants.{Missing, Unknown, Repeated, BadValue, Extra}
use Rattle.ips_report.specs.Report.{behind_blanks, book_text, failed_text, folder_text, line, recovered_text, when_text, why_text}
use Rattle.ips_apart.specs.Kind.{AllLack}
use Rattle.ips_apart.proofs.Pieces.{colon, number_before, words_apart}

-- ---- words of a kind

-- the reason that a word tells
abbrev why_read : List ℕ → Why
why_read text = cond (begins (codes "m") text) Missing (cond (begins (codes "u") text) Unknown (cond (begins (codes "r") text) Repeated (cond (begins (codes "b") text) BadValue Extra)))

why_back : (x : Why) → why_read (why_text x) ≡ x
why_back Missing = refl
why_back Unknown = refl
why_back Repeated = refl
why_back BadValue = refl
why_back Extra = refl

pub why_apart : (x y : Why) → why_text x ≡ why_text y → x ≡ y
why_apart x y e = sym (why_back x) ∙ ap why_read e ∙ why_back y

-- the account file that a word tells
abbrev book_read : List ℕ → Book
book_read text = cond (begins (codes "p") text) Passwd (cond (begins (codes "s") text) Shadow Group)

book_back : (x : Book) → book_read (book_text x) ≡ x
book_back Passwd = refl
book_back Shadow = refl
book_back Group = refl

pub book_apart : (x y : Book) → book_text x ≡ book_text y → x ≡ y
book_apart x y e = sym (book_back x) ∙ ap book_read e ∙ book_back y

when_back : (x : Bool) → begins (codes "a") (when_text x) ≡ x
when_back true = refl
when_back false = refl

pub when_apart : (x y : Bool) → when_text x ≡ when_text y → x ≡ y
when_apart x y e = sym (when_back x) ∙ ap (begins (codes "a")) e ∙ when_back y

when_lacks : (x : Bool) → has_byte 32 (when_text x) ≡ false
when_lacks true = refl
when_lacks false = refl

recovered_back : (x : Bool) → begins (codes "recovered: n") (recovered_text x) ≡ x
recovered_back true = refl
recovered_back false = refl

pub recovered_apart : (x y : Bool) → recovered_text x ≡ recovered_text y → x ≡ y
recovered_apart x y e = sym (recovered_back x) ∙ ap (begins (codes "recovered: n")) e ∙ recovered_back y

folder_back : (x : Bool) → begins (codes "folder fault: unf") (folder_text x) ≡ x
folder_back true = refl
folder_back false = refl

pub folder_apart : (x y : Bool) → folder_text x ≡ folder_text y → x ≡ y
folder_apart x y e = sym (folder_back x) ∙ ap (begins (codes "folder fault: unf")) e ∙ folder_back y

-- ---- names of payloads

digit_lacks : (d : ℕ) → d < 16 → eqb (slice_index lower_digits d) 32 ≡ false
digit_lacks d h = agree_below_at (λ k. eqb (slice_index lower_digits k) 32) (λ _. false) 16 d refl h

spelled_lacks : (bytes : List ℕ) → IsBytes bytes → has_byte 32 (encode_lower bytes) ≡ false
unfolding encode_with
spelled_lacks [] h = refl
spelled_lacks (b ∷ rest) h =
    let fits : b < 256 = h 0 in
    rw (digit_lacks (b / 16) (omega arith), digit_lacks (b % 16) (omega arith), spelled_lacks rest (λ k. h (suc k))) refl

pub name_lacks : (name : PayloadName) → IsName name → has_byte 32 (spelling name) ≡ false
unfolding spelling
name_lacks (Sha1 bytes) h = spelled_lacks bytes h.1
name_lacks (Sha256 bytes) h = spelled_lacks bytes h.1

-- ---- an actuator that failed

pub actuators_apart : (x y : Bool) (ws vs : List (List ℕ)) (a b : ℕ) → AllLack 32 ws → AllLack 32 vs → a < 2 ^ 64 → b < 2 ^ 64
    → line (failed_text x a ++ behind_blanks ws) ≡ line (failed_text y b ++ behind_blanks vs) → (x ≡ y) × (a ≡ b) × (ws ≡ vs)
actuators_apart x y ws vs a b hw hv ha hb e =
    let inner = append_cancel_right (failed_text x a ++ behind_blanks ws) (failed_text y b ++ behind_blanks vs) (10 ∷ []) e in
    let right = append_cancel_left (codes "actuator failed ") (behind x a ws) (behind y b vs) (sym (flat x a ws) ∙ inner ∙ flat y b vs) in
    let first = cut_once 32 (when_text x) (decimal a ++ 58 ∷ behind_blanks ws) (when_text y) (decimal b ++ 58 ∷ behind_blanks vs) (when_lacks x) (when_lacks y) right in
    let second = number_before 58 a b (behind_blanks ws) (behind_blanks vs) colon ha hb first.1 in
    (when_apart x y first.0, second.0, words_apart ws vs hw hv second.1)
  where
    behind : Bool → ℕ → List (List ℕ) → List ℕ
    behind x a ws = when_text x ++ 32 ∷ (decimal a ++ 58 ∷ behind_blanks ws)

    flat : (x : Bool) (a : ℕ) (ws : List (List ℕ)) → failed_text x a ++ behind_blanks ws ≡ codes "actuator failed " ++ (when_text x ++ 32 ∷ (decimal a ++ 58 ∷ behind_blanks ws))
    flat x a ws = append_assoc (codes "actuator failed " ++ when_text x ++ codes " " ++ decimal a) (codes ":") (behind_blanks ws) ∙ append_assoc (codes "actuator failed " ++ when_text x ++ codes " ") (decimal a) (58 ∷ behind_blanks ws) ∙ append_assoc (codes "actuator failed " ++ when_text x) (codes " ") (decimal a ++ 58 ∷ behind_blanks ws) ∙ append_assoc (codes "actuator failed ") (when_text x) (32 ∷ (decimal a ++ 58 ∷ behind_blanks ws))

-- ---- the stems that a pattern may name

pub stems_apart : (p q : List ℕ) (xs ys : List (List ℕ)) → AllLack 32 (p ∷ xs) → AllLack 32 (q ∷ ys)
    → line (codes "ambiguous " ++ p ++ codes ":" ++ behind_blanks xs) ≡ line (codes "ambiguous " ++ q ++ codes ":" ++ behind_blanks ys) → (p ≡ q) × (xs ≡ ys)
stems_apart p q xs ys hp hq e =
    let front = codes "ambiguous " in
    let colon_text = codes ":" in
    let inner = append_cancel_right (front ++ p ++ colon_text ++ behind_blanks xs) (front ++ q ++ colon_text ++ behind_blanks ys) (10 ∷ []) e in
    let right = append_cancel_left front (p ++ colon_text ++ behind_blanks xs) (q ++ colon_text ++ behind_blanks ys) (sym (flat p xs) ∙ inner ∙ flat q ys) in
    let words = words_apart ((p ++ colon_text) ∷ xs) ((q ++ colon_text) ∷ ys) (lacks_append 32 p colon_text hp.0 refl, hp.1) (lacks_append 32 q colon_text hq.0 refl, hq.1) (ap (λ (l : List ℕ). 32 ∷ l) right) in
    (append_cancel_right p q colon_text (ap first_of words), ap rest_of words)
  where
    first_of : List (List ℕ) → List ℕ
    first_of [] = []
    first_of (x ∷ l) = x

    rest_of : List (List ℕ) → List (List ℕ)
    rest_of [] = []
    rest_of (x ∷ l) = l

    flat : (p : List ℕ) (xs : List (List ℕ)) → codes "ambiguous " ++ p ++ codes ":" ++ behind_blanks xs ≡ codes "ambiguous " ++ (p ++ codes ":" ++ behind_blanks xs)
    flat p xs = append_assoc (codes "ambiguous " ++ p) (codes ":") (behind_blanks xs) ∙ append_assoc (codes "ambiguous ") p (codes ":" ++ behind_blanks xs) ∙ ap (λ (l : List ℕ). codes "ambiguous " ++ l) (sym (append_assoc p (codes ":") (behind_blanks xs)))
