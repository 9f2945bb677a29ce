-- Lines of requests are read in one way.
use Rattle.std.proofs.Common.{◌≡◌, ℕ, suc, ◌+◌, ◌*◌, ◌<◌, ◌≤◌, Bool, true, false, IsTrue, List, [], ◌∷◌, ◌++◌, length, Option, Some, None, refl, sym, ◌∙◌, ap, subst, arith, length-append}
use Rattle.std.specs.Prelude.{nat_le, codes}
use Rattle.std.specs.Option.{IsSome}
use Rattle.std.specs.List.{AllByRecursion, list_all}
use Rattle.std.proofs.lemmas.Bool.{agree_below_at}
use Rattle.std.specs.Str.{IsUtf8}
use Rattle.std.proofs.lemmas.Bool.Decides.{nat_tests}
use Rattle.std.proofs.lemmas.Fmt.{decimal_digit}
use Rattle.std.proofs.lemmas.List.{append-nil}
use Rattle.std.proofs.lemmas.List.Concat.{flat_map-cons}
use Rattle.ips_text.specs.Quote.{quoted, quoted_byte, fits_name, AreBytes}
use Rattle.ips_fmri.specs.Version.{Parts, numerals, part_text, stamp_text, stamp_part_text, version_text, IsStamp, IfStamp, IsVersion}
use Rattle.ips_text.specs.Cut.{has_byte, IsCut}
use Rattle.ips_records.specs.Form.{IsWord, words_text, IsRequestLine, IsMoment, AreWords, IsQuotedWord, HasStamp}
use Rattle.ips_text.proofs.Cuts.{cut_once, not_cut}
use Rattle.ips_records.proofs.Clear.{clear_lacks, word_clear, stamp_clear}
use Rattle.ips_records.specs.Listed.{Sole}
use Rattle.ips_text.proofs.Bytes.{text_bytes}
use Rattle.ips_text.proofs.Quotes.{quoted_most}
use Rattle.ips_records.proofs.FileNames.{is_low, low_append, low_stamp, low_version, low_text}

-- ---- words

words_cons : (w : List ℕ) (ws : List (List ℕ)) → words_text (w ∷ ws) ≡ 32 ∷ (quoted w ++ words_text ws)
words_cons w ws = flat_map-cons (λ word. 32 ∷ quoted word) w ws

word_lacks : (w : List ℕ) → IsWord w → has_byte 32 (quoted w) ≡ false
word_lacks w h = clear_lacks 32 (quoted w) (omega arith) (word_clear w h)

behind_blank : (bytes : List ℕ) (w : List ℕ) (ws : List (List ℕ)) → 32 ∷ bytes ≡ words_text (w ∷ ws) → bytes ≡ quoted w ++ words_text ws
behind_blank bytes w ws e = let whole : 32 ∷ bytes ≡ 32 ∷ (quoted w ++ words_text ws) = e ∙ words_cons w ws in cc

module _ (bytes first behind : List ℕ) (c : IsCut 32 bytes first behind) where
  -- words are cut behind the first
  pub words_cut : AreWords bytes → IsQuotedWord first × AreWords behind
  words_cut h = go h.0 h.1 h.2 h.3
    where
      go : (ws : List (List ℕ)) → 0 < length ws → AllByRecursion IsWord ws → 32 ∷ bytes ≡ words_text ws → IsQuotedWord first × AreWords behind
      go [] some all e = absurd (omega (arith, some))
      go (w ∷ []) some all e = absurd (not_cut 32 bytes first behind (ap (has_byte 32) (behind_blank bytes w [] e ∙ append-nil (quoted w)) ∙ word_lacks w all.0) c.parts)
      go (w ∷ v ∷ ws) some all e =
          let at = cut_once 32 (quoted w) (quoted v ++ words_text ws) first behind (word_lacks w all.0) c.first_lacks
          (ap (λ (l : List ℕ). quoted w ++ l) (sym (words_cons v ws)) ∙ sym (behind_blank bytes w (v ∷ ws) e) ∙ c.parts) in
          ((w, all.0, at.0), (v ∷ ws, omega arith, all.1, ap (λ (l : List ℕ). 32 ∷ l) (sym at.1) ∙ sym (words_cons v ws)))

  -- a word and words behind it are words
  pub words_join : IsQuotedWord first → AreWords behind → AreWords bytes
  words_join h t = (
    h.0 ∷ t.0,
    omega arith,
    (h.1, t.2),
    ap (λ (l : List ℕ). 32 ∷ l) (c.parts ∙ ap (λ (l : List ℕ). first ++ l) t.3 ∙ ap (λ (l : List ℕ). l ++ words_text t.0) (sym h.2)) ∙ sym (words_cons h.0 t.0),
  )

  -- a request is cut behind its moment
  pub request_cut : IsRequestLine bytes → IsMoment first × AreWords behind
  request_cut r = go r.words r.some r.each r.written
    where
      go : (ws : List (List ℕ)) → 0 < length ws → AllByRecursion IsWord ws → bytes ≡ stamp_text r.moment ++ words_text ws → IsMoment first × AreWords behind
      go [] some all e = absurd (omega (arith, some))
      go (w ∷ ws) some all e =
          let at = cut_once 32 (stamp_text r.moment) (quoted w ++ words_text ws) first behind (clear_lacks 32 (stamp_text r.moment) (omega arith) (stamp_clear r.moment)) c.first_lacks
          (ap (λ (l : List ℕ). stamp_text r.moment ++ l) (sym (words_cons w ws)) ∙ sym e ∙ c.parts) in
          ((r.moment, r.stamp, sym at.0), (w ∷ ws, omega arith, all, ap (λ (l : List ℕ). 32 ∷ l) (sym at.1) ∙ sym (words_cons w ws)))

  -- a moment and words behind it are a request
  pub request_join : IsMoment first → AreWords behind → IsRequestLine bytes
  request_join m t = record {
    moment = m.0;
    words = t.0;
    stamp = m.1;
    some = t.1;
    each = t.2;
    written = c.parts ∙ ap (λ (l : List ℕ). first ++ l) t.3 ∙ ap (λ (l : List ℕ). l ++ words_text t.0) m.2;
  }

module _ (bytes : List ℕ) (none : has_byte 32 bytes ≡ false) where
  -- without blanks words are one
  pub words_one : AreWords bytes → IsQuotedWord bytes
  words_one h = go h.0 h.1 h.2 h.3
    where
      go : (ws : List (List ℕ)) → 0 < length ws → AllByRecursion IsWord ws → 32 ∷ bytes ≡ words_text ws → IsQuotedWord bytes
      go [] some all e = absurd (omega (arith, some))
      go (w ∷ []) some all e = (w, all.0, sym (behind_blank bytes w [] e ∙ append-nil (quoted w)))
      go (w ∷ v ∷ ws) some all e = absurd (not_cut 32 bytes (quoted w) (quoted v ++ words_text ws) none (behind_blank bytes w (v ∷ ws) e ∙ ap (λ (l : List ℕ). quoted w ++ l) (words_cons v ws)))

  pub one_words : IsQuotedWord bytes → AreWords bytes
  one_words h = (h.0 ∷ [], omega arith, (h.1, tt), ap (λ (l : List ℕ). 32 ∷ l) (sym h.2 ∙ sym (append-nil (quoted h.0))) ∙ sym (words_cons h.0 []))

  -- and none is a request
  pub request_none : IsRequestLine bytes → ⊥
  request_none r = go r.words r.some r.written
    where
      go : (ws : List (List ℕ)) → 0 < length ws → bytes ≡ stamp_text r.moment ++ words_text ws → ⊥
      go [] some e = omega (arith, some)
      go (w ∷ ws) some e = not_cut 32 bytes (stamp_text r.moment) (quoted w ++ words_text ws) none (e ∙ ap (λ (l : List ℕ). stamp_text r.moment ++ l) (words_cons w ws))

-- ---- their text

byte_low : (b : ℕ) → b < 256 → list_all is_low (quoted_byte b) ≡ true
byte_low b lt = agree_below_at (λ b. list_all is_low (quoted_byte b)) (λ b. true) 256 b refl lt

quoted_low : (bytes : List ℕ) → AreBytes bytes → list_all is_low (quoted bytes) ≡ true
unfolding quoted
quoted_low [] h = refl
quoted_low (b ∷ bytes) h = ap (list_all is_low) (flat_map-cons quoted_byte b bytes) ∙ low_append (quoted_byte b) (quoted bytes) (byte_low b h.0) (quoted_low bytes h.1)

words_low : (ws : List (List ℕ)) → AllByRecursion IsWord ws → list_all is_low (words_text ws) ≡ true
words_low [] all = refl
words_low (w ∷ ws) all = ap (list_all is_low) (words_cons w ws) ∙ low_append (32 ∷ quoted w) (words_text ws) (quoted_low w (text_bytes w all.0.text)) (words_low ws all.1)

-- the line of a request is a text
pub request_word : (line : List ℕ) → IsRequestLine line → IsWord line
request_word line r = record {
  some = omega (arith, ap length r.written, length-append (stamp_text r.moment) (words_text r.words));
  text = subst IsUtf8 (sym r.written) (low_text (stamp_text r.moment ++ words_text r.words) (low_append (stamp_text r.moment) (words_text r.words) (low_stamp r.moment) (words_low r.words r.each)));
}

pub request_sole : (line : List ℕ) → IsRequestLine line → Sole (λ (l : List ℕ). l) IsRequestLine line
request_sole line r = record { fits = r; alone = λ other o e. e }

-- ---- moments

-- what is as long at the end of one list is the same
same_end : (x y a b : List ℕ) → x ++ a ≡ y ++ b → length a ≡ length b → a ≡ b
same_end [] [] a b e long = e
same_end [] (q ∷ y) a b e long = absurd (omega (arith, ap length e, length-append y b, long))
same_end (p ∷ x) [] a b e long = absurd (omega (arith, ap length e, length-append x a, long))
same_end (p ∷ x) (q ∷ y) a b e long = let rest : x ++ a ≡ y ++ b = cc in same_end x y a b rest long

fits : (n : ℕ) → n ≤ 255 → nat_le n 255 ≡ true
fits n le = grind (arith, nat_tests)

-- the version 0 with this timestamp
abbrev stamped : ℕ → Parts
stamped n = record { release = 0 ∷ []; build = []; branch = []; stamp = Some n }

stamped_text : (n : ℕ) → version_text (stamped n) ≡ 48 ∷ 58 ∷ stamp_text n
stamped_text n = ap (λ (d : List ℕ). d ++ [] ++ [] ++ 58 ∷ stamp_text n) (decimal_digit 0 (omega arith))

stamped_version : (n : ℕ) → IsStamp n → IsVersion (stamped n)
stamped_version n h = record {
  parts = record { release = omega arith; build = tt; branch = tt; stamp = h };
  short = fits (length (quoted (version_text (stamped n)))) (omega (arith, quoted_most (version_text (stamped n)), ap length (stamped_text n)));
}

pub moment_stamp : (bytes : List ℕ) → length bytes ≡ 16 → HasStamp (48 ∷ 58 ∷ bytes) → IsMoment bytes
moment_stamp bytes long h = go h.0.stamp h.1.parts.stamp h.2 h.3
  where
    go : (stamp : Option ℕ) → IfStamp stamp → IsSome stamp → 48 ∷ 58 ∷ bytes ≡ numerals h.0.release ++ part_text 44 h.0.build ++ part_text 45 h.0.branch ++ stamp_part_text stamp → IsMoment bytes
    go None fit some e = absurd cc
    go (Some n) fit some e =
        let ends : 58 ∷ bytes ≡ 58 ∷ stamp_text n = same_end (48 ∷ []) (numerals h.0.release ++ part_text 44 h.0.build ++ part_text 45 h.0.branch) (58 ∷ bytes) (58 ∷ stamp_text n) e (omega (arith, long)) in
        (n, fit, cc)

pub stamp_moment : (bytes : List ℕ) → IsMoment bytes → HasStamp (48 ∷ 58 ∷ bytes)
stamp_moment bytes h = (stamped h.0, stamped_version h.0 h.1, refl, ap (λ (l : List ℕ). 48 ∷ 58 ∷ l) h.2 ∙ sym (stamped_text h.0))

-- a version is text
pub stamp_utf8 : (text : List ℕ) → HasStamp text → IsUtf8 text
stamp_utf8 text h = subst IsUtf8 (sym h.3) (low_text (version_text h.0) (low_version h.0 h.1))
