-- The first word that goes wrong.
use Rattle.std.proofs.Common.{◌≡◌, ℕ, zero, suc, ◌+◌, ◌<◌, ◌≤◌, ◌⊎◌, inl, inr, Bool, true, false, if◌then◌else◌, List, [], ◌∷◌, ◌++◌, length, take, get_or, Option, Some, refl, sym, ap, subst, ◌∙◌, arith}
use Rattle.std.specs.Prelude.{codes, slice_get, Err}
use Rattle.ips_text.specs.declared.refusal.Or.{Or}
use Rattle.ips_text.specs.declared.refusal.Or.TheVariants.{Bad, OutOfMemory}
use Rattle.ips_text.specs.Reading.{IfBad}
use Rattle.std.proofs.lemmas.List.{take_all}
use Rattle.std.proofs.lemmas.Bool.{cases_Bool}
use Rattle.std.proofs.lemmas.Option.{slice_get_within, slice_get-get_or}
use Rattle.ips_fmri.specs.Name.{IsPublisher}
use Rattle.ips_fmri.specs.Version.{Parts}
use Rattle.ips_syntax.specs.declared.table.Why.{Why}
use Rattle.ips_syntax.specs.declared.table.Why.TheVariants.{Missing, Unknown, BadValue, Extra}
use Rattle.ips_words.specs.declared.what.Usage.{Usage}
use Rattle.ips_send_words.specs.declared.request.Request.{Request}
use Rattle.ips_send_words.specs.declared.request.Request.TheVariants.{Create, Publish}
use Rattle.ips_send_words.specs.Form.{Word, Form, AreOf, Begin}
use Rattle.ips_send_words.specs.Words.{Is, Names, NamesSome, IsManifestPath, front_form, create_form, publish_form, Asks, BeginEither, IsOperand, IsWhy, IsOption, IsNoValue, IsNoWord, IsBehind, Ends, IsUsage, begins_with_dash}
use Rattle.ips_send_words.specs.Reading.{IsWrong, operand_cause}
use Rattle.ips_send_words.proofs.Forms.{at, begin_by, begin_at, of_begin, of_length, begin_more, all_of}

one : (o : Option Word) (a b : Word) → o ≡ Some a → o ≡ Some b → b ≡ a
one o a b x y = cc

not_publish : codes "create" ≡ codes "publish" → ⊥
not_publish e = omega (arith, ap length e)

not_create : codes "publish" ≡ codes "create" → ⊥
not_create e = omega (arith, ap length e)

module _ (words : List Word) where
  -- no form goes on up to a word behind one that isn't what the form has there
  pub stop : (form : Form) (place p : ℕ) (w : Word) → slice_get words p ≡ Some w → p ≤ place → (at form p w → ⊥) → Begin form (take (place + 1) words) → ⊥
  stop form place p w there le not h = not (begin_at form words (place + 1) p w h (omega (arith, le)) there)

  -- the words of the front, as far as they stand
  pub front_by : (tail : Form) (n : ℕ) → n ≤ 5 → (0 < n → slice_get words 0 ≡ Some (codes "send")) → (1 < n → slice_get words 1 ≡ Some (codes "-s")) → (3 < n → slice_get words 3 ≡ Some (codes "-d")) → Begin (front_form ++ tail) (take n words)
  front_by tail n le send target folder = begin_by (front_form ++ tail) words n each
    where
      each : (p : ℕ) (w : Word) → p < n → slice_get words p ≡ Some w → at (front_form ++ tail) p w
      each zero w lt there = one _ _ w (send lt) there
      each (suc zero) w lt there = one _ _ w (target lt) there
      each (suc (suc zero)) w lt there = tt
      each (suc (suc (suc zero))) w lt there = one _ _ w (folder lt) there
      each (suc (suc (suc (suc zero)))) w lt there = tt
      each (suc (suc (suc (suc (suc p))))) w lt there = absurd (omega (arith, lt, le))

  pub create_front : (n : ℕ) → n ≤ 5 → (0 < n → slice_get words 0 ≡ Some (codes "send")) → (1 < n → slice_get words 1 ≡ Some (codes "-s")) → (3 < n → slice_get words 3 ≡ Some (codes "-d")) → Begin create_form (take n words)
  create_front n le send target folder = front_by (Is (codes "create") ∷ IsPublisher ∷ []) n le send target folder

  module _ (moment : ℕ) where
    neither_by : (no_create : AreOf create_form words → ⊥) (no_publish : AreOf (publish_form moment) words → ⊥) (request : Request) → Asks moment words request → ⊥
    neither_by no_create no_publish (Create publisher) asks = no_create asks.0
    neither_by no_create no_publish (Publish publisher stem version path) asks = no_publish asks.0

    -- a word is wrong
    pub word_usage : (place : ℕ) (why : Why) → place < length words → BeginEither moment (take place words)
        → (Begin create_form (take (place + 1) words) → ⊥) → (Begin (publish_form moment) (take (place + 1) words) → ⊥) → IsWhy words place why → IsUsage moment words place why
    word_usage place why lt begins no_create no_publish cause = record {
      within = omega (arith, lt);
      begins = begins;
      stops = λ l b. either b;
      neither = neither_by (λ h. no_create (of_begin create_form words (place + 1) h)) (λ h. no_publish (of_begin (publish_form moment) words (place + 1) h));
      cause = cause;
    }
      where
        either : BeginEither moment (take (place + 1) words) → ⊥
        either (inl h) = no_create h
        either (inr h) = no_publish h

    -- a further word is needed
    pub end_usage : (place : ℕ) → length words ≤ place → BeginEither moment (take place words) → (AreOf create_form words → ⊥) → (AreOf (publish_form moment) words → ⊥) → IsUsage moment words (length words) Missing
    end_usage place le begins no_create no_publish = record {
      within = omega arith;
      begins = subst (BeginEither moment) (take_all place words le ∙ sym (take_all (length words) words (omega arith))) begins;
      stops = λ lt. absurd (omega (arith, lt));
      neither = neither_by no_create no_publish;
      cause = Ends refl;
    }

    short_create : length words ≤ 6 → AreOf create_form words → ⊥
    short_create le h = omega (arith, le, of_length create_form words h)

    short_publish : length words ≤ 7 → AreOf (publish_form moment) words → ⊥
    short_publish le h = omega (arith, le, of_length (publish_form moment) words h)

    told : (place : ℕ) (why : Why) (usage : Usage) → usage.place ≡ place → usage.why ≡ why → IsUsage moment words place why → IsUsage moment words usage.place usage.why
    told place why usage p w is = subst (λ (n : ℕ). IsUsage moment words n usage.why) (sym p) (subst (IsUsage moment words place) (sym w) is)

    -- a word of the front is wrong
    pub front_wrong : (place : ℕ) (wanted : Word) (usage : Usage) → place < 5 → Begin create_form (take place words) → ((w : Word) → at create_form place w → w ≡ wanted) → ((w : Word) → at (publish_form moment) place w → w ≡ wanted)
        → IsWrong words place (λ word. word ≡ wanted) (λ word. Unknown) usage → IsUsage moment words usage.place usage.why
    front_wrong place wanted usage few h create publish (inl (le, p, w)) =
        told (length words) Missing usage p w (end_usage place le (inl h) (short_create (omega (arith, le, few))) (short_publish (omega (arith, le, few))))
    front_wrong place wanted usage few h create publish (inr (word, there, not, p, w)) =
        told place Unknown usage p w (word_usage place Unknown (slice_get_within words place word there) (inl h)
        (stop create_form place place word there (omega arith) (λ is. not (create word is))) (stop (publish_form moment) place place word there (omega arith) (λ is. not (publish word is)))
        (IsNoWord (omega (arith, few)) (slice_get_within words place word there)))

    -- the word behind the front is no verb
    pub verb_wrong : (word : Word) → Begin create_form (take 5 words) → slice_get words 5 ≡ Some word → (word ≡ codes "create" → ⊥) → (word ≡ codes "publish" → ⊥) → IsUsage moment words 5 Unknown
    verb_wrong word h there no_create no_publish =
        word_usage 5 Unknown (slice_get_within words 5 word there) (inl h) (stop create_form 5 5 word there (omega arith) no_create) (stop (publish_form moment) 5 5 word there (omega arith) no_publish)
        (IsNoWord (omega arith) (slice_get_within words 5 word there))

    -- or it is missing
    pub verb_missing : (usage : Usage) → usage.place ≡ length words → usage.why ≡ Missing → Begin create_form (take 5 words) → length words ≤ 5 → IsUsage moment words usage.place usage.why
    verb_missing usage p w h le = told (length words) Missing usage p w (end_usage 5 le (inl h) (short_create (omega (arith, le))) (short_publish (omega (arith, le))))

    why_operand : (place : ℕ) (word : Word) → IsOperand words place → slice_get words place ≡ Some word → IsWhy words place (operand_cause word)
    why_operand place word is there = go (begins_with_dash word) refl
      where
        go : (b : Bool) → begins_with_dash word ≡ b → IsWhy words place (if b then Unknown else BadValue)
        go true e = IsOption word is there e
        go false e = IsNoValue word is there e

    module _ (front : Begin create_form (take 5 words)) (verb : slice_get words 5 ≡ Some (codes "create")) where
      pub created : Begin create_form (take 6 words)
      created = begin_more create_form words 5 (codes "create") front verb refl

      no_publish : (place : ℕ) → 5 ≤ place → Begin (publish_form moment) (take (place + 1) words) → ⊥
      no_publish place le = stop (publish_form moment) place 5 (codes "create") verb le not_publish

      pub create_wrong : (usage : Usage) → IsWrong words 6 IsPublisher operand_cause usage → IsUsage moment words usage.place usage.why
      create_wrong usage (inl (le, p, w)) = told (length words) Missing usage p w (end_usage 6 le (inl created) (short_create le) (short_publish (omega (arith, le))))
      create_wrong usage (inr (word, there, not, p, w)) =
          told 6 (operand_cause word) usage p w (word_usage 6 (operand_cause word) (slice_get_within words 6 word there) (inl created) (stop create_form 6 6 word there (omega arith) not) (no_publish 6 (omega arith))
          (why_operand 6 word (inl refl) there))

      module _ (publisher : Word) (there : slice_get words 6 ≡ Some publisher) (is : IsPublisher publisher) where
        create_whole : Begin create_form (take 7 words)
        create_whole = begin_more create_form words 6 publisher created there is

        pub create_extra : 7 < length words → IsUsage moment words 7 Extra
        create_extra lt =
            word_usage 7 Extra lt (inl create_whole) (stop create_form 7 7 (get_or words 7 []) (slice_get-get_or words 7 [] lt) (omega arith) (λ h. h)) (no_publish 7 (omega arith)) (IsBehind (omega arith) (λ operand. no_operand operand) lt)
          where
            no_operand : IsOperand words 7 → ⊥
            no_operand (inl e) = omega (arith, e)
            no_operand (inr e) = not_publish (one _ (codes "publish") (codes "create") e.1 verb)

        pub create_asks : length words ≤ 7 → Asks moment words (Create publisher)
        create_asks le = (all_of create_form words 7 create_whole le (let lt = slice_get_within words 6 publisher there in omega (arith, lt)) refl, there)

    module _ (front : Begin (publish_form moment) (take 5 words)) (verb : slice_get words 5 ≡ Some (codes "publish")) where
      publishes : Begin (publish_form moment) (take 6 words)
      publishes = begin_more (publish_form moment) words 5 (codes "publish") front verb refl

      no_create : (place : ℕ) → 5 ≤ place → Begin create_form (take (place + 1) words) → ⊥
      no_create place le = stop create_form place 5 (codes "publish") verb le not_create

      unmade : AreOf create_form words → ⊥
      unmade h = no_create 5 (omega arith) (of_begin create_form words 6 h)

      -- the name of the version is wrong
      pub name_wrong : (usage : Usage) → IsWrong words 6 (NamesSome moment) operand_cause usage → IsUsage moment words usage.place usage.why
      name_wrong usage (inl (le, p, w)) = told (length words) Missing usage p w (end_usage 6 le (inr publishes) unmade (short_publish (omega (arith, le))))
      name_wrong usage (inr (word, there, not, p, w)) =
          told 6 (operand_cause word) usage p w (word_usage 6 (operand_cause word) (slice_get_within words 6 word there) (inr publishes) (no_create 6 (omega arith)) (stop (publish_form moment) 6 6 word there (omega arith) not)
          (why_operand 6 word (inl refl) there))

      module _ (word publisher stem : Word) (version : Parts) (there : slice_get words 6 ≡ Some word) (is : Names moment word publisher stem version) where
        named : Begin (publish_form moment) (take 7 words)
        named = begin_more (publish_form moment) words 6 word publishes there (publisher, stem, version, is)

        -- the path is wrong
        pub path_wrong : (usage : Usage) → IsWrong words 7 IsManifestPath operand_cause usage → IsUsage moment words usage.place usage.why
        path_wrong usage (inl (le, p, w)) = told (length words) Missing usage p w (end_usage 7 le (inr named) unmade (short_publish le))
        path_wrong usage (inr (path, at_path, not, p, w)) =
            told 7 (operand_cause path) usage p w (word_usage 7 (operand_cause path) (slice_get_within words 7 path at_path) (inr named) (no_create 7 (omega arith)) (stop (publish_form moment) 7 7 path at_path (omega arith) not)
            (why_operand 7 path (inr (refl, verb)) at_path))

        module _ (path : Word) (at_path : slice_get words 7 ≡ Some path) (is_path : IsManifestPath path) where
          publish_whole : Begin (publish_form moment) (take 8 words)
          publish_whole = begin_more (publish_form moment) words 7 path named at_path is_path

          pub publish_extra : 8 < length words → IsUsage moment words 8 Extra
          publish_extra lt =
              word_usage 8 Extra lt (inr publish_whole) (no_create 8 (omega arith)) (stop (publish_form moment) 8 8 (get_or words 8 []) (slice_get-get_or words 8 [] lt) (omega arith) (λ h. h)) (IsBehind (omega arith) (λ operand. no_operand operand) lt)
            where
              no_operand : IsOperand words 8 → ⊥
              no_operand (inl e) = omega (arith, e)
              no_operand (inr e) = omega (arith, e.0)

          pub publish_all : length words ≤ 8 → AreOf (publish_form moment) words
          publish_all le = all_of (publish_form moment) words 8 publish_whole le (let lt = slice_get_within words 7 path at_path in omega (arith, lt)) refl

-- the same, unless memory ran out
pub create_bad : (words : List Word) → Begin create_form (take 5 words) → slice_get words 5 ≡ Some (codes "create") → (X Y : Type 0) (e : Or Usage)
    → IfBad {X = X} (Err e) (IsWrong words 6 IsPublisher operand_cause) → IfBad {X = Y} (Err e) (λ usage. (moment : ℕ) → IsUsage moment words usage.place usage.why)
create_bad words front verb X Y (Bad usage) wrong = λ moment. create_wrong words moment front verb usage wrong
create_bad words front verb X Y OutOfMemory wrong = tt

pub name_bad : (words : List Word) (moment : ℕ) → Begin (publish_form moment) (take 5 words) → slice_get words 5 ≡ Some (codes "publish") → (X Y : Type 0) (e : Or Usage)
    → IfBad {X = X} (Err e) (IsWrong words 6 (NamesSome moment) operand_cause) → IfBad {X = Y} (Err e) (λ usage. IsUsage moment words usage.place usage.why)
name_bad words moment front verb X Y (Bad usage) wrong = name_wrong words moment front verb usage wrong
name_bad words moment front verb X Y OutOfMemory wrong = tt

pub path_bad : (words : List Word) (moment : ℕ) → Begin (publish_form moment) (take 5 words) → slice_get words 5 ≡ Some (codes "publish") → (word publisher stem : Word) (version : Parts) → slice_get words 6 ≡ Some word → Names moment word publisher stem version
    → (X Y : Type 0) (e : Or Usage) → IfBad {X = X} (Err e) (IsWrong words 7 IsManifestPath operand_cause) → IfBad {X = Y} (Err e) (λ usage. IsUsage moment words usage.place usage.why)
path_bad words moment front verb word publisher stem version there is X Y (Bad usage) wrong = path_wrong words moment front verb word publisher stem version there is usage wrong
path_bad words moment front verb word publisher stem version there is X Y OutOfMemory wrong = tt
