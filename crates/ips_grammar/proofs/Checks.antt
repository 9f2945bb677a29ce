-- Whether a value is what a check asks for is decided.
use Rattle.std.proofs.Common.{◌≡◌, ◌⊎◌, inl, inr, ℕ, ◌<◌, ◌≤◌, true, false, ◌==◌, List, [], ◌∷◌, length, get_or, Option, Some, None, refl, sym, ◌∙◌, subst}
use Rattle.std.specs.Prelude.{codes}
use Rattle.std.specs.Char.{digit_value}
use Rattle.std.specs.List.{AllByRecursion, list_any}
use Rattle.std.specs.Str.{IsUtf8, is_utf8}
use Rattle.std.specs.Str.Parse.{AllDigits}
use Rattle.std.proofs.lemmas.Str.{IsUtf8-from_is_utf8, is_utf8-from_IsUtf8}
use Rattle.std.proofs.lemmas.List.Elements.{All-from_recursion, recursion_from_All}
use Rattle.std.proofs.lemmas.Option.{none-some, same_Some}
use Rattle.ips_text.specs.declared.path.PathFault.{PathFault}
use Rattle.ips_text.specs.declared.path.PathFault.TheVariants.{Empty, Absolute, DotPart, EmptyPart, NulByte, NotText, TooLong}
use Rattle.ips_text.specs.Path.{parts, is_dots, is_nothing, is_long, begins_at_root, Has, IsPath, in_order}
use Rattle.ips_text.specs.Mode.{IsOctal}
use Rattle.ips_text.specs.Quote.{fits_name}
use Rattle.ips_digest.specs.Name.{AreNameDigits, is_lower_digit}
use Rattle.ips_action.specs.declared.check.Check.{Check}
use Rattle.ips_action.specs.declared.check.Check.TheVariants.{Anything, Path, Mode, Payload, Preserve, Overlay, LinkTarget, HardlinkTarget, Numbers, Priority, Account, Id, Field, FileName, Flag, FacetTag}
use Rattle.ips_action.specs.Target.{walk, start}
use Rattle.ips_action.specs.Check.{IsOneOf, last_of, IsActionPath, IsLinkTarget, LeadsInside, begins_with_mark, IsField, IsAccount, IsFileName, preserve_words, Meets}
use Rattle.ips_grammar.proofs.Decided.{Decided, with_it, both, either, unless, each, is_true, is_false, is_below, is_up_to, same_number, same_bytes}
use Rattle.ips_grammar.proofs.Numbers.{is_id, are_numerals}

is_one_of : (words : List (List ℕ)) (value : List ℕ) → Decided (IsOneOf words value)
is_one_of [] value = inr (λ h. h)
is_one_of (word ∷ words) value = either (same_bytes value word) (is_one_of words value)

-- ---- paths

is_text : (bytes : List ℕ) → Decided (IsUtf8 bytes)
is_text bytes = with_it (is_utf8 bytes ≡ true) (IsUtf8 bytes) (IsUtf8-from_is_utf8 bytes) (is_utf8-from_IsUtf8 bytes) (is_true (is_utf8 bytes))

has : (bytes : List ℕ) (fault : PathFault) → Decided (Has fault bytes)
has bytes Empty = is_true (is_nothing bytes)
has bytes Absolute = is_true (begins_at_root bytes)
has bytes DotPart = is_true (list_any is_dots (parts bytes))
has bytes EmptyPart = is_true (list_any is_nothing (parts bytes))
has bytes NulByte = is_true (list_any (λ b. b == 0) bytes)
has bytes NotText = unless (is_text bytes)
has bytes TooLong = either (is_below 1023 (length bytes)) (is_true (list_any is_long (parts bytes)))

fault_stands : (P : PathFault → Type 0) → AllByRecursion P in_order → (fault : PathFault) → P fault
fault_stands P h Empty = h.0
fault_stands P h Absolute = h.1.0
fault_stands P h DotPart = h.1.1.0
fault_stands P h EmptyPart = h.1.1.1.0
fault_stands P h NulByte = h.1.1.1.1.0
fault_stands P h NotText = h.1.1.1.1.1.0
fault_stands P h TooLong = h.1.1.1.1.1.1.0

is_path : (bytes : List ℕ) → Decided (IsPath bytes)
is_path bytes =
    with_it (AllByRecursion (λ fault. Has fault bytes → ⊥) in_order) (IsPath bytes) (fault_stands (λ fault. Has fault bytes → ⊥))
    (λ h. (h Empty, (h Absolute, (h DotPart, (h EmptyPart, (h NulByte, (h NotText, (h TooLong, tt))))))))
    (each (λ fault. Has fault bytes → ⊥) (λ fault. unless (has bytes fault)) in_order)

is_action_path : (path : List ℕ) → Decided (IsActionPath path)
is_action_path path =
    with_it (IsPath path × ((length path ≤ 960) × (length (last_of (parts path)) ≤ 240))) (IsActionPath path)
    (λ h. record { proper = h.0; short = h.1.0; last = h.1.1 }) (λ p. (p.proper, (p.short, p.last)))
    (both (is_path path) (both (is_up_to (length path) 960) (is_up_to (length (last_of (parts path))) 240)))

leads_inside : (path target : List ℕ) → Decided (LeadsInside path target)
leads_inside path target = go (walk (parts target) (start path target)) refl
  where
    go : (o : Option (List ℕ)) → walk (parts target) (start path target) ≡ o → Decided (LeadsInside path target)
    go None e = inr (λ w. none-some w.0 (sym e ∙ w.1.walked))
    go (Some found) e =
        with_it (IsPath found) (LeadsInside path target) (λ inside. (found, record { walked = e; inside = inside })) (λ w. subst IsPath (same_Some w.0 found (sym w.1.walked ∙ e)) w.1.inside) (is_path found)

-- ---- other values

all_digits : (radix : ℕ) (bytes : List ℕ) → Decided (AllDigits radix bytes)
all_digits radix [] = inl tt
all_digits radix (b ∷ bytes) = both (is_below (digit_value b) radix) (all_digits radix bytes)

is_octal : (bytes : List ℕ) → Decided (IsOctal bytes)
is_octal bytes =
    with_it (AllDigits 8 bytes × ((0 < length bytes) × ((length bytes ≤ 4) ⊎ ((length bytes ≡ 5) × (get_or bytes 0 0 ≡ 48))))) (IsOctal bytes)
    (λ h. record { digits = h.0; some = h.1.0; few = h.1.1 }) (λ o. (o.digits, (o.some, o.few)))
    (both (all_digits 8 bytes) (both (is_below 0 (length bytes)) (either (is_up_to (length bytes) 4) (both (same_number (length bytes) 5) (same_number (get_or bytes 0 0) 48)))))

pub are_digits : (text : List ℕ) → Decided (AreNameDigits text)
are_digits text =
    with_it (((length text ≡ 40) ⊎ (length text ≡ 64)) × AllByRecursion (λ b. is_lower_digit b ≡ true) text) (AreNameDigits text)
    (λ h. record { count = h.0; digits = All-from_recursion (λ b. is_lower_digit b ≡ true) text h.1 }) (λ d. (d.count, recursion_from_All (λ b. is_lower_digit b ≡ true) text d.digits))
    (both (either (same_number (length text) 40) (same_number (length text) 64)) (each (λ b. is_lower_digit b ≡ true) (λ b. is_true (is_lower_digit b)) text))

is_link_target : (target : List ℕ) → Decided (IsLinkTarget target)
is_link_target target =
    with_it ((0 < length target) × ((length target ≤ 4095) × (list_any (λ b. b == 0) target ≡ false))) (IsLinkTarget target)
    (λ h. record { some = h.0; short = h.1.0; text = h.1.1 }) (λ t. (t.some, (t.short, t.text)))
    (both (is_below 0 (length target)) (both (is_up_to (length target) 4095) (is_false (list_any (λ b. b == 0) target))))

is_field : (value : List ℕ) → Decided (IsField value)
is_field value = is_false (list_any (λ b. b == 58) value)

is_account : (name : List ℕ) → Decided (IsAccount name)
is_account name =
    with_it ((0 < length name) × (IsField name × ((list_any (λ b. b == 44) name ≡ false) × (begins_with_mark name ≡ false)))) (IsAccount name)
    (λ h. record { some = h.0; field = h.1.0; single = h.1.1.0; unmarked = h.1.1.1 }) (λ a. (a.some, (a.field, (a.single, a.unmarked))))
    (both (is_below 0 (length name)) (both (is_field name) (both (is_false (list_any (λ b. b == 44) name)) (is_false (begins_with_mark name)))))

is_file_name : (name : List ℕ) → Decided (IsFileName name)
is_file_name name =
    with_it ((0 < length name) × ((fits_name name ≡ true) × (is_dots name ≡ false))) (IsFileName name)
    (λ h. record { some = h.0; short = h.1.0; proper = h.1.1 }) (λ f. (f.some, (f.short, f.proper)))
    (both (is_below 0 (length name)) (both (is_true (fits_name name)) (is_false (is_dots name))))

pub meets : (check : Check) (path value : List ℕ) → Decided (Meets check path value)
meets Anything path value = inl tt
meets Path path value = is_action_path value
meets Mode path value = is_octal value
meets Payload path value = are_digits value
meets Preserve path value = is_one_of preserve_words value
meets Overlay path value = is_one_of (codes "allow" ∷ codes "true" ∷ []) value
meets LinkTarget path value = is_link_target value
meets HardlinkTarget path value = leads_inside path value
meets Numbers path value = are_numerals value
meets Priority path value = is_one_of (codes "vendor" ∷ codes "site" ∷ []) value
meets Account path value = is_account value
meets Id path value = is_id value
meets Field path value = is_field value
meets FileName path value = is_file_name value
meets Flag path value = is_one_of (codes "true" ∷ codes "false" ∷ []) value
meets FacetTag path value = is_one_of (codes "true" ∷ codes "all" ∷ []) value
