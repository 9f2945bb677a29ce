-- Lines that are found by name.
use Rattle.std.proofs.Common.{◌≡◌, ℕ, ◌<◌, Bool, true, false, leb, List, [], length, get_or, Option, Some, None, slice_get, refl, sym, ap, ◌∙◌, arith}
use Rattle.std.specs.List.{position}
use Rattle.std.specs.Option.{option_map_or}
use Rattle.std.proofs.lemmas.Bool.{true≢false, leb-true}
use Rattle.ips_books.specs.Lines.{AccountLine}
use Rattle.ips_books.specs.Accounts.{is_of}
use Rattle.ips_passwd.specs.Entries.{NamePlaces, kept_place, LeadByName}
use Rattle.ips_passwd.proofs.Firsts.{found_first, found_none, stands}

none : AccountLine
none = record { text = []; ended = true }

pub no_line : (places : NamePlaces) (lines : List AccountLine) (name : List ℕ) → LeadByName places lines → kept_place places name ≡ None → position (is_of name) lines ≡ None
no_line places lines name led at = found_none (is_of name) lines none (λ k lt. go (is_of name (get_or lines k none)) k refl lt)
  where
    go : (t : Bool) (k : ℕ) → is_of name (get_or lines k none) ≡ t → k < length lines → t ≡ false
    go true k e lt = absurd (true≢false (sym (led k none lt name e) ∙ ap (λ (o : Option ℕ). option_map_or (λ f. leb f k) o false) at))
    go false k e lt = refl

pub first_line : (places : NamePlaces) (lines : List AccountLine) (name : List ℕ) (place : ℕ) → LeadByName places lines → kept_place places name ≡ Some place → option_map_or (is_of name) (slice_get lines place) false ≡ true → position (is_of name) lines ≡ Some place
first_line places lines name place led at there =
    let here = stands (is_of name) lines place none there in
    found_first (is_of name) lines place none here.0 here.1 (λ k lt. go (is_of name (get_or lines k none)) k refl lt here.0)
  where
    go : (t : Bool) (k : ℕ) → is_of name (get_or lines k none) ≡ t → k < place → place < length lines → t ≡ false
    go true k e lt within =
        let up = leb-true place k (sym (ap (λ (o : Option ℕ). option_map_or (λ f. leb f k) o false) at) ∙ led k none (omega (arith, lt, within)) name e) in
        absurd (omega (arith, up, lt))
    go false k e lt within = refl
