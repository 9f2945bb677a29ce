-- The keys below four sizes, numbered from 0 on. Only the search for a key that breaks the rule of tables uses it.
use Rattle.std.specs.Prelude.{ℕ, ◌*◌, ◌/◌, ◌%◌, List, [], ◌∷◌, slice_index}

-- how many keys there are
abbrev pub key_count : List ℕ → ℕ
key_count sizes = slice_index sizes 0 * slice_index sizes 1 * slice_index sizes 2 * slice_index sizes 3

-- the key of a number, the last place running fastest
abbrev pub key_at : List ℕ → ℕ → List ℕ
key_at sizes number =
    let a = slice_index sizes 0 in
    let b = slice_index sizes 1 in
    let c = slice_index sizes 2 in
    let d = slice_index sizes 3 in
    number / d / c / b % a ∷ number / d / c % b ∷ number / d % c ∷ number % d ∷ []
