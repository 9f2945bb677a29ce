-- The text of a moment in names.
use Rattle.std.specs.Prelude.{◌≡◌, ◌≤◌, ◌<◌, ℕ, Bool, ◌&&◌, ◌||◌, IsTrue, List, length, nat_le}
use Rattle.std.specs.List.{list_all}
use Rattle.ips_after.specs.Salvage.{root_name}

-- a decimal digit or a capital letter
abbrev pub is_stamp_byte : ℕ → Bool
is_stamp_byte b = (nat_le 48 b && nat_le b 57) || (nat_le 65 b && nat_le b 90)

-- The text can stand for a moment in a name: digits and capital letters, at least one and at most 200.
pub record NamesMoment (moment : List ℕ) : Type 0 where
  pub bytes : IsTrue (list_all is_stamp_byte moment)
  pub some : 0 < length moment
  pub few : length moment ≤ 200

-- the path is one of the names that the folder of the moment may have
pub record IsRootName (moment path : List ℕ) : Type 0 where
  pub times : ℕ
  pub is : path ≡ root_name moment times
