-- What a symbolic link can say.
use Rattle.std.specs.Prelude.{◌≡◌, ℕ, ◌<◌, ◌≤◌, Bool, true, nat_lt, not, ◌&&◌, ◌==◌, List, length}
use Rattle.std.specs.List.{list_any}
use Rattle.ips_steps.specs.declared.target.TargetFault.{TargetFault}
use Rattle.ips_steps.specs.declared.target.TargetFault.TheVariants.{Empty, TooLong, Nul}

-- a byte is NUL
abbrev pub has_nul : List ℕ → Bool
has_nul bytes = list_any (λ b. b == 0) bytes

-- the first fault that the bytes have
abbrev pub HasFault : TargetFault → List ℕ → Type 0
HasFault Empty bytes = length bytes ≡ 0
HasFault TooLong bytes = 4095 < length bytes
HasFault Nul bytes = (length bytes ≤ 4095) × (has_nul bytes ≡ true)

-- the bytes are a target: they have no fault
abbrev pub IsTarget : List ℕ → Type 0
IsTarget bytes = (fault : TargetFault) → HasFault fault bytes → ⊥

-- the same, as a test: 1 to 4,095 bytes without NUL
abbrev pub is_target : List ℕ → Bool
is_target bytes = nat_lt 0 (length bytes) && (nat_lt (length bytes) 4096 && not (has_nul bytes))
