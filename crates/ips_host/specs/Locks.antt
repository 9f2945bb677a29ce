-- Which answers of the host at a lock are worked on without one.
use Rattle.std.specs.Prelude.{◌≡◌, ◌⊎◌, ℤ, pos, Option, Some, None, Result, Ok, Err}
use Rattle.std.specs.IoError.{raw_os_error}
use Rattle.std.specs.declared.fs.locks.TryLockError.{TryLockError}
use Rattle.std.specs.declared.fs.locks.TryLockError.TheVariants as tried

-- The number of an error by which Linux tells that a file system has no locks: EINVAL, ENOLCK, ENOSYS or ENOTSUP.
abbrev pub IsNumberOfNone : ℤ → Type 0
IsNumberOfNone number = (number ≡ pos 22) ⊎ ((number ≡ pos 37) ⊎ ((number ≡ pos 38) ⊎ (number ≡ pos 95)))

-- The system's error, where there is one, tells that a file system has no locks.
abbrev pub LacksLocks : Option ℤ → Type 0
LacksLocks (Some number) = IsNumberOfNone number
LacksLocks None = ⊥

-- A folder at whose lock the host answers so is worked on: the lock was had, or its file system has none.
abbrev pub IsWorkedOn : {A : Type 0} → Result A TryLockError → Type 0
IsWorkedOn (Ok had) = Unit {0}
IsWorkedOn (Err (tried.Error e)) = LacksLocks (raw_os_error e)
IsWorkedOn (Err tried.WouldBlock) = ⊥
