-- What an answer of `look` tells.
use Rattle.std.proofs.Common.{◌≡◌, ℕ, Bool, true, false, ◌&&◌, List, Option, Some, None, is_some, is_none, refl, sym, subst}
use Rattle.std.proofs.lemmas.Bool.{ltb-true}
use Rattle.ips_outside.specs.Image.{Entry, Dir, File, Link, Other, Image, IsImage, has_small_mode, is_file, with_mode}
use Rattle.ips_outside.specs.Outside.{look_of, IsSmall}
use Rattle.ips_outside.specs.declared.outside.Look.{Look}
use Rattle.ips_outside.specs.declared.outside.Look.TheVariants as look

-- the answer is of a kind that has no mode
abbrev pub is_plain : Look → Bool
is_plain look.Absent = true
is_plain (look.Dir m) = false
is_plain (look.File m n) = false
is_plain look.Link = true
is_plain look.Other = true

pub plain_mode : (m : ℕ) (e : Option Entry) → is_plain (look_of e) ≡ true → with_mode m e ≡ e
plain_mode m (Some (Dir o f)) h = cc
plain_mode m (Some (File o b)) h = cc
plain_mode m (Some (Link g)) h = refl
plain_mode m (Some Other) h = refl
plain_mode m None h = refl

pub plain_file : (e : Option Entry) → is_plain (look_of e) ≡ true → is_file e ≡ false
plain_file (Some (Dir o f)) h = refl
plain_file (Some (File o b)) h = cc
plain_file (Some (Link g)) h = refl
plain_file (Some Other) h = refl
plain_file None h = refl

small_look : (e : Option Entry) → has_small_mode e ≡ true → IsSmall (look_of e)
small_look (Some (Dir o f)) h = ltb-true o 4096 h
small_look (Some (File o b)) h = ltb-true o 4096 h
small_look (Some (Link g)) h = tt
small_look (Some Other) h = tt
small_look None h = tt

-- in a well-formed image a look's mode is small
pub small_seen : (t : Image) (q : List ℕ) (found : Look) → IsImage t → found ≡ look_of (t.look q) → IsSmall found
small_seen t q found formed is = subst IsSmall (sym is) (small_look (t.look q) (formed.modes q))

-- a file is there
pub file_stands : (e : Option Entry) → is_file e ≡ true → is_none e ≡ false
file_stands (Some e) file = refl
file_stands None file = cc

pub and_true : (b : Bool) → (b && true) ≡ b
and_true true = refl
and_true false = refl

pub none_or : {X : Type 0} (o : Option X) → (is_some o ≡ true → ⊥) → o ≡ None
none_or (Some x) never = absurd (never refl)
none_or None never = refl
