-- What a look tells of kinds.
use Rattle.std.proofs.Common.{◌≡◌, ℕ, false, Option, Some, None, refl}
use Rattle.ips_outside.specs.Image.{Entry, Dir, File, Link, Other, is_dir, is_file}
use Rattle.ips_outside.specs.Outside.{look_of}
use Rattle.ips_outside.specs.declared.outside.Look.{Look}
use Rattle.ips_outside.specs.declared.outside.Look.TheVariants as look
use Rattle.ips_after.specs.After.{is_link}

-- no directory was found, so none stands
pub no_dir : (found : Look) (e : Option Entry) → found ≡ look_of e → ((m : ℕ) → found ≡ look.Dir m → ⊥) → is_dir e ≡ false
no_dir found (Some (Dir m f)) is not = absurd (not m is)
no_dir found (Some (File m b)) is not = refl
no_dir found (Some (Link g)) is not = refl
no_dir found (Some Other) is not = refl
no_dir found None is not = refl

-- no file was found, so none stands
pub no_file : (found : Look) (e : Option Entry) → found ≡ look_of e → ((m size : ℕ) → found ≡ look.File m size → ⊥) → is_file e ≡ false
no_file found (Some (Dir m f)) is not = refl
no_file found (Some (File m b)) is not = absurd (not m _ is)
no_file found (Some (Link g)) is not = refl
no_file found (Some Other) is not = refl
no_file found None is not = refl

-- no symbolic link was found, so none stands
pub no_link : (found : Look) (e : Option Entry) → found ≡ look_of e → (found ≡ look.Link → ⊥) → is_link e ≡ false
no_link found (Some (Dir m f)) is not = refl
no_link found (Some (File m b)) is not = refl
no_link found (Some (Link g)) is not = absurd (not is)
no_link found (Some Other) is not = refl
no_link found None is not = refl
