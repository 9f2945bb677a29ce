-- A directory in which a directory and a file are made and taken away.
use Rattle.std.proofs.Common.{◌≡◌, Bool, true, false, cond, ℕ, [], Option, Some, None, codes, refl, ◌∙◌, ap}
use Rattle.ips_text.specs.Ancestry.{same_path, covers}
use Rattle.ips_outside.specs.Change.{with_entry_at}
use Rattle.ips_outside.specs.Image.{Entry, Dir, File, Image, is_dir, is_file}
use Rattle.ips_rehearse.specs.Tried.{dir_name, inner_dir_name, inner_file_name, IsBusy, IsDirOf, IsEmptyDir, IsIdle}

pub inner_dir_is : codes "var/pkg/stage/try/dir/dir" ≡ inner_dir_name
unfolding inner_dir_name
inner_dir_is = refl

pub inner_file_is : codes "var/pkg/stage/try/dir/file" ≡ inner_file_name
unfolding inner_file_name
inner_file_is = refl

-- both were made
abbrev pub with_both : Image → Image
with_both t = with_entry_at inner_file_name (Some (File 384 [])) (with_entry_at inner_dir_name (Some (Dir 448 false)) t)

-- and taken away
abbrev pub without_both : Image → Image
without_both t = with_entry_at inner_dir_name None (with_entry_at inner_file_name None t)

both_dir : (t : Image) → (with_both t).look dir_name ≡ t.look dir_name
unfolding dir_name inner_dir_name inner_file_name
both_dir t = refl

neither_dir : (t : Image) → (without_both t).look dir_name ≡ t.look dir_name
unfolding dir_name inner_dir_name inner_file_name
neither_dir t = refl

both_inner : (t : Image) → (with_both t).look inner_dir_name ≡ Some (Dir 448 false)
unfolding inner_dir_name inner_file_name
both_inner t = refl

both_file : (t : Image) → (with_both t).look inner_file_name ≡ Some (File 384 [])
unfolding inner_dir_name inner_file_name
both_file t = refl

pub is_busy : (m : ℕ) (t : Image) → IsDirOf m t → IsBusy m (with_both t)
is_busy m t is = record { dir = both_dir t ∙ is; inner_dir = ap is_dir (both_inner t); inner_file = ap is_file (both_file t) }

nothing_left : (a b c d : Bool) (e f x : Option Entry) → x ≡ None → cond a None (cond b None (cond c None (cond d None (cond c f (cond d None (cond a e (cond b None x))))))) ≡ None
nothing_left true b c d e f x none = refl
nothing_left false true c d e f x none = refl
nothing_left false false true d e f x none = refl
nothing_left false false false true e f x none = refl
nothing_left false false false false e f x none = none

pub is_idle : (m : ℕ) (t : Image) → IsDirOf m t → IsEmptyDir dir_name t → IsIdle m (without_both (with_both t))
is_idle m t is e = record {
  dir = neither_dir (with_both t) ∙ both_dir t ∙ is;
  empty = record {
    stands = ap is_dir (neither_dir (with_both t) ∙ both_dir t) ∙ e.stands;
    empty = λ q below. nothing_left (same_path inner_dir_name q) (covers inner_dir_name q) (same_path inner_file_name q) (covers inner_file_name q) (Some (Dir 448 false)) (Some (File 384 [])) (t.look q) (e.empty q below);
  };
}
