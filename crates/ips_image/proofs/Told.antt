-- What stands at a path, and what is told of it.
use Rattle.std.proofs.Common.{◌≡◌, ◌≤◌, length, ℕ, true, false, List, [], ◌∷◌, Option, Some, None, is_some, Result, Ok, Err, IfOk, IsTrue, refl, sym, ap, subst, arith, codes}
use Rattle.std.specs.List.{join_with_byte}
use Rattle.std.proofs.lemmas.Bool.{true≢false, false≢true}
use Rattle.ips_text.specs.Path.{IsPath}
use Rattle.ips_outside.specs.Image.{Entry, Dir, File, Link, Other, Image}
use Rattle.ips_outside.specs.Outside.{Outside, Reads, look_of}
use Rattle.ips_outside.specs.State.{State}
use Rattle.ips_text.specs.Reading.{IfBad}
use Rattle.ips_text.specs.declared.refusal.Or.{Or}
use Rattle.ips_text.specs.declared.refusal.Or.TheVariants.{Bad, OutOfMemory}
use Rattle.ips_records.specs.Lines.{lines_text}
use Rattle.ips_state.specs.State.{Head}
use Rattle.ips_state.specs.Lawful.{IsHead}
use Rattle.ips_state.specs.Text.{head_lines}
use Rattle.ips_load.specs.Held.{Stands}
use Rattle.ips_outside.specs.declared.outside.Look.TheVariants as look
use Rattle.ips_records.proofs.Joined.{IsFileName, joined_path, pkg_name}
use Rattle.ips_index.specs.Text.{IsIndexFile}
use Rattle.ips_state.specs.Records.{image_path, index_path, avoid_path, freeze_path, mediators_path, history_path}
use Rattle.ips_load.specs.Fault.{IsBadText, IsFileFault, IsHeadFile, IsHeadFault, StandsAs}
use Rattle.ips_load.specs.declared.fault.StateFault.{StateFault}
use Rattle.ips_load.specs.declared.fault.StateFault.TheVariants.{NoImage, BadImage, TooLarge, FolderFault}
use Rattle.ips_image.specs.Fault.{IsIndexFault}

-- ---- the paths of the files

in_pkg : (name : List ℕ) → IsFileName name → (let all = codes "var" ∷ codes "pkg" ∷ name ∷ [] in length (join_with_byte 47 all) ≤ 1023) → IsPath (join_with_byte 47 (codes "var" ∷ codes "pkg" ∷ name ∷ []))
in_pkg name n few = joined_path (codes "var" ∷ codes "pkg" ∷ name ∷ []) (record { bytes = refl; some = omega arith; few = omega arith; no_dots = refl }, (pkg_name, n)) few

pub image_is_path : IsPath image_path
image_is_path = in_pkg (codes "image") (record { bytes = refl; some = omega arith; few = omega arith; no_dots = refl }) (omega arith)

pub index_is_path : IsPath index_path
index_is_path = in_pkg (codes "index") (record { bytes = refl; some = omega arith; few = omega arith; no_dots = refl }) (omega arith)

pub avoid_is_path : IsPath avoid_path
avoid_is_path = in_pkg (codes "avoid") (record { bytes = refl; some = omega arith; few = omega arith; no_dots = refl }) (omega arith)

pub freeze_is_path : IsPath freeze_path
freeze_is_path = in_pkg (codes "freeze") (record { bytes = refl; some = omega arith; few = omega arith; no_dots = refl }) (omega arith)

pub mediators_is_path : IsPath mediators_path
mediators_is_path = in_pkg (codes "mediators") (record { bytes = refl; some = omega arith; few = omega arith; no_dots = refl }) (omega arith)

pub history_is_path : IsPath history_path
history_is_path = in_pkg (codes "history") (record { bytes = refl; some = omega arith; few = omega arith; no_dots = refl }) (omega arith)

-- ---- something stands there

pub look_absent : (e : Option Entry) → look.Absent ≡ look_of e → false ≡ is_some e
look_absent None is = refl
look_absent (Some (Dir m f)) is = absurd cc
look_absent (Some (File m b)) is = absurd cc
look_absent (Some (Link g)) is = absurd cc
look_absent (Some Other) is = absurd cc

pub look_other : (e : Option Entry) → (look_of e ≡ look.Absent → ⊥) → true ≡ is_some e
look_other None other = absurd (other refl)
look_other (Some e) other = refl

pub nothing_there : (e : Option Entry) → false ≡ is_some e → e ≡ None
nothing_there None is = refl
nothing_there (Some e) is = absurd (false≢true is)

pub something_there : (e : Option Entry) → true ≡ is_some e → e ≡ None → ⊥
something_there None is none = true≢false is
something_there (Some e) is none = let some : is_some (Some e) ≡ false = ap is_some none in true≢false some

-- ---- faults of these files

pub head_fault : (t : Image) (f : StateFault) → (t.look image_path ≡ None → ⊥) → IsFileFault (IsBadText IsHeadFile) t image_path f → IsHeadFault t f
head_fault t NoImage there h = absurd h
head_fault t (BadImage file line) there h = (there, h)
head_fault t (TooLarge which count) there h = h
head_fault t FolderFault there h = tt

pub index_fault : (t : Image) (f : StateFault) → (t.look index_path ≡ None → ⊥) → IsFileFault (IsBadText IsIndexFile) t index_path f → IsIndexFault t f
index_fault t NoImage there h = absurd h
index_fault t (BadImage file line) there h = (there, h)
index_fault t (TooLarge which count) there h = h
index_fault t FolderFault there h = tt

-- ---- behind calls that change nothing

module _ {F : Type 0} (o : Outside F) (old mid : F) (failed : Type 0) (reads : Reads o old mid failed) where
  pub still_told : IsTrue (o.tells old) → IsTrue (o.tells mid)
  still_told told = subst IsTrue (sym reads.call.same_kind) told

  pub still_held : (o.state mid).held ≡ (o.state old).held
  still_held = ap (λ (s : State). s.held) reads.kept

pub moved : (t u : Image) (p q bytes : List ℕ) → t ≡ u → p ≡ q → Stands t p bytes → Stands u q bytes
moved t u p q bytes et ep s = subst (λ (x : Image). Stands x q bytes) et (subst (λ (y : List ℕ). Stands t y bytes) ep s)

pub moved_fault : (Wrong : List ℕ → ℕ → Type 0) (t u : Image) (p q : List ℕ) (f : StateFault) → t ≡ u → p ≡ q → IsFileFault Wrong t p f → IsFileFault Wrong u q f
moved_fault Wrong t u p q f et ep h = subst (λ (x : Image). IsFileFault Wrong x q f) et (subst (λ (y : List ℕ). IsFileFault Wrong t y f) ep h)

-- ---- answers

pub ok_any : {X E : Type 0} (r : Result X E) (A : Type 0) → A → IfOk r (λ x. A)
ok_any (Ok x) A a = a
ok_any (Err e) A a = tt

pub err_weaker : (X Y : Type 0) (e : Or StateFault) (P Q : StateFault → Type 0) → ((f : StateFault) → P f → Q f) → (let r : Result X (Or StateFault) = Err e in IfBad r P) → (let r : Result Y (Or StateFault) = Err e in IfBad r Q)
err_weaker X Y (Bad f) P Q to h = to f h
err_weaker X Y OutOfMemory P Q to h = tt

-- a heading that stands is a file of its kind
pub heading_stands : (t : Image) (h : Head) → IsHead h → Stands t image_path (lines_text (head_lines h)) → StandsAs IsHeadFile t image_path
heading_stands t h lawful stands = (head_lines h, (h, lawful, refl), stands)
