use Rattle.std.proofs.Common.{rules, ◌≡◌, true, ℕ, List, Option, Some, Result, Ok, Err, OnOk, MatchOption, sym, ap, ◌∙◌, subst}
use Rattle.ips_text.specs.Kept.{Kept}
use Rattle.ips_text.specs.Path.{IsPath}
use Rattle.ips_outside.specs.Image.{Image, is_dir, has_parent}
use Rattle.ips_outside.specs.Tree.{tree_image}
use Rattle.ips_folder.specs.Crash.{junk_in}
use Rattle.ips_folder.specs.Junk.{AddsJunk}
use Rattle.ips_folder.proofs.Junks.{junk_parent, adds_put}
use Rattle.ips_folder.proofs.log.junk.add_to.Goals as goal

abbrev IsFound : List ℕ → Option Kept → Type 0
IsFound name found = MatchOption found (IsPath (junk_in name) → ⊥) (λ path. path.bytes ≡ junk_in name)

on_ok : {T E : Type 0} (P Q : Type 0) (r : Result T E) → (P → Q) → OnOk r P → OnOk r Q
on_ok P Q (Ok u) f p = f p
on_ok P Q (Err e) f p = tt

pub put-requires : goal.put-requires
put-requires c =
    let t = tree_image c.args.tree.now in
    let name = c.args.name.now in
    let dir : is_dir (t.look name) ≡ true = ap (λ (x : List ℕ). is_dir (t.look x)) (sym c.in_ok-dir.ensures) ∙ sym c.is_dir.ensures ∙ c.if-not-is_dir.false in
    let at : c.in-Some.path.bytes ≡ junk_in name = subst (IsFound name) c.in-Some.is c.in_ok-path.ensures in
    ap (has_parent t) at ∙ junk_parent name t dir

pub returns-in-Some : goal.returns-in-Some
returns-in-Some c =
    let t = tree_image c.args.tree.now in
    let name = c.args.name.now in
    let dir : is_dir (t.look name) ≡ true = ap (λ (x : List ℕ). is_dir (t.look x)) (sym c.in_ok-dir.ensures) ∙ sym c.is_dir.ensures ∙ c.if-not-is_dir.false in
    let at : c.in-Some.path.bytes ≡ junk_in name = subst (IsFound name) c.in-Some.is c.in_ok-path.ensures in
    on_ok _ _ c.put.result (λ put. adds_put name c.in-Some.path.bytes t (tree_image c.put.new.tree) at dir put) c.put.ensures
