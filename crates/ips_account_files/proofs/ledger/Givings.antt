-- The modes that are given to the names of a file, row by row.
use Rattle.std.proofs.Common.{◌≡◌, ℕ, ◌+◌, ◌<◌, Bool, true, false, cond, not, ◌&&◌, ◌||◌, List, [], ◌∷◌, ◌++◌, filter, length, get_or, take, Option, Some, None, is_none, is_some, Result, Ok, Err, IfOk, refl, sym, ◌∙◌, ap, subst, arith}
use Rattle.std.proofs.lemmas.Option.{none-some, same_Some}
use Rattle.ips_text.proofs.Ancestry.{covers-self}
use Rattle.ips_text.proofs.Lists.{take_item}
use Rattle.ips_outside.specs.Change.{names}
use Rattle.ips_outside.specs.Image.{Dir, Entry, File, Image, Link, Other, is_file, with_mode}
use Rattle.ips_outside.specs.Outside.{look_of, readable}
use Rattle.ips_outside.specs.declared.outside.Look.{Look}
use Rattle.ips_outside.specs.declared.outside.Look.TheVariants as look
use Rattle.ips_digest.specs.Name.{spelling}
use Rattle.ips_after.specs.After.{ranks}
use Rattle.ips_after.specs.Change.{Change, Changes, Given, Joined, Kept, Laid, Removed, cleared, joins, laid_entry, left, remoded, replaces, target, with_given}
use Rattle.ips_after.specs.Lists.{listed}
use Rattle.ips_after.specs.Request.{IsRequest, Request, Want, WantDir, WantFile, WantHard, WantLink, Wanted}
use Rattle.ips_after.proofs.Changed.{reached_from}
use Rattle.ips_after.proofs.Fits.{given_but, target_plain}
use Rattle.ips_change.specs.Fitting.{stated_mode}
use Rattle.ips_emptied.proofs.order.Filtered.{same_filtered}
use Rattle.ips_change.specs.declared.survey.row.Row.{Row}
use Rattle.ips_change.proofs.survey.Filling.{rows_more}
use Rattle.ips_change.specs.declared.survey.said.Said.{Said}
use Rattle.ips_change.specs.survey.Rows.{IsRowOf, row_pair}
use Rattle.ips_change.specs.survey.Marks.{row_paths}
use Rattle.ips_change.specs.survey.Tables.{IsTable}
use Rattle.ips_account_files.specs.declared.ledger.left.Left.{Left}
use Rattle.ips_account_files.specs.declared.ledger.left.Left.TheVariants as lefts
use Rattle.ips_account_files.specs.ledger.Base.{mode_left}
use Rattle.ips_account_files.specs.ledger.Left.{AreSmallWanted, HasSmall, IsOwnLeft, is_ranked, only_file}

-- ---- an order of paths, path by path

pub given_both : (change : Changes) (xs ys : List (List ℕ)) (t : Image) (q : List ℕ) (e : Option Entry) → with_given change (xs ++ ys) t q e ≡ with_given change ys t q (with_given change xs t q e)
given_both change [] ys t q e = refl
given_both change (x ∷ xs) ys t q e = given_both change xs ys t q (remoded (change x) (not (cleared change x) && names t x q) e)

given_more : (change : Changes) (f : List ℕ → Bool) (xs : List (List ℕ)) (p : List ℕ) (t : Image) (q : List ℕ) (e : Option Entry)
    → with_given change (filter f (xs ++ p ∷ [])) t q e ≡ cond (f p) (remoded (change p) (not (cleared change p) && names t p q) (with_given change (filter f xs) t q e)) (with_given change (filter f xs) t q e)
given_more change f [] p t q e = go (f p)
  where
    go : (b : Bool) → with_given change (cond b (p ∷ []) []) t q e ≡ cond b (remoded (change p) (not (cleared change p) && names t p q) e) e
    go true = refl
    go false = refl
given_more change f (x ∷ xs) p t q e = go (f x) (given_more change f xs p t q)
  where
    go : (b : Bool)
        → ((e : Option Entry) → with_given change (filter f (xs ++ p ∷ [])) t q e ≡ cond (f p) (remoded (change p) (not (cleared change p) && names t p q) (with_given change (filter f xs) t q e)) (with_given change (filter f xs) t q e))
        → with_given change (cond b (x ∷ filter f (xs ++ p ∷ [])) (filter f (xs ++ p ∷ []))) t q e
        ≡ cond (f p) (remoded (change p) (not (cleared change p) && names t p q) (with_given change (cond b (x ∷ filter f xs) (filter f xs)) t q e)) (with_given change (cond b (x ∷ filter f xs) (filter f xs)) t q e)
    go true h = h (remoded (change x) (not (cleared change x) && names t x q) e)
    go false h = h e

abbrev pub ranked : Request → Bool → List ℕ → Bool
ranked r was p = is_ranked was (r.old.at p) (r.new.at p)

-- one row more
pub given_step : (r : Request) (t u : Image) (change : Changes) (was : Bool) (rows : List Row) (i : ℕ) (row : Row) (q : List ℕ) (c : Change) (e x y : Option Entry) → i < length rows → row ≡ get_or rows i row → IsRowOf r row → c ≡ change row.path.now.bytes → u ≡ t
    → x ≡ with_given change (filter (ranked r was) (row_paths (take i rows))) t q e
    → y ≡ cond (is_ranked was (row_pair row).was (row_pair row).wanted) (remoded c (not (cleared change row.path.now.bytes) && names u row.path.now.bytes q) x) x
    → y ≡ with_given change (filter (ranked r was) (row_paths (take (i + 1) rows))) t q e
given_step r t u change was rows i row q c e x y lt there of is same so_far here =
    let p = row.path.now.bytes in
    here
    ∙ ap (λ (o : Option Wanted). cond (is_ranked was o (row_pair row).wanted) (remoded c (not (cleared change p) && names u p q) x) x) of.0
    ∙ ap (λ (o : Option Wanted). cond (is_ranked was (r.old.at p) o) (remoded c (not (cleared change p) && names u p q) x) x) of.1
    ∙ ap (λ (d : Change). cond (ranked r was p) (remoded d (not (cleared change p) && names u p q) x) x) is
    ∙ ap (λ (v : Image). cond (ranked r was p) (remoded (change p) (not (cleared change p) && names v p q) x) x) same
    ∙ ap (λ (z : Option Entry). cond (ranked r was p) (remoded (change p) (not (cleared change p) && names t p q) z) z) so_far
    ∙ sym (given_more change (ranked r was) (row_paths (take i rows)) p t q e)
    ∙ ap (λ (l : List (List ℕ)). with_given change (filter (ranked r was) l) t q e) (sym (ap row_paths (take_item rows i row lt there) ∙ rows_more (take i rows) row))

-- ---- the order in which modes decide

both_pass : (o n l g : Bool) → (n && g) ≡ ((o || (n || l)) && (g && n))
both_pass true true l true = refl
both_pass true true l false = refl
both_pass false true l true = refl
both_pass false true l false = refl
both_pass true false l true = refl
both_pass true false l false = refl
both_pass false false true true = refl
both_pass false false true false = refl
both_pass false false false g = refl

pub ranks_are : (r : Request) (rows : List Row) (said : List (Option Said)) → IsRequest r → IsTable r rows said → ranks r ≡ filter (ranked r true) (row_paths rows) ++ filter (ranked r false) (row_paths rows)
ranks_are r rows said good table =
    ap (λ (l : List (List ℕ)). l ++ filter (λ p. is_none (r.old.at p)) r.new.keys) (one (λ p. is_some (r.old.at p)))
    ∙ ap (λ (l : List (List ℕ)). filter (ranked r true) (row_paths rows) ++ l) (one (λ p. is_none (r.old.at p)))
  where
    one : (g : List ℕ → Bool) → filter g r.new.keys ≡ filter (λ p. g p && is_some (r.new.at p)) (row_paths rows)
    one g = same_filtered g (λ p. g p && is_some (r.new.at p)) r.new.keys (row_paths rows) good.new_want.by_bytes table.order (λ q.
        ap (λ (b : Bool). b && g q) (sym (good.new_want.keyed q))
        ∙ both_pass (is_some (r.old.at q)) (is_some (r.new.at q)) (listed r.over.keys q) (g q)
        ∙ ap (λ (b : Bool). b && (g q && is_some (r.new.at q))) (sym (table.covers q)))

-- ---- files

-- a file was seen
pub file_seen : (e : Option Entry) (m size : ℕ) → look.File m size ≡ look_of e → e ≡ Some (File m (readable e))
file_seen (Some (File n b)) m size h = let same : m ≡ n = cc in ap (λ (k : ℕ). Some (File k b)) (sym same)
file_seen (Some (Dir n f)) m size h = cc
file_seen (Some (Link g)) m size h = cc
file_seen (Some Other) m size h = cc
file_seen None m size h = cc

-- no file was seen
pub not_seen : (found : Look) (e : Option Entry) → found ≡ look_of e → ((m size : ℕ) → found ≡ look.File m size → ⊥) → only_file e ≡ None
not_seen found (Some (File m b)) is never = absurd (never m (length b) is)
not_seen found (Some (Dir m f)) is never = refl
not_seen found (Some (Link g)) is never = refl
not_seen found (Some Other) is never = refl
not_seen found None is never = refl

-- where none stands, none is left
pub none_left : (change : Changes) (order : List (List ℕ)) (t : Image) (q : List ℕ) (e : Option Entry) → only_file e ≡ None → only_file (with_given change order t q e) ≡ None
none_left change order t q e none = no_file (with_given change order t q e) (sym (kind (with_given change order t q e)) ∙ ap is_file (given_but change order t q e) ∙ kind e ∙ unfiled e none)
  where
    kind : (e : Option Entry) → is_file (with_mode 0 e) ≡ is_file e
    kind (Some (Dir m f)) = refl
    kind (Some (File m b)) = refl
    kind (Some (Link g)) = refl
    kind (Some Other) = refl
    kind None = refl

    unfiled : (e : Option Entry) → only_file e ≡ None → is_file e ≡ false
    unfiled (Some (Dir m f)) h = refl
    unfiled (Some (File m b)) h = cc
    unfiled (Some (Link g)) h = refl
    unfiled (Some Other) h = refl
    unfiled None h = refl

    no_file : (e : Option Entry) → is_file e ≡ false → only_file e ≡ None
    no_file (Some (Dir m f)) h = refl
    no_file (Some (File m b)) h = cc
    no_file (Some (Link g)) h = refl
    no_file (Some Other) h = refl
    no_file None h = refl

-- ---- what is left

-- what is left where no other path's file is
pub left_is : (change : Changes) (order : List (List ℕ)) (t : Image) (q : List ℕ) → joins (change q) ≡ false → left change order t (target (change q) q) ≡ cond (cleared change q) (laid_entry (change q)) (with_given change order t q (t.look q))
left_is change order t q none = ap (left change order t) (target_plain (change q) q none)

-- what is left where something takes the place of what stands, or it goes
pub left_gone : (change : Changes) (order : List (List ℕ)) (t : Image) (q : List ℕ) → joins (change q) ≡ false → replaces (change q) ≡ true → left change order t (target (change q) q) ≡ laid_entry (change q)
left_gone change order t q none goes =
    left_is change order t q none
    ∙ ap (λ (b : Bool). cond b (laid_entry (change q)) (with_given change order t q (t.look q))) (reached_from (λ p. replaces (change p)) q q (covers-self q) goes)

-- what is left where it stays, unless something above goes
pub left_stays : (change : Changes) (order : List (List ℕ)) (t : Image) (q : List ℕ) → joins (change q) ≡ false → replaces (change q) ≡ false → left change order t (target (change q) q) ≡ cond (cleared change q) None (with_given change order t q (t.look q))
left_stays change order t q none stays =
    left_is change order t q none
    ∙ ap (λ (e : Option Entry). cond (cleared change q) e (with_given change order t q (t.look q))) (nothing (change q) stays)
  where
    nothing : (c : Change) → replaces c ≡ false → laid_entry c ≡ None
    nothing Kept h = refl
    nothing Removed h = refl
    nothing (Laid e) h = cc
    nothing (Joined to) h = refl
    nothing (Given m) h = refl

-- where one more name of another path's file is made, no file is laid
nothing_laid : (c : Change) → joins c ≡ true → laid_entry c ≡ None
nothing_laid Kept h = refl
nothing_laid Removed h = refl
nothing_laid (Laid e) h = cc
nothing_laid (Joined to) h = refl
nothing_laid (Given m) h = refl

-- what is left to be edited where something takes the place of what stands, or it goes
pub own_gone : (change : Changes) (order : List (List ℕ)) (t : Image) (q : List ℕ) → replaces (change q) ≡ true
    → cond (joins (change q)) None (only_file (left change order t (target (change q) q))) ≡ only_file (laid_entry (change q))
own_gone change order t q goes = go (joins (change q)) refl
  where
    go : (b : Bool) → joins (change q) ≡ b → cond b None (only_file (left change order t (target (change q) q))) ≡ only_file (laid_entry (change q))
    go true is = sym (ap only_file (nothing_laid (change q) is))
    go false is = ap only_file (left_gone change order t q is goes)

-- what is left to be edited where it stays, unless something above goes
pub own_stays : (change : Changes) (order : List (List ℕ)) (t : Image) (q : List ℕ) → replaces (change q) ≡ false
    → cond (joins (change q)) None (only_file (left change order t (target (change q) q))) ≡ only_file (cond (cleared change q) None (with_given change order t q (t.look q)))
own_stays change order t q stays =
    ap (λ (b : Bool). cond b None (only_file (left change order t (target (change q) q)))) (unjoined (change q) stays)
    ∙ ap only_file (left_stays change order t q (unjoined (change q) stays) stays)
  where
    unjoined : (c : Change) → replaces c ≡ false → joins c ≡ false
    unjoined Kept h = refl
    unjoined Removed h = refl
    unjoined (Laid e) h = refl
    unjoined (Joined to) h = cc
    unjoined (Given m) h = refl

-- ---- modes

pub small_at : (new : Want) (q : List ℕ) → AreSmallWanted new → HasSmall (new.at q)
small_at new q few = go (new.at q) refl
  where
    go : (w : Option Wanted) → new.at q ≡ w → HasSmall w
    go (Some w) is = few q w is
    go None is = tt

-- a mode that is stated is one of permission bits
pub stated_small : (new : Option Wanted) (m : ℕ) → stated_mode new ≡ Some m → HasSmall new → m < 4096
stated_small (Some (WantDir None)) m h few = cc
stated_small (Some (WantDir (Some n))) m h few = subst (λ (k : ℕ). k < 4096) (same_Some n m h) few
stated_small (Some (WantFile payload n preserve)) m h few = subst (λ (k : ℕ). k < 4096) (same_Some n m h) few
stated_small (Some (WantLink says)) m h few = cc
stated_small (Some (WantHard to)) m h few = cc
stated_small None m h few = cc

-- so is that of a payload's file that is left
pub laid_small : (new : Option Wanted) (left : Left) → IsOwnLeft true new left → HasSmall new → mode_left 0 left < 4096
laid_small new lefts.Nothing own few = omega arith
laid_small new (lefts.Standing m) own few = let no : true ≡ false = own in cc
laid_small (Some (WantDir n)) (lefts.Laid payload m) own few = absurd (none-some (spelling payload, m) own.1)
laid_small (Some (WantFile p n preserve)) (lefts.Laid payload m) own few = subst (λ (k : ℕ). k < 4096) (ap (λ (x : List ℕ × ℕ). x.1) (same_Some (p, n) (spelling payload, m) own.1)) few
laid_small (Some (WantLink says)) (lefts.Laid payload m) own few = absurd (none-some (spelling payload, m) own.1)
laid_small (Some (WantHard to)) (lefts.Laid payload m) own few = absurd (none-some (spelling payload, m) own.1)
laid_small None (lefts.Laid payload m) own few = absurd (none-some (spelling payload, m) own.1)
