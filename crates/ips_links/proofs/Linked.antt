-- What becomes of rows, one by one.
use Rattle.std.proofs.Common.{◌≡◌, ℕ, zero, suc, ◌+◌, ◌<◌, Bool, true, false, not, ◌&&◌, ◌||◌, List, [], ◌∷◌, ◌++◌, map, take, length, get_or, Option, Some, None, is_none, is_some, refl, sym, ◌∙◌, ap, subst, arith}
use Rattle.std.specs.List.{AllByRecursion, list_any}
use Rattle.std.proofs.lemmas.Bool.{and_parts, or_from, false_from_ne_true}
use Rattle.std.proofs.lemmas.List.{length-append}
use Rattle.ips_text.specs.Ancestry.{is_below}
use Rattle.ips_text.proofs.Ancestry.{same_path-true}
use Rattle.ips_text.proofs.Lists.{map_item}
use Rattle.ips_outside.specs.Image.{Entry, Image, is_file}
use Rattle.ips_after.specs.After as after
use Rattle.ips_after.specs.Change.{Change, makes}
use Rattle.ips_after.specs.Lists.{listed}
use Rattle.ips_after.specs.Request.{IsRequest, Request, WantDir, WantFile, WantHard, WantLink, Wanted, is_file_wanted, lays}
use Rattle.ips_after.proofs.Unseen.{and_second}
use Rattle.ips_after.proofs.Fits.{any_of}
use Rattle.ips_change.specs.Told.{naming}
use Rattle.ips_change.specs.declared.survey.row.Row.{Row}
use Rattle.ips_change.specs.survey.Marks.{holds_below, row_paths}
use Rattle.ips_change.proofs.survey.Marking.{map_same}
use Rattle.ips_change.specs.declared.survey.said.Said.{Said}
use Rattle.ips_change.specs.survey.Said.{said_as, says_laid}
use Rattle.ips_change.specs.survey.Tables.{IsTable}
use Rattle.ips_change.proofs.survey.Filling.{or_none}
use Rattle.ips_change.proofs.survey.Marked.{is_laid}
use Rattle.ips_links.specs.Leading.{hard_to, is_led, linked_by}
use Rattle.ips_links.specs.Made.{is_made}
use Rattle.ips_links.proofs.Led.{leads_at, led_wanted, same_any, wanted_row}

-- ---- one after another

-- what is so at the row's path
abbrev pub at_path : {A : Type 0} → (List ℕ → A) → Row → A
at_path f row = f row.path.now.bytes

pub by_rows : {A : Type 0} (f : List ℕ → A) (rows : List Row) → map (at_path f) rows ≡ map f (row_paths rows)
by_rows f [] = refl
by_rows f (row ∷ rows) = ap (λ (l : List _). f row.path.now.bytes ∷ l) (by_rows f rows)

pub row_more : {A : Type 0} (f : List ℕ → A) (rows : List Row) (i : ℕ) (row : Row) (xs : List A) (x : A) → i < length rows → row ≡ get_or rows i row → xs ≡ map (at_path f) (take i rows) → x ≡ f row.path.now.bytes
    → xs ++ x ∷ [] ≡ map (at_path f) (take (i + 1) rows)
row_more f rows i row xs x lt is are one =
    ap (λ (l : List _). l ++ x ∷ []) are ∙ ap (λ (y : _). map (at_path f) (take i rows) ++ y ∷ []) one ∙ sym (map_item (at_path f) rows i row lt is)

-- what is so of each is so of the one at this place
pub all_here : {X : Type 0} (P : X → Type 0) (xs : List X) (i : ℕ) (x : X) → i < length xs → x ≡ get_or xs i x → AllByRecursion P xs → P x
all_here P [] i x lt is all = absurd (omega arith)
all_here P (y ∷ xs) zero x lt is all = subst P (sym is) all.0
all_here P (y ∷ xs) (suc i) x lt is all = all_here P xs i x (omega (arith, lt)) is all.1

-- two lists that are told of as the rows say are so at each row
pub told_here : {X A : Type 0} (g : X → A) (f : List ℕ → A) (xs : List X) (rows : List Row) (i : ℕ) (x : X) (row : Row) → map g xs ≡ map f (row_paths rows) → i < length xs → x ≡ get_or xs i x → i < length rows → row ≡ get_or rows i row
    → g x ≡ f row.path.now.bytes
told_here g f [] rows i x row are lt is within there = absurd (omega arith)
told_here g f (y ∷ xs) [] i x row are lt is within there = absurd (omega arith)
told_here g f (y ∷ xs) (r ∷ rows) zero x row are lt is within there =
    let own : g y ≡ f r.path.now.bytes = cc in
    ap g is ∙ own ∙ ap (at_path f) (sym there)
told_here g f (y ∷ xs) (r ∷ rows) (suc i) x row are lt is within there =
    let rest : map g xs ≡ map f (row_paths rows) = cc in
    told_here g f xs rows i x row rest (omega (arith, lt)) is (omega (arith, within)) there

pub at_row : {A : Type 0} (f : List ℕ → A) (xs : List A) (rows : List Row) (i : ℕ) (row : Row) (d : A) → xs ≡ map f (row_paths rows) → i < length rows → row ≡ get_or rows i row → get_or xs i d ≡ f row.path.now.bytes
at_row f xs rows i row d are lt is = ap (λ (l : List _). get_or l i d) are ∙ go rows i lt is
  where
    go : (rows : List Row) (i : ℕ) → i < length rows → row ≡ get_or rows i row → get_or (map f (row_paths rows)) i d ≡ f row.path.now.bytes
    go [] i lt is = absurd (omega arith)
    go (r ∷ rows) zero lt is = ap (at_path f) (sym is)
    go (r ∷ rows) (suc i) lt is = go rows i (omega (arith, lt)) is

pub one_more : {A : Type 0} (xs new : List A) (x : A) (i : ℕ) → new ≡ xs ++ x ∷ [] → length xs ≡ i → length new ≡ i + 1
one_more xs new x i is long = ap length is ∙ length-append xs (x ∷ []) ∙ ap (λ (n : ℕ). n + 1) long

-- ---- what is said

pub is_silent : (o : Option (Option Entry)) → is_none (said_as o) ≡ is_none o
is_silent None = refl
is_silent (Some None) = refl
is_silent (Some (Some e)) = refl

-- ---- what a hard link needs

-- no file stands at the path, where a hard link that is made at one of these leads, and nothing is said of it
abbrev pub needs_at : Request → Image → List (List ℕ) → List ℕ → Bool
needs_at r t paths p = is_none (r.over.at p) && (not (is_file (t.look p)) && is_led r t paths p)

pub needs_wanted : (r : Request) (t : Image) (rows : List Row) (said : List (Option Said)) (paths : List (List ℕ)) → IsRequest r → IsTable r rows said → map (needs_at r t (row_paths rows)) paths ≡ map (after.needs_file (naming r) t) paths
needs_wanted r t rows said paths good table = map_same (needs_at r t (row_paths rows)) (after.needs_file (naming r) t) paths
    (λ p. ap (λ (b : Bool). is_none (r.over.at p) && (not (is_file (t.look p)) && b)) (led_wanted r t rows said p good table))

pub needs_here : (r : Request) (t u : Image) (paths : List (List ℕ)) (p : List ℕ) (said : Option Said) (led needs : Bool) → u ≡ t → needs ≡ (is_none said && (not (is_file (u.look p)) && led)) → said ≡ said_as (r.over.at p) → led ≡ is_led r t paths p
    → needs ≡ needs_at r t paths p
needs_here r t u paths p said led needs same is are leads =
    is ∙ ap (λ (x : Image). is_none said && (not (is_file (x.look p)) && led)) same ∙ ap (λ (s : Option Said). is_none s && (not (is_file (t.look p)) && led)) are
    ∙ ap (λ (b : Bool). b && (not (is_file (t.look p)) && led)) (is_silent (r.over.at p)) ∙ ap (λ (b : Bool). is_none (r.over.at p) && (not (is_file (t.look p)) && b)) leads

-- ---- paths without a row

no_want : (o : Option Wanted) → is_some o ≡ false → o ≡ None
no_want None h = refl
no_want (Some w) h = cc

-- at a path without a row nothing was or is wanted
pub record IsBare (r : Request) (q : List ℕ) : Type 0 where
  pub old : r.old.at q ≡ None
  pub new : r.new.at q ≡ None
  pub over : r.over.at q ≡ None

pub is_bare : (r : Request) (rows : List Row) (said : List (Option Said)) (q : List ℕ) → IsTable r rows said → listed (row_paths rows) q ≡ false → IsBare r q
is_bare r rows said q table apart =
    let first = or_none _ _ (sym (table.covers q) ∙ apart) in
    let second = or_none _ _ first.0 in
    record { old = no_want (r.old.at q) first.1; new = no_want (r.new.at q) second.1; over = table.none_else q apart }

bare_kept : (r : Request) (t : Image) (q : List ℕ) → IsBare r q → makes (after.itself (naming r) t q) ≡ false
bare_kept r t q bare =
    ap (λ (o : Option Wanted). makes (after.by_itself (naming r) o (r.new.at q) (t.look q))) bare.old
    ∙ ap (λ (o : Option Wanted). makes (after.by_itself (naming r) None o (t.look q))) bare.new

hard_led : (w : Option Wanted) (p : List ℕ) → after.leads_to p w ≡ true → w ≡ Some (WantHard p)
hard_led (Some (WantHard to)) p h = ap (λ (x : List ℕ). Some (WantHard x)) (same_path-true to p h)
hard_led (Some (WantDir m)) p h = cc
hard_led (Some (WantFile payload m preserve)) p h = cc
hard_led (Some (WantLink target)) p h = cc
hard_led None p h = cc

-- and no hard link leads there
bare_unled : (r : Request) (t : Image) (q : List ℕ) → IsRequest r → IsBare r q → is_led r t r.new.keys q ≡ false
bare_unled r t q good bare = false_from_ne_true _ (λ led.
    let x = any_of (λ h. leads_at r t h q) r.new.keys led in
    let parts = and_parts (after.leads_to q (r.new.at x.path)) (makes (after.itself (naming r) t x.path)) x.holds in
    let file = good.hards x.path q (hard_led (r.new.at x.path) q parts.0) in
    let bad : is_file_wanted (r.new.at q) ≡ false = ap is_file_wanted bare.new in
    none_both (is_file_wanted (r.new.at q)) file bad)
  where
    none_both : (b : Bool) → b ≡ true → b ≡ false → ⊥
    none_both b h k = let bad : true ≡ false = sym h ∙ k in cc

-- ---- where a file is laid

abbrev pub laid_by : Option Said → Bool → Bool → Bool
laid_by said needed own = says_laid said || (needed || own)

pub laid_none : (r : Request) (t : Image) (rows : List Row) (said : List (Option Said)) (q : List ℕ) → IsRequest r → IsTable r rows said → listed (row_paths rows) q ≡ false → after.has_laid (naming r) t q ≡ false
laid_none r t rows said q good table apart =
    let bare = is_bare r rows said q table apart in
    or_from _ _ (ap lays bare.over)
    (or_from _ _ (and_second (is_none (r.over.at q)) (not (is_file (t.look q))) (is_led r t r.new.keys q) (bare_unled r t q good bare)) (bare_kept r t q bare))

pub laid_here : (r : Request) (t : Image) (p : List ℕ) (said : Option Said) (needed own : Bool) → said ≡ said_as (r.over.at p) → needed ≡ after.needs_file (naming r) t p → own ≡ makes (after.itself (naming r) t p)
    → laid_by said needed own ≡ after.has_laid (naming r) t p
laid_here r t p said needed own is need by =
    ap (λ (s : Option Said). laid_by s needed own) is ∙ ap (λ (b : Bool). b || (needed || own)) (is_laid (r.over.at p))
    ∙ ap (λ (b : Bool). lays (r.over.at p) || (b || own)) need ∙ ap (λ (b : Bool). lays (r.over.at p) || (after.needs_file (naming r) t p || b)) by

-- ---- what becomes of a path

pub linked_is : (r : Request) (t : Image) (p : List ℕ) (w : Option Wanted) (own : Change) (needed laid : Bool) → w ≡ r.new.at p → own ≡ after.itself (naming r) t p → needed ≡ after.needs_file (naming r) t p
    → ((to : List ℕ) → hard_to w ≡ Some to → laid ≡ after.has_laid (naming r) t to) → linked_by r.bytes w own needed laid ≡ after.linked (naming r) t p
linked_is r t p w own needed laid at by need has = go w has ∙ ap (after.linked_as (naming r) t p) at
  where
    go : (w : Option Wanted) → ((to : List ℕ) → hard_to w ≡ Some to → laid ≡ after.has_laid (naming r) t to) → linked_by r.bytes w own needed laid ≡ after.linked_as (naming r) t p w
    go (Some (WantDir m)) has = by
    go (Some (WantFile payload m preserve)) has = ap (λ (c : Change). linked_by r.bytes (Some (WantFile payload m preserve)) c needed laid) by ∙ ap (λ (b : Bool). linked_by r.bytes (Some (WantFile payload m preserve)) (after.itself (naming r) t p) b laid) need
    go (Some (WantLink target)) has = by
    go (Some (WantHard to)) has = ap (λ (c : Change). linked_by r.bytes (Some (WantHard to)) c needed laid) by ∙ ap (λ (b : Bool). linked_by r.bytes (Some (WantHard to)) (after.itself (naming r) t p) needed b) (has to refl)
    go None has = by

-- ---- where something is made

removed_makes : (b : Bool) → makes (after.removed_if b) ≡ false
removed_makes true = refl
removed_makes false = refl

old_makes : (r : Request) (old : Option Wanted) (e : Option Entry) → makes (after.by_itself r old None e) ≡ false
old_makes r (Some (WantDir None)) e = refl
old_makes r (Some (WantDir (Some m))) e = removed_makes _
old_makes r (Some (WantFile payload m preserve)) e = removed_makes _
old_makes r (Some (WantLink target)) e = removed_makes _
old_makes r (Some (WantHard to)) e = removed_makes _
old_makes r None e = refl

-- nothing is made for the entry of a path that isn't wanted
pub unwanted_makes : (r : Request) (t : Image) (q : List ℕ) → r.new.at q ≡ None → makes (after.linked (naming r) t q) ≡ false
unwanted_makes r t q none =
    ap (λ (o : Option Wanted). makes (after.linked_as (naming r) t q o)) none
    ∙ ap (λ (o : Option Wanted). makes (after.by_itself (naming r) (r.old.at q) o (t.look q))) none
    ∙ old_makes (naming r) (r.old.at q) (t.look q)

made_wanted : (r : Request) (t : Image) (q : List ℕ) → makes (after.linked (naming r) t q) ≡ true → is_some (r.new.at q) ≡ true
made_wanted r t q is = go (r.new.at q) refl
  where
    go : (o : Option Wanted) → r.new.at q ≡ o → is_some o ≡ true
    go (Some w) h = refl
    go None h = let bad : true ≡ false = sym is ∙ unwanted_makes r t q h in absurd cc

pub made_none : (r : Request) (t : Image) (rows : List Row) (said : List (Option Said)) (q : List ℕ) → IsTable r rows said → listed (row_paths rows) q ≡ false → is_made r t q ≡ false
made_none r t rows said q table apart =
    let bare = is_bare r rows said q table apart in
    or_from _ _ (unwanted_makes r t q bare.new) (ap lays bare.over)

pub made_here : (r : Request) (t : Image) (p : List ℕ) (c : Change) (said : Option Said) → c ≡ after.linked (naming r) t p → said ≡ said_as (r.over.at p) → (makes c || says_laid said) ≡ is_made r t p
made_here r t p c said is are =
    ap (λ (x : Change). makes x || says_laid said) is ∙ ap (λ (s : Option Said). makes (after.linked (naming r) t p) || says_laid s) are
    ∙ ap (λ (b : Bool). makes (after.linked (naming r) t p) || b) (is_laid (r.over.at p))

-- ---- below a path

any_either : (b f g : List ℕ → Bool) (xs : List (List ℕ)) → list_any (λ q. b q && (f q || g q)) xs ≡ (list_any (λ q. b q && f q) xs || list_any (λ q. b q && g q) xs)
any_either b f g [] = refl
any_either b f g (x ∷ xs) = ap (λ (rest : Bool). (b x && (f x || g x)) || rest) (any_either b f g xs) ∙ go (b x) (f x) (g x) (list_any (λ q. b q && f q) xs) (list_any (λ q. b q && g q) xs)
  where
    go : (b f g l m : Bool) → ((b && (f || g)) || (l || m)) ≡ (((b && f) || l) || ((b && g) || m))
    go false f g l m = refl
    go true true g l m = refl
    go true false true true m = refl
    go true false true false m = refl
    go true false false l m = refl

lays_spoken : (o : Option (Option Entry)) → lays o ≡ true → o ≡ None → ⊥
lays_spoken (Some x) h none = cc
lays_spoken None h none = cc

third_holds : (a b c : Bool) → c ≡ true → (a || (b || c)) ≡ true
third_holds true b c h = refl
third_holds false true c h = refl
third_holds false false c h = h

pub made_below : (r : Request) (t : Image) (rows : List Row) (said : List (Option Said)) (p : List ℕ) → IsRequest r → IsTable r rows said → holds_below (is_made r t) (row_paths rows) p ≡ after.holds_made (naming r) t p
made_below r t rows said p good table =
    any_either (is_below p) (λ q. makes (after.linked (naming r) t q)) (λ q. lays (r.over.at q)) (row_paths rows)
    ∙ ap (λ (b : Bool). b || list_any (λ q. is_below p q && lays (r.over.at q)) (row_paths rows))
    (same_any (λ q. is_below p q && makes (after.linked (naming r) t q)) (row_paths rows) r.new.keys
    (λ q is there. sym (good.new_want.keyed q) ∙ wanted q is)
    (λ q is there. wanted_row r rows said q table (wanted q is)))
    ∙ ap (λ (b : Bool). list_any (λ q. is_below p q && makes (after.linked (naming r) t q)) r.new.keys || b)
    (same_any (λ q. is_below p q && lays (r.over.at q)) (row_paths rows) r.over.keys
    (λ q is there. good.over_fits.keyed q (spoken (r.over.at q) (and_parts (is_below p q) (lays (r.over.at q)) is).1))
    (λ q is there. table.covers q ∙ third_holds (is_some (r.old.at q)) (is_some (r.new.at q)) (listed r.over.keys q) there))
  where
    wanted : (q : List ℕ) → (is_below p q && makes (after.linked (naming r) t q)) ≡ true → is_some (r.new.at q) ≡ true
    wanted q is = made_wanted r t q (and_parts (is_below p q) (makes (after.linked (naming r) t q)) is).1

    spoken : (o : Option (Option Entry)) → lays o ≡ true → is_some o ≡ true
    spoken (Some x) h = refl
    spoken None h = cc
