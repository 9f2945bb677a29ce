-- Rows and paths that are spoken of, merged line by line.
use Rattle.std.proofs.Common.{◌≡◌, ℕ, ◌+◌, ◌≤◌, Bool, true, false, ◌||◌, List, [], ◌∷◌, ◌++◌, append_assoc, map, take, drop, length, Option, Some, None, is_some, refl, sym, ◌∙◌, ap, subst, arith, Bor}
use Rattle.std.specs.Prelude.{slice_get}
use Rattle.std.specs.List.{AllByRecursion}
use Rattle.std.specs.Option.{option_map}
use Rattle.std.specs.Slice.{IsItemAt}
use Rattle.std.specs.List.Sorted.{IsStrictlySortedBy}
use Rattle.std.specs.declared.cmp.Ordering.{Ordering}
use Rattle.std.specs.declared.cmp.Ordering.TheVariants.{Less, Equal, Greater}
use Rattle.std.specs.Ordering.{nat_cmp, is_eq, ordering_reverse}
use Rattle.std.specs.Cmp.Lexicographic.{slice_cmp}
use Rattle.std.proofs.lemmas.Bool.{ltb-false, ltb-true, or_from}
use Rattle.std.proofs.lemmas.Cmp.{nat_list_cmp_total}
use Rattle.std.proofs.lemmas.List.{append-nil, drop_all, drop_more, map-append, take_more}
use Rattle.std.proofs.lemmas.Option.{get_or_from_slice_get, same_Some, slice_get_read, slice_get_within}
use Rattle.ips_text.specs.Ancestry.{same_path}
use Rattle.ips_text.proofs.Lists.{all_append}
use Rattle.ips_text.proofs.Truths.{or_assoc, or_false}
use Rattle.ips_outside.specs.Image.{Image}
use Rattle.ips_outside.proofs.Maps.{is_eq-path, one_path}
use Rattle.ips_after.specs.Lists.{listed}
use Rattle.ips_after.specs.Request.{Over, Request, Wanted}
use Rattle.ips_change.specs.declared.survey.row.Row.{Row}
use Rattle.ips_change.specs.survey.Rows.{HasLooked, IsRowOf}
use Rattle.ips_change.specs.survey.Marks.{row_paths}
use Rattle.ips_change.specs.declared.survey.next.Line.{Line}
use Rattle.ips_change.specs.declared.survey.said.Said.{Said}
use Rattle.ips_change.specs.declared.survey.said.Spoken.{Spoken}
use Rattle.ips_change.specs.survey.Lines.{bare, first_line, lesser_line, ranked_line, rows_taken, spoken_taken, unsaid}
use Rattle.ips_change.specs.survey.Said.{said_as}
use Rattle.ips_change.specs.survey.Tables.{AreSpoken, AreRowsOf, IsTable, spoken_paths}

abbrev Paths : Type 0
Paths = List (List ℕ)

abbrev InOrder : Paths → Type 0
InOrder paths = IsStrictlySortedBy (slice_cmp nat_cmp) paths

-- the path comes before all of these
abbrev Leads : List ℕ → Paths → Type 0
Leads p paths = AllByRecursion (λ (q : List ℕ). slice_cmp nat_cmp p q ≡ Less) paths

-- the path comes behind all of these
abbrev Past : Paths → List ℕ → Type 0
Past front q = AllByRecursion (λ (p : List ℕ). slice_cmp nat_cmp p q ≡ Less) front

-- all of these come behind the first ones
abbrev Behind : Paths → Paths → Type 0
Behind front paths = AllByRecursion (Past front) paths

-- ---- order

pub ordered_more : (front : Paths) (p : List ℕ) → InOrder front → Past front p → InOrder (front ++ p ∷ [])
unfolding IsStrictlySortedBy
ordered_more [] p order past = (tt, tt)
ordered_more (x ∷ front) p order past = (all_append (λ (q : List ℕ). slice_cmp nat_cmp x q ≡ Less) front (p ∷ []) order.0 (past.0, tt), ordered_more front p order.1 past.1)

behind_more : (front : Paths) (p : List ℕ) (paths : Paths) → Behind front paths → Leads p paths → Behind (front ++ p ∷ []) paths
behind_more front p [] behind leads = tt
behind_more front p (q ∷ paths) behind leads = (all_append (λ (x : List ℕ). slice_cmp nat_cmp x q ≡ Less) front (p ∷ []) behind.0 (leads.0, tt), behind_more front p paths behind.1 leads.1)

parts_of : (x : List ℕ) (xs : Paths) → InOrder (x ∷ xs) → Leads x xs × InOrder xs
unfolding IsStrictlySortedBy
parts_of x xs order = order

leads_on : (p y : List ℕ) (zs : Paths) → Leads y zs → slice_cmp nat_cmp p y ≡ Less → Leads p zs
leads_on p y [] all less = tt
leads_on p y (z ∷ zs) all less = (nat_list_cmp_total.trans p y z less all.0, leads_on p y zs all.1 less)

leads_all : (p y : List ℕ) (ys : Paths) → slice_cmp nat_cmp p y ≡ Less → InOrder (y ∷ ys) → Leads p (y ∷ ys)
leads_all p y ys less order = (less, leads_on p y ys (parts_of y ys order).0 less)

unlike : (p q : List ℕ) → slice_cmp nat_cmp p q ≡ Less → same_path q p ≡ false
unlike p q less = sym (is_eq-path p q) ∙ ap is_eq less

unlike_before : (p q : List ℕ) → slice_cmp nat_cmp q p ≡ Less → same_path q p ≡ false
unlike_before p q less = sym (is_eq-path p q) ∙ ap is_eq (nat_list_cmp_total.antisymm p q ∙ ap ordering_reverse less)

not_behind : (p : List ℕ) (paths : Paths) → Leads p paths → listed paths p ≡ false
not_behind p [] leads = refl
not_behind p (q ∷ paths) leads = or_from _ _ (unlike p q leads.0) (not_behind p paths leads.1)

not_before : (p : List ℕ) (front : Paths) → Past front p → listed front p ≡ false
not_before p [] past = refl
not_before p (q ∷ front) past = or_from _ _ (unlike_before p q past.0) (not_before p front past.1)

-- ---- lists of rows and of paths that are spoken of

pub rows_more : (front : List Row) (row : Row) → row_paths (front ++ row ∷ []) ≡ row_paths front ++ row.path.now.bytes ∷ []
rows_more [] row = refl
rows_more (x ∷ front) row = ap (λ (l : Paths). x.path.now.bytes ∷ l) (rows_more front row)

rows_both : (done left : List Row) (q : List ℕ) → listed (row_paths (done ++ left)) q ≡ (listed (row_paths done) q || listed (row_paths left) q)
rows_both [] left q = refl
rows_both (x ∷ done) left q = ap (λ (b : Bool). same_path x.path.now.bytes q || b) (rows_both done left q) ∙ sym (or_assoc (same_path x.path.now.bytes q) (listed (row_paths done) q) (listed (row_paths left) q))

spoken_both : (told more : List Spoken) (q : List ℕ) → listed (spoken_paths (told ++ more)) q ≡ (listed (spoken_paths told) q || listed (spoken_paths more) q)
spoken_both [] more q = refl
spoken_both (x ∷ told) more q = ap (λ (b : Bool). same_path x.path.now.bytes q || b) (spoken_both told more q) ∙ sym (or_assoc (same_path x.path.now.bytes q) (listed (spoken_paths told) q) (listed (spoken_paths more) q))

-- neither the second nor the first
pub or_none : (a b : Bool) → (a || b) ≡ false → (b ≡ false) × (a ≡ false)
or_none false b h = (h, refl)
or_none true b h = cc

-- what is said of a path
abbrev pub said_at : Over → List ℕ → Option Said
said_at o p = said_as (o.at p)

abbrev IsNamed : Over → Spoken → Type 0
IsNamed o s = s.said ≡ said_at o s.path.now.bytes

-- what is so far in the table, as the lists of a request say
record HasLines (r : Request) (rest : List Row) (others : List Spoken) (front : List Row) (told : List (Option Said)) : Type 0 where
  rows : AllByRecursion (IsRowOf r) front
  said : told ≡ map (said_at r.over) (row_paths front)
  left : AllByRecursion (IsRowOf r) rest
  more : AllByRecursion (IsNamed r.over) others

-- so much of both lists is in the table
pub record SoFar (rows : List Row) (spoken : List Spoken) (done left : List Row) (told more : List Spoken) (front : List Row) (said : List (Option Said)) : Type 0 where
  rows_are : done ++ left ≡ rows
  spoken_are : told ++ more ≡ spoken
  left_order : InOrder (row_paths left)
  more_order : InOrder (spoken_paths more)
  pub order : InOrder (row_paths front)
  pub long : length said ≡ length front
  rows_behind : Behind (row_paths front) (row_paths left)
  spoken_behind : Behind (row_paths front) (spoken_paths more)
  covers : (q : List ℕ) → listed (row_paths front) q ≡ (listed (row_paths done) q || listed (spoken_paths told) q)
  lines : (r : Request) → AreRowsOf r rows → AreSpoken r.over spoken → HasLines r left more front said
  looked : (t : Image) → AllByRecursion (HasLooked t) rows → AllByRecursion (HasLooked t) front × AllByRecursion (HasLooked t) left

-- ---- at first

are_named : (o : Over) (spoken : List Spoken) (keys : Paths) → spoken_paths spoken ≡ keys → map (λ (s : Spoken). s.said) spoken ≡ map (said_at o) keys → AllByRecursion (IsNamed o) spoken
are_named o spoken keys paths said = go spoken (said ∙ sym (ap (map (said_at o)) paths))
  where
    head : (a b : Option Said) (more others : List (Option Said)) → a ∷ more ≡ b ∷ others → (a ≡ b) × (more ≡ others)
    head a b more others h = (cc, cc)

    go : (l : List Spoken) → map (λ (s : Spoken). s.said) l ≡ map (said_at o) (spoken_paths l) → AllByRecursion (IsNamed o) l
    go [] h = tt
    go (s ∷ l) h =
        let both = head s.said (said_at o s.path.now.bytes) (map (λ (x : Spoken). x.said) l) (map (said_at o) (spoken_paths l)) h in
        (both.0, go l both.1)

all_past : (paths : Paths) → Behind [] paths
all_past [] = tt
all_past (p ∷ paths) = (tt, all_past paths)

none_in_order : InOrder []
unfolding IsStrictlySortedBy
none_in_order = tt

pub none_yet : (rows : List Row) (spoken : List Spoken) → InOrder (row_paths rows) → InOrder (spoken_paths spoken) → SoFar rows spoken [] rows [] spoken [] []
none_yet rows spoken by_path spoken_by_path = record {
  rows_are = refl;
  spoken_are = refl;
  left_order = by_path;
  more_order = spoken_by_path;
  order = none_in_order;
  long = refl;
  rows_behind = all_past (row_paths rows);
  spoken_behind = all_past (spoken_paths spoken);
  covers = λ q. refl;
  lines = λ r of named. record { rows = tt; said = refl; left = of.entries; more = are_named r.over spoken r.over.keys named.paths named.said };
  looked = λ t all. (tt, all);
}

-- ---- one line more

longer : {A B : Type 0} (xs : List A) (ys : List B) (x : A) (y : B) → length xs ≡ length ys → length (xs ++ x ∷ []) ≡ length (ys ++ y ∷ [])
longer [] [] x y h = refl
longer [] (b ∷ ys) x y h = absurd (omega (arith, h))
longer (a ∷ xs) [] x y h = absurd (omega (arith, h))
longer (a ∷ xs) (b ∷ ys) x y h = let rest = longer xs ys x y (omega (arith, h)) in omega (arith, rest)

said_more : (o : Over) (front : List Row) (row : Row) (said : List (Option Said)) (one : Option Said) → said ≡ map (said_at o) (row_paths front) → one ≡ said_at o row.path.now.bytes
    → said ++ one ∷ [] ≡ map (said_at o) (row_paths (front ++ row ∷ []))
said_more o front row said one are is =
    ap (λ (l : List (Option Said)). l ++ one ∷ []) are ∙ ap (λ (s : Option Said). map (said_at o) (row_paths front) ++ s ∷ []) is
    ∙ sym (ap (map (said_at o)) (rows_more front row) ∙ map-append (said_at o) (row_paths front) (row.path.now.bytes ∷ []))

covers_more : (front : List Row) (row : Row) (q : List ℕ) → listed (row_paths (front ++ row ∷ [])) q ≡ (listed (row_paths front) q || same_path row.path.now.bytes q)
covers_more front row q = rows_both front (row ∷ []) q ∙ ap (λ (b : Bool). listed (row_paths front) q || b) (sym (or_false (same_path row.path.now.bytes q)))

spoken_more : (told : List Spoken) (s : Spoken) (q : List ℕ) → listed (spoken_paths (told ++ s ∷ [])) q ≡ (listed (spoken_paths told) q || same_path s.path.now.bytes q)
spoken_more told s q = spoken_both told (s ∷ []) q ∙ ap (λ (b : Bool). listed (spoken_paths told) q || b) (sym (or_false (same_path s.path.now.bytes q)))

rotated : (a b c : Bool) → ((a || b) || c) ≡ ((a || c) || b)
rotated true b c = refl
rotated false true true = refl
rotated false true false = refl
rotated false false true = refl
rotated false false false = refl

spread : (a b c : Bool) → ((a || b) || c) ≡ ((a || c) || (b || c))
spread true b c = refl
spread false true true = refl
spread false true false = refl
spread false false true = refl
spread false false false = refl

no_entry : (o : Option Wanted) → is_some o ≡ false → None ≡ o
no_entry None h = refl
no_entry (Some w) h = cc

-- of the next row's path nothing is said, where it comes before the next path that is spoken of
unspoken : (r : Request) (rows : List Row) (spoken : List Spoken) (done left : List Row) (told more : List Spoken) (front : List Row) (said : List (Option Said)) (p : List ℕ)
    → SoFar rows spoken done left told more front said → AreSpoken r.over spoken → Past (row_paths front) p → Leads p (spoken_paths more) → None ≡ said_at r.over p
unspoken r rows spoken done left told more front said p h named past leads =
    let old = or_none (listed (row_paths done) p) (listed (spoken_paths told) p) (sym (h.covers p) ∙ not_before p (row_paths front) past) in
    let apart : listed r.over.keys p ≡ false =
    ap (λ (l : Paths). listed l p) (sym (ap spoken_paths h.spoken_are ∙ named.paths)) ∙ spoken_both told more p ∙ or_from _ _ old.0 (not_behind p (spoken_paths more) leads) in
    sym (ap said_as (named.none_else p apart))

-- at the next path that is spoken of nothing was or is wanted, where it comes before the next row
unwanted : (r : Request) (rows : List Row) (spoken : List Spoken) (done left : List Row) (told more : List Spoken) (front : List Row) (said : List (Option Said)) (p : List ℕ)
    → SoFar rows spoken done left told more front said → AreRowsOf r rows → Past (row_paths front) p → Leads p (row_paths left) → (None ≡ r.old.at p) × (None ≡ r.new.at p)
unwanted r rows spoken done left told more front said p h of past leads =
    let old = or_none (listed (row_paths done) p) (listed (spoken_paths told) p) (sym (h.covers p) ∙ not_before p (row_paths front) past) in
    let apart : listed (row_paths rows) p ≡ false =
    ap (λ (l : List Row). listed (row_paths l) p) (sym h.rows_are) ∙ rows_both done left p ∙ or_from _ _ old.1 (not_behind p (row_paths left) leads) in
    let none = or_none (is_some (r.old.at p)) (is_some (r.new.at p)) (sym (of.covers p) ∙ apart) in
    (no_entry (r.old.at p) none.1, no_entry (r.new.at p) none.0)

take_row : (rows : List Row) (spoken : List Spoken) (done : List Row) (x : Row) (left : List Row) (told more : List Spoken) (front : List Row) (said : List (Option Said))
    → SoFar rows spoken done (x ∷ left) told more front said → Leads x.path.now.bytes (spoken_paths more)
    → SoFar rows spoken (done ++ x ∷ []) left told more (front ++ x ∷ []) (said ++ None ∷ [])
take_row rows spoken done x left told more front said h leads =
    let p = x.path.now.bytes in
    let own = parts_of p (row_paths left) h.left_order in
    record {
      rows_are = append_assoc done (x ∷ []) left ∙ h.rows_are;
      spoken_are = h.spoken_are;
      left_order = own.1;
      more_order = h.more_order;
      order = subst InOrder (sym (rows_more front x)) (ordered_more (row_paths front) p h.order h.rows_behind.0);
      long = longer said front None x h.long;
      rows_behind = subst (λ (l : Paths). Behind l (row_paths left)) (sym (rows_more front x)) (behind_more (row_paths front) p (row_paths left) h.rows_behind.1 own.0);
      spoken_behind = subst (λ (l : Paths). Behind l (spoken_paths more)) (sym (rows_more front x)) (behind_more (row_paths front) p (spoken_paths more) h.spoken_behind leads);
      covers = λ q.
          covers_more front x q ∙ ap (λ (b : Bool). b || same_path p q) (h.covers q) ∙ rotated (listed (row_paths done) q) (listed (spoken_paths told) q) (same_path p q)
          ∙ ap (λ (b : Bool). b || listed (spoken_paths told) q) (sym (covers_more done x q));
      lines = λ r of named.
          let l = h.lines r of named in
          record {
            rows = all_append (IsRowOf r) front (x ∷ []) l.rows (l.left.0, tt);
            said = said_more r.over front x said None l.said (unspoken r rows spoken done (x ∷ left) told more front said p h named h.rows_behind.0 leads);
            left = l.left.1;
            more = l.more;
          };
      looked = λ t all. let l = h.looked t all in (all_append (HasLooked t) front (x ∷ []) l.0 (l.1.0, tt), l.1.1);
    }

abbrev bare_row : Spoken → Row
bare_row s = (bare s).row

take_spoken : (rows : List Row) (spoken : List Spoken) (done left : List Row) (told : List Spoken) (y : Spoken) (more : List Spoken) (front : List Row) (said : List (Option Said))
    → SoFar rows spoken done left told (y ∷ more) front said → Leads y.path.now.bytes (row_paths left)
    → SoFar rows spoken done left (told ++ y ∷ []) more (front ++ bare_row y ∷ []) (said ++ y.said ∷ [])
take_spoken rows spoken done left told y more front said h leads =
    let p = y.path.now.bytes in
    let own = parts_of p (spoken_paths more) h.more_order in
    record {
      rows_are = h.rows_are;
      spoken_are = append_assoc told (y ∷ []) more ∙ h.spoken_are;
      left_order = h.left_order;
      more_order = own.1;
      order = subst InOrder (sym (rows_more front (bare_row y))) (ordered_more (row_paths front) p h.order h.spoken_behind.0);
      long = longer said front y.said (bare_row y) h.long;
      rows_behind = subst (λ (l : Paths). Behind l (row_paths left)) (sym (rows_more front (bare_row y))) (behind_more (row_paths front) p (row_paths left) h.rows_behind leads);
      spoken_behind = subst (λ (l : Paths). Behind l (spoken_paths more)) (sym (rows_more front (bare_row y))) (behind_more (row_paths front) p (spoken_paths more) h.spoken_behind.1 own.0);
      covers = λ q.
          covers_more front (bare_row y) q ∙ ap (λ (b : Bool). b || same_path p q) (h.covers q) ∙ or_assoc (listed (row_paths done) q) (listed (spoken_paths told) q) (same_path p q)
          ∙ ap (λ (b : Bool). listed (row_paths done) q || b) (sym (spoken_more told y q));
      lines = λ r of named.
          let l = h.lines r of named in
          let none = unwanted r rows spoken done left told (y ∷ more) front said p h of h.spoken_behind.0 leads in
          record {
            rows = all_append (IsRowOf r) front (bare_row y ∷ []) l.rows (none, tt);
            said = said_more r.over front (bare_row y) said y.said l.said l.more.0;
            left = l.left;
            more = l.more.1;
          };
      looked = λ t all. let l = h.looked t all in (all_append (HasLooked t) front (bare_row y ∷ []) l.0 (refl, tt), l.1);
    }

take_both : (rows : List Row) (spoken : List Spoken) (done : List Row) (x : Row) (left : List Row) (told : List Spoken) (y : Spoken) (more : List Spoken) (front : List Row) (said : List (Option Said))
    → SoFar rows spoken done (x ∷ left) told (y ∷ more) front said → y.path.now.bytes ≡ x.path.now.bytes
    → SoFar rows spoken (done ++ x ∷ []) left (told ++ y ∷ []) more (front ++ x ∷ []) (said ++ y.said ∷ [])
take_both rows spoken done x left told y more front said h one =
    let p = x.path.now.bytes in
    let own = parts_of p (row_paths left) h.left_order in
    let others = parts_of y.path.now.bytes (spoken_paths more) h.more_order in
    let leads : Leads p (spoken_paths more) = subst (λ (q : List ℕ). Leads q (spoken_paths more)) one others.0 in
    record {
      rows_are = append_assoc done (x ∷ []) left ∙ h.rows_are;
      spoken_are = append_assoc told (y ∷ []) more ∙ h.spoken_are;
      left_order = own.1;
      more_order = others.1;
      order = subst InOrder (sym (rows_more front x)) (ordered_more (row_paths front) p h.order h.rows_behind.0);
      long = longer said front y.said x h.long;
      rows_behind = subst (λ (l : Paths). Behind l (row_paths left)) (sym (rows_more front x)) (behind_more (row_paths front) p (row_paths left) h.rows_behind.1 own.0);
      spoken_behind = subst (λ (l : Paths). Behind l (spoken_paths more)) (sym (rows_more front x)) (behind_more (row_paths front) p (spoken_paths more) h.spoken_behind.1 leads);
      covers = λ q.
          covers_more front x q ∙ ap (λ (b : Bool). b || same_path p q) (h.covers q) ∙ spread (listed (row_paths done) q) (listed (spoken_paths told) q) (same_path p q)
          ∙ ap (λ (b : Bool). b || (listed (spoken_paths told) q || same_path p q)) (sym (covers_more done x q))
          ∙ ap (λ (b : Bool). listed (row_paths (done ++ x ∷ [])) q || b) (sym (spoken_more told y q ∙ ap (λ (z : List ℕ). listed (spoken_paths told) q || same_path z q) one));
      lines = λ r of named.
          let l = h.lines r of named in
          record {
            rows = all_append (IsRowOf r) front (x ∷ []) l.rows (l.left.0, tt);
            said = said_more r.over front x said y.said l.said (l.more.0 ∙ ap (said_at r.over) one);
            left = l.left.1;
            more = l.more.1;
          };
      looked = λ t all. let l = h.looked t all in (all_append (HasLooked t) front (x ∷ []) l.0 (l.1.0, tt), l.1.1);
    }

-- ---- at these places of both lists

abbrev pub Filled : List Row → List Spoken → ℕ → ℕ → List Row → List (Option Said) → Type 0
Filled rows spoken i j front said = SoFar rows spoken (take i rows) (drop i rows) (take j spoken) (drop j spoken) front said

cut : {A : Type 0} (xs : List A) (i : ℕ) (x : A) → slice_get xs i ≡ Some x → (drop i xs ≡ x ∷ drop (i + 1) xs) × (take i xs ++ x ∷ [] ≡ take (i + 1) xs)
cut xs i x is =
    let lt = slice_get_within xs i x is in
    let here = get_or_from_slice_get xs i x x is in
    (drop_more xs i x lt ∙ ap (λ (y : _). y ∷ drop (i + 1) xs) here, sym (take_more xs i x lt ∙ ap (λ (y : _). take i xs ++ y ∷ []) here))

step_row : (rows : List Row) (spoken : List Spoken) (i j : ℕ) (front : List Row) (said : List (Option Said)) (x : Row) → Filled rows spoken i j front said → slice_get rows i ≡ Some x
    → Leads x.path.now.bytes (spoken_paths (drop j spoken)) → Filled rows spoken (i + 1) j (front ++ x ∷ []) (said ++ None ∷ [])
step_row rows spoken i j front said x h is leads =
    let c = cut rows i x is in
    subst (λ (l : List Row). SoFar rows spoken l (drop (i + 1) rows) (take j spoken) (drop j spoken) (front ++ x ∷ []) (said ++ None ∷ [])) c.1
    (take_row rows spoken (take i rows) x (drop (i + 1) rows) (take j spoken) (drop j spoken) front said
    (subst (λ (l : List Row). SoFar rows spoken (take i rows) l (take j spoken) (drop j spoken) front said) c.0 h) leads)

step_spoken : (rows : List Row) (spoken : List Spoken) (i j : ℕ) (front : List Row) (said : List (Option Said)) (y : Spoken) → Filled rows spoken i j front said → slice_get spoken j ≡ Some y
    → Leads y.path.now.bytes (row_paths (drop i rows)) → Filled rows spoken i (j + 1) (front ++ bare_row y ∷ []) (said ++ y.said ∷ [])
step_spoken rows spoken i j front said y h is leads =
    let c = cut spoken j y is in
    subst (λ (l : List Spoken). SoFar rows spoken (take i rows) (drop i rows) l (drop (j + 1) spoken) (front ++ bare_row y ∷ []) (said ++ y.said ∷ [])) c.1
    (take_spoken rows spoken (take i rows) (drop i rows) (take j spoken) y (drop (j + 1) spoken) front said
    (subst (λ (l : List Spoken). SoFar rows spoken (take i rows) (drop i rows) (take j spoken) l front said) c.0 h) leads)

step_both : (rows : List Row) (spoken : List Spoken) (i j : ℕ) (front : List Row) (said : List (Option Said)) (x : Row) (y : Spoken) → Filled rows spoken i j front said → slice_get rows i ≡ Some x → slice_get spoken j ≡ Some y
    → y.path.now.bytes ≡ x.path.now.bytes → Filled rows spoken (i + 1) (j + 1) (front ++ x ∷ []) (said ++ y.said ∷ [])
step_both rows spoken i j front said x y h is at one =
    let c = cut rows i x is in
    let d = cut spoken j y at in
    subst (λ (l : List Spoken). SoFar rows spoken (take (i + 1) rows) (drop (i + 1) rows) l (drop (j + 1) spoken) (front ++ x ∷ []) (said ++ y.said ∷ [])) d.1
    (subst (λ (l : List Row). SoFar rows spoken l (drop (i + 1) rows) (take j spoken ++ y ∷ []) (drop (j + 1) spoken) (front ++ x ∷ []) (said ++ y.said ∷ [])) c.1
    (take_both rows spoken (take i rows) x (drop (i + 1) rows) (take j spoken) y (drop (j + 1) spoken) front said
    (subst (λ (l : List Spoken). SoFar rows spoken (take i rows) (x ∷ drop (i + 1) rows) (take j spoken) l front said) d.0
    (subst (λ (l : List Row). SoFar rows spoken (take i rows) l (take j spoken) (drop j spoken) front said) c.0 h)) one))

-- the path leads what is left of a list, where it comes before the first of it
leads_spoken : (rows : List Row) (spoken : List Spoken) (i j : ℕ) (front : List Row) (said : List (Option Said)) (p : List ℕ) (y : Spoken) → Filled rows spoken i j front said → slice_get spoken j ≡ Some y
    → slice_cmp nat_cmp p y.path.now.bytes ≡ Less → Leads p (spoken_paths (drop j spoken))
leads_spoken rows spoken i j front said p y h is less =
    let c = cut spoken j y is in
    subst (λ (l : List Spoken). Leads p (spoken_paths l)) (sym c.0)
    (leads_all p y.path.now.bytes (spoken_paths (drop (j + 1) spoken)) less (subst (λ (l : List Spoken). InOrder (spoken_paths l)) c.0 h.more_order))

leads_rows : (rows : List Row) (spoken : List Spoken) (i j : ℕ) (front : List Row) (said : List (Option Said)) (p : List ℕ) (x : Row) → Filled rows spoken i j front said → slice_get rows i ≡ Some x
    → slice_cmp nat_cmp p x.path.now.bytes ≡ Less → Leads p (row_paths (drop i rows))
leads_rows rows spoken i j front said p x h is less =
    let c = cut rows i x is in
    subst (λ (l : List Row). Leads p (row_paths l)) (sym c.0)
    (leads_all p x.path.now.bytes (row_paths (drop (i + 1) rows)) less (subst (λ (l : List Row). InOrder (row_paths l)) c.0 h.left_order))

-- how the next of a list is found
abbrev pub Next : {A : Type 0} → List A → ℕ → Option A → Type 0
Next xs i (Some x) = slice_get xs i ≡ Some x
Next xs i None = drop i xs ≡ []

pub next_found : {A : Type 0} (xs : List A) (i : ℕ) (r : Option (Bor A)) → IsItemAt xs i r → Next xs i (option_map (λ (x : Bor A). x.now) r)
next_found xs i (Some x) h = slice_get_read xs (length xs) i x.now refl (ltb-true i (length xs) (sym h.0)) h.1
next_found xs i None h = drop_all i xs (ltb-false i (length xs) (sym h.0))

none_left : (k : ℕ) → k ≡ k + 0
none_left k = omega arith

abbrev Steps : List Row → List Spoken → ℕ → ℕ → List Row → List (Option Said) → Line → Type 0
Steps rows spoken i j front said line = Filled rows spoken (i + rows_taken line.origin) (j + spoken_taken line.origin) (front ++ line.row ∷ []) (said ++ line.said ∷ [])

-- one line more
pub line_added : (rows : List Row) (spoken : List Spoken) (i j : ℕ) (front : List Row) (said : List (Option Said)) (row : Option Row) (one : Option Spoken) (line : Line)
    → Next rows i row → Next spoken j one → first_line row one ≡ Some line → Filled rows spoken i j front said → Steps rows spoken i j front said line
line_added rows spoken i j front said row one line at_row at_one is h = go row one at_row at_one is
  where
    old : (x : Row) → slice_get rows i ≡ Some x → Leads x.path.now.bytes (spoken_paths (drop j spoken)) → Steps rows spoken i j front said (unsaid x)
    old x at leads = subst (λ (k : ℕ). Filled rows spoken (i + 1) k (front ++ x ∷ []) (said ++ None ∷ [])) (none_left j) (step_row rows spoken i j front said x h at leads)

    new : (y : Spoken) → slice_get spoken j ≡ Some y → Leads y.path.now.bytes (row_paths (drop i rows)) → Steps rows spoken i j front said (bare y)
    new y at leads = subst (λ (k : ℕ). Filled rows spoken k (j + 1) (front ++ bare_row y ∷ []) (said ++ y.said ∷ [])) (none_left i) (step_spoken rows spoken i j front said y h at leads)

    least : (x : Row) (y : Spoken) → slice_get rows i ≡ Some x → slice_get spoken j ≡ Some y → (o : Ordering) → slice_cmp nat_cmp x.path.now.bytes y.path.now.bytes ≡ o → Steps rows spoken i j front said (ranked_line o x y)
    least x y at there Less e = old x at (leads_spoken rows spoken i j front said x.path.now.bytes y h there e)
    least x y at there Equal e = step_both rows spoken i j front said x y h at there (one_path x.path.now.bytes y.path.now.bytes e)
    least x y at there Greater e = new y there (leads_rows rows spoken i j front said y.path.now.bytes x h at (nat_list_cmp_total.antisymm y.path.now.bytes x.path.now.bytes ∙ ap ordering_reverse e))

    go : (o : Option Row) (n : Option Spoken) → Next rows i o → Next spoken j n → first_line o n ≡ Some line → Steps rows spoken i j front said line
    go (Some x) (Some y) at there e = subst (Steps rows spoken i j front said) (same_Some (lesser_line x y) line e) (least x y at there (slice_cmp nat_cmp x.path.now.bytes y.path.now.bytes) refl)
    go (Some x) None at there e = subst (Steps rows spoken i j front said) (same_Some (unsaid x) line e) (old x at (subst (λ (l : List Spoken). Leads x.path.now.bytes (spoken_paths l)) (sym there) tt))
    go None (Some y) at there e = subst (Steps rows spoken i j front said) (same_Some (bare y) line e) (new y there (subst (λ (l : List Row). Leads y.path.now.bytes (row_paths l)) (sym at) tt))
    go None None at there e = cc

-- how far both places go
pub record Moves (rows : List Row) (spoken : List Spoken) (i j : ℕ) (line : Line) : Type 0 where
  pub rows_within : i + rows_taken line.origin ≤ length rows
  pub spoken_within : j + spoken_taken line.origin ≤ length spoken

pub moves : (rows : List Row) (spoken : List Spoken) (i j : ℕ) (row : Option Row) (one : Option Spoken) (line : Line) → Next rows i row → Next spoken j one → first_line row one ≡ Some line → i ≤ length rows → j ≤ length spoken → Moves rows spoken i j line
moves rows spoken i j row one line at_row at_one is within spoken_within = go row one at_row at_one is
  where
    old : (x : Row) → slice_get rows i ≡ Some x → Moves rows spoken i j (unsaid x)
    old x at = let lt = slice_get_within rows i x at in record { rows_within = omega (arith, lt); spoken_within = omega (arith, spoken_within) }

    new : (y : Spoken) → slice_get spoken j ≡ Some y → Moves rows spoken i j (bare y)
    new y at = let lt = slice_get_within spoken j y at in record { rows_within = omega (arith, within); spoken_within = omega (arith, lt) }

    least : (x : Row) (y : Spoken) → slice_get rows i ≡ Some x → slice_get spoken j ≡ Some y → (o : Ordering) → Moves rows spoken i j (ranked_line o x y)
    least x y at there Less = old x at
    least x y at there Equal =
        let lt = slice_get_within rows i x at in
        let less = slice_get_within spoken j y there in
        record { rows_within = omega (arith, lt); spoken_within = omega (arith, less) }
    least x y at there Greater = new y there

    go : (o : Option Row) (n : Option Spoken) → Next rows i o → Next spoken j n → first_line o n ≡ Some line → Moves rows spoken i j line
    go (Some x) (Some y) at there e = subst (Moves rows spoken i j) (same_Some (lesser_line x y) line e) (least x y at there (slice_cmp nat_cmp x.path.now.bytes y.path.now.bytes))
    go (Some x) None at there e = subst (Moves rows spoken i j) (same_Some (unsaid x) line e) (old x at)
    go None (Some y) at there e = subst (Moves rows spoken i j) (same_Some (bare y) line e) (new y there)
    go None None at there e = cc

-- ---- at the end

third : (a b c : Bool) → (a || (b || c)) ≡ false → c ≡ false
third false false c h = h
third false true c h = cc
third true b c h = cc

pub none_next : (rows : List Row) (spoken : List Spoken) (i j : ℕ) (row : Option Row) (one : Option Spoken) → Next rows i row → Next spoken j one → first_line row one ≡ None → (drop i rows ≡ []) × (drop j spoken ≡ [])
none_next rows spoken i j (Some x) (Some y) at there e = cc
none_next rows spoken i j (Some x) None at there e = cc
none_next rows spoken i j None (Some y) at there e = cc
none_next rows spoken i j None None at there e = (at, there)

pub is_table : (r : Request) (rows : List Row) (spoken : List Spoken) (i j : ℕ) (front : List Row) (said : List (Option Said)) → Filled rows spoken i j front said → drop i rows ≡ [] → drop j spoken ≡ []
    → AreRowsOf r rows → AreSpoken r.over spoken → IsTable r front said
is_table r rows spoken i j front said h no_rows none_spoken of named =
    let lines = h.lines r of named in
    let all_rows : take i rows ≡ rows = sym (append-nil (take i rows)) ∙ ap (λ (l : List Row). take i rows ++ l) (sym no_rows) ∙ h.rows_are in
    let all_spoken : take j spoken ≡ spoken = sym (append-nil (take j spoken)) ∙ ap (λ (l : List Spoken). take j spoken ++ l) (sym none_spoken) ∙ h.spoken_are in
    let covers : (q : List ℕ) → listed (row_paths front) q ≡ (is_some (r.old.at q) || (is_some (r.new.at q) || listed r.over.keys q)) = λ q.
    h.covers q ∙ ap (λ (l : List Row). listed (row_paths l) q || listed (spoken_paths (take j spoken)) q) all_rows
    ∙ ap (λ (l : List Spoken). listed (row_paths rows) q || listed (spoken_paths l) q) all_spoken
    ∙ ap (λ (b : Bool). b || listed (spoken_paths spoken) q) (of.covers q)
    ∙ ap (λ (l : Paths). (is_some (r.old.at q) || is_some (r.new.at q)) || listed l q) named.paths
    ∙ or_assoc (is_some (r.old.at q)) (is_some (r.new.at q)) (listed r.over.keys q) in
    record {
      order = h.order;
      entries = lines.rows;
      covers = covers;
      said = lines.said;
      none_else = λ q none. named.none_else q (third (is_some (r.old.at q)) (is_some (r.new.at q)) (listed r.over.keys q) (sym (covers q) ∙ none));
    }

pub all_looked : (rows : List Row) (spoken : List Spoken) (i j : ℕ) (front : List Row) (said : List (Option Said)) → Filled rows spoken i j front said → (t : Image) → AllByRecursion (HasLooked t) rows → AllByRecursion (HasLooked t) front
all_looked rows spoken i j front said h t all = (h.looked t all).0
