-- What is found at a path of a list of entries.
use Rattle.std.proofs.Common.{◌≡◌, ℕ, zero, suc, ◌<◌, ◌||◌, Bool, true, false, cond, not, List, [], ◌∷◌, map, length, Option, Some, None, is_some, refl, sym, ap, subst, ◌∙◌, ◌⊎◌, inl, inr, arith}
use Rattle.std.specs.List.{Contains}
use Rattle.std.specs.List.Sorted.{IsStrictlySortedBy}
use Rattle.std.specs.Ordering.{nat_cmp}
use Rattle.std.specs.Cmp.Lexicographic.{slice_cmp}
use Rattle.std.proofs.lemmas.Bool.{and_parts, or_left, or_right, not-true, cases_Bool, false_from_ne_true}
use Rattle.std.proofs.lemmas.Option.{same_Some}
use Rattle.std.proofs.lemmas.List.Elements.{All-contains, Contains-append_right}
use Rattle.ips_text.specs.Ancestry.{same_path, covers, is_below}
use Rattle.ips_text.specs.Path.{IsPath}
use Rattle.ips_text.proofs.Ancestry.{same_path-true, same_path-self, at_parent_of, parent_length}
use Rattle.ips_meaning.specs.declared.entry.Entry.{Entry}
use Rattle.ips_meaning.specs.declared.entry.Entry.TheVariants.{Dir, File, Link, Hard}
use Rattle.ips_meaning.specs.Together.{AreProper, HangTogether, HasProperParts, IsDirWanted, IsFileWanted, LeadsToWanted}
use Rattle.ips_after.specs.Lists.{listed, unrepeated}
use Rattle.ips_after.specs.Planned.{HasWantedParts}
use Rattle.ips_after.specs.Request.{IsWant, WantDir, WantFile, WantHard, WantLink, Wanted, is_dir_wanted, is_file_wanted}
use Rattle.ips_after.proofs.Fits.{below_of}
use Rattle.ips_after.proofs.Sorted.{sorted_once}
use Rattle.ips_steps.specs.declared.target.TargetFault.{TargetFault}
use Rattle.ips_steps.specs.declared.target.TargetFault.TheVariants.{Empty, TooLong, Nul}
use Rattle.ips_steps.specs.Targets.{HasFault, has_nul}
use Rattle.ips_steps.proofs.Lists.{clash}
use Rattle.ips_change.specs.wanted.Wanted.{AreLinkBytes, HasLinkBytes, want_of, wanted_among, wanted_of}

abbrev paths_of : List (List ℕ × Entry) → List (List ℕ)
paths_of entries = map (λ (e : List ℕ × Entry). e.0) entries

pub in_either : {A : Type 0} (e x : A) (es : List A) → Contains (e ∷ es) x → (e ≡ x) ⊎ Contains es x
in_either e x es (zero, l, is) = inl is
in_either e x es (suc k, l, is) = inr (k, omega arith, is)

-- something is wanted just where a path is listed
pub listed_at : (entries : List (List ℕ × Entry)) (q : List ℕ) → is_some (wanted_among entries q) ≡ listed (paths_of entries) q
listed_at [] q = refl
listed_at (e ∷ es) q = go (same_path e.0 q) (listed_at es q)
  where
    go : (b : Bool) → is_some (wanted_among es q) ≡ listed (paths_of es) q → is_some (cond b (Some (wanted_of e.1)) (wanted_among es q)) ≡ (b || listed (paths_of es) q)
    go true rest = refl
    go false rest = rest

listed_in : (entries : List (List ℕ × Entry)) (q : List ℕ) (entry : Entry) → Contains entries (q, entry) → listed (paths_of entries) q ≡ true
listed_in [] q entry (k, l, is) = absurd (omega arith)
listed_in (e ∷ es) q entry there = elim (in_either e (q, entry) es there) [
  | inl is ↦ or_left (same_path e.0 q) (listed (paths_of es) q) (ap (λ (x : List ℕ × Entry). same_path x.0 q) is ∙ same_path-self q)
  | inr more ↦ or_right (same_path e.0 q) (listed (paths_of es) q) (listed_in es q entry more)
]

-- an entry is found at its path, where no path is there twice
pub found_at : (entries : List (List ℕ × Entry)) (q : List ℕ) (entry : Entry) → unrepeated (paths_of entries) ≡ true → Contains entries (q, entry) → wanted_among entries q ≡ Some (wanted_of entry)
found_at [] q entry once (k, l, is) = absurd (omega arith)
found_at (e ∷ es) q entry once there = elim (in_either e (q, entry) es there) [
  | inl is ↦ ap (λ (x : List ℕ × Entry). cond (same_path x.0 q) (Some (wanted_of x.1)) (wanted_among es q)) is ∙ rw (same_path-self q) refl
  | inr more ↦
      let parts = and_parts (not (listed (paths_of es) e.0)) (unrepeated (paths_of es)) once in
      let apart : same_path e.0 q ≡ false = false_from_ne_true _ (λ same. clash (listed (paths_of es) e.0) (ap (listed (paths_of es)) (same_path-true e.0 q same) ∙ listed_in es q entry more) (not-true _ parts.0)) in
      rw apart (found_at es q entry parts.1 more)
]

-- and nothing else is
pub only_at : (entries : List (List ℕ × Entry)) (q : List ℕ) (w : Wanted) → wanted_among entries q ≡ Some w → (entry : Entry) × Contains entries (q, entry) × (w ≡ wanted_of entry)
only_at [] q w is = cc
only_at (e ∷ es) q w is = go (same_path e.0 q) refl (only_at es q w) is
  where
    go : (b : Bool) → same_path e.0 q ≡ b → (wanted_among es q ≡ Some w → (entry : Entry) × Contains es (q, entry) × (w ≡ wanted_of entry))
        → cond b (Some (wanted_of e.1)) (wanted_among es q) ≡ Some w → (entry : Entry) × Contains (e ∷ es) (q, entry) × (w ≡ wanted_of entry)
    go true same rest is = let pair : List ℕ → List ℕ × Entry = λ p. (p, e.1) in (e.1, (0, omega arith, ap pair (same_path-true e.0 q same)), sym (same_Some (wanted_of e.1) w is))
    go false same rest is = let (entry, there, one) = rest is in (entry, Contains-append_right (e ∷ []) es (q, entry) there, one)

dir_found : (entries : List (List ℕ × Entry)) (p d : List ℕ) (mode : Option ℕ) → unrepeated (paths_of entries) ≡ true → p ≡ d → Contains entries (d, Dir mode) → is_dir_wanted (wanted_among entries p) ≡ true
dir_found entries p d mode once same there = ap (λ (x : List ℕ). is_dir_wanted (wanted_among entries x)) same ∙ ap is_dir_wanted (found_at entries d (Dir mode) once there)

-- what is above a path that is wanted is wanted as a directory
dirs_above : (entries : List (List ℕ × Entry)) → unrepeated (paths_of entries) ≡ true → HangTogether entries → (n : ℕ) (p q : List ℕ) (entry : Entry) → length q < n → is_below p q ≡ true → Contains entries (q, entry)
    → is_dir_wanted (wanted_among entries p) ≡ true
dirs_above entries once together zero p q entry short up there = absurd (omega arith)
dirs_above entries once together (suc n) p q entry short up there =
    let parts = and_parts (covers p q) (not (same_path p q)) up in
    let d = at_parent_of p q parts.0 (not-true _ parts.1) in
    let own : IsDirWanted entries (Some d.dir) = subst (IsDirWanted entries) d.is (together.held q entry there) in
    elim (cases_Bool (same_path p d.dir)) [
      | inl same ↦ dir_found entries p d.dir own.0 once (same_path-true p d.dir same) own.1
      | inr apart ↦ dirs_above entries once together n p d.dir (Dir own.0) (let less = parent_length q d.dir d.is in omega arith) (below_of p d.dir d.up apart) own.1
    ]

pub some_there : (o : Option Wanted) → is_some o ≡ true → (x : Wanted) × (o ≡ Some x)
some_there (Some x) h = (x, refl)
some_there None h = cc

-- entries in order that hang together are a Want
pub is_want : (entries : List (List ℕ × Entry)) → IsStrictlySortedBy (slice_cmp nat_cmp) (paths_of entries) → HangTogether entries → IsWant (want_of entries)
is_want entries order together = record {
  keyed = listed_at entries;
  by_bytes = order;
  dirs = λ p q up there.
      let w = some_there (wanted_among entries q) there in
      let e = only_at entries q w.0 w.1 in
      dirs_above entries (sorted_once (paths_of entries) order) together (suc (length q)) p q e.0 (omega arith) up e.1;
}

-- what a hard link leads to is wanted as a file
pub led_to_file : (entries : List (List ℕ × Entry)) (q to : List ℕ) → unrepeated (paths_of entries) ≡ true → HangTogether entries → wanted_among entries q ≡ Some (WantHard to) → is_file_wanted (wanted_among entries to) ≡ true
led_to_file entries q to once together is = let e = only_at entries q (WantHard to) is in go e.0 e.1 e.2
  where
    same_to : (a b : List ℕ) → WantHard a ≡ WantHard b → a ≡ b
    same_to a b h = ap (λ (w : Wanted). named w) h
      where
        named : Wanted → List ℕ
        named (WantDir m) = []
        named (WantFile payload m preserve) = []
        named (WantLink g) = []
        named (WantHard x) = x

    go : (entry : Entry) → Contains entries (q, entry) → WantHard to ≡ wanted_of entry → is_file_wanted (wanted_among entries to) ≡ true
    go (Dir m) there h = cc
    go (File payload m preserve) there h = cc
    go (Link g) there h = cc
    go (Hard x) there h =
        let led : IsFileWanted entries x.bytes = All-contains (λ (e : List ℕ × Entry). LeadsToWanted entries e.1) entries (q, Hard x) together.led there in
        ap (λ (y : List ℕ). is_file_wanted (wanted_among entries y)) (same_to to x.bytes h) ∙ ap is_file_wanted (found_at entries x.bytes (File led.0 led.1 led.2) once led.3)

-- what is wanted has proper parts
pub proper_at : (entries : List (List ℕ × Entry)) (q : List ℕ) (w : Wanted) → AreProper entries → AreLinkBytes entries → wanted_among entries q ≡ Some w → IsPath q × HasWantedParts w
proper_at entries q w proper bytes is =
    let e = only_at entries q w is in
    let own : IsPath q × HasProperParts e.0 = All-contains (λ (x : List ℕ × Entry). IsPath x.0 × HasProperParts x.1) entries (q, e.0) proper e.1 in
    let said : HasLinkBytes e.0 = All-contains (λ (x : List ℕ × Entry). HasLinkBytes x.1) entries (q, e.0) bytes e.1 in
    (own.0, subst HasWantedParts (sym e.2) (go e.0 own.1 said))
  where
    go : (entry : Entry) → HasProperParts entry → HasLinkBytes entry → HasWantedParts (wanted_of entry)
    go (Dir (Some m)) h b = h
    go (Dir None) h b = cc
    go (File payload m preserve) h b = h
    go (Link g) h b = (λ fault has. target_of fault has, b)
      where
        target_of : (fault : TargetFault) → HasFault fault g → ⊥
        target_of Empty none = let some = h.some in omega arith
        target_of TooLong long = let short = h.short in omega arith
        target_of Nul nul = clash (has_nul g) nul.1 h.text
    go (Hard x) h b = h
