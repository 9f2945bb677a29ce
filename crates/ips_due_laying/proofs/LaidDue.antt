-- What is laid by what is due and outstanding is what account files and records lay.
use Rattle.std.proofs.Common.{◌≡◌, ℕ, Bool, true, false, cond, ◌||◌, List, [], ◌∷◌, map, Option, Some, None, is_some, refl, sym, ap, ◌∙◌, inl, inr}
use Rattle.std.specs.Prelude.{slice_get}
use Rattle.std.specs.Option.{option_map}
use Rattle.std.proofs.lemmas.Bool.{cases_Bool, true≢false}
use Rattle.std.proofs.lemmas.Option.{same_Some}
use Rattle.ips_text.specs.Ancestry.{same_path}
use Rattle.ips_text.proofs.Ancestry.{same_path-true}
use Rattle.ips_outside.specs.Image.{Dir, Entry, File, Image, Other}
use Rattle.ips_change.specs.wanted.Named.{is_payload_of}
use Rattle.ips_after.specs.Lists.{listed}
use Rattle.ips_after.specs.Request.{Over, lays}
use Rattle.ips_due.specs.Due.{Content, Due, DueFile, IsOverOf, OfPayload, Own, bytes_of_content, said}
use Rattle.ips_due.proofs.Fitting.{Said, said_is}
use Rattle.ips_laying.specs.Laying.{Laid, LaysFor, entry_laid}
use Rattle.ips_due.specs.declared.outstanding.verdict.Named.{Named}
use Rattle.ips_due.specs.declared.outstanding.verdict.Verdict.{Verdict}
use Rattle.ips_due.specs.declared.outstanding.verdict.Verdict.TheVariants as verdict
use Rattle.ips_due.specs.outstanding.Outstanding.{AreOutstanding}
use Rattle.ips_due.specs.outstanding.Verdicts.{account_entry, meant, named_paths, record_entry}
use Rattle.ips_due_laying.specs.Laying.{Place, account_laid, content_laid, laid_at, laid_for, laid_paths, record_laid, verdict_at}

meant_at : (bytes : List ℕ → List ℕ) (due : Due) (says : List ℕ → Option (Option Entry)) (named : List Named) (q : List ℕ) → map (λ n. meant bytes due n.verdict) named ≡ map says (named_paths named) → listed (named_paths named) q ≡ true → meant bytes due (verdict_at named q) ≡ says q
meant_at bytes due says [] q are there = cc
meant_at bytes due says (n ∷ named) q are there =
    let one : meant bytes due n.verdict ≡ says n.path.bytes = cc in
    let rest : map (λ (x : Named). meant bytes due x.verdict) named ≡ map says (named_paths named) = cc in
    elim (cases_Bool (same_path n.path.bytes q)) [
      | inl same ↦ ap (λ (b : Bool). meant bytes due (cond b n.verdict (verdict_at named q))) same ∙ one ∙ ap says (same_path-true n.path.bytes q same)
      | inr other ↦ ap (λ (b : Bool). meant bytes due (cond b n.verdict (verdict_at named q))) other ∙ meant_at bytes due says named q rest (sym (ap (λ (b : Bool). b || listed (named_paths named) q) other) ∙ there)
    ]

-- of a path that isn't named nothing is said
unnamed : (named : List Named) (q : List ℕ) → listed (named_paths named) q ≡ false → verdict_at named q ≡ None
unnamed [] q none = refl
unnamed (n ∷ named) q none = go (same_path n.path.bytes q) (unnamed named q) none
  where
    go : (b : Bool) → (listed (named_paths named) q ≡ false → verdict_at named q ≡ None) → (b || listed (named_paths named) q) ≡ false → cond b n.verdict (verdict_at named q) ≡ None
    go true rest h = absurd (true≢false h)
    go false rest h = rest h

-- what is laid at a path is what its verdict lays
pub sought : (due : Due) (named : List Named) (q : List ℕ) → laid_at (laid_paths due named) q ≡ laid_for due (verdict_at named q)
sought due [] q = refl
sought due (n ∷ named) q = go (same_path n.path.bytes q) (sought due named q)
  where
    go : (b : Bool) → laid_at (laid_paths due named) q ≡ laid_for due (verdict_at named q) → cond b (laid_for due n.verdict) (laid_at (laid_paths due named) q) ≡ laid_for due (cond b n.verdict (verdict_at named q))
    go true rest = refl
    go false rest = rest

-- ---- what a verdict lays

-- nothing lays what is no directory, file or link
never_other : (due : Due) (q : List ℕ) (x : Option (Option Entry)) → Said due q x → x ≡ Some (Some Other) → ⊥
never_other due q _ (Said.Account m b at) h = cc
never_other due q _ (Said.Record b at) h = cc
never_other due q _ (Said.Folder at) h = cc
never_other due q _ (Said.Gone at) h = cc
never_other due q _ Said.Silent h = cc

account_there : (bytes : List ℕ → List ℕ) (o : Option DueFile) → (account_entry o ≡ Other → ⊥) → option_map (entry_laid bytes) (option_map account_laid o) ≡ Some (account_entry o)
account_there bytes (Some f) some = refl
account_there bytes None some = absurd (some refl)

content_there : (bytes : List ℕ → List ℕ) (c : Content) → (let o : Option Entry = Some (entry_laid bytes (content_laid c)) in o) ≡ Some (File 420 (bytes_of_content bytes c))
content_there bytes (Own own) = refl
content_there bytes (OfPayload payload) = refl

record_there : (bytes : List ℕ → List ℕ) (o : Option (List ℕ × Content)) → (record_entry bytes o ≡ Other → ⊥) → option_map (entry_laid bytes) (option_map record_laid o) ≡ Some (record_entry bytes o)
record_there bytes (Some r) some = content_there bytes r.1
record_there bytes None some = absurd (some refl)

laid_as : (bytes : List ℕ → List ℕ) (due : Due) (v : Option Verdict) (e : Entry) → (e ≡ Other → ⊥) → meant bytes due v ≡ Some (Some e) → option_map (entry_laid bytes) (laid_for due v) ≡ Some e
laid_as bytes due None e some is = cc
laid_as bytes due (Some (verdict.Account n)) e some is =
    let one : account_entry (slice_get due.accounts n) ≡ e = cc in
    account_there bytes (slice_get due.accounts n) (λ other. some (sym one ∙ other)) ∙ ap (λ (x : Entry). Some x) one
laid_as bytes due (Some (verdict.Record n)) e some is =
    let one : record_entry bytes (slice_get due.records n) ≡ e = cc in
    record_there bytes (slice_get due.records n) (λ other. some (sym one ∙ other)) ∙ ap (λ (x : Entry). Some x) one
laid_as bytes due (Some verdict.Folder) e some is = let one : Dir 493 false ≡ e = cc in ap (λ (x : Entry). Some x) one
laid_as bytes due (Some verdict.Gone) e some is = cc

nothing_as : (bytes : List ℕ → List ℕ) (due : Due) (v : Option Verdict) → lays (meant bytes due v) ≡ false → laid_for due v ≡ None
nothing_as bytes due None unlaid = refl
nothing_as bytes due (Some (verdict.Account n)) unlaid = cc
nothing_as bytes due (Some (verdict.Record n)) unlaid = cc
nothing_as bytes due (Some verdict.Folder) unlaid = cc
nothing_as bytes due (Some verdict.Gone) unlaid = refl

module _ (bytes : List ℕ → List ℕ) (due : Due) (t : Image) (o : Over) (named : List Named) (out : AreOutstanding bytes due t named) (of : IsOverOf bytes is_payload_of due t o) where
  -- what is said of a path that is named
  is_meant : (q : List ℕ) → listed (named_paths named) q ≡ true → meant bytes due (verdict_at named q) ≡ o.at q
  is_meant q there = meant_at bytes due (said bytes is_payload_of due t) named q out.each there ∙ sym (of.at q)

  pub lays_due : LaysFor bytes (laid_at (laid_paths due named)) o
  lays_due q e at =
      let there : is_some (said bytes is_payload_of due t q) ≡ true = ap (λ (x : Option (Option Entry)). is_some x) (sym (of.at q) ∙ at) in
      ap (option_map (entry_laid bytes)) (sought due named q) ∙ laid_as bytes due (verdict_at named q) e (λ other. never_other due q (said bytes is_payload_of due t q) (said_is bytes is_payload_of due t q) (sym (of.at q) ∙ at ∙ ap (λ (x : Entry). Some (Some x)) other))
      (is_meant q (out.keyed q there) ∙ at)

  pub lays_nothing : (q : List ℕ) → lays (o.at q) ≡ false → laid_at (laid_paths due named) q ≡ None
  lays_nothing q unlaid = sought due named q ∙ elim (cases_Bool (listed (named_paths named) q)) [
    | inl there ↦ nothing_as bytes due (verdict_at named q) (ap lays (is_meant q there) ∙ unlaid)
    | inr apart ↦ ap (laid_for due) (unnamed named q apart)
  ]
