-- The lines of a text are read one logical line after the other, whatever a line means.
use Rattle.std.proofs.Common.{◌≡◌, ℕ, Bool, true, false, List, [], ◌∷◌, ◌++◌, length, Option, Some, None, Result, Ok, Err, refl, sym, ap, subst, ◌∙◌, append_assoc, arith, inl, inr}
use Rattle.std.proofs.lemmas.Bool.{true≢false}
use Rattle.std.proofs.lemmas.List.{append-nil}
use Rattle.ips_text.specs.declared.refusal.Or.{Or}
use Rattle.ips_text.specs.declared.refusal.Or.TheVariants.{Bad, OutOfMemory}
use Rattle.ips_text.specs.Reading.{Fails, IfBad}
use Rattle.ips_text.proofs.Readers.{ok_is}
use Rattle.ips_action.specs.declared.fault.ActionFault.{ActionFault}
use Rattle.ips_manifest.specs.declared.fault.LineFault.{LineFault}
use Rattle.ips_manifest.specs.declared.fault.LineFault.TheVariants as fault
use Rattle.ips_manifest.specs.declared.fault.ManifestFault.{ManifestFault}
use Rattle.ips_manifest.specs.Logical.{Logical, physical_lines, logical_lines, is_skipped}
use Rattle.ips_manifest.specs.Text.{TextMeansBy, LineMeansBy, LinesMeanBy, IsActionFaultBy, IsFaultAtBy, IsFirstInBy}
use Rattle.ips_manifest.specs.Seen.{TextGivesBy, lines_with}
use Rattle.ips_manifest.specs.Next.{IsNext, IsUnreadable}

some_is : {A : Type 0} (a b : A) → (let o : Option A = Some a in o) ≡ Some b → a ≡ b
some_is a b e = cc

abbrev text_line : ℕ → List ℕ → Logical
text_line number text = record { number = number; text = text; unreadable = None }

module _ {A L : Type 0} (Means : List ℕ → A → Type 0) (put : ℕ → A → L) where
  -- logical lines that are behind, the lines of the manifest that they give, and that they give no others
  pub record Gone (total rest : List Logical) (lines : List L) : Type 0 where
    pub done : List Logical
    pub parts : total ≡ done ++ rest
    pub means : LinesMeanBy Means put done lines
    pub only : (others : List L) → LinesMeanBy Means put done others → others ≡ lines

  pub gone_begin : (total : List Logical) → Gone total total []
  gone_begin total = record { done = []; parts = refl; means = refl; only = λ others h. h }

  -- ---- one more

  means_more : (done : List Logical) (line : Logical) (lines more : List L) → LinesMeanBy Means put done lines → LineMeansBy Means put line more → LinesMeanBy Means put (done ++ line ∷ []) (lines ++ more)
  means_more [] line lines more h m = (more, [], m, refl, ap (λ (l : List L). l ++ more) h ∙ sym (append-nil more))
  means_more (first ∷ done) line lines more h m =
      (h.0, h.1 ++ more, h.2, means_more done line h.1 more h.3 m, ap (λ (l : List L). l ++ more) h.4 ∙ append_assoc h.0 h.1 more)

  -- what lines and one more give, apart
  record Apart (done : List Logical) (line : Logical) (total : List L) : Type 0 where
    lines : List L
    more : List L
    first : LinesMeanBy Means put done lines
    last : LineMeansBy Means put line more
    all : total ≡ lines ++ more

  means_apart : (done : List Logical) (line : Logical) (total : List L) → LinesMeanBy Means put (done ++ line ∷ []) total → Apart done line total
  means_apart [] line total h = record { lines = []; more = h.0; first = refl; last = h.2; all = h.4 ∙ ap (λ (l : List L). h.0 ++ l) h.3 ∙ append-nil h.0 }
  means_apart (one ∷ done) line total h =
      let a = means_apart done line h.1 h.3 in
      record { lines = h.0 ++ a.lines; more = a.more; first = (h.0, a.lines, h.2, a.first, refl); last = a.last; all = h.4 ∙ ap (λ (l : List L). h.0 ++ l) a.all ∙ sym (append_assoc h.0 a.lines a.more) }

  -- the logical line gives these lines, and no others
  record Gives_only (line : Logical) (lines : List L) : Type 0 where
    means : LineMeansBy Means put line lines
    only : (others : List L) → LineMeansBy Means put line others → others ≡ lines

  skipped_same : (b : Bool) (line : Logical) (others : List L) → b ≡ true → TextMeansBy Means put b line others → others ≡ []
  skipped_same true line others e h = h
  skipped_same false line others e h = absurd (true≢false (sym e))

  skipped_means : (b : Bool) (line : Logical) → b ≡ true → TextMeansBy Means put b line []
  skipped_means true line e = refl
  skipped_means false line e = absurd (true≢false (sym e))

  pub action_means : (b : Bool) (line : Logical) (action : A) → b ≡ false → Means line.text action → TextMeansBy Means put b line (put line.number action ∷ [])
  action_means true line action e h = absurd (true≢false e)
  action_means false line action e h = (action, h, refl)

  action_same : (b : Bool) (line : Logical) (action : A) (others : List L) → b ≡ false → ((other : A) → Means line.text other → other ≡ action) → TextMeansBy Means put b line others → others ≡ put line.number action ∷ []
  action_same true line action others e only h = absurd (true≢false e)
  action_same false line action others e only h = h.2 ∙ ap (λ (a : A). put line.number a ∷ []) (only h.0 h.1)

  abbrev ReadTo : List ℕ → Option A → Type 0
  ReadTo text action = (other : A) → is_skipped text ≡ false → Means text other → action ≡ Some other

  gives_line : (number : ℕ) (text : List ℕ) (action : Option A) → TextGivesBy Means text action → ReadTo text action → Gives_only (text_line number text) (lines_with put number action)
  gives_line number text None h only = record {
    means = (refl, skipped_means (is_skipped text) (text_line number text) h);
    only = λ others m. skipped_same (is_skipped text) (text_line number text) others h m.1;
  }
  gives_line number text (Some action) h only = record {
    means = (refl, action_means (is_skipped text) (text_line number text) action h.0 h.1);
    only = λ others m. action_same (is_skipped text) (text_line number text) action others h.0 (λ other means. sym (some_is action other (only other h.0 means))) m.1;
  }

  pub gone_on : (total : List Logical) (lines : List L) (number : ℕ) (bytes text : List ℕ) (later : ℕ) (behind : List ℕ) (action : Option A)
      → Gone total (logical_lines number (physical_lines bytes)) lines → IsNext number bytes text later behind → TextGivesBy Means text action → ReadTo text action
      → Gone total (logical_lines later (physical_lines behind)) (lines ++ lines_with put number action)
  gone_on total lines number bytes text later behind action g next gives only =
      let line = text_line number text in
      let o = gives_line number text action gives only in
      record {
        done = g.done ++ line ∷ [];
        parts = g.parts ∙ ap (λ (l : List Logical). g.done ++ l) next.lines ∙ sym (append_assoc g.done (line ∷ []) (logical_lines later (physical_lines behind)));
        means = means_more g.done line lines (lines_with put number action) g.means o.means;
        only = λ others m.
            let a = means_apart g.done line others m in
            a.all ∙ ap (λ (l : List L). l ++ a.more) (g.only a.lines a.first) ∙ ap (λ (l : List L). lines ++ l) (o.only a.more a.last);
      }

  -- ---- the end

  abbrev Found : List Logical → List L → Type 0
  Found total lines = LinesMeanBy Means put total lines × ((others : List L) → LinesMeanBy Means put total others → others ≡ lines)

  pub gone_end : (total : List Logical) (lines : List L) (number : ℕ) (bytes : List ℕ) → Gone total (logical_lines number (physical_lines bytes)) lines → length bytes ≡ 0 → Found total lines
  gone_end total lines number bytes g none = go bytes none (g.parts)
    where
      go : (bytes : List ℕ) → length bytes ≡ 0 → total ≡ g.done ++ logical_lines number (physical_lines bytes) → Found total lines
      go [] e parts = let same : g.done ≡ total = sym (parts ∙ append-nil g.done) in (subst (λ (l : List Logical). LinesMeanBy Means put l lines) same g.means, λ others m. g.only others (subst (λ (l : List Logical). LinesMeanBy Means put l others) (sym same) m))
      go (b ∷ bytes) e parts = absurd (omega arith)

  pub gone_next : (total : List Logical) (lines : List L) (number : ℕ) (bytes text held : List ℕ) (later : ℕ) (behind : List ℕ) (action : Option A) (new : List L) → Gone total (logical_lines number (physical_lines bytes)) lines → IsNext number bytes held later behind
      → text ≡ held → TextGivesBy Means text action → ((other : A) → is_skipped text ≡ false → Means text other → (let r : Result (Option A) ManifestFault = Ok (Some other) in r) ≡ Ok action) → new ≡ lines ++ lines_with put number action
      → Gone total (logical_lines later (physical_lines behind)) new
  gone_next total lines number bytes text held later behind action new g next same gives only added =
      let read : ReadTo text action = λ other skipped means. sym (ok_is {E = ManifestFault} (Some other) action (only other skipped means)) in
      subst (Gone total (logical_lines later (physical_lines behind))) (sym added)
      (gone_on total lines number bytes held later behind action g next (subst (λ (l : List ℕ). TextGivesBy Means l action) same gives) (subst (λ (l : List ℕ). ReadTo l action) same read))

module _ {A L : Type 0} (Means : List ℕ → A → Type 0) (put : ℕ → A → L) (First : List ℕ → ActionFault → Type 0) where
  -- ---- a fault

  -- each logical line that is behind gives lines
  first_in : (done rest : List Logical) (lines : List L) (f : ManifestFault) → LinesMeanBy Means put done lines → IsFirstInBy Means put First rest f → IsFirstInBy Means put First (done ++ rest) f
  first_in [] rest lines f h first = first
  first_in (line ∷ done) rest lines f h first = inr ((h.0, h.2), first_in done rest h.1 f h.3 first)

  -- a text whose lines go on with one that gives nothing is no manifest
  no_lines : (done : List Logical) (line : Logical) (others : List Logical) (lines : List L) → ((more : List L) → LineMeansBy Means put line more → ⊥) → LinesMeanBy Means put (done ++ line ∷ others) lines → ⊥
  no_lines [] line others lines none h = none h.0 h.2
  no_lines (first ∷ done) line others lines none h = no_lines done line others h.1 none h.3

  abbrev Refused : List Logical → ManifestFault → Type 0
  Refused total f = IsFirstInBy Means put First total f × ((lines : List L) → LinesMeanBy Means put total lines → ⊥)

  refused_at : (total rest : List Logical) (lines : List L) (line : Logical) (others : List Logical) (f : ManifestFault) → Gone Means put total rest lines → rest ≡ line ∷ others → IsFaultAtBy Means First line.unreadable line f → ((more : List L) → LineMeansBy Means put line more → ⊥) → Refused total f
  refused_at total rest lines line others f g split bad none =
      let all : total ≡ g.done ++ line ∷ others = g.parts ∙ ap (λ (l : List Logical). g.done ++ l) split in (
        subst (λ (l : List Logical). IsFirstInBy Means put First l f) (sym all) (first_in g.done (line ∷ others) lines f g.means (inl bad)),
        λ more m. no_lines g.done line others more none (subst (λ (l : List Logical). LinesMeanBy Means put l more) all m),
      )

  unread_fault : (u : Option ℕ) (line : Logical) (f : ManifestFault) → u ≡ Some f.line → f.fault ≡ fault.NotText → IsFaultAtBy Means First u line f
  unread_fault None line f e h = absurd cc
  unread_fault (Some n) line f e h = (sym (some_is n f.line e), h)

  pub refused_unread : (total : List Logical) (lines : List L) (number : ℕ) (bytes : List ℕ) (f : ManifestFault) → Gone Means put total (logical_lines number (physical_lines bytes)) lines → IsUnreadable number bytes f → Refused total f
  refused_unread total lines number bytes f g u = refused_at total (logical_lines number (physical_lines bytes)) lines u.line u.others f g u.lines (unread_fault u.line.unreadable u.line f u.at u.fault) (λ more m. unread_none u.line.unreadable u.at m.0)
    where
      unread_none : (u : Option ℕ) → u ≡ Some f.line → u ≡ None → ⊥
      unread_none u e h = absurd cc

  no_action : (b : Bool) (line : Logical) (more : List L) → b ≡ false → ((action : A) → Means line.text action → ⊥) → TextMeansBy Means put b line more → ⊥
  no_action true line more e none h = true≢false e
  no_action false line more e none h = none h.0 h.1

  fault_none : (text : List ℕ) (f : LineFault) → IsActionFaultBy Means First text f → (action : A) → Means text action → ⊥
  fault_none text fault.NotText h = absurd h
  fault_none text (fault.Action a) h = h.1

  pub refused_action : (total : List Logical) (lines : List L) (number : ℕ) (bytes text : List ℕ) (later : ℕ) (behind : List ℕ) (f : ManifestFault) → Gone Means put total (logical_lines number (physical_lines bytes)) lines → IsNext number bytes text later behind
      → is_skipped text ≡ false → f.line ≡ number → IsActionFaultBy Means First text f.fault → Refused total f
  refused_action total lines number bytes text later behind f g next skipped at bad =
      refused_at total (logical_lines number (physical_lines bytes)) lines (text_line number text) (logical_lines later (physical_lines behind)) f g next.lines (skipped, at, bad) (λ more m. no_action (is_skipped text) (text_line number text) more skipped (fault_none text f.fault bad) m.1)

  -- ---- as the program asks

  pub text_refuses : (X : Type 0) (e : Or ManifestFault) (total : List Logical) (lines : List L) (number : ℕ) (bytes : List ℕ) → Gone Means put total (logical_lines number (physical_lines bytes)) lines → IfBad {X = X} (Err e) (λ f. IsUnreadable number bytes f)
      → (others : List L) → LinesMeanBy Means put total others → Fails e (let r : Result (List L) ManifestFault = Ok others in r)
  text_refuses X (Bad f) total lines number bytes g u others m = absurd ((refused_unread total lines number bytes f g u).1 others m)
  text_refuses X OutOfMemory total lines number bytes g u others m = tt

  pub text_fault : (X Y : Type 0) (e : Or ManifestFault) (total : List Logical) (lines : List L) (number : ℕ) (bytes : List ℕ) → Gone Means put total (logical_lines number (physical_lines bytes)) lines → IfBad {X = X} (Err e) (λ f. IsUnreadable number bytes f)
      → IfBad {X = Y} (Err e) (λ f. IsFirstInBy Means put First total f)
  text_fault X Y (Bad f) total lines number bytes g u = (refused_unread total lines number bytes f g u).0
  text_fault X Y OutOfMemory total lines number bytes g u = tt

  abbrev BadAction : ℕ → List ℕ → ManifestFault → Type 0
  BadAction number text f = (is_skipped text ≡ false) × (f.line ≡ number) × IsActionFaultBy Means First text f.fault

  pub action_refuses : (X : Type 0) (e : Or ManifestFault) (total : List Logical) (lines : List L) (number : ℕ) (bytes text held : List ℕ) (later : ℕ) (behind : List ℕ) → Gone Means put total (logical_lines number (physical_lines bytes)) lines → IsNext number bytes held later behind
      → text ≡ held → IfBad {X = X} (Err e) (λ f. BadAction number text f) → (others : List L) → LinesMeanBy Means put total others → Fails e (let r : Result (List L) ManifestFault = Ok others in r)
  action_refuses X (Bad f) total lines number bytes text held later behind g next same bad others m =
      let b = subst (λ (l : List ℕ). BadAction number l f) same bad in
      absurd ((refused_action total lines number bytes held later behind f g next b.0 b.1 b.2).1 others m)
  action_refuses X OutOfMemory total lines number bytes text held later behind g next same bad others m = tt

  pub action_fault : (X Y : Type 0) (e : Or ManifestFault) (total : List Logical) (lines : List L) (number : ℕ) (bytes text held : List ℕ) (later : ℕ) (behind : List ℕ) → Gone Means put total (logical_lines number (physical_lines bytes)) lines → IsNext number bytes held later behind
      → text ≡ held → IfBad {X = X} (Err e) (λ f. BadAction number text f) → IfBad {X = Y} (Err e) (λ f. IsFirstInBy Means put First total f)
  action_fault X Y (Bad f) total lines number bytes text held later behind g next same bad =
      let b = subst (λ (l : List ℕ). BadAction number l f) same bad in
      (refused_action total lines number bytes held later behind f g next b.0 b.1 b.2).0
  action_fault X Y OutOfMemory total lines number bytes text held later behind g next same bad = tt
