-- What was gathered is the salvage of the repair's request, and what is drawn from it are the steps of the repair.
use Rattle.std.proofs.Common.{◌≡◌, ℕ, Bool, true, false, cond, List, [], ◌∷◌, ◌++◌, map, filter, Option, Some, None, is_some, refl, sym, ◌∙◌, ap, subst, arith}
use Rattle.std.specs.List.{AllByRecursion}
use Rattle.std.proofs.lemmas.List.{append_assoc, map-append}
use Rattle.ips_text.specs.Ancestry.{is_below}
use Rattle.ips_text.specs.Kept.{Kept}
use Rattle.ips_text.specs.Path.{IsPath}
use Rattle.ips_text.proofs.Lists.{all_append}
use Rattle.ips_outside.specs.Image.{Image, IsImage, is_dir}
use Rattle.ips_steps.specs.Private.{records_name}
use Rattle.ips_steps.specs.View.{step_of}
use Rattle.ips_steps.proofs.Lists.{clash}
use Rattle.ips_state.specs.Records.{history_path}
use Rattle.ips_manifest.specs.declared.package.Package.{Package}
use Rattle.ips_filter.specs.Settings.{Set}
use Rattle.ips_mediate.specs.declared.set.SetMediator.{SetMediator}
use Rattle.ips_meaning.specs.declared.entry.Entry.{Entry}
use Rattle.ips_after.specs.After.{IsEmptied, over_or}
use Rattle.ips_after.specs.Change.{Changes}
use Rattle.ips_after.specs.Lists.{listed}
use Rattle.ips_after.specs.Planned.{plan_order}
use Rattle.ips_after.specs.Repaired.{IsRepair, Repair, relinked_as, repairs, request_of}
use Rattle.ips_after.specs.Request.{IsRequest, Request}
use Rattle.ips_after.specs.Salvage.{Aside, HasSalvagedBytes, IsAside, IsAsides, IsOwn, has_long_side, is_unmovable, salvaged, saving_contents, saving_steps, side_at}
use Rattle.ips_after.proofs.Displaced.{salvage_is}
use Rattle.ips_after.proofs.Mended.{changes_are, is_request, not_emptied}
use Rattle.ips_after.proofs.Names.{root_under}
use Rattle.ips_change.specs.declared.change.Change.{Change}
use Rattle.ips_change.specs.wanted.Named.{is_payload_of}
use Rattle.ips_change.specs.wanted.Wanted.{want_of}
use Rattle.ips_change.specs.Told.{naming}
use Rattle.ips_change.proofs.wanted.Apart.{nothing_below, own_wanted}
use Rattle.ips_due.specs.Apart.{LeavesSalvage}
use Rattle.ips_due.specs.Asked.{AreMeant}
use Rattle.ips_due.specs.Due.{is_own}
use Rattle.ips_due.proofs.Lying.{own_of}
use Rattle.ips_request_due.specs.repairs.Repairing.{repair_between}
use Rattle.ips_found.specs.Found.{AreThings, thing_paths}
use Rattle.ips_found.specs.declared.found.Thing.{Thing}
use Rattle.ips_movable.specs.First.{IsFirstPath, loses_foreign}
use Rattle.ips_movable.specs.Movable.{CanMove}
use Rattle.ips_aside.specs.Lost.{AreLostNames, AreNamesOf}
use Rattle.ips_aside.specs.Ways.{is_way}
use Rattle.ips_aside.specs.declared.ways.Ways.{Ways}
use Rattle.ips_aside.proofs.Defined.{names_defined}
use Rattle.ips_aside.proofs.Missing.{all_ways, only_ways}
use Rattle.ips_emit.specs.declared.emitting.Emitted.{Emitted}
use Rattle.ips_emit.specs.Emitted.{IsEmitted, Provenance, Turn, staged_bytes}
use Rattle.ips_image_steps.specs.draft.Drafting.{turns_of, turns_saving}
use Rattle.ips_mend.specs.mended.Drafting.{sources_in, turns_mended}
use Rattle.ips_mend.specs.mended.Ordering.{wanted_order}
use Rattle.ips_image_steps.specs.Answers.{HasSteps}
use Rattle.ips_image_steps.specs.Sources.{HasSources, IsNoCopy}
use Rattle.ips_image_steps.proofs.Gathered.{link_bytes}
use Rattle.ips_image_steps.proofs.Staged.{none_told, staged_stand}
use Rattle.ips_repair.specs.Drawing.{AddsRepair, history_sources, history_turns}
use Rattle.ips_repair.specs.Gathered.{IsGathered, IsTold, NothingHinders, put_unless, stands_as}
use Rattle.ips_repair.specs.Repairing.{AreStepsToRepair, HindersRepair}
use Rattle.ips_repair.proofs.History.{no_account, over, over_history, put_paths, says, text as history_text}
use Rattle.ips_repair.proofs.Unlost.{unlost}
use Rattle.ips_repair.proofs.Unsided.{no_side}

-- nothing that a repair lays is a copy
pub laid_uncopied : (changes : List Change) (order : List ℕ) (put : Option (List ℕ)) → AllByRecursion IsNoCopy (sources_in changes order ++ history_sources put)
laid_uncopied changes [] (Some text) = (tt, tt)
laid_uncopied changes [] None = tt
laid_uncopied changes (i ∷ order) put =
    let rest = laid_uncopied changes order put in
    subst (AllByRecursion IsNoCopy) (sym (append_assoc _ (sources_in changes order) (history_sources put))) (all_append IsNoCopy _ (sources_in changes order ++ history_sources put) (none_told _) rest)

-- the history's path with what becomes of it
history_turn : (stands : Bool) (text : List ℕ) (c : Changes) → map (λ p. (p, over_or ((over_history stands text).at p) (c p))) (cond stands [] (history_path ∷ [])) ≡ history_turns (put_unless stands text)
history_turn true text c = refl
history_turn false text c = refl

module _ (settings : Set) (mediators : List SetMediator) (packages : List Package) (want : List (List ℕ × Entry)) (means : AreMeant settings mediators packages want) (text : List ℕ) (history : List (List ℕ)) (t : Image)
    (formed : IsImage t) (stands : is_dir (t.look records_name) ≡ true) (changes : List Change) (things : List Thing) (root : List ℕ) (ways : Ways) (known : IsGathered text t want changes things root ways)
    (lawful : (bytes : List ℕ → List ℕ) → IsRepair (repair_between want bytes is_payload_of (over history t)))
    (own_old : (bytes : List ℕ → List ℕ) (q : List ℕ) → is_own q ≡ true → (request_of (repair_between want bytes is_payload_of (over history t)) t).old.at q ≡ None)
    (own_new : (bytes : List ℕ → List ℕ) (q : List ℕ) → is_own q ≡ true → (request_of (repair_between want bytes is_payload_of (over history t)) t).new.at q ≡ None)
    (leaves : LeavesSalvage (over history t)) where
  under : is_below records_name root ≡ true
  under = ap (is_below records_name) known.at_root.name ∙ root_under text known.at_root.times

  none_lost : AreLostNames root (thing_paths things) [] []
  none_lost = record {
    just = record { moves = []; below = tt; is = refl };
    order = λ k d low high. absurd (omega (arith, high));
    first_free = tt;
  }

  module _ (bytes : List ℕ → List ℕ) where
    abbrev pub f : Repair
    f = repair_between want bytes is_payload_of (over history t)

    abbrev pub r : Request
    r = request_of f t

    abbrev pub a : Aside
    a = record { root = root; emptied = λ q. false; ways = is_way ways; lost = λ p. p }

    asked : IsRequest r
    asked = is_request f t (lawful bytes)

    emptied : IsEmptied r t (λ q. false)
    emptied = record { only = λ q h. cc; empty = λ q x h up. cc; full = λ q h off. absurd (not_emptied f t q h) }

    things_are : (q : List ℕ) → listed (thing_paths things) q ≡ salvaged r t q
    things_are q = known.saved.displaced f (lawful bytes) refl refl q ∙ sym (salvage_is f t (λ q. false) (lawful bytes) formed emptied q)

    names : AreNamesOf r t a (thing_paths things) [] []
    names = record {
      paths = [];
      sides_are = record { paths_are = refl; each = tt };
      all = λ p h. clash (is_some (side_at r t p)) h (ap is_some (no_side f t p));
      things_are = things_are;
      names_are = none_lost;
      has = tt;
    }

    bare : (q : List ℕ) → is_below records_name q ≡ true → r.new.at q ≡ None
    bare q b = nothing_below settings mediators packages want means.mean q b

    aside : IsAside r t a
    aside = record {
      no_root = known.at_root.free;
      is_emptied = emptied;
      ways_only = λ q h. only_ways r t a (thing_paths things) [] [] names ways known.above known.standing formed known.at_root.free q h;
      ways_all = λ q b dir side. all_ways r t a (thing_paths things) [] [] names ways known.above known.standing formed known.at_root.free bare under stands q b dir side;
      names = λ p side at lost. names_defined r t a (thing_paths things) [] [] names bare under p side at lost;
    }

    own : IsOwn r t a
    own = own_of text r t a asked formed stands (own_wanted settings mediators packages want means.mean) (own_old bytes) (own_new bytes) leaves known.at_root aside

    keeps : IsFirstPath (loses_foreign r t (λ q. false)) None
    keeps p = unlost f t (lawful bytes) formed (λ q. false) emptied p

    short : (p : List ℕ) → has_long_side r t a p (side_at r t p) ≡ false
    short p = ap (has_long_side r t a p) (no_side f t p)

    free_of : NothingHinders t root things → (p : List ℕ) → is_unmovable r t a p ≡ false
    free_of free p = free r a refl things_are keeps short p

  -- the first path at which it can't be carried out
  pub hinders : (p : Kept) → ((r : Request) (a : Aside) → a.root ≡ root → ((q : List ℕ) → listed (thing_paths things) q ≡ salvaged r t q)
      → IsFirstPath (loses_foreign r t a.emptied) None → IsFirstPath (λ p. has_long_side r t a p (side_at r t p)) None → IsFirstPath (is_unmovable r t a) (Some p)) → HindersRepair text history want t p.bytes
  hinders p first = record {
    over = over history t;
    says = says history t;
    hindered = λ bytes. let h = first (r bytes) (a bytes) refl (things_are bytes) (keeps bytes) (short bytes) in
        record { aside = a bytes; is_root = known.at_root; is_aside = aside bytes; first = record { there = h.0; first = h.1 } };
  }

  module _ (ordered : (f : Repair) (t : Image) → IsRepair f → ((q : List ℕ) → is_some (f.over.at q) ≡ true → f.over.is_account q ≡ false) → plan_order (request_of f t) t ≡ wanted_order f.want ++ filter (λ p. is_some (f.over.at p)) f.over.keys)
      (drawn : (bytes : List ℕ → List ℕ) (asides : List (List ℕ)) (sources : List Provenance) (e : Emitted) → IsRequest (r bytes) → IsImage t → IsOwn (r bytes) t (a bytes) → IsAside (r bytes) t (a bytes) → IsAsides (r bytes) t (a bytes) asides
      → ((x : List ℕ) → is_unmovable (r bytes) t (a bytes) x ≡ false) → IsEmitted bytes t (turns_saving (r bytes) t (a bytes) asides ++ turns_of (r bytes) t (λ q. false) (plan_order (r bytes) t)) sources e
      → (map step_of e.steps.items ≡ saving_steps (r bytes) t (a bytes) asides) × (map (staged_bytes bytes t) e.staged.items ≡ saving_contents (r bytes) t (a bytes) asides))
      (free : NothingHinders t root things) (can : AllByRecursion (CanMove root) things) (path : IsPath root) (put : Option (List ℕ)) (put_is : put ≡ put_unless (stands_as (history_text history t) t) (history_text history t)) where
    module _ (bytes : List ℕ → List ℕ) (e : Emitted) (adds : AddsRepair (f bytes) t (a bytes) put e) where
      abbrev saving : List Turn
      saving = turns_saving (r bytes) t (a bytes) adds.asides

      abbrev order : List (List ℕ)
      order = wanted_order (f bytes).want

      abbrev turn : List ℕ → Turn
      turn p = (p, repairs (f bytes) t p)

      -- behind what is saved come the paths of the plan's order
      planned : turns_of (r bytes) t (λ q. false) (plan_order (r bytes) t) ≡ turns_mended (f bytes) t order ++ history_turns put
      planned =
          ap (λ (c : Changes). map (λ (p : List ℕ). (p, c p)) (plan_order (r bytes) t)) (changes_are (f bytes) t (λ q. false) (lawful bytes) formed (emptied bytes))
          ∙ ap (map turn) (ordered (f bytes) t (lawful bytes) (no_account history t))
          ∙ map-append turn order (filter (λ p. is_some ((over history t).at p)) (over history t).keys)
          ∙ ap (λ (l : List (List ℕ)). turns_mended (f bytes) t order ++ map turn l) (put_paths (stands_as (history_text history t) t) (history_text history t))
          ∙ ap (λ (l : List Turn). turns_mended (f bytes) t order ++ l) (history_turn (stands_as (history_text history t) t) (history_text history t) (λ p. relinked_as (f bytes) t p ((f bytes).want.at p)) ∙ ap history_turns (sym put_is))

      emitted : IsEmitted bytes t (saving ++ turns_of (r bytes) t (λ q. false) (plan_order (r bytes) t)) adds.sources e
      emitted = subst (λ (l : List Turn). IsEmitted bytes t l adds.sources e) (append_assoc saving (turns_mended (f bytes) t order) (history_turns put) ∙ ap (λ (l : List Turn). saving ++ l) (sym planned)) adds.steps

      targets : HasSalvagedBytes (r bytes) t
      targets q g s at = link_bytes t root things q g known.saved.found can (things_are bytes q ∙ s) at

      has_steps : HasSteps text (r bytes) t e
      has_steps =
          let both = drawn bytes adds.asides adds.sources e (asked bytes) formed (own bytes) (aside bytes) adds.are_asides (free_of bytes free) emitted in
          record {
            plan = record {
              aside = a bytes;
              asides = adds.asides;
              is_root = known.at_root;
              root_path = path;
              is_aside = aside bytes;
              are_asides = adds.are_asides;
              none_unmovable = free_of bytes free;
              targets = targets;
              steps_are = both.0;
              contents_are = both.1;
            };
            own = own bytes;
            standing = staged_stand t (r bytes) e.staged.items adds.come.saved adds.come.laid (adds.steps.provenances_are ∙ adds.come.are) adds.come.copied adds.come.uncopied;
            sources = subst (HasSources (r bytes) t (a bytes) adds.asides) (sym adds.steps.provenances_are) adds.come;
          }

    repaired : (e : Emitted) → ((bytes : List ℕ → List ℕ) → AddsRepair (f bytes) t (a bytes) put e) → AreStepsToRepair text history want t e
    repaired e adds = record { over = over history t; says = says history t; steps = λ bytes. has_steps bytes e (adds bytes) }

    pub all_repaired : (e : Emitted) → ((f : Repair) (t : Image) (a : Aside) → IsRepair f → f.want ≡ want_of want → IsTold f t changes → ((q : List ℕ) → is_below records_name q ≡ true → f.want.at q ≡ None) → a.root ≡ root → is_below records_name a.root ≡ true
        → AreThings t things → AreNamesOf (naming (request_of f t)) t a (thing_paths things) [] [] → ((q : List ℕ) → a.ways q ≡ is_way ways q)
        → ((p : List ℕ) → has_long_side (naming (request_of f t)) t a p (side_at (naming (request_of f t)) t p) ≡ false) → AddsRepair f t a put e) → AreStepsToRepair text history want t e
    all_repaired e added = repaired e (λ bytes. added (f bytes) t (a bytes) (lawful bytes) refl (known.mended (f bytes) (lawful bytes) refl refl) (bare bytes) refl under known.saved.found (names bytes) (λ q. refl) (short bytes))
