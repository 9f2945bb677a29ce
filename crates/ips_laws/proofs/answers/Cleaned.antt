-- Once an image is repaired with intact payloads, nothing is found in it.
use Rattle.std.proofs.Common.{◌≡◌, ◌↔◌, ℕ, Bool, true, ◌||◌, List, [], map, Some, is_some, sym, ◌∙◌, ap, subst}
use Rattle.std.proofs.lemmas.Option.{get_or_from_slice_get, slice_get_within}
use Rattle.ips_text.specs.Ancestry.{covers}
use Rattle.ips_outside.specs.Image.{File, Image, IsImage, is_dir}
use Rattle.ips_steps.specs.Private.{records_name, visible}
use Rattle.ips_steps.specs.Journal.{may_name}
use Rattle.ips_steps.specs.Steps.{content_bytes}
use Rattle.ips_digest.specs.Digest.{algorithm_of, digest_of}
use Rattle.ips_digest.specs.Name.{IsName, spelling}
use Rattle.ips_digest.specs.declared.name.PayloadName.{PayloadName}
use Rattle.ips_journal.specs.declared.staged.Staged.TheVariants.{Payload}
use Rattle.ips_contents.specs.Contents.{AreIntactContents}
use Rattle.ips_state.specs.State.{recorded}
use Rattle.ips_state.specs.declared.state.State.{State}
use Rattle.ips_manifest.specs.declared.package.Package.{Package}
use Rattle.ips_filter.specs.Settings.{Set}
use Rattle.ips_mediate.specs.declared.set.SetMediator.{SetMediator}
use Rattle.ips_meaning.specs.declared.entry.Entry.{Entry}
use Rattle.ips_action.specs.declared.action.Preserve.{Preserve}
use Rattle.ips_after.specs.Change.{Laid}
use Rattle.ips_after.specs.Findings.{findings}
use Rattle.ips_after.specs.Planned.{IsNameable}
use Rattle.ips_after.specs.Repaired.{HasOneMode, IsRepair, LaysPayloads, Repair, repairs, request_of}
use Rattle.ips_after.specs.Request.{Over, WantFile}
use Rattle.ips_after.specs.Salvage.{image_saving}
use Rattle.ips_change.specs.wanted.Named.{is_payload_of}
use Rattle.ips_change.specs.wanted.Wanted.{want_of}
use Rattle.ips_due.specs.Asked.{AreMeant}
use Rattle.ips_due.specs.Due.{IsDue, IsOverOf}
use Rattle.ips_request_due.specs.repairs.Repairing.{repair_between, repair_due}
use Rattle.ips_image_steps.specs.staged_plans.Payloads.{payload_bytes}
use Rattle.ips_image_steps.proofs.staged_plans.Seen.{said_seen}
use Rattle.ips_plan.specs.image_plan.Meaning.{StateMeans}
use Rattle.ips_emit.specs.Emitted.{staged_bytes}
use Rattle.ips_emit.specs.declared.emitting.Emitted.{Emitted}
use Rattle.ips_repair.specs.Meant.{IsRepairedImage}
use Rattle.ips_laws.proofs.plan_laws.Repaired.{repaired_image_one}
use Rattle.ips_tell.specs.told.Naming.{AreNamed, IsNamed}
use Rattle.ips_operations.specs.fixing.Fixes.{Repairing}
use Rattle.ips_operations.specs.fixing.Decides.{IsRepairedBy}
use Rattle.ips_laws.proofs.answers.Relaid.{relaid}
use Rattle.ips_laws.proofs.answers.Sparing.{clean_so, laid_staged, repaired_so}
use Rattle.ips_laws.proofs.answers.Staged.{IsAmong, IsPayloadStaged, payload_staged}

-- The laws of what it rests on.
pub record Laws : Type 0 where
  pub digests : (name : PayloadName) (bytes : List ℕ) → IsName name → IsName (digest_of (algorithm_of name) bytes) → (is_payload_of (spelling name) bytes ≡ true) ↔ (digest_of (algorithm_of name) bytes ≡ name)
  pub hangs : (history : List (List ℕ)) → IsDue (repair_due history)
  pub lawful : (settings : Set) (mediators : List SetMediator) (packages : List Package) (entries : List (List ℕ × Entry)) → AreMeant settings mediators packages entries
      → (bytes : List ℕ → List ℕ) (holds : List ℕ → List ℕ → Bool) (history : List (List ℕ)) (t : Image) (o : Over) → IsOverOf bytes holds (repair_due history) t o → IsRepair (repair_between entries bytes holds o)
  pub nameable : (settings : Set) (mediators : List SetMediator) (packages : List Package) (entries : List (List ℕ × Entry)) → AreMeant settings mediators packages entries
      → (bytes : List ℕ → List ℕ) (holds : List ℕ → List ℕ → Bool) (history : List (List ℕ)) (t : Image) (o : Over) → IsOverOf bytes holds (repair_due history) t o → is_dir (t.look records_name) ≡ true
      → IsNameable (request_of (repair_between entries bytes holds o) t) t
  pub seen : (f : Repair) (h : Image) → IsRepair f → ((q : List ℕ) → is_some (f.want.at q) ≡ true → (may_name q || covers q records_name) ≡ true) → request_of f (visible h) ≡ request_of f h

module _ (laws : Laws) (a : Repairing) (h repository : Image) (formed : IsImage h) (new : State) (e : Emitted) (by : IsRepairedBy a h new e) (named : AreNamed e.staged.items) (intact : AreIntactContents repository new.publisher e.staged.items) where
  abbrev want : List (List ℕ × Entry)
  want = by.damaged.want

  abbrev over : Over
  over = by.steps.are.over

  abbrev text : List ℕ
  text = by.steps.text

  means : StateMeans new want
  means = subst (λ (s : State). StateMeans s want) (sym by.is_new.noted.rest) by.damaged.means

  -- ---- the repair with each bytes of payloads

  abbrev f : (List ℕ → List ℕ) → Repair
  f bytes = repair_between want bytes is_payload_of over

  says : (bytes : List ℕ → List ℕ) → IsOverOf bytes is_payload_of (repair_due new.history.items) h over
  says bytes = by.steps.are.says bytes

  good : (bytes : List ℕ → List ℕ) → IsRepair (f bytes)
  good bytes = laws.lawful new.settings new.mediators.items new.installed.items want means bytes is_payload_of new.history.items h over (says bytes)

  names : (bytes : List ℕ → List ℕ) → IsNameable (request_of (f bytes) h) h
  names bytes = laws.nameable new.settings new.mediators.items new.installed.items want means bytes is_payload_of new.history.items h over (says bytes) (by.steps.are.steps bytes).own.stands

  one : (bytes : List ℕ → List ℕ) → request_of (f bytes) (visible h) ≡ request_of (f bytes) h
  one bytes = laws.seen (f bytes) h (good bytes) (names bytes).news

  -- a wanted file that is laid with some bytes of payloads is staged with each
  staged_with : (some bytes : List ℕ → List ℕ) (q payload : List ℕ) (m : ℕ) (preserve : Preserve) → (want_of want).at q ≡ Some (WantFile payload m preserve) → repairs (f some) (visible h) q ≡ Laid (File m (some payload))
      → IsAmong (bytes payload) (map (staged_bytes bytes h) e.staged.items)
  staged_with some bytes q payload m preserve at laid =
      let has = by.steps.are.steps bytes in
      let again = relaid (want_of want) is_payload_of over (visible h) q payload m preserve at ((good some).silent q (ap is_some at)) some bytes laid in
      subst (IsAmong (bytes payload)) (sym has.plan.contents_are)
      (laid_staged (f bytes) h (good bytes) formed (names bytes) text has.plan.aside has.plan.asides has.own (one bytes) has.plan.is_root has.plan.is_aside has.plan.are_asides has.plan.none_unmovable q m (bytes payload) (ap is_some at) again)

  -- ---- the repair with the bytes of the repository

  abbrev held : List ℕ → List ℕ
  held = payload_bytes new.publisher repository

  name_of : (payload : List ℕ) (x : IsPayloadStaged e.staged.items payload) → IsName x.name
  name_of payload x = subst IsNamed (get_or_from_slice_get e.staged.items x.at (Payload x.name) (Payload x.name) x.stands) (named x.at (Payload x.name) (slice_get_within e.staged.items x.at (Payload x.name) x.stands))

  -- the bytes of a payload that is staged are its own
  holds_staged : (payload : List ℕ) → IsPayloadStaged e.staged.items payload → is_payload_of payload (held payload) ≡ true
  holds_staged payload x =
      let i = intact x.at (Payload x.name) x.stands in
      let name = name_of payload x in
      let there : held (spelling x.name) ≡ i.bytes = ap content_bytes i.stands in
      let digest : is_payload_of (spelling x.name) i.bytes ≡ true = (laws.digests x.name i.bytes name (subst IsName (sym i.intact) name)).1 i.intact in
      subst (λ (p : List ℕ). is_payload_of p (held p) ≡ true) x.spelled (ap (is_payload_of (spelling x.name)) there ∙ digest)

  lays : LaysPayloads (f held) (visible h)
  lays q payload m preserve at laid = holds_staged payload (payload_staged h e.staged.items payload (λ bytes. staged_with held bytes q payload m preserve at laid))

  over_seen : IsOverOf held is_payload_of (repair_due new.history.items) (visible h) over
  over_seen =
      let o = says held in
      record { at = λ q. o.at q ∙ sym (said_seen held is_payload_of (repair_due new.history.items) h (laws.hangs new.history.items) q); accounts = o.accounts; keyed = o.keyed; closed = o.closed; only = o.only; by_bytes = o.by_bytes }

  abbrev after : Image
  after = image_saving (request_of (f held) (visible h)) (visible h) (by.steps.are.steps held).plan.aside

  meant : IsRepairedImage a.moment new repository (visible h) after
  meant =
      let has = by.steps.are.steps held in
      record {
        text = text;
        is_text = by.steps.is_text;
        want = want;
        means = means;
        over = over;
        is_over = over_seen;
        image = repaired_so (f held) h (good held) formed (names held) text has.plan.aside has.plan.asides has.own (one held) has.plan.is_root has.plan.is_aside has.plan.are_asides has.plan.none_unmovable;
      }

  -- nothing is found in an image that is the repaired one
  pub none_found : (next : State) (u : Image) → recorded new ≡ recorded next → IsRepairedImage a.moment next repository (visible h) u → HasOneMode (want_of want) (visible h) → findings is_payload_of (want_of want) u ≡ []
  none_found next u same theirs modes =
      let has = by.steps.are.steps held in
      ap (findings is_payload_of (want_of want)) (sym (repaired_image_one a.moment new next repository (visible h) after u same meant theirs))
      ∙ clean_so (f held) h (good held) formed (names held) text has.plan.aside has.plan.asides has.own (one held) has.plan.is_root has.plan.is_aside has.plan.are_asides has.plan.none_unmovable modes lays
