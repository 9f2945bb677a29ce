-- Causes that are the same are told the same.
use Rattle.std.proofs.Common.{◌≡◌, ℕ, List, ◌++◌, Ok, Err, codes, refl, sym, ◌∙◌, ap, subst}
use Rattle.std.specs.Fmt.{decimal}
use Rattle.ips_text.specs.Quote.{shown}
use Rattle.ips_text.specs.declared.path.RelPath.{RelPath}
use Rattle.ips_text.specs.declared.refusal.Or.{Or}
use Rattle.ips_text.specs.declared.refusal.Or.TheVariants.{Bad}
use Rattle.ips_load.specs.declared.fault.StateFault.{StateFault}
use Rattle.ips_load.specs.declared.fault.StateFault.TheVariants as state
use Rattle.ips_meaning.specs.declared.fault.WantFault.{WantFault}
use Rattle.ips_meaning.specs.declared.fault.WantFault.TheVariants as want
use Rattle.ips_report.specs.Report.{line}
use Rattle.ips_report.specs.declared.outcome.Outcome.{Outcome}
use Rattle.ips_report.specs.declared.outcome.Outcome.TheVariants as outcome
use Rattle.ips_run.specs.declared.operation.Decision.{Decision}
use Rattle.ips_run.specs.declared.operation.Decision.TheVariants as decision
use Rattle.ips_run.specs.declared.operation.DecideFault.{DecideFault}
use Rattle.ips_laws.specs.recorded.Same.{IsOfRecord, IsSameFault}
use Rattle.ips_tell.specs.refusals.Told.{Answer, as_refused, unmeant_told, unread_told}
use Rattle.ips_laws.specs.plan_laws.Alike.{IsSameUnmeant}
use Rattle.ips_laws.specs.answers.Decided.{DecideTheSame}
use Rattle.ips_laws.specs.answers.Same.{SayTheSame}
use Rattle.ips_laws.proofs.answers.Runs.{says_same}

-- ---- outcomes by their fields

pub by_field : {A : Type 0} (f : A → Outcome) (a b : A) → a ≡ b → SayTheSame (f a) (f b)
by_field f a b e = says_same (f a) (f b) (ap f e)

pub by_fields : {A B : Type 0} (f : A → B → Outcome) (a b : A) (c d : B) → a ≡ b → c ≡ d → SayTheSame (f a c) (f b d)
by_fields f a b c d e g = says_same (f a c) (f b d) (λ i. f (e i) (g i))

-- ---- refusals

-- what is refused is what was decided
pub refusal : (o : Outcome) (d : Decision Outcome) → as_refused o ≡ Ok d → d ≡ decision.Refused o
refusal o d e = let same : ◌≡◌ {A = Answer} (Ok (decision.Refused o)) (Ok d) = e in cc

pub refused_same : (a b : Outcome) (d e : Decision Outcome) → as_refused a ≡ Ok d → as_refused b ≡ Ok e → SayTheSame a b → DecideTheSame d e
refused_same a b d e x y same = subst (λ (z : Decision Outcome). DecideTheSame z e) (sym (refusal a d x)) (subst (DecideTheSame (decision.Refused a)) (sym (refusal b e y)) same)

-- a call that failed decides nothing
pub none_decided : (X : Type 0) (why : Or DecideFault) (d : Decision Outcome) → ◌≡◌ {A = Answer} (Err why) (Ok d) → X
none_decided X why d e = absurd cc

-- ---- the records

pub bad_image : (p q : RelPath) (n m : ℕ) → p.bytes ≡ q.bytes → n ≡ m → SayTheSame (outcome.BadImage p n) (outcome.BadImage q m)
bad_image p q n m e f = record { number = refl; text = λ i. line (codes "bad image " ++ shown (e i) ++ codes " line " ++ decimal (f i)) }

-- a record is at fault where that is decided
pub of_record : (f : StateFault) (d : Decision Outcome) → unread_told (Bad f) ≡ Ok d → IsOfRecord f
of_record f d told is = none_decided ⊥ _ d (sym (ap (λ (g : StateFault). unread_told (Bad g)) is) ∙ told)

pub unread_same : (f g : StateFault) (d e : Decision Outcome) → IsSameFault f g → unread_told (Bad f) ≡ Ok d → unread_told (Bad g) ≡ Ok e → DecideTheSame d e
unread_same state.NoImage state.NoImage d e same x y = refused_same outcome.NoImage outcome.NoImage d e x y (record { number = refl; text = refl })
unread_same state.NoImage (state.BadImage file number) d e same x y = absurd same
unread_same state.NoImage (state.TooLarge which count) d e same x y = absurd same
unread_same state.NoImage state.FolderFault d e same x y = absurd same
unread_same (state.BadImage file number) state.NoImage d e same x y = absurd same
unread_same (state.BadImage file number) (state.BadImage other at) d e same x y = refused_same (outcome.BadImage file number) (outcome.BadImage other at) d e x y (bad_image file other number at same.0 same.1)
unread_same (state.BadImage file number) (state.TooLarge which count) d e same x y = absurd same
unread_same (state.BadImage file number) state.FolderFault d e same x y = absurd same
unread_same (state.TooLarge which count) state.NoImage d e same x y = absurd same
unread_same (state.TooLarge which count) (state.BadImage file number) d e same x y = absurd same
unread_same (state.TooLarge which count) (state.TooLarge other many) d e same x y = refused_same (outcome.TooLarge which count) (outcome.TooLarge other many) d e x y (by_fields outcome.TooLarge which other count many same.0 same.1)
unread_same (state.TooLarge which count) state.FolderFault d e same x y = absurd same
unread_same state.FolderFault g d e same x y = none_decided (DecideTheSame d e) _ d x

-- ---- what packages mean

pub reserved : (p q : RelPath) → p.bytes ≡ q.bytes → SayTheSame (outcome.Reserved p) (outcome.Reserved q)
reserved p q e = record { number = refl; text = ap (λ (b : List ℕ). line (codes "reserved " ++ shown b)) e }

pub unmovable : (p q : RelPath) → p.bytes ≡ q.bytes → SayTheSame (outcome.Unmovable p) (outcome.Unmovable q)
unmovable p q e = record { number = refl; text = ap (λ (b : List ℕ). line (codes "unmovable " ++ shown b)) e }

pub unmeant_same : (f g : WantFault) → IsSameUnmeant f g → DecideTheSame (unmeant_told f) (unmeant_told g)
unmeant_same (want.Reserved path) (want.Reserved other) same = reserved path other same
unmeant_same (want.Reserved path) (want.Clash clash) same = absurd same
unmeant_same (want.Clash clash) (want.Reserved path) same = absurd same
unmeant_same (want.Clash clash) (want.Clash other) same = by_field outcome.Clash clash other same
