-- One answer is right of the account files behind a request.
use Rattle.std.proofs.Common.{◌≡◌, ℕ, Bool, true, false, IsTrue, List, map, filter, Result, Ok, sym, ap, subst, ◌∙◌}
use Rattle.ips_action.specs.Action.{Fields}
use Rattle.ips_conflict.specs.declared.placed.Placed.{Placed}
use Rattle.ips_meaning.specs.declared.entry.Entry.{Entry}
use Rattle.ips_state.specs.declared.state.State.{State}
use Rattle.ips_state.specs.State.{recorded}
use Rattle.ips_after.specs.After.{IsEmptied}
use Rattle.ips_after.specs.Request.{Request}
use Rattle.ips_after.proofs.Emptied.{emptied_one}
use Rattle.ips_change.specs.wanted.Named.{is_payload_of}
use Rattle.ips_change.specs.wanted.Wanted.{want_of}
use Rattle.ips_account_files.specs.declared.ledger.fault.LedgerFault.{LedgerFault}
use Rattle.ips_account_files.specs.Around.{Around, has_accounts, is_account}
use Rattle.ips_account_files.specs.Behind.{Behind, Files, IsTold}
use Rattle.ips_plan.specs.image_plan.Accounts.{AnsweredWhere, AreAccounts, Given, IsLedger, around_given, nothing_said, silent_request}
use Rattle.ips_laws.proofs.plan_laws.States.{admitted_same}

-- One answer is right where folder and repository tell what they hold, unless a call failed.
abbrev pub AnswersAreOne : Type 0
AnswersAreOne = (a : Around) (r : Request) (old new : List Fields) (x y : Result Files LedgerFault) → IsTrue a.told → IsTrue a.tells → Behind a r old new x → Behind a r old new y → IsTold x → IsTold y → x ≡ y

accounts_one : (a b : State) (x y : List Fields) → recorded a ≡ recorded b → AreAccounts a x → AreAccounts b y → x ≡ y
accounts_one a b x y same h k = h.are ∙ ap (λ (l : List Placed). filter is_account (map (λ (p : Placed). p.action) l)) (admitted_same a b same h.admitted k.admitted h.are_admitted k.are_admitted) ∙ sym k.are

-- What is answered of a request, over the directories that it empties.
record IsAnsweredOf (g : Given) (r : Request) (before after : List Fields) (answer : Result Files LedgerFault) : Type 0 where
  emptied : List ℕ → Bool
  is_emptied : IsTrue g.told → IsEmptied r g.image emptied
  behind : Behind (around_given g emptied) r before after answer

-- entries by their paths, with the bytes of each payload
abbrev Entries : Type 0
Entries = List (List ℕ × Entry)

silent_same : (was is other more : Entries) (bytes : List ℕ → List ℕ) → want_of was ≡ want_of other → want_of is ≡ want_of more → silent_request was is bytes ≡ silent_request other more bytes
silent_same was is other more bytes w v = λ i. record { old = w i; new = v i; bytes = bytes; holds = is_payload_of; over = nothing_said }

module _ (one : AnswersAreOne) (g : Given) (told : g.told ≡ true) (tells : g.tells ≡ true) where
  answer_one : (r : Request) (before after : List Fields) (x y : Result Files LedgerFault) → IsAnsweredOf g r before after x → IsAnsweredOf g r before after y → IsTold x → IsTold y → x ≡ y
  answer_one r before after x y h k tx ty =
      let emptied = emptied_one r g.image h.emptied k.emptied (h.is_emptied told) (k.is_emptied told) in
      one (around_given g k.emptied) r before after x y told tells (subst (λ (e : List ℕ → Bool). Behind (around_given g e) r before after x) emptied h.behind) k.behind tx ty

  where_one : (b : Bool) (was is other more : Entries) (bytes : List ℕ → List ℕ) (before after : List Fields) (x y : Result Files LedgerFault) → want_of was ≡ want_of other → want_of is ≡ want_of more
      → AnsweredWhere b g was is bytes before after x → AnsweredWhere b g other more bytes before after y → IsTold x → IsTold y → x ≡ y
  where_one true was is other more bytes before after x y w v h k tx ty =
      let first : IsAnsweredOf g (silent_request was is bytes) before after x = record { emptied = h.emptied; is_emptied = h.is_emptied; behind = h.behind } in
      let second : IsAnsweredOf g (silent_request other more bytes) before after y = record { emptied = k.emptied; is_emptied = k.is_emptied; behind = k.behind } in
      answer_one (silent_request other more bytes) before after x y (subst (λ (r : Request). IsAnsweredOf g r before after x) (silent_same was is other more bytes w v) first) second tx ty
  where_one false was is other more bytes before after x y w v h k tx ty = h ∙ sym k

  pub ledger_one : (old other new next : State) → recorded old ≡ recorded other → recorded new ≡ recorded next → (was is more some : Entries) (bytes : List ℕ → List ℕ) (x y : Result Files LedgerFault) → want_of was ≡ want_of more → want_of is ≡ want_of some
      → IsLedger g old new was is bytes x → IsLedger g other next more some bytes y → IsTold x → IsTold y → x ≡ y
  ledger_one old other new next was_same is_same was is more some bytes x y w v h k tx ty =
      let before : h.before ≡ k.before = accounts_one old other h.before k.before was_same h.were_accounts k.were_accounts in
      let after : h.after ≡ k.after = accounts_one new next h.after k.after is_same h.are_accounts k.are_accounts in
      let moved : AnsweredWhere (has_accounts k.before k.after) g was is bytes k.before k.after x =
      subst (λ (l : List Fields). AnsweredWhere (has_accounts k.before l) g was is bytes k.before l x) after (subst (λ (l : List Fields). AnsweredWhere (has_accounts l h.after) g was is bytes l h.after x) before h.answered) in
      where_one (has_accounts k.before k.after) was is more some bytes k.before k.after x y w v moved k.answered tx ty

pub ok_told : (f : Files) → IsTold (Ok f)
ok_told f = (λ e. cc, λ e. cc)

pub files_of : (f g : Files) → (let x : Result Files LedgerFault = Ok f in x) ≡ Ok g → f ≡ g
files_of f g e = cc

module _ (one : AnswersAreOne) (g : Given) (told : g.told ≡ true) (tells : g.tells ≡ true) (old other new next : State) (was_same : recorded old ≡ recorded other) (is_same : recorded new ≡ recorded next)
    (was is more some : Entries) (bytes : List ℕ → List ℕ) (w : want_of was ≡ want_of more) (v : want_of is ≡ want_of some) where
  -- the account files behind a request are one
  pub files_one : (x y : Files) → IsLedger g old new was is bytes (Ok x) → IsLedger g other next more some bytes (Ok y) → x ≡ y
  files_one x y h k = files_of x y (ledger_one one g told tells old other new next was_same is_same was is more some bytes (Ok x) (Ok y) w v h k (ok_told x) (ok_told y))
