-- What is written beside a repository: directories, and then contents.
use Rattle.std.proofs.Common.{◌≡◌, Bool, true, false, ◌||◌, List, ℕ, Result, Ok, Err, refl, ap, subst, ◌∙◌, inl, inr}
use Rattle.std.specs.Prelude.{OnOk}
use Rattle.std.proofs.lemmas.Bool.{cases_Bool, or_parts}
use Rattle.ips_outside.specs.Image.{Image}
use Rattle.ips_outside.specs.State.{nowhere}
use Rattle.ips_outside.specs.Outside.{Outside, IsOutside}
use Rattle.ips_outside.proofs.Moments.{agrees_self}
use Rattle.ips_folder.specs.Calls.{ChangesOnly, Syncs}
use Rattle.ips_folder.proofs.Runs.{keeps_then, keeps_wider, one_sync}
use Rattle.ips_digest.specs.declared.name.PayloadName.{PayloadName}
use Rattle.ips_ways.specs.Ways.{is_missing}
use Rattle.ips_lay.specs.Laid.{LaysBeside, IsAtUnlaid}
use Rattle.ips_beside.specs.Writing.{WritesBeside, StaysOffLaid}

abbrev PathTest : Type 0
PathTest = List ℕ → Bool

pub on_ok : {T E P : Type 0} (r : Result T E) → P → OnOk r P
on_ok (Ok x) p = p
on_ok (Err e) p = tt

module _ {F : Type 0} (o : Outside F) (publisher : List ℕ) (names : List PayloadName) where
  -- contents that are laid, and made safe or not
  pub lays_synced : IsOutside o → (old mid new : F) {T E : Type 0} (result : Result T E) → o.tells mid ≡ true → LaysBeside o publisher names old mid → Syncs o mid new result → LaysBeside o publisher names old new
  lays_synced sane old mid new result told lays s = record {
    free = lays.free;
    unlaid = lays.unlaid;
    only = keeps_then o lays.free lays.free old mid new lays.only (one_sync o sane lays.free lays.free mid new result told s);
  }

  -- each path that wasn't free is as it was
  pub stays_off : (t : Image) (mid new : F) → (o.state mid).held ≡ t → LaysBeside o publisher names mid new → StaysOffLaid publisher t names (o.state new).held
  stays_off t mid new is lays q off = elim (cases_Bool (lays.free q)) [
    | inl free ↦ absurd (off (subst (λ (u : Image). IsAtUnlaid publisher u names q) is (lays.unlaid q free)))
    | inr other ↦ lays.only.now.agrees.look q other other ∙ ap (λ (u : Image). u.look q) is
  ]

  module _ (ways : List (List ℕ)) where
    -- directories alone
    pub dirs_only : (old new : F) → ChangesOnly o (is_missing (o.state old).held ways) nowhere old new → WritesBeside o publisher ways names old new
    dirs_only old new made =
        let free : PathTest = is_missing (o.state old).held ways in
        let more : PathTest = λ q. free q || nowhere q in record {
          mid = (o.state old).held;
          made = agrees_self free nowhere (o.state old).held;
          laid = nowhere;
          unlaid = λ q h. absurd (let bad : false ≡ true = h in cc);
          only = keeps_wider o free nowhere more more old new (λ q off. (or_parts (free q) (nowhere q) off).0) (λ q off. refl) made;
        }

    -- directories, and then contents
    pub dirs_then : (old mid new : F) → ChangesOnly o (is_missing (o.state old).held ways) nowhere old mid → LaysBeside o publisher names mid new → WritesBeside o publisher ways names old new
    dirs_then old mid new made lays =
        let free : PathTest = is_missing (o.state old).held ways in
        let more : PathTest = λ q. free q || lays.free q in record {
          mid = (o.state mid).held;
          made = made.now.agrees;
          laid = lays.free;
          unlaid = lays.unlaid;
          only = keeps_then o more more old mid new (keeps_wider o free nowhere more more old mid (λ q off. (or_parts (free q) (lays.free q) off).0) (λ q off. refl) made)
              (keeps_wider o lays.free lays.free more more mid new (λ q off. (or_parts (free q) (lays.free q) off).1) (λ q off. (or_parts (free q) (lays.free q) off).1) lays.only);
        }
