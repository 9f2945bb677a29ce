-- Contents that are looked for one after the other.
use Rattle.std.proofs.Common.{◌≡◌, ℕ, ◌+◌, ◌<◌, List, [], ◌∷◌, ◌++◌, take, drop, length, get_or, Err, sym, ◌∙◌, ap, subst}
use Rattle.std.specs.List.{AllByRecursion}
use Rattle.std.proofs.lemmas.List.{take-append-drop, drop_more}
use Rattle.ips_text.specs.declared.refusal.Or.{Or}
use Rattle.ips_text.specs.declared.refusal.Or.TheVariants.{Bad, OutOfMemory}
use Rattle.ips_text.specs.Reading.{IfBad}
use Rattle.ips_text.proofs.Lists.{take_item, all_append}
use Rattle.ips_outside.specs.Image.{Image}
use Rattle.ips_manifest.specs.declared.draft.Draft.{Draft}
use Rattle.ips_filling.specs.declared.filled.ContentFault.{ContentFault}
use Rattle.ips_filling.specs.declared.filled.ContentFault.TheVariants.{Missing, TooLarge, SourceFault}
use Rattle.ips_sends.specs.Judged.{HasSource}
use Rattle.ips_filling.specs.Filled.{IsLost, AreLost}

-- one more was found
pub found_next : (t : Image) (drafts : List Draft) (i : ℕ) (d : Draft) → i < length drafts → d ≡ get_or drafts i d → AllByRecursion (HasSource t) (take i drafts) → HasSource t d → AllByRecursion (HasSource t) (take (i + 1) drafts)
found_next t drafts i d lt at all here = subst (AllByRecursion (HasSource t)) (sym (take_item drafts i d lt at)) (all_append (HasSource t) (take i drafts) (d ∷ []) all (here, tt))

-- behind those that were found one is missing
pub lost_next : (X : Type 0) (e : Or ContentFault) (t : Image) (drafts : List Draft) (i : ℕ) (d : Draft) → i < length drafts → d ≡ get_or drafts i d → AllByRecursion (HasSource t) (take i drafts)
    → IfBad {X = X} (Err e) (IsLost t d) → IfBad {X = X} (Err e) (AreLost t drafts)
lost_next X OutOfMemory t drafts i d lt at all lost = tt
lost_next X (Bad SourceFault) t drafts i d lt at all lost = tt
lost_next X (Bad (TooLarge count)) t drafts i d lt at all lost = lost
lost_next X (Bad (Missing text)) t drafts i d lt at all lost =
    let parts : drafts ≡ take i drafts ++ d ∷ drop (i + 1) drafts = sym (take-append-drop i drafts) ∙ ap (λ (l : List Draft). take i drafts ++ l) (drop_more drafts i d lt ∙ ap (λ (x : Draft). x ∷ drop (i + 1) drafts) (sym at)) in
    (take i drafts, d, drop (i + 1) drafts, parts, all, lost.0, lost.1)
