use Rattle.std.proofs.Common.{◌≡◌, ◌++◌, ◌+◌, ◌<◌, ℕ, true, List, [], ◌∷◌, map, get_or, length, take, take_all, Option, Some, is_some, sym, ◌∙◌, ap, subst, arith}
use Rattle.std.specs.Prelude.{slice_get}
use Rattle.std.specs.Option.{option_map}
use Rattle.std.specs.List.Sorted.{IsStrictlySortedBy}
use Rattle.std.specs.Ordering.{nat_cmp}
use Rattle.std.specs.Cmp.Lexicographic.{slice_cmp}
use Rattle.std.proofs.lemmas.List.{get_or_default}
use Rattle.std.proofs.lemmas.Option.{get_or_from_slice_get, slice_get-map, slice_get_within}
use Rattle.ips_text.proofs.Lists.{element}
use Rattle.ips_after.specs.Repaired.{repairs}
use Rattle.ips_after.specs.Request.{Want, Wanted}
use Rattle.ips_change.specs.declared.change.Change.{Change}
use Rattle.ips_change.specs.declared.change.Change.TheVariants as told
use Rattle.ips_change.specs.Told.{change_told}
use Rattle.ips_meaning.specs.declared.entry.Entry.{Entry}
use Rattle.ips_change.specs.wanted.Wanted.{want_of}
use Rattle.ips_emptied.specs.order.Chosen.{path_in}
use Rattle.ips_emit.specs.Emitted.{IsEmitted, Provenance, Turn, provenances_told}
use Rattle.ips_mend.specs.mended.Drafting.{sources_in, turns_mended}
use Rattle.ips_mend.proofs.mended.Drafted.{path_there, sources_on, turn_is, turns_on}
use Rattle.ips_mend.proofs.mended.Merged.{entry_there}
use Rattle.ips_mend.proofs.mended.drafting.draft_mended.Goals as goal

pub loop-i-preserved : goal.loop-i-preserved
loop-i-preserved c = λ f t turns provenances good is are before.
    let want = c.args.want.now in
    let keys = (want_of want).keys in
    let changes = c.args.changes.now in
    let order = c.args.order.now in
    let i = c.loop-i.i in
    let lt : i < length order = c.loop-i-test.true in
    let place = get_or order i 0 in
    let p = c.in-Some.path.now.bytes in
    let e = c.in-Some.field-0-1.now in
    let there : slice_get want place ≡ Some (p, e) = c.in-Some.ensures.some in
    let change = c.index-changes-place.result in
    let becomes = change_told f.bytes change in
    let first : List ℕ × Entry → List ℕ = λ x. x.0 in
    let keyed : slice_get keys place ≡ Some p = slice_get-map first want place ∙ ap (option_map first) there in
    let within : place < length want = slice_get_within want place (p, e) there in
    let less : place < length changes = omega (arith, within, c.requires.changes) in
    let one = element changes place less in
    let here : slice_get changes place ≡ Some change = one.1 ∙ ap (λ (x : Change). Some x) (sym (c.index-changes-place.is ∙ get_or_from_slice_get changes place one.0 change one.1)) in
    let same : f.want.keys ≡ keys = ap (λ (w : Want). w.keys) is in
    let wanted : is_some (f.want.at p) ≡ true =
    ap (λ (w : Want). is_some (w.at p)) is ∙ ap (λ (o : Option Wanted). is_some o) (entry_there want place p e there (subst (λ (w : Want). IsStrictlySortedBy (slice_cmp nat_cmp) w.keys) is good.want_fits.by_bytes)) in
    let at : path_in keys place ≡ p = path_there keys place p keyed in
    let before_turns = turns ++ turns_mended f t (map (path_in keys) (take i order)) in
    let before_from = provenances ++ sources_in changes (take i order) in
    let new = c.push.new.self in
    let step = c.in_ok-push.ensures f.bytes t before_turns before_from (c.loop-i.invariant f t turns provenances good is are before) in
    let moved = subst (λ (x : List ℕ). IsEmitted f.bytes t (before_turns ++ (x, becomes) ∷ []) (before_from ++ provenances_told change) new) (sym at) step in
    let turn : becomes ≡ repairs f t (path_in keys place) =
    turn_is f t (change_told f.bytes) changes place change p good wanted are here (ap (λ (l : List (List ℕ)). slice_get l place) same ∙ keyed) ∙ ap (repairs f t) (sym at) in
    let lands = get_or_default order i 0 place lt in
    let source = c.index-changes-place.is ∙ get_or_default changes place change told.Kept less in
    subst (λ (l : List Turn). IsEmitted f.bytes t l (provenances ++ sources_in changes (take (i + 1) order)) new) (turns_on f t keys order i place turns becomes lt lands turn)
    (subst (λ (l : List Provenance). IsEmitted f.bytes t (before_turns ++ (path_in keys place, becomes) ∷ []) l new) (sources_on changes order i place provenances change lt lands source) moved)

pub returns : goal.returns
returns c = λ f t turns provenances good is are before.
    let keys = (want_of c.args.want.now).keys in
    let whole = take_all c.loop-i.i c.args.order.now (omega (arith, c.loop-i-test.false)) in
    subst (λ (l : List ℕ). IsEmitted f.bytes t (turns ++ turns_mended f t (map (path_in keys) l)) (provenances ++ sources_in c.args.changes.now l) c.loop-i.emitted) whole
    (c.loop-i.invariant f t turns provenances good is are before)
