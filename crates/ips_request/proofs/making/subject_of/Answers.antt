use Rattle.std.proofs.Common.{◌∙◌, Global, List, Vec, ap, inl, inr, map, ℕ}
use Rattle.std.specs.List.{flat_map}
use Rattle.ips_fmri.specs.declared.pattern.Pattern.{Pattern}
use Rattle.ips_state.specs.State.{installed}
use Rattle.ips_request.specs.Request.{kind_of, matched_against}
use Rattle.ips_request.specs.Named.{with_limits}
use Rattle.ips_request.specs.Stems.{stems_of, firsts}
use Rattle.ips_request.specs.declared.asking.Naming as declared
use Rattle.ips_request.specs.declared.asking.Subject.{Subject}
use Rattle.ips_request.proofs.Named.{bad_handed}
use Rattle.ips_request.proofs.Subjects.{known_as, named_as, subject_made, unnamed_as, unnamed_other}
use Rattle.ips_request.proofs.making.subject_of.Goals as goal

pub returns-in-Err-clause-bad : goal.returns-in-Err-clause-bad
returns-in-Err-clause-bad c =
    let of_all = known_as _ _ _ _ _ c.catalog.ensures (ap (map installed) c.deref.ensures.value) c.in_ok-all.ensures in
    let of_known = known_as _ _ _ _ _ (c.matched.ensures ∙ ap (matched_against (kind_of c.args.request.now)) c.catalog-2.ensures) (ap (map installed) c.deref-2.ensures.value) c.in_ok-known.ensures in
    bad_handed (Vec declared.Naming Global) Subject _ _ c.in-Err.why c.in-Err.ensures.unnamed
    (λ why h. (
      record {
        known = c.in_ok-known.known.items;
        all = c.in_ok-all.all.items;
        are_known = of_known;
        are_all = of_all;
        first = inl (unnamed_as _ _ _ _ _ _ why c.as_str-publisher.ensures c.as_slice.ensures.value c.patterns.ensures h);
      },
      unnamed_other _ _ _ why h,
    ))

pub returns-in-Err-named_by-clause-bad : goal.returns-in-Err-named_by-clause-bad
returns-in-Err-named_by-clause-bad c =
    let of_all = known_as _ _ _ _ _ c.catalog.ensures (ap (map installed) c.deref.ensures.value) c.in_ok-all.ensures in
    let of_known = known_as _ _ _ _ _ (c.matched.ensures ∙ ap (matched_against (kind_of c.args.request.now)) c.catalog-2.ensures) (ap (map installed) c.deref-2.ensures.value) c.in_ok-known.ensures in
    let named = map (λ (n : declared.Naming). n.stems.items) c.in-Ok.named.items in
    let is_named = named_as _ _ _ _ _ _ named c.as_str-publisher.ensures c.as_slice.ensures.value c.patterns.ensures c.in-Ok.ensures.named in
    bad_handed (Vec (Vec (List ℕ) Global) Global) Subject _ _ c.in-Err-named_by.why c.in-Err-named_by.ensures.unnamed
    (λ why h. (
      record {
        known = c.in_ok-known.known.items;
        all = c.in_ok-all.all.items;
        are_known = of_known;
        are_all = of_all;
        first = inr ((named, is_named), unnamed_as _ _ _ _ _ _ why c.as_str-publisher.ensures c.as_slice-2.ensures.value c.rejects.ensures h);
      },
      unnamed_other _ _ _ why h,
    ))

pub returns-clause-subject : goal.returns-clause-subject
returns-clause-subject c =
    let of_all = known_as _ _ _ _ _ c.catalog.ensures (ap (map installed) c.deref.ensures.value) c.in_ok-all.ensures in
    let of_known = known_as _ _ _ _ _ (c.matched.ensures ∙ ap (matched_against (kind_of c.args.request.now)) c.catalog-2.ensures) (ap (map installed) c.deref-2.ensures.value) c.in_ok-known.ensures in
    let named = map (λ (n : declared.Naming). n.stems.items) c.in-Ok.named.items in
    let items = map (λ (v : Vec (List ℕ) Global). v.items) in
    let rejects = items c.in-Ok-named_by.rejects.items in
    let made = c.in_ok-made.ensures in
    subject_made c.args.request.now c.args.state.now _ c.in_ok-known.known.items c.in_ok-all.all.items c.in-Ok.named.items rejects c.in_ok-made.field-0 of_known of_all
    (named_as _ _ _ _ _ _ named c.as_str-publisher.ensures c.as_slice.ensures.value c.patterns.ensures c.in-Ok.ensures.named)
    (c.in-Ok.ensures.limited ∙ ap (λ (ps : List Pattern). with_limits ps named) c.patterns.ensures)
    (named_as _ _ _ _ _ _ rejects c.as_str-publisher.ensures c.as_slice-2.ensures.value c.rejects.ensures c.in-Ok-named_by.ensures.named)
    (record {
      kind = made.kind ∙ c.kind.ensures;
      names = ap (λ v. v.items) made.named;
      rejected = ap (λ set. stems_of set.keys) made.rejected ∙ c.in_ok-rejected.ensures ∙ ap (λ l. firsts (flat_map (λ (stems : List (List ℕ)). stems) (items l))) c.as_slice-3.ensures.value;
      state = made.state;
      offered = made.repo;
    })
