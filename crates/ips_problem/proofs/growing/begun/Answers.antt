use Rattle.std.proofs.Common.{◌++◌, ◌∙◌, [], List, ap, flat_map, length, map, refl, sym}
use Rattle.ips_request.specs.declared.asking.Naming as declared
use Rattle.ips_problem.specs.declared.rows.Row as rows
use Rattle.ips_manifest.specs.declared.package.Package.{Package}
use Rattle.ips_request.specs.Case.{Naming}
use Rattle.ips_request.specs.Stems.{stems_of, firsts, put_all}
use Rattle.ips_request.specs.Subject.{case_of, seen_naming}
use Rattle.ips_request.proofs.Lookups.{put_all_append}
use Rattle.ips_problem.specs.Seen.{seen_row, seen_test}
use Rattle.ips_problem.proofs.Growth.{gathered_none}
use Rattle.ips_problem.proofs.Recording.{none_gathered}
use Rattle.ips_problem.proofs.growing.begun.Goals as goal
use Rattle.ips_request.proofs.Subjects.{package_stems}

pub returns-clause-gathered : goal.returns-clause-gathered
returns-clause-gathered c = λ file r.
    let s = c.args.subject.now in
    let f = λ (n : Naming). n.stems in
    let named = flat_map f (map seen_naming s.named.items) in
    let packages = s.state.now.installed.items in
    let own = map (λ (p : Package). p.stem) packages in
    let first = c.in_ok-add_named.ensures ∙ ap (λ (ns : List declared.Naming). put_all (stems_of c.new-stems.result.keys) (flat_map f (map seen_naming ns))) c.deref.ensures.value ∙ ap (λ ks. put_all (stems_of ks) named) c.new-stems.ensures.empty in
    let all = c.in_ok-add_packages.ensures ∙ ap (λ (ps : List Package). put_all (stems_of c.add_named.new.stems.keys) (map (λ (p : Package). p.stem) ps)) c.deref-2.ensures.value ∙ ap (λ ss. put_all ss own) first ∙ sym (put_all_append [] named own)
    ∙ ap (λ ss. firsts (named ++ ss)) (package_stems packages) in
    gathered_none (case_of s file r) (stems_of c.add_packages.new.stems.keys) (length c.new.result.items) (map seen_row c.new.result.items) (map seen_test c.new-2.result.items) 0
    all (ap (λ (rs : List rows.Row). length rs) c.new.ensures.items) (ap (map seen_row) c.new.ensures.items) (ap (map seen_test) c.new-2.ensures.items) refl

pub returns-clause-sound : goal.returns-clause-sound
returns-clause-sound c = none_gathered _ c.new.ensures.items (ap (map seen_test) c.new-2.ensures.items)
