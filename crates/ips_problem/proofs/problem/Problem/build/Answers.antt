use Rattle.std.proofs.Common.{◌≡◌, ◌∙◌, Bor, Bool, Option, Some, None, ap, inl, inr, is_some, option_map, refl, sym}
use Rattle.ips_outside.proofs.Reading.{reads_none}
use Rattle.ips_state.specs.State.{recorded}
use Rattle.ips_repo.specs.declared.repository.Repo.{Repo}
use Rattle.ips_request.specs.Subject.{repo_of}
use Rattle.ips_request.specs.declared.asking.Subject.{Subject}
use Rattle.ips_request.specs.declared.fault.ProblemFault.TheVariants as fault
use Rattle.ips_request.proofs.Named.{bad_handed}
use Rattle.ips_request.proofs.Results.{bad_other, bad_then, ok_then}
use Rattle.ips_problem.specs.Asked.{tells_where}
use Rattle.ips_problem.specs.Held.{posed_of}
use Rattle.ips_problem.specs.declared.problem.Problem.{Problem}
use Rattle.ips_problem.proofs.Posing.{asked_by, needed_fault}
use Rattle.ips_problem.proofs.Recording.{over_lawful}
use Rattle.ips_problem.proofs.problem.Problem.build.Goals as goal

mapped : {X Y : Type 0} (f : X → Y) (o : Option X) → is_some (option_map f o) ≡ is_some o
mapped f None = refl
mapped f (Some x) = refl

-- the subject looks at the repository that is given
looks : (s : Subject) (repo : Option (Bor Repo)) → repo_of s ≡ option_map (λ r. r.now) repo → is_some s.repo ≡ is_some repo
looks s repo same = sym (mapped (λ r. r.now) s.repo) ∙ ap is_some same ∙ mapped (λ r. r.now) repo

pub returns-in-Ok-clause-asked : goal.returns-in-Ok-clause-asked
returns-in-Ok-clause-asked g c = λ told.
    ok_then _ _ c.posed_by.result (c.posed_by.ensures.posed (ap (λ (b : Bool). tells_where b (g.S.Source.outside.tells c.args.source.now)) (looks c.in-Ok.subject c.args.repo c.in-Ok.ensures.subject.offered) ∙ told))
    (λ p posed. asked_by c.args.request.now (recorded c.args.state.now) _ c.in-Ok.subject (g.S.Source.outside.state c.args.source.now).held c.in-Ok.ensures.subject (posed_of p) posed)

pub returns-in-Ok-clause-bad : goal.returns-in-Ok-clause-bad
returns-in-Ok-clause-bad g c = λ told.
    bad_then _ _ c.posed_by.result (c.posed_by.ensures.bad (ap (λ (b : Bool). tells_where b (g.S.Source.outside.tells c.args.source.now)) (looks c.in-Ok.subject c.args.repo c.in-Ok.ensures.subject.offered) ∙ told))
    (λ why first. inr (needed_fault c.args.request.now (recorded c.args.state.now) _ c.in-Ok.subject (g.S.Source.outside.state c.args.source.now).held c.in-Ok.ensures.subject why first))

pub returns-in-Err-clause-bad : goal.returns-in-Err-clause-bad
returns-in-Err-clause-bad g c = λ told. bad_handed Subject Problem _ _ c.in-Err.why c.in-Err.ensures.bad (λ why h. inl h.0)

pub returns-in-Err-clause-reads : goal.returns-in-Err-clause-reads
returns-in-Err-clause-reads g c =
    reads_none g.S.Source.outside c.args.source.now _
    (bad_other fault.SourceFault c.in-Err.why (bad_handed Subject Problem _ _ c.in-Err.why c.in-Err.ensures.bad (λ why h. h.1)))

pub returns-in-Ok-clause-recordable : goal.returns-in-Ok-clause-recordable
returns-in-Ok-clause-recordable g c =
    ok_then _ _ c.posed_by.result c.posed_by.ensures.recordable
    (λ p recordable lawful. recordable (over_lawful c.args.request.now (recorded c.args.state.now) _ c.in-Ok.subject c.in-Ok.ensures.subject lawful))

pub returns-in-Ok-clause-asks : goal.returns-in-Ok-clause-asks
returns-in-Ok-clause-asks g c = λ failed. sym (looks c.in-Ok.subject c.args.repo c.in-Ok.ensures.subject.offered) ∙ c.posed_by.ensures.asks failed

pub returns-in-Err-clause-asks : goal.returns-in-Err-clause-asks
returns-in-Err-clause-asks g c = λ failed. absurd (bad_other fault.SourceFault c.in-Err.why (bad_handed Subject Problem _ _ c.in-Err.why c.in-Err.ensures.bad (λ why h. h.1)) failed)
