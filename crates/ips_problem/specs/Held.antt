-- What a problem in memory poses.
use Rattle.std.proofs.Common.{◌<◌, map, length, string_bytes, sym, ◌∙◌, arith}
use Rattle.std.proofs.lemmas.List.{length-map}
use Rattle.std.proofs.lemmas.List.Elements.{recursion_from_All, All-map}
use Rattle.ips_refute.specs.Meaning.{Lawful}
use Rattle.ips_request.specs.Stems.{stems_of}
use Rattle.ips_problem.specs.declared.problem.Problem.{Problem}
use Rattle.ips_problem.specs.Posed.{Numbered, Posed, IsFormed, meaning_of}
use Rattle.ips_problem.specs.Seen.{seen_row, seen_test}
use Rattle.ips_problem.specs.Laws.{posed_lawful}

-- the puzzle that a problem is
abbrev pub posed_of : Problem → Posed
posed_of p = record { stems = stems_of p.stems.keys; rows = map seen_row p.rows.items; tests = map seen_test p.tests.items; avoid = p.avoid.items }

-- it is formed
problem_formed : (p : Problem) → IsFormed (posed_of p)
problem_formed p =
    let rows = length-map p.rows.items seen_row in
    let stems = length-map p.stems.keys (λ k. string_bytes k) in
    let known = p.rows_known in
    record {
      rows = rows ∙ known ∙ sym stems;
      tests = recursion_from_All (λ (n : Numbered). n.stem < length (stems_of p.stems.keys)) (map seen_test p.tests.items)
          (All-map (λ (n : Numbered). n.stem < length (stems_of p.stems.keys)) seen_test p.tests.items (λ k d l. let h = p.tests_known k d l in omega arith));
    }

-- so it means a puzzle
pub problem_lawful : (p : Problem) → Lawful (meaning_of (posed_of p))
problem_lawful p = posed_lawful (posed_of p) (problem_formed p)
