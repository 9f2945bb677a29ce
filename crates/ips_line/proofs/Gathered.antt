-- The pairs of a line are gathered one after the other, as the loop does.
use Rattle.std.proofs.Common.{◌≡◌, ℕ, true, false, eqb, List, [], ◌∷◌, ◌++◌, length, Result, Ok, Err, refl, sym, ap, subst, ◌∙◌, append_assoc}
use Rattle.std.specs.Prelude.{map}
use Rattle.std.specs.List.{list_all}
use Rattle.std.proofs.lemmas.List.{append-nil}
use Rattle.ips_text.specs.declared.refusal.Stop.{Stop}
use Rattle.ips_text.specs.declared.refusal.Or.{Or}
use Rattle.ips_text.specs.declared.refusal.Or.TheVariants.{Bad, OutOfMemory}
use Rattle.ips_text.specs.Reading.{◌>>=◌, Sees, Fails, run}
use Rattle.ips_line.specs.declared.fault.Part.{Part}
use Rattle.ips_line.specs.declared.words.Pair.{Pair}
use Rattle.ips_line.specs.Line.{is_blank, Attribute, pair_of}
use Rattle.ips_line.specs.Reading.{is_none, attribute_at, attributes_at, said_pairs}
use Rattle.ips_line.proofs.Runs.{run_rest, empty_told}
use Rattle.ips_line.proofs.Listed.{Rest, AttributeRead, rest_blank, rest_next, rest_stop}

abbrev Gathered : Type 0
Gathered = Result (List Pair) (Stop Part)

-- what was gathered before, and what is still read
abbrev pub with_pairs : List Pair → Gathered → Gathered
with_pairs front (Ok pairs) = Ok (front ++ pairs)
with_pairs front (Err s) = Err s

pub gather_begin : (read : Gathered) → with_pairs [] read ≡ read
gather_begin (Ok pairs) = refl
gather_begin (Err s) = refl

regroup : (front : List Pair) (a : Attribute) (read : Result Rest (Stop Part)) → with_pairs front (said_pairs (read >>= λ others. Ok (a ∷ others.0, others.1))) ≡ with_pairs (front ++ pair_of a ∷ []) (said_pairs read)
regroup front a (Ok x) = ap (λ (l : List Pair). Ok l) (sym (append_assoc front (pair_of a ∷ []) (map pair_of x.0)))
regroup front a (Err s) = refl

-- behind blanks there is something
pub is_some : (text rest : List ℕ) (blanks : List ℕ) → run is_blank text ≡ (blanks, rest) → eqb (length rest) 0 ≡ list_all is_blank text
is_some text rest blanks e = empty_told rest ∙ sym (run_rest is_blank text ∙ ap (λ (p : List ℕ × List ℕ). is_none p.1) e)

pub gather_on : (front : List Pair) (text : List ℕ) (a : AttributeRead) (total : Gathered) → list_all is_blank text ≡ false → attribute_at text ≡ Ok a
    → with_pairs front (said_pairs (attributes_at text)) ≡ total → with_pairs (front ++ pair_of a.0 ∷ []) (said_pairs (attributes_at a.1)) ≡ total
gather_on front text a total some e so_far = sym (regroup front a.0 (attributes_at a.1)) ∙ ap (λ (r : Result Rest (Stop Part)). with_pairs front (said_pairs r)) (sym (rest_next text a some e)) ∙ so_far

pub gather_end : (front : List Pair) (text : List ℕ) (total : Gathered) → list_all is_blank text ≡ true → with_pairs front (said_pairs (attributes_at text)) ≡ total → total ≡ Ok front
gather_end front text total blank so_far = sym so_far ∙ ap (λ (r : Result Rest (Stop Part)). with_pairs front (said_pairs r)) (rest_blank text blank) ∙ ap (λ (l : List Pair). Ok l) (append-nil front)

pub gather_stop : (front : List Pair) (text : List ℕ) (s : Stop Part) (total : Gathered) → list_all is_blank text ≡ false → attribute_at text ≡ Err s → with_pairs front (said_pairs (attributes_at text)) ≡ total → total ≡ Err s
gather_stop front text s total some e so_far = sym so_far ∙ ap (λ (r : Result Rest (Stop Part)). with_pairs front (said_pairs r)) (rest_stop text s some e)

-- ---- what a call saw

pub seen_fails : {X Y E : Type 0} (view : X → Y) (r : Result X E) (read : Result Y E) (e : Or E) → Fails e r → Sees view r read → Fails e read
seen_fails {X} {Y} {E} view r read (Bad d) h s = subst (λ (q : Result X E). Sees view q read) h s
seen_fails view r read OutOfMemory h s = tt

pub gather_fails : (e : Or (Stop Part)) (front : List Pair) (text : List ℕ) (total : Gathered) → list_all is_blank text ≡ false → Fails e (attribute_at text) → with_pairs front (said_pairs (attributes_at text)) ≡ total → Fails e total
gather_fails (Bad s) front text total some e so_far = gather_stop front text s total some e so_far
gather_fails OutOfMemory front text total some e so_far = tt
