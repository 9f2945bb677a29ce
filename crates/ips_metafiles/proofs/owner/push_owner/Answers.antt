use Rattle.std.proofs.Common.{◌≡◌, ℕ, List, [], ◌∷◌, ◌++◌, ◌∙◌, append_assoc}
use Rattle.std.specs.Prelude.{string_bytes}
use Rattle.std.specs.Fmt.{decimal}
use Rattle.ips_text.specs.Quote.{shown}
use Rattle.ips_metafiles.proofs.owner.push_owner.Goals as goal

ended : (old uid gid owner group path : List ℕ) → old ++ (uid ++ 32 ∷ (gid ++ 32 ∷ (owner ++ 32 ∷ (group ++ 32 ∷ (path ++ 10 ∷ []))))) ≡ (old ++ (uid ++ 32 ∷ (gid ++ 32 ∷ (owner ++ 32 ∷ (group ++ 32 ∷ path))))) ++ 10 ∷ []
ended old uid gid owner group path = simp append_assoc

pub returns : goal.returns
returns c =
    let r = c.args.row.now in
    let old = string_bytes c.args.out.now in
    let written : string_bytes c.push_str.new.self ≡ old ++ (decimal r.uid ++ 32 ∷ (decimal r.gid ++ 32 ∷ (r.owner ++ 32 ∷ (r.group ++ 32 ∷ (shown r.path.bytes ++ 10 ∷ []))))) =
    rw (c.in_ok-push_str.ensures.bytes, c.in_ok-push_word-3.ensures, c.in_ok-path.ensures, c.in_ok-push_word-2.ensures, c.in_ok-push_word.ensures, c.in_ok-write.ensures.bytes) (simp append_assoc) in
    written ∙ ended old (decimal r.uid) (decimal r.gid) r.owner r.group (shown r.path.bytes)
