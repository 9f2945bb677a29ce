use Rattle.std.proofs.Common.{◌≡◌, ℕ, List, [], ◌∷◌, ◌++◌, Result, Ok, Err, OnOk, sym, ap, subst, ◌∙◌}
use Rattle.std.specs.Prelude.{codes}
use Rattle.std.specs.declared.alloc.AllocError.{AllocError}
use Rattle.ips_text.specs.Quote.{quoted}
use Rattle.ips_text.specs.Path.{IsPath}
use Rattle.ips_repo.specs.Places.{publisher_place}
use Rattle.ips_prepare.specs.Prepared.{first_ways}
use Rattle.ips_prepare.proofs.Paths.{var_path, records_path, publishers_path, publisher_path, catalog_path, manifests_path, stem_path, files_path, first_pushed}
use Rattle.ips_prepare.proofs.directories.push_first.Goals as goal

pub push_path-requires : goal.push_path-requires
push_path-requires c = var_path

pub push_path-requires-2 : goal.push_path-requires-2
push_path-requires-2 c = records_path

pub push_path-requires-3 : goal.push_path-requires-3
push_path-requires-3 c = publishers_path

pub push_below-requires : goal.push_below-requires
push_below-requires c = publisher_path c.args.publisher.now c.requires.publisher

pub push_below-requires-2 : goal.push_below-requires-2
push_below-requires-2 c = catalog_path c.args.publisher.now c.requires.publisher

pub push_below-requires-3 : goal.push_below-requires-3
push_below-requires-3 c = manifests_path c.args.publisher.now c.requires.publisher

pub push_stem-requires : goal.push_stem-requires
push_stem-requires c =
    subst (λ (quoted_stem : List ℕ). IsPath (publisher_place c.args.publisher.now ++ codes "/pkg/" ++ quoted_stem)) (sym (c.as_str.ensures ∙ c.in_ok-stem.ensures ∙ ap quoted c.as_bytes.ensures.value)) (stem_path c.args.publisher.now c.requires.publisher c.args.stem.now c.requires.stem)

pub push_below-requires-4 : goal.push_below-requires-4
push_below-requires-4 c = files_path c.args.publisher.now c.requires.publisher

-- where the last succeeds, all stand one behind the other
all_pushed : (publisher stem : List ℕ) (r : Result (Unit {0}) AllocError) (o a b c d e f g h : List (List ℕ)) (q : List ℕ) → a ≡ o ++ codes "var" ∷ [] → b ≡ a ++ codes "var/pkg" ∷ [] → c ≡ b ++ codes "publisher" ∷ []
    → d ≡ c ++ (publisher_place publisher ++ []) ∷ [] → e ≡ d ++ (publisher_place publisher ++ codes "/catalog") ∷ [] → f ≡ e ++ (publisher_place publisher ++ codes "/pkg") ∷ []
    → q ≡ quoted stem → g ≡ f ++ (publisher_place publisher ++ codes "/pkg/" ++ q) ∷ [] → OnOk r (h ≡ g ++ (publisher_place publisher ++ codes "/file") ∷ []) → OnOk r (h ≡ o ++ first_ways publisher stem)
all_pushed publisher stem (Ok x) o a b c d e f g h q ha hb hc hd he hf is hg hh =
    first_pushed publisher stem o a b c d e f g h ha hb hc hd he hf (hg ∙ ap (λ (z : List ℕ). f ++ (publisher_place publisher ++ codes "/pkg/" ++ z) ∷ []) is) hh
all_pushed publisher stem (Err x) o a b c d e f g h q ha hb hc hd he hf is hg hh = tt

pub returns : goal.returns
returns c =
    all_pushed c.args.publisher.now c.args.stem.now c.push_below-4.result _ _ _ _ _ _ _ _ _ _ c.in_ok-push_path.ensures c.in_ok-push_path-2.ensures c.in_ok-push_path-3.ensures
    c.in_ok-push_below.ensures c.in_ok-push_below-2.ensures c.in_ok-push_below-3.ensures (c.as_str.ensures ∙ c.in_ok-stem.ensures ∙ ap quoted c.as_bytes.ensures.value) c.in_ok-push_stem.ensures c.push_below-4.ensures
