use Rattle.std.proofs.Common.{ℕ, List, ◌++◌, take, sym, subst}
use Rattle.std.specs.Prelude.{codes}
use Rattle.ips_text.specs.Path.{IsPath}
use Rattle.ips_repo.specs.Places.{publisher_place}
use Rattle.ips_prepare.proofs.Paths.{content_path}
use Rattle.ips_prepare.proofs.directories.push_dir.Goals as goal

pub push_digits-requires-clause-path : goal.push_digits-requires-clause-path
push_digits-requires-clause-path c =
    subst (λ (digits : List ℕ). IsPath (publisher_place c.args.publisher.now ++ codes "/file/" ++ take 2 digits)) (sym c.print-count.ensures.spelled) (content_path c.args.publisher.now c.requires.publisher c.args.name.now c.requires.name)
