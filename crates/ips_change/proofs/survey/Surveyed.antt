-- What a survey found, as rows of a request.
use Rattle.std.proofs.Common.{◌≡◌, ℕ, ◌||◌, List, [], ◌∷◌, map, is_some, sym, ◌∙◌, ap}
use Rattle.std.specs.List.{AllByRecursion}
use Rattle.ips_meaning.specs.declared.entry.Entry.{Entry}
use Rattle.ips_after.specs.Request.{Request, Want}
use Rattle.ips_change.specs.wanted.Wanted.{want_of}
use Rattle.ips_change.specs.declared.survey.row.Row.{Row}
use Rattle.ips_change.specs.survey.Rows.{AreRows, HasBoth, IsRowOf, row_pair}
use Rattle.ips_change.specs.survey.Tables.{AreRowsOf}

pub rows_of : (r : Request) (old new : List (List ℕ × Entry)) (rows : List Row) → r.old ≡ want_of old → r.new ≡ want_of new → AreRows old new (map row_pair rows) → AreRowsOf r rows
rows_of r old new rows from to are = record {
  covers = λ q. are.paths q ∙ ap (λ (w : Want). is_some (w.at q) || is_some ((want_of new).at q)) (sym from) ∙ ap (λ (w : Want). is_some (r.old.at q) || is_some (w.at q)) (sym to);
  entries = go rows are.entries;
}
  where
    go : (rows : List Row) → AllByRecursion (HasBoth old new) (map row_pair rows) → AllByRecursion (IsRowOf r) rows
    go [] all = all
    go (row ∷ rows) all =
        let p = (row_pair row).path in
        ((all.0.0 ∙ ap (λ (w : Want). w.at p) (sym from), all.0.1 ∙ ap (λ (w : Want). w.at p) (sym to)), go rows all.1)
