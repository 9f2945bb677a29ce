use lib.Chars.{codes}
use Rattle.std.proofs.Common.{[], ◌++◌}
use Rattle.std.specs.Fmt.{decimal}
use Rattle.std.proofs.lemmas.Fmt.{decimal_injective}
use Rattle.std.proofs.lemmas.List.{append_cancel_right}
use Rattle.ips_text.specs.Quote.{shown}
use Rattle.ips_digest.specs.Name.{spelling}
use Rattle.ips_digest.proofs.Names.{spelled_once}
use Rattle.ips_journal.proofs.FieldForms.{path_apart}
use Rattle.ips_journal.proofs.StepLines.{path_whole}
use Rattle.ips_report.specs.Report.{book_text, when_text, why_text}
use Rattle.ips_apart.proofs.Pieces.{blank, colon, number_lacks, one_piece, two_pieces, two_pieces_last}
use Rattle.ips_apart.proofs.Words.{actuators_apart, book_apart, folder_apart, name_lacks, recovered_apart, when_apart, why_apart}
use Rattle.ips_apart.proofs.law.reports_tell_what_they_say.Goals as goal

pub returns : goal.returns
returns c = record {
  usage = λ a b x y ha hb e. let parts = two_pieces 58 (codes "usage: word ") (decimal a) (codes " ") (why_text x) (decimal b) (why_text y) (number_lacks 58 a colon ha) (number_lacks 58 b colon hb) e in (decimal_injective a b ha hb parts.0, why_apart x y parts.1);
  journal = λ a b ha hb e. decimal_injective a b ha hb (one_piece (codes "bad journal line ") (decimal a) (decimal b) e);
  recovered = λ a b e. recovered_apart a b e;
  image = λ p q a b hp hq ha hb e. let parts = two_pieces_last 32 (codes "bad image ") (shown p.bytes) (codes " line") (decimal a) (shown q.bytes) (decimal b) (number_lacks 32 a blank ha) (number_lacks 32 b blank hb) e in (path_apart p.bytes q.bytes hp hq parts.0, decimal_injective a b ha hb parts.1);
  pattern = λ a b e. one_piece (codes "no match ") a b e;
  missing = λ a b e. one_piece (codes "manifest missing ") a b e;
  manifest = λ a b x y hx hy e. let parts = two_pieces_last 32 (codes "bad manifest ") a (codes " line") (decimal x.line) b (decimal y.line) (number_lacks 32 x.line blank hx) (number_lacks 32 y.line blank hy) e in (parts.0, decimal_injective x.line y.line hx hy parts.1);
  depend = λ a b m n hm hn e. let parts = two_pieces_last 32 (codes "bad depend ") a (codes " line") (decimal m) b (decimal n) (number_lacks 32 m blank hm) (number_lacks 32 n blank hn) e in (parts.0, decimal_injective m n hm hn parts.1);
  limit = λ a b ha hb e. decimal_injective a b ha hb (append_cancel_right (decimal a) (decimal b) (codes " spent") (one_piece (codes "search limit ") (decimal a ++ codes " spent") (decimal b ++ codes " spent") e));
  reserved = λ p q hp hq e. path_apart p.bytes q.bytes hp hq (one_piece (codes "reserved ") (shown p.bytes) (shown q.bytes) e);
  unmovable = λ p q hp hq e. path_apart p.bytes q.bytes hp hq (one_piece (codes "unmovable ") (shown p.bytes) (shown q.bytes) e);
  account = λ x y a b ha hb e. let parts = two_pieces_last 32 (codes "bad account line ") (book_text x) [] (decimal a) (book_text y) (decimal b) (number_lacks 32 a blank ha) (number_lacks 32 b blank hb) e in (book_apart x y parts.0, decimal_injective a b ha hb parts.1);
  taken = λ a b ha hb e. decimal_injective a b ha hb (one_piece (codes "id taken ") (decimal a) (decimal b) e);
  owner = λ p q a b hp hq e. let parts = two_pieces_last 32 (codes "unknown owner ") a (codes " of") (shown p.bytes) b (shown q.bytes) (path_whole p.bytes hp) (path_whole q.bytes hq) e in (path_apart p.bytes q.bytes hp hq parts.1, parts.0);
  payload = λ m n hm hn e. spelled_once m n hm hn (one_piece (codes "payload missing ") (spelling m) (spelling n) e);
  digest = λ m n f g hm hn hf hg e. let parts = two_pieces_last 32 (codes "payload damaged ") (spelling m) (codes " found") (spelling f) (spelling n) (spelling g) (name_lacks f hf) (name_lacks g hg) e in (spelled_once m n hm hn parts.0, spelled_once f g hf hg parts.1);
  compressed = λ m n f g hm hn hf hg e. let parts = two_pieces_last 32 (codes "compressed ") (spelling m) (codes " found") (spelling f) (spelling n) (spelling g) (name_lacks f hf) (name_lacks g hg) e in (spelled_once m n hm hn parts.0, spelled_once f g hf hg parts.1);
  count = λ v w a b ha hb e. decimal_injective a b ha hb (one_piece (codes "too large: ") (decimal a) (decimal b) e);
  actuator = λ x y ws vs a b hw hv ha hb e. actuators_apart x y ws vs a b hw hv ha hb e;
  spawn = λ x y e. when_apart x y (one_piece (codes "spawn fault ") (when_text x) (when_text y) e);
  folder = λ a b e. folder_apart a b e;
}
