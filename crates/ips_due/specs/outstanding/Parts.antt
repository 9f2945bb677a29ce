-- What is due, in the form in which it is lent.
use Rattle.std.specs.Prelude.{ℕ, List, map}
use Rattle.ips_digest.specs.Name.{spelling}
use Rattle.ips_due.specs.Due.{Content, Due, DueFile, OfPayload, Own}
use Rattle.ips_due.specs.declared.outstanding.due.AccountFile.{AccountFile}
use Rattle.ips_due.specs.declared.outstanding.due.Content.{Content as Told}
use Rattle.ips_due.specs.declared.outstanding.due.Content.TheVariants as told
use Rattle.ips_due.specs.declared.outstanding.due.DueParts.{DueParts}
use Rattle.ips_due.specs.declared.outstanding.due.DueRecord.{DueRecord}

-- An account file that is due.
abbrev pub due_file : AccountFile → DueFile
due_file f = record { path = f.path.bytes; mode = f.mode; bytes = f.bytes.items }

-- The content of a record, as it is told.
abbrev pub content_told : Told → Content
content_told (told.Own bytes) = Own bytes.items
content_told (told.Payload name) = OfPayload (spelling name)

-- A record that is due.
abbrev pub due_record : DueRecord → List ℕ × Content
due_record r = (r.path.bytes, content_told r.content)

-- What is due by these parts, of whose records this is told.
abbrev pub due_of : {R : Type 0} → (R → List (List ℕ × Content)) → DueParts R → Due
due_of records parts = record {
  accounts = map due_file parts.accounts.now;
  records = records parts.records.now;
  renewed = map (λ p. p.bytes) parts.renewed.now;
  folders = map (λ p. p.bytes) parts.folders.now;
  gone = map (λ p. p.bytes) parts.gone.now;
}
