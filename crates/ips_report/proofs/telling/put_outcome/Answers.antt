use Rattle.ips_report.proofs.telling.put_outcome.Goals as goal

pub returns-in-Usage : goal.returns-in-Usage
returns-in-Usage c = rw c.in-Usage.is c.put_usage.ensures

pub returns-in-Unfinished : goal.returns-in-Unfinished
returns-in-Unfinished c = rw c.in-Unfinished.is c.put.ensures.text

pub returns-in-ImageExists : goal.returns-in-ImageExists
returns-in-ImageExists c = rw c.in-ImageExists.is c.put-in-ImageExists.ensures.text

pub returns-in-OldFormat : goal.returns-in-OldFormat
returns-in-OldFormat c = rw c.in-OldFormat.is c.put-in-OldFormat.ensures.text

pub returns-in-BadCatalog : goal.returns-in-BadCatalog
returns-in-BadCatalog c = rw c.in-BadCatalog.is c.put-in-BadCatalog.ensures.text

pub returns-in-BadManifest : goal.returns-in-BadManifest
returns-in-BadManifest c = rw c.in-BadManifest.is c.put_manifest_line.ensures

pub returns-in-BadAccountLine : goal.returns-in-BadAccountLine
returns-in-BadAccountLine c = rw c.in-BadAccountLine.is c.put_account.ensures

pub returns-in-PayloadMissing : goal.returns-in-PayloadMissing
returns-in-PayloadMissing c = rw c.in-PayloadMissing.is c.put_named.ensures

pub returns-in-PayloadDamaged : goal.returns-in-PayloadDamaged
returns-in-PayloadDamaged c = rw c.in-PayloadDamaged.is c.put_found.ensures

pub returns-in-Compressed : goal.returns-in-Compressed
returns-in-Compressed c = rw c.in-Compressed.is c.put_found-in-Compressed.ensures

pub returns-in-SourceFault : goal.returns-in-SourceFault
returns-in-SourceFault c = rw c.in-SourceFault.is c.put-in-SourceFault.ensures.text
