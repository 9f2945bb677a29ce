-- Files that are read under a limit, as `ips_files` has them.
pub use Rattle.ips_files.specs.Files.{file_at, HasSize, IsRefusal, IsOver}
