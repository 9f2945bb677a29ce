use Rattle.std.proofs.Common.{◌≡◌, ℕ, string_bytes, sym, ap, ◌∙◌, subst}
use Rattle.ips_fmri.specs.Version.{IsStamp, stamp_text}
use Rattle.ips_moment.proofs.moment.moment_text.Goals as goal

pub returns : goal.returns
returns c = record {
  clock = c.clock_at.result;
  shown = c.clock_at.ensures;
  written = rw (c.from_string.ensures, c.in_ok-push_stamp.ensures, c.new-out.ensures.bytes) (ap stamp_text c.stamp_of-stamp.ensures.number);
  stamp = subst IsStamp c.stamp_of-stamp.ensures.number c.stamp_of-stamp.ensures.stamp;
}
