use Rattle.std.proofs.Common.{◌≡◌, ℕ, List, ◌∷◌, ◌++◌, refl, sym, ap, ◌∙◌}
use Rattle.ips_moment.specs.Moment.{stamp_number}
use Rattle.ips_send_words.proofs.Stamps.{stamp_behind}
use Rattle.ips_send_words.proofs.stamping.stamped_text.Goals as goal

pub returns : goal.returns
returns c =
    let m = c.in_ok-stamp.ensures in
    let n = stamp_number m.clock in (
      n,
      (m.clock, m.shown, refl),
      m.stamp,
      rw (c.from_string.ensures, c.in_ok-push_str-3.ensures.bytes, c.in_ok-push_str-2.ensures.bytes, c.in_ok-push_str.ensures.bytes, c.new-out.ensures.bytes, c.as_str.ensures, c.as_str-2.ensures, c.in_ok-version.ensures, m.written)
          (stamp_behind c.args.given.now n c.requires.unstamped),
    )
