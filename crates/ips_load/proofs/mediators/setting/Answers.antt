use Rattle.ips_load.proofs.Settings.{cut_name, cut_version, no_version, setting_sole}
use Rattle.ips_load.proofs.mediators.setting.Goals as goal

pub returns-in_default-cut-clause-none : goal.returns-in_default-cut-clause-none
returns-in_default-cut-clause-none c = λ m h e.
    no_version m c.in-Some.behind.now c.in_default-cut.ensures.none (cut_name m c.args.bytes.now c.in-Some.first.now c.in-Some.behind.now h c.in-Some.ensures.some e).1

pub returns-in_default-2-clause-none : goal.returns-in_default-2-clause-none
returns-in_default-2-clause-none c = λ m h e.
    (rw c.in_default-2.is at c.in_ok-name.ensures.none) m.name h.name (cut_name m c.args.bytes.now c.in-Some.first.now c.in-Some.behind.now h c.in-Some.ensures.some e).0

pub returns-in_default-3-clause-none : goal.returns-in_default-3-clause-none
returns-in_default-3-clause-none c = λ m h e.
    let name = cut_name m c.args.bytes.now c.in-Some.first.now c.in-Some.behind.now h c.in-Some.ensures.some e in
    let version = cut_version m c.in-Some.behind.now c.in-Some-cut.second.now c.in-Some-cut.third.now h c.in-Some-cut.ensures.some name.1 in
    (rw c.in_default-3.is at c.in_ok-version.ensures.none) m.version h.version version.0

pub returns-in_default-4-clause-none : goal.returns-in_default-4-clause-none
returns-in_default-4-clause-none c = λ m h e.
    let name = cut_name m c.args.bytes.now c.in-Some.first.now c.in-Some.behind.now h c.in-Some.ensures.some e in
    let version = cut_version m c.in-Some.behind.now c.in-Some-cut.second.now c.in-Some-cut.third.now h c.in-Some-cut.ensures.some name.1 in
    (rw c.in_default-4.is at c.in_ok-implementation.ensures.none) m.implementation h.implementation version.1

pub returns-clause-sole : goal.returns-clause-sole
returns-clause-sole c =
    setting_sole _ (rw c.in-Some-2.is at c.in_ok-name.ensures.sole) (rw c.in-Some-3.is at c.in_ok-version.ensures.sole) (rw c.in-Some-4.is at c.in_ok-implementation.ensures.sole)
