use Rattle.ips_image_steps.proofs.plan_steps.Seen.{apart_plan, listed_plan, means_plan, possible_plan, seen_plan, sound_plan, stepped_plan}
use Rattle.ips_image_steps.proofs.plan_steps.laws.plans_change_the_visible_image.Goals as goal

pub returns : goal.returns
returns c = record {
  seen = λ moment r h steps contents plan good formed may own. seen_plan moment r h steps contents plan good formed own may;
  sound = λ moment r h steps contents plan good formed own. sound_plan moment r h steps contents plan good formed own;
  apart = λ moment r h steps contents plan good formed own. apart_plan moment r h steps contents plan good formed own;
  listed = λ moment r h steps contents plan good formed may has own few. listed_plan moment r h steps contents plan good formed own may has few;
  possible = λ moment r h steps contents plan stage good formed own has. possible_plan moment r h steps contents plan good formed own stage has;
  means = λ moment r h steps contents plan stage good formed may own has. means_plan moment r h steps contents plan good formed own may stage has;
  stepped = λ moment r h steps contents plan q good formed own. stepped_plan moment r h steps contents plan good formed own q;
}
