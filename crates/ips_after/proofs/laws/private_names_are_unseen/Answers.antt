use Rattle.ips_after.proofs.Unseen.{aside_seen, asides_seen, contents_seen, emptied_seen, nameable_seen, own_seen, root_as_seen, steps_seen, unmovable_seen}
use Rattle.ips_after.proofs.laws.private_names_are_unseen.Goals as goal

pub returns : goal.returns
returns c = record {
  emptied = λ r h emptied good formed may none_old none_new is. emptied_seen r h good formed may none_old none_new emptied is;
  nameable = λ r h formed may. nameable_seen r h may;
  root = λ h moment root is. root_as_seen h moment root is;
  aside = λ moment r h a good formed may own root is. (own_seen r h good formed may own.none_old own.none_new moment a own root is, aside_seen r h good formed may own.none_old own.none_new moment a own root is);
  asides = λ moment r h a asides good formed may own root is list. asides_seen r h good formed may own.none_old own.none_new moment a own root is asides list;
  steps = λ moment r h a asides good formed may own root is. (steps_seen r h good formed may own.none_old own.none_new moment a own root is asides, contents_seen r h good formed may own.none_old own.none_new moment a own root is asides);
  unmovable = λ moment r h a p good formed may own root is. unmovable_seen r h good formed may own.none_old own.none_new moment a own root is p;
}
