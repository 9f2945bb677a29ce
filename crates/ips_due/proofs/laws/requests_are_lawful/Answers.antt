use Rattle.ips_due.proofs.Asking.{is_asked, is_nameable, is_proper, leaves}
use Rattle.ips_due.proofs.laws.requests_are_lawful.Goals as goal

pub returns : goal.returns
returns c = record {
  request = λ so sn mo mn po pn old new was is bytes holds due t o fit of accounts legacy.
      is_asked so sn mo mn po pn old new was is bytes holds due t o fit of accounts (leaves so sn mo mn po pn old new was is bytes holds due t o fit of legacy);
  names = λ so sn mo mn po pn old new was is bytes holds due t o fit of stands. is_nameable so sn mo mn po pn old new was is bytes holds due t o fit of stands;
  proper = λ so sn mo mn po pn old new was is bytes holds due t o fit proper of. is_proper so sn mo mn po pn old new was is bytes holds due t o fit of proper;
}
