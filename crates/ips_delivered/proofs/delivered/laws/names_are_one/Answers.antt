use Rattle.std.proofs.Common.{◌∙◌, ap, sym}
use Rattle.ips_due.specs.Delivered.{Delivered}
use Rattle.ips_delivered.specs.delivered.Delivering.{legacies_of, licenses_of}
use Rattle.ips_delivered.proofs.delivered.OneList.{one_admitted}
use Rattle.ips_delivered.proofs.delivered.laws.names_are_one.Goals as goal

pub returns : goal.returns
returns c = record {
  delivered = λ books settings packages d h. record { admitted = h.admitted; are_admitted = h.are_admitted; licenses_are = ap (λ (x : Delivered). x.licenses) h.is; legacy_are = ap (λ (x : Delivered). x.legacy) h.is };
  licenses = λ settings packages a b g h x y. x.licenses_are ∙ ap licenses_of (one_admitted settings packages x.admitted y.admitted x.are_admitted y.are_admitted) ∙ sym y.licenses_are;
  legacy = λ settings packages a b g h x y. x.legacy_are ∙ ap legacies_of (one_admitted settings packages x.admitted y.admitted x.are_admitted y.are_admitted) ∙ sym y.legacy_are;
}
