use Rattle.std.proofs.Common.{refl}
use Rattle.ips_top.proofs.Takers.{all_taken}
use Rattle.ips_top_tests.proofs.More.{one_more}
use Rattle.ips_top_tests.proofs.kinds.finished_by.Goals as goal

pub run-status-requires-clause-takers : goal.run-status-requires-clause-takers
run-status-requires-clause-takers g c = one_more _ _ _ _ _ c.in_ok-push-7.ensures.items (all_taken _ _ c.into_dyn_box.result c.into_dyn_box-in_ok-new-2.result c.into_dyn_box-in_ok-new-3.result c.into_dyn_box-in_ok-new-4.result c.into_dyn_box-in_ok-new-5.result c.into_dyn_box-in_ok-new-6.result _ _ _ _ _ _ _ _ _ _ _ _ _
    c.new-kinds.ensures.items c.in_ok-push.ensures.items c.in_ok-push-2.ensures.items c.in_ok-push-3.ensures.items c.in_ok-push-4.ensures.items c.in_ok-push-5.ensures.items c.in_ok-push-6.ensures.items
    c.into_dyn_box.ensures.0 c.into_dyn_box-in_ok-new-2.ensures.0 c.into_dyn_box-in_ok-new-3.ensures.0 c.into_dyn_box-in_ok-new-4.ensures.0 c.into_dyn_box-in_ok-new-5.ensures.0 c.into_dyn_box-in_ok-new-6.ensures.0
    (λ w. refl) (λ w. refl) (λ w. refl) (λ w. refl) (λ w. refl) (λ w. refl))
