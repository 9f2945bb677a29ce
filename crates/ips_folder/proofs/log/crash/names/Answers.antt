use Rattle.std.proofs.Common.{◌≡◌, ◌||◌, true, false, Bool, ℕ, List, Vec, Global, take, refl, sym, ap, ◌∙◌}
use Rattle.std.specs.List.{list_any}
use Rattle.ips_text.specs.Ancestry.{same_path}
use Rattle.ips_outside.specs.Tearing.{in_set}
use Rattle.ips_outside.specs.Image.{nothing}
use Rattle.ips_folder.specs.declared.call.Call.{Call}
use Rattle.ips_folder.specs.History.{name_of}
use Rattle.ips_folder.specs.Crash.{name_it, names_it}
use Rattle.ips_folder.proofs.Crashes.{names_next, all_taken, turned, of_either}
use Rattle.ips_folder.proofs.log.crash.names.Goals as goal

pub loop-call-init : goal.loop-call-init
loop-call-init c =
    let none = c.new-names.ensures.empty in
    record {
      names = λ q. ap (λ (keys : List (Vec ℕ Global)). list_any (λ k. same_path k.items q) keys) none;
      paths = λ q in_it. let no : in_set c.new-names.result q ≡ false = ap (λ (keys : List (Vec ℕ Global)). list_any (λ k. same_path k.items q) keys) none in absurd (cc);
    }

pub loop-call-preserved : goal.loop-call-preserved
loop-call-preserved c =
    let calls = c.args.calls.now in
    let i = c.loop-call.call-index in
    let call = c.call-item.result in
    let more = c.in_ok-add_name.ensures.names in
    record {
      names = λ q. more q ∙ ap (λ (b : Bool). name_it (name_of call) q || b) (c.loop-call.invariant.names q) ∙ turned (name_it (name_of call) q) (names_it (take i calls) q)
          ∙ sym (names_next calls nothing i call c.loop-call-test.true c.call-item.is q);
      paths = λ q in_it. of_either _ _ _ (sym (more q) ∙ in_it) (c.in_ok-add_name.ensures.path q) (c.loop-call.invariant.paths q);
    }

pub returns : goal.returns
returns c = record { names = λ q. c.loop-call.invariant.names q ∙ ap (λ (l : List Call). names_it l q) (all_taken c.args.calls.now c.loop-call.call-index c.loop-call-test.false); paths = c.loop-call.invariant.paths }
