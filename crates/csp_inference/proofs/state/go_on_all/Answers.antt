use Rattle.std.proofs.Common.{arith, sym, ◌∙◌, ap}
use Rattle.std.specs.Prelude.{option_map}
use Rattle.theory_checking.specs.Inference.Chain.{in_place_of, with_ends}
use Rattle.csp_inference.specs.Chain.{chain_of, end_of, over_all}
use Rattle.csp_inference.proofs.Finding.{slot_more}
use Rattle.csp_inference.proofs.state.go_on_all.Goals as goal

pub loop-slot-preserved : goal.loop-slot-preserved
loop-slot-preserved g c =
    slot_more (option_map (with_ends (in_place_of c.args.number.0 (over_all c.args.layers.now (end_of c.args.end))))) c.args.slots.now c.loop-slot.slots
    c.loop-slot.slot-index c.slot-item.result c.go_on_at.new.slot
    (omega arith) (omega arith) c.loop-slot.invariant c.slot-item.is
    (c.in_ok-go_on_at.ensures ∙ ap (λ x. option_map (with_ends (in_place_of c.args.number.0 (over_all c.args.layers.now (end_of c.args.end)))) (option_map chain_of x)) (sym c.slot-item.is))
