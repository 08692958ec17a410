use Rattle.std.proofs.Common.{◌∙◌, ap}
use Rattle.std.specs.Prelude.{option_map, None, ◌∷◌, []}
use Rattle.std.proofs.lemmas.List.{map-append}
use Rattle.theory_checking.specs.Inference.State.{state_of}
use Rattle.theory_checking.proofs.Unifying.{longer_list}
use Rattle.csp_inference.specs.Chain.{chain_of}
use Rattle.csp_inference.specs.State.{chains_in, chains_of}
use Rattle.csp_inference.proofs.state.State.make_room.Goals as goal

pub loop-number-preserved : goal.loop-number-preserved
loop-number-preserved g c = λ n.
    ap (λ items. state_of (chains_in items) n) c.in_ok-push.ensures.items
    ∙ ap (λ cs. state_of cs n) (map-append (option_map chain_of) c.loop-number.self.chains.items (None ∷ [])) ∙ longer_list (chains_of c.loop-number.self) n
    ∙ c.loop-number.invariant n
