-- The kind with an open end that one of the code stands for.
use Rattle.std.specs.Prelude.{List, [], ◌∷◌}
use Rattle.theory_checking.specs.Inference.Chain as pure
use Rattle.csp_inference.specs.declared.chain.End.{End}
use Rattle.csp_inference.specs.declared.chain.End.TheVariants as ending
use Rattle.csp_inference.specs.declared.chain.KindNumber.{KindNumber}
use Rattle.csp_inference.specs.declared.chain.Layer.{Layer}
use Rattle.csp_inference.specs.declared.chain.Layer.TheVariants as layer
use Rattle.csp_inference.specs.declared.chain.Demand.{Demand}
use Rattle.csp_inference.specs.declared.chain.Demand.TheVariants as demand
use Rattle.csp_inference.specs.declared.chain.Chain.{Chain}

abbrev pub end_of : End → pure.Chain
end_of ending.Int = pure.IntEnd
end_of ending.Bool = pure.BoolEnd
end_of (ending.Datatype d) = pure.DatatypeEnd d.0
end_of (ending.Open n) = pure.OpenEnd n.0

abbrev pub demand_of : Demand → pure.Chain
demand_of (demand.Plain e) = end_of e
demand_of (demand.SequenceOf e) = pure.SequenceOver (end_of e)
demand_of (demand.SetOf e) = pure.SetOver (end_of e)

abbrev pub over : Layer → pure.Chain → pure.Chain
over layer.Sequence c = pure.SequenceOver c
over layer.Set c = pure.SetOver c

-- the layers, the outer ones first, over a chain
abbrev pub over_all : List Layer → pure.Chain → pure.Chain
over_all [] c = c
over_all (l ∷ ls) c = over l (over_all ls c)

-- the chain of these layers and this end
abbrev pub chain_over : List Layer → End → pure.Chain
chain_over layers end = over_all layers (end_of end)

abbrev pub chain_of : {A : Type 0} → Chain A → pure.Chain
chain_of c = chain_over c.layers.items c.end

-- the chain with the layers and the end in the place of its own end, if that is the number
abbrev pub going_on_at : KindNumber → List Layer → End → pure.Chain → pure.Chain
going_on_at number layers end = pure.with_ends (pure.in_place_of number.0 (chain_over layers end))
