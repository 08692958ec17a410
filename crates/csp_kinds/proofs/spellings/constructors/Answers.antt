-- One constructor for each name.
use Rattle.std.specs.String.{string_bytes}
use Rattle.csp_kinds.proofs.Spelling.{all_encoded, one_more_encoded}
use Rattle.csp_kinds.proofs.spellings.constructors.Goals as goal

pub loop-name-preserved : goal.loop-name-preserved
loop-name-preserved g c =
    one_more_encoded (λ k. string_bytes k.spelling) c.args.names.now c.loop-name.name-index _ c.loop-name.constructors.items c.push.new.self.items (record { spelling = c.in_ok-spelling.spelling }) c.loop-name-test.true c.loop-name.invariant
    c.in_ok-push.ensures.items c.in_ok-spelling.ensures

pub returns : goal.returns
returns g c = all_encoded (λ k. string_bytes k.spelling) c.args.names.now c.loop-name.name-index c.loop-name.constructors.items c.loop-name-test.false c.loop-name.invariant
