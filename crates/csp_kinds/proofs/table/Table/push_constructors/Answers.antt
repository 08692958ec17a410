-- No constructor, one more, and all.
use Rattle.std.specs.Prelude.{map}
use Rattle.std.proofs.Common.{◌∙◌, subst}
use Rattle.std.proofs.lemmas.Iterator.Adapters.{YieldsList-from_vec}
use Rattle.std.proofs.lemmas.Iterator.Consumers.{YieldsList-end}
use Rattle.csp_names.specs.Scopes.{known_sets}
use Rattle.csp_kinds.specs.Looking.{AddsConstructors}
use Rattle.csp_kinds.proofs.Tables.{no_constructors, one_constructor, yielded_all}
use Rattle.csp_kinds.proofs.table.Table.push_constructors.Goals as goal

pub loop-constructor-init : goal.loop-constructor-init
loop-constructor-init g c = no_constructors c.args.self.now

pub loop-constructor-preserved : goal.loop-constructor-preserved
loop-constructor-preserved g c =
    one_constructor c.args.self.now c.loop-constructor.self c.push_constructor.new.self c.loop-constructor.yielded c.in-Some.constructor c.loop-constructor.invariant c.in_ok-push_constructor.ensures

pub returns : goal.returns
returns g c =
    let items = c.args.constructors.items in
    let given = c.into_iter-constructor-iterator.ensures.into_iter_gives in
    let yielded = c.loop-constructor.yielded in
    let t = YieldsList-end (YieldsList-from_vec {s = c.into_iter-constructor-iterator.result} items given.0 (given.1 ∙ c.args.constructors.ok.0)) yielded
    c.loop-constructor.constructor-iterator c.loop-constructor.yielded_by c.next.result
    c.next.new.self c.in-None.is c.next.ensures.steps in
    subst (λ xs. AddsConstructors c.args.self.now (map known_sets xs) c.loop-constructor.self) (yielded_all yielded items t.0) c.loop-constructor.invariant
