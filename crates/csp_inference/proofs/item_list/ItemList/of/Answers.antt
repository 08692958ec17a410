use Rattle.std.proofs.Common.{map, subst}
use Rattle.std.proofs.lemmas.List.{take_all}
use Rattle.csp_parse.specs.Declarations.{declaration_of}
use Rattle.csp_inference.specs.Items.{AreItemsOf}
use Rattle.csp_inference.proofs.Listing.{items_step}
use Rattle.csp_inference.proofs.item_list.ItemList.of.Goals as goal

pub loop-declaration-preserved : goal.loop-declaration-preserved
loop-declaration-preserved g c = items_step c.args.declarations.now c.loop-declaration.declaration-index c.declaration-item.result c.loop-declaration.list c.add.new.self c.loop-declaration-test.true c.declaration-item.is c.loop-declaration.invariant c.in_ok-add.ensures

pub returns : goal.returns
returns g c = subst (λ ds. AreItemsOf (map declaration_of ds) c.loop-declaration.list) (take_all c.loop-declaration.declaration-index c.args.declarations.now c.loop-declaration-test.false) c.loop-declaration.invariant
