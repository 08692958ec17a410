use Rattle.std.proofs.Common.{map, take}
use Rattle.csp_parse.specs.Declarations.{declaration_of}
use Rattle.csp_inference.specs.Items.{AreItemsOf}
use Rattle.csp_inference.proofs.item_list.ItemList.of.Given as goal

abbrev pub invariant-loop-declaration : goal.invariant-loop-declaration
invariant-loop-declaration g l = AreItemsOf (map declaration_of (take l.declaration-index l.declarations)) l.list
