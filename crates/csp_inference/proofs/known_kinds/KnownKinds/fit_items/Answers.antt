use Rattle.csp_parse.specs.Declarations as tree
use Rattle.csp_term.specs.Script.{script_of_parts}
use Rattle.csp_inference.specs.Items.{FitsItems}
use Rattle.csp_inference.proofs.Fitting.{fits_at_first, fits_next, fits_to_end, stops_there}
use Rattle.csp_inference.proofs.Listing.{all_items}
use Rattle.csp_inference.proofs.SolvedInTurn.{handed_on}
use Rattle.csp_inference.proofs.known_kinds.KnownKinds.fit_items.Goals as goal

pub loop-item-init : goal.loop-item-init
loop-item-init g c = fits_at_first (tree.script_of c.args.raw.now) (script_of_parts c.args.script.now) c.args.self.now c.requires.known c.requires.script

pub fit_item-requires : goal.fit_item-requires
fit_item-requires g c = c.loop-item.invariant.solved.resolved

pub returns-in_err-fit_item : goal.returns-in_err-fit_item
returns-in_err-fit_item g c =
    let raw = tree.script_of c.args.raw.now in
    let script = script_of_parts c.args.script.now in
    let xs = c.deref-item-items.result.now in
    let all = all_items c.deref.result.now c.args.raw.now.declarations.items c.in_ok-list.list xs c.deref.ensures.value c.in_ok-list.ensures c.deref-item-items.ensures.value in
    let e = c.in_err-fit_item.field-0.0 in
    handed_on (FitsItems raw script) c.from_residual-in_err-fit_item.result e c.from_residual-in_err-fit_item.ensures (stops_there raw script c.args.self.now c.loop-item.self xs c.loop-item.item-index c.loop-item.invariant all _ c.fit_item.new.self e c.loop-item-test.true c.in_err-fit_item.ensures)

pub loop-item-preserved : goal.loop-item-preserved
loop-item-preserved g c =
    fits_next (tree.script_of c.args.raw.now) (script_of_parts c.args.script.now) c.args.self.now c.loop-item.self c.deref-item-items.result.now c.loop-item.item-index c.loop-item.invariant _ c.fit_item.new.self c.loop-item-test.true c.in_ok-fit_item.ensures

pub returns : goal.returns
returns g c =
    let xs = c.deref-item-items.result.now in
    let all = all_items c.deref.result.now c.args.raw.now.declarations.items c.in_ok-list.list xs c.deref.ensures.value c.in_ok-list.ensures c.deref-item-items.ensures.value in
    fits_to_end (tree.script_of c.args.raw.now) (script_of_parts c.args.script.now) c.args.self.now c.loop-item.self xs c.loop-item.item-index c.loop-item.invariant all c.loop-item-test.false
