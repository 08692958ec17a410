use Rattle.std.proofs.Common.{◌∙◌, refl}
use Rattle.printed_names.proofs.Declared.{all_named, none_declared, one_more_bound, one_more_declared}
use Rattle.printed_names.proofs.Turns.{cut_at}
use Rattle.printed_names.proofs.naming.names_of.Goals as goal

pub loop-declaration-init : goal.loop-declaration-init
loop-declaration-init g c = record {
  declared = none_declared _ c.new.ensures.items c.new-2.ensures.items c.new-3.ensures.items c.new-4.ensures.items c.new-5.ensures.items;
  types = refl;
  bound = c.new-bound.ensures;
}

pub loop-declaration-preserved : goal.loop-declaration-preserved
loop-declaration-preserved g c =
    let items = c.deref-declaration-items.result.now in
    let i = c.loop-declaration.declaration-index in
    let d = c.declaration-item.result in
    let cut = cut_at items i d c.loop-declaration-test.true c.declaration-item.is in
    record {
      declared = one_more_declared items i c.loop-declaration.names c.push_declared.new.names d cut c.loop-declaration.invariant.declared c.in_ok-push_declared.ensures.declared;
      types = c.in_ok-push_declared.ensures.types ∙ c.loop-declaration.invariant.types;
      bound = one_more_bound items i c.loop-declaration.bound c.add_declaration.new.self d cut c.loop-declaration.invariant.bound c.in_ok-add_declaration.ensures;
    }

pub returns : goal.returns
returns g c =
    let items = c.deref-declaration-items.result.now in
    let so_far = c.loop-declaration.invariant in
    all_named items c.loop-declaration.declaration-index c.loop-declaration.names c.loop-declaration.bound c.in_ok-names.field-0 c.args.raw.now.declarations.items
    c.loop-declaration-test.false c.deref-declaration-items.ensures.value so_far.types so_far.declared so_far.bound c.in_ok-names.ensures
