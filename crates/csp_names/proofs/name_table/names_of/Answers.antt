use Rattle.std.proofs.Common.{IfErr, List, map, refl, subst}
use Rattle.csp_parse.specs.declared.declarations.Declaration.{Declaration}
use Rattle.csp_parse.specs.Declarations.{declaration_of, script_of}
use Rattle.csp_names.specs.FirstPass.{AreNamesOf, IsFirstPassRefusal}
use Rattle.csp_names.proofs.DeclarationsAdded.{all_declarations, no_declarations, one_more_declared, one_refused}
use Rattle.csp_names.proofs.Walking.{handed_on}
use Rattle.csp_names.proofs.name_table.names_of.Goals as goal

pub loop-declaration-init : goal.loop-declaration-init
loop-declaration-init g c = no_declarations _ c.new.ensures.empty c.new-2.ensures.items c.new-3.ensures.items c.new-4.ensures.items refl refl

pub returns-in_err-add_declaration-clause-refusal : goal.returns-in_err-add_declaration-clause-refusal
returns-in_err-add_declaration-clause-refusal g c =
    let P : List (Declaration g.row.A.Denot) → Type 0 = λ ds. IsFirstPassRefusal (map declaration_of ds) c.in_err-add_declaration.field-0.0 in
    handed_on (λ r. IfErr r (λ refused. IsFirstPassRefusal (script_of c.args.raw.now) refused)) c.from_residual.result c.in_err-add_declaration.field-0.0 c.from_residual.ensures
    (subst P c.deref-declaration-items.ensures.value
    (one_refused c.deref-declaration-items.result.now c.loop-declaration.declaration-index c.declaration-item.result c.in_err-add_declaration.field-0.0 c.loop-declaration-test.true c.declaration-item.is
    (c.in_err-add_declaration.ensures _ c.loop-declaration.invariant)))

pub loop-declaration-preserved : goal.loop-declaration-preserved
loop-declaration-preserved g c =
    one_more_declared c.deref-declaration-items.result.now c.loop-declaration.declaration-index c.add_declaration.new.self c.declaration-item.result c.loop-declaration-test.true c.declaration-item.is (c.in_ok-add_declaration.ensures _ c.loop-declaration.invariant)

pub returns-clause-names : goal.returns-clause-names
returns-clause-names g c =
    let P : List (Declaration g.row.A.Denot) → Type 0 = λ ds. AreNamesOf c.loop-declaration.table.names (map declaration_of ds) in
    subst P c.deref-declaration-items.ensures.value (all_declarations c.deref-declaration-items.result.now c.loop-declaration.declaration-index c.loop-declaration.table c.loop-declaration-test.false c.loop-declaration.invariant)
