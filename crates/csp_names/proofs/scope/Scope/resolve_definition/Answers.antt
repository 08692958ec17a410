use Rattle.std.proofs.Common.{map}
use Rattle.csp_parse.specs.Names.{name_of}
use Rattle.csp_parse.specs.Processes.{process_of}
use Rattle.csp_names.specs.Walks.{ResolvesDefinition}
use Rattle.csp_names.proofs.DefinitionForms.{definition_body_stops, definition_has_no_room, definition_parameters_stop, definition_resolved}
use Rattle.csp_names.proofs.Walking.{handed_on}
use Rattle.csp_names.proofs.scope.Scope.resolve_definition.Goals as goal

pub returns-in_err-names : goal.returns-in_err-names
returns-in_err-names g c =
    let ns = map name_of c.args.parameters.now in
    let p = process_of c.args.body.now in
    let mid = c.resolve_parameters.new.bound in
    let f = c.in_err-names.field-0.0 in
    handed_on (ResolvesDefinition c.args.self.now c.args.bound.now mid ns p) c.from_residual.result f c.from_residual.ensures
    (definition_parameters_stop c.args.self.now c.args.bound.now ns p mid mid f c.in_err-names.ensures)

pub returns-in_err-body : goal.returns-in_err-body
returns-in_err-body g c =
    let ns = map name_of c.args.parameters.now in
    let p = process_of c.args.body.now in
    let mid = c.resolve_parameters.new.bound in
    let last = c.resolve_process.new.bound in
    let f = c.in_err-body.field-0.0 in
    handed_on (ResolvesDefinition c.args.self.now c.args.bound.now last ns p) c.from_residual-in_err-body.result f c.from_residual-in_err-body.ensures
    (definition_body_stops c.args.self.now c.args.bound.now ns p mid last last c.in_ok-names.names c.in_ok-names.ensures f c.in_err-body.ensures)

pub returns-in_err-release_parameters : goal.returns-in_err-release_parameters
returns-in_err-release_parameters g c =
    let ns = map name_of c.args.parameters.now in
    let p = process_of c.args.body.now in
    let new = c.release_parameters.new.bound in
    let f = c.in_err-release_parameters.field-0.0 in
    handed_on (ResolvesDefinition c.args.self.now c.args.bound.now new ns p) c.from_residual-in_err-release_parameters.result f c.from_residual-in_err-release_parameters.ensures
    (definition_has_no_room c.args.self.now c.args.bound.now ns p new f c.in_err-release_parameters.ensures.stops)

pub returns : goal.returns
returns g c =
    let ns = map name_of c.args.parameters.now in
    let p = process_of c.args.body.now in
    definition_resolved c.args.self.now c.args.bound.now ns p c.resolve_parameters.new.bound c.resolve_process.new.bound c.release_parameters.new.bound c.in_ok-names.names c.in_ok-names.ensures
    c.in_ok-body.body c.in_ok-body.ensures c.in_ok-release_parameters.ensures.releases
