use Rattle.std.specs.Prelude.{is_some}
use Rattle.std.proofs.Common.{◌≡◌, ◌∙◌, ◌∷◌, [], true, false, rules, sym}
use Rattle.theory_checking.specs.Names.{Environment}
use Rattle.theory_checking.specs.Sites.{Parameter}
use Rattle.theory_checking.specs.Walks.{IsFine, IsStoppedAt}
use Rattle.csp_parse.specs.Names.{name_of}
use Rattle.csp_names.specs.declared.refusals.KindFault.TheVariants as fault
use Rattle.csp_names.specs.Refusals.{fault_of}
use Rattle.csp_names.specs.Scopes.{StandsFor}
use Rattle.csp_names.proofs.ChannelNames.{stops_at}
use Rattle.csp_names.proofs.Parameters.{bound_parameter, new_parameter_fine, parameter_before_stops, parameter_declared_stops}
use Rattle.csp_names.proofs.scope.Scope.bind_parameter.Goals as goal
use Rattle.csp_names.proofs.scope.Scope.bind_parameter.Goals.{else-is_bound, then-is_bound}

pub returns-then-is_some : goal.returns-then-is_some
returns-then-is_some g c env serves =
    let n = name_of c.args.name in
    let stands = serves.stands in
    let stopped : IsStoppedAt (Parameter env n ∷ []) (fault_of fault.DeclaredTwice) n.place = elim c.if-is_bound.branch [
      | then-is_bound w ↦ parameter_before_stops c.args.self.now c.args.bound.now env stands n (sym w.if-is_bound.true ∙ c.is_bound.ensures stands.in_order)
      | else-is_bound w ↦ let there : is_some w.find.result ≡ true = search rules in parameter_declared_stops c.args.self.now c.args.bound.now env stands n w.find.result (w.find.ensures stands.texts) there
    ] in
    stops_at (Parameter env n ∷ []) c.at.result fault.DeclaredTwice c.args.name.place c.at.ensures stopped

pub returns-else-is_some : goal.returns-else-is_some
returns-else-is_some g c =
    let n = name_of c.args.name in
    let fine : (env : Environment) → StandsFor c.args.self.now c.args.bound.now env → IsFine (Parameter env n) = λ env stands. elim c.if-is_bound.branch [
      | then-is_bound w ↦ absurd (search rules)
      | else-is_bound w ↦ let none : is_some w.find.result ≡ false = search rules in new_parameter_fine c.args.self.now c.args.bound.now env stands n w.find.result (w.find.ensures stands.texts) none (sym w.if-is_bound.false ∙ c.is_bound.ensures stands.in_order)
    ] in
    bound_parameter c.args.self.now c.args.bound.now c.bind.new.self n c.bind.result fine c.bind.ensures.number c.bind.ensures.binds c.bind.ensures.stops
