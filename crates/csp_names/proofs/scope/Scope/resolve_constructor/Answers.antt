-- A constructor by its name, where as many fields are given as it has.
use Rattle.std.proofs.Common.{◌∷◌, [], ◌∙◌, ◌≡◌, Some, ap, sym}
use Rattle.theory_checking.specs.Names.{ConstructorName, Declared, meaning}
use Rattle.theory_checking.specs.Sites.{AsConstructor, Used}
use Rattle.theory_checking.proofs.SingleSites.{unknown_stops}
use Rattle.csp_parse.specs.Names.{name_of}
use Rattle.csp_names.specs.declared.refusals.KindFault.TheVariants as fault
use Rattle.csp_names.specs.Meanings.{meaning_of}
use Rattle.csp_names.proofs.ChannelNames.{stops_at}
use Rattle.csp_names.proofs.ConstructorNames.{class_of_constructor, constructor_agrees, constructor_disagrees, is_constructor}
use Rattle.csp_names.proofs.NameMeanings.{constructor_has}
use Rattle.csp_names.proofs.scope.Scope.resolve_constructor.Goals as goal

pub returns-in_default : goal.returns-in_default
returns-in_default g c env stands =
    let n = name_of c.args.name in
    stops_at (Used env (AsConstructor c.args.fields) n ∷ []) c.at.result fault.UnknownName c.args.name.place c.at.ensures (unknown_stops env (AsConstructor c.args.fields) n (c.in_default.ensures env stands))

pub returns-in_default-constructor : goal.returns-in_default-constructor
returns-in_default-constructor g c env stands =
    let n = name_of c.args.name in
    stops_at (Used env (AsConstructor c.args.fields) n ∷ []) c.at-in_default-constructor.result fault.WrongKind c.args.name.place c.at-in_default-constructor.ensures
    (class_of_constructor env n (meaning_of c.in-Some.meaning) c.args.fields (c.in-Some.ensures env stands) c.in_default-constructor.ensures)

pub returns-then-counts_agree : goal.returns-then-counts_agree
returns-then-counts_agree g c env stands =
    let n = name_of c.args.name in
    let k = c.in-Some-constructor.constructor.0 in
    let is : meaning env n ≡ Some (Declared ConstructorName k) = c.in-Some.ensures env stands ∙ ap Some (is_constructor (meaning_of c.in-Some.meaning) k c.in-Some-constructor.ensures) in
    let counted = constructor_has c.args.self.now c.args.bound.now env stands n k is ∙ sym c.constructor_count.ensures in
    let agrees = constructor_agrees env n c.args.fields k is c.constructor_count.result counted (sym c.if-counts_agree.ensures) in
    ((agrees.0, tt), agrees.1)

pub returns-else-counts_agree : goal.returns-else-counts_agree
returns-else-counts_agree g c env stands =
    let n = name_of c.args.name in
    let k = c.in-Some-constructor.constructor.0 in
    let is : meaning env n ≡ Some (Declared ConstructorName k) = c.in-Some.ensures env stands ∙ ap Some (is_constructor (meaning_of c.in-Some.meaning) k c.in-Some-constructor.ensures) in
    let counted = constructor_has c.args.self.now c.args.bound.now env stands n k is ∙ sym c.constructor_count.ensures in
    stops_at (Used env (AsConstructor c.args.fields) n ∷ []) c.at-else-counts_agree.result fault.WrongCount c.args.name.place c.at-else-counts_agree.ensures
    (constructor_disagrees env n c.args.fields k is c.constructor_count.result counted (sym c.if-counts_agree.ensures))
