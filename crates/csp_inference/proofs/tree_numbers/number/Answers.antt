use Rattle.std.proofs.Common.{◌+◌, length, map, subst, zero-add, ◌∙◌, ap, ap₂}
use Rattle.theory_checking.specs.Inference.Items.{behind_all, numbers_from, owners_from, rows_from}
use Rattle.theory_checking.specs.Sets.{nametype_sets}
use Rattle.csp_parse.specs.Declarations.{declaration_of}
use Rattle.csp_inference.specs.Counts.{AreCountsOf}
use Rattle.csp_inference.proofs.Rowing.{same_numbers}
use Rattle.csp_inference.proofs.tree_numbers.number.Goals as goal

pub returns-clause-numbers : goal.returns-clause-numbers
returns-clause-numbers g c =
    let are = subst (λ ds. AreCountsOf (map declaration_of ds) c.in_ok-counts.counts) c.deref.ensures.value c.in_ok-counts.ensures in
    let zero = c.new-equations.ensures.next in
    let nametypes = c.nametype_count.ensures ∙ ap (λ ds. length (nametype_sets (map declaration_of ds))) c.deref-3.ensures.value in
    let start = c.in_ok-nametypes.ensures.behind.next ∙ ap (λ n. n + c.nametype_count.result) zero ∙ zero-add c.nametype_count.result ∙ nametypes in
    let clauses = c.deref-4.ensures.value ∙ are.constructor_fields in
    let between = c.in_ok-constructors.ensures.behind.next ∙ ap₂ behind_all start clauses in
    let fields = c.deref-5.ensures.value ∙ are.fields in
    let middle = c.in_ok-channels.ensures.behind.next ∙ ap₂ behind_all between fields in
    same_numbers _ _ _ _ _ _ _ _ _ _ (c.in_ok-owners.ensures ∙ ap (owners_from 0) (c.deref-2.ensures.value ∙ are.constructors)) (c.in_ok-nametypes.ensures.numbers ∙ ap₂ numbers_from zero nametypes)
    (c.in_ok-constructors.ensures.rows ∙ ap₂ rows_from start clauses) (c.in_ok-channels.ensures.rows ∙ ap₂ rows_from between fields)
    (c.in_ok-parameters.ensures.rows ∙ ap₂ rows_from middle (c.deref-6.ensures.value ∙ are.parameters))

pub returns-clause-next : goal.returns-clause-next
returns-clause-next g c =
    let are = subst (λ ds. AreCountsOf (map declaration_of ds) c.in_ok-counts.counts) c.deref.ensures.value c.in_ok-counts.ensures in
    let nametypes = c.nametype_count.ensures ∙ ap (λ ds. length (nametype_sets (map declaration_of ds))) c.deref-3.ensures.value in
    let start = c.in_ok-nametypes.ensures.behind.next ∙ ap (λ n. n + c.nametype_count.result) c.new-equations.ensures.next ∙ zero-add c.nametype_count.result ∙ nametypes in
    let between = c.in_ok-constructors.ensures.behind.next ∙ ap₂ behind_all start (c.deref-4.ensures.value ∙ are.constructor_fields) in
    let middle = c.in_ok-channels.ensures.behind.next ∙ ap₂ behind_all between (c.deref-5.ensures.value ∙ are.fields) in
    c.in_ok-parameters.ensures.behind.next ∙ ap₂ behind_all middle (c.deref-6.ensures.value ∙ are.parameters)

pub returns-clause-known : goal.returns-clause-known
returns-clause-known g c = λ n.
    c.new-equations.ensures.state n ∙ c.in_ok-nametypes.ensures.behind.known n ∙ c.in_ok-constructors.ensures.behind.known n ∙ c.in_ok-channels.ensures.behind.known n ∙ c.in_ok-parameters.ensures.behind.known n
