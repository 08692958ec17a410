-- Tables of advice.
use Rattle.std.specs.Prelude.{ℕ, ◌++◌, Bool, List, [], ◌∷◌, Option, None, Some, cond, replicate}
use Rattle.std.specs.List.{list_all}
use Rattle.diagnostics.specs.declared.tables.Advice.{Advice}
use Rattle.csp_names.specs.declared.refusals.KindFault.TheVariants as kinds
use Rattle.csp_parse.specs.declared.refusals.GrammarFault.TheVariants as grammar
use Rattle.diagnostics.specs.declared.faults.Fault.{Fault}
use Rattle.diagnostics.specs.declared.faults.Fault.TheVariants as fault
use Rattle.diagnostics.specs.declared.places.Surroundings.{Surroundings}
use Rattle.diagnostics.specs.Conditions.{meets}

abbrev pub applies : Advice → Surroundings → Bool
applies advice around = list_all (meets around) advice.when.now

-- the sentence of the first row that applies
abbrev pub first_advice : List Advice → Surroundings → Option (List ℕ)
first_advice [] around = None
first_advice (advice ∷ others) around = cond (applies advice around) (Some advice.text.now) (first_advice others around)

-- the fault of each table
abbrev pub table_faults : List Fault
table_faults =
    replicate 12 (fault.Grammar grammar.UnexpectedToken)
    ++ (fault.Grammar grammar.Nested ∷ fault.Grammar grammar.UnexpectedEnd ∷ fault.Grammar grammar.MixedOperators ∷ [])
    ++ replicate 2 (fault.Kinds kinds.UnknownName)
    ++ (fault.Kinds kinds.DeclaredTwice ∷ fault.Kinds kinds.WrongKind ∷ fault.Kinds kinds.WrongCount ∷ fault.Kinds kinds.BadFieldSet ∷ fault.Kinds kinds.TooManyEvents ∷ [])
