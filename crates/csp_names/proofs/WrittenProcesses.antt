-- What is written as a process, form by form, and how large it is.
use Rattle.std.proofs.Common.{◌≡◌, ◌∙◌, List, map, sym, ap, ap₂}
use Rattle.std.specs.declared.boxed.Box.{Box}
use Rattle.std.specs.declared.vec.Vec.{Vec}
use Rattle.theory_syntax.specs.declared.process_operator.ReplicatedOperator.{ReplicatedOperator}
use Rattle.theory_text.specs.Raw.{RawProcess, RawStop, RawSkip, RawCall, RawPrefix, RawGuard, RawIf, RawInfix, RawGeneralisedParallel, RawAlphabetisedParallel, RawHiding, RawRenaming, RawReplicated}
use Rattle.csp_parse.specs.declared.events.Pair.{Pair}
use Rattle.csp_parse.specs.declared.event_sets.EventSet.{EventSet}
use Rattle.csp_parse.specs.declared.expressions.Expression.{Expression}
use Rattle.csp_parse.specs.declared.names.Name.{Name}
use Rattle.csp_parse.specs.declared.processes.Field.{Field}
use Rattle.csp_parse.specs.declared.processes.Infix.{Infix}
use Rattle.csp_parse.specs.declared.processes.Process.{Process}
use Rattle.csp_parse.specs.declared.processes.Process.TheFolds.{fold-roll-Process}
use Rattle.csp_parse.specs.declared.processes.Process.TheOpen as layer
use Rattle.csp_parse.specs.declared.processes.Process.TheVariants as views
use Rattle.csp_parse.specs.Events.{pair_of}
use Rattle.csp_parse.specs.EventSets.{event_set_of}
use Rattle.csp_parse.specs.Expressions.{expression_of, expressions_of}
use Rattle.csp_parse.specs.Names.{name_of}
use Rattle.csp_parse.specs.Processes.{field_of, infix_of, process_of, process_step, replicator_of}

module _ {A : Type 0} (p : Process A) where
  pub of_stop : p ≡ views.Stop → process_of p ≡ RawStop
  of_stop is = ap process_of is ∙ ap (process_of {A = A}) (sym views.rolls-Stop) ∙ fold-roll-Process A RawProcess process_step layer.Stop

  pub of_skip : p ≡ views.Skip → process_of p ≡ RawSkip
  of_skip is = ap process_of is ∙ ap (process_of {A = A}) (sym views.rolls-Skip) ∙ fold-roll-Process A RawProcess process_step layer.Skip

  pub of_call : (n : Name) (es : Vec (Expression A) A) (read : List (Expression A)) → p ≡ views.Call n es → read ≡ es.items → process_of p ≡ RawCall (name_of n) (expressions_of read)
  of_call n es read is same = ap process_of is ∙ ap (process_of {A = A}) (sym (views.rolls-Call n es)) ∙ fold-roll-Process A RawProcess process_step (layer.Call n es) ∙ ap (λ xs. RawCall (name_of n) (expressions_of xs)) (sym same)

  pub of_prefix : (n : Name) (fs : Vec (Field A) A) (b : Box (Process A) A) (fields : List (Field A)) (body : Process A) → p ≡ views.Prefix n fs b → fields ≡ fs.items → body ≡ b.value → process_of p ≡ RawPrefix (name_of n) (map field_of fields) (process_of body)
  of_prefix n fs b fields body is alike same =
      ap process_of is ∙ ap (process_of {A = A}) (sym (views.rolls-Prefix n fs b)) ∙ fold-roll-Process A RawProcess process_step (layer.Prefix n fs b)
      ∙ ap₂ (λ xs x. RawPrefix (name_of n) (map field_of xs) (process_of x)) (sym alike) (sym same)

  pub of_guard : (e : Expression A) (b : Box (Process A) A) (body : Process A) → p ≡ views.Guard e b → body ≡ b.value → process_of p ≡ RawGuard (expression_of e) (process_of body)
  of_guard e b body is same =
      ap process_of is ∙ ap (process_of {A = A}) (sym (views.rolls-Guard e b)) ∙ fold-roll-Process A RawProcess process_step (layer.Guard e b) ∙ ap (λ x. RawGuard (expression_of e) (process_of x)) (sym same)

  pub of_if : (e : Expression A) (b d : Box (Process A) A) (first second : Process A) → p ≡ views.If e b d → first ≡ b.value → second ≡ d.value → process_of p ≡ RawIf (expression_of e) (process_of first) (process_of second)
  of_if e b d first second is same alike =
      ap process_of is ∙ ap (process_of {A = A}) (sym (views.rolls-If e b d)) ∙ fold-roll-Process A RawProcess process_step (layer.If e b d)
      ∙ ap₂ (λ x y. RawIf (expression_of e) (process_of x) (process_of y)) (sym same) (sym alike)

  pub of_infix : (op : Infix) (b d : Box (Process A) A) (left right : Process A) → p ≡ views.Infix op b d → left ≡ b.value → right ≡ d.value → process_of p ≡ RawInfix (infix_of op) (process_of left) (process_of right)
  of_infix op b d left right is same alike =
      ap process_of is ∙ ap (process_of {A = A}) (sym (views.rolls-Infix op b d)) ∙ fold-roll-Process A RawProcess process_step (layer.Infix op b d)
      ∙ ap₂ (λ x y. RawInfix (infix_of op) (process_of x) (process_of y)) (sym same) (sym alike)

  pub of_generalised : (b d : Box (Process A) A) (s : EventSet A) (left right : Process A) → p ≡ views.GeneralisedParallel b s d → left ≡ b.value → right ≡ d.value → process_of p ≡ RawGeneralisedParallel (process_of left) (event_set_of s) (process_of right)
  of_generalised b d s left right is same alike =
      ap process_of is ∙ ap (process_of {A = A}) (sym (views.rolls-GeneralisedParallel b s d)) ∙ fold-roll-Process A RawProcess process_step (layer.GeneralisedParallel b s d)
      ∙ ap₂ (λ x y. RawGeneralisedParallel (process_of x) (event_set_of s) (process_of y)) (sym same) (sym alike)

  pub of_alphabetised : (b d : Box (Process A) A) (s t : EventSet A) (left right : Process A) → p ≡ views.AlphabetisedParallel b s t d → left ≡ b.value → right ≡ d.value → process_of p ≡ RawAlphabetisedParallel (process_of left) (event_set_of s) (event_set_of t) (process_of right)
  of_alphabetised b d s t left right is same alike =
      ap process_of is ∙ ap (process_of {A = A}) (sym (views.rolls-AlphabetisedParallel b s t d)) ∙ fold-roll-Process A RawProcess process_step (layer.AlphabetisedParallel b s t d)
      ∙ ap₂ (λ x y. RawAlphabetisedParallel (process_of x) (event_set_of s) (event_set_of t) (process_of y)) (sym same) (sym alike)

  pub of_hiding : (b : Box (Process A) A) (s : EventSet A) (body : Process A) → p ≡ views.Hiding b s → body ≡ b.value → process_of p ≡ RawHiding (process_of body) (event_set_of s)
  of_hiding b s body is same =
      ap process_of is ∙ ap (process_of {A = A}) (sym (views.rolls-Hiding b s)) ∙ fold-roll-Process A RawProcess process_step (layer.Hiding b s) ∙ ap (λ x. RawHiding (process_of x) (event_set_of s)) (sym same)

  pub of_renaming : (b : Box (Process A) A) (ps : Vec (Pair A) A) (body : Process A) (pairs : List (Pair A)) → p ≡ views.Renaming b ps → body ≡ b.value → pairs ≡ ps.items → process_of p ≡ RawRenaming (process_of body) (map pair_of pairs)
  of_renaming b ps body pairs is same alike =
      ap process_of is ∙ ap (process_of {A = A}) (sym (views.rolls-Renaming b ps)) ∙ fold-roll-Process A RawProcess process_step (layer.Renaming b ps)
      ∙ ap₂ (λ x xs. RawRenaming (process_of x) (map pair_of xs)) (sym same) (sym alike)

  pub of_replicated : (op : ReplicatedOperator) (n : Name) (e : Expression A) (b : Box (Process A) A) (body : Process A) → p ≡ views.Replicated op n e b → body ≡ b.value → process_of p ≡ RawReplicated (replicator_of op) (name_of n) (expression_of e) (process_of body)
  of_replicated op n e b body is same =
      ap process_of is ∙ ap (process_of {A = A}) (sym (views.rolls-Replicated op n e b)) ∙ fold-roll-Process A RawProcess process_step (layer.Replicated op n e b)
      ∙ ap (λ x. RawReplicated (replicator_of op) (name_of n) (expression_of e) (process_of x)) (sym same)
