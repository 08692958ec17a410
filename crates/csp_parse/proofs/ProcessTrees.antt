-- The tree of each form of set of events that has no box in it, of each form of process that holds a list, and of an operator between processes.
use Rattle.std.proofs.Common.{◌≡◌, ◌∙◌, sym, ap, map}
use Rattle.std.specs.declared.vec.Vec.{Vec}
use Rattle.csp_parse.specs.declared.processes.Infix.{Infix}
use Rattle.theory_text.specs.Raw.{RawEventSet, RawEnumeration, RawProductions, RawProcess, RawCall, RawPrefix, RawInfix, RawRenaming}
use Rattle.csp_parse.specs.declared.names.Name.{Name}
use Rattle.csp_parse.specs.declared.events.Event.{Event}
use Rattle.csp_parse.specs.declared.events.Pair.{Pair}
use Rattle.csp_parse.specs.declared.expressions.Expression.{Expression}
use Rattle.csp_parse.specs.declared.event_sets.EventSet.TheOpen as set_layer
use Rattle.csp_parse.specs.declared.event_sets.EventSet.TheFolds.{fold-roll-EventSet}
use Rattle.csp_parse.specs.declared.event_sets.EventSet.TheVariants as sets
use Rattle.csp_parse.specs.declared.processes.Process.TheOpen as layer
use Rattle.csp_parse.specs.declared.processes.Process.TheFolds.{fold-roll-Process}
use Rattle.csp_parse.specs.declared.processes.Process.TheVariants as views
use Rattle.std.specs.declared.boxed.Box.{Box}
use Rattle.csp_parse.specs.declared.processes.Field.{Field}
use Rattle.csp_parse.specs.declared.processes.Process.{Process}
use Rattle.csp_parse.specs.Events.{event_of, pair_of}
use Rattle.csp_parse.specs.EventSets.{event_set_step, event_set_of}
use Rattle.csp_parse.specs.Expressions.{expressions_of}
use Rattle.csp_parse.specs.Names.{name_of}
use Rattle.csp_parse.specs.Processes.{field_of, infix_of, process_step, process_of, process_in}

module _ (A : Type 0) where
  pub set_of_enumeration : (es : Vec (Event A) A) → event_set_of {A = A} (sets.Enumeration es) ≡ RawEnumeration (map event_of es.items)
  set_of_enumeration es = ap (event_set_of {A = A}) (sym (sets.rolls-Enumeration es)) ∙ fold-roll-EventSet A RawEventSet event_set_step (set_layer.Enumeration es)

  pub set_of_productions : (es : Vec (Event A) A) → event_set_of {A = A} (sets.Productions es) ≡ RawProductions (map event_of es.items)
  set_of_productions es = ap (event_set_of {A = A}) (sym (sets.rolls-Productions es)) ∙ fold-roll-EventSet A RawEventSet event_set_step (set_layer.Productions es)

  pub tree_of_prefix : (n : Name) (fs : Vec (Field A) A) (p : Box (Process A) A) → process_of {A = A} (views.Prefix n fs p) ≡ RawPrefix (name_of n) (map field_of fs.items) (process_in p)
  tree_of_prefix n fs p = ap (process_of {A = A}) (sym (views.rolls-Prefix n fs p)) ∙ fold-roll-Process A RawProcess process_step (layer.Prefix n fs p)

  pub tree_of_call : (n : Name) (es : Vec (Expression A) A) → process_of {A = A} (views.Call n es) ≡ RawCall (name_of n) (expressions_of es.items)
  tree_of_call n es = ap (process_of {A = A}) (sym (views.rolls-Call n es)) ∙ fold-roll-Process A RawProcess process_step (layer.Call n es)

  pub tree_of_renaming : (p : Box (Process A) A) (ps : Vec (Pair A) A) → process_of {A = A} (views.Renaming p ps) ≡ RawRenaming (process_in p) (map pair_of ps.items)
  tree_of_renaming p ps = ap (process_of {A = A}) (sym (views.rolls-Renaming p ps)) ∙ fold-roll-Process A RawProcess process_step (layer.Renaming p ps)

  pub tree_of_infix : (o : Infix) (p q : Box (Process A) A) → process_of {A = A} (views.Infix o p q) ≡ RawInfix (infix_of o) (process_in p) (process_in q)
  tree_of_infix o p q = ap (process_of {A = A}) (sym (views.rolls-Infix o p q)) ∙ fold-roll-Process A RawProcess process_step (layer.Infix o p q)
