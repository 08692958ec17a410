-- What events and sets of events ask.
use Rattle.std.specs.Prelude.{List}
use Rattle.theory_checking.specs.Inference.Processes.{behind_event, behind_event_set, behind_events, of_beginning, of_beginnings, of_event, of_event_set, of_events}
use Rattle.csp_events.specs.declared.event_expression.EventExpression.{EventExpression}
use Rattle.csp_events.specs.declared.event_set.EventSet.{EventSet}
use Rattle.csp_events.specs.Events.{event_expression_of, event_expressions_of, event_set_of}
use Rattle.csp_expression.specs.declared.types.TypeTable.{TypeTable}
use Rattle.csp_expression.specs.Evaluation.{table_of}
use Rattle.csp_inference.specs.declared.numbering.NumberedName.{NumberedName}
use Rattle.csp_inference.specs.declared.numbering.Numbering.{Numbering}
use Rattle.csp_inference.specs.Numbering.{names_of, numbering_of}
use Rattle.csp_inference.specs.Question.{Question}

-- what an event asks: that its channel is there and it has all the fields of the channel, of their kinds
abbrev pub event_question : {A : Type 0} → TypeTable A → Numbering A → List NumberedName → EventExpression A → Question
event_question types numbering names event = record {
  equations = λ n. of_event (table_of types) (numbering_of numbering) n (names_of names) (event_expression_of event);
  behind = λ n. behind_event n (event_expression_of event);
}

-- what the beginning of an event asks: the same with the first of the channel's fields
abbrev pub beginning_question : {A : Type 0} → TypeTable A → Numbering A → List NumberedName → EventExpression A → Question
beginning_question types numbering names event = record {
  equations = λ n. of_beginning (table_of types) (numbering_of numbering) n (names_of names) (event_expression_of event);
  behind = λ n. behind_event n (event_expression_of event);
}

-- what events ask, one after the other
abbrev pub events_question : {A : Type 0} → TypeTable A → Numbering A → List NumberedName → List (EventExpression A) → Question
events_question types numbering names events = record {
  equations = λ n. of_events (table_of types) (numbering_of numbering) n (names_of names) (event_expressions_of events);
  behind = λ n. behind_events n (event_expressions_of events);
}

-- what beginnings of events ask, one after the other
abbrev pub beginnings_question : {A : Type 0} → TypeTable A → Numbering A → List NumberedName → List (EventExpression A) → Question
beginnings_question types numbering names events = record {
  equations = λ n. of_beginnings (table_of types) (numbering_of numbering) n (names_of names) (event_expressions_of events);
  behind = λ n. behind_events n (event_expressions_of events);
}

-- what a set of events asks: what the events and beginnings ask that it is made of
abbrev pub event_set_question : {A : Type 0} → TypeTable A → Numbering A → List NumberedName → EventSet A → Question
event_set_question types numbering names set = record {
  equations = λ n. of_event_set (table_of types) (numbering_of numbering) n (names_of names) (event_set_of set);
  behind = λ n. behind_event_set n (event_set_of set);
}
