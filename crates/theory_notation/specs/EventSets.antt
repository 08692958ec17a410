-- The texts of events, of sets of events and of renamings.
use Rattle.std.specs.Prelude.{ℕ, List, [], ◌∷◌, ◌++◌, codes}
use Rattle.theory_syntax.specs.Process.{EventExpression, EventSet, Enumeration, Productions, EventUnion, EventIntersection, EventDifference, RenamingPair}
use Rattle.theory_search.specs.Printing.{name_at}
use Rattle.theory_notation.specs.Names.{Names}
use Rattle.theory_notation.specs.Told.{all_told}
use Rattle.theory_notation.specs.Expressions.{expressions_behind}

-- the channel, with `.` before each field, which is an atom
abbrev pub event_text : Names → EventExpression → List ℕ
event_text names e = name_at names.channels e.channel ++ expressions_behind names (codes ".") 6 (all_told names e.fields)

-- events, each behind a `,`, and with `,` between
abbrev pub events_behind : Names → List EventExpression → List ℕ
events_behind names [] = []
events_behind names (e ∷ es) = codes ", " ++ (event_text names e ++ events_behind names es)

abbrev pub events_text : Names → List EventExpression → List ℕ
events_text names [] = []
events_text names (e ∷ es) = event_text names e ++ events_behind names es

abbrev pub event_set_text : Names → EventSet → List ℕ
event_set_text names (Enumeration es) = codes "{" ++ (events_text names es ++ codes "}")
event_set_text names (Productions es) = codes "{|" ++ (events_text names es ++ codes "|}")
event_set_text names (EventUnion a b) = codes "union(" ++ (event_set_text names a ++ (codes ", " ++ (event_set_text names b ++ codes ")")))
event_set_text names (EventIntersection a b) = codes "inter(" ++ (event_set_text names a ++ (codes ", " ++ (event_set_text names b ++ codes ")")))
event_set_text names (EventDifference a b) = codes "diff(" ++ (event_set_text names a ++ (codes ", " ++ (event_set_text names b ++ codes ")")))

-- `from <- to`
abbrev pub pair_text : Names → RenamingPair → List ℕ
pair_text names r = event_text names r.from ++ (codes " <- " ++ event_text names r.to)

-- pairs, each behind a `,`, and with `,` between
abbrev pub pairs_behind : Names → List RenamingPair → List ℕ
pairs_behind names [] = []
pairs_behind names (r ∷ rs) = codes ", " ++ (pair_text names r ++ pairs_behind names rs)

abbrev pub pairs_text : Names → List RenamingPair → List ℕ
pairs_text names [] = []
pairs_text names (r ∷ rs) = pair_text names r ++ pairs_behind names rs
