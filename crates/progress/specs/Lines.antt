-- The lines that are told.
use Rattle.std.specs.Prelude.{◌++◌, ◌/◌, ℕ, List, codes, decimal}
use Rattle.progress.specs.declared.lines.SearchState.{SearchState}

-- of a search: its assertion, its level, the pairs that were stored when the level began, how many of them were taken up, and how
-- many a second
abbrev pub search_line : SearchState → ℕ → List ℕ
search_line state seconds =
    codes "assertion " ++ (decimal state.assertion ++ (codes ", level " ++ (decimal state.level ++ (codes ": " ++ (decimal state.stored
    ++ (codes " pairs, " ++ (decimal state.drawn ++ (codes " of them taken up, " ++ (decimal (state.drawn / seconds) ++ codes " a second")))))))))

-- of a graph: the states that are found, and how many a second
abbrev pub graph_line : ℕ → ℕ → List ℕ
graph_line states seconds = decimal states ++ (codes " states, " ++ (decimal (states / seconds) ++ codes " a second"))
