-- How large a search was, in words.
use Rattle.std.specs.Prelude.{ℕ, List, [], ◌++◌, codes, decimal, nat_eq, if◌then◌else◌}
use Rattle.theory_syntax.specs.Process.{Property, RefinementOf, DeadlockFree, DivergenceFree}

-- what stands behind a word for more than one, or for none
abbrev pub plural_text : ℕ → List ℕ
plural_text n = if nat_eq n 1 then [] else codes "s"

-- so many of what the word stands for
abbrev pub number_text : ℕ → List ℕ → List ℕ
number_text n word = decimal n ++ (codes " " ++ (word ++ plural_text n))

-- the nodes of a specification, where there is one
abbrev pub nodes_text : Property → ℕ → List ℕ
nodes_text (RefinementOf model spec) nodes = codes ", " ++ number_text nodes (codes "node")
nodes_text DeadlockFree nodes = []
nodes_text DivergenceFree nodes = []

-- The line of a search: how many pairs it kept, and of a refinement how many nodes the specification's normal form has.
abbrev pub count_text : Property → ℕ → ℕ → List ℕ
count_text property pairs nodes = codes "  " ++ (number_text pairs (codes "pair") ++ (nodes_text property nodes ++ codes "\n"))
