-- The groups that are open, as the definitions have them.
use Rattle.std.specs.Prelude.{Bool, ◌∷◌, map, reverse}
use Rattle.theory_text.specs.Height as height
use Rattle.csp_parse.specs.declared.nests.Group.{Group}
use Rattle.csp_parse.specs.declared.nests.Nest.{Nest}
use Rattle.csp_parse.specs.declared.nests.Nesting.{Nesting}
use Rattle.csp_parse.specs.declared.nests.Nesting.TheVariants as nesting

abbrev pub nesting_is : Nesting → height.Nesting
nesting_is nesting.Opens = height.Opens
nesting_is nesting.OpensSquare = height.OpensSquare
nesting_is nesting.Closes = height.Closes
nesting_is nesting.ClosesDouble = height.ClosesDouble
nesting_is nesting.Counts = height.Counts
nesting_is nesting.Plain = height.Plain

abbrev pub group_of : Group → height.Group
group_of g = record { square = g.square; direct = g.direct; deepest = g.deepest }

abbrev pub nest_of : {A : Type 0} → Nest A → height.Nest
nest_of n = record { current = group_of n.current; around = reverse (map group_of n.around.items) }

-- a group is opened, by `[` or not, and its bracket is counted in the one around it
abbrev pub opened : Bool → height.Nest → height.Nest
opened square n = record { current = height.no_tokens_yet square; around = height.one_more n.current ∷ n.around }
