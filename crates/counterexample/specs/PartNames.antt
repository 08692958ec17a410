-- The names of parts, as those of the code stand for them.
use Rattle.std.specs.Prelude.{List, map}
use Rattle.theory_explanation.specs.Legend as legend
use Rattle.theory_explanation.specs.PartNames as pure
use Rattle.csp_moves.specs.Passage.{side_of}
use Rattle.csp_print.specs.Names.{names_of}
use Rattle.counterexample.specs.declared.legend.Legend.{Legend}
use Rattle.counterexample.specs.declared.part_names.PartName.{PartName}

abbrev pub part_name_of : {A : Type 0} → PartName A → pure.PartName
part_name_of d = record { way = map side_of d.way.items; equation = d.equation.0 }

abbrev pub part_names_listed : {A : Type 0} → List (PartName A) → List pure.PartName
part_names_listed ds = map part_name_of ds

abbrev pub legend_of : {A : Type 0} → Legend A → legend.Legend
legend_of l = record { names = names_of l.names.now; parts = part_names_listed l.parts.now; way = map side_of l.way.now }
