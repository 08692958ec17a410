-- The numbers that those of the code stand for.
use Rattle.std.specs.Prelude.{List, map}
use Rattle.theory_checking.specs.Inference.Equations as pure
use Rattle.csp_inference.specs.declared.numbering.Numbering.{Numbering}
use Rattle.csp_inference.specs.declared.numbering.NumberedName.{NumberedName}

abbrev pub numbering_of : {A : Type 0} → Numbering A → pure.Numbering
numbering_of o = record {
  owners = map (λ d. d.0) o.owners.items;
  nametypes = map (λ n. n.0) o.nametypes.items;
  constructors = map (λ ns. map (λ n. n.0) ns.items) o.constructors.items;
  channels = map (λ ns. map (λ n. n.0) ns.items) o.channels.items;
  parameters = map (λ ns. map (λ n. n.0) ns.items) o.parameters.items;
}

abbrev pub names_of : List NumberedName → pure.Numbered
names_of names = map (λ b. (b.name.0, b.number.0)) names
