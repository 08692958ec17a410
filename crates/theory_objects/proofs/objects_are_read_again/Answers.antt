use Rattle.json.proofs.Printed.Trees.{document-print}
use Rattle.theory_objects.specs.Fields.{object_of}
use Rattle.theory_objects.proofs.objects_are_read_again.Goals as goal

pub returns : goal.returns
returns c fields numbers shallow = document-print (object_of fields) numbers shallow
