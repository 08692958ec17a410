use Rattle.kept_parts.proofs.Serving.{serves}
use Rattle.kept_parts.proofs.parts.Parts.all.Goals as goal

pub returns-clause-serve : goal.returns-clause-serve
returns-clause-serve g c = λ known z events numbers. serves c.args.self.now known z events numbers
