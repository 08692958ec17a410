use Rattle.std.proofs.Common.{◌∙◌, ap}
use Rattle.csp_print.specs.Names.{spellings_of}
use Rattle.printed_names.proofs.Inserted.{bytes_of_texts}
use Rattle.printed_names.proofs.bound_names.BoundNames.listed.Goals as goal

pub returns : goal.returns
returns g c =
    let bound = c.args.self.now in
    ap spellings_of (c.in_ok-from_slice.ensures.items ∙ c.as_slice.ensures.keys) ∙ bytes_of_texts bound.spellings.keys bound.texts
