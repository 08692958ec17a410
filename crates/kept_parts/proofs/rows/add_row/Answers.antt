use Rattle.std.proofs.Common.{refl, ◌∙◌, ◌++◌, ◌∷◌, [], List, Bool, false, ap}
use Rattle.csp_rows.specs.declared.part.Part.{Part}
use Rattle.csp_term.specs.declared.term.Term.{Term}
use Rattle.csp_packed.specs.Packed.{packed_process}
use Rattle.csp_packed.proofs.Sameness.{packed_tells}
use Rattle.kept_parts.proofs.FoundOrPut.{added_by_key}
use Rattle.kept_parts.proofs.rows.add_row.Goals as goal

pub returns-clause-added : goal.returns-clause-added
returns-clause-added g c = record {
  script = refl;
  spellings = added_by_key _ packed_process (packed_tells g.row.A g.A.Allocator g.A.Allocator-dict g.A.Clone-dict) c.args.known.now.spellings.keys c.insert.new.self.keys c.args.packed c.in_ok-insert.ensures.keys;
  terms = c.in_ok-push.ensures.items ∙ ap (λ (ts : List (Term g.row.A.Denot)). ts ++ c.args.term ∷ []) c.reserve.ensures.items;
  parts = c.in_ok-push-2.ensures.items ∙ ap (λ (ps : List (Part g.row.A.Denot)). ps ++ c.args.part ∷ []) c.reserve-2.ensures.items;
  fired = c.in_ok-push-3.ensures.items ∙ ap (λ (fs : List Bool). fs ++ false ∷ []) c.reserve-3.ensures.items;
}
