-- The clauses are looked at, and the constructors are added with their sets.
use Rattle.std.proofs.Common.{◌∷◌, ◌++◌, [], map, sym, subst}
use Rattle.theory_text.specs.Raw.{RawDatatype}
use Rattle.theory_checking.specs.Sets.{datatypes_of, members_above}
use Rattle.csp_parse.specs.Declarations.{clause_of}
use Rattle.csp_kinds.specs.Pass.{AreSetsSoFar}
use Rattle.csp_kinds.proofs.DatatypeTaken.{datatype_taken}
use Rattle.csp_kinds.proofs.FieldsInTurn.{on_ok}
use Rattle.csp_kinds.proofs.pass.SetsSoFar.add_datatype.Goals as goal

pub look_at_clauses-requires : goal.look_at_clauses-requires
look_at_clauses-requires g c =
    record {
      raw = c.requires.1.raw;
      above = c.requires.1.above;
      below = c.requires.1.below;
      name = c.requires.0;
      stands = c.requires.1.stands;
      over = record { names = c.requires.1.position.names; visible = c.requires.1.position.visible; table = c.requires.1.so_far.table };
      known = c.requires.1.so_far.fit;
    }

pub returns : goal.returns
returns g c =
    on_ok c.push_constructors.result
    (λ pushed name raw above below stands position so_far.
    let are = c.in_ok-looked.ensures (record {
      raw = raw;
      above = above;
      below = below;
      name = name;
      stands = stands;
      over = record { names = position.names; visible = position.visible; table = so_far.table };
      known = so_far.fit;
    }) in
    subst (λ r. AreSetsSoFar raw (above ++ RawDatatype name (map clause_of c.args.clauses.now) ∷ [])
    (record { table = c.push_constructors.new.self; fit = c.look_at_clauses.new.fit; channels = c.args.self.now.channels; refused = r }))
    (sym c.first_refusal-self.ensures)
    (datatype_taken raw above c.args.self.now so_far below name (map clause_of c.args.clauses.now) stands c.args.at.now position c.in_ok-looked.looked
    c.look_at_clauses.new.fit are c.push_constructors.new.self
    (pushed (datatypes_of raw) (members_above raw above) so_far.table)))
    c.push_constructors.ensures
