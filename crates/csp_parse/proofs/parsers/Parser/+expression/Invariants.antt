use Rattle.std.proofs.Common.{◌≡◌, ◌≤◌, length, ◌+◌, ◌*◌, [], ◌∷◌}
use Rattle.theory_reader.specs.Forms.{Chained, Dotted, Listed}
use Rattle.theory_reader.specs.Reader.{strength, reads}
use Rattle.csp_parse.specs.Expressions.{expression_of, expressions_in}
use Rattle.csp_parse.specs.Levels.{level_of}
use Rattle.csp_parse.specs.Reading.{left_of, standing_of}
use Rattle.csp_parse.proofs.parsers.Parser.+expression.Given as goal

abbrev pub decreases-atom : goal.decreases-atom
decreases-atom g l = 32 * length (left_of l.self.now) + 9

abbrev pub decreases-atom_of_sign : goal.decreases-atom_of_sign
decreases-atom_of_sign g l = 32 * length (left_of l.self.now) + 8

abbrev pub decreases-atom_of_word : goal.decreases-atom_of_word
decreases-atom_of_word g l = 32 * length (left_of l.self.now) + 8

abbrev pub decreases-bracketed : goal.decreases-bracketed
decreases-bracketed g l = 32 * length (left_of l.self.now) + 2

abbrev pub decreases-chained : goal.decreases-chained
decreases-chained g l = 32 * length (left_of l.self.now) + 3

abbrev pub decreases-compared : goal.decreases-compared
decreases-compared g l = 32 * length (left_of l.self.now) + 3

abbrev pub decreases-dotted : goal.decreases-dotted
decreases-dotted g l = 32 * length (left_of l.self.now) + 2

abbrev pub decreases-enclosed : goal.decreases-enclosed
decreases-enclosed g l = 32 * length (left_of l.self.now) + 23

abbrev pub decreases-expression_behind : goal.decreases-expression_behind
decreases-expression_behind g l = 32 * length (left_of l.self.now) + 1

abbrev pub decreases-expression_from : goal.decreases-expression_from
decreases-expression_from g l = 32 * length (left_of l.self.now) + 4

abbrev pub decreases-listed : goal.decreases-listed
decreases-listed g l = 32 * length (left_of l.self.now) + 2

abbrev pub decreases-members : goal.decreases-members
decreases-members g l = 32 * length (left_of l.self.now) + 23

abbrev pub decreases-negation : goal.decreases-negation
decreases-negation g l = 32 * length (left_of l.self.now) + 17

abbrev pub decreases-operation : goal.decreases-operation
decreases-operation g l = 32 * length (left_of l.self.now) + 1

abbrev pub decreases-range : goal.decreases-range
decreases-range g l = 32 * length (left_of l.self.now) + 2

abbrev pub decreases-round : goal.decreases-round
decreases-round g l = 32 * length (left_of l.self.now) + 1

abbrev pub decreases-sequence : goal.decreases-sequence
decreases-sequence g l = 32 * length (left_of l.self.now) + 1

abbrev pub decreases-set : goal.decreases-set
decreases-set g l = 32 * length (left_of l.self.now) + 1

abbrev pub decreases-signed : goal.decreases-signed
decreases-signed g l = 32 * length (left_of l.self.now) + 2

abbrev pub decreases-two_arguments : goal.decreases-two_arguments
decreases-two_arguments g l = 32 * length (left_of l.self.now) + 2

abbrev pub decreases-expression : goal.decreases-expression
decreases-expression g l = 32 * length (left_of l.self.now) + (10 + 2 * strength (level_of l.level))

abbrev pub decreases-chain_of : goal.decreases-chain_of
decreases-chain_of g l = 32 * length (left_of l.self.now) + (11 + 2 * strength (level_of l.operands))

abbrev pub invariant-chained-loop-kind : goal.invariant-chained-loop-kind
invariant-chained-loop-kind g l = record {
  same : reads (Chained (level_of l.level) (expression_of l.fn.first)) (standing_of l.fn.self) ≡ reads (Chained (level_of l.level) (expression_of l.chain)) (standing_of l.self);
  not_longer : length (left_of l.self) ≤ length (left_of l.fn.self);
}

abbrev pub decreases-chained-loop-kind : goal.decreases-chained-loop-kind
decreases-chained-loop-kind g l = length (left_of l.self)

abbrev pub invariant-listed-loop-level : goal.invariant-listed-loop-level
invariant-listed-loop-level g l = record {
  same : reads (Listed (level_of l.level) (expression_of l.fn.first ∷ [])) (standing_of l.fn.self) ≡ reads (Listed (level_of l.level) (expressions_in l.items.items)) (standing_of l.self);
  not_longer : length (left_of l.self) ≤ length (left_of l.fn.self);
}

abbrev pub decreases-listed-loop-level : goal.decreases-listed-loop-level
decreases-listed-loop-level g l = length (left_of l.self)

abbrev pub invariant-dotted-loop-self : goal.invariant-dotted-loop-self
invariant-dotted-loop-self g l = record {
  same : reads (Dotted []) (standing_of l.fn.self) ≡ reads (Dotted (expressions_in l.fields.items)) (standing_of l.self);
  not_longer : length (left_of l.self) ≤ length (left_of l.fn.self);
}

abbrev pub decreases-dotted-loop-self : goal.decreases-dotted-loop-self
decreases-dotted-loop-self g l = length (left_of l.self)
