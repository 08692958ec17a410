use Rattle.std.proofs.Common.{◌≡◌, ◌≤◌, length, ◌+◌, ◌*◌}
use Rattle.theory_reader.specs.Forms.{ChainOver, ChainMore}
use Rattle.theory_reader.specs.Reader.{reads}
use Rattle.csp_parse.specs.Processes.{infix_of, process_in}
use Rattle.csp_parse.specs.Reading.{left_of, standing_of}
use Rattle.csp_parse.proofs.parsers.Parser.+process.Given as goal

abbrev pub decreases-process : goal.decreases-process
decreases-process g l = 32 * length (left_of l.self.now) + 3

abbrev pub decreases-conditional : goal.decreases-conditional
decreases-conditional g l = 32 * length (left_of l.self.now) + 0

abbrev pub decreases-replicated : goal.decreases-replicated
decreases-replicated g l = 32 * length (left_of l.self.now) + 0

abbrev pub decreases-start : goal.decreases-start
decreases-start g l = 32 * length (left_of l.self.now) + 2

abbrev pub decreases-operand : goal.decreases-operand
decreases-operand g l = 32 * length (left_of l.self.now) + 3

abbrev pub decreases-inner : goal.decreases-inner
decreases-inner g l = 32 * length (left_of l.self.now) + 4

abbrev pub decreases-inner_from_name : goal.decreases-inner_from_name
decreases-inner_from_name g l = 32 * length (left_of l.self.now) + 33

abbrev pub decreases-start_of_name : goal.decreases-start_of_name
decreases-start_of_name g l = 32 * length (left_of l.self.now) + 1

abbrev pub decreases-start_of_brackets : goal.decreases-start_of_brackets
decreases-start_of_brackets g l = 32 * length (left_of l.self.now) + 1

abbrev pub decreases-process_from : goal.decreases-process_from
decreases-process_from g l = 32 * length (left_of l.self.now) + 31

abbrev pub decreases-process_from_base : goal.decreases-process_from_base
decreases-process_from_base g l = 32 * length (left_of l.self.now) + 30

abbrev pub decreases-process_from_operand : goal.decreases-process_from_operand
decreases-process_from_operand g l = 32 * length (left_of l.self.now) + 29

abbrev pub decreases-chain : goal.decreases-chain
decreases-chain g l = 32 * length (left_of l.self.now) + 28

abbrev pub decreases-generalised : goal.decreases-generalised
decreases-generalised g l = 32 * length (left_of l.self.now) + 28

abbrev pub decreases-alphabetised : goal.decreases-alphabetised
decreases-alphabetised g l = 32 * length (left_of l.self.now) + 28

abbrev pub decreases-start_from_name : goal.decreases-start_from_name
decreases-start_from_name g l = 32 * length (left_of l.self.now) + 30

abbrev pub decreases-guarded : goal.decreases-guarded
decreases-guarded g l = 32 * length (left_of l.self.now) + 29

abbrev pub decreases-process_behind_word : goal.decreases-process_behind_word
decreases-process_behind_word g l = 32 * length (left_of l.self.now) + 0

abbrev pub decreases-process_behind : goal.decreases-process_behind
decreases-process_behind g l = 32 * length (left_of l.self.now) + 0

abbrev pub decreases-operand_behind : goal.decreases-operand_behind
decreases-operand_behind g l = 32 * length (left_of l.self.now) + 0

abbrev pub decreases-start_of_expression : goal.decreases-start_of_expression
decreases-start_of_expression g l = 32 * length (left_of l.self.now) + 1

abbrev pub decreases-prefix_of : goal.decreases-prefix_of
decreases-prefix_of g l = 32 * length (left_of l.self.now) + 2

abbrev pub decreases-bracketed_inner : goal.decreases-bracketed_inner
decreases-bracketed_inner g l = 32 * length (left_of l.self.now) + 0

abbrev pub decreases-start_from_atom : goal.decreases-start_from_atom
decreases-start_from_atom g l = 32 * length (left_of l.self.now) + 30

abbrev pub decreases-inner_process : goal.decreases-inner_process
decreases-inner_process g l = 32 * length (left_of l.self.now) + 32

abbrev pub invariant-chain-loop-operator : goal.invariant-chain-loop-operator
invariant-chain-loop-operator g l = record {
  same : reads (ChainOver (infix_of l.operator) (process_in l.fn.first)) (standing_of l.fn.self) ≡ reads (ChainMore (infix_of l.operator) (process_in l.chain)) (standing_of l.self);
  not_longer : length (left_of l.self) ≤ length (left_of l.fn.self);
}

abbrev pub decreases-chain-loop-operator : goal.decreases-chain-loop-operator
decreases-chain-loop-operator g l = length (left_of l.self)

abbrev pub decreases-inner_of_dotted : goal.decreases-inner_of_dotted
decreases-inner_of_dotted g l = 32 * length (left_of l.self.now) + 34

abbrev pub decreases-inner_of_name : goal.decreases-inner_of_name
decreases-inner_of_name g l = 32 * length (left_of l.self.now) + 3

abbrev pub decreases-inner_from : goal.decreases-inner_from
decreases-inner_from g l = 32 * length (left_of l.self.now) + 34

abbrev pub decreases-start_behind_name : goal.decreases-start_behind_name
decreases-start_behind_name g l = 32 * length (left_of l.self.now) + 31

abbrev pub decreases-prefix_behind : goal.decreases-prefix_behind
decreases-prefix_behind g l = 32 * length (left_of l.self.now) + 1
