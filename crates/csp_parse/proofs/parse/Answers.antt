use Rattle.std.proofs.Common.{map, subst}
use Rattle.theory_text.specs.Grammar.{IsScript}
use Rattle.theory_text.specs.Height.{HasNoneTooHigh}
use Rattle.csp_lex.specs.Places.{place_of}
use Rattle.csp_lex.specs.Tokens.{placed_token}
use Rattle.theory_reader.proofs.Scripts.{script_read}
use Rattle.csp_parse.specs.Declarations.{script_of}
use Rattle.csp_parse.specs.Reading.{left_of}
use Rattle.csp_parse.proofs.Scripts.{refusal_of, stops_refuse}
use Rattle.csp_parse.proofs.parse.Goals as goal

pub returns-in-Ok-clause-tree : goal.returns-in-Ok-clause-tree
returns-in-Ok-clause-tree g c = subst (λ ts. IsScript ts (script_of c.in-Ok.raw)) c.new-parser.ensures (script_read _ _ _ c.in-Ok.ensures.reads).0

pub returns-in-Ok-clause-low : goal.returns-in-Ok-clause-low
returns-in-Ok-clause-low g c = subst HasNoneTooHigh c.new-parser.ensures (script_read _ _ _ c.in-Ok.ensures.reads).1

pub returns-clause-refusal : goal.returns-clause-refusal
returns-clause-refusal g c =
    let tokens = map placed_token c.args.list.now.tokens.items in
    let end = place_of c.args.list.now.end in
    let stops = stops_refuse c.new-parser.result c.script.new.self c.in-Err.stopped tokens end c.new-parser.ensures c.in-Err.ensures.reads in
    refusal_of tokens end (left_of c.script.new.self) c.in-Err.stopped _ c.refusal.ensures stops.0 stops.1
