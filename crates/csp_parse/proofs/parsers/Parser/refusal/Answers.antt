use Rattle.std.proofs.Common.{refl}
use Rattle.std.specs.Str.{chars}
use Rattle.csp_lex.specs.Places.{place_of}
use Rattle.csp_lex.specs.Tokens.{placed_token}
use Rattle.csp_parse.specs.declared.refusals.GrammarFault.TheVariants as fault
use Rattle.csp_parse.specs.Reading.{left_of}
use Rattle.csp_parse.proofs.Refusing.{unexpected_at, too_high_at, none_at, memory_at, here_not_memory, high_not_memory}
use Rattle.csp_parse.proofs.parsers.Parser.refusal.Goals as goal

pub returns-in-Memory-default : goal.returns-in-Memory-default
returns-in-Memory-default g c = memory_at (place_of c.args.end) (left_of c.args.self.now) c.in-Memory-default.is-0

pub returns-in-Here-Some : goal.returns-in-Here-Some
returns-in-Here-Some g c =
    let token = c.in-Here-Some.token in
    unexpected_at (place_of c.args.end) (left_of c.args.self.now) (placed_token token) c.fault_at.result token.place c.in-Here-Some.ensures (c.fault_at.ensures (chars token.text.now)) refl
    c.in-Here-Some.is-0

pub returns-in-High-Some : goal.returns-in-High-Some
returns-in-High-Some g c =
    let token = c.in-High-Some.token in
    too_high_at (place_of c.args.end) (left_of c.args.self.now) (placed_token token) fault.Nested token.place c.in-High-Some.ensures refl refl c.in-High-Some.is-0

pub returns-in_default-None : goal.returns-in_default-None
returns-in_default-None g c =
    none_at (place_of c.args.end) (left_of c.args.self.now) c.args.stopped fault.UnexpectedEnd c.args.end (here_not_memory c.in_default-None.is-0) c.in_default-None.ensures refl refl

pub returns-in_default-None-2 : goal.returns-in_default-None-2
returns-in_default-None-2 g c =
    none_at (place_of c.args.end) (left_of c.args.self.now) c.args.stopped fault.UnexpectedEnd c.args.end (high_not_memory c.in_default-None.is-0) c.in_default-None.ensures refl refl
