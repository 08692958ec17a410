use Rattle.std.proofs.Common.{refl, sym, ap, subst, is_ok}
use Rattle.std.proofs.ResultArms.{chosen}
use Rattle.csp_lex.specs.Pieces.{ReadsPiece}
use Rattle.theory_text.proofs.Refusing.{tokens_rise, tokens_in_range}
use Rattle.csp_lex.proofs.Dividing.{DividedSoFar, divided_none, divided_gap, divided_token, tokens_at_end, refused_at, piece_shrinks}
use Rattle.csp_lex.proofs.divisions.divide.Goals as goal

pub loop-fault-init : goal.loop-fault-init
loop-fault-init g c =
    let start = c.at_start-cursor in
    subst (λ ts. DividedSoFar c.args.text.now ts start.result) (sym c.new-tokens.ensures.items)
    (divided_none c.args.text.now start.result start.ensures.rest start.ensures.offset start.ensures.place)

pub returns-in-Err-clause-refused : goal.returns-in-Err-clause-refused
returns-in-Err-clause-refused g c = refused_at c.utf8.text c.requires c.loop-fault.invariant c.in-Err.ensures.refused

pub returns-in-Ok-None-clause-tokens : goal.returns-in-Ok-None-clause-tokens
returns-in-Ok-None-clause-tokens g c =
    let none = rw (c.in-Ok-None.field-0-is) at c.in-Ok-None.ensures.end in
    tokens_at_end c.utf8.text c.requires c.loop-fault.invariant none

pub returns-in-Ok-None-clause-spans : goal.returns-in-Ok-None-clause-spans
returns-in-Ok-None-clause-spans g c =
    let none = rw (c.in-Ok-None.field-0-is) at c.in-Ok-None.ensures.end in
    tokens_rise c.args.text.now _ _ (tokens_at_end c.utf8.text c.requires c.loop-fault.invariant none)

pub returns-in-Ok-None-clause-numbers : goal.returns-in-Ok-None-clause-numbers
returns-in-Ok-None-clause-numbers g c =
    let none = rw (c.in-Ok-None.field-0-is) at c.in-Ok-None.ensures.end in
    tokens_in_range c.args.text.now _ _ (tokens_at_end c.utf8.text c.requires c.loop-fault.invariant none)

pub loop-fault-smaller : goal.loop-fault-smaller
loop-fault-smaller g c =
    let reads = rw (c.in-Ok-Some.field-0-is) at c.in-Ok-Some.ensures.piece in piece_shrinks reads

pub loop-fault-smaller-in_ok-push-in-Ok-Some : goal.loop-fault-smaller-in_ok-push-in-Ok-Some
loop-fault-smaller-in_ok-push-in-Ok-Some g c =
    let reads = rw (c.in-Ok-Some.field-0-is) at c.in-Ok-Some.ensures.piece in piece_shrinks reads

pub loop-fault-preserved : goal.loop-fault-preserved
loop-fault-preserved g c =
    let reads = rw (c.in-Ok-Some.field-0-is) at c.in-Ok-Some.ensures.piece in
    divided_gap c.loop-fault.invariant (subst (λ k. ReadsPiece c.loop-fault.cursor k c.in-Ok-Some.field-0-0.end) c.in_default.is reads)

pub loop-fault-preserved-in_ok-push-in-Ok-Some : goal.loop-fault-preserved-in_ok-push-in-Ok-Some
loop-fault-preserved-in_ok-push-in-Ok-Some g c =
    let any = rw (c.in-Ok-Some.field-0-is) at c.in-Ok-Some.ensures.piece in
    let reads = subst (λ k. ReadsPiece c.loop-fault.cursor k c.in-Ok-Some.field-0-0.end) c.in-Some.is any in
    let text = c.text_to.ensures in
    let pushed = chosen _ _ _ _ c.push.ensures.items (ap is_ok c.in_ok-push-in-Ok-Some.was) in
    subst (λ ts. DividedSoFar c.args.text.now ts c.in-Ok-Some.field-0-0.end) (sym pushed)
    (divided_token c.utf8.text c.loop-fault.invariant reads _ refl (text.bytes reads.front reads.passes) (text.characters reads.front reads.passes) refl refl refl)
