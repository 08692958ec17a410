-- Byte by byte a line is read.
use Rattle.std.proofs.Common.{◌≡◌, ◌∙◌, ℕ, List, [], ◌∷◌, ◌++◌, ap, arith, rules, subst}
use Rattle.std.specs.Prelude.{Option, Some, Result, Ok, Err, IfErr, option_to_list}
use Rattle.std.specs.Io.KnownBytes.{Consumes}
use Rattle.std.proofs.KnownBytes.{Consumes-trans}
use Rattle.walk_program.specs.Lines.{IsSomeRead, left}
use Rattle.walk_program.proofs.ReadLines.{kept_few, kept_more, within_more}
use Rattle.walk_program.proofs.lines.read_line.Goals as goal

whatever : {X E : Type 0} (r : Result X E) (P : Type 0) → P → IfErr r (λ e. P)
whatever (Ok x) P p = tt
whatever (Err e) P p = p

-- a byte that was read
byte_read : (a b : Option (List ℕ)) (o : Option ℕ) (byte : ℕ) → o ≡ Some byte → Consumes a b (option_to_list o) → Consumes a b (byte ∷ [])
byte_read a b o byte is read = subst (λ p. Consumes a b (option_to_list p)) is read

pub returns-in_err-byte-clause-lost : goal.returns-in_err-byte-clause-lost
returns-in_err-byte-clause-lost g c =
    let at = g.I.Read.remaining in
    let line = c.loop.invariant.0 in
    whatever c.from_residual.result (IsSomeRead (left at c.args.input.now c.next_byte.new.input))
    (line ++ [], Consumes-trans (at c.args.input.now) (at c.loop.input) (at c.next_byte.new.input) line [] c.loop.invariant.3 c.in_err-byte.ensures.lost)

pub returns-in-Some-eq10-clause-line : goal.returns-in-Some-eq10-clause-line
returns-in-Some-eq10-clause-line g c =
    let at = g.I.Read.remaining in
    let line = c.loop.invariant.0 in
    let ten : c.in-Some-eq10.field-0 ≡ 10 = first_of (cc, omega (arith, c.in-Some-eq10.field-0-is, c.in-Some-eq10.field-0-test), grind (arith, c.in-Some-eq10.field-0-is, c.in-Some-eq10.field-0-test), search rules) in
    let end = byte_read (at c.loop.input) (at c.next_byte.new.input) c.in_ok-byte.byte 10 (c.in-Some-eq10.is ∙ ap (λ b. Some b) ten) c.in_ok-byte.ensures.byte in
    record {
      line = line;
      within = c.loop.invariant.1;
      beginning = c.loop.invariant.2;
      read = Consumes-trans (at c.args.input.now) (at c.loop.input) (at c.next_byte.new.input) line (10 ∷ []) c.loop.invariant.3 end;
      last = λ not. absurd (cc not);
    }

pub keep-requires : goal.keep-requires
keep-requires g c = kept_few c.loop.invariant.0 c.loop.kept.items c.loop.invariant.2

pub returns-in_err-keep-in-Some-clause-lost : goal.returns-in_err-keep-in-Some-clause-lost
returns-in_err-keep-in-Some-clause-lost g c =
    let at = g.I.Read.remaining in
    let line = c.loop.invariant.0 in
    let byte = c.in-Some.byte in
    let more = byte_read (at c.loop.input) (at c.next_byte.new.input) c.in_ok-byte.byte byte c.in-Some.is c.in_ok-byte.ensures.byte in
    whatever c.from_residual-in_err-keep-in-Some.result (IsSomeRead (left at c.args.input.now c.next_byte.new.input))
    (line ++ byte ∷ [], Consumes-trans (at c.args.input.now) (at c.loop.input) (at c.next_byte.new.input) line (byte ∷ []) c.loop.invariant.3 more)

pub loop-preserved : goal.loop-preserved
loop-preserved g c =
    let at = g.I.Read.remaining in
    let line = c.loop.invariant.0 in
    let byte = c.in-Some.byte in
    let more = byte_read (at c.loop.input) (at c.next_byte.new.input) c.in_ok-byte.byte byte c.in-Some.is c.in_ok-byte.ensures.byte in (
      line ++ byte ∷ [],
      within_more line byte c.loop.invariant.1 (λ e. c.in-Some.byte-test.1 (first_of (cc (c.in-Some.byte-is, e), cc (c.in-Some.byte-is, c.in-Some.is, e), grind (arith, c.in-Some.byte-is, c.in-Some.is, e), search rules))),
      kept_more line c.loop.kept.items c.keep.new.kept.items byte c.loop.invariant.2 c.in_ok-keep-in-Some.ensures,
      Consumes-trans (at c.args.input.now) (at c.loop.input) (at c.next_byte.new.input) line (byte ∷ []) c.loop.invariant.3 more,
    )
