-- Small processes, for the worked rows.
use Rattle.std.specs.Prelude.{ℕ, []}
use Rattle.theory_syntax.specs.Value.{Event}
use Rattle.theory_syntax.specs.Process.{Process, Stop, Skip, InternalChoice, GeneralisedParallel, Hiding, SlidingChoice}
use Rattle.theory_semantics.specs.Laws.Terms.{a_stop, a_renamed, just, num, call_with}

-- the events a, b, c by their numbers
abbrev pub event : ℕ → Event
event n = record { channel = n; fields = [] }

-- `p \ {a}` and `p \ {b}`, by the number of the event
abbrev pub without : ℕ → Process → Process
without n p = Hiding p (just n)

-- `(a -> STOP)[[a <- b]]`
abbrev pub b_for_a : Process → Process
b_for_a p = a_renamed 1 1 p

-- `p [| {a} |] q`
abbrev pub a_together : Process → Process → Process
a_together p q = GeneralisedParallel p (just 0) q

-- `(SKIP |~| STOP) [> a -> STOP`
abbrev pub may_slide : Process
may_slide = SlidingChoice (InternalChoice Skip Stop) a_stop

-- `P(0) |~| P(1)` and `P(2)`
abbrev pub first_two : Process
first_two = InternalChoice (call_with (num 0)) (call_with (num 1))

abbrev pub third : Process
third = call_with (num 2)
