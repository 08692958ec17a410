-- Names that are unfolded at once: in place of a call that a rule looks at stands the body of its equation.
-- A call that is not unfolded at once still does its tau, so no answer hangs on how far this goes.
use Rattle.std.specs.Prelude.{ℕ, zero, suc, nat_le, Bool, true, false, ◌&&◌, cond, List, Option, Some, None, Result, Ok, Err}
use Rattle.std.specs.Ordering.{is_eq}
use Rattle.theory_syntax.specs.Value.{Value}
use Rattle.theory_syntax.specs.Process.{Process, Stop, Skip, Call, Guard, If, ExternalChoice, Sequential, Interleaving, Interrupt, GeneralisedParallel, AlphabetisedParallel, Hiding, Renaming, ReplicatedExternalChoice, ReplicatedInterleaving, SlidingChoice, Unfolding, ByTau, AtOnce, Script}
use Rattle.theory_syntax.specs.Order.{process_cmp}
use Rattle.theory_semantics.specs.Meaning.Evaluation.{Cause}
use Rattle.theory_semantics.specs.Meaning.Limits.{size, depth, fits}
use Rattle.theory_semantics.specs.Meaning.Events.{condition, elements, called, instances}
use Rattle.theory_semantics.specs.Meaning.Chains.{chain}

-- How many names are unfolded in a row, at most. A name may lead to itself, as `P = P` or `P = P ||| P`, so there has to be an
-- end: eight are more than scripts put in a row, and few enough that what `P = P ||| P` is unfolded to stays small.
abbrev pub most_unfoldings : ℕ
most_unfoldings = 8

-- Whether the first of two terms is neither larger nor deeper than the second. A term past the limits is larger than any.
abbrev pub is_no_larger : Process → Process → Bool
is_no_larger p v = cond (fits v) (nat_le (size p) (size v) && nat_le (depth p) (depth v)) true

-- What a term is unfolded to stands in its place, unless it is smaller. So what is within the limits was so before.
abbrev pub in_place_of : Process → Process → Process
in_place_of p v = cond (is_no_larger p v) v p

-- A call is unfolded to its body, gone on with, unless the body is smaller.
abbrev pub body_or : (Process → Process) → Process → Result Process Cause → Process
body_or go_on p (Ok t) = cond (is_no_larger p t) (go_on t) p
body_or go_on p (Err c) = p

-- the term, if it is the call whose body is gone on with, or else the other one
abbrev pub unless_called : Option Process → Process → Process → Process
unless_called (Some c) p v = cond (is_eq (process_cmp c p)) p v
unless_called None p v = v

-- the process of a guard that is true
abbrev pub where_true : Result Bool Cause → Process → Option Process
where_true (Ok true) p = Some p
where_true _ p = None

-- the branch that a condition picks
abbrev pub picked : Result Bool Cause → Process → Process → Option Process
picked (Ok true) p q = Some p
picked (Ok false) p q = Some q
picked (Err c) p q = None

-- the chain of the instances of a replicated form
abbrev pub chained : (Process → Process → Process) → Process → ℕ → Process → Result (List Value) Cause → Option Process
chained op empty n p (Ok vs) = Some (chain op empty (instances n p vs))
chained op empty n p (Err c) = None

-- the process whose steps a term has, where its rule says so
abbrev pub stands_for : Script → Process → Option Process
stands_for script (Guard e p) = where_true (condition script.types e) p
stands_for script (If e p q) = picked (condition script.types e) p q
stands_for script (ReplicatedExternalChoice n e p) = chained ExternalChoice Stop n p (elements script.types e)
stands_for script (ReplicatedInterleaving n e p) = chained Interleaving Skip n p (elements script.types e)
stands_for script p = None

-- the term that is left, where one is unfolded to itself, or else what stands in its place
abbrev pub changed_or : Process → Process → Process → Process
changed_or p q v = cond (is_eq (process_cmp q v)) p (in_place_of p v)

-- such a process within the limits, gone on with, where that unfolds a call of it
abbrev pub unfolded_or : (Process → Process) → Process → Option Process → Process
unfolded_or go_on p (Some q) = cond (fits q) (changed_or p q (go_on q)) p
unfolded_or go_on p None = p

-- Each active call is replaced by its body, gone on with. Active are the calls that the rules of a term look at, where the
-- term is kept as they do their tau, and none behind a prefix or in an internal choice. In the body of a call that very call
-- is left, so that `P = P [] Q` is unfolded once.
abbrev pub unfold_calls : Script → (Option Process → Process → Process) → Option Process → Process → Process
unfold_calls script go_on c (Call n es) = unless_called c (Call n es) (body_or (go_on (Some (Call n es))) (Call n es) (called script n es))
unfold_calls script go_on c (ExternalChoice p q) = ExternalChoice (unfold_calls script go_on c p) (unfold_calls script go_on c q)
unfold_calls script go_on c (Sequential p q) = Sequential (unfold_calls script go_on c p) q
unfold_calls script go_on c (Interleaving p q) = Interleaving (unfold_calls script go_on c p) (unfold_calls script go_on c q)
unfold_calls script go_on c (Interrupt p q) = Interrupt (unfold_calls script go_on c p) (unfold_calls script go_on c q)
unfold_calls script go_on c (GeneralisedParallel p a q) = GeneralisedParallel (unfold_calls script go_on c p) a (unfold_calls script go_on c q)
unfold_calls script go_on c (AlphabetisedParallel p a b q) = AlphabetisedParallel (unfold_calls script go_on c p) a b (unfold_calls script go_on c q)
unfold_calls script go_on c (Hiding p a) = Hiding (unfold_calls script go_on c p) a
unfold_calls script go_on c (Renaming p rs) = Renaming (unfold_calls script go_on c p) rs
unfold_calls script go_on c (SlidingChoice p q) = SlidingChoice (unfold_calls script go_on c p) q
unfold_calls script go_on c p = unfolded_or (go_on c) p (stands_for script p)

-- the term, in the body of a call if there is one, with its active calls unfolded, at most n in a row
abbrev pub settled_within : ℕ → Script → Option Process → Process → Process
settled_within zero script c p = p
settled_within (suc n) script c p = unfold_calls script (settled_within n script) c p

abbrev pub settled_by : Unfolding → Script → Process → Process
settled_by ByTau script p = p
settled_by AtOnce script p = settled_within most_unfoldings script None p

-- the term as a step leads to it
abbrev pub settled : Script → Process → Process
settled script p = settled_by script.unfolds script p
