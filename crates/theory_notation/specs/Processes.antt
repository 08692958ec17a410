-- The text of a process.
use Rattle.std.specs.Prelude.{ℕ, Bool, true, false, ◌||◌, List, [], ◌∷◌, ◌++◌, codes}
use Rattle.theory_syntax.specs.Expression.{Expressions, no_expressions, expression_and}
use Rattle.theory_syntax.specs.Process.{Field, Given, Input, InputFrom, Process, Stop, Skip, Omega, Call, Prefix, Guard, If, ExternalChoice, InternalChoice, Sequential, Interleaving, Interrupt, GeneralisedParallel, AlphabetisedParallel, Hiding, Renaming, ReplicatedExternalChoice, ReplicatedInternalChoice, ReplicatedInterleaving, SlidingChoice}
use Rattle.theory_text.specs.Raw.{Infix, ExternalInfix, InternalInfix, SequentialInfix, InterleavingInfix, InterruptInfix, SlidingInfix}
use Rattle.theory_search.specs.Printing.{name_at}
use Rattle.theory_notation.specs.Names.{Names}
use Rattle.theory_notation.specs.Told.{all_told, told}
use Rattle.theory_notation.specs.Marks.{bare_or_bracketed}
use Rattle.theory_notation.specs.Expressions.{expression_text, expressions_behind, operand_text}
use Rattle.theory_notation.specs.EventSets.{event_set_text, pairs_text}

-- ---- shapes

-- What a process is at its head: a base, as `STOP`, a call or what stands in brackets; a prefix or a guard; a chain of one
-- operator; a renaming; a hiding; or anything else, which takes all that follows or has two operands and no third.
pub data Shape : Type 0 where
  Base : Shape
  Prefixed : Shape
  Chain : (operator : Infix) → Shape
  Renamed : Shape
  Hidden : Shape
  Composed : Shape

-- Where a process stands that is no whole one: on the left of an operator, as another operand, in front of `[[`, or in
-- front of `\`.
pub data Position : Type 0 where
  LeftOf : (operator : Infix) → Position
  Operand : Position
  BeforeRenaming : Position
  BeforeHiding : Position

abbrev pub shape : Process → Shape
shape Stop = Base
shape Skip = Base
shape Omega = Base
shape (Call n es) = Base
shape (Prefix c fs p) = Prefixed
shape (Guard e p) = Prefixed
shape (ExternalChoice p q) = Chain ExternalInfix
shape (InternalChoice p q) = Chain InternalInfix
shape (Sequential p q) = Chain SequentialInfix
shape (Interleaving p q) = Chain InterleavingInfix
shape (Interrupt p q) = Chain InterruptInfix
shape (SlidingChoice p q) = Chain SlidingInfix
shape (Renaming p rs) = Renamed
shape (Hiding p a) = Hidden
shape p = Composed

abbrev pub is_same : Infix → Infix → Bool
is_same ExternalInfix ExternalInfix = true
is_same InternalInfix InternalInfix = true
is_same SequentialInfix SequentialInfix = true
is_same InterleavingInfix InterleavingInfix = true
is_same InterruptInfix InterruptInfix = true
is_same SlidingInfix SlidingInfix = true
is_same o q = false

-- Whether it stands there without brackets. A chain goes on with its own operator, renamings stand behind renamings, and
-- hidings behind both.
abbrev pub stands_bare : Position → Shape → Bool
stands_bare (LeftOf o) Base = true
stands_bare (LeftOf o) Prefixed = true
stands_bare (LeftOf o) (Chain q) = is_same o q
stands_bare Operand Base = true
stands_bare Operand Prefixed = true
stands_bare BeforeRenaming Base = true
stands_bare BeforeRenaming Renamed = true
stands_bare BeforeHiding Base = true
stands_bare BeforeHiding Renamed = true
stands_bare BeforeHiding Hidden = true
stands_bare x s = false

-- ---- processes

abbrev pub is_input : Field → Bool
is_input (Given e) = false
is_input f = true

-- what stands before a given field: a dot, which may not stand behind an input
abbrev pub given_mark : (behind_input : Bool) → List ℕ
given_mark false = codes "."
given_mark true = codes "!"

-- A field takes an atom. The set of an input stays as it is written.
abbrev pub field_text : Names → (behind_input : Bool) → Field → List ℕ
field_text names behind_input (Given e) = given_mark behind_input ++ operand_text names 6 (told names e)
field_text names behind_input (Input n) = codes "?" ++ name_at names.bound n
field_text names behind_input (InputFrom n e) = codes "?" ++ (name_at names.bound n ++ (codes ":" ++ operand_text names 6 e))

abbrev pub fields_text : Names → (behind_input : Bool) → List Field → List ℕ
fields_text names behind_input [] = []
fields_text names behind_input (f ∷ fs) = field_text names behind_input f ++ fields_text names (behind_input || is_input f) fs

abbrev pub call_text : Names → ℕ → Expressions → List ℕ
call_text names n no_expressions = name_at names.equations n
call_text names n (expression_and e es) = name_at names.equations n ++ (codes "(" ++ (expression_text names e ++ (expressions_behind names (codes ",") 0 es ++ codes ")")))

abbrev pub infix_text : Infix → List ℕ
infix_text ExternalInfix = codes " [] "
infix_text InternalInfix = codes " |~| "
infix_text SequentialInfix = codes " ; "
infix_text InterleavingInfix = codes " ||| "
infix_text InterruptInfix = codes " /\\ "
infix_text SlidingInfix = codes " [> "

-- two processes that have their texts, with an operator between
abbrev pub chain_text : Infix → (left : Shape) → List ℕ → (right : Shape) → List ℕ → List ℕ
chain_text o s p t q = bare_or_bracketed (stands_bare (LeftOf o) s) p ++ (infix_text o ++ bare_or_bracketed (stands_bare Operand t) q)

-- What gives a value is told by it, with types; the sets of replicated processes stay as they are written. Omega, which no
-- script can write, has a word that begins with `_`, as no token does.
abbrev pub process_text : Names → Process → List ℕ
process_text names Stop = codes "STOP"
process_text names Skip = codes "SKIP"
process_text names Omega = codes "_OMEGA"
process_text names (Call n es) = call_text names n (all_told names es)
process_text names (Prefix c fs p) =
    name_at names.channels c ++ (fields_text names false fs ++ (codes " -> " ++ bare_or_bracketed (stands_bare Operand (shape p)) (process_text names p)))
process_text names (Guard e p) = expression_text names (told names e) ++ (codes " & " ++ bare_or_bracketed (stands_bare Operand (shape p)) (process_text names p))
process_text names (If e p q) =
    codes "if " ++ (expression_text names (told names e) ++ (codes " then " ++ (process_text names p ++ (codes " else " ++ process_text names q))))
process_text names (ExternalChoice p q) = chain_text ExternalInfix (shape p) (process_text names p) (shape q) (process_text names q)
process_text names (InternalChoice p q) = chain_text InternalInfix (shape p) (process_text names p) (shape q) (process_text names q)
process_text names (Sequential p q) = chain_text SequentialInfix (shape p) (process_text names p) (shape q) (process_text names q)
process_text names (Interleaving p q) = chain_text InterleavingInfix (shape p) (process_text names p) (shape q) (process_text names q)
process_text names (Interrupt p q) = chain_text InterruptInfix (shape p) (process_text names p) (shape q) (process_text names q)
process_text names (SlidingChoice p q) = chain_text SlidingInfix (shape p) (process_text names p) (shape q) (process_text names q)
process_text names (GeneralisedParallel p a q) =
    bare_or_bracketed (stands_bare Operand (shape p)) (process_text names p)
    ++ (codes " [| " ++ (event_set_text names a ++ (codes " |] " ++ bare_or_bracketed (stands_bare Operand (shape q)) (process_text names q))))
process_text names (AlphabetisedParallel p a b q) =
    bare_or_bracketed (stands_bare Operand (shape p)) (process_text names p)
    ++ (codes " [" ++ (event_set_text names a ++ (codes " || " ++ (event_set_text names b
    ++ (codes "] " ++ bare_or_bracketed (stands_bare Operand (shape q)) (process_text names q))))))
process_text names (Hiding p a) = bare_or_bracketed (stands_bare BeforeHiding (shape p)) (process_text names p) ++ (codes " \\ " ++ event_set_text names a)
process_text names (Renaming p rs) =
    bare_or_bracketed (stands_bare BeforeRenaming (shape p)) (process_text names p) ++ (codes "[[" ++ (pairs_text names rs ++ codes "]]"))
process_text names (ReplicatedExternalChoice n e p) =
    codes "[] " ++ (name_at names.bound n ++ (codes ":" ++ (operand_text names 6 e ++ (codes " @ " ++ process_text names p))))
process_text names (ReplicatedInternalChoice n e p) =
    codes "|~| " ++ (name_at names.bound n ++ (codes ":" ++ (operand_text names 6 e ++ (codes " @ " ++ process_text names p))))
process_text names (ReplicatedInterleaving n e p) =
    codes "||| " ++ (name_at names.bound n ++ (codes ":" ++ (operand_text names 6 e ++ (codes " @ " ++ process_text names p))))

-- the text of a process where it stands
abbrev pub text_at : Position → Names → Process → List ℕ
text_at x names p = bare_or_bracketed (stands_bare x (shape p)) (process_text names p)
