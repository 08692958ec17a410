-- Processes of the grammar are read, whatever their heights, where the tokens behind them do not go on with them.
use Rattle.theory_reader.proofs.Laws.{reads_to_is}
use Rattle.theory_reader.proofs.Signs.{is_same_word, sign_is_seen, word_is_seen}
use Rattle.theory_reader.specs.Reader.{begins_process, chain_by, fields_by, from_base_by, from_operand_by, hidden_by, infix_at, infix_sign, is_name, is_operator, is_prefix, is_sign, is_suffix, is_word, renamed_by, replicator_at, replicator_sign, body}
use Rattle.theory_text.specs.Height.{Nest}
use Rattle.theory_reader.specs.Programs.{Here, Outcome, Seen, SeenSign, SeenWord, Standing, and_then, run_to, seen, pass, give, refuse}
use Rattle.theory_reader.proofs.CompleteEvents.{Fieldless, is_next, later_fields_get, later_loose, not_next, or_true, pairs_get, set_after, undotted_at, at_field}
use Rattle.theory_text.specs.Raw.{ExternalInfix, ExternalReplicator, Infix, InterleavingInfix, InterleavingReplicator, InternalInfix, InternalReplicator, InterruptInfix, RawAlphabetisedParallel, RawCall, RawEventSet, RawExpression, RawExpressions, RawField, RawGeneralisedParallel, RawGiven, RawGuard, RawHiding, RawIf, RawInfix, RawName, RawPair, RawPrefix, RawProcess, RawRenaming, RawReplicated, RawSkip, RawStop, Replicator, SequentialInfix, SlidingInfix, no_raw_expressions, raw_expression_and}
use Rattle.theory_reader.proofs.CompleteStarts.{Closed, behind_name_by, expression_begins, from_name_by, guard_by_next, inner_by_next, inner_name_by, inner_of_dotted_next, inner_of_name_by_next, name_first, name_tests, none_of, not_ok, or_none, same_ok, start_of_brackets, start_of_name, stuck_process, then_ok, process_by_next, start_by_next}
use Rattle.theory_text.specs.Token.{ArrowSign, AtSign, BoxSign, CloseRenamingSign, CloseRoundSign, CloseSharedSign, CloseSquareSign, ColonSign, CommaSign, DotSign, DoubleBarSign, ElseWord, GuardSign, HidingSign, IfWord, InputSign, InternalSign, InterruptSign, Keyword, NameToken, OpenRenamingSign, OpenRoundSign, OpenSharedSign, OpenSquareSign, OutputSign, PlacedToken, SemicolonSign, Sign, SignToken, SkipWord, SlidingSign, StopWord, ThenWord, Token, TripleBarSign}
use Rattle.theory_reader.specs.Forms.{AlphabetisedFrom, Arguments, AtLevel, Atom, Behind, CallOf, ChainMore, ChainOver, Conditional, Conjunction, Disjunction, Dotted, FieldsBehind, FromBase, FromOperand, GeneralisedFrom, GuardOf, HiddenFrom, InnerFrom, InnerFromName, InnerFromStart, InnerName, InnerOfDotted, InnerOfName, InnerProcess, InnerTree, Listed, NameBehind, OfCondition, OfInner, OfOperand, OfProcess, OfSign, OfStart, OperandBehind, PrefixBehind, PrefixOf, ProcessBehind, ProcessBehindWord, ProcessFrom, Product, RenamedFrom, ReplicatedOver, SkipStart, StartBehindName, StartExpression, StartFromName, StartName, StartOfExpression, StartTree, StopStart, Sum, raw_list, StartBase, StartOperand}
use Rattle.std.proofs.Common.{◌≡◌, ◌∙◌, ℕ, ◌<◌, Bool, true, false, List, [], ◌∷◌, ◌++◌, map, refl, sym, ap, subst, Option, Some, None, is_some, arith, append_assoc, inl, inr, cond}
use Rattle.std.proofs.lemmas.Bool.{cases_Bool}
use Rattle.std.specs.Prelude.{◌⊎◌, ◌||◌, Ok, Err}
use Rattle.theory_text.specs.Grammar.{IsName, name, IsSign, sign, IsWord, word, IsReplicator, AreDotted, AreFields, AreLaterFields, ArePairs, IsAtom, IsBase, IsChain, IsEventSet, IsExpression, IsHidden, IsHidingPart, IsInfix, IsOperand, IsProcess, IsRenamed, IsRenamingPart}
use Rattle.theory_reader.proofs.Tightness.{tightness, Stops, stops_at, stops_at_word, parts3, parts4, parts5, parts6, parts7}
use Rattle.theory_reader.proofs.CompleteExpressions.{Tokens, free, Gets, next, Items, Whole, atom_gets, behind_gets, dots_get, dotted_dots, expression_read, expressions_items, gets_name, gets_sign, gets_word, items_get, list_back, loose_compared, sign_next, loose, alone, behind, assoc, list_of}
use Rattle.theory_reader.proofs.Local.{at, rest}

-- WHAT THE NEXT TOKENS TELL

loose_operator : (r : Tokens) → Stops 7 r → is_operator (next r) ≡ false
loose_operator r s =
    rw (
      loose_compared r (omega (arith, s)),
      loose Product r (omega (arith, s)),
      loose Sum r (omega (arith, s)),
      loose Conjunction r (omega (arith, s)),
      loose Disjunction r s,
    ) refl

no_prefix : (r : Tokens) → Stops 6 r → is_prefix (next r) ≡ false
no_prefix r s = rw (not_next DotSign 6 r s (omega arith), not_next OutputSign 6 r s (omega arith), not_next InputSign 6 r s (omega arith), not_next ArrowSign 6 r s (omega arith)) refl

no_suffix : (r : Tokens) → Stops 3 r → is_suffix (next r) ≡ false
no_suffix r s = rw (not_next OpenRenamingSign 3 r s (omega arith), not_next HidingSign 3 r s (omega arith)) refl

infix_tight : (k : Token) → tightness k < 2 → infix_at (Some (seen k)) ≡ None
infix_tight (SignToken BoxSign) h = absurd (omega (arith, h))
infix_tight (SignToken InternalSign) h = absurd (omega (arith, h))
infix_tight (SignToken SemicolonSign) h = absurd (omega (arith, h))
infix_tight (SignToken TripleBarSign) h = absurd (omega (arith, h))
infix_tight (SignToken InterruptSign) h = absurd (omega (arith, h))
infix_tight (SignToken SlidingSign) h = absurd (omega (arith, h))
infix_tight _ h = refl

no_infix : (r : Tokens) → Stops 2 r → infix_at (next r) ≡ None
no_infix [] s = refl
no_infix (t ∷ ts) s = infix_tight t.token s

infix_is_sign : {b : Tokens} {o : Infix} → IsInfix b o → IsSign (infix_sign o) b
infix_is_sign (IsInfix.external_infix k) = k
infix_is_sign (IsInfix.internal_infix k) = k
infix_is_sign (IsInfix.sequential_infix k) = k
infix_is_sign (IsInfix.interleaving_infix k) = k
infix_is_sign (IsInfix.interrupt_infix k) = k
infix_is_sign (IsInfix.sliding_infix k) = k

infix_loose : (o : Infix) → tightness (SignToken (infix_sign o)) ≡ 2
infix_loose ExternalInfix = refl
infix_loose InternalInfix = refl
infix_loose SequentialInfix = refl
infix_loose InterleavingInfix = refl
infix_loose InterruptInfix = refl
infix_loose SlidingInfix = refl

-- what is told of a sign that is next
pub sign_seen : (s : Sign) {b : Tokens} → IsSign s b → (r : Tokens) → next (b ++ r) ≡ Some (SeenSign s)
sign_seen s (sign t e) r = ap (λ k. Some (seen k)) e

pub word_seen : (k : Keyword) {b : Tokens} → IsWord k b → (r : Tokens) → next (b ++ r) ≡ Some (SeenWord k)
word_seen k (word t e) r = ap (λ x. Some (seen x)) e

infix_seen : (o : Infix) → infix_at (Some (SeenSign (infix_sign o))) ≡ Some o
infix_seen ExternalInfix = refl
infix_seen InternalInfix = refl
infix_seen SequentialInfix = refl
infix_seen InterleavingInfix = refl
infix_seen InterruptInfix = refl
infix_seen SlidingInfix = refl

no_suffix_over : (o : Infix) → is_suffix (Some (SeenSign (infix_sign o))) ≡ false
unfolding is_sign
no_suffix_over ExternalInfix = refl
no_suffix_over InternalInfix = refl
no_suffix_over SequentialInfix = refl
no_suffix_over InterleavingInfix = refl
no_suffix_over InterruptInfix = refl
no_suffix_over SlidingInfix = refl

-- what begins a process that is no operand begins no other start
process_tests : (k : Option Seen) → begins_process k ≡ true → (is_word StopWord k ≡ false) × (is_word SkipWord k ≡ false) × (is_name k ≡ false) × (is_sign OpenRoundSign k ≡ false)
unfolding is_word is_sign is_name
process_tests (Some (SeenWord k)) e = let is = word_is_seen IfWord (Some (SeenWord k)) e in (ap (is_word StopWord) is, ap (is_word SkipWord) is, refl, refl)
process_tests (Some (SeenSign BoxSign)) e = (refl, refl, refl, refl)
process_tests (Some (SeenSign InternalSign)) e = (refl, refl, refl, refl)
process_tests (Some (SeenSign TripleBarSign)) e = (refl, refl, refl, refl)
process_tests _ e = absurd (cc e)

-- TURNS

from_base_next : (p : RawProcess) (q : Standing) (b : Bool) → is_suffix (next q.left) ≡ b → free (FromBase p) q ≡ run_to false free (from_base_by p b) q
unfolding body
from_base_next p q b e = reads_to_is false (FromBase p) q ∙ ap (λ x. run_to false free (from_base_by p x) q) e

renamed_next : (p : RawProcess) (q : Standing) (b : Bool) → is_sign OpenRenamingSign (next q.left) ≡ b → free (RenamedFrom p) q ≡ run_to false free (renamed_by p b) q
unfolding body
renamed_next p q b e = reads_to_is false (RenamedFrom p) q ∙ ap (λ x. run_to false free (renamed_by p x) q) e

hidden_next : (p : RawProcess) (q : Standing) (b : Bool) → is_sign HidingSign (next q.left) ≡ b → free (HiddenFrom p) q ≡ run_to false free (hidden_by p b) q
unfolding body
hidden_next p q b e = reads_to_is false (HiddenFrom p) q ∙ ap (λ x. run_to false free (hidden_by p x) q) e

from_operand_next : (p : RawProcess) (q : Standing) (o : Option Infix) (b c : Bool) → infix_at (next q.left) ≡ o → is_sign OpenSharedSign (next q.left) ≡ b → is_sign OpenSquareSign (next q.left) ≡ c → free (FromOperand p) q ≡ run_to false free (from_operand_by p o b c) q
unfolding body
from_operand_next p q o b c e f g =
    let k = next q.left in
    reads_to_is false (FromOperand p) q ∙ ap (λ x. run_to false free (from_operand_by p x (is_sign OpenSharedSign k) (is_sign OpenSquareSign k)) q) e ∙ ap (λ x. run_to false free (from_operand_by p o x (is_sign OpenSquareSign k)) q) f
    ∙ ap (λ x. run_to false free (from_operand_by p o b x) q) g

chain_next : (o : Infix) (p : RawProcess) (q : Standing) (b : Bool) → is_sign (infix_sign o) (next q.left) ≡ b → free (ChainMore o p) q ≡ run_to false free (chain_by o p b) q
unfolding body
chain_next o p q b e = reads_to_is false (ChainMore o p) q ∙ ap (λ x. run_to false free (chain_by o p x) q) e

-- WHAT BEGINS WITH AN OPERAND

start_stuck : (ts : Tokens) (n : Nest) → begins_process (next ts) ≡ true → free OfStart (at ts n) ≡ Err (Here, ts)
unfolding body
start_stuck ts n e =
    let (stop, skip, named, round) = process_tests (next ts) e in
    start_by_next (at ts n) false false false false stop skip named round ∙ alone (free StartOfExpression (at ts n)) ∙ rw (reads_to_is false StartOfExpression (at ts n), stuck_process ts e n) refl

-- a process that begins with an operand is no other
process_of_start : (ts : Tokens) (n : Nest) (t : StartTree) (q : Standing) → free OfStart (at ts n) ≡ Ok (t, q) → begins_process (next ts) ≡ false
unfolding body
process_of_start ts n t q h = elim (cases_Bool (begins_process (next ts))) [
  | inr e ↦ e
  | inl e ↦ absurd (not_ok h (start_stuck ts n e))
]

process_goes : (ts : Tokens) (n : Nest) (t : StartTree) (q : Standing) → free OfStart (at ts n) ≡ Ok (t, q) → free OfProcess (at ts n) ≡ free (ProcessFrom t) q
process_goes ts n t q h =
    let (over, condition) = or_none (is_some (replicator_at (next ts))) (is_word IfWord (next ts)) (process_of_start ts n t q h) in
    process_by_next (at ts n) false None condition (none_of (replicator_at (next ts)) over) ∙ rw h (alone (free (ProcessFrom t) q))

-- the start is this operand, this base
abbrev IsOperandTree : StartTree → RawProcess → Type 0
IsOperandTree (StartName v) p = p ≡ RawCall v no_raw_expressions
IsOperandTree (StartExpression e) p = ⊥
IsOperandTree (StartBase q) p = p ≡ q
IsOperandTree (StartOperand q) p = p ≡ q

abbrev IsBaseTree : StartTree → RawProcess → Type 0
IsBaseTree (StartName v) p = p ≡ RawCall v no_raw_expressions
IsBaseTree (StartExpression e) p = ⊥
IsBaseTree (StartBase q) p = p ≡ q
IsBaseTree (StartOperand q) p = ⊥

abbrev Begins : (StartTree → RawProcess → Type 0) → Standing → RawProcess → Tokens → Type 0
Begins Is s p r = (t : StartTree) × Is t p × (m : Nest) × (free OfStart s ≡ Ok (t, at r m))

base_tree : (t : StartTree) (p : RawProcess) → IsBaseTree t p → IsOperandTree t p
base_tree (StartName v) p e = e
base_tree (StartExpression x) p e = e
base_tree (StartBase q) p e = e
base_tree (StartOperand q) p e = elim e [ ]

on_base : (t : StartTree) (p : RawProcess) (q : Standing) → IsBaseTree t p → free (ProcessFrom t) q ≡ free (FromBase p) q
unfolding body
on_base (StartName v) p q e = reads_to_is false (ProcessFrom (StartName v)) q ∙ alone (free (FromBase (RawCall v (raw_list []))) q) ∙ ap (λ z. free (FromBase z) q) (sym e)
on_base (StartExpression x) p q e = elim e [ ]
on_base (StartBase b) p q e = reads_to_is false (ProcessFrom (StartBase b)) q ∙ alone (free (FromBase b) q) ∙ ap (λ z. free (FromBase z) q) (sym e)
on_base (StartOperand b) p q e = elim e [ ]

bare_base : (p : RawProcess) (q : Standing) → is_suffix (next q.left) ≡ false → free (FromBase p) q ≡ free (FromOperand p) q
bare_base p q s = from_base_next p q false s ∙ alone (free (FromOperand p) q)

on_operand : (t : StartTree) (p : RawProcess) (q : Standing) → IsOperandTree t p → is_suffix (next q.left) ≡ false → free (ProcessFrom t) q ≡ free (FromOperand p) q
unfolding body
on_operand (StartName v) p q e s = on_base (StartName v) p q e ∙ bare_base p q s
on_operand (StartExpression x) p q e s = elim e [ ]
on_operand (StartBase b) p q e s = on_base (StartBase b) p q e ∙ bare_base p q s
on_operand (StartOperand b) p q e s = reads_to_is false (ProcessFrom (StartOperand b)) q ∙ alone (free (FromOperand b) q) ∙ ap (λ z. free (FromOperand z) q) (sym e)

operand_taken : (t : StartTree) (p : RawProcess) (s q : Standing) → IsOperandTree t p → free OfStart s ≡ Ok (t, q) → free OfOperand s ≡ Ok (p, q)
unfolding body
operand_taken (StartName v) p s q e h = rw (reads_to_is false OfOperand s, h) refl ∙ ap (λ z. Ok (z, q)) (sym e)
operand_taken (StartExpression x) p s q e h = elim e [ ]
operand_taken (StartBase b) p s q e h = rw (reads_to_is false OfOperand s, h) refl ∙ ap (λ z. Ok (z, q)) (sym e)
operand_taken (StartOperand b) p s q e h = rw (reads_to_is false OfOperand s, h) refl ∙ ap (λ z. Ok (z, q)) (sym e)

abbrev WholeOperand : Tokens → RawProcess → Type 0
WholeOperand a p = (r : Tokens) → Stops 5 r → (n : Nest) → Begins IsOperandTree (at (a ++ r) n) p r

abbrev WholeBase : Tokens → RawProcess → Type 0
WholeBase a p = (r : Tokens) → Stops 5 r → (n : Nest) → Begins IsBaseTree (at (a ++ r) n) p r

abbrev WholeProcess : Tokens → RawProcess → Type 0
WholeProcess a p = (r : Tokens) → Stops 2 r → (n : Nest) → Gets (free OfProcess (at (a ++ r) n)) p r

operand_gets : (a : Tokens) (p : RawProcess) → WholeOperand a p → (r : Tokens) → Stops 5 r → (n : Nest) → Gets (free OfOperand (at (a ++ r) n)) p r
operand_gets a p h r s n = let (t, is, m, e) = h r s n in (m, operand_taken t p (at (a ++ r) n) (at r m) is e)

operand_after : (s : Sign) {a : Tokens} (b : Tokens) (p : RawProcess) → IsSign s a → WholeOperand b p → (r : Tokens) → Stops 5 r → (n : Nest) → Gets (free (OperandBehind s) (at (a ++ (b ++ r)) n)) p r
unfolding body
operand_after s {a = a} b p k h r stops n =
    let (m, e) = gets_sign s k (b ++ r) n in
    let (i, f) = operand_gets b p h r stops m in
    (i, rw (reads_to_is false (OperandBehind s) (at (a ++ (b ++ r)) n), e, f) refl)

pub process_after : (s : Sign) {a : Tokens} (b : Tokens) (p : RawProcess) → IsSign s a → WholeProcess b p → (r : Tokens) → Stops 2 r → (n : Nest) → Gets (free (ProcessBehind s) (at (a ++ (b ++ r)) n)) p r
unfolding body
process_after s {a = a} b p k h r stops n =
    let (m, e) = gets_sign s k (b ++ r) n in
    let (i, f) = h r stops m in
    (i, rw (reads_to_is false (ProcessBehind s) (at (a ++ (b ++ r)) n), e, f) refl)

process_after_word : (w : Keyword) {a : Tokens} (b : Tokens) (p : RawProcess) → IsWord w a → WholeProcess b p → (r : Tokens) → Stops 2 r → (n : Nest) → Gets (free (ProcessBehindWord w) (at (a ++ (b ++ r)) n)) p r
unfolding body
process_after_word w {a = a} b p k h r stops n =
    let (m, e) = gets_word w k (b ++ r) n in
    let (i, f) = h r stops m in
    (i, rw (reads_to_is false (ProcessBehindWord w) (at (a ++ (b ++ r)) n), e, f) refl)

-- BASES

named : (v : RawName) (q : Standing) → Stops 5 q.left → free (StartBehindName v) q ≡ Ok (StartName v, q)
named v q s =
    behind_name_by v q false false (not_next OpenRoundSign 5 q.left s (omega arith)) (no_prefix q.left (omega (arith, s))) ∙ alone (free (StartFromName v) q)
    ∙ from_name_by v q false (rw (loose_operator q.left (omega (arith, s)), not_next GuardSign 5 q.left s (omega arith)) refl)

named_alone : (v : RawName) (q : Standing) → Stops 5 q.left → free (StartFromName v) q ≡ Ok (StartName v, q)
named_alone v q s = from_name_by v q false (rw (loose_operator q.left (omega (arith, s)), not_next GuardSign 5 q.left s (omega arith)) refl)

stop_begins : {a : Tokens} → IsWord StopWord a → WholeBase a RawStop
unfolding body is_word
stop_begins k r s n =
    let (m, e) = gets_word StopWord k r n in
    let q = at (_ ++ r) n in
    (StartBase RawStop, refl, m, start_by_next q true _ _ _ (ap (is_word StopWord) (word_seen StopWord k r) ∙ is_same_word StopWord) refl refl refl ∙ alone (free StopStart q) ∙ rw (reads_to_is false StopStart q, e) refl)

skip_begins : {a : Tokens} → IsWord SkipWord a → WholeBase a RawSkip
unfolding body is_word
skip_begins k r s n =
    let (m, e) = gets_word SkipWord k r n in
    let q = at (_ ++ r) n in
    (StartBase RawSkip, refl, m, start_by_next q false true _ _ (ap (is_word StopWord) (word_seen SkipWord k r)) (ap (is_word SkipWord) (word_seen SkipWord k r) ∙ is_same_word SkipWord) refl refl ∙ alone (free SkipStart q) ∙ rw (reads_to_is false SkipStart q, e) refl)

-- a name, and what is behind it
behind_name_is : {a : Tokens} {v : RawName} → IsName a v → (r : Tokens) (n : Nest) → (m : Nest) × (free OfStart (at (a ++ r) n) ≡ free (StartBehindName v) (at r m))
behind_name_is (name t cs e) r n = let (m, p) = gets_name (name t cs e) r n in (m, start_of_name t cs r n m e p)

call_begins : {a : Tokens} {v : RawName} → IsName a v → WholeBase a (RawCall v no_raw_expressions)
call_begins {v = v} h r s n = let (m, e) = behind_name_is h r n in (StartName v, refl, m, e ∙ named v (at r m) s)

arguments_get : {b d : Tokens} (c : Tokens) (es : RawExpressions) → IsSign OpenRoundSign b → Items Disjunction c es → IsSign CloseRoundSign d → (r : Tokens) (n : Nest) → Gets (free Arguments (at (b ++ (c ++ (d ++ r))) n)) (list_of es) r
unfolding body is_sign
arguments_get {b = b} {d = d} c es k hs l r n =
    let (m, e) = gets_sign OpenRoundSign k (c ++ (d ++ r)) n in
    let (i, f) = items_get Disjunction (omega arith) hs [] (d ++ r) (stops_at 7 r l (omega arith)) (sign_next CloseRoundSign l CommaSign r) m in
    let (j, g) = gets_sign CloseRoundSign l r i in
    let q = at (b ++ (c ++ (d ++ r))) n in
    let first : free (Behind OpenRoundSign Disjunction) q ≡ free (AtLevel Disjunction) (at (c ++ (d ++ r)) m) =
    reads_to_is false (Behind OpenRoundSign Disjunction) q ∙ rw e (alone (free (AtLevel Disjunction) (at (c ++ (d ++ r)) m))) in
    let both : and_then (free (Behind OpenRoundSign Disjunction) q) (λ x. free (Listed Disjunction (x ∷ []))) ≡ Ok (list_of es, at (d ++ r) i) = ap (λ o. and_then o (λ x. free (Listed Disjunction (x ∷ [])))) first ∙ f in
    (j, reads_to_is false Arguments q ∙ sym (assoc (free (Behind OpenRoundSign Disjunction) q) (λ x. free (Listed Disjunction (x ∷ []))) (λ xs p. and_then (free (OfSign CloseRoundSign) p) (λ _ w. Ok (xs, w)))) ∙ rw (both, g) refl)

call_with_begins : {a b d : Tokens} (c : Tokens) (v : RawName) (es : RawExpressions) → IsName a v → IsSign OpenRoundSign b → Items Disjunction c es → IsSign CloseRoundSign d → WholeBase (a ++ b ++ c ++ d) (RawCall v es)
unfolding body
call_with_begins {a = a} {b = b} {d = d} c v es h k hs l r s n =
    let (m, e) = behind_name_is h (b ++ (c ++ (d ++ r))) n in
    let (i, f) = arguments_get c es k hs l r m in
    let q = at (b ++ (c ++ (d ++ r))) m in (
      StartBase (RawCall v es),
      refl,
      i,
      ap (λ z. free OfStart (at z n)) (parts4 a b c d r) ∙ e ∙ behind_name_by v q true _ (is_next OpenRoundSign k (c ++ (d ++ r))) refl ∙ alone (free (CallOf v) q)
          ∙ rw (reads_to_is false (CallOf v) q, f) refl ∙ ap (λ z. Ok (StartBase (RawCall v z), at r i)) (list_back es),
    )

-- what a process in brackets is read as
abbrev Encloses : Standing → RawProcess → Standing → Type 0
Encloses s p q = (free OfInner s ≡ Ok (InnerProcess p, q)) ⊎ ((v : RawName) × (p ≡ RawCall v no_raw_expressions) × (free OfInner s ≡ Ok (InnerName v, q)))

inner_of : (t : StartTree) (q p : Standing) (x : RawProcess) (o : Outcome InnerTree) → o ≡ free (InnerFrom t) q → free (ProcessFrom t) q ≡ Ok (x, p) → Closed p.left →
    (o ≡ Ok (InnerProcess x, p)) ⊎ ((v : RawName) × (x ≡ RawCall v no_raw_expressions) × (o ≡ Ok (InnerName v, p)))
unfolding body is_sign
inner_of (StartName v) q p x o is h c = elim (cases_Bool (is_sign CloseRoundSign (next q.left))) [
  | inl e ↦
      let seen_close = sign_is_seen CloseRoundSign (next q.left) e in
      let ends : free (ProcessFrom (StartName v)) q ≡ Ok (RawCall v no_raw_expressions, q) =
      on_base (StartName v) (RawCall v no_raw_expressions) q refl ∙ bare_base (RawCall v no_raw_expressions) q (ap is_suffix seen_close)
      ∙ from_operand_next (RawCall v no_raw_expressions) q None false false (ap infix_at seen_close) (ap (is_sign OpenSharedSign) seen_close) (ap (is_sign OpenSquareSign) seen_close) in
      let (tree, same) = same_ok h ends in
      inr (v, tree, is ∙ reads_to_is false (InnerFrom (StartName v)) q ∙ alone (free (InnerFromName v) q) ∙ inner_name_by v q true e ∙ ap (λ z. Ok (InnerName v, z)) (sym same))
  | inr e ↦
      inl (is ∙ reads_to_is false (InnerFrom (StartName v)) q ∙ alone (free (InnerFromName v) q) ∙ inner_name_by v q false e ∙ alone (free (InnerFromStart (StartName v)) q) ∙ rw (reads_to_is false (InnerFromStart (StartName v)) q, h) refl)
]
inner_of (StartExpression e) q p x o is h c = absurd (not_ok h (reads_to_is false (ProcessFrom (StartExpression e)) q))
inner_of (StartBase b) q p x o is h c = inl (is ∙ reads_to_is false (InnerFrom (StartBase b)) q ∙ alone (free (InnerFromStart (StartBase b)) q) ∙ rw (reads_to_is false (InnerFromStart (StartBase b)) q, h) refl)
inner_of (StartOperand b) q p x o is h c = inl (is ∙ reads_to_is false (InnerFrom (StartOperand b)) q ∙ alone (free (InnerFromStart (StartOperand b)) q) ∙ rw (reads_to_is false (InnerFromStart (StartOperand b)) q, h) refl)

-- behind a name and its fields a prefix goes on with an arrow or a field
no_prefix_read : (v : RawName) (es : List RawExpression) (q p : Standing) (t : StartTree) → is_prefix (next q.left) ≡ false → free (PrefixBehind v es) q ≡ Ok (t, p) → ⊥
unfolding body
no_prefix_read v es q p t none h =
    let k = next q.left in
    let (three, arrow) = or_none (is_sign DotSign k || is_sign OutputSign k || is_sign InputSign k) (is_sign ArrowSign k) none in
    let (two, input) = or_none (is_sign DotSign k || is_sign OutputSign k) (is_sign InputSign k) three in
    let (dot, output) = or_none (is_sign DotSign k) (is_sign OutputSign k) two in
    let nothing : at_field q.left ≡ false = rw (output, input) refl in
    let fields : free (FieldsBehind (map RawGiven es)) q ≡ Ok (map RawGiven es, q) = reads_to_is false (FieldsBehind (map RawGiven es)) q ∙ ap (λ b. run_to false free (fields_by (map RawGiven es) b) q) nothing in
    let stops : free (OfSign ArrowSign) q ≡ Err (Here, q.left) = reads_to_is false (OfSign ArrowSign) q ∙ ap (λ b. run_to false free (cond b (pass (give (tt {0}))) refuse) q) arrow in
    not_ok {e = (Here, q.left)} h (rw (reads_to_is false (PrefixBehind v es) q, fields, reads_to_is false (OperandBehind ArrowSign) q, stops) refl)

dot_prefix : (k : Option Seen) → is_sign DotSign k ≡ true → (is_sign OpenRoundSign k ≡ false) × (is_prefix k ≡ true)
unfolding is_sign
dot_prefix k e = let is = sign_is_seen DotSign k e in (ap (is_sign OpenRoundSign) is, ap is_prefix is)

named_encloses : (t : PlacedToken) (cs : List ℕ) (us : Tokens) (n : Nest) (x : RawProcess) (p : Standing) → t.token ≡ NameToken cs → free OfProcess (at (t ∷ us) n) ≡ Ok (x, p) → Closed p.left → Encloses (at (t ∷ us) n) x p
unfolding body
named_encloses t cs us n x p is h c =
    let v : RawName = record { spelling = cs; place = t.place } in
    let s = at (t ∷ us) n in
    let (m, named) = gets_name (name t cs is) us n in
    let (stop, skip, name_is, process, not) = name_tests t cs us is in
    let (over, condition) = or_none (is_some (replicator_at (next (t ∷ us)))) (is_word IfWord (next (t ∷ us))) process in
    let start = start_of_name t cs us n m is named in
    let whole : free OfProcess s ≡ and_then (free (StartBehindName v) (at us m)) (λ z. free (ProcessFrom z)) =
    process_by_next s false None condition (none_of (replicator_at (next (t ∷ us))) over) ∙ behind (free OfStart s) (λ z. free (ProcessFrom z)) ∙ ap (λ o. and_then o (λ z. free (ProcessFrom z))) start in
    let (z, q, begun, rest) = then_ok (free (StartBehindName v) (at us m)) (λ z. free (ProcessFrom z)) x p (sym whole ∙ h) in
    let inner : free OfInner s ≡ free InnerOfName s = inner_by_next s false true process name_is ∙ alone (free InnerOfName s) in
    elim (cases_Bool (is_sign DotSign (next us))) [
      | inr d ↦ inner_of z q p x (free OfInner s) (inner ∙ inner_of_name_by_next s (at us m) v false named d ∙ ap (λ o. and_then o (λ y w. and_then (free (InnerFrom y) w) (λ i k. Ok (i, k)))) begun ∙ alone (free (InnerFrom z) q)) rest c
      | inl d ↦
          let (round, fields) = dot_prefix (next us) d in
          let prefixed : free (StartBehindName v) (at us m) ≡ and_then (free (Dotted []) (at us m)) (λ es. free (PrefixBehind v es)) =
          behind_name_by v (at us m) false true round fields ∙ alone (free (PrefixOf v) (at us m)) ∙ reads_to_is false (PrefixOf v) (at us m) ∙ behind (free (Dotted []) (at us m)) (λ es. free (PrefixBehind v es)) in
          let (es, w, dots, last) = then_ok (free (Dotted []) (at us m)) (λ es. free (PrefixBehind v es)) z q (sym prefixed ∙ begun) in
          let dotted = inner ∙ inner_of_name_by_next s (at us m) v true named d ∙ alone (free (InnerOfDotted v) (at us m)) in
          elim (cases_Bool (is_prefix (next w.left))) [
            | inr none ↦ absurd (no_prefix_read v es w q z none last)
            | inl some ↦
                let ends : free (InnerFromStart z) q ≡ Ok (InnerProcess x, p) = rw (reads_to_is false (InnerFromStart z) q, rest) refl in
                inl (dotted ∙ inner_of_dotted_next v (at us m) w es true dots some ∙ ap (λ o. and_then o (λ y w. and_then (free (InnerFromStart y) w) (λ i k. Ok (i, k)))) last ∙ alone (free (InnerFromStart z) q) ∙ ends)
          ]
    ]

-- a process in front of a closing bracket is read between brackets
encloses : (ts : Tokens) (n : Nest) (x : RawProcess) (p : Standing) → free OfProcess (at ts n) ≡ Ok (x, p) → Closed p.left → Encloses (at ts n) x p
encloses ts n x p h c = elim (cases_Bool (begins_process (next ts))) [
  | inl b ↦ inl (inner_by_next (at ts n) true _ b refl ∙ rw h refl)
  | inr b ↦ elim (cases_Bool (is_name (next ts))) [
    | inl d ↦ let (t, us, cs, same, is) = name_first ts d in subst (λ z. Encloses (at z n) x p) (sym same) (named_encloses t cs us n x p is (ap (λ z. free OfProcess (at z n)) (sym same) ∙ h) c)
    | inr d ↦
        let (over, condition) = or_none (is_some (replicator_at (next ts))) (is_word IfWord (next ts)) b in
        let whole : free OfProcess (at ts n) ≡ and_then (free OfStart (at ts n)) (λ z. free (ProcessFrom z)) =
        process_by_next (at ts n) false None condition (none_of (replicator_at (next ts)) over) ∙ behind (free OfStart (at ts n)) (λ z. free (ProcessFrom z)) in
        let (z, q, begun, rest) = then_ok (free OfStart (at ts n)) (λ z. free (ProcessFrom z)) x p (sym whole ∙ h) in
        inner_of z q p x (free OfInner (at ts n)) (inner_by_next (at ts n) false false b d ∙ ap (λ o. and_then o (λ y w. and_then (free (InnerFrom y) w) (λ i k. Ok (i, k)))) begun ∙ alone (free (InnerFrom z) q)) rest c
  ]
]

bracketed_begins : {a c : Tokens} (b : Tokens) (p : RawProcess) → IsSign OpenRoundSign a → WholeProcess b p → IsSign CloseRoundSign c → WholeBase (a ++ b ++ c) p
bracketed_begins {c = c} b p (sign t is) h l r s n =
    let (m, opens) = gets_sign OpenRoundSign (sign t is) (b ++ (c ++ r)) n in
    let (i, read) = h (c ++ r) (stops_at 2 r l (omega arith)) m in
    let (j, closes) = gets_sign CloseRoundSign l r i in
    let shape = parts3 (t ∷ []) b c r in
    elim (encloses (b ++ (c ++ r)) m p (at (c ++ r) i) read (is_next CloseRoundSign l r)) [
      | inl k ↦ (StartBase p, refl, j, ap (λ z. free OfStart (at z n)) shape ∙ start_of_brackets t (b ++ (c ++ r)) n m (InnerProcess p) (at (c ++ r) i) (at r j) is opens k closes)
      | inr k ↦ (StartName k.0, k.1, j, ap (λ z. free OfStart (at z n)) shape ∙ start_of_brackets t (b ++ (c ++ r)) n m (InnerName k.0) (at (c ++ r) i) (at r j) is opens k.2 closes ∙ alone (free (StartFromName k.0) (at r j)) ∙ named_alone k.0 (at r j) s)
    ]

-- OPERANDS

guard_begins : {b : Tokens} (a c : Tokens) (e : RawExpression) (p : RawProcess) → IsExpression a e → IsSign GuardSign b → WholeOperand c p → WholeOperand (a ++ b ++ c) (RawGuard e p)
unfolding is_sign
guard_begins {b = b} a c e p h k i r s n =
    let (m, read) = expression_read a e h (b ++ (c ++ r)) (stops_at 7 (c ++ r) k (omega arith)) n in
    let (j, after) = operand_after GuardSign c p k i r s m in
    let guard : free (GuardOf e) (at (b ++ (c ++ r)) m) ≡ Ok (StartOperand (RawGuard e p), at r j) = guard_by_next e (at (b ++ (c ++ r)) m) true (is_next GuardSign k (c ++ r)) ∙ rw after refl in
    elim (expression_begins (a ++ (b ++ (c ++ r))) n e (at (b ++ (c ++ r)) m) read (inr (is_next GuardSign k (c ++ r)))) [
      | inl f ↦ (StartOperand (RawGuard e p), refl, j, ap (λ z. free OfStart (at z n)) (parts3 a b c r) ∙ f ∙ guard)
      | inr f ↦ let both = sym (sign_next GuardSign k CloseRoundSign (c ++ r)) ∙ f.2 in absurd (cc both)
    ]

-- fields of a prefix are those with a dot and later ones
data Split : Tokens → List RawField → Type 0 where
  split : (b c : Tokens) (es : RawExpressions) (fs : List RawField) → AreDotted b es → AreLaterFields c fs → Split (b ++ c) (map RawGiven (list_of es) ++ fs)

one_dotted : (a b c : Tokens) (e : RawExpression) (fs : List RawField) → IsSign DotSign a → IsAtom b e → Split c fs → Split (a ++ b ++ c) (RawGiven e ∷ fs)
one_dotted a b _ e _ k h (split c d es fs hs t) = subst (λ z. Split z (RawGiven e ∷ (map RawGiven (list_of es) ++ fs))) (append_assoc (a ++ b) c d) (split (a ++ b ++ c) d (raw_expression_and e es) fs (AreDotted.dotted k h hs) t)

fields_split : {a : Tokens} {fs : List RawField} → AreFields a fs → Split a fs
fields_split (AreFields.later_fields {a = a} {fs = fs} t) = split [] a no_raw_expressions fs AreDotted.no_dotted t
fields_split (AreFields.dotted_field {a = a} {b = b} {c = c} {e = e} {fs = fs} k h hs) = one_dotted a b c e fs k h (fields_split hs)

prefix_next : {b c d : Tokens} {es : RawExpressions} {fs : List RawField} → AreDotted b es → AreLaterFields c fs → IsSign ArrowSign d → (r : Tokens) → (is_sign OpenRoundSign (next (b ++ (c ++ (d ++ r)))) ≡ false) × (is_prefix (next (b ++ (c ++ (d ++ r)))) ≡ true)
unfolding is_sign
prefix_next (AreDotted.dotted {a = a} {b = b} {c = c} k h hs) t l r =
    let is = ap next (parts3 a b c (_ ++ (_ ++ r))) ∙ sign_seen DotSign k (b ++ (c ++ (_ ++ (_ ++ r)))) in (ap (is_sign OpenRoundSign) is, ap is_prefix is)
prefix_next AreDotted.no_dotted (AreLaterFields.output {a = a} {b = b} {c = c} k h t) l r =
    let is = ap next (parts3 a b c (_ ++ r)) ∙ sign_seen OutputSign k (b ++ (c ++ (_ ++ r))) in (ap (is_sign OpenRoundSign) is, ap is_prefix is)
prefix_next AreDotted.no_dotted (AreLaterFields.input {a = a} {b = b} {c = c} k h t) l r =
    let is = ap next (parts3 a b c (_ ++ r)) ∙ sign_seen InputSign k (b ++ (c ++ (_ ++ r))) in (ap (is_sign OpenRoundSign) is, ap is_prefix is)
prefix_next AreDotted.no_dotted (AreLaterFields.input_from {a = a} {b = b} {c = c} {d = d} {x = x} k h m i t) l r =
    let is = ap next (parts5 a b c d x (_ ++ r)) ∙ sign_seen InputSign k (b ++ (c ++ (d ++ (x ++ (_ ++ r))))) in (ap (is_sign OpenRoundSign) is, ap is_prefix is)
prefix_next AreDotted.no_dotted AreLaterFields.no_fields l r = let is = sign_seen ArrowSign l r in (ap (is_sign OpenRoundSign) is, ap is_prefix is)

arrow_fieldless : {d : Tokens} → IsSign ArrowSign d → (r : Tokens) → Fieldless (d ++ r)
unfolding is_sign
arrow_fieldless k r = record { output = sign_next ArrowSign k OutputSign r; input = sign_next ArrowSign k InputSign r; colon = sign_next ArrowSign k ColonSign r; loose = stops_at 12 r k (omega arith) }

later_undotted : {c d : Tokens} {fs : List RawField} → AreLaterFields c fs → IsSign ArrowSign d → (r : Tokens) → is_sign DotSign (next (c ++ (d ++ r))) ≡ false
unfolding is_sign
later_undotted AreLaterFields.no_fields l r = sign_next ArrowSign l DotSign r
later_undotted (AreLaterFields.output {a = a} {b = b} {c = c} k h t) l r = ap (λ z. is_sign DotSign (next z)) (parts3 a b c (_ ++ r)) ∙ sign_next OutputSign k DotSign (b ++ (c ++ (_ ++ r)))
later_undotted (AreLaterFields.input {a = a} {b = b} {c = c} k h t) l r = ap (λ z. is_sign DotSign (next z)) (parts3 a b c (_ ++ r)) ∙ sign_next InputSign k DotSign (b ++ (c ++ (_ ++ r)))
later_undotted (AreLaterFields.input_from {a = a} {b = b} {c = c} {d = d} {x = x} k h m i t) l r = ap (λ z. is_sign DotSign (next z)) (parts5 a b c d x (_ ++ r)) ∙ sign_next InputSign k DotSign (b ++ (c ++ (d ++ (x ++ (_ ++ r)))))

prefix_begins : {a b c : Tokens} (d : Tokens) (v : RawName) (fs : List RawField) (p : RawProcess) → IsName a v → Split b fs → IsSign ArrowSign c → WholeOperand d p → WholeOperand (a ++ b ++ c ++ d) (RawPrefix v fs p)
unfolding body
prefix_begins {a = a} {c = c} d v _ p h (split x y es fs hs t) k i r s n =
    let (m, e) = behind_name_is h (x ++ (y ++ (c ++ (d ++ r)))) n in
    let (round, some) = prefix_next hs t k (d ++ r) in
    let (j, f) = dots_get (dotted_dots hs) [] (y ++ (c ++ (d ++ r))) (later_loose t (c ++ (d ++ r)) (arrow_fieldless k (d ++ r))) (later_undotted t k (d ++ r)) m in
    let (l, g) = later_fields_get t (map RawGiven (list_of es)) (c ++ (d ++ r)) (arrow_fieldless k (d ++ r)) j in
    let (w, o) = operand_after ArrowSign d p k i r s l in
    let q = at (x ++ (y ++ (c ++ (d ++ r)))) m in
    let u = at (y ++ (c ++ (d ++ r))) j in
    let ends : free (PrefixBehind v (list_of es)) u ≡ Ok (StartOperand (RawPrefix v (map RawGiven (list_of es) ++ fs) p), at r w) = rw (reads_to_is false (PrefixBehind v (list_of es)) u, g, o) refl in (
      StartOperand (RawPrefix v (map RawGiven (list_of es) ++ fs) p),
      refl,
      w,
      ap (λ z. free OfStart (at z n)) (parts4 a (x ++ y) c d r ∙ ap (λ z. a ++ z) (append_assoc x y (c ++ (d ++ r)))) ∙ e ∙ behind_name_by v q false true round some ∙ alone (free (PrefixOf v) q)
          ∙ rw (reads_to_is false (PrefixOf v) q, f) (alone (free (PrefixBehind v (list_of es)) u)) ∙ ends,
    )

-- RENAMINGS, HIDINGS AND CHAINS

-- the process goes on with what is behind these renamings, hidings, operands
abbrev RenamedGoes : Tokens → RawProcess → Type 0
RenamedGoes a p = (r : Tokens) → Stops 5 r → (n : Nest) → (m : Nest) × (free OfProcess (at (a ++ r) n) ≡ and_then (free (RenamedFrom p) (at r m)) (λ x. free (HiddenFrom x)))

abbrev HiddenGoes : Tokens → RawProcess → Type 0
HiddenGoes a p = (r : Tokens) → Stops 4 r → (n : Nest) → (m : Nest) × (free OfProcess (at (a ++ r) n) ≡ free (HiddenFrom p) (at r m))

abbrev ChainGoes : Infix → Tokens → RawProcess → Type 0
ChainGoes o a p = (r : Tokens) → Stops 5 r → (n : Nest) → (m : Nest) × (free OfProcess (at (a ++ r) n) ≡ free (ChainMore o p) (at r m))

-- behind a base with a renaming or a hiding
base_goes : (a : Tokens) (p : RawProcess) → WholeBase a p → (r : Tokens) → Stops 5 r → is_suffix (next r) ≡ true → (n : Nest) → (m : Nest) × (free OfProcess (at (a ++ r) n) ≡ and_then (free (RenamedFrom p) (at r m)) (λ x. free (HiddenFrom x)))
base_goes a p h r s suffix n =
    let (t, is, m, e) = h r s n in
    (m, process_goes (a ++ r) n t (at r m) e ∙ on_base t p (at r m) is ∙ from_base_next p (at r m) true suffix ∙ behind (free (RenamedFrom p) (at r m)) (λ x. free (HiddenFrom x)))

suffix_renaming : {b : Tokens} → IsSign OpenRenamingSign b → (r : Tokens) → is_suffix (next (b ++ r)) ≡ true
suffix_renaming k r = rw (is_next OpenRenamingSign k r) refl

suffix_hiding : {b : Tokens} → IsSign HidingSign b → (r : Tokens) → is_suffix (next (b ++ r)) ≡ true
suffix_hiding {b = b} k r = ap (λ x. is_sign OpenRenamingSign (next (b ++ r)) || x) (is_next HidingSign k r) ∙ or_true (is_sign OpenRenamingSign (next (b ++ r)))

-- one renaming
renaming_step : {a b c : Tokens} (p : RawProcess) (ps : List RawPair) → IsSign OpenRenamingSign a → ArePairs b ps → IsSign CloseRenamingSign c → (r : Tokens) (n : Nest) → (m : Nest) × (free (RenamedFrom p) (at (a ++ (b ++ (c ++ r))) n) ≡ free (RenamedFrom (RawRenaming p ps)) (at r m))
unfolding is_sign
renaming_step {a = a} {b = b} {c = c} p ps k hs l r n =
    let (m, e) = gets_sign OpenRenamingSign k (b ++ (c ++ r)) n in
    let (i, f) = pairs_get hs (c ++ r) (undotted_at CloseRenamingSign c r l (omega arith)) (sign_next CloseRenamingSign l CommaSign r) m in
    let (j, g) = gets_sign CloseRenamingSign l r i in
    (j, renamed_next p (at (a ++ (b ++ (c ++ r))) n) true (is_next OpenRenamingSign k (b ++ (c ++ r))) ∙ rw (e, f, g) (alone (free (RenamedFrom (RawRenaming p ps)) (at r j))))

renamed_base_goes : (a : Tokens) {b : Tokens} (p : RawProcess) (ps : List RawPair) → WholeBase a p → IsRenamingPart b ps → RenamedGoes (a ++ b) (RawRenaming p ps)
renamed_base_goes a p ps h (IsRenamingPart.renaming_part {a = x} {b = y} {c = z} k hs l) r s n =
    let (m, e) = base_goes a p h (x ++ (y ++ (z ++ r))) (stops_at 5 (y ++ (z ++ r)) k (omega arith)) (suffix_renaming k (y ++ (z ++ r))) n in
    let (i, f) = renaming_step p ps k hs l r m in
    (i, ap (λ w. free OfProcess (at w n)) (append_assoc a (x ++ y ++ z) r ∙ ap (λ w. a ++ w) (parts3 x y z r)) ∙ e ∙ ap (λ o. and_then o (λ w. free (HiddenFrom w))) f)

renamed_again_goes : (a : Tokens) {b : Tokens} (p : RawProcess) (ps : List RawPair) → RenamedGoes a p → IsRenamingPart b ps → RenamedGoes (a ++ b) (RawRenaming p ps)
renamed_again_goes a p ps h (IsRenamingPart.renaming_part {a = x} {b = y} {c = z} k hs l) r s n =
    let (m, e) = h (x ++ (y ++ (z ++ r))) (stops_at 5 (y ++ (z ++ r)) k (omega arith)) n in
    let (i, f) = renaming_step p ps k hs l r m in
    (i, ap (λ w. free OfProcess (at w n)) (append_assoc a (x ++ y ++ z) r ∙ ap (λ w. a ++ w) (parts3 x y z r)) ∙ e ∙ ap (λ o. and_then o (λ w. free (HiddenFrom w))) f)

-- one hiding
hiding_step : {a b : Tokens} (p : RawProcess) (es : RawEventSet) → IsSign HidingSign a → IsEventSet b es → (r : Tokens) (n : Nest) → (m : Nest) × (free (HiddenFrom p) (at (a ++ (b ++ r)) n) ≡ free (HiddenFrom (RawHiding p es)) (at r m))
hiding_step {a = a} {b = b} p es k h r n =
    let (m, e) = set_after HidingSign b es k h r n in
    (m, hidden_next p (at (a ++ (b ++ r)) n) true (is_next HidingSign k (b ++ r)) ∙ rw e (alone (free (HiddenFrom (RawHiding p es)) (at r m))))

renamed_ends : (p : RawProcess) (q : Standing) → is_sign OpenRenamingSign (next q.left) ≡ false → and_then (free (RenamedFrom p) q) (λ x. free (HiddenFrom x)) ≡ free (HiddenFrom p) q
renamed_ends p q e = ap (λ o. and_then o (λ x. free (HiddenFrom x))) (renamed_next p q false e)

hidden_base_goes : (a : Tokens) {b : Tokens} (p : RawProcess) (es : RawEventSet) → WholeBase a p → IsHidingPart b es → HiddenGoes (a ++ b) (RawHiding p es)
unfolding is_sign
hidden_base_goes a p es h (IsHidingPart.hiding_part {a = x} {b = y} k i) r s n =
    let (m, e) = base_goes a p h (x ++ (y ++ r)) (stops_at 5 (y ++ r) k (omega arith)) (suffix_hiding k (y ++ r)) n in
    let (j, f) = hiding_step p es k i r m in
    (j, ap (λ w. free OfProcess (at w n)) (append_assoc a (x ++ y) r ∙ ap (λ w. a ++ w) (append_assoc x y r)) ∙ e ∙ renamed_ends p (at (x ++ (y ++ r)) m) (sign_next HidingSign k OpenRenamingSign (y ++ r)) ∙ f)

hidden_renamed_goes : (a : Tokens) {b : Tokens} (p : RawProcess) (es : RawEventSet) → RenamedGoes a p → IsHidingPart b es → HiddenGoes (a ++ b) (RawHiding p es)
unfolding is_sign
hidden_renamed_goes a p es h (IsHidingPart.hiding_part {a = x} {b = y} k i) r s n =
    let (m, e) = h (x ++ (y ++ r)) (stops_at 5 (y ++ r) k (omega arith)) n in
    let (j, f) = hiding_step p es k i r m in
    (j, ap (λ w. free OfProcess (at w n)) (append_assoc a (x ++ y) r ∙ ap (λ w. a ++ w) (append_assoc x y r)) ∙ e ∙ renamed_ends p (at (x ++ (y ++ r)) m) (sign_next HidingSign k OpenRenamingSign (y ++ r)) ∙ f)

hidden_again_goes : (a : Tokens) {b : Tokens} (p : RawProcess) (es : RawEventSet) → HiddenGoes a p → IsHidingPart b es → HiddenGoes (a ++ b) (RawHiding p es)
hidden_again_goes a p es h (IsHidingPart.hiding_part {a = x} {b = y} k i) r s n =
    let (m, e) = h (x ++ (y ++ r)) (stops_at 4 (y ++ r) k (omega arith)) n in
    let (j, f) = hiding_step p es k i r m in
    (j, ap (λ w. free OfProcess (at w n)) (append_assoc a (x ++ y) r ∙ ap (λ w. a ++ w) (append_assoc x y r)) ∙ e ∙ f)

-- one more operand of a chain
chain_two : {b : Tokens} (o : Infix) (a c : Tokens) (p q : RawProcess) → WholeOperand a p → IsInfix b o → WholeOperand c q → ChainGoes o (a ++ b ++ c) (RawInfix o p q)
unfolding body
chain_two {b = b} o a c p q h k i r s n =
    let is = infix_is_sign k in
    let loose2 = infix_loose o in
    let (t, tree, m, e) = h (b ++ (c ++ r)) (stops_at 5 (c ++ r) is (omega (arith, loose2))) n in
    let (j, f) = operand_after (infix_sign o) c q is i r s m in
    let first = sign_seen (infix_sign o) is (c ++ r) in
    let w = at (b ++ (c ++ r)) m in (
      j,
      ap (λ z. free OfProcess (at z n)) (parts3 a b c r) ∙ process_goes (a ++ (b ++ (c ++ r))) n t w e ∙ on_operand t p w tree (ap is_suffix first ∙ no_suffix_over o)
          ∙ from_operand_next p w (Some o) _ _ (ap infix_at first ∙ infix_seen o) refl refl ∙ alone (free (ChainOver o p) w) ∙ rw (reads_to_is false (ChainOver o p) w, f) (alone (free (ChainMore o (RawInfix o p q)) (at r j))),
    )

chain_longer : {b : Tokens} (o : Infix) (a c : Tokens) (p q : RawProcess) → ChainGoes o a p → IsInfix b o → WholeOperand c q → ChainGoes o (a ++ b ++ c) (RawInfix o p q)
chain_longer {b = b} o a c p q h k i r s n =
    let is = infix_is_sign k in
    let loose2 = infix_loose o in
    let (m, e) = h (b ++ (c ++ r)) (stops_at 5 (c ++ r) is (omega (arith, loose2))) n in
    let (j, f) = operand_after (infix_sign o) c q is i r s m in
    (j, ap (λ z. free OfProcess (at z n)) (parts3 a b c r) ∙ e ∙ chain_next o p (at (b ++ (c ++ r)) m) true (is_next (infix_sign o) is (c ++ r)) ∙ rw f (alone (free (ChainMore o (RawInfix o p q)) (at r j))))

-- PROCESSES

conditional_whole : {a c x : Tokens} (b d y : Tokens) (e : RawExpression) (p q : RawProcess) → IsWord IfWord a → IsExpression b e → IsWord ThenWord c → WholeProcess d p → IsWord ElseWord x → WholeProcess y q → WholeProcess (a ++ b ++ c ++ d ++ x ++ y) (RawIf e p q)
unfolding body
conditional_whole {a = a} {c = c} {x = x} b d y e p q k h l i o j r s n =
    let rest = c ++ (d ++ (x ++ (y ++ r))) in
    let (n1, f1) = gets_word IfWord k (b ++ rest) n in
    let (n2, f2) = expression_read b e h rest (stops_at_word 7 (d ++ (x ++ (y ++ r))) l (omega arith)) n1 in
    let (n3, f3) = process_after_word ThenWord d p l i (x ++ (y ++ r)) (stops_at_word 2 (y ++ r) o (omega arith)) n2 in
    let (n4, f4) = process_after_word ElseWord y q o j r s n3 in
    let w = at (a ++ (b ++ rest)) n in
    let condition : free OfCondition w ≡ Ok (e, at rest n2) = rw (reads_to_is false OfCondition w, f1, f2) refl in (
      n4,
      ap (λ z. free OfProcess (at z n)) (parts6 a b c d x y r) ∙ process_by_next w true _ (ap (is_word IfWord) (word_seen IfWord k (b ++ rest)) ∙ is_same_word IfWord) refl ∙ alone (free Conditional w) ∙ rw (reads_to_is false Conditional w, condition, f3, f4) refl,
    )

replicator_is_sign : {a : Tokens} {o : Replicator} → IsReplicator a o → IsSign (replicator_sign o) a
replicator_is_sign (IsReplicator.external_replicator k) = k
replicator_is_sign (IsReplicator.internal_replicator k) = k
replicator_is_sign (IsReplicator.interleaving_replicator k) = k

replicator_seen : (o : Replicator) → replicator_at (Some (SeenSign (replicator_sign o))) ≡ Some o
replicator_seen ExternalReplicator = refl
replicator_seen InternalReplicator = refl
replicator_seen InterleavingReplicator = refl

name_after : (s : Sign) {a b : Tokens} {v : RawName} → IsSign s a → IsName b v → (r : Tokens) (n : Nest) → Gets (free (NameBehind s) (at (a ++ (b ++ r)) n)) v r
unfolding body
name_after s {a = a} {b = b} k h r n =
    let (m, e) = gets_sign s k (b ++ r) n in
    let (i, f) = gets_name h r m in
    (i, rw (reads_to_is false (NameBehind s) (at (a ++ (b ++ r)) n), e, f) refl)

replicated_whole : {a b c x : Tokens} (d y : Tokens) (o : Replicator) (v : RawName) (e : RawExpression) (p : RawProcess) → IsReplicator a o → IsName b v → IsSign ColonSign c → Whole Atom d e → IsSign AtSign x → WholeProcess y p →
    WholeProcess (a ++ b ++ c ++ d ++ x ++ y) (RawReplicated o v e p)
unfolding body is_word
replicated_whole {a = a} {b = b} {c = c} {x = x} d y o v e p k h l i m j r s n =
    let is = replicator_is_sign k in
    let rest = c ++ (d ++ (x ++ (y ++ r))) in
    let (n1, f1) = name_after (replicator_sign o) is h rest n in
    let (n2, f2) = behind_gets ColonSign Atom d e l i (x ++ (y ++ r)) (stops_at 12 (y ++ r) m (omega arith)) n1 in
    let (n3, f3) = process_after AtSign y p m j r s n2 in
    let w = at (a ++ (b ++ rest)) n in
    let first = sign_seen (replicator_sign o) is (b ++ rest) in (
      n3,
      ap (λ z. free OfProcess (at z n)) (parts6 a b c d x y r) ∙ process_by_next w false (Some o) (ap (is_word IfWord) first) (ap replicator_at first ∙ replicator_seen o) ∙ alone (free (ReplicatedOver o) w) ∙ rw (reads_to_is false (ReplicatedOver o) w, f1, f2, f3) refl,
    )

renamed_whole : (a : Tokens) (p : RawProcess) → RenamedGoes a p → WholeProcess a p
renamed_whole a p h r s n =
    let (m, e) = h r (omega (arith, s)) n in
    (m, e ∙ renamed_ends p (at r m) (not_next OpenRenamingSign 2 r s (omega arith)) ∙ hidden_next p (at r m) false (not_next HidingSign 2 r s (omega arith)))

hidden_whole : (a : Tokens) (p : RawProcess) → HiddenGoes a p → WholeProcess a p
hidden_whole a p h r s n = let (m, e) = h r (omega (arith, s)) n in (m, e ∙ hidden_next p (at r m) false (not_next HidingSign 2 r s (omega arith)))

operand_whole : (a : Tokens) (p : RawProcess) → WholeOperand a p → WholeProcess a p
operand_whole a p h r s n =
    let (t, is, m, e) = h r (omega (arith, s)) n in
    (m, process_goes (a ++ r) n t (at r m) e ∙ on_operand t p (at r m) is (no_suffix r (omega (arith, s))) ∙ from_operand_next p (at r m) None false false (no_infix r s) (not_next OpenSharedSign 2 r s (omega arith)) (not_next OpenSquareSign 2 r s (omega arith)))

chain_whole : (o : Infix) (a : Tokens) (p : RawProcess) → ChainGoes o a p → WholeProcess a p
chain_whole o a p h r s n = let (m, e) = h r (omega (arith, s)) n in let tight = infix_loose o in (m, e ∙ chain_next o p (at r m) false (not_next (infix_sign o) 2 r s (omega (arith, tight))))

generalised_whole : {b d : Tokens} (a c x : Tokens) (p q : RawProcess) (es : RawEventSet) → WholeOperand a p → IsSign OpenSharedSign b → IsEventSet c es → IsSign CloseSharedSign d → WholeOperand x q → WholeProcess (a ++ b ++ c ++ d ++ x) (RawGeneralisedParallel p es q)
unfolding body is_sign
generalised_whole {b = b} {d = d} a c x p q es h k i l j r s n =
    let rest = b ++ (c ++ (d ++ (x ++ r))) in
    let (t, tree, m, e) = h rest (stops_at 5 (c ++ (d ++ (x ++ r))) k (omega arith)) n in
    let (n1, f1) = set_after OpenSharedSign c es k i (d ++ (x ++ r)) m in
    let (n2, f2) = operand_after CloseSharedSign x q l j r (omega (arith, s)) n1 in
    let first = sign_seen OpenSharedSign k (c ++ (d ++ (x ++ r))) in
    let w = at rest m in (
      n2,
      ap (λ z. free OfProcess (at z n)) (parts5 a b c d x r) ∙ process_goes (a ++ rest) n t w e ∙ on_operand t p w tree (ap is_suffix first)
          ∙ from_operand_next p w None true _ (ap infix_at first) (is_next OpenSharedSign k (c ++ (d ++ (x ++ r)))) refl ∙ alone (free (GeneralisedFrom p) w) ∙ rw (reads_to_is false (GeneralisedFrom p) w, f1, f2) refl,
    )

alphabetised_whole : {b d y : Tokens} (a c x z : Tokens) (p q : RawProcess) (es fs : RawEventSet) → WholeOperand a p → IsSign OpenSquareSign b → IsEventSet c es → IsSign DoubleBarSign d → IsEventSet x fs → IsSign CloseSquareSign y → WholeOperand z q →
    WholeProcess (a ++ b ++ c ++ d ++ x ++ y ++ z) (RawAlphabetisedParallel p es fs q)
unfolding body is_sign
alphabetised_whole {b = b} {d = d} {y = y} a c x z p q es fs h k i l j o g r s n =
    let rest = b ++ (c ++ (d ++ (x ++ (y ++ (z ++ r))))) in
    let (t, tree, m, e) = h rest (stops_at 5 (c ++ (d ++ (x ++ (y ++ (z ++ r))))) k (omega arith)) n in
    let (n1, f1) = set_after OpenSquareSign c es k i (d ++ (x ++ (y ++ (z ++ r)))) m in
    let (n2, f2) = set_after DoubleBarSign x fs l j (y ++ (z ++ r)) n1 in
    let (n3, f3) = operand_after CloseSquareSign z q o g r (omega (arith, s)) n2 in
    let first = sign_seen OpenSquareSign k (c ++ (d ++ (x ++ (y ++ (z ++ r))))) in
    let w = at rest m in (
      n3,
      ap (λ v. free OfProcess (at v n)) (parts7 a b c d x y z r) ∙ process_goes (a ++ rest) n t w e ∙ on_operand t p w tree (ap is_suffix first)
          ∙ from_operand_next p w None false true (ap infix_at first) (ap (is_sign OpenSharedSign) first) (is_next OpenSquareSign k (c ++ (d ++ (x ++ (y ++ (z ++ r)))))) ∙ alone (free (AlphabetisedFrom p) w)
          ∙ rw (reads_to_is false (AlphabetisedFrom p) w, f1, f2, f3) refl,
    )

based : (a : Tokens) (p : RawProcess) → WholeBase a p → WholeOperand a p
based a p h r s n = let (t, is, m, e) = h r s n in (t, base_tree t p is, m, e)

mutual
  pub process_read : {a : Tokens} {p : RawProcess} → IsProcess a p → WholeProcess a p
  process_read (IsProcess.conditional {b = b} {d = d} {y = y} {e = e} {p = p} {q = q} k h l i m j) = conditional_whole b d y e p q k h l (process_read i) m (process_read j)
  process_read (IsProcess.replicated {d = d} {y = y} {o = o} {n = v} {e = e} {p = p} k h l i m j) = replicated_whole d y o v e p k h l (atom_gets i) m (process_read j)
  process_read (IsProcess.renamed {a = a} {p = p} h) = renamed_whole a p (renamed_goes h)
  process_read (IsProcess.hidden {a = a} {p = p} h) = hidden_whole a p (hidden_goes h)
  process_read (IsProcess.operand {a = a} {p = p} h) = operand_whole a p (operand_begins h)
  process_read (IsProcess.chain {a = a} {o = o} {p = p} h) = chain_whole o a p (chain_goes h)
  process_read (IsProcess.generalised {a = a} {c = c} {x = x} {p = p} {q = q} {s = s} h k i l j) = generalised_whole a c x p q s (operand_begins h) k i l (operand_begins j)
  process_read (IsProcess.alphabetised {a = a} {c = c} {x = x} {z = z} {p = p} {q = q} {s = s} {t = t} h k i l j m o) = alphabetised_whole a c x z p q s t (operand_begins h) k i l j m (operand_begins o)

  renamed_goes : {a : Tokens} {p : RawProcess} → IsRenamed a p → RenamedGoes a p
  renamed_goes (IsRenamed.renamed_base {a = a} {p = p} {ps = ps} h k) = renamed_base_goes a p ps (base_begins h) k
  renamed_goes (IsRenamed.renamed_again {a = a} {p = p} {ps = ps} h k) = renamed_again_goes a p ps (renamed_goes h) k

  hidden_goes : {a : Tokens} {p : RawProcess} → IsHidden a p → HiddenGoes a p
  hidden_goes (IsHidden.hidden_base {a = a} {p = p} {s = s} h k) = hidden_base_goes a p s (base_begins h) k
  hidden_goes (IsHidden.hidden_renamed {a = a} {p = p} {s = s} h k) = hidden_renamed_goes a p s (renamed_goes h) k
  hidden_goes (IsHidden.hidden_again {a = a} {p = p} {s = s} h k) = hidden_again_goes a p s (hidden_goes h) k

  chain_goes : {o : Infix} {a : Tokens} {p : RawProcess} → IsChain o a p → ChainGoes o a p
  chain_goes (IsChain.two {o = o} {a = a} {c = c} {p = p} {q = q} h k i) = chain_two o a c p q (operand_begins h) k (operand_begins i)
  chain_goes (IsChain.longer {o = o} {a = a} {c = c} {p = p} {q = q} h k i) = chain_longer o a c p q (chain_goes h) k (operand_begins i)

  operand_begins : {a : Tokens} {p : RawProcess} → IsOperand a p → WholeOperand a p
  operand_begins (IsOperand.prefix {d = d} {n = v} {fs = fs} {p = p} h hs k i) = prefix_begins d v fs p h (fields_split hs) k (operand_begins i)
  operand_begins (IsOperand.guard {a = a} {c = c} {e = e} {p = p} h k i) = guard_begins a c e p h k (operand_begins i)
  operand_begins (IsOperand.base {a = a} {p = p} h) = based a p (base_begins h)

  base_begins : {a : Tokens} {p : RawProcess} → IsBase a p → WholeBase a p
  base_begins (IsBase.stop k) = stop_begins k
  base_begins (IsBase.skip k) = skip_begins k
  base_begins (IsBase.call h) = call_begins h
  base_begins (IsBase.call_with {c = c} {n = v} {es = es} h k hs l) = call_with_begins c v es h k (expressions_items hs) l
  base_begins (IsBase.bracketed_process {b = b} {p = p} k h l) = bracketed_begins b p k (process_read h) l
