-- What is read as a process, or as what it begins with, is one, and where reading stops the tokens that are passed begin one.
use Rattle.theory_reader.specs.Reader.{behind_start_name, chain_by, from_base_by, from_operand_by, guarded_by, hidden_by, infix_sign, inner_by, inner_from, inner_from_name_by, inner_of_dotted_by, inner_of_name_by, is_prefix, is_sign, operand_from, process_by, process_from, renamed_by, replicator_sign, start_by, start_from_inner, start_from_name_by, body}
use Rattle.theory_reader.specs.Programs.{Oracle, Outcome, Standing, and_then, run_to, seen_of, first}
use Rattle.theory_reader.specs.Refused.{GoesOn}
use Rattle.theory_text.specs.Token.{ArrowSign, AtSign, BackArrowSign, CloseBraceSign, CloseRenamingSign, CloseRoundSign, CloseSharedSign, CloseSquareSign, ColonSign, DotSign, DoubleBarSign, ElseWord, GuardSign, HidingSign, IfWord, Keyword, OpenBraceSign, OpenRenamingSign, OpenRoundSign, OpenSharedSign, OpenSquareSign, Sign, SkipWord, StopWord, ThenWord}
use Rattle.theory_text.specs.Grammar.{AreDotted, AreExpressions, AreFields, AreLaterFields, ArePairs, IsAtom, IsBase, IsChain, IsEventSet, IsExpression, IsHidden, IsHidingPart, IsInfix, IsName, IsRenamed, IsRenamingPart, IsReplicator, IsSign, IsWord, IsProcess, IsOperand}
use Rattle.theory_reader.specs.Forms.{AlphabetisedFrom, Arguments, AtLevel, Atom, Behind, BracketedInner, CallOf, ChainMore, ChainOver, Conditional, Disjunction, Dotted, EventSetBehind, ExpressionFrom, FieldsBehind, Form, FromBase, FromOperand, GeneralisedFrom, GuardOf, HiddenFrom, InnerFrom, InnerFromName, InnerFromStart, InnerName, InnerOfDotted, InnerOfName, InnerProcess, InnerTree, Listed, NameBehind, OfCondition, OfInner, OfName, OfOperand, OfPairs, OfProcess, OfSign, OfStart, OfWord, OperandBehind, PrefixBehind, PrefixOf, ProcessBehind, ProcessBehindWord, ProcessFrom, RenamedFrom, ReplicatedOver, SkipStart, StartBase, StartBehindName, StartExpression, StartFromAtom, StartFromName, StartName, StartOfBrackets, StartOfExpression, StartOfName, StartTree, StopStart, Tree, raw_list, StartOperand, InnerExpression}
use Rattle.theory_reader.proofs.SoundEvents.{AddsFields, a_raw_event, an_event, no_events_set}
use Rattle.std.proofs.Common.{◌≡◌, ◌∙◌, Bool, true, false, List, [], ◌∷◌, ◌++◌, map, refl, sym, ap, subst, Option, Some, None, append_assoc, append-nil, inl, inr}
use Rattle.std.specs.Prelude.{option_map, Ok, Err}
use Rattle.theory_text.specs.Raw.{RawName, RawExpression, RawProcess, Infix, RawField, Replicator, ExternalInfix, ExternalReplicator, InterleavingInfix, InterleavingReplicator, InternalInfix, InternalReplicator, InterruptInfix, RawAlphabetisedParallel, RawCall, RawEnumeration, RawEventSet, RawGeneralisedParallel, RawGiven, RawGuard, RawHiding, RawIf, RawInfix, RawPair, RawPrefix, RawRenaming, RawReplicated, RawSkip, RawStop, SequentialInfix, SlidingInfix, RawUse, no_raw_expressions, RawNumber, RawConstructor}
use Rattle.theory_reader.proofs.SoundExpressions.{Tokens, Says, says_then, says_last, Pair, a_sign, placed_word, Fields, Adds, FromAtom, IsEnclosed, SaysBehind, SaysDots, SaysLevels, SaysLists, SaysSigns, SaysWords, a_word, at_each, placed_name, placed_number, placed_sign, round_atom, zero_atom, zero_expression, expressions_of, no_tail}

-- ONE PART BEHIND ANOTHER

abbrev pub SaysForm : Oracle → (f : Form) → (Tokens → Tree f → Type 0) → Type 0
SaysForm u f Is = (q : Standing) → Says Is q.left (u f q)

-- two parts
pub data Both {X : Type 0} (Is : Tokens → Type 0) (Has : Tokens → X → Type 0) : Tokens → X → Type 0 where
  both : {a b : Tokens} {x : X} → Is a → Has b x → Both Is Has (a ++ b) x

pub of_pair : {X : Type 0} (Is : Tokens → Type 0) (Has : Tokens → X → Type 0) (ts : Tokens) (x : X) → Pair Is Has ts x → Both Is Has ts x
of_pair Is Has ts x (a, b, is, k, h) = subst (λ z. Both Is Has z x) (sym is) (both k h)

-- these tokens go on with what is `From`, and make of it what `Is`
abbrev pub Extending : {Y : Type 0} → (Tokens → Type 0) → (Tokens → Y → Type 0) → Tokens → Y → Type 0
Extending From Is ts y = (a : Tokens) → From a → Is (a ++ ts) y

-- what is read behind a front
pub behind_front : {A : Type 0} (Is : Tokens → A → Type 0) (front us : Tokens) (o : Outcome A) → Says (λ ts y. Is (front ++ ts) y) us o → Says Is (front ++ us) o
behind_front Is front us (Ok p) (a, e, h) = (front ++ a, ap (λ z. front ++ z) e ∙ sym (append_assoc front a p.1.left), h)
behind_front Is front us (Err q) (a, e, (more, x, h)) =
    (front ++ a, ap (λ z. front ++ z) e ∙ sym (append_assoc front a q.1), (more, x, subst (λ z. Is z x) (sym (append_assoc front a more)) h))

pub two_parts_say : {A B Z : Type 0} (IsA : Tokens → A → Type 0) (IsB : A → Tokens → B → Type 0) (IsZ : Tokens → Z → Type 0) (make : A → B → Z) →
    ((a b : Tokens) (x : A) (y : B) → IsA a x → IsB x b y → IsZ (a ++ b) (make x y)) → ((x : A) → GoesOn (IsB x) []) →
    (ts : Tokens) (o : Outcome A) (f : A → Standing → Outcome B) → Says IsA ts o → ((x : A) (p : Standing) → Says (IsB x) p.left (f x p)) →
    Says IsZ ts (and_then o (λ x p. and_then (f x p) (λ y q. Ok (make x y, q))))
two_parts_say IsA IsB IsZ make makes some ts o f first second =
    says_then IsA IsZ [] ts o (λ x p. and_then (f x p) (λ y q. Ok (make x y, q))) first
    (λ x c h. let (b, y, k) = some x in (b, make x y, makes c b x y h k))
    (λ x a p h. says_last (IsB x) IsZ (make x) a p.left (f x p) (second x p) (λ y b k. makes a b x y h k))

pub three_parts_say : {A B C Z : Type 0} (IsA : Tokens → A → Type 0) (IsB : A → Tokens → B → Type 0) (IsC : A → B → Tokens → C → Type 0) (IsZ : Tokens → Z → Type 0) (make : A → B → C → Z) →
    ((a b c : Tokens) (x : A) (y : B) (z : C) → IsA a x → IsB x b y → IsC x y c z → IsZ ((a ++ b) ++ c) (make x y z)) → ((x : A) → GoesOn (IsB x) []) → ((x : A) (y : B) → GoesOn (IsC x y) []) →
    (ts : Tokens) (o : Outcome A) (f : A → Standing → Outcome B) (g : A → B → Standing → Outcome C) → Says IsA ts o → ((x : A) (p : Standing) → Says (IsB x) p.left (f x p)) →
    ((x : A) (y : B) (p : Standing) → Says (IsC x y) p.left (g x y p)) →
    Says IsZ ts (and_then o (λ x p. and_then (f x p) (λ y q. and_then (g x y q) (λ z r. Ok (make x y z, r)))))
three_parts_say IsA IsB IsC IsZ make makes some more ts o f g first second third =
    says_then IsA IsZ [] ts o (λ x p. and_then (f x p) (λ y q. and_then (g x y q) (λ z r. Ok (make x y z, r)))) first
    (λ x a h. let (b, y, k) = some x in let (c, z, l) = more x y in (b ++ c, make x y z, subst (λ w. IsZ w (make x y z)) (append_assoc a b c) (makes a b c x y z h k l)))
    (λ x a p h. says_then (IsB x) IsZ a p.left (f x p) (λ y q. and_then (g x y q) (λ z r. Ok (make x y z, r))) (second x p)
    (λ y b k. let (c, z, l) = more x y in (c, make x y z, makes a b c x y z h k l))
    (λ y b q k. says_last (IsC x y) IsZ (make x y) (a ++ b) q.left (g x y q) (third x y q) (λ z c l. makes a b c x y z h k l)))

pub four_parts_say : {A B C D Z : Type 0} (IsA : Tokens → A → Type 0) (IsB : A → Tokens → B → Type 0) (IsC : A → B → Tokens → C → Type 0) (IsD : A → B → C → Tokens → D → Type 0) (IsZ : Tokens → Z → Type 0) (make : A → B → C → D → Z) →
    ((a b c d : Tokens) (x : A) (y : B) (z : C) (v : D) → IsA a x → IsB x b y → IsC x y c z → IsD x y z d v → IsZ (((a ++ b) ++ c) ++ d) (make x y z v)) →
    ((x : A) → GoesOn (IsB x) []) → ((x : A) (y : B) → GoesOn (IsC x y) []) → ((x : A) (y : B) (z : C) → GoesOn (IsD x y z) []) →
    (ts : Tokens) (o : Outcome A) (f : A → Standing → Outcome B) (g : A → B → Standing → Outcome C) (k : A → B → C → Standing → Outcome D) → Says IsA ts o → ((x : A) (p : Standing) → Says (IsB x) p.left (f x p)) →
    ((x : A) (y : B) (p : Standing) → Says (IsC x y) p.left (g x y p)) → ((x : A) (y : B) (z : C) (p : Standing) → Says (IsD x y z) p.left (k x y z p)) →
    Says IsZ ts (and_then o (λ x p. and_then (f x p) (λ y q. and_then (g x y q) (λ z r. and_then (k x y z r) (λ v t. Ok (make x y z v, t))))))
four_parts_say IsA IsB IsC IsD IsZ make makes some more last ts o f g k first second third fourth =
    says_then IsA IsZ [] ts o (λ x p. and_then (f x p) (λ y q. and_then (g x y q) (λ z r. and_then (k x y z r) (λ v t. Ok (make x y z v, t))))) first
    (λ x a h. let (b, y, i) = some x in let (c, z, l) = more x y in let (d, v, m) = last x y z in
    (b ++ c ++ d, make x y z v, subst (λ w. IsZ w (make x y z v)) (ap (λ w. w ++ d) (append_assoc a b c) ∙ append_assoc a (b ++ c) d) (makes a b c d x y z v h i l m)))
    (λ x a p h. says_then (IsB x) IsZ a p.left (f x p) (λ y q. and_then (g x y q) (λ z r. and_then (k x y z r) (λ v t. Ok (make x y z v, t)))) (second x p)
    (λ y b i. let (c, z, l) = more x y in let (d, v, m) = last x y z in (c ++ d, make x y z v, subst (λ w. IsZ w (make x y z v)) (append_assoc (a ++ b) c d) (makes a b c d x y z v h i l m)))
    (λ y b q i. says_then (IsC x y) IsZ (a ++ b) q.left (g x y q) (λ z r. and_then (k x y z r) (λ v t. Ok (make x y z v, t))) (third x y q)
    (λ z c l. let (d, v, m) = last x y z in (d, make x y z v, makes a b c d x y z v h i l m))
    (λ z c r l. says_last (IsD x y z) IsZ (make x y z) ((a ++ b) ++ c) r.left (k x y z r) (fourth x y z r) (λ v d m. makes a b c d x y z v h i l m))))

-- a sign or a keyword, and what is behind it
pub both_say : {A B : Type 0} (Is : Tokens → Type 0) (Has : Tokens → B → Type 0) → GoesOn Has [] → (ts : Tokens) (o : Outcome A) (f : Standing → Outcome B) → Says (λ us _. Is us) ts o → ((p : Standing) → Says Has p.left (f p)) →
    Says (Both Is Has) ts (and_then o (λ _ p. and_then (f p) (λ y q. Ok (y, q))))
both_say Is Has some ts o f first second = two_parts_say (λ us _. Is us) (λ _. Has) (Both Is Has) (λ _ y. y) (λ a b x y h k. both h k) (λ _. some) ts o (λ _. f) first (λ _. second)

pub as_both : {A : Type 0} (Is : Tokens → Type 0) (Has : Tokens → A → Type 0) (ts : Tokens) (o : Outcome A) → Says (Pair Is Has) ts o → Says (Both Is Has) ts o
as_both Is Has ts (Ok p) (a, e, h) = (a, e, of_pair Is Has a p.0 h)
as_both Is Has ts (Err q) (a, e, (more, x, h)) = (a, e, (more, x, of_pair Is Has (a ++ more) x h))

pub front3 : (h a b c : Tokens) → ((h ++ a) ++ b) ++ c ≡ h ++ ((a ++ b) ++ c)
front3 h a b c = ap (λ w. w ++ c) (append_assoc h a b) ∙ append_assoc h (a ++ b) c

front4 : (h a b c d : Tokens) → (((h ++ a) ++ b) ++ c) ++ d ≡ h ++ (((a ++ b) ++ c) ++ d)
front4 h a b c d = ap (λ w. w ++ d) (front3 h a b c) ∙ append_assoc h ((a ++ b) ++ c) d

front6 : (h a b c d x y : Tokens) → (((((h ++ a) ++ b) ++ c) ++ d) ++ x) ++ y ≡ h ++ (((((a ++ b) ++ c) ++ d) ++ x) ++ y)
front6 h a b c d x y = ap (λ w. (w ++ x) ++ y) (front4 h a b c d) ∙ front3 h (((a ++ b) ++ c) ++ d) x y ∙ ap (λ w. h ++ w) refl

-- pairs of parts, one behind another
two_pairs : (a b c d : Tokens) → ((a ++ b) ++ c) ++ d ≡ (a ++ b) ++ (c ++ d)
two_pairs a b c d = append_assoc (a ++ b) c d

three_pairs : (a b c d f g : Tokens) → ((((a ++ b) ++ c) ++ d) ++ f) ++ g ≡ ((a ++ b) ++ (c ++ d)) ++ (f ++ g)
three_pairs a b c d f g = append_assoc (((a ++ b) ++ c) ++ d) f g ∙ ap (λ w. w ++ (f ++ g)) (append_assoc (a ++ b) c d)

-- PROCESSES

-- a base with its renamings, and with its hidings
pub data IsRenamedBase : Tokens → RawProcess → Type 0 where
  bare : {a : Tokens} {p : RawProcess} → IsBase a p → IsRenamedBase a p
  renamed : {a : Tokens} {p : RawProcess} → IsRenamed a p → IsRenamedBase a p

pub data IsHiddenBase : Tokens → RawProcess → Type 0 where
  unhidden : {a : Tokens} {p : RawProcess} → IsRenamedBase a p → IsHiddenBase a p
  hidden : {a : Tokens} {p : RawProcess} → IsHidden a p → IsHiddenBase a p

-- a name, perhaps in brackets
abbrev pub IsNamed : Tokens → RawName → Type 0
IsNamed ts n = IsAtom ts (RawUse n) × IsBase ts (RawCall n no_raw_expressions)

abbrev pub IsStart : Tokens → StartTree → Type 0
IsStart ts (StartName n) = IsNamed ts n
IsStart ts (StartExpression e) = IsExpression ts e
IsStart ts (StartBase p) = IsBase ts p
IsStart ts (StartOperand p) = IsOperand ts p

abbrev pub IsInner : Tokens → InnerTree → Type 0
IsInner ts (InnerName n) = IsNamed ts n
IsInner ts (InnerExpression e) = IsEnclosed ts e
IsInner ts (InnerProcess p) = IsProcess ts p

abbrev pub OnBase : RawProcess → Tokens → RawProcess → Type 0
OnBase p = Extending (λ a. IsBase a p) IsProcess

abbrev pub OnOperand : RawProcess → Tokens → RawProcess → Type 0
OnOperand p = Extending (λ a. IsOperand a p) IsProcess

abbrev pub OnRenamed : RawProcess → Tokens → RawProcess → Type 0
OnRenamed p = Extending (λ a. IsRenamedBase a p) IsRenamedBase

abbrev pub OnHidden : RawProcess → Tokens → RawProcess → Type 0
OnHidden p = Extending (λ a. IsHiddenBase a p) IsHiddenBase

abbrev pub OnChain : Infix → RawProcess → Tokens → RawProcess → Type 0
OnChain o p = Extending (λ a. IsChain o a p) (IsChain o)

abbrev pub OnStart : StartTree → Tokens → RawProcess → Type 0
OnStart (StartName n) = OnBase (RawCall n no_raw_expressions)
OnStart (StartExpression e) = Extending (λ a. IsExpression a e) IsProcess
OnStart (StartBase p) = OnBase p
OnStart (StartOperand p) = OnOperand p

abbrev pub InProcess : StartTree → Tokens → InnerTree → Type 0
InProcess s = Extending (λ a. IsStart a s) IsInner

abbrev pub OnName : RawName → Tokens → StartTree → Type 0
OnName n = Extending (λ a. IsName a n) IsStart

abbrev pub OnNamed : RawName → Tokens → StartTree → Type 0
OnNamed n = Extending (λ a. IsNamed a n) IsStart

abbrev pub OnFirst : RawExpression → Tokens → StartTree → Type 0
OnFirst e = Extending (λ a. IsAtom a e) IsStart

abbrev pub OnGuard : RawExpression → Tokens → StartTree → Type 0
OnGuard e = Extending (λ a. IsExpression a e) IsStart

abbrev pub InNamed : RawName → Tokens → InnerTree → Type 0
InNamed n = Extending (λ a. IsNamed a n) IsInner

abbrev pub OnValues : RawName → List RawExpression → Tokens → StartTree → Type 0
OnValues n es ts s = (a b : Tokens) → IsName a n → AreDotted b (raw_list es) → IsStart ((a ++ b) ++ ts) s

abbrev pub InDotted : RawName → Tokens → Tokens → InnerTree → Type 0
InDotted n us ts i = is_sign DotSign (option_map seen_of (first us)) ≡ true → Extending (λ a. IsName a n) IsInner ts i

pub data AreArguments : Tokens → List RawExpression → Type 0 where
  arguments : {a b c : Tokens} {es : List RawExpression} → IsSign OpenRoundSign a → AreExpressions b (raw_list es) → IsSign CloseRoundSign c → AreArguments (a ++ b ++ c) es

pub data InBrackets : Tokens → InnerTree → Type 0 where
  in_brackets : {a : Tokens} (b : Tokens) {c : Tokens} {i : InnerTree} → IsSign OpenRoundSign a → IsInner b i → IsSign CloseRoundSign c → InBrackets (a ++ b ++ c) i

-- SOME OF EACH

unfoldable pub stops : Tokens
stops = placed_word StopWord ∷ []

pub a_stop : IsBase stops RawStop
unfolding stops
a_stop = IsBase.stop (a_word StopWord)

pub stop_operand : IsOperand stops RawStop
stop_operand = IsOperand.base a_stop

pub stop_process : IsProcess stops RawStop
stop_process = IsProcess.operand stop_operand

pub some_behind : {X : Type 0} (s : Sign) (Has : Tokens → X → Type 0) → GoesOn Has [] → GoesOn (Both (IsSign s) Has) []
some_behind s Has (ts, x, h) = (placed_sign s ∷ ts, x, both (a_sign s) h)

pub some_behind_word : {X : Type 0} (k : Keyword) (Has : Tokens → X → Type 0) → GoesOn Has [] → GoesOn (Both (IsWord k) Has) []
some_behind_word k Has (ts, x, h) = (placed_word k ∷ ts, x, both (a_word k) h)

pub some_process : GoesOn IsProcess []
some_process = (stops, RawStop, stop_process)

pub some_operand : GoesOn IsOperand []
some_operand = (stops, RawStop, stop_operand)

pub some_expression : GoesOn IsExpression []
some_expression = (placed_number ∷ [], RawNumber 0, zero_expression)

pub some_set : GoesOn IsEventSet []
some_set = (placed_sign OpenBraceSign ∷ placed_sign CloseBraceSign ∷ [], RawEnumeration [], no_events_set)

pub some_start : GoesOn IsStart []
some_start = (stops, StartBase RawStop, a_stop)

pub some_inner : GoesOn IsInner []
some_inner = (stops, InnerProcess RawStop, stop_process)

pub some_in_brackets : GoesOn InBrackets []
unfolding stops
some_in_brackets = (placed_sign OpenRoundSign ∷ placed_word StopWord ∷ placed_sign CloseRoundSign ∷ [], InnerProcess RawStop, in_brackets stops (a_sign OpenRoundSign) stop_process (a_sign CloseRoundSign))

pub some_arguments : GoesOn AreArguments []
some_arguments = (placed_sign OpenRoundSign ∷ placed_number ∷ placed_sign CloseRoundSign ∷ [], RawNumber 0 ∷ [], arguments (a_sign OpenRoundSign) (AreExpressions.one_expression zero_expression) (a_sign CloseRoundSign))

-- what goes on with nothing
same_extended : {Y : Type 0} (From : Tokens → Type 0) (Is : Tokens → Y → Type 0) (y : Y) → ((a : Tokens) → From a → Is a y) → Extending From Is [] y
same_extended From Is y same a h = subst (λ z. Is z y) (sym (append-nil a)) (same a h)

base_process : {a : Tokens} {p : RawProcess} → IsBase a p → IsProcess a p
base_process h = IsProcess.operand (IsOperand.base h)

-- a guard goes on with an operand
guard_stop : (a : Tokens) (e : RawExpression) → IsExpression a e → IsOperand (a ++ placed_sign GuardSign ∷ stops) (RawGuard e RawStop)
unfolding stops
guard_stop a e h = subst (λ z. IsOperand z (RawGuard e RawStop)) (append_assoc a (placed_sign GuardSign ∷ []) stops) (IsOperand.guard h (a_sign GuardSign) stop_operand)

pub some_on_base : (p : RawProcess) → GoesOn (OnBase p) []
some_on_base p = ([], p, same_extended (λ a. IsBase a p) IsProcess p (λ a h. base_process h))

pub some_on_operand : (p : RawProcess) → GoesOn (OnOperand p) []
some_on_operand p = ([], p, same_extended (λ a. IsOperand a p) IsProcess p (λ a h. IsProcess.operand h))

pub some_on_renamed : (p : RawProcess) → GoesOn (OnRenamed p) []
some_on_renamed p = ([], p, same_extended (λ a. IsRenamedBase a p) IsRenamedBase p (λ a h. h))

pub some_on_hidden : (p : RawProcess) → GoesOn (OnHidden p) []
some_on_hidden p = ([], p, same_extended (λ a. IsHiddenBase a p) IsHiddenBase p (λ a h. h))

pub some_on_chain : (o : Infix) (p : RawProcess) → GoesOn (OnChain o p) []
some_on_chain o p = ([], p, same_extended (λ a. IsChain o a p) (IsChain o) p (λ a h. h))

pub some_on_start : (s : StartTree) → GoesOn (OnStart s) []
some_on_start (StartName n) = some_on_base (RawCall n no_raw_expressions)
some_on_start (StartExpression e) = (placed_sign GuardSign ∷ stops, RawGuard e RawStop, λ a h. IsProcess.operand (guard_stop a e h))
some_on_start (StartBase p) = some_on_base p
some_on_start (StartOperand p) = some_on_operand p

pub some_on_guard : (e : RawExpression) → GoesOn (OnGuard e) []
some_on_guard e = ([], StartExpression e, same_extended (λ a. IsExpression a e) IsStart (StartExpression e) (λ a h. h))

named_of : {a : Tokens} {n : RawName} → IsName a n → IsNamed a n
named_of h = (IsAtom.name h, IsBase.call h)

pub some_on_named : (n : RawName) → GoesOn (OnNamed n) []
some_on_named n = ([], StartName n, same_extended (λ a. IsNamed a n) IsStart (StartName n) (λ a h. h))

pub some_on_name : (n : RawName) → GoesOn (OnName n) []
some_on_name n = ([], StartName n, same_extended (λ a. IsName a n) IsStart (StartName n) (λ a h. named_of h))

pub some_on_first : (e : RawExpression) → GoesOn (OnFirst e) []
some_on_first e = ([], StartExpression e, same_extended (λ a. IsAtom a e) IsStart (StartExpression e) (λ a h. at_each Disjunction a e h))

start_process : (a b : Tokens) (s : StartTree) (p : RawProcess) → IsStart a s → OnStart s b p → IsProcess (a ++ b) p
start_process a b (StartName n) p h k = k a h.1
start_process a b (StartExpression e) p h k = k a h
start_process a b (StartBase p) q h k = k a h
start_process a b (StartOperand p) q h k = k a h

pub some_in_process : (s : StartTree) → GoesOn (InProcess s) []
some_in_process s = let (b, p, k) = some_on_start s in (b, InnerProcess p, λ a h. start_process a b s p h k)

pub some_in_named : (n : RawName) → GoesOn (InNamed n) []
some_in_named n = ([], InnerName n, same_extended (λ a. IsNamed a n) IsInner (InnerName n) (λ a h. h))

given_dots : (es : List RawExpression) {c : Tokens} → AreDotted c (raw_list es) → (a : Tokens) (fs : List RawField) → AreLaterFields a fs → AreFields (c ++ a) (map RawGiven es ++ fs)
given_dots [] AreDotted.no_dotted a fs t = AreFields.later_fields t
given_dots (e ∷ es) (AreDotted.dotted {a = x} {b = y} {c = z} k h hs) a fs t =
    subst (λ w. AreFields w (RawGiven e ∷ (map RawGiven es ++ fs))) (sym (append_assoc (x ++ y) z a)) (AreFields.dotted_field k h (given_dots es hs a fs t))

prefix_of : (a b c d : Tokens) (n : RawName) (es : List RawExpression) (fs : List RawField) (p : RawProcess) → IsName a n → AreDotted b (raw_list es) → AreLaterFields c fs → Both (IsSign ArrowSign) IsOperand d p →
    IsOperand ((a ++ b) ++ (c ++ d)) (RawPrefix n (map RawGiven es ++ fs) p)
prefix_of a b c _ n es fs p h hs t (both {a = x} {b = y} k i) =
    subst (λ w. IsOperand w (RawPrefix n (map RawGiven es ++ fs) p)) (append_assoc (a ++ (b ++ c)) x y ∙ ap (λ w. w ++ (x ++ y)) (sym (append_assoc a b c)) ∙ append_assoc (a ++ b) c (x ++ y))
    (IsOperand.prefix h (given_dots es hs c fs t) k i)

pub some_on_values : (n : RawName) (es : List RawExpression) → GoesOn (OnValues n es) []
some_on_values n es = (
  placed_sign ArrowSign ∷ stops,
  StartOperand (RawPrefix n (map RawGiven es ++ []) RawStop),
  λ a b h hs. prefix_of a b [] (placed_sign ArrowSign ∷ stops) n es [] RawStop h hs AreLaterFields.no_fields (both (a_sign ArrowSign) stop_operand),
)

constructs : (a b : Tokens) (n : RawName) (es : List RawExpression) (e : RawExpression) (fs : List RawExpression) → es ≡ e ∷ fs → IsName a n → AreDotted b (raw_list es) → IsEnclosed (a ++ b) (RawConstructor n (raw_list es))
constructs a b n es e fs is h hs = inr (a, b, n, e, fs, refl, h, subst (λ z. AreDotted b (raw_list z)) is hs, ap (λ z. RawConstructor n (raw_list z)) is)

pub some_in_dotted : (n : RawName) (us : Tokens) → GoesOn (InDotted n us) []
some_in_dotted n us = (
  placed_sign DotSign ∷ placed_number ∷ [],
  InnerExpression (RawConstructor n (raw_list (RawNumber 0 ∷ []))),
  λ dot a h. constructs a (placed_sign DotSign ∷ placed_number ∷ []) n (RawNumber 0 ∷ []) (RawNumber 0) [] refl h (AreDotted.dotted (a_sign DotSign) zero_atom AreDotted.no_dotted),
)

guarded_of : (e : RawExpression) (c : Tokens) (p : RawProcess) → Both (IsSign GuardSign) IsOperand c p → OnGuard e c (StartOperand (RawGuard e p))
guarded_of e _ p (both {a = a} {b = b} k h) = λ x m. subst (λ z. IsOperand z (RawGuard e p)) (append_assoc x a b) (IsOperand.guard m k h)

call_of : (n : RawName) (c : Tokens) (es : List RawExpression) → AreArguments c es → OnName n c (StartBase (RawCall n (raw_list es)))
call_of n _ es (arguments {a = a} {b = b} {c = c} k hs l) = λ x h. subst (λ z. IsBase z (RawCall n (raw_list es))) (front3 x a b c) (IsBase.call_with h k hs l)

arguments_of : (a b c : Tokens) (e : RawExpression) (es : List RawExpression) → Both (IsSign OpenRoundSign) IsExpression a e → Adds Disjunction (e ∷ []) b es → IsSign CloseRoundSign c → AreArguments ((a ++ b) ++ c) es
arguments_of _ b c e es (both {a = x} {b = y} k h) (ys, is, t) l =
    subst (λ z. AreArguments (z ++ c) es) (sym (append_assoc x y b)) (arguments k (subst (λ z. AreExpressions (y ++ b) (raw_list z)) (sym is) (expressions_of t y e h)) l)

named_in_brackets : (a : Tokens) (n : RawName) → InBrackets a (InnerName n) → IsNamed a n
named_in_brackets _ n (in_brackets {a = a} b {c = c} k h l) = (IsAtom.bracketed k (at_each Disjunction b (RawUse n) h.0) l, IsBase.bracketed_process k (base_process h.1) l)

atom_in_brackets : (a : Tokens) (e : RawExpression) → InBrackets a (InnerExpression e) → IsAtom a e
atom_in_brackets _ e (in_brackets {a = a} b {c = c} k h l) = round_atom a b c e k h l

base_in_brackets : (a : Tokens) (p : RawProcess) → InBrackets a (InnerProcess p) → IsBase a p
base_in_brackets _ p (in_brackets b k h l) = IsBase.bracketed_process k h l

start_in_brackets : (c : Tokens) (i : InnerTree) → InBrackets c i → GoesOn IsStart c
start_in_brackets c (InnerName n) h = ([], StartName n, subst (λ z. IsNamed z n) (sym (append-nil c)) (named_in_brackets c n h))
start_in_brackets c (InnerExpression e) h = ([], StartExpression e, subst (λ z. IsExpression z e) (sym (append-nil c)) (at_each Disjunction c e (atom_in_brackets c e h)))
start_in_brackets c (InnerProcess p) h = ([], StartBase p, subst (λ z. IsBase z p) (sym (append-nil c)) (base_in_brackets c p h))

-- PROCESSES ARE SOUND

replicator_is : (o : Replicator) (a : Tokens) → IsSign (replicator_sign o) a → IsReplicator a o
replicator_is ExternalReplicator a k = IsReplicator.external_replicator k
replicator_is InternalReplicator a k = IsReplicator.internal_replicator k
replicator_is InterleavingReplicator a k = IsReplicator.interleaving_replicator k

infix_is : (o : Infix) (a : Tokens) → IsSign (infix_sign o) a → IsInfix a o
infix_is ExternalInfix a k = IsInfix.external_infix k
infix_is InternalInfix a k = IsInfix.internal_infix k
infix_is SequentialInfix a k = IsInfix.sequential_infix k
infix_is InterleavingInfix a k = IsInfix.interleaving_infix k
infix_is InterruptInfix a k = IsInfix.interrupt_infix k
infix_is SlidingInfix a k = IsInfix.sliding_infix k

conditional_of : (a b c : Tokens) (e : RawExpression) (p q : RawProcess) → Both (IsWord IfWord) IsExpression a e → Both (IsWord ThenWord) IsProcess b p → Both (IsWord ElseWord) IsProcess c q → IsProcess ((a ++ b) ++ c) (RawIf e p q)
conditional_of _ _ _ e p q (both {a = a} {b = b} k h) (both {a = c} {b = d} l i) (both {a = f} {b = g} m j) = subst (λ w. IsProcess w (RawIf e p q)) (three_pairs a b c d f g) (IsProcess.conditional k h l i m j)

replicated_of : (o : Replicator) (a b c : Tokens) (n : RawName) (e : RawExpression) (p : RawProcess) → Both (IsSign (replicator_sign o)) IsName a n → Both (IsSign ColonSign) IsAtom b e → Both (IsSign AtSign) IsProcess c p →
    IsProcess ((a ++ b) ++ c) (RawReplicated o n e p)
replicated_of o _ _ _ n e p (both {a = a} {b = b} k h) (both {a = c} {b = d} l i) (both {a = f} {b = g} m j) = subst (λ w. IsProcess w (RawReplicated o n e p)) (three_pairs a b c d f g) (IsProcess.replicated (replicator_is o a k) h l i m j)

generalised_of : (p : RawProcess) (a b : Tokens) (s : RawEventSet) (q : RawProcess) → Both (IsSign OpenSharedSign) IsEventSet a s → Both (IsSign CloseSharedSign) IsOperand b q → OnOperand p (a ++ b) (RawGeneralisedParallel p s q)
generalised_of p _ _ s q (both {a = a} {b = b} k h) (both {a = c} {b = d} l i) = λ x m. subst (λ w. IsProcess w (RawGeneralisedParallel p s q)) (front4 x a b c d ∙ ap (λ w. x ++ w) (two_pairs a b c d)) (IsProcess.generalised m k h l i)

alphabetised_of : (p : RawProcess) (a b c : Tokens) (s t : RawEventSet) (q : RawProcess) → Both (IsSign OpenSquareSign) IsEventSet a s → Both (IsSign DoubleBarSign) IsEventSet b t → Both (IsSign CloseSquareSign) IsOperand c q →
    OnOperand p ((a ++ b) ++ c) (RawAlphabetisedParallel p s t q)
alphabetised_of p _ _ _ s t q (both {a = a} {b = b} k h) (both {a = c} {b = d} l i) (both {a = f} {b = g} m j) = λ x n.
    subst (λ w. IsProcess w (RawAlphabetisedParallel p s t q)) (front6 x a b c d f g ∙ ap (λ w. x ++ w) (three_pairs a b c d f g)) (IsProcess.alphabetised n k h l i m j)

one_renaming : (a b : Tokens) (p : RawProcess) (ps : List RawPair) → IsRenamedBase a p → IsRenamingPart b ps → IsRenamedBase (a ++ b) (RawRenaming p ps)
one_renaming a b p ps (bare h) m = renamed (IsRenamed.renamed_base h m)
one_renaming a b p ps (renamed h) m = renamed (IsRenamed.renamed_again h m)

one_hiding : (a b : Tokens) (p : RawProcess) (s : RawEventSet) → IsHiddenBase a p → IsHidingPart b s → IsHiddenBase (a ++ b) (RawHiding p s)
one_hiding a b p s (unhidden (bare h)) m = hidden (IsHidden.hidden_base h m)
one_hiding a b p s (unhidden (renamed h)) m = hidden (IsHidden.hidden_renamed h m)
one_hiding a b p s (hidden h) m = hidden (IsHidden.hidden_again h m)

hidden_process : (a : Tokens) (p : RawProcess) → IsHiddenBase a p → IsProcess a p
hidden_process a p (unhidden (bare h)) = base_process h
hidden_process a p (unhidden (renamed h)) = IsProcess.renamed h
hidden_process a p (hidden h) = IsProcess.hidden h

renamings_of : (p : RawProcess) (a b c d : Tokens) (ps : List RawPair) (q : RawProcess) → IsSign OpenRenamingSign a → ArePairs b ps → IsSign CloseRenamingSign c → OnRenamed (RawRenaming p ps) d q → OnRenamed p (((a ++ b) ++ c) ++ d) q
renamings_of p a b c d ps q k hs l more = λ x h. subst (λ w. IsRenamedBase w q) (append_assoc x ((a ++ b) ++ c) d) (more (x ++ ((a ++ b) ++ c)) (one_renaming x ((a ++ b) ++ c) p ps h (IsRenamingPart.renaming_part k hs l)))

hidings_of : (p : RawProcess) (a b : Tokens) (s : RawEventSet) (q : RawProcess) → Both (IsSign HidingSign) IsEventSet a s → OnHidden (RawHiding p s) b q → OnHidden p (a ++ b) q
hidings_of p _ d s q (both {a = a} {b = b} k h) more = λ x i. subst (λ w. IsHiddenBase w q) (append_assoc x (a ++ b) d) (more (x ++ (a ++ b)) (one_hiding x (a ++ b) p s i (IsHidingPart.hiding_part k h)))

suffixes_of : (p : RawProcess) (a b : Tokens) (q r : RawProcess) → OnRenamed p a q → OnHidden q b r → OnBase p (a ++ b) r
suffixes_of p a b q r more last = λ x h. subst (λ w. IsProcess w r) (append_assoc x a b) (hidden_process ((x ++ a) ++ b) r (last (x ++ a) (unhidden (more x (bare h)))))

longer_chain : (o : Infix) (p : RawProcess) (a b : Tokens) (q r : RawProcess) → Both (IsSign (infix_sign o)) IsOperand a q → OnChain o (RawInfix o p q) b r → OnChain o p (a ++ b) r
longer_chain o p _ d q r (both {a = a} {b = b} k h) more = λ x i.
    subst (λ w. IsChain o w r) (append_assoc x (a ++ b) d) (more (x ++ (a ++ b)) (subst (λ w. IsChain o w (RawInfix o p q)) (append_assoc x a b) (IsChain.longer i (infix_is o a k) h)))

chain_of : (o : Infix) (p : RawProcess) (a b : Tokens) (q r : RawProcess) → Both (IsSign (infix_sign o)) IsOperand a q → OnChain o (RawInfix o p q) b r → OnOperand p (a ++ b) r
chain_of o p _ d q r (both {a = a} {b = b} k h) more = λ x i.
    IsProcess.chain (subst (λ w. IsChain o w r) (append_assoc x (a ++ b) d) (more (x ++ (a ++ b)) (subst (λ w. IsChain o w (RawInfix o p q)) (append_assoc x a b) (IsChain.two i (infix_is o a k) h))))

pub process_by_says : (limited : Bool) (u : Oracle) → SaysForm u Conditional IsProcess → ((o : Replicator) → SaysForm u (ReplicatedOver o) IsProcess) → SaysForm u OfStart IsStart → ((s : StartTree) → SaysForm u (ProcessFrom s) (OnStart s)) →
    (q : Standing) (b : Bool) (o : Option Replicator) → Says IsProcess q.left (run_to limited u (process_by b o) q)
process_by_says limited u conditionals replicated starts froms q true o = says_last IsProcess IsProcess (λ x. x) [] q.left (u Conditional q) (conditionals q) (λ x c h. h)
process_by_says limited u conditionals replicated starts froms q false (Some o) = says_last IsProcess IsProcess (λ x. x) [] q.left (u (ReplicatedOver o) q) (replicated o q) (λ x c h. h)
process_by_says limited u conditionals replicated starts froms q false None = two_parts_say IsStart OnStart IsProcess (λ _ p. p) (λ a b s p. start_process a b s p) some_on_start q.left (u OfStart q) (λ s. u (ProcessFrom s)) (starts q) froms

pub conditional_says : (limited : Bool) (u : Oracle) → SaysForm u OfCondition (Both (IsWord IfWord) IsExpression) → ((k : Keyword) → SaysForm u (ProcessBehindWord k) (Both (IsWord k) IsProcess)) → (q : Standing) → Says IsProcess q.left (run_to limited u (body Conditional) q)
unfolding body
conditional_says limited u conditions behinds q =
    three_parts_say (Both (IsWord IfWord) IsExpression) (λ _. Both (IsWord ThenWord) IsProcess) (λ _ _. Both (IsWord ElseWord) IsProcess) IsProcess RawIf conditional_of (λ _. some_behind_word ThenWord IsProcess some_process) (λ _ _. some_behind_word ElseWord IsProcess some_process)
    q.left (u OfCondition q) (λ _. u (ProcessBehindWord ThenWord)) (λ _ _. u (ProcessBehindWord ElseWord)) (conditions q) (λ _. behinds ThenWord) (λ _ _. behinds ElseWord)

pub replicated_says : (limited : Bool) (u : Oracle) (o : Replicator) → ((s : Sign) → SaysForm u (NameBehind s) (Pair (IsSign s) IsName)) → SaysBehind u → ((s : Sign) → SaysForm u (ProcessBehind s) (Both (IsSign s) IsProcess)) → (q : Standing) →
    Says IsProcess q.left (run_to limited u (body (ReplicatedOver o)) q)
unfolding body
replicated_says limited u o names behinds processes q =
    three_parts_say (Both (IsSign (replicator_sign o)) IsName) (λ _. Both (IsSign ColonSign) IsAtom) (λ _ _. Both (IsSign AtSign) IsProcess) IsProcess (RawReplicated o) (replicated_of o)
    (λ _. (placed_sign ColonSign ∷ placed_number ∷ [], RawNumber 0, both (a_sign ColonSign) zero_atom)) (λ _ _. some_behind AtSign IsProcess some_process)
    q.left (u (NameBehind (replicator_sign o)) q) (λ _. u (Behind ColonSign Atom)) (λ _ _. u (ProcessBehind AtSign))
    (as_both (IsSign (replicator_sign o)) IsName q.left (u (NameBehind (replicator_sign o)) q) (names (replicator_sign o) q)) (λ _ p. as_both (IsSign ColonSign) IsAtom p.left (u (Behind ColonSign Atom) p) (behinds ColonSign Atom p)) (λ _ _. processes AtSign)

pub process_from_says : (limited : Bool) (u : Oracle) → ((p : RawProcess) → SaysForm u (FromBase p) (OnBase p)) → ((p : RawProcess) → SaysForm u (FromOperand p) (OnOperand p)) → (s : StartTree) (q : Standing) → Says (OnStart s) q.left (run_to limited u (process_from s) q)
process_from_says limited u bases operands (StartName n) q = says_last (OnBase (RawCall n no_raw_expressions)) (OnBase (RawCall n no_raw_expressions)) (λ x. x) [] q.left (u (FromBase (RawCall n no_raw_expressions)) q) (bases (RawCall n no_raw_expressions) q) (λ x c h. h)
process_from_says limited u bases operands (StartExpression e) q = ([], refl, some_on_start (StartExpression e))
process_from_says limited u bases operands (StartBase p) q = says_last (OnBase p) (OnBase p) (λ x. x) [] q.left (u (FromBase p) q) (bases p q) (λ x c h. h)
process_from_says limited u bases operands (StartOperand p) q = says_last (OnOperand p) (OnOperand p) (λ x. x) [] q.left (u (FromOperand p) q) (operands p q) (λ x c h. h)

pub from_base_says : (limited : Bool) (u : Oracle) (p : RawProcess) → ((p : RawProcess) → SaysForm u (RenamedFrom p) (OnRenamed p)) → ((p : RawProcess) → SaysForm u (HiddenFrom p) (OnHidden p)) → ((p : RawProcess) → SaysForm u (FromOperand p) (OnOperand p)) →
    (q : Standing) (b : Bool) → Says (OnBase p) q.left (run_to limited u (from_base_by p b) q)
from_base_says limited u p renames hides operands q true = two_parts_say (OnRenamed p) OnHidden (OnBase p) (λ _ r. r) (λ a b x y. suffixes_of p a b x y) some_on_hidden q.left (u (RenamedFrom p) q) (λ x. u (HiddenFrom x)) (renames p q) hides
from_base_says limited u p renames hides operands q false = says_last (OnOperand p) (OnBase p) (λ x. x) [] q.left (u (FromOperand p) q) (operands p q) (λ x c h. λ a k. h a (IsOperand.base k))

pub renamed_says : (limited : Bool) (u : Oracle) (p : RawProcess) → SaysSigns u → SaysForm u OfPairs ArePairs → ((p : RawProcess) → SaysForm u (RenamedFrom p) (OnRenamed p)) → (q : Standing) (b : Bool) → Says (OnRenamed p) q.left (run_to limited u (renamed_by p b) q)
unfolding some_on_renamed
renamed_says limited u p signs pairs renames q false = ([], refl, (some_on_renamed p).2)
renamed_says limited u p signs pairs renames q true =
    four_parts_say (λ ts _. IsSign OpenRenamingSign ts) (λ _. ArePairs) (λ _ _ ts _. IsSign CloseRenamingSign ts) (λ _ ps _. OnRenamed (RawRenaming p ps)) (OnRenamed p) (λ _ _ _ x. x)
    (λ a b c d _ ps _ x. renamings_of p a b c d ps x) (λ _. (placed_name ∷ placed_sign BackArrowSign ∷ placed_name ∷ [], record { from = a_raw_event; to = a_raw_event } ∷ [], ArePairs.one_pair an_event (a_sign BackArrowSign) an_event))
    (λ _ _. (placed_sign CloseRenamingSign ∷ [], tt {0}, a_sign CloseRenamingSign)) (λ _ ps _. some_on_renamed (RawRenaming p ps))
    q.left (u (OfSign OpenRenamingSign) q) (λ _. u OfPairs) (λ _ _. u (OfSign CloseRenamingSign)) (λ _ ps _. u (RenamedFrom (RawRenaming p ps))) (signs OpenRenamingSign q) (λ _. pairs) (λ _ _. signs CloseRenamingSign) (λ _ ps _. renames (RawRenaming p ps))

pub hidden_says : (limited : Bool) (u : Oracle) (p : RawProcess) → ((s : Sign) → SaysForm u (EventSetBehind s) (Pair (IsSign s) IsEventSet)) → ((p : RawProcess) → SaysForm u (HiddenFrom p) (OnHidden p)) → (q : Standing) (b : Bool) → Says (OnHidden p) q.left (run_to limited u (hidden_by p b) q)
unfolding some_on_hidden
hidden_says limited u p sets hides q false = ([], refl, (some_on_hidden p).2)
hidden_says limited u p sets hides q true =
    two_parts_say (Both (IsSign HidingSign) IsEventSet) (λ s. OnHidden (RawHiding p s)) (OnHidden p) (λ _ x. x) (λ a b s x. hidings_of p a b s x) (λ s. some_on_hidden (RawHiding p s))
    q.left (u (EventSetBehind HidingSign) q) (λ s. u (HiddenFrom (RawHiding p s))) (as_both (IsSign HidingSign) IsEventSet q.left (u (EventSetBehind HidingSign) q) (sets HidingSign q)) (λ s. hides (RawHiding p s))

pub from_operand_says : (limited : Bool) (u : Oracle) (p : RawProcess) → ((o : Infix) (p : RawProcess) → SaysForm u (ChainOver o p) (OnOperand p)) → ((p : RawProcess) → SaysForm u (GeneralisedFrom p) (OnOperand p)) → ((p : RawProcess) → SaysForm u (AlphabetisedFrom p) (OnOperand p)) →
    (q : Standing) (o : Option Infix) (b c : Bool) → Says (OnOperand p) q.left (run_to limited u (from_operand_by p o b c) q)
unfolding some_on_operand
from_operand_says limited u p chains shared alphabets q (Some o) b c = says_last (OnOperand p) (OnOperand p) (λ x. x) [] q.left (u (ChainOver o p) q) (chains o p q) (λ x c h. h)
from_operand_says limited u p chains shared alphabets q None true c = says_last (OnOperand p) (OnOperand p) (λ x. x) [] q.left (u (GeneralisedFrom p) q) (shared p q) (λ x c h. h)
from_operand_says limited u p chains shared alphabets q None false true = says_last (OnOperand p) (OnOperand p) (λ x. x) [] q.left (u (AlphabetisedFrom p) q) (alphabets p q) (λ x c h. h)
from_operand_says limited u p chains shared alphabets q None false false = ([], refl, (some_on_operand p).2)

abbrev pub SaysOperands : Oracle → Type 0
SaysOperands u = (s : Sign) → SaysForm u (OperandBehind s) (Both (IsSign s) IsOperand)

abbrev pub SaysSets : Oracle → Type 0
SaysSets u = (s : Sign) → SaysForm u (EventSetBehind s) (Pair (IsSign s) IsEventSet)

set_says : (u : Oracle) → SaysSets u → (s : Sign) → SaysForm u (EventSetBehind s) (Both (IsSign s) IsEventSet)
set_says u sets s p = as_both (IsSign s) IsEventSet p.left (u (EventSetBehind s) p) (sets s p)

pub generalised_says : (limited : Bool) (u : Oracle) (p : RawProcess) → SaysSets u → SaysOperands u → (q : Standing) → Says (OnOperand p) q.left (run_to limited u (body (GeneralisedFrom p)) q)
unfolding body
generalised_says limited u p sets operands q =
    two_parts_say (Both (IsSign OpenSharedSign) IsEventSet) (λ _. Both (IsSign CloseSharedSign) IsOperand) (OnOperand p) (RawGeneralisedParallel p) (generalised_of p) (λ _. some_behind CloseSharedSign IsOperand some_operand)
    q.left (u (EventSetBehind OpenSharedSign) q) (λ _. u (OperandBehind CloseSharedSign)) (set_says u sets OpenSharedSign q) (λ _. operands CloseSharedSign)

pub alphabetised_says : (limited : Bool) (u : Oracle) (p : RawProcess) → SaysSets u → SaysOperands u → (q : Standing) → Says (OnOperand p) q.left (run_to limited u (body (AlphabetisedFrom p)) q)
unfolding body
alphabetised_says limited u p sets operands q =
    three_parts_say (Both (IsSign OpenSquareSign) IsEventSet) (λ _. Both (IsSign DoubleBarSign) IsEventSet) (λ _ _. Both (IsSign CloseSquareSign) IsOperand) (OnOperand p) (RawAlphabetisedParallel p) (alphabetised_of p)
    (λ _. some_behind DoubleBarSign IsEventSet some_set) (λ _ _. some_behind CloseSquareSign IsOperand some_operand)
    q.left (u (EventSetBehind OpenSquareSign) q) (λ _. u (EventSetBehind DoubleBarSign)) (λ _ _. u (OperandBehind CloseSquareSign)) (set_says u sets OpenSquareSign q) (λ _. set_says u sets DoubleBarSign) (λ _ _. operands CloseSquareSign)

pub chain_over_says : (limited : Bool) (u : Oracle) (o : Infix) (p : RawProcess) → SaysOperands u → ((o : Infix) (p : RawProcess) → SaysForm u (ChainMore o p) (OnChain o p)) → (q : Standing) → Says (OnOperand p) q.left (run_to limited u (body (ChainOver o p)) q)
unfolding body
chain_over_says limited u o p operands chains q =
    two_parts_say (Both (IsSign (infix_sign o)) IsOperand) (λ x. OnChain o (RawInfix o p x)) (OnOperand p) (λ _ x. x) (λ a b x y. chain_of o p a b x y) (λ x. some_on_chain o (RawInfix o p x))
    q.left (u (OperandBehind (infix_sign o)) q) (λ x. u (ChainMore o (RawInfix o p x))) (operands (infix_sign o) q) (λ x. chains o (RawInfix o p x))

pub chain_more_says : (limited : Bool) (u : Oracle) (o : Infix) (p : RawProcess) → SaysOperands u → ((o : Infix) (p : RawProcess) → SaysForm u (ChainMore o p) (OnChain o p)) → (q : Standing) (b : Bool) → Says (OnChain o p) q.left (run_to limited u (chain_by o p b) q)
unfolding some_on_chain
chain_more_says limited u o p operands chains q false = ([], refl, (some_on_chain o p).2)
chain_more_says limited u o p operands chains q true =
    two_parts_say (Both (IsSign (infix_sign o)) IsOperand) (λ x. OnChain o (RawInfix o p x)) (OnChain o p) (λ _ x. x) (λ a b x y. longer_chain o p a b x y) (λ x. some_on_chain o (RawInfix o p x))
    q.left (u (OperandBehind (infix_sign o)) q) (λ x. u (ChainMore o (RawInfix o p x))) (operands (infix_sign o) q) (λ x. chains o (RawInfix o p x))

-- OPERANDS

operand_of_start : (c : Tokens) (s : StartTree) → IsStart c s → GoesOn IsOperand c
operand_of_start c (StartName n) h = ([], RawCall n no_raw_expressions, subst (λ z. IsOperand z (RawCall n no_raw_expressions)) (sym (append-nil c)) (IsOperand.base h.1))
operand_of_start c (StartExpression e) h = (placed_sign GuardSign ∷ stops, RawGuard e RawStop, guard_stop c e h)
operand_of_start c (StartBase p) h = ([], p, subst (λ z. IsOperand z p) (sym (append-nil c)) (IsOperand.base h))
operand_of_start c (StartOperand p) h = ([], p, subst (λ z. IsOperand z p) (sym (append-nil c)) h)

operand_from_says : (limited : Bool) (u : Oracle) (a : Tokens) (s : StartTree) → IsStart a s → (p : Standing) → Says IsOperand (a ++ p.left) (run_to limited u (operand_from s) p)
operand_from_says limited u a (StartName n) h p = (a, refl, IsOperand.base h.1)
operand_from_says limited u a (StartExpression e) h p = (a, refl, operand_of_start a (StartExpression e) h)
operand_from_says limited u a (StartBase x) h p = (a, refl, IsOperand.base h)
operand_from_says limited u a (StartOperand x) h p = (a, refl, h)

pub operand_says : (limited : Bool) (u : Oracle) → SaysForm u OfStart IsStart → (q : Standing) → Says IsOperand q.left (run_to limited u (body OfOperand) q)
unfolding body
operand_says limited u starts q =
    says_then IsStart IsOperand [] q.left (u OfStart q) (λ s. run_to limited u (operand_from s)) (starts q) (λ s c h. operand_of_start c s h) (λ s a p h. operand_from_says limited u a s h p)

-- STARTS

pub start_says : (limited : Bool) (u : Oracle) → SaysForm u StopStart IsStart → SaysForm u SkipStart IsStart → SaysForm u StartOfName IsStart → SaysForm u StartOfBrackets IsStart → SaysForm u StartOfExpression IsStart →
    (q : Standing) (a b c d : Bool) → Says IsStart q.left (run_to limited u (start_by a b c d) q)
start_says limited u halts skips names brackets expressions q true b c d = says_last IsStart IsStart (λ x. x) [] q.left (u StopStart q) (halts q) (λ x c h. h)
start_says limited u halts skips names brackets expressions q false true c d = says_last IsStart IsStart (λ x. x) [] q.left (u SkipStart q) (skips q) (λ x c h. h)
start_says limited u halts skips names brackets expressions q false false true d = says_last IsStart IsStart (λ x. x) [] q.left (u StartOfName q) (names q) (λ x c h. h)
start_says limited u halts skips names brackets expressions q false false false true = says_last IsStart IsStart (λ x. x) [] q.left (u StartOfBrackets q) (brackets q) (λ x c h. h)
start_says limited u halts skips names brackets expressions q false false false false = says_last IsStart IsStart (λ x. x) [] q.left (u StartOfExpression q) (expressions q) (λ x c h. h)

pub stop_says : (limited : Bool) (u : Oracle) → SaysWords u → (q : Standing) → Says IsStart q.left (run_to limited u (body StopStart) q)
unfolding body
stop_says limited u words q = says_last (λ ts _. IsWord StopWord ts) IsStart (λ _. StartBase RawStop) [] q.left (u (OfWord StopWord) q) (words StopWord q) (λ _ c h. IsBase.stop h)

pub skip_says : (limited : Bool) (u : Oracle) → SaysWords u → (q : Standing) → Says IsStart q.left (run_to limited u (body SkipStart) q)
unfolding body
skip_says limited u words q = says_last (λ ts _. IsWord SkipWord ts) IsStart (λ _. StartBase RawSkip) [] q.left (u (OfWord SkipWord) q) (words SkipWord q) (λ _ c h. IsBase.skip h)

pub start_of_expression_says : (limited : Bool) (u : Oracle) → SaysLevels u → ((e : RawExpression) → SaysForm u (GuardOf e) (OnGuard e)) → (q : Standing) → Says IsStart q.left (run_to limited u (body StartOfExpression) q)
unfolding body
start_of_expression_says limited u levels guards q =
    two_parts_say IsExpression OnGuard IsStart (λ _ s. s) (λ a b e s h k. k a h) some_on_guard q.left (u (AtLevel Disjunction) q) (λ e. u (GuardOf e)) (levels Disjunction q) guards

pub guard_says : (limited : Bool) (u : Oracle) (e : RawExpression) → SaysOperands u → (q : Standing) (b : Bool) → Says (OnGuard e) q.left (run_to limited u (guarded_by e b) q)
unfolding some_on_guard
guard_says limited u e operands q false = ([], refl, (some_on_guard e).2)
guard_says limited u e operands q true =
    says_last (Both (IsSign GuardSign) IsOperand) (OnGuard e) (λ p. StartOperand (RawGuard e p)) [] q.left (u (OperandBehind GuardSign) q) (operands GuardSign q) (λ p c h. guarded_of e c p h)

pub start_of_name_says : (limited : Bool) (u : Oracle) → SaysForm u OfName IsName → ((n : RawName) → SaysForm u (StartBehindName n) (OnName n)) → (q : Standing) → Says IsStart q.left (run_to limited u (body StartOfName) q)
unfolding body
start_of_name_says limited u names behinds q = two_parts_say IsName OnName IsStart (λ _ s. s) (λ a b n s h k. k a h) some_on_name q.left (u OfName q) (λ n. u (StartBehindName n)) (names q) behinds

pub behind_start_name_says : (limited : Bool) (u : Oracle) (n : RawName) → ((n : RawName) → SaysForm u (CallOf n) (OnName n)) → ((n : RawName) → SaysForm u (PrefixOf n) (OnName n)) → ((n : RawName) → SaysForm u (StartFromName n) (OnNamed n)) →
    (q : Standing) (b c : Bool) → Says (OnName n) q.left (run_to limited u (behind_start_name n b c) q)
behind_start_name_says limited u n calls prefixes others q true c = says_last (OnName n) (OnName n) (λ x. x) [] q.left (u (CallOf n) q) (calls n q) (λ x c h. h)
behind_start_name_says limited u n calls prefixes others q false true = says_last (OnName n) (OnName n) (λ x. x) [] q.left (u (PrefixOf n) q) (prefixes n q) (λ x c h. h)
behind_start_name_says limited u n calls prefixes others q false false = says_last (OnNamed n) (OnName n) (λ x. x) [] q.left (u (StartFromName n) q) (others n q) (λ x c h. λ a k. h a (named_of k))

pub call_says : (limited : Bool) (u : Oracle) (n : RawName) → SaysForm u Arguments AreArguments → (q : Standing) → Says (OnName n) q.left (run_to limited u (body (CallOf n)) q)
unfolding body
call_says limited u n given q = says_last AreArguments (OnName n) (λ es. StartBase (RawCall n (raw_list es))) [] q.left (u Arguments q) (given q) (λ es c h. call_of n c es h)

pub arguments_say : (limited : Bool) (u : Oracle) → SaysSigns u → SaysBehind u → SaysLists u → (q : Standing) → Says AreArguments q.left (run_to limited u (body Arguments) q)
unfolding body
arguments_say limited u signs behinds lists q =
    three_parts_say (Both (IsSign OpenRoundSign) IsExpression) (λ e. Adds Disjunction (e ∷ [])) (λ _ _ ts _. IsSign CloseRoundSign ts) AreArguments (λ _ es _. es) (λ a b c e es _. arguments_of a b c e es)
    (λ e. ([], e ∷ [], ([], refl, no_tail))) (λ _ _. (placed_sign CloseRoundSign ∷ [], tt {0}, a_sign CloseRoundSign))
    q.left (u (Behind OpenRoundSign Disjunction) q) (λ e. u (Listed Disjunction (e ∷ []))) (λ _ _. u (OfSign CloseRoundSign))
    (as_both (IsSign OpenRoundSign) IsExpression q.left (u (Behind OpenRoundSign Disjunction) q) (behinds OpenRoundSign Disjunction q)) (λ e. lists Disjunction (e ∷ [])) (λ _ _. signs CloseRoundSign)

pub prefix_says : (limited : Bool) (u : Oracle) (n : RawName) → SaysDots u → ((n : RawName) (es : List RawExpression) → SaysForm u (PrefixBehind n es) (OnValues n es)) → (q : Standing) → Says (OnName n) q.left (run_to limited u (body (PrefixOf n)) q)
unfolding body
prefix_says limited u n dots behinds q =
    two_parts_say (Fields q.left []) (OnValues n) (OnName n) (λ _ s. s) (λ a b es s (ys, is, hs, some) k. λ d h. subst (λ z. IsStart z s) (append_assoc d a b) (k d a h (subst (λ z. AreDotted a (raw_list z)) (sym is) hs))) (some_on_values n)
    q.left (u (Dotted []) q) (λ es. u (PrefixBehind n es)) (dots [] q) (behinds n)

pub prefix_behind_says : (limited : Bool) (u : Oracle) (n : RawName) (es : List RawExpression) → ((fs : List RawField) → SaysForm u (FieldsBehind fs) (AddsFields fs)) → SaysOperands u → (q : Standing) → Says (OnValues n es) q.left (run_to limited u (body (PrefixBehind n es)) q)
unfolding body
prefix_behind_says limited u n es fields operands q =
    two_parts_say (AddsFields (map RawGiven es)) (λ _. Both (IsSign ArrowSign) IsOperand) (OnValues n es) (λ fs p. StartOperand (RawPrefix n fs p))
    (λ a b fs p (ys, is, t) k. λ c d h hs. subst (λ z. IsOperand ((c ++ d) ++ (a ++ b)) (RawPrefix n z p)) (sym is) (prefix_of c d a b n es ys p h hs t k)) (λ _. some_behind ArrowSign IsOperand some_operand)
    q.left (u (FieldsBehind (map RawGiven es)) q) (λ _. u (OperandBehind ArrowSign)) (fields (map RawGiven es) q) (λ _. operands ArrowSign)

from_atom_guard : (a b : Tokens) (e x : RawExpression) (s : StartTree) → FromAtom e a x → OnGuard x b s → OnFirst e (a ++ b) s
from_atom_guard a b e x s f k = λ d h. subst (λ z. IsStart z s) (append_assoc d a b) (k (d ++ a) (f d h))

pub start_from_name_says : (limited : Bool) (u : Oracle) (n : RawName) → ((e : RawExpression) → SaysForm u (ExpressionFrom e) (FromAtom e)) → ((e : RawExpression) → SaysForm u (GuardOf e) (OnGuard e)) → (q : Standing) (b : Bool) →
    Says (OnNamed n) q.left (run_to limited u (start_from_name_by n b) q)
unfolding some_on_named
start_from_name_says limited u n froms guards q false = ([], refl, (some_on_named n).2)
start_from_name_says limited u n froms guards q true =
    two_parts_say (FromAtom (RawUse n)) OnGuard (OnNamed n) (λ _ s. s) (λ a b x s f k. λ d h. from_atom_guard a b (RawUse n) x s f k d h.0) some_on_guard
    q.left (u (ExpressionFrom (RawUse n)) q) (λ e. u (GuardOf e)) (froms (RawUse n) q) guards

pub start_from_atom_says : (limited : Bool) (u : Oracle) (e : RawExpression) → ((e : RawExpression) → SaysForm u (ExpressionFrom e) (FromAtom e)) → ((e : RawExpression) → SaysForm u (GuardOf e) (OnGuard e)) → (q : Standing) →
    Says (OnFirst e) q.left (run_to limited u (body (StartFromAtom e)) q)
unfolding body
start_from_atom_says limited u e froms guards q =
    two_parts_say (FromAtom e) OnGuard (OnFirst e) (λ _ s. s) (λ a b x s. from_atom_guard a b e x s) some_on_guard q.left (u (ExpressionFrom e) q) (λ e. u (GuardOf e)) (froms e q) guards

-- BRACKETS

start_from_inner_says : (limited : Bool) (u : Oracle) → ((n : RawName) → SaysForm u (StartFromName n) (OnNamed n)) → ((e : RawExpression) → SaysForm u (StartFromAtom e) (OnFirst e)) → (a : Tokens) (i : InnerTree) → InBrackets a i → (p : Standing) →
    Says IsStart (a ++ p.left) (run_to limited u (start_from_inner i) p)
start_from_inner_says limited u names atoms a (InnerName n) h p = says_last (OnNamed n) IsStart (λ x. x) a p.left (u (StartFromName n) p) (names n p) (λ x c k. k a (named_in_brackets a n h))
start_from_inner_says limited u names atoms a (InnerExpression e) h p = says_last (OnFirst e) IsStart (λ x. x) a p.left (u (StartFromAtom e) p) (atoms e p) (λ x c k. k a (atom_in_brackets a e h))
start_from_inner_says limited u names atoms a (InnerProcess x) h p = (a, refl, base_in_brackets a x h)

pub start_of_brackets_says : (limited : Bool) (u : Oracle) → SaysForm u BracketedInner InBrackets → ((n : RawName) → SaysForm u (StartFromName n) (OnNamed n)) → ((e : RawExpression) → SaysForm u (StartFromAtom e) (OnFirst e)) → (q : Standing) →
    Says IsStart q.left (run_to limited u (body StartOfBrackets) q)
unfolding body
start_of_brackets_says limited u inners names atoms q =
    says_then InBrackets IsStart [] q.left (u BracketedInner q) (λ i. run_to limited u (start_from_inner i)) (inners q) (λ i c h. start_in_brackets c i h) (λ i a p h. start_from_inner_says limited u names atoms a i h p)

pub bracketed_inner_says : (limited : Bool) (u : Oracle) → SaysSigns u → SaysForm u OfInner IsInner → (q : Standing) → Says InBrackets q.left (run_to limited u (body BracketedInner) q)
unfolding body
bracketed_inner_says limited u signs inners q =
    three_parts_say (λ ts _. IsSign OpenRoundSign ts) (λ _. IsInner) (λ _ _ ts _. IsSign CloseRoundSign ts) InBrackets (λ _ i _. i) (λ a b c _ i _ k h l. in_brackets b k h l) (λ _. (stops, InnerProcess RawStop, stop_process)) (λ _ _. (placed_sign CloseRoundSign ∷ [], tt {0}, a_sign CloseRoundSign))
    q.left (u (OfSign OpenRoundSign) q) (λ _. u OfInner) (λ _ _. u (OfSign CloseRoundSign)) (signs OpenRoundSign q) (λ _. inners) (λ _ _. signs CloseRoundSign)

pub inner_says : (limited : Bool) (u : Oracle) → SaysForm u OfProcess IsProcess → SaysForm u InnerOfName IsInner → SaysForm u OfStart IsStart → ((s : StartTree) → SaysForm u (InnerFrom s) (InProcess s)) → (q : Standing) (b c : Bool) →
    Says IsInner q.left (run_to limited u (inner_by b c) q)
inner_says limited u processes names starts froms q true c = says_last IsProcess IsInner (λ p. InnerProcess p) [] q.left (u OfProcess q) (processes q) (λ x c h. h)
inner_says limited u processes names starts froms q false true = says_last IsInner IsInner (λ x. x) [] q.left (u InnerOfName q) (names q) (λ x c h. h)
inner_says limited u processes names starts froms q false false = two_parts_say IsStart InProcess IsInner (λ _ i. i) (λ a b s i h k. k a h) some_in_process q.left (u OfStart q) (λ s. u (InnerFrom s)) (starts q) froms

inner_of_name_by_says : (limited : Bool) (u : Oracle) → ((n : RawName) (q : Standing) → Says (InDotted n q.left) q.left (u (InnerOfDotted n) q)) → ((n : RawName) → SaysForm u (StartBehindName n) (OnName n)) → ((s : StartTree) → SaysForm u (InnerFrom s) (InProcess s)) →
    (a : Tokens) (n : RawName) → IsName a n → (p : Standing) (b : Bool) → is_sign DotSign (option_map seen_of (first p.left)) ≡ b → Says IsInner (a ++ p.left) (run_to limited u (inner_of_name_by n b) p)
inner_of_name_by_says limited u dots behinds froms a n h p true e = says_last (InDotted n p.left) IsInner (λ x. x) a p.left (u (InnerOfDotted n) p) (dots n p) (λ x c k. k e a h)
inner_of_name_by_says limited u dots behinds froms a n h p false e =
    behind_front IsInner a p.left (run_to limited u (inner_of_name_by n false) p)
    (two_parts_say (OnName n) InProcess (λ ts i. IsInner (a ++ ts) i) (λ _ i. i) (λ c d s i f k. subst (λ z. IsInner z i) (append_assoc a c d) (k (a ++ c) (f a h))) some_in_process
    p.left (u (StartBehindName n) p) (λ s. u (InnerFrom s)) (behinds n p) froms)

pub inner_of_name_says : (limited : Bool) (u : Oracle) → SaysForm u OfName IsName → ((n : RawName) (q : Standing) → Says (InDotted n q.left) q.left (u (InnerOfDotted n) q)) → ((n : RawName) → SaysForm u (StartBehindName n) (OnName n)) →
    ((s : StartTree) → SaysForm u (InnerFrom s) (InProcess s)) → (q : Standing) → Says IsInner q.left (run_to limited u (body InnerOfName) q)
unfolding body
inner_of_name_says limited u names dots behinds froms q =
    says_then IsName IsInner [] q.left (u OfName q) (λ n p. run_to limited u (inner_of_name_by n (is_sign DotSign (option_map seen_of (first p.left)))) p) (names q)
    (λ n c h. ([], InnerName n, subst (λ z. IsNamed z n) (sym (append-nil c)) (named_of h)))
    (λ n a p h. inner_of_name_by_says limited u dots behinds froms a n h p (is_sign DotSign (option_map seen_of (first p.left))) refl)

in_dotted : (n : RawName) (us a : Tokens) (es : List RawExpression) → Fields us [] a es → InDotted n us a (InnerExpression (RawConstructor n (raw_list es)))
in_dotted n us a es (ys, is, hs, some) = λ dot d h. let (y, zs, e) = some dot in constructs d a n es y zs (is ∙ e) h (subst (λ z. AreDotted a (raw_list z)) (sym is) hs)

inner_of_dotted_by_says : (limited : Bool) (u : Oracle) (n : RawName) (us : Tokens) → ((n : RawName) (es : List RawExpression) → SaysForm u (PrefixBehind n es) (OnValues n es)) → ((s : StartTree) → SaysForm u (InnerFromStart s) (InProcess s)) →
    (a : Tokens) (es : List RawExpression) → Fields us [] a es → (p : Standing) (b : Bool) → Says (InDotted n us) (a ++ p.left) (run_to limited u (inner_of_dotted_by n es b) p)
inner_of_dotted_by_says limited u n us prefixes froms a es h p false = (a, refl, in_dotted n us a es h)
inner_of_dotted_by_says limited u n us prefixes froms a es (ys, is, hs, some) p true =
    behind_front (InDotted n us) a p.left (run_to limited u (inner_of_dotted_by n es true) p)
    (two_parts_say (OnValues n es) InProcess (λ ts i. InDotted n us (a ++ ts) i) (λ _ i. i)
    (λ b c s i f k. λ dot d h. subst (λ z. IsInner z i) (append_assoc (d ++ a) b c ∙ append_assoc d a (b ++ c)) (k ((d ++ a) ++ b) (f d a h (subst (λ z. AreDotted a (raw_list z)) (sym is) hs)))) some_in_process
    p.left (u (PrefixBehind n es) p) (λ s. u (InnerFromStart s)) (prefixes n es p) froms)

pub inner_of_dotted_says : (limited : Bool) (u : Oracle) (n : RawName) → SaysDots u → ((n : RawName) (es : List RawExpression) → SaysForm u (PrefixBehind n es) (OnValues n es)) → ((s : StartTree) → SaysForm u (InnerFromStart s) (InProcess s)) →
    (q : Standing) → Says (InDotted n q.left) q.left (run_to limited u (body (InnerOfDotted n)) q)
unfolding body
inner_of_dotted_says limited u n dots prefixes froms q =
    says_then (Fields q.left []) (InDotted n q.left) [] q.left (u (Dotted []) q) (λ es p. run_to limited u (inner_of_dotted_by n es (is_prefix (option_map seen_of (first p.left)))) p) (dots [] q)
    (λ es c h. ([], InnerExpression (RawConstructor n (raw_list es)), subst (λ z. InDotted n q.left z (InnerExpression (RawConstructor n (raw_list es)))) (sym (append-nil c)) (in_dotted n q.left c es h)))
    (λ es a p h. inner_of_dotted_by_says limited u n q.left prefixes froms a es h p (is_prefix (option_map seen_of (first p.left))))

pub inner_from_says : (limited : Bool) (u : Oracle) → ((n : RawName) → SaysForm u (InnerFromName n) (InNamed n)) → ((s : StartTree) → SaysForm u (InnerFromStart s) (InProcess s)) → (s : StartTree) (q : Standing) → Says (InProcess s) q.left (run_to limited u (inner_from s) q)
inner_from_says limited u names froms (StartName n) q = says_last (InNamed n) (InProcess (StartName n)) (λ x. x) [] q.left (u (InnerFromName n) q) (names n q) (λ x c h. h)
inner_from_says limited u names froms (StartExpression e) q = ([], refl, same_extended (λ a. IsExpression a e) IsInner (InnerExpression e) (λ a h. inl h))
inner_from_says limited u names froms (StartBase p) q = says_last (InProcess (StartBase p)) (InProcess (StartBase p)) (λ x. x) [] q.left (u (InnerFromStart (StartBase p)) q) (froms (StartBase p) q) (λ x c h. h)
inner_from_says limited u names froms (StartOperand p) q = says_last (InProcess (StartOperand p)) (InProcess (StartOperand p)) (λ x. x) [] q.left (u (InnerFromStart (StartOperand p)) q) (froms (StartOperand p) q) (λ x c h. h)

pub inner_from_name_says : (limited : Bool) (u : Oracle) (n : RawName) → ((s : StartTree) → SaysForm u (InnerFromStart s) (InProcess s)) → (q : Standing) (b : Bool) → Says (InNamed n) q.left (run_to limited u (inner_from_name_by n b) q)
unfolding some_in_named
inner_from_name_says limited u n froms q true = ([], refl, (some_in_named n).2)
inner_from_name_says limited u n froms q false = says_last (InProcess (StartName n)) (InNamed n) (λ x. x) [] q.left (u (InnerFromStart (StartName n)) q) (froms (StartName n) q) (λ x c h. h)

pub inner_from_start_says : (limited : Bool) (u : Oracle) (s : StartTree) → ((s : StartTree) → SaysForm u (ProcessFrom s) (OnStart s)) → (q : Standing) → Says (InProcess s) q.left (run_to limited u (body (InnerFromStart s)) q)
unfolding body
inner_from_start_says limited u s froms q = says_last (OnStart s) (InProcess s) (λ p. InnerProcess p) [] q.left (u (ProcessFrom s) q) (froms s q) (λ p c k. λ a h. start_process a c s p h k)
