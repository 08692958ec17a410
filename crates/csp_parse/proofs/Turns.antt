-- What the reader of processes does where it stands, by what the next token is.
use Rattle.theory_reader.specs.Forms.{ChainMore, ChainOver, Dotted, EventSetBehind, FromBase, FromOperand, GuardOf, HiddenFrom, InnerFromName, InnerOfDotted, InnerOfName, OfInner, OfName, OfPairs, OfProcess, OfSign, OfStart, OperandBehind, RenamedFrom, StartBehindName, StartFromName, InnerFrom, ProcessFrom, StartTree}
use Rattle.std.proofs.Common.{◌≡◌, ◌∙◌, Bool, true, List, [], refl, sym, ap, Option, Ok}
use Rattle.std.specs.Prelude.{option_map, ◌||◌}
use Rattle.theory_text.specs.Token.{Sign, CloseRenamingSign, CloseRoundSign, DotSign, GuardSign, HidingSign, IfWord, OpenRenamingSign, OpenRoundSign, OpenSharedSign, OpenSquareSign, SkipWord, StopWord}
use Rattle.theory_text.specs.Raw.{RawName, RawExpression, Infix, RawEventSet, RawHiding, RawInfix, RawPair, RawProcess, RawRenaming, Replicator}
use Rattle.theory_reader.specs.Programs.{seen_of, first, Seen, Standing, Outcome, run}
use Rattle.theory_reader.specs.Reader.{body, reads, begins_process, behind_start_name, chain_by, from_base_by, from_operand_by, guarded_by, hidden_by, infix_at, infix_sign, inner_by, inner_from_name_by, inner_of_dotted_by, inner_of_name_by, is_name, is_operator, is_prefix, is_sign, is_suffix, is_word, process_by, renamed_by, replicator_at, start_by, start_from_name_by, inner_from, process_from}
use Rattle.theory_reader.proofs.Laws.{reads_is}
use Rattle.csp_parse.proofs.Loops.{alone}

-- what the next token is
abbrev next : Standing → Option Seen
next s = option_map seen_of (first s.left)

pub process_reads : (s : Standing) (b : Bool) (o : Option Replicator) → is_word IfWord (next s) ≡ b → replicator_at (next s) ≡ o → reads OfProcess s ≡ run reads (process_by (b) (o)) s
unfolding body
process_reads s b o e1 e2 = reads_is OfProcess s ∙ ap (λ x. run reads (process_by (x) (replicator_at (next s))) s) e1 ∙ ap (λ x. run reads (process_by (b) (x)) s) e2

pub base_reads : (p : RawProcess) (s : Standing) (b : Bool) → is_suffix (next s) ≡ b → reads (FromBase p) s ≡ run reads (from_base_by p (b)) s
unfolding body
base_reads p s b e1 = reads_is (FromBase p) s ∙ ap (λ x. run reads (from_base_by p (x)) s) e1

pub renamed_reads : (p : RawProcess) (s : Standing) (b : Bool) → is_sign OpenRenamingSign (next s) ≡ b → reads (RenamedFrom p) s ≡ run reads (renamed_by p (b)) s
unfolding body
renamed_reads p s b e1 = reads_is (RenamedFrom p) s ∙ ap (λ x. run reads (renamed_by p (x)) s) e1

pub hidden_reads : (p : RawProcess) (s : Standing) (b : Bool) → is_sign HidingSign (next s) ≡ b → reads (HiddenFrom p) s ≡ run reads (hidden_by p (b)) s
unfolding body
hidden_reads p s b e1 = reads_is (HiddenFrom p) s ∙ ap (λ x. run reads (hidden_by p (x)) s) e1

pub operand_reads : (p : RawProcess) (s : Standing) (o : Option Infix) (b : Bool) (c : Bool) → infix_at (next s) ≡ o → is_sign OpenSharedSign (next s) ≡ b → is_sign OpenSquareSign (next s) ≡ c → reads (FromOperand p) s ≡ run reads (from_operand_by p (o) (b) (c)) s
unfolding body
operand_reads p s o b c e1 e2 e3 = reads_is (FromOperand p) s ∙ ap (λ x. run reads (from_operand_by p (x) (is_sign OpenSharedSign (next s)) (is_sign OpenSquareSign (next s))) s) e1 ∙ ap (λ x. run reads (from_operand_by p (o) (x) (is_sign OpenSquareSign (next s))) s) e2 ∙ ap (λ x. run reads (from_operand_by p (o) (b) (x)) s) e3

pub chain_reads : (o : Infix) (p : RawProcess) (s : Standing) (b : Bool) → is_sign (infix_sign o) (next s) ≡ b → reads (ChainMore o p) s ≡ run reads (chain_by o p (b)) s
unfolding body
chain_reads o p s b e1 = reads_is (ChainMore o p) s ∙ ap (λ x. run reads (chain_by o p (x)) s) e1

pub start_reads : (s : Standing) (a : Bool) (b : Bool) (c : Bool) (d : Bool) → is_word StopWord (next s) ≡ a → is_word SkipWord (next s) ≡ b → is_name (next s) ≡ c → is_sign OpenRoundSign (next s) ≡ d → reads OfStart s ≡ run reads (start_by (a) (b) (c) (d)) s
unfolding body
start_reads s a b c d e1 e2 e3 e4 = reads_is OfStart s ∙ ap (λ x. run reads (start_by (x) (is_word SkipWord (next s)) (is_name (next s)) (is_sign OpenRoundSign (next s))) s) e1 ∙ ap (λ x. run reads (start_by (a) (x) (is_name (next s)) (is_sign OpenRoundSign (next s))) s) e2 ∙ ap (λ x. run reads (start_by (a) (b) (x) (is_sign OpenRoundSign (next s))) s) e3 ∙ ap (λ x. run reads (start_by (a) (b) (c) (x)) s) e4

pub behind_name_reads : (n : RawName) (s : Standing) (b : Bool) (c : Bool) → is_sign OpenRoundSign (next s) ≡ b → is_prefix (next s) ≡ c → reads (StartBehindName n) s ≡ run reads (behind_start_name n (b) (c)) s
unfolding body
behind_name_reads n s b c e1 e2 = reads_is (StartBehindName n) s ∙ ap (λ x. run reads (behind_start_name n (x) (is_prefix (next s))) s) e1 ∙ ap (λ x. run reads (behind_start_name n (b) (x)) s) e2

pub from_name_reads : (n : RawName) (s : Standing) (b : Bool) → is_operator (next s) || is_sign GuardSign (next s) ≡ b → reads (StartFromName n) s ≡ run reads (start_from_name_by n (b)) s
unfolding body
from_name_reads n s b e1 = reads_is (StartFromName n) s ∙ ap (λ x. run reads (start_from_name_by n (x)) s) e1

pub guard_reads : (y : RawExpression) (s : Standing) (b : Bool) → is_sign GuardSign (next s) ≡ b → reads (GuardOf y) s ≡ run reads (guarded_by y (b)) s
unfolding body
guard_reads y s b e1 = reads_is (GuardOf y) s ∙ ap (λ x. run reads (guarded_by y (x)) s) e1

pub inner_reads : (s : Standing) (b : Bool) (c : Bool) → begins_process (next s) ≡ b → is_name (next s) ≡ c → reads OfInner s ≡ run reads (inner_by (b) (c)) s
unfolding body
inner_reads s b c e1 e2 = reads_is OfInner s ∙ ap (λ x. run reads (inner_by (x) (is_name (next s))) s) e1 ∙ ap (λ x. run reads (inner_by (b) (x)) s) e2

pub inner_name_reads : (n : RawName) (s : Standing) (b : Bool) → is_sign CloseRoundSign (next s) ≡ b → reads (InnerFromName n) s ≡ run reads (inner_from_name_by n (b)) s
unfolding body
inner_name_reads n s b e1 = reads_is (InnerFromName n) s ∙ ap (λ x. run reads (inner_from_name_by n (x)) s) e1

pub inner_of_name_reads : (n : RawName) (s q : Standing) (b : Bool) → reads OfName s ≡ Ok (n, q) → is_sign DotSign (next q) ≡ b → reads InnerOfName s ≡ run reads (inner_of_name_by n b) q
unfolding body
inner_of_name_reads n s q b read e = rw (reads_is InnerOfName s, read) refl ∙ ap (λ x. run reads (inner_of_name_by n x) q) e

pub inner_of_dotted_reads : (n : RawName) (es : List RawExpression) (s q : Standing) (b : Bool) → reads (Dotted []) s ≡ Ok (es, q) → is_prefix (next q) ≡ b → reads (InnerOfDotted n) s ≡ run reads (inner_of_dotted_by n es b) q
unfolding body
inner_of_dotted_reads n es s q b read e = rw (reads_is (InnerOfDotted n) s, read) refl ∙ ap (λ x. run reads (inner_of_dotted_by n es x) q) e

pub renamed_more : (p x : RawProcess) (ps : List RawPair) (s q r t : Standing) → is_sign OpenRenamingSign (next s) ≡ true → reads (OfSign OpenRenamingSign) s ≡ Ok (tt {0}, q) → reads OfPairs q ≡ Ok (ps, r) → reads (OfSign CloseRenamingSign) r ≡ Ok (tt {0}, t) →
    x ≡ RawRenaming p ps → reads (RenamedFrom p) s ≡ reads (RenamedFrom x) t
renamed_more p x ps s q r t at opens pairs closes is = renamed_reads p s true at ∙ rw (opens, pairs, closes) (alone (reads (RenamedFrom (RawRenaming p ps)) t)) ∙ ap (λ y. reads (RenamedFrom y) t) (sym is)

pub hidden_more : (p x : RawProcess) (e : RawEventSet) (s q : Standing) → is_sign HidingSign (next s) ≡ true → reads (EventSetBehind HidingSign) s ≡ Ok (e, q) → x ≡ RawHiding p e → reads (HiddenFrom p) s ≡ reads (HiddenFrom x) q
hidden_more p x e s q at read is = hidden_reads p s true at ∙ rw read (alone (reads (HiddenFrom (RawHiding p e)) q)) ∙ ap (λ y. reads (HiddenFrom y) q) (sym is)

pub operand_so : {z : Sign} (o : Infix) (s : Standing) {r : Outcome RawProcess} → z ≡ infix_sign o → reads (OperandBehind z) s ≡ r → reads (OperandBehind (infix_sign o)) s ≡ r
operand_so o s is read = ap (λ y. reads (OperandBehind y) s) (sym is) ∙ read

pub next_so : {z : Sign} (o : Infix) (s : Standing) {b : Bool} → z ≡ infix_sign o → is_sign z (next s) ≡ b → is_sign (infix_sign o) (next s) ≡ b
next_so o s is e = ap (λ y. is_sign y (next s)) (sym is) ∙ e

pub chain_begins : (o : Infix) (p x y : RawProcess) (s q : Standing) → reads (OperandBehind (infix_sign o)) s ≡ Ok (x, q) → y ≡ RawInfix o p x → reads (ChainOver o p) s ≡ reads (ChainMore o y) q
unfolding body
chain_begins o p x y s q read is = rw (reads_is (ChainOver o p) s, read) (alone (reads (ChainMore o (RawInfix o p x)) q)) ∙ ap (λ z. reads (ChainMore o z) q) (sym is)

pub chain_more : (o : Infix) (p x y : RawProcess) (s q : Standing) → is_sign (infix_sign o) (next s) ≡ true → reads (OperandBehind (infix_sign o)) s ≡ Ok (x, q) → y ≡ RawInfix o p x → reads (ChainMore o p) s ≡ reads (ChainMore o y) q
chain_more o p x y s q at read is = chain_reads o p s true at ∙ rw read (alone (reads (ChainMore o (RawInfix o p x)) q)) ∙ ap (λ z. reads (ChainMore o z) q) (sym is)

-- what is read behind a start, by what it is
pub from_start : (s : Standing) (x t : StartTree) → x ≡ t → reads (ProcessFrom x) s ≡ run reads (process_from t) s
unfolding body
from_start s x t e = reads_is (ProcessFrom x) s ∙ ap (λ y. run reads (process_from y) s) e

pub inner_start : (s : Standing) (x t : StartTree) → x ≡ t → reads (InnerFrom x) s ≡ run reads (inner_from t) s
unfolding body
inner_start s x t e = reads_is (InnerFrom x) s ∙ ap (λ y. run reads (inner_from y) s) e
