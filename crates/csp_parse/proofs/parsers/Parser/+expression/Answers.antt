use Rattle.std.proofs.Common.{◌∙◌, true, false, refl, sym, ap, Some, None, arith}
use Rattle.std.specs.Prelude.{option_map}
use Rattle.theory_syntax.specs.Operators.{unary_of, binary_of}
use Rattle.csp_lex.specs.Tokens.{keyword_of, sign_of}
use Rattle.theory_reader.specs.Forms.{AtomOfSign}
use Rattle.theory_reader.specs.Programs.{SeenWord, SeenSign, SeenName, SeenNumber, run}
use Rattle.theory_reader.specs.Reader.{is_sign, is_word, is_name, comparison_of, operator_at, body, reads}
use Rattle.theory_reader.proofs.Laws.{reads_is}
use Rattle.csp_parse.specs.Expressions.{expression_of, expressions_in}
use Rattle.csp_parse.specs.Levels.{level_of, seen_kind}
use Rattle.csp_parse.specs.Reading.{standing_of}
use Rattle.csp_parse.proofs.Loops.{atom_reads, word_reads, chained_reads, chained_more, chained_stops, none_operates, compared_reads, dotted_reads, dotted_more, listed_reads, listed_more}
use Rattle.csp_parse.proofs.Others.{no_atom}
use Rattle.csp_parse.proofs.Steps.{hands, goes_on, made}
use Rattle.csp_parse.proofs.Trees.{tree_of_number, tree_of_use, tree_of_sequence, tree_of_set, tree_of_constructor}
use Rattle.csp_parse.proofs.parsers.Parser.+expression.Goals as goal
use Rattle.csp_parse.proofs.parsers.Parser.+expression.Goals.{chained-in-Some+in_default-operator, chained-in_default}

pub bracketed-returns-in_err-inner-clause-reads : goal.bracketed-returns-in_err-inner-clause-reads
unfolding body is_sign is_word is_name
bracketed-returns-in_err-inner-clause-reads g t c = hands _ _ _ _ _ _ c.from_residual.ensures c.in_err-inner.ensures.reads (λ h e. rw (reads_is, e) refl)

pub bracketed-returns-in_err-sign-clause-reads : goal.bracketed-returns-in_err-sign-clause-reads
unfolding body is_sign is_word is_name
bracketed-returns-in_err-sign-clause-reads g t c =
    hands _ _ _ _ _ _ c.from_residual-in_err-sign.ensures c.in_err-sign.ensures.reads (λ h e. rw (reads_is, c.in_ok-inner.ensures.reads, e) refl)

pub bracketed-returns-clause-reads : goal.bracketed-returns-clause-reads
unfolding body is_sign is_word is_name
bracketed-returns-clause-reads g t c = rw (reads_is, c.in_ok-inner.ensures.reads, c.in_ok-sign.ensures.reads) refl

pub two_arguments-returns-in_err-first-clause-reads : goal.two_arguments-returns-in_err-first-clause-reads
unfolding body is_sign is_word is_name
two_arguments-returns-in_err-first-clause-reads g t c = hands _ _ _ _ _ _ c.from_residual.ensures c.in_err-first.ensures.reads (λ h e. rw (reads_is, e) refl)

pub two_arguments-returns-in_err-second-clause-reads : goal.two_arguments-returns-in_err-second-clause-reads
unfolding body is_sign is_word is_name
two_arguments-returns-in_err-second-clause-reads g t c =
    hands _ _ _ _ _ _ c.from_residual-in_err-second.ensures c.in_err-second.ensures.reads (λ h e. rw (reads_is, c.in_ok-first.ensures.reads, e) refl)

pub two_arguments-returns-in_err-sign-clause-reads : goal.two_arguments-returns-in_err-sign-clause-reads
unfolding body is_sign is_word is_name
two_arguments-returns-in_err-sign-clause-reads g t c =
    hands _ _ _ _ _ _ c.from_residual-in_err-sign.ensures c.in_err-sign.ensures.reads (λ h e. rw (reads_is, c.in_ok-first.ensures.reads, c.in_ok-second.ensures.reads, e) refl)

pub two_arguments-returns-clause-reads : goal.two_arguments-returns-clause-reads
unfolding body is_sign is_word is_name
two_arguments-returns-clause-reads g t c = rw (reads_is, c.in_ok-first.ensures.reads, c.in_ok-second.ensures.reads, c.in_ok-sign.ensures.reads) refl

pub round-returns-in_err-sign-clause-reads : goal.round-returns-in_err-sign-clause-reads
unfolding body is_sign is_word is_name
round-returns-in_err-sign-clause-reads g t c = hands _ _ _ _ _ _ c.from_residual.ensures c.in_err-sign.ensures.reads (λ h e. rw (reads_is, e) refl)

pub round-returns-in_err-inner-clause-reads : goal.round-returns-in_err-inner-clause-reads
unfolding body is_sign is_word is_name
round-returns-in_err-inner-clause-reads g t c =
    hands _ _ _ _ _ _ c.from_residual-in_err-inner.ensures c.in_err-inner.ensures.reads (λ h e. rw (reads_is, c.in_ok-sign.ensures.reads, e) refl)

pub round-returns-in_err-sign-2-clause-reads : goal.round-returns-in_err-sign-2-clause-reads
unfolding body is_sign is_word is_name
round-returns-in_err-sign-2-clause-reads g t c =
    hands _ _ _ _ _ _ c.from_residual-in_err-sign-2.ensures c.in_err-sign-2.ensures.reads (λ h e. rw (reads_is, c.in_ok-sign.ensures.reads, c.in_ok-inner.ensures.reads, e) refl)

pub round-returns-clause-reads : goal.round-returns-clause-reads
unfolding body is_sign is_word is_name
round-returns-clause-reads g t c = rw (reads_is, c.in_ok-sign.ensures.reads, c.in_ok-inner.ensures.reads, c.in_ok-sign-2.ensures.reads) refl

pub chain_of-returns-in_err-first-clause-reads : goal.chain_of-returns-in_err-first-clause-reads
unfolding body is_sign is_word is_name
chain_of-returns-in_err-first-clause-reads g t c = hands _ _ _ _ _ _ c.from_residual.ensures c.in_err-first.ensures.reads (λ h e. rw (reads_is, e) refl)

pub chain_of-returns-clause-reads : goal.chain_of-returns-clause-reads
unfolding body is_sign is_word is_name
chain_of-returns-clause-reads g t c = goes_on _ _ _ _ _ c.chained.ensures.reads (rw (reads_is, c.in_ok-first.ensures.reads) refl)

pub expression_behind-returns-in_err-sign-clause-reads : goal.expression_behind-returns-in_err-sign-clause-reads
unfolding body is_sign is_word is_name
expression_behind-returns-in_err-sign-clause-reads g t c =
    hands _ _ _ _ _ _ c.from_residual.ensures c.in_err-sign.ensures.reads (λ h e. rw (reads_is, e) refl)

pub expression_behind-returns-clause-reads : goal.expression_behind-returns-clause-reads
unfolding body is_sign is_word is_name
expression_behind-returns-clause-reads g t c = goes_on _ _ _ _ _ c.expression.ensures.reads (rw (reads_is, c.in_ok-sign.ensures.reads) refl)

pub operation-returns-in_err-pass-clause-reads : goal.operation-returns-in_err-pass-clause-reads
unfolding body is_sign is_word is_name
operation-returns-in_err-pass-clause-reads g t c = hands _ _ _ _ _ _ c.from_residual.ensures c.in_err-pass.ensures.reads (λ h e. rw (reads_is, e) refl)

pub operation-returns-in_err-second-clause-reads : goal.operation-returns-in_err-second-clause-reads
unfolding body is_sign is_word is_name
operation-returns-in_err-second-clause-reads g t c =
    hands _ _ _ _ _ _ c.from_residual-in_err-second.ensures c.in_err-second.ensures.reads (λ h e. rw (reads_is, c.in_ok-pass.ensures.reads, e) refl)

pub operation-returns-clause-reads : goal.operation-returns-clause-reads
unfolding body is_sign is_word is_name
operation-returns-clause-reads g t c =
    made _ _ _ _ _ c.combined.ensures.makes c.combined.ensures.stops (rw (reads_is, c.in_ok-pass.ensures.reads, c.in_ok-second.ensures.reads) refl)

pub signed-returns-in_err-operand-clause-reads : goal.signed-returns-in_err-operand-clause-reads
unfolding body is_sign is_word is_name
signed-returns-in_err-operand-clause-reads g t c = hands _ _ _ _ _ _ c.from_residual.ensures c.in_err-operand.ensures.reads (λ h e. rw (reads_is, e) refl)

pub signed-returns-clause-reads : goal.signed-returns-clause-reads
unfolding body is_sign is_word is_name
signed-returns-clause-reads g t c = made _ _ _ _ _ c.applied.ensures.makes c.applied.ensures.stops (rw (reads_is, c.in_ok-operand.ensures.reads) refl)

pub range-returns-in_err-last-clause-reads : goal.range-returns-in_err-last-clause-reads
unfolding body is_sign is_word is_name
range-returns-in_err-last-clause-reads g t c = hands _ _ _ _ _ _ c.from_residual.ensures c.in_err-last.ensures.reads (λ h e. rw (reads_is, e) refl)

pub range-returns-in_err-sign-clause-reads : goal.range-returns-in_err-sign-clause-reads
unfolding body is_sign is_word is_name
range-returns-in_err-sign-clause-reads g t c =
    hands _ _ _ _ _ _ c.from_residual-in_err-sign.ensures c.in_err-sign.ensures.reads (λ h e. rw (reads_is, c.in_ok-last.ensures.reads, e) refl)

pub range-returns-clause-reads : goal.range-returns-clause-reads
unfolding body is_sign is_word is_name
range-returns-clause-reads g t c =
    made _ _ _ _ _ c.ranged.ensures.makes c.ranged.ensures.stops (rw (reads_is, c.in_ok-last.ensures.reads, c.in_ok-sign.ensures.reads) refl)

pub expression_from-returns-in_err-product-clause-reads : goal.expression_from-returns-in_err-product-clause-reads
unfolding body is_sign is_word is_name
expression_from-returns-in_err-product-clause-reads g t c =
    hands _ _ _ _ _ _ c.from_residual.ensures c.in_err-product.ensures.reads (λ h e. rw (reads_is, e) refl)

pub expression_from-returns-in_err-sum-clause-reads : goal.expression_from-returns-in_err-sum-clause-reads
unfolding body is_sign is_word is_name
expression_from-returns-in_err-sum-clause-reads g t c =
    hands _ _ _ _ _ _ c.from_residual-in_err-sum.ensures c.in_err-sum.ensures.reads (λ h e. rw (reads_is, c.in_ok-product.ensures.reads, e) refl)

pub expression_from-returns-in_err-comparison-clause-reads : goal.expression_from-returns-in_err-comparison-clause-reads
unfolding body is_sign is_word is_name
expression_from-returns-in_err-comparison-clause-reads g t c =
    hands _ _ _ _ _ _ c.from_residual-in_err-comparison.ensures c.in_err-comparison.ensures.reads (λ h e. rw (reads_is, c.in_ok-product.ensures.reads, c.in_ok-sum.ensures.reads, e) refl)

pub expression_from-returns-in_err-conjunction-clause-reads : goal.expression_from-returns-in_err-conjunction-clause-reads
unfolding body is_sign is_word is_name
expression_from-returns-in_err-conjunction-clause-reads g t c =
    hands _ _ _ _ _ _ c.from_residual-in_err-conjunction.ensures c.in_err-conjunction.ensures.reads (λ h e. rw (reads_is, c.in_ok-product.ensures.reads, c.in_ok-sum.ensures.reads, c.in_ok-comparison.ensures.reads, e) refl)

pub expression_from-returns-clause-reads : goal.expression_from-returns-clause-reads
unfolding body is_sign is_word is_name
expression_from-returns-clause-reads g t c =
    goes_on _ _ _ _ _ c.chained-4.ensures.reads (rw (reads_is, c.in_ok-product.ensures.reads, c.in_ok-sum.ensures.reads, c.in_ok-comparison.ensures.reads, c.in_ok-conjunction.ensures.reads) refl)

pub expression-returns-in_err-first-in-Comparison-clause-reads : goal.expression-returns-in_err-first-in-Comparison-clause-reads
unfolding body is_sign is_word is_name
expression-returns-in_err-first-in-Comparison-clause-reads g t c =
    hands _ _ _ _ _ _ c.from_residual.ensures c.in_err-first-in-Comparison.ensures.reads (λ h e. rw (c.in-Comparison.is, reads_is, e) refl)

pub expression-returns-in-Atom-clause-reads : goal.expression-returns-in-Atom-clause-reads
unfolding body is_sign is_word is_name
expression-returns-in-Atom-clause-reads g t c = goes_on _ _ _ _ _ c.atom.ensures.reads (rw (c.in-Atom.is, reads_is) refl)

pub expression-returns-in-Negation-clause-reads : goal.expression-returns-in-Negation-clause-reads
unfolding body is_sign is_word is_name
expression-returns-in-Negation-clause-reads g t c = goes_on _ _ _ _ _ c.negation.ensures.reads (rw (c.in-Negation.is, reads_is) refl)

pub expression-returns-in-Disjunction-clause-reads : goal.expression-returns-in-Disjunction-clause-reads
unfolding body is_sign is_word is_name
expression-returns-in-Disjunction-clause-reads g t c = goes_on _ _ _ _ _ c.chain_of.ensures.reads (rw (c.in-Disjunction.is, reads_is) refl)

pub expression-returns-in-Conjunction-clause-reads : goal.expression-returns-in-Conjunction-clause-reads
unfolding body is_sign is_word is_name
expression-returns-in-Conjunction-clause-reads g t c = goes_on _ _ _ _ _ c.chain_of-in-Conjunction.ensures.reads (rw (c.in-Conjunction.is, reads_is) refl)

pub expression-returns-in-Sum-clause-reads : goal.expression-returns-in-Sum-clause-reads
unfolding body is_sign is_word is_name
expression-returns-in-Sum-clause-reads g t c = goes_on _ _ _ _ _ c.chain_of-in-Sum.ensures.reads (rw (c.in-Sum.is, reads_is) refl)

pub expression-returns-in-Product-clause-reads : goal.expression-returns-in-Product-clause-reads
unfolding body is_sign is_word is_name
expression-returns-in-Product-clause-reads g t c = goes_on _ _ _ _ _ c.chain_of-in-Product.ensures.reads (rw (c.in-Product.is, reads_is) refl)

pub expression-returns-in_ok-first-in-Comparison-clause-reads : goal.expression-returns-in_ok-first-in-Comparison-clause-reads
unfolding body is_sign is_word is_name
expression-returns-in_ok-first-in-Comparison-clause-reads g t c =
    goes_on _ _ _ _ _ c.compared.ensures.reads (rw (c.in-Comparison.is, reads_is, c.in_ok-first-in-Comparison.ensures.reads) refl)

pub negation-returns-then-not-is_at_word-clause-reads : goal.negation-returns-then-not-is_at_word-clause-reads
unfolding body is_sign is_word is_name
negation-returns-then-not-is_at_word-clause-reads g t c =
    goes_on _ _ _ _ _ c.expression.ensures.reads (rw (reads_is, sym c.is_at_word.ensures ∙ c.if-not-is_at_word.true) refl)

pub negation-returns-in_err-word-clause-reads : goal.negation-returns-in_err-word-clause-reads
unfolding body is_sign is_word is_name
negation-returns-in_err-word-clause-reads g t c =
    hands _ _ _ _ _ _ c.from_residual.ensures c.in_err-word.ensures.reads (λ h e. rw (reads_is, sym c.is_at_word.ensures ∙ c.if-not-is_at_word.false, e) refl)

pub negation-returns-in_err-operand-clause-reads : goal.negation-returns-in_err-operand-clause-reads
unfolding body is_sign is_word is_name
negation-returns-in_err-operand-clause-reads g t c =
    hands _ _ _ _ _ _ c.from_residual-in_err-operand.ensures c.in_err-operand.ensures.reads (λ h e. rw (reads_is, sym c.is_at_word.ensures ∙ c.if-not-is_at_word.false, c.in_ok-word.ensures.reads, e) refl)

pub negation-returns-clause-reads : goal.negation-returns-clause-reads
unfolding body is_sign is_word is_name
negation-returns-clause-reads g t c =
    made _ _ _ _ _ c.applied.ensures.makes c.applied.ensures.stops (rw (reads_is, sym c.is_at_word.ensures ∙ c.if-not-is_at_word.false, c.in_ok-word.ensures.reads, c.in_ok-operand.ensures.reads) refl)

pub atom-returns-in_default-clause-reads : goal.atom-returns-in_default-clause-reads
unfolding body is_sign is_word is_name
atom-returns-in_default-clause-reads g t c = atom_reads (standing_of c.args.self.now) None c.in_default.ensures

pub atom-returns-in_err-pass-in-Number-clause-reads : goal.atom-returns-in_err-pass-in-Number-clause-reads
unfolding body is_sign is_word is_name
atom-returns-in_err-pass-in-Number-clause-reads g t c =
    hands _ _ _ _ _ _ c.from_residual.ensures c.in_err-pass-in-Number.ensures.reads (λ h e. atom_reads (standing_of c.args.self.now) (Some (SeenNumber c.in-Number.value)) (ap (λ k. Some (seen_kind k)) (sym c.in-Number.is) ∙ c.in-Some.ensures) ∙ rw e refl)

pub atom-returns-in_ok-pass-in-Number-clause-reads : goal.atom-returns-in_ok-pass-in-Number-clause-reads
unfolding body is_sign is_word is_name
atom-returns-in_ok-pass-in-Number-clause-reads g t c =
    atom_reads (standing_of c.args.self.now) (Some (SeenNumber c.in-Number.value)) (ap (λ k. Some (seen_kind k)) (sym c.in-Number.is) ∙ c.in-Some.ensures) ∙ rw (c.in_ok-pass-in-Number.ensures.reads, tree_of_number g.row.A.Denot c.in-Number.value) refl

pub atom-returns-in_err-name-in-Name-clause-reads : goal.atom-returns-in_err-name-in-Name-clause-reads
unfolding body is_sign is_word is_name
atom-returns-in_err-name-in-Name-clause-reads g t c =
    hands _ _ _ _ _ _ c.from_residual-in_err-name-in-Name.ensures c.in_err-name-in-Name.ensures.reads (λ h e. atom_reads (standing_of c.args.self.now) (Some (SeenName)) (ap (λ k. Some (seen_kind k)) (sym c.in-Name.is) ∙ c.in-Some.ensures) ∙ rw e refl)

pub atom-returns-in_ok-name-in-Name-clause-reads : goal.atom-returns-in_ok-name-in-Name-clause-reads
unfolding body is_sign is_word is_name
atom-returns-in_ok-name-in-Name-clause-reads g t c =
    atom_reads (standing_of c.args.self.now) (Some (SeenName)) (ap (λ k. Some (seen_kind k)) (sym c.in-Name.is) ∙ c.in-Some.ensures) ∙ rw (c.in_ok-name-in-Name.ensures.reads, tree_of_use g.row.A.Denot c.in_ok-name-in-Name.name) refl

pub atom-returns-in-Keyword-clause-reads : goal.atom-returns-in-Keyword-clause-reads
unfolding body is_sign is_word is_name
atom-returns-in-Keyword-clause-reads g t c =
    goes_on _ _ _ _ _ c.atom_of_word.ensures.reads (atom_reads (standing_of c.args.self.now) (Some (SeenWord (keyword_of c.in-Keyword.keyword))) (ap (λ k. Some (seen_kind k)) (sym c.in-Keyword.is) ∙ c.in-Some.ensures))

pub atom-returns-in-Sign-clause-reads : goal.atom-returns-in-Sign-clause-reads
unfolding body is_sign is_word is_name
atom-returns-in-Sign-clause-reads g t c =
    goes_on _ _ _ _ _ c.atom_of_sign.ensures.reads (atom_reads (standing_of c.args.self.now) (Some (SeenSign (sign_of c.in-Sign.sign))) (ap (λ k. Some (seen_kind k)) (sym c.in-Sign.is) ∙ c.in-Some.ensures))

pub atom_of_word-returns-in_err-word-clause-reads : goal.atom_of_word-returns-in_err-word-clause-reads
unfolding body is_sign is_word is_name
atom_of_word-returns-in_err-word-clause-reads g t c =
    hands _ _ _ _ _ _ c.from_residual.ensures c.in_err-word.ensures.reads (λ h e. word_reads (keyword_of c.args.keyword) (standing_of c.args.self.now) _ _ (sym c.unary_function.ensures ∙ ap (option_map unary_of) c.in-Some.is) refl ∙ rw e refl)

pub atom_of_word-returns-in_err-operand-clause-reads : goal.atom_of_word-returns-in_err-operand-clause-reads
unfolding body is_sign is_word is_name
atom_of_word-returns-in_err-operand-clause-reads g t c =
    hands _ _ _ _ _ _ c.from_residual-in_err-operand.ensures c.in_err-operand.ensures.reads (λ h e. word_reads (keyword_of c.args.keyword) (standing_of c.args.self.now) _ _ (sym c.unary_function.ensures ∙ ap (option_map unary_of) c.in-Some.is) refl ∙ rw (c.in_ok-word.ensures.reads, e) refl)

pub atom_of_word-returns-in-Some-clause-reads : goal.atom_of_word-returns-in-Some-clause-reads
unfolding body is_sign is_word is_name
atom_of_word-returns-in-Some-clause-reads g t c =
    made _ _ _ _ _ c.applied.ensures.makes c.applied.ensures.stops (word_reads (keyword_of c.args.keyword) (standing_of c.args.self.now) _ _ (sym c.unary_function.ensures ∙ ap (option_map unary_of) c.in-Some.is) refl ∙ rw (c.in_ok-word.ensures.reads, c.in_ok-operand.ensures.reads) refl)

pub atom_of_word-returns-in_err-word-2-clause-reads : goal.atom_of_word-returns-in_err-word-2-clause-reads
unfolding body is_sign is_word is_name
atom_of_word-returns-in_err-word-2-clause-reads g t c =
    hands _ _ _ _ _ _ c.from_residual-in_err-word-2.ensures c.in_err-word-2.ensures.reads (λ h e. word_reads (keyword_of c.args.keyword) (standing_of c.args.self.now) _ _ (sym c.unary_function.ensures ∙ ap (option_map unary_of) c.in_default.is) (sym c.binary_function.ensures ∙ ap (option_map binary_of) c.in-Some-binary_function.is) ∙ rw e refl)

pub atom_of_word-returns-in_err-first-clause-reads : goal.atom_of_word-returns-in_err-first-clause-reads
unfolding body is_sign is_word is_name
atom_of_word-returns-in_err-first-clause-reads g t c =
    hands _ _ _ _ _ _ c.from_residual-in_err-first.ensures c.in_err-first.ensures.reads (λ h e. word_reads (keyword_of c.args.keyword) (standing_of c.args.self.now) _ _ (sym c.unary_function.ensures ∙ ap (option_map unary_of) c.in_default.is) (sym c.binary_function.ensures ∙ ap (option_map binary_of) c.in-Some-binary_function.is) ∙ rw (c.in_ok-word-2.ensures.reads, e) refl)

pub atom_of_word-returns-in-Some-binary_function-clause-reads : goal.atom_of_word-returns-in-Some-binary_function-clause-reads
unfolding body is_sign is_word is_name
atom_of_word-returns-in-Some-binary_function-clause-reads g t c =
    made _ _ _ _ _ c.combined.ensures.makes c.combined.ensures.stops (word_reads (keyword_of c.args.keyword) (standing_of c.args.self.now) _ _ (sym c.unary_function.ensures ∙ ap (option_map unary_of) c.in_default.is) (sym c.binary_function.ensures ∙ ap (option_map binary_of) c.in-Some-binary_function.is) ∙ rw (c.in_ok-word-2.ensures.reads, c.in_ok-first.ensures.reads) refl)

pub atom_of_word-returns-clause-reads : goal.atom_of_word-returns-clause-reads
unfolding body is_sign is_word is_name
atom_of_word-returns-clause-reads g t c =
    goes_on _ _ _ _ _ c.constant.ensures.reads (word_reads (keyword_of c.args.keyword) (standing_of c.args.self.now) _ _ (sym c.unary_function.ensures ∙ ap (option_map unary_of) c.in_default.is) (sym c.binary_function.ensures ∙ ap (option_map binary_of) c.in_default-binary_function.is))

pub atom_of_sign-returns-in-Minus-clause-reads : goal.atom_of_sign-returns-in-Minus-clause-reads
unfolding body is_sign is_word is_name
atom_of_sign-returns-in-Minus-clause-reads g t c = goes_on _ _ _ _ _ c.signed.ensures.reads (rw (c.in-Minus.is, reads_is) refl)

pub atom_of_sign-returns-in-Hash-clause-reads : goal.atom_of_sign-returns-in-Hash-clause-reads
unfolding body is_sign is_word is_name
atom_of_sign-returns-in-Hash-clause-reads g t c = goes_on _ _ _ _ _ c.signed-in-Hash.ensures.reads (rw (c.in-Hash.is, reads_is) refl)

pub atom_of_sign-returns-in-OpenRound-clause-reads : goal.atom_of_sign-returns-in-OpenRound-clause-reads
unfolding body is_sign is_word is_name
atom_of_sign-returns-in-OpenRound-clause-reads g t c = goes_on _ _ _ _ _ c.round.ensures.reads (rw (c.in-OpenRound.is, reads_is) refl)

pub atom_of_sign-returns-in-Less-clause-reads : goal.atom_of_sign-returns-in-Less-clause-reads
unfolding body is_sign is_word is_name
atom_of_sign-returns-in-Less-clause-reads g t c = goes_on _ _ _ _ _ c.sequence.ensures.reads (rw (c.in-Less.is, reads_is) refl)

pub atom_of_sign-returns-in-OpenBrace-clause-reads : goal.atom_of_sign-returns-in-OpenBrace-clause-reads
unfolding body is_sign is_word is_name
atom_of_sign-returns-in-OpenBrace-clause-reads g t c = goes_on _ _ _ _ _ c.set.ensures.reads (rw (c.in-OpenBrace.is, reads_is) refl)

pub atom_of_sign-returns-in_default : goal.atom_of_sign-returns-in_default
unfolding body is_sign is_word is_name
atom_of_sign-returns-in_default g t c =
    record { reads = reads_is (AtomOfSign (sign_of c.args.sign)) (standing_of c.args.self.now) ∙ ap (λ p. run reads p (standing_of c.args.self.now)) (no_atom c.args.sign c.in_default.not-Minus c.in_default.not-Hash c.in_default.not-OpenRound c.in_default.not-Less c.in_default.not-OpenBrace); shorter = tt }

pub sequence-returns-in_err-sign-clause-reads : goal.sequence-returns-in_err-sign-clause-reads
unfolding body is_sign is_word is_name
sequence-returns-in_err-sign-clause-reads g t c = hands _ _ _ _ _ _ c.from_residual.ensures c.in_err-sign.ensures.reads (λ h e. rw (reads_is, e) refl)

pub sequence-returns-in_err-sign-2-clause-reads : goal.sequence-returns-in_err-sign-2-clause-reads
unfolding body is_sign is_word is_name
sequence-returns-in_err-sign-2-clause-reads g t c =
    hands _ _ _ _ _ _ c.from_residual-in_err-sign-2.ensures c.in_err-sign-2.ensures.reads (λ h e. rw (reads_is, c.in_ok-sign.ensures.reads, sym c.is_at.ensures ∙ c.if-is_at.true, e) refl)

pub sequence-returns-then-is_at-clause-reads : goal.sequence-returns-then-is_at-clause-reads
unfolding body is_sign is_word is_name
sequence-returns-then-is_at-clause-reads g t c =
    rw (reads_is, c.in_ok-sign.ensures.reads, sym c.is_at.ensures ∙ c.if-is_at.true, c.in_ok-sign-2.ensures.reads, tree_of_sequence g.row.A.Denot c.new.result, c.new.ensures.items) refl

pub sequence-returns-in_err-first-clause-reads : goal.sequence-returns-in_err-first-clause-reads
unfolding body is_sign is_word is_name
sequence-returns-in_err-first-clause-reads g t c =
    hands _ _ _ _ _ _ c.from_residual-in_err-first.ensures c.in_err-first.ensures.reads (λ h e. rw (reads_is, c.in_ok-sign.ensures.reads, sym c.is_at.ensures ∙ c.if-is_at.false, e) refl)

pub sequence-returns-in_err-items-clause-reads : goal.sequence-returns-in_err-items-clause-reads
unfolding body is_sign is_word is_name
sequence-returns-in_err-items-clause-reads g t c =
    hands _ _ _ _ _ _ c.from_residual-in_err-items.ensures c.in_err-items.ensures.reads (λ h e. rw (reads_is, c.in_ok-sign.ensures.reads, sym c.is_at.ensures ∙ c.if-is_at.false, c.in_ok-first.ensures.reads, e) refl)

pub sequence-returns-in_err-sign-3-clause-reads : goal.sequence-returns-in_err-sign-3-clause-reads
unfolding body is_sign is_word is_name
sequence-returns-in_err-sign-3-clause-reads g t c =
    hands _ _ _ _ _ _ c.from_residual-in_err-sign-3.ensures c.in_err-sign-3.ensures.reads (λ h e. rw (reads_is, c.in_ok-sign.ensures.reads, sym c.is_at.ensures ∙ c.if-is_at.false, c.in_ok-first.ensures.reads, c.in_ok-items.ensures.reads, e) refl)

pub sequence-returns-clause-reads : goal.sequence-returns-clause-reads
unfolding body is_sign is_word is_name
sequence-returns-clause-reads g t c =
    rw (reads_is, c.in_ok-sign.ensures.reads, sym c.is_at.ensures ∙ c.if-is_at.false, c.in_ok-first.ensures.reads, c.in_ok-items.ensures.reads, c.in_ok-sign-3.ensures.reads, tree_of_sequence g.row.A.Denot c.in_ok-items.items) refl

pub set-returns-in_err-sign-clause-reads : goal.set-returns-in_err-sign-clause-reads
unfolding body is_sign is_word is_name
set-returns-in_err-sign-clause-reads g t c = hands _ _ _ _ _ _ c.from_residual.ensures c.in_err-sign.ensures.reads (λ h e. rw (reads_is, e) refl)

pub set-returns-then-not-is_at-clause-reads : goal.set-returns-then-not-is_at-clause-reads
unfolding body is_sign is_word is_name
set-returns-then-not-is_at-clause-reads g t c =
    goes_on _ _ _ _ _ c.members.ensures.reads (rw (reads_is, c.in_ok-sign.ensures.reads, sym c.is_at.ensures ∙ c.if-not-is_at.true) refl)

pub set-returns-in_err-sign-2-clause-reads : goal.set-returns-in_err-sign-2-clause-reads
unfolding body is_sign is_word is_name
set-returns-in_err-sign-2-clause-reads g t c =
    hands _ _ _ _ _ _ c.from_residual-in_err-sign-2.ensures c.in_err-sign-2.ensures.reads (λ h e. rw (reads_is, c.in_ok-sign.ensures.reads, sym c.is_at.ensures ∙ c.if-not-is_at.false, e) refl)

pub set-returns-clause-reads : goal.set-returns-clause-reads
unfolding body is_sign is_word is_name
set-returns-clause-reads g t c =
    rw (reads_is, c.in_ok-sign.ensures.reads, sym c.is_at.ensures ∙ c.if-not-is_at.false, c.in_ok-sign-2.ensures.reads, tree_of_set g.row.A.Denot c.new.result, c.new.ensures.items) refl

pub members-returns-in_err-first-clause-reads : goal.members-returns-in_err-first-clause-reads
unfolding body is_sign is_word is_name
members-returns-in_err-first-clause-reads g t c = hands _ _ _ _ _ _ c.from_residual.ensures c.in_err-first.ensures.reads (λ h e. rw (reads_is, e) refl)

pub members-returns-then-is_at-clause-reads : goal.members-returns-then-is_at-clause-reads
unfolding body is_sign is_word is_name
members-returns-then-is_at-clause-reads g t c =
    goes_on _ _ _ _ _ c.range.ensures.reads (rw (reads_is, c.in_ok-first.ensures.reads, sym c.is_at.ensures ∙ c.if-is_at.true) refl)

pub members-returns-in_err-members-clause-reads : goal.members-returns-in_err-members-clause-reads
unfolding body is_sign is_word is_name
members-returns-in_err-members-clause-reads g t c =
    hands _ _ _ _ _ _ c.from_residual-in_err-members.ensures c.in_err-members.ensures.reads (λ h e. rw (reads_is, c.in_ok-first.ensures.reads, sym c.is_at.ensures ∙ c.if-is_at.false, e) refl)

pub members-returns-in_err-sign-clause-reads : goal.members-returns-in_err-sign-clause-reads
unfolding body is_sign is_word is_name
members-returns-in_err-sign-clause-reads g t c =
    hands _ _ _ _ _ _ c.from_residual-in_err-sign.ensures c.in_err-sign.ensures.reads (λ h e. rw (reads_is, c.in_ok-first.ensures.reads, sym c.is_at.ensures ∙ c.if-is_at.false, c.in_ok-members.ensures.reads, e) refl)

pub members-returns-clause-reads : goal.members-returns-clause-reads
unfolding body is_sign is_word is_name
members-returns-clause-reads g t c =
    rw (reads_is, c.in_ok-first.ensures.reads, sym c.is_at.ensures ∙ c.if-is_at.false, c.in_ok-members.ensures.reads, c.in_ok-sign.ensures.reads, tree_of_set g.row.A.Denot c.in_ok-members.members) refl

pub enclosed-returns-then-not-is_at_name-clause-reads : goal.enclosed-returns-then-not-is_at_name-clause-reads
unfolding body is_sign is_word is_name
enclosed-returns-then-not-is_at_name-clause-reads g t c =
    goes_on _ _ _ _ _ c.expression.ensures.reads (rw (reads_is, sym c.is_at_name.ensures ∙ c.if-not-is_at_name.true) refl)

pub enclosed-returns-in_err-name-clause-reads : goal.enclosed-returns-in_err-name-clause-reads
unfolding body is_sign is_word is_name
enclosed-returns-in_err-name-clause-reads g t c =
    hands _ _ _ _ _ _ c.from_residual.ensures c.in_err-name.ensures.reads (λ h e. rw (reads_is, sym c.is_at_name.ensures ∙ c.if-not-is_at_name.false, e) refl)

pub enclosed-returns-then-not-is_at-clause-reads : goal.enclosed-returns-then-not-is_at-clause-reads
unfolding body is_sign is_word is_name
enclosed-returns-then-not-is_at-clause-reads g t c =
    goes_on _ _ _ _ _ c.expression_from.ensures.reads (rw (reads_is, sym c.is_at_name.ensures ∙ c.if-not-is_at_name.false, c.in_ok-name.ensures.reads, sym c.is_at.ensures ∙ c.if-not-is_at.true, tree_of_use g.row.A.Denot c.in_ok-name.name) refl)

pub enclosed-returns-in_err-fields-clause-reads : goal.enclosed-returns-in_err-fields-clause-reads
unfolding body is_sign is_word is_name
enclosed-returns-in_err-fields-clause-reads g t c =
    hands _ _ _ _ _ _ c.from_residual-in_err-fields.ensures c.in_err-fields.ensures.reads (λ h e. rw (reads_is, sym c.is_at_name.ensures ∙ c.if-not-is_at_name.false, c.in_ok-name.ensures.reads, sym c.is_at.ensures ∙ c.if-not-is_at.false, e) refl)

pub enclosed-returns-clause-reads : goal.enclosed-returns-clause-reads
unfolding body is_sign is_word is_name
enclosed-returns-clause-reads g t c =
    rw (reads_is, sym c.is_at_name.ensures ∙ c.if-not-is_at_name.false, c.in_ok-name.ensures.reads, sym c.is_at.ensures ∙ c.if-not-is_at.false, c.in_ok-fields.ensures.reads, tree_of_constructor g.row.A.Denot c.in_ok-name.name c.in_ok-fields.fields) refl

pub compared-returns-in_default-clause-reads : goal.compared-returns-in_default-clause-reads
unfolding body is_sign is_word is_name
compared-returns-in_default-clause-reads g t c =
    compared_reads (expression_of c.args.first) (standing_of c.args.self.now) None (sym (ap comparison_of c.in_default.ensures))

pub compared-returns-in_default-comparison-clause-reads : goal.compared-returns-in_default-comparison-clause-reads
unfolding body is_sign is_word is_name
compared-returns-in_default-comparison-clause-reads g t c =
    compared_reads (expression_of c.args.first) (standing_of c.args.self.now) None (sym (ap comparison_of c.in-Some.ensures) ∙ sym c.comparison.ensures ∙ ap (option_map binary_of) c.in_default-comparison.is)

pub compared-returns-clause-reads : goal.compared-returns-clause-reads
unfolding body is_sign is_word is_name
compared-returns-clause-reads g t c =
    goes_on _ _ _ _ _ c.operation.ensures.reads (compared_reads (expression_of c.args.first) (standing_of c.args.self.now) (Some (binary_of c.in-Some-comparison.operator)) (sym (ap comparison_of c.in-Some.ensures) ∙ sym c.comparison.ensures ∙ ap (option_map binary_of) c.in-Some-comparison.is))

pub chained-returns-in_err-chain-clause-reads : goal.chained-returns-in_err-chain-clause-reads
unfolding body is_sign is_word is_name
chained-returns-in_err-chain-clause-reads g t c =
    hands _ _ _ _ _ _ c.from_residual.ensures c.in_err-chain.ensures.reads (λ h e. c.loop-kind.invariant.same ∙ chained_stops (level_of c.args.level) (level_of c.stronger.result) _ _ (binary_of c.in-Some-operator.operator) _ (sym (ap (operator_at (level_of c.args.level)) c.in-Some.ensures) ∙ sym c.operator.ensures ∙ ap (option_map binary_of) c.in-Some-operator.is) c.stronger.ensures e)

pub chained-loop-kind-preserved : goal.chained-loop-kind-preserved
unfolding body is_sign is_word is_name
chained-loop-kind-preserved g t c =
    record {
      same = c.loop-kind.invariant.same ∙ chained_more (level_of c.args.level) (level_of c.stronger.result) _ _ _ _ (binary_of c.in-Some-operator.operator) (sym (ap (operator_at (level_of c.args.level)) c.in-Some.ensures) ∙ sym c.operator.ensures ∙ ap (option_map binary_of) c.in-Some-operator.is) c.stronger.ensures c.in_ok-chain.ensures.reads;
      not_longer = omega (arith, c.loop-kind.invariant.not_longer, c.in_ok-chain.ensures.shorter);
    }

pub chained-returns-clause-reads : goal.chained-returns-clause-reads
unfolding body is_sign is_word is_name
chained-returns-clause-reads g t c =
    c.loop-kind.invariant.same ∙ chained_reads (level_of c.args.level) (expression_of c.loop-kind.chain) (standing_of c.loop-kind.self) None (elim c.match-kind.branch [
      | chained-in-Some+in_default-operator w ↦ sym (ap (operator_at (level_of c.args.level)) w.in-Some.ensures) ∙ sym w.operator.ensures ∙ ap (option_map binary_of) w.in_default-operator.is
      | chained-in_default w ↦ sym (ap (operator_at (level_of c.args.level)) w.in_default.ensures) ∙ none_operates (level_of c.args.level)
    ])

pub dotted-returns-in_err-field-clause-reads : goal.dotted-returns-in_err-field-clause-reads
unfolding body is_sign is_word is_name
dotted-returns-in_err-field-clause-reads g t c =
    hands _ _ _ _ _ _ c.from_residual.ensures c.in_err-field.ensures.reads (λ h e. c.loop-self.invariant.same ∙ dotted_reads (expressions_in c.loop-self.fields.items) (standing_of c.loop-self.self) true (sym c.is_at.ensures ∙ c.loop-self-test.true) ∙ rw e refl)

pub dotted-loop-self-preserved : goal.dotted-loop-self-preserved
unfolding body is_sign is_word is_name
dotted-loop-self-preserved g t c =
    record {
      same = c.loop-self.invariant.same ∙ dotted_more expression_of _ _ _ _ _ (sym c.is_at.ensures ∙ c.loop-self-test.true) c.in_ok-field.ensures.reads c.in_ok-push.ensures.items;
      not_longer = omega (arith, c.loop-self.invariant.not_longer, c.in_ok-field.ensures.shorter);
    }

pub dotted-returns-clause-reads : goal.dotted-returns-clause-reads
unfolding body is_sign is_word is_name
dotted-returns-clause-reads g t c =
    c.loop-self.invariant.same ∙ dotted_reads (expressions_in c.loop-self.fields.items) (standing_of c.loop-self.self) false (sym c.is_at.ensures ∙ c.loop-self-test.false)

pub listed-returns-in_err-item-clause-reads : goal.listed-returns-in_err-item-clause-reads
unfolding body is_sign is_word is_name
listed-returns-in_err-item-clause-reads g t c =
    hands _ _ _ _ _ _ c.from_residual-in_err-item.ensures c.in_err-item.ensures.reads (λ h e. c.loop-level.invariant.same ∙ listed_reads (level_of c.args.level) (expressions_in c.loop-level.items.items) (standing_of c.loop-level.self) true (sym c.is_at.ensures ∙ c.loop-level-test.true) ∙ rw e refl)

pub listed-loop-level-preserved : goal.listed-loop-level-preserved
unfolding body is_sign is_word is_name
listed-loop-level-preserved g t c =
    record {
      same = c.loop-level.invariant.same ∙ listed_more (level_of c.args.level) expression_of _ _ _ _ _ (sym c.is_at.ensures ∙ c.loop-level-test.true) c.in_ok-item.ensures.reads c.in_ok-push-2.ensures.items;
      not_longer = omega (arith, c.loop-level.invariant.not_longer, c.in_ok-item.ensures.shorter);
    }

pub listed-returns-clause-reads : goal.listed-returns-clause-reads
unfolding body is_sign is_word is_name
listed-returns-clause-reads g t c =
    c.loop-level.invariant.same ∙ listed_reads (level_of c.args.level) (expressions_in c.loop-level.items.items) (standing_of c.loop-level.self) false (sym c.is_at.ensures ∙ c.loop-level-test.false)
