-- The objects of refusals.
use Rattle.std.proofs.Common.{◌≡◌, ℕ, true, false, List, [], ◌∷◌, length, map, refl, sym, ap, ◌∙◌, arith}
use Rattle.std.proofs.lemmas.Bool.{eqb-true}
use Rattle.std.specs.Prelude.{◌==◌, Result, Ok, Err, IfOk, codes}
use Rattle.std.specs.List.{concat}
use Rattle.std.specs.String.{string_bytes}
use Rattle.std.specs.declared.string.String.{String}
use Rattle.json.proofs.OnLiterals.{json_on_literals}
use Rattle.theory_objects.specs.Fields.{object_line}
use Rattle.theory_objects.specs.Refusals.{refusal_fields}
use Rattle.csp_lex.specs.declared.refusals.TextFault.TheVariants as tokens
use Rattle.csp_parse.specs.declared.refusals.GrammarFault.TheVariants as grammar
use Rattle.csp_names.specs.declared.refusals.KindFault.TheVariants as kinds
use Rattle.diagnostics.specs.declared.faults.Refusal as text
use Rattle.explain_settings.specs.declared.format.Format.{Format}
use Rattle.explain_settings.specs.declared.format.Format.TheVariants as formats
use Rattle.program.specs.declared.refusal.Refusal.TheVariants as refusal
use Rattle.explain_program.specs.Refusals.{none_text, refused_line, stop_word}
use Rattle.explain_program.specs.declared.stop.Stop.{Stop}
use Rattle.explain_program.specs.declared.stop.Stop.TheVariants as stop

-- the object of what stops a run, in three pieces
pub in_pieces : (why : Stop) → concat (codes "{\"answer\":\"refused\",\"refusal\":\"" ∷ stop_word why ∷ codes "\"}\n" ∷ []) ≡ object_line (refusal_fields (stop_word why))
unfolding json_on_literals
in_pieces (stop.Refused (refusal.File why)) = refl
in_pieces (stop.Refused (refusal.Text tokens.NoToken p)) = refl
in_pieces (stop.Refused (refusal.Text tokens.OpenComment p)) = refl
in_pieces (stop.Refused (refusal.Text tokens.LargeNumber p)) = refl
in_pieces (stop.Refused (refusal.Text tokens.NotUtf8 p)) = refl
in_pieces (stop.Refused (refusal.Text tokens.LongText p)) = refl
in_pieces (stop.Refused (refusal.Grammar grammar.UnexpectedToken p)) = refl
in_pieces (stop.Refused (refusal.Grammar grammar.Nested p)) = refl
in_pieces (stop.Refused (refusal.Grammar grammar.UnexpectedEnd p)) = refl
in_pieces (stop.Refused (refusal.Grammar grammar.MixedOperators p)) = refl
in_pieces (stop.Refused (refusal.Kinds kinds.UnknownName p)) = refl
in_pieces (stop.Refused (refusal.Kinds kinds.DeclaredTwice p)) = refl
in_pieces (stop.Refused (refusal.Kinds kinds.WrongKind p)) = refl
in_pieces (stop.Refused (refusal.Kinds kinds.WrongCount p)) = refl
in_pieces (stop.Refused (refusal.Kinds kinds.BadFieldSet p)) = refl
in_pieces (stop.Refused (refusal.Kinds kinds.TooManyEvents p)) = refl
in_pieces (stop.Refused refusal.Memory) = refl
in_pieces (stop.Refused refusal.Thread) = refl
in_pieces (stop.Refused refusal.Output) = refl
in_pieces stop.NoAssertion = refl

-- what has no length has no items
pub nothing_in : {X : Type 0} (xs : List X) → (length xs == 0) ≡ true → xs ≡ []
nothing_in [] empty = refl
nothing_in (x ∷ xs) empty = absurd (let some : length (x ∷ xs) ≡ 0 = eqb-true (length (x ∷ xs)) 0 empty in omega (arith, some))

-- what has a length has items
pub something_in : {X Y : Type 0} (f : X → Y) (xs : List X) → (length xs == 0) ≡ false → map f xs ≡ [] → ⊥
something_in f [] some none = cc some
something_in f (x ∷ xs) some none = cc none

-- the object of a note, as it is written
pub note_in_json : codes "{\"note\":\"the script has no assertion\"}\n" ≡ none_text formats.Json
unfolding json_on_literals
note_in_json = refl

-- the object of a refused text, where it is asked for
pub by_object : {E A : Type 0} (f : Format) (made : Result (String A) E) (file bytes help : List ℕ) (refused : text.Refusal) → f ≡ formats.Json →
    IfOk made (λ line. string_bytes line ≡ refused_line formats.Json file bytes refused help) → IfOk made (λ words. (meant : List ℕ) × (string_bytes words ≡ refused_line f file bytes refused meant))
by_object f (Ok made) file bytes help refused json line = (help, line ∙ ap (λ g. refused_line g file bytes refused help) (sym json))
by_object f (Err e) file bytes help refused json line = tt
