-- What may be so around a place.
use Rattle.std.specs.Prelude.{ℕ, Bool, true, false, List, Option, None, Some, is_some, not}
use Rattle.std.specs.Str.{bytes_eq}
use Rattle.csp_lex.specs.declared.keywords.Keyword.TheVariants as keyword
use Rattle.csp_lex.specs.declared.kinds.Token.{Token}
use Rattle.csp_lex.specs.declared.kinds.TokenKind.{TokenKind}
use Rattle.csp_lex.specs.declared.kinds.TokenKind.TheVariants as kind
use Rattle.diagnostics.specs.declared.conditions.Condition.{Condition}
use Rattle.diagnostics.specs.declared.conditions.Condition.TheVariants as condition
use Rattle.diagnostics.specs.declared.places.Surroundings.{Surroundings}

-- there is a token, which is written so
abbrev pub is_written : Option Token → List ℕ → Bool
is_written None text = false
is_written (Some t) text = bytes_eq t.text.now text

abbrev pub is_name_kind : TokenKind → Bool
is_name_kind kind.Name = true
is_name_kind _ = false

abbrev pub is_number_kind : TokenKind → Bool
is_number_kind (kind.Number n) = true
is_number_kind _ = false

abbrev pub is_keyword_kind : TokenKind → Bool
is_keyword_kind (kind.Keyword k) = true
is_keyword_kind _ = false

-- a keyword that is called in an expression
abbrev pub is_function_kind : TokenKind → Bool
is_function_kind (kind.Keyword keyword.Head) = true
is_function_kind (kind.Keyword keyword.Tail) = true
is_function_kind (kind.Keyword keyword.Null) = true
is_function_kind (kind.Keyword keyword.Elem) = true
is_function_kind (kind.Keyword keyword.Member) = true
is_function_kind (kind.Keyword keyword.Union) = true
is_function_kind (kind.Keyword keyword.Inter) = true
is_function_kind (kind.Keyword keyword.Diff) = true
is_function_kind (kind.Keyword keyword.Card) = true
is_function_kind _ = false

-- there is a token, which is a name, a number, a keyword, a keyword that is called
abbrev pub is_name : Option Token → Bool
is_name None = false
is_name (Some t) = is_name_kind t.kind

abbrev pub is_number : Option Token → Bool
is_number None = false
is_number (Some t) = is_number_kind t.kind

abbrev pub is_keyword : Option Token → Bool
is_keyword None = false
is_keyword (Some t) = is_keyword_kind t.kind

abbrev pub is_function : Option Token → Bool
is_function None = false
is_function (Some t) = is_function_kind t.kind

abbrev pub meets : Surroundings → Condition → Bool
meets s (condition.Opening text) = is_written s.opening text.now
meets s (condition.Declaring text) = is_written s.declaring text.now
meets s (condition.Open text) = is_written s.bracket text.now
meets s (condition.Outside text) = is_written s.outside text.now
meets s condition.NoneOpen = not (is_some s.bracket)
meets s (condition.Earlier text) = is_written s.earlier text.now
meets s (condition.Before text) = is_written s.before text.now
meets s (condition.Here text) = is_written s.here text.now
meets s (condition.Behind text) = is_written s.behind text.now
meets s condition.BeforeName = is_name s.before
meets s condition.BeforeNumber = is_number s.before
meets s condition.BeforeKeyword = is_keyword s.before
meets s condition.BeforeFunction = is_function s.before
meets s condition.HereName = is_name s.here
meets s condition.HereNumber = is_number s.here
meets s condition.HereKeyword = is_keyword s.here
