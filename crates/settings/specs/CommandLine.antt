-- The command line: its options, and what the words give.
use Rattle.std.specs.Prelude.{◌≡◌, ◌<◌, ◌^◌, ℕ, List, [], ◌∷◌, IsSomeAnd, Option, Some, codes, true}
use Rattle.std.specs.Option.{option_map_or}
use Rattle.std.specs.Str.Parse.{IsNumeral, digits_value, without_leading_plus}
use Rattle.clap.specs.Walk.{Row, Rule, Text, first_of, nothing_held, settled, walk}
use Rattle.clap.specs.Simple.{App, built, matches_of, new_rule, new_shape}
use Rattle.clap.specs.declared.builder.action.ArgAction.TheVariants.{Set, SetTrue}
use Rattle.clap.specs.declared.builder.value_parser.ValueParser.TheVariants as vp

-- an option with one value, a number from 1 to `most`, which is `default` where the option is not used
abbrev pub number_rule : Text → Text → ℕ → Rule
number_rule name default most = record (new_rule name) {
  long = Some name;
  action = Some Set;
  value_names = 1;
  defaults = default ∷ [];
  parser = Some (vp.Unsigned 1 most);
}

-- an option without a value of its own: `true` where the words use it, and else `false`
abbrev pub flag_rule : Text → Rule
flag_rule name = record (new_rule name) { long = Some name; action = Some SetTrue }

-- the file, which stands for itself
abbrev pub file_rule : Rule
file_rule = record (new_rule (codes "file")) {
  action = Some Set;
  value_names = 1;
  required = true;
}

abbrev pub command_rules : List Rule
command_rules = number_rule (codes "workers") (codes "1") 64
    ∷ number_rule (codes "max-pairs") (codes "100000") 1000000
    ∷ number_rule (codes "max-nodes") (codes "10000") 100000
    ∷ flag_rule (codes "unfold")
    ∷ file_rule ∷ []

-- the command, whose words do not begin with the program's name
abbrev pub command_line : App
command_line = record {
  top = record (new_shape (codes "refcheck")) { rules = command_rules; no_binary_name = true; has_version = true };
  subs = [];
}

-- the rules of the command as it is built, with the flags that ask for help and for the version
abbrev pub built_rules : List Rule
built_rules = (built command_line).top.rules

-- what the words give, before any default
abbrev pub given_rows : List Text → List Row
given_rows words = (settled built_rules (walk built_rules [] nothing_held words).held).rows

-- the value that the words give an argument
abbrev pub given : Text → List Text → Option Text
given id words = first_of id (given_rows words)

-- the number of decimal digits, which may have a plus before them
abbrev pub number_of : Text → ℕ
number_of text = digits_value 10 (without_leading_plus text)

-- the number that the words give an option, or the default
abbrev pub chosen : Text → ℕ → List Text → ℕ
chosen id default words = option_map_or number_of (given id words) default

-- the words use the flag
abbrev pub IsUsed : Text → List Text → Type 0
IsUsed flag words = first_of flag (matches_of command_line words) ≡ Some (codes "true")

-- there is a text, of a number that a word holds
abbrev pub IsNumeric : Option Text → Type 0
IsNumeric text = IsSomeAnd text (λ t. IsNumeral 10 (without_leading_plus t) × (number_of t < 2 ^ 64))

-- there is a text, of this number
abbrev pub HasNumber : Option Text → ℕ → Type 0
HasNumber text n = IsSomeAnd text (λ t. n ≡ number_of t)
