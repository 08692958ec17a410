-- The command line: its arguments, and what the words give them.
use Rattle.std.specs.Prelude.{◌≡◌, ℕ, List, [], ◌∷◌, ◌++◌, Option, Some, codes, true}
use Rattle.clap.specs.Walk.{Rule, Text, first_of}
use Rattle.clap.specs.Simple.{App, matches_of, new_rule, new_shape}
use Rattle.clap.specs.declared.builder.action.ArgAction.TheVariants.{Set}
use Rattle.clap.specs.declared.builder.value_parser.ValueParser.TheVariants as vp
use Rattle.settings.specs.CommandLine.{file_rule, flag_rule, number_rule}
use Rattle.explain_settings.specs.declared.format.Format.{Format}
use Rattle.explain_settings.specs.declared.format.Format.TheVariants as formats

-- an argument that is a number up to `most`, and is `default` where no word gives it
abbrev pub count_rule : Text → Text → ℕ → Rule
count_rule name default most = record (new_rule name) {
  action = Some Set;
  value_names = 1;
  defaults = default ∷ [];
  parser = Some (vp.Unsigned 0 most);
}

-- the same as an option, which is given by its name
abbrev pub count_option : Text → Text → ℕ → Rule
count_option name default most = record (count_rule name default most) { long = Some name }

-- the format, which is any text for `clap`, and `text` where no word gives it
abbrev pub format_rule : Rule
format_rule = record (new_rule (codes "format")) {
  long = Some (codes "format");
  action = Some Set;
  value_names = 1;
  defaults = codes "text" ∷ [];
  parser = Some vp.String;
}

-- the word of a format
abbrev pub format_word : Format → Text
format_word formats.Text = codes "text"
format_word formats.Json = codes "json"

-- the options that say what is checked and what is told of it
abbrev pub option_rules : List Rule
option_rules = number_rule (codes "workers") (codes "1") 64
    ∷ number_rule (codes "max-pairs") (codes "100000") 1000000
    ∷ number_rule (codes "max-nodes") (codes "10000") 100000
    ∷ flag_rule (codes "unfold")
    ∷ count_option (codes "width") (codes "200") 1000000
    ∷ flag_rule (codes "count") ∷ flag_rule (codes "events") ∷ flag_rule (codes "steps")
    ∷ format_rule ∷ []

-- the options, of which the last asks how far a search is, the file, and the number of an assertion
abbrev pub command_rules : List Rule
command_rules = option_rules ++ (flag_rule (codes "progress") ∷ file_rule ∷ count_rule (codes "assertion") (codes "0") 1000000 ∷ [])

-- a command with these arguments, whose words do not begin with the program's name
abbrev pub line_of : List Rule → App
line_of rules = record {
  top = record (new_shape (codes "explain")) { rules = rules; no_binary_name = true; has_version = true };
  subs = [];
}

abbrev pub command_line : App
command_line = line_of command_rules

-- the value of an argument on these words, given by them or by default
abbrev pub value : Text → List Text → Option Text
value id words = first_of id (matches_of command_line words)

-- the words use the flag
abbrev pub IsUsed : Text → List Text → Type 0
IsUsed flag words = value flag words ≡ Some (codes "true")
