use Rattle.std.proofs.Common.{◌++◌, sym, ap, ◌∙◌, arith}
use Rattle.std.specs.Char.{encode_utf8}
use Rattle.std.proofs.lemmas.Str.{chars_past_char, IsUtf8-had}
use Rattle.theory_text.proofs.TextPlaces.{bytes_of_one}
use Rattle.csp_lex.proofs.cursors.Cursor.next.Goals as goal

pub returns-clause-more : goal.returns-clause-more
returns-clause-more c =
    let text = c.args.self.rest.now in
    let character = c.in_ok-character.character in
    let after = c.as_str.result.now in
    let step = sym c.chars-characters.ensures.rest ∙ c.in_ok-character.ensures.steps.0 ∙ ap (λ t. encode_utf8 character ++ t) (sym c.as_str.ensures) in
    record {
      characters = chars_past_char text after character (IsUtf8-had text c.args.self.utf8) step;
      place = c.behind.ensures;
      offset = omega (arith, c.len_utf8.ensures.len, bytes_of_one character);
    }
