-- Each part is that of the definition, at the index of the place.
use Rattle.std.proofs.Common.{◌∙◌, ap, take, slice_get, ◌+◌}
use Rattle.diagnostics.specs.Brackets.{open_bracket}
use Rattle.diagnostics.specs.Places.{last_opening}
use Rattle.diagnostics.specs.Surroundings.{before_token, token_before}
use Rattle.diagnostics.proofs.places.surroundings_at.Goals as goal

pub returns : goal.returns
returns g c =
    let tokens = c.args.tokens.now in
    let i = c.front_length-index.result in
    let at = c.front_length-index.ensures.value in
    let opening = c.last_opening-opening.ensures ∙ ap (λ n. last_opening (take n tokens)) at in
    let bracket = c.in_ok-bracket.ensures ∙ ap (λ n. open_bracket (take n tokens)) at in
    let declaring = c.before_token.ensures ∙ ap (λ t. before_token tokens t 2) opening in
    let outside = c.before_token-2.ensures ∙ ap (λ t. before_token tokens t 1) bracket in
    let earlier = c.token_before.ensures ∙ ap (λ n. token_before tokens n 2) at in
    let before = c.token_before-2.ensures ∙ ap (λ n. token_before tokens n 1) at in
    let here = c.token_at.ensures ∙ ap (slice_get tokens) at in
    let behind = c.token_at-2.ensures ∙ ap (λ n. slice_get tokens (n + 1)) at in
    λ k. record {
      opening = opening k;
      declaring = declaring k;
      bracket = bracket k;
      outside = outside k;
      earlier = earlier k;
      before = before k;
      here = here k;
      behind = behind k;
    }
