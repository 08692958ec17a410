-- The refusal where a reader stopped.
use Rattle.std.proofs.Common.{◌≡◌, ◌∙◌, List, [], ◌∷◌, sym, ap, subst, Some, None}
use Rattle.theory_text.specs.Height as text
use Rattle.theory_text.specs.Place as places
use Rattle.theory_text.specs.Token.{PlacedToken}
use Rattle.csp_lex.specs.declared.places.Place.{Place}
use Rattle.csp_lex.specs.Places.{place_of}
use Rattle.csp_parse.specs.declared.refusals.GrammarFault.{GrammarFault}
use Rattle.csp_parse.specs.declared.refusals.Refused.TheVariants as refused
use Rattle.csp_parse.specs.declared.stops.Stopped.{Stopped}
use Rattle.csp_parse.specs.declared.stops.Stopped.TheVariants as stop
use Rattle.theory_reader.specs.Programs.{first}
use Rattle.csp_parse.specs.Refusals.{fault_of, IsRefusalAt, unexpected, too_high, at_end, memory}

pub unexpected_at : (end : places.Place) (left : List PlacedToken) (t : PlacedToken) (f : GrammarFault) (p : Place) → Some t ≡ first left → fault_of f ≡ text.token_fault t.token → place_of p ≡ t.place →
    {e : Stopped} → e ≡ stop.Here → IsRefusalAt end left e (refused.Grammar f p)
unexpected_at end [] t f p at faulty placed is = absurd (cc at)
unexpected_at end (u ∷ us) t f p at faulty placed is = let same : t ≡ u = cc at in subst (λ x. IsRefusalAt end (u ∷ us) x (refused.Grammar f p)) (sym is) (unexpected u us f p (faulty ∙ ap (λ v. text.token_fault v.token) same) (placed ∙ ap (λ v. v.place) same))

pub too_high_at : (end : places.Place) (left : List PlacedToken) (t : PlacedToken) (f : GrammarFault) (p : Place) → Some t ≡ first left → fault_of f ≡ text.Nested → place_of p ≡ t.place →
    {e : Stopped} → e ≡ stop.High → IsRefusalAt end left e (refused.Grammar f p)
too_high_at end [] t f p at faulty placed is = absurd (cc at)
too_high_at end (u ∷ us) t f p at faulty placed is = let same : t ≡ u = cc at in subst (λ x. IsRefusalAt end (u ∷ us) x (refused.Grammar f p)) (sym is) (too_high u us f p faulty (placed ∙ ap (λ v. v.place) same))

pub none_at : (end : places.Place) (left : List PlacedToken) (e : Stopped) (f : GrammarFault) (p : Place) → ¬ (e ≡ stop.Memory) → None ≡ first left → fault_of f ≡ text.UnexpectedEnd → place_of p ≡ end → IsRefusalAt end left e (refused.Grammar f p)
none_at end [] e f p not none faulty placed = at_end e f p not faulty placed
none_at end (u ∷ us) e f p not none faulty placed = absurd (cc none)

pub memory_at : (end : places.Place) (left : List PlacedToken) {e : Stopped} → e ≡ stop.Memory → IsRefusalAt end left e refused.Memory
memory_at end left is = subst (λ x. IsRefusalAt end left x refused.Memory) (sym is) (memory left)

pub here_not_memory : {e : Stopped} → e ≡ stop.Here → ¬ (e ≡ stop.Memory)
here_not_memory is other = let same = sym is ∙ other in cc same

pub high_not_memory : {e : Stopped} → e ≡ stop.High → ¬ (e ≡ stop.Memory)
high_not_memory is other = let same = sym is ∙ other in cc same
