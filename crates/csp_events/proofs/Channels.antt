-- The spellings and the field sets of channels, together and apart.
use Rattle.std.proofs.Common.{◌≡◌, List, [], ◌∷◌, map, refl, ap, ap₂}
use Rattle.std.specs.String.{string_bytes}
use Rattle.csp_events.specs.declared.channel.Channel.{Channel}
use Rattle.csp_events.specs.Channels.{channel_of, field_sets_of}

pub same_names : {A : Type 0} (cs ds : List (Channel A)) → map channel_of cs ≡ map channel_of ds → map (λ c. string_bytes c.spelling) cs ≡ map (λ c. string_bytes c.spelling) ds
same_names [] [] e = refl
same_names [] (d ∷ ds) e = absurd (cc e)
same_names (c ∷ cs) [] e = absurd (cc e)
same_names (c ∷ cs) (d ∷ ds) e = let here : channel_of c ≡ channel_of d = cc e in ap₂ (λ z zs. z ∷ zs) (ap (λ p. p.0) here) (same_names cs ds (cc e))

pub same_sets : {A : Type 0} (cs ds : List (Channel A)) → map channel_of cs ≡ map channel_of ds → map field_sets_of cs ≡ map field_sets_of ds
same_sets [] [] e = refl
same_sets [] (d ∷ ds) e = absurd (cc e)
same_sets (c ∷ cs) [] e = absurd (cc e)
same_sets (c ∷ cs) (d ∷ ds) e = let here : channel_of c ≡ channel_of d = cc e in ap₂ (λ z zs. z ∷ zs) (ap (λ p. p.1) here) (same_sets cs ds (cc e))

pub same_channels : {A : Type 0} (cs ds : List (Channel A)) → map (λ c. string_bytes c.spelling) cs ≡ map (λ c. string_bytes c.spelling) ds → map field_sets_of cs ≡ map field_sets_of ds →
    map channel_of cs ≡ map channel_of ds
same_channels [] [] e f = refl
same_channels [] (d ∷ ds) e f = absurd (cc e)
same_channels (c ∷ cs) [] e f = absurd (cc e)
same_channels (c ∷ cs) (d ∷ ds) e f =
    let spelled : string_bytes c.spelling ≡ string_bytes d.spelling = cc e in
    let sets : field_sets_of c ≡ field_sets_of d = cc f in
    let here : channel_of c ≡ channel_of d = λ i. (spelled i, sets i) in ap₂ (λ z zs. z ∷ zs) here (same_channels cs ds (cc e) (cc f))
