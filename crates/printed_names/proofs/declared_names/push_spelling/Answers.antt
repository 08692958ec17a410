use Rattle.std.proofs.Common.{◌∷◌, [], ◌++◌, ◌∙◌, ap, sym}
use Rattle.std.proofs.lemmas.List.{map-append}
use Rattle.std.proofs.lemmas.Str.{encodes-chars}
use Rattle.csp_print.specs.Names.{spellings_of}
use Rattle.printed_names.proofs.declared_names.push_spelling.Goals as goal

pub returns : goal.returns
returns g c =
    let before = c.args.list.now.items in
    ap spellings_of c.in_ok-push.ensures.items ∙ map-append (λ s. s.now) before (c.args.spelling ∷ [])
    ∙ ap (λ s. spellings_of before ++ s ∷ []) (sym (encodes-chars c.args.spelling.now c.utf8.spelling))
