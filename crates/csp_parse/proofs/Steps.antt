-- Steps of a reader: what is read is read by the definitions too, and a stop is handed on as it is.
use Rattle.std.proofs.Common.{◌≡◌, ◌∙◌, Result, Ok, Err, IfOk, IfErr, refl, sym, ap, subst}
use Rattle.std.specs.Result.{IsErr, IsErrAnd}
use Rattle.std.proofs.lemmas.Result.{err_from_is_err_and}
use Rattle.theory_reader.specs.Programs.{Halt, Here, High, Outcome, and_then}
use Rattle.csp_parse.specs.declared.parsers.Parser.{Parser}
use Rattle.csp_parse.specs.declared.stops.Stopped.{Stopped}
use Rattle.csp_parse.specs.declared.stops.Stopped.TheVariants as stop
use Rattle.csp_parse.specs.Reading.{left_of, standing_of, Halts, Gives}

stopped : {A Y Z : Type 0} (o : Outcome Y) (u : Outcome Z) (e : Stopped) (new : Parser A) → ((h : Halt) → u ≡ Err (h, left_of new) → o ≡ Err (h, left_of new)) → Halts u e new → Halts o e new
stopped o u stop.Here new on h = on Here h
stopped o u stop.High new on h = on High h
stopped o u stop.Memory new on h = tt

alone : {Y : Type 0} (o : Outcome Y) → and_then o (λ y s. Ok (y, s)) ≡ o
alone (Ok p) = refl
alone (Err e) = refl

-- a stop is handed on
pub hands : {A X Y Z : Type 0} (o : Outcome Y) (u : Outcome Z) (tree : X → Y) (r : Result X Stopped) (e : Stopped) (new : Parser A) → IsErr r × IsErrAnd r (λ x. x ≡ e) → Halts u e new →
    ((h : Halt) → u ≡ Err (h, left_of new) → o ≡ Err (h, left_of new)) → Gives o tree r new
hands o u tree r e new same h on = let p = err_from_is_err_and r same.1 in rw (p.1, p.2) (stopped o u e new on h)

-- the last form is read behind what is read
pub goes_on : {A X Y : Type 0} (o u : Outcome Y) (tree : X → Y) (r : Result X Stopped) (new : Parser A) → Gives u tree r new → o ≡ and_then u (λ y s. Ok (y, s)) → Gives o tree r new
goes_on o u tree r new h e = subst (λ x. Gives x tree r new) (sym (e ∙ alone u)) h

pub told : {A X Y : Type 0} (o u : Outcome Y) (tree : X → Y) (r : Result X Stopped) (new : Parser A) → Gives u tree r new → o ≡ u → Gives o tree r new
told o u tree r new h e = subst (λ x. Gives x tree r new) (sym e) h

-- what makes a tree stops for memory alone
pub refused : {A Y : Type 0} (o : Outcome Y) (e : Stopped) (new : Parser A) → e ≡ stop.Memory → Halts o e new
refused o stop.Memory new is = tt
refused o stop.Here new is = absurd (cc is)
refused o stop.High new is = absurd (cc is)

pub made : {A X Y : Type 0} (o : Outcome Y) (tree : X → Y) (y : Y) (r : Result X Stopped) (new : Parser A) → IfOk r (λ x. tree x ≡ y) → IfErr r (λ e. e ≡ stop.Memory) → o ≡ Ok (y, standing_of new) → Gives o tree r new
made o tree y (Ok x) new is stops h = h ∙ ap (λ z. Ok (z, standing_of new)) (sym is)
made o tree y (Err e) new is stops h = refused o e new stops
