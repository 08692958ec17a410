-- A number comes first.
use Rattle.std.proofs.Common.{ℕ, Option, None, subst}
use Rattle.theory_walk.specs.Answers.{doing, named, numbered}
use Rattle.csp_print.specs.Names.{names_of}
use Rattle.state_walk.specs.Naming.{IsNamed, IsPlaceOf}
use Rattle.state_walk.specs.Walks.{moves_listed}
use Rattle.state_walk.proofs.Choosing.{by_doing, by_number, if_ok}
use Rattle.state_walk.proofs.naming.named.Goals as goal

pub returns-in-Some : goal.returns-in-Some
returns-in-Some g c =
    let all = moves_listed c.args.moves.now in
    let text = c.args.text.now in
    let number = numbered 1 all text in
    by_number all c.in-Some.place number (doing (names_of c.args.names.now) all text) (subst (λ (f : Option ℕ). IsPlaceOf all f number) c.in-Some.is c.in_ok-found.ensures)

pub returns-in-None : goal.returns-in-None
returns-in-None g c =
    let all = moves_listed c.args.moves.now in
    let text = c.args.text.now in
    let names = names_of c.args.names.now in
    let number = numbered 1 all text in
    let none = subst (λ (f : Option ℕ). IsPlaceOf all f number) c.in-None.is c.in_ok-found.ensures in
    if_ok (λ found. IsNamed all found (doing names all text)) (λ found. IsNamed all found (named names all text)) c.doing.result (λ found is. by_doing all number found (doing names all text) none is) c.doing.ensures
