-- Heights: what a nest's is at least, and how a token raises it.
use Rattle.std.proofs.Common.{Bool, true, false, cond, ◌≡◌, ◌∙◌, ◌≤◌, ◌+◌, List, [], ◌∷◌, ◌++◌, map, reverse, refl, sym, ap, subst, arith}
use Rattle.std.proofs.lemmas.List.{map-append, reverse-append}
use Rattle.theory_text.specs.Height.{Group, group_height, one_more, with_group, no_tokens, no_tokens_yet, Nest, Nesting, Opens, OpensSquare, Closes, ClosesDouble, Counts, Plain, closed, after_token, ended_height, nest_height}
use Rattle.csp_parse.specs.declared.nests.Group as groups
use Rattle.csp_parse.specs.Nests.{group_of, opened}

-- a nest is no lower than the group that is open
pub no_lower : (g : Group) (gs : List Group) → group_height g ≤ ended_height g gs
no_lower g [] = omega arith
no_lower g (h ∷ hs) = let up = no_lower (with_group h g) hs in omega (arith, up)

-- one group is a token higher than another; so are the nests
higher : (g h : Group) (gs : List Group) → group_height h ≤ group_height g + 1 → ended_height h gs ≤ ended_height g gs + 1
higher g h [] le = le
higher g h (a ∷ around) le = higher (with_group a g) (with_group a h) around (omega (arith, le))

closes : (g : Group) (gs : List Group) → nest_height (closed g gs) ≤ ended_height g gs + 1
closes g [] = omega arith
closes g (a ∷ around) = omega arith

closed_ends : (g : Group) (gs : List Group) → nest_height (closed g gs) ≡ ended_height g gs
closed_ends g [] = refl
closed_ends g (a ∷ around) = refl

closes_double : (square : Bool) (n : Nest) → nest_height (cond square (let once = closed n.current n.around in closed once.current once.around) (closed n.current n.around)) ≤ nest_height n + 1
closes_double true n = let once = closed n.current n.around in let same = closed_ends once.current once.around ∙ closed_ends n.current n.around in omega (arith, same)
closes_double false n = closes n.current n.around

pub rises : (x : Nesting) (n : Nest) → nest_height (after_token x n) ≤ nest_height n + 1
rises Opens n = higher n.current (with_group (one_more n.current) no_tokens) n.around (omega arith)
rises OpensSquare n = higher n.current (with_group (one_more n.current) (no_tokens_yet true)) n.around (omega arith)
rises Closes n = closes n.current n.around
rises ClosesDouble n = closes_double n.current.square n
rises Counts n = higher n.current (one_more n.current) n.around (omega arith)
rises Plain n = omega arith

-- a group that is pushed last is the innermost one
pub innermost_first : (around all : List groups.Group) (g : groups.Group) → all ≡ around ++ g ∷ [] → reverse (map group_of all) ≡ group_of g ∷ reverse (map group_of around)
innermost_first around all g e = ap (λ gs. reverse (map group_of gs)) e ∙ ap reverse (map-append group_of around (g ∷ [])) ∙ reverse-append (map group_of around) (group_of g ∷ [])

abbrev nest : Group → List Group → Nest
nest g gs = record { current = g; around = gs }

nest_is : {g h : Group} {gs hs : List Group} → g ≡ h → gs ≡ hs → nest g gs ≡ nest h hs
nest_is p q = λ i. record { current = p i; around = q i }

pub opens : (square : Bool) (old : Nest) {g more : Group} {gs : List Group} → g ≡ no_tokens_yet square → more ≡ one_more old.current → gs ≡ more ∷ old.around → nest g gs ≡ opened square old
opens square old empty top e = nest_is empty (e ∙ ap (λ m. m ∷ old.around) top)

pub shuts : (old : Nest) {g inner : Group} {gs : List Group} → old.around ≡ inner ∷ gs → g ≡ with_group inner old.current → nest g gs ≡ closed old.current old.around
shuts old e around = nest_is around refl ∙ ap (closed old.current) (sym e)

pub adds : (x : Nesting) (old : Nest) {g : Group} → x ≡ Counts → g ≡ one_more old.current → nest g old.around ≡ after_token x old
adds x old {g} is more = subst (λ y. nest g old.around ≡ after_token y old) (sym is) (nest_is more refl)
