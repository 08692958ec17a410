-- Spellings of names in bytes.
use Rattle.std.specs.Prelude.{flat_map, IfOk, take}
use Rattle.std.specs.Str.{chars, encode_utf8_all}
use Rattle.std.specs.String.{string_bytes}
use Rattle.std.specs.declared.string.String.{String}
use Rattle.std.specs.declared.vec.Vec.{Vec}
use Rattle.std.proofs.lemmas.List.{append_assoc, map-append, take_more, take_all}
use Rattle.std.proofs.lemmas.Str.{encodes-chars, IsUtf8-had}
use Rattle.std.proofs.Common.{◌≡◌, ◌+◌, ◌<◌, ◌≤◌, ℕ, List, [], ◌∷◌, ◌++◌, length, get_or, map, Result, Ok, Err, refl, sym, ap, ◌∙◌}
use Rattle.theory_text.specs.Raw.{RawName, RawDeclaration}
use Rattle.theory_checking.specs.Names.{ChannelName, ConstructorName, clause_names, declared_as, spellings}
use Rattle.theory_checking.proofs.OneMore.{flat_map_one_more}
use Rattle.csp_parse.specs.declared.declarations.Declaration.{Declaration}
use Rattle.csp_parse.specs.declared.names.Name.{Name}
use Rattle.csp_parse.specs.declared.declarations.Clause.{Clause}
use Rattle.csp_parse.specs.Declarations.{clause_of, declaration_of}
use Rattle.csp_parse.specs.Names.{name_of}
use Rattle.csp_parse.specs.declared.declarations.Domain.{Domain}
use Rattle.csp_parse.specs.declared.declarations.Declaration.TheVariants as declaration
use Rattle.csp_kinds.specs.Spellings.{encoded}

-- The bytes of a text are those that spell its characters.
pub spelled_out : {A E : Type 0} (text : List ℕ) (r : Result (String A) E) → IfOk r (λ s. string_bytes s ≡ text) → IfOk r (λ s. string_bytes s ≡ encode_utf8_all (chars text))
spelled_out text (Ok s) h = sym (encodes-chars (string_bytes s) (IsUtf8-had (string_bytes s) s.ok)) ∙ ap (λ bs. encode_utf8_all (chars bs)) h
spelled_out text (Err e) h = h

-- ---- the names of a class, declaration by declaration

-- The names so far are those that f gives of the declarations so far.
abbrev pub AreNamed : {A : Type 0} → (RawDeclaration → List RawName) → List (Declaration A) → ℕ → List Name → Type 0
AreNamed f ds n names = map name_of names ≡ flat_map f (map declaration_of (take n ds))

module _ {A : Type 0} (f : RawDeclaration → List RawName) (ds : List (Declaration A)) (n : ℕ) where
  declarations_with_one_more : (d : Declaration A) → n < length ds → d ≡ get_or ds n d → flat_map f (map declaration_of (take (n + 1) ds)) ≡ flat_map f (map declaration_of (take n ds)) ++ f (declaration_of d)
  declarations_with_one_more d within read =
      ap (λ xs. flat_map f (map declaration_of xs)) (take_more ds n d within ∙ ap (λ x. take n ds ++ x ∷ []) (sym read))
      ∙ ap (flat_map f) (map-append declaration_of (take n ds) (d ∷ []))
      ∙ flat_map_one_more f (map declaration_of (take n ds)) (declaration_of d)

  pub some_more_named : (d : Declaration A) (old : List Name) (more : List RawName) (all all' : Vec Name A) → n < length ds → d ≡ get_or ds n d → AreNamed f ds n old → f (declaration_of d) ≡ more → all ≡ all' →
      map name_of all'.items ≡ map name_of old ++ more → AreNamed f ds (n + 1) all.items
  some_more_named d old more all all' within read are is same pushed =
      ap (λ v. map name_of v.items) same ∙ pushed ∙ ap (λ xs. xs ++ more) are ∙ ap (λ xs. flat_map f (map declaration_of (take n ds)) ++ xs) (sym is)
      ∙ sym (declarations_with_one_more d within read)

  pub all_named : (names : List Name) → length ds ≤ n → AreNamed f ds n names → map name_of names ≡ flat_map f (map declaration_of ds)
  all_named names over are = are ∙ ap (λ xs. flat_map f (map declaration_of xs)) (take_all n ds over)

-- the names that a declaration has of its class
pub channels_declared : {A : Type 0} (d : Declaration A) (ns : Vec Name A) (ds : Vec (Domain A) A) (names : List Name) → d ≡ declaration.Channels ns ds → names ≡ ns.items → declared_as ChannelName (declaration_of d) ≡ map name_of names
channels_declared d ns ds names is same = ap (λ x. declared_as ChannelName (declaration_of x)) is ∙ ap (map name_of) (sym same)

pub constructors_declared : {A : Type 0} (d : Declaration A) (n : Name) (cs : Vec (Clause A) A) (clauses : List (Clause A)) → d ≡ declaration.Datatype n cs → clauses ≡ cs.items → declared_as ConstructorName (declaration_of d) ≡ clause_names (map clause_of clauses)
constructors_declared d n cs clauses is same = ap (λ x. declared_as ConstructorName (declaration_of x)) is ∙ ap (λ xs. clause_names (map clause_of xs)) (sym same)

-- other declarations have none
pub no_channels : {A : Type 0} (d : Declaration A) → ((ns : Vec Name A) (ds : Vec (Domain A) A) → d ≡ declaration.Channels ns ds → ⊥) → declared_as ChannelName (declaration_of d) ≡ []
no_channels (declaration.Channels ns ds) other = absurd (other ns ds refl)
no_channels (declaration.Datatype n ns) other = refl
no_channels (declaration.Nametype n d) other = refl
no_channels (declaration.Equation n ns p) other = refl
no_channels (declaration.Assertion t n a p) other = refl

pub no_constructors : {A : Type 0} (d : Declaration A) → ((n : Name) (cs : Vec (Clause A) A) → d ≡ declaration.Datatype n cs → ⊥) → declared_as ConstructorName (declaration_of d) ≡ []
no_constructors (declaration.Datatype n ns) other = absurd (other n ns refl)
no_constructors (declaration.Channels ns ds) other = refl
no_constructors (declaration.Nametype n d) other = refl
no_constructors (declaration.Equation n ns p) other = refl
no_constructors (declaration.Assertion t n a p) other = refl

-- the constructors of clauses so far, and one more
pub one_more_clause : {A : Type 0} (start : List RawName) (cs : List (Clause A)) (n : ℕ) (c : Clause A) (old new : List Name) → n < length cs → c ≡ get_or cs n c → map name_of old ≡ start ++ clause_names (map clause_of (take n cs)) →
    new ≡ old ++ c.name ∷ [] → map name_of new ≡ start ++ clause_names (map clause_of (take (n + 1) cs))
one_more_clause start cs n c old new within read are pushed =
    ap (map name_of) pushed ∙ map-append name_of old (c.name ∷ []) ∙ ap (λ xs. xs ++ name_of c.name ∷ []) are ∙ append_assoc start (clause_names (map clause_of (take n cs))) (name_of c.name ∷ [])
    ∙ ap (λ xs. start ++ xs)
    (sym (ap (λ xs. clause_names (map clause_of xs)) (take_more cs n c within ∙ ap (λ x. take n cs ++ x ∷ []) (sym read)) ∙ ap clause_names (map-append clause_of (take n cs) (c ∷ []))
    ∙ map-append (λ x. x.name) (map clause_of (take n cs)) (clause_of c ∷ [])))

pub all_clauses : {A : Type 0} (start : List RawName) (cs : List (Clause A)) (n : ℕ) (names : List Name) → length cs ≤ n → map name_of names ≡ start ++ clause_names (map clause_of (take n cs)) → map name_of names ≡ start ++ clause_names (map clause_of cs)
all_clauses start cs n names over are = are ∙ ap (λ xs. start ++ clause_names (map clause_of xs)) (take_all n cs over)

-- ---- names in turn

encoded_both : (xs ys : List Name) → encoded (xs ++ ys) ≡ encoded xs ++ encoded ys
encoded_both xs ys =
    ap (λ ns. map encode_utf8_all (spellings ns)) (map-append name_of xs ys) ∙ ap (map encode_utf8_all) (map-append (λ n. n.spelling) (map name_of xs) (map name_of ys))
    ∙ map-append encode_utf8_all (spellings (map name_of xs)) (spellings (map name_of ys))

-- What has the spellings of names so far has those of one more with its own.
pub one_more_encoded : {T : Type 0} (bytes : T → List ℕ) (names : List Name) (n : ℕ) (d : Name) (old new : List T) (t : T) → n < length names → map bytes old ≡ encoded (take n names) → new ≡ old ++ t ∷ [] → bytes t ≡ encode_utf8_all (name_of (get_or names n d)).spelling →
    map bytes new ≡ encoded (take (n + 1) names)
one_more_encoded bytes names n d old new t within are pushed is =
    ap (map bytes) pushed ∙ map-append bytes old (t ∷ []) ∙ ap (λ xs. xs ++ bytes t ∷ []) are ∙ ap (λ x. encoded (take n names) ++ x ∷ []) is ∙ sym (encoded_both (take n names) (get_or names n d ∷ []))
    ∙ ap encoded (sym (take_more names n d within))

pub all_encoded : {T : Type 0} (bytes : T → List ℕ) (names : List Name) (n : ℕ) (ts : List T) → length names ≤ n → map bytes ts ≡ encoded (take n names) → map bytes ts ≡ encoded names
all_encoded bytes names n ts over are = are ∙ ap encoded (take_all n names over)
