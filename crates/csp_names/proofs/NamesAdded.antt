-- Names that are added to a table, behind those that it holds.
use Rattle.std.specs.Prelude.{cond, is_some, option_map, replicate, take, drop, get_or, map}
use Rattle.std.specs.Borrow.{Bor}
use Rattle.std.specs.Map.{lookup}
use Rattle.std.specs.Str.{bytes_eq, chars, IsUtf8}
use Rattle.std.proofs.lemmas.Grind.{flat_map-append}
use Rattle.std.proofs.lemmas.List.{append_assoc, length-map, map-append, length-take-le, take_more, take_all, take-append-drop, replicate_more}
use Rattle.std.proofs.Common.{vec_len, ◌≡◌, ◌<◌, ◌≤◌, ℕ, suc, ◌+◌, Bool, true, false, List, [], ◌∷◌, ◌++◌, append-nil, length, length-append, Option, Some, None, refl, sym, ap, ◌∙◌, subst, arith}
use Rattle.indexmap.specs.IndexMap.{insert_entry}
use Rattle.theory_text.specs.Raw.{RawName, RawScript}
use Rattle.theory_checking.specs.DeclaredRows.{Row, numbered_rows, row_spellings}
use Rattle.theory_checking.specs.Faults.{IsFirstRefused}
use Rattle.theory_checking.specs.Names.{Class, ChannelName, Declared, declared, has_spelling, number_in}
use Rattle.theory_checking.specs.Rules.{all_declared, IsRedeclared}
use Rattle.theory_checking.proofs.Counts.{length-replicate}
use Rattle.theory_checking.proofs.DeclaredRows.{numbered_one_more, once_with_one_more, redeclared_first}
use Rattle.csp_parse.specs.declared.names.Name.{Name}
use Rattle.csp_parse.specs.Names.{name_of}
use Rattle.csp_lex.specs.declared.places.Place.{Place}
use Rattle.csp_lex.specs.Places.{place_of}
use Rattle.csp_names.specs.declared.meanings.Declared as meanings
use Rattle.csp_names.specs.declared.names.Names.{Names}
use Rattle.csp_names.specs.declared.refusals.Refused.{Refused}
use Rattle.csp_names.specs.declared.refusals.Refused.TheVariants as refused
use Rattle.csp_names.specs.declared.refusals.KindFault.TheVariants as fault
use Rattle.csp_names.specs.FirstPass.{Adds, Holds, IsFirstPassRefusal, IsRedeclaration, Redeclares, row_of, rows_of}
use Rattle.csp_names.specs.Meanings.{declared_of}
use Rattle.csp_names.specs.Refusals.{fault_of}
use Rattle.csp_names.specs.Rows.{AreTexts}
use Rattle.csp_names.proofs.Rows.{is_key, same_spelling}

-- ---- a name that is there, by its bytes and by its spelling

abbrev pub row_of_entry : Bor (List ℕ) × meanings.Declared → Row
row_of_entry e = (chars e.0.now, declared_of e.1)

module _ (q : List ℕ) (u : IsUtf8 q) where
  pub has_row : (es : List (Bor (List ℕ) × meanings.Declared)) → AreTexts es → is_some (lookup (is_key q) es) ≡ has_spelling (row_spellings (map row_of_entry es)) (chars q)
  has_row [] texts = refl
  has_row (e ∷ es) texts = go (is_key q e.0) (bytes_eq (chars e.0.now) (chars q)) (same_spelling q e.0.now u texts.0) (number_in (row_spellings (map row_of_entry es)) (chars q)) (has_row es texts.1)
    where
      go : (b c : Bool) → b ≡ c → (o : Option ℕ) → is_some (lookup (is_key q) es) ≡ is_some o → is_some (cond b (Some e.1) (lookup (is_key q) es)) ≡ is_some (cond c (Some 0) (option_map suc o))
      go true true is o rest = refl
      go false false is (Some k) rest = rest
      go false false is None rest = rest
      go true false is o rest = absurd (cc is)
      go false true is o rest = absurd (cc is)

abbrev same_key : Bor (List ℕ) → Bor (List ℕ) → Bool
same_key j k = bytes_eq j.now k.now

-- an entry whose key is not there is put behind the others
pub entry_behind : (q : Bor (List ℕ)) (v : meanings.Declared) (es : List (Bor (List ℕ) × meanings.Declared)) → is_some (lookup (is_key q.now) es) ≡ false → insert_entry same_key es q v ≡ es ++ (q, v) ∷ []
entry_behind q v [] new = refl
entry_behind q v (e ∷ es) new = go (bytes_eq q.now e.0.now) (λ rest. entry_behind q v es rest) new
  where
    go : (b : Bool) → (is_some (lookup (is_key q.now) es) ≡ false → insert_entry same_key es q v ≡ es ++ (q, v) ∷ []) → is_some (cond b (Some e.1) (lookup (is_key q.now) es)) ≡ false →
        cond b ((e.0, v) ∷ es) (e ∷ insert_entry same_key es q v) ≡ e ∷ (es ++ (q, v) ∷ [])
    go true rest f = absurd (cc f)
    go false rest f = ap (λ zs. e ∷ zs) (rest f)

pub texts_behind : (es : List (Bor (List ℕ) × meanings.Declared)) (e : Bor (List ℕ) × meanings.Declared) → AreTexts es → IsUtf8 e.0.now → AreTexts (es ++ e ∷ [])
texts_behind [] e texts u = (u, tt)
texts_behind (x ∷ es) e texts u = (texts.0, texts_behind es e texts.1 u)

-- ---- names that are declared again

redeclared_more : (ns more : List RawName) (r : Refused) → IsRedeclaration ns r → IsRedeclaration (ns ++ more) r
redeclared_more ns more (refused.Fault f p) h = (h.0, further h.1, h.2)
  where
    further : IsFirstRefused IsRedeclared ns h.0 (fault_of f) → IsFirstRefused IsRedeclared (ns ++ more) h.0 (fault_of f)
    further first = record {
      before = first.before;
      after = first.after ++ more;
      stands = ap (λ zs. zs ++ more) first.stands ∙ append_assoc first.before (h.0 ∷ first.after) more;
      refused = first.refused;
      lowest = first.lowest;
      none_before = first.none_before;
    }
redeclared_more ns more refused.Memory h = tt

pub refusal_goes_on : (above below : RawScript) (r : Refused) → IsFirstPassRefusal above r → IsFirstPassRefusal (above ++ below) r
refusal_goes_on above below r h = let P : List RawName → Type 0 = λ ns. IsRedeclaration ns r in subst P (sym (flat_map-append declared above below)) (redeclared_more (all_declared above) (all_declared below) r h)

module _ {A : Type 0} where
  pub redeclares_for_room : (names : Names A) (ns : List RawName) (r : Refused) → r ≡ refused.Memory → Redeclares names ns r
  redeclares_for_room names ns r is before h = let P : Refused → Type 0 = IsRedeclaration (before ++ ns) in subst P (sym is) tt

  pub redeclares_in_first : (names : Names A) (ns more : List RawName) (r : Refused) → Redeclares names ns r → Redeclares names (ns ++ more) r
  redeclares_in_first names ns more r h before held = let P : List RawName → Type 0 = λ zs. IsRedeclaration zs r in subst P (append_assoc before ns more) (redeclared_more (before ++ ns) more r (h before held))

  pub redeclares_behind : (old new : Names A) (rows : List Row) (added more : List RawName) (parameters constructors fields : List ℕ) (r : Refused) →
      Adds old new rows added parameters constructors fields → Redeclares new more r → Redeclares old (added ++ more) r
  redeclares_behind old new rows added more parameters constructors fields r adds h before held =
      let P : List RawName → Type 0 = λ zs. IsRedeclaration zs r in subst P (append_assoc before added more) (h (before ++ added) (adds.held before held))

  -- a name that is there
  pub redeclares_name : (names : Names A) (n : RawName) (p : Place) → place_of p ≡ n.place → (AreTexts names.table.entries → has_spelling (row_spellings (rows_of names)) n.spelling ≡ true) → Redeclares names (n ∷ []) (refused.Fault fault.DeclaredTwice p)
  redeclares_name names n p place there before held = (n, redeclared_first before [] n held.once (ap (λ ss. has_spelling ss n.spelling) (sym held.spelled) ∙ there held.texts), place)

  -- ---- names that are added

  pub nothing_added : (names : Names A) → Adds names names [] [] [] [] []
  nothing_added names = record {
    rows = sym (append-nil (rows_of names));
    parameters = sym (append-nil names.parameters.items);
    constructors = sym (append-nil names.constructors.items);
    fields = sym (append-nil names.fields.items);
    held = λ ns h. let P : List RawName → Type 0 = Holds names in subst P (sym (append-nil ns)) h;
  }

  pub added_both : (a b c : Names A) (r s : List Row) (ns ms : List RawName) (p q k l f g : List ℕ) → Adds a b r ns p k f → Adds b c s ms q l g →
      Adds a c (r ++ s) (ns ++ ms) (p ++ q) (k ++ l) (f ++ g)
  added_both a b c r s ns ms p q k l f g x y = record {
    rows = y.rows ∙ ap (λ z. z ++ s) x.rows ∙ append_assoc (rows_of a) r s;
    parameters = y.parameters ∙ ap (λ z. z ++ q) x.parameters ∙ append_assoc a.parameters.items p q;
    constructors = y.constructors ∙ ap (λ z. z ++ l) x.constructors ∙ append_assoc a.constructors.items k l;
    fields = y.fields ∙ ap (λ z. z ++ g) x.fields ∙ append_assoc a.fields.items f g;
    held = λ zs h. let P : List RawName → Type 0 = Holds c in subst P (append_assoc zs ns ms) (y.held (zs ++ ns) (x.held zs h));
  }

  -- numbers of parameters or of fields are put behind the others
  held_in : (a b : Names A) (ns : List RawName) → b.table ≡ a.table → Holds a ns → Holds b ns
  held_in a b ns same h = record {
    texts = subst (λ t. AreTexts t.entries) (sym same) h.texts;
    spelled = ap (λ t. row_spellings (map row_of_entry t.entries)) same ∙ h.spelled;
    once = h.once;
  }

  pub counts_added : (a b : Names A) (ps ks fs : List ℕ) → b.table ≡ a.table → b.parameters.items ≡ a.parameters.items ++ ps → b.constructors.items ≡ a.constructors.items ++ ks →
      b.fields.items ≡ a.fields.items ++ fs → Adds a b [] [] ps ks fs
  counts_added a b ps ks fs same parameters constructors fields = record {
    rows = ap (λ t. map row_of_entry t.entries) same ∙ sym (append-nil (rows_of a));
    parameters = parameters;
    constructors = constructors;
    fields = fields;
    held = λ ns h. let P : List RawName → Type 0 = Holds b in subst P (sym (append-nil ns)) (held_in a b ns same h);
  }

  -- a name that is not there
  pub name_added : (a b : Names A) (n : RawName) (row : Row) → row.0 ≡ n.spelling → (AreTexts a.table.entries → AreTexts b.table.entries) → (AreTexts a.table.entries → has_spelling (row_spellings (rows_of a)) n.spelling ≡ false) →
      rows_of b ≡ rows_of a ++ row ∷ [] → b.parameters.items ≡ a.parameters.items → b.constructors.items ≡ a.constructors.items → b.fields.items ≡ a.fields.items → Adds a b (row ∷ []) (n ∷ []) [] [] []
  name_added a b n row spelling texts new rows parameters constructors fields = record {
    rows = rows;
    parameters = parameters ∙ sym (append-nil a.parameters.items);
    constructors = constructors ∙ sym (append-nil a.constructors.items);
    fields = fields ∙ sym (append-nil a.fields.items);
    held = λ ns h. record {
      texts = texts h.texts;
      spelled =
          ap row_spellings rows ∙ map-append (λ r. r.0) (rows_of a) (row ∷ []) ∙ ap (λ s. row_spellings (rows_of a) ++ s ∷ []) spelling
          ∙ ap (λ ss. ss ++ n.spelling ∷ []) h.spelled ∙ sym (map-append (λ m. m.spelling) ns (n ∷ []));
      once = once_with_one_more ns n h.once (ap (λ ss. has_spelling ss n.spelling) (sym h.spelled) ∙ new h.texts);
    };
  }

  -- a name whose text is not there is put behind the others
  pub name_put : (a b : Names A) (q : Bor (List ℕ)) (n : RawName) (d : meanings.Declared) → IsUtf8 q.now → chars q.now ≡ n.spelling → is_some (lookup (is_key q.now) a.table.entries) ≡ false → b.table.entries ≡ insert_entry same_key a.table.entries q d →
      b.parameters.items ≡ a.parameters.items → b.constructors.items ≡ a.constructors.items → b.fields.items ≡ a.fields.items → Adds a b (row_of n d ∷ []) (n ∷ []) [] [] []
  name_put a b q n d u spelling new put parameters constructors fields =
      let behind : b.table.entries ≡ a.table.entries ++ (q, d) ∷ [] = put ∙ entry_behind q d a.table.entries new in
      name_added a b n (row_of n d) refl
      (λ texts. subst AreTexts (sym behind) (texts_behind a.table.entries (q, d) texts u))
      (λ texts. ap (has_spelling (row_spellings (rows_of a))) (sym spelling) ∙ sym (has_row q.now u a.table.entries texts) ∙ new)
      (ap (map row_of_entry) behind ∙ map-append row_of_entry a.table.entries ((q, d) ∷ []) ∙ ap (λ s. rows_of a ++ (s, declared_of d) ∷ []) spelling)
      parameters constructors fields

-- ---- the names of the things of a list, one behind the other

module _ {I : Type 0} (name : I → RawName) (items : List I) (i : ℕ) (x : I) (within : i < length items) where
  pub one_more_name : map name (take (i + 1) items) ≡ map name (take i items) ++ name (get_or items i x) ∷ []
  one_more_name = ap (map name) (take_more items i x within) ∙ map-append name (take i items) (get_or items i x ∷ [])

  pub names_cut : map name items ≡ (map name (take i items) ++ name (get_or items i x) ∷ []) ++ map name (drop (i + 1) items)
  names_cut = ap (map name) (sym (take-append-drop (i + 1) items)) ∙ map-append name (take (i + 1) items) (drop (i + 1) items) ∙ ap (λ ns. ns ++ map name (drop (i + 1) items)) one_more_name

-- the names so far have been added, with numbers of a class from this one on, and so many fields of constructors and of channels
abbrev pub AddsFirst : {A I : Type 0} → (I → RawName) → Class → ℕ → List I → ℕ → Names A → Names A → List ℕ → List ℕ → Type 0
AddsFirst name class first items i a b ks fs = Adds a b (numbered_rows class first (map name (take i items))) (map name (take i items)) [] ks fs

module _ {A I : Type 0} (name : I → RawName) (class : Class) (first : ℕ) (items : List I) (i : ℕ) (x : I) (within : i < length items) (a b : Names A) (ks fs : List ℕ) where
  pub one_more_added : (c : Names A) (k : ℕ) (ls gs : List ℕ) → AddsFirst name class first items i a b ks fs → k ≡ first + i →
      Adds b c (((name (get_or items i x)).spelling, Declared class k) ∷ []) (name (get_or items i x) ∷ []) [] ls gs → AddsFirst name class first items (i + 1) a c (ks ++ ls) (fs ++ gs)
  one_more_added c k ls gs so_far number one =
      let names : map name (take (i + 1) items) ≡ map name (take i items) ++ name (get_or items i x) ∷ [] = one_more_name name items i x within in
      let counted : length (map name (take i items)) ≡ i = length-map (take i items) name ∙ length-take-le i items (omega (arith, within)) in
      let rows : numbered_rows class first (map name (take (i + 1) items)) ≡ numbered_rows class first (map name (take i items)) ++ ((name (get_or items i x)).spelling, Declared class k) ∷ [] =
      ap (numbered_rows class first) names ∙ numbered_one_more class first (map name (take i items)) (name (get_or items i x))
      ∙ ap (λ m. numbered_rows class first (map name (take i items)) ++ ((name (get_or items i x)).spelling, Declared class m) ∷ []) (ap (λ m. first + m) counted ∙ sym number) in
      let P : List Row → Type 0 = λ rs. Adds a c rs (map name (take (i + 1) items)) [] (ks ++ ls) (fs ++ gs) in
      let Q : List RawName → Type 0 = λ ns. Adds a c (numbered_rows class first (map name (take i items)) ++ ((name (get_or items i x)).spelling, Declared class k) ∷ []) ns [] (ks ++ ls) (fs ++ gs) in
      subst P (sym rows) (subst Q (sym names) (added_both a b c _ _ _ _ [] [] ks ls fs gs so_far one))

  pub one_redeclares : (r : Refused) → AddsFirst name class first items i a b ks fs → Redeclares b (name (get_or items i x) ∷ []) r → Redeclares a (map name items) r
  one_redeclares r so_far h =
      let P : List RawName → Type 0 = λ ns. Redeclares a ns r in
      subst P (sym (names_cut name items i x within))
      (redeclares_in_first a (map name (take i items) ++ name (get_or items i x) ∷ []) (map name (drop (i + 1) items)) r
      (redeclares_behind a b _ (map name (take i items)) (name (get_or items i x) ∷ []) [] ks fs r so_far h))

pub all_added : {A I : Type 0} (name : I → RawName) (class : Class) (first : ℕ) (items : List I) (i : ℕ) (a b : Names A) (ks fs : List ℕ) → length items ≤ i → AddsFirst name class first items i a b ks fs →
    Adds a b (numbered_rows class first (map name items)) (map name items) [] ks fs
all_added {A} {I} name class first items i a b ks fs over so_far =
    let P : List I → Type 0 = λ xs. Adds a b (numbered_rows class first (map name xs)) (map name xs) [] ks fs in subst P (take_all i items over) so_far

-- one channel more, with its number of fields
pub one_more_channel : {A : Type 0} (items : List Name) (i : ℕ) (x : Name) → i < length items → (a b m c : Names A) (k fields : ℕ) → AddsFirst name_of ChannelName (length a.fields.items) items i a b [] (replicate i fields) →
    k ≡ vec_len b.fields → Adds b m (((name_of (get_or items i x)).spelling, Declared ChannelName k) ∷ []) (name_of (get_or items i x) ∷ []) [] [] [] →
    c.table ≡ m.table → c.parameters.items ≡ m.parameters.items → c.constructors.items ≡ m.constructors.items → c.fields.items ≡ m.fields.items ++ fields ∷ [] →
    AddsFirst name_of ChannelName (length a.fields.items) items (i + 1) a c [] (replicate (i + 1) fields)
one_more_channel items i x within a b m c k fields so_far number one same parameters constructors pushed =
    let count : vec_len b.fields ≡ length a.fields.items + i =
    b.fields.ok.0 ∙ ap length so_far.fields ∙ length-append a.fields.items (replicate i fields) ∙ ap (λ n. length a.fields.items + n) (length-replicate i fields) in
    let added : Adds m c [] [] [] [] (fields ∷ []) =
    counts_added m c [] [] (fields ∷ []) same (parameters ∙ sym (append-nil m.parameters.items)) (constructors ∙ sym (append-nil m.constructors.items)) pushed in
    let P : List ℕ → Type 0 = λ fs. AddsFirst name_of ChannelName (length a.fields.items) items (i + 1) a c [] fs in
    subst P (replicate_more i fields)
    (one_more_added name_of ChannelName (length a.fields.items) items i x within a b [] (replicate i fields) c k [] (fields ∷ []) so_far (number ∙ count)
    (added_both b m c _ _ _ _ [] [] [] [] [] (fields ∷ []) one added))
