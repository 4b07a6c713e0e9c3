-- A zone as the plain list of its records.
use Rattle.std.proofs.Common.{◌≡◌, ℕ, ◌+◌, ◌<◌, ◌≤◌, Bool, true, false, cond, List, [], ◌∷◌, ◌++◌, length, take, drop, get_or, refl, sym, ap, ◌∙◌, arith, append_assoc, rules}
use Rattle.std.specs.Prelude.{◌||◌, ◌==◌, insert, nat_le}
use Rattle.std.specs.List.{filter, list_any}
use Rattle.std.proofs.lemmas.List.{drop_more, drop_all, take_all, take_more, append-nil}
use Rattle.std.proofs.lemmas.List.Elements.{filter_more}
use Rattle.dns_data.specs.Record.{RecordData, kind_of}
use Rattle.dns_data.specs.declared.zone.Zone.{Zone}
use Rattle.zone_lookup.specs.Zone.{is_at, is_of, placed, by_type, set_at, has_at, has_items, Begins}

has_cond : (b : Bool) (r : RecordData) (rs : List RecordData) → has_items (cond b (r ∷ rs) rs) ≡ (b || has_items rs)
has_cond true r rs = refl
has_cond false r rs = refl

has_filter : (p : RecordData → Bool) (rs : List RecordData) → has_items (filter p rs) ≡ list_any p rs
has_filter p [] = refl
has_filter p (r ∷ rs) = has_cond (p r) r (filter p rs) ∙ ap (λ (b : Bool). p r || b) (has_filter p rs)

has_either : (b : Bool) (r x : RecordData) (rs xs : List RecordData) → has_items (cond b (r ∷ rs) (x ∷ xs)) ≡ true
has_either true r x rs xs = refl
has_either false r x rs xs = refl

has_placed : (r : RecordData) (rs : List RecordData) → has_items (placed r rs) ≡ true
unfolding placed
has_placed r [] = refl
has_placed r (x ∷ xs) = has_either (nat_le (kind_of x.rdata) (kind_of r.rdata)) x r (placed r xs) (x ∷ xs)

or_true : (b : Bool) → (b || true) ≡ true
or_true true = refl
or_true false = refl

or_false : (b : Bool) → (b || false) ≡ b
or_false true = refl
or_false false = refl

has_by_type : (done rs : List RecordData) → has_items (by_type done rs) ≡ (has_items done || has_items rs)
unfolding by_type
has_by_type done [] = sym (or_false (has_items done))
has_by_type done (r ∷ rs) = has_by_type (placed r done) rs ∙ ap (λ (b : Bool). b || has_items rs) (has_placed r done) ∙ sym (or_true (has_items done))

pub has_any : (zone : Zone) (name : List (List ℕ)) (kind : ℕ) → kind ≡ 255 → list_any (is_at name) zone.records ≡ has_at zone name kind
unfolding has_at set_at
has_any zone name kind e = rw e (sym (has_by_type [] (filter (is_at name) zone.records) ∙ has_filter (is_at name) zone.records))

pub has_of : (zone : Zone) (name : List (List ℕ)) (kind : ℕ) → (kind ≡ 255 → ⊥) → list_any (is_of name kind) zone.records ≡ has_at zone name kind
unfolding has_at set_at
has_of zone name kind h = let e : (kind == 255) ≡ false = search rules in rw e (sym (has_filter (is_of name kind) zone.records))

pub set_any : (zone : Zone) (name : List (List ℕ)) (kind : ℕ) → kind ≡ 255 → by_type [] (filter (is_at name) zone.records) ≡ set_at zone name kind
unfolding set_at
set_any zone name kind e = rw e refl

pub set_of : (zone : Zone) (name : List (List ℕ)) (kind : ℕ) → (kind ≡ 255 → ⊥) → filter (is_of name kind) zone.records ≡ set_at zone name kind
unfolding set_at
set_of zone name kind h = let e : (kind == 255) ≡ false = search rules in rw e refl

-- what is appended begins with what there was
pub begins : (old new more : List RecordData) → new ≡ old ++ more → Begins old new
begins old new more e = record { more = more; is = e }

pub begins_none : (rs : List RecordData) → Begins rs rs
begins_none rs = record { more = []; is = sym (append-nil rs) }

-- a record more, where it passes
pub passes : (p : RecordData → Bool) (old out new rs : List RecordData) (i : ℕ) (r : RecordData) → out ≡ old ++ filter p (take i rs) → i < length rs → r ≡ get_or rs i r → p r ≡ true → new ≡ out ++ r ∷ []
    → new ≡ old ++ filter p (take (i + 1) rs)
passes p old out new rs i r before inside here e is =
    let last : cond (p (get_or rs i r)) (get_or rs i r ∷ []) [] ≡ r ∷ [] = ap (λ (x : RecordData). cond (p x) (x ∷ []) []) (sym here) ∙ ap (λ (b : Bool). cond b (r ∷ []) []) e in
    is ∙ ap (λ (xs : List RecordData). xs ++ r ∷ []) before ∙ append_assoc old (filter p (take i rs)) (r ∷ []) ∙ ap (λ (xs : List RecordData). old ++ xs) (sym (filter_more p rs i r inside ∙ ap (λ (xs : List RecordData). filter p (take i rs) ++ xs) last))

-- a record that doesn't pass
pub passes_not : (p : RecordData → Bool) (old out rs : List RecordData) (i : ℕ) (r : RecordData) → out ≡ old ++ filter p (take i rs) → i < length rs → r ≡ get_or rs i r → p r ≡ false
    → out ≡ old ++ filter p (take (i + 1) rs)
passes_not p old out rs i r before inside here e =
    let none : List RecordData = [] in
    let last : cond (p (get_or rs i r)) (get_or rs i r ∷ []) none ≡ none = ap (λ (x : RecordData). cond (p x) (x ∷ []) none) (sym here) ∙ ap (λ (b : Bool). cond b (r ∷ []) none) e in
    before ∙ ap (λ (xs : List RecordData). old ++ xs) (sym (filter_more p rs i r inside ∙ ap (λ (xs : List RecordData). filter p (take i rs) ++ xs) last ∙ append-nil (filter p (take i rs))))

one : (b : Bool) (done rest : List RecordData) (r : RecordData) → by_type (cond b (placed r done) done) rest ≡ by_type done (cond b (r ∷ rest) rest)
unfolding by_type
one true done rest r = refl
one false done rest r = refl

-- records are sorted one by one
pub sorts : (p : RecordData → Bool) (done new rs all : List RecordData) (i : ℕ) (r : RecordData) → by_type done (filter p (drop i rs)) ≡ all → i < length rs → r ≡ get_or rs i r
    → new ≡ cond (p r) (placed r done) done → by_type new (filter p (drop (i + 1) rs)) ≡ all
sorts p done new rs all i r before inside here is =
    let at : drop i rs ≡ r ∷ drop (i + 1) rs = drop_more rs i r inside ∙ ap (λ (x : RecordData). x ∷ drop (i + 1) rs) (sym here) in
    ap (λ (xs : List RecordData). by_type xs (filter p (drop (i + 1) rs))) is ∙ one (p r) done (filter p (drop (i + 1) rs)) r ∙ sym (ap (λ (xs : List RecordData). by_type done (filter p xs)) at) ∙ before

pub sorted_all : (p : RecordData → Bool) (done rs all : List RecordData) (i : ℕ) → by_type done (filter p (drop i rs)) ≡ all → length rs ≤ i → done ≡ all
unfolding by_type
sorted_all p done rs all i before past = sym (ap (λ (xs : List RecordData). by_type done (filter p xs)) (drop_all i rs past)) ∙ before

-- the first records have no larger type
pub passed : (r x : RecordData) (rs : List RecordData) (i : ℕ) → placed r rs ≡ take i rs ++ placed r (drop i rs) → i < length rs → x ≡ get_or rs i x → kind_of x.rdata ≤ kind_of r.rdata
    → placed r rs ≡ take (i + 1) rs ++ placed r (drop (i + 1) rs)
unfolding placed
passed r x rs i before inside here le =
    let at : drop i rs ≡ x ∷ drop (i + 1) rs = drop_more rs i x inside ∙ ap (λ (y : RecordData). y ∷ drop (i + 1) rs) (sym here) in
    let low : nat_le (kind_of x.rdata) (kind_of r.rdata) ≡ true = search rules in
    let first : placed r (drop i rs) ≡ x ∷ placed r (drop (i + 1) rs) = ap (placed r) at ∙ ap (λ (b : Bool). cond b (x ∷ placed r (drop (i + 1) rs)) (r ∷ x ∷ drop (i + 1) rs)) low in
    let more : take (i + 1) rs ≡ take i rs ++ x ∷ [] = take_more rs i x inside ∙ ap (λ (y : RecordData). take i rs ++ y ∷ []) (sym here) in
    before ∙ ap (λ (xs : List RecordData). take i rs ++ xs) first ∙ sym (append_assoc (take i rs) (x ∷ []) (placed r (drop (i + 1) rs))) ∙ ap (λ (xs : List RecordData). xs ++ placed r (drop (i + 1) rs)) (sym more)

-- the first record of a larger type
pub placed_here : (r x : RecordData) (rs : List RecordData) (i : ℕ) → placed r rs ≡ take i rs ++ placed r (drop i rs) → i < length rs → x ≡ get_or rs i x → kind_of r.rdata < kind_of x.rdata
    → placed r rs ≡ insert rs i r
unfolding placed
placed_here r x rs i before inside here lt =
    let at : drop i rs ≡ x ∷ drop (i + 1) rs = drop_more rs i x inside ∙ ap (λ (y : RecordData). y ∷ drop (i + 1) rs) (sym here) in
    let high : nat_le (kind_of x.rdata) (kind_of r.rdata) ≡ false = search rules in
    let first : placed r (drop i rs) ≡ r ∷ drop i rs = ap (placed r) at ∙ ap (λ (b : Bool). cond b (x ∷ placed r (drop (i + 1) rs)) (r ∷ x ∷ drop (i + 1) rs)) high ∙ ap (λ (xs : List RecordData). r ∷ xs) (sym at) in
    before ∙ ap (λ (xs : List RecordData). take i rs ++ xs) first

pub placed_last : (r : RecordData) (rs : List RecordData) (i : ℕ) → placed r rs ≡ take i rs ++ placed r (drop i rs) → length rs ≤ i → placed r rs ≡ insert rs (length rs) r
unfolding placed
placed_last r rs i before past =
    let none : List RecordData = [] in
    before ∙ (λ j. take_all i rs past j ++ placed r (drop_all i rs past j)) ∙ sym (λ j. take_all (length rs) rs (omega arith) j ++ (r ∷ drop_all (length rs) rs (omega arith) j))
