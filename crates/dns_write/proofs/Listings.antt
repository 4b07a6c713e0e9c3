-- The labels of names, listed.
use Rattle.std.proofs.Common.{◌≡◌, ◌<◌, ℕ, zero, suc, ◌+◌, List, [], ◌∷◌, ◌++◌, length, take, get_or, sym, subst, add-one, arith}
use Rattle.std.specs.List.{AllByRecursion}
use Rattle.dns_data.specs.Record.{RecordData, fields_of}
use Rattle.dns_data.specs.declared.record.Rdata.{Rdata}
use Rattle.dns_write.specs.Tails.{AsksFields, AsksRecord, AsksRecords, Lacks}

lacks_next : (label : List ℕ) (labels : List (List ℕ)) (i : ℕ) (d : List ℕ) → Lacks label (take i labels) → i < length labels → (get_or labels i d ≡ label → ⊥) → Lacks label (take (suc i) labels)
lacks_next label [] i d lacks inside other = tt
lacks_next label (l ∷ ls) zero d lacks inside other = (other, tt)
lacks_next label (l ∷ ls) (suc i) d lacks inside other = (lacks.0, lacks_next label ls i d lacks.1 (omega arith) other)

pub lacks_more : (label : List ℕ) (labels : List (List ℕ)) (i : ℕ) (d : List ℕ) → Lacks label (take i labels) → i < length labels → (get_or labels i d ≡ label → ⊥) → Lacks label (take (i + 1) labels)
lacks_more label labels i d lacks inside other = rw add-one (lacks_next label labels i d lacks inside other)

pub lacks_front : (label : List ℕ) (xs ys : List (List ℕ)) → Lacks label (xs ++ ys) → Lacks label xs
lacks_front label [] ys lacks = tt
lacks_front label (x ∷ xs) ys lacks = (lacks.0, lacks_front label xs ys lacks.1)

pub lacks_last : (label : List ℕ) (xs : List (List ℕ)) (y : List ℕ) → Lacks label (xs ++ y ∷ []) → y ≡ label → ⊥
lacks_last label [] y lacks = lacks.0
lacks_last label (x ∷ xs) y lacks = lacks_last label xs y lacks.1

asks_next : (P : List (List ℕ) → Type 0) (rs : List RecordData) (i : ℕ) (d : RecordData) → AsksRecords P (take i rs) → i < length rs → AsksRecord P (get_or rs i d) → AsksRecords P (take (suc i) rs)
asks_next P [] i d asked inside more = tt
asks_next P (r ∷ rs) zero d asked inside more = (more, tt)
asks_next P (r ∷ rs) (suc i) d asked inside more = (asked.0, asks_next P rs i d asked.1 (omega arith) more)

pub asks_more : (P : List (List ℕ) → Type 0) (rs : List RecordData) (i : ℕ) (d : RecordData) → AsksRecords P (take i rs) → i < length rs → AsksRecord P (get_or rs i d) → AsksRecords P (take (i + 1) rs)
asks_more P rs i d asked inside more = rw add-one (asks_next P rs i d asked inside more)

pub by_rdata : {P : List (List ℕ) → Type 0} (owner : List (List ℕ)) (class ttl : ℕ) (x y : Rdata) → x ≡ y → P owner → AsksFields P (fields_of y) → AsksRecord P (record { owner = owner; class = class; ttl = ttl; rdata = x })
by_rdata {P} owner class ttl x y is named asked = record { owner = named; fields = subst (λ (r : Rdata). AsksFields P (fields_of r)) (sym is) asked }

all_next : {X : Type 0} (P : X → Type 0) (xs : List X) (i : ℕ) (d : X) → AllByRecursion P (take i xs) → i < length xs → P (get_or xs i d) → AllByRecursion P (take (suc i) xs)
all_next P [] i d all inside here = tt
all_next P (x ∷ xs) zero d all inside here = (here, tt)
all_next P (x ∷ xs) (suc i) d all inside here = (all.0, all_next P xs i d all.1 (omega arith) here)

pub all_more : {X : Type 0} (P : X → Type 0) (xs : List X) (i : ℕ) (d : X) → AllByRecursion P (take i xs) → i < length xs → P (get_or xs i d) → AllByRecursion P (take (i + 1) xs)
all_more P xs i d all inside here = rw add-one (all_next P xs i d all inside here)
