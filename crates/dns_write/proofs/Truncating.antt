-- The longest prefix of the records that fits is where putting them one after another stops.
use Rattle.std.proofs.Common.{◌≡◌, ◌≤◌, ◌<◌, ℕ, zero, suc, ◌+◌, ◌-◌, ◌*◌, Bool, true, false, List, [], ◌∷◌, ◌++◌, length, take, drop, get_or, refl, sym, ap, subst, ◌∙◌, add-one, append_assoc, arith, inl, inr, ◌⊎◌, length-append}
use Rattle.std.proofs.lemmas.List.{take_all, take-append-le, take-append-drop, length-take, length-take-le, take-take}
use Rattle.std.proofs.lemmas.Bool.{le-leb, lt-leb, le-ltb}
use Rattle.std.proofs.Math.Seq.{take-append-add}
use Rattle.std.specs.Prelude.{nat_le, nat_lt, ◌||◌, if◌then◌else◌}
use Rattle.std.specs.List.{AllByRecursion}
use Rattle.dns_names.specs.Name.{IsName, wire_length}
use Rattle.dns_data.specs.Record.{RecordData, IsProper}
use Rattle.dns_data.specs.Message.{MessageData}
use Rattle.dns_data.specs.declared.message.Question.{Question}
use Rattle.dns_write.specs.declared.write.Counts.{Counts}
use Rattle.dns_write.specs.Written.{Draft, OffsetData, empty, size, put_question, put_record, put_records, header, records_of, untruncated, truncated, opt_bytes, greatest, kept, written, IsLongest}
use Rattle.dns_write.specs.Offsets.{suffixes_at}
use Rattle.dns_write.specs.Putting.{total, PutLongest, AreKept, Sectioned}
use Rattle.dns_write.specs.Tails.{Knows, PutsAll}
use Rattle.dns_write.proofs.Drafts.{grown-question, grown-record}

-- a draft's length after what was put behind it
longer : (d e : Draft) (more : List ℕ) (n : ℕ) → e.bytes ≡ d.bytes ++ more → n ≤ length more → length d.bytes + n ≤ length e.bytes
longer d e more n is low = omega (arith, ap length is, length-append d.bytes more)

shorter : (d e : Draft) (more : List ℕ) (n : ℕ) → e.bytes ≡ d.bytes ++ more → length more ≤ n → length e.bytes ≤ length d.bytes + n
shorter d e more n is high = omega (arith, ap length is, length-append d.bytes more)

record_least : (d : Draft) (r : RecordData) → length d.bytes + 11 ≤ length (put_record d r).bytes
record_least d r = let g = grown-record d r in longer d (put_record d r) g.more 11 g.bytes g.low

pub records_least : (d : Draft) (rs : List RecordData) → length d.bytes + 11 * length rs ≤ length (put_records d rs).bytes
records_least d [] = omega arith
records_least d (r ∷ rs) = omega (arith, record_least d r, records_least (put_record d r) rs)

pub question_most : (d : Draft) (q : Question) → IsName q.name → size (put_question d q) ≤ size d + 259
question_most d q name = let g = grown-question d q in omega (arith, shorter d (put_question d q) g.more (wire_length q.name + 4) g.bytes g.high, name.short)

pub put_records-append : (d : Draft) (a b : List RecordData) → put_records d (a ++ b) ≡ put_records (put_records d a) b
put_records-append d [] b = refl
put_records-append d (r ∷ a) b = put_records-append (put_record d r) a b

-- one more record
next_record : (d : Draft) (rs : List RecordData) (i : ℕ) (r : RecordData) → i < length rs → r ≡ get_or rs i r → put_records d (take (suc i) rs) ≡ put_record (put_records d (take i rs)) r
next_record d [] i r inside is = absurd (omega arith)
next_record d (x ∷ rs) zero r inside is = ap (put_record d) (sym is)
next_record d (x ∷ rs) (suc i) r inside is = next_record (put_record d x) rs i r (omega arith) is

pub put_records-next : (d : Draft) (rs : List RecordData) (i : ℕ) (r : RecordData) → i < length rs → r ≡ get_or rs i r → put_records d (take (i + 1) rs) ≡ put_record (put_records d (take i rs)) r
put_records-next d rs i r inside is = rw add-one (next_record d rs i r inside is)

-- more records take more bytes
pub sizes : (d : Draft) (rs : List RecordData) (k j : ℕ) → k ≤ j → size (put_records d (take k rs)) ≤ size (put_records d (take j rs))
sizes d rs k j order =
    let split : take j rs ≡ take k rs ++ drop k (take j rs) = sym (take-append-drop k (take j rs)) ∙ ap (λ (t : List RecordData). t ++ drop k (take j rs)) (take-take k j rs order) in
    let whole : put_records d (take j rs) ≡ put_records (put_records d (take k rs)) (drop k (take j rs)) = ap (put_records d) split ∙ put_records-append d (take k rs) (drop k (take j rs)) in
    omega (arith, records_least (put_records d (take k rs)) (drop k (take j rs)), ap (λ (e : Draft). length e.bytes) whole)

next_proper : (rs : List RecordData) (i : ℕ) (r : RecordData) → i < length rs → r ≡ get_or rs i r → AllByRecursion IsProper (take i rs) → IsProper r → AllByRecursion IsProper (take (suc i) rs)
next_proper [] i r inside is all here = absurd (omega arith)
next_proper (x ∷ rs) zero r inside is all here = (subst IsProper is here, tt)
next_proper (x ∷ rs) (suc i) r inside is all here = (all.0, next_proper rs i r (omega arith) is all.1 here)

-- one more proper record
pub proper-next : (rs : List RecordData) (i : ℕ) (r : RecordData) → i < length rs → r ≡ get_or rs i r → AllByRecursion IsProper (take i rs) → IsProper r → AllByRecursion IsProper (take (i + 1) rs)
proper-next rs i r inside is all here = rw add-one (next_proper rs i r inside is all here)

pub all_append : (a b : List RecordData) → AllByRecursion IsProper a → AllByRecursion IsProper b → AllByRecursion IsProper (a ++ b)
all_append [] b p q = q
all_append (r ∷ a) b p q = (p.0, all_append a b p.1 q)

-- nothing is left out so far, and the next record doesn't fit
pub stops : {old new : Draft} {room i : ℕ} (rs : List RecordData) (r : RecordData) → new ≡ put_records old (take i rs) → size new ≤ room → AllByRecursion IsProper (take i rs) → i < length rs → r ≡ get_or rs i r
    → (after : Draft) → after ≡ new → room < size (put_record new r) → PutLongest old after rs room i
stops {old} {new} {room} {i} rs r text fits proper inside is after same over = record {
  inside = omega arith;
  text = same ∙ text;
  fits = subst (λ (d : Draft). size d ≤ room) (sym same) fits;
  proper = proper;
  longest = λ _. subst (λ (d : Draft). room < size d) (sym (put_records-next old rs i r inside is ∙ ap (λ (d : Draft). put_record d r) (sym text))) over;
}

-- all records of one list fit, and of those behind it so many
pub join : {old mid new : Draft} {a b : List RecordData} {room x y : ℕ} → PutLongest old mid a room x → length a ≤ x → PutLongest mid new b room y → PutLongest old new (a ++ b) room (x + y)
join {old} {mid} {new} {a} {b} {room} {x} {y} p all q =
    let e : x ≡ length a = omega (arith, p.inside) in
    let first : mid ≡ put_records old a = p.text ∙ ap (put_records old) (take_all x a all) in
    let front : (n : ℕ) → put_records old (take (length a + n) (a ++ b)) ≡ put_records mid (take n b) = λ n.
    ap (put_records old) (take-append-add a b n) ∙ put_records-append old a (take n b) ∙ ap (λ (d : Draft). put_records d (take n b)) (sym first) in
    record {
      inside = omega (arith, q.inside, length-append a b);
      text = q.text ∙ sym (front y) ∙ ap (λ (n : ℕ). put_records old (take (n + y) (a ++ b))) (sym e);
      fits = q.fits;
      proper = subst (λ (n : ℕ). AllByRecursion IsProper (take (n + y) (a ++ b))) (sym e)
          (subst (AllByRecursion IsProper) (sym (take-append-add a b y)) (all_append a (take y b) (subst (AllByRecursion IsProper) (take_all x a all) p.proper) q.proper));
      longest = λ more.
          let here : y < length b = omega (arith, length-append a b) in
          let next : put_records mid (take (y + 1) b) ≡ put_records old (take (x + y + 1) (a ++ b)) = sym (front (y + 1)) ∙ ap (λ (n : ℕ). put_records old (take n (a ++ b))) (omega arith) in
          subst (λ (d : Draft). room < size d) next (q.longest here);
    }

-- records of one list are left out, and so are those behind it
pub stop : {old new : Draft} {a : List RecordData} {room x : ℕ} (b : List RecordData) → PutLongest old new a room x → x < length a → PutLongest old new (a ++ b) room x
stop {old} {new} {a} {room} {x} b p less = record {
  inside = omega (arith, length-append a b);
  text = p.text ∙ ap (put_records old) (sym (take-append-le x a b (omega arith)));
  fits = p.fits;
  proper = subst (AllByRecursion IsProper) (sym (take-append-le x a b (omega arith))) p.proper;
  longest = λ _. subst (λ (t : List RecordData). room < size (put_records old t)) (sym (take-append-le (x + 1) a b (omega arith))) (p.longest less);
}

-- how many of a section are kept
none : (rs : List RecordData) (n : ℕ) → n ≡ 0 → 0 ≡ length (take n rs)
none rs n e = omega (arith, length-take n rs)

some : (rs : List RecordData) (n k : ℕ) → k ≡ n → k ≤ length rs → k ≡ length (take n rs)
some rs n k e inside = omega (arith, length-take n rs)

all : (rs : List RecordData) (n k : ℕ) → length rs ≤ n → k ≡ length rs → k ≡ length (take n rs)
all rs n k e is = omega (arith, length-take n rs)

-- the three ways in which the sections end
pub answer_truncated : {old new : Draft} {room a : ℕ} (m : MessageData) → PutLongest old new m.answer room a → a < length m.answer → AreKept old new m room (record { answer = a; authority = 0; additional = 0 })
answer_truncated {old} {new} {room} {a} m p less = record {
  all = subst (λ (n : ℕ). PutLongest old new (records_of m) room n) (omega arith) (stop (m.authority ++ m.additional) p less);
  answer = some m.answer (a + 0 + 0) a (omega arith) (omega arith);
  authority = none m.authority (a + 0 + 0 - length m.answer) (omega arith);
  additional = none m.additional (a + 0 + 0 - length m.answer - length m.authority) (omega arith);
}

pub authority_truncated : {old mid new : Draft} {room a b : ℕ} (m : MessageData) → PutLongest old mid m.answer room a → length m.answer ≤ a → PutLongest mid new m.authority room b → b < length m.authority
    → AreKept old new m room (record { answer = a; authority = b; additional = 0 })
authority_truncated {old} {mid} {new} {room} {a} {b} m p whole q less =
    let e : a ≡ length m.answer = omega (arith, p.inside) in
    record {
      all = subst (λ (n : ℕ). PutLongest old new (records_of m) room n) (omega arith) (join p whole (stop m.additional q less));
      answer = all m.answer (a + b + 0) a (omega arith) e;
      authority = some m.authority (a + b + 0 - length m.answer) b (omega arith) (omega arith);
      additional = none m.additional (a + b + 0 - length m.answer - length m.authority) (omega arith);
    }

pub additional_truncated : {old mid end new : Draft} {room a b c : ℕ} (m : MessageData) → PutLongest old mid m.answer room a → length m.answer ≤ a → PutLongest mid end m.authority room b → length m.authority ≤ b
    → PutLongest end new m.additional room c → AreKept old new m room (record { answer = a; authority = b; additional = c })
additional_truncated {old} {mid} {end} {new} {room} {a} {b} {c} m p whole q full r =
    let e : a ≡ length m.answer = omega (arith, p.inside) in
    let f : b ≡ length m.authority = omega (arith, q.inside) in
    record {
      all = subst (λ (n : ℕ). PutLongest old new (records_of m) room n) (omega arith) (join p whole (join q full r));
      answer = all m.answer (a + b + c) a (omega arith) e;
      authority = all m.authority (a + b + c - length m.answer) b (omega arith) f;
      additional = some m.additional (a + b + c - length m.answer - length m.authority) c (omega arith) (omega (arith, r.inside));
    }

-- so few records are kept that a header counts them
pub few : {old new : Draft} {m : MessageData} {room : ℕ} {k : Counts} → AreKept old new m room k → room ≤ 65535 → total k ≤ 5957
few {old} {new} {m} {room} {k} w small =
    let rs = take (total k) (records_of m) in
    omega (arith, w.all.fits, ap (λ (d : Draft). length d.bytes) w.all.text, records_least old rs, length-take-le (total k) (records_of m) w.all.inside)

-- the records of a message that is truncated
take-append : (n : ℕ) (a b : List RecordData) → take n (a ++ b) ≡ take n a ++ take (n - length a) b
take-append zero [] b = refl
take-append (suc n) [] b = let e : suc n ≡ suc n - 0 = omega arith in ap (λ (m : ℕ). take m b) e
take-append zero (r ∷ a) b = let e : 0 ≡ 0 - suc (length a) = omega arith in ap (λ (n : ℕ). take n b) e
take-append (suc n) (r ∷ a) b =
    let e : n - length a ≡ suc n - suc (length a) = omega arith in
    ap (λ (t : List RecordData). r ∷ t) (take-append n a b ∙ ap (λ (m : ℕ). take n a ++ take m b) e)

pub records-truncated : (m : MessageData) (k : ℕ) → records_of (truncated m k) ≡ take k (records_of m)
unfolding truncated
records-truncated m k = sym (take-append k m.answer (m.authority ++ m.additional) ∙ ap (λ (t : List RecordData). take k m.answer ++ t) (take-append (k - length m.answer) m.authority m.additional))

-- the text of a message that is truncated, and its length
pub text-truncated : (m : MessageData) (k : ℕ) → untruncated (truncated m k) ≡ header (truncated m k) ++ ((put_records (put_question empty m.question) (take k (records_of m))).bytes ++ opt_bytes m.opt)
unfolding untruncated truncated
text-truncated m k = ap (λ (rs : List RecordData). header (truncated m k) ++ ((put_records (put_question empty m.question) rs).bytes ++ opt_bytes m.opt)) (records-truncated m k)

pub length-header : (m : MessageData) → length (header m) ≡ 12
unfolding header
length-header m = refl

pub length-truncated : (m : MessageData) (k : ℕ) → length (untruncated (truncated m k)) ≡ size (put_records (put_question empty m.question) (take k (records_of m))) + length (opt_bytes m.opt)
length-truncated m k =
    let text = (put_records (put_question empty m.question) (take k (records_of m))).bytes in
    omega (arith, ap length (text-truncated m k), length-append (header (truncated m k)) (text ++ opt_bytes m.opt), length-append text (opt_bytes m.opt), length-header (truncated m k))

-- the text that was put is that of the longest prefix
unfoldable pub is_longest : {old new : Draft} {m : MessageData} {room limit : ℕ} {k : Counts} (bytes : List ℕ) → AreKept old new m room k → old ≡ put_question empty m.question → room + length (opt_bytes m.opt) ≡ limit
    → bytes ≡ header (truncated m (total k)) ++ (new.bytes ++ opt_bytes m.opt) → IsLongest m limit bytes
is_longest {old} {new} {m} {room} {limit} {k} bytes w begun sum is =
    let n = total k in
    let draft : new ≡ put_records (put_question empty m.question) (take n (records_of m)) = w.all.text ∙ ap (λ (d : Draft). put_records d (take n (records_of m))) begun in
    let text : bytes ≡ untruncated (truncated m n) = is ∙ ap (λ (d : Draft). header (truncated m n) ++ (d.bytes ++ opt_bytes m.opt)) draft ∙ sym (text-truncated m n) in
    let over : (more : ℕ) → n < more → more ≤ length (records_of m) → limit < length (untruncated (truncated m more)) = λ more above inside.
    let here : room < size (put_records old (take (n + 1) (records_of m))) = w.all.longest (omega arith) in
    omega (arith, here, sizes old (records_of m) (n + 1) more (omega arith), length-truncated m more, ap (λ (d : Draft). length (put_records d (take more (records_of m))).bytes) begun) in
    record {
      count = n;
      inside = w.all.inside;
      text = text;
      fits = omega (arith, ap length text, length-truncated m n, ap (λ (d : Draft). length d.bytes) draft, w.all.fits);
      longest = over;
    }

split : (a b : ℕ) → a ≤ b → (a ≡ b) ⊎ (a < b)
split zero zero h = inl refl
split zero (suc b) h = inr (omega arith)
split (suc a) zero h = absurd (omega arith)
split (suc a) (suc b) h = elim (split a b (omega arith)) [ inl e ↦ inl (ap suc e) | inr l ↦ inr (omega arith) ]

-- the greatest number that passes
greatest-is : (test : ℕ → Bool) (n k : ℕ) → k ≤ n → test k ≡ true → ((more : ℕ) → k < more → more ≤ n → test more ≡ false) → greatest test n ≡ k
greatest-is test zero k inside holds others = omega arith
greatest-is test (suc n) k inside holds others = elim (split k (suc n) inside) [
  | inl e ↦ ap (λ (b : Bool). if b then suc n else greatest test n) (ap test (sym e) ∙ holds) ∙ sym e
  | inr less ↦ ap (λ (b : Bool). if b then suc n else greatest test n) (others (suc n) less (omega arith)) ∙ greatest-is test n k (omega arith) holds (λ more above below. others more above (omega arith))
]

-- so as many records are kept
pub kept_is : {m : MessageData} {limit : ℕ} {bytes : List ℕ} → (w : IsLongest m limit bytes) → kept m limit ≡ w.count
unfolding kept
kept_is {m} {limit} {bytes} w =
    greatest-is (λ count. nat_le (length (untruncated (truncated m count))) limit) (length (records_of m)) w.count w.inside (le-leb (length (untruncated (truncated m w.count))) limit (omega (arith, ap length w.text, w.fits)))
    (λ more above inside. lt-leb (length (untruncated (truncated m more))) limit (w.longest more above inside))

-- and the text is the one that is written
pub is_written : {m : MessageData} {limit : ℕ} {bytes : List ℕ} → IsLongest m limit bytes → bytes ≡ written m limit
unfolding written
is_written {m} {limit} {bytes} w = w.text ∙ ap (λ (n : ℕ). untruncated (truncated m n)) (sym (kept_is w))

or_false : (b : Bool) → b || false ≡ b
or_false true = refl
or_false false = refl

-- with all its records a message is itself
whole_truncated : (m : MessageData) (n : ℕ) → length (records_of m) ≤ n → truncated m n ≡ m
unfolding truncated
whole_truncated m n all =
    let sum : length (records_of m) ≡ length m.answer + (length m.authority + length m.additional) = length-append m.answer (m.authority ++ m.additional) ∙ ap (λ (k : ℕ). length m.answer + k) (length-append m.authority m.additional) in
    let flag : m.tc || nat_lt n (length m.answer + length m.authority) ≡ m.tc = ap (λ (b : Bool). m.tc || b) (le-ltb n (length m.answer + length m.authority) (omega arith)) ∙ or_false m.tc in
    let a : take n m.answer ≡ m.answer = take_all n m.answer (omega arith) in
    let b : take (n - length m.answer) m.authority ≡ m.authority = take_all (n - length m.answer) m.authority (omega arith) in
    let c : take (n - length m.answer - length m.authority) m.additional ≡ m.additional = take_all (n - length m.answer - length m.authority) m.additional (omega arith) in
    λ i. record {
      id = m.id;
      qr = m.qr;
      opcode = m.opcode;
      aa = m.aa;
      tc = flag i;
      rd = m.rd;
      ra = m.ra;
      ad = m.ad;
      cd = m.cd;
      rcode = m.rcode;
      question = m.question;
      answer = a i;
      authority = b i;
      additional = c i;
      opt = m.opt;
    }

-- where the whole text fits nothing is truncated
pub truncated_all : {m : MessageData} {limit : ℕ} {bytes : List ℕ} → (w : IsLongest m limit bytes) → length (untruncated m) ≤ limit → truncated m w.count ≡ m
truncated_all {m} {limit} {bytes} w fits = elim (split w.count (length (records_of m)) w.inside) [
  | inl all ↦ whole_truncated m w.count (omega arith)
  | inr less ↦ absurd (omega (arith, w.longest (length (records_of m)) less (omega arith), ap (λ (n : MessageData). length (untruncated n)) (whole_truncated m (length (records_of m)) (omega arith))))
]

-- behind an answer that is whole all records of a tail were put
pub tail_put : {old mid new : Draft} {room a : ℕ} (m : MessageData) → PutLongest old mid m.answer room a → length m.answer ≤ a → PutsAll mid new (m.authority ++ m.additional) room
    → Sectioned old new m room (record { answer = a; authority = length m.authority; additional = length m.additional })
tail_put {old} {mid} {new} {room} {a} m p whole t =
    let rest = m.authority ++ m.additional in
    let n = length rest in
    let end = put_records mid rest in
    let every : take n rest ≡ rest = take_all n rest (omega arith) in
    let q : PutLongest mid end rest room n = record {
      inside = omega arith;
      text = ap (put_records mid) (sym every);
      fits = omega (arith, t.fits, ap length t.bytes);
      proper = subst (AllByRecursion IsProper) (sym every) t.proper;
      longest = λ more. absurd (omega (arith, more));
    } in
    let e : a ≡ length m.answer = omega (arith, p.inside) in
    let k = length m.authority in
    let l = length m.additional in
    let sum : n ≡ k + l = length-append m.authority m.additional in
    record {
      end = end;
      bytes = t.bytes;
      kept = record {
        all = subst (λ (x : ℕ). PutLongest old end (records_of m) room x) (omega (arith, sum)) (join p whole q);
        answer = all m.answer (a + k + l) a (omega arith) e;
        authority = all m.authority (a + k + l - length m.answer) k (omega arith) refl;
        additional = all m.additional (a + k + l - length m.answer - length m.authority) l (omega arith) refl;
      };
    }

pub as_kept : {old new : Draft} {m : MessageData} {room : ℕ} {k : Counts} → AreKept old new m room k → Sectioned old new m room k
as_kept {old} {new} kept = record { end = new; bytes = refl; kept = kept }

-- the same, of a draft that is the same
pub same_end : {old mid new : Draft} {rs : List RecordData} {room a : ℕ} → PutLongest old mid rs room a → new ≡ mid → PutLongest old new rs room a
same_end {old} {mid} {new} {rs} {room} {a} p same = subst (λ (d : Draft). PutLongest old d rs room a) (sym same) p

-- behind records the offsets of the question's name still come first
pub still_knows : (name : List (List ℕ)) (d : Draft) (rs : List RecordData) → Knows name d → Knows name (put_records d rs)
still_knows name d [] known = known
still_knows name d (r ∷ rs) known =
    let g = grown-record d r in
    still_knows name (put_record d r) rs (record {
      others = known.others ++ g.others;
      offsets = g.offsets ∙ ap (λ (os : List OffsetData). os ++ g.others) known.offsets ∙ append_assoc (suffixes_at 12 name) known.others g.others;
    })
