-- Records that are written with other TTLs than they have: as many, in their order, under the same header.
use Rattle.std.proofs.Common.{◌≡◌, ◌∙◌, ◌<◌, ◌^◌, ℕ, zero, suc, ◌+◌, ◌-◌, ◌*◌, List, [], ◌∷◌, ◌++◌, map, length, take, get_or, refl, ap, arith}
use Rattle.std.specs.Prelude.{nat_lt, ◌||◌, Option, Some, None, IfSome, IfNone}
use Rattle.std.specs.Int.{w16, to_be_bytes}
use Rattle.dns_data.specs.Record.{RecordData, IsProper}
use Rattle.dns_data.specs.Message.{MessageData}
use Rattle.dns_write.specs.Timed.{timed, all_timed, message_timed}
use Rattle.dns_write.specs.Written.{bit, header, opt_count, truncated}

own_all : (rs : List RecordData) → all_timed (λ r. r.ttl) rs ≡ rs
own_all [] = refl
own_all (r ∷ rs) = ap (λ (l : List RecordData). r ∷ l) (own_all rs)

-- with their own TTLs they are as they were
pub own_message : (m : MessageData) → message_timed (λ r. r.ttl) m ≡ m
own_message m = λ i. record m {
  answer = own_all m.answer i;
  authority = own_all m.authority i;
  additional = own_all m.additional i;
}

pub length_timed : (f : RecordData → ℕ) (rs : List RecordData) → length (all_timed f rs) ≡ length rs
length_timed f [] = refl
length_timed f (r ∷ rs) = ap suc (length_timed f rs)

pub taken_timed : (f : RecordData → ℕ) (n : ℕ) (rs : List RecordData) → length (take n (all_timed f rs)) ≡ length (take n rs)
taken_timed f zero rs = refl
taken_timed f (suc n) [] = refl
taken_timed f (suc n) (r ∷ rs) = ap suc (taken_timed f n rs)

pub got_timed : (f : RecordData → ℕ) (rs : List RecordData) (i : ℕ) (r : RecordData) → i < length rs → r ≡ get_or rs i r
    → timed f r ≡ get_or (all_timed f rs) i (timed f r)
got_timed f [] i r inside is = absurd (omega (arith, inside))
got_timed f (s ∷ rs) zero r inside is = ap (timed f) is
got_timed f (s ∷ rs) (suc i) r inside is = got_timed f rs i r (omega (arith, inside)) is

pub behind_timed : (f : RecordData → ℕ) (n : ℕ) (before rs : List RecordData)
    → length (take (n - length (all_timed f before)) (all_timed f rs)) ≡ length (take (n - length before) rs)
behind_timed f n before rs =
    ap (λ (k : ℕ). length (take (n - k) (all_timed f rs))) (length_timed f before) ∙ taken_timed f (n - length before) rs

pub last_timed : (f : RecordData → ℕ) (m : MessageData) (n : ℕ)
    → length (take (n - length (all_timed f m.answer) - length (all_timed f m.authority)) (all_timed f m.additional))
    ≡ length (take (n - length m.answer - length m.authority) m.additional)
last_timed f m n =
    ap (λ (k : ℕ). length (take (n - k - length (all_timed f m.authority)) (all_timed f m.additional))) (length_timed f m.answer)
    ∙ ap (λ (k : ℕ). length (take (n - length m.answer - k) (all_timed f m.additional))) (length_timed f m.authority)
    ∙ taken_timed f (n - length m.answer - length m.authority) m.additional

pub header_timed : (f : RecordData → ℕ) (m : MessageData) (n : ℕ) → header (truncated (message_timed f m) n) ≡ header (truncated m n)
unfolding header truncated
header_timed f m n =
    let a = length_timed f m.answer in
    let b = length_timed f m.authority in
    let third = last_timed f m n in
    λ i. to_be_bytes w16 m.id
    ++ (128 * bit m.qr + 8 * m.opcode + 4 * bit m.aa + 2 * bit (m.tc || nat_lt n (a i + b i)) + bit m.rd)
    ∷ (128 * bit m.ra + 32 * bit m.ad + 16 * bit m.cd + m.rcode) ∷ [] ++ to_be_bytes w16 1
    ++ to_be_bytes w16 (taken_timed f n m.answer i) ++ to_be_bytes w16 (behind_timed f n m.answer m.authority i)
    ++ to_be_bytes w16 (third i + opt_count m.opt)

-- what holds of something that is there
pub some_of : {A : Type 0} (P : A → Type 0) (o : Option A) → IfSome o P → IfNone o ⊥ → (x : A) × P x
some_of P (Some x) h e = (x, h)
some_of P None h e = absurd e

pub both_some : {A : Type 0} (P : A → Type 0) {Q : A → Type 0} (o : Option A) → IfSome o P → ((x : A) → Q x) → IfSome o (λ x. P x × Q x)
both_some P (Some x) h q = (h, q x)
both_some P None h q = h

pub then_some : {A : Type 0} {P Q : A → Type 0} (o : Option A) → IfSome o P → ((x : A) → P x → Q x) → IfSome o Q
then_some (Some x) h f = f x h
then_some None h f = h

pub then_none : {A : Type 0} {P Q : Type 0} (o : Option A) → IfNone o P → (P → Q) → IfNone o Q
then_none (Some x) h f = h
then_none None h f = f h

-- a record with such a TTL is proper
pub is_timed : (r : RecordData) (f : RecordData → ℕ) → IsProper r → f r < 2 ^ 31 → IsProper (timed f r)
is_timed r f p small = record { owner = p.owner; class = p.class; ttl = small; rdata = p.rdata }
