-- One call after another: what both took, and what both gave.
use Rattle.std.proofs.Common.{◌≡◌, ◌≤◌, ◌<◌, ◌+◌, ◌-◌, ◌*◌, ◌/◌, ◌%◌, ℕ, zero, suc, List, [], ◌∷◌, ◌++◌, length, take, drop, get_or, Option, Some, None, append_assoc, sym, ap, subst, ◌∙◌, refl, arith}
use Rattle.std.specs.Prelude.{option_map}
use Rattle.outside.specs.{raised}
use Rattle.std.proofs.Math.Seq.{take-add, take-append-add}
use Rattle.std.proofs.lemmas.List.{append-nil, take-append-le, length-append, length-drop, length-take-le, take_all}
use borrow.Rule.Slice.PartMut.{put_mid, post_of}
use Rattle.outside.specs.declared.datagram.Wrote.{Wrote}
use Rattle.outside.specs.declared.datagram.Wrote.TheVariants as wrote
use Rattle.stream_wire.specs.declared.reading.Frame.{Frame}
use Rattle.stream_wire.specs.declared.reading.Frame.TheVariants as frame
use Rattle.stream_wire.specs.Frames.{framed, IsPart, ReadsFrame, ReadsMessage, WritesAll}
use Rattle.stream_wire.specs.Streams.{SourceState, Takes, TakesThenFails, TakesSome, SinkState, Gains, GainsThenFails, GivesSome}

-- a buffer is filled so far
pub record Filling (before after : SourceState) (buffer : List ℕ) (at : ℕ) : Type 0 where
  pub inside : at ≤ length buffer
  pub takes : Takes before after (take at buffer)

-- bytes went so far
pub record Writing (before after : SinkState) (bytes : List ℕ) (at : ℕ) : Type 0 where
  pub inside : at ≤ length bytes
  pub gains : Gains before after (take at bytes)

-- a message came so far
pub record Reading (before after : SourceState) (bytes : List ℕ) (size : ℕ) : Type 0 where
  pub inside : length bytes ≤ size
  pub takes : Takes before after bytes

-- nothing taken
whole : (left : Option (List ℕ)) → left ≡ option_map (λ rest. [] ++ rest) left
whole None = refl
whole (Some bytes) = refl

pub takes-nothing : (a : SourceState) → Takes a a []
takes-nothing a = record { told = whole a.left; faults = refl }

-- one after the other
both : (m n : List ℕ) (left : Option (List ℕ)) → option_map (λ rest. m ++ rest) (option_map (λ rest. n ++ rest) left) ≡ option_map (λ rest. (m ++ n) ++ rest) left
both m n None = refl
both m n (Some bytes) = ap Some (sym (append_assoc m n bytes))

pub takes-then : {a b c : SourceState} {m n : List ℕ} → Takes a b m → Takes b c n → Takes a c (m ++ n)
takes-then {c} {m} {n} p q = record {
  told = p.told ∙ (ap (option_map (λ rest. m ++ rest)) q.told ∙ both m n c.left);
  faults = q.faults ∙ p.faults;
}

pub takes-then-fails : {a b c : SourceState} {m n : List ℕ} → Takes a b m → TakesThenFails b c n → TakesThenFails a c (m ++ n)
takes-then-fails {c} {m} {n} p q = record {
  told = p.told ∙ (ap (option_map (λ rest. m ++ rest)) q.told ∙ both m n c.left);
  faults = q.faults ∙ ap raised p.faults;
}

-- the same of what went
kept : (took : Option (List ℕ)) → took ≡ option_map (λ all. all ++ []) took
kept None = refl
kept (Some bytes) = ap Some (sym (append-nil bytes))

pub gains-nothing : (a : SinkState) → Gains a a []
gains-nothing a = record { told = kept a.took; faults = refl }

all_of : (m n : List ℕ) (took : Option (List ℕ)) → option_map (λ all. all ++ n) (option_map (λ all. all ++ m) took) ≡ option_map (λ all. all ++ (m ++ n)) took
all_of m n None = refl
all_of m n (Some bytes) = ap Some (append_assoc bytes m n)

pub gains-then : {a b c : SinkState} {m n : List ℕ} → Gains a b m → Gains b c n → Gains a c (m ++ n)
gains-then {a} {m} {n} p q = record {
  told = q.told ∙ (ap (option_map (λ all. all ++ n)) p.told ∙ all_of m n a.took);
  faults = q.faults ∙ p.faults;
}

pub gains-then-fails : {a b c : SinkState} {m n : List ℕ} → Gains a b m → GainsThenFails b c n → GainsThenFails a c (m ++ n)
gains-then-fails {a} {m} {n} p q = record {
  told = q.told ∙ (ap (option_map (λ all. all ++ n)) p.told ∙ all_of m n a.took);
  faults = q.faults ∙ ap raised p.faults;
}

-- a buffer is filled further: what came stands behind what stood there
take_put : (at k count : ℕ) (buffer part : List ℕ) → at ≤ length buffer → count ≤ length part → take (at + count) (put_mid at k buffer part) ≡ take at buffer ++ take count part
take_put at k count buffer part inside more =
    let front : length (take at buffer) ≡ at = length-take-le at buffer inside in
    let step = take-append-add (take at buffer) (part ++ post_of at k buffer) count in
    let cut = take-append-le count part (post_of at k buffer) more in
    (ap (λ n. take (n + count) (put_mid at k buffer part)) (sym front)) ∙ (step ∙ ap (λ xs. take at buffer ++ xs) cut)

pub fills_on : {a b c : SourceState} {buffer part : List ℕ} {at count : ℕ} (k : ℕ) → Filling a b buffer at → TakesSome b c part count → Filling a c (put_mid at k buffer part) (at + count)
fills_on {a} {c} {buffer} {part} {at} {count} k f t =
    let front = length-take-le at buffer f.inside in
    let back = length-append part (post_of at k buffer) in
    let all = length-append (take at buffer) (part ++ post_of at k buffer) in
    let more = t.inside in record {
      inside = omega (arith, front, back, all, more);
      takes = rw (take_put at k count buffer part f.inside t.inside) (takes-then f.takes t.takes);
    }

-- bytes went further
pub writes_on : {a b c : SinkState} {bytes : List ℕ} {at count : ℕ} → Writing a b bytes at → 0 < count → GivesSome b c (take (length bytes - at) (drop at bytes)) count → Writing a c bytes (at + count)
writes_on {a} {b} {c} {bytes} {at} {count} w more g =
    let size = length-drop at bytes in
    let is : take (length bytes - at) (drop at bytes) ≡ drop at bytes = take_all (length bytes - at) (drop at bytes) (omega (arith, size)) in
    let h : GivesSome b c (drop at bytes) count = subst (λ xs. GivesSome b c xs count) is g in
    record {
      inside = let i = w.inside in let j = h.inside in omega (arith, size);
      gains = rw (take-add at count bytes) (gains-then w.gains (h.some more));
    }

-- so many more behind what there is
pub length_more : (bytes part : List ℕ) (count : ℕ) → count ≤ length part → length (bytes ++ take count part) ≡ length bytes + count
length_more bytes part count h = length-append bytes (take count part) ∙ ap (λ n. length bytes + n) (length-take-le count part h)

-- a length that breaks off
pub cut_length : (size : List ℕ) → length size ≡ 2 → (count : ℕ) → count < 2 → IsPart (take count size)
cut_length [] h count below = absurd (omega (arith, h))
cut_length (high ∷ size) h zero below = tt
cut_length (high ∷ size) h (suc zero) below = (2, 1, (refl, refl))
cut_length (high ∷ size) h (suc (suc count)) below = absurd (omega (arith, below))

-- a message behind its length is a frame
high_is : (high low n : ℕ) → low < 256 → n ≡ 256 * high + low → high ≡ n / 256
high_is high low n below is = omega (arith, below, is)

low_is : (high low n : ℕ) → low < 256 → n ≡ 256 * high + low → low ≡ n % 256
low_is high low n below is = omega (arith, below, is)

pub as_frame : (a b c : SourceState) (high low size : ℕ) → high < 256 → low < 256 → size ≡ 256 * high + low → Takes a b (high ∷ low ∷ []) → (result : Frame) → ReadsMessage size b c result → ReadsFrame a c result
as_frame a b c high low size high_fits low_fits is p (frame.Got bytes) q =
    let n : length bytes ≡ 256 * high + low = q.0 ∙ is in
    let whole : Takes a c (high ∷ low ∷ bytes) = takes-then p q.1 in (
      omega (arith, n, high_fits, low_fits),
      subst (λ h. Takes a c (h ∷ length bytes % 256 ∷ bytes)) (high_is high low _ low_fits n)
          (subst (λ l. Takes a c (high ∷ l ∷ bytes)) (low_is high low _ low_fits n) whole),
    )
as_frame a b c high low size high_fits low_fits is p frame.End q = absurd q
as_frame a b c high low size high_fits low_fits is p (frame.Torn want got) (w, below, bytes, n, q, spent) =
    (omega (arith, w, is, high_fits, low_fits), high ∷ low ∷ bytes, (w ∙ is, n, rw w below), takes-then p q, spent)
as_frame a b c high low size high_fits low_fits is p frame.Failed (bytes, below, q) =
    (high ∷ low ∷ bytes, (256 * high + low, length bytes, (refl, refl, rw (sym is) below)), takes-then-fails p q)
as_frame a b c high low size high_fits low_fits is p frame.NoMemory (bytes, below, q) =
    (high ∷ low ∷ bytes, (256 * high + low, length bytes, (refl, refl, rw (sym is) below)), takes-then p q)

-- writing in two pieces is writing both
in_two : (a b c : SinkState) (head rest : List ℕ) → Gains a b head → (result : Wrote) → WritesAll b c rest result → WritesAll a c (head ++ rest) result
in_two a b c head rest p wrote.Ok q = gains-then p q
in_two a b c head rest p wrote.Failed (count, below, q) =
    (length head + count, rw (length-append head rest) (omega (arith, below)), rw (take-append-add head rest count) (gains-then-fails p q))

in_first : (a b : SinkState) (head rest : List ℕ) → WritesAll a b head wrote.Failed → WritesAll a b (head ++ rest) wrote.Failed
in_first a b head rest (count, below, q) =
    (count, rw (length-append head rest) (omega (arith, below)), rw (take-append-le count head rest (omega (arith, below))) q)

-- the same with the length as it came
pub as_read : (a b c : SourceState) (length_bytes : List ℕ) (size : ℕ) → length length_bytes ≡ 2 → size ≡ 256 * get_or length_bytes 0 0 + get_or length_bytes 1 0 → get_or length_bytes 0 0 < 256 → get_or length_bytes 1 0 < 256 → Takes a b length_bytes → (result : Frame) → ReadsMessage size b c result → ReadsFrame a c result
as_read a b c [] size two is high low p result q = absurd (omega (arith, two))
as_read a b c (x ∷ []) size two is high low p result q = absurd (omega (arith, two))
as_read a b c (x ∷ y ∷ []) size two is high low p result q = as_frame a b c x y size high low is p result q
as_read a b c (x ∷ y ∷ z ∷ more) size two is high low p result q = absurd (omega (arith, two))

-- a frame goes in two pieces: the length with the first bytes, and the rest
in_pieces : (bytes front rest head : List ℕ) → bytes ≡ front ++ rest → head ≡ length bytes / 256 ∷ length bytes % 256 ∷ front → head ++ rest ≡ framed bytes
in_pieces bytes front rest head whole is = ap (λ xs. xs ++ rest) is ∙ ap (λ xs. length bytes / 256 ∷ length bytes % 256 ∷ xs) (sym whole)

pub both_pieces : (a b c : SinkState) (bytes front rest head : List ℕ) → bytes ≡ front ++ rest → head ≡ length bytes / 256 ∷ length bytes % 256 ∷ front → Gains a b head → (result : Wrote) → WritesAll b c rest result → WritesAll a c (framed bytes) result
both_pieces a b c bytes front rest head whole is p result q =
    subst (λ xs. WritesAll a c xs result) (in_pieces bytes front rest head whole is) (in_two a b c head rest p result q)

pub first_piece : (a b : SinkState) (bytes front rest head : List ℕ) → bytes ≡ front ++ rest → head ≡ length bytes / 256 ∷ length bytes % 256 ∷ front → WritesAll a b head wrote.Failed → WritesAll a b (framed bytes) wrote.Failed
first_piece a b bytes front rest head whole is q =
    subst (λ xs. WritesAll a b xs wrote.Failed) (in_pieces bytes front rest head whole is) (in_first a b head rest q)
