-- Reading a name sequence by sequence, through pointers.
use Rattle.std.proofs.Common.{◌≡◌, ◌≤◌, ◌<◌, ℕ, ◌+◌, ◌-◌, List, [], ◌∷◌, ◌++◌, length, min, take, drop, get_or, slice_index, slice_range, Option, Some, None, unwrap_or, refl, sym, ap, subst, ◌∙◌, append_assoc, arith, inl, inr, ◌⊎◌}
use Rattle.std.proofs.lemmas.List.{append-nil, drop-drop}
use Rattle.std.proofs.lemmas.List.Edits.{between_more, between_none, length-between}
use Rattle.std.proofs.Math.Nat.{min-eq_left, min-eq_right}
use Rattle.std.proofs.Math.Seq.{take-add}
use Rattle.std.proofs.lemmas.Bool.{cases_lt}
use Rattle.std.specs.List.{AllByRecursion}
use Rattle.dns_names.specs.Name.{IsLabel, IsName, IsWire, wire_length, spelled, labels_of}
use Rattle.dns_names.specs.NameLaws.{spells_name, pushed, length-spelled}
use Rattle.dns_wire.specs.Wire.{ByteAt, LabelAt, PointerAt, NameAt, WholeNameAt, root, label, pointer}
use Rattle.dns_wire.specs.Sequences.{ReadSoFar, SequenceAt}

pub begins : (bytes : List ℕ) (origin : ℕ) → origin ≤ length bytes → ReadSoFar bytes origin origin origin [] None
begins bytes origin inside = record {
  inside = inside;
  sound = λ others behind h. h;
  complete = λ whole behind h. (whole, behind, refl, h);
}

-- two labels at one offset are one
same_label : (bytes : List ℕ) (at : ℕ) (a b : List ℕ) → LabelAt bytes at a → LabelAt bytes at b → a ≡ b
same_label bytes at a b p q =
    let sizes : length a ≡ length b = sym p.size.is ∙ q.size.is in
    sym p.text ∙ ap (λ (n : ℕ). slice_range bytes (at + 1) (at + 1 + n)) sizes ∙ q.text

-- behind a label, the rest
behind_label : (bytes : List ℕ) (start at behind : ℕ) (first : List ℕ) (whole : List (List ℕ)) → LabelAt bytes at first → NameAt bytes start at whole behind
    → (others : List (List ℕ)) × (whole ≡ first ∷ others) × NameAt bytes start (at + 1 + length first) others behind
behind_label bytes start at behind first [] here (root zero is) = absurd (omega (arith, here.sized.0, here.size.is, zero.is))
behind_label bytes start at behind first whole here (pointer p low less more is) = absurd (omega (arith, here.sized.1, here.size.is, p.mark))
behind_label bytes start at behind first (other ∷ others) here (label there more) =
    let same = same_label bytes at first other here there in
    (others, ap (λ (l : List ℕ). l ∷ others) (sym same), subst (λ (l : List ℕ). NameAt bytes start (at + 1 + length l) others behind) (sym same) more)

-- behind a pointer, what stands at its target
behind_pointer : (bytes : List ℕ) (start at behind target : ℕ) (whole : List (List ℕ)) → PointerAt bytes at target → NameAt bytes start at whole behind
    → (12 ≤ target) × (target < start) × (other : ℕ) × NameAt bytes target target whole other
behind_pointer bytes start at behind target [] here (root zero is) = absurd (omega (arith, here.mark, zero.is))
behind_pointer bytes start at behind target (other ∷ others) here (label there more) = absurd (omega (arith, there.sized.1, there.size.is, here.mark))
behind_pointer bytes start at behind target whole here (pointer {target = t} {other = o} p low less more is) =
    let same : t ≡ target = p.is ∙ sym here.is in
    (omega arith, omega arith, o, subst (λ (n : ℕ). NameAt bytes n n whole o) same more)

pub goes_on : {bytes : List ℕ} {origin start at : ℕ} {front : List (List ℕ)} {passed : Option ℕ} {first : List ℕ} → ReadSoFar bytes origin start at front passed → LabelAt bytes at first
    → ReadSoFar bytes origin start (at + 1 + length first) (front ++ first ∷ []) passed
goes_on {bytes} {origin} {start} {at} {front} {passed} {first} so_far here = record {
  inside = here.inside;
  sound = λ others behind h.
      subst (λ (l : List (List ℕ)). NameAt bytes origin origin l (unwrap_or passed behind)) (sym (append_assoc front (first ∷ []) others)) (so_far.sound (first ∷ others) behind (label here h));
  complete = λ whole behind h.
      let a = so_far.complete whole behind h in
      let b = behind_label bytes start at a.1 first a.0 here a.3 in
      (b.0, a.1, a.2 ∙ ap (λ (l : List (List ℕ)). front ++ l) b.1 ∙ sym (append_assoc front (first ∷ []) b.0), b.2);
}

pub jumps : {bytes : List ℕ} {origin start at target : ℕ} {front : List (List ℕ)} {passed : Option ℕ} → ReadSoFar bytes origin start at front passed → PointerAt bytes at target → 12 ≤ target → target < start
    → start ≤ length bytes → ReadSoFar bytes origin target target front (Some (unwrap_or passed (at + 2)))
jumps {bytes} {origin} {start} {at} {target} {front} {passed} so_far here low less size = record {
  inside = omega arith;
  sound = λ others behind h. so_far.sound others (at + 2) (pointer here low less h refl);
  complete = λ whole behind h.
      let a = so_far.complete whole behind h in
      let b = behind_pointer bytes start at a.1 target a.0 here a.3 in
      (a.0, b.2, a.2, b.3);
}

-- a zero byte ends the name
pub ends : {bytes : List ℕ} {origin start at : ℕ} {front : List (List ℕ)} {passed : Option ℕ} → ReadSoFar bytes origin start at front passed → at < length bytes → slice_index bytes at ≡ 0
    → NameAt bytes origin origin front (unwrap_or passed (at + 1))
ends {bytes} {origin} {start} {at} {front} {passed} so_far inside zero =
    subst (λ (l : List (List ℕ)). NameAt bytes origin origin l (unwrap_or passed (at + 1))) (append-nil front) (so_far.sound [] (at + 1) (root (record { inside = inside; is = zero }) refl))

-- nothing stands here
nothing_at : (bytes : List ℕ) (start at behind : ℕ) (name : List (List ℕ)) → NameAt bytes start at name behind
    → (ByteAt bytes at 0 → ⊥) → ((l : List ℕ) → LabelAt bytes at l → ⊥) → ((t : ℕ) → PointerAt bytes at t → 12 ≤ t → t < start → ⊥) → ⊥
nothing_at bytes start at behind [] (root zero is) a b c = a zero
nothing_at bytes start at behind (first ∷ others) (label here more) a b c = b first here
nothing_at bytes start at behind name (pointer {target = t} p low less more is) a b c = c t p low less

pub no_name : {bytes : List ℕ} {origin start at : ℕ} {front : List (List ℕ)} {passed : Option ℕ} → ReadSoFar bytes origin start at front passed
    → (ByteAt bytes at 0 → ⊥) → ((l : List ℕ) → LabelAt bytes at l → ⊥) → ((t : ℕ) → PointerAt bytes at t → 12 ≤ t → t < start → ⊥)
    → (whole : List (List ℕ)) (behind : ℕ) → NameAt bytes origin origin whole behind → ⊥
no_name {bytes} {origin} {start} {at} {front} {passed} so_far a b c whole behind h =
    let r = so_far.complete whole behind h in
    nothing_at bytes start at r.1 r.0 r.3 a b c

pub wire_length-append : (front others : List (List ℕ)) → wire_length (front ++ others) + 1 ≡ wire_length front + wire_length others
wire_length-append [] others = omega arith
wire_length-append (l ∷ front) others = omega (arith, wire_length-append front others)

wire_length_pos : (others : List (List ℕ)) → 1 ≤ wire_length others
wire_length_pos [] = omega arith
wire_length_pos (l ∷ others) = omega (arith, wire_length_pos others)

-- what was read is too long for a name
pub too_far : {bytes : List ℕ} {origin start at : ℕ} {front : List (List ℕ)} {passed : Option ℕ} → ReadSoFar bytes origin start at front passed
    → 255 < wire_length front → (whole : List (List ℕ)) (behind : ℕ) → IsName whole → NameAt bytes origin origin whole behind → ⊥
too_far {front} so_far long whole behind proper h =
    let a = so_far.complete whole behind h in
    let size = ap wire_length a.2 in
    omega (arith, proper.short, size, wire_length-append front a.0, wire_length_pos a.0)

-- a sequence behind what was read
pub then : {bytes : List ℕ} {origin start at : ℕ} {front sequence : List (List ℕ)} {passed : Option ℕ} → ReadSoFar bytes origin start start front passed → ReadSoFar bytes start start at sequence None
    → ReadSoFar bytes origin start at (front ++ sequence) passed
then {bytes} {origin} {start} {at} {front} {sequence} {passed} before here = record {
  inside = here.inside;
  sound = λ others behind h.
      subst (λ (l : List (List ℕ)). NameAt bytes origin origin l (unwrap_or passed behind)) (sym (append_assoc front sequence others)) (before.sound (sequence ++ others) behind (here.sound others behind h));
  complete = λ whole behind h.
      let a = before.complete whole behind h in
      let b = here.complete a.0 a.1 a.3 in
      (b.0, b.1, a.2 ∙ ap (λ (l : List (List ℕ)). front ++ l) b.2 ∙ sym (append_assoc front sequence b.0), b.3);
}

-- the labels of a sequence, and the bytes that spell them
pub record ReadTo (bytes : List ℕ) (start at : ℕ) : Type 0 where
  pub order : start ≤ at
  pub wire : IsWire (slice_range bytes start at)
  pub so_far : ReadSoFar bytes start start at (labels_of (slice_range bytes start at)) None

pub read_starts : (bytes : List ℕ) (start : ℕ) → start ≤ length bytes → ReadTo bytes start start
read_starts bytes start inside =
    let none : slice_range bytes start start ≡ spelled [] = between_none bytes start in
    let s = spells_name (slice_range bytes start start) [] none (record { each = tt; short = omega arith }) in
    record { order = omega arith; wire = s.right; so_far = rw s.view (begins bytes start inside) }

-- a range in two parts
ranges : (bytes : List ℕ) (start at end : ℕ) → start ≤ at → at ≤ end → slice_range bytes start end ≡ slice_range bytes start at ++ slice_range bytes at end
ranges bytes start at end p q =
    let whole : end - start ≡ (at - start) + (end - at) = omega arith in
    ap (λ (m : ℕ). take m (drop start bytes)) whole ∙ take-add (at - start) (end - at) (drop start bytes)
    ∙ ap (λ (t : List ℕ). take (at - start) (drop start bytes) ++ take (end - at) t) (drop-drop (at - start) start bytes)
    ∙ ap (λ (m : ℕ). take (at - start) (drop start bytes) ++ take (end - at) (drop m bytes)) (omega arith)

-- a label's bytes
label_bytes : (bytes : List ℕ) (at : ℕ) (l : List ℕ) → LabelAt bytes at l → slice_range bytes at (at + 1 + length l) ≡ length l ∷ l
label_bytes bytes at l here =
    let first : slice_range bytes at (at + 1) ≡ length l ∷ [] =
    between_more bytes at at 0 (omega arith) here.size.inside ∙ ap (λ (t : List ℕ). t ++ get_or bytes at 0 ∷ []) (between_none bytes at) ∙ ap (λ (n : ℕ). n ∷ []) here.size.is in
    ranges bytes at (at + 1) (at + 1 + length l) (omega arith) (omega arith) ∙ (λ i. first i ++ here.text i)

pub reads_on : (bytes : List ℕ) (start at : ℕ) (l : List ℕ) → ReadTo bytes start at → LabelAt bytes at l → at - start + 1 + length l ≤ 254 → ReadTo bytes start (at + 1 + length l)
reads_on bytes start at l r here room =
    let wire = slice_range bytes start at in
    let long : length wire ≡ at - start = length-between bytes start at (omega (arith, here.size.inside)) in
    let size : wire_length (labels_of wire) + length l + 1 ≤ 255 = omega (arith, long, length-spelled (labels_of wire), ap length r.wire.spells) in
    let is : slice_range bytes start (at + 1 + length l) ≡ (wire ++ length l ∷ []) ++ l =
    ranges bytes start at (at + 1 + length l) r.order (omega arith) ∙ ap (λ (t : List ℕ). wire ++ t) (label_bytes bytes at l here) ∙ sym (append_assoc wire (length l ∷ []) l) in
    let s = pushed wire (slice_range bytes start (at + 1 + length l)) l (labels_of wire) r.wire refl here.sized size is in
    record { order = omega (arith, r.order); wire = s.right; so_far = rw s.view (goes_on r.so_far here) }

-- the label at an offset, by its size
pub record Sized (bytes : List ℕ) (at n : ℕ) : Type 0 where
  pub text : List ℕ
  pub size : length text ≡ n
  pub here : LabelAt bytes at text

pub sized : (bytes : List ℕ) (at n : ℕ) → n ≡ get_or bytes at 0 → 1 ≤ n → n ≤ 63 → at + 1 + n ≤ length bytes → Sized bytes at n
sized bytes at n is more few inside =
    let text = slice_range bytes (at + 1) (at + 1 + n) in
    let size : length text ≡ n = length-between bytes (at + 1) (at + 1 + n) inside ∙ omega arith in
    record {
      text = text;
      size = size;
      here = record {
        sized = (omega (arith, size), omega (arith, size));
        size = record { inside = omega arith; is = sym is ∙ sym size };
        inside = omega (arith, size);
        text = ap (λ (m : ℕ). slice_range bytes (at + 1) (at + 1 + m)) size;
      };
    }

pub reads_label : (bytes : List ℕ) (start at n : ℕ) → ReadTo bytes start at → n ≡ get_or bytes at 0 → 1 ≤ n → n ≤ 63 → at + 1 + n ≤ length bytes → at - start + 1 + n ≤ 254 → ReadTo bytes start (at + 1 + n)
reads_label bytes start at n r is more few inside room =
    let s = sized bytes at n is more few inside in
    subst (λ (m : ℕ). ReadTo bytes start (at + 1 + m)) s.size (reads_on bytes start at s.text r s.here (omega (arith, s.size)))

-- a label has no room
pub no_room : (bytes : List ℕ) (start at n : ℕ) → ReadTo bytes start at → n ≡ get_or bytes at 0 → 1 ≤ n → n ≤ 63 → at + 1 + n ≤ length bytes → 254 < at - start + 1 + n
    → (whole : List (List ℕ)) (behind : ℕ) → IsName whole → NameAt bytes start start whole behind → ⊥
no_room bytes start at n r is more few inside long whole behind proper h =
    let s = sized bytes at n is more few inside in
    let wire = slice_range bytes start at in
    let size : length wire ≡ at - start = length-between bytes start at (omega arith) in
    let far : 255 < wire_length (labels_of wire ++ s.text ∷ []) =
    omega (arith, size, s.size, length-spelled (labels_of wire), ap length r.wire.spells, wire_length-append (labels_of wire) (s.text ∷ [])) in
    too_far (goes_on r.so_far s.here) far whole behind proper h

-- neither a label nor the end of a sequence stands here
pub no_label : (bytes : List ℕ) (start at : ℕ) → ReadTo bytes start at → (get_or bytes at 0 ≡ 0 → ⊥) → get_or bytes at 0 < 192 → (63 < get_or bytes at 0) ⊎ (length bytes < at + 1 + get_or bytes at 0)
    → (whole : List (List ℕ)) (behind : ℕ) → NameAt bytes start start whole behind → ⊥
no_label bytes start at r not_zero low bad whole behind h =
    no_name r.so_far (λ z. not_zero z.is)
    (λ l here. elim bad [ inl big ↦ absurd (omega (arith, here.size.is, here.sized.1)) | inr out ↦ absurd (omega (arith, here.size.is, here.inside)) ])
    (λ t p less more. absurd (omega (arith, p.mark))) whole behind h

-- nothing stands here
pub past_end : (bytes : List ℕ) (start at : ℕ) → ReadTo bytes start at → length bytes ≤ at → (whole : List (List ℕ)) (behind : ℕ) → NameAt bytes start start whole behind → ⊥
past_end bytes start at r past whole behind h =
    no_name r.so_far (λ z. absurd (omega (arith, z.inside))) (λ l here. absurd (omega (arith, here.size.inside))) (λ t p less more. absurd (omega (arith, p.inside))) whole behind h

-- a sequence ends here
pub sequence_to : (bytes : List ℕ) (start at : ℕ) → ReadTo bytes start at → at < length bytes → (get_or bytes at 0 ≡ 0) ⊎ (192 ≤ get_or bytes at 0) → SequenceAt bytes start at
sequence_to bytes start at r inside ends = record {
  order = r.order;
  inside = inside;
  wire = r.wire;
  so_far = r.so_far;
  stops = λ l here.
      elim ends [ inl zero ↦ absurd (omega (arith, here.size.is, here.sized.0)) | inr big ↦ absurd (omega (arith, here.size.is, here.sized.1)) ];
}

-- the least offset at which a sequence that began at start can't end
pub record IsLimit (bytes : List ℕ) (start limit : ℕ) : Type 0 where
  pub inside : limit ≤ length bytes
  pub few : limit ≤ start + 255
  pub full : (length bytes ≤ limit) ⊎ (start + 255 ≤ limit)

pub limit_is : (bytes : List ℕ) (start : ℕ) → start ≤ length bytes → IsLimit bytes start (start + min (length bytes - start) 255)
limit_is bytes start inside =
    elim (cases_lt (length bytes - start) 255) [
      | inl short ↦
          let is : min (length bytes - start) 255 ≡ length bytes - start = min-eq_left (omega arith) in
          record { inside = omega (arith, is); few = omega (arith, is); full = inl (omega (arith, is)) }
      | inr long ↦
          let is : min (length bytes - start) 255 ≡ 255 = min-eq_right long in
          record { inside = omega (arith, is); few = omega (arith, is); full = inr (omega (arith, is)) }
    ]

-- a walk over the labels of a sequence: below the limit it has read up to its offset, and behind that there is no name
pub record Walked (bytes : List ℕ) (start limit at : ℕ) : Type 0 where
  pub limited : IsLimit bytes start limit
  pub read : at < limit → ReadTo bytes start at
  pub past : limit ≤ at → (name : List (List ℕ)) (behind : ℕ) → IsName name → NameAt bytes start start name behind → ⊥

pub walk_starts : (bytes : List ℕ) (start limit : ℕ) → start ≤ length bytes → IsLimit bytes start limit → Walked bytes start limit start
walk_starts bytes start limit inside limited = record {
  limited = limited;
  read = λ less. read_starts bytes start inside;
  past = λ far name behind proper h.
      past_end bytes start start (read_starts bytes start inside) (elim limited.full [ inl all ↦ omega arith | inr most ↦ absurd (omega arith) ]) name behind h;
}

-- behind a label that ends at the limit or behind it there is no name
walk_ends : (bytes : List ℕ) (start limit at n : ℕ) → IsLimit bytes start limit → ReadTo bytes start at → n ≡ get_or bytes at 0 → 1 ≤ n → n ≤ 63 → limit ≤ at + 1 + n
    → (name : List (List ℕ)) (behind : ℕ) → IsName name → NameAt bytes start start name behind → ⊥
walk_ends bytes start limit at n limited r is more few far name behind proper h =
    elim (cases_lt (length bytes) (at + 1 + n)) [
      | inl out ↦ no_label bytes start at r (λ zero. omega arith) (omega arith) (inr (omega arith)) name behind h
      | inr inside ↦
          elim (cases_lt 254 (at - start + 1 + n)) [
            | inl long ↦ no_room bytes start at n r is more few inside long name behind proper h
            | inr room ↦
                let end : length bytes ≤ at + 1 + n = elim limited.full [ inl all ↦ omega arith | inr most ↦ absurd (omega (arith, r.order)) ] in
                past_end bytes start (at + 1 + n) (reads_label bytes start at n r is more few inside room) end name behind h
          ]
    ]

pub walks_on : (bytes : List ℕ) (start limit at n : ℕ) → Walked bytes start limit at → at < limit → n ≡ get_or bytes at 0 → 1 ≤ n → n ≤ 63 → Walked bytes start limit (at + (1 + n))
walks_on bytes start limit at n w less is more few =
    let r = w.read less in
    let next : Walked bytes start limit (at + 1 + n) = record {
      limited = w.limited;
      read = λ near. reads_label bytes start at n r is more few (omega (arith, w.limited.inside)) (omega (arith, r.order, w.limited.few));
      past = λ far name behind proper h. walk_ends bytes start limit at n w.limited r is more few far name behind proper h;
    } in
    subst (Walked bytes start limit) (omega arith) next

-- how long a sequence is
pub sequence_size : (bytes : List ℕ) (start end : ℕ) → SequenceAt bytes start end → (front : List (List ℕ)) → wire_length (front ++ labels_of (slice_range bytes start end)) ≡ wire_length front + (end - start)
sequence_size bytes start end r front =
    let wire = slice_range bytes start end in
    let size : length wire ≡ end - start = length-between bytes start end (omega (arith, r.inside)) in
    omega (arith, size, length-spelled (labels_of wire), ap length r.wire.spells, wire_length-append front (labels_of wire))

-- one name is spelled from an offset on, and one offset is behind it
pub one_name : (bytes : List ℕ) (start at x y : ℕ) (a b : List (List ℕ)) → NameAt bytes start at a x → NameAt bytes start at b y → (a ≡ b) × (x ≡ y)
one_name bytes start at x y [] [] (root p e) (root q f) = (refl, omega arith)
one_name bytes start at x y [] (l ∷ b) (root p e) (label q more) = absurd (omega (arith, p.is, q.size.is, q.sized.0))
one_name bytes start at x y (l ∷ a) [] (label q more) (root p e) = absurd (omega (arith, p.is, q.size.is, q.sized.0))
one_name bytes start at x y [] b (root p e) (pointer q low less more f) = absurd (omega (arith, p.is, q.mark))
one_name bytes start at x y a [] (pointer q low less more f) (root p e) = absurd (omega (arith, p.is, q.mark))
one_name bytes start at x y (l ∷ a) b (label p m) (pointer q low less more f) = absurd (omega (arith, p.sized.1, p.size.is, q.mark))
one_name bytes start at x y a (l ∷ b) (pointer q low less more f) (label p m) = absurd (omega (arith, p.sized.1, p.size.is, q.mark))
one_name bytes start at x y (l ∷ a) (k ∷ b) (label p m) (label q n) =
    let same = same_label bytes at l k p q in
    let both = one_name bytes start (at + 1 + length l) x y a b m (subst (λ (z : List ℕ). NameAt bytes start (at + 1 + length z) b y) (sym same) n) in
    ((λ i. same i ∷ both.0 i), both.1)
one_name bytes start at x y a b (pointer {target = t} {other = o} p low less more e) (pointer {target = u} {other = v} q low2 less2 more2 f) =
    let same : t ≡ u = p.is ∙ sym q.is in
    let both = one_name bytes t t o v a b more (subst (λ (n : ℕ). NameAt bytes n n b v) (sym same) more2) in
    (both.0, omega arith)

-- two whole names at one offset end at one offset
pub same_end : (bytes : List ℕ) (at x y : ℕ) (a b : List (List ℕ)) → WholeNameAt bytes at a x → WholeNameAt bytes at b y → x ≡ y
same_end bytes at x y a b p q = (one_name bytes at at x y a b p.spelt q.spelt).1

-- the last labels of a name are a name
rest_each : (front others : List (List ℕ)) → AllByRecursion IsLabel (front ++ others) → AllByRecursion IsLabel others
rest_each [] others each = each
rest_each (l ∷ front) others each = rest_each front others each.1

rest_name : (front others : List (List ℕ)) → IsName (front ++ others) → IsName others
rest_name front others name = record {
  each = rest_each front others name.each;
  short = omega (arith, name.short, wire_length-append front others, wire_length_pos front);
}

-- where no sequence of a name follows, there is no name
pub no_sequence : {bytes : List ℕ} {origin start at : ℕ} {front : List (List ℕ)} {passed : Option ℕ} → ReadSoFar bytes origin start at front passed
    → ((name : List (List ℕ)) (behind : ℕ) → IsName name → NameAt bytes start at name behind → ⊥) → (whole : List (List ℕ)) (behind : ℕ) → IsName whole → NameAt bytes origin origin whole behind → ⊥
no_sequence {front} so_far none whole behind proper h =
    let a = so_far.complete whole behind h in
    none a.0 a.1 (rest_name front a.0 (subst IsName a.2 proper)) a.3

-- behind a name the bytes may end
pub name_inside : {bytes : List ℕ} {start at behind : ℕ} {name : List (List ℕ)} → NameAt bytes start at name behind → behind ≤ length bytes
name_inside (root p e) = omega (arith, p.inside)
name_inside (label p more) = name_inside more
name_inside (pointer p low less more e) = omega (arith, p.inside)

-- a name has at least one byte
pub name_forward : {bytes : List ℕ} {start at behind : ℕ} {name : List (List ℕ)} → NameAt bytes start at name behind → at < behind
name_forward (root p e) = omega arith
name_forward (label p more) = omega (arith, name_forward more)
name_forward (pointer p low less more e) = omega arith
