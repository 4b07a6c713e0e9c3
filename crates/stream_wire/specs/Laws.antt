-- What the bytes of a source say of the next frame, where the source tells them: one answer alone
-- (RFC 1035, section 4.2.2).
use Rattle.std.proofs.Common.{◌≡◌, ◌/◌, ◌%◌, ℕ, List, [], ◌∷◌, ◌++◌, length, take, Option, Some, None, sym, ap, subst, ◌∙◌, refl, arith}
use Rattle.std.specs.Prelude.{IfSome, option_map}
use Rattle.std.proofs.lemmas.List.{append-nil, length-append, take_at}
use Rattle.stream_wire.specs.declared.reading.Frame.{Frame}
use Rattle.stream_wire.specs.declared.reading.Frame.TheVariants as frame
use Rattle.stream_wire.specs.Frames.{framed, IsTorn, ReadsFrame}
use Rattle.stream_wire.specs.Fronts.{BeginsWith, frame_of}
use Rattle.stream_wire.specs.declared.front.Front.{Front}
use Rattle.stream_wire.specs.declared.front.Front.TheVariants as front
use Rattle.stream_wire.specs.Streams.{SourceState, Takes, IsSpent}

-- the bytes begin with a frame, are none, or are a torn frame; a failure and want of memory say
-- nothing
abbrev pub Begins : List ℕ → Frame → Type 0
Begins bytes (frame.Got message) = (rest : List ℕ) × (bytes ≡ framed message ++ rest)
Begins bytes frame.End = bytes ≡ []
Begins bytes (frame.Torn want got) = IsTorn bytes want got
Begins bytes frame.Failed = Unit {0}
Begins bytes frame.NoMemory = Unit {0}

-- the answer is of the bytes alone
abbrev pub IsOfBytes : Frame → Type 0
IsOfBytes (frame.Got message) = Unit {0}
IsOfBytes frame.End = Unit {0}
IsOfBytes (frame.Torn want got) = Unit {0}
IsOfBytes frame.Failed = ⊥
IsOfBytes frame.NoMemory = ⊥

taken_of : (front bytes : List ℕ) (before after : Option (List ℕ)) → before ≡ option_map (λ rest. front ++ rest) after → before ≡ Some bytes → (rest : List ℕ) × (after ≡ Some rest) × (bytes ≡ front ++ rest)
taken_of front bytes before None told is = absurd cc
taken_of front bytes before (Some rest) told is = (rest, refl, cc)

none_left : (after : Option (List ℕ)) (rest : List ℕ) → IfSome after (λ left. left ≡ []) → after ≡ Some rest → rest ≡ []
none_left None rest spent is = absurd cc
none_left (Some left) rest spent is = cc

all_of : (a c : SourceState) (front bytes : List ℕ) → Takes a c front → IsSpent c → a.left ≡ Some bytes → bytes ≡ front
all_of a c front bytes p spent is =
    let t = taken_of front bytes a.left c.left p.told is in
    let none = none_left c.left t.0 spent t.1 in
    t.2 ∙ (ap (λ rest. front ++ rest) none ∙ append-nil front)

-- what is read from told bytes is what they begin with
pub begins : (a c : SourceState) (bytes : List ℕ) (result : Frame) → ReadsFrame a c result → a.left ≡ Some bytes → Begins bytes result
begins a c bytes (frame.Got message) r is =
    let t = taken_of (framed message) bytes a.left c.left r.1.told is in (t.0, t.2)
begins a c bytes frame.End r is = all_of a c [] bytes r.0 r.1 is
begins a c bytes (frame.Torn want got) (most, front, torn, p, spent) is =
    subst (λ xs. IsTorn xs want got) (sym (all_of a c front bytes p spent is)) torn
begins a c bytes frame.Failed r is = tt
begins a c bytes frame.NoMemory r is = tt

same_size : (m n : ℕ) → m / 256 ≡ n / 256 → m % 256 ≡ n % 256 → m ≡ n
same_size m n p q = omega (arith, p, q)

same_message : (x y r s : List ℕ) → framed x ++ r ≡ framed y ++ s → x ≡ y
same_message x y r s h =
    let high : length x / 256 ≡ length y / 256 = cc in
    let low : length x % 256 ≡ length y % 256 = cc in
    let rest : x ++ r ≡ y ++ s = cc in
    let size = same_size (length x) (length y) high low in
    sym (take_at x r (length y) size) ∙ (ap (λ xs. take (length y) xs) rest ∙ take_at y s (length y) refl)

whole_or_torn : (x r : List ℕ) (want got : ℕ) → IsTorn (framed x ++ r) want got → ⊥
whole_or_torn x r want got (w, g, below) =
    let size = length-append x r in omega (arith, w, g, below, size)

same_torn : (bytes : List ℕ) (w g v h : ℕ) → IsTorn bytes w g → IsTorn bytes v h → frame.Torn w g ≡ frame.Torn v h
same_torn [] w g v h p q = absurd p
same_torn (high ∷ []) w g v h p q = let e = p.0 ∙ sym q.0 in let f = p.1 ∙ sym q.1 in cc
same_torn (high ∷ low ∷ bytes) w g v h p q = let e = p.0 ∙ sym q.0 in let f = p.1 ∙ sym q.1 in cc

-- the bytes have one answer
pub one_frame : (bytes : List ℕ) (r s : Frame) → IsOfBytes r → IsOfBytes s → Begins bytes r → Begins bytes s → r ≡ s
one_frame bytes (frame.Got x) (frame.Got y) i j p q = ap frame.Got (same_message x y p.0 q.0 (sym p.1 ∙ q.1))
one_frame bytes (frame.Got x) frame.End i j p q = absurd cc
one_frame bytes (frame.Got x) (frame.Torn v h) i j p q = absurd (whole_or_torn x p.0 v h (subst (λ xs. IsTorn xs v h) p.1 q))
one_frame bytes frame.End (frame.Got y) i j p q = absurd cc
one_frame bytes frame.End frame.End i j p q = refl
one_frame bytes frame.End (frame.Torn v h) i j p q = absurd (subst (λ xs. IsTorn xs v h) p q)
one_frame bytes (frame.Torn w g) (frame.Got y) i j p q = absurd (whole_or_torn y q.0 w g (subst (λ xs. IsTorn xs w g) q.1 p))
one_frame bytes (frame.Torn w g) frame.End i j p q = absurd (subst (λ xs. IsTorn xs w g) q p)
one_frame bytes (frame.Torn w g) (frame.Torn v h) i j p q = same_torn bytes w g v h p q
one_frame bytes frame.Failed s i j p q = absurd i
one_frame bytes frame.NoMemory s i j p q = absurd i
one_frame bytes r frame.Failed i j p q = absurd j
one_frame bytes r frame.NoMemory i j p q = absurd j

-- what bytes begin with is what a reader of them alone answers
begins_as : (bytes : List ℕ) (f : Front) → BeginsWith bytes f → Begins bytes (frame_of f)
begins_as bytes (front.Whole message) p = p
begins_as bytes front.Nothing p = p
begins_as bytes (front.Part want got) p = p

is_of_bytes : (f : Front) → IsOfBytes (frame_of f)
is_of_bytes (front.Whole message) = tt
is_of_bytes front.Nothing = tt
is_of_bytes (front.Part want got) = tt

-- bytes have one front
pub one_front : (bytes : List ℕ) (f g : Front) → BeginsWith bytes f → BeginsWith bytes g → frame_of f ≡ frame_of g
one_front bytes f g p q = one_frame bytes (frame_of f) (frame_of g) (is_of_bytes f) (is_of_bytes g) (begins_as bytes f p) (begins_as bytes g q)
