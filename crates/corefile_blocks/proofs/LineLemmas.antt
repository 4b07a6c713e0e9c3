-- Words before a brace, the last of a list, and the lines of frames.
use Rattle.std.proofs.Common.{◌≡◌, ℕ, zero, suc, ◌+◌, List, [], ◌∷◌, ◌++◌, Some, None, true, false, drop, length, refl, sym, ap, ◌∙◌, append_assoc, option_map, unwrap_or, slice_get, map, reverse}
use Rattle.std.proofs.lemmas.List.{append-nil, drop_more, map-append, reverse-append}
use Rattle.std.proofs.lemmas.Option.{slice_get_within, get_or_from_slice_get}
use Rattle.corefile_words.specs.declared.word.Word.{Word}
use Rattle.corefile_words.specs.declared.word.WordLine.{WordLine}
use Rattle.dns_data.specs.declared.block.Block.{Block}
use Rattle.corefile_blocks.specs.declared.stack.Frame.{Frame}
use Rattle.corefile_blocks.specs.LineForms.{is_open, opened}
use Rattle.corefile_blocks.specs.PlacedLines.{frame_lines, stream_of}
use Rattle.corefile_blocks.specs.Blocks.{directive_count, on_last}

with_brace : (front : List Word) (last : Word) → is_open last ≡ true → opened (front ++ last ∷ []) ≡ Some front
with_brace [] last h = rw h refl
with_brace (word ∷ []) last h = rw h refl
with_brace (word ∷ second ∷ front) last h = ap (option_map (λ words. word ∷ words)) (with_brace (second ∷ front) last h)

without_brace : (front : List Word) (last : Word) → is_open last ≡ false → opened (front ++ last ∷ []) ≡ None
without_brace [] last h = rw h refl
without_brace (word ∷ []) last h = rw h refl
without_brace (word ∷ second ∷ front) last h = ap (option_map (λ words. word ∷ words)) (without_brace (second ∷ front) last h)

-- a line whose last word is a `{`
pub ends_open : (words front : List Word) (last : Word) → words ≡ front ++ last ∷ [] → is_open last ≡ true → opened words ≡ Some front
ends_open words front last is h = ap opened is ∙ with_brace front last h

-- a line whose last word is none
pub ends_else : (words front : List Word) (last : Word) → words ≡ front ++ last ∷ [] → is_open last ≡ false → opened words ≡ None
ends_else words front last is h = ap opened is ∙ without_brace front last h

last_changed : {A : Type 0} → (change : A → A) (xs : List A) (x : A) → on_last change (xs ++ x ∷ []) ≡ xs ++ change x ∷ []
last_changed change [] x = refl
last_changed change (y ∷ []) x = refl
last_changed change (y ∷ z ∷ xs) x = ap (λ ys. y ∷ ys) (last_changed change (z ∷ xs) x)

-- the last was taken out, changed, and put back
pub put_back : {A : Type 0} → (change : A → A) (before rest after : List A) (x y : A)
    → before ≡ rest ++ x ∷ [] → y ≡ change x → after ≡ rest ++ y ∷ [] → after ≡ on_last change before
put_back change before rest after x y was is now =
    now ∙ ap (λ z. rest ++ z ∷ []) is ∙ sym (last_changed change rest x) ∙ ap (on_last change) (sym was)

count_of_last : (blocks : List Block) (block : Block) → directive_count (blocks ++ block ∷ []) ≡ length block.directives
count_of_last [] block = refl
count_of_last (a ∷ []) block = refl
count_of_last (a ∷ b ∷ blocks) block = count_of_last (b ∷ blocks) block

pub last_count : (blocks rest : List Block) (block : Block) → blocks ≡ rest ++ block ∷ [] → length block.directives ≡ directive_count blocks
last_count blocks rest block is = sym (count_of_last rest block) ∙ ap directive_count (sym is)

pub stream_push : (frames : List Frame) (frame : Frame) → stream_of (frames ++ frame ∷ []) ≡ frame_lines frame ++ stream_of frames
stream_push [] frame = sym (append-nil (frame_lines frame))
stream_push (first ∷ frames) frame =
    ap (λ lines. lines ++ frame_lines first) (stream_push frames frame) ∙ append_assoc (frame_lines frame) (stream_of frames) (frame_lines first)

drop_at : {A : Type 0} → (xs : List A) (at : ℕ) (x : A) → slice_get xs at ≡ Some x → drop at xs ≡ x ∷ drop (at + 1) xs
drop_at xs at x h =
    drop_more xs at x (slice_get_within xs at x h) ∙ ap (λ y. y ∷ drop (at + 1) xs) (get_or_from_slice_get xs at x x h)

-- a frame with one line less
abbrev pub behind : Frame → Frame
behind frame = record frame { at = frame.at + 1 }

-- the next line is that of the last frame
pub next_of : (before rest after : List Frame) (frame : Frame) (line : WordLine) → slice_get frame.lines frame.at ≡ Some line
    → before ≡ rest ++ frame ∷ [] → after ≡ rest ++ behind frame ∷ []
    → stream_of before ≡ record { line = line; number = unwrap_or frame.number line.number; depth = frame.depth } ∷ stream_of after
next_of before rest after frame line h was now =
    ap stream_of was ∙ stream_push rest frame
    ∙ ap (λ lines. map (λ line. record { line = line; number = unwrap_or frame.number line.number; depth = frame.depth }) lines ++ stream_of rest) (drop_at frame.lines frame.at line h)
    ∙ ap (λ lines. record { line = line; number = unwrap_or frame.number line.number; depth = frame.depth } ∷ lines) (sym (stream_push rest (behind frame)) ∙ ap stream_of (sym now))

nothing_behind : {A : Type 0} → (xs : List A) (at : ℕ) → slice_get xs at ≡ None → drop at xs ≡ []
nothing_behind [] zero h = refl
nothing_behind [] (suc at) h = refl
nothing_behind (x ∷ xs) zero h = absurd cc
nothing_behind (x ∷ xs) (suc at) h = nothing_behind xs at h

-- a frame that has no more lines
pub read_out : (before rest : List Frame) (frame : Frame) → slice_get frame.lines frame.at ≡ None → before ≡ rest ++ frame ∷ [] → stream_of rest ≡ stream_of before
read_out before rest frame h was =
    sym (ap stream_of was ∙ stream_push rest frame ∙ ap (λ lines. map (λ line. record { line = line; number = unwrap_or frame.number line.number; depth = frame.depth }) lines ++ stream_of rest) (nothing_behind frame.lines frame.at h))

pub map-reverse : {A B : Type 0} → (f : A → B) (xs : List A) → map f (reverse xs) ≡ reverse (map f xs)
map-reverse f [] = refl
map-reverse f (x ∷ xs) =
    ap (map f) (reverse-append (x ∷ []) xs) ∙ map-append f (reverse xs) (x ∷ []) ∙ ap (λ ys. ys ++ f x ∷ []) (map-reverse f xs)
    ∙ sym (reverse-append (f x ∷ []) (map f xs))
