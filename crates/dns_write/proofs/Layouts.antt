-- Records are laid out piece by piece.
use Rattle.std.proofs.Common.{◌≡◌, ◌≤◌, ◌<◌, ℕ, zero, suc, ◌+◌, ◌-◌, Bool, true, false, List, [], ◌∷◌, ◌++◌, length, take, drop, get_or, map, Option, Some, None, refl, sym, ap, ◌∙◌, append_assoc, arith, length-append}
use Rattle.std.proofs.lemmas.List.{append-nil, drop_more, drop_all, drop_at, take_at}
use Rattle.std.specs.Prelude.{option_map, if◌then◌else◌}
use Rattle.std.specs.Int.{w16, w32, w128, to_be_bytes}
use Rattle.std.specs.List.{AllByRecursion}
use Rattle.dns_data.specs.Record.{RecordData, kind_of, fields_of, Field, Compressed, Uncompressed, U8, U16, U32, U128, CharString, NonEmpty, CharStrings, Remainder, Unknown}
use Rattle.dns_names.specs.Name.{labels_of, same_labels}
use Rattle.dns_data.specs.declared.record.Soa.{Soa}
use Rattle.dns_data.specs.declared.record.Rdata.TheVariants as rdata
use Rattle.dns_write.specs.declared.layout.Placed.{Placed}
use Rattle.dns_write.specs.declared.layout.Spot.{Spot}
use Rattle.dns_write.specs.Tails.{Place, InAnchor, InTail, Piece, Plain, Pointer, PlacedSuffix, Progress, IsPlaced, LayoutData, place_of, placed_of, spot_of, text_of, spots_of, progress_of, laid, laid_name, laid_fields, laid_record, laid_records, anchor_suffixes, past, past_label, past_or, past_name, pieces_or, name_pieces, strings_bytes, field_bytes, past_field, field_pieces, past_fields, fields_pieces, at_data, past_record, head_bytes, record_pieces, past_records, records_pieces, with_text, filled_in}
use Rattle.dns_write.proofs.Tails.{placed_here, placed_behind, placed_none}

pub all_placed_at : (ps : List Placed) (i : ℕ) (d : Placed) → AllByRecursion IsPlaced ps → i < length ps → IsPlaced (get_or ps i d)
all_placed_at [] i d all inside = absurd (omega arith)
all_placed_at (p ∷ ps) zero d all inside = all.0
all_placed_at (p ∷ ps) (suc i) d all inside = all_placed_at ps i d all.1 (omega arith)

pub placed_at : (ps : List Placed) (i : ℕ) (d : Placed) (suffix : List (List ℕ)) → i < length ps → same_labels (labels_of (get_or ps i d).suffix.now) suffix ≡ true
    → place_of (map placed_of (drop i ps)) suffix ≡ Some (placed_of (get_or ps i d)).place
placed_at ps i d suffix inside same =
    ap (λ (qs : List Placed). place_of (map placed_of qs) suffix) (drop_more ps i d inside) ∙ placed_here (placed_of (get_or ps i d)) (map placed_of (drop (i + 1) ps)) suffix same

pub passed_at : (ps : List Placed) (i : ℕ) (d : Placed) (suffix : List (List ℕ)) → i < length ps → same_labels (labels_of (get_or ps i d).suffix.now) suffix ≡ false
    → place_of (map placed_of (drop i ps)) suffix ≡ place_of (map placed_of (drop (i + 1) ps)) suffix
passed_at ps i d suffix inside other =
    ap (λ (qs : List Placed). place_of (map placed_of qs) suffix) (drop_more ps i d inside) ∙ placed_behind (placed_of (get_or ps i d)) (map placed_of (drop (i + 1) ps)) suffix other

pub none_placed : (ps : List Placed) (i : ℕ) (suffix : List (List ℕ)) → length ps ≤ i → place_of (map placed_of (drop i ps)) suffix ≡ None
none_placed ps i suffix past_all = ap (λ (qs : List Placed). place_of (map placed_of qs) suffix) (drop_all i ps past_all) ∙ placed_none suffix

-- a pointer by what a place is told as
pub spot_is : (at behind : ℕ) (in_anchor : Bool) → spot_of at (if in_anchor then InAnchor behind else InTail behind) ≡ record { at = at; behind = behind; in_anchor = in_anchor }
spot_is at behind true = refl
spot_is at behind false = refl

-- a label and the suffix that it begins
abbrev pub with_label : LayoutData → List ℕ → List (List ℕ) → LayoutData
with_label l label labels = record {
  text = (l.text ++ length label ∷ []) ++ label;
  spots = l.spots;
  placed = l.placed ++ record { suffix = label ∷ labels; place = InTail (length l.text) } ∷ [];
}

next_pieces : (p : Progress) (label : List ℕ) (ls : List (List ℕ)) → place_of p.placed (label ∷ ls) ≡ None → name_pieces p (label ∷ ls) ≡ Plain (length label ∷ label) ∷ name_pieces (past_label p label ls) ls
unfolding name_pieces
next_pieces p label ls none = ap (λ (o : Option Place). pieces_or o (Plain (length label ∷ label) ∷ name_pieces (past_label p label ls) ls)) none

next_past : (p : Progress) (label : List ℕ) (ls : List (List ℕ)) → place_of p.placed (label ∷ ls) ≡ None → past_name p (label ∷ ls) ≡ past_name (past_label p label ls) ls
unfolding past_name
next_past p label ls none = ap (λ (o : Option Place). past_or p o (past_name (past_label p label ls) ls)) none

last_pieces : (p : Progress) (label : List ℕ) (ls : List (List ℕ)) (place : Place) → place_of p.placed (label ∷ ls) ≡ Some place → name_pieces p (label ∷ ls) ≡ Pointer place ∷ []
unfolding name_pieces
last_pieces p label ls place found = ap (λ (o : Option Place). pieces_or o (Plain (length label ∷ label) ∷ name_pieces (past_label p label ls) ls)) found

last_past : (p : Progress) (label : List ℕ) (ls : List (List ℕ)) (place : Place) → place_of p.placed (label ∷ ls) ≡ Some place → past_name p (label ∷ ls) ≡ past p 2
unfolding past_name
last_past p label ls place found = ap (λ (o : Option Place). past_or p o (past_name (past_label p label ls) ls)) found

root_pieces : (p : Progress) → name_pieces p [] ≡ Plain (0 ∷ []) ∷ []
unfolding name_pieces
root_pieces p = refl

root_past : (p : Progress) → past_name p [] ≡ past p 1
unfolding past_name
root_past p = refl

pub lays_label : (l : LayoutData) (label : List ℕ) (ls : List (List ℕ)) → place_of l.placed (label ∷ ls) ≡ None → laid_name (with_label l label ls) ls ≡ laid_name l (label ∷ ls)
lays_label l label ls none =
    let p = progress_of l in
    let next = past_label p label ls in
    let after = with_label l label ls in
    let long : length after.text ≡ length l.text + (length label + 1) = omega (arith, length-append (l.text ++ length label ∷ []) label, length-append l.text (length label ∷ [])) in
    let same : progress_of after ≡ next = ap (λ (n : ℕ). record { size = n; placed = after.placed }) long in
    let rest = name_pieces next ls in
    let end = past_name next ls in
    let text : (after.text ++ text_of rest) ≡ l.text ++ ((length label ∷ label) ++ text_of rest) =
    ap (λ (t : List ℕ). t ++ text_of rest) (append_assoc l.text (length label ∷ []) label) ∙ append_assoc l.text (length label ∷ label) (text_of rest) in
    let spots : l.spots ++ spots_of (length after.text) rest ≡ l.spots ++ spots_of (length l.text + length (length label ∷ label)) rest =
    ap (λ (n : ℕ). l.spots ++ spots_of n rest) (omega (arith, long)) in
    ap (λ (q : Progress). laid after (name_pieces q ls) (past_name q ls)) same
    ∙ (λ i. record { text = text i; spots = spots i; placed = end.placed })
    ∙ sym (λ i. laid l (next_pieces p label ls none i) (next_past p label ls none i))

pub lays_pointer : (l : LayoutData) (label : List ℕ) (ls : List (List ℕ)) (place : Place) → place_of l.placed (label ∷ ls) ≡ Some place
    → record { text = l.text ++ 0 ∷ 0 ∷ []; spots = l.spots ++ spot_of (length l.text) place ∷ []; placed = l.placed } ≡ laid_name l (label ∷ ls)
lays_pointer l label ls place found =
    let p = progress_of l in
    sym (λ i. laid l (last_pieces p label ls place found i) (last_past p label ls place found i))

pub lays_root : (l : LayoutData) → record { text = l.text ++ 0 ∷ []; spots = l.spots; placed = l.placed } ≡ laid_name l []
lays_root l =
    let p = progress_of l in
    ap (λ (t : List Spot). record { text = l.text ++ 0 ∷ []; spots = t; placed = l.placed }) (sym (append-nil l.spots))
    ∙ sym (λ i. laid l (root_pieces p i) (root_past p i))

-- the one in an option
or_else : Option Spot → Spot → Spot
or_else (Some s) other = s
or_else None other = other

some_same : (a b : Spot) → Some a ≡ Some b → a ≡ b
unfolding or_else
some_same a b e = ap (λ (o : Option Spot). or_else o a) e

-- what a pointer that was found says
pub spot_found : (n : ℕ) (o : Option Place) (spot : Spot) → Some spot ≡ option_map (spot_of n) o → (place : Place) × (o ≡ Some place) × (spot ≡ spot_of n place)
spot_found n None spot e = absurd cc
spot_found n (Some place) spot e = (place, refl, some_same spot (spot_of n place) e)

pub none_found : (n : ℕ) (o : Option Place) → None ≡ option_map (spot_of n) o → o ≡ None
none_found n None e = refl
none_found n (Some place) e = absurd cc

-- one suffix of the anchor more
pub next_suffix : (front : List PlacedSuffix) (at : ℕ) (label : List ℕ) (ls : List (List ℕ))
    → (front ++ record { suffix = label ∷ ls; place = InAnchor at } ∷ []) ++ anchor_suffixes (at + length label + 1) ls ≡ front ++ anchor_suffixes at (label ∷ ls)
unfolding anchor_suffixes
next_suffix front at label ls = append_assoc front (record { suffix = label ∷ ls; place = InAnchor at } ∷ []) (anchor_suffixes (at + length label + 1) ls)

pub no_suffix : (front : List PlacedSuffix) (at : ℕ) → front ++ anchor_suffixes at [] ≡ front
unfolding anchor_suffixes
no_suffix front at = append-nil front

text_of-append : (xs ys : List Piece) → text_of (xs ++ ys) ≡ text_of xs ++ text_of ys
text_of-append [] ys = refl
text_of-append (Plain bytes ∷ xs) ys = ap (λ (t : List ℕ). bytes ++ t) (text_of-append xs ys) ∙ sym (append_assoc bytes (text_of xs) (text_of ys))
text_of-append (Pointer place ∷ xs) ys = ap (λ (t : List ℕ). 0 ∷ 0 ∷ t) (text_of-append xs ys)

spots_of-append : (at : ℕ) (xs ys : List Piece) → spots_of at (xs ++ ys) ≡ spots_of at xs ++ spots_of (at + length (text_of xs)) ys
spots_of-append at [] ys = ap (λ (n : ℕ). spots_of n ys) (omega arith)
spots_of-append at (Plain bytes ∷ xs) ys =
    spots_of-append (at + length bytes) xs ys ∙ ap (λ (n : ℕ). spots_of (at + length bytes) xs ++ spots_of n ys) (omega (arith, length-append bytes (text_of xs)))
spots_of-append at (Pointer place ∷ xs) ys =
    ap (λ (t : List Spot). spot_of at place ∷ t) (spots_of-append (at + 2) xs ys ∙ ap (λ (n : ℕ). spots_of (at + 2) xs ++ spots_of n ys) (omega arith))

-- pieces behind pieces
pub laid_then : (l : LayoutData) (xs ys : List Piece) (p q : Progress) → laid (laid l xs p) ys q ≡ laid l (xs ++ ys) q
laid_then l xs ys p q =
    let text : (l.text ++ text_of xs) ++ text_of ys ≡ l.text ++ text_of (xs ++ ys) = append_assoc l.text (text_of xs) (text_of ys) ∙ ap (λ (t : List ℕ). l.text ++ t) (sym (text_of-append xs ys)) in
    let spots : (l.spots ++ spots_of (length l.text) xs) ++ spots_of (length (l.text ++ text_of xs)) ys ≡ l.spots ++ spots_of (length l.text) (xs ++ ys) =
    append_assoc l.spots (spots_of (length l.text) xs) (spots_of (length (l.text ++ text_of xs)) ys)
    ∙ ap (λ (n : ℕ). l.spots ++ (spots_of (length l.text) xs ++ spots_of n ys)) (length-append l.text (text_of xs)) ∙ ap (λ (t : List Spot). l.spots ++ t) (sym (spots_of-append (length l.text) xs ys)) in
    λ i. record { text = text i; spots = spots i; placed = q.placed }

name_long : (p : Progress) (name : List (List ℕ)) → (past_name p name).size ≡ p.size + length (text_of (name_pieces p name))
unfolding past_name name_pieces
name_long p [] = omega arith
name_long p (l ∷ ls) =
    elim (place_of p.placed (l ∷ ls)) as (λ (o : Option Place). (past_or p o (past_name (past_label p l ls) ls)).size ≡ p.size + length (text_of (pieces_or o (Plain (length l ∷ l) ∷ name_pieces (past_label p l ls) ls)))) [
      | Some place ↦ omega arith
      | None ↦ omega (arith, name_long (past_label p l ls) ls, length-append (length l ∷ l) (text_of (name_pieces (past_label p l ls) ls)))
    ]

plain_long : (p : Progress) (bytes : List ℕ) (n : ℕ) → length bytes ≡ n → p.size + n ≡ p.size + length (text_of (Plain bytes ∷ []))
plain_long p bytes n is = omega (arith, is, length-append bytes [])

field_long : (p : Progress) (f : Field) → (past_field p f).size ≡ p.size + length (text_of (field_pieces p f))
field_long p (Compressed labels) = name_long p labels
field_long p (Uncompressed labels) = plain_long p (field_bytes (Uncompressed labels)) (length (field_bytes (Uncompressed labels))) refl
field_long p (U8 number) = plain_long p (number ∷ []) 1 refl
field_long p (U16 number) = plain_long p (to_be_bytes w16 number) 2 refl
field_long p (U32 number) = plain_long p (to_be_bytes w32 number) 4 refl
field_long p (U128 number) = plain_long p (to_be_bytes w128 number) 16 refl
field_long p (CharString text) = plain_long p (length text ∷ text) (length text + 1) (omega arith)
field_long p (NonEmpty text) = plain_long p (length text ∷ text) (length text + 1) (omega arith)
field_long p (CharStrings texts) = plain_long p (strings_bytes texts) (length (strings_bytes texts)) refl
field_long p (Remainder text) = plain_long p text (length text) refl
field_long p (Unknown kind text) = plain_long p text (length text) refl

pub fields_long : (p : Progress) (fs : List Field) → (past_fields p fs).size ≡ p.size + length (text_of (fields_pieces p fs))
fields_long p [] = omega arith
fields_long p (f ∷ fs) =
    let xs = field_pieces p f in
    let ys = fields_pieces (past_field p f) fs in
    omega (arith, field_long p f, fields_long (past_field p f) fs, ap length (text_of-append xs ys), length-append (text_of xs) (text_of ys))

-- how far it is behind pieces
behind_pieces : (l : LayoutData) (xs : List Piece) (p : Progress) → p.size ≡ length l.text + length (text_of xs) → progress_of (laid l xs p) ≡ p
behind_pieces l xs p is = ap (λ (n : ℕ). record { size = n; placed = p.placed }) (length-append l.text (text_of xs) ∙ sym is)

pub lays_field : (l : LayoutData) (f : Field) (fs : List Field) → laid_fields (laid l (field_pieces (progress_of l) f) (past_field (progress_of l) f)) fs ≡ laid_fields l (f ∷ fs)
lays_field l f fs =
    let p = progress_of l in
    let xs = field_pieces p f in
    let q = past_field p f in
    let after = laid l xs q in
    ap (λ (t : Progress). laid after (fields_pieces t fs) (past_fields t fs)) (behind_pieces l xs q (field_long p f)) ∙ laid_then l xs (fields_pieces q fs) q (past_fields q fs)

-- bytes that stay are a piece
plain_laid : (l : LayoutData) (bytes : List ℕ) (p : Progress) → p.placed ≡ l.placed → with_text l bytes ≡ laid l (Plain bytes ∷ []) p
plain_laid l bytes p same =
    λ i. record { text = l.text ++ sym (append-nil bytes) i; spots = sym (append-nil l.spots) i; placed = sym same i }

-- no field more
pub last_field : (l : LayoutData) (f : Field) → laid l (field_pieces (progress_of l) f) (past_field (progress_of l) f) ≡ laid_fields l (f ∷ [])
last_field l f = ap (λ (xs : List Piece). laid l xs (past_field (progress_of l) f)) (sym (append-nil (field_pieces (progress_of l) f)))

pub lays_number : (l : LayoutData) (number : ℕ) (fs : List Field) → laid_fields (with_text l (to_be_bytes w32 number)) fs ≡ laid_fields l (U32 number ∷ fs)
lays_number l number fs = ap (λ (t : LayoutData). laid_fields t fs) (plain_laid l (to_be_bytes w32 number) (past_field (progress_of l) (U32 number)) refl) ∙ lays_field l (U32 number) fs

pub lays_compressed : (l : LayoutData) (name : List (List ℕ)) (fs : List Field) → laid_fields (laid_name l name) fs ≡ laid_fields l (Compressed name ∷ fs)
lays_compressed l name fs = lays_field l (Compressed name) fs

pub no_fields : (l : LayoutData) → l ≡ laid_fields l []
no_fields l = λ i. record { text = sym (append-nil l.text) i; spots = sym (append-nil l.spots) i; placed = l.placed }

pub lays_address : (l : LayoutData) (number : ℕ) → with_text l (to_be_bytes w128 number) ≡ laid_fields l (U128 number ∷ [])
lays_address l number = plain_laid l (to_be_bytes w128 number) (past_field (progress_of l) (U128 number)) refl ∙ last_field l (U128 number)

-- the data of an SOA record
pub lays_soa : (l : LayoutData) (s : Soa)
    → with_text (with_text (with_text (with_text (with_text (laid_name (laid_name l s.mname) s.rname) (to_be_bytes w32 s.serial)) (to_be_bytes w32 s.refresh)) (to_be_bytes w32 s.retry)) (to_be_bytes w32 s.expire)) (to_be_bytes w32 s.minimum)
    ≡ laid_fields l (fields_of (rdata.Soa s))
lays_soa l s =
    let a = laid_name l s.mname in
    let b = laid_name a s.rname in
    let c = with_text b (to_be_bytes w32 s.serial) in
    let d = with_text c (to_be_bytes w32 s.refresh) in
    let e = with_text d (to_be_bytes w32 s.retry) in
    let f = with_text e (to_be_bytes w32 s.expire) in
    let last = U32 s.minimum ∷ [] in
    no_fields (with_text f (to_be_bytes w32 s.minimum)) ∙ lays_number f s.minimum [] ∙ lays_number e s.expire last ∙ lays_number d s.retry (U32 s.expire ∷ last)
    ∙ lays_number c s.refresh (U32 s.retry ∷ U32 s.expire ∷ last) ∙ lays_number b s.serial (U32 s.refresh ∷ U32 s.retry ∷ U32 s.expire ∷ last)
    ∙ lays_compressed a s.rname (U32 s.serial ∷ U32 s.refresh ∷ U32 s.retry ∷ U32 s.expire ∷ last)
    ∙ lays_compressed l s.mname (Compressed s.rname ∷ U32 s.serial ∷ U32 s.refresh ∷ U32 s.retry ∷ U32 s.expire ∷ last)

-- a record whose length is filled in behind its data
pub lays_record : (l : LayoutData) (r : RecordData) (at : ℕ) → at ≡ length (with_text (laid_name l r.owner) (head_bytes r 0)).text
    → filled_in (laid_fields (with_text (laid_name l r.owner) (head_bytes r 0)) (fields_of r.rdata)) at ≡ laid_record l r
unfolding past_record record_pieces
lays_record l r at is =
    let p = progress_of l in
    let fs = fields_of r.rdata in
    let N = name_pieces p r.owner in
    let q = past_name p r.owner in
    let one = laid l N q in
    let A = at_data p r in
    let two = with_text one (head_bytes r 0) in
    let F = fields_pieces A fs in
    let E = past_fields A fs in
    let tF = text_of F in
    let n = E.size - A.size in
    let eight = to_be_bytes w16 (kind_of r.rdata) ++ (to_be_bytes w16 r.class ++ to_be_bytes w32 r.ttl) in
    let front = one.text ++ eight in
    let zeros = to_be_bytes w16 0 in
    let size : length two.text ≡ A.size = omega (arith, length-append one.text (head_bytes r 0), length-append l.text (text_of N), name_long p r.owner) in
    let here : progress_of two ≡ A = ap (λ (k : ℕ). record { size = k; placed = q.placed }) size in
    let three : laid_fields two fs ≡ laid two F E = ap (λ (t : Progress). laid two (fields_pieces t fs) (past_fields t fs)) here in
    let text : two.text ++ tF ≡ front ++ (zeros ++ tF) =
    ap (λ (t : List ℕ). t ++ tF) (sym (append_assoc one.text eight zeros)) ∙ append_assoc front zeros tF in
    let long : length front ≡ at - 2 = omega (arith, is, length-append one.text eight, length-append one.text (head_bytes r 0)) in
    let ahead : take (at - 2) (two.text ++ tF) ≡ front = ap (take (at - 2)) text ∙ take_at front (zeros ++ tF) (at - 2) long in
    let behind : drop at (two.text ++ tF) ≡ tF = drop_at two.text tF at (sym is) in
    let count : length (two.text ++ tF) - at ≡ n = omega (arith, is, length-append two.text tF, fields_long A fs) in
    let filled : take (at - 2) (two.text ++ tF) ++ (to_be_bytes w16 (length (two.text ++ tF) - at) ++ drop at (two.text ++ tF)) ≡ one.text ++ (head_bytes r n ++ tF) =
    (λ i. ahead i ++ (to_be_bytes w16 (count i) ++ behind i)) ∙ append_assoc one.text eight (to_be_bytes w16 n ++ tF) in
    let spots : one.spots ++ spots_of (length two.text) F ≡ one.spots ++ spots_of (length one.text + length (head_bytes r n)) F =
    ap (λ (k : ℕ). one.spots ++ spots_of k F) (length-append one.text (head_bytes r 0)) in
    ap (λ (t : LayoutData). filled_in t at) three ∙ (λ i. record { text = filled i; spots = spots i; placed = E.placed }) ∙ laid_then l N (Plain (head_bytes r n) ∷ F) q E

-- records behind a record
record_long : (p : Progress) (r : RecordData) → (past_record p r).size ≡ p.size + length (text_of (record_pieces p r))
unfolding past_record record_pieces
record_long p r =
    let fs = fields_of r.rdata in
    let N = name_pieces p r.owner in
    let A = at_data p r in
    let F = fields_pieces A fs in
    let n = (past_fields A fs).size - A.size in
    omega (arith, name_long p r.owner, fields_long A fs, ap length (text_of-append N (Plain (head_bytes r n) ∷ F)), length-append (text_of N) (head_bytes r n ++ text_of F), length-append (head_bytes r n) (text_of F))

pub lays_records : (l : LayoutData) (r : RecordData) (rs : List RecordData) → laid_records (laid_record l r) rs ≡ laid_records l (r ∷ rs)
lays_records l r rs =
    let p = progress_of l in
    let xs = record_pieces p r in
    let q = past_record p r in
    ap (λ (t : Progress). laid (laid l xs q) (records_pieces t rs) (past_records t rs)) (behind_pieces l xs q (record_long p r)) ∙ laid_then l xs (records_pieces q rs) q (past_records q rs)

pub no_records : (l : LayoutData) → l ≡ laid_records l []
no_records l = λ i. record { text = sym (append-nil l.text) i; spots = sym (append-nil l.spots) i; placed = l.placed }

-- records behind records
pub lays_both : (l : LayoutData) (xs ys : List RecordData) → laid_records (laid_records l xs) ys ≡ laid_records l (xs ++ ys)
lays_both l [] ys = ap (λ (t : LayoutData). laid_records t ys) (sym (no_records l))
lays_both l (x ∷ xs) ys =
    ap (λ (t : LayoutData). laid_records t ys) (sym (lays_records l x xs)) ∙ lays_both (laid_record l x) xs ys ∙ lays_records l x (xs ++ ys)

pub records_long : (p : Progress) (rs : List RecordData) → (past_records p rs).size ≡ p.size + length (text_of (records_pieces p rs))
records_long p [] = omega arith
records_long p (r ∷ rs) =
    let xs = record_pieces p r in
    let ys = records_pieces (past_record p r) rs in
    omega (arith, record_long p r, records_long (past_record p r) rs, ap length (text_of-append xs ys), length-append (text_of xs) (text_of ys))
