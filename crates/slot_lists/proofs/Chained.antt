-- Chains of slots.
use Rattle.std.proofs.Common.{◌≡◌, ◌≢◌, ℕ, ◌<◌, ◌≤◌, cond, eqb, List, [], ◌∷◌, ◌++◌, length, refl, inl, inr, sym, ap, subst, ◌∙◌, arith, eqb-true, eq-eqb}
use Rattle.std.specs.Prelude.{slice_index, slice_set}
use Rattle.std.proofs.lemmas.List.{get_or-set_same, get_or-set_other, length-set, append_assoc}
use Rattle.std.proofs.lemmas.Bool.{cases_eq, false_from_ne_true}
use Rattle.slot_lists.specs.Links.{Leads, IsIn, Once, walked}
use Rattle.slot_lists.specs.Chained.{IsLinked, AreChained, IsCutAtHead, IsCutBehind, IsCut, IsChainWith, IsInFront}
use Rattle.slot_lists.proofs.Links.{in_middle, in_more, in_less, in_back, once_less, once_gone, split_at, below, unmoved, skipped, next_is, last_is, walked_is, short}

-- one chain is another
abbrev pub changed : (ℕ → List ℕ) → ℕ → List ℕ → ℕ → List ℕ
changed chain at new other = cond (eqb other at) new (chain other)

here : (chain : ℕ → List ℕ) (at : ℕ) (new : List ℕ) → changed chain at new at ≡ new
here chain at new = rw (eq-eqb at at refl) refl

elsewhere : (chain : ℕ → List ℕ) (at : ℕ) (new : List ℕ) (other : ℕ) → other ≢ at → changed chain at new other ≡ chain other
elsewhere chain at new other n = rw (false_from_ne_true (eqb other at) (λ t. n (eqb-true other at t))) refl

-- a fact of each chain, for the one that changed and for others
each : (P : ℕ → List ℕ → Type 0) (chain : ℕ → List ℕ) (at : ℕ) (new : List ℕ) → P at new
    → ((other : ℕ) → other ≢ at → P other (chain other)) → (other : ℕ) → P other (changed chain at new other)
each P chain at new p q other = elim (cases_eq other at) [
  | inl e ↦ subst (λ (z : ℕ). P z (changed chain at new z)) (sym e) (subst (P at) (sym (here chain at new)) p)
  | inr n ↦ subst (P other) (sym (elsewhere chain at new other n)) (q other n)
]

-- a slot is linked
pub linked : (heads nexts : List ℕ) (place : ℕ → ℕ) (many : ℕ) (chain : ℕ → List ℕ) (slot : ℕ)
    → AreChained heads nexts place many slot chain → 0 < slot → slot ≤ many → slot < length nexts
    → AreChained (slice_set heads (place slot) slot) (slice_set nexts slot (slice_index heads (place slot))) place many 0
    (changed chain (place slot) (slot ∷ chain (place slot)))
linked heads nexts place many chain slot a some few fits =
    let at = place slot in
    let heads2 = slice_set heads at slot in
    let first = slice_index heads at in
    let nexts2 = slice_set nexts slot first in
    let long : length heads2 ≡ length heads = length-set heads at slot in
    let at_low : at < length heads = a.low slot in
    let new = slot ∷ chain at in
    let out : (b : ℕ) → b < length heads → IsIn slot (chain b) → ⊥ = λ b l h. (a.mine b slot l h).in_it refl in
    let wide : (s : ℕ) → IsLinked many slot s → IsLinked many 0 s = λ s l. record { some = l.some; few = l.few; in_it = λ e. absurd (omega (arith, l.some, e)) } in
    let Path : ℕ → List ℕ → Type 0 = λ b l. b < length heads → Leads nexts2 (slice_index heads2 b) l 0 in
    let path : (b : ℕ) → Path b (changed chain at new b) = each Path chain at new
    (λ l.
    let to = get_or-set_same heads at slot 0 at_low in
    let on = get_or-set_same nexts slot first 0 fits in (
      to,
      subst (λ (n : ℕ). slot < n) (sym (length-set nexts slot first)) fits,
      subst (λ (m : ℕ). Leads nexts2 m (chain at) 0) (sym on) (unmoved nexts slot first first (chain at) 0 (out at at_low) (a.path at at_low)),
    ))
    (λ b n l. subst (λ (m : ℕ). Leads nexts2 m (chain b) 0) (sym (get_or-set_other heads at b slot 0 n))
    (unmoved nexts slot first (slice_index heads b) (chain b) 0 (out b l) (a.path b l))) in
    let OnceAt : ℕ → List ℕ → Type 0 = λ b l. b < length heads → Once l in
    let once : (b : ℕ) → OnceAt b (changed chain at new b) = each OnceAt chain at new (λ l. (out at at_low, a.once at at_low)) (λ b n l. a.once b l) in
    let Mine : ℕ → List ℕ → Type 0 = λ b l. (s : ℕ) → b < length heads → IsIn s l → IsLinked many 0 s × (place s ≡ b) in
    let mine : (b : ℕ) → Mine b (changed chain at new b) = each Mine chain at new
    (λ s l h. elim h [
      | inl e ↦ (record { some = omega (arith, some, e); few = omega (arith, few, e); in_it = λ z. absurd (omega (arith, some, e, z)) }, ap place e)
      | inr i ↦ (wide s (a.mine at s at_low i), a.place_is at s at_low i)
    ])
    (λ b n s l h. (wide s (a.mine b s l h), a.place_is b s l h)) in
    let All : ℕ → ℕ → List ℕ → Type 0 = λ s b l. IsLinked many 0 s → place s ≡ b → IsIn s l in
    let all : (s b : ℕ) → All s b (changed chain at new b) = λ s. each (All s) chain at new
    (λ l e. elim (cases_eq s slot) [
      | inl same ↦ inl same
      | inr n ↦ inr (subst (λ (z : ℕ). IsIn s (chain z)) e (a.all s (record { some = l.some; few = l.few; in_it = n })))
    ])
    (λ b n l e. subst (λ (z : ℕ). IsIn s (chain z)) e (a.all s (record { some = l.some; few = l.few; in_it = λ same. n (sym e ∙ ap place same) }))) in
    record {
      low = λ s. subst (λ (n : ℕ). place s < n) (sym long) (a.low s);
      path = λ b l. path b (subst (λ (n : ℕ). b < n) long l);
      once = λ b l. once b (subst (λ (n : ℕ). b < n) long l);
      mine = λ b s l h. (mine b s (subst (λ (n : ℕ). b < n) long l) h).0;
      place_is = λ b s l h. (mine b s (subst (λ (n : ℕ). b < n) long l) h).1;
      all = λ s l. all s (place s) l refl;
    }

-- what is known of chains from which a slot is taken, but for the links
taken : (heads nexts heads2 nexts2 : List ℕ) (place : ℕ → ℕ) (many : ℕ) (chain : ℕ → List ℕ) (slot : ℕ) (xs ys : List ℕ)
    → AreChained heads nexts place many 0 chain → chain (place slot) ≡ xs ++ slot ∷ ys → length heads2 ≡ length heads
    → ((b : ℕ) → b < length heads → Leads nexts2 (slice_index heads2 b) (changed chain (place slot) (xs ++ ys) b) 0)
    → AreChained heads2 nexts2 place many slot (changed chain (place slot) (xs ++ ys))
taken heads nexts heads2 nexts2 place many chain slot xs ys a is long path =
    let at = place slot in
    let new = xs ++ ys in
    let at_low = a.low slot in
    let was_once : Once (xs ++ slot ∷ ys) = subst Once is (a.once at at_low) in
    let gone = once_gone xs slot ys was_once in
    let was : (s : ℕ) → IsIn s new → IsIn s (chain at) = λ s h. subst (IsIn s) (sym is) (in_more xs slot ys s h) in
    let narrow : (s : ℕ) → s ≢ slot → IsLinked many 0 s → IsLinked many slot s = λ s n l. record { some = l.some; few = l.few; in_it = n } in
    let OnceAt : ℕ → List ℕ → Type 0 = λ b l. b < length heads → Once l in
    let once : (b : ℕ) → OnceAt b (changed chain at new b) = each OnceAt chain at new (λ l. once_less xs slot ys was_once) (λ b n l. a.once b l) in
    let Mine : ℕ → List ℕ → Type 0 = λ b l. (s : ℕ) → b < length heads → IsIn s l → IsLinked many slot s × (place s ≡ b) in
    let mine : (b : ℕ) → Mine b (changed chain at new b) = each Mine chain at new
    (λ s l h. (narrow s (λ e. gone (subst (λ (z : ℕ). IsIn z new) e h)) (a.mine at s at_low (was s h)), a.place_is at s at_low (was s h)))
    (λ b n s l h. (narrow s (λ e. n (sym (a.place_is b s l h) ∙ ap place e)) (a.mine b s l h), a.place_is b s l h)) in
    let All : ℕ → ℕ → List ℕ → Type 0 = λ s b l. IsLinked many slot s → place s ≡ b → IsIn s l in
    let full : (s : ℕ) → IsLinked many slot s → IsIn s (chain (place s)) = λ s l. a.all s (record { some = l.some; few = l.few; in_it = λ e. absurd (omega (arith, l.some, e)) }) in
    let all : (s b : ℕ) → All s b (changed chain at new b) = λ s. each (All s) chain at new
    (λ l e. in_less xs slot ys s l.in_it (subst (IsIn s) is (subst (λ (z : ℕ). IsIn s (chain z)) e (full s l))))
    (λ b n l e. subst (λ (z : ℕ). IsIn s (chain z)) e (full s l)) in
    record {
      low = λ s. subst (λ (n : ℕ). place s < n) (sym long) (a.low s);
      path = λ b l. path b (subst (λ (n : ℕ). b < n) long l);
      once = λ b l. once b (subst (λ (n : ℕ). b < n) long l);
      mine = λ b s l h. (mine b s (subst (λ (n : ℕ). b < n) long l) h).0;
      place_is = λ b s l h. (mine b s (subst (λ (n : ℕ). b < n) long l) h).1;
      all = λ s l. all s (place s) l refl;
    }

-- the links of a chain
pub chain_some : (heads nexts : List ℕ) (place : ℕ → ℕ) (many out : ℕ) (chain : ℕ → List ℕ) (at : ℕ) → AreChained heads nexts place many out chain
    → at < length heads → IsIn 0 (chain at) → ⊥
chain_some heads nexts place many out chain at a l h = let z = (a.mine at 0 l h).some in absurd (omega (arith, z))

pub told : (nexts : List ℕ) (from : ℕ) (slots : List ℕ) → Leads nexts from slots 0 → Once slots → (IsIn 0 slots → ⊥) → walked (length nexts) nexts from ≡ slots
told nexts from slots p o some = walked_is (length nexts) nexts from slots (short slots (length nexts) o (λ s h. below nexts from slots 0 s p h)) some p

-- a slot is taken out of its chain
pub cut : (heads nexts heads2 nexts2 : List ℕ) (place : ℕ → ℕ) (many : ℕ) (chain : ℕ → List ℕ) (slot : ℕ)
    → AreChained heads nexts place many 0 chain → IsLinked many 0 slot → IsCut heads nexts (place slot) slot heads2 nexts2
    → (chain2 : ℕ → List ℕ) × AreChained heads2 nexts2 place many slot chain2
cut heads nexts heads2 nexts2 place many chain slot a l h = elim h [ inl c ↦ at_head (chain (place slot)) refl c | inr c ↦ behind c ]
  where
    at_head : (slots : List ℕ) → chain (place slot) ≡ slots → IsCutAtHead heads nexts (place slot) slot heads2 nexts2
        → (chain2 : ℕ → List ℕ) × AreChained heads2 nexts2 place many slot chain2
    at_head [] e c = absurd (subst (IsIn slot) e (a.all slot l))
    at_head (x ∷ ys) e c =
        let at = place slot in
        let low = a.low slot in
        let p : Leads nexts (slice_index heads at) (x ∷ ys) 0 = subst (λ (s : List ℕ). Leads nexts (slice_index heads at) s 0) e (a.path at low) in
        let same : x ≡ slot = sym p.0 ∙ c.head in
        let to = slice_index nexts slot in
        let rest : Leads nexts to ys 0 = subst (λ (z : ℕ). Leads nexts (slice_index nexts z) ys 0) same p.2 in
        let Path : ℕ → List ℕ → Type 0 = λ b s. b < length heads → Leads nexts2 (slice_index heads2 b) s 0 in
        let path : (b : ℕ) → Path b (changed chain at ys b) = each Path chain at ys
        (λ m. subst (λ (n : List ℕ). Leads n (slice_index heads2 at) ys 0) (sym c.nexts_are)
        (subst (λ (z : ℕ). Leads nexts z ys 0) (sym (ap (λ (n : List ℕ). slice_index n at) c.heads_are ∙ get_or-set_same heads at to 0 low)) rest))
        (λ b n m. subst (λ (n : List ℕ). Leads n (slice_index heads2 b) (chain b) 0) (sym c.nexts_are)
        (subst (λ (z : ℕ). Leads nexts z (chain b) 0) (sym (ap (λ (n : List ℕ). slice_index n b) c.heads_are ∙ get_or-set_other heads at b to 0 n)) (a.path b m))) in (
          changed chain at ys,
          taken heads nexts heads2 nexts2 place many chain slot [] ys a (e ∙ ap (λ (z : ℕ). z ∷ ys) same)
              (ap (λ (n : List ℕ). length n) c.heads_are ∙ length-set heads at to) path,
        )

    behind : IsCutBehind heads nexts (place slot) slot heads2 nexts2 → (chain2 : ℕ → List ℕ) × AreChained heads2 nexts2 place many slot chain2
    behind c =
        let at = place slot in
        let low = a.low slot in
        let front_in : IsIn c.front (chain at) = subst (IsIn c.front) (told nexts (slice_index heads at) (chain at) (a.path at low) (a.once at low)
        (chain_some heads nexts place many 0 chain at a low)) c.in_it in
        let w = split_at (chain at) c.front front_in in
        rest_of w.0 w.1 w.2
      where
        rest_of : (zs ys : List ℕ) → chain (place slot) ≡ zs ++ c.front ∷ ys → (chain2 : ℕ → List ℕ) × AreChained heads2 nexts2 place many slot chain2
        rest_of zs [] e =
            let at = place slot in
            let p : Leads nexts (slice_index heads at) (zs ++ c.front ∷ []) 0 = subst (λ (s : List ℕ). Leads nexts (slice_index heads at) s 0) e (a.path at (a.low slot)) in
            let none : slot ≡ 0 = sym c.next ∙ last_is nexts (slice_index heads at) zs c.front 0 p in
            absurd (omega (arith, l.some, none))
        rest_of zs (y ∷ ys) e =
            let at = place slot in
            let low = a.low slot in
            let p0 : Leads nexts (slice_index heads at) (zs ++ c.front ∷ y ∷ ys) 0 = subst (λ (s : List ℕ). Leads nexts (slice_index heads at) s 0) e (a.path at low) in
            let same : y ≡ slot = sym (next_is nexts (slice_index heads at) zs c.front y ys 0 p0) ∙ c.next in
            let is : chain at ≡ zs ++ c.front ∷ slot ∷ ys = e ∙ ap (λ (z : ℕ). zs ++ c.front ∷ z ∷ ys) same in
            let p : Leads nexts (slice_index heads at) (zs ++ c.front ∷ slot ∷ ys) 0 = subst (λ (s : List ℕ). Leads nexts (slice_index heads at) s 0) is (a.path at low) in
            let once : Once (zs ++ c.front ∷ slot ∷ ys) = subst Once is (a.once at low) in
            let to = slice_index nexts slot in
            let xs = zs ++ c.front ∷ [] in
            let whole : chain at ≡ xs ++ slot ∷ ys = is ∙ sym (append_assoc zs (c.front ∷ []) (slot ∷ ys)) in
            let less : Leads (slice_set nexts c.front to) (slice_index heads at) (xs ++ ys) 0 =
            subst (λ (s : List ℕ). Leads (slice_set nexts c.front to) (slice_index heads at) s 0) (sym (append_assoc zs (c.front ∷ []) ys))
            (skipped nexts (slice_index heads at) zs c.front slot ys 0 once p) in
            let front_in : IsIn c.front (chain at) = subst (IsIn c.front) (sym e) (in_middle zs c.front (y ∷ ys)) in
            let Path : ℕ → List ℕ → Type 0 = λ b s. b < length heads → Leads nexts2 (slice_index heads2 b) s 0 in
            let path : (b : ℕ) → Path b (changed chain at (xs ++ ys) b) = each Path chain at (xs ++ ys)
            (λ m. subst (λ (n : List ℕ). Leads n (slice_index heads2 at) (xs ++ ys) 0) (sym c.nexts_are)
            (subst (λ (n : List ℕ). Leads (slice_set nexts c.front to) (slice_index n at) (xs ++ ys) 0) (sym c.heads_are) less))
            (λ b n m. subst (λ (k : List ℕ). Leads k (slice_index heads2 b) (chain b) 0) (sym c.nexts_are)
            (subst (λ (k : List ℕ). Leads (slice_set nexts c.front to) (slice_index k b) (chain b) 0) (sym c.heads_are)
            (unmoved nexts c.front to (slice_index heads b) (chain b) 0
            (λ h. n (sym (a.place_is b c.front m h) ∙ a.place_is at c.front low front_in)) (a.path b m)))) in (
              changed chain at (xs ++ ys),
              taken heads nexts heads2 nexts2 place many chain slot xs ys a whole (ap (λ (n : List ℕ). length n) c.heads_are) path,
            )

-- the same chains of other places, or of more slots
pub relinked : (heads nexts : List ℕ) (place place2 : ℕ → ℕ) (many many2 out out2 : ℕ) (chain : ℕ → List ℕ) → AreChained heads nexts place many out chain
    → ((s : ℕ) → IsLinked many out s → IsLinked many2 out2 s) → ((s : ℕ) → IsLinked many2 out2 s → IsLinked many out s)
    → ((s : ℕ) → IsLinked many out s → place2 s ≡ place s) → ((s : ℕ) → place2 s < length heads) → AreChained heads nexts place2 many2 out2 chain
relinked heads nexts place place2 many many2 out out2 chain a to from same low = record {
  low = low;
  path = a.path;
  once = a.once;
  mine = λ at s l h. to s (a.mine at s l h);
  place_is = λ at s l h. same s (a.mine at s l h) ∙ a.place_is at s l h;
  all = λ s l. subst (λ (b : ℕ). IsIn s (chain b)) (sym (same s (from s l))) (a.all s (from s l));
}

-- a chain with a slot of it
pub chain_with : (heads nexts : List ℕ) (place : ℕ → ℕ) (many : ℕ) (chain : ℕ → List ℕ) (slot : ℕ) → AreChained heads nexts place many 0 chain
    → IsLinked many 0 slot → IsChainWith heads nexts (place slot) slot (chain (place slot))
chain_with heads nexts place many chain slot a l = record {
  path = a.path (place slot) (a.low slot);
  once = a.once (place slot) (a.low slot);
  some = chain_some heads nexts place many 0 chain (place slot) a (a.low slot);
  in_it = a.all slot l;
}

-- a walk along it
pub starts : (heads nexts : List ℕ) (at slot : ℕ) (slots : List ℕ) → IsChainWith heads nexts at slot slots → slice_index heads at ≢ slot
    → IsInFront heads nexts at slot (slice_index heads at)
starts heads nexts at slot [] w n = absurd w.in_it
starts heads nexts at slot (x ∷ ys) w n = record {
  slots = x ∷ ys;
  is = w;
  xs = [];
  ys = ys;
  parts = ap (λ (z : ℕ). z ∷ ys) (sym w.path.0);
  ahead = elim w.in_it [ inl e ↦ absurd (n (w.path.0 ∙ sym e)) | inr r ↦ r ];
}

pub steps : (heads nexts : List ℕ) (at slot front : ℕ) → IsInFront heads nexts at slot front → slice_index nexts front ≢ slot
    → IsInFront heads nexts at slot (slice_index nexts front)
steps heads nexts at slot front f n = go f.ys f.parts f.ahead
  where
    go : (ys : List ℕ) → f.slots ≡ f.xs ++ front ∷ ys → IsIn slot ys → IsInFront heads nexts at slot (slice_index nexts front)
    go [] e h = absurd h
    go (y ∷ ys) e h =
        let next : slice_index nexts front ≡ y = next_is nexts (slice_index heads at) f.xs front y ys 0
        (subst (λ (s : List ℕ). Leads nexts (slice_index heads at) s 0) e f.is.path) in
        subst (IsInFront heads nexts at slot) (sym next) (record {
          slots = f.slots;
          is = f.is;
          xs = f.xs ++ front ∷ [];
          ys = ys;
          parts = e ∙ sym (append_assoc f.xs (front ∷ []) (y ∷ ys));
          ahead = elim h [ inl s ↦ absurd (n (next ∙ sym s)) | inr r ↦ r ];
        })

behind_leads : (links : List ℕ) (from : ℕ) (zs : List ℕ) (q : ℕ) (ys : List ℕ) (end : ℕ) → Leads links from (zs ++ q ∷ ys) end → Leads links (slice_index links q) ys end
behind_leads links from [] q ys end p = p.2
behind_leads links from (z ∷ zs) q ys end p = behind_leads links (slice_index links z) zs q ys end p.2

once_back : (zs ys : List ℕ) → Once (zs ++ ys) → Once ys
once_back [] ys o = o
once_back (z ∷ zs) ys o = once_back zs ys o.1

-- what is left behind a slot of a chain
pub left : (nexts : List ℕ) (from : ℕ) (slots xs : List ℕ) (q : ℕ) (ys : List ℕ) → Leads nexts from slots 0 → Once slots → (IsIn 0 slots → ⊥) → slots ≡ xs ++ q ∷ ys
    → walked (length nexts) nexts (slice_index nexts q) ≡ ys
left nexts from slots xs q ys p o some e =
    told nexts (slice_index nexts q) ys (behind_leads nexts from xs q ys 0 (subst (λ (s : List ℕ). Leads nexts from s 0) e p))
    (once_back (q ∷ []) ys (once_back xs (q ∷ ys) (subst Once e o)))
    (λ h. some (subst (IsIn 0) (sym e) (in_back xs (q ∷ ys) 0 (inr h))))

pub shrinks : (heads nexts : List ℕ) (at slot front : ℕ) → IsInFront heads nexts at slot front → slice_index nexts front ≢ slot
    → length (walked (length nexts) nexts (slice_index nexts (slice_index nexts front))) < length (walked (length nexts) nexts (slice_index nexts front))
shrinks heads nexts at slot front f n = go f.ys f.parts f.ahead
  where
    go : (ys : List ℕ) → f.slots ≡ f.xs ++ front ∷ ys → IsIn slot ys
        → length (walked (length nexts) nexts (slice_index nexts (slice_index nexts front))) < length (walked (length nexts) nexts (slice_index nexts front))
    go [] e h = absurd h
    go (y ∷ ys) e h =
        let now : walked (length nexts) nexts (slice_index nexts front) ≡ y ∷ ys = left nexts (slice_index heads at) f.slots f.xs front (y ∷ ys) f.is.path f.is.once f.is.some e in
        let next : slice_index nexts front ≡ y = next_is nexts (slice_index heads at) f.xs front y ys 0
        (subst (λ (s : List ℕ). Leads nexts (slice_index heads at) s 0) e f.is.path) in
        let then : walked (length nexts) nexts (slice_index nexts (slice_index nexts front)) ≡ ys =
        ap (λ (z : ℕ). walked (length nexts) nexts (slice_index nexts z)) next
        ∙ left nexts (slice_index heads at) f.slots (f.xs ++ front ∷ []) y ys f.is.path f.is.once f.is.some (e ∙ sym (append_assoc f.xs (front ∷ []) (y ∷ ys))) in
        subst (λ (a : List ℕ). length a < length (walked (length nexts) nexts (slice_index nexts front))) (sym then)
        (subst (λ (b : List ℕ). length ys < length b) (sym now) (let low : length ys < length (y ∷ ys) = omega arith in low))

pub front_in : (heads nexts : List ℕ) (at slot front : ℕ) → IsInFront heads nexts at slot front → IsIn front (walked (length nexts) nexts (slice_index heads at))
front_in heads nexts at slot front f =
    subst (IsIn front) (sym (told nexts (slice_index heads at) f.slots f.is.path f.is.once f.is.some))
    (subst (IsIn front) (sym f.parts) (in_middle f.xs front f.ys))

pub front_low : (heads nexts : List ℕ) (at slot front : ℕ) → IsInFront heads nexts at slot front → front < length nexts
front_low heads nexts at slot front f =
    below nexts (slice_index heads at) f.slots 0 front f.is.path (subst (IsIn front) (sym f.parts) (in_middle f.xs front f.ys))

pub slot_low : (heads nexts : List ℕ) (at slot : ℕ) (slots : List ℕ) → IsChainWith heads nexts at slot slots → slot < length nexts
slot_low heads nexts at slot slots w = below nexts (slice_index heads at) slots 0 slot w.path w.in_it

pub ruleset walks = (slot_low, front_low, front_in)
